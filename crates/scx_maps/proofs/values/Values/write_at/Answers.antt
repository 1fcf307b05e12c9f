use Rattle.std.proofs.Common.{◌≡◌, ℕ, ◌+◌, ◌-◌, ◌≤◌, List, ◌++◌, length, take, drop, sym, ap, ◌∙◌, arith, length-append, length-drop, length-take-le}
use Rattle.std.proofs.lemmas.List.{take_at, drop-drop}
use Rattle.scx_isa_semantics.specs.Calls.{over}
use Rattle.scx_isa_semantics.specs.Elements.{slots_in}
use Rattle.scx_maps.specs.Layout.{contents_in}
use Rattle.scx_maps.specs.Lending.{bytes_of}
use Rattle.scx_maps.proofs.Blocks.{contents_in-laid, same_counts}
use Rattle.scx_maps.proofs.ByPlace.{all_shown, shapes_shown}
use Rattle.scx_maps.proofs.values.Values.write_at.Goals as goal

pub overflow_add-offset : goal.overflow_add-offset
overflow_add-offset c =
    let all = ap (λ (xs : List ℕ). length xs) (all_shown c.self.inside.layout c.self.inside.block.items c.args.self.now c.self.invariant c.self.view_is) in
    record { fits = omega (arith, all, c.self.inside.block.ok.0) }

pub slice_bounds-copy_from_slice-end : goal.slice_bounds-copy_from_slice-end
slice_bounds-copy_from_slice-end c =
    let all = ap (λ (xs : List ℕ). length xs) (all_shown c.self.inside.layout c.self.inside.block.items c.args.self.now c.self.invariant c.self.view_is) in
    omega (arith, all, c.self.inside.block.ok.0)

pub returns-clause-counts : goal.returns-clause-counts
returns-clause-counts c m = same_counts c.self.inside.layout _ _ m ∙ ap (λ ms. length (slots_in ms m)) c.self.view_is

-- what a slice of the block became, written over the bytes that it had
spliced : (offset k : ℕ) (shown put old bytes : List ℕ) → shown ≡ old → put ≡ bytes → k ≡ length bytes → take offset shown ++ (put ++ drop k (drop offset shown)) ≡ over old offset bytes
spliced offset k shown put old bytes e p long =
    let both : take offset shown ++ (put ++ drop k (drop offset shown)) ≡ take offset old ++ (bytes ++ drop (length bytes) (drop offset old)) = λ i. take offset (e i) ++ (p i ++ drop (long i) (drop offset (e i))) in
    both ∙ ap (λ (xs : List ℕ). take offset old ++ (bytes ++ xs)) (drop-drop (length bytes) offset old)

-- it is as long
length-over : (offset : ℕ) (old bytes : List ℕ) → offset + length bytes ≤ length old → length (over old offset bytes) ≡ length old
length-over offset old bytes fits = rw (length-append, length-append, length-take-le offset old (omega arith), length-drop) (omega arith)

pub returns-clause-written : goal.returns-clause-written
returns-clause-written c =
    let maps = c.args.self.now in
    let block = c.self.inside.block in
    let bytes : List ℕ = c.args.bytes.now in
    let all = all_shown c.self.inside.layout block.items maps c.self.invariant c.self.view_is in
    let shapes = shapes_shown c.self.inside.layout block.items maps c.self.invariant c.self.view_is in
    let cut : c.args.offset + length bytes - c.args.offset ≡ length bytes = omega arith in
    let is = spliced c.args.offset (c.args.offset + length bytes - c.args.offset) c.deref_mut.result.now c.copy_from_slice.new.self (bytes_of maps) bytes (c.deref_mut.ensures.value ∙ sym all) c.copy_from_slice.ensures.after cut in
    let long = ap (λ (xs : List ℕ). length xs) is ∙ length-over c.args.offset (bytes_of maps) bytes c.requires ∙ ap (λ (xs : List ℕ). length xs) all ∙ sym block.ok.0 in
    ap (λ xs. contents_in c.self.inside.layout xs) (take_at _ _ block.len long ∙ is)
    ∙ sym (contents_in-laid c.self.inside.layout (over (bytes_of maps) c.args.offset bytes))
    ∙ ap (λ s. contents_in s (over (bytes_of maps) c.args.offset bytes)) (sym shapes)
