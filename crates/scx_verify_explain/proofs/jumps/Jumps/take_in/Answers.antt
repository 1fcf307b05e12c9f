use Rattle.std.proofs.Common.{◌≡◌, ◌<◌, ◌≤◌, Some, set, length, None, sym, subst, ◌∙◌, arith}
use Rattle.std.proofs.lemmas.List.{get_or_read}
use Rattle.scx_verify_explain.specs.Leading.{jump_from, AreFrom}
use Rattle.scx_verify_explain.proofs.Leading.{same_slot, no_slot, none_here, one_here}
use Rattle.scx_verify_explain.proofs.jumps.Jumps.take_in.Goals as goal

pub returns-then-to-len : goal.returns-then-to-len
returns-then-to-len c =
    let l = c.args.listing.now in
    let j = c.args.self.now in
    let slots = length l.code.items in
    let to = c.in-Some.to in
    let goes : jump_from l c.args.from ≡ Some to = sym c.jumped_to.ensures ∙ c.in-Some.is in
    let short : to < length j.first.items = omega (arith, c.if-to-len.true, c.len.ensures, j.first.ok.0) in
    let inside : to < slots = omega (arith, short, c.requires.behind.heads_long) in
    let read = get_or_read j.first.items to c.index.result.now short c.index.ensures None in
    subst (λ x. AreFrom (jump_from l) c.args.from slots (set j.first.items to (Some c.args.from)) (set j.next.items c.args.from x)) (sym read)
    (one_here (jump_from l) c.args.from slots to j.first.items j.next.items c.requires.within inside goes c.requires.behind)

pub returns-else-to-len : goal.returns-else-to-len
returns-else-to-len c =
    let l = c.args.listing.now in
    let j = c.args.self.now in
    let to = c.in-Some.to in
    let goes : jump_from l c.args.from ≡ Some to = sym c.jumped_to.ensures ∙ c.in-Some.is in
    let long : length l.code.items ≤ to = omega (arith, c.if-to-len.false, c.len.ensures, j.first.ok.0, c.requires.behind.heads_long) in
    none_here (jump_from l) c.args.from (length l.code.items) j.first.items j.next.items
    (λ t lt e. let same : t ≡ to = same_slot t to (sym e ∙ goes) in omega (arith, lt, same, long)) c.requires.behind

pub returns-in-None : goal.returns-in-None
returns-in-None c =
    let l = c.args.listing.now in
    let j = c.args.self.now in
    none_here (jump_from l) c.args.from (length l.code.items) j.first.items j.next.items
    (λ t lt e. no_slot t (jump_from l c.args.from) (sym c.jumped_to.ensures ∙ c.in-None.is) e) c.requires.behind
