use Rattle.std.proofs.Common.{◌≡◌, ◌≤◌, length, ap, ◌∙◌, subst, arith}
use Rattle.scx_isa_semantics.specs.Directories.{Array, updated}
use Rattle.scx_isa_semantics.specs.Elements.{Maps}
use Rattle.scx_isa_semantics.specs.Serving.{Served, Answer, slot_count}
use Rattle.scx_maps.proofs.WherePlaced.{served_in, array_stored}
use Rattle.scx_maps.proofs.maps.Maps.update.Goals as goal

pub returns-then-number-len-clause-served : goal.returns-then-number-len-clause-served
returns-then-number-len-clause-served c =
    let maps = c.args.self.now in
    let inside = c.self.inside in
    let behind : length inside.directories.items ≤ c.args.map = omega (arith, c.if-number-len.true, c.len.ensures, c.from-number.ensures, inside.directories.ok.0) in
    let past : length maps.directories ≤ c.args.map = subst (λ (x : Maps). length x.directories ≤ c.args.map) c.self.view_is behind in
    let count = c.slots-slots.ensures ∙ ap (λ (x : Maps). slot_count x c.args.map) c.self.view_is in
    let placed = c.array_update-slot.ensures c.args.cpu ∙ ap (λ n. updated Array n c.args.cpu c.args.key c.args.flags) count in
    let served : ◌≡◌ {A = Served} (record { maps = c.put_in.new.self; reply = Answer c.put_in.result }) (served_in maps c.args.map c.array_update-slot.result c.args.bytes.now) =
    λ i. record { maps = c.put_in.ensures.maps i; reply = Answer (c.put_in.ensures.code i) } in
    served ∙ array_stored maps c.args.map c.args.cpu c.args.key c.args.flags c.array_update-slot.result c.args.bytes.now past placed
