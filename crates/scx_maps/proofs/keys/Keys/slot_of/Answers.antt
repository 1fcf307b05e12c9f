use Rattle.std.proofs.Common.{◌≡◌, Some, None, true, false, sym, ap, ◌∙◌, rules}
use Rattle.std.specs.Prelude.{slice_get}
use Rattle.std.proofs.lemmas.Option.{none-some, same_Some}
use Rattle.scx_isa_semantics.specs.Directories.{Keys, slot_of}
use Rattle.scx_maps.specs.Keeping.{finds}
use Rattle.scx_maps.proofs.SlotOf.{slot_absent, slot_found}
use Rattle.scx_maps.proofs.keys.Keys.slot_of.Goals as goal

pub returns-in_err-slot : goal.returns-in_err-slot
returns-in_err-slot c =
    let held = ap (λ (k : Keys). k.held) c.self.view_is in
    let none : c.from_residual.result ≡ None = search rules in
    none
    ∙ slot_absent c.self.inside.held.items c.args.key (λ s e. none-some s (c.in_err-slot.ensures.value ∙ c.self.invariant.led s c.args.key e))
    ∙ ap (λ h. slot_of h c.args.key) held

pub returns-then-holds : goal.returns-then-holds
returns-then-holds c =
    let held = ap (λ (k : Keys). k.held) c.self.view_is in
    let slot = c.in_ok-slot.field-0.now in
    let there : slice_get c.self.inside.held.items slot ≡ Some (Some c.args.key) = ap (λ h. slice_get h slot) (sym c.deref.ensures.value) ∙ c.holds.ensures.0 c.if-holds.true in
    slot_found c.self.inside.held.items c.args.key (finds c.self.inside.index c.args.key) (λ s. c.self.invariant.led s c.args.key) slot there
    ∙ ap (λ h. slot_of h c.args.key) held

pub returns-else-holds : goal.returns-else-holds
returns-else-holds c =
    let held = ap (λ (k : Keys). k.held) c.self.view_is in
    let slot = c.in_ok-slot.field-0.now in
    slot_absent c.self.inside.held.items c.args.key
    (λ s e.
    let same = same_Some slot s (c.in_ok-slot.ensures.value ∙ c.self.invariant.led s c.args.key e) in
    let there : slice_get c.deref.result.now slot ≡ Some (Some c.args.key) = ap (λ h. slice_get h slot) c.deref.ensures.value ∙ ap (λ i. slice_get c.self.inside.held.items i) same ∙ e in
    let t : true ≡ false = sym (c.holds.ensures.1 there) ∙ c.if-holds.false in
    cc)
    ∙ ap (λ h. slot_of h c.args.key) held
