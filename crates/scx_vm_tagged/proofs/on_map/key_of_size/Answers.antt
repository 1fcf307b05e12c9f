use Rattle.std.proofs.Common.{◌≡◌, None, pos, refl, sym, ap, ◌∙◌}
use Rattle.scx_isa_semantics.specs.Elements.{number_at}
use Rattle.scx_isa_semantics.specs.Locations.{address}
use Rattle.scx_isa_semantics.specs.Memory.{bytes_at, number_in, size_bytes}
use Rattle.scx_isa_semantics.specs.Calls.{key_at}
use Rattle.scx_vm_tagged.specs.Locations.{location_of}
use Rattle.scx_vm_tagged.specs.State.{register_value, seen}
use Rattle.scx_vm_tagged.proofs.MapEffects.{stack_key, element_key, no_key, neither}
use Rattle.scx_vm_tagged.proofs.on_map.key_of_size.Goals as goal

pub returns-in-OnStack : goal.returns-in-OnStack
returns-in-OnStack c =
    let m = seen c.args.core.now c.args.maps.now in
    let v = register_value c.args.core.now 2 in
    let b = c.key_bytes-bytes.result in
    let to = sym (ap (λ v. address m.maps v (pos 0) (size_bytes b)) c.read.ensures) ∙ c.in-OnStack.ensures.location in
    stack_key m c.args.size v b c.in-OnStack.at c.number.result c.key_bytes-bytes.ensures to (c.number.ensures ∙ ap (λ i. number_in (bytes_at m.stack i (size_bytes b))) c.from.ensures)

pub returns-in-InElement : goal.returns-in-InElement
returns-in-InElement c =
    let m = seen c.args.core.now c.args.maps.now in
    let v = register_value c.args.core.now 2 in
    let b = c.key_bytes-bytes.result in
    let to = sym (ap (λ v. address m.maps v (pos 0) (size_bytes b)) c.read.ensures) ∙ c.in-InElement.ensures.location in
    element_key m c.args.size v b c.in-InElement.map c.in-InElement.index c.in-InElement.at c.read_number.result c.key_bytes-bytes.ensures to
    (c.read_number.ensures ∙ (λ i. number_at (c.value.ensures i) (c.from-in-InElement.ensures i) (size_bytes b)))

pub returns-in-Nowhere : goal.returns-in-Nowhere
returns-in-Nowhere c =
    let m = seen c.args.core.now c.args.maps.now in
    let v = register_value c.args.core.now 2 in
    let b = c.key_bytes-bytes.result in
    let l = c.address.result in
    let to = sym (ap (λ v. address m.maps v (pos 0) (size_bytes b)) c.read.ensures) ∙ c.address.ensures.location in
    no_key m c.args.size v b (location_of l) c.key_bytes-bytes.ensures to (neither (λ l. key_at m c.args.size (location_of l) ≡ None) l c.in-Nowhere.is refl (λ t f. refl))
