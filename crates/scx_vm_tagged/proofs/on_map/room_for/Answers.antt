use Rattle.std.proofs.Common.{◌≡◌, true, false, refl}
use Rattle.scx_isa_semantics.specs.Calls.{is_room}
use Rattle.scx_vm_tagged.specs.Locations.{location_of}
use Rattle.scx_vm_tagged.specs.State.{register_value}
use Rattle.scx_vm_tagged.proofs.MapEffects.{room_found, no_room, either, neither}
use Rattle.scx_vm_tagged.proofs.on_map.room_for.Goals as goal

pub returns-in-OnStack : goal.returns-in-OnStack
returns-in-OnStack c =
    let l = c.region-to.result in
    room_found c.args.maps.now c.args.count (register_value c.args.core.now 2) c.read.result l c.read.ensures c.region-to.ensures.location (either (λ l. is_room (location_of l) ≡ true) l c.in-OnStack.is (λ at. refl) (λ k i at. refl)) c.region-to.ensures.has

pub returns-in-Nowhere : goal.returns-in-Nowhere
returns-in-Nowhere c =
    let l = c.region-to.result in
    no_room c.args.maps.now c.args.count (register_value c.args.core.now 2) c.read.result (location_of l) c.read.ensures c.region-to.ensures.location (neither (λ l. is_room (location_of l) ≡ false) l c.in-Nowhere.is refl (λ t f. refl))
