use Rattle.std.proofs.Common.{sym, ap, ◌∙◌, arith}
use Rattle.scx_isa_semantics.specs.HostTables.{fits_map}
use Rattle.scx_vm_tagged.specs.State.{seen}
use Rattle.scx_vm_tagged.proofs.MapEffects.{refers_to, unfit, past}
use Rattle.scx_vm_tagged.proofs.on_map.map_of.Goals as goal

pub returns-then-fits_map : goal.returns-then-fits_map
returns-then-fits_map c =
    let m = seen c.args.core.now c.args.maps.now in
    let refers = rw c.in-Pointer-Map.field-0-is at c.in-Pointer-Map.ensures in
    refers_to m c.args.parameter c.in-Pointer-Map.map (sym refers) (omega arith) (sym c.if-fits_map.true ∙ c.fits_map.ensures ∙ ap (fits_map c.args.parameter) c.kind.ensures)

pub returns-else-fits_map : goal.returns-else-fits_map
returns-else-fits_map c =
    let m = seen c.args.core.now c.args.maps.now in
    let refers = rw c.in-Pointer-Map.field-0-is at c.in-Pointer-Map.ensures in
    unfit m c.args.parameter c.in-Pointer-Map.map (sym refers) (sym c.if-fits_map.false ∙ c.fits_map.ensures ∙ ap (fits_map c.args.parameter) c.kind.ensures)

pub returns-then-from-count : goal.returns-then-from-count
returns-then-from-count c =
    let m = seen c.args.core.now c.args.maps.now in
    let refers = rw c.in-Pointer-Map.field-0-is at c.in-Pointer-Map.ensures in
    past m c.args.parameter c.in-Pointer-Map.map (sym refers) (omega (arith, c.if-from-count.true, c.from.ensures, c.count.ensures.count))
