use Rattle.std.proofs.Common.{sym, ap, ◌∙◌}
use Rattle.scx_isa_semantics.specs.declared.host_tables.Parameter.TheVariants.{PerCpuMap}
use Rattle.scx_isa_semantics.specs.HostTables.{fits_map}
use Rattle.scx_isa_semantics.specs.Elements.{directory}
use Rattle.scx_vm.specs.Host.{host}
use Rattle.scx_vm_tagged.proofs.MapEffects.{copy_told, none_told}
use Rattle.scx_vm_tagged.proofs.on_map.here_if_copied.Goals as goal

pub returns-then-fits_map-clause-copy : goal.returns-then-fits_map-clause-copy
returns-then-fits_map-clause-copy g c =
    copy_told (host g.E.Env.functions) (directory c.args.maps.now c.args.map) c.args.env.now c.here.new.env c.here.result (sym c.if-fits_map.true ∙ c.fits_map.ensures ∙ ap (fits_map PerCpuMap) c.kind.ensures) c.here.ensures.here

pub returns-else-fits_map-clause-copy : goal.returns-else-fits_map-clause-copy
returns-else-fits_map-clause-copy g c =
    none_told (host g.E.Env.functions) (directory c.args.maps.now c.args.map) c.args.env.now (sym c.if-fits_map.false ∙ c.fits_map.ensures ∙ ap (fits_map PerCpuMap) c.kind.ensures)
