use Rattle.std.proofs.Common.{List, map, ap, ◌∙◌}
use Rattle.scx_isa_semantics.specs.Directories.{Directory, kind_of}
use Rattle.scx_maps.proofs.CopiedParts.{have_slots_as}
use Rattle.scx_maps.proofs.NewMaps.{new_kinds, new_slots}
use Rattle.scx_maps.proofs.maps.Maps.new.Goals as goal

pub invariant_of-result : goal.invariant_of-result
invariant_of-result c = have_slots_as _ _ _ _ c.in_ok-directories.ensures c.in_ok-values.ensures.zeros (new_slots c.args.defs.now)

pub returns-clause-shapes : goal.returns-clause-shapes
returns-clause-shapes c = record {
  lengths = c.in_ok-values.ensures.shapes.lengths;
  bytes = c.in_ok-values.ensures.shapes.bytes;
  kinds = ap (λ (ds : List Directory). map kind_of ds) c.in_ok-directories.ensures ∙ new_kinds c.args.defs.now;
}
