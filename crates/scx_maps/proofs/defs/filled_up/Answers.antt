use Rattle.std.proofs.Common.{length}
use Rattle.std.proofs.lemmas.List.{drop-replicate}
use Rattle.scx_maps.specs.Unused.{unused_shape}
use Rattle.scx_maps.proofs.Shapes.{fills_up}
use Rattle.scx_maps.proofs.defs.filled_up.Goals as goal

pub invariant_of-result : goal.invariant_of-result
invariant_of-result c = fills_up c.args.shapes.now _ _ c.copy_from_slice.ensures.after (drop-replicate (length c.args.shapes.now) 16 unused_shape) c.requires
