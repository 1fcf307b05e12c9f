use Rattle.scx_maps.proofs.Bounds.{more_fits}
use Rattle.scx_maps.proofs.defs.bytes_of_all.Goals as goal

pub overflow_add-bytes : goal.overflow_add-bytes
overflow_add-bytes c =
    record { fits = more_fits c.args.shapes.now c.loop-shape.shape-index _ _ c.requires.count c.requires.each c.loop-shape-test.true c.loop-shape.invariant c.bytes-bytes.ensures }
