use Rattle.scx_maps.specs.Contents.{HasShapes}
use Rattle.scx_tests_bench.proofs.callbacks.run_times.Given as goal

-- the maps keep their shapes
abbrev pub invariant-loop : goal.invariant-loop
invariant-loop l = HasShapes l.verified.context.defs l.maps
