use Rattle.std.proofs.Common.{◌≡◌, drop}
use Rattle.scx_load_workloads.specs.KeptNames.{texts}
use Rattle.scx_load_workloads.specs.Reading.{index_from, index_of}
use Rattle.scx_load_workloads.proofs.elements.index_of.Given as goal

abbrev pub invariant-loop-number : goal.invariant-loop-number
invariant-loop-number l = index_from l.number (texts (drop l.number l.names)) l.name ≡ index_of (texts l.names) l.name
