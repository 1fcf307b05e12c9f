use Rattle.std.proofs.Common.{◌≡◌, Some, drop}
use Rattle.scx_load_files.specs.Unknown.{words}
use Rattle.scx_load_workloads.specs.CpuLists.{mask_with}
use Rattle.scx_load_workloads.proofs.cpu_lists.mask_of.Given as goal

abbrev pub invariant-loop-part : goal.invariant-loop-part
invariant-loop-part l = mask_with l.cpus (Some l.mask) (words (drop l.part-index l.parts)) ≡ mask_with l.cpus (Some 0) (words l.parts)
