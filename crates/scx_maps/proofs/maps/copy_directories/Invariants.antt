use Rattle.std.proofs.Common.{◌≡◌, take, map}
use Rattle.scx_isa_semantics.specs.Directories.{kind_of}
use Rattle.scx_maps.specs.Keeping.{slots_held}
use Rattle.scx_maps.proofs.maps.copy_directories.Given as goal

abbrev pub invariant-loop-number : goal.invariant-loop-number
invariant-loop-number l = record {
  done : take l.number l.directories ≡ take l.number l.others;
  kinds : map kind_of l.directories ≡ map kind_of l.others;
  slots : map slots_held l.directories ≡ map slots_held l.others;
}
