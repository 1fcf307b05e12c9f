use Rattle.std.proofs.Common.{◌≡◌, take, map}
use Rattle.scx_maps.specs.Contents.{directory_of}
use Rattle.scx_maps.proofs.maps.new_directories.Given as goal

abbrev pub invariant-loop-shape : goal.invariant-loop-shape
invariant-loop-shape l = l.directories.items ≡ map directory_of (take l.shape-index l.shape-items)
