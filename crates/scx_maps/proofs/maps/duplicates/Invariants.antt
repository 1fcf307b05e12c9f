use Rattle.std.proofs.Common.{◌≡◌, take}
use Rattle.scx_maps.proofs.maps.duplicates.Given as goal

abbrev pub invariant-loop-directory : goal.invariant-loop-directory
invariant-loop-directory l = l.copies.items ≡ take l.directory-index l.directories
