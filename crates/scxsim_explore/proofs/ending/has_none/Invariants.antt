use Rattle.std.specs.Prelude.{take}
use Rattle.scxsim_explore.specs.Telling.{HasNone}
use Rattle.scxsim_explore.proofs.ending.has_none.Given as goal

-- none of the lists so far ends so
abbrev pub invariant-loop-told : goal.invariant-loop-told
invariant-loop-told l = HasNone (take l.told-index l.found) l.sort
