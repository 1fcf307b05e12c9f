use Rattle.scx_abs_ranges.proofs.ElementOffsets.{moves_are_sound, moves_are_exact, advances_are_exact, moves_stay_within, moves_are_monotone, advances_are_sound, advances_stay_within, advances_are_monotone, inside_is_exact, aligned_is_exact, accesses_are_monotone}
use Rattle.scx_abs_ranges.proofs.laws.offsets_are_sound.Goals as goal

pub returns-clause-moves : goal.returns-clause-moves
returns-clause-moves c = moves_are_sound

pub returns-clause-moves_within : goal.returns-clause-moves_within
returns-clause-moves_within c = moves_stay_within

pub returns-clause-moves_monotone : goal.returns-clause-moves_monotone
returns-clause-moves_monotone c = moves_are_monotone

pub returns-clause-advances : goal.returns-clause-advances
returns-clause-advances c = advances_are_sound

pub returns-clause-advances_within : goal.returns-clause-advances_within
returns-clause-advances_within c = advances_stay_within

pub returns-clause-advances_monotone : goal.returns-clause-advances_monotone
returns-clause-advances_monotone c = advances_are_monotone

pub returns-clause-inside : goal.returns-clause-inside
returns-clause-inside c = inside_is_exact

pub returns-clause-aligned : goal.returns-clause-aligned
returns-clause-aligned c = aligned_is_exact

pub returns-clause-accesses_monotone : goal.returns-clause-accesses_monotone
returns-clause-accesses_monotone c = accesses_are_monotone

pub returns-clause-moves_exact : goal.returns-clause-moves_exact
returns-clause-moves_exact c = moves_are_exact

pub returns-clause-advances_exact : goal.returns-clause-advances_exact
returns-clause-advances_exact c = advances_are_exact
