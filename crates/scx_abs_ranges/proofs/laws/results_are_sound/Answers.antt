use Rattle.scx_abs_ranges.proofs.AllWidths.{arithmetic_is_sound, copies_are_sound, negatives_are_sound, extensions_are_sound, swaps_are_sound, loads_are_sound}
use Rattle.scx_abs_ranges.proofs.laws.results_are_sound.Goals as goal

pub returns-clause-arithmetic : goal.returns-clause-arithmetic
returns-clause-arithmetic c = arithmetic_is_sound

pub returns-clause-copies : goal.returns-clause-copies
returns-clause-copies c = copies_are_sound

pub returns-clause-negatives : goal.returns-clause-negatives
returns-clause-negatives c = negatives_are_sound

pub returns-clause-extensions : goal.returns-clause-extensions
returns-clause-extensions c = extensions_are_sound

pub returns-clause-swaps : goal.returns-clause-swaps
returns-clause-swaps c = swaps_are_sound

pub returns-clause-loads : goal.returns-clause-loads
returns-clause-loads c = loads_are_sound
