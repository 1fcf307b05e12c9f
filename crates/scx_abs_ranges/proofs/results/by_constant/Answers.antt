use Rattle.scx_abs_ranges.proofs.results.by_constant.Goals as goal

pub returns-in-Multiply : goal.returns-in-Multiply
returns-in-Multiply c = rw c.in-Multiply.is c.scaled.ensures

pub returns-in-ShiftRight : goal.returns-in-ShiftRight
returns-in-ShiftRight c = rw c.in-ShiftRight.is c.shifted_right.ensures

pub returns-in-And : goal.returns-in-And
returns-in-And c = rw c.in-And.is c.masked.ensures

pub returns-in-Modulo : goal.returns-in-Modulo
returns-in-Modulo c = rw c.in-Modulo.is c.remainder.ensures
