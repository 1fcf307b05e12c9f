use Rattle.std.proofs.Common.{refl}
use Rattle.scx_load_driver.proofs.Days.{whole_empty}
use Rattle.scx_load_driver.proofs.calendar.Calendar.empty.Goals as goal

pub returns : goal.returns
returns c = whole_empty _ _ refl c.in_ok-none.ensures
