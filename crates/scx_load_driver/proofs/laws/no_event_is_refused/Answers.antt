use Rattle.scx_load_driver.proofs.Law.{none_is_refused}
use Rattle.scx_load_driver.proofs.laws.no_event_is_refused.Goals as goal

pub returns : goal.returns
returns c = none_is_refused
