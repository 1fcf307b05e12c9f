use Rattle.scx_explore_bounds.proofs.Told.{listings_tell_loads, listings_tell_inserts, listings_tell_calls, listings_tell_any_loads}
use Rattle.scx_explore_bounds.proofs.laws.listings_tell_runs.Goals as goal

pub returns-clause-loads : goal.returns-clause-loads
returns-clause-loads c = listings_tell_loads

pub returns-clause-inserts : goal.returns-clause-inserts
returns-clause-inserts c = listings_tell_inserts

pub returns-clause-calls : goal.returns-clause-calls
returns-clause-calls c = listings_tell_calls

pub returns-clause-any_loads : goal.returns-clause-any_loads
returns-clause-any_loads c = listings_tell_any_loads
