-- The numbers and names of refusals.
use Rattle.std.specs.Prelude.{ℕ, List, codes}
use Rattle.scx_dsq.specs.declared.errors.QueueError.{QueueError}
use Rattle.scx_dsq.specs.declared.errors.QueueError.TheVariants.{NoSuchQueue, AlreadyThere, Mixed, TooManyQueues}

-- the number of a refusal, 1 to 4
abbrev pub error_number : QueueError → ℕ
error_number NoSuchQueue = 1
error_number AlreadyThere = 2
error_number Mixed = 3
error_number TooManyQueues = 4

-- the name of a refusal, that of its variant
abbrev pub error_name : QueueError → List ℕ
error_name NoSuchQueue = codes "NoSuchQueue"
error_name AlreadyThere = codes "AlreadyThere"
error_name Mixed = codes "Mixed"
error_name TooManyQueues = codes "TooManyQueues"
