-- The numbers and names of the faults of lines of events, as a refusal prints them. They are this
-- project's own.
use Rattle.std.specs.Prelude.{ℕ, List, codes}
use Rattle.scx_load_files.specs.declared.event_fault.EventFault.{EventFault}
use Rattle.scx_load_files.specs.declared.event_fault.EventFault.TheVariants.{Syntax, BadTime, NoSuchTask, NoSuchGroup, BadWeight, TooMany, OutOfOrder, AlreadyRunnable, NotRunnable}

-- the number by which a refusal names a fault of a line of events
abbrev pub event_number : EventFault → ℕ
event_number Syntax = 1
event_number BadTime = 2
event_number NoSuchTask = 3
event_number NoSuchGroup = 4
event_number BadWeight = 5
event_number TooMany = 6
event_number OutOfOrder = 7
event_number AlreadyRunnable = 8
event_number NotRunnable = 9

-- the name of a fault of a line of events in a refusal
abbrev pub event_name : EventFault → List ℕ
event_name Syntax = codes "Syntax"
event_name BadTime = codes "BadTime"
event_name NoSuchTask = codes "NoSuchTask"
event_name NoSuchGroup = codes "NoSuchGroup"
event_name BadWeight = codes "BadWeight"
event_name TooMany = codes "TooMany"
event_name OutOfOrder = codes "OutOfOrder"
event_name AlreadyRunnable = codes "AlreadyRunnable"
event_name NotRunnable = codes "NotRunnable"
