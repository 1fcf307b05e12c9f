-- Ids of queues (sched-ext.rst, "Dispatch Queues"). A policy's own are below the end.
use Rattle.std.specs.Prelude.{ℕ, ◌+◌}

-- the ids of a policy's own queues are below this
abbrev pub policy_end : ℕ
policy_end = 0x8000_0000_0000_0000

-- the queue of all processors
abbrev pub global : ℕ
global = 0x8000_0000_0000_0001

-- a name for a local queue, and no queue: of the processor that select_cpu answers, else
-- of the one at hand
abbrev pub local : ℕ
local = 0x8000_0000_0000_0002

-- the machine's own: of tasks that a policy put nowhere, and of the built-in scheduler
abbrev pub held_queue : ℕ
held_queue = 0x8000_0000_0000_0003

-- the machine's own: of the tasks that wait for the built-in scheduler, by virtual time
abbrev pub builtin_queue : ℕ
builtin_queue = 0x8000_0000_0000_0004

-- the machine's own: of runnable tasks that may not run, as their groups have used what they may
abbrev pub parked_queue : ℕ
parked_queue = 0x8000_0000_0000_0005

-- the local queue of a processor
abbrev pub local_on : ℕ → ℕ
local_on c = 0xc000_0000_0000_0000 + c
