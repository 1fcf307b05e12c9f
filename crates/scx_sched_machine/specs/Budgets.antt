-- How many pushes each step of the machine makes at most: of all that it may do, one after another.
use Rattle.std.specs.Prelude.{ℕ, ◌+◌, ◌*◌, ◌≤◌, ◌^◌, if◌then◌else◌}
use Rattle.scx_sched_world.specs.World.{WorldState}
use Rattle.scx_sched_machine.specs.Steps.{State, is_ejected}

-- the most pushes that are counted
abbrev pub most_pushes : ℕ
most_pushes = 2 ^ 63

-- that many pushes more can be counted in that world
abbrev pub CanPush : ℕ → WorldState → Type 0
CanPush n w = w.queues.pushes + n ≤ most_pushes

-- that many pushes more can be counted in that state
abbrev pub HasRoom : ℕ → State → Type 0
HasRoom n s = CanPush n s.world

-- ---- parts of a step

-- a task comes to wait
abbrev pub enter_pushes : ℕ
enter_pushes = 1

-- a task moves to a local queue
abbrev pub fill_pushes : ℕ
fill_pushes = 1

-- the most tasks that there are
abbrev pub most_tasks : ℕ
most_tasks = 1024

-- all tasks go over to the built-in scheduler
abbrev pub eject_pushes : ℕ
eject_pushes = most_tasks

-- a program runs: it has 4096 instructions at most, each of which pushes once at most
abbrev pub program_pushes : ℕ
program_pushes = 4096

-- enable and `set_weight` are called for each task
abbrev pub enable_pushes : ℕ
enable_pushes = (program_pushes + program_pushes) * most_tasks

-- the most processors that there are
abbrev pub most_cpus : ℕ
most_cpus = 64

-- `update_idle` is called for each processor
abbrev pub idle_pushes : ℕ
idle_pushes = program_pushes * most_cpus

-- init is called, then what is called for each task, and for each processor
abbrev pub start_pushes : ℕ
start_pushes = program_pushes + (enable_pushes + idle_pushes)

-- a program runs, and the policy is ejected
abbrev pub callback_pushes : ℕ
callback_pushes = program_pushes + eject_pushes

-- enqueue is called, and the task comes to wait
abbrev pub put_pushes : ℕ
put_pushes = callback_pushes + enter_pushes

-- ---- parking

-- a local queue is filled, and its front parked
abbrev pub clear_pushes : ℕ
clear_pushes = fill_pushes + enter_pushes

-- so for each task of two queues
abbrev pub supply_pushes : ℕ
supply_pushes = clear_pushes * (most_tasks + most_tasks)

-- all tasks of a queue are parked, and a local queue is filled
abbrev pub builtin_dispatch_pushes : ℕ
builtin_dispatch_pushes = enter_pushes * most_tasks + fill_pushes

-- ---- a cycle

-- callbacks that move no task are called, of which one may eject the policy
abbrev pub calm_pushes : ℕ
calm_pushes = eject_pushes + callback_pushes

-- dispatch is called once, `dequeue` for those who left, and the local queue supplied
abbrev pub dispatch_pushes : ℕ
dispatch_pushes = callback_pushes + calm_pushes + supply_pushes

-- the policy hears that a task left, and the task is put
abbrev pub leave_pushes : ℕ
leave_pushes = callback_pushes + put_pushes

-- a task leaves, and running is called for the one that comes
abbrev pub swap_pushes : ℕ
swap_pushes = leave_pushes + callback_pushes

-- the one that comes is from the queue of the built-in scheduler
abbrev pub builtin_ask_pushes : ℕ
builtin_ask_pushes = builtin_dispatch_pushes + swap_pushes

-- or from the queue of all processors, from which the local queue is supplied before
abbrev pub builtin_cycle_pushes : ℕ
builtin_cycle_pushes = supply_pushes + builtin_ask_pushes

-- the policy hears that a processor isn't idle any more, a task leaves, and where that ejects the
-- policy the cycle begins anew
abbrev pub pick_pushes : ℕ
pick_pushes = callback_pushes + leave_pushes + builtin_cycle_pushes

-- dispatch is called 32 times at most, and a task picked
abbrev pub ask_pushes : ℕ
ask_pushes = dispatch_pushes * 32 + pick_pushes

-- the local queue is supplied before dispatch is called
abbrev pub look_pushes : ℕ
look_pushes = supply_pushes + ask_pushes

-- the policy hears that the processor is idle, and where that ejects it the cycle begins anew
abbrev pub fall_idle_pushes : ℕ
fall_idle_pushes = callback_pushes + builtin_cycle_pushes

-- a whole cycle
abbrev pub cycle_pushes : ℕ
cycle_pushes = look_pushes + fall_idle_pushes

-- ---- events

-- a task is put, and its processor begins a cycle
abbrev pub settle_pushes : ℕ
settle_pushes = put_pushes + cycle_pushes

-- the policy hears that the task is runnable before
abbrev pub runnable_pushes : ℕ
runnable_pushes = callback_pushes + settle_pushes

-- and select_cpu is called before that
abbrev pub wake_pushes : ℕ
wake_pushes = callback_pushes + runnable_pushes

-- the policy hears that the task left and that it isn't runnable, and the processor begins a cycle
abbrev pub sleep_pushes : ℕ
sleep_pushes = callback_pushes + callback_pushes + cycle_pushes

-- the policy hears that the task left, it is parked, and the processor begins a cycle
abbrev pub throttle_pushes : ℕ
throttle_pushes = callback_pushes + enter_pushes + cycle_pushes

-- the policy hears of a task's weight in five callbacks, and the task is put
abbrev pub reweigh_pushes : ℕ
reweigh_pushes = callback_pushes * 5 + put_pushes

-- and it hears of a tick before
abbrev pub tick_pushes : ℕ
tick_pushes = callback_pushes + throttle_pushes

-- ---- letting go

-- how many pushes an ejection may still make
unfoldable pub eject_left : State → ℕ
eject_left s = if is_ejected s then 0 else eject_pushes

-- pushes that were made, or that an ejection may make
abbrev pub pushes_due : State → ℕ
pushes_due s = s.world.queues.pushes + eject_left s

-- that many tasks can be let go, each of which is put
abbrev pub CanLetGo : ℕ → State → Type 0
CanLetGo n s = pushes_due s + enter_pushes * n + put_pushes ≤ most_pushes

-- all parked tasks are let go, and the policy is ejected once
abbrev pub let_go_pushes : ℕ
let_go_pushes = eject_pushes + enter_pushes * most_tasks

-- timers run, and the watchdog may eject it
abbrev pub clock_pushes : ℕ
clock_pushes = let_go_pushes + calm_pushes + eject_pushes

-- whatever the event, before its rounds
abbrev pub own_pushes : ℕ
own_pushes = 2 ^ 20

-- the rounds of an event, each of them a cycle
abbrev pub rounds_pushes : ℕ
rounds_pushes = cycle_pushes * 256

-- whatever the event, with its rounds
abbrev pub event_pushes : ℕ
event_pushes = 3 * 2 ^ 26
