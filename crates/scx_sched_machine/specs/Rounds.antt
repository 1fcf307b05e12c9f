-- Under Linux rules a processor that is given work, or kicked, looks for it as the event ends
-- (ext.c, `kick_cpus_irq_workfn`, `rq_owned_post_enq`). No other event wakes an idle processor.
use Rattle.std.specs.Prelude.{ℕ, zero, suc, Bool, true, false, ◌==◌, if◌then◌else◌, Option, Some, None}
use Rattle.scx_sched_world.specs.CpuSets.{is_in_set}
use Rattle.scx_sched_world.specs.World.{without_kick, task_at, running}
use Rattle.scx_sched_world.specs.Pending as world
use Rattle.scx_sched_world.specs.Pending.{first_pending}
use Rattle.scx_sched_world.specs.Tasks.{after_cut_off}
use Rattle.scx_sched_machine.specs.Steps.{State, Stepped, with_world, stays, one_after_other, is_by_linux}
use Rattle.scx_sched_machine.specs.Cycle.{cycle}

-- how many processors look for work in an event at most
abbrev pub most_rounds : ℕ
most_rounds = 256

-- whether a processor is to look for work
abbrev pub is_pending : State → ℕ → Bool
is_pending s c = world.is_pending s.world c

-- the processor that looks next, while the policy is in force
unfoldable pub next_to_look : State → Option ℕ
next_to_look s = if is_by_linux s then first_pending s.world else None

-- where a task runs, it loses its slice if that is so wanted
abbrev pub cut_off_if : Bool → State → ℕ → State
cut_off_if false s t = s
cut_off_if true s t = with_world s (after_cut_off s.world t)

-- a processor that runs a task with no slice left looks for another; else it goes on
unfoldable pub look_past : State → ℕ → ℕ → Stepped
look_past s c t = if (task_at s.world t).slice == 0 then cycle s c (Some t) true else stays s

-- a processor that runs that task, or none, looks for work; `cut` says whether the task is
-- preempted
abbrev pub look_from : Option ℕ → Bool → State → ℕ → Stepped
look_from None cut s c = cycle s c None false
look_from (Some t) cut s c = look_past (cut_off_if cut s t) c t

-- a processor that was pending looks for work
unfoldable pub round : State → ℕ → Stepped
round s c =
    look_from (running s.world c) (is_in_set s.world.preempted c)
    (with_world s (without_kick s.world c)) c

-- the round of a processor, if one is to look, and what follows it
abbrev pub round_then : (State → Stepped) → State → Option ℕ → Stepped
round_then next s None = stays s
round_then next s (Some c) = let r = round s c in one_after_other r (next r.state)

-- processors look for work, the lowest that is pending first, at most so often
unfoldable pub rounds : ℕ → State → Stepped
rounds zero s = stays s
rounds (suc n) s = round_then (λ r. rounds n r) s (next_to_look s)

-- a step of an event, and the rounds that follow it
unfoldable pub with_rounds : Stepped → Stepped
with_rounds r =
    if is_by_linux r.state then one_after_other r (rounds most_rounds r.state) else r
