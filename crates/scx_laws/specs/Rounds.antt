-- Under Linux rules processors look for work as an event ends: those that were kicked, and idle
-- ones whose local queue has a task, the lowest first (ext.c, `kick_cpus_irq_workfn`,
-- `rq_owned_post_enq`).
use Rattle.std.specs.Prelude.{◌≡◌, ℕ, suc, ◌<◌, true, false, length, Some, None}
use Rattle.scx_sched_world.specs.CpuSets.{is_in_set}
use Rattle.scx_sched_world.specs.World.{without_kick, task_at, running, is_idle}
use Rattle.scx_sched_world.specs.Tasks.{local_len, after_cut_off}
use Rattle.scx_sched_machine.specs.Steps.{State, Stepped, with_world, stays, one_after_other, is_by_linux}
use Rattle.scx_laws.specs.Cycles.{Cycles}

-- a processor that is to look for work: it was kicked, or is idle with a task in its local queue
pub data IsPending (s : State) (c : ℕ) : Type 0 where
  WasKicked : is_in_set s.world.kicked c ≡ true → IsPending s c
  HasWork : is_idle s.world c ≡ true → 0 < local_len s.world c → IsPending s c

-- the processor that looks next, while the policy is in force: the lowest one that is pending
pub record IsNext (s : State) (c : ℕ) : Type 0 where
  pub by_linux : is_by_linux s ≡ true
  pub within : c < length s.world.cpus
  pub pending : IsPending s c
  pub lowest : (d : ℕ) → d < c → ¬ IsPending s d

-- the state in which the processor is kicked no more
abbrev pub looking : State → ℕ → State
looking s c = with_world s (without_kick s.world c)

-- the task that runs there loses its slice, if the kick was to preempt it
pub data Preempts (s : State) (c t : ℕ) (v : State) : Type 0 where
  Is_cut : is_in_set s.world.preempted c ≡ true
      → v ≡ with_world s (after_cut_off (looking s c).world t)
      → Preempts s c t v
  Is_left : is_in_set s.world.preempted c ≡ false → v ≡ looking s c → Preempts s c t v

-- a processor looks: one that runs no task for a task, and one whose task has no slice left for
-- another; else its task runs on
pub data LooksForWork (s : State) (c : ℕ) (r : Stepped) : Type 0 where
  Wakes_up : running s.world c ≡ None → Cycles (looking s c) c None false r → LooksForWork s c r
  Runs_on : (t : ℕ) (v : State)
      → running s.world c ≡ Some t → Preempts s c t v → 0 < (task_at v.world t).slice → r ≡ stays v
      → LooksForWork s c r
  Runs_out : (t : ℕ) (v : State)
      → running s.world c ≡ Some t → Preempts s c t v → (task_at v.world t).slice ≡ 0
      → Cycles v c (Some t) true r → LooksForWork s c r

-- processors look one after another, at most that many times
pub data Rounds : ℕ → State → Stepped → Type 0 where
  Enough : (s : State) (r : Stepped) → r ≡ stays s → Rounds 0 s r
  NoneNext : (n : ℕ) (s : State) (r : Stepped)
      → ((c : ℕ) → ¬ IsNext s c) → r ≡ stays s → Rounds (suc n) s r
  OneMore : (n : ℕ) (s : State) (c : ℕ) (looked more r : Stepped)
      → IsNext s c → LooksForWork s c looked → Rounds n looked.state more
      → r ≡ one_after_other looked more → Rounds (suc n) s r

-- what follows a step of an event: at most 256 rounds; none under plain rules
pub data IsFollowed (own : Stepped) (r : Stepped) : Type 0 where
  No_rounds : is_by_linux own.state ≡ false → r ≡ own → IsFollowed own r
  Has_rounds : (looked : Stepped)
      → is_by_linux own.state ≡ true → Rounds 256 own.state looked → r ≡ one_after_other own looked
      → IsFollowed own r
