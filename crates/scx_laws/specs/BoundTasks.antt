-- Tasks that are bound to processors, by cases: where each may run, and whom a processor sees
-- waiting (sched_setaffinity(2)).
use Rattle.std.specs.Prelude.{◌≡◌, ℕ, ◌<◌, length, Option, None}
use Rattle.std.specs.Int.{bit_at}
use Rattle.scx_dsq.specs.Queues.{QueueState, entry_of, front_of}
use Rattle.scx_weights.specs.Hierarchy.{mask_of}
use Rattle.scx_isa_semantics.specs.declared.rules.Rules.TheVariants.{Linux}
use Rattle.scx_sched_world.specs.World.{WorldState}

-- ---- where a task may run

-- tasks are bound to processors: by Linux rules, where any is, also once the policy is ejected
pub record AreBound (w : WorldState) : Type 0 where
  pub by_linux : w.rules ≡ Linux
  pub some : 0 < length w.tree.masks

-- a task may run on a processor: on each one where no task is bound, else on those of its mask, a
-- bit for each (core.c, `is_cpu_allowed`)
pub data IsAllowed (w : WorldState) (t c : ℕ) : Type 0 where
  IsUnbound : ¬ AreBound w → IsAllowed w t c
  IsInMask : bit_at (mask_of w.tree t) c ≡ 1 → IsAllowed w t c

-- the lowest processor on which a task may run; 0 where it may run on none
pub data IsFirstHome (w : WorldState) (t c : ℕ) : Type 0 where
  LowestHome : c < length w.cpus → IsAllowed w t c → ((d : ℕ) → d < c → ¬ IsAllowed w t d)
      → IsFirstHome w t c
  NoHome : ((d : ℕ) → d < length w.cpus → ¬ IsAllowed w t d) → c ≡ 0 → IsFirstHome w t c

-- a task may run on one processor alone: it is bound to that, or there is no other
pub data HasOneCpu (w : WorldState) (t : ℕ) : Type 0 where
  IsBoundToOne : AreBound w
      → ((c d : ℕ) → c < length w.cpus → d < length w.cpus → IsAllowed w t c → IsAllowed w t d
      → c ≡ d)
      → HasOneCpu w t
  IsOnlyCpu : ¬ AreBound w → length w.cpus ≡ 1 → HasOneCpu w t

-- ---- whom a processor sees

-- the queues as a processor sees them: a task that may not run there waits nowhere
pub record AreSeenFrom (w : WorldState) (c : ℕ) (s : QueueState) : Type 0 where
  pub tasks : length s.entries ≡ length w.queues.entries
  pub seen : (t : ℕ) → IsAllowed w t c → entry_of s t ≡ entry_of w.queues t
  pub passed : (t : ℕ) → ¬ IsAllowed w t c → entry_of s t ≡ None

-- the first task of a queue that may run on a processor, or none: others are passed over (ext.c,
-- `scx_consume_dispatch_q`)
pub record IsNextFor (w : WorldState) (q c : ℕ) (o : Option ℕ) : Type 0 where
  pub queues : QueueState
  pub are_seen : AreSeenFrom w c queues
  pub first : o ≡ front_of queues q
