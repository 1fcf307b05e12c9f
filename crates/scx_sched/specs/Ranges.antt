-- Between two events: each task is where it should be, no number is greater than these events
-- can make it, and no usage is past what its quota lets it.
use Rattle.std.specs.Prelude.{◌≡◌, ℕ, ◌*◌, ◌≤◌, List, Option, None}
use Rattle.scx_sched_world.specs.World.{WorldState, task_at}
use Rattle.scx_weights.specs.Limits.{usage_of}
use Rattle.scx_sched.specs.Once.{IsSound}
use Rattle.scx_sched.specs.Allowed.{IsAllowedIn}
use Rattle.scx_sched.specs.Usages.{AreWithin}

-- the built-in scheduler hasn't begun: all its times are 0
abbrev pub IsFresh : WorldState → Type 0
IsFresh w = (w.builtin_clock ≡ 0) × ((t : ℕ) → (task_at w t).builtin ≡ 0)

-- An event counts once among the events, and charges one task at most.
pub record IsFine (n events charges : ℕ) (hand : Option ℕ) (on : List (Option ℕ)) (w : WorldState)
    : Type 0 where
  pub sound : IsSound hand on n w
  pub allowed : IsAllowedIn on n w
  pub clock : w.clock ≤ events
  pub runs : (t : ℕ) → (task_at w t).run_ns ≤ 1000000 * events
  pub times : (t : ℕ) → (task_at w t).builtin ≤ 2000000000 * charges
  pub builtin_clock : w.builtin_clock ≤ 2000000000 * charges
  pub used : (g : ℕ) → usage_of w.tree g ≤ events
  pub within : AreWithin w.tree on
  pub not_yet : w.ejected ≡ None → IsFresh w
