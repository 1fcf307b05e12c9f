-- The first task that waits, one task or one CPU further.
use Rattle.std.proofs.Common.{◌≡◌, ℕ, ◌+◌, ◌-◌, ◌<◌, suc, true, false, ◌&&◌, List, refl, arith, add-one}
use Rattle.std.specs.Prelude.{Option, Some, is_some, slice_set}
use Rattle.scxsim_views.specs.declared.pauses.Doing.{Doing}
use Rattle.scx_sched_world.specs.World.{WorldState, may_run}
use Rattle.scxsim_account.specs.Idling.{waits_since, first_waiting, first_bound, first_for, waiting_below}

-- it is this one, if this one waits
pub first_here : (n t : ℕ) (ds : List Doing) → t < n → is_some (waits_since ds t) ≡ true → first_waiting (n - t) t ds ≡ Some t
first_here n t ds l e = let more : n - t ≡ suc (n - (t + 1)) = omega arith in rw (more, e) refl

-- and otherwise one after it
pub first_later : (n t : ℕ) (ds : List Doing) → t < n → is_some (waits_since ds t) ≡ false → first_waiting (n - t) t ds ≡ first_waiting (n - (t + 1)) (t + 1) ds
first_later n t ds l e = let more : n - t ≡ suc (n - (t + 1)) = omega arith in rw (more, e) refl

-- the same of the tasks that may run on a CPU
pub bound_here : (w : WorldState) (c n t : ℕ) (ds : List Doing) → t < n → (is_some (waits_since ds t) && may_run w t c) ≡ true → first_bound w c (n - t) t ds ≡ Some t
bound_here w c n t ds l e = let more : n - t ≡ suc (n - (t + 1)) = omega arith in rw (more, e) refl

pub bound_later : (w : WorldState) (c n t : ℕ) (ds : List Doing) → t < n → (is_some (waits_since ds t) && may_run w t c) ≡ false → first_bound w c (n - t) t ds ≡ first_bound w c (n - (t + 1)) (t + 1) ds
bound_later w c n t ds l e = let more : n - t ≡ suc (n - (t + 1)) = omega arith in rw (more, e) refl

-- the tasks that wait for each CPU, one CPU further
pub waiting_more : (n : ℕ) (w : WorldState) (ds : List Doing) (xs : List (Option ℕ)) → waiting_below (n + 1) w ds xs ≡ slice_set (waiting_below n w ds xs) n (first_for w n ds)
waiting_more n w ds xs = rw add-one refl
