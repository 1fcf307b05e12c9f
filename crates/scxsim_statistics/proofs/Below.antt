-- What processors lose, one processor further.
use Rattle.std.proofs.Common.{◌≡◌, ℕ, ◌+◌, true, false, ◌||◌, List, refl, add-one}
use Rattle.scx_sched_world.specs.World.{WorldState}
use Rattle.scxsim_views.specs.declared.pauses.Doing.{Doing}
use Rattle.scxsim_statistics.specs.Losses.{is_wasted, wasted_below, one_lost, lost_below}

-- a wasted CPU loses one more
pub lost_more : (n : ℕ) (w : WorldState) (ds : List Doing) (xs : List ℕ) → is_wasted w n ds ≡ true → lost_below (n + 1) w ds xs ≡ one_lost (lost_below n w ds xs) n
lost_more n w ds xs e = rw (add-one, e) refl

-- another loses none
pub lost_none : (n : ℕ) (w : WorldState) (ds : List Doing) (xs : List ℕ) → is_wasted w n ds ≡ false → lost_below (n + 1) w ds xs ≡ lost_below n w ds xs
lost_none n w ds xs e = rw (add-one, e) refl

-- some CPU is wasted, before that one or there
pub wasted_more : (n : ℕ) (w : WorldState) (ds : List Doing) → wasted_below (n + 1) w ds ≡ (wasted_below n w ds || is_wasted w n ds)
wasted_more n w ds = rw add-one refl
