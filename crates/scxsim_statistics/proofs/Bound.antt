-- A task that waits and may run on a CPU, one task further.
use Rattle.std.proofs.Common.{◌≡◌, ℕ, ◌+◌, ◌-◌, ◌<◌, suc, true, false, ◌&&◌, List, Some, None, refl, ap, arith}
use Rattle.scx_sched_world.specs.World.{WorldState, may_run}
use Rattle.scxsim_views.specs.declared.pauses.Doing.{Doing}
use Rattle.scxsim_views.specs.declared.pauses.Doing.TheVariants.{Sleeps, Waits, Runs, IsParked}
use Rattle.scxsim_views.specs.declared.pauses.Pause.{Pause}
use Rattle.scxsim_views.specs.Pauses.{waits, doing_at, pause_of, open_pause}
use Rattle.scxsim_statistics.specs.Figures.{is_wait_kind}
use Rattle.scxsim_statistics.specs.Losses.{bound_waits}

-- it is this one
pub bound_here : (w : WorldState) (c n t : ℕ) (ds : List Doing) → t < n → (waits (doing_at ds t) && may_run w t c) ≡ true → bound_waits w c (n - t) t ds ≡ true
bound_here w c n t ds l e = let more : n - t ≡ suc (n - (t + 1)) = omega arith in rw (more, e) refl

-- or one after it
pub bound_later : (w : WorldState) (c n t : ℕ) (ds : List Doing) → t < n → (waits (doing_at ds t) && may_run w t c) ≡ false → bound_waits w c (n - t) t ds ≡ bound_waits w c (n - (t + 1)) (t + 1) ds
bound_later w c n t ds l e = let more : n - t ≡ suc (n - (t + 1)) = omega arith in rw (more, e) refl

same : {A : Type 0} {x y : A} → Some x ≡ Some y → x ≡ y
same e = cc

-- a task that has an open pause of this kind waits
pub some_open : (ds : List Doing) (t : ℕ) (p : Pause) → Some p ≡ open_pause 0 ds t → is_wait_kind p.kind ≡ waits (doing_at ds t)
some_open ds t p e = go (doing_at ds t) e
  where
    go : (d : Doing) → Some p ≡ pause_of 0 t d → is_wait_kind p.kind ≡ waits d
    go Sleeps e = let bad : Some p ≡ None = e in absurd (cc)
    go (Waits since) e = ap (λ (q : Pause). is_wait_kind q.kind) (same e)
    go Runs e = let bad : Some p ≡ None = e in absurd (cc)
    go (IsParked since) e = ap (λ (q : Pause). is_wait_kind q.kind) (same e)

-- one that has none doesn't
pub none_open : (ds : List Doing) (t : ℕ) → None ≡ open_pause 0 ds t → false ≡ waits (doing_at ds t)
none_open ds t e = go (doing_at ds t) e
  where
    go : (d : Doing) → None ≡ pause_of 0 t d → false ≡ waits d
    go Sleeps e = refl
    go (Waits since) e = absurd (cc)
    go Runs e = refl
    go (IsParked since) e = refl
