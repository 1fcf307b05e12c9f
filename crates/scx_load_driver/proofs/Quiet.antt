-- Blocks in which nothing happens: nobody goes to sleep where nobody is watched.
use Rattle.std.proofs.Common.{◌≡◌, ℕ, ◌+◌, ◌<◌, ◌≤◌, ◌⊎◌, inl, inr, Bool, true, false, not, ◌&&◌, nat_le, if◌then◌else◌, List, [], length, set, get_or, refl, ap, ◌∙◌, arith}
use Rattle.std.proofs.lemmas.Bool.{cases_eq, cases_lt}
use Rattle.std.proofs.lemmas.List.{get_or-set_same, get_or-set_other, get_or_past, set_past}
use Rattle.scx_sched_world.specs.World.{WorldState, task_at}
use Rattle.scx_sched_machine.specs.declared.events.Event.TheVariants as event
use Rattle.scx_load_workloads.specs.declared.workload.Timing.{Timing}
use Rattle.scx_load_workloads.specs.Workload.{timing_at}
use Rattle.scx_load_driver.specs.Blocks.{set_below, has_run_enough, may_sleep}
use Rattle.scx_load_driver.specs.Watch.{is_watched, watched_if, is_seen, is_seen_off, sleeps_seen, due_seen, watched_still}
use Rattle.scx_load_driver.specs.Driver.{AreUnwatched}
use Rattle.scx_load_driver.proofs.Below.{no_events, sets_nothing, kept_above}

-- ---- who is watched

-- of the tasks below a number nobody is watched, unless it may be that somebody is
abbrev pub AreUnwatchedBelow : ℕ → Bool → List Bool → Type 0
AreUnwatchedBelow k some xs = some ≡ false → (t : ℕ) → t < k → is_watched xs t ≡ false

-- one that isn't watched any more
pub unwatched_more : (k : ℕ) (some : Bool) (xs : List Bool) → AreUnwatchedBelow k some xs → AreUnwatchedBelow (k + 1) some (set xs k false)
unwatched_more k some xs h = λ none t l. go t l (cases_eq t k) (cases_lt k (length xs)) none
  where
    go : (t : ℕ) → t < k + 1 → (t ≡ k) ⊎ (t ≡ k → ⊥) → (k < length xs) ⊎ (length xs ≤ k) → some ≡ false → get_or (set xs k false) t false ≡ false
    go t l (inl e) (inl within) none = rw (e, get_or-set_same xs k false false within) refl
    go t l (inl e) (inr past) none = rw (set_past xs k false past) (get_or_past xs t false (omega (arith, e, past)))
    go t l (inr d) y none = get_or-set_other xs k t false false d ∙ h none t (omega (arith, l, d))

-- all of them
pub unwatched_all : (k : ℕ) (some : Bool) (xs : List Bool) → length xs ≤ k → AreUnwatchedBelow k some xs → AreUnwatched some xs
unwatched_all k some xs long h = λ none t. go none t (cases_lt t k)
  where
    go : some ≡ false → (t : ℕ) → (t < k) ⊎ (k ≤ t) → is_watched xs t ≡ false
    go none t (inl l) = h none t l
    go none t (inr past) = get_or_past xs t false (omega (arith, past, long))

-- it may always be that somebody is
pub unwatched_true : (xs : List Bool) → AreUnwatched true xs
unwatched_true xs = λ e. absurd (cc)

-- a task past the end is watched no more than before
pub watched_past : (last : List ℕ) (w : WorldState) (t : ℕ) (xs : List Bool) → length xs ≤ t → watched_if last w t xs ≡ xs
watched_past last w t xs past = go (nat_le (get_or last t 0) (task_at w t).run_ns)
  where
    go : (b : Bool) → (if b then set xs t true else xs) ≡ xs
    go true = set_past xs t true past
    go false = refl

-- a task that wasn't come to yet is seen as before
pub seen_above : (timings : List Timing) (ran : List ℕ) (k n : ℕ) (test : ℕ → Bool) (xs : List Bool) (w : WorldState) → n ≤ k → is_seen timings ran (set_below n test (λ t. false) xs) w k ≡ is_seen timings ran xs w k
seen_above timings ran k n test xs w l = ap (λ b. b && has_run_enough timings ran w k) (kept_above n k test (λ t. false) xs false l)

module _ (timings : List Timing) (ran : List ℕ) (xs : List Bool) (w : WorldState) (h : AreUnwatched false xs) where
  unseen : (t : ℕ) → is_seen timings ran xs w t ≡ false
  unseen t = ap (λ b. b && has_run_enough timings ran w t) (h refl t)

  unseen_off : (t : ℕ) → is_seen_off timings ran xs w t ≡ false
  unseen_off t = ap (λ b. b && may_sleep w t) (unseen t)

  -- nobody goes to sleep
  pub no_sleeps : sleeps_seen timings ran xs w ≡ []
  no_sleeps = no_events (length timings) (is_seen_off timings ran xs w) event.Sleep (λ t l. unseen_off t)

  -- so nothing is remembered anew
  pub same_due : (due : List ℕ) (m : ℕ) → due_seen timings due ran xs m w ≡ due
  same_due due m = sets_nothing (length timings) (is_seen_off timings ran xs w) (λ t. m + 1 + (timing_at timings t).sleep) due 0 (λ t l e. let x = unseen_off t in absurd (cc))

  pub same_watched : watched_still timings ran xs w ≡ xs
  same_watched = sets_nothing (length timings) (λ t. not (is_seen timings ran xs w t)) (λ t. false) xs false (λ t l e. h refl t)
