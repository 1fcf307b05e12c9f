-- Who goes to sleep, from one task that is watched to the next: between them nobody is.
use Rattle.std.proofs.Common.{◌≡◌, ℕ, ◌+◌, ◌<◌, ◌≤◌, ◌⊎◌, inl, inr, Bool, true, false, not, ◌&&◌, if◌then◌else◌, List, [], ◌∷◌, ◌++◌, set, get_or, refl, sym, ap, ◌∙◌, arith}
use Rattle.std.proofs.lemmas.Bool.{cases_lt}
use Rattle.std.proofs.lemmas.List.{append-nil}
use Rattle.scx_sched_world.specs.World.{WorldState}
use Rattle.scx_sched_machine.specs.declared.events.Event.{Event}
use Rattle.scx_sched_machine.specs.declared.events.Event.TheVariants as event
use Rattle.scx_load_workloads.specs.declared.workload.Timing.{Timing}
use Rattle.scx_load_workloads.specs.Workload.{timing_at}
use Rattle.scx_load_driver.specs.Blocks.{events_below, set_below, has_run_enough, may_sleep}
use Rattle.scx_load_driver.specs.Watch.{is_watched, is_seen, is_seen_off}
use Rattle.scx_load_driver.proofs.Below.{events_push, events_skip, events_between, set_push, set_skip, sets_between, sets_kept, kept_above}
use Rattle.scx_load_driver.proofs.Quiet.{AreUnwatchedBelow, unwatched_more}

module _ (timings : List Timing) (ran : List ℕ) (first : List Bool) (w : WorldState) (now : ℕ) (before : List ℕ) where
  -- of the tasks below a number each that is seen went to sleep if it may, and the others aren't watched any more
  pub record AreAsleep (k : ℕ) (es : List Event) (ds : List ℕ) (ws : List Bool) (some : Bool) : Type 0 where
    pub events : es ≡ events_below k (is_seen_off timings ran first w) event.Sleep
    pub due : ds ≡ set_below k (is_seen_off timings ran first w) (λ t. now + 1 + (timing_at timings t).sleep) before
    pub watched : ws ≡ set_below k (λ t. not (is_seen timings ran first w t)) (λ t. false) first
    pub unwatched : AreUnwatchedBelow k some ws

  -- of no task that is so
  pub none_asleep : (es : List Event) → es ≡ [] → AreAsleep 0 es before first false
  none_asleep es e = record { events = e; due = refl; watched = refl; unwatched = λ free t l. absurd (omega (arith, l)) }

  module _ (k : ℕ) (es : List Event) (ds : List ℕ) (ws : List Bool) (some : Bool) (h : AreAsleep k es ds ws some) where
    -- one that wasn't come to is watched as at first
    as_first : (t : ℕ) → k ≤ t → is_watched first t ≡ is_watched ws t
    as_first t l = sym (ap (λ xs. get_or xs t false) h.watched ∙ kept_above k t (λ u. not (is_seen timings ran first w u)) (λ u. false) first false l)

    -- up to the next one that is watched
    pub asleep_to : (n : ℕ) → k ≤ n → ((t : ℕ) → k ≤ t → t < n → is_watched ws t ≡ false) → AreAsleep n es ds ws some
    asleep_to n up none = record {
      events = h.events ∙ sym (events_between k n (is_seen_off timings ran first w) event.Sleep up off);
      due = h.due ∙ sym (sets_between k n (is_seen_off timings ran first w) (λ t. now + 1 + (timing_at timings t).sleep) before up off);
      watched = h.watched ∙ sym (sets_kept k n (λ t. not (is_seen timings ran first w t)) (λ t. false) first false up (λ t l m. as_first t l ∙ none t l m));
      unwatched = λ free t l. below free t l (cases_lt t k);
    }
      where
        off : (t : ℕ) → k ≤ t → t < n → is_seen_off timings ran first w t ≡ false
        off t l m = ap (λ b. (b && has_run_enough timings ran w t) && may_sleep w t) (as_first t l ∙ none t l m)

        below : some ≡ false → (t : ℕ) → t < n → (t < k) ⊎ (k ≤ t) → is_watched ws t ≡ false
        below free t l (inl x) = h.unwatched free t x
        below free t l (inr x) = none t x l

    -- that one is seen if it has run enough
    seen_here : (b : Bool) → is_watched ws k ≡ true → has_run_enough timings ran w k ≡ b → is_seen timings ran first w k ≡ b
    seen_here b watched enough = rw (as_first k (omega arith) ∙ watched, enough) refl

    -- it goes to sleep if it may
    pub one_more : (es' : List Event) (ds' : List ℕ) (ws' : List Bool) (some' : Bool) → is_watched ws k ≡ true → has_run_enough timings ran w k ≡ true
        → es' ≡ es ++ (if may_sleep w k then event.Sleep k ∷ [] else []) → ds' ≡ (if may_sleep w k then set ds k (now + 1 + (timing_at timings k).sleep) else ds) → ws' ≡ ws → some' ≡ true
        → AreAsleep (k + 1) es' ds' ws' some'
    one_more es' ds' ws' some' watched enough e d s o =
        let yes = seen_here true watched enough in
        let both : is_seen_off timings ran first w k ≡ may_sleep w k = ap (λ b. b && may_sleep w k) yes in
        let slept = go (may_sleep w k) both in
        record {
          events = e ∙ slept.0;
          due = d ∙ slept.1;
          watched = s ∙ h.watched ∙ sym (set_skip k (λ t. not (is_seen timings ran first w t)) (λ t. false) first (ap not yes));
          unwatched = λ (free : some' ≡ false) t l. let y = sym o ∙ free in absurd (cc);
        }
      where
        go : (b : Bool) → is_seen_off timings ran first w k ≡ b
            → ((es ++ (if b then event.Sleep k ∷ [] else [])) ≡ events_below (k + 1) (is_seen_off timings ran first w) event.Sleep)
            × ((if b then set ds k (now + 1 + (timing_at timings k).sleep) else ds) ≡ set_below (k + 1) (is_seen_off timings ran first w) (λ t. now + 1 + (timing_at timings t).sleep) before)
        go true x = (
          ap (λ xs. xs ++ event.Sleep k ∷ []) h.events ∙ sym (events_push k (is_seen_off timings ran first w) event.Sleep x),
          ap (λ xs. set xs k (now + 1 + (timing_at timings k).sleep)) h.due ∙ sym (set_push k (is_seen_off timings ran first w) (λ t. now + 1 + (timing_at timings t).sleep) before x),
        )
        go false x = (
          append-nil es ∙ h.events ∙ sym (events_skip k (is_seen_off timings ran first w) event.Sleep x),
          h.due ∙ sym (set_skip k (is_seen_off timings ran first w) (λ t. now + 1 + (timing_at timings t).sleep) before x),
        )

    -- or is watched no more
    pub one_less : (es' : List Event) (ds' : List ℕ) (ws' : List Bool) (some' : Bool) → is_watched ws k ≡ true → has_run_enough timings ran w k ≡ false
        → es' ≡ es → ds' ≡ ds → ws' ≡ set ws k false → some' ≡ some → AreAsleep (k + 1) es' ds' ws' some'
    one_less es' ds' ws' some' watched enough e d s o =
        let no = seen_here false watched enough in
        let off : is_seen_off timings ran first w k ≡ false = ap (λ b. b && may_sleep w k) no in
        record {
          events = e ∙ h.events ∙ sym (events_skip k (is_seen_off timings ran first w) event.Sleep off);
          due = d ∙ h.due ∙ sym (set_skip k (is_seen_off timings ran first w) (λ t. now + 1 + (timing_at timings t).sleep) before off);
          watched = s ∙ ap (λ xs. set xs k false) h.watched ∙ sym (set_push k (λ t. not (is_seen timings ran first w t)) (λ t. false) first (ap not no));
          unwatched = rw (s, o) (unwatched_more k some ws h.unwatched);
        }
