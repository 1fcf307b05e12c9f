-- Who wakes, from one task that stands at the day to the next: between them nobody does.
use Rattle.std.proofs.Common.{◌≡◌, ℕ, ◌+◌, ◌<◌, ◌≤◌, Bool, true, false, not, ◌&&◌, if◌then◌else◌, List, [], ◌∷◌, ◌++◌, length, set, get_or, refl, sym, ap, ◌∙◌, add-one, arith}
use Rattle.std.proofs.lemmas.Bool.{ne_eqb}
use Rattle.scx_sched_world.specs.World.{WorldState, task_at, is_runnable}
use Rattle.scx_sched_machine.specs.declared.events.Event.{Event}
use Rattle.scx_sched_machine.specs.declared.events.Event.TheVariants as event
use Rattle.scx_load_driver.specs.declared.calendar.Calendar.{Calendar}
use Rattle.scx_load_driver.specs.Sets.{is_there}
use Rattle.scx_load_driver.specs.Calendar.{spot, soonest_of, AreNoted}
use Rattle.scx_load_driver.specs.Blocks.{events_below, set_below, is_due, wakes_at, ran_after}
use Rattle.scx_load_driver.proofs.Below.{no_events, events_between, sets_between, sets_nothing}
use Rattle.scx_load_driver.proofs.Days.{none_so_soon, none_elsewhere}

and_false : (b : Bool) → (b && false) ≡ false
and_false true = refl
and_false false = refl

-- whoever isn't due now doesn't wake
pub not_now : (due : List ℕ) (now : ℕ) (w : WorldState) (t : ℕ) → (get_or due t 0 ≡ now → ⊥) → is_due due now w t ≡ false
not_now due now w t other = ap (λ b. not (is_runnable w t) && b) (ne_eqb (get_or due t 0) now other) ∙ and_false (not (is_runnable w t))

-- ---- nobody wakes before the millisecond that is kept of the day

module _ (due : List ℕ) (now : ℕ) (c : Calendar) (w : WorldState) (h : AreNoted due now c) (l : now < soonest_of c now) where
  not_due : (t : ℕ) → t < length due → is_due due now w t ≡ false
  not_due t within = not_now due now w t (none_so_soon due now c t h l within)

  -- nobody wakes
  pub no_wakes : wakes_at due now w ≡ []
  no_wakes = no_events (length due) (is_due due now w) event.Wake not_due

  -- so nothing is remembered anew
  pub same_ran : (ran : List ℕ) → ran_after due ran now w ≡ ran
  same_ran ran = sets_nothing (length due) (is_due due now w) (λ t. (task_at w t).run_ns) ran 0 (λ t within e. let x = not_due t within in absurd (cc))

-- ---- task by task

module _ (due : List ℕ) (now : ℕ) (w : WorldState) (first : List ℕ) where
  -- of the tasks below a number each that is due woke, and how long it has run is remembered
  pub record AreAwake (k : ℕ) (es : List Event) (rs : List ℕ) : Type 0 where
    pub events : es ≡ events_below k (is_due due now w) event.Wake
    pub ran : rs ≡ set_below k (is_due due now w) (λ t. (task_at w t).run_ns) first

  -- of no task that is so
  pub none_awake : (es : List Event) → es ≡ [] → AreAwake 0 es first
  none_awake es e = record { events = e; ran = refl }

  -- up to the next one that stands at the day
  pub awake_to : (k n : ℕ) (c : Calendar) (es : List Event) (rs : List ℕ) → k ≤ n → n ≤ length due → AreNoted due now c → ((t : ℕ) → k ≤ t → t < n → is_there c.there (spot now t) ≡ false) → AreAwake k es rs → AreAwake n es rs
  awake_to k n c es rs up within noted none h = record {
    events = h.events ∙ sym (events_between k n (is_due due now w) event.Wake up off);
    ran = h.ran ∙ sym (sets_between k n (is_due due now w) (λ t. (task_at w t).run_ns) first up off);
  }
    where
      off : (t : ℕ) → k ≤ t → t < n → is_due due now w t ≡ false
      off t l m = not_now due now w t (none_elsewhere due now c t noted (none t l m) (omega (arith, m, within)))

  -- that one wakes if it is due
  pub awake_more : (k : ℕ) (es es' : List Event) (rs rs' : List ℕ) → es' ≡ es ++ (if is_due due now w k then event.Wake k ∷ [] else []) → rs' ≡ (if is_due due now w k then set rs k (task_at w k).run_ns else rs)
      → AreAwake k es rs → AreAwake (k + 1) es' rs'
  awake_more k es es' rs rs' e r h = record {
    events = e ∙ ap (λ xs. xs ++ (if is_due due now w k then event.Wake k ∷ [] else [])) h.events ∙ sym more_events;
    ran = r ∙ ap (λ xs. if is_due due now w k then set xs k (task_at w k).run_ns else xs) h.ran ∙ sym more_ran;
  }
    where
      more_events : events_below (k + 1) (is_due due now w) event.Wake ≡ events_below k (is_due due now w) event.Wake ++ (if is_due due now w k then event.Wake k ∷ [] else [])
      more_events = rw add-one refl

      more_ran : set_below (k + 1) (is_due due now w) (λ t. (task_at w t).run_ns) first ≡ (if is_due due now w k then set (set_below k (is_due due now w) (λ t. (task_at w t).run_ns) first) k (task_at w k).run_ns else set_below k (is_due due now w) (λ t. (task_at w t).run_ns) first)
      more_ran = rw add-one refl
