-- The first change of a weight that isn't past, as milliseconds go by.
use Rattle.std.proofs.Common.{◌≡◌, ℕ, ◌+◌, ◌<◌, ◌≤◌, ◌⊎◌, inl, inr, true, List, [], length, arith}
use Rattle.std.proofs.lemmas.Bool.{cases_lt, ne_eqb}
use Rattle.scx_load_workloads.specs.declared.workload.Change.{Change}
use Rattle.scx_load_workloads.specs.Workload.{change_at}
use Rattle.scx_load_driver.specs.declared.driver.Phase.{Phase}
use Rattle.scx_load_driver.specs.declared.driver.Phase.TheVariants as phase
use Rattle.scx_load_driver.specs.Blocks.{events_below, is_at, change_event, changes_at}
use Rattle.scx_load_driver.specs.Changes.{AreOrdered, AreLater, IsComing}
use Rattle.scx_load_driver.specs.Driver.{changed_before, are_ticks_next}
use Rattle.scx_load_driver.proofs.Below.{no_events, events_between}
use Rattle.scx_load_driver.proofs.Calm.{before}

-- those that are past come no more, so no weight changes before the millisecond that is known
pub later_from : (changes : List Change) (from coming next : ℕ) → IsComing changes from coming next → AreLater changes from next
later_from changes from coming next h = λ i within due. go i within due (cases_lt i coming)
  where
    go : (i : ℕ) → i < length changes → from ≤ (change_at changes i).at → (i < coming) ⊎ (coming ≤ i) → next ≤ (change_at changes i).at
    go i within due (inl past) = absurd (omega (arith, due, h.past i past))
    go i within due (inr still) = h.later i still within

-- up to that millisecond the first one that isn't past is the same
pub coming_more : (changes : List Change) (from more coming next : ℕ) → from ≤ more → more ≤ next → IsComing changes from coming next → IsComing changes more coming next
coming_more changes from more coming next le until h = record {
  within = h.within;
  past = λ i l. omega (arith, le, h.past i l);
  later = h.later;
  ahead = until;
}

-- as the ticks begin no change of that millisecond comes any more
pub coming_for_ticks : (changes : List Change) (q : Phase) (m coming next wake : ℕ) → are_ticks_next q m next wake ≡ true → IsComing changes (changed_before q m) coming next → IsComing changes (m + 1) coming next
coming_for_ticks changes phase.Changes m coming next wake ticks h = coming_more changes m (m + 1) coming next (omega arith) (omega (arith, (before m next wake ticks).change)) h
coming_for_ticks changes phase.Wakes m coming next wake ticks h = h
coming_for_ticks changes phase.Ticks m coming next wake ticks h = h
coming_for_ticks changes phase.Sleeps m coming next wake ticks h = h
coming_for_ticks changes phase.Clock m coming next wake ticks h = h

-- ---- the changes of a millisecond

-- those before that index are of an earlier millisecond
pub none_past : (changes : List Change) (now coming next : ℕ) → IsComing changes now coming next → events_below coming (is_at changes now) (λ i. change_event (change_at changes i)) ≡ []
none_past changes now coming next h =
    no_events coming (is_at changes now) (λ i. change_event (change_at changes i))
    (λ i l. ne_eqb (change_at changes i).at now (λ e. absurd (omega (arith, e, h.past i l))))

-- and those from that index on of a later one
pub all_found : (changes : List Change) (now coming : ℕ) → IsComing changes (now + 1) coming (now + 1) → changes_at changes now ≡ events_below coming (is_at changes now) (λ i. change_event (change_at changes i))
all_found changes now coming h =
    events_between coming (length changes) (is_at changes now) (λ i. change_event (change_at changes i)) h.within
    (λ i c l. ne_eqb (change_at changes i).at now (λ e. absurd (omega (arith, e, h.later i c l))))

-- a change that isn't of that millisecond is of a later one, and so are those after it
pub found_until : (changes : List Change) (now coming index : ℕ) → AreOrdered changes → IsComing changes now coming now → coming ≤ index → index < length changes
    → ((i : ℕ) → i < index → (change_at changes i).at < now + 1) → ((change_at changes index).at ≡ now → ⊥) → IsComing changes (now + 1) index (now + 1)
found_until changes now coming index ordered h c l past other =
    let here : now + 1 ≤ (change_at changes index).at = omega (arith, other, h.later index c l) in
    record {
      within = omega (arith, l);
      past = past;
      later = λ i d k. let after : (change_at changes index).at ≤ (change_at changes i).at = ordered index i _ d k in omega (arith, here, after);
      ahead = omega arith;
    }
