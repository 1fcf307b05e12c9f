-- A task that is pushed to the front is the front, and a pop takes it out again.
use Rattle.std.proofs.Common.{◌≡◌, ◌≢◌, ℕ, zero, suc, ◌+◌, ◌<◌, Bool, true, false, not, if◌then◌else◌, is_some, is_none, [], ◌∷◌, length, set, Some, None, refl, sym, ap, ◌∙◌, arith}
use Rattle.std.specs.List.{list_any}
use Rattle.std.proofs.lemmas.List.{get_or-set_same, get_or-set_other, set-set}
use Rattle.scx_dsq.specs.declared.entries.Rank.TheVariants.{Front}
use Rattle.scx_dsq.specs.declared.entries.Entry.{Entry}
use Rattle.scx_dsq.specs.declared.errors.QueueError.TheVariants.{NoSuchQueue, AlreadyThere, Mixed}
use Rattle.scx_dsq.specs.Entries.{same_sort, is_before}
use Rattle.scx_dsq.specs.Queues.{Entries, QueueState, exists, task_count, entry_at, entry_of, IsFront, front_of}
use Rattle.scx_dsq.specs.Calls.{clashes, push_refusal, with_task, without_task, without, after_pop, next_entry}
use Rattle.scx_dsq.specs.Laws.{IsStamped, FrontPushLeads, FrontPushMovesNone, PopUndoesFrontPush}
use Rattle.scx_dsq.proofs.Orders.{front_sort, earlier_turn, before_turns}
use Rattle.scx_dsq.proofs.Standing.{Changed, this, other, changed}
use Rattle.scx_dsq.proofs.Facts.{free_from}
use Rattle.scx_dsq.proofs.Fronts.{front_is}
use Rattle.scx_dsq.proofs.Sound.{fits}

-- an accepted push clashes with nobody
none_clashes : (s : QueueState) (id t : ℕ) → push_refusal s id t Front ≡ None → list_any (clashes id Front) s.entries ≡ false
none_clashes s id t e = go (exists s id) (is_some (entry_of s t)) (list_any (clashes id Front) s.entries) refl e
  where
    go : (a b c : Bool) → list_any (clashes id Front) s.entries ≡ c → (if not a then Some NoSuchQueue else (if b then Some AlreadyThere else (if c then Some Mixed else None))) ≡ None → list_any (clashes id Front) s.entries ≡ false
    go a b false is e = is
    go false b true is e = absurd (cc)
    go true true true is e = absurd (cc)
    go true false true is e = absurd (cc)

-- the task is before all others in the queue
front_with_task : (s : QueueState) (id t : ℕ) → t < task_count s → IsStamped s → push_refusal s id t Front ≡ None → IsFront (with_task s id t Front) id t
front_with_task s id t within stamped accepted = record {
  entry = new;
  waits = (get_or-set_same s.entries t (Some new) None within, refl);
  first = λ u o n w. first u o n w.1 (changed s.entries t (Some new) u o w.0);
}
  where
    new : Entry
    new = next_entry s id Front

    first : (u : ℕ) (o : Entry) → u ≢ t → o.queue ≡ id → Changed s.entries t (Some new) u o → is_before new o ≡ true
    first u o n here (this same e) = absurd (n same)
    first u o n here (other m e) =
        let alike : same_sort o.rank Front ≡ true = fits s id u Front o (none_clashes s id t accepted) e here in
        before_turns new o refl (sym (front_sort o.rank) ∙ alike) (earlier_turn o.rank Front o.stamp s.pushes refl (stamped u o e))

-- the law of who leads
pub front_leads : FrontPushLeads
front_leads s id t within stamped accepted = rw accepted (front_is (with_task s id t Front) id t (front_with_task s id t within stamped accepted))

-- the law of all others
pub front_moves_none : FrontPushMovesNone
front_moves_none s id t u n = go (is_none (push_refusal s id t Front))
  where
    go : (b : Bool) → entry_of (if b then with_task s id t Front else s) u ≡ entry_of s u
    go true = get_or-set_other s.entries t u (Some (next_entry s id Front)) None n
    go false = refl

set_none : (entries : Entries) (t : ℕ) → t < length entries → entry_at entries t ≡ None → set entries t None ≡ entries
set_none [] t within e = absurd (omega arith)
set_none (x ∷ entries) zero within e = ap (λ o. o ∷ entries) (sym e)
set_none (x ∷ entries) (suc t) within e = ap (λ others. x ∷ others) (set_none entries t (omega arith) e)

-- the law of a pop
pub front_undone : PopUndoesFrontPush
front_undone s id t within stamped accepted =
    let leads : front_of (with_task s id t Front) id ≡ Some t = front_is (with_task s id t Front) id t (front_with_task s id t within stamped accepted) in
    let back : set (set s.entries t (Some (next_entry s id Front))) t None ≡ s.entries = set-set s.entries t (Some (next_entry s id Front)) None ∙ set_none s.entries t within (free_from s id t Front accepted) in
    let taken : after_pop (with_task s id t Front) id ≡ without_task (with_task s id t Front) t = ap (λ o. without (with_task s id t Front) o) leads in
    rw accepted (taken ∙ ap (λ (entries : Entries). record s { entries = entries; pushes = s.pushes + 1 }) back)
