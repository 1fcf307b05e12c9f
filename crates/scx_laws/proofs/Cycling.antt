-- A cycle as it is computed is allowed, and no other is.
use Rattle.std.proofs.Common.{◌≡◌, ℕ, zero, suc, ◌<◌, ◌≤◌, cond, Bool, true, false, not, ◌==◌, ◌&&◌, nat_lt, ◌⊎◌, inl, inr, if◌then◌else◌, [], ◌∷◌, Option, Some, None, is_some, is_none, refl, sym, ◌∙◌, ap, subst, arith}
use Rattle.scx_sched_machine.proofs.Leaving.{then_stays}
use Rattle.std.proofs.lemmas.Option.{same_Some}
use Rattle.std.proofs.lemmas.Bool.Decides.{nat_tests}
use Rattle.std.proofs.lemmas.Bool.{cases_eq, cases_lt, eq-eqb, ne_eqb, and_parts, and_from, false_from_ne_true}
use Rattle.scx_dsq.specs.Queues.{len_of, front_of, queue_of, entry_of}
use Rattle.scx_dsq.specs.Calls.{after_push, after_remove}
use Rattle.scx_dsq.specs.declared.entries.Rank.TheVariants.{Fifo}
use Rattle.scx_vm.specs.Programs.{VerifiedProgram}
use Rattle.scx_isa_semantics.specs.declared.callbacks.Callback.TheVariants as callback
use Rattle.scx_sched_world.specs.declared.call.Insert.{Insert}
use Rattle.scx_sched_world.specs.declared.eject.Eject.{Eject}
use Rattle.scx_sched_world.specs.declared.notes.What.TheVariants as note
use Rattle.scx_sched_world.specs.Ids.{global, builtin_queue, parked_queue, local_on}
use Rattle.scx_sched_world.specs.World.{WorldState, is_throttled, with_queues, with_switch, with_cycling, out_of_cycle, running, note_now}
use Rattle.scx_sched_world.specs.Tasks.{local_len, next_for, brought, to_front, homed, after_keep}
use Rattle.scx_sched_world.specs.Ejecting.{put_builtin, after_catch_up, after_charge}
use Rattle.scx_sched_machine.specs.Steps.{State, Stepped, with_world, stays, after, one_after_other, is_by_linux}
use Rattle.scx_sched_machine.specs.Callbacks.{call_back, call_by_linux, one_task, task_and_number, two_numbers}
use Rattle.scx_sched_machine.specs.Custody.{tells_left}
use Rattle.scx_sched_machine.specs.Put.{enters, enqueue_choice, enters_builtin, comes_in, put}
use Rattle.scx_sched_machine.specs.Filling.{move_note, fill}
use Rattle.scx_sched_machine.specs.Parking.{park, if_throttled, throttled_front, throttled_next, park_next, clear, in_reach, supply, FrontMayRun}
use Rattle.scx_sched.proofs.Supplying.{park_left, park_next_from, clear_from, empty_no_front, empty_no_next, front_is_free, len_park_left, reach_fill, reach_park_left}
use Rattle.scx_sched.proofs.Firsts.{no_front_is_empty}
use Rattle.scx_sched.proofs.Seen.{next_seen}
use Rattle.scx_sched_world.proofs.Fronts.{front_in}
use Rattle.scx_sched_machine.specs.Cycle.{keeps_slice, supply_unless_kept, dispatch_called, after_dispatch, asks_again, tries, stopping_called, after_stopping, after_running, put_back, leave, switched, started_if, start, hears_idle, tells_idle, idle_note, kept, rest, swap, swap_or_rest, builtin_dispatch, builtin_fill, builtin_ask, builtin_cycle, start_or_cycle, picked, refilled, is_local, start_picked, start_picked_or_cycle, tells_busy, makes_way, pick, pick_or_rest, keep_or_pick, conclude, give_up, ask, seek, look, cycling, falls_idle, notes_idle, idle_or_anew, becomes_idle, concluded, cycle}
use Rattle.scx_sched_machine.specs.Events.{leaves_cpu}
use Rattle.scx_laws.specs.Differences.{KeepsSlice, HasLeft, GivesWay, IsToAsk}
use Rattle.scx_laws.specs.Cycles.{noting, silent, entering, enqueue_called, dispatch_run, dispatch_noted, CallsDispatch, gone_off, gone_on, picked_on, HasStopped, Policy_hears, Is_charged, HasStarted, Policy_learns, Catches_up, HearsStop, HearsRun, LeavesCpu, Enters, For_builtin, Default, Held, Inserted, Puts, Fills, HasLocal, NoOther, Moves, Parks, NextIsFree, ParksFirst, NoneLeft, OneMore, Supplies, Supplied, ParkedOne, FillsBuiltin, HasOne, Looked, Dispatches, Supplied_then, Kept_then, Asks, Enough, Came, NothingMoved, KeptOn, Again, PutsBack, Is_put, Goes_first, Leaves, Nobody, Stops, Starts, Empty, Front, Rests, Keeps, Idles, IdlesUnheard, WasIdle, Swaps, SwapsOrRests, Swapped, Kept, CyclesBuiltin, StartsOrAnew, Runs_front, Emptied, StartsPicked, picking, TellsBusy, WasAtRest, HadTask, HadRun, MakesWay, Picks, Picks_then, Picks_before, Picks_anew, Ends, Anew, KeepsOn, Picked, Rested, Seeks, Filled, Asked, Looks, Of_policy, Of_builtin, FallsIdle, StaysIdle, IsNoted, CyclesAnew, HearsOfIdle, Concludes, FellIdle, HasEnded, Cycles}
use Rattle.scx_laws.proofs.Differing.{not_so, calls_if_there, only_calls_if_there, hears_idle_is, hears_idle_of, unheard_is, unheard_of, in_is, in_of, homes, only_homes, begins_switch, only_begins_switch, begins_cycle, only_begins_cycle, ends_cycle, only_ends_cycle, keeps, gives, keeps_or_gives, switches, only_switches, asks_of, asks_is, gives_up, only_gives_up}
use Rattle.scx_laws.specs.BoundTasks.{IsNextFor}
use Rattle.scx_laws.proofs.BindingTasks.{next_is, only_next, nobody_is}
use Rattle.scx_laws.proofs.Departing.{tells_who_left, only_tells_who_left}

-- ---- put

abbrev placed_as : State → ℕ → ℕ → Option Eject → Option VerifiedProgram → Option Insert → Stepped
placed_as s t c x p i = if is_some x then noting s (put_builtin s.world t) (note.Insert t builtin_queue) else entering s t (enqueue_choice p c i)

comes : (s : State) (t c : ℕ) → Enters s t c (comes_in s t c)
unfolding comes_in enters enters_builtin
comes s t c = go s.world.ejected refl s.policy.callbacks.enqueue refl s.world.call.insert refl
  where
    go : (x : Option Eject) → s.world.ejected ≡ x → (p : Option VerifiedProgram) → s.policy.callbacks.enqueue ≡ p → (i : Option Insert) → s.world.call.insert ≡ i → Enters s t c (placed_as s t c x p i)
    go (Some x) d p e i y = For_builtin x d refl
    go None d None e i y = Default d e refl
    go None d (Some p) e None y = Held p d e y refl
    go None d (Some p) e (Some i) y = Inserted p i d e y refl

placed_is : (s : State) (t c : ℕ) (x : Option Eject) (p : Option VerifiedProgram) (i : Option Insert) → s.world.ejected ≡ x → s.policy.callbacks.enqueue ≡ p → s.world.call.insert ≡ i
    → placed_as s t c x p i ≡ comes_in s t c
unfolding comes_in enters enters_builtin
placed_is s t c x p i d e y =
    ap (λ o. placed_as s t c x p o) (sym y) ∙ ap (λ o. placed_as s t c x o s.world.call.insert) (sym e) ∙ ap (λ o. placed_as s t c o s.policy.callbacks.enqueue s.world.call.insert) (sym d)

only_comes : (s : State) (t c : ℕ) (r : Stepped) → Enters s t c r → r ≡ comes_in s t c
only_comes s t c r (For_builtin x d k) = k ∙ placed_is s t c (Some x) s.policy.callbacks.enqueue s.world.call.insert d refl refl
only_comes s t c r (Default d e k) = k ∙ placed_is s t c None None s.world.call.insert d e refl
only_comes s t c r (Held p d e y k) = k ∙ placed_is s t c None (Some p) None d e y
only_comes s t c r (Inserted p i d e y k) = k ∙ placed_is s t c None (Some p) (Some i) d e y

-- a task is put as it is computed
pub puts : (s : State) (t c flags : ℕ) → Puts s t c flags (put s t c flags)
unfolding put
puts s t c flags = record { put = comes_in (enqueue_called s t c flags).state t c; enters = comes (enqueue_called s t c flags).state t c; all = refl }

-- and in no other way
pub only_puts : (s : State) (t c flags : ℕ) (r : Stepped) → Puts s t c flags r → r ≡ put s t c flags
unfolding put
only_puts s t c flags r h = h.all ∙ ap (λ x. one_after_other (enqueue_called s t c flags) x) (only_comes (enqueue_called s t c flags).state t c h.put h.enters)

-- ---- on and off a processor

abbrev stopped_as : State → ℕ → ℕ → ℕ → Option Eject → Stepped
stopped_as s c t n x = if is_some x then silent s (after_charge s.world t) else stopping_called s c t n

-- a task leaves its processor as it is computed
stops : (s : State) (c t n : ℕ) → HasStopped s c t n (after_stopping s c t n)
unfolding after_stopping
stops s c t n = go s.world.ejected refl
  where
    go : (x : Option Eject) → s.world.ejected ≡ x → HasStopped s c t n (stopped_as s c t n x)
    go None e = Policy_hears e refl
    go (Some x) e = Is_charged x e refl

-- and in no other way
only_stops : (s : State) (c t n : ℕ) (r : Stepped) → HasStopped s c t n r → r ≡ after_stopping s c t n
unfolding after_stopping
only_stops s c t n r (Policy_hears e k) = k ∙ ap (λ o. stopped_as s c t n o) (sym e)
only_stops s c t n r (Is_charged x e k) = k ∙ ap (λ o. stopped_as s c t n o) (sym e)

abbrev stop_note : State → ℕ → ℕ → Stepped → Stepped
stop_note s c t r = after (note_now s.world (note.Stop t c) ∷ []) r

-- and so while the processor switches
pub leaves_now : (s : State) (c t n : ℕ) → LeavesCpu s c t n (leaves_cpu s c t n)
unfolding leaves_cpu
leaves_now s c t n = record {
  switching = with_switch s.world c;
  switches = begins_switch s.world c;
  stopped = after_stopping (gone_off (with_world s (with_switch s.world c)) c t) c t n;
  stops = stops (gone_off (with_world s (with_switch s.world c)) c t) c t n;
  all = refl;
}

pub only_leaves_now : (s : State) (c t n : ℕ) (r : Stepped) → LeavesCpu s c t n r → r ≡ leaves_cpu s c t n
unfolding leaves_cpu
only_leaves_now s c t n r h =
    h.all ∙ ap (λ x. stop_note s c t x) (only_stops (gone_off (with_world s h.switching) c t) c t n h.stopped h.stops)
    ∙ ap (λ w. stop_note s c t (after_stopping (gone_off (with_world s w) c t) c t n)) (only_begins_switch s.world c h.switching h.switches)

-- one that is changed as it runs stops and runs again
abbrev pub stop_heard : State → ℕ → ℕ → Stepped
stop_heard s c t = call_by_linux s callback.Stopping (task_and_number t 0) t c

pub hears_stop : (s : State) (c t : ℕ) → HearsStop s c t (stop_heard s c t)
hears_stop s c t = calls_if_there s callback.Stopping (task_and_number t 0) t c

pub only_hears_stop : (s : State) (c t : ℕ) (r : Stepped) → HearsStop s c t r → r ≡ stop_heard s c t
only_hears_stop s c t r h = only_calls_if_there s callback.Stopping (task_and_number t 0) t c r h

abbrev pub run_heard : State → ℕ → ℕ → Stepped
run_heard s c t = call_by_linux s callback.Running (one_task t) t c

pub hears_run : (s : State) (c t : ℕ) → HearsRun s c t (run_heard s c t)
hears_run s c t = calls_if_there s callback.Running (one_task t) t c

pub only_hears_run : (s : State) (c t : ℕ) (r : Stepped) → HearsRun s c t r → r ≡ run_heard s c t
only_hears_run s c t r h = only_calls_if_there s callback.Running (one_task t) t c r h

abbrev started_as : State → ℕ → ℕ → Option Eject → Stepped
started_as s c t x = if is_some x then silent s (after_catch_up s.world t) else call_back s callback.Running (one_task t) t c

runs : (s : State) (c t : ℕ) → HasStarted s c t (after_running s c t)
unfolding after_running
runs s c t = go s.world.ejected refl
  where
    go : (x : Option Eject) → s.world.ejected ≡ x → HasStarted s c t (started_as s c t x)
    go None e = Policy_learns e refl
    go (Some x) e = Catches_up x e refl

only_runs : (s : State) (c t : ℕ) (r : Stepped) → HasStarted s c t r → r ≡ after_running s c t
unfolding after_running
only_runs s c t r (Policy_learns e k) = k ∙ ap (λ o. started_as s c t o) (sym e)
only_runs s c t r (Catches_up x e k) = k ∙ ap (λ o. started_as s c t o) (sym e)

-- ---- fill

some_is : (k : ℕ) → 0 < k → nat_lt 0 k ≡ true
some_is k l = grind (arith, nat_tests, l)

none_is : (k : ℕ) → k ≡ 0 → nat_lt 0 k ≡ false
none_is k e = grind (arith, nat_tests, e)

abbrev filled_as : State → ℕ → Bool → Option ℕ → Stepped
filled_as s c b o = record { state = with_world s (brought (if b then None else o) s.world c); notes = move_note s.world (if b then None else o) c; calls = [] }

abbrev moved_to : State → ℕ → ℕ → WorldState
moved_to s c t = with_queues s.world (after_push (after_remove s.world.queues t) (local_on c) t Fifo)

filled_is : (s : State) (q c : ℕ) (b : Bool) → nat_lt 0 (local_len s.world c) ≡ b → filled_as s c b (next_for s.world q c) ≡ fill s q c
unfolding fill
filled_is s q c b e = ap (λ x. filled_as s c x (next_for s.world q c)) (sym e)

fills : (s : State) (q c : ℕ) → Fills s q c (fill s q c)
fills s q c = at (cases_lt 0 (local_len s.world c))
  where
    go : local_len s.world c ≡ 0 → (o : Option ℕ) → next_for s.world q c ≡ o → Fills s q c (filled_as s c false o)
    go z None e = NoOther z (next_is s.world q c None e) refl
    go z (Some t) e = Moves t (homed (moved_to s c t) t c) z (next_is s.world q c (Some t) e) (homes (moved_to s c t) t c) refl

    at : (0 < local_len s.world c) ⊎ (local_len s.world c ≤ 0) → Fills s q c (fill s q c)
    at (inl l) = subst (λ r. Fills s q c r) (filled_is s q c true (some_is (local_len s.world c) l)) (HasLocal l refl)
    at (inr l) =
        let z : local_len s.world c ≡ 0 = omega (arith, l) in
        subst (λ r. Fills s q c r) (filled_is s q c false (none_is (local_len s.world c) z)) (go z (next_for s.world q c) refl)

only_fills : (s : State) (q c : ℕ) (r : Stepped) → Fills s q c r → r ≡ fill s q c
only_fills s q c r (HasLocal l k) = k ∙ filled_is s q c true (some_is (local_len s.world c) l)
only_fills s q c r (NoOther z e k) = k ∙ ap (λ o. filled_as s c false o) (only_next s.world q c None e) ∙ filled_is s q c false (none_is (local_len s.world c) z)
only_fills s q c r (Moves t moved z e h k) =
    k ∙ ap (λ w. noting s w (note.Move t c)) (only_homes (moved_to s c t) t c moved h)
    ∙ ap (λ o. filled_as s c false o) (only_next s.world q c (Some t) e) ∙ filled_is s q c false (none_is (local_len s.world c) z)

-- ---- supply

-- a task that is found to be throttled is that one, and throttled
throttled_if : (w : WorldState) (o : Option ℕ) (t : ℕ) → if_throttled w o ≡ Some t → (o ≡ Some t) × (is_throttled w t ≡ true)
throttled_if w None t e = absurd (cc)
throttled_if w (Some u) t e = at (is_throttled w u) refl e
  where
    at : (b : Bool) → is_throttled w u ≡ b → cond b (Some u) None ≡ Some t → (Some u ≡ Some t) × (is_throttled w t ≡ true)
    at true x y = (y, ap (λ k. is_throttled w k) (sym (same_Some u t y)) ∙ x)
    at false x y = absurd (cc)

-- that task is the one that is looked for
throttled_of : (w : WorldState) (o : Option ℕ) (t : ℕ) → o ≡ Some t → is_throttled w t ≡ true → if_throttled w o ≡ Some t
throttled_of w o t e h = ap (λ x. if_throttled w x) e ∙ ap (λ b. cond b (Some t) None) h

-- where none is found, the task isn't throttled
free_if : (w : WorldState) (o : Option ℕ) → if_throttled w o ≡ None → (t : ℕ) → o ≡ Some t → is_throttled w t ≡ false
free_if w o e t f = false_from_ne_true (is_throttled w t) (λ h. let bad : Some t ≡ None = sym (throttled_of w o t f h) ∙ e in absurd (cc))

-- where it isn't, none is found
free_of : (w : WorldState) (o : Option ℕ) → ((t : ℕ) → o ≡ Some t → is_throttled w t ≡ false) → if_throttled w o ≡ None
free_of w None h = refl
free_of w (Some t) h = ap (λ b. cond b (Some t) None) (h t refl)

parks : (s : State) (t : ℕ) → is_throttled s.world t ≡ true → Parks s t (park_left s t)
unfolding park
parks s t e = record { throttled = e; all = refl }

only_parks : (s : State) (t : ℕ) (r : Stepped) → Parks s t r → r ≡ park_left s t
unfolding park
only_parks s t r h = h.all

no_throttled_front : (s : State) (q : ℕ) → FrontMayRun s q → throttled_front s q ≡ None
no_throttled_front s q h = free_of s.world (front_of s.world.queues q) h

-- ---- first tasks of a queue are parked

next_free_is : (s : State) (q c : ℕ) → throttled_next s q c ≡ None → NextIsFree s q c
next_free_is s q c e t n = free_if s.world (next_for s.world q c) e t (sym (only_next s.world q c (Some t) n))

next_free_of : (s : State) (q c : ℕ) → NextIsFree s q c → throttled_next s q c ≡ None
next_free_of s q c h = free_of s.world (next_for s.world q c) (λ t e. h t (next_is s.world q c (Some t) e))

-- of an empty queue there is no first task
no_next : (s : State) (q c t : ℕ) → len_of s.world.queues q ≡ 0 → IsNextFor s.world q c (Some t) → ⊥
no_next s q c t few n = let bad : Some t ≡ None = only_next s.world q c (Some t) n ∙ empty_no_next s.world q c few in absurd (cc)

-- a first task is in the queue
next_there : (s : State) (q c t : ℕ) → IsNextFor s.world q c (Some t) → queue_of s.world.queues t ≡ Some q
next_there s q c t n = (next_seen s.world q c t (sym (only_next s.world q c (Some t) n))).there

parks_first : (j : ℕ) (s : State) (q c : ℕ) → (parked_queue == q) ≡ false → len_of s.world.queues q ≤ j → ParksFirst q c s (park_next j s q c)
unfolding park_next
parks_first zero s q c apart few = NoneLeft s _ (λ t n. absurd (no_next s q c t (omega (arith, few)) n)) refl
parks_first (suc j) s q c apart few = go (throttled_next s q c) refl (λ t l. parks_first j (park_left s t).state q c apart l)
  where
    go : (o : Option ℕ) → throttled_next s q c ≡ o → ((t : ℕ) → len_of (park_left s t).state.world.queues q ≤ j → ParksFirst q c (park_left s t).state (park_next j (park_left s t).state q c)) → ParksFirst q c s (park_next_from j s q c o)
    go None e more = NoneLeft s _ (next_free_is s q c e) refl
    go (Some t) e more =
        let x = throttled_if s.world (next_for s.world q c) t e in
        let n = next_is s.world q c (Some t) x.0 in
        OneMore s t (park_left s t) _ _ n (parks s t x.1) (more t (omega (arith, few, len_park_left s q t apart (next_there s q c t n)))) refl

only_parks_first : (j : ℕ) (s : State) (q c : ℕ) (r : Stepped) → (parked_queue == q) ≡ false → len_of s.world.queues q ≤ j → ParksFirst q c s r → r ≡ park_next j s q c
unfolding park_next
only_parks_first zero s q c r apart few (NoneLeft _ _ h k) = k
only_parks_first (suc j) s q c r apart few (NoneLeft _ _ h k) = k ∙ ap (λ o. park_next_from j s q c o) (sym (next_free_of s q c h))
only_parks_first zero s q c r apart few (OneMore _ t gone more _ n h y k) = absurd (no_next s q c t (omega (arith, few)) n)
only_parks_first (suc j) s q c r apart few (OneMore _ t gone more _ n h y k) =
    let e = only_parks s t gone h in
    let l : len_of gone.state.world.queues q ≤ j = subst (λ (x : Stepped). len_of x.state.world.queues q ≤ j) (sym e) (omega (arith, few, len_park_left s q t apart (next_there s q c t n))) in
    k ∙ ap (λ x. one_after_other gone x) (only_parks_first j gone.state q c more apart l y) ∙ ap (λ (x : Stepped). one_after_other x (park_next j x.state q c)) e
    ∙ ap (λ o. park_next_from j s q c o) (sym (throttled_of s.world (next_for s.world q c) t (sym (only_next s.world q c (Some t) n)) h.throttled))

-- ---- a local queue

nobody_front : (s : State) (c : ℕ) → in_reach s c ≤ 0 → FrontMayRun s (local_on c)
nobody_front s c few t e = let bad : None ≡ Some t = sym (empty_no_front s.world.queues (local_on c) (omega (arith, few))) ∙ e in absurd (cc)

fills_none : (s : State) (c : ℕ) → in_reach s c ≤ 0 → Fills s global c (stays s)
fills_none s c few = NoOther (omega (arith, few)) (next_is s.world global c None (empty_no_next s.world global c (omega (arith, few)))) refl

clears : (j : ℕ) (s : State) (c : ℕ) → in_reach s c ≤ j → Supplies c s (clear j s c)
unfolding clear
clears zero s c few = Supplied c s (stays s) _ (fills_none s c few) (nobody_front s c few) refl
clears (suc j) s c few = go (throttled_front (fill s global c).state (local_on c)) refl (λ t l. clears j (park_left (fill s global c).state t).state c l)
  where
    f : Stepped
    f = fill s global c

    go : (o : Option ℕ) → throttled_front f.state (local_on c) ≡ o → ((t : ℕ) → in_reach (park_left f.state t).state c ≤ j → Supplies c (park_left f.state t).state (clear j (park_left f.state t).state c))
        → Supplies c s (one_after_other f (clear_from j f.state c o))
    go None e more = Supplied c s f _ (fills s global c) (front_is_free f.state (local_on c) e) refl
    go (Some t) e more =
        let x = throttled_if f.state.world (front_of f.state.world.queues (local_on c)) t e in
        ParkedOne c s t f (park_left f.state t) _ _ (fills s global c) x.0 (parks f.state t x.1) (more t (omega (arith, few, reach_fill s c, reach_park_left f.state c t (front_in f.state.world.queues (local_on c) t x.0)))) refl

-- how a local queue is supplied is as the rules allow
pub supplies : (s : State) (c : ℕ) → Supplies c s (supply s c)
unfolding supply
supplies s c = clears (in_reach s c) s c (omega arith)

only_clears : (j : ℕ) (s : State) (c : ℕ) (r : Stepped) → in_reach s c ≤ j → Supplies c s r → r ≡ clear j s c
unfolding clear
only_clears zero s c r few (Supplied _ _ f _ h x k) =
    let e : f ≡ stays s = only_fills s global c f h ∙ sym (only_fills s global c (stays s) (fills_none s c few)) in
    k ∙ ap (λ (y : Stepped). one_after_other y (stays y.state)) e
only_clears (suc j) s c r few (Supplied _ _ f _ h x k) =
    k ∙ ap (λ o. one_after_other f (clear_from j f.state c o)) (sym (no_throttled_front f.state (local_on c) x)) ∙ ap (λ (y : Stepped). one_after_other y (clear_from j y.state c (throttled_front y.state (local_on c)))) (only_fills s global c f h)
only_clears zero s c r few (ParkedOne _ _ t f gone more _ h fr y z k) =
    let e = only_fills s global c f h in
    let less : in_reach f.state c ≤ in_reach s c = subst (λ (x : Stepped). in_reach x.state c ≤ in_reach s c) (sym e) (reach_fill s c) in
    absurd (omega (arith, few, less, reach_park_left f.state c t (front_in f.state.world.queues (local_on c) t fr)))
only_clears (suc j) s c r few (ParkedOne _ _ t f gone more _ h fr y z k) =
    let e = only_fills s global c f h in
    let less : in_reach f.state c ≤ in_reach s c = subst (λ (x : Stepped). in_reach x.state c ≤ in_reach s c) (sym e) (reach_fill s c) in
    let d = only_parks f.state t gone y in
    let l : in_reach gone.state c ≤ j = subst (λ (x : Stepped). in_reach x.state c ≤ j) (sym d) (omega (arith, few, less, reach_park_left f.state c t (front_in f.state.world.queues (local_on c) t fr))) in
    k ∙ ap (λ x. one_after_other f (one_after_other gone x)) (only_clears j gone.state c more l z) ∙ ap (λ (x : Stepped). one_after_other f (one_after_other x (clear j x.state c))) d
    ∙ ap (λ o. one_after_other f (clear_from j f.state c o)) (sym (throttled_of f.state.world (front_of f.state.world.queues (local_on c)) t fr y.throttled))
    ∙ ap (λ (x : Stepped). one_after_other x (clear_from j x.state c (throttled_front x.state (local_on c)))) e

only_supplies : (s : State) (c : ℕ) (r : Stepped) → Supplies c s r → r ≡ supply s c
unfolding supply
only_supplies s c r h = only_clears (in_reach s c) s c r (omega arith) h

-- ---- dispatch

calls_dispatch : (s : State) (c : ℕ) (p : Option ℕ) (r : Stepped) → r ≡ dispatch_called s c p → CallsDispatch s c p r
unfolding dispatch_called
calls_dispatch s c p r e = record {
  told = tells_left (dispatch_run s c p).state c (dispatch_noted s c p);
  tells = tells_who_left (dispatch_run s c p).state c (dispatch_noted s c p);
  all = e;
}

only_calls_dispatch : (s : State) (c : ℕ) (p : Option ℕ) (r : Stepped) → CallsDispatch s c p r → r ≡ dispatch_called s c p
unfolding dispatch_called
only_calls_dispatch s c p r h = h.all ∙ ap (λ x. one_after_other (dispatch_run s c p) x) (only_tells_who_left (dispatch_run s c p).state c (dispatch_noted s c p) h.told h.tells)

abbrev supplied_as : Stepped → ℕ → Bool → Stepped
supplied_as d c b = one_after_other d (if b then stays d.state else supply d.state c)

abbrev supplied_from : Stepped → ℕ → Option ℕ → Stepped
supplied_from d c p = supplied_as d c (keeps_slice d.state p)

supplied_is : (s : State) (c : ℕ) (p : Option ℕ) → supplied_from (dispatch_called s c p) c p ≡ after_dispatch s c p
unfolding after_dispatch supply_unless_kept
supplied_is s c p = refl

dispatches : (s : State) (c : ℕ) (p : Option ℕ) → Dispatches s c p (after_dispatch s c p)
dispatches s c p = subst (λ r. Dispatches s c p r) (supplied_is s c p) (go (keeps_or_gives d.state p))
  where
    d : Stepped
    d = dispatch_called s c p

    go : KeepsSlice d.state p ⊎ GivesWay d.state p → Dispatches s c p (supplied_as d c (keeps_slice d.state p))
    go (inl k) = rw (keeps d.state p k) (Kept_then (calls_dispatch s c p _ (then_stays d)) k)
    go (inr g) = rw (gives d.state p g) (Supplied_then d (supply d.state c) (calls_dispatch s c p d refl) g (supplies d.state c) refl)

supplied_by : (s : State) (c : ℕ) (p : Option ℕ) (d : Stepped) → CallsDispatch s c p d → supplied_from d c p ≡ after_dispatch s c p
supplied_by s c p d h = ap (λ (x : Stepped). supplied_from x c p) (only_calls_dispatch s c p d h) ∙ supplied_is s c p

only_dispatches : (s : State) (c : ℕ) (p : Option ℕ) (r : Stepped) → Dispatches s c p r → r ≡ after_dispatch s c p
only_dispatches s c p r (Supplied_then d x h g y k) =
    k ∙ ap (λ z. one_after_other d z) (only_supplies d.state c x y) ∙ ap (λ b. supplied_as d c b) (sym (gives d.state p g)) ∙ supplied_by s c p d h
only_dispatches s c p r (Kept_then h k) = sym (then_stays r) ∙ ap (λ b. supplied_as r c b) (sym (keeps r.state p k)) ∙ supplied_by s c p r h

abbrev tried_as : ℕ → State → ℕ → Option ℕ → Bool → Stepped
tried_as n s c p b = let d = after_dispatch s c p in if b then one_after_other d (tries n d.state c p) else d

-- dispatch isn't asked again
not_again : (s : State) (c : ℕ) (p : Option ℕ) → (IsToAsk s c p → ⊥) → asks_again s c p ≡ false
not_again s c p n = false_from_ne_true (asks_again s c p) (λ e. n (asks_is s c p e))

asks : (n : ℕ) (s : State) (c : ℕ) (p : Option ℕ) → Asks n s c p (tries n s c p)
unfolding tries
asks zero s c p = Enough s c p _ refl
asks (suc n) s c p = go (asks n d.state c p) (asks_again d.state c p) refl
  where
    d : Stepped
    d = after_dispatch s c p

    moved : (b : Bool) → d.state.world.call.has_moved ≡ b → asks_again d.state c p ≡ false → GivesWay d.state p → local_len d.state.world c ≡ 0 → Asks (suc n) s c p d
    moved true m e g z = absurd (not_so (asks_again d.state c p) e (asks_of d.state c p (record { gives_way = g; empty = z; moved = m })))
    moved false m e g z = NothingMoved n s c p d (dispatches s c p) z m

    here : (local_len d.state.world c ≡ 0) ⊎ (local_len d.state.world c ≡ 0 → ⊥) → asks_again d.state c p ≡ false → GivesWay d.state p → Asks (suc n) s c p d
    here (inl z) e g = moved d.state.world.call.has_moved refl e g z
    here (inr x) e g = Came n s c p d (dispatches s c p) (omega (arith, x))

    stop : asks_again d.state c p ≡ false → KeepsSlice d.state p ⊎ GivesWay d.state p → Asks (suc n) s c p d
    stop e (inl k) = KeptOn n s c p d (dispatches s c p) k
    stop e (inr g) = here (cases_eq (local_len d.state.world c) 0) e g

    go : Asks n d.state c p (tries n d.state c p) → (b : Bool) → asks_again d.state c p ≡ b → Asks (suc n) s c p (tried_as n s c p b)
    go more true e = Again n s c p d (tries n d.state c p) _ (dispatches s c p) (asks_is d.state c p e) more refl
    go more false e = stop e (keeps_or_gives d.state p)

-- ---- pick

abbrev put_back_as : State → ℕ → ℕ → Bool → Stepped
put_back_as s c t b = if b then entering s t (to_front c) else put s t c 0

puts_back : (s : State) (c t : ℕ) → PutsBack s c t (put_back s c t)
unfolding put_back enters
puts_back s c t = go (keeps_or_gives s (Some t))
  where
    go : KeepsSlice s (Some t) ⊎ GivesWay s (Some t) → PutsBack s c t (put_back_as s c t (keeps_slice s (Some t)))
    go (inl k) = rw (keeps s (Some t) k) (Goes_first k refl)
    go (inr g) = rw (gives s (Some t) g) (Is_put g (puts s t c 0))

only_puts_back : (s : State) (c t : ℕ) (r : Stepped) → PutsBack s c t r → r ≡ put_back s c t
unfolding put_back enters
only_puts_back s c t r (Is_put g h) = only_puts s t c 0 r h ∙ ap (λ b. put_back_as s c t b) (sym (gives s (Some t) g))
only_puts_back s c t r (Goes_first h k) = k ∙ ap (λ b. put_back_as s c t b) (sym (keeps s (Some t) h))

leaves : (s : State) (c : ℕ) (p : Option ℕ) → Leaves s c p (leave s c p)
unfolding leave
leaves s c None = Nobody refl refl
leaves s c (Some t) =
    let l = after_stopping (gone_off s c t) c t 1 in
    Stops t l (put_back l.state c t) refl (stops (gone_off s c t) c t 1) (puts_back l.state c t) refl

abbrev left_as : State → ℕ → ℕ → Stepped → Stepped → Stepped
left_as s c t l x = stop_note s c t (one_after_other l x)

only_leaves : (s : State) (c : ℕ) (p : Option ℕ) (r : Stepped) → Leaves s c p r → r ≡ leave s c p
unfolding leave
only_leaves s c p r (Nobody e k) = rw e k
only_leaves s c p r (Stops t l x e h y k) =
    rw e (k ∙ ap (λ z. left_as s c t l z) (only_puts_back l.state c t x y) ∙ ap (λ (z : Stepped). left_as s c t z (put_back z.state c t)) (only_stops (gone_off s c t) c t 1 l h))

starts : (s : State) (c : ℕ) → Starts s c (start s c)
unfolding start
starts s c = go (front_of s.world.queues (local_on c)) refl
  where
    go : (o : Option ℕ) → front_of s.world.queues (local_on c) ≡ o → Starts s c (started_if o s c)
    go None e = Empty e refl
    go (Some t) e = let on = switched (gone_on s c t) t in Front t on (after_running on c t) e (switches (gone_on s c t) t) (runs on c t) refl

abbrev run_note : State → ℕ → ℕ → Stepped → Stepped
run_note s c t x = after (note_now s.world (note.Run t c) ∷ []) x

only_starts : (s : State) (c : ℕ) (r : Stepped) → Starts s c r → r ≡ start s c
unfolding start
only_starts s c r (Empty e k) = k ∙ ap (λ o. started_if o s c) (sym e)
only_starts s c r (Front t on x e w h k) =
    k ∙ ap (λ y. run_note s c t y) (only_runs on c t x h) ∙ ap (λ (v : State). run_note s c t (after_running v c t)) (only_switches (gone_on s c t) t on w) ∙ ap (λ o. started_if o s c) (sym e)

-- ---- the local queue is empty, or isn't

is_empty : (s : State) (c : ℕ) → local_len s.world c ≡ 0 → not (local_len s.world c == 0) ≡ false
is_empty s c z = rw (eq-eqb (local_len s.world c) 0 z) refl

has_some : (s : State) (c : ℕ) → 0 < local_len s.world c → not (local_len s.world c == 0) ≡ true
has_some s c l = rw (ne_eqb (local_len s.world c) 0 (λ e. omega (arith, e, l))) refl

abbrev HasAny : State → ℕ → Type 0
HasAny s c = (0 < local_len s.world c) ⊎ (local_len s.world c ≡ 0)

any_here : (s : State) (c : ℕ) → HasAny s c
any_here s c = go (cases_eq (local_len s.world c) 0)
  where
    go : (local_len s.world c ≡ 0) ⊎ (local_len s.world c ≡ 0 → ⊥) → HasAny s c
    go (inl z) = inr z
    go (inr x) = inl (omega (arith, x))

-- ---- rest

abbrev rested_as : State → ℕ → Bool → Stepped
rested_as s c b = record { state = with_world s (after_keep s.world None); notes = idle_note s.world None (not b) c; calls = [] }

rests : (s : State) (c : ℕ) (p : Option ℕ) (ran : Bool) → Rests s c p ran (rest s c p ran)
unfolding rest
rests s c (Some t) ran = let v = with_world s (after_keep s.world (Some t)) in Keeps t ran (switched v t) _ (switches v t) refl
rests s c None true = go (hears_idle s) refl
  where
    go : (b : Bool) → hears_idle s ≡ b → Rests s c None true (rested_as s c b)
    go true e = IdlesUnheard _ (hears_idle_is s e) refl
    go false e = Idles _ (unheard_is s e) refl
rests s c None false = WasIdle _ refl

only_rests : (s : State) (c : ℕ) (p : Option ℕ) (ran : Bool) (r : Stepped) → Rests s c p ran r → r ≡ rest s c p ran
unfolding rest
only_rests s c (Some t) ran r (Keeps _ _ on _ w k) = k ∙ ap (λ (v : State). stays v) (only_switches (with_world s (after_keep s.world (Some t))) t on w)
only_rests s c None true r (Idles _ n k) = k ∙ ap (λ b. rested_as s c b) (sym (unheard_of s n))
only_rests s c None true r (IdlesUnheard _ h k) = k ∙ ap (λ b. rested_as s c b) (sym (hears_idle_of s h))
only_rests s c None false r (WasIdle _ k) = k

-- ---- the built-in scheduler's cycle

swaps : (s : State) (c : ℕ) (p : Option ℕ) → Swaps s c p (swap s c p)
unfolding swap
swaps s c p = record { left = leave s c p; leaves = leaves s c p; started = start (leave s c p).state c; starts = starts (leave s c p).state c; all = refl }

only_swaps : (s : State) (c : ℕ) (p : Option ℕ) (r : Stepped) → Swaps s c p r → r ≡ swap s c p
unfolding swap
only_swaps s c p r h =
    h.all ∙ ap (λ x. one_after_other h.left x) (only_starts h.left.state c h.started h.starts) ∙ ap (λ (x : Stepped). one_after_other x (start x.state c)) (only_leaves s c p h.left h.leaves)

abbrev swap_if : State → ℕ → Option ℕ → Bool → Bool → Stepped
swap_if s c p ran b = if b then swap s c p else rest s c p ran

swaps_or_rests : (s : State) (c : ℕ) (p : Option ℕ) (ran : Bool) → SwapsOrRests s c p ran (swap_or_rest s c p ran)
unfolding swap_or_rest
swaps_or_rests s c p ran = go (any_here s c)
  where
    go : HasAny s c → SwapsOrRests s c p ran (swap_if s c p ran (not (local_len s.world c == 0)))
    go (inl l) = rw (has_some s c l) (Swapped l (swaps s c p))
    go (inr z) = rw (is_empty s c z) (Kept z (rests s c p ran))

only_swaps_or_rests : (s : State) (c : ℕ) (p : Option ℕ) (ran : Bool) (r : Stepped) → SwapsOrRests s c p ran r → r ≡ swap_or_rest s c p ran
unfolding swap_or_rest
only_swaps_or_rests s c p ran r (Swapped l h) = only_swaps s c p r h ∙ ap (λ b. swap_if s c p ran b) (sym (has_some s c l))
only_swaps_or_rests s c p ran r (Kept z h) = only_rests s c p ran r h ∙ ap (λ b. swap_if s c p ran b) (sym (is_empty s c z))

fills_builtin : (s : State) (c : ℕ) → FillsBuiltin s c (builtin_fill s c)
unfolding builtin_fill builtin_dispatch
fills_builtin s c = go (any_here s c)
  where
    p : Stepped
    p = park_next (len_of s.world.queues builtin_queue) s builtin_queue c

    go : HasAny s c → FillsBuiltin s c (if not (local_len s.world c == 0) then stays s else one_after_other p (fill p.state builtin_queue c))
    go (inl l) = rw (has_some s c l) (HasOne l refl)
    go (inr z) = rw (is_empty s c z) (Looked p (fill p.state builtin_queue c) z (parks_first (len_of s.world.queues builtin_queue) s builtin_queue c refl (omega arith)) (fills p.state builtin_queue c) refl)

abbrev builtin_if : State → ℕ → Bool → Stepped → Stepped
builtin_if s c b p = if b then stays s else one_after_other p (fill p.state builtin_queue c)

only_fills_builtin : (s : State) (c : ℕ) (r : Stepped) → FillsBuiltin s c r → r ≡ builtin_fill s c
unfolding builtin_fill builtin_dispatch
only_fills_builtin s c r (HasOne l k) = k ∙ ap (λ b. builtin_if s c b (park_next (len_of s.world.queues builtin_queue) s builtin_queue c)) (sym (has_some s c l))
only_fills_builtin s c r (Looked gone filled z h y k) =
    let d = only_parks_first (len_of s.world.queues builtin_queue) s builtin_queue c gone refl (omega arith) h in
    k ∙ ap (λ x. one_after_other gone x) (only_fills gone.state builtin_queue c filled y) ∙ ap (λ (x : Stepped). one_after_other x (fill x.state builtin_queue c)) d
    ∙ ap (λ b. builtin_if s c b (park_next (len_of s.world.queues builtin_queue) s builtin_queue c)) (sym (is_empty s c z))

cycles_builtin : (s : State) (c : ℕ) (p : Option ℕ) (ran : Bool) → CyclesBuiltin s c p ran (builtin_cycle s c p ran)
unfolding builtin_cycle builtin_ask
cycles_builtin s c p ran = record {
  supplied = f;
  supplies = supplies s c;
  asked = a;
  asks = fills_builtin f.state c;
  ended = swap_or_rest a.state c p ran;
  ends = swaps_or_rests a.state c p ran;
  all = refl;
}
  where
    f : Stepped
    f = supply s c

    a : Stepped
    a = builtin_fill f.state c

abbrev asked_builtin : Stepped → ℕ → Option ℕ → Bool → Stepped → Stepped
asked_builtin f c p ran a = one_after_other f (one_after_other a (swap_or_rest a.state c p ran))

only_cycles_builtin : (s : State) (c : ℕ) (p : Option ℕ) (ran : Bool) (r : Stepped) → CyclesBuiltin s c p ran r → r ≡ builtin_cycle s c p ran
unfolding builtin_cycle builtin_ask
only_cycles_builtin s c p ran r h =
    h.all ∙ ap (λ x. one_after_other h.supplied (one_after_other h.asked x)) (only_swaps_or_rests h.asked.state c p ran h.ended h.ends)
    ∙ ap (λ (a : Stepped). asked_builtin h.supplied c p ran a) (only_fills_builtin h.supplied.state c h.asked h.asks)
    ∙ ap (λ (f : Stepped). asked_builtin f c p ran (builtin_fill f.state c)) (only_supplies s c h.supplied h.supplies)

-- ---- the policy's cycle

abbrev start_if : State → ℕ → Bool → Bool → Stepped
start_if s c ran b = if b then start s c else builtin_cycle s c None ran

starts_or_anew : (s : State) (c : ℕ) (ran : Bool) → StartsOrAnew s c ran (start_or_cycle s c ran)
unfolding start_or_cycle
starts_or_anew s c ran = go (any_here s c)
  where
    go : HasAny s c → StartsOrAnew s c ran (start_if s c ran (not (local_len s.world c == 0)))
    go (inl x) = rw (has_some s c x) (Runs_front x (starts s c))
    go (inr z) = rw (is_empty s c z) (Emptied z (cycles_builtin s c None ran))

starts_picked : (s : State) (c t : ℕ) → StartsPicked s c t (start_picked s c t)
unfolding start_picked
starts_picked s c t = record {
  on = switched (picked_on s c t) t;
  switches = switches (picked_on s c t) t;
  begun = after_running (switched (picked_on s c t) t) c t;
  starts = runs (switched (picked_on s c t) t) c t;
  all = refl;
}

busies : (s : State) (c : ℕ) (p : Option ℕ) (ran : Bool) → TellsBusy s c p ran (tells_busy s c p ran)
unfolding tells_busy tells_idle
busies s c None false = WasAtRest _ (calls_if_there s callback.UpdateIdle (two_numbers c 0) 0 c)
busies s c None true = HadRun _ refl
busies s c (Some t) ran = HadTask t ran _ refl

only_busies : (s : State) (c : ℕ) (p : Option ℕ) (ran : Bool) (r : Stepped) → TellsBusy s c p ran r → r ≡ tells_busy s c p ran
unfolding tells_busy tells_idle
only_busies s c None false r (WasAtRest _ h) = only_calls_if_there s callback.UpdateIdle (two_numbers c 0) 0 c r h
only_busies s c None true r (HadRun _ k) = k
only_busies s c (Some t) ran r (HadTask _ _ _ k) = k

gives_way : (s : State) (c : ℕ) (p : Option ℕ) (ran : Bool) → MakesWay s c p ran (makes_way s c p ran)
unfolding makes_way
gives_way s c p ran = let b = tells_busy s c p ran in record { told = b; tells = busies s c p ran; left = leave b.state c p; leaves = leaves b.state c p; all = refl }

only_gives_way : (s : State) (c : ℕ) (p : Option ℕ) (ran : Bool) (r : Stepped) → MakesWay s c p ran r → r ≡ makes_way s c p ran
unfolding makes_way
only_gives_way s c p ran r h =
    h.all ∙ ap (λ x. one_after_other h.told x) (only_leaves h.told.state c p h.left h.leaves) ∙ ap (λ (x : Stepped). one_after_other x (leave x.state c p)) (only_busies s c p ran h.told h.tells)

abbrev picked_as : State → ℕ → Option ℕ → Bool → Option ℕ → Stepped
picked_as s c p ran o = let l = makes_way (refilled s o) c p ran in one_after_other l (start_picked_or_cycle o l.state c ran)

abbrev chosen_as : Option ℕ → Bool → Option ℕ
chosen_as o b = if b then o else None

-- who is picked
picked_is : (s : State) (c : ℕ) (p : Option ℕ) (ran : Bool) → picked_as s c p ran (chosen_as (front_of s.world.queues (local_on c)) (is_by_linux s)) ≡ pick s c p ran
unfolding pick picked
picked_is s c p ran = refl

abbrev local_as : State → ℕ → ℕ → Bool → Bool → Stepped
local_as s c t ran b = if b then start_picked s c t else start_or_cycle s c ran

picks : (s : State) (c : ℕ) (p : Option ℕ) (ran : Bool) → 0 < local_len s.world c → Picks s c p ran (pick s c p ran)
picks s c p ran some = subst (λ r. Picks s c p ran r) (picked_is s c p ran) (go (is_by_linux s) refl (front_of s.world.queues (local_on c)) refl)
  where
    at : (t : ℕ) → is_by_linux s ≡ true → front_of s.world.queues (local_on c) ≡ Some t → (b : Bool) → is_local (makes_way (picking s t) c p ran).state c t ≡ b
        → Picks s c p ran (one_after_other (makes_way (picking s t) c p ran) (local_as (makes_way (picking s t) c p ran).state c t ran b))
    at t e f true x =
        let l = makes_way (picking s t) c p ran in
        Picks_before t l (start_picked l.state c t) e f (gives_way (picking s t) c p ran) (in_is (local_on c) (entry_of l.state.world.queues t) x) (starts_picked l.state c t) refl
    at t e f false x =
        let l = makes_way (picking s t) c p ran in
        Picks_anew t l (start_or_cycle l.state c ran) e f (gives_way (picking s t) c p ran) (λ y. not_so (is_local l.state c t) x (in_of (local_on c) (entry_of l.state.world.queues t) y)) (starts_or_anew l.state c ran) refl

    go : (b : Bool) → is_by_linux s ≡ b → (o : Option ℕ) → front_of s.world.queues (local_on c) ≡ o → Picks s c p ran (picked_as s c p ran (chosen_as o b))
    go false e o f = let l = makes_way s c p ran in Picks_then l (start_or_cycle l.state c ran) e (gives_way s c p ran) (starts_or_anew l.state c ran) refl
    go true e None f = absurd (omega (arith, some, no_front_is_empty s.world.queues (local_on c) f))
    go true e (Some t) f = at t e f (is_local (makes_way (picking s t) c p ran).state c t) refl

start_is : (s : State) (c : ℕ) (ran : Bool) → 0 < local_len s.world c → start s c ≡ start_or_cycle s c ran
unfolding start_or_cycle
start_is s c ran l = ap (λ b. start_if s c ran b) (sym (has_some s c l))

anew_is : (s : State) (c : ℕ) (ran : Bool) → local_len s.world c ≡ 0 → builtin_cycle s c None ran ≡ start_or_cycle s c ran
unfolding start_or_cycle
anew_is s c ran z = ap (λ b. start_if s c ran b) (sym (is_empty s c z))

only_starts_or_anew : (s : State) (c : ℕ) (ran : Bool) (r : Stepped) → StartsOrAnew s c ran r → r ≡ start_or_cycle s c ran
only_starts_or_anew s c ran r (Runs_front n y) = only_starts s c r y ∙ start_is s c ran n
only_starts_or_anew s c ran r (Emptied n y) = only_cycles_builtin s c None ran r y ∙ anew_is s c ran n

only_starts_picked : (s : State) (c t : ℕ) (r : Stepped) → StartsPicked s c t r → r ≡ start_picked s c t
unfolding start_picked
only_starts_picked s c t r h =
    h.all ∙ ap (λ y. run_note s c t y) (only_runs h.on c t h.begun h.starts) ∙ ap (λ (v : State). run_note s c t (after_running v c t)) (only_switches (picked_on s c t) t h.on h.switches)

abbrev left_then : Stepped → ℕ → ℕ → Bool → Bool → Stepped
left_then l c t ran b = one_after_other l (local_as l.state c t ran b)

-- once who is picked is known
picked_at : (s : State) (c : ℕ) (p : Option ℕ) (ran : Bool) (t : ℕ) (l : Stepped) (b : Bool)
    → is_by_linux s ≡ true → front_of s.world.queues (local_on c) ≡ Some t → l ≡ makes_way (picking s t) c p ran → is_local l.state c t ≡ b
    → left_then l c t ran b ≡ pick s c p ran
picked_at s c p ran t l b e f k x =
    ap (λ y. left_then l c t ran y) (sym x) ∙ ap (λ (y : Stepped). left_then y c t ran (is_local y.state c t)) k
    ∙ ap (λ o. picked_as s c p ran o) (sym f ∙ ap (λ y. chosen_as (front_of s.world.queues (local_on c)) y) (sym e)) ∙ picked_is s c p ran

only_picks : (s : State) (c : ℕ) (p : Option ℕ) (ran : Bool) (r : Stepped) → Picks s c p ran r → r ≡ pick s c p ran
only_picks s c p ran r (Picks_then l x e h y k) =
    k ∙ ap (λ z. one_after_other l z) (only_starts_or_anew l.state c ran x y) ∙ ap (λ (z : Stepped). one_after_other z (start_or_cycle z.state c ran)) (only_gives_way s c p ran l h)
    ∙ ap (λ b. picked_as s c p ran (chosen_as (front_of s.world.queues (local_on c)) b)) (sym e) ∙ picked_is s c p ran
only_picks s c p ran r (Picks_before t l x e f h q y k) =
    k ∙ ap (λ z. one_after_other l z) (only_starts_picked l.state c t x y)
    ∙ picked_at s c p ran t l true e f (only_gives_way (picking s t) c p ran l h) (in_of (local_on c) (entry_of l.state.world.queues t) q)
only_picks s c p ran r (Picks_anew t l x e f h n y k) =
    k ∙ ap (λ z. one_after_other l z) (only_starts_or_anew l.state c ran x y)
    ∙ picked_at s c p ran t l false e f (only_gives_way (picking s t) c p ran l h) (false_from_ne_true (is_local l.state c t) (λ z. n (in_is (local_on c) (entry_of l.state.world.queues t) z)))

abbrev pick_if : State → ℕ → Option ℕ → Bool → Bool → Stepped
pick_if s c p ran b = if b then pick s c p ran else rest s c p ran

abbrev concluded_as : State → ℕ → Option ℕ → Bool → Option Eject → Stepped
concluded_as s c p ran x = if is_some x then builtin_cycle s c p ran else keep_or_pick s c p ran

abbrev kept_as : State → ℕ → Option ℕ → Bool → Bool → Stepped
kept_as s c p ran b = if b then stays (kept s p) else pick_or_rest s c p ran

keeps_on : (s : State) (c : ℕ) (p : Option ℕ) (ran : Bool) → s.world.ejected ≡ None → KeepsSlice s p → Ends s c p ran (stays (kept s p))
keeps_on s c (Some t) ran e k = KeepsOn t (switched s t) e refl k (switches s t) refl
keeps_on s c None ran e (HasLeft t y z l) = absurd (cc)

ends : (s : State) (c : ℕ) (p : Option ℕ) (ran : Bool) → Ends s c p ran (conclude s c p ran)
unfolding conclude keep_or_pick pick_or_rest
ends s c p ran = go s.world.ejected refl (keeps_or_gives s p) (any_here s c)
  where
    go : (x : Option Eject) → s.world.ejected ≡ x → KeepsSlice s p ⊎ GivesWay s p → HasAny s c
        → Ends s c p ran (if is_some x then builtin_cycle s c p ran else (if keeps_slice s p then stays (kept s p) else pick_if s c p ran (not (local_len s.world c == 0))))
    go (Some x) e way any = Anew x e (cycles_builtin s c p ran)
    go None e (inl k) any = rw (keeps s p k) (keeps_on s c p ran e k)
    go None e (inr g) (inl l) = rw (gives s p g, has_some s c l) (Picked e g l (picks s c p ran l))
    go None e (inr g) (inr z) = rw (gives s p g, is_empty s c z) (Rested e g z (rests s c p ran))

kept_is : (s : State) (c : ℕ) (p : Option ℕ) (ran b : Bool) → keeps_slice s p ≡ b → kept_as s c p ran b ≡ keep_or_pick s c p ran
unfolding keep_or_pick
kept_is s c p ran b e = ap (λ x. kept_as s c p ran x) (sym e)

pick_is : (s : State) (c : ℕ) (p : Option ℕ) (ran : Bool) → 0 < local_len s.world c → pick s c p ran ≡ pick_or_rest s c p ran
unfolding pick_or_rest
pick_is s c p ran l = ap (λ b. pick_if s c p ran b) (sym (has_some s c l))

rest_is : (s : State) (c : ℕ) (p : Option ℕ) (ran : Bool) → local_len s.world c ≡ 0 → rest s c p ran ≡ pick_or_rest s c p ran
unfolding pick_or_rest
rest_is s c p ran z = ap (λ b. pick_if s c p ran b) (sym (is_empty s c z))

only_ends : (s : State) (c : ℕ) (p : Option ℕ) (ran : Bool) (r : Stepped) → Ends s c p ran r → r ≡ conclude s c p ran
unfolding conclude
only_ends s c p ran r (Anew x e h) = only_cycles_builtin s c p ran r h ∙ ap (λ o. concluded_as s c p ran o) (sym e)
only_ends s c p ran r (KeepsOn t on e y h w k) = k ∙ ap (λ (v : State). stays v) (only_switches s t on w) ∙ ap (λ o. stays (kept s o)) (sym y) ∙ kept_is s c p ran true (keeps s p h) ∙ ap (λ o. concluded_as s c p ran o) (sym e)
only_ends s c p ran r (Picked e g l h) = only_picks s c p ran r h ∙ pick_is s c p ran l ∙ kept_is s c p ran false (gives s p g) ∙ ap (λ o. concluded_as s c p ran o) (sym e)
only_ends s c p ran r (Rested e g z h) = only_rests s c p ran r h ∙ rest_is s c p ran z ∙ kept_is s c p ran false (gives s p g) ∙ ap (λ o. concluded_as s c p ran o) (sym e)

abbrev seek_if : Stepped → ℕ → Option ℕ → Bool → Bool → Stepped
seek_if f c p ran b = one_after_other f (if b then pick f.state c p ran else ask f.state c p ran)

seeks : (s : State) (c : ℕ) (p : Option ℕ) (ran : Bool) → Seeks s c p ran (seek s c p ran)
unfolding seek ask
seeks s c p ran = go (any_here f.state c)
  where
    f : Stepped
    f = supply s c

    a : Stepped
    a = tries 32 f.state c p

    go : HasAny f.state c → Seeks s c p ran (seek_if f c p ran (not (local_len f.state.world c == 0)))
    go (inl l) = rw (has_some f.state c l) (Filled f (pick f.state c p ran) (supplies s c) l (picks f.state c p ran l) refl)
    go (inr z) = let v = give_up a.state c p in rw (is_empty f.state c z) (Asked f a (conclude v c p ran) v (supplies s c) z (asks 32 f.state c p) (gives_up a.state c p) (ends v c p ran) refl)

-- ---- and nothing else

tries_stop : (n : ℕ) (s : State) (c : ℕ) (p : Option ℕ) (d : Stepped) → d ≡ after_dispatch s c p → (IsToAsk d.state c p → ⊥) → d ≡ tries (suc n) s c p
unfolding tries
tries_stop n s c p d e stop =
    e ∙ ap (λ b. tried_as n s c p b) (sym (ap (λ (x : Stepped). asks_again x.state c p) (sym e) ∙ not_again d.state c p stop))

tries_again : (n : ℕ) (s : State) (c : ℕ) (p : Option ℕ) (d : Stepped) → d ≡ after_dispatch s c p → IsToAsk d.state c p → one_after_other d (tries n d.state c p) ≡ tries (suc n) s c p
unfolding tries
tries_again n s c p d e again =
    ap (λ (x : Stepped). one_after_other x (tries n x.state c p)) e
    ∙ ap (λ b. tried_as n s c p b) (sym (ap (λ (x : Stepped). asks_again x.state c p) (sym e) ∙ asks_of d.state c p again))

tries_none : (s : State) (c : ℕ) (p : Option ℕ) → tries 0 s c p ≡ stays s
unfolding tries
tries_none s c p = refl

no_way : (s : State) (p : Option ℕ) → KeepsSlice s p → GivesWay s p → ⊥
no_way s p k g = not_so (keeps_slice s p) (gives s p g) (keeps s p k)

only_asks : (n : ℕ) (s : State) (c : ℕ) (p : Option ℕ) (r : Stepped) → Asks n s c p r → r ≡ tries n s c p
only_asks zero s c p r (Enough _ _ _ _ k) = k ∙ sym (tries_none s c p)
only_asks (suc n) s c p r (Came _ _ _ _ _ h l) = tries_stop n s c p r (only_dispatches s c p r h) (λ a. let z = a.empty in omega (arith, l, z))
only_asks (suc n) s c p r (NothingMoved _ _ _ _ _ h z f) = tries_stop n s c p r (only_dispatches s c p r h) (λ a. not_so r.state.world.call.has_moved f a.moved)
only_asks (suc n) s c p r (KeptOn _ _ _ _ _ h x) = tries_stop n s c p r (only_dispatches s c p r h) (λ a. no_way r.state p x a.gives_way)
only_asks (suc n) s c p r (Again _ _ _ _ d more _ h x a k) =
    k ∙ ap (λ y. one_after_other d y) (only_asks n d.state c p more a) ∙ tries_again n s c p d (only_dispatches s c p d h) x

abbrev sought : Stepped → ℕ → Option ℕ → Bool → Stepped
sought f c p ran = seek_if f c p ran (not (local_len f.state.world c == 0))

sought_is : (s : State) (c : ℕ) (p : Option ℕ) (ran : Bool) (f : Stepped) → f ≡ supply s c → sought f c p ran ≡ seek s c p ran
unfolding seek
sought_is s c p ran f e = ap (λ (g : Stepped). sought g c p ran) e

-- the rest of a cycle, once dispatch is asked
abbrev asked_from : Stepped → ℕ → Option ℕ → Bool → Stepped → Stepped
asked_from f c p ran a = one_after_other f (one_after_other a (conclude (give_up a.state c p) c p ran))

asked_is : (f : Stepped) (c : ℕ) (p : Option ℕ) (ran : Bool) → asked_from f c p ran (tries 32 f.state c p) ≡ one_after_other f (ask f.state c p ran)
unfolding ask
asked_is f c p ran = refl

only_seeks : (s : State) (c : ℕ) (p : Option ℕ) (ran : Bool) (r : Stepped) → Seeks s c p ran r → r ≡ seek s c p ran
only_seeks s c p ran r (Filled f x h l y k) =
    k ∙ ap (λ z. one_after_other f z) (only_picks f.state c p ran x y) ∙ ap (λ b. seek_if f c p ran b) (sym (has_some f.state c l)) ∙ sought_is s c p ran f (only_supplies s c f h)
only_seeks s c p ran r (Asked f a x v h z b g y k) =
    k ∙ ap (λ u. one_after_other f (one_after_other a u)) (only_ends v c p ran x y)
    ∙ ap (λ (u : State). one_after_other f (one_after_other a (conclude u c p ran))) (only_gives_up a.state c p v g) ∙ ap (λ (u : Stepped). asked_from f c p ran u) (only_asks 32 f.state c p a b) ∙ asked_is f c p ran
    ∙ ap (λ e. seek_if f c p ran e) (sym (is_empty f.state c z)) ∙ sought_is s c p ran f (only_supplies s c f h)

-- ---- whichever is in force

abbrev looked_as : State → ℕ → Option ℕ → Bool → Option Eject → Stepped
looked_as s c p ran x = if is_some x then builtin_cycle s c p ran else seek s c p ran

looks : (s : State) (c : ℕ) (p : Option ℕ) (ran : Bool) → Looks s c p ran (look s c p ran)
unfolding look
looks s c p ran = go s.world.ejected refl
  where
    go : (x : Option Eject) → s.world.ejected ≡ x → Looks s c p ran (looked_as s c p ran x)
    go None e = Of_policy e (seeks s c p ran)
    go (Some x) e = Of_builtin x e (cycles_builtin s c p ran)

only_looks : (s : State) (c : ℕ) (p : Option ℕ) (ran : Bool) (r : Stepped) → Looks s c p ran r → r ≡ look s c p ran
unfolding look
only_looks s c p ran r (Of_policy e h) = only_seeks s c p ran r h ∙ ap (λ o. looked_as s c p ran o) (sym e)
only_looks s c p ran r (Of_builtin x e h) = only_cycles_builtin s c p ran r h ∙ ap (λ o. looked_as s c p ran o) (sym e)

-- ---- a processor falls idle

abbrev over_at : Stepped → WorldState → Stepped
over_at x w = record { state = with_world x.state w; notes = x.notes; calls = x.calls }

abbrev anew_from : State → ℕ → WorldState → Stepped
anew_from s c w = let x = builtin_cycle (with_world s w) c None true in over_at x (with_cycling x.state.world None)

abbrev idle_as : State → ℕ → Option Eject → Stepped
idle_as s c x = if is_some x then anew_from s c (with_cycling s.world (Some c)) else noting s (with_cycling s.world None) (note.Idle c)

stays_idle : (s : State) (c : ℕ) → StaysIdle s c (idle_or_anew s c)
unfolding idle_or_anew notes_idle
stays_idle s c = go s.world.ejected refl
  where
    f : Stepped
    f = builtin_cycle (cycling s (Some c)) c None true

    go : (x : Option Eject) → s.world.ejected ≡ x → StaysIdle s c (idle_as s c x)
    go None e = IsNoted (with_cycling s.world None) e (ends_cycle s.world) refl
    go (Some x) e =
        CyclesAnew x (with_cycling s.world (Some c)) (with_cycling f.state.world None) f e (begins_cycle s.world c) (cycles_builtin (cycling s (Some c)) c None true) (ends_cycle f.state.world) refl

only_stays_idle : (s : State) (c : ℕ) (r : Stepped) → StaysIdle s c r → r ≡ idle_or_anew s c
unfolding idle_or_anew notes_idle
only_stays_idle s c r (IsNoted w d h k) = k ∙ ap (λ v. noting s v (note.Idle c)) (only_ends_cycle s.world w h) ∙ ap (λ x. idle_as s c x) (sym d)
only_stays_idle s c r (CyclesAnew x b w f d hb hf hw k) =
    k ∙ ap (λ v. over_at f v) (only_ends_cycle f.state.world w hw) ∙ ap (λ (y : Stepped). over_at y (with_cycling y.state.world None)) (only_cycles_builtin (with_world s b) c None true f hf)
    ∙ ap (λ v. anew_from s c v) (only_begins_cycle s.world c b hb) ∙ ap (λ y. idle_as s c y) (sym d)

abbrev idle_told : State → ℕ → Stepped
idle_told s c = call_by_linux (with_world s (out_of_cycle s.world)) callback.UpdateIdle (two_numbers c 1) 0 c

hears_of_idle : (s : State) (c : ℕ) → HearsOfIdle s c (becomes_idle s c)
unfolding becomes_idle tells_idle
hears_of_idle s c = record {
  told = idle_told s c;
  tells = calls_if_there (with_world s (out_of_cycle s.world)) callback.UpdateIdle (two_numbers c 1) 0 c;
  done = idle_or_anew (idle_told s c).state c;
  stays_so = stays_idle (idle_told s c).state c;
  all = refl;
}

only_hears_of_idle : (s : State) (c : ℕ) (r : Stepped) → HearsOfIdle s c r → r ≡ becomes_idle s c
unfolding becomes_idle tells_idle
only_hears_of_idle s c r h =
    h.all ∙ ap (λ x. one_after_other h.told x) (only_stays_idle h.told.state c h.done h.stays_so)
    ∙ ap (λ (x : Stepped). one_after_other x (idle_or_anew x.state c)) (only_calls_if_there (with_world s (out_of_cycle s.world)) callback.UpdateIdle (two_numbers c 1) 0 c h.told h.tells)

falls_is : (s : State) (c : ℕ) (ran : Bool) → falls_idle s c ran ≡ true → FallsIdle s c ran
unfolding falls_idle
falls_is s c ran e =
    let x = and_parts ran (hears_idle s && is_none (running s.world c)) e in
    let y = and_parts (hears_idle s) (is_none (running s.world c)) x.1 in
    record { hears = hears_idle_is s y.0; had_task = x.0; has_none = nobody_is (running s.world c) y.1 }

falls_of : (s : State) (c : ℕ) (ran : Bool) → FallsIdle s c ran → falls_idle s c ran ≡ true
unfolding falls_idle
falls_of s c ran h =
    and_from ran (hears_idle s && is_none (running s.world c)) h.had_task (and_from (hears_idle s) (is_none (running s.world c)) (hears_idle_of s h.hears) (ap (λ o. is_none o) h.has_none))

abbrev concluded_as_so : State → ℕ → Bool → Stepped
concluded_as_so s c b = if b then becomes_idle s c else silent s (with_cycling s.world None)

concludes : (s : State) (c : ℕ) (ran : Bool) → Concludes s c ran (concluded s c ran)
unfolding concluded
concludes s c ran = go (falls_idle s c ran) refl
  where
    go : (b : Bool) → falls_idle s c ran ≡ b → Concludes s c ran (concluded_as_so s c b)
    go true e = FellIdle (falls_is s c ran e) (hears_of_idle s c)
    go false e = HasEnded (with_cycling s.world None) (λ h. not_so (falls_idle s c ran) e (falls_of s c ran h)) (ends_cycle s.world) refl

only_concludes : (s : State) (c : ℕ) (ran : Bool) (r : Stepped) → Concludes s c ran r → r ≡ concluded s c ran
unfolding concluded
only_concludes s c ran r (FellIdle f h) = only_hears_of_idle s c r h ∙ ap (λ b. concluded_as_so s c b) (sym (falls_of s c ran f))
only_concludes s c ran r (HasEnded w n h k) =
    k ∙ ap (λ v. silent s v) (only_ends_cycle s.world w h) ∙ ap (λ b. concluded_as_so s c b) (sym (false_from_ne_true (falls_idle s c ran) (λ e. n (falls_is s c ran e))))

-- a cycle goes as it is computed
pub cycles : (s : State) (c : ℕ) (p : Option ℕ) (ran : Bool) → Cycles s c p ran (cycle s c p ran)
unfolding cycle
cycles s c p ran = record {
  begun = with_cycling s.world (Some c);
  begins = begins_cycle s.world c;
  found = look (cycling s (Some c)) c p ran;
  looks = looks (cycling s (Some c)) c p ran;
  ended = concluded (look (cycling s (Some c)) c p ran).state c ran;
  concludes = concludes (look (cycling s (Some c)) c p ran).state c ran;
  all = refl;
}

abbrev cycled : ℕ → Bool → Stepped → Stepped
cycled c ran x = one_after_other x (concluded x.state c ran)

-- and in no other way
pub only_cycles : (s : State) (c : ℕ) (p : Option ℕ) (ran : Bool) (r : Stepped) → Cycles s c p ran r → r ≡ cycle s c p ran
unfolding cycle
only_cycles s c p ran r h =
    h.all ∙ ap (λ x. one_after_other h.found x) (only_concludes h.found.state c ran h.ended h.concludes)
    ∙ ap (λ (x : Stepped). cycled c ran x) (only_looks (with_world s h.begun) c p ran h.found h.looks)
    ∙ ap (λ w. cycled c ran (look (with_world s w) c p ran)) (only_begins_cycle s.world c h.begun h.begins)
