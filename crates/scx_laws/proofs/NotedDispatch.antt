-- Tasks are parked, local queues are filled and dispatch is asked: the notes tell the state of each task afterwards.
use Rattle.std.proofs.Common.{◌≡◌, ℕ, zero, suc, ◌<◌, Bool, true, false, ◌==◌, not, nat_lt, if◌then◌else◌, List, [], ◌∷◌, length, Option, Some, None, refl, ap, ◌∙◌, subst}
use Rattle.scx_laws.proofs.Parked.{local_apart}
use Rattle.scx_dsq.specs.declared.entries.Rank.TheVariants.{Fifo}
use Rattle.scx_dsq.specs.Queues.{queue_of, len_of}
use Rattle.scx_dsq.specs.Calls.{after_push, after_remove}
use Rattle.scx_isa_semantics.specs.declared.callbacks.Callback.TheVariants as callback
use Rattle.scx_sched_world.specs.declared.notes.Note.{Note}
use Rattle.scx_sched_world.specs.declared.notes.What.TheVariants as note
use Rattle.scx_sched_world.specs.Ids.{global, builtin_queue, parked_queue, local_on}
use Rattle.scx_sched_world.specs.World.{WorldState, waits_in, waits, note_now}
use Rattle.scx_sched_world.specs.Tasks.{local_len, after_leave, fill_front, brought, next_for}
use Rattle.scx_sched_machine.specs.Steps.{State, Stepped, stays, with_world, one_after_other, is_ejected}
use Rattle.scx_sched_machine.specs.Callbacks.{call_back, cpu_and_task, noted_by}
use Rattle.scx_sched_machine.specs.Custody.{tells_dequeued, leaver, tells_of, tells_each, moved_as, hears_dequeue, tells_left}
use Rattle.scx_sched_machine.specs.Filling.{move_note, fill}
use Rattle.scx_sched_machine.specs.Parking.{throttled_front, throttled_next, park_next, clear, in_reach, supply}
use Rattle.scx_sched_machine.specs.Cycle.{has_local, keeps_slice, supply_unless_kept, told_of, dispatch_called, after_dispatch, asks_again, tries, builtin_dispatch, builtin_fill}
use Rattle.scx_sched_machine.proofs.Choices.{keeps_if}
use Rattle.scx_sched.specs.Kept.{with_moved}
use Rattle.scx_sched.specs.Once.{IsSound}
use Rattle.scx_sched.proofs.Marks.{Anywhere, kept_local}
use Rattle.scx_sched.proofs.Parking.{sound_leaves}
use Rattle.scx_sched.proofs.Pushes.{takes_queued}
use Rattle.scx_sched.proofs.Seen.{next_seen}
use Rattle.scx_sched.proofs.Sound.{place_known, sound_filled, sound_moves}
use Rattle.scx_sched.proofs.Supplying.{park_left, park_next_from, clear_from, IsThrottledIn, throttled_is, throttled_next_is}
use Rattle.scx_laws.specs.Telling.{tell, told}
use Rattle.scx_laws.proofs.Noted.{IsAs, as_marks, moves_on, ready_left}
use Rattle.scx_laws.proofs.NotedPuts.{Goes, told_plainly, goes_stays, goes_joined, goes_call_back, goes_call_by_linux, puts_park}

-- a task of another queue than that of the parked waits
waits_there : (w : WorldState) (q t : ℕ) → (q == parked_queue) ≡ false → queue_of w.queues t ≡ Some q → waits w t ≡ true
waits_there w q t apart there = ap (λ o. waits_in o) there ∙ ap (λ b. not b) apart

module _ (u n : ℕ) (on : List (Option ℕ)) where
  -- a step at whose ends no task is at hand
  abbrev Steps : State → Stepped → Type 0
  Steps s r = Goes u n None on s r

  -- ---- local queues

  fills : (w : WorldState) (q c : ℕ) (o : Option ℕ) → (q == parked_queue) ≡ false → c < length on → ((t : ℕ) → o ≡ Some t → queue_of w.queues t ≡ Some q) → IsSound None on n w → told (move_note w o c) u (tell w u) ≡ tell (brought o w c) u
  fills w q c None apart l there h = refl
  fills w q c (Some t) apart l there h =
      let s = after_push (after_remove w.queues t) (local_on c) t Fifo in
      let same = kept_local Anywhere (IsAs w s) (as_marks w s) (after_leave w t) c t tt (record { queues = refl; cpus = refl; active = refl; since = λ k. refl; notes = refl }) in
      moves_on None on n w (brought (Some t) w c) (note_now w (note.Move t c)) t (local_on c) u Fifo same (takes_queued None on n w q c t l (there t refl) h) (waits_there w q t apart (there t refl)) h refl (λ y some. refl)

  goes_fill : (s : State) (q c : ℕ) → (q == parked_queue) ≡ false → c < length on → IsSound None on n s.world → Steps s (fill s q c)
  unfolding fill
  goes_fill s q c apart l h = (sound_filled on n s.world q c apart l h, told_plainly u n s.world (brought (fill_front s.world q c) s.world c) (move_note s.world (fill_front s.world q c) c) (fills s.world q c (fill_front s.world q c) apart l (λ t e. there t (nat_lt 0 (local_len s.world c)) e) h))
    where
      there : (t : ℕ) (b : Bool) → (if b then None else next_for s.world q c) ≡ Some t → queue_of s.world.queues t ≡ Some q
      there t true x = absurd (cc)
      there t false x = (next_seen s.world q c t x).there

  -- a throttled task of another queue is parked
  goes_park_left : (s : State) (q t : ℕ) → (q == parked_queue) ≡ false → IsThrottledIn s q t → IsSound None on n s.world → Steps s (park_left s t)
  goes_park_left s q t apart x h =
      let w = s.world in
      let p = puts_park u n on t (with_world s (after_leave w t)) (subst (λ k. t < k) h.even (place_known w.queues q t x.there).0) (sound_leaves on n w q t x.there apart h) in (
        p.0,
        told_plainly u n w (park_left s t).state.world (park_left s t).notes (p.1 (tell w u) (ready_left on n w u t (waits_there w q t apart x.there) h)),
      )

  goes_park_next : (j : ℕ) (s : State) (q c : ℕ) → (q == parked_queue) ≡ false → IsSound None on n s.world → Steps s (park_next j s q c)
  unfolding park_next
  goes_park_next zero s q c apart h = goes_stays u n None on s h
  goes_park_next (suc j) s q c apart h = go (throttled_next s q c) refl (λ t x. goes_park_next j (park_left s t).state q c apart x)
    where
      go : (o : Option ℕ) → throttled_next s q c ≡ o → ((t : ℕ) → IsSound None on n (park_left s t).state.world → Steps (park_left s t).state (park_next j (park_left s t).state q c)) → Steps s (park_next_from j s q c o)
      go None e more = goes_stays u n None on s h
      go (Some t) e more = let x = goes_park_left s q t apart (throttled_next_is s q c t e) h in goes_joined u n None on s (park_left s t) (park_next j (park_left s t).state q c) x (more t x.0)

  goes_clear : (j : ℕ) (s : State) (c : ℕ) → c < length on → IsSound None on n s.world → Steps s (clear j s c)
  unfolding clear
  goes_clear zero s c l h = goes_stays u n None on s h
  goes_clear (suc j) s c l h =
      let f = fill s global c in
      let x = goes_fill s global c refl l h in
      goes_joined u n None on s f (clear_from j f.state c (throttled_front f.state (local_on c))) x (go f.state x.0 (throttled_front f.state (local_on c)) refl (λ t y. goes_clear j (park_left f.state t).state c l y))
    where
      go : (f : State) → IsSound None on n f.world → (o : Option ℕ) → throttled_front f (local_on c) ≡ o → ((t : ℕ) → IsSound None on n (park_left f t).state.world → Steps (park_left f t).state (clear j (park_left f t).state c)) → Steps f (clear_from j f c o)
      go f x None e more = goes_stays u n None on f x
      go f x (Some t) e more = let y = goes_park_left f (local_on c) t (local_apart c) (throttled_is f (local_on c) t e) x in goes_joined u n None on f (park_left f t) (clear j (park_left f t).state c) y (more t y.0)

  -- a local queue is supplied
  pub goes_supply : (s : State) (c : ℕ) → c < length on → IsSound None on n s.world → Steps s (supply s c)
  unfolding supply
  goes_supply s c l h = goes_clear (in_reach s c) s c l h

  -- the dispatch of the built-in scheduler
  pub goes_builtin_fill : (s : State) (c : ℕ) → c < length on → IsSound None on n s.world → Steps s (builtin_fill s c)
  unfolding builtin_fill builtin_dispatch
  goes_builtin_fill s c l h =
      let p = park_next (len_of s.world.queues builtin_queue) s builtin_queue c in
      let x = goes_park_next (len_of s.world.queues builtin_queue) s builtin_queue c refl h in
      keeps_if (Steps s) (has_local s c) (stays s) (one_after_other p (fill p.state builtin_queue c)) (goes_stays u n None on s h) (goes_joined u n None on s p (fill p.state builtin_queue c) x (goes_fill p.state builtin_queue c refl l x.0))

  -- ---- dispatch

  -- the policy hears who left its custody
  goes_tells_of : (o : Option ℕ) (s : State) (c : ℕ) → c < length on → IsSound None on n s.world → Steps s (tells_of o s c)
  unfolding tells_dequeued
  goes_tells_of None s c l h = goes_stays u n None on s h
  goes_tells_of (Some t) s c l h = goes_call_by_linux u n None on s _ _ t c l h

  goes_tells_each : (ns : List Note) (s : State) (c : ℕ) → c < length on → IsSound None on n s.world → Steps s (tells_each ns s c)
  goes_tells_each [] s c l h = goes_stays u n None on s h
  goes_tells_each (x ∷ xs) s c l h =
      let r = tells_of (leaver x.what) s c in
      let y = goes_tells_of (leaver x.what) s c l h in
      goes_joined u n None on s r (tells_each xs r.state c) y (goes_tells_each xs r.state c l y.0)

  goes_tells_left : (s : State) (c : ℕ) (ns : List Note) → c < length on → IsSound None on n s.world → Steps s (tells_left s c ns)
  unfolding tells_left
  goes_tells_left s c ns l h =
      let r = tells_each ns s c in
      let x = goes_tells_each ns s c l h in
      let w = with_moved r.state.world s.world.call.has_moved in
      keeps_if (Steps s) (hears_dequeue s) (record r { state = moved_as s.world.call.has_moved r.state }) (stays s)
      (keeps_if (λ (v : State). Steps s (record r { state = v })) (is_ejected r.state) r.state (with_world r.state w) x (sound_moves None on n r.state.world s.world.call.has_moved x.0, told_plainly u n s.world w r.notes x.1.tells)) (goes_stays u n None on s h)

  goes_dispatch_called : (s : State) (c : ℕ) (p : Option ℕ) → c < length on → IsSound None on n s.world → Steps s (dispatch_called s c p)
  unfolding dispatch_called
  goes_dispatch_called s c p l h =
      let a = cpu_and_task c (told_of s p) in
      let r = call_back s callback.Dispatch a 0 c in
      let x = goes_call_back u n None on s callback.Dispatch a 0 c l h in
      goes_joined u n None on s r (tells_left r.state c (noted_by s callback.Dispatch a 0 c)) x (goes_tells_left r.state c (noted_by s callback.Dispatch a 0 c) l x.0)

  goes_dispatched : (s : State) (c : ℕ) (p : Option ℕ) → c < length on → IsSound None on n s.world → Steps s (after_dispatch s c p)
  unfolding after_dispatch supply_unless_kept
  goes_dispatched s c p l h =
      let r = dispatch_called s c p in
      let x = goes_dispatch_called s c p l h in
      goes_joined u n None on s r (supply_unless_kept r.state c p) x (keeps_if (Steps r.state) (keeps_slice r.state p) (stays r.state) (supply r.state c) (goes_stays u n None on r.state x.0) (goes_supply r.state c l x.0))

  -- asked several times
  pub goes_tries : (j : ℕ) (s : State) (c : ℕ) (p : Option ℕ) → c < length on → IsSound None on n s.world → Steps s (tries j s c p)
  unfolding tries
  goes_tries zero s c p l h = goes_stays u n None on s h
  goes_tries (suc j) s c p l h =
      let d = after_dispatch s c p in
      let x = goes_dispatched s c p l h in
      keeps_if (Steps s) (asks_again d.state c p) (one_after_other d (tries j d.state c p)) d (goes_joined u n None on s d (tries j d.state c p) x (goes_tries j d.state c p l x.0)) x
