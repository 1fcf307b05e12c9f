-- The notes of a callback and of an ejection tell of each task what is so afterwards, and nothing of the task at
-- hand.
use Rattle.std.proofs.Common.{◌≡◌, ℕ, zero, suc, ◌<◌, ◌≤◌, Bool, true, false, ◌&&◌, not, nat_lt, if◌then◌else◌, List, [], ◌∷◌, ◌++◌, length, Option, Some, None, is_none, is_some, option_map, map, refl, sym, ap, ◌∙◌, subst, arith}
use Rattle.std.proofs.lemmas.Bool.{ne_eqb}
use Rattle.scx_dsq.specs.declared.entries.Entry.{Entry}
use Rattle.scx_dsq.specs.declared.entries.Rank.TheVariants.{Fifo, Vtime}
use Rattle.scx_dsq.specs.Queues.{QueueState, entry_of, queue_of}
use Rattle.scx_dsq.specs.Calls.{create_refusal, with_queue, after_create, after_push, after_remove}
use Rattle.scx_isa_semantics.specs.declared.callbacks.Callback.{Callback}
use Rattle.scx_isa_semantics.specs.Effects.{Query, Call, Load, Store}
use Rattle.scx_isa_semantics.specs.Elements.{Maps}
use Rattle.scx_vm.specs.Arguments.{argument_of}
use Rattle.scx_vm.specs.Host.{after_query}
use Rattle.scx_vm.specs.Programs.{VerifiedProgram}
use Rattle.scx_vm.specs.declared.arguments.Args.{Args}
use Rattle.scx_sched_tasks.specs.declared.task.Task.{Task}
use Rattle.scx_sched_tasks.specs.Tasks.{default_slice}
use Rattle.scx_sched_world.specs.declared.call.Insert.{Insert}
use Rattle.scx_sched_world.specs.declared.eject.Cause.{Cause}
use Rattle.scx_sched_world.specs.declared.eject.Eject.{Eject}
use Rattle.scx_sched_world.specs.declared.eject.Eject.TheVariants as cause
use Rattle.scx_sched_world.specs.declared.notes.Note.{Note}
use Rattle.scx_sched_world.specs.declared.notes.What.TheVariants as note
use Rattle.scx_sched_world.specs.Ids.{policy_end, builtin_queue, parked_queue, local_on}
use Rattle.scx_sched_world.specs.World.{WorldState, with_queues, with_task, task_at, waits_in, waits, is_this, running, at_callback, note_now}
use Rattle.scx_sched_world.specs.Tasks.{with_slice, with_builtin, rank_by, task_after_insert, after_leave, after_local, after_enter, for_cpu, next_for}
use Rattle.scx_sched_world.specs.Helpers.{is_dispatch, insert_fault, with_insert, with_move, after_release, insert_or_fault, moved_to_local, stored_in, world_functions}
use Rattle.scx_sched_world.specs.Ejecting.{eject_of, put_out, put_builtin, builtin_vtime, evict, after_evictions, evict_note, evict_notes, after_cut, cut_task, eject_note}
use Rattle.scx_sched_policy.specs.Policy.{program_of}
use Rattle.scx_sched_machine.specs.Steps.{State, Stepped, stays, one_after_other, is_by_linux}
use Rattle.scx_sched_machine.specs.Ejecting.{moves_over, eject, ejected_for}
use Rattle.scx_sched_machine.specs.Callbacks.{call_ending, acting, cause_of, after_callback, call_back, call_by_linux}
use Rattle.scx_sched_machine.proofs.Choices.{keeps_if}
use Rattle.scx_sched.specs.Once.{IsOnce, IsSound}
use Rattle.scx_sched.proofs.Entering.{nowhere}
use Rattle.scx_sched.proofs.Marks.{Anywhere, kept_local, kept_put}
use Rattle.scx_sched.proofs.Pushes.{takes_queued, takes_held, takes_evicted}
use Rattle.scx_sched.proofs.Queries.{KeepsApart, kept_apart, kept_called}
use Rattle.scx_sched.proofs.Seen.{next_seen}
use Rattle.scx_sched.proofs.Sound.{IsFit, IsHeld, is_fit, fit_apart, held_waits, held_in_dispatch, inside, sound_query, sound_begun, sound_quiet, sound_put_out, sound_evict}
use Rattle.scx_sched.proofs.Waiting.{since_set, stored_since, given_since}
use Rattle.scx_laws.specs.Telling.{Told, tell, moved_by, told_by, told}
use Rattle.scx_laws.proofs.Noted.{told_append, told_another, same_tell, tell_task, IsAs, as_marks, insert_tells, moves_on}

-- notes of what leads from a world to another one: they tell what is so of a task afterwards, and nothing of it if it
-- is at hand
pub record IsTold (u : ℕ) (hand : Option ℕ) (w v : WorldState) (ns : List Note) : Type 0 where
  pub tells : told ns u (tell w u) ≡ tell v u
  pub silent : hand ≡ Some u → (x : Told) → told ns u x ≡ x

-- so do the notes of a step
abbrev pub TellsOf : ℕ → Option ℕ → State → Stepped → Type 0
TellsOf u hand s r = IsTold u hand s.world r.state.world r.notes

module _ (u : ℕ) (hand : Option ℕ) where
  -- where nothing changes of it
  pub told_nothing : (w v : WorldState) → tell v u ≡ tell w u → IsTold u hand w v []
  told_nothing w v same = record { tells = sym same; silent = λ e x. refl }

  -- one after the other
  pub told_both : (w v z : WorldState) (ns ms : List Note) → IsTold u hand w v ns → IsTold u hand v z ms → IsTold u hand w z (ns ++ ms)
  told_both w v z ns ms a b = record {
    tells = told_append ns ms u (tell w u) ∙ (ap (λ x. told ms u x) a.tells ∙ b.tells);
    silent = λ e x. told_append ns ms u x ∙ (ap (λ y. told ms u y) (a.silent e x) ∙ b.silent e x);
  }

  -- from a world or to one of which the same is so
  pub told_as : (w v w' v' : WorldState) (ns : List Note) → tell w' u ≡ tell w u → tell v' u ≡ tell v u → IsTold u hand w v ns → IsTold u hand w' v' ns
  told_as w v w' v' ns before afterwards a = record { tells = ap (λ x. told ns u x) before ∙ (a.tells ∙ sym afterwards); silent = a.silent }

  -- so do the notes of a step after another
  pub told_joined : (s : State) (a r : Stepped) → TellsOf u hand s a → TellsOf u hand a.state r → TellsOf u hand s (one_after_other a r)
  told_joined s a r h k = told_both s.world a.state.world r.state.world a.notes r.notes h k

  -- ---- tasks that go from queue to queue

  module _ (on : List (Option ℕ)) (n : ℕ) where
    -- who waits isn't at hand
    other : (w : WorldState) (t : ℕ) → waits w t ≡ true → IsSound hand on n w → hand ≡ Some u → u ≡ t → ⊥
    other w t here h e same =
        let none : entry_of w.queues t ≡ None = nowhere w t (subst (λ o. IsOnce o w) (e ∙ ap Some same) h.once) in
        let bad : false ≡ true = sym (ap (λ (o : Option Entry). waits_in (option_map (λ p. p.queue) o)) none) ∙ here in
        absurd (cc)

    moved : (w v : WorldState) (x : Note) (t : ℕ) → moved_by x.what ≡ Some t → told (x ∷ []) u (tell w u) ≡ tell v u → waits w t ≡ true → IsSound hand on n w → IsTold u hand w v (x ∷ [])
    moved w v x t named tells here h = record { tells = tells; silent = λ e y. told_another x u y (ap (λ o. is_this u o) named ∙ ne_eqb u t (other w t here h e)) }

    -- ---- what a program asks

    module _ (start : WorldState) where
      abbrev Follows : WorldState → Type 0
      Follows v = IsTold u hand start v v.notes

      follows_apart : KeepsApart Follows
      follows_apart w x m a b c d r h = record { tells = h.tells; silent = h.silent }

      follows_same : (w v : WorldState) → tell v u ≡ tell w u → v.notes ≡ w.notes → Follows w → Follows v
      follows_same w v same notes h = subst (λ ns. IsTold u hand start v ns) (sym notes) (told_as start w start v w.notes refl same h)

      follows_on : (w v : WorldState) (x : Note) → v.notes ≡ w.notes ++ x ∷ [] → IsTold u hand w v (x ∷ []) → Follows w → Follows v
      follows_on w v x notes a h = subst (λ ns. IsTold u hand start v ns) (sym notes) (told_both start w v w.notes (x ∷ []) h a)

      released : (w : WorldState) (t : ℕ) (i : Insert) (flags : ℕ) → is_dispatch w.call.callback ≡ true → insert_fault w (Some t) i flags ≡ None → IsSound hand on n w → Follows w → Follows (after_release w (Some t) (for_cpu w.call.cpu i))
      released w t i flags here none h f = follows_on w v (note_now (with_move v0) (note.Insert t j.queue)) (ap (λ ns. ns ++ note_now (with_move v0) (note.Insert t j.queue) ∷ []) same.notes) (moved w v (note_now (with_move v0) (note.Insert t j.queue)) t refl tells held.waits h) f
        where
          j : Insert
          j = for_cpu w.call.cpu i

          v0 : WorldState
          v0 = after_enter (after_leave w t) t j

          v : WorldState
          v = after_release w (Some t) j

          fit : IsFit w (Some t) i
          fit = is_fit w (Some t) i flags none

          held : IsHeld w t
          held = held_waits w t (held_in_dispatch w (Some t) here fit.may)

          s : QueueState
          s = after_push (after_remove w.queues t) j.queue t (rank_by w j.rank)

          same : IsAs w s v0
          same =
              kept_put Anywhere (IsAs w s) (as_marks w s) (after_leave w t) t j (inside n w t (subst (λ k. t < k) h.even held.known) h.tasks)
              (record { queues = refl; cpus = refl; active = refl; since = λ k. since_set w.tasks t (task_after_insert (task_at w t) j) (given_since (task_at w t) j) k; notes = refl })

          tells : told (note_now (with_move v0) (note.Insert t j.queue) ∷ []) u (tell w u) ≡ tell v u
          tells =
              moves_on hand on n w v0 (note_now (with_move v0) (note.Insert t j.queue)) t j.queue u (rank_by w j.rank) same (takes_held hand on n w t i flags here none h) held.waits h refl
              (insert_tells t j.queue v0.clock (fit_apart w i.queue w.call.cpu fit.queue))

      follows_inserted : (w : WorldState) (t : Option ℕ) (i : Insert) (flags : ℕ) → insert_fault w t i flags ≡ None → IsSound hand on n w → Follows w → Follows (insert_or_fault w None t i)
      follows_inserted w t i flags none h f = go (is_dispatch w.call.callback) refl t none
        where
          go : (b : Bool) → is_dispatch w.call.callback ≡ b → (o : Option ℕ) → insert_fault w o i flags ≡ None → Follows (if b then after_release w o (for_cpu w.call.cpu i) else with_insert w i)
          go true here None x = f
          go true here (Some k) x = released w k i flags here x h f
          go false here o x = record { tells = f.tells; silent = f.silent }

      follows_moved : (w : WorldState) (q : ℕ) (o : Option ℕ) → ((t : ℕ) → o ≡ Some t → queue_of w.queues t ≡ Some q) → q < policy_end → IsSound hand on n w → Follows w → Follows (moved_to_local w o)
      follows_moved w q None there low h f = f
      follows_moved w q (Some t) there low h f = follows_on w v x (ap (λ ns. ns ++ x ∷ []) same.notes) (moved w v x t refl tells here h) f
        where
          c : ℕ
          c = w.call.cpu

          v0 : WorldState
          v0 = after_local (after_leave w t) c t

          x : Note
          x = note_now (with_move v0) (note.Move t c)

          v : WorldState
          v = moved_to_local w (Some t)

          here : waits w t ≡ true
          here = ap (λ o. waits_in o) (there t refl) ∙ ap (λ b. not b) (ne_eqb q parked_queue (λ e. omega (arith, e, low)))

          s : QueueState
          s = after_push (after_remove w.queues t) (local_on c) t Fifo

          same : IsAs w s v0
          same = kept_local Anywhere (IsAs w s) (as_marks w s) (after_leave w t) c t tt (record { queues = refl; cpus = refl; active = refl; since = λ k. refl; notes = refl })

          tells : told (x ∷ []) u (tell w u) ≡ tell v u
          tells = moves_on hand on n w v0 x t (local_on c) u Fifo same (takes_queued hand on n w q c t h.here.hand (there t refl) h) here h refl (λ y some. refl)

      follows_query : (w : WorldState) (q : Query) → IsSound hand on n w → Follows w → Follows (after_query world_functions w q)
      follows_query w (Call f a) h k =
          kept_apart Follows follows_apart w k (λ i o new. record { tells = k.tells; silent = k.silent })
          (λ q. follows_same w (with_queues w (after_create w.queues q)) (same_tell w (with_queues w (after_create w.queues q)) u refl refl (keeps_if (λ (x : QueueState). entry_of x u ≡ entry_of w.queues u) (is_none (create_refusal w.queues q)) (with_queue w.queues q) w.queues refl refl) refl) refl k)
          (λ t i flags back none. follows_inserted w t i flags none h k) (λ q here low. follows_moved w q (next_for w q w.call.cpu) (λ t e. (next_seen w q w.call.cpu t e).there) low h k) f (map argument_of a)
      follows_query w (Load t f) h k = k
      follows_query w (Store t f x) h k = follows_same w (with_task w t.0 (stored_in (task_at w t.0) f x)) (tell_task w t.0 u (stored_in (task_at w t.0) f x) (stored_since (task_at w t.0) f x)) refl k

    -- the run of a callback
    told_called : (p : Option VerifiedProgram) (b : Callback) (a : Args) (maps : Maps) (w : WorldState) → w.notes ≡ [] → IsSound hand on n w → let v = (call_ending p b a maps w).outside in IsSound hand on n v × IsTold u hand w v v.notes
    told_called p b a maps w none h =
        kept_called (λ v. IsSound hand on n v × IsTold u hand w v v.notes) (λ v q x. (sound_query hand on n v q x.0, follows_query w v q x.0 x.1)) p b a maps w (h, subst (λ ns. IsTold u hand w w ns) (sym none) (told_nothing w w refl))

    -- ---- an ejection

    -- what a task that waits for the built-in scheduler changes
    pub put_as : (w : WorldState) (t : ℕ) → nat_lt t (length w.tasks) ≡ true → IsAs w (after_push w.queues builtin_queue t (Vtime (builtin_vtime w t))) (put_builtin w t)
    put_as w t known = go (nat_lt t (length w.tasks)) known
      where
        s : QueueState
        s = after_push w.queues builtin_queue t (Vtime (builtin_vtime w t))

        x : Task
        x = with_builtin (with_slice (task_at w t) default_slice) (builtin_vtime w t)

        go : (b : Bool) → b ≡ true → IsAs w s (if b then with_queues (with_task w t x) s else w)
        go true e = record { queues = refl; cpus = refl; active = refl; since = λ k. since_set w.tasks t x refl k; notes = refl }
        go false e = absurd (cc)

    told_evicted : (w : WorldState) (t : ℕ) → t < n → IsSound hand on n w → IsTold u hand w (evict w t) (evict_note w t)
    told_evicted w t within h = go (waits w t) refl
      where
        x : Note
        x = note_now w (note.Insert t builtin_queue)

        over : waits w t ≡ true → IsTold u hand w (put_builtin (after_leave w t) t) (x ∷ [])
        over here =
            let same = put_as (after_leave w t) t (inside n w t within h.tasks) in
            let v = put_builtin (after_leave w t) t in
            moved w v x t refl (moves_on hand on n w v x t builtin_queue u (Vtime (builtin_vtime w t)) (record { queues = same.queues; cpus = same.cpus; active = same.active; since = same.since; notes = same.notes }) (takes_evicted hand on n w t here h) here h refl (insert_tells t builtin_queue w.clock refl)) here h

        go : (b : Bool) → waits w t ≡ b → IsTold u hand w (if b then put_builtin (after_leave w t) t else w) (if b then x ∷ [] else [])
        go true e = over e
        go false e = told_nothing w w refl

    told_evictions : (j : ℕ) (w : WorldState) → j ≤ n → IsSound hand on n w → IsSound hand on n (after_evictions j w) × IsTold u hand w (after_evictions j w) (evict_notes j w)
    told_evictions zero w l h = (h, told_nothing w w refl)
    told_evictions (suc j) w l h =
        let v = after_evictions j w in
        let x = told_evictions j w (omega (arith, l)) h in
        (sound_evict hand on n v j (omega (arith, l)) x.0, told_both w v (evict v j) (evict_notes j w) (evict_note v j) x.1 (told_evicted v j (omega (arith, l)) x.0))

    cut_one : (o : Option ℕ) (w : WorldState) → tell (cut_task o w) u ≡ tell w u
    cut_one None w = refl
    cut_one (Some t) w = tell_task w t u _ refl

    cut_all : (j : ℕ) (w : WorldState) → tell (after_cut j w) u ≡ tell w u
    cut_all zero w = refl
    cut_all (suc j) w = let v = after_cut j w in cut_one (running v j) v ∙ cut_all j w

    cause_tells : (x : Eject) (now : ℕ) (y : Told) → told_by (record { clock = now; what = eject_note x }) u y ≡ y
    cause_tells (cause.Stall t k) now y = refl
    cause_tells (cause.Fault f k) now y = refl
    cause_tells (cause.Exit c k) now y = refl

    -- the notes of an ejection tell of each task, and nothing of the one at hand
    pub told_eject : (s : State) (x : Eject) → IsSound hand on n s.world → TellsOf u hand s (eject s x)
    unfolding eject moves_over
    told_eject s x h = record { tells = ap (λ y. told (evict_notes m w) u y) (cause_tells x s.world.clock (tell s.world u)) ∙ gone.tells; silent = λ e y. ap (λ z. told (evict_notes m w) u z) (cause_tells x s.world.clock y) ∙ gone.silent e y }
      where
        w : WorldState
        w = put_out s.world x

        m : ℕ
        m = length w.tasks

        v : WorldState
        v = after_evictions m w

        gone : IsTold u hand w (after_cut (length v.cpus) v) (evict_notes m w)
        gone = told_as w v w (after_cut (length v.cpus) v) (evict_notes m w) refl (cut_all (length v.cpus) v) (told_evictions m w (omega (arith, h.tasks)) (sound_put_out hand on n s.world x h)).1

    told_ejected_for : (o : Option Cause) (s : State) → IsSound hand on n s.world → TellsOf u hand s (ejected_for o s)
    told_ejected_for None s h = told_nothing s.world s.world refl
    told_ejected_for (Some x) s h = told_eject s (eject_of x s.world.clock) h

    -- ---- a callback

    -- so do the notes of a callback
    pub told_call_back : (s : State) (b : Callback) (a : Args) (t c : ℕ) → c < length on → IsSound hand on n s.world → TellsOf u hand s (call_back s b a t c)
    unfolding call_back
    told_call_back s b a t c l h =
        let w = at_callback s.world b t c in
        let e = call_ending (acting s b) b a s.maps w in
        let x = told_called (acting s b) b a s.maps w refl (sound_begun hand on n s.world b t c l h) in
        let v = after_callback s.policy e in
        let r = ejected_for (cause_of b e) v in
        told_both s.world v.world r.state.world e.outside.notes r.notes (told_as w e.outside s.world v.world e.outside.notes refl refl x.1) (told_ejected_for (cause_of b e) v (sound_quiet hand on n e.outside x.0))

    -- one that Linux rules call more
    pub told_call_by_linux : (s : State) (b : Callback) (a : Args) (t c : ℕ) → c < length on → IsSound hand on n s.world → TellsOf u hand s (call_by_linux s b a t c)
    unfolding call_by_linux
    told_call_by_linux s b a t c l h = keeps_if (TellsOf u hand s) (is_by_linux s && is_some (program_of s.policy b)) (call_back s b a t c) (stays s) (told_call_back s b a t c l h) (told_nothing s.world s.world refl)
