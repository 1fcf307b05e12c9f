-- The notes of a CPU that looks for a task tell the state of each task afterwards.
use Rattle.std.proofs.Common.{◌≡◌, ℕ, ◌+◌, ◌<◌, Bool, true, false, ◌==◌, ◌&&◌, not, if◌then◌else◌, List, [], ◌∷◌, ◌++◌, length, set, get_or, position, Option, Some, None, is_some, option_map, refl, sym, ap, ◌∙◌, subst, arith}
use Rattle.scx_laws.proofs.BindingTasks.{nobody_is}
use Rattle.std.proofs.lemmas.Bool.{eq-eqb, ne_eqb, and_parts}
use Rattle.std.proofs.lemmas.List.{length-set, get_or-set_same, get_or-set_other}
use Rattle.scx_dsq.specs.declared.entries.Entry.{Entry}
use Rattle.scx_dsq.specs.Queues.{entry_of, front_of}
use Rattle.scx_dsq.specs.Laws.{one_if, standing}
use Rattle.scx_isa_semantics.specs.declared.callbacks.Callback.TheVariants as callback
use Rattle.scx_sched_tasks.specs.declared.task.Task.{Task}
use Rattle.scx_sched_tasks.specs.Tasks.{no_task}
use Rattle.scx_sched_world.specs.declared.notes.Note.{Note}
use Rattle.scx_sched_world.specs.declared.notes.What.TheVariants as note
use Rattle.scx_sched_world.specs.Ids.{local_on}
use Rattle.scx_sched_world.specs.World.{WorldState, task_at, is_this, is_runnable, out_of_cycle, running, note_now}
use Rattle.scx_sched_world.specs.Tasks.{with_since, on_cpu, to_front, after_stop, started_at, after_run, after_switch, after_keep, with_new_slice}
use Rattle.scx_sched_world.proofs.Fronts.{front_in}
use Rattle.scx_sched_world.specs.Ejecting.{after_catch_up, after_charge}
use Rattle.scx_sched_machine.specs.Steps.{State, Stepped, stays, with_world, after, one_after_other, is_ejected, is_by_linux, kicked}
use Rattle.scx_sched_machine.specs.Callbacks.{call_by_linux, two_numbers}
use Rattle.scx_sched_machine.specs.Put.{enters, put}
use Rattle.scx_sched_machine.specs.Parking.{supply}
use Rattle.scx_sched_machine.specs.Cycle.{has_local, keeps_slice, asks_again, tries, put_back, leave, switched, started_if, start as run_front, hears_idle, tells_idle, idle_note, rest_notes, kept, rest, swap, swap_or_rest, builtin_fill, builtin_ask, builtin_cycle, start_or_cycle, picked, refilled, is_local, start_picked, start_picked_or_cycle, tells_busy, makes_way, pick, pick_or_rest, keep_or_pick, conclude, give_up, ask, seek, look, cycling, ends, falls_idle, notes_idle, idle_or_anew, becomes_idle, concluded, cycle}
use Rattle.scx_sched_machine.proofs.Choices.{keeps_if}
use Rattle.scx_sched.specs.Kept.{InFront}
use Rattle.scx_sched.specs.Once.{runs, IsSound}
use Rattle.scx_sched.proofs.Entering.{one_le}
use Rattle.scx_sched.proofs.Marks.{kept_cycling}
use Rattle.scx_sched.proofs.Skeleton.{IsKnown, keeps_kicked, keeps_switched}
use Rattle.scx_sched.proofs.Sound.{left_place, popped_other, removed_place, in_known, place_known, sound_stopped, sound_started, sound_ran, sound_kept, sound_cycling, sound_ended}
use Rattle.scx_sched.proofs.Waiting.{removed_other, renewed_since}
use Rattle.scx_laws.specs.Telling.{Told, tell, since_stop, told_of, told}
use Rattle.scx_sched.proofs.Stepwise.{IsSwitch, by_stop, by_start}
use Rattle.scx_laws.proofs.Noted.{same_told, one_note, no_cpu, cpu_set_here, cpu_set_other, tell_task}
use Rattle.scx_laws.proofs.NotedCalls.{IsTold, TellsOf, told_nothing, told_both}
use Rattle.scx_laws.proofs.NotedPuts.{sound_steps, Goes, Puts, told_plainly, puts_told, goes_stays, goes_call_by_linux, goes_stops, goes_runs, puts_enters, puts_put}
use Rattle.scx_laws.proofs.NotedDispatch.{goes_supply, goes_builtin_fill, goes_tries}

-- a task that leaves its CPU was runnable, and runs nowhere
off_cpu : (b : Bool) (j k : ℕ) → j + k + 1 ≡ one_if b → (b ≡ true) × (j ≡ 0)
off_cpu true j k e = (refl, omega (arith, e))
off_cpu false j k e = absurd (omega (arith, e))

-- a CPU that is idle is noted, and tells nothing of a task
idle_tells : (w : WorldState) (p : Option ℕ) (b : Bool) (c u : ℕ) (x : Told) → told (idle_note w p b c) u x ≡ x
idle_tells w None true c u x = refl
idle_tells w None false c u x = refl
idle_tells w (Some t) b c u x = refl

module _ (u n : ℕ) where
  -- ---- on and off a CPU

  -- a task that leaves its CPU waits, and this is noted
  pub stops : (on : List (Option ℕ)) (w : WorldState) (c t : ℕ) → c < length on → t < n → get_or on c None ≡ Some t → IsSound None on n w → told (note_now w (note.Stop t c) ∷ []) u (tell w u) ≡ tell (after_stop w c t) u
  stops on w c t l within runs-on h = one_note (note_now w (note.Stop t c)) t u (tell w u) (tell v u) refl (λ e. subst (λ j. told_of (note.Stop t c) w.clock (tell w j) ≡ tell v j) (sym e) at) others
    where
      v : WorldState
      v = after_stop w c t

      k : IsSound (Some t) (set on c None) n v
      k = sound_stopped on n w c t l within runs-on h

      new : Task
      new = with_since (task_at w t) (Some w.clock)

      hand : (is_runnable w t ≡ true) × (runs v.cpus t ≡ 0)
      hand = off_cpu (is_runnable w t) (runs v.cpus t) (standing v.queues t) (omega (arith, k.once t, ap one_if (eq-eqb t t refl)))

      at : told_of (note.Stop t c) w.clock (tell w t) ≡ tell v t
      at = same_told (told_of (note.Stop t c) w.clock (tell w t)) (tell v t) refl (sym (no_cpu v.cpus t hand.1)) refl (ap (λ b. since_stop b w.clock) hand.0 ∙ sym (ap (λ (x : Task). x.since) (get_or-set_same w.tasks t new no_task (subst (λ j. t < j) (sym h.tasks) within))))

      others : (u ≡ t → ⊥) → tell w u ≡ tell v u
      others d =
          same_told (tell w u) (tell v u) refl (sym (cpu_set_other w.cpus u c None (ap (λ (xs : List (Option ℕ)). is_this u (get_or xs c None)) h.cpus ∙ (ap (λ o. is_this u o) runs-on ∙ ne_eqb u t d)) refl)) refl
          (sym (ap (λ (x : Task). x.since) (get_or-set_other w.tasks t u new no_task d)))

  starts : (on : List (Option ℕ)) (w v : WorldState) (c t : ℕ) (new : Task) → c < length on → get_or on c None ≡ None → t < n → is_some (entry_of w.queues t) ≡ true → v.tree.active ≡ w.tree.active → v.cpus ≡ set w.cpus c (Some t) → v.tasks ≡ set w.tasks t new → new.since ≡ None
      → entry_of v.queues t ≡ None → ((k : ℕ) → (k ≡ t → ⊥) → entry_of v.queues k ≡ entry_of w.queues k) → IsSound None on n w → told (note_now w (note.Run t c) ∷ []) u (tell w u) ≡ tell v u
  starts on w v c t new l free within there active cpus tasks none gone left h = one_note (note_now w (note.Run t c)) t u (tell w u) (tell v u) refl (λ e. subst (λ j. told_of (note.Run t c) w.clock (tell w j) ≡ tell v j) (sym e) at) others
    where
      off : runs w.cpus t ≡ 0
      off = omega (arith, h.once t, ap one_if there, one_le (is_runnable w t))

      l' : c < length w.cpus
      l' = subst (λ (xs : List (Option ℕ)). c < length xs) (sym h.cpus) l

      at : told_of (note.Run t c) w.clock (tell w t) ≡ tell v t
      at =
          same_told (told_of (note.Run t c) w.clock (tell w t)) (tell v t) (ap (λ xs. get_or xs t false) (sym active)) (sym (ap (λ xs. position (is_this t) xs) cpus ∙ cpu_set_here w.cpus t c off l')) (ap (λ (o : Option Entry). option_map (λ p. p.queue) o) (sym gone))
          (sym (ap (λ (xs : List Task). (get_or xs t no_task).since) tasks ∙ (ap (λ (x : Task). x.since) (get_or-set_same w.tasks t new no_task (subst (λ j. t < j) (sym h.tasks) within)) ∙ none)))

      others : (u ≡ t → ⊥) → tell w u ≡ tell v u
      others d =
          same_told (tell w u) (tell v u) (ap (λ xs. get_or xs u false) (sym active))
          (sym (ap (λ xs. position (is_this u) xs) cpus ∙ cpu_set_other w.cpus u c (Some t) (ap (λ (xs : List (Option ℕ)). is_this u (get_or xs c None)) h.cpus ∙ ap (λ o. is_this u o) free) (ne_eqb u t d))) (ap (λ (o : Option Entry). option_map (λ p. p.queue) o) (sym (left u d)))
          (sym (ap (λ (xs : List Task). (get_or xs u no_task).since) tasks ∙ ap (λ (x : Task). x.since) (get_or-set_other w.tasks t u new no_task d)))

  -- a step from no task at hand to none, with these on the CPUs afterwards
  abbrev pub Goes-to : State → Stepped → List (Option ℕ) → Type 0
  Goes-to s r on = Goes u n None on s r

  -- with some on the CPUs, of which that one is there
  abbrev pub Some-on : ℕ → State → Stepped → Type 0
  Some-on c s r = (on : List (Option ℕ)) × (c < length on) × Goes-to s r on

  -- and on which no task runs
  abbrev Left : ℕ → State → Stepped → Type 0
  Left c s r = (on : List (Option ℕ)) × (c < length on) × (get_or on c None ≡ None) × Goes-to s r on

  -- one step after another, with others on the CPUs
  pub joins : (on : List (Option ℕ)) (s : State) (a r : Stepped) → TellsOf u None s a → Goes-to a.state r on → Goes-to s (one_after_other a r) on
  joins on s a r x y = (y.0, told_both u None s.world a.state.world r.state.world a.notes r.notes x y.1)

  -- a step after a note
  notes_first : (s v : State) (x : Note) (ns : List Note) (z : WorldState) → told (x ∷ []) u (tell s.world u) ≡ tell v.world u → told ns u (tell v.world u) ≡ tell z u → IsTold u None s.world z (x ∷ ns)
  notes_first s v x ns z first rest-so = told_plainly u n s.world z (x ∷ ns) (ap (λ y. told ns u y) first ∙ rest-so)

  -- a task that begins to run may get a longer slice
  same_switched : (s : State) (t : ℕ) → tell (switched s t).world u ≡ tell s.world u
  unfolding switched
  same_switched s t = keeps_if (λ (r : State). tell r.world u ≡ tell s.world u) (is_by_linux s && not (s.policy.tick_ms == 0)) (with_world s (after_switch s.world t)) s (tell_task s.world t u _ refl) refl

  sound_switched : (on : List (Option ℕ)) (s : State) (t : ℕ) → IsSound None on n s.world → IsSound None on n (switched s t).world
  sound_switched on s t h = keeps_switched n (λ m hand on w. IsSound hand on n w) (sound_steps n) 0 None on s t h

  -- a task begins to run, which is noted, and then the policy hears it
  abbrev run_with : State → ℕ → ℕ → Stepped → Stepped
  run_with s c t r = after (note_now s.world (note.Run t c) ∷ []) r

  -- once a task was started
  begins : (on : List (Option ℕ)) (s v : State) (c t : ℕ) → c < length on → told (note_now s.world (note.Run t c) ∷ []) u (tell s.world u) ≡ tell v.world u → IsSound None (set on c (Some t)) n v.world → (r : Stepped) → IsSwitch (switched v t) t c (after_catch_up (switched v t).world t) r → Some-on c s (run_with s c t r)
  begins on s v c t l first h r is =
      let l' : c < length (set on c (Some t)) = rw (length-set on c (Some t)) l in
      let x = goes_runs u n None (set on c (Some t)) (switched v t) t c l' (sound_switched (set on c (Some t)) v t h) r is in
      (set on c (Some t), l', (x.0, notes_first s v (note_now s.world (note.Run t c)) r.notes r.state.world first (ap (λ y. told r.notes u y) (sym (same_switched v t)) ∙ x.1.tells)))

  goes_start : (on : List (Option ℕ)) (s : State) (c : ℕ) → c < length on → get_or on c None ≡ None → IsSound None on n s.world → Some-on c s (run_front s c)
  unfolding run_front
  goes_start on s c l free h = go (front_of s.world.queues (local_on c)) refl
    where
      go : (o : Option ℕ) → front_of s.world.queues (local_on c) ≡ o → Some-on c s (started_if o s c)
      go None e = (on, l, goes_stays u n None on s h)
      go (Some t) e =
          let w = s.world in
          let v = with_world s (started_at (Some t) w c) in
          let there = place_known w.queues (local_on c) t (front_in w.queues (local_on c) t e) in
          let first = starts on w v.world c t (on_cpu (task_at w t) c) l free (subst (λ j. t < j) h.even there.0) there.1 refl refl refl refl (left_place w.queues (local_on c) t e) (λ k d. popped_other w.queues (local_on c) t k e d) h in
          by_start (λ (r : Stepped). Some-on c s (run_with s c t r)) (switched v t) c t (begins on s v c t l first (sound_started on n w c t l free e h))

  -- a task that was picked runs, from wherever it waits in the local queue
  goes_start_picked : (on : List (Option ℕ)) (s : State) (c t : ℕ) → c < length on → get_or on c None ≡ None → is_local s c t ≡ true → IsSound None on n s.world → Some-on c s (start_picked s c t)
  unfolding start_picked
  goes_start_picked on s c t l free here h =
      let w = s.world in
      let v = with_world s (after_run w c t) in
      let there = in_known w.queues (local_on c) t here in
      let first = starts on w v.world c t (on_cpu (task_at w t) c) l free (subst (λ j. t < j) h.even there.0) there.1 refl refl refl refl (removed_place w.queues t there.1 there.0) (λ k d. removed_other w.queues t k d) h in
      by_start (λ (r : Stepped). Some-on c s (run_with s c t r)) (switched v t) c t (begins on s v c t l first (sound_ran on n w c t l free here h))

  -- a task that was stopped is put, or goes to the front
  puts_back : (on : List (Option ℕ)) (s : State) (c t : ℕ) → t < n → c < length on → IsSound (Some t) on n s.world → Puts u n on t s (put_back s c t)
  unfolding put_back
  puts_back on s c t within l h = go (is_by_linux s) (not ((task_at s.world t).slice == 0)) refl
    where
      go : (b x : Bool) → is_by_linux s ≡ b → Puts u n on t s (if b && x then enters s t (to_front c) else put s t c 0)
      go true true e = puts_enters u n on t s (to_front c) within (InFront c l e refl) h
      go true false e = puts_put u n on t s c 0 within l h
      go false x e = puts_put u n on t s c 0 within l h

  goes_leave : (on : List (Option ℕ)) (s : State) (c : ℕ) (p : Option ℕ) → c < length on → IsKnown n p → get_or on c None ≡ p → IsSound None on n s.world → Left c s (leave s c p)
  unfolding leave
  goes_leave on s c None l known runs-on h = (on, l, runs-on, goes_stays u n None on s h)
  goes_leave on s c (Some t) l known runs-on h = by_stop (λ (r : Stepped). Left c s (after (note_now s.world (note.Stop t c) ∷ []) (one_after_other r (put_back r.state c t)))) off c t 1 left
    where
      now : List (Option ℕ)
      now = set on c None

      l' : c < length now
      l' = rw (length-set on c None) l

      off : State
      off = with_world s (after_stop s.world c t)

      left : (r : Stepped) → IsSwitch off t c (after_charge off.world t) r → Left c s (after (note_now s.world (note.Stop t c) ∷ []) (one_after_other r (put_back r.state c t)))
      left r is =
          let x = goes_stops u n (Some t) now off t c l' (sound_stopped on n s.world c t l known runs-on h) r is in
          let b = put_back r.state c t in
          let back = puts_back now r.state c t known l' x.0 in
          (now, l', get_or-set_same {A = Option ℕ} on c None None l, (back.0, notes_first s off (note_now s.world (note.Stop t c)) (r.notes ++ b.notes) b.state.world (stops on s.world c t l known runs-on h) (told_both u None off.world r.state.world b.state.world r.notes b.notes (told_plainly u n off.world r.state.world r.notes x.1.tells) (puts_told u n now t r.state b x.0 back)).tells))

  -- ---- no task comes

  goes_rest : (on : List (Option ℕ)) (s : State) (c : ℕ) (p : Option ℕ) (ran : Bool) → c < length on → IsSound None on n s.world → Some-on c s (rest s c p ran)
  unfolding rest
  goes_rest on s c None ran l h = (on, l, (h, told_plainly u n s.world s.world (rest_notes s c None ran) (idle_tells s.world None (ran && not (hears_idle s)) c u (tell s.world u))))
  goes_rest on s c (Some t) ran l h =
      let v = with_world s (after_keep s.world (Some t)) in
      (on, l, (sound_switched on v t (sound_kept on n s.world t h), told_plainly u n s.world (switched v t).world [] (sym (same_switched v t ∙ tell_task s.world t u (with_new_slice (task_at s.world t)) (renewed_since (task_at s.world t))))))

  -- ---- the built-in scheduler

  goes_swap : (on : List (Option ℕ)) (s : State) (c : ℕ) (p : Option ℕ) → c < length on → IsKnown n p → get_or on c None ≡ p → IsSound None on n s.world → Some-on c s (swap s c p)
  unfolding swap
  goes_swap on s c p l known runs-on h =
      let x = goes_leave on s c p l known runs-on h in
      let y = goes_start x.0 (leave s c p).state c x.1 x.2 x.3.0 in
      (y.0, y.1, joins y.0 s (leave s c p) (run_front (leave s c p).state c) x.3.1 y.2)

  goes_swap_or_rest : (on : List (Option ℕ)) (s : State) (c : ℕ) (p : Option ℕ) (ran : Bool) → c < length on → IsKnown n p → get_or on c None ≡ p → IsSound None on n s.world → Some-on c s (swap_or_rest s c p ran)
  unfolding swap_or_rest
  goes_swap_or_rest on s c p ran l known runs-on h = keeps_if (Some-on c s) (has_local s c) (swap s c p) (rest s c p ran) (goes_swap on s c p l known runs-on h) (goes_rest on s c p ran l h)

  goes_builtin_cycle : (on : List (Option ℕ)) (s : State) (c : ℕ) (p : Option ℕ) (ran : Bool) → c < length on → IsKnown n p → get_or on c None ≡ p → IsSound None on n s.world → Some-on c s (builtin_cycle s c p ran)
  unfolding builtin_cycle builtin_ask
  goes_builtin_cycle on s c p ran l known runs-on h =
      let f = supply s c in
      let x = goes_supply u n on s c l h in
      let b = builtin_fill f.state c in
      let y = goes_builtin_fill u n on f.state c l x.0 in
      let z = goes_swap_or_rest on b.state c p ran l known runs-on y.0 in
      (z.0, z.1, joins z.0 s f (builtin_ask f.state c p ran) x.1 (joins z.0 f.state b (swap_or_rest b.state c p ran) y.1 z.2))

  -- ---- the policy

  goes_start_or_cycle : (on : List (Option ℕ)) (s : State) (c : ℕ) (ran : Bool) → c < length on → get_or on c None ≡ None → IsSound None on n s.world → Some-on c s (start_or_cycle s c ran)
  unfolding start_or_cycle
  goes_start_or_cycle on s c ran l free h = keeps_if (Some-on c s) (has_local s c) (run_front s c) (builtin_cycle s c None ran) (goes_start on s c l free h) (goes_builtin_cycle on s c None ran l tt free h)

  goes_picked_or_cycle : (on : List (Option ℕ)) (o : Option ℕ) (s : State) (c : ℕ) (ran : Bool) → c < length on → get_or on c None ≡ None → IsSound None on n s.world → Some-on c s (start_picked_or_cycle o s c ran)
  goes_picked_or_cycle on None s c ran l free h = goes_start_or_cycle on s c ran l free h
  goes_picked_or_cycle on (Some t) s c ran l free h = go (is_local s c t) refl
    where
      go : (b : Bool) → is_local s c t ≡ b → Some-on c s (if b then start_picked s c t else start_or_cycle s c ran)
      go true here = goes_start_picked on s c t l free here h
      go false gone = goes_start_or_cycle on s c ran l free h

  goes_tells_busy : (on : List (Option ℕ)) (s : State) (c : ℕ) (p : Option ℕ) (ran : Bool) → c < length on → IsSound None on n s.world → Goes-to s (tells_busy s c p ran) on
  unfolding tells_busy tells_idle
  goes_tells_busy on s c None false l h = goes_call_by_linux u n None on s _ _ 0 c l h
  goes_tells_busy on s c None true l h = goes_stays u n None on s h
  goes_tells_busy on s c (Some t) ran l h = goes_stays u n None on s h

  goes_makes_way : (on : List (Option ℕ)) (s : State) (c : ℕ) (p : Option ℕ) (ran : Bool) → c < length on → IsKnown n p → get_or on c None ≡ p → IsSound None on n s.world → Left c s (makes_way s c p ran)
  unfolding makes_way
  goes_makes_way on s c p ran l known runs-on h =
      let b = tells_busy s c p ran in
      let x = goes_tells_busy on s c p ran l h in
      let y = goes_leave on b.state c p l known runs-on x.0 in
      (y.0, y.1, y.2, joins y.0 s b (leave b.state c p) x.1 y.3)

  -- a task that is picked gets a slice
  goes_refilled : (on : List (Option ℕ)) (s : State) (o : Option ℕ) → IsSound None on n s.world → IsSound None on n (refilled s o).world × (tell (refilled s o).world u ≡ tell s.world u)
  goes_refilled on s None h = (h, refl)
  goes_refilled on s (Some t) h = (sound_kept on n s.world t h, tell_task s.world t u (with_new_slice (task_at s.world t)) (renewed_since (task_at s.world t)))

  -- a step from a state of which the same is so
  pub goes_from : (on : List (Option ℕ)) (s v : State) (r : Stepped) → tell v.world u ≡ tell s.world u → Goes-to v r on → Goes-to s r on
  goes_from on s v r same x = (x.0, told_plainly u n s.world r.state.world r.notes (ap (λ y. told r.notes u y) (sym same) ∙ x.1.tells))

  goes_pick : (on : List (Option ℕ)) (s : State) (c : ℕ) (p : Option ℕ) (ran : Bool) → c < length on → IsKnown n p → get_or on c None ≡ p → IsSound None on n s.world → Some-on c s (pick s c p ran)
  unfolding pick
  goes_pick on s c p ran l known runs-on h =
      let o = picked s c in
      let v = refilled s o in
      let f = goes_refilled on s o h in
      let m = makes_way v c p ran in
      let x = goes_makes_way on v c p ran l known runs-on f.0 in
      let y = goes_picked_or_cycle x.0 o m.state c ran x.1 x.2 x.3.0 in
      (y.0, y.1, goes_from y.0 s v (one_after_other m (start_picked_or_cycle o m.state c ran)) f.1 (joins y.0 v m (start_picked_or_cycle o m.state c ran) x.3.1 y.2))

  goes_pick_or_rest : (on : List (Option ℕ)) (s : State) (c : ℕ) (p : Option ℕ) (ran : Bool) → c < length on → IsKnown n p → get_or on c None ≡ p → IsSound None on n s.world → Some-on c s (pick_or_rest s c p ran)
  unfolding pick_or_rest
  goes_pick_or_rest on s c p ran l known runs-on h = keeps_if (Some-on c s) (has_local s c) (pick s c p ran) (rest s c p ran) (goes_pick on s c p ran l known runs-on h) (goes_rest on s c p ran l h)

  goes_keep_or_pick : (on : List (Option ℕ)) (s : State) (c : ℕ) (p : Option ℕ) (ran : Bool) → c < length on → IsKnown n p → get_or on c None ≡ p → IsSound None on n s.world → Some-on c s (keep_or_pick s c p ran)
  unfolding keep_or_pick
  goes_keep_or_pick on s c p ran l known runs-on h = keeps_if (Some-on c s) (keeps_slice s p) (stays (kept s p)) (pick_or_rest s c p ran) (on, l, keeps p) (goes_pick_or_rest on s c p ran l known runs-on h)
    where
      keeps : (q : Option ℕ) → Goes-to s (stays (kept s q)) on
      keeps None = goes_stays u n None on s h
      keeps (Some t) = (sound_switched on s t h, told_nothing u None s.world (switched s t).world (same_switched s t))

  goes_conclude : (on : List (Option ℕ)) (s : State) (c : ℕ) (p : Option ℕ) (ran : Bool) → c < length on → IsKnown n p → get_or on c None ≡ p → IsSound None on n s.world → Some-on c s (conclude s c p ran)
  unfolding conclude
  goes_conclude on s c p ran l known runs-on h = keeps_if (Some-on c s) (is_ejected s) (builtin_cycle s c p ran) (keep_or_pick s c p ran) (goes_builtin_cycle on s c p ran l known runs-on h) (goes_keep_or_pick on s c p ran l known runs-on h)

  goes_ask : (on : List (Option ℕ)) (s : State) (c : ℕ) (p : Option ℕ) (ran : Bool) → c < length on → IsKnown n p → get_or on c None ≡ p → IsSound None on n s.world → Some-on c s (ask s c p ran)
  unfolding ask give_up
  goes_ask on s c p ran l known runs-on h =
      let d = tries 32 s c p in
      let x = goes_tries u n on 32 s c p l h in
      let v = give_up d.state c p in
      let g : IsSound None on n v.world × (tell v.world u ≡ tell d.state.world u) = keeps_if (λ (r : State). IsSound None on n r.world × (tell r.world u ≡ tell d.state.world u)) (is_by_linux d.state && asks_again d.state c p) (kicked d.state c) d.state (keeps_kicked n (λ m hand on w. IsSound hand on n w) (sound_steps n) 0 None on d.state c x.0, refl) (x.0, refl) in
      let y = goes_conclude on v c p ran l known runs-on g.0 in
      (y.0, y.1, joins y.0 s d (conclude v c p ran) x.1 (goes_from y.0 d.state v (conclude v c p ran) g.1 y.2))

  goes_seek : (on : List (Option ℕ)) (s : State) (c : ℕ) (p : Option ℕ) (ran : Bool) → c < length on → IsKnown n p → get_or on c None ≡ p → IsSound None on n s.world → Some-on c s (seek s c p ran)
  unfolding seek
  goes_seek on s c p ran l known runs-on h =
      let f = supply s c in
      let x = goes_supply u n on s c l h in
      let r = if has_local f.state c then pick f.state c p ran else ask f.state c p ran in
      let y = keeps_if (Some-on c f.state) (has_local f.state c) (pick f.state c p ran) (ask f.state c p ran) (goes_pick on f.state c p ran l known runs-on x.0) (goes_ask on f.state c p ran l known runs-on x.0) in
      (y.0, y.1, joins y.0 s f r x.1 y.2)

  goes_look : (on : List (Option ℕ)) (s : State) (c : ℕ) (p : Option ℕ) (ran : Bool) → c < length on → IsKnown n p → get_or on c None ≡ p → IsSound None on n s.world → Some-on c s (look s c p ran)
  unfolding look
  goes_look on s c p ran l known runs-on h = keeps_if (Some-on c s) (is_ejected s) (builtin_cycle s c p ran) (seek s c p ran) (goes_builtin_cycle on s c p ran l known runs-on h) (goes_seek on s c p ran l known runs-on h)

  -- ---- a CPU falls idle

  -- as a cycle begins or ends
  same_cycling : (s : State) (o : Option ℕ) → tell (cycling s o).world u ≡ tell s.world u
  same_cycling s o = kept_cycling (λ w. tell w u ≡ tell s.world u) (λ w o a x waker e. e) s.world o refl

  goes_idle_or_anew : (on : List (Option ℕ)) (s : State) (c : ℕ) → c < length on → get_or on c None ≡ None → IsSound None on n s.world → (on : List (Option ℕ)) × Goes-to s (idle_or_anew s c) on
  unfolding idle_or_anew notes_idle
  goes_idle_or_anew on s c l free h =
      let v = cycling s (Some c) in
      let x = goes_builtin_cycle on v c None true l tt free (sound_cycling None on n s.world (Some c) h) in
      let b = builtin_cycle v c None true in
      keeps_if (λ (r : Stepped). (on : List (Option ℕ)) × Goes-to s r on) (is_ejected s) (ends b) (record { state = cycling s None; notes = note_now s.world (note.Idle c) ∷ []; calls = [] })
      (x.0, (sound_cycling None x.0 n b.state.world None x.2.0, told_plainly u n s.world (cycling b.state None).world b.notes (ap (λ y. told b.notes u y) (sym (same_cycling s (Some c))) ∙ (x.2.1.tells ∙ sym (same_cycling b.state None)))))
      (on, (sound_cycling None on n s.world None h, told_plainly u n s.world (cycling s None).world (note_now s.world (note.Idle c) ∷ []) (sym (same_cycling s None))))

  goes_becomes_idle : (on : List (Option ℕ)) (s : State) (c : ℕ) → c < length on → get_or on c None ≡ None → IsSound None on n s.world → (on : List (Option ℕ)) × Goes-to s (becomes_idle s c) on
  unfolding becomes_idle tells_idle
  goes_becomes_idle on s c l free h =
      let v = with_world s (out_of_cycle s.world) in
      let r = call_by_linux v callback.UpdateIdle (two_numbers c 1) 0 c in
      let x = goes_call_by_linux u n None on v callback.UpdateIdle (two_numbers c 1) 0 c l (sound_ended None on n s.world h) in
      let y = goes_idle_or_anew on r.state c l free x.0 in
      (y.0, goes_from y.0 s v (one_after_other r (idle_or_anew r.state c)) refl (joins y.0 v r (idle_or_anew r.state c) x.1 y.1))

  -- no task runs on a CPU that falls idle
  nobody_runs : (s : State) (c : ℕ) (ran : Bool) → falls_idle s c ran ≡ true → running s.world c ≡ None
  unfolding falls_idle
  nobody_runs s c ran e = nobody_is (running s.world c) (and_parts (hears_idle s) _ (and_parts ran _ e).1).1

  goes_concluded : (on : List (Option ℕ)) (s : State) (c : ℕ) (ran : Bool) → c < length on → IsSound None on n s.world → (on : List (Option ℕ)) × Goes-to s (concluded s c ran) on
  unfolding concluded
  goes_concluded on s c ran l h = go (falls_idle s c ran) refl
    where
      go : (b : Bool) → falls_idle s c ran ≡ b → (on : List (Option ℕ)) × Goes-to s (if b then becomes_idle s c else stays (cycling s None)) on
      go true e = goes_becomes_idle on s c l (subst (λ (xs : List (Option ℕ)). get_or xs c None ≡ None) h.cpus (nobody_runs s c ran e)) h
      go false e = (on, (sound_cycling None on n s.world None h, told_nothing u None s.world (cycling s None).world (same_cycling s None)))

  -- a whole cycle
  pub goes_cycle : (on : List (Option ℕ)) (s : State) (c : ℕ) (p : Option ℕ) (ran : Bool) → c < length on → IsKnown n p → get_or on c None ≡ p → IsSound None on n s.world → (on : List (Option ℕ)) × Goes-to s (cycle s c p ran) on
  unfolding cycle
  goes_cycle on s c p ran l known runs-on h =
      let v = cycling s (Some c) in
      let r = look v c p ran in
      let x = goes_look on v c p ran l known runs-on (sound_cycling None on n s.world (Some c) h) in
      let y = goes_concluded x.0 r.state c ran x.1 x.2.0 in
      (y.0, goes_from y.0 s v (one_after_other r (concluded r.state c ran)) (same_cycling s (Some c)) (joins y.0 v r (concluded r.state c ran) x.2.1 y.1))
