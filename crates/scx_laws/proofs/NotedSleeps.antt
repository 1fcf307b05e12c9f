-- A task leaves its CPU or sleeps: the notes tell the state of each task afterwards.
use Rattle.std.proofs.Common.{◌≡◌, ℕ, ◌<◌, ◌≤◌, Bool, true, false, nat_lt, ◌⊎◌, inl, inr, if◌then◌else◌, List, [], ◌∷◌, ◌++◌, length, set, get_or, Option, Some, None, refl, sym, ap, ◌∙◌, subst}
use Rattle.std.proofs.lemmas.Bool.{cases_eq, cases_lt, eq-eqb, ne_eqb, lt-ltb}
use Rattle.std.proofs.lemmas.List.{length-set, get_or-set_same, get_or-set_other, get_or_past, set_past}
use Rattle.std.proofs.lemmas.List.Quantifiers.{position-Some}
use Rattle.scx_weights.specs.Hierarchy.{with_task as with_active}
use Rattle.scx_sched_tasks.specs.declared.task.Task.{Task}
use Rattle.scx_sched_tasks.specs.Tasks.{no_task}
use Rattle.scx_sched_world.specs.declared.notes.What.TheVariants as note
use Rattle.scx_sched_world.specs.World as world
use Rattle.scx_sched_world.specs.World.{WorldState, with_tree, with_task, switch_at, with_switch, with_slept, task_at, is_this, is_runnable, cpu_of, note_now}
use Rattle.scx_sched_world.specs.Tasks.{with_since, after_sleep, after_leave, after_stop}
use Rattle.scx_sched_world.specs.Ejecting.{after_charge}
use Rattle.scx_sched_machine.specs.Steps.{State, Stepped, stays, with_world, after, is_by_linux}
use Rattle.scx_sched_machine.specs.Custody.{is_in_custody, tells_dequeued_if}
use Rattle.scx_sched_machine.specs.Cycle.{cycle}
use Rattle.scx_sched_machine.specs.Events.{told_of_sleep, falls_asleep, looks_after_sleep, leaves_cpu, leaves_queue, sleep_from_cpu, sleep_from_queue, sleep_from, sleep}
use Rattle.scx_sched_machine.proofs.Choices.{keeps_if}
use Rattle.scx_sched.specs.Once.{IsSound}
use Rattle.scx_sched.proofs.Events.{is_task, custody_waits}
use Rattle.scx_sched.proofs.Sound.{sound_sets, sound_stopped, sound_asleep, sound_removed, sound_left}
use Rattle.scx_sched.proofs.Waiting.{removed_other}
use Rattle.scx_laws.specs.Telling.{Told, tell, asleep, told_of, told_by, told}
use Rattle.scx_sched.proofs.Stepwise.{IsSwitch, by_stop}
use Rattle.scx_laws.proofs.Noted.{told_append, told_another, same_tell, same_told, sleeps}
use Rattle.scx_laws.proofs.NotedCalls.{IsTold}
use Rattle.scx_laws.proofs.NotedPuts.{Goes, told_plainly, goes_call_by_linux, goes_stops, goes_tells_dequeued}
use Rattle.scx_laws.proofs.NotedCycles.{stops, goes_cycle}
use Rattle.scx_laws.proofs.NotedWakes.{Leads}

-- one that was set to rest isn't runnable
set_to_rest : (xs : List Bool) (t : ℕ) → get_or (set xs t false) t false ≡ false
set_to_rest xs t = go (cases_lt t (length xs))
  where
    go : (t < length xs) ⊎ (length xs ≤ t) → get_or (set xs t false) t false ≡ false
    go (inl l) = get_or-set_same xs t false false l
    go (inr past) = ap (λ ys. get_or ys t false) (set_past xs t false past) ∙ get_or_past xs t false past

module _ (u n : ℕ) where
  -- ---- off a CPU

  -- a task leaves its CPU, which begins to switch
  off_with : (on : List (Option ℕ)) (w : WorldState) (c t : ℕ) → c < length on → t < n → get_or on c None ≡ Some t → IsSound None on n w → IsSound (Some t) (set on c None) n (after_stop (with_switch w c) c t) × (told (note_now w (note.Stop t c) ∷ []) u (tell w u) ≡ tell (after_stop (with_switch w c) c t) u)
  off_with on w c t l within runs-on h =
      let x = record w.passing { switching = switch_at w c } in
      let z = sound_stopped on n w c t l within runs-on h in
      let e = stops u n on w c t l within runs-on h in
      keeps_if (λ (v : WorldState). IsSound (Some t) (set on c None) n (after_stop v c t) × (told (note_now w (note.Stop t c) ∷ []) u (tell w u) ≡ tell (after_stop v c t) u)) (world.is_by_linux w) (record w { passing = x }) w
      (sound_sets (Some t) (set on c None) n (after_stop w c t) w.claimed w.kicked w.preempted w.call.claims x (λ d e. e) z, e) (z, e)

  -- what is so once it has left: a note tells it, and the callback tells no more
  pub record HasLeft (on : List (Option ℕ)) (s : State) (c t : ℕ) (r : Stepped) : Type 0 where
    pub sound : IsSound (Some t) (set on c None) n r.state.world
    pub tells : told r.notes u (tell s.world u) ≡ tell r.state.world u
    pub only : u ≡ t → (x : Told) → told r.notes u x ≡ told_by (note_now s.world (note.Stop t c)) u x

  pub goes_leaves_cpu : (on : List (Option ℕ)) (s : State) (c t x : ℕ) → c < length on → t < n → get_or on c None ≡ Some t → IsSound None on n s.world → HasLeft on s c t (leaves_cpu s c t x)
  unfolding leaves_cpu
  goes_leaves_cpu on s c t x l within runs-on h = by_stop (λ (r : Stepped). HasLeft on s c t (after (note_now s.world (note.Stop t c) ∷ []) r)) off c t x left
    where
      off : State
      off = with_world s (after_stop (with_switch s.world c) c t)

      left : (r : Stepped) → IsSwitch off t c (after_charge off.world t) r → HasLeft on s c t (after (note_now s.world (note.Stop t c) ∷ []) r)
      left r is =
          let o = off_with on s.world c t l within runs-on h in
          let y = goes_stops u n (Some t) (set on c None) off t c (rw (length-set on c None) l) o.0 r is in
          record { sound = y.0; tells = ap (λ z. told r.notes u z) o.1 ∙ y.1.tells; only = λ e z. y.1.silent (ap Some (sym e)) (told_by (note_now s.world (note.Stop t c)) u z) }

  -- ---- sleep

  -- what is told of a task is that it sleeps, where this one is about to; of another what is so
  record IsLeaving (t : ℕ) (w : WorldState) (x : Told) : Type 0 where
    pub here : u ≡ t → x ≡ asleep
    pub others : (u ≡ t → ⊥) → x ≡ tell w u

  -- once it sleeps that is so
  rests : (on : List (Option ℕ)) (w : WorldState) (t : ℕ) (x : Told) → t < length w.tasks → IsSound None on n (after_sleep w t) → IsLeaving t w x → x ≡ tell (after_sleep w t) u
  rests on w t x within h a = go (cases_eq u t)
    where
      new : Task
      new = with_since (task_at w t) None

      rested : is_runnable (after_sleep w t) t ≡ false
      rested = go (nat_lt t (length w.tasks)) (lt-ltb t (length w.tasks) within)
        where
          go : (b : Bool) → b ≡ true → is_runnable (if b then with_tree (with_task w t new) (with_active w.tree t false) else w) t ≡ false
          go true e = set_to_rest w.tree.active t
          go false e = absurd (cc)

      other : (u ≡ t → ⊥) → tell w u ≡ tell (after_sleep w t) u
      other d = keeps_if (λ (v : WorldState). tell w u ≡ tell v u) (nat_lt t (length w.tasks)) _ w (same_told (tell w u) (tell (with_tree (with_task w t new) (with_active w.tree t false)) u) (sym (get_or-set_other w.tree.active t u false false d)) refl refl (sym (ap (λ (x : Task). x.since) (get_or-set_other w.tasks t u new no_task d)))) refl

      go : (u ≡ t) ⊎ (u ≡ t → ⊥) → x ≡ tell (after_sleep w t) u
      go (inl e) = a.here e ∙ sym (subst (λ j. tell (after_sleep w t) j ≡ asleep) (sym e) (sleeps on n (after_sleep w t) t h rested))
      go (inr d) = a.others d ∙ other d

  goes_falls_asleep : (on : List (Option ℕ)) (s : State) (t c : ℕ) (x : Told) → t < length s.world.tasks → c < length on → IsSound None on n (after_sleep s.world t) → IsLeaving t s.world x → let r = falls_asleep s t c in IsSound None on n r.state.world × (told r.notes u x ≡ tell r.state.world u)
  unfolding falls_asleep
  goes_falls_asleep on s t c x within l h a =
      let v = with_world s (after_sleep s.world t) in
      let r = falls_asleep s t c in
      let y : Goes u n None on v r = goes_call_by_linux u n None on v _ _ t c l h in
      (y.0, ap (λ z. told r.notes u z) (rests on s.world t x within h a) ∙ y.1.tells)

  -- the note of a sleep
  leaving : (w : WorldState) (t : ℕ) → let x = told_by (note_now w (note.Sleep t)) u (tell w u) in (u ≡ t → x ≡ record { runnable = false; cpu = cpu_of w u; queue = None; since = None }) × ((u ≡ t → ⊥) → x ≡ tell w u)
  leaving w t = (λ e. ap (λ b. if b then told_of (note.Sleep t) w.clock (tell w u) else tell w u) (eq-eqb u t e), λ d. told_another (note_now w (note.Sleep t)) u (tell w u) (ne_eqb u t d))

  goes_sleep_from_cpu : (on : List (Option ℕ)) (s : State) (t c : ℕ) → t < n → c < length on → get_or on c None ≡ Some t → IsSound None on n s.world → (on : List (Option ℕ)) × (let r = sleep_from_cpu s t c in IsSound None on n r.state.world × (told r.notes u (told_by (note_now s.world (note.Sleep t)) u (tell s.world u)) ≡ tell r.state.world u))
  unfolding sleep_from_cpu looks_after_sleep told_of_sleep
  goes_sleep_from_cpu on s t c within l runs-on h =
      (y.0, (y.1.0, told_append r.notes (q.notes ++ k.notes) u x ∙ (told_append q.notes k.notes u (told r.notes u x) ∙ (ap (λ z. told k.notes u z) (z.1 ∙ sym f.1) ∙ y.1.1.tells))))
    where
      x : Told
      x = told_by (note_now s.world (note.Sleep t)) u (tell s.world u)

      now : List (Option ℕ)
      now = set on c None

      l' : c < length now
      l' = rw (length-set on c None) l

      r : Stepped
      r = leaves_cpu s c t 0

      o : HasLeft on s c t r
      o = goes_leaves_cpu on s c t 0 l within runs-on h

      left : IsLeaving t r.state.world (told r.notes u x)
      left = record {
        here = λ e. o.only e x ∙ (ap (λ z. told_by (note_now s.world (note.Stop t c)) u z) ((leaving s.world t).0 e) ∙ ap (λ (d : Bool). if d then asleep else record { runnable = false; cpu = cpu_of s.world u; queue = None; since = None }) (eq-eqb u t e));
        others = λ d. ap (λ z. told r.notes u z) ((leaving s.world t).1 d) ∙ o.tells;
      }

      there : t < length r.state.world.tasks
      there = subst (λ j. t < j) (sym o.sound.tasks) within

      q : Stepped
      q = falls_asleep r.state t c

      z : IsSound None now n q.state.world × (told q.notes u (told r.notes u x) ≡ tell q.state.world u)
      z = goes_falls_asleep now r.state t c (told r.notes u x) there l' (sound_asleep now n r.state.world t within o.sound) left

      f : IsSound None now n (told_of_sleep q.state t).world × (tell (told_of_sleep q.state t).world u ≡ tell q.state.world u)
      f = keeps_if (λ (v : State). IsSound None now n v.world × (tell v.world u ≡ tell q.state.world u)) (is_by_linux q.state) (with_world q.state (with_slept q.state.world t)) q.state (sound_sets None now n q.state.world q.state.world.claimed q.state.world.kicked q.state.world.preempted q.state.world.call.claims (record q.state.world.passing { slept = Some t }) (λ d e. e) z.0, refl) (z.0, refl)

      k : Stepped
      k = cycle (told_of_sleep q.state t) c None true

      y : Leads u n (told_of_sleep q.state t) k
      y = goes_cycle u n now (told_of_sleep q.state t) c None true l' tt (get_or-set_same {A = Option ℕ} on c None None l) f.0

  goes_sleep_from_queue : (on : List (Option ℕ)) (s : State) (t c : ℕ) → t < n → c < length on → is_runnable s.world t ≡ true → cpu_of s.world t ≡ None → IsSound None on n s.world → let r = sleep_from_queue s t c in IsSound None on n r.state.world × (told r.notes u (told_by (note_now s.world (note.Sleep t)) u (tell s.world u)) ≡ tell r.state.world u)
  unfolding sleep_from_queue leaves_queue
  goes_sleep_from_queue on s t c within l runnable off h = go (is_in_custody s.world t) refl
    where
      w : WorldState
      w = s.world

      x : Told
      x = told_by (note_now w (note.Sleep t)) u (tell w u)

      v : State
      v = with_world s (after_leave w t)

      there : t < length w.tasks
      there = subst (λ j. t < j) (sym h.tasks) within

      left : IsLeaving t v.world x
      left = record {
        here = λ e. (leaving w t).0 e ∙ ap (λ (o : Option ℕ). record { runnable = false; cpu = o; queue = None; since = None }) (subst (λ j. cpu_of w j ≡ None) (sym e) off);
        others = λ d. (leaving w t).1 d ∙ sym (same_tell w v.world u refl refl (removed_other w.queues t u d) refl);
      }

      falls : (r : Stepped) → IsLeaving t r.state.world (told r.notes u x) → t < length r.state.world.tasks → IsSound None on n (after_sleep r.state.world t) → let q = falls_asleep r.state t c in IsSound None on n q.state.world × (told (r.notes ++ q.notes) u x ≡ tell q.state.world u)
      falls r a known k =
          let q = falls_asleep r.state t c in
          let z = goes_falls_asleep on r.state t c (told r.notes u x) known l k a in
          (z.0, told_append r.notes q.notes u x ∙ z.1)

      go : (b : Bool) → is_in_custody w t ≡ b → let r = tells_dequeued_if b v t c 1 in let q = falls_asleep r.state t c in IsSound None on n q.state.world × (told (r.notes ++ q.notes) u x ≡ tell q.state.world u)
      go true e =
          let r = tells_dequeued_if true v t c 1 in
          let o = goes_tells_dequeued u n (Some t) on true v t c 1 l (sound_removed on n w t (custody_waits w t e) h) in
          falls r (record {
            here = λ f. ap (λ z. told r.notes u z) (left.here f) ∙ o.1.silent (ap Some (sym f)) asleep;
            others = λ d. ap (λ z. told r.notes u z) (left.others d) ∙ o.1.tells;
          }) (subst (λ j. t < j) (sym o.0.tasks) within) (sound_asleep on n r.state.world t within o.0)
      go false e = falls (stays v) left there (sound_left on n w t within runnable off h)

  -- a task goes to sleep
  pub goes_sleep : (on : List (Option ℕ)) (s : State) (t : ℕ) → t < n → is_runnable s.world t ≡ true → IsSound None on n s.world → Leads u n s (sleep s t)
  unfolding sleep
  goes_sleep on s t within runnable h = go (cpu_of s.world t) refl
    where
      go : (o : Option ℕ) → cpu_of s.world t ≡ o → (on : List (Option ℕ)) × (let r = sleep_from o s t in IsSound None on n r.state.world × IsTold u None s.world r.state.world (note_now s.world (note.Sleep t) ∷ r.notes))
      go None off =
          let c = (task_at s.world t).prev_cpu in
          let r = sleep_from_queue s t c in
          let z = goes_sleep_from_queue on s t c within (h.homes t) runnable off h in
          (on, (z.0, told_plainly u n s.world r.state.world (note_now s.world (note.Sleep t) ∷ r.notes) z.1))
      go (Some c) at =
          let r = sleep_from_cpu s t c in
          let x = position-Some (is_this t) s.world.cpus c None at in
          let z = goes_sleep_from_cpu on s t c within (subst (λ (xs : List (Option ℕ)). c < length xs) h.cpus x.0) (subst (λ (xs : List (Option ℕ)). get_or xs c None ≡ Some t) h.cpus (is_task t (get_or s.world.cpus c None) x.1)) h in
          (z.0, (z.1.0, told_plainly u n s.world r.state.world (note_now s.world (note.Sleep t) ∷ r.notes) z.1.1))
