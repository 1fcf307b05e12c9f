-- A task wakes: the notes tell the state of each task afterwards.
use Rattle.std.proofs.Common.{◌≡◌, ℕ, ◌<◌, Bool, true, false, ◌&&◌, not, nat_lt, if◌then◌else◌, unwrap_or, List, [], ◌∷◌, length, get_or, Option, Some, None, is_some, refl, sym, ap, ◌∙◌, subst, arith}
use Rattle.scx_laws.proofs.BindingTasks.{nobody_is}
use Rattle.std.proofs.lemmas.Bool.{and_parts}
use Rattle.std.proofs.lemmas.Bool.Decides.{nat_tests}
use Rattle.std.proofs.lemmas.List.{get_or-set_same, get_or-set_other}
use Rattle.scx_isa_semantics.specs.declared.callbacks.Callback.TheVariants as callback
use Rattle.scx_vm.specs.Programs.{VerifiedProgram}
use Rattle.scx_sched_tasks.specs.declared.task.Task.{Task}
use Rattle.scx_sched_tasks.specs.Tasks.{no_task}
use Rattle.scx_sched_world.specs.declared.call.Insert.{Insert}
use Rattle.scx_sched_world.specs.declared.notes.What.TheVariants as note
use Rattle.scx_sched_world.specs.World as world
use Rattle.scx_sched_world.specs.World.{WorldState, task_at, is_runnable, running, is_idle, is_this, choice, default_choice, after_claim, may_run, first_home, with_waker, at_callback, note_now}
use Rattle.scx_sched_world.specs.Helpers.{is_dispatch, with_insert}
use Rattle.scx_sched_world.specs.Tasks.{with_since, for_cpu, to_local, homed, after_wake}
use Rattle.scx_sched_policy.specs.Policy.{program_of}
use Rattle.scx_sched_machine.specs.Steps.{State, Stepped, stays, with_world, is_ejected, is_by_linux, kicked_if_idle}
use Rattle.scx_sched_machine.specs.Callbacks.{acting, call_back, call_by_linux, answered_by, task_cpu_and_0, task_and_number}
use Rattle.scx_sched_machine.specs.Cycle.{cycle}
use Rattle.scx_sched_machine.specs.Events.{cpu_or_home, answered_cpu, target, insert_or_put, woken, wake_target, comes_to, while_in_force, told_runnable, settle, inserted_by_choice, chosen, ask_target, asks_target, settle_at_home, select, from_waker, wake}
use Rattle.scx_sched_machine.proofs.Choices.{keeps_if}
use Rattle.scx_sched.specs.Kept.{IsWanted, Inserted, Before}
use Rattle.scx_sched.specs.Once.{IsSound, GoesSomewhere}
use Rattle.scx_sched.proofs.Blaming.{honest_call_back}
use Rattle.scx_sched.proofs.Homes.{home_is_there}
use Rattle.scx_sched.proofs.Marks.{Anywhere, kept_claim, kept_homed}
use Rattle.scx_sched.proofs.Ready.{calm_call_back, linux_in_force, not_out}
use Rattle.scx_sched.proofs.Remembering.{remembers}
use Rattle.scx_sched.proofs.Skeleton.{keeps_kicked_if_idle}
use Rattle.scx_sched.proofs.Sound.{sound_begun, sound_marks, sound_waker, sound_wants, sound_woken}
use Rattle.scx_sched.proofs.Unchanged.{same_linux}
use Rattle.scx_laws.specs.Telling.{tell, told_of, told}
use Rattle.scx_laws.proofs.Choosing.{chosen_there}
use Rattle.scx_laws.proofs.Noted.{same_told, one_note, tell_marks}
use Rattle.scx_laws.proofs.NotedCalls.{told_nothing}
use Rattle.scx_laws.proofs.NotedPuts.{sound_steps, Puts, told_plainly, puts_told, goes_stays, goes_call_back, goes_call_by_linux, puts_enters, puts_put}
use Rattle.scx_laws.proofs.NotedCycles.{Goes-to, joins, goes_from, goes_cycle}

-- no task runs on an idle CPU
idle_is_free : (w : WorldState) (c : ℕ) → is_idle w c ≡ true → running w c ≡ None
idle_is_free w c e = nobody_is (running w c) (and_parts (nat_lt c (length w.cpus)) _ (and_parts _ (not (is_this c w.cycling)) e).0).1

-- the CPU that is chosen by default is there
chosen_is_there : (w : WorldState) (t c : ℕ) → (task_at w t).prev_cpu < length w.cpus → choice w t ≡ Some c → c < length w.cpus
chosen_is_there w t c home e = subst (λ o. unwrap_or o (task_at w t).prev_cpu < length w.cpus) e (chosen_there w t home)

-- so is one that select_cpu answers
answered_is_there : (w : WorldState) (t : ℕ) (a : Option ℕ) → (task_at w t).prev_cpu < length w.cpus → answered_cpu w t a < length w.cpus
answered_is_there w t None home = chosen_there w t home
answered_is_there w t (Some c) home = go (nat_lt c (length w.cpus)) refl
  where
    go : (b : Bool) → nat_lt c (length w.cpus) ≡ b → (if b then cpu_or_home w t c else default_choice w t) < length w.cpus
    go false x = chosen_there w t home
    go true x = keeps_if (λ d. d < length w.cpus) (may_run w t c) c (first_home w t) (grind (arith, nat_tests, x)) (home_is_there w t (omega (arith, home)))

-- and so is the target of a wake
target_is_there : (p : Option VerifiedProgram) (w : WorldState) (t : ℕ) (a : Option ℕ) → (task_at w t).prev_cpu < length w.cpus → target p w t a < length w.cpus
target_is_there None w t a home = chosen_there w t home
target_is_there (Some p) w t a home = answered_is_there w t a home

module _ (u n : ℕ) where
  -- a step to no task at hand, whichever are on the CPUs afterwards
  abbrev pub Leads : State → Stepped → Type 0
  Leads s r = (on : List (Option ℕ)) × Goes-to u n s r on

  -- a target that is idle looks for a task
  goes_wake_target : (on : List (Option ℕ)) (s : State) (c : ℕ) → c < length on → IsSound None on n s.world → Leads s (wake_target s c)
  unfolding wake_target
  goes_wake_target on s c l h =
      let v = kicked_if_idle (woken s) c in
      keeps_if (Leads s) (is_by_linux s) (stays v) (if is_idle s.world c then cycle s c None false else stays s)
      (on, (keeps_kicked_if_idle n (λ m hand on w. IsSound hand on n w) (sound_steps n) 0 None on (woken s) c (sound_waker None on n s.world None (λ d e. absurd (cc)) h), told_nothing u None s.world v.world (keeps_if (λ (r : State). tell r.world u ≡ tell s.world u) (is_by_linux (woken s) && is_idle (woken s).world c) _ (woken s) refl refl)))
      (go (is_idle s.world c) refl)
    where
      go : (b : Bool) → is_idle s.world c ≡ b → Leads s (if b then cycle s c None false else stays s)
      go true idle = goes_cycle u n on s c None false l tt (subst (λ (xs : List (Option ℕ)). get_or xs c None ≡ None) h.cpus (idle_is_free s.world c idle)) h
      go false idle = (on, goes_stays u n None on s h)

  goes_comes_to : (on : List (Option ℕ)) (o : Option Insert) (s : State) (t c : ℕ) → ((i : Insert) → o ≡ Some i → IsWanted (length on) s.world (for_cpu c i)) → t < n → c < length on → IsSound (Some t) on n s.world → Leads s (comes_to o s t c)
  unfolding comes_to
  goes_comes_to on o s t c wanted within l h =
      let r = insert_or_put o s t c in
      let p = puts o wanted in
      let y = goes_wake_target on r.state c l p.0 in
      (y.0, joins u n y.0 s r (wake_target r.state c) (puts_told u n on t s r h p) y.1)
    where
      puts : (o : Option Insert) → ((i : Insert) → o ≡ Some i → IsWanted (length on) s.world (for_cpu c i)) → Puts u n on t s (insert_or_put o s t c)
      puts None wanted = puts_put u n on t s c 1 within l h
      puts (Some i) wanted = puts_enters u n on t s (for_cpu c i) within (wanted i refl) h

  -- what select_cpu inserted may still be done once the policy has heard that the task is runnable
  still_wanted : (on : List (Option ℕ)) (s : State) (t c : ℕ) (i : Insert) → c < length on → is_by_linux s ≡ true → s.world.call.insert ≡ Some i → IsSound (Some t) on n s.world → is_ejected (call_by_linux s callback.Runnable (task_and_number t 1) t c).state ≡ false → IsWanted (length on) (call_by_linux s callback.Runnable (task_and_number t 1) t c).state.world (for_cpu c i)
  unfolding call_by_linux
  still_wanted on s t c i l linux said h force = go (is_by_linux s && is_some (program_of s.policy callback.Runnable)) force
    where
      r : Stepped
      r = call_back s callback.Runnable (task_and_number t 1) t c

      go : (b : Bool) → is_ejected (if b then r else stays s).state ≡ false → IsWanted (length on) (if b then r else stays s).state.world (for_cpu c i)
      go true on-force =
          let x = remembers (length on) (Some i) s (task_and_number t 1) t c (subst (λ (o : Option Insert). GoesSomewhere s.world.queues (length on) o) said h.goes) on-force in
          Before c i l (same_linux s.world r.state.world (honest_call_back s callback.Runnable (task_and_number t 1) t c (λ e. absurd (cc))).rules (not_out r.state on-force ∙ sym (linux_in_force s linux)) ∙ linux) x.1 x.2 refl
      go false on-force = Inserted c i l said refl

  goes_told_runnable : (on : List (Option ℕ)) (s : State) (t c : ℕ) → is_by_linux s ≡ true → t < n → c < length on → IsSound (Some t) on n s.world → Leads s (told_runnable s.world.call.insert s t c)
  unfolding told_runnable
  goes_told_runnable on s t c linux within l h =
      let r = call_by_linux s callback.Runnable (task_and_number t 1) t c in
      let x = goes_call_by_linux u n (Some t) on s callback.Runnable (task_and_number t 1) t c l h in
      let o = while_in_force r.state s.world.call.insert in
      let y = goes_comes_to on o r.state t c (λ i e. wanted i (is_ejected r.state) refl e) within l x.0 in
      (y.0, joins u n y.0 s r (comes_to o r.state t c) (told_plainly u n s.world r.state.world r.notes x.1.tells) y.1)
    where
      wanted : (i : Insert) (b : Bool) → is_ejected (call_by_linux s callback.Runnable (task_and_number t 1) t c).state ≡ b → (if b then None else s.world.call.insert) ≡ Some i → IsWanted (length on) (call_by_linux s callback.Runnable (task_and_number t 1) t c).state.world (for_cpu c i)
      wanted i true out e = absurd (cc)
      wanted i false force e = still_wanted on s t c i l linux e h force

  goes_settle : (on : List (Option ℕ)) (s : State) (t c : ℕ) → t < n → c < length on → IsSound (Some t) on n s.world → Leads s (settle s t c)
  unfolding settle
  goes_settle on s t c within l h =
      let v = with_world s (homed s.world t c) in
      let i = v.world.call.insert in
      let x = kept_homed (λ d. d < length on) (IsSound (Some t) on n) (sound_marks (Some t) on n) s.world t c l h in
      let same = kept_homed Anywhere (λ w. tell w u ≡ tell s.world u) (tell_marks u (tell s.world u)) s.world t c tt refl in
      let y = go v i refl x (is_by_linux v) refl in
      (y.0, goes_from u n y.0 s v (if is_by_linux v then told_runnable i v t c else comes_to i v t c) same y.1)
    where
      go : (v : State) (i : Option Insert) → v.world.call.insert ≡ i → IsSound (Some t) on n v.world → (b : Bool) → is_by_linux v ≡ b → Leads v (if b then told_runnable i v t c else comes_to i v t c)
      go v i is x true linux = subst (λ j. Leads v (told_runnable j v t c)) is (goes_told_runnable on v t c linux within l x)
      go v i is x false plain = goes_comes_to on i v t c (λ j e. Inserted c j l (is ∙ e) refl) within l x

  -- a CPU that is chosen by default
  sound_chosen : (on : List (Option ℕ)) (p : Option VerifiedProgram) (s : State) (t : ℕ) → is_dispatch s.world.call.callback ≡ false → IsSound (Some t) on n s.world → IsSound (Some t) on n (chosen p s t).world
  sound_chosen on (Some p) s t calm h = h
  sound_chosen on None s t calm h = keeps_if (IsSound (Some t) on n) (world.is_by_linux w) (inserted_by_choice (after_claim w (choice w t)) (choice w t)) w (go (choice w t) refl) h
    where
      w : WorldState
      w = s.world

      claimed : (o : Option ℕ) → IsSound (Some t) on n (after_claim w o)
      claimed o = kept_claim (λ c. c < length on) (IsSound (Some t) on n) (sound_marks (Some t) on n) w o h

      still : (c : ℕ) → is_dispatch (after_claim w (Some c)).call.callback ≡ false
      still c = keeps_if (λ (v : WorldState). is_dispatch v.call.callback ≡ false) (world.is_by_linux w) _ w calm calm

      go : (o : Option ℕ) → choice w t ≡ o → IsSound (Some t) on n (inserted_by_choice (after_claim w o) o)
      go None e = h
      go (Some c) e = sound_wants (Some t) on n (after_claim w (Some c)) c (subst (λ (xs : List (Option ℕ)). c < length xs) h.cpus (chosen_is_there w t c (rw h.cpus (h.homes t)) e)) (still c) (claimed (Some c))

  same_chosen : (p : Option VerifiedProgram) (s : State) (t : ℕ) → tell (chosen p s t).world u ≡ tell s.world u
  same_chosen (Some p) s t = refl
  same_chosen None s t = keeps_if (λ w. tell w u ≡ tell s.world u) (world.is_by_linux s.world) (inserted_by_choice (after_claim s.world (choice s.world t)) (choice s.world t)) s.world (go (choice s.world t)) refl
    where
      go : (o : Option ℕ) → tell (inserted_by_choice (after_claim s.world o) o) u ≡ tell s.world u
      go None = refl
      go (Some c) = keeps_if (λ w. tell (with_insert w (to_local c)) u ≡ tell s.world u) (world.is_by_linux s.world) _ s.world refl refl

  goes_ask_target : (on : List (Option ℕ)) (s : State) (t : ℕ) → t < n → IsSound (Some t) on n s.world → Leads s (ask_target s t)
  unfolding ask_target
  goes_ask_target on s t within h =
      let c = (task_at s.world t).prev_cpu in
      let r = call_back s callback.SelectCpu (task_cpu_and_0 t c) t c in
      let p = acting r.state callback.SelectCpu in
      let a = answered_by s callback.SelectCpu (task_cpu_and_0 t c) t c in
      let x = goes_call_back u n (Some t) on s callback.SelectCpu (task_cpu_and_0 t c) t c (h.homes t) h in
      let d = target p r.state.world t a in
      let l = subst (λ (xs : List (Option ℕ)). d < length xs) x.0.cpus (target_is_there p r.state.world t a (rw x.0.cpus (x.0.homes t))) in
      let v = chosen p r.state t in
      let y = goes_settle on v t d within l (sound_chosen on p r.state t (calm_call_back s callback.SelectCpu (task_cpu_and_0 t c) t c refl) x.0) in
      (y.0, joins u n y.0 s r (settle v t d) (told_plainly u n s.world r.state.world r.notes x.1.tells) (goes_from u n y.0 r.state v (settle v t d) (same_chosen p r.state t) y.1))

  goes_select : (on : List (Option ℕ)) (s : State) (t : ℕ) → t < n → IsSound (Some t) on n s.world → Leads s (select s t)
  unfolding select settle_at_home
  goes_select on s t within h =
      let c = first_home s.world t in
      let l = subst (λ (xs : List (Option ℕ)). c < length xs) h.cpus (home_is_there s.world t (subst (λ (xs : List (Option ℕ)). 0 < length xs) (sym h.cpus) (omega (arith, h.homes t)))) in
      let v = with_world s (at_callback s.world callback.SelectCpu t c) in
      let y = goes_settle on v t c within l (sound_begun (Some t) on n s.world callback.SelectCpu t c l h) in
      keeps_if (Leads s) (asks_target s t) (ask_target s t) (settle v t c) (goes_ask_target on s t within h) (y.0, goes_from u n y.0 s v (settle v t c) refl y.1)

  -- a task that wakes
  wakes : (on : List (Option ℕ)) (w : WorldState) (t : ℕ) → t < n → IsSound None on n w → told (note_now w (note.Wake t) ∷ []) u (tell w u) ≡ tell (after_wake w t) u
  wakes on w t within h = one_note (note_now w (note.Wake t)) t u (tell w u) (tell v u) refl (λ e. subst (λ j. told_of (note.Wake t) w.clock (tell w j) ≡ tell v j) (sym e) at) others
    where
      v : WorldState
      v = after_wake w t

      new : Task
      new = with_since (task_at w t) (Some w.clock)

      at : told_of (note.Wake t) w.clock (tell w t) ≡ tell v t
      at = same_told (told_of (note.Wake t) w.clock (tell w t)) (tell v t) (sym (get_or-set_same w.tree.active t true false (subst (λ j. t < j) (sym h.flags) within))) refl refl (sym (ap (λ (x : Task). x.since) (get_or-set_same w.tasks t new no_task (subst (λ j. t < j) (sym h.tasks) within))))

      others : (u ≡ t → ⊥) → tell w u ≡ tell v u
      others d = same_told (tell w u) (tell v u) (sym (get_or-set_other w.tree.active t u true false d)) refl refl (sym (ap (λ (x : Task). x.since) (get_or-set_other w.tasks t u new no_task d)))

  -- a task is woken
  pub goes_wake : (on : List (Option ℕ)) (s : State) (t : ℕ) → t < n → is_runnable s.world t ≡ false → IsSound None on n s.world → Leads s (wake s t)
  unfolding wake from_waker
  goes_wake on s t within resting h =
      let v = with_world s (after_wake s.world t) in
      let z = sound_woken on n s.world t within resting h in
      let o = Some (task_at v.world t).prev_cpu in
      let f = keeps_if (λ (r : State). IsSound (Some t) on n r.world × (tell r.world u ≡ tell v.world u)) (is_by_linux v) (with_world v (with_waker v.world o)) v (sound_waker (Some t) on n v.world o (λ c e. subst (λ d. d < length on) (same e) (z.homes t)) z, refl) (z, refl) in
      let y = goes_select on (from_waker v t) t within f.0 in
      let r = select (from_waker v t) t in
      (y.0, (y.1.0, told_plainly u n s.world r.state.world (note_now s.world (note.Wake t) ∷ r.notes) (ap (λ x. told r.notes u x) (wakes on s.world t within h ∙ sym f.1) ∙ y.1.1.tells)))
    where
      same : {a b : ℕ} → Some a ≡ Some b → a ≡ b
      same e = cc
