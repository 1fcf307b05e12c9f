-- Events of two machines that go on alike.
use Rattle.std.proofs.Common.{◌≡◌, zero, suc, ◌==◌, ◌&&◌, not, Bool, true, false, cond, length, List, Option, Some, None, is_some, get_or, position, refl, sym, ap, ◌∙◌, subst, nat_lt, ℕ, ◌||◌}
use Rattle.scx_dsq.specs.Queues.{len_of, front_of, behind_of}
use Rattle.scx_isa_semantics.specs.declared.callbacks.Callback.{Callback}
use Rattle.scx_isa_semantics.specs.declared.callbacks.Callback.TheVariants as callback
use Rattle.scx_vm.specs.Programs.{VerifiedProgram}
use Rattle.scx_vm.specs.declared.arguments.Args.{Args}
use Rattle.scx_sched_world.specs.declared.call.Insert.{Insert}
use Rattle.scx_sched_world.specs.declared.eject.Eject.{Eject}
use Rattle.scx_sched_world.specs.declared.timers.Alarm.{Alarm}
use Rattle.scx_sched_world.specs.declared.notes.What.TheVariants as note
use Rattle.scx_sched_world.specs.Ids.{parked_queue}
use Rattle.scx_sched_world.specs.World.{with_switch, with_slept, with_waker, is_this, task_at, first_home, is_throttled, waits, waits_in, running, cpu_of, is_idle, has_one_cpu, at_callback, default_choice, may_run}
use Rattle.scx_sched_world.specs.Tasks.{put_parked, for_cpu, homed, after_wake, after_sleep, after_leave, after_stop, let_go, after_tick, used_ms, later, begun_periods, after_reweigh, after_own_weight}
use Rattle.scx_sched_world.specs.Helpers.{after_fire, alarm_at, due_now}
use Rattle.scx_sched_policy.specs.Policy.{PolicyState, program_of}
use Rattle.scx_sched_machine.specs.declared.events.Event.{Event}
use Rattle.scx_sched_machine.specs.declared.events.Event.TheVariants.{Wake, Sleep, Tick, Clock, SetWeight, SetTaskWeight}
use Rattle.scx_sched_machine.specs.Steps.{State, Stepped, with_world, is_ejected, is_by_linux, kicked, kicked_if_idle, stays, one_after_other}
use Rattle.scx_sched_machine.specs.Callbacks.{unless_ejected, acting, call_back, call_by_linux, answered_by, one_number, one_task, task_cpu_and_0, task_and_number}
use Rattle.scx_sched_machine.specs.Custody.{is_custody, is_in_custody, tells_dequeued}
use Rattle.scx_sched_machine.specs.Firing.{due, fired, fires, fire, fire_below, fire_all}
use Rattle.scx_sched_machine.specs.Put.{put}
use Rattle.scx_sched_machine.specs.Parking.{park, let_go_one, let_go_from, let_all_go}
use Rattle.scx_sched_machine.specs.Cycle.{after_stopping, cycle}
use Rattle.scx_sched_machine.specs.Events.{target, insert_or_put, woken, wake_target, comes_to, while_in_force, told_runnable, settle, chosen, ask_target, asks_target, settle_at_home, select, from_waker, wake, told_of_sleep, falls_asleep, looks_after_sleep, leaves_cpu, leaves_queue, sleep_from_cpu, sleep_from_queue, sleep_from, sleep, throttle, ends_slices, expire, use_up, hears_tick, tick_heard, count_down, tick_idle, tick_of, tick, eject_if_stalled, watch, timers_and_watchdog, clock, restore_flag, change_flags, takes_weight, changes_weight, reweigh_running, reweigh_waiting, reweigh_off_cpu, reweigh_at, reweigh_by_linux, reweigh, own_step, event_step, answered_cpu, cpu_or_home, is_tick_time}
use Rattle.scx_explore_states.specs.Asking.{is_early}
use Rattle.scx_explore_findings.specs.HiddenStates.{once_let_go, late_in}
use Rattle.scx_explore_findings.specs.IdleSlices.{runs_on}
use Rattle.scx_explore_findings.proofs.IdleTasks.{on_that, on_one}
use Rattle.scx_explore_findings.proofs.Paired.{Relation, SameCpu, From, On, Turns, IsPaired, IsPairedWhole, Alone, Counted, Early}
use Rattle.scx_explore_findings.proofs.PairedSteps.{two_if, ended, chain, pair_told, pair_call_by_linux, pair_enters, pair_put}
use Rattle.scx_explore_findings.proofs.PairedCycles.{Told, pair_dequeued, pair_stopping, pair_cycle, pair_round, pair_with_rounds}

-- the same task or none waits too long, if so it is once the clock has grown
pub late_by : (s t : State) (e : Event) → (e ≡ Clock → late_in s e ≡ late_in t e) → late_in s e ≡ late_in t e
late_by s t (Wake u) same = refl
late_by s t (Sleep u) same = refl
late_by s t (Tick c) same = refl
late_by s t Clock same = same refl
late_by s t (SetWeight g x) same = refl
late_by s t (SetTaskWeight u x) same = refl

-- what is asked of a state only if a test says yes
asked_if : (f : Bool → Bool → Bool) (a b x y : Bool) → ((c d : Bool) → f false c ≡ f false d) → a ≡ b → (a ≡ true → x ≡ y) → f a x ≡ f b y
asked_if f a b x y none same alike = go a alike ∙ ap (λ (c : Bool). f c y) same
  where
    go : (c : Bool) → (c ≡ true → x ≡ y) → f c x ≡ f c y
    go true so = ap (f true) (so refl)
    go false so = none x y

module _ (z : Relation) (n : IsPairedWhole z) where
  abbrev k : IsPaired z
  k = n.small

  abbrev either : (b c : Bool) (x x' y y' : Stepped) → b ≡ c → z.steps false x x' → z.steps false y y' → z.steps false (cond b x y) (cond c x' y')
  either = two_if (z.steps false)

  -- one step after another, of states that are the same whatever is said of their callbacks
  abbrev onward : (r q : Stepped) (f : State → Stepped) → z.steps false r q → On z false f → z.steps false (one_after_other r (f r.state)) (one_after_other q (f q.state))
  onward = chain z k false false

  -- a callback that is given no task that runs
  early_told : (b : Callback) (a : Args) (u c : ℕ) → is_early b true ≡ true → On z false (λ s. call_by_linux s b a u c)
  early_told b a u c early = pair_call_by_linux z k false b a u c (Early b a early)

  -- ---- a task wakes

  -- an insert that both may make, if there is one
  abbrev MayInsert : ℕ → ℕ → Option Insert → Type 0
  MayInsert u c None = Unit {0}
  MayInsert u c (Some i) = z.may u (for_cpu c i)

  pair_settled : (o : Option Insert) (u c : ℕ) → MayInsert u c o → On z false (λ s. insert_or_put o s u c)
  pair_settled None u c may s t e = pair_put z k u c 1 s t e
  pair_settled (Some i) u c may s t e = pair_enters z k u (for_cpu c i) may s t e

  -- a CPU looks for work as the event ends, if it is idle
  turns_kicked : (c : ℕ) → Turns z false (λ s. kicked_if_idle s c)
  turns_kicked c s t e =
      two_if (z.states false) (is_by_linux s && is_idle s.world c) (is_by_linux t && is_idle t.world c) (kicked s c) (kicked t c) s t
      (ap (λ (b : Bool). b && is_idle s.world c) (k.reads s t e).linux ∙ ap (λ (b : Bool). is_by_linux t && b) ((k.reads s t e).idle c)) (k.kicked c s t e) e

  pair_wake_target : (c : ℕ) → On z false (λ s. wake_target s c)
  unfolding wake_target
  pair_wake_target c s t e =
      let one : State → Stepped = λ r. cond (is_idle r.world c) (cycle r c None false) (stays r) in
      let v = kicked_if_idle (woken s) c in
      let w = kicked_if_idle (woken t) c in
      either (is_by_linux s) (is_by_linux t) (stays v) (stays w) (one s) (one t) (k.reads s t e).linux
      (k.rests false v w (turns_kicked c (woken s) (woken t) (k.waker None s t e)))
      (either (is_idle s.world c) (is_idle t.world c) (cycle s c None false) (cycle t c None false) (stays s) (stays t) ((k.reads s t e).idle c) (pair_cycle z n c None false tt s t e) (k.rests false s t e))

  -- as it was inserted, or put
  pair_comes_to : (o : Option Insert) (u c : ℕ) → MayInsert u c o → On z false (λ s. comes_to o s u c)
  unfolding comes_to
  pair_comes_to o u c may s t e = onward (insert_or_put o s u c) (insert_or_put o t u c) (λ y. wake_target y c) (pair_settled o u c may s t e) (pair_wake_target c)

  may_still : (b : Bool) (o : Option Insert) (u c : ℕ) → MayInsert u c o → MayInsert u c (cond b None o)
  may_still true o u c may = tt
  may_still false o u c may = may

  pair_in_force : (o : Option Insert) (u c : ℕ) → MayInsert u c o → On z false (λ s. comes_to (while_in_force s o) s u c)
  pair_in_force o u c may s t e =
      subst (λ (b : Bool). z.steps false (comes_to (while_in_force s o) s u c) (comes_to (cond b None o) t u c)) (k.reads s t e).ejected
      (pair_comes_to (while_in_force s o) u c (may_still (is_ejected s) o u c may) s t e)

  -- once the policy has heard that it woke
  pair_told_runnable : (o : Option Insert) (u c : ℕ) → MayInsert u c o → On z false (λ s. told_runnable o s u c)
  unfolding told_runnable
  pair_told_runnable o u c may s t e =
      let a = task_and_number u 1 in
      onward (call_by_linux s callback.Runnable a u c) (call_by_linux t callback.Runnable a u c) (λ y. comes_to (while_in_force y o) y u c) (early_told callback.Runnable a u c refl s t e) (pair_in_force o u c may)

  -- once the task's CPU is known
  abbrev homed_comes : ℕ → ℕ → Option Insert → State → Stepped
  homed_comes u c o s = cond (is_by_linux s) (told_runnable o s u c) (comes_to o s u c)

  may_insert : (u c : ℕ) (s t : State) → z.states true s t → MayInsert u c s.world.call.insert
  may_insert u c s t e = go s.world.call.insert refl
    where
      go : (o : Option Insert) → s.world.call.insert ≡ o → MayInsert u c o
      go None is = tt
      go (Some i) is = k.inserts s t u c i e is

  pair_homed : (u c : ℕ) → From z true false (λ s. homed_comes u c s.world.call.insert s)
  pair_homed u c s t e =
      let o = s.world.call.insert in
      let h = k.eased s t e in
      let may = may_insert u c s t e in
      subst (λ (x : Option Insert). z.steps false (homed_comes u c o s) (homed_comes u c x t)) (k.calls s t e).wanted
      (either (is_by_linux s) (is_by_linux t) (told_runnable o s u c) (told_runnable o t u c) (comes_to o s u c) (comes_to o t u c) (k.reads s t h).linux (pair_told_runnable o u c may s t h) (pair_comes_to o u c may s t h))

  pair_settle : (u c : ℕ) → From z true false (λ s. settle s u c)
  unfolding settle
  pair_settle u c s t e = pair_homed u c (with_world s (homed s.world u c)) (with_world t (homed t.world u c)) (k.homed u c s t e)

  -- the CPU that is answered, if the task may run there
  answered_same : (u : ℕ) (a : Option ℕ) (s t : State) → z.states false s t → answered_cpu s.world u a ≡ answered_cpu t.world u a
  answered_same u None s t e = (k.reads s t e).choices u
  answered_same u (Some m) s t e =
      let x = k.reads s t e in
      let same : ℕ → ℕ → Type 0 = λ c d. c ≡ d in
      two_if same (nat_lt m (length s.world.cpus)) (nat_lt m (length t.world.cpus)) (cpu_or_home s.world u m) (cpu_or_home t.world u m) (default_choice s.world u) (default_choice t.world u)
      (ap (λ (xs : List (Option ℕ)). nat_lt m (length xs)) x.cpus) (two_if same (may_run s.world u m) (may_run t.world u m) m m (first_home s.world u) (first_home t.world u) (x.allowed u m) refl (x.first_homes u)) (x.choices u)

  target_same : (q : Option VerifiedProgram) (u : ℕ) (a : Option ℕ) (s t : State) → z.states false s t → target q s.world u a ≡ target q t.world u a
  target_same None u a s t e = (k.reads s t e).choices u
  target_same (Some q) u a s t e = answered_same u a s t e

  turns_chosen : (q : Option VerifiedProgram) (u : ℕ) → Turns z true (λ s. chosen q s u)
  turns_chosen None u s t e = k.chosen u s t e
  turns_chosen (Some q) u s t e = e

  -- a CPU that was answered
  abbrev settled_by : ℕ → Option ℕ → Option VerifiedProgram → State → Stepped
  settled_by u a q s = settle (chosen q s u) u (target q s.world u a)

  pair_settled_by : (u : ℕ) (a : Option ℕ) (q : Option VerifiedProgram) → From z true false (settled_by u a q)
  pair_settled_by u a q s t e =
      let c = target q s.world u a in
      subst (λ (x : ℕ). z.steps false (settled_by u a q s) (settle (chosen q t u) u x)) (target_same q u a s t (k.eased s t e)) (pair_settle u c (chosen q s u) (chosen q t u) (turns_chosen q u s t e))

  program_same : (b : Callback) (s t : State) → z.states false s t → acting s b ≡ acting t b
  program_same b s t e =
      let x = k.reads s t e in
      go s.world.ejected t.world.ejected (program_of s.policy b) x.ejected ∙ ap (λ (p : PolicyState). unless_ejected t.world.ejected (program_of p b)) x.policy
    where
      go : (o x : Option Eject) (p : Option VerifiedProgram) → is_some o ≡ is_some x → unless_ejected o p ≡ unless_ejected x p
      go None None p same = refl
      go None (Some y) p same = absurd (cc)
      go (Some x) None p same = absurd (cc)
      go (Some x) (Some y) p same = refl

  pair_settled_there : (u : ℕ) (a : Option ℕ) → From z true false (λ s. settled_by u a (acting s callback.SelectCpu) s)
  pair_settled_there u a s t e =
      let q = acting s callback.SelectCpu in
      subst (λ (x : Option VerifiedProgram). z.steps false (settled_by u a q s) (settled_by u a x t)) (program_same callback.SelectCpu s t (k.eased s t e)) (pair_settled_by u a q s t e)

  -- with that CPU as the one on which it ran last
  abbrev selected : ℕ → ℕ → State → Stepped
  selected u c s =
      let a = task_cpu_and_0 u c in
      let r = call_back s callback.SelectCpu a u c in
      one_after_other r (settled_by u (answered_by s callback.SelectCpu a u c) (acting r.state callback.SelectCpu) r.state)

  pair_selected : (u c : ℕ) → On z false (selected u c)
  pair_selected u c s t e =
      let a = task_cpu_and_0 u c in
      let r = call_back s callback.SelectCpu a u c in
      let q = call_back t callback.SelectCpu a u c in
      let there : Option ℕ → State → Stepped = λ o x. settled_by u o (acting x callback.SelectCpu) x in
      let o = answered_by s callback.SelectCpu a u c in
      k.called s t callback.SelectCpu a u c (Early callback.SelectCpu a refl) e false (there o r.state) (there (answered_by t callback.SelectCpu a u c) q.state)
      (λ h x. subst (λ (y : Option ℕ). z.steps false (there o r.state) (there y q.state)) x.answer (pair_settled_there u o r.state q.state h))

  pair_ask_target : (u : ℕ) → On z false (λ s. ask_target s u)
  unfolding ask_target
  pair_ask_target u s t e = let c = (task_at s.world u).prev_cpu in subst (λ (d : ℕ). z.steps false (selected u c s) (selected u d t)) ((k.reads s t e).homes u) (pair_selected u c s t e)

  pair_settle_at_home : (u c : ℕ) → On z false (λ s. settle_at_home s u c)
  unfolding settle_at_home
  pair_settle_at_home u c s t e = pair_settle u c (with_world s (at_callback s.world callback.SelectCpu u c)) (with_world t (at_callback t.world callback.SelectCpu u c)) (k.at_hand u c s t e)

  pair_select : (u : ℕ) → On z false (λ s. select s u)
  unfolding select
  pair_select u s t e =
      let x = k.reads s t e in
      let c = first_home s.world u in
      subst (λ (d : ℕ). z.steps false (select s u) (cond (asks_target t u) (ask_target t u) (settle_at_home t u d))) (x.first_homes u)
      (either (asks_target s u) (asks_target t u) (ask_target s u) (ask_target t u) (settle_at_home s u c) (settle_at_home t u c)
      (ap (λ (b : Bool). not (b && has_one_cpu s.world u)) x.linux ∙ ap (λ (b : Bool). not (is_by_linux t && b)) (x.one_cpu u)) (pair_ask_target u s t e) (pair_settle_at_home u c s t e))

  -- from the CPU on which it was last
  turns_from_waker : (u : ℕ) → Turns z false (λ s. from_waker s u)
  unfolding from_waker
  turns_from_waker u s t e =
      let x = k.reads s t e in
      let c = (task_at s.world u).prev_cpu in
      let from : State → ℕ → State = λ r d. with_world r (with_waker r.world (Some d)) in
      subst (λ (d : ℕ). z.states false (from_waker s u) (cond (is_by_linux t) (from t d) t)) (x.homes u)
      (two_if (z.states false) (is_by_linux s) (is_by_linux t) (from s c) (from t c) s t x.linux (k.waker (Some c) s t e) e)

  pair_wake : (u : ℕ) → On z false (λ s. wake s u)
  unfolding wake
  pair_wake u s t e =
      let v = with_world s (after_wake s.world u) in
      let w = with_world t (after_wake t.world u) in
      k.noted false s t e (note.Wake u) (select (from_waker v u) u) (select (from_waker w u) u) (pair_select u (from_waker v u) (from_waker w u) (turns_from_waker u v w (k.woken u s t e)))

  -- ---- a task goes to sleep

  turns_told : (u : ℕ) → Turns z false (λ s. told_of_sleep s u)
  unfolding told_of_sleep
  turns_told u s t e = two_if (z.states false) (is_by_linux s) (is_by_linux t) (with_world s (with_slept s.world u)) (with_world t (with_slept t.world u)) s t (k.reads s t e).linux (k.slept u s t e) e

  -- the CPU looks for another once the task sleeps
  pair_looks_after_sleep : (u c : ℕ) → On z false (λ s. looks_after_sleep s u c)
  unfolding looks_after_sleep
  pair_looks_after_sleep u c s t e = pair_cycle z n c None true tt (told_of_sleep s u) (told_of_sleep t u) (turns_told u s t e)

  -- the task sleeps, and the policy hears of it
  pair_falls_asleep : (u c : ℕ) → On z false (λ s. falls_asleep s u c)
  unfolding falls_asleep
  pair_falls_asleep u c s t e = early_told callback.Quiescent (task_and_number u 1) u c refl (with_world s (after_sleep s.world u)) (with_world t (after_sleep t.world u)) (k.asleep u s t e)

  -- the task leaves its CPU, on which it was the current one
  pair_leaves_cpu : (c u m : ℕ) → z.told u → On z false (λ s. leaves_cpu s c u m)
  unfolding leaves_cpu
  pair_leaves_cpu c u m told s t e =
      let v = with_world s (with_switch s.world c) in
      let w = with_world t (with_switch t.world c) in
      let x = with_world v (after_stop v.world c u) in
      let y = with_world w (after_stop w.world c u) in
      k.noted false s t e (note.Stop u c) (after_stopping x c u m) (after_stopping y c u m) (pair_stopping z n c u m told x y (k.stopped c u v w (k.switching c s t e)))

  pair_sleep_from_cpu : (u c : ℕ) → z.told u → On z false (λ s. sleep_from_cpu s u c)
  unfolding sleep_from_cpu
  pair_sleep_from_cpu u c told s t e =
      let f : State → Stepped = λ x. let q = falls_asleep x u c in one_after_other q (looks_after_sleep q.state u c) in
      onward (leaves_cpu s c u 0) (leaves_cpu t c u 0) f (pair_leaves_cpu c u 0 told s t e) (λ x y h. onward (falls_asleep x u c) (falls_asleep y u c) (λ r. looks_after_sleep r u c) (pair_falls_asleep u c x y h) (pair_looks_after_sleep u c))

  -- the task leaves its queue
  pair_leaves_queue : (u c flags : ℕ) → On z false (λ s. leaves_queue s u c flags)
  unfolding leaves_queue
  pair_leaves_queue u c flags s t e =
      let v = with_world s (after_leave s.world u) in
      let w = with_world t (after_leave t.world u) in
      let h = k.left u s t e in
      either (is_in_custody s.world u) (is_in_custody t.world u) (tells_dequeued v u c flags) (tells_dequeued w u c flags) (stays v) (stays w) (ap is_custody ((k.reads s t e).places u)) (pair_dequeued z n false u c flags v w h) (k.rests false v w h)

  pair_sleep_from_queue : (u c : ℕ) → On z false (λ s. sleep_from_queue s u c)
  unfolding sleep_from_queue
  pair_sleep_from_queue u c s t e = onward (leaves_queue s u c 1) (leaves_queue t u c 1) (λ y. falls_asleep y u c) (pair_leaves_queue u c 1 s t e) (pair_falls_asleep u c)

  -- both tell the slice of the task, if it has that CPU
  abbrev IsToldOn : Option ℕ → ℕ → Type 0
  IsToldOn o u = (c : ℕ) → o ≡ Some c → z.told u

  pair_sleep_from : (o : Option ℕ) (u : ℕ) → IsToldOn o u → On z false (λ s. sleep_from o s u)
  pair_sleep_from None u told s t e =
      let c = (task_at s.world u).prev_cpu in
      subst (λ (d : ℕ). z.steps false (sleep_from_queue s u c) (sleep_from_queue t u d)) ((k.reads s t e).homes u) (pair_sleep_from_queue u c s t e)
  pair_sleep_from (Some c) u told s t e = pair_sleep_from_cpu u c (told c refl) s t e

  -- both tell the slice of each task that runs
  abbrev pub AllTold : State → Type 0
  AllTold s = (u : ℕ) → runs_on u s.world.cpus ≡ true → z.told u

  cpu_same : (u : ℕ) (s t : State) → z.states false s t → cpu_of s.world u ≡ cpu_of t.world u
  cpu_same u s t e = ap (λ (xs : List (Option ℕ)). position (is_this u) xs) (k.reads s t e).cpus

  pair_sleep : (u : ℕ) (s t : State) → z.states false s t → AllTold s → z.steps false (sleep s u) (sleep t u)
  unfolding sleep
  pair_sleep u s t e all =
      let o = cpu_of s.world u in
      k.noted false s t e (note.Sleep u) (sleep_from o s u) (sleep_from (cpu_of t.world u) t u)
      (subst (λ (x : Option ℕ). z.steps false (sleep_from o s u) (sleep_from x t u)) (cpu_same u s t e) (pair_sleep_from o u (λ c is. all u (on_one s.world.cpus u c is)) s t e))

  -- ---- a tick

  pair_park : (u : ℕ) → z.told u → On z false (λ s. park s u)
  unfolding park
  pair_park u told s t e =
      let v = with_world s (put_parked s.world u) in
      let w = with_world t (put_parked t.world u) in
      k.noted false s t e (note.Insert u parked_queue) (stays v) (stays w) (k.rests false v w (k.parks u told s t e))

  pair_throttle : (c u : ℕ) → z.told u → On z false (λ s. throttle s c u)
  unfolding throttle
  pair_throttle c u told s t e =
      let f : State → Stepped = λ x. one_after_other (park x u) (cycle (park x u).state c None true) in
      onward (leaves_cpu s c u 1) (leaves_cpu t c u 1) f (pair_leaves_cpu c u 1 told s t e) (λ x y h. onward (park x u) (park y u) (λ r. cycle r c None true) (pair_park u told x y h) (pair_cycle z n c None true tt))

  ends_same : (s t : State) → z.states false s t → ends_slices s ≡ ends_slices t
  unfolding ends_slices
  ends_same s t e = let x = k.reads s t e in asked_if (λ b c. not b || c) (is_by_linux s) (is_by_linux t) (is_tick_time s) (is_tick_time t) (λ c d. refl) x.linux x.ticks

  pair_expire : (c u : ℕ) → z.told u → On z false (λ s. expire s c u)
  unfolding expire
  pair_expire c u told s t e =
      either ((task_at s.world u).slice == 0 && ends_slices s) ((task_at t.world u).slice == 0 && ends_slices t) (cycle s c (Some u) true) (cycle t c (Some u) true) (stays s) (stays t)
      (ap (λ (b : Bool). b && ends_slices s) ((k.reads s t e).slices u told) ∙ ap (λ (b : Bool). (task_at t.world u).slice == 0 && b) (ends_same s t e)) (pair_cycle z n c (Some u) true told s t e) (k.rests false s t e)

  -- its groups have used that
  pair_use_up : (c u : ℕ) → z.told u → On z false (λ s. use_up s c u)
  unfolding use_up
  pair_use_up c u told s t e =
      let v = with_world s (used_ms s.world u) in
      let w = with_world t (used_ms t.world u) in
      let h = k.used u s t e in
      either (is_throttled v.world u) (is_throttled w.world u) (throttle v c u) (throttle w c u) (expire v c u) (expire w c u) ((k.reads v w h).throttled u) (pair_throttle c u told v w h) (pair_expire c u told v w h)

  hears_same : (s t : State) → z.states false s t → hears_tick s ≡ hears_tick t
  unfolding hears_tick
  hears_same s t e =
      let x = k.reads s t e in
      let hears : PolicyState → Bool = λ p. is_some (program_of p callback.Tick) in
      ap (λ (p : PolicyState). (is_by_linux s && hears p) && is_tick_time s) x.policy
      ∙ asked_if (λ b c. (b && hears t.policy) && c) (is_by_linux s) (is_by_linux t) (is_tick_time s) (is_tick_time t) (λ c d. refl) x.linux x.ticks

  pair_tick_heard : (c u : ℕ) → z.told u → On z false (λ s. tick_heard s c u)
  unfolding tick_heard
  pair_tick_heard c u told s t e =
      either (hears_tick s) (hears_tick t) (call_back s callback.Tick (one_task u) u c) (call_back t callback.Tick (one_task u) u c) (stays s) (stays t) (hears_same s t e)
      (pair_told z k false callback.Tick (one_task u) u c (Alone callback.Tick u told) s t e) (k.rests false s t e)

  pair_count_down : (c u : ℕ) → z.told u → On z false (λ s. count_down s c u)
  unfolding count_down
  pair_count_down c u told s t e =
      let v = with_world s (after_tick s.world u) in
      let w = with_world t (after_tick t.world u) in
      onward (tick_heard v c u) (tick_heard w c u) (λ r. use_up r c u) (pair_tick_heard c u told v w (k.ticked u s t e)) (pair_use_up c u told)

  pair_tick_idle : (c : ℕ) → On z false (λ s. tick_idle s c)
  unfolding tick_idle
  pair_tick_idle c s t e = either (is_by_linux s) (is_by_linux t) (stays s) (stays t) (cycle s c None false) (cycle t c None false) (k.reads s t e).linux (k.rests false s t e) (pair_cycle z n c None false tt s t e)

  pair_tick_of : (o : Option ℕ) (c : ℕ) (s t : State) → z.states false s t → ((u : ℕ) → o ≡ Some u → z.told u) → z.steps false (tick_of o s c) (tick_of o t c)
  pair_tick_of None c s t e told = pair_tick_idle c s t e
  pair_tick_of (Some u) c s t e told = pair_count_down c u (told u refl) s t e

  pair_tick : (c : ℕ) (s t : State) → z.states false s t → AllTold s → z.steps false (tick s c) (tick t c)
  unfolding tick
  pair_tick c s t e all =
      let o = running s.world c in
      subst (λ (xs : List (Option ℕ)). z.steps false (tick_of o s c) (tick_of (get_or xs c None) t c)) (k.reads s t e).cpus (pair_tick_of o c s t e (λ u is. all u (on_that s.world.cpus c u is)))

  -- ---- the clock

  -- a task is let go, put, and its CPU looks for work, if it is idle
  abbrev put_anew : ℕ → ℕ → State → Stepped
  put_anew u c s = let r = put (with_world s (let_go s.world u)) u c 0 in record r { state = kicked_if_idle r.state c }

  pair_put_anew : (u c : ℕ) → On z false (put_anew u c)
  pair_put_anew u c s t e =
      let v = with_world s (let_go s.world u) in
      let w = with_world t (let_go t.world u) in
      let r = put v u c 0 in
      let q = put w u c 0 in
      ended z k false false r q (kicked_if_idle r.state c) (kicked_if_idle q.state c) (pair_put z k u c 0 v w (k.let_off u s t e)) (turns_kicked c r.state q.state)

  pair_let_go_one : (u : ℕ) → On z false (λ s. let_go_one s u)
  unfolding let_go_one
  pair_let_go_one u s t e = let c = (task_at s.world u).prev_cpu in subst (λ (d : ℕ). z.steps false (put_anew u c s) (put_anew u d t)) ((k.reads s t e).homes u) (pair_put_anew u c s t e)

  -- a task is let go, unless it is throttled, and then those from that one on
  abbrev let_go_then : ℕ → ℕ → Option ℕ → State → Stepped
  let_go_then m u next s = cond (is_throttled s.world u) (let_go_from m s next) (one_after_other (let_go_one s u) (let_go_from m (let_go_one s u).state next))

  pair_let_go_from : (m : ℕ) (o : Option ℕ) → On z false (λ s. let_go_from m s o)
  unfolding let_go_from
  pair_let_go_from zero o s t e = k.rests false s t e
  pair_let_go_from (suc m) None s t e = k.rests false s t e
  pair_let_go_from (suc m) (Some u) s t e =
      let x = k.reads s t e in
      let next = behind_of s.world.queues u in
      let r = let_go_one s u in
      let q = let_go_one t u in
      subst (λ (o : Option ℕ). z.steps false (let_go_then m u next s) (let_go_then m u o t)) (x.behind u)
      (either (is_throttled s.world u) (is_throttled t.world u) (let_go_from m s next) (let_go_from m t next) (one_after_other r (let_go_from m r.state next)) (one_after_other q (let_go_from m q.state next)) (x.throttled u)
      (pair_let_go_from m next s t e) (onward r q (λ y. let_go_from m y next) (pair_let_go_one u s t e) (pair_let_go_from m next)))

  pair_let_all_go : On z false let_all_go
  unfolding let_all_go
  pair_let_all_go s t e =
      let x = k.reads s t e in
      let m = len_of s.world.queues parked_queue in
      let o = front_of s.world.queues parked_queue in
      subst (λ (i : ℕ). z.steps false (let_go_from m s o) (let_go_from i t (front_of t.world.queues parked_queue))) (x.lengths parked_queue)
      (subst (λ (p : Option ℕ). z.steps false (let_go_from m s o) (let_go_from m t p)) (x.fronts parked_queue) (pair_let_go_from m o s t e))

  -- timers that are due
  pair_fires : (m : ℕ) (o x : Option Alarm) → SameCpu o x → (s t : State) → z.states false s t → z.steps false (fires o s m) (fires x t m)
  pair_fires m None None same s t e = k.rests false s t e
  pair_fires m None (Some b) same s t e = absurd same
  pair_fires m (Some a) None same s t e = absurd same
  pair_fires m (Some a) (Some b) same s t e =
      let v = with_world s (after_fire s.world m) in
      let w = with_world t (after_fire t.world m) in
      let call : State → ℕ → Stepped = λ y c. call_by_linux y callback.Timer (one_number m) 0 c in
      let r = call v a.cpu in
      let once : State → ℕ → Stepped = λ y c. let q = call y c in record q { state = fired q.state } in
      subst (λ (c : ℕ). z.steps false (once v a.cpu) (once w c)) same
      (ended z k false false r (call w a.cpu) (fired r.state) (fired (call w a.cpu).state) (early_told callback.Timer (one_number m) 0 a.cpu refl v w (k.fired m s t e)) (k.unhanded r.state (call w a.cpu).state))

  pair_fire : (m : ℕ) → On z false (λ s. fire s m)
  unfolding fire due
  pair_fire m s t e =
      let at : State → Option Alarm = λ x. due_now x.world (alarm_at x.world m) in
      let x = k.reads s t e in
      pair_fires m (due s m) (due t m) (two_if SameCpu (is_by_linux s) (is_by_linux t) (at s) (at t) None None x.linux (x.alarms m) tt) s t e

  pair_fire_below : (m : ℕ) → On z false (λ s. fire_below m s)
  pair_fire_below zero s t e = k.rests false s t e
  pair_fire_below (suc m) s t e = onward (fire_below m s) (fire_below m t) (λ y. fire y m) (pair_fire_below m s t e) (pair_fire m)

  pair_fire_all : On z false fire_all
  unfolding fire_all
  pair_fire_all s t e = let m = length s.world.timers in subst (λ (i : ℕ). z.steps false (fire_below m s) (fire_below i t)) (k.reads s t e).timers (pair_fire_below m s t e)

  pair_stalled : (o : Option ℕ) → On z false (eject_if_stalled o)
  pair_stalled None s t e = k.rests false s t e
  pair_stalled (Some u) s t e = k.stalled u s t e

  -- timers run, and then the policy is ejected for that task
  abbrev stalls : Option ℕ → State → Stepped
  stalls o s = let r = fire_all s in one_after_other r (eject_if_stalled o r.state)

  pair_stalls : (o : Option ℕ) → On z false (stalls o)
  pair_stalls o s t e = onward (fire_all s) (fire_all t) (eject_if_stalled o) (pair_fire_all s t e) (pair_stalled o)

  -- both are the same once periods have begun
  abbrev pub BeginAlike : State → State → Type 0
  BeginAlike s t = z.states false (with_world s (begun_periods (later s.world))) (with_world t (begun_periods (later t.world)))

  -- tasks were let go that may run again, and timers that are due have run
  abbrev pub once_fired : State → Stepped
  once_fired s = let r = once_let_go s in one_after_other r (fire_all r.state)

  -- both come to such states by then
  pub pair_once_fired : (s t : State) → BeginAlike s t → z.steps false (once_fired s) (once_fired t)
  pair_once_fired s t begun = onward (once_let_go s) (once_let_go t) fire_all (pair_let_all_go (with_world s (begun_periods (later s.world))) (with_world t (begun_periods (later t.world))) begun) pair_fire_all

  -- where in both the same task or none waits too long by then
  pair_clock : (s t : State) → BeginAlike s t → late_in s Clock ≡ late_in t Clock → z.steps false (clock s) (clock t)
  unfolding clock timers_and_watchdog watch
  pair_clock s t begun late =
      let r = once_let_go s in
      let q = once_let_go t in
      subst (λ (o : Option ℕ). z.steps false (one_after_other r (stalls (late_in s Clock) r.state)) (one_after_other q (stalls o q.state))) late
      (onward r q (stalls (late_in s Clock)) (pair_let_all_go (with_world s (begun_periods (later s.world))) (with_world t (begun_periods (later t.world))) begun) (pair_stalls (late_in s Clock)))

  -- ---- a task's own weight

  pair_takes_weight : (u c x : ℕ) → On z false (λ s. takes_weight s u c x)
  unfolding takes_weight
  pair_takes_weight u c x s t e = early_told callback.SetWeight (task_and_number u x) u c refl (with_world s (after_own_weight s.world u x)) (with_world t (after_own_weight t.world u x)) (k.weighed u x s t e)

  -- the task is told of as runnable again
  abbrev weighed_again : ℕ → ℕ → ℕ → State → Stepped
  weighed_again u c x s =
      let w = takes_weight s u c x in
      one_after_other w (call_by_linux w.state callback.Runnable (task_and_number u restore_flag) u c)

  pair_changes_weight : (u c x : ℕ) → On z false (λ s. changes_weight s u c x)
  unfolding changes_weight
  pair_changes_weight u c x s t e =
      let a = task_and_number u change_flags in
      let b = task_and_number u restore_flag in
      onward (call_by_linux s callback.Quiescent a u c) (call_by_linux t callback.Quiescent a u c) (weighed_again u c x) (early_told callback.Quiescent a u c refl s t e)
      (λ v w h. onward (takes_weight v u c x) (takes_weight w u c x) (λ y. call_by_linux y callback.Runnable b u c) (pair_takes_weight u c x v w h) (early_told callback.Runnable b u c refl))

  -- a task that runs, and runs on
  abbrev goes_on : ℕ → ℕ → ℕ → State → Stepped
  goes_on u c x s =
      let b = changes_weight s u c x in
      one_after_other b (call_by_linux b.state callback.Running (one_task u) u c)

  pair_reweigh_running : (u c x : ℕ) → z.told u → On z false (λ s. reweigh_running s u c x)
  unfolding reweigh_running
  pair_reweigh_running u c x told s t e =
      let a = task_and_number u 0 in
      onward (call_by_linux s callback.Stopping a u c) (call_by_linux t callback.Stopping a u c) (goes_on u c x) (pair_call_by_linux z k false callback.Stopping a u c (Counted callback.Stopping u 0 told) s t e)
      (λ v w h. onward (changes_weight v u c x) (changes_weight w u c x) (λ y. call_by_linux y callback.Running (one_task u) u c) (pair_changes_weight u c x v w h) (pair_call_by_linux z k false callback.Running (one_task u) u c (Alone callback.Running u told)))

  -- a task that waits, and is put again
  abbrev waits_on : ℕ → ℕ → ℕ → State → Stepped
  waits_on u c x s = let b = changes_weight s u c x in one_after_other b (put b.state u c 0)

  pair_reweigh_waiting : (u c x : ℕ) → On z false (λ s. reweigh_waiting s u c x)
  unfolding reweigh_waiting
  pair_reweigh_waiting u c x s t e =
      onward (leaves_queue s u c change_flags) (leaves_queue t u c change_flags) (waits_on u c x) (pair_leaves_queue u c change_flags s t e)
      (λ v w h. onward (changes_weight v u c x) (changes_weight w u c x) (λ y. put y u c 0) (pair_changes_weight u c x v w h) (pair_put z k u c 0))

  pair_reweigh_off_cpu : (u c x : ℕ) → On z false (λ s. reweigh_off_cpu s u c x)
  unfolding reweigh_off_cpu
  pair_reweigh_off_cpu u c x s t e =
      either (waits s.world u) (waits t.world u) (reweigh_waiting s u c x) (reweigh_waiting t u c x) (takes_weight s u c x) (takes_weight t u c x) (ap waits_in ((k.reads s t e).places u)) (pair_reweigh_waiting u c x s t e) (pair_takes_weight u c x s t e)

  pair_reweigh_at : (o : Option ℕ) (u x : ℕ) → IsToldOn o u → On z false (λ s. reweigh_at o s u x)
  pair_reweigh_at None u x told s t e = let c = (task_at s.world u).prev_cpu in subst (λ (d : ℕ). z.steps false (reweigh_off_cpu s u c x) (reweigh_off_cpu t u d x)) ((k.reads s t e).homes u) (pair_reweigh_off_cpu u c x s t e)
  pair_reweigh_at (Some c) u x told s t e = pair_reweigh_running u c x (told c refl) s t e

  pair_reweigh_by_linux : (u x : ℕ) (s t : State) → z.states false s t → AllTold s → z.steps false (reweigh_by_linux s u x) (reweigh_by_linux t u x)
  unfolding reweigh_by_linux
  pair_reweigh_by_linux u x s t e all =
      let o = cpu_of s.world u in
      let v = with_world s (with_waker s.world (Some 0)) in
      let w = with_world t (with_waker t.world (Some 0)) in
      let once : Option ℕ → State → Stepped = λ y r. let q = reweigh_at y r u x in record q { state = woken q.state } in
      let r = reweigh_at o v u x in
      let q = reweigh_at o w u x in
      subst (λ (y : Option ℕ). z.steps false (once o v) (once y w)) (cpu_same u s t e)
      (ended z k false false r q (woken r.state) (woken q.state) (pair_reweigh_at o u x (λ c is. all u (on_one s.world.cpus u c is)) v w (k.waker (Some 0) s t e)) (k.waker None r.state q.state))

  pair_reweigh : (u x : ℕ) (s t : State) → z.states false s t → AllTold s → z.steps false (reweigh s u x) (reweigh t u x)
  unfolding reweigh
  pair_reweigh u x s t e all =
      let v = with_world s (after_own_weight s.world u x) in
      let w = with_world t (after_own_weight t.world u x) in
      either (is_by_linux s) (is_by_linux t) (reweigh_by_linux s u x) (reweigh_by_linux t u x) (stays v) (stays w) (k.reads s t e).linux (pair_reweigh_by_linux u x s t e all) (k.rests false v w (k.weighed u x s t e))

  -- ---- any event

  pair_weight : (g x : ℕ) → On z false (λ s. own_step s (SetWeight g x))
  pair_weight g x s t e =
      let v = with_world s (after_reweigh s.world g x) in
      let w = with_world t (after_reweigh t.world g x) in
      k.noted false s t e (note.Weight g x) (stays v) (stays w) (k.rests false v w (k.reweighed g x s t e))

  -- an event of two such states, where both tell the slice of each task that runs, and in both the same task or none waits too long
  pub pair_own : (e : Event) (s t : State) → z.states false s t → AllTold s → BeginAlike s t → late_in s e ≡ late_in t e → z.steps false (own_step s e) (own_step t e)
  pair_own (Wake u) s t same all begun late = pair_wake u s t same
  pair_own (Sleep u) s t same all begun late = pair_sleep u s t same all
  pair_own (Tick c) s t same all begun late = pair_tick c s t same all
  pair_own Clock s t same all begun late = pair_clock s t begun late
  pair_own (SetWeight g x) s t same all begun late = pair_weight g x s t same
  pair_own (SetTaskWeight u x) s t same all begun late = k.noted false s t same (note.TaskWeight u x) (reweigh s u x) (reweigh t u x) (pair_reweigh u x s t same all)

  -- with its rounds, where both always tell the slice of each task
  pub pair_event : ((u : ℕ) → z.told u) → (e : Event) (s t : State) → z.states false s t → BeginAlike s t → late_in s Clock ≡ late_in t Clock → z.steps false (event_step s e) (event_step t e)
  pair_event all e s t same begun late =
      pair_with_rounds z k (λ c v w h linux. pair_round z n c v w h linux (told (running v.world c))) (own_step s e) (own_step t e)
      (pair_own e s t same (λ u on. all u) begun (late_by s t e (λ is. subst (λ (x : Event). late_in s x ≡ late_in t x) (sym is) late)))
    where
      told : (o : Option ℕ) → Told z n o
      told None = tt
      told (Some u) = all u
