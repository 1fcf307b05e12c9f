-- Where the rules differ, what is computed is as the cases allow, and nothing else is.
use Rattle.std.proofs.Common.{◌≡◌, ℕ, ◌+◌, ◌%◌, ◌<◌, ◌≤◌, nat_lt, Bool, true, false, not, ◌==◌, ◌&&◌, ◌⊎◌, inl, inr, if◌then◌else◌, Option, Some, None, is_some, slice_index_or, unwrap_or, option_map, refl, sym, ◌∙◌, ap, arith}
use Rattle.std.proofs.lemmas.Option.{same_Some}
use Rattle.std.proofs.lemmas.Bool.{cases_eq, eq-eqb, ne_eqb, false_from_ne_true, and_right, and_parts, or_left, not-true, or_cases, and_from, or_right, and_left}
use Rattle.std.proofs.lemmas.Bool.Decides.{nat_tests}
use Rattle.scx_dsq.specs.Queues.{is_in}
use Rattle.scx_dsq.specs.declared.entries.Entry.{Entry}
use Rattle.scx_isa_semantics.specs.declared.callbacks.Callback.{Callback}
use Rattle.scx_isa_semantics.specs.declared.callbacks.Callback.TheVariants as callback
use Rattle.scx_vm.specs.Programs.{VerifiedProgram}
use Rattle.scx_vm.specs.declared.arguments.Args.{Args}
use Rattle.scx_sched_world.specs.declared.passing.Switch.{Switch}
use Rattle.scx_sched_world.specs.CpuSets.{but_cpu}
use Rattle.scx_sched_world.specs.World as world
use Rattle.scx_sched_world.specs.World.{WorldState, nothing_passes, or_switch, with_switch, with_cycling, with_slept, with_waker, current_in, current, here, task_at, running, is_idle}
use Rattle.scx_sched_world.specs.Tasks.{homed, local_len, after_switch}
use Rattle.scx_sched_machine.specs.Steps.{State, Stepped, with_world, stays, is_by_linux, kicked, kicked_if_idle}
use Rattle.scx_sched_machine.specs.Cycle.{keeps_slice, asks_again, switched, give_up, hears_idle}
use Rattle.scx_sched_policy.specs.Policy.{program_of}
use Rattle.scx_sched_machine.specs.Callbacks.{call_back, call_by_linux, one_task}
use Rattle.scx_sched_machine.specs.Events.{from_waker, told_of_sleep, is_tick_time, ends_slices, hears_tick, tick_heard}
use Rattle.scx_laws.specs.Differences.{with_home_at, Homes, StaysAtHome, MovesHome, IsCurrent, NoSwitch, SwitchesHere, SwitchesElsewhere, BeginsSwitch, NoSwitchByPlain, IsSwitching, Begins, BeginsCycle, BeginsByPlain, BeginsByLinux, EndsCycle, EndsAsByPlain, EndsAsByLinux, IsHere, WokenFrom, AtHand, NextByLinux, StaysByPlain, BecomesNext, TellsWaker, CallsIfThere, IsPlain, IsAbsent, IsThere, IsTickTime, EachMs, AtTick, HearsTick, NoTickByPlain, HasNoTick, BetweenTicks, IsCalled, HearsIdle, HasUpdateIdle, KeepsSlice, HasLeft, GivesWay, NoTask, ByPlain, UsedUp, Switches, SwitchesByPlain, SwitchesExactly, TakesTime, EndsSlices, EndsByPlain, EndsAtTick, TellsSleep, IsToAsk, GivesUp, GivesUpByPlain, HasAsked, LooksAgain, LooksIfIdle, LooksByPlain, IsBusy, Looks}
use Rattle.scx_laws.specs.Allowing.{CyclesEndSwitches, CyclesKeepCurrent}

-- ---- Booleans

pub not_so : (b : Bool) → b ≡ false → b ≡ true → ⊥
not_so true x y = absurd (cc)
not_so false x y = absurd (cc)

pub below : (k n : ℕ) → k < n → nat_lt k n ≡ true
below k n l = grind (arith, nat_tests, l)

pub past : (k n : ℕ) → n ≤ k → nat_lt k n ≡ false
past k n l = grind (arith, nat_tests, l)

is_zero : (n : ℕ) → (n == 0) ≡ true → n ≡ 0
is_zero n e = grind (arith, nat_tests, e)

pub not_zero : (n : ℕ) → 0 < n → not (n == 0) ≡ true
not_zero n l = rw (ne_eqb n 0 (λ z. omega (arith, z, l))) refl

pub is_some_left : (n : ℕ) → not (n == 0) ≡ true → 0 < n
is_some_left n e = go (cases_eq n 0)
  where
    go : (n ≡ 0) ⊎ (n ≡ 0 → ⊥) → 0 < n
    go (inl z) = let b : not (n == 0) ≡ false = rw (eq-eqb n 0 z) refl in absurd (not_so (not (n == 0)) b e)
    go (inr d) = omega (arith, d)

pub zero_not : (n : ℕ) → n ≡ 0 → not (n == 0) ≡ false
zero_not n z = rw (eq-eqb n 0 z) refl

-- ---- what may be found

-- where no number may be found, none is
pub none_if_never : (o : Option ℕ) → ((k : ℕ) → o ≡ Some k → ⊥) → o ≡ None
none_if_never None n = refl
none_if_never (Some k) n = absurd (n k refl)

-- ---- in which queue a task waits

pub in_is : (q : ℕ) (o : Option Entry) → is_in q o ≡ true → option_map (λ p. p.queue) o ≡ Some q
in_is q None e = absurd (cc)
in_is q (Some p) e = ap Some (grind (arith, nat_tests, e))

pub in_of : (q : ℕ) (o : Option Entry) → option_map (λ p. p.queue) o ≡ Some q → is_in q o ≡ true
in_of q None e = absurd (cc)
in_of q (Some p) e = eq-eqb p.queue q (same_Some p.queue q e)

-- ---- the processor of a task

abbrev homed_as : WorldState → ℕ → ℕ → Bool → WorldState
homed_as w t c b = if b then with_home_at w t c else w

pub homes : (w : WorldState) (t c : ℕ) → Homes w t c (homed w t c)
homes w t c = go (world.is_by_linux w) refl
  where
    go : (b : Bool) → world.is_by_linux w ≡ b → Homes w t c (homed_as w t c b)
    go true e = MovesHome e refl
    go false e = StaysAtHome e refl

pub only_homes : (w : WorldState) (t c : ℕ) (v : WorldState) → Homes w t c v → v ≡ homed w t c
only_homes w t c v (StaysAtHome e k) = k ∙ ap (λ b. homed_as w t c b) (sym e)
only_homes w t c v (MovesHome e k) = k ∙ ap (λ b. homed_as w t c b) (sym e)

-- ---- slices

pub keeps : (s : State) (p : Option ℕ) → KeepsSlice s p → keeps_slice s p ≡ true
keeps s p (HasLeft t b e l) = ap (λ o. keeps_slice s o) e ∙ and_from (is_by_linux s) (not ((task_at s.world t).slice == 0)) b (not_zero (task_at s.world t).slice l)

pub gives : (s : State) (p : Option ℕ) → GivesWay s p → keeps_slice s p ≡ false
gives s p (NoTask e) = ap (λ o. keeps_slice s o) e
gives s p (UsedUp t e z) = ap (λ o. keeps_slice s o) e ∙ and_right (is_by_linux s) (not ((task_at s.world t).slice == 0)) (zero_not (task_at s.world t).slice z)
gives s None (ByPlain e) = refl
gives s (Some t) (ByPlain e) = and_left (is_by_linux s) (not ((task_at s.world t).slice == 0)) e

-- a task keeps its slice or gives way
pub keeps_or_gives : (s : State) (p : Option ℕ) → KeepsSlice s p ⊎ GivesWay s p
keeps_or_gives s None = inr (NoTask refl)
keeps_or_gives s (Some t) = go (is_by_linux s) refl (cases_eq (task_at s.world t).slice 0)
  where
    go : (b : Bool) → is_by_linux s ≡ b → ((task_at s.world t).slice ≡ 0) ⊎ ((task_at s.world t).slice ≡ 0 → ⊥) → KeepsSlice s (Some t) ⊎ GivesWay s (Some t)
    go false e any = inr (ByPlain e)
    go true e (inl z) = inr (UsedUp t refl z)
    go true e (inr d) = inl (HasLeft t e refl (omega (arith, d)))

abbrev switched_as : State → ℕ → Bool → Bool → State
switched_as s t a b = if a && not b then with_world s (after_switch s.world t) else s

pub switches : (s : State) (t : ℕ) → Switches s t (switched s t)
unfolding switched
switches s t = go (is_by_linux s) refl (cases_eq s.policy.tick_ms 0)
  where
    go : (b : Bool) → is_by_linux s ≡ b → (s.policy.tick_ms ≡ 0) ⊎ (s.policy.tick_ms ≡ 0 → ⊥) → Switches s t (switched_as s t b (s.policy.tick_ms == 0))
    go false e any = SwitchesByPlain e refl
    go true e (inl z) = rw (eq-eqb s.policy.tick_ms 0 z) (SwitchesExactly z refl)
    go true e (inr d) = rw (ne_eqb s.policy.tick_ms 0 d) (TakesTime e (omega (arith, d)) refl)

exactly_is : (s : State) (t : ℕ) (a : Bool) → s ≡ switched_as s t a true
exactly_is s t true = refl
exactly_is s t false = refl

pub only_switches : (s : State) (t : ℕ) (v : State) → Switches s t v → v ≡ switched s t
unfolding switched
only_switches s t v (SwitchesByPlain e k) = k ∙ ap (λ a. switched_as s t a (s.policy.tick_ms == 0)) (sym e)
only_switches s t v (SwitchesExactly z k) = k ∙ exactly_is s t (is_by_linux s) ∙ ap (λ b. switched_as s t (is_by_linux s) b) (sym (eq-eqb s.policy.tick_ms 0 z))
only_switches s t v (TakesTime e l k) =
    k ∙ ap (λ b. switched_as s t true b) (sym (ne_eqb s.policy.tick_ms 0 (λ z. omega (arith, z, l)))) ∙ ap (λ a. switched_as s t a (s.policy.tick_ms == 0)) (sym e)

tick_time_is : (s : State) → is_tick_time s ≡ true → IsTickTime s
tick_time_is s e = go (or_cases (s.policy.tick_ms == 0) ((s.world.clock + 1) % s.policy.tick_ms == 0) e)
  where
    go : (s.policy.tick_ms == 0) ≡ true ⊎ ((s.world.clock + 1) % s.policy.tick_ms == 0) ≡ true → IsTickTime s
    go (inl x) = EachMs (is_zero s.policy.tick_ms x)
    go (inr x) = AtTick (is_zero ((s.world.clock + 1) % s.policy.tick_ms) x)

tick_time_of : (s : State) → IsTickTime s → is_tick_time s ≡ true
tick_time_of s (EachMs z) = or_left (s.policy.tick_ms == 0) ((s.world.clock + 1) % s.policy.tick_ms == 0) (eq-eqb s.policy.tick_ms 0 z)
tick_time_of s (AtTick z) = or_right (s.policy.tick_ms == 0) ((s.world.clock + 1) % s.policy.tick_ms == 0) (eq-eqb ((s.world.clock + 1) % s.policy.tick_ms) 0 z)

pub ends_is : (s : State) → ends_slices s ≡ true → EndsSlices s
unfolding ends_slices
ends_is s e = go (or_cases (not (is_by_linux s)) (is_tick_time s) e)
  where
    go : (not (is_by_linux s) ≡ true) ⊎ (is_tick_time s ≡ true) → EndsSlices s
    go (inl x) = EndsByPlain (not-true (is_by_linux s) x)
    go (inr x) = EndsAtTick (tick_time_is s x)

pub ends_of : (s : State) → EndsSlices s → ends_slices s ≡ true
unfolding ends_slices
ends_of s (EndsByPlain e) = or_left (not (is_by_linux s)) (is_tick_time s) (ap (λ b. not b) e)
ends_of s (EndsAtTick h) = or_right (not (is_by_linux s)) (is_tick_time s) (tick_time_of s h)

-- ---- the current task

abbrev current_as : WorldState → ℕ → Switch → Bool → Option ℕ
current_as w c x b = if b then x.from else running w c

pub current_is : (w : WorldState) (c : ℕ) → IsCurrent w c (current w c)
current_is w c = go w.passing.switching refl
  where
    at : (x : Switch) → w.passing.switching ≡ Some x → (x.cpu ≡ c) ⊎ (x.cpu ≡ c → ⊥) → IsCurrent w c (current_as w c x (x.cpu == c))
    at x e (inl k) = rw (eq-eqb x.cpu c k) (SwitchesHere x e k refl)
    at x e (inr d) = rw (ne_eqb x.cpu c d) (SwitchesElsewhere x e d refl)

    go : (o : Option Switch) → w.passing.switching ≡ o → IsCurrent w c (current_in o w c)
    go None e = NoSwitch e refl
    go (Some x) e = at x e (cases_eq x.cpu c)

pub only_current : (w : WorldState) (c : ℕ) (o : Option ℕ) → IsCurrent w c o → o ≡ current w c
only_current w c o (NoSwitch e k) = k ∙ ap (λ x. current_in x w c) (sym e)
only_current w c o (SwitchesHere x e h k) = k ∙ ap (λ b. current_as w c x b) (sym (eq-eqb x.cpu c h)) ∙ ap (λ y. current_in y w c) (sym e)
only_current w c o (SwitchesElsewhere x e d k) = k ∙ ap (λ b. current_as w c x b) (sym (ne_eqb x.cpu c d)) ∙ ap (λ y. current_in y w c) (sym e)

abbrev switched_to : WorldState → Option Switch → WorldState
switched_to w o = record w { passing = record w.passing { switching = o } }

abbrev new_switch : WorldState → ℕ → Switch
new_switch w c = record { cpu = c; from = running w c }

abbrev switch_as : WorldState → ℕ → Bool → Option Switch → WorldState
switch_as w c b o = if b then switched_to w (or_switch o (new_switch w c)) else w

pub begins_switch : (w : WorldState) (c : ℕ) → BeginsSwitch w c (with_switch w c)
begins_switch w c = go (world.is_by_linux w) refl w.passing.switching refl
  where
    go : (b : Bool) → world.is_by_linux w ≡ b → (o : Option Switch) → w.passing.switching ≡ o → BeginsSwitch w c (switch_as w c b o)
    go false e o x = NoSwitchByPlain e refl
    go true e None x = Begins e x refl
    go true e (Some y) x = IsSwitching y x (ap (λ o. switched_to w o) (sym x))

pub only_begins_switch : (w : WorldState) (c : ℕ) (v : WorldState) → BeginsSwitch w c v → v ≡ with_switch w c
only_begins_switch w c v (NoSwitchByPlain e k) = k ∙ ap (λ b. switch_as w c b w.passing.switching) (sym e)
only_begins_switch w c v (IsSwitching x e k) = k ∙ still (world.is_by_linux w)
  where
    still : (b : Bool) → w ≡ switch_as w c b w.passing.switching
    still false = refl
    still true = ap (λ o. switched_to w o) (e ∙ ap (λ o. or_switch o (new_switch w c)) (sym e))
only_begins_switch w c v (Begins e n k) = k ∙ ap (λ o. switch_as w c true o) (sym n) ∙ ap (λ b. switch_as w c b w.passing.switching) (sym e)

abbrev begun_from : WorldState → ℕ → WorldState → WorldState
begun_from w c u = record u { cycling = Some c; claimed = but_cpu w.claimed c }

abbrev begun_as : WorldState → ℕ → Bool → WorldState
begun_as w c b = if b then begun_from w c (with_switch w c) else record w { cycling = Some c }

pub begins_cycle : (w : WorldState) (c : ℕ) → BeginsCycle w c (with_cycling w (Some c))
begins_cycle w c = go (world.is_by_linux w) refl
  where
    go : (b : Bool) → world.is_by_linux w ≡ b → BeginsCycle w c (begun_as w c b)
    go false e = BeginsByPlain e refl
    go true e = BeginsByLinux (with_switch w c) e (begins_switch w c) refl

pub only_begins_cycle : (w : WorldState) (c : ℕ) (v : WorldState) → BeginsCycle w c v → v ≡ with_cycling w (Some c)
only_begins_cycle w c v (BeginsByPlain e k) = k ∙ ap (λ b. begun_as w c b) (sym e)
only_begins_cycle w c v (BeginsByLinux u e h k) = k ∙ ap (λ x. begun_from w c x) (only_begins_switch w c u h) ∙ ap (λ b. begun_as w c b) (sym e)

abbrev over_as : WorldState → Bool → WorldState
over_as w b = if b then record w { cycling = None; passing = nothing_passes } else record w { cycling = None }

pub ends_cycle : (w : WorldState) → EndsCycle w (with_cycling w None)
ends_cycle w = go (world.is_by_linux w) refl
  where
    go : (b : Bool) → world.is_by_linux w ≡ b → EndsCycle w (over_as w b)
    go false e = EndsAsByPlain e refl
    go true e = EndsAsByLinux e refl

pub only_ends_cycle : (w v : WorldState) → EndsCycle w v → v ≡ with_cycling w None
only_ends_cycle w v (EndsAsByPlain e k) = k ∙ ap (λ b. over_as w b) (sym e)
only_ends_cycle w v (EndsAsByLinux e k) = k ∙ ap (λ b. over_as w b) (sym e)

-- as a cycle ends, the task that runs on a processor is the current one
pub ends_switches : CyclesEndSwitches
ends_switches w c e = ap (λ b. current (over_as w b) c) e

same_current : (o : Option Switch) (v w : WorldState) (d : ℕ) → v.cpus ≡ w.cpus → current_in o v d ≡ current_in o w d
same_current None v w d e = ap (λ x. slice_index_or x d None) e
same_current (Some s) v w d e = ap (λ x. if s.cpu == d then s.from else slice_index_or x d None) e

switch_keeps : (w : WorldState) (c d : ℕ) → current (with_switch w c) d ≡ current w d
switch_keeps w c d = go (world.is_by_linux w) w.passing.switching refl
  where
    new : w.passing.switching ≡ None → (c ≡ d) ⊎ (c ≡ d → ⊥) → current_as w d (new_switch w c) (c == d) ≡ current w d
    new x (inl k) = ap (λ b. current_as w d (new_switch w c) b) (eq-eqb c d k) ∙ ap (λ m. running w m) k ∙ ap (λ o. current_in o w d) (sym x)
    new x (inr n) = ap (λ b. current_as w d (new_switch w c) b) (ne_eqb c d n) ∙ ap (λ o. current_in o w d) (sym x)

    go : (b : Bool) (o : Option Switch) → w.passing.switching ≡ o → current (switch_as w c b o) d ≡ current w d
    go false o x = refl
    go true None x = new x (cases_eq c d)
    go true (Some y) x = ap (λ o. current_in o w d) (sym x)

-- as one begins, each current task stays the current one
pub keeps_current : CyclesKeepCurrent
keeps_current w c d = go (world.is_by_linux w)
  where
    v : WorldState
    v = with_switch w c

    go : (b : Bool) → current (begun_as w c b) d ≡ current w d
    go false = same_current w.passing.switching (begun_as w c false) w d refl
    go true = same_current v.passing.switching (begun_from w c v) v d refl ∙ switch_keeps w c d

-- ---- the processor of a callback

pub is_here : (w : WorldState) → IsHere w (here w)
is_here w = go w.passing.waker refl
  where
    go : (o : Option ℕ) → w.passing.waker ≡ o → IsHere w (unwrap_or o w.call.cpu)
    go None e = AtHand e refl
    go (Some c) e = WokenFrom c e refl

pub only_here : (w : WorldState) (n : ℕ) → IsHere w n → n ≡ here w
only_here w n (WokenFrom c e k) = k ∙ ap (λ o. unwrap_or o w.call.cpu) (sym e)
only_here w n (AtHand e k) = k ∙ ap (λ o. unwrap_or o w.call.cpu) (sym e)

abbrev next_as : State → State → Bool → State
next_as s next b = if b then next else s

next_by_linux : (s next : State) → NextByLinux s next (next_as s next (is_by_linux s))
next_by_linux s next = go (is_by_linux s) refl
  where
    go : (b : Bool) → is_by_linux s ≡ b → NextByLinux s next (next_as s next b)
    go true e = BecomesNext e refl
    go false e = StaysByPlain e refl

only_next_by_linux : (s next v : State) → NextByLinux s next v → v ≡ next_as s next (is_by_linux s)
only_next_by_linux s next v (StaysByPlain e k) = k ∙ ap (λ b. next_as s next b) (sym e)
only_next_by_linux s next v (BecomesNext e k) = k ∙ ap (λ b. next_as s next b) (sym e)

pub tells_waker : (s : State) (t : ℕ) → TellsWaker s t (from_waker s t)
unfolding from_waker
tells_waker s t = next_by_linux s (with_world s (with_waker s.world (Some (task_at s.world t).prev_cpu)))

pub only_tells_waker : (s : State) (t : ℕ) (v : State) → TellsWaker s t v → v ≡ from_waker s t
unfolding from_waker
only_tells_waker s t v h = only_next_by_linux s _ v h

-- ---- callbacks by Linux rules

abbrev called_as : State → Callback → Args → ℕ → ℕ → Bool → Stepped
called_as s b a t c x = if x then call_back s b a t c else stays s

pub calls_if_there : (s : State) (b : Callback) (a : Args) (t c : ℕ) → CallsIfThere s b a t c (call_by_linux s b a t c)
unfolding call_by_linux
calls_if_there s b a t c = go (is_by_linux s) refl (program_of s.policy b) refl
  where
    go : (x : Bool) → is_by_linux s ≡ x → (o : Option VerifiedProgram) → program_of s.policy b ≡ o → CallsIfThere s b a t c (called_as s b a t c (x && is_some o))
    go false e o k = IsPlain e refl
    go true e None k = IsAbsent k refl
    go true e (Some p) k = IsThere p e k refl

pub only_calls_if_there : (s : State) (b : Callback) (a : Args) (t c : ℕ) (r : Stepped) → CallsIfThere s b a t c r → r ≡ call_by_linux s b a t c
unfolding call_by_linux
only_calls_if_there s b a t c r (IsPlain e k) = k ∙ ap (λ x. called_as s b a t c x) (sym (and_left (is_by_linux s) (is_some (program_of s.policy b)) e))
only_calls_if_there s b a t c r (IsAbsent e k) = k ∙ ap (λ x. called_as s b a t c x) (sym (and_right (is_by_linux s) (is_some (program_of s.policy b)) (ap (λ o. is_some o) e)))
only_calls_if_there s b a t c r (IsThere p e h k) = k ∙ ap (λ x. called_as s b a t c x) (sym (and_from (is_by_linux s) (is_some (program_of s.policy b)) e (ap (λ o. is_some o) h)))

pub hears : (s : State) (c t : ℕ) → HearsTick s c t (tick_heard s c t)
unfolding hears_tick tick_heard
hears s c t = go (is_by_linux s) refl s.policy.callbacks.tick refl (is_tick_time s) refl
  where
    go : (x : Bool) → is_by_linux s ≡ x → (o : Option VerifiedProgram) → s.policy.callbacks.tick ≡ o → (y : Bool) → is_tick_time s ≡ y → HearsTick s c t (called_as s callback.Tick (one_task t) t c ((x && is_some o) && y))
    go false e o k y m = NoTickByPlain e refl
    go true e None k y m = HasNoTick k refl
    go true e (Some p) k false m = BetweenTicks (λ h. not_so (is_tick_time s) m (tick_time_of s h)) refl
    go true e (Some p) k true m = IsCalled p e k (tick_time_is s m) refl

pub only_hears : (s : State) (c t : ℕ) (r : Stepped) → HearsTick s c t r → r ≡ tick_heard s c t
unfolding hears_tick tick_heard
only_hears s c t r h = go h
  where
    x : Bool
    x = is_by_linux s

    y : Bool
    y = is_some s.policy.callbacks.tick

    z : Bool
    z = is_tick_time s

    done : Bool → Stepped
    done b = called_as s callback.Tick (one_task t) t c b

    go : HearsTick s c t r → r ≡ done ((x && y) && z)
    go (NoTickByPlain e k) = k ∙ ap (λ b. done b) (sym (and_left (x && y) z (and_left x y e)))
    go (HasNoTick e k) = k ∙ ap (λ b. done b) (sym (and_left (x && y) z (and_right x y (ap (λ o. is_some o) e))))
    go (BetweenTicks n k) = k ∙ ap (λ b. done b) (sym (and_right (x && y) z (false_from_ne_true z (λ m. n (tick_time_is s m)))))
    go (IsCalled p e h m k) = k ∙ ap (λ b. done b) (sym (and_from (x && y) z (and_from x y e (ap (λ o. is_some o) h)) (tick_time_of s m)))

pub hears_idle_is : (s : State) → hears_idle s ≡ true → HearsIdle s
unfolding hears_idle
hears_idle_is s e = let x = and_parts (is_by_linux s) (is_some s.policy.callbacks.update_idle) e in go s.policy.callbacks.update_idle refl x.0 x.1
  where
    go : (o : Option VerifiedProgram) → s.policy.callbacks.update_idle ≡ o → is_by_linux s ≡ true → is_some o ≡ true → HearsIdle s
    go None k y z = absurd (cc)
    go (Some p) k y z = HasUpdateIdle p y k

pub hears_idle_of : (s : State) → HearsIdle s → hears_idle s ≡ true
unfolding hears_idle
hears_idle_of s (HasUpdateIdle p e k) = and_from (is_by_linux s) (is_some s.policy.callbacks.update_idle) e (ap (λ o. is_some o) k)

pub unheard_is : (s : State) → hears_idle s ≡ false → ¬ HearsIdle s
unheard_is s e h = not_so (hears_idle s) e (hears_idle_of s h)

pub unheard_of : (s : State) → ¬ HearsIdle s → hears_idle s ≡ false
unheard_of s n = false_from_ne_true (hears_idle s) (λ e. n (hears_idle_is s e))

-- ---- dispatch

pub tells_sleep : (s : State) (t : ℕ) → TellsSleep s t (told_of_sleep s t)
unfolding told_of_sleep
tells_sleep s t = next_by_linux s (with_world s (with_slept s.world t))

pub only_tells_sleep : (s : State) (t : ℕ) (v : State) → TellsSleep s t v → v ≡ told_of_sleep s t
unfolding told_of_sleep
only_tells_sleep s t v h = only_next_by_linux s _ v h

pub asks_of : (s : State) (c : ℕ) (p : Option ℕ) → IsToAsk s c p → asks_again s c p ≡ true
asks_of s c p h =
    and_from (not (keeps_slice s p)) ((local_len s.world c == 0) && s.world.call.has_moved) (ap (λ b. not b) (gives s p h.gives_way))
    (and_from (local_len s.world c == 0) s.world.call.has_moved (eq-eqb (local_len s.world c) 0 h.empty) h.moved)

pub asks_is : (s : State) (c : ℕ) (p : Option ℕ) → asks_again s c p ≡ true → IsToAsk s c p
asks_is s c p e =
    let x = and_parts (not (keeps_slice s p)) ((local_len s.world c == 0) && s.world.call.has_moved) e in
    let y = and_parts (local_len s.world c == 0) s.world.call.has_moved x.1 in
    record { gives_way = way (keeps_or_gives s p) x.0; empty = is_zero (local_len s.world c) y.0; moved = y.1 }
  where
    way : KeepsSlice s p ⊎ GivesWay s p → not (keeps_slice s p) ≡ true → GivesWay s p
    way (inl k) x = absurd (not_so (not (keeps_slice s p)) (ap (λ b. not b) (keeps s p k)) x)
    way (inr g) x = g

abbrev given_up_as : State → ℕ → Bool → State
given_up_as s c b = if b then kicked s c else s

pub gives_up : (s : State) (c : ℕ) (p : Option ℕ) → GivesUp s c p (give_up s c p)
unfolding give_up
gives_up s c p = go (is_by_linux s) (asks_again s c p) refl refl
  where
    go : (a b : Bool) → is_by_linux s ≡ a → asks_again s c p ≡ b → GivesUp s c p (given_up_as s c (a && b))
    go false b x y = GivesUpByPlain x refl
    go true false x y = HasAsked (λ h. not_so (asks_again s c p) y (asks_of s c p h)) refl
    go true true x y = LooksAgain x (asks_is s c p y) refl

pub only_gives_up : (s : State) (c : ℕ) (p : Option ℕ) (v : State) → GivesUp s c p v → v ≡ give_up s c p
unfolding give_up
only_gives_up s c p v (GivesUpByPlain e k) = k ∙ ap (λ b. given_up_as s c b) (sym (and_left (is_by_linux s) (asks_again s c p) e))
only_gives_up s c p v (HasAsked n k) =
    k ∙ ap (λ b. given_up_as s c b) (sym (and_right (is_by_linux s) (asks_again s c p) (false_from_ne_true (asks_again s c p) (λ y. n (asks_is s c p y)))))
only_gives_up s c p v (LooksAgain e h k) = k ∙ ap (λ b. given_up_as s c b) (sym (and_from (is_by_linux s) (asks_again s c p) e (asks_of s c p h)))

-- ---- idle processors

pub looks_if_idle : (s : State) (c : ℕ) → LooksIfIdle s c (kicked_if_idle s c)
looks_if_idle s c = go (is_by_linux s) (is_idle s.world c) refl refl
  where
    go : (a b : Bool) → is_by_linux s ≡ a → is_idle s.world c ≡ b → LooksIfIdle s c (given_up_as s c (a && b))
    go false b x y = LooksByPlain x refl
    go true false x y = IsBusy y refl
    go true true x y = Looks x y refl

pub only_looks_if_idle : (s : State) (c : ℕ) (v : State) → LooksIfIdle s c v → v ≡ kicked_if_idle s c
only_looks_if_idle s c v (LooksByPlain x k) = k ∙ ap (λ b. given_up_as s c b) (sym (and_left (is_by_linux s) (is_idle s.world c) x))
only_looks_if_idle s c v (IsBusy y k) = k ∙ ap (λ b. given_up_as s c b) (sym (and_right (is_by_linux s) (is_idle s.world c) y))
only_looks_if_idle s c v (Looks x y k) = k ∙ ap (λ b. given_up_as s c b) (sym (and_from (is_by_linux s) (is_idle s.world c) x y))
