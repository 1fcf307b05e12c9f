-- A task that waited too long as the clock grows is one for which the policy is ejected; where none did, it is ejected for none.
use Rattle.std.proofs.Common.{◌≡◌, ℕ, Option, Some, None, refl, sym, ap, ◌∙◌, subst}
use Rattle.scx_sched_world.specs.declared.eject.Cause.{Cause}
use Rattle.scx_sched_world.specs.declared.eject.Cause.TheVariants as reason
use Rattle.scx_sched_world.specs.declared.eject.Eject.{Eject}
use Rattle.scx_sched_world.specs.declared.eject.Eject.TheVariants as cause
use Rattle.scx_sched_world.specs.Ejecting.{eject_of}
use Rattle.scx_sched_machine.specs.declared.events.Event.{Event}
use Rattle.scx_sched_machine.specs.declared.events.Event.TheVariants.{Wake, Sleep, Tick, Clock, SetWeight, SetTaskWeight}
use Rattle.scx_sched_machine.specs.declared.events.Refused.{Refused}
use Rattle.scx_sched_machine.specs.Steps.{State, Stepped, stays, one_after_other}
use Rattle.scx_sched_machine.specs.Ejecting.{eject}
use Rattle.scx_sched_machine.specs.Events.{eject_if_stalled}
use Rattle.scx_sched_machine.specs.Rounds.{with_rounds}
use Rattle.scx_sched.specs.Sim.{SimState, refusal, stepped_if, after_event}
use Rattle.scx_sched.proofs.Blaming.{no_rounds, begun_ms, clocked, clock_watched, honest_clocked, honest_unwatched}
use Rattle.scx_sched.proofs.Unchanged.{eject_sets}
use Rattle.scx_explore_findings.specs.Findings.{stall_in}
use Rattle.scx_explore_findings.specs.HiddenStates.{late_in}

nothing_found : (u : ℕ) → None ≡ Some u → ⊥
nothing_found u e = absurd (cc)

-- only as the clock grows such a task is looked for
pub found_by_clock : (s : State) (e : Event) (u : ℕ) → late_in s e ≡ Some u → e ≡ Clock
found_by_clock s (Wake t) u is = absurd (nothing_found u is)
found_by_clock s (Sleep t) u is = absurd (nothing_found u is)
found_by_clock s (Tick c) u is = absurd (nothing_found u is)
found_by_clock s Clock u is = refl
found_by_clock s (SetWeight g x) u is = absurd (nothing_found u is)
found_by_clock s (SetTaskWeight t x) u is = absurd (nothing_found u is)

-- an ejection for a fault or an exit is for no task
no_task_in : (c : Cause) (n : ℕ) → stall_in (Some (eject_of c n)) ≡ None
no_task_in (reason.Fault f) n = refl
no_task_in (reason.Exit c) n = refl

-- an event that ejects the policy because that task waited too long; the rules stay
pub record IsStalled (s : SimState) (e : Event) (u : ℕ) : Type 0 where
  pub clock : ℕ
  pub ejected : (after_event s e).state.world.ejected ≡ Some (cause.Stall u clock)
  pub rules : (after_event s e).state.world.rules ≡ s.state.world.rules

module _ (s : SimState) (fine : refusal s Clock ≡ None) where
  -- the clock grows, and then the policy is ejected for that task, if there is one
  watched : (o : Option ℕ) → late_in s.state Clock ≡ o → (after_event s Clock).state ≡ (with_rounds (one_after_other (clocked s.state) (eject_if_stalled o (clocked s.state).state))).state
  watched o late =
      ap (λ (r : Option Refused). (stepped_if r s Clock).state) fine
      ∙ (ap (λ (x : Stepped). (with_rounds x).state) (clock_watched s.state)
      ∙ ap (λ (p : Option ℕ). (with_rounds (one_after_other (clocked s.state) (eject_if_stalled p (clocked s.state).state))).state) late)

  stalled_then : (u : ℕ) → late_in s.state Clock ≡ Some u → IsStalled s Clock u
  stalled_then u late =
      let r = clocked s.state in
      let x : Eject = cause.Stall u r.state.world.clock in
      let sets = eject_sets r.state x in
      let made : (after_event s Clock).state ≡ (eject r.state x).state = watched (Some u) late ∙ ap (λ (y : Stepped). y.state) (no_rounds (one_after_other r (eject r.state x)) x sets.1) in
      record {
        clock = r.state.world.clock;
        ejected = ap (λ (y : State). y.world.ejected) made ∙ sets.1;
        rules = ap (λ (y : State). y.world.rules) made ∙ (sets.4 ∙ (honest_clocked s.state).rules);
      }

  unstalled_then : late_in s.state Clock ≡ None → s.state.world.ejected ≡ None → stall_in (after_event s Clock).state.world.ejected ≡ None
  unstalled_then late force = ap (λ (y : State). stall_in y.world.ejected) (watched None late) ∙ go (with_rounds (one_after_other (clocked s.state) (stays (clocked s.state).state))).state.world.ejected refl
    where
      go : (o : Option Eject) → (with_rounds (one_after_other (clocked s.state) (stays (clocked s.state).state))).state.world.ejected ≡ o → stall_in o ≡ None
      go None e = refl
      go (Some y) e =
          let b = (honest_unwatched s.state).blamed y force e in
          ap (λ (z : Eject). stall_in (Some z)) b.named ∙ no_task_in b.why (begun_ms s.state).world.clock

-- the policy is ejected for a task that is found
pub stalled : (s : SimState) (e : Event) (u : ℕ) → late_in s.state e ≡ Some u → refusal s e ≡ None → IsStalled s e u
stalled s (Wake t) u late fine = absurd (nothing_found u late)
stalled s (Sleep t) u late fine = absurd (nothing_found u late)
stalled s (Tick c) u late fine = absurd (nothing_found u late)
stalled s Clock u late fine = stalled_then s fine u late
stalled s (SetWeight g x) u late fine = absurd (nothing_found u late)
stalled s (SetTaskWeight t x) u late fine = absurd (nothing_found u late)

-- and as the clock grows a policy that was in force is ejected for none where none is found
pub unstalled : (s : SimState) (e : Event) → e ≡ Clock → refusal s e ≡ None → late_in s.state e ≡ None → s.state.world.ejected ≡ None → stall_in (after_event s e).state.world.ejected ≡ None
unstalled s e is =
    subst (λ (v : Event). refusal s v ≡ None → late_in s.state v ≡ None → s.state.world.ejected ≡ None → stall_in (after_event s v).state.world.ejected ≡ None) (sym is) (λ fine late force. unstalled_then s fine late force)
