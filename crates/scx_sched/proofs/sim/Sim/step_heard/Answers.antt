use Rattle.std.proofs.Common.{◌≡◌, ℕ, ◌<◌, ◌≤◌, ◌+◌, ◌*◌, ◌^◌, Option, None, sym, ap, ◌∙◌, subst, arith}
use Rattle.scx_sched_machine.specs.declared.events.Refused.{Refused}
use Rattle.scx_sched_machine.specs.Steps.{State, is_by_linux}
use Rattle.scx_sched_machine.specs.Notes.{Takes}
use Rattle.scx_sched_machine.specs.Hearing.{Hears}
use Rattle.scx_sched_machine.specs.Callbacks.{AreAnswered}
use Rattle.scx_sched_machine.proofs.Taking.{are_answered}
use Rattle.scx_sched.specs.Usages.{AreBounded}
use Rattle.scx_sched.specs.Left.{LeavesNothingIdle}
use Rattle.scx_sched.specs.Causes.{EjectsOnce}
use Rattle.scx_sched.specs.Decided.{EventsDecide}
use Rattle.scx_sched.specs.Sim.{SimState, IsValid, accepted, refusal, notes_if, calls_if}
use Rattle.scx_sched.proofs.Bounded.{are_bounded}
use Rattle.scx_sched.proofs.Valid.{step_bounded, valid_step}
use Rattle.scx_sched.proofs.Idle.{step_leaves}
use Rattle.scx_sched.proofs.Causing.{step_cause}
use Rattle.scx_sched.proofs.Deciding.{step_decides}
use Rattle.scx_sched.proofs.Counted.{one_less}
use Rattle.scx_sched.proofs.sim.Sim.step_heard.Goals as goal

-- a refused event leaves usages as they are
pub returns-in-Some-clause-bounded : goal.returns-in-Some-clause-bounded
returns-in-Some-clause-bounded g c = rw (← c.self.view_is) (are_bounded c.self.inside.machine.world c.self.invariant.valid.fine.within)

pub returns-clause-bounded : goal.returns-clause-bounded
returns-clause-bounded g c =
    let ok : refusal (record { state = c.self.inside.machine; events = accepted c.self.inside.left }) c.args.event ≡ None = ap (λ x. refusal x c.args.event) c.self.view_is ∙ (sym c.refusal.ensures.cause ∙ c.in_default.is) in
    subst (λ (x : State). AreBounded x.world) (sym c.event_heard.ensures.state) (step_bounded c.self.inside.machine (accepted c.self.inside.left) c.args.event ok c.self.invariant.valid)

pub returns-clause-idle : goal.returns-clause-idle
returns-clause-idle g c =
    let ok : refusal (record { state = c.self.inside.machine; events = accepted c.self.inside.left }) c.args.event ≡ None = ap (λ x. refusal x c.args.event) c.self.view_is ∙ (sym c.refusal.ensures.cause ∙ c.in_default.is) in
    λ plain. subst (λ (x : State). LeavesNothingIdle c.args.event x.world) (sym c.event_heard.ensures.state)
    (step_leaves c.self.inside.machine (accepted c.self.inside.left) c.args.event ok c.self.invariant.valid (ap (λ (s : SimState). is_by_linux s.state) c.self.view_is ∙ plain))

pub returns-clause-decided : goal.returns-clause-decided
returns-clause-decided g c =
    let n = accepted c.self.inside.left in
    let old : SimState = record { state = c.self.inside.machine; events = n } in
    let ok : refusal old c.args.event ≡ None = ap (λ x. refusal x c.args.event) c.self.view_is ∙ (sym c.refusal.ensures.cause ∙ c.in_default.is) in
    let seen : n ≡ c.args.self.now.events = ap (λ (s : SimState). s.events) c.self.view_is in
    let some : 0 < c.self.inside.left = omega (arith, seen, c.refusal.ensures.early c.in_default.is) in
    let one = sym (one_less c.self.inside.left some c.self.invariant.few) in
    let h = subst (λ (x : State). EventsDecide old c.args.event (record { state = x; events = n + 1 })) (sym c.event_heard.ensures.state) (step_decides c.self.inside.machine n c.args.event ok c.self.invariant.valid) in
    rw (← c.self.view_is) (subst (λ (k : ℕ). EventsDecide old c.args.event (record { state = c.event_heard.new.self; events = k })) one h)

pub returns-clause-cause : goal.returns-clause-cause
returns-clause-cause g c =
    let n = accepted c.self.inside.left in
    let old : SimState = record { state = c.self.inside.machine; events = n } in
    let ok : refusal old c.args.event ≡ None = ap (λ x. refusal x c.args.event) c.self.view_is ∙ (sym c.refusal.ensures.cause ∙ c.in_default.is) in
    let seen : n ≡ c.args.self.now.events = ap (λ (s : SimState). s.events) c.self.view_is in
    let some : 0 < c.self.inside.left = omega (arith, seen, c.refusal.ensures.early c.in_default.is) in
    let one = sym (one_less c.self.inside.left some c.self.invariant.few) in
    let h = subst (λ (x : State). EjectsOnce old c.args.event (record { state = x; events = n + 1 })) (sym c.event_heard.ensures.state) (step_cause c.self.inside.machine n c.args.event ok c.self.invariant.valid (are_answered _ _ _ _ c.event_heard.ensures.calls)) in
    rw (← c.self.view_is) (subst (λ (k : ℕ). EjectsOnce old c.args.event (record { state = c.event_heard.new.self; events = k })) one h)

pub invariant_of-self : goal.invariant_of-self
invariant_of-self g c =
    let n = accepted c.self.inside.left in
    let ok : refusal (record { state = c.self.inside.machine; events = n }) c.args.event ≡ None = ap (λ x. refusal x c.args.event) c.self.view_is ∙ (sym c.refusal.ensures.cause ∙ c.in_default.is) in
    let seen : n ≡ c.args.self.now.events = ap (λ (s : SimState). s.events) c.self.view_is in
    let some : 0 < c.self.inside.left = omega (arith, seen, c.refusal.ensures.early c.in_default.is) in
    let few = subst (λ (x : State). x.world.queues.pushes ≤ c.self.inside.machine.world.queues.pushes + 3 * 2 ^ 26) c.event_heard.ensures.state c.event_heard.ensures.few in
    let valid : IsValid c.event_heard.new.self (n + 1) = subst (λ (x : State). IsValid x (n + 1)) (sym c.event_heard.ensures.state) (valid_step c.self.inside.machine n c.args.event ok c.self.invariant.valid (are_answered _ _ _ _ c.event_heard.ensures.calls) few) in
    record {
      few = omega (arith, c.self.invariant.few);
      valid = subst (λ (k : ℕ). IsValid c.event_heard.new.self k) (sym (one_less c.self.inside.left some c.self.invariant.few)) valid;
    }

pub returns-clause-once : goal.returns-clause-once
returns-clause-once g c =
    let ok : refusal (record { state = c.self.inside.machine; events = accepted c.self.inside.left }) c.args.event ≡ None = ap (λ x. refusal x c.args.event) c.self.view_is ∙ (sym c.refusal.ensures.cause ∙ c.in_default.is) in
    let few = subst (λ (x : State). x.world.queues.pushes ≤ c.self.inside.machine.world.queues.pushes + 3 * 2 ^ 26) c.event_heard.ensures.state c.event_heard.ensures.few in
    let valid : IsValid c.event_heard.new.self ((accepted c.self.inside.left) + 1) = subst (λ (x : State). IsValid x ((accepted c.self.inside.left) + 1)) (sym c.event_heard.ensures.state) (valid_step c.self.inside.machine (accepted c.self.inside.left) c.args.event ok c.self.invariant.valid (are_answered _ _ _ _ c.event_heard.ensures.calls) few) in
    valid.fine.sound.once

pub returns-clause-there : goal.returns-clause-there
returns-clause-there g c =
    let ok : refusal (record { state = c.self.inside.machine; events = accepted c.self.inside.left }) c.args.event ≡ None = ap (λ x. refusal x c.args.event) c.self.view_is ∙ (sym c.refusal.ensures.cause ∙ c.in_default.is) in
    let few = subst (λ (x : State). x.world.queues.pushes ≤ c.self.inside.machine.world.queues.pushes + 3 * 2 ^ 26) c.event_heard.ensures.state c.event_heard.ensures.few in
    let valid : IsValid c.event_heard.new.self ((accepted c.self.inside.left) + 1) = subst (λ (x : State). IsValid x ((accepted c.self.inside.left) + 1)) (sym c.event_heard.ensures.state) (valid_step c.self.inside.machine (accepted c.self.inside.left) c.args.event ok c.self.invariant.valid (are_answered _ _ _ _ c.event_heard.ensures.calls) few) in
    valid.there

pub returns-clause-current : goal.returns-clause-current
returns-clause-current g c =
    let ok : refusal (record { state = c.self.inside.machine; events = accepted c.self.inside.left }) c.args.event ≡ None = ap (λ x. refusal x c.args.event) c.self.view_is ∙ (sym c.refusal.ensures.cause ∙ c.in_default.is) in
    let few = subst (λ (x : State). x.world.queues.pushes ≤ c.self.inside.machine.world.queues.pushes + 3 * 2 ^ 26) c.event_heard.ensures.state c.event_heard.ensures.few in
    let valid : IsValid c.event_heard.new.self ((accepted c.self.inside.left) + 1) = subst (λ (x : State). IsValid x ((accepted c.self.inside.left) + 1)) (sym c.event_heard.ensures.state) (valid_step c.self.inside.machine (accepted c.self.inside.left) c.args.event ok c.self.invariant.valid (are_answered _ _ _ _ c.event_heard.ensures.calls) few) in
    valid.current

pub returns-clause-timely : goal.returns-clause-timely
returns-clause-timely g c =
    let ok : refusal (record { state = c.self.inside.machine; events = accepted c.self.inside.left }) c.args.event ≡ None = ap (λ x. refusal x c.args.event) c.self.view_is ∙ (sym c.refusal.ensures.cause ∙ c.in_default.is) in
    let few = subst (λ (x : State). x.world.queues.pushes ≤ c.self.inside.machine.world.queues.pushes + 3 * 2 ^ 26) c.event_heard.ensures.state c.event_heard.ensures.few in
    let valid : IsValid c.event_heard.new.self ((accepted c.self.inside.left) + 1) = subst (λ (x : State). IsValid x ((accepted c.self.inside.left) + 1)) (sym c.event_heard.ensures.state) (valid_step c.self.inside.machine (accepted c.self.inside.left) c.args.event ok c.self.invariant.valid (are_answered _ _ _ _ c.event_heard.ensures.calls) few) in
    valid.timely

pub returns-clause-timers : goal.returns-clause-timers
returns-clause-timers g c =
    let ok : refusal (record { state = c.self.inside.machine; events = accepted c.self.inside.left }) c.args.event ≡ None = ap (λ x. refusal x c.args.event) c.self.view_is ∙ (sym c.refusal.ensures.cause ∙ c.in_default.is) in
    let few = subst (λ (x : State). x.world.queues.pushes ≤ c.self.inside.machine.world.queues.pushes + 3 * 2 ^ 26) c.event_heard.ensures.state c.event_heard.ensures.few in
    let valid : IsValid c.event_heard.new.self ((accepted c.self.inside.left) + 1) = subst (λ (x : State). IsValid x ((accepted c.self.inside.left) + 1)) (sym c.event_heard.ensures.state) (valid_step c.self.inside.machine (accepted c.self.inside.left) c.args.event ok c.self.invariant.valid (are_answered _ _ _ _ c.event_heard.ensures.calls) few) in
    valid.timers

pub returns-clause-timer_cpus : goal.returns-clause-timer_cpus
returns-clause-timer_cpus g c =
    let ok : refusal (record { state = c.self.inside.machine; events = accepted c.self.inside.left }) c.args.event ≡ None = ap (λ x. refusal x c.args.event) c.self.view_is ∙ (sym c.refusal.ensures.cause ∙ c.in_default.is) in
    let few = subst (λ (x : State). x.world.queues.pushes ≤ c.self.inside.machine.world.queues.pushes + 3 * 2 ^ 26) c.event_heard.ensures.state c.event_heard.ensures.few in
    let valid : IsValid c.event_heard.new.self ((accepted c.self.inside.left) + 1) = subst (λ (x : State). IsValid x ((accepted c.self.inside.left) + 1)) (sym c.event_heard.ensures.state) (valid_step c.self.inside.machine (accepted c.self.inside.left) c.args.event ok c.self.invariant.valid (are_answered _ _ _ _ c.event_heard.ensures.calls) few) in
    valid.fine.sound.here.timed

pub returns-clause-allowed : goal.returns-clause-allowed
returns-clause-allowed g c =
    let ok : refusal (record { state = c.self.inside.machine; events = accepted c.self.inside.left }) c.args.event ≡ None = ap (λ x. refusal x c.args.event) c.self.view_is ∙ (sym c.refusal.ensures.cause ∙ c.in_default.is) in
    let few = subst (λ (x : State). x.world.queues.pushes ≤ c.self.inside.machine.world.queues.pushes + 3 * 2 ^ 26) c.event_heard.ensures.state c.event_heard.ensures.few in
    let valid : IsValid c.event_heard.new.self ((accepted c.self.inside.left) + 1) = subst (λ (x : State). IsValid x ((accepted c.self.inside.left) + 1)) (sym c.event_heard.ensures.state) (valid_step c.self.inside.machine (accepted c.self.inside.left) c.args.event ok c.self.invariant.valid (are_answered _ _ _ _ c.event_heard.ensures.calls) few) in
    valid.allowed

pub returns-clause-never_stuck : goal.returns-clause-never_stuck
returns-clause-never_stuck g c =
    let ok : refusal (record { state = c.self.inside.machine; events = accepted c.self.inside.left }) c.args.event ≡ None = ap (λ x. refusal x c.args.event) c.self.view_is ∙ (sym c.refusal.ensures.cause ∙ c.in_default.is) in
    let few = subst (λ (x : State). x.world.queues.pushes ≤ c.self.inside.machine.world.queues.pushes + 3 * 2 ^ 26) c.event_heard.ensures.state c.event_heard.ensures.few in
    let valid : IsValid c.event_heard.new.self ((accepted c.self.inside.left) + 1) = subst (λ (x : State). IsValid x ((accepted c.self.inside.left) + 1)) (sym c.event_heard.ensures.state) (valid_step c.self.inside.machine (accepted c.self.inside.left) c.args.event ok c.self.invariant.valid (are_answered _ _ _ _ c.event_heard.ensures.calls) few) in
    valid.unstuck

-- an event that is accepted has the notes and the calls of its step
pub returns-clause-notes : goal.returns-clause-notes
returns-clause-notes g c =
    let old : SimState = record { state = c.self.inside.machine; events = accepted c.self.inside.left } in
    let ok : refusal old c.args.event ≡ None = ap (λ x. refusal x c.args.event) c.self.view_is ∙ (sym c.refusal.ensures.cause ∙ c.in_default.is) in
    let h = g.H.Hearer in
    rw (← c.self.view_is) (subst (λ (o : Option Refused). Takes h.takes (h.noted c.args.hearer.now) (notes_if o old c.args.event) (h.noted c.event_heard.new.hearer)) (sym ok) c.event_heard.ensures.notes)

pub returns-clause-calls : goal.returns-clause-calls
returns-clause-calls g c =
    let old : SimState = record { state = c.self.inside.machine; events = accepted c.self.inside.left } in
    let ok : refusal old c.args.event ≡ None = ap (λ x. refusal x c.args.event) c.self.view_is ∙ (sym c.refusal.ensures.cause ∙ c.in_default.is) in
    let h = g.H.Hearer in
    rw (← c.self.view_is) (subst (λ (o : Option Refused). Hears h.hears (h.told c.args.hearer.now) (calls_if o old c.args.event) (h.told c.event_heard.new.hearer)) (sym ok) c.event_heard.ensures.calls)

pub returns-clause-answered : goal.returns-clause-answered
returns-clause-answered g c =
    let old : SimState = record { state = c.self.inside.machine; events = accepted c.self.inside.left } in
    let ok : refusal old c.args.event ≡ None = ap (λ x. refusal x c.args.event) c.self.view_is ∙ (sym c.refusal.ensures.cause ∙ c.in_default.is) in
    rw (← c.self.view_is) (subst (λ (o : Option Refused). AreAnswered (calls_if o old c.args.event)) (sym ok) (are_answered _ _ _ _ c.event_heard.ensures.calls))
