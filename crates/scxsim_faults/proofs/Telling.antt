-- What is told of a run is where its first fault or exit came.
use Rattle.std.proofs.Common.{◌≡◌, ℕ, ◌≤◌, length, true, false, Option, Some, None, is_some, refl, sym, ap, ◌∙◌, subst}
use Rattle.std.specs.Prelude.{IfSome}
use Rattle.scx_isa_semantics.specs.Machine.{start}
use Rattle.scx_vm.specs.Programs.{VerifiedProgram}
use Rattle.scx_vm.specs.Arguments.{program_arguments}
use Rattle.scx_vm.specs.Host.{host}
use Rattle.scx_vm_tagged.specs.declared.run.Site.{Site}
use Rattle.scx_vm_tagged.specs.Watched.{Came, EndsAt}
use Rattle.scx_sched_world.specs.declared.eject.Cause.{Cause}
use Rattle.scx_sched_world.specs.declared.eject.Cause.TheVariants as reason
use Rattle.scx_sched_world.specs.declared.faults.Fault.TheVariants.{NoSuchCpu}
use Rattle.scx_isa_semantics.specs.declared.callbacks.Callback.{Callback}
use Rattle.scx_isa_semantics.specs.declared.callbacks.Callback.TheVariants.{SelectCpu}
use Rattle.scx_sched_world.specs.World.{WorldState}
use Rattle.scx_sched_world.specs.Helpers.{world_functions}
use Rattle.scx_sched_machine.specs.Steps.{CallMade}
use Rattle.scx_sched.specs.Causes.{EndsIn}
use Rattle.scxsim_faults.specs.declared.finder.Told.{Told}
use Rattle.scxsim_faults.specs.declared.place.FaultPlace.{FaultPlace}
use Rattle.scxsim_faults.specs.declared.place.HelperCall.{HelperCall}
use Rattle.scxsim_faults.specs.declared.policy_queues.PolicyQueues.{PolicyQueues}
use Rattle.scxsim_faults.specs.declared.running.Answered.{Answered}
use Rattle.scxsim_faults.specs.Places.{IsFirstCause, IsCauseAt, HasQueues, IsPlaceOf}
use Rattle.scxsim_faults.specs.Finding.{IsCallAt, IsToldAt, IsTold}
use Rattle.scxsim_faults.proofs.Lasting.{has_run, none_up_to}

no_cause_there : (o : Option Cause) → is_some o ≡ false → o ≡ None
no_cause_there None e = refl
no_cause_there (Some x) e = let bad : true ≡ false = e in absurd (cc)

cause_there : (o : Option Cause) → is_some o ≡ true → (x : Cause) × (o ≡ Some x)
cause_there (Some x) e = (x, refl)
cause_there None e = let bad : false ≡ true = e in absurd (cc)

-- what holds of a value, if there is one, holds of this one
pub at_some : {A : Type 0} (P : A → Type 0) (o : Option A) (x : A) → o ≡ Some x → IfSome o P → P x
at_some P o x e h = subst (λ y. IfSome y P) e h

module _ (m : CallMade) (ran : Answered) (w : WorldState) where
  abbrev pub HasCome : Site → Type 0
  HasCome site = Came (host world_functions) (λ v. is_some v.call.cause) m.callback m.program.code (program_arguments m.arguments) m.maps m.world w site

  abbrev pub Exits : Type 0
  Exits = EndsAt (host world_functions) m.callback m.program.code (program_arguments m.arguments) m.maps m.world ran.answer w ran.last

  first_at : (p : FaultPlace) (call : HelperCall) → w.call.cause ≡ Some p.cause → IsCallAt m.program ran p.slot call → HasCome (record { slot = p.slot; arguments = call.arguments }) → IsFirstCause m p.cause p.slot call
  first_at p call there told (s, k, at) =
      let found = cause_there at.after.call.cause at.came in
      let kept : w.call.cause ≡ Some found.0 = has_run found.0 m.callback m.program.code at.rest at.next_slot at.next_state at.after s k w at.follows found.1 in
      let same : Some found.0 ≡ Some p.cause = sym kept ∙ there in
      record {
        steps = at.steps;
        state = at.state;
        before = at.before;
        leads = at.leads;
        none_before = λ n t k v few leads. none_up_to m.callback m.program.code n at.steps 0 (start (program_arguments m.arguments) m.maps) m.world t k v p.slot at.state at.before (no_cause_there at.before.call.cause at.not_yet) at.leads few leads;
        calls = told.calls;
        helper = told.helper;
        registers = at.registers;
        next_slot = at.next_slot;
        next_state = at.next_state;
        after = at.after;
        does = at.does;
        has = found.1 ∙ same;
      }

  told_at : (p : FaultPlace) (o : Option HelperCall) → m.callback ≡ m.program.context.callback → p.answer ≡ ran.answer → IsToldAt m.program ran w p.cause p.slot o → IfSome ran.came HasCome → Exits → IsCauseAt m p o
  told_at p None same answer told came exits = record {
    world = w;
    ends = rw (answer, told.slot_is) exits;
    none_before = told.none;
    select_cpu = same ∙ told.select_cpu;
    past = rw answer told.past;
    cause_is = told.cause_is;
  }
  told_at p (Some call) same answer (there, told) came exits = first_at p call there told (at_some HasCome ran.came _ told.came came)

-- of a callback that ran to that end
pub told_is : (m : CallMade) (ran : Answered) (w : WorldState) (queues : PolicyQueues) (p : FaultPlace) → m.callback ≡ m.program.context.callback
    → EndsIn m ran.answer w → IfSome ran.came (HasCome m ran w) → Exits m ran w → HasQueues m w queues → IsTold m.program m.arguments ran w queues p → IsPlaceOf m p
told_is m ran w queues p same ends came exits has told = record {
  callback = told.callback ∙ sym same;
  given = told.given;
  answered = record { world = w; ends = rw told.answer ends; count = told.cpus; allowed = told.allowed; has_queues = subst (λ (q : PolicyQueues). HasQueues m w q) (sym told.queues_are) has };
  cause_at = told_at m ran w p p.call same told.answer told.told_at came exits;
}

told_call : (program : VerifiedProgram) (ran : Answered) (w : WorldState) (cause x : Cause) (slot : ℕ) (o : Option HelperCall) → w.call.cause ≡ Some cause → x ≡ cause
    → is_some o ≡ true → IfSome o (IsCallAt program ran slot) → IsToldAt program ran w x slot o
told_call program ran w cause x slot None there same some h = let bad : false ≡ true = some in absurd (cc)
told_call program ran w cause x slot (Some call) there same some h = (there ∙ ap Some (sym same), h)

told_answer : (program : VerifiedProgram) (ran : Answered) (w : WorldState) (x : Cause) (slot : ℕ) (o : Option HelperCall) → w.call.cause ≡ None → o ≡ None → x ≡ reason.Fault NoSuchCpu
    → slot ≡ ran.last → program.context.callback ≡ SelectCpu → length w.cpus ≤ ran.answer → IsToldAt program ran w x slot o
told_answer program ran w x slot None none nothing cause at select past =
    record { none = none; cause_is = cause; slot_is = at; select_cpu = select; past = past }
told_answer program ran w x slot (Some call) none nothing cause at select past = let bad : Some call ≡ None = nothing in absurd (cc)

-- a call that was told
pub told_calls : (program : VerifiedProgram) (ran : Answered) (w : WorldState) (cause : Cause) (o : Option Told) → w.call.cause ≡ Some cause → IfSome o (λ t. t.cause ≡ cause)
    → IfSome o (λ t. IfSome t.call (IsCallAt program ran t.slot)) → IfSome o (λ t. is_some t.call ≡ true) → IfSome o (λ t. IsToldAt program ran w t.cause t.slot t.call)
told_calls program ran w cause None there same h some = tt
told_calls program ran w cause (Some t) there same h some = told_call program ran w cause t.cause t.slot t.call there same some h

-- an answer that was told
pub told_answers : (program : VerifiedProgram) (ran : Answered) (w : WorldState) (b : Callback) (cpus : ℕ) (o : Option Told) → w.call.cause ≡ None → b ≡ program.context.callback → cpus ≡ length w.cpus
    → IfSome o (λ t. t.call ≡ None) → IfSome o (λ t. t.cause ≡ reason.Fault NoSuchCpu) → IfSome o (λ t. t.slot ≡ ran.last) → IfSome o (λ t. b ≡ SelectCpu) → IfSome o (λ t. cpus ≤ ran.answer)
    → IfSome o (λ t. IsToldAt program ran w t.cause t.slot t.call)
told_answers program ran w b cpus None none is count nothing cause at select past = tt
told_answers program ran w b cpus (Some t) none is count nothing cause at select past = told_answer program ran w t.cause t.slot t.call none nothing cause at (sym is ∙ select) (rw (← count) past)
