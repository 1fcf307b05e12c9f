-- No policy is put out of force for being stuck: each callback comes to an answer, and no helper call has that fault.
use Rattle.std.proofs.Common.{◌≡◌, ℕ, length, Option, Some, None, refl, sym, ap, ◌∙◌, subst}
use Rattle.scx_isa_semantics.specs.declared.callbacks.Callback.{Callback}
use Rattle.scx_isa_semantics.specs.Elements.{Maps}
use Rattle.scx_isa_semantics.specs.Endings.{Ending}
use Rattle.scx_vm.specs.Programs.{VerifiedProgram}
use Rattle.scx_vm.specs.declared.arguments.Args.{Args}
use Rattle.scx_sched_world.specs.declared.eject.Cause.{Cause}
use Rattle.scx_sched_world.specs.declared.eject.Cause.TheVariants as reason
use Rattle.scx_sched_world.specs.declared.eject.Eject.{Eject}
use Rattle.scx_sched_world.specs.declared.eject.Eject.TheVariants as cause
use Rattle.scx_sched_world.specs.declared.faults.Fault.{Fault}
use Rattle.scx_sched_world.specs.declared.faults.Fault.TheVariants.{Stuck}
use Rattle.scx_sched_world.specs.World.{WorldState}
use Rattle.scx_sched_world.specs.Ejecting.{eject_of}
use Rattle.scx_sched_world.specs.Tasks.{later}
use Rattle.scx_sched_world.specs.Helpers.{first_cause, with_cause}
use Rattle.scx_sched_machine.specs.declared.events.Event.{Event}
use Rattle.scx_sched_machine.specs.declared.events.Event.TheVariants.{Wake, Sleep, Tick, Clock, SetWeight, SetTaskWeight}
use Rattle.scx_sched_machine.specs.Steps.{State, Stepped, CallMade, stays, one_after_other}
use Rattle.scx_sched_machine.specs.Ejecting.{eject}
use Rattle.scx_sched_machine.specs.Events.{refusal, overdue, eject_if_stalled, event_step}
use Rattle.scx_sched_machine.specs.Rounds.{with_rounds}
use Rattle.scx_sched_machine.specs.Callbacks.{call_ending, AreAnswered}
use Rattle.scx_sched.specs.Causes.{HasFault, Of_helper, Of_answer, HasReason, IsNeverStuck}
use Rattle.scx_sched.specs.Decided.{tree_after}
use Rattle.scx_sched.proofs.Unchanged.{eject_sets}
use Rattle.scx_sched.proofs.Events.{IsFineNow, IsTaken, Wakes, Sleeps, Ticks, Clocks, Weighs, is_taken, WeighsTask}
use Rattle.scx_sched.proofs.Blaming.{IsHonest, state_with_tree, same_eject, no_rounds, begun_ms, clocked, clock_watched, honest_unwatched}
use Rattle.scx_sched.proofs.Deciding.{IsHonestEvent, wake_is_honest, sleep_is_honest, tick_is_honest, weight_is_honest, task_weight_is_honest}
use Rattle.scx_sched.proofs.Causing.{last_answered, computes, has_reason}
use Rattle.scx_sched.proofs.Queries.{KeepsQueries, off_queues, kept_called, kept_query}

-- ---- the run of a program

-- some cause, or none, but not that a callback was stuck
abbrev IsOtherCause : Option Cause → Type 0
IsOtherCause o = o ≡ Some (reason.Fault Stuck) → ⊥

same_cause : (x y : Cause) → Some x ≡ Some y → x ≡ y
same_cause x y e = cc

abbrev IsUnstuck : WorldState → Type 0
IsUnstuck w = IsOtherCause w.call.cause

unstuck_caused : (w : WorldState) (x : Cause) → IsOtherCause (Some x) → IsUnstuck w → IsUnstuck (with_cause w x)
unstuck_caused w x other h = go w.call.cause h
  where
    go : (o : Option Cause) → IsOtherCause o → IsOtherCause (first_cause o x)
    go None k = other
    go (Some y) k = k

unstuck_kept : KeepsQueries IsUnstuck
unstuck_kept = off_queues IsUnstuck (λ w x other h. unstuck_caused w x (λ e. other (same_cause x (reason.Fault Stuck) e)) h) (λ w n o later h. h) (λ w t s v c h. h) (λ w q i m a b c d n ns h. h)

unstuck_called : (p : VerifiedProgram) (b : Callback) (a : Args) (maps : Maps) (w : WorldState) → w.call.cause ≡ None → IsUnstuck (call_ending (Some p) b a maps w).outside
unstuck_called p b a maps w fresh = kept_called IsUnstuck (kept_query IsUnstuck unstuck_kept) (Some p) b a maps w (subst IsOtherCause (sym fresh) (λ e. absurd (cc)))

-- ---- a callback that is called

never_by : (m : CallMade) (f : Fault) → m.world.call.cause ≡ None → HasFault m f → f ≡ Stuck → ⊥
never_by m f fresh (Of_helper answer w ends e) is =
    let there : IsUnstuck w = subst IsUnstuck (sym (ap (λ (x : Ending WorldState). x.outside) (computes m answer w ends))) (unstuck_called m.program m.callback m.arguments m.maps m.world fresh) in
    there (e ∙ ap (λ g. Some (reason.Fault g)) is)
never_by m f fresh (Of_answer answer w ends none same over what) is = absurd (cc)

-- an ejection for a fault is named by it
same_fault : (f g : Fault) (n k : ℕ) → cause.Fault f n ≡ cause.Fault g k → f ≡ g
same_fault f g n k e = cc

-- what is honest, and answers, leaves a policy that was never stuck
pub never_stuck : (s : State) (r : Stepped) → IsHonest s r → AreAnswered r.calls → IsNeverStuck s.world → IsNeverStuck r.state.world
never_stuck s r h answered before n out = go s.world.ejected refl
  where
    by_reason : (m : CallMade) (why : Cause) → m.world.call.cause ≡ None → HasReason m why → cause.Fault Stuck n ≡ eject_of why s.world.clock → ⊥
    by_reason m (reason.Fault f) fresh has e = never_by m f fresh has (sym (same_fault Stuck f n s.world.clock e))
    by_reason m (reason.Exit code) fresh has e = absurd (cc)

    go : (o : Option Eject) → s.world.ejected ≡ o → ⊥
    go (Some x) e = before n (e ∙ ap Some (same_eject r.state.world.ejected x (cause.Fault Stuck n) (h.stays x e) out))
    go None e =
        let b = h.blamed (cause.Fault Stuck n) e out in
        let i = last_answered b.last.0 b.call (subst AreAnswered b.last.1 answered) in
        by_reason b.call b.why b.fresh (has_reason b.call b.why i b.wrong) b.named

-- ---- an accepted event

apart_causes : (t k n : ℕ) → cause.Stall t k ≡ cause.Fault Stuck n → ⊥
apart_causes t k n e = absurd (cc)

clock_unstuck : (s : State) → AreAnswered (event_step s Clock).calls → IsNeverStuck s.world → IsNeverStuck (event_step s Clock).state.world
clock_unstuck s answered before = subst (λ (x : Stepped). AreAnswered (with_rounds x).calls → IsNeverStuck (with_rounds x).state.world) (sym (clock_watched s)) (go (overdue r.state)) answered
  where
    r : Stepped
    r = clocked s

    go : (o : Option ℕ) → AreAnswered (with_rounds (one_after_other r (eject_if_stalled o r.state))).calls → IsNeverStuck (with_rounds (one_after_other r (eject_if_stalled o r.state))).state.world
    go None all n out = never_stuck (begun_ms s) (with_rounds (one_after_other r (stays r.state))) (honest_unwatched s) all before n out
    go (Some t) all n out =
        let y = cause.Stall t r.state.world.clock in
        let same = no_rounds (one_after_other r (eject r.state y)) y (eject_sets r.state y).1 in
        apart_causes t r.state.world.clock n (same_eject (eject r.state y).state.world.ejected y (cause.Fault Stuck n) (eject_sets r.state y).1 (subst (λ (x : Stepped). x.state.world.ejected ≡ Some (cause.Fault Stuck n)) same out))

-- no accepted event whose calls are answered ejects a policy for a callback that was stuck
pub unstuck_step : (s : State) (n : ℕ) (v : Event) → refusal s v ≡ None → IsFineNow (length s.world.tasks) n n s.world → AreAnswered (event_step s v).calls → IsNeverStuck s.world → IsNeverStuck (event_step s v).state.world
unstuck_step s n v ok fine answered before = go v (is_taken s v ok) ok answered
  where
    plain : (v : Event) → IsHonestEvent s v → AreAnswered (event_step s v).calls → IsNeverStuck (event_step s v).state.world
    plain v h answered = never_stuck (state_with_tree s (tree_after v s.world)) (event_step s v) h answered before

    go : (v : Event) → IsTaken s v → refusal s v ≡ None → AreAnswered (event_step s v).calls → IsNeverStuck (event_step s v).state.world
    go _ (Wakes t within resting) ok answered = plain (Wake t) (wake_is_honest s n fine t) answered
    go _ (Sleeps t within runnable) ok answered = plain (Sleep t) (sleep_is_honest s n fine t within) answered
    go _ (Ticks c l) ok answered = plain (Tick c) (tick_is_honest s n fine c l) answered
    go _ Clocks ok answered = clock_unstuck s answered before
    go _ (Weighs g x) ok answered = plain (SetWeight g x) (weight_is_honest s n fine g x ok) answered
    go _ (WeighsTask t x within) ok answered = plain (SetTaskWeight t x) (task_weight_is_honest s n fine t x ok) answered
