-- Which file is one of a list.
use Rattle.std.proofs.Common.{◌≡◌, ℕ, List, Bool, true, Result, Ok, Err, ap, sym, ◌∙◌}
use Rattle.std.specs.Prelude.{IfOk}
use Rattle.scx_isa_semantics.specs.declared.rules.Rules.{Rules}
use Rattle.scx_sched_machine.specs.declared.events.Event.{Event}
use Rattle.scx_sched.specs.Sim.{SimState}
use Rattle.scx_load_workloads.specs.Workload.{WorkloadState}
use Rattle.scx_load_workloads.specs.Reading.{workload_by}
use Rattle.scx_load_driver.specs.Events.{workload_events}
use Rattle.scx_load_replay.specs.WorkloadFiles.{BeginsWith, HasSameParts, IsRunOf, IsFileOf}

-- one of the same parts, whose events begin with the list
pub run_of : {E : Type 0} (v w : WorkloadState) (s : SimState) (events : List Event) (r : Result Bool E) → HasSameParts v w → IfOk r (λ answer. answer ≡ true → BeginsWith (workload_events v s) events) → IfOk r (λ answer. answer ≡ true → IsRunOf v w s events)
run_of v w s events (Ok answer) parts h = λ e. record { parts = parts; begins = h e }
run_of v w s events (Err error) parts h = tt

-- that is read in the text
pub file_of : {E : Type 0} (v w : WorkloadState) (s : SimState) (events : List Event) (text : List ℕ) (rules : Rules) (r : Result Bool E) → rules ≡ s.state.world.rules → workload_by rules text ≡ Ok v → IfOk r (λ answer. answer ≡ true → IsRunOf v w s events) → IfOk r (λ answer. answer ≡ true → IsFileOf w s events text)
file_of v w s events text rules (Ok answer) is read h = λ e. record { file = v; read = ap (λ (r : Rules). workload_by r text) (sym is) ∙ read; run = h e }
file_of v w s events text rules (Err error) is read h = tt
