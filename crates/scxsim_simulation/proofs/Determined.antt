-- What texts determine: the policy that is built of a file, the state in which its machine begins,
-- and the bytes that are written.
use Rattle.std.proofs.Common.{◌≡◌, ℕ, List, ◌++◌, Option, Some, None, Result, Ok, Err, refl, sym, ap, ap₂, subst, ◌∙◌}
use Rattle.scx_isa_semantics.specs.Code.{Code}
use Rattle.scx_isa_semantics.specs.Callbacks.{at}
use Rattle.scx_isa_semantics.specs.declared.callbacks.Callback.{Callback}
use Rattle.scx_isa_semantics.specs.declared.callbacks.Callback.TheVariants as callback
use Rattle.scx_vm.specs.Programs.{VerifiedProgram}
use Rattle.scx_vm.specs.declared.context.Context.{Context}
use Rattle.scx_sched_policy.specs.Policy.{PolicyState, Programs}
use Rattle.scx_sched_machine.specs.Start.{first_state}
use Rattle.scx_sched.specs.Sim.{SimState}
use Rattle.scx_load_policies.specs.Policies.{PolicyFile, program_of}
use Rattle.scx_load_policies.specs.Reading.{policy_text}
use Rattle.scx_load_policies.specs.Building.{IsBuilt, IsIn, code_of, context_of}
use Rattle.scx_load_workloads.specs.Reading.{workload_by}
use Rattle.scx_load_workloads.specs.Workload.{WorkloadState, first_tree}
use Rattle.scx_load_replay.specs.Reading.{replay_by}
use Rattle.scx_load_replay.specs.Replay.{ReplayState}
use Rattle.scxsim_runs.specs.Runs.{IsBegun}
use Rattle.scxsim_simulation.specs.Traces.{trace_text, report_text}
use Rattle.scxsim_simulation.specs.Traces.{replay_text}
use Rattle.scxsim_simulation.specs.Determinism.{TextsDetermineRuns, TextsDetermineTraces, TextsDetermineReports, TextsDetermineReplays, TextsDetermineReplayTraces}

-- a reading comes to one thing
read_once : {A E : Type 0} (r : Result A E) (a b : A) → r ≡ Ok a → r ≡ Ok b → a ≡ b
read_once (Ok c) a b one other = cc
read_once (Err e) a b one other = absurd (cc)

-- ---- programs

slots_of : (p q : VerifiedProgram) → Some p.code ≡ Some q.code → p.code ≡ q.code
slots_of p q e = cc

-- a program of these slots that was verified in that context is the only one
program_once : (context : Context) (code : Option Code) (one other : Option VerifiedProgram) → code_of one ≡ code → code_of other ≡ code → IsIn context one → IsIn context other → one ≡ other
program_once context code None None here there in_one in_other = refl
program_once context code None (Some q) here there in_one in_other = let bad : None ≡ Some q.code = here ∙ sym there in absurd (cc)
program_once context code (Some p) None here there in_one in_other = let bad : Some p.code ≡ None = here ∙ sym there in absurd (cc)
program_once context code (Some p) (Some q) here there in_one in_other =
    let slots = slots_of p q (here ∙ sym there) in
    let contexts = in_one ∙ sym in_other in
    ap Some (λ i. record { code = slots i; context = contexts i })

-- tables are the same that are so at each callback
tables_same : (p q : Programs) → ((b : Callback) → at p b ≡ at q b) → p ≡ q
tables_same p q h = λ i. record {
  init = h callback.Init i;
  enable = h callback.Enable i;
  select_cpu = h callback.SelectCpu i;
  enqueue = h callback.Enqueue i;
  dispatch = h callback.Dispatch i;
  running = h callback.Running i;
  stopping = h callback.Stopping i;
  tick = h callback.Tick i;
  dequeue = h callback.Dequeue i;
  runnable = h callback.Runnable i;
  quiescent = h callback.Quiescent i;
  update_idle = h callback.UpdateIdle i;
  set_weight = h callback.SetWeight i;
  timer = h callback.Timer i;
}

-- ---- policies

-- a file builds one policy
built_once : (file : PolicyFile) (p q : PolicyState) → IsBuilt file p → IsBuilt file q → p.seed ≡ q.seed → p ≡ q
built_once file p q one other seeds =
    let callbacks = tables_same p.callbacks q.callbacks (λ b. program_once (context_of file b) (program_of file b) (at p.callbacks b) (at q.callbacks b) (one.programs b) (other.programs b) (one.contexts b) (other.contexts b)) in
    let shapes = one.shapes ∙ sym other.shapes in
    let timeouts = one.timeout ∙ sym other.timeout in
    let rules = one.rules ∙ sym other.rules in
    let ticks = one.ticks ∙ sym other.ticks in
    let idle = one.idle ∙ sym other.idle in
    let timers = one.timers ∙ sym other.timers in
    λ i. record {
      shapes = shapes i;
      timeout_ms = timeouts i;
      rules = rules i;
      tick_ms = ticks i;
      keeps_idle = idle i;
      timers = timers i;
      seed = seeds i;
      callbacks = callbacks i;
    }

-- ---- first states

-- its machine begins in one state
begun_once : (policy : List ℕ) (w : WorkloadState) (s t : SimState) → IsBegun policy w s → IsBegun policy w t → s ≡ t
begun_once policy w s t one other =
    let files = read_once (policy_text policy) one.file other.file one.policy_read other.policy_read in
    let built = subst (λ (f : PolicyFile). IsBuilt f one.machine) files one.built in
    let machines = built_once other.file one.machine other.machine built other.built (one.seeded ∙ sym other.seeded) in
    let first = subst (λ (m : PolicyState). first_state m (first_tree w) w.cpus ≡ Ok s.state) machines one.first.0 in
    let states = read_once (first_state other.machine (first_tree w) w.cpus) s.state t.state first other.first.0 in
    let events = one.first.1 ∙ sym other.first.1 in
    λ i. record { state = states i; events = events i }

-- ---- runs

pub runs_determined : TextsDetermineRuns
runs_determined policy workload v w s t one other =
    let files = read_once (policy_text policy) one.begun.file other.begun.file one.begun.policy_read other.begun.policy_read in
    let read = subst (λ (f : PolicyFile). workload_by f.rules workload ≡ Ok v) files one.workload_read in
    let same = read_once (workload_by other.begun.file.rules workload) v w read other.workload_read in
    (same, begun_once policy w s t (subst (λ (x : WorkloadState). IsBegun policy x s) same one.begun) other.begun)

pub replays_determined : TextsDetermineReplays
replays_determined policy events q r s t one other =
    let files = read_once (policy_text policy) one.begun.file other.begun.file one.begun.policy_read other.begun.policy_read in
    let read = subst (λ (f : PolicyFile). replay_by f.rules events ≡ Ok q) files one.events_read in
    let same = read_once (replay_by other.begun.file.rules events) q r read other.events_read in
    (same, begun_once policy r.workload s t (subst (λ (x : ReplayState). IsBegun policy x.workload s) same one.begun) other.begun)

-- ---- bytes

pub traces_determined : TextsDetermineTraces
traces_determined policy workload before one other x y =
    let same = runs_determined policy workload x.w y.w x.s y.s x.run y.run in
    x.written ∙ (ap (λ text. before ++ text) (ap₂ trace_text same.0 same.1) ∙ sym y.written)

pub reports_determined : TextsDetermineReports
reports_determined policy workload before one other x y =
    let same = runs_determined policy workload x.w y.w x.s y.s x.run y.run in
    x.written ∙ (ap (λ text. before ++ text) (ap₂ report_text same.0 same.1) ∙ sym y.written)

pub replay_traces_determined : TextsDetermineReplayTraces
replay_traces_determined policy events before one other x y =
    let same = replays_determined policy events x.r y.r x.s y.s x.run y.run in
    x.written ∙ (ap (λ text. before ++ text) (ap₂ replay_text same.0 same.1) ∙ sym y.written)
