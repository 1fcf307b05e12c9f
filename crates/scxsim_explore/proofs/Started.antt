-- The start of a search, of a run and of the texts that stand for it.
use Rattle.std.proofs.Common.{ℕ, List, Result, Ok, Err, sym, ◌∙◌, subst}
use Rattle.std.specs.Prelude.{IfOk}
use Rattle.scx_load_workloads.specs.Workload.{WorkloadState}
use Rattle.scx_sched.specs.Sim.{SimState}
use Rattle.scx_explore_states.specs.declared.form.Form.{Form}
use Rattle.scx_explore_states.specs.Written.{IsSuited}
use Rattle.scx_explore_bounds.specs.declared.bounds.Bounds.{Bounds}
use Rattle.scx_explore_bounds.specs.Forms.{IsFormOf}
use Rattle.scxsim_runs.specs.Runs.{IsRun}
use Rattle.scxsim_explore.specs.declared.beginning.Start.{Start}
use Rattle.scxsim_explore.specs.declared.beginning.Start.TheVariants.{Past, Within}
use Rattle.scxsim_explore.specs.Words.{IsWithin}
use Rattle.scxsim_explore.specs.Beginning.{IsStart, IsStartOf}

-- what begins for a run begins for its texts
pub started : {E : Type 0} (policy workload : List ℕ) (b : Bounds) (w : WorkloadState) (s : SimState) (form : Form) (r : Result Start E) → IsRun policy workload w s → IsFormOf policy b s form
    → IfOk r (IsStartOf w s form b) → IfOk r (IsStart policy workload b)
started policy workload b w s form (Ok (Past limit)) run of_policy past = record { of_workload = w; first = s; run = run; is = past }
started policy workload b w s form (Ok (Within begun teller v f)) run of_policy (same, machine, second, is, within) = (
  second ∙ sym machine,
  record {
    run = subst (λ (x : WorkloadState). IsRun policy workload x begun.machines) (sym same) (subst (λ (x : SimState). IsRun policy workload w x) (sym machine) run);
    within = subst (λ (x : WorkloadState). IsWithin b x begun.machines) (sym same) (subst (λ (x : SimState). IsWithin b w x) (sym machine) within);
    of_policy = record { plain = form; of_policy = subst (λ (x : SimState). IsFormOf policy b x form) (sym machine) of_policy; suited = subst (λ (x : SimState). IsSuited form x f) (sym machine) is };
  },
)
started policy workload b w s form (Err e) run of_policy begun = begun
