use Rattle.std.proofs.Common.{ℕ, ap, subst, ◌∙◌}
use Rattle.scxsim_steps.specs.Moments.{IsMoment}
use Rattle.scxsim_steps.proofs.Refusing.{outside_of_run}
use Rattle.scxsim_steps.proofs.telling.page_of.Goals as goal

pub returns-in-None-clause-none : goal.returns-in-None-clause-none
returns-in-None-clause-none g c =
    let P : ℕ → Type 0 = λ all. (ms : ℕ) → ¬ IsMoment all c.args.ms.now ms in
    outside_of_run c.args.policy.now c.args.scenario.now c.args.ms.now c.in_ok-run.run'.scenario c.in_ok-run.run'.sim c.in_ok-run.ensures.run (subst P (c.ms.ensures ∙ ap (λ w. w.ms) c.workload.ensures) c.in-None.ensures.none)
