use Rattle.std.proofs.Common.{ap, ◌∙◌}
use Rattle.scxsim_account.specs.Idling.{figures_of}
use Rattle.scxsim_why.proofs.Found.{last_of_texts}
use Rattle.scxsim_why.proofs.finding.examine.Goals as goal

pub returns-clause-idle : goal.returns-clause-idle
returns-clause-idle g c = record {
  of_scenario = c.in_ok-run.run'.scenario;
  first = c.in_ok-run.run'.sim;
  run = c.in_ok-run.ensures.run;
  of_run = c.figures-idle.ensures ∙ ap figures_of c.in_ok-account.ensures.idling;
}

pub returns-clause-last : goal.returns-clause-last
returns-clause-last g c = last_of_texts c.args.policy.now c.args.scenario.now c.in_ok-run.run'.scenario c.in_ok-run.run'.sim _ c.in_ok-run.ensures.run c.in_ok-account.ensures.last
