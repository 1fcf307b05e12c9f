use Rattle.scxsim_steps.proofs.stepper.Stepper.end.Goals as goal

pub returns-clause-text : goal.returns-clause-text
returns-clause-text c = (c.as_str.result.now, rw (← c.self.view_is) c.in_ok-push_rest.ensures)
