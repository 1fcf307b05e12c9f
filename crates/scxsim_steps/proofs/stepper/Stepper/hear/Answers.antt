use Rattle.scxsim_steps.proofs.stepper.Stepper.hear.Goals as goal

pub returns-in-Ok-clause-text : goal.returns-in-Ok-clause-text
returns-in-Ok-clause-text c = λ well. (c.as_str-words.result.now, rw (← c.self.view_is) c.in-Ok.ensures)
