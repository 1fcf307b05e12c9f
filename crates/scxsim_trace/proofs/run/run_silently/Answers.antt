use Rattle.std.proofs.Common.{◌≡◌, false, refl}
use Rattle.scxsim_trace.proofs.Going.{done_all}
use Rattle.scxsim_trace.proofs.run.run_silently.Goals as goal
use Rattle.scxsim_trace.proofs.Going.{unmoved}

pub returns-clause-state : goal.returns-clause-state
returns-clause-state g c = (done_all (λ s n t. t ≡ s) (λ s. false) _ _ _ _ _ (unmoved _ _ _ _ _ _ _ c.go_through.ensures) refl).0

pub returns-clause-in_order : goal.returns-clause-in_order
returns-clause-in_order g c = (done_all (λ s n t. t ≡ s) (λ s. false) _ _ _ _ _ (unmoved _ _ _ _ _ _ _ c.go_through.ensures) refl).1
