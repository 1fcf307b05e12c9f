-- Machines that may become what one machine is.
use Rattle.std.proofs.Common.{◌≡◌, List, [], ◌∷◌, ◌++◌, Result, Ok, Err, sym, subst}
use Rattle.std.proofs.lemmas.List.Elements.{All-push}
use Rattle.std.specs.Prelude.{All, is_ok, if◌then◌else◌}
use Rattle.scx_sched.specs.Sim.{SimState}
use Rattle.scx_explore_findings.specs.Path.{IsAs}

-- one more machine of the same policy and size, if there is room for it
pub kept_all : {A E : Type 0} (root s : SimState) (old new : List SimState) (r : Result A E) → new ≡ (if is_ok r then old ++ s ∷ [] else old) → All (IsAs root) old → IsAs root s → All (IsAs root) new
kept_all root s old new (Ok x) is all one = subst (λ (sims : List SimState). All (IsAs root) sims) (sym is) (All-push (IsAs root) old s all one)
kept_all root s old new (Err x) is all one = subst (λ (sims : List SimState). All (IsAs root) sims) (sym is) all
