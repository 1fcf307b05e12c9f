-- What a finder keeps is of the last callback that it heard.
use Rattle.std.proofs.Common.{◌≡◌, List, [], ◌∷◌, ◌++◌, Option, Some, None, refl, sym, ap, ◌∙◌, subst}
use Rattle.std.specs.Prelude.{IfSome}
use Rattle.scx_sched_world.specs.World.{WorldState}
use Rattle.scx_sched_machine.specs.Steps.{CallMade}
use Rattle.scx_sched_machine.specs.Hearing.{Hears}
use Rattle.scx_sched.specs.Causes.{EndsIn, IsLast}
use Rattle.scxsim_faults.specs.declared.finder.Finder.{Finder}
use Rattle.scxsim_faults.specs.declared.place.FaultPlace.{FaultPlace}
use Rattle.scxsim_faults.specs.declared.policy_queues.PolicyQueues.{PolicyQueues}
use Rattle.scxsim_faults.specs.declared.running.Answered.{Answered}
use Rattle.scxsim_faults.specs.Places.{HasQueues, IsPlaceOf}
use Rattle.scxsim_faults.specs.Finding.{IsTold, Finds}
use Rattle.scxsim_faults.proofs.Telling.{at_some, HasCome, Exits, told_is}

-- what is told of a callback that ran to that end is the place of its fault or exit
pub finds : (o : Option FaultPlace) (m : CallMade) (ran : Answered) (w : WorldState) (queues : PolicyQueues) → m.callback ≡ m.program.context.callback
    → EndsIn m ran.answer w → IfSome ran.came (HasCome m ran w) → Exits m ran w → HasQueues m w queues → IfSome o (IsTold m.program m.arguments ran w queues) → IfSome o (IsPlaceOf m)
finds None m ran w queues same ends came exits has told = tt
finds (Some p) m ran w queues same ends came exits has told = told_is m ran w queues p same ends came exits has told

last_in : (before : List CallMade) (m : CallMade) (f g : Finder) → Hears Finds f (before ++ m ∷ []) g → IfSome g.found (IsPlaceOf m)
last_in [] m f g (u, answered, found, same) = subst (λ (x : Finder). IfSome x.found (IsPlaceOf m)) (sym same) found
last_in (c ∷ cs) m f g (u, answered, found, more) = last_in cs m u g more

-- told of these calls it keeps the place of the last one
pub last_heard : (calls : List CallMade) (m : CallMade) (f g : Finder) → Hears Finds f calls g → IsLast m calls → IfSome g.found (IsPlaceOf m)
last_heard calls m f g hears (before, whole) = last_in before m f g (subst (λ cs. Hears Finds f cs g) whole hears)

-- the place of the last of some calls
of_some : (c : CallMade) (cs : List CallMade) (f g : Finder) (p : FaultPlace) → Hears Finds f (c ∷ cs) g → g.found ≡ Some p → (m : CallMade) × IsLast m (c ∷ cs) × IsPlaceOf m p
of_some c [] f g p (u, answered, found, same) has =
    (c, ([], refl), at_some (IsPlaceOf c) g.found p has (subst (λ (x : Finder). IfSome x.found (IsPlaceOf c)) (sym same) found))
of_some c (d ∷ cs) f g p (u, answered, found, more) has =
    let rest = of_some d cs u g p more has in
    (rest.0, (c ∷ rest.1.0, ap (λ xs. c ∷ xs) rest.1.1), rest.2)

-- a place that is kept by one that kept none at first is that of the last of these calls
pub last_found : (calls : List CallMade) (f g : Finder) (p : FaultPlace) → f.found ≡ None → Hears Finds f calls g → g.found ≡ Some p → (m : CallMade) × IsLast m calls × IsPlaceOf m p
last_found [] f g p none same has = let bad : None ≡ Some p = sym none ∙ (ap (λ (x : Finder). x.found) (sym same) ∙ has) in absurd (cc)
last_found (c ∷ cs) f g p none hears has = of_some c cs f g p hears has
