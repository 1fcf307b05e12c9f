-- The words of a place.
use Rattle.std.proofs.Common.{◌≡◌, List, [], ◌++◌, ℕ, Option, Some, None, Result, Ok, Err, option_map, ap, sym, ◌∙◌}
use Rattle.std.specs.Prelude.{IfOk, IfNone, IfSome, MatchOption, unwrap_or}
use Rattle.scx_sched_machine.specs.declared.events.Event.{Event}
use Rattle.scx_sched.specs.Sim.{SimState}
use Rattle.scxsim_faults.specs.declared.place.FaultPlace.{FaultPlace}
use Rattle.scxsim_faults.specs.Places.{IsPlaceIn}
use Rattle.scxsim_output.specs.Texts.{Puts}
use Rattle.scxsim_output.proofs.Pieces.{puts_both}
use Rattle.scxsim_explore_lines.specs.Causes.{IsCause, IsOfPlace, place_words}

all_put : (a b : Option (List ℕ)) (text piece : List ℕ) → a ≡ Some [] → b ≡ Some text → Puts a piece b → text ≡ piece
all_put None b text piece none is put = absurd (cc)
all_put (Some before) None text piece none is put = absurd (cc)
all_put (Some before) (Some after) text piece none is put =
    let same : after ≡ text = ap (λ (o : Option (List ℕ)). unwrap_or o []) is in
    let empty : before ≡ [] = ap (λ (o : Option (List ℕ)). unwrap_or o []) none in
    sym same ∙ put ∙ ap (λ (t : List ℕ). t ++ piece) empty

-- words that begin with the place, and then the call
pub of_place : {A E : Type 0} (r : Result A E) (bytes : A → List ℕ) (p : FaultPlace) (a b call c : Option (List ℕ)) → a ≡ Some [] → Puts a (place_words p) b
    → MatchOption call (c ≡ None) (λ (words : List ℕ). Puts b words c) → IfOk r (λ (x : A). c ≡ Some (bytes x)) → IfOk r (λ (x : A). IsOfPlace p (bytes x))
of_place (Ok x) bytes p a b None c none head rest is = absurd (cc)
of_place (Ok x) bytes p a b (Some words) c none head rest is = record {
  call = words;
  words = all_put a c (bytes x) (place_words p ++ words) none is (puts_both c b a (place_words p) words head rest);
}
of_place (Err e) bytes p a b call c none head rest is = is

-- the words of a place that was found in a list
pub of_found : {A E : Type 0} (r : Result (Option A) E) (bytes : A → List ℕ) (place : Option FaultPlace) (s : SimState) (events : List Event) → IfSome place (IsPlaceIn s events)
    → IfSome place (λ (p : FaultPlace). IfOk r (λ (words : Option A). IfSome (option_map bytes words) (IsOfPlace p))) → IfNone place (IfOk r (λ (words : Option A). words ≡ None))
    → IfOk r (λ (words : Option A). IfSome (option_map bytes words) (IsCause s events))
of_found (Ok None) bytes place s events there told none = tt
of_found (Ok (Some x)) bytes None s events there told none = absurd (cc)
of_found (Ok (Some x)) bytes (Some p) s events there told none = record { place = p; there = there; told = told }
of_found (Err e) bytes place s events there told none = tt
