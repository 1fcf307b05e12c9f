-- The place in a run in which a policy is ejected.
use Rattle.std.proofs.Common.{◌≡◌, ℕ, ℤ, false, List, [], ◌∷◌, Option, Some, None, Result, Ok, Err, refl, sym, ap, ◌∙◌, subst}
use Rattle.std.specs.Prelude.{IfSome, IfOk, OnOk, OnErr}
use Rattle.scx_sched_world.specs.declared.eject.Eject.{Eject}
use Rattle.scx_sched_world.specs.declared.eject.Eject.TheVariants as cause
use Rattle.scx_sched_world.specs.declared.eject.Cause.{Cause}
use Rattle.scx_sched_world.specs.declared.eject.Cause.TheVariants as reason
use Rattle.scx_sched_world.specs.Ejecting.{eject_of}
use Rattle.scx_sched_machine.specs.declared.events.Event.{Event}
use Rattle.scx_sched_machine.specs.Hearing.{Hears}
use Rattle.scx_sched_machine.specs.Steps.{CallMade}
use Rattle.scx_sched_policy.specs.Policy.{PolicyState}
use Rattle.scx_sched.specs.Causes.{IsLast, IsCause, Waited, Went_wrong, Ended, EjectsOnce}
use Rattle.scx_sched_machine.specs.Start.{first_state, IsRefusal, start_calls, calls_before}
use Rattle.scx_sched_machine.specs.declared.start.NewError.{NewError}
use Rattle.scx_sched_machine.specs.declared.start.NewError.TheVariants as start
use Rattle.scx_sched.specs.Sim.{SimState, IsFirstState, after_event, calls_of}
use Rattle.scx_weights.specs.Hierarchy.{Hierarchy}
use Rattle.scx_load_replay.specs.declared.scenario.Scenario.{Scenario}
use Rattle.scx_load_replay.specs.Scenarios.{workload_of, scenario_events}
use Rattle.scx_load_workloads.specs.Workload.{WorkloadState, first_tree}
use Rattle.scxsim_faults.specs.declared.finder.Finder.{Finder}
use Rattle.scxsim_faults.specs.declared.place.FaultPlace.{FaultPlace}
use Rattle.scxsim_faults.specs.Places.{IsPlaceOf, IsPlaceAt, IsPlaceIn, IsPlaceAtStart, IsPlaceUnder, In_event, At_start, IsPolicyOf, IsPlaceFound}
use Rattle.scxsim_faults.specs.Finding.{Finds, IsForCause, is_init_failed, IsUnderAny}
use Rattle.scxsim_faults.proofs.Telling.{at_some}
use Rattle.scxsim_faults.proofs.Heard.{last_heard, last_found}

-- a stall is no fault or exit of a callback
not_stall : (t k n : ℕ) (x : Cause) → cause.Stall t k ≡ eject_of x n → ⊥
not_stall t k n (reason.Fault f) e = absurd (cc)
not_stall t k n (reason.Exit code) e = absurd (cc)

-- an ejection for a fault or exit is that of the last call
last_of : (s : SimState) (e : Event) (why : Eject) (x : Cause) (n : ℕ) → IsCause s e why → why ≡ eject_of x n → (m : CallMade) × IsLast m (calls_of s e)
last_of s e _ x n (Waited t at over) same = absurd (not_stall t _ n x same)
last_of s e _ x n (Went_wrong m f last has) same = (m, last)
last_of s e _ x n (Ended m code last has) same = (m, last)

-- the place that is kept of an event in which the policy was ejected for that fault or exit
pub place_at : (s t : SimState) (e : Event) (f g : Finder) (x : Cause) (n : ℕ) (p : FaultPlace)
    → s.state.world.ejected ≡ None → t ≡ after_event s e → EjectsOnce s e t → t.state.world.ejected ≡ Some (eject_of x n)
    → Hears Finds f (calls_of s e) g → g.found ≡ Some p → p.cause ≡ x → IsPlaceAt s e p
place_at s t e f g x n p in_force to once ejected hears found same =
    let last = last_of s e (eject_of x n) x n (once.cause (eject_of x n) in_force ejected) refl in
    let Out : SimState → Type 0 = λ u. u.state.world.ejected ≡ Some (eject_of p.cause n) in
    record {
      in_force = in_force;
      clock = n;
      ejected = subst Out to (rw same ejected);
      ejecting = last.0;
      last = last.1;
      place = at_some (IsPlaceOf last.0) g.found p found (last_heard (calls_of s e) last.0 f g hears last.1);
    }

-- and what is found of it, whether it was accepted or not
pub places_at : {A E : Type 0} (r : Result A E) (s t : SimState) (e : Event) (f g : Finder) (x : Cause) (n : ℕ) (o : Option FaultPlace)
    → s.state.world.ejected ≡ None → t ≡ after_event s e → OnOk r (EjectsOnce s e t) → OnErr r (t ≡ s) → t.state.world.ejected ≡ Some (eject_of x n)
    → Hears Finds f (calls_of s e) g → IfSome o (λ p. g.found ≡ Some p) → IfSome o (λ p. p.cause ≡ x) → IfSome o (IsPlaceAt s e)
places_at r s t e f g x n None in_force to once stays ejected hears found same = tt
places_at (Ok y) s t e f g x n (Some p) in_force to once stays ejected hears found same = place_at s t e f g x n p in_force to once ejected hears found same
places_at (Err y) s t e f g x n (Some p) in_force to once stays ejected hears found same =
    let Out : SimState → Type 0 = λ u. u.state.world.ejected ≡ Some (eject_of x n) in
    let bad : None ≡ Some (eject_of x n) = sym in_force ∙ subst Out stays ejected in
    absurd (cc)

-- and of any ejection
pub places_for : {A E : Type 0} (r : Result A E) (s t : SimState) (e : Event) (f g : Finder) (why : Eject) (o : Option FaultPlace)
    → s.state.world.ejected ≡ None → t ≡ after_event s e → OnOk r (EjectsOnce s e t) → OnErr r (t ≡ s) → t.state.world.ejected ≡ Some why
    → Hears Finds f (calls_of s e) g → IfSome o (λ p. g.found ≡ Some p) → IfSome o (λ p. IsForCause p.cause why) → IfSome o (IsPlaceAt s e)
places_for r s t e f g why None in_force to once stays ejected hears found same = tt
places_for r s t e f g (cause.Fault fault n) (Some p) in_force to once stays ejected hears found same =
    places_at r s t e f g (reason.Fault fault) n (Some p) in_force to once stays ejected hears found same
places_for r s t e f g (cause.Exit code n) (Some p) in_force to once stays ejected hears found same =
    places_at r s t e f g (reason.Exit code) n (Some p) in_force to once stays ejected hears found same
places_for r s t e f g (cause.Stall u n) (Some p) in_force to once stays ejected hears found same = absurd same

-- in the first event
pub place_first : (s : SimState) (e : Event) (es : List Event) (p : FaultPlace) → IsPlaceAt s e p → IsPlaceIn s (e ∷ es) p
place_first s e es p at = record { done = []; event = e; rest = es; whole = refl; place = at }

-- in an event after the first
pub place_later : (s : SimState) (e : Event) (es : List Event) (p : FaultPlace) → IsPlaceIn (after_event s e) es p → IsPlaceIn s (e ∷ es) p
place_later s e es p in_rest = record {
  done = e ∷ in_rest.done;
  event = in_rest.event;
  rest = in_rest.rest;
  whole = ap (λ xs. e ∷ xs) in_rest.whole;
  place = in_rest.place;
}

-- a machine that took the first event has the places of the others
pub place_back : (remaining : SimState → List Event) (s t : SimState) (e : Event) (es : List Event) (p : FaultPlace) → es ≡ e ∷ remaining (after_event s e) → t ≡ after_event s e
    → IsPlaceIn t (remaining t) p → IsPlaceIn s es p
place_back remaining s t e es p whole to there =
    let From : SimState → Type 0 = λ x. IsPlaceIn x (remaining x) p in
    let In : List Event → Type 0 = λ xs. IsPlaceIn s xs p in
    subst In (sym whole) (place_later s e (remaining (after_event s e)) p (subst From to there))

-- what is found in the first event is found in all
pub places_first : (s : SimState) (e : Event) (es rest : List Event) (o : Option FaultPlace) → es ≡ e ∷ rest → IfSome o (IsPlaceAt s e) → IfSome o (IsPlaceIn s es)
places_first s e es rest None whole there = tt
places_first s e es rest (Some p) whole there =
    let In : List Event → Type 0 = λ xs. IsPlaceIn s xs p in
    subst In (sym whole) (place_first s e rest p there)

-- what holds of each place holds of the one that is found
pub if_found : (P Q : FaultPlace → Type 0) (o : Option FaultPlace) → ((p : FaultPlace) → P p → Q p) → IfSome o P → IfSome o Q
if_found P Q None h there = tt
if_found P Q (Some p) h there = h p there

-- and of an answer
pub if_found_in : {E : Type 0} (P Q : FaultPlace → Type 0) (r : Result (Option FaultPlace) E) → ((p : FaultPlace) → P p → Q p) → IfOk r (λ o. IfSome o P) → IfOk r (λ o. IfSome o Q)
if_found_in P Q (Ok o) h there = if_found P Q o h there
if_found_in P Q (Err e) h there = tt

-- ---- the run under a policy

-- in an event
pub in_event : {E : Type 0} (policy : PolicyState) (x : Scenario) (tree : Hierarchy) (cpus : ℕ) (s : SimState) (r : Result (Option FaultPlace) E) → tree ≡ first_tree (workload_of x) → cpus ≡ (workload_of x).cpus
    → IsFirstState policy tree cpus s → IfOk r (λ o. IfSome o (IsPlaceIn s (scenario_events x s))) → IfOk r (λ o. IfSome o (IsPlaceUnder policy x))
in_event policy x tree cpus s r same count first there =
    let First : Hierarchy → Type 0 = λ t. IsFirstState policy t (workload_of x).cpus s in
    let On : ℕ → Type 0 = λ n. IsFirstState policy tree n s in
    if_found_in (IsPlaceIn s (scenario_events x s)) (IsPlaceUnder policy x) r (λ p h. In_event s (subst First same (subst On count first)) h) there

-- a machine that can't begin
begins : (policy : PolicyState) (w : WorkloadState) (tree : Hierarchy) (cpus : ℕ) (n : ℤ) (p : FaultPlace) → tree ≡ first_tree w → cpus ≡ w.cpus → first_state policy tree cpus ≡ Err n
    → (m : CallMade) × IsLast m (start_calls policy tree cpus) × IsPlaceOf m p → IsPlaceAtStart policy w p
begins policy w tree cpus n p same count fails found =
    let Fails : Hierarchy → Type 0 = λ t. first_state policy t w.cpus ≡ Err n in
    let FailsOn : ℕ → Type 0 = λ k. first_state policy tree k ≡ Err n in
    let Last : Hierarchy → Type 0 = λ t. IsLast found.0 (start_calls policy t w.cpus) in
    let LastOn : ℕ → Type 0 = λ k. IsLast found.0 (start_calls policy tree k) in
    record { answer = n; fails = subst Fails same (subst FailsOn count fails); failing = found.0; last = subst Last same (subst LastOn count found.1); place = found.2 }

-- where the machine can't begin
pub at_start : {E : Type 0} (policy : PolicyState) (x : Scenario) (tree : Hierarchy) (cpus : ℕ) (e : NewError) (f g : Finder) (r : Result (Option FaultPlace) E) → tree ≡ first_tree (workload_of x) → cpus ≡ (workload_of x).cpus
    → IsRefusal policy tree cpus e → f.found ≡ None → Hears Finds f (calls_before policy tree cpus e) g → (is_init_failed e ≡ false → IfOk r (λ o. o ≡ None)) → IfOk r (λ o. IfSome o (λ p. g.found ≡ Some p))
    → IfOk r (λ o. IfSome o (IsPlaceUnder policy x))
at_start policy x tree cpus e f g (Err y) same count refused empty hears none kept = tt
at_start policy x tree cpus e f g (Ok None) same count refused empty hears none kept = tt
at_start policy x tree cpus (start.InitFailed n) f g (Ok (Some p)) same count refused empty hears none kept =
    At_start (begins policy (workload_of x) tree cpus n p same count refused.1 (last_found (start_calls policy tree cpus) f g p empty hears kept))
at_start policy x tree cpus start.BadShape f g (Ok (Some p)) same count refused empty hears none kept = let bad : Some p ≡ None = none refl in absurd (cc)
at_start policy x tree cpus start.OutOfMemory f g (Ok (Some p)) same count refused empty hears none kept = let bad : Some p ≡ None = none refl in absurd (cc)

-- of the policy that a text stands for
pub under_text : {E : Type 0} (text : List ℕ) (policy : Option PolicyState) (x : Scenario) (r : Result (Option FaultPlace) E) → IfSome policy (IsPolicyOf text (workload_of x).seed)
    → IfOk r (λ o. IfSome o (IsUnderAny policy x)) → IfOk r (λ o. IfSome o (IsPlaceFound text x))
under_text text None x r reads there = if_found_in (IsUnderAny None x) (IsPlaceFound text x) r (λ p h. absurd h) there
under_text text (Some policy) x r reads there = if_found_in (IsPlaceUnder policy x) (IsPlaceFound text x) r (λ p h. record { policy = policy; reads = reads; there = h }) there
