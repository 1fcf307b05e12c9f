-- The end of the last callback, one event further, and up to the ejection.
use Rattle.std.proofs.Common.{◌≡◌, ℕ, true, List, [], ◌∷◌, ◌++◌, Option, Some, None, refl, sym, ap, ◌∙◌, subst}
use Rattle.std.proofs.lemmas.List.{append_assoc, append-nil}
use Rattle.std.specs.Prelude.{IfSome, is_some}
use Rattle.scx_sched_machine.specs.declared.events.Event.{Event}
use Rattle.scx_sched_machine.specs.Hearing.{Hears}
use Rattle.scx_sched_machine.specs.Steps.{CallMade}
use Rattle.scx_sched.specs.Sim.{SimState, after_event, calls_of}
use Rattle.scx_load_driver.specs.Runs.{stepped_all}
use Rattle.scx_load_driver.specs.Headline.{calls_of_all}
use Rattle.scx_load_driver.proofs.Accepting.{stepped_behind}
use Rattle.scxsim_account.specs.declared.call_end.CallEnd.{CallEnd}
use Rattle.scxsim_account.specs.LastCalls.{IsEndOf, IsEndOfLast, IsEndAfter, IsLastBeforeEjection}

-- the calls of some events and of one more
calls_next : (es : List Event) (e : Event) (s : SimState) → calls_of_all s (es ++ e ∷ []) ≡ calls_of_all s es ++ calls_of (stepped_all s es) e
calls_next [] e s = append-nil (calls_of s e)
calls_next (x ∷ xs) e s =
    ap (λ cs. calls_of s x ++ cs) (calls_next xs e (after_event s x)) ∙ sym (append_assoc (calls_of s x) (calls_of_all (after_event s x) xs) (calls_of (stepped_all (after_event s x) xs) e))

-- the last of some calls is the last where others came before
later : (xs ys : List CallMade) (end : CallEnd) → IsEndOfLast ys end → IsEndOfLast (xs ++ ys) end
later xs ys end h = record {
  call = h.call;
  last = (xs ++ h.last.0, ap (λ zs. xs ++ zs) h.last.1 ∙ sym (append_assoc xs h.last.0 (h.call ∷ [])));
  ends = h.ends;
}

-- ---- the calls of one event

abbrev Keeps : Option CallEnd → CallMade → Option CallEnd → Type 0
Keeps x m y = IfSome y (IsEndOf m)

of_one : (c : CallMade) (y : Option CallEnd) → IfSome y (IsEndOf c) → IfSome y (IsEndOfLast (c ∷ []))
of_one c None kept = tt
of_one c (Some end) kept = record { call = c; last = ([], refl); ends = kept }

of_more : (c : CallMade) (cs : List CallMade) (y : Option CallEnd) → IfSome y (IsEndOfLast cs) → IfSome y (IsEndOfLast (c ∷ cs))
of_more c cs None h = tt
of_more c cs (Some end) h = later (c ∷ []) cs end h

of_some : (c : CallMade) (cs : List CallMade) (x y : Option CallEnd) → Hears Keeps x (c ∷ cs) y → IfSome y (IsEndOfLast (c ∷ cs))
of_some c [] x y (u, answered, kept, same) = of_one c y (subst (λ (z : Option CallEnd). IfSome z (IsEndOf c)) (sym same) kept)
of_some c (d ∷ ds) x y (u, answered, kept, more) = of_more c (d ∷ ds) y (of_some d ds u y more)

-- told of these calls, one that keeps the end of each has that of the last one
pub heard : (calls : List CallMade) (x y : Option CallEnd) → Hears Keeps x calls y → IfSome y (IsEndAfter x calls)
heard [] x None same = tt
heard [] x (Some end) same = sym same
heard (c ∷ cs) x None hears = tt
heard (c ∷ cs) x (Some end) hears = of_some c cs x (Some end) hears

-- ---- the calls of all events

joined : (xs ys : List CallMade) (x : Option CallEnd) (end : CallEnd) → IfSome x (IsEndOfLast xs) → IsEndAfter x ys end → IsEndOfLast (xs ++ ys) end
joined xs [] x end before same = subst (λ cs. IsEndOfLast cs end) (sym (append-nil xs)) (subst (λ (z : Option CallEnd). IfSome z (IsEndOfLast xs)) same before)
joined xs (c ∷ cs) x end before last = later xs (c ∷ cs) end last

-- after some events and one more
ends_next : (s : SimState) (es : List Event) (e : Event) (x y : Option CallEnd) → IfSome x (IsEndOfLast (calls_of_all s es)) → IfSome y (IsEndAfter x (calls_of (stepped_all s es) e))
    → IfSome y (IsEndOfLast (calls_of_all s (es ++ e ∷ [])))
ends_next s es e x None before last = tt
ends_next s es e x (Some end) before last = subst (λ cs. IsEndOfLast cs end) (sym (calls_next es e s)) (joined (calls_of_all s es) (calls_of (stepped_all s es) e) x end before last)

-- the events that have passed, with the end of their last callback
abbrev pub HasPassed : SimState → List Event → SimState → List Event → Option CallEnd → Type 0
HasPassed s events t rest x = (passed : List Event) × (events ≡ passed ++ rest) × (t ≡ stepped_all s passed) × IfSome x (IsEndOfLast (calls_of_all s passed))

-- one event further
pub passes : (remaining : SimState → List Event) (s t u : SimState) (events rest : List Event) (e : Event) (x y : Option CallEnd) → HasPassed s events t rest x
    → rest ≡ e ∷ remaining (after_event t e) → u ≡ after_event t e → IfSome y (IsEndAfter x (calls_of t e)) → HasPassed s events u (remaining u) y
passes remaining s t u events rest e x y (passed, whole, state, ends) next to last =
    let After : SimState → Type 0 = λ v. IfSome y (IsEndAfter x (calls_of v e)) in
    let more : passed ++ rest ≡ (passed ++ e ∷ []) ++ remaining (after_event t e) = ap (λ es. passed ++ es) next ∙ sym (append_assoc passed (e ∷ []) (remaining (after_event t e))) in (
      passed ++ e ∷ [],
      whole ∙ more ∙ ap (λ v. (passed ++ e ∷ []) ++ remaining v) (sym to),
      to ∙ ap (λ v. after_event v e) state ∙ sym (stepped_behind passed (e ∷ []) s),
      ends_next s passed e x y ends (subst After state last),
    )

-- up to the ejection
pub up_to_ejection : (s t : SimState) (events rest : List Event) (x : Option CallEnd) → HasPassed s events t rest x → is_some t.state.world.ejected ≡ true → IfSome x (IsLastBeforeEjection s events)
up_to_ejection s t events rest None passed ejected = tt
up_to_ejection s t events rest (Some end) (passed, whole, state, ends) ejected =
    let Out : SimState → Type 0 = λ v. is_some v.state.world.ejected ≡ true in
    record { done = passed; rest = rest; whole = whole; ejected = subst Out state ejected; last = ends }
