-- Notes that are taken one after another.
use Rattle.std.proofs.lemmas.Grind.{take_at_read}
use Rattle.std.proofs.Common.{ℕ, ◌+◌, ◌<◌, length, take, get_or, List, [], ◌∷◌, ◌++◌, refl, subst}
use Rattle.scx_sched_world.specs.declared.notes.Note.{Note}
use Rattle.scx_sched_machine.specs.Notes.{Takes}
use Rattle.scx_sched_machine.specs.Steps.{CallMade}
use Rattle.scx_sched_machine.specs.Callbacks.{AreAnswered}
use Rattle.scx_sched_machine.specs.Hearing.{Hears}

-- notes taken in two goes are taken in one
pub Takes-append : {S : Type 0} (takes : S → Note → S → Type 0) (s t u : S) (xs ys : List Note) → Takes takes s xs t → Takes takes t ys u → Takes takes s (xs ++ ys) u
Takes-append {S} takes s t u [] ys p q = subst (λ (v : S). Takes takes v ys u) p q
Takes-append takes s t u (x ∷ xs) ys p q = (p.0, p.1, Takes-append takes p.0 t u xs ys p.2 q)

-- one more note
pub Takes-one : {S : Type 0} (takes : S → Note → S → Type 0) (s t u : S) (xs : List Note) (n : Note) → Takes takes s xs t → takes t n u → Takes takes s (xs ++ n ∷ []) u
Takes-one takes s t u xs n p q = Takes-append takes s t u xs (n ∷ []) p (u, q, refl)

-- calls that are answered, one after another
pub answered_append : (xs ys : List CallMade) → AreAnswered xs → AreAnswered ys → AreAnswered (xs ++ ys)
answered_append [] ys p q = q
answered_append (x ∷ xs) ys p q = (p.0, answered_append xs ys p.1 q)

-- calls heard in two goes are heard in one
pub Hears-append : {T : Type 0} (hears : T → CallMade → T → Type 0) (s t u : T) (xs ys : List CallMade) → Hears hears s xs t → Hears hears t ys u → Hears hears s (xs ++ ys) u
Hears-append {T} hears s t u [] ys p q = subst (λ (v : T). Hears hears v ys u) p q
Hears-append hears s t u (x ∷ xs) ys p q = (p.0, p.1, p.2, Hears-append hears p.0 t u xs ys p.3 q)

-- calls that are heard are answered
pub are_answered : {T : Type 0} (hears : T → CallMade → T → Type 0) (s t : T) (cs : List CallMade) → Hears hears s cs t → AreAnswered cs
are_answered hears s t [] p = tt
are_answered hears s t (c ∷ cs) p = (p.1, are_answered hears p.0 t cs p.3)

-- of two steps together: their notes are taken in two goes, and their calls heard
pub ruleset takings = (Takes-append, Takes-one, Hears-append)

-- the next note of a list
pub Takes-next : {S : Type 0} (takes : S → Note → S → Type 0) (s t u : S) (xs : List Note) (i : ℕ) (d : Note) → i < length xs → Takes takes s (take i xs) t → takes t (get_or xs i d) u → Takes takes s (take (i + 1) xs) u
Takes-next takes s t u xs i d l p q = rw (take_at_read xs i d l).1 (Takes-one takes s t u (take i xs) (get_or xs i d) p q)
