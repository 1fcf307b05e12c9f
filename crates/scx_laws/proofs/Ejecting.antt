-- A policy is ejected, for a fault or another cause, as the rules allow, and in no other way.
use Rattle.std.proofs.Common.{◌≡◌, ℕ, zero, suc, ◌<◌, ◌≤◌, Bool, true, false, nat_lt, ◌⊎◌, inl, inr, if◌then◌else◌, length, List, [], ◌∷◌, ◌++◌, Option, Some, None, refl, sym, ◌∙◌, ap}
use Rattle.std.proofs.lemmas.Bool.{cases_lt}
use Rattle.std.proofs.lemmas.List.{append-nil}
use Rattle.scx_isa_semantics.specs.declared.callbacks.Callback.{Callback}
use Rattle.scx_isa_semantics.specs.declared.callbacks.Callback.TheVariants as callback
use Rattle.scx_isa_semantics.specs.Endings.{Ending}
use Rattle.scx_sched_world.specs.declared.eject.Cause.{Cause}
use Rattle.scx_sched_world.specs.declared.eject.Cause.TheVariants as reason
use Rattle.scx_sched_world.specs.declared.eject.Eject.{Eject}
use Rattle.scx_sched_world.specs.declared.eject.Eject.TheVariants as cause
use Rattle.scx_sched_world.specs.declared.faults.Fault.TheVariants as fault
use Rattle.scx_sched_world.specs.declared.notes.Note.{Note}
use Rattle.scx_sched_world.specs.declared.notes.What.TheVariants as note
use Rattle.scx_sched_world.specs.Ids.{builtin_queue}
use Rattle.scx_sched_world.specs.World.{WorldState, waits, running, note_now}
use Rattle.scx_sched_world.specs.Tasks.{after_leave}
use Rattle.scx_sched_world.specs.Helpers.{first_cause, with_cause}
use Rattle.scx_sched_world.specs.Ejecting.{eject_of, put_out, put_builtin, evict, after_evictions, evict_note, evict_notes, cut_task, after_cut, eject_note}
use Rattle.scx_sched_machine.specs.Steps.{State, Stepped, with_world}
use Rattle.scx_sched_machine.specs.Ejecting.{moves_over, eject, ejected_for}
use Rattle.scx_sched_machine.specs.Callbacks.{answer_fault, end_fault, as_cause, or_cause, cause_of}
use Rattle.scx_laws.specs.Helpers.{Blames, IsFirst, HasOne}
use Rattle.scx_laws.specs.Ejections.{CauseOf, Of_helper, Is_stuck, Of_answer, Of_nothing, Of_no_answer, GoOver, Begins, Waits, Passes, Ejects, Judges, Stays, Ejected, Ended}
use Rattle.scx_laws.proofs.Differing.{below, past}

-- ---- causes

abbrev blamed_as : WorldState → Cause → Option Cause → WorldState
blamed_as w x o = record w { call = record w.call { cause = first_cause o x } }

-- the first of several causes counts
pub blames : (w : WorldState) (x : Cause) → Blames w x (with_cause w x)
blames w x = go w.call.cause refl
  where
    go : (o : Option Cause) → w.call.cause ≡ o → Blames w x (blamed_as w x o)
    go None e = IsFirst e refl
    go (Some y) e = HasOne y e (ap (λ o. record w { call = record w.call { cause = o } }) (sym e))

-- and no other
pub only_blames : (w : WorldState) (x : Cause) (v : WorldState) → Blames w x v → v ≡ with_cause w x
only_blames w x v (IsFirst e k) = k ∙ ap (λ o. blamed_as w x o) (sym e)
only_blames w x v (HasOne y e k) = k ∙ ap (λ o. record w { call = record w.call { cause = o } }) (e ∙ ap (λ o. first_cause o x) (sym e))

-- an answer is judged in select_cpu alone
of_answer : (b : Callback) (e : Ending WorldState) (n : ℕ) → e.outside.call.cause ≡ None → e.answer ≡ Some n → CauseOf b e (as_cause (answer_fault b e.outside n))
of_answer callback.SelectCpu e n x y = go (cases_lt n (length e.outside.cpus))
  where
    go : (n < length e.outside.cpus) ⊎ (length e.outside.cpus ≤ n) → CauseOf callback.SelectCpu e (as_cause (if nat_lt n (length e.outside.cpus) then None else Some fault.NoSuchCpu))
    go (inl l) = rw (below n (length e.outside.cpus) l) (Of_nothing n x y refl l)
    go (inr l) = rw (past n (length e.outside.cpus) l) (Of_answer n x y refl l)
of_answer b e n x y = Of_no_answer n x y (λ z. absurd (cc))

-- what counts as a cause of a callback is one by the rules
pub is_cause_of : (b : Callback) (e : Ending WorldState) → CauseOf b e (cause_of b e)
is_cause_of b e = go e.outside.call.cause refl e.answer refl
  where
    go : (f : Option Cause) → e.outside.call.cause ≡ f → (a : Option ℕ) → e.answer ≡ a → CauseOf b e (or_cause f (as_cause (end_fault b e.outside a)))
    go (Some f) x a y = Of_helper f x
    go None x None y = Is_stuck x y
    go None x (Some n) y = of_answer b e n x y

no_answer_fault : (b : Callback) (w : WorldState) (n : ℕ) → (b ≡ callback.SelectCpu → ⊥) → answer_fault b w n ≡ None
no_answer_fault callback.SelectCpu w n other = absurd (other refl)
no_answer_fault b w n other = refl

abbrev cause_as : Callback → WorldState → Option Cause → Option ℕ → Option Cause
cause_as b w f a = or_cause f (as_cause (end_fault b w a))

cause_at : (b : Callback) (e : Ending WorldState) (f : Option Cause) (a : Option ℕ) → e.outside.call.cause ≡ f → e.answer ≡ a → cause_as b e.outside f a ≡ cause_of b e
cause_at b e f a x y = ap (λ o. cause_as b e.outside f o) (sym y) ∙ ap (λ o. cause_as b e.outside o e.answer) (sym x)

-- and nothing else is
pub only_cause_of : (b : Callback) (e : Ending WorldState) (f : Option Cause) → CauseOf b e f → f ≡ cause_of b e
only_cause_of b e f (Of_helper g x) = cause_at b e (Some g) e.answer x refl
only_cause_of b e f (Is_stuck x y) = cause_at b e None None x y
only_cause_of b e f (Of_answer n x y z l) = seen (past n (length e.outside.cpus) l) ∙ cause_at b e None (Some n) x y
  where
    seen : nat_lt n (length e.outside.cpus) ≡ false → Some (reason.Fault fault.NoSuchCpu) ≡ as_cause (answer_fault b e.outside n)
    seen t = rw (z, t) refl
only_cause_of b e f (Of_nothing n x y z l) = seen (below n (length e.outside.cpus) l) ∙ cause_at b e None (Some n) x y
  where
    seen : nat_lt n (length e.outside.cpus) ≡ true → None ≡ as_cause (answer_fault b e.outside n)
    seen t = rw (z, t) refl
only_cause_of b e f (Of_no_answer n x y other) = ap (λ o. as_cause o) (sym (no_answer_fault b e.outside n other)) ∙ cause_at b e None (Some n) x y

-- ---- who goes where

goes_over : (n : ℕ) (w : WorldState) → GoOver w n (evict_notes n w) (after_evictions n w)
goes_over zero w = Begins [] w refl refl
goes_over (suc n) w = go (waits u n) refl (goes_over n w)
  where
    u : WorldState
    u = after_evictions n w

    go : (b : Bool) → waits u n ≡ b → GoOver w n (evict_notes n w) u
        → GoOver w (suc n) (evict_notes n w ++ (if b then note_now u (note.Insert n builtin_queue) ∷ [] else [])) (if b then put_builtin (after_leave u n) n else u)
    go true e h = Waits n (evict_notes n w) _ u _ h e refl refl
    go false e h = rw (append-nil (evict_notes n w)) (Passes n (evict_notes n w) u h e)

abbrev went : WorldState → ℕ → Bool → WorldState
went u n b = if b then put_builtin (after_leave u n) n else u

abbrev told : WorldState → ℕ → Bool → List Note
told u n b = if b then note_now u (note.Insert n builtin_queue) ∷ [] else []

went_is : (u : WorldState) (n : ℕ) (b : Bool) → waits u n ≡ b → went u n b ≡ evict u n
went_is u n b e = ap (λ x. went u n x) (sym e)

told_is : (u : WorldState) (n : ℕ) (b : Bool) → waits u n ≡ b → told u n b ≡ evict_note u n
told_is u n b e = ap (λ x. told u n x) (sym e)

only_over : (n : ℕ) (w : WorldState) (notes : List Note) (v : WorldState) → GoOver w n notes v → (notes ≡ evict_notes n w) × (v ≡ after_evictions n w)
only_over zero w notes v (Begins _ _ e k) = (e, k)
only_over (suc n) w notes v (Waits _ before _ u _ h x e k) =
    let f = only_over n w before u h in (
      e ∙ ap (λ ns. ns ++ told u n true) f.0 ∙ ap (λ ns. evict_notes n w ++ ns) (told_is u n true x) ∙ ap (λ y. evict_notes n w ++ evict_note y n) f.1,
      k ∙ went_is u n true x ∙ ap (λ y. evict y n) f.1,
    )
only_over (suc n) w notes v (Passes _ _ _ h x) =
    let f = only_over n w notes v h in (
      f.0 ∙ sym (append-nil (evict_notes n w)) ∙ ap (λ ns. evict_notes n w ++ ns) (told_is v n false x) ∙ ap (λ y. evict_notes n w ++ evict_note y n) f.1,
      went_is v n false x ∙ ap (λ y. evict y n) f.1,
    )

-- ---- ejections

abbrev left_by : State → Eject → List Note → WorldState → Stepped
left_by s x notes v = record { state = with_world s (after_cut (length v.cpus) v); notes = note_now s.world (eject_note x) ∷ notes; calls = [] }

-- a policy is ejected as it is computed
pub ejects : (s : State) (x : Eject) → Ejects s x (eject s x)
unfolding eject moves_over
ejects s x = record {
  notes = evict_notes (length s.world.tasks) (put_out s.world x);
  over = after_evictions (length s.world.tasks) (put_out s.world x);
  all_go = goes_over (length s.world.tasks) (put_out s.world x);
  all = refl;
}

-- and in no other way
pub only_ejects : (s : State) (x : Eject) (r : Stepped) → Ejects s x r → r ≡ eject s x
unfolding eject moves_over
only_ejects s x r h =
    let f = only_over (length s.world.tasks) (put_out s.world x) h.notes h.over h.all_go in
    h.all ∙ ap (λ ns. left_by s x ns h.over) f.0 ∙ ap (λ v. left_by s x (evict_notes (length s.world.tasks) (put_out s.world x)) v) f.1

-- after a callback
pub judges : (s : State) (x : Option Cause) → Judges s x (ejected_for x s)
judges s None = Stays _ refl
judges s (Some (reason.Fault f)) = Ejected f _ (ejects s (cause.Fault f s.world.clock))
judges s (Some (reason.Exit n)) = Ended n _ (ejects s (cause.Exit n s.world.clock))

-- after a callback the rules allow no other step than the one that is computed
pub only_judges : (s : State) (x : Option Cause) (r : Stepped) → Judges s x r → r ≡ ejected_for x s
only_judges s None r (Stays _ k) = k
only_judges s (Some (reason.Fault f)) r (Ejected _ _ h) = only_ejects s (cause.Fault f s.world.clock) r h
only_judges s (Some (reason.Exit n)) r (Ended _ _ h) = only_ejects s (cause.Exit n s.world.clock) r h

-- ---- an ejected policy is out of force

if_stays : (b : Bool) (v w : WorldState) (x : Option Eject) → v.ejected ≡ x → w.ejected ≡ x → (if b then v else w).ejected ≡ x
if_stays true v w x p q = p
if_stays false v w x p q = q

pub put_stays : (w : WorldState) (t : ℕ) → (put_builtin w t).ejected ≡ w.ejected
put_stays w t = if_stays (nat_lt t (length w.tasks)) _ w w.ejected refl refl

evicted_stays : (n : ℕ) (w : WorldState) → (after_evictions n w).ejected ≡ w.ejected
evicted_stays zero w = refl
evicted_stays (suc n) w =
    let u = after_evictions n w in
    if_stays (waits u n) (put_builtin (after_leave u n) n) u w.ejected (put_stays (after_leave u n) n ∙ evicted_stays n w) (evicted_stays n w)

cut_stays : (n : ℕ) (w : WorldState) → (after_cut n w).ejected ≡ w.ejected
cut_stays zero w = refl
cut_stays (suc n) w = go (running (after_cut n w) n) ∙ cut_stays n w
  where
    go : (o : Option ℕ) → (cut_task o (after_cut n w)).ejected ≡ (after_cut n w).ejected
    go None = refl
    go (Some t) = refl

stays_out : (s : State) (x : Eject) → (eject s x).state.world.ejected ≡ Some x
unfolding eject moves_over
stays_out s x =
    let v = after_evictions (length s.world.tasks) (put_out s.world x) in
    cut_stays (length v.cpus) v ∙ evicted_stays (length s.world.tasks) (put_out s.world x)

some_eject : (x : Eject) → Some x ≡ None → ⊥
some_eject x e = absurd (cc)

-- what leaves a policy in force had no cause to put it out of force
pub no_cause : (x : Option Cause) (s : State) → (ejected_for x s).state.world.ejected ≡ None → x ≡ None
no_cause None s e = refl
no_cause (Some x) s e = let y = eject_of x s.world.clock in absurd (some_eject y (sym (stays_out s y) ∙ e))

-- it answers the number of a processor
abbrev pub NamesCpu : ℕ → Option ℕ → Type 0
NamesCpu cpus a = (n : ℕ) × (a ≡ Some n) × (n < cpus)

some_cause : (x : Cause) → Some x ≡ None → ⊥
some_cause x e = absurd (cc)

-- select_cpu does so where it has no cause
pub names_cpu : (e : Ending WorldState) → cause_of callback.SelectCpu e ≡ None → NamesCpu (length e.outside.cpus) e.answer
names_cpu e = go e.outside.call.cause e.answer refl
  where
    at : (n : ℕ) → e.answer ≡ Some n → (n < length e.outside.cpus) ⊎ (length e.outside.cpus ≤ n)
        → as_cause (if nat_lt n (length e.outside.cpus) then None else Some fault.NoSuchCpu) ≡ None → NamesCpu (length e.outside.cpus) e.answer
    at n x (inl l) = λ k. (n, x, l)
    at n x (inr l) = rw (past n (length e.outside.cpus) l) (λ k. absurd (some_cause (reason.Fault fault.NoSuchCpu) k))

    go : (f : Option Cause) (a : Option ℕ) → e.answer ≡ a → cause_as callback.SelectCpu e.outside f a ≡ None → NamesCpu (length e.outside.cpus) e.answer
    go (Some f) a x k = absurd (some_cause f k)
    go None None x k = absurd (some_cause (reason.Fault fault.Stuck) k)
    go None (Some n) x k = at n x (cases_lt n (length e.outside.cpus)) k
