-- A policy hears who left its custody as it is computed, and in no other way.
use Rattle.std.proofs.Common.{◌≡◌, ℕ, Bool, true, false, ◌&&◌, ◌==◌, nat_lt, ◌⊎◌, inl, inr, if◌then◌else◌, List, [], ◌∷◌, Option, Some, None, is_some, refl, sym, ◌∙◌, ap, arith}
use Rattle.std.proofs.lemmas.Option.{same_Some}
use Rattle.std.proofs.lemmas.Bool.Decides.{nat_tests}
use Rattle.std.proofs.lemmas.Bool.{eq-eqb, and_from, and_right, and_left, or_cases, or_right, or_left, false_from_ne_true}
use Rattle.scx_dsq.specs.Queues.{queue_of}
use Rattle.scx_isa_semantics.specs.declared.callbacks.Callback.TheVariants as callback
use Rattle.scx_vm.specs.Programs.{VerifiedProgram}
use Rattle.scx_sched_world.specs.declared.eject.Eject.{Eject}
use Rattle.scx_sched_world.specs.declared.notes.Note.{Note}
use Rattle.scx_sched_world.specs.declared.notes.What.{What}
use Rattle.scx_sched_world.specs.declared.notes.What.TheVariants as note
use Rattle.scx_sched_world.specs.Ids.{policy_end, held_queue}
use Rattle.scx_sched_world.specs.World.{WorldState}
use Rattle.scx_sched_machine.specs.Steps.{State, Stepped, with_world, stays, one_after_other, is_by_linux}
use Rattle.scx_sched_machine.specs.Callbacks.{task_and_number}
use Rattle.scx_sched_machine.specs.Custody.{is_custody, is_in_custody, tells_dequeued, tells_dequeued_if, leaver, tells_of, tells_each, moved_as, hears_dequeue, tells_left}
use Rattle.scx_sched_machine.specs.Events.{leaves_queue}
use Rattle.scx_laws.specs.Custody.{IsInCustody, InItsQueue, IsHeld, gone_out, LeavesQueue, LeavesCustody, LeavesOther, HasLeft, WasMoved, WasReleased, TellsOf, OneLeft, NoneLeft, TellsEach, NoNotes, OneNote, KeepsMoved, IsKept, IsForgotten, TellsLeft, LeftByPlain, HasNoDequeue, TellsAll}
use Rattle.scx_laws.proofs.Differing.{below, past, not_so, none_if_never, calls_if_there, only_calls_if_there}

-- ---- custody

in_custody_is : (w : WorldState) (t : ℕ) → is_in_custody w t ≡ true → IsInCustody w t
in_custody_is w t e = go (queue_of w.queues t) refl e
  where
    at : (q : ℕ) → queue_of w.queues t ≡ Some q → (nat_lt q policy_end ≡ true) ⊎ ((q == held_queue) ≡ true) → IsInCustody w t
    at q k (inl x) = InItsQueue q k (grind (arith, nat_tests, x))
    at q k (inr x) = let z : q ≡ held_queue = grind (arith, nat_tests, x) in IsHeld (k ∙ ap (λ y. Some y) z)

    go : (o : Option ℕ) → queue_of w.queues t ≡ o → is_custody o ≡ true → IsInCustody w t
    go None k x = absurd (cc)
    go (Some q) k x = at q k (or_cases (nat_lt q policy_end) (q == held_queue) x)

in_custody_of : (w : WorldState) (t : ℕ) → IsInCustody w t → is_in_custody w t ≡ true
in_custody_of w t (InItsQueue q k l) = ap (λ o. is_custody o) k ∙ or_left (nat_lt q policy_end) (q == held_queue) (below q policy_end l)
in_custody_of w t (IsHeld k) = ap (λ o. is_custody o) k ∙ or_right (nat_lt held_queue policy_end) (held_queue == held_queue) (eq-eqb held_queue held_queue refl)

abbrev left_if : State → ℕ → ℕ → ℕ → Bool → Stepped
left_if s t c flags b = tells_dequeued_if b (gone_out s t) t c flags

-- a task leaves its queue as it is computed
pub departs : (s : State) (t c flags : ℕ) → LeavesQueue s t c flags (leaves_queue s t c flags)
unfolding leaves_queue tells_dequeued
departs s t c flags = go (is_in_custody s.world t) refl
  where
    go : (b : Bool) → is_in_custody s.world t ≡ b → LeavesQueue s t c flags (left_if s t c flags b)
    go true e = LeavesCustody (in_custody_is s.world t e) (calls_if_there (gone_out s t) callback.Dequeue (task_and_number t flags) t c)
    go false e = LeavesOther (λ h. not_so (is_in_custody s.world t) e (in_custody_of s.world t h)) refl

-- and in no other way
pub only_departs : (s : State) (t c flags : ℕ) (r : Stepped) → LeavesQueue s t c flags r → r ≡ leaves_queue s t c flags
unfolding leaves_queue tells_dequeued
only_departs s t c flags r (LeavesCustody h x) =
    only_calls_if_there (gone_out s t) callback.Dequeue (task_and_number t flags) t c r x ∙ ap (λ b. left_if s t c flags b) (sym (in_custody_of s.world t h))
only_departs s t c flags r (LeavesOther n k) = k ∙ ap (λ b. left_if s t c flags b) (sym (false_from_ne_true (is_in_custody s.world t) (λ e. n (in_custody_is s.world t e))))

-- ---- out of dispatch

has_left_is : (x : What) (t : ℕ) → leaver x ≡ Some t → HasLeft x t
has_left_is (note.Insert u q) t e = go (nat_lt q policy_end) refl e
  where
    go : (b : Bool) → nat_lt q policy_end ≡ b → (if b then None else Some u) ≡ Some t → HasLeft (note.Insert u q) t
    go true z y = absurd (cc)
    go false z y = WasReleased q (ap (λ k. note.Insert k q) (same_Some u t y)) (grind (arith, nat_tests, z))
has_left_is (note.Move u c) t e = WasMoved c (ap (λ k. note.Move k c) (same_Some u t e))
has_left_is x t e = absurd (cc)

has_left_of : (x : What) (t : ℕ) → HasLeft x t → leaver x ≡ Some t
has_left_of x t (WasMoved c k) = ap (λ y. leaver y) k
has_left_of x t (WasReleased q k l) = ap (λ y. leaver y) k ∙ ap (λ b. if b then None else Some t) (past q policy_end l)

none_left : (x : What) → ((t : ℕ) → ¬ HasLeft x t) → leaver x ≡ None
none_left x n = none_if_never (leaver x) (λ t e. n t (has_left_is x t e))

tells_of_one : (x : What) (s : State) (c : ℕ) → TellsOf x s c (tells_of (leaver x) s c)
unfolding tells_dequeued
tells_of_one x s c = go (leaver x) refl
  where
    go : (o : Option ℕ) → leaver x ≡ o → TellsOf x s c (tells_of o s c)
    go (Some t) e = OneLeft t (has_left_is x t e) (calls_if_there s callback.Dequeue (task_and_number t 0) t c)
    go None e = NoneLeft (λ t h. let bad : None ≡ Some t = sym e ∙ has_left_of x t h in absurd (cc)) refl

only_tells_of_one : (x : What) (s : State) (c : ℕ) (r : Stepped) → TellsOf x s c r → r ≡ tells_of (leaver x) s c
unfolding tells_dequeued
only_tells_of_one x s c r (OneLeft t h y) = only_calls_if_there s callback.Dequeue (task_and_number t 0) t c r y ∙ ap (λ o. tells_of o s c) (sym (has_left_of x t h))
only_tells_of_one x s c r (NoneLeft n k) = k ∙ ap (λ o. tells_of o s c) (sym (none_left x n))

tells_all : (ns : List Note) (s : State) (c : ℕ) → TellsEach ns s c (tells_each ns s c)
tells_all [] s c = NoNotes s c _ refl
tells_all (n ∷ ns) s c = let r = tells_of (leaver n.what) s c in OneNote n ns s c r (tells_each ns r.state c) _ (tells_of_one n.what s c) (tells_all ns r.state c) refl

only_tells_all : (ns : List Note) (s : State) (c : ℕ) (r : Stepped) → TellsEach ns s c r → r ≡ tells_each ns s c
only_tells_all [] s c r (NoNotes _ _ _ k) = k
only_tells_all (n ∷ ns) s c r (OneNote _ _ _ _ told more _ h y k) =
    k ∙ ap (λ z. one_after_other told z) (only_tells_all ns told.state c more y) ∙ ap (λ (z : Stepped). one_after_other z (tells_each ns z.state c)) (only_tells_of_one n.what s c told h)

abbrev moved_if : State → State → Option Eject → State
moved_if s r x =
    if is_some x then r
    else with_world r (record r.world {
      call = record r.world.call { has_moved = s.world.call.has_moved };
    })

keeps_moved : (s r : State) → KeepsMoved s r (moved_as s.world.call.has_moved r)
keeps_moved s r = go r.world.ejected refl
  where
    go : (x : Option Eject) → r.world.ejected ≡ x → KeepsMoved s r (moved_if s r x)
    go None e = IsKept e refl
    go (Some x) e = IsForgotten x e refl

only_keeps_moved : (s r v : State) → KeepsMoved s r v → v ≡ moved_as s.world.call.has_moved r
only_keeps_moved s r v (IsKept e k) = k ∙ ap (λ x. moved_if s r x) (sym e)
only_keeps_moved s r v (IsForgotten x e k) = k ∙ ap (λ y. moved_if s r y) (sym e)

abbrev told_so : State → Stepped → State → Stepped
told_so s told v = record told { state = v }

abbrev told_if : State → ℕ → List Note → Bool → Stepped
told_if s c ns b = if b then (let r = tells_each ns s c in told_so s r (moved_as s.world.call.has_moved r.state)) else stays s

-- the policy hears who left as it is computed
pub tells_who_left : (s : State) (c : ℕ) (ns : List Note) → TellsLeft s c ns (tells_left s c ns)
unfolding tells_left hears_dequeue
tells_who_left s c ns = go (is_by_linux s) refl s.policy.callbacks.dequeue refl
  where
    go : (a : Bool) → is_by_linux s ≡ a → (o : Option VerifiedProgram) → s.policy.callbacks.dequeue ≡ o → TellsLeft s c ns (told_if s c ns (a && is_some o))
    go false e o k = LeftByPlain e refl
    go true e None k = HasNoDequeue k refl
    go true e (Some p) k = let r = tells_each ns s c in TellsAll p r (moved_as s.world.call.has_moved r.state) e k (tells_all ns s c) (keeps_moved s r.state) refl

-- and in no other way
pub only_tells_who_left : (s : State) (c : ℕ) (ns : List Note) (r : Stepped) → TellsLeft s c ns r → r ≡ tells_left s c ns
unfolding tells_left hears_dequeue
only_tells_who_left s c ns r (LeftByPlain e k) = k ∙ ap (λ b. told_if s c ns b) (sym (and_left (is_by_linux s) (is_some s.policy.callbacks.dequeue) e))
only_tells_who_left s c ns r (HasNoDequeue e k) = k ∙ ap (λ b. told_if s c ns b) (sym (and_right (is_by_linux s) (is_some s.policy.callbacks.dequeue) (ap (λ o. is_some o) e)))
only_tells_who_left s c ns r (TellsAll p told v e h x y k) =
    k ∙ ap (λ z. told_so s told z) (only_keeps_moved s told.state v y) ∙ ap (λ (z : Stepped). told_so s z (moved_as s.world.call.has_moved z.state)) (only_tells_all ns s c told x)
    ∙ ap (λ b. told_if s c ns b) (sym (and_from (is_by_linux s) (is_some s.policy.callbacks.dequeue) e (ap (λ o. is_some o) h)))
