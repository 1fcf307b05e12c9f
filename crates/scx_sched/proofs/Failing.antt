-- A machine that can't begin tells how the last callback that was called failed; where it begins, none has.
use Rattle.std.proofs.Common.{◌≡◌, ℕ, zero, suc, ℤ, Bool, true, false, ◌==◌, if◌then◌else◌, List, [], ◌∷◌, ◌++◌, length, Option, Some, None, Result, Ok, Err, refl, sym, ap, ◌∙◌, subst, arith}
use Rattle.std.specs.Int.{w64, cast_signed}
use Rattle.std.proofs.lemmas.Bool.Decides.{nat_tests}
use Rattle.scx_isa_semantics.specs.declared.callbacks.Callback.{Callback}
use Rattle.scx_isa_semantics.specs.declared.callbacks.Callback.TheVariants as callback
use Rattle.scx_isa_semantics.specs.Endings.{Ending}
use Rattle.scx_vm.specs.Programs.{VerifiedProgram}
use Rattle.scx_vm.specs.declared.arguments.Args.{Args}
use Rattle.scx_weights.specs.Hierarchy.{Hierarchy, own_weight}
use Rattle.scx_sched_world.specs.declared.eject.Cause.{Cause}
use Rattle.scx_sched_world.specs.declared.eject.Cause.TheVariants as reason
use Rattle.scx_sched_world.specs.World.{WorldState, at_callback}
use Rattle.scx_sched_machine.specs.declared.start.NewError.{NewError}
use Rattle.scx_sched_machine.specs.declared.start.NewError.TheVariants.{InitFailed, BadShape, OutOfMemory}
use Rattle.scx_sched_policy.specs.Policy.{PolicyState}
use Rattle.scx_sched_machine.specs.Steps.{State, CallMade}
use Rattle.scx_sched_machine.specs.Callbacks.{acting, call_ending, calls_of, IsAnswered, AreAnswered, no_arguments, one_task, task_and_number, two_numbers}
use Rattle.scx_sched_machine.specs.Start.{blank, cause_answer, bad_answer, ok_unless, after_init, failure, enable, then_enable, after_enables, all_enabled, first_state, IsRefusal, init_calls, enable_calls, calls_below, calls_after_init, start_calls, AreAnsweredBefore, begin_with, has_by_linux, begin_by_linux, then_weigh, then_idle, after_idles, unmarked, all_idle, then_all_idle, begin_calls, begin_calls_by_linux, weigh_calls, idle_calls, idle_calls_below, calls_after_enables}
use Rattle.scx_sched.specs.Causes.{EndsIn, Of_helper, Of_answer, Of_call, IsLast}
use Rattle.scx_sched.specs.Failures.{Fails, With_exit, With_fault, With_answer, HasFailed, NoneFails}
use Rattle.scx_sched.proofs.Blaming.{last_of, last_alone}
use Rattle.scx_sched.proofs.Causing.{computes}

-- ---- a callback that is called

module _ (m : CallMade) where
  ends : (i : IsAnswered m) → EndsIn m i.answer i.world
  ends i = record { steps = i.steps; maps = i.maps; run = i.run; in_bound = i.in_bound }

  same_number : (a b : ℤ) → Some a ≡ Some b → a ≡ b
  same_number a b e = cc

  -- that has a cause
  of_cause : (i : IsAnswered m) (n : ℤ) (x : Cause) → i.world.call.cause ≡ Some x → cause_answer x ≡ n → Fails m n
  of_cause i n (reason.Fault f) e is = With_fault f (Of_helper i.answer i.world (ends i) e) (sym is)
  of_cause i n (reason.Exit k) e is = With_exit (Of_call i.answer i.world (ends i) (e ∙ ap (λ j. Some (reason.Exit j)) is))

  -- init, which may answer a number that isn't 0
  of_init : (i : IsAnswered m) (n : ℤ) → m.callback ≡ callback.Init → bad_answer i.world.call.cause (Some i.answer) ≡ Some n → Fails m n
  of_init i n init e = go i.world.call.cause refl e
    where
      number : (b : Bool) → (i.answer == 0) ≡ b → i.world.call.cause ≡ None → (if b then None else Some (cast_signed w64 i.answer)) ≡ Some n → Fails m n
      number true z none y = absurd (cc)
      number false z none y = With_answer i.answer i.world (ends i) none init (λ is. grind (arith, nat_tests, is, z)) (sym (same_number _ n y))

      go : (o : Option Cause) → i.world.call.cause ≡ o → bad_answer o (Some i.answer) ≡ Some n → Fails m n
      go (Some x) c y = of_cause i n x c (same_number _ n y)
      go None c y = number (i.answer == 0) refl c y

  -- one whose answer says nothing
  of_begun : (i : IsAnswered m) (n : ℤ) → failure i.world.call.cause (Some i.answer) ≡ Some n → Fails m n
  of_begun i n e = go i.world.call.cause refl e
    where
      go : (o : Option Cause) → i.world.call.cause ≡ o → failure o (Some i.answer) ≡ Some n → Fails m n
      go (Some x) c y = of_cause i n x c (same_number _ n y)
      go None c y = absurd (cc)

-- ---- a callback that doesn't fail

abbrev IsRight : CallMade → Type 0
IsRight m = (n : ℤ) → Fails m n → ⊥

abbrev AreRight : List CallMade → Type 0
AreRight [] = Unit {0}
AreRight (m ∷ ms) = IsRight m × AreRight ms

right_append : (xs ys : List CallMade) → AreRight xs → AreRight ys → AreRight (xs ++ ys)
right_append [] ys h k = k
right_append (m ∷ ms) ys h k = (h.0, right_append ms ys h.1 k)

right_among : (before : List CallMade) (m : CallMade) (after : List CallMade) → AreRight (before ++ m ∷ after) → IsRight m
right_among [] m after h = h.0
right_among (c ∷ cs) m after h = right_among cs m after h.1

none_fails : (calls : List CallMade) → AreRight calls → NoneFails calls
none_fails calls h m n among wrong = right_among among.0 m among.1 (subst AreRight among.2 h) n wrong

module _ (m : CallMade) where
  abbrev end : Ending WorldState
  end = call_ending (Some m.program) m.callback m.arguments m.maps m.world

  no_cause : (o : Option Cause) (x : Cause) (a : ℕ) → o ≡ Some x → bad_answer o (Some a) ≡ None → ⊥
  no_cause (Some y) x a e h = absurd (cc)
  no_cause None x a e h = absurd (cc)

  no_number : (o : Option Cause) (a : ℕ) → o ≡ None → (a ≡ 0 → ⊥) → bad_answer o (Some a) ≡ None → ⊥
  no_number (Some y) a e some h = absurd (cc)
  no_number None a e some h = go (a == 0) refl h
    where
      go : (b : Bool) → (a == 0) ≡ b → (if b then None else Some (cast_signed w64 a)) ≡ None → ⊥
      go true x y = some (grind (arith, nat_tests, x))
      go false x y = absurd (cc)

  no_failure : (o : Option Cause) (x : Cause) (a : ℕ) → o ≡ Some x → failure o (Some a) ≡ None → ⊥
  no_failure (Some y) x a e h = absurd (cc)
  no_failure None x a e h = absurd (cc)

  other : (b c : Callback) → m.callback ≡ b → m.callback ≡ c → b ≡ c
  other b c x y = sym x ∙ y

  right_init : m.callback ≡ callback.Init → bad_answer end.outside.call.cause end.answer ≡ None → IsRight m
  right_init init right n (With_exit (Of_call a w ends e)) = no_cause w.call.cause (reason.Exit n) a e (ap (λ (x : Ending WorldState). bad_answer x.outside.call.cause x.answer) (computes m a w ends) ∙ right)
  right_init init right n (With_fault f (Of_helper a w ends e) is) = no_cause w.call.cause (reason.Fault f) a e (ap (λ (x : Ending WorldState). bad_answer x.outside.call.cause x.answer) (computes m a w ends) ∙ right)
  right_init init right n (With_fault f (Of_answer a w ends none same over what) is) = let bad = other callback.Init callback.SelectCpu init same in absurd (cc)
  right_init init right n (With_answer a w ends none same some is) = no_number w.call.cause a none some (ap (λ (x : Ending WorldState). bad_answer x.outside.call.cause x.answer) (computes m a w ends) ∙ right)

  right_begun : (m.callback ≡ callback.SelectCpu → ⊥) → (m.callback ≡ callback.Init → ⊥) → failure end.outside.call.cause end.answer ≡ None → IsRight m
  right_begun no_select no_init right n (With_exit (Of_call a w ends e)) = no_failure w.call.cause (reason.Exit n) a e (ap (λ (x : Ending WorldState). failure x.outside.call.cause x.answer) (computes m a w ends) ∙ right)
  right_begun no_select no_init right n (With_fault f (Of_helper a w ends e) is) = no_failure w.call.cause (reason.Fault f) a e (ap (λ (x : Ending WorldState). failure x.outside.call.cause x.answer) (computes m a w ends) ∙ right)
  right_begun no_select no_init right n (With_fault f (Of_answer a w ends none same over what) is) = absurd (no_select same)
  right_begun no_select no_init right n (With_answer a w ends none same some is) = absurd (no_init same)

-- ---- init, and callbacks that answer nothing

-- of these calls the last one failed so
abbrev LastFails : List CallMade → ℤ → Type 0
LastFails calls n = (m : CallMade) × IsLast m calls × Fails m n

told : (o : Option ℤ) (s : State) (n : ℤ) → ok_unless o s ≡ Err n → o ≡ Some n
told None s n e = absurd (cc)
told (Some k) s n e = cc

untold : (o : Option ℤ) (s t : State) → ok_unless o s ≡ Ok t → o ≡ None
untold None s t e = refl
untold (Some k) s t e = absurd (cc)

module _ (s : State) where
  module _ (w : WorldState) (none : w.call.cause ≡ None) where
    init_fails : (p : Option VerifiedProgram) (n : ℤ) → bad_answer (call_ending p callback.Init no_arguments s.maps w).outside.call.cause (call_ending p callback.Init no_arguments s.maps w).answer ≡ Some n → AreAnswered (calls_of p callback.Init no_arguments s.maps w) → LastFails (calls_of p callback.Init no_arguments s.maps w) n
    unfolding call_ending
    init_fails None n e all = let bad = ap (λ o. bad_answer o (Some 0)) (sym none) ∙ e in absurd (cc)
    init_fails (Some p) n e all =
        let m : CallMade = record { callback = callback.Init; program = p; arguments = no_arguments; maps = s.maps; world = w } in
        (m, ([], refl), of_init m all.0 n refl (ap (λ (x : Ending WorldState). bad_answer x.outside.call.cause x.answer) (computes m all.0.answer all.0.world (ends m all.0)) ∙ e))

    init_right : (p : Option VerifiedProgram) → bad_answer (call_ending p callback.Init no_arguments s.maps w).outside.call.cause (call_ending p callback.Init no_arguments s.maps w).answer ≡ None → AreRight (calls_of p callback.Init no_arguments s.maps w)
    init_right None e = tt
    init_right (Some p) e = (right_init (record { callback = callback.Init; program = p; arguments = no_arguments; maps = s.maps; world = w }) refl e, tt)

    module _ (b : Callback) where
      begun_fails : (p : Option VerifiedProgram) (a : Args) (n : ℤ) → failure (call_ending p b a s.maps w).outside.call.cause (call_ending p b a s.maps w).answer ≡ Some n → AreAnswered (calls_of p b a s.maps w) → LastFails (calls_of p b a s.maps w) n
      unfolding call_ending
      begun_fails None a n e all = let bad = ap (λ o. failure o (Some 0)) (sym none) ∙ e in absurd (cc)
      begun_fails (Some p) a n e all =
          let m : CallMade = record { callback = b; program = p; arguments = a; maps = s.maps; world = w } in
          (m, ([], refl), of_begun m all.0 n (ap (λ (x : Ending WorldState). failure x.outside.call.cause x.answer) (computes m all.0.answer all.0.world (ends m all.0)) ∙ e))

      begun_right : (b ≡ callback.SelectCpu → ⊥) → (b ≡ callback.Init → ⊥) → (p : Option VerifiedProgram) (a : Args) → failure (call_ending p b a s.maps w).outside.call.cause (call_ending p b a s.maps w).answer ≡ None → AreRight (calls_of p b a s.maps w)
      begun_right no_select no_init None a e = tt
      begun_right no_select no_init (Some p) a e = (right_begun (record { callback = b; program = p; arguments = a; maps = s.maps; world = w }) no_select no_init e, tt)

  after_init_fails : (n : ℤ) → after_init s ≡ Err n → AreAnswered (init_calls s) → LastFails (init_calls s) n
  unfolding after_init
  after_init_fails n e all = init_fails (at_callback s.world callback.Init 0 0) refl (acting s callback.Init) n (told _ _ n e) all

  after_init_right : (t : State) → after_init s ≡ Ok t → AreRight (init_calls s)
  unfolding after_init
  after_init_right t e = init_right (at_callback s.world callback.Init 0 0) refl (acting s callback.Init) (untold _ _ t e)

  begin_fails : (b : Callback) (a : Args) (u c : ℕ) (n : ℤ) → begin_with s b a u c ≡ Err n → AreAnswered (begin_calls s b a u c) → LastFails (begin_calls s b a u c) n
  unfolding begin_with
  begin_fails b a u c n e all = begun_fails (at_callback s.world b u c) refl b (acting s b) a n (told _ _ n e) all

  begin_right : (b : Callback) (a : Args) (u c : ℕ) (t : State) → (b ≡ callback.SelectCpu → ⊥) → (b ≡ callback.Init → ⊥) → begin_with s b a u c ≡ Ok t → AreRight (begin_calls s b a u c)
  unfolding begin_with
  begin_right b a u c t no_select no_init e = begun_right (at_callback s.world b u c) refl b no_select no_init (acting s b) a (untold _ _ t e)

  begin_by_linux_fails : (b : Callback) (a : Args) (u c : ℕ) (n : ℤ) → begin_by_linux s b a u c ≡ Err n → AreAnswered (begin_calls_by_linux s b a u c) → LastFails (begin_calls_by_linux s b a u c) n
  unfolding begin_by_linux
  begin_by_linux_fails b a u c n e all = go (has_by_linux s b) e all
    where
      go : (d : Bool) → (if d then begin_with s b a u c else Ok s) ≡ Err n → AreAnswered (if d then begin_calls s b a u c else []) → LastFails (if d then begin_calls s b a u c else []) n
      go true e all = begin_fails b a u c n e all
      go false e all = absurd (cc)

  begin_by_linux_right : (b : Callback) (a : Args) (u c : ℕ) (t : State) → (b ≡ callback.SelectCpu → ⊥) → (b ≡ callback.Init → ⊥) → begin_by_linux s b a u c ≡ Ok t → AreRight (begin_calls_by_linux s b a u c)
  unfolding begin_by_linux
  begin_by_linux_right b a u c t no_select no_init e = go (has_by_linux s b) e
    where
      go : (d : Bool) → (if d then begin_with s b a u c else Ok s) ≡ Ok t → AreRight (if d then begin_calls s b a u c else [])
      go true e = begin_right b a u c t no_select no_init e
      go false e = tt

-- ---- one after another

answered_first : (xs ys : List CallMade) → AreAnswered (xs ++ ys) → AreAnswered xs
answered_first [] ys h = tt
answered_first (x ∷ xs) ys h = (h.0, answered_first xs ys h.1)

answered_then : (xs ys : List CallMade) → AreAnswered (xs ++ ys) → AreAnswered ys
answered_then [] ys h = h
answered_then (x ∷ xs) ys h = answered_then xs ys h.1

fails_then : (xs ys : List CallMade) (n : ℤ) → LastFails ys n → LastFails (xs ++ ys) n
fails_then xs ys n (m, last, fails) = (m, last_of xs ys m last, fails)

fails_alone : (xs ys : List CallMade) (n : ℤ) → ys ≡ [] → LastFails xs n → LastFails (xs ++ ys) n
fails_alone xs ys n none (m, last, fails) = (m, last_alone xs ys m none last, fails)

-- enable and `set_weight` of a task
fails_enable : (s : State) (j : ℕ) (n : ℤ) → then_weigh (enable s j) j ≡ Err n → AreAnswered (enable_calls (Ok s) j) → LastFails (enable_calls (Ok s) j) n
fails_enable s j n e all = go (enable s j) refl e all
  where
    first : List CallMade
    first = begin_calls s callback.Enable (one_task j) j 0

    go : (r : Result State ℤ) → enable s j ≡ r → then_weigh r j ≡ Err n → AreAnswered (first ++ weigh_calls r j) → LastFails (first ++ weigh_calls r j) n
    go (Err x) y z all = fails_alone first [] n refl (begin_fails s callback.Enable (one_task j) j 0 n (y ∙ z) (answered_first first [] all))
    go (Ok u) y z all = fails_then first (weigh_calls (Ok u) j) n (begin_by_linux_fails u callback.SetWeight (task_and_number j (own_weight u.world.tree j)) j 0 n z (answered_then first (weigh_calls (Ok u) j) all))

right_enable : (s : State) (j : ℕ) (t : State) → then_weigh (enable s j) j ≡ Ok t → AreRight (enable_calls (Ok s) j)
right_enable s j t e = go (enable s j) refl e
  where
    first : List CallMade
    first = begin_calls s callback.Enable (one_task j) j 0

    go : (r : Result State ℤ) → enable s j ≡ r → then_weigh r j ≡ Ok t → AreRight (first ++ weigh_calls r j)
    go (Err x) y z = absurd (cc)
    go (Ok u) y z = right_append first (weigh_calls (Ok u) j) (begin_right s callback.Enable (one_task j) j 0 u (λ x. absurd (cc)) (λ x. absurd (cc)) y) (begin_by_linux_right u callback.SetWeight (task_and_number j (own_weight u.world.tree j)) j 0 t (λ x. absurd (cc)) (λ x. absurd (cc)) z)

fails_below : (k : ℕ) (s : State) (n : ℤ) → after_enables k s ≡ Err n → AreAnswered (calls_below k s) → LastFails (calls_below k s) n
fails_below zero s n e all = absurd (cc)
fails_below (suc k) s n e all = go (after_enables k s) refl e all (λ x h. fails_below k s n x h)
  where
    go : (r : Result State ℤ) → after_enables k s ≡ r → then_enable r k ≡ Err n → AreAnswered (calls_below k s ++ enable_calls r k) → (after_enables k s ≡ Err n → AreAnswered (calls_below k s) → LastFails (calls_below k s) n) → LastFails (calls_below k s ++ enable_calls r k) n
    go (Err x) y z all before = fails_alone (calls_below k s) [] n refl (before (y ∙ z) (answered_first (calls_below k s) [] all))
    go (Ok u) y z all before = fails_then (calls_below k s) (enable_calls (Ok u) k) n (fails_enable u k n z (answered_then (calls_below k s) (enable_calls (Ok u) k) all))

right_below : (k : ℕ) (s t : State) → after_enables k s ≡ Ok t → AreRight (calls_below k s)
right_below zero s t e = tt
right_below (suc k) s t e = go (after_enables k s) refl e (λ u x. right_below k s u x)
  where
    go : (r : Result State ℤ) → after_enables k s ≡ r → then_enable r k ≡ Ok t → ((u : State) → after_enables k s ≡ Ok u → AreRight (calls_below k s)) → AreRight (calls_below k s ++ enable_calls r k)
    go (Err x) y z before = absurd (cc)
    go (Ok u) y z before = right_append (calls_below k s) (enable_calls (Ok u) k) (before u y) (right_enable u k t z)

-- `update_idle` of each processor
fails_idles : (k : ℕ) (s : State) (n : ℤ) → after_idles k s ≡ Err n → AreAnswered (idle_calls_below k s) → LastFails (idle_calls_below k s) n
fails_idles zero s n e all = absurd (cc)
fails_idles (suc k) s n e all = go (after_idles k s) refl e all (λ x h. fails_idles k s n x h)
  where
    go : (r : Result State ℤ) → after_idles k s ≡ r → then_idle r k ≡ Err n → AreAnswered (idle_calls_below k s ++ idle_calls r k) → (after_idles k s ≡ Err n → AreAnswered (idle_calls_below k s) → LastFails (idle_calls_below k s) n) → LastFails (idle_calls_below k s ++ idle_calls r k) n
    go (Err x) y z all before = fails_alone (idle_calls_below k s) [] n refl (before (y ∙ z) (answered_first (idle_calls_below k s) [] all))
    go (Ok u) y z all before = fails_then (idle_calls_below k s) (idle_calls (Ok u) k) n (begin_by_linux_fails u callback.UpdateIdle (two_numbers k 1) 0 k n z (answered_then (idle_calls_below k s) (idle_calls (Ok u) k) all))

right_idles : (k : ℕ) (s t : State) → after_idles k s ≡ Ok t → AreRight (idle_calls_below k s)
right_idles zero s t e = tt
right_idles (suc k) s t e = go (after_idles k s) refl e (λ u x. right_idles k s u x)
  where
    go : (r : Result State ℤ) → after_idles k s ≡ r → then_idle r k ≡ Ok t → ((u : State) → after_idles k s ≡ Ok u → AreRight (idle_calls_below k s)) → AreRight (idle_calls_below k s ++ idle_calls r k)
    go (Err x) y z before = absurd (cc)
    go (Ok u) y z before = right_append (idle_calls_below k s) (idle_calls (Ok u) k) (before u y) (begin_by_linux_right u callback.UpdateIdle (two_numbers k 1) 0 k t (λ x. absurd (cc)) (λ x. absurd (cc)) z)

unmarked_fails : (r : Result State ℤ) (n : ℤ) → unmarked r ≡ Err n → r ≡ Err n
unmarked_fails (Err x) n e = e
unmarked_fails (Ok u) n e = absurd (cc)

unmarked_right : (r : Result State ℤ) (t : State) → unmarked r ≡ Ok t → (u : State) × (r ≡ Ok u)
unmarked_right (Err x) t e = absurd (cc)
unmarked_right (Ok u) t e = (u, refl)

fails_all_idle : (s : State) (n : ℤ) → all_idle s ≡ Err n → AreAnswered (calls_after_enables (Ok s)) → LastFails (calls_after_enables (Ok s)) n
fails_all_idle s n e all = go (has_by_linux s callback.UpdateIdle) e all
  where
    k : ℕ
    k = length s.world.cpus

    go : (d : Bool) → (if d then unmarked (after_idles k s) else Ok s) ≡ Err n → AreAnswered (if d then idle_calls_below k s else []) → LastFails (if d then idle_calls_below k s else []) n
    go true e all = fails_idles k s n (unmarked_fails (after_idles k s) n e) all
    go false e all = absurd (cc)

right_all_idle : (s t : State) → all_idle s ≡ Ok t → AreRight (calls_after_enables (Ok s))
right_all_idle s t e = go (has_by_linux s callback.UpdateIdle) e
  where
    k : ℕ
    k = length s.world.cpus

    go : (d : Bool) → (if d then unmarked (after_idles k s) else Ok s) ≡ Ok t → AreRight (if d then idle_calls_below k s else [])
    go true e = let x = unmarked_right (after_idles k s) t e in right_idles k s x.0 x.1
    go false e = tt

-- all that is called once init has not failed
fails_after_init : (s : State) (n : ℤ) → all_enabled (Ok s) ≡ Err n → AreAnswered (calls_after_init (Ok s)) → LastFails (calls_after_init (Ok s)) n
fails_after_init s n e all = go (after_enables k s) refl e all
  where
    k : ℕ
    k = length s.world.tasks

    go : (r : Result State ℤ) → after_enables k s ≡ r → then_all_idle r ≡ Err n → AreAnswered (calls_below k s ++ calls_after_enables r) → LastFails (calls_below k s ++ calls_after_enables r) n
    go (Err x) y z all = fails_alone (calls_below k s) [] n refl (fails_below k s n (y ∙ z) (answered_first (calls_below k s) [] all))
    go (Ok u) y z all = fails_then (calls_below k s) (calls_after_enables (Ok u)) n (fails_all_idle u n z (answered_then (calls_below k s) (calls_after_enables (Ok u)) all))

right_after_init : (s t : State) → all_enabled (Ok s) ≡ Ok t → AreRight (calls_after_init (Ok s))
right_after_init s t e = go (after_enables k s) refl e
  where
    k : ℕ
    k = length s.world.tasks

    go : (r : Result State ℤ) → after_enables k s ≡ r → then_all_idle r ≡ Ok t → AreRight (calls_below k s ++ calls_after_enables r)
    go (Err x) y z = absurd (cc)
    go (Ok u) y z = right_append (calls_below k s) (calls_after_enables (Ok u)) (right_below k s u y) (right_all_idle u t z)

-- ---- the machine

module _ (p : PolicyState) (tree : Hierarchy) (cpus : ℕ) where
  abbrev before : State
  before = blank p tree cpus

  started_fails : (n : ℤ) → first_state p tree cpus ≡ Err n → AreAnswered (start_calls p tree cpus) → LastFails (start_calls p tree cpus) n
  started_fails n e all = go (after_init before) refl e all
    where
      go : (r : Result State ℤ) → after_init before ≡ r → all_enabled r ≡ Err n → AreAnswered (init_calls before ++ calls_after_init r) → LastFails (init_calls before ++ calls_after_init r) n
      go (Err x) y z all = fails_alone (init_calls before) [] n refl (after_init_fails before n (y ∙ z) (answered_first (init_calls before) [] all))
      go (Ok s) y z all = let rest = calls_after_init (Ok s) in fails_then (init_calls before) rest n (fails_after_init s n z (answered_then (init_calls before) rest all))

  -- the last callback that was called failed, with the number that the refusal has
  pub has_failed : (e : NewError) → IsRefusal p tree cpus e → AreAnsweredBefore p tree cpus e → HasFailed p tree cpus e
  has_failed BadShape refused all = tt
  has_failed OutOfMemory refused all = tt
  has_failed (InitFailed n) refused all = started_fails n refused.1 all

  -- where the machine begins, no callback failed
  pub started_right : (t : State) → first_state p tree cpus ≡ Ok t → NoneFails (start_calls p tree cpus)
  started_right t e = none_fails (start_calls p tree cpus) (go (after_init before) refl e)
    where
      go : (r : Result State ℤ) → after_init before ≡ r → all_enabled r ≡ Ok t → AreRight (init_calls before ++ calls_after_init r)
      go (Err x) y z = absurd (cc)
      go (Ok s) y z = right_append (init_calls before) (calls_after_init (Ok s)) (after_init_right before s y) (right_after_init s t z)
