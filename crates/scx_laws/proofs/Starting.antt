-- A machine begins as the rules allow, and in no other way.
use Rattle.std.proofs.Common.{◌≡◌, ℕ, zero, suc, ℤ, ◌<◌, ◌≤◌, Bool, true, false, not, ◌&&◌, ◌||◌, nat_lt, ◌⊎◌, inl, inr, if◌then◌else◌, List, [], ◌++◌, length, Option, Some, None, is_some, Result, Ok, Err, refl, sym, ◌∙◌, ap, arith}
use Rattle.scx_weights.proofs.Counting.{any_below_at}
use Rattle.std.specs.Int.{w64, bit_at, cast_signed}
use Rattle.std.proofs.lemmas.Bool.{cases_eq, cases_lt, eq-eqb, ne_eqb, and_parts, and_from, and_right, and_left, false_from_ne_true, or_right}
use Rattle.std.proofs.lemmas.Bool.Decides.{nat_tests}
use Rattle.scx_weights.specs.Counting.{any_below}
use Rattle.scx_weights.specs.Hierarchy.{Hierarchy, is_active_task, own_weight, mask_of, is_in_mask}
use Rattle.scx_isa_semantics.specs.declared.callbacks.Callback.{Callback}
use Rattle.scx_isa_semantics.specs.declared.callbacks.Callback.TheVariants as callback
use Rattle.scx_isa_semantics.specs.Endings.{Ending}
use Rattle.scx_vm.specs.Programs.{VerifiedProgram}
use Rattle.scx_vm.specs.declared.arguments.Args.{Args}
use Rattle.scx_sched_world.specs.declared.faults.Fault.{Fault}
use Rattle.scx_sched_world.specs.declared.eject.Cause.{Cause}
use Rattle.scx_sched_world.specs.declared.eject.Cause.TheVariants as reason
use Rattle.scx_sched_world.specs.World.{WorldState, at_callback}
use Rattle.scx_sched_policy.specs.Policy.{program_of}
use Rattle.scx_sched_machine.specs.Steps.{State, CallMade, is_by_linux}
use Rattle.scx_sched_machine.specs.Callbacks.{acting, after_callback, AreAnswered, no_arguments, one_task, task_and_number, two_numbers}
use Rattle.scx_sched_machine.specs.Start.{is_nowhere, is_bad_shape, fault_answer, blank, init_ending, bad_answer, ok_unless, after_init, begin_ending, failure, begin_with, has_by_linux, begin_by_linux, enable, then_weigh, then_enable, after_enables, then_idle, after_idles, unmarked, all_idle, then_all_idle, all_enabled, init_calls, begin_calls, begin_calls_by_linux, weigh_calls, enable_calls, calls_below, idle_calls, idle_calls_below, calls_after_enables, calls_after_init}
use Rattle.scx_laws.specs.Starts.{IsNowhere, HasBadShape, NoCpu, ManyCpus, Active, Nowhere, FailsBy, HasFault, HasExit, HasStuck, Judged, FailsFirst, Refuses, Accepts, Initializes, Passes, Fails, Answers, Calls, CallsByLinux, NotByPlain, IsNotThere, IsCalledFor, Enables, NotEnabled, IsEnabled, EnablesAll, Nobody, Failed, Next, TellsIdleAll, NoneTold, HasFailed, NextTold, AllAreIdle, NobodyHears, IdleFails, IdleTold, BeginsFrom, InitFails, EnableFails, Succeeds}
use Rattle.scx_laws.specs.Differences.{HearsIdle, HasUpdateIdle}
use Rattle.scx_laws.specs.Allowing.{RulesAllowStarts, RulesAllowStartsOnly, RulesRefuseShapes, RulesRefuseShapesOnly}
use Rattle.scx_laws.proofs.Differing.{below, past, not_so}
use Rattle.scx_laws.proofs.Readers.{some_below}
use Rattle.scx_laws.proofs.Homing.{is_blank, only_blank}
use Rattle.scx_laws.proofs.Calling.{only_ends, ends_as, answered_first, answered_second}

-- ---- shapes

-- a task of a bad shape
abbrev is_bad_one : Hierarchy → ℕ → ℕ → Bool
is_bad_one tree cpus t = is_active_task tree t || is_nowhere tree cpus t

nowhere_is : (tree : Hierarchy) (cpus t : ℕ) → is_nowhere tree cpus t ≡ true → IsNowhere tree cpus t
nowhere_is tree cpus t e =
    let x = and_parts (nat_lt 0 (length tree.masks)) (not (any_below cpus (is_in_mask tree t))) e in
    record { some = grind (arith, nat_tests, x.0); outside = λ c l h. not_so (not (any_below cpus (is_in_mask tree t))) (ap (λ b. not b) (any_below_at cpus c (is_in_mask tree t) l (eq-eqb (bit_at (mask_of tree t) c) 1 h))) x.1 }

nowhere_of : (tree : Hierarchy) (cpus t : ℕ) → IsNowhere tree cpus t → is_nowhere tree cpus t ≡ true
nowhere_of tree cpus t h =
    let l : nat_lt 0 (length tree.masks) ≡ true = grind (arith, nat_tests, h.some) in
    and_from (nat_lt 0 (length tree.masks)) (not (any_below cpus (is_in_mask tree t))) l (ap (λ b. not b) (false_from_ne_true (any_below cpus (is_in_mask tree t)) none))
  where
    none : any_below cpus (is_in_mask tree t) ≡ true → ⊥
    none y = let x = some_below cpus (is_in_mask tree t) y in let k : bit_at (mask_of tree t) x.0 ≡ 1 = grind (arith, nat_tests, x.2) in h.outside x.0 x.1 k

one_bad : (tree : Hierarchy) (cpus t : ℕ) → t < length tree.homes → is_bad_one tree cpus t ≡ true → is_bad_shape tree cpus ≡ true
one_bad tree cpus t l e = rw (any_below_at (length tree.homes) t (λ u. is_bad_one tree cpus u) l e) (all_true (nat_lt cpus 1) (nat_lt 64 cpus))
  where
    all_true : (a b : Bool) → (a || (b || true)) ≡ true
    all_true true b = refl
    all_true false b = or_right b true refl

-- of a bad shape none begins
pub bad_shape : RulesRefuseShapes
bad_shape tree cpus = go (cases_lt cpus 1) (cases_lt 64 cpus)
  where
    either : (t : ℕ) → t < length tree.homes → (a b : Bool) → is_active_task tree t ≡ a → is_nowhere tree cpus t ≡ b → (a || b) ≡ true → HasBadShape tree cpus
    either t l true b x y e = Active t l x
    either t l false true x y e = Nowhere t l (nowhere_is tree cpus t y)
    either t l false false x y e = absurd (cc)

    bad : (t : ℕ) × (t < length tree.homes) × (is_bad_one tree cpus t ≡ true) → HasBadShape tree cpus
    bad h = either h.0 h.1 (is_active_task tree h.0) (is_nowhere tree cpus h.0) refl refl h.2

    go : (cpus < 1) ⊎ (1 ≤ cpus) → (64 < cpus) ⊎ (cpus ≤ 64) → (nat_lt cpus 1 || (nat_lt 64 cpus || any_below (length tree.homes) (λ t. is_bad_one tree cpus t))) ≡ true → HasBadShape tree cpus
    go (inl l) h = λ e. NoCpu (omega (arith, l))
    go (inr l) (inl h) = λ e. ManyCpus h
    go (inr l) (inr h) = rw (past cpus 1 l, past 64 cpus h) (λ e. bad (some_below (length tree.homes) (λ t. is_bad_one tree cpus t) e))

-- and only of a bad one none does
pub only_bad_shape : RulesRefuseShapesOnly
only_bad_shape tree cpus (NoCpu k) = rw k refl
only_bad_shape tree cpus (ManyCpus l) = rw (past cpus 1 (omega (arith, l)), below 64 cpus l) refl
only_bad_shape tree cpus (Active t l e) = one_bad tree cpus t l (ap (λ b. b || is_nowhere tree cpus t) e)
only_bad_shape tree cpus (Nowhere t l h) = one_bad tree cpus t l (ap (λ b. is_active_task tree t || b) (nowhere_of tree cpus t h) ∙ or_right (is_active_task tree t) true refl)

-- ---- what fails

-- a computation that looks at the cause and then at the answer
fails_so : (e : Ending WorldState) (g : Option Cause → Option ℕ → Result State ℤ) → ((f : Fault) (a : Option ℕ) → g (Some (reason.Fault f)) a ≡ Err fault_answer) → ((n : ℤ) (a : Option ℕ) → g (Some (reason.Exit n)) a ≡ Err n) → g None None ≡ Err fault_answer → (n : ℤ) → FailsBy e n → Err n ≡ g e.outside.call.cause e.answer
fails_so e g fault exit stuck _ (HasFault f x) = sym (fault f e.answer) ∙ ap (λ o. g o e.answer) (sym x)
fails_so e g fault exit stuck _ (HasExit n x) = sym (exit n e.answer) ∙ ap (λ o. g o e.answer) (sym x)
fails_so e g fault exit stuck _ (HasStuck x y) = sym stuck ∙ ap (λ a. g None a) (sym y) ∙ ap (λ o. g o e.answer) (sym x)

-- ---- init

abbrev judged_as : State → Ending WorldState → Option Cause → Option ℕ → Result State ℤ
judged_as s e f a = ok_unless (bad_answer f a) (after_callback s.policy e)

judged : (s : State) (e : Ending WorldState) → Judged s e (judged_as s e e.outside.call.cause e.answer)
judged s e = go e.outside.call.cause refl e.answer refl
  where
    answered : (n : ℕ) → e.outside.call.cause ≡ None → e.answer ≡ Some n → (n ≡ 0) ⊎ (n ≡ 0 → ⊥) → Judged s e (judged_as s e None (Some n))
    answered n x y (inl z) = rw (eq-eqb n 0 z) (Accepts x (y ∙ ap (λ m. Some m) z) refl)
    answered n x y (inr d) = rw (ne_eqb n 0 d) (Refuses n x y (omega (arith, d)) refl)

    go : (f : Option Cause) → e.outside.call.cause ≡ f → (a : Option ℕ) → e.answer ≡ a → Judged s e (judged_as s e f a)
    go (Some (reason.Fault f)) x a y = FailsFirst fault_answer (HasFault f x) refl
    go (Some (reason.Exit n)) x a y = FailsFirst n (HasExit n x) refl
    go None x None y = FailsFirst fault_answer (HasStuck x y) refl
    go None x (Some n) y = answered n x y (cases_eq n 0)

refused_as : (s : State) (e : Ending WorldState) (n : ℕ) → 0 < n → judged_as s e None (Some n) ≡ Err (cast_signed w64 n)
refused_as s e n l = rw (ne_eqb n 0 (λ z. omega (arith, l, z))) refl

only_judged : (s : State) (e : Ending WorldState) (r : Result State ℤ) → Judged s e r → r ≡ judged_as s e e.outside.call.cause e.answer
only_judged s e r (FailsFirst n h k) = k ∙ fails_so e (λ o a. judged_as s e o a) (λ f a. refl) (λ x a. refl) refl n h
only_judged s e r (Refuses n x y l k) = k ∙ sym (refused_as s e n l) ∙ ap (λ a. judged_as s e None a) (sym y) ∙ ap (λ o. judged_as s e o e.answer) (sym x)
only_judged s e r (Accepts x y k) = k ∙ ap (λ a. judged_as s e None a) (sym y) ∙ ap (λ o. judged_as s e o e.answer) (sym x)

initializes : (s : State) → AreAnswered (init_calls s) → Initializes s (after_init s)
unfolding after_init
initializes s all = record {
  ending = init_ending s;
  ends = ends_as (acting s callback.Init) callback.Init no_arguments s.maps (at_callback s.world callback.Init 0 0) all;
  judged = judged s (init_ending s);
}

only_initializes : (s : State) (r : Result State ℤ) → Initializes s r → r ≡ after_init s
unfolding after_init
only_initializes s r h =
    only_judged s h.ending r h.judged
    ∙ ap (λ (e : Ending WorldState). ok_unless (bad_answer e.outside.call.cause e.answer) (after_callback s.policy e))
    (only_ends (acting s callback.Init) callback.Init no_arguments s.maps (at_callback s.world callback.Init 0 0) h.ending h.ends)

-- ---- callbacks that answer nothing

abbrev passed_as : State → Ending WorldState → Option Cause → Option ℕ → Result State ℤ
passed_as s e f a = ok_unless (failure f a) (after_callback s.policy e)

abbrev passed : State → Ending WorldState → Result State ℤ
passed s e = passed_as s e e.outside.call.cause e.answer

passes : (s : State) (e : Ending WorldState) → Passes s e (passed s e)
passes s e = go e.outside.call.cause refl e.answer refl
  where
    go : (f : Option Cause) → e.outside.call.cause ≡ f → (a : Option ℕ) → e.answer ≡ a → Passes s e (passed_as s e f a)
    go (Some (reason.Fault f)) x a y = Fails fault_answer (HasFault f x) refl
    go (Some (reason.Exit n)) x a y = Fails n (HasExit n x) refl
    go None x None y = Fails fault_answer (HasStuck x y) refl
    go None x (Some n) y = Answers n x y refl

only_passes : (s : State) (e : Ending WorldState) (r : Result State ℤ) → Passes s e r → r ≡ passed s e
only_passes s e r (Fails n h k) = k ∙ fails_so e (λ o a. passed_as s e o a) (λ f a. refl) (λ x a. refl) refl n h
only_passes s e r (Answers n x y k) = k ∙ ap (λ a. passed_as s e None a) (sym y) ∙ ap (λ o. passed_as s e o e.answer) (sym x)

calls : (s : State) (b : Callback) (a : Args) (t c : ℕ) → AreAnswered (begin_calls s b a t c) → Calls s b a t c (begin_with s b a t c)
unfolding begin_with
calls s b a t c all = record { ending = begin_ending s b a t c; ends = ends_as (acting s b) b a s.maps (at_callback s.world b t c) all; passes = passes s (begin_ending s b a t c) }

only_calls : (s : State) (b : Callback) (a : Args) (t c : ℕ) (r : Result State ℤ) → Calls s b a t c r → r ≡ begin_with s b a t c
unfolding begin_with
only_calls s b a t c r h = only_passes s h.ending r h.passes ∙ ap (λ e. passed s e) (only_ends (acting s b) b a s.maps (at_callback s.world b t c) h.ending h.ends)

abbrev called_as : State → Callback → Args → ℕ → ℕ → Bool → Result State ℤ
called_as s b a t c x = if x then begin_with s b a t c else Ok s

abbrev calls_as : State → Callback → Args → ℕ → ℕ → Bool → List CallMade
calls_as s b a t c x = if x then begin_calls s b a t c else []

calls_by_linux : (s : State) (b : Callback) (a : Args) (t c : ℕ) → AreAnswered (begin_calls_by_linux s b a t c) → CallsByLinux s b a t c (begin_by_linux s b a t c)
unfolding begin_by_linux
calls_by_linux s b a t c = go (is_by_linux s) refl (program_of s.policy b) refl
  where
    go : (x : Bool) → is_by_linux s ≡ x → (o : Option VerifiedProgram) → program_of s.policy b ≡ o → AreAnswered (calls_as s b a t c (x && is_some o)) → CallsByLinux s b a t c (called_as s b a t c (x && is_some o))
    go false e o k all = NotByPlain e refl
    go true e None k all = IsNotThere k refl
    go true e (Some p) k all = IsCalledFor p e k (calls s b a t c all)

only_calls_by_linux : (s : State) (b : Callback) (a : Args) (t c : ℕ) (r : Result State ℤ) → CallsByLinux s b a t c r → r ≡ begin_by_linux s b a t c
unfolding begin_by_linux
only_calls_by_linux s b a t c r (NotByPlain e k) = k ∙ ap (λ x. called_as s b a t c x) (sym (and_left (is_by_linux s) (is_some (program_of s.policy b)) e))
only_calls_by_linux s b a t c r (IsNotThere e k) = k ∙ ap (λ x. called_as s b a t c x) (sym (and_right (is_by_linux s) (is_some (program_of s.policy b)) (ap (λ o. is_some o) e)))
only_calls_by_linux s b a t c r (IsCalledFor p e k h) =
    only_calls s b a t c r h ∙ ap (λ x. called_as s b a t c x) (sym (and_from (is_by_linux s) (is_some (program_of s.policy b)) e (ap (λ o. is_some o) k)))

-- ---- each task

abbrev weight_of : State → ℕ → Args
weight_of s t = task_and_number t (own_weight s.world.tree t)

enables : (s : State) (t : ℕ) → AreAnswered (enable_calls (Ok s) t) → Enables s t (then_enable (Ok s) t)
enables s t all =
    go (enable s t) (calls s callback.Enable (one_task t) t 0 (answered_first (begin_calls s callback.Enable (one_task t) t 0) (weigh_calls (enable s t) t) all))
    (answered_second (begin_calls s callback.Enable (one_task t) t 0) (weigh_calls (enable s t) t) all)
  where
    go : (o : Result State ℤ) → Calls s callback.Enable (one_task t) t 0 o → AreAnswered (weigh_calls o t) → Enables s t (then_weigh o t)
    go (Err n) h a = NotEnabled n h refl
    go (Ok u) h a = IsEnabled u h (calls_by_linux u callback.SetWeight (weight_of u t) t 0 a)

only_enables : (s : State) (t : ℕ) (r : Result State ℤ) → Enables s t r → r ≡ then_enable (Ok s) t
only_enables s t r (NotEnabled n h k) = k ∙ ap (λ o. then_weigh o t) (only_calls s callback.Enable (one_task t) t 0 (Err n) h)
only_enables s t r (IsEnabled u h x) =
    only_calls_by_linux u callback.SetWeight (weight_of u t) t 0 r x ∙ ap (λ o. then_weigh o t) (only_calls s callback.Enable (one_task t) t 0 (Ok u) h)

only_enables_all : (n : ℕ) (s : State) (r : Result State ℤ) → EnablesAll n s r → r ≡ after_enables n s
only_enables_all zero s r (Nobody _ _ k) = k
only_enables_all (suc n) s r (Failed _ _ x _ h k) = k ∙ ap (λ o. then_enable o n) (only_enables_all n s (Err x) h)
only_enables_all (suc n) s r (Next _ _ u _ h x) = only_enables u n r x ∙ ap (λ o. then_enable o n) (only_enables_all n s (Ok u) h)

enables_all : (n : ℕ) (s : State) → AreAnswered (calls_below n s) → EnablesAll n s (after_enables n s)
enables_all zero s all = Nobody s _ refl
enables_all (suc n) s all =
    go (after_enables n s) refl (enables_all n s (answered_first (calls_below n s) (enable_calls (after_enables n s) n) all)) (answered_second (calls_below n s) (enable_calls (after_enables n s) n) all)
  where
    go : (o : Result State ℤ) → after_enables n s ≡ o → EnablesAll n s o → AreAnswered (enable_calls o n) → EnablesAll (suc n) s (then_enable o n)
    go (Err z) x h a = Failed n s z _ h refl
    go (Ok u) x h a = Next n s u _ h (enables u n a)

-- ---- each processor

tells_idle_all : (n : ℕ) (s : State) → AreAnswered (idle_calls_below n s) → TellsIdleAll n s (after_idles n s)
tells_idle_all zero s all = NoneTold s _ refl
tells_idle_all (suc n) s all =
    go (after_idles n s) (tells_idle_all n s (answered_first (idle_calls_below n s) (idle_calls (after_idles n s) n) all)) (answered_second (idle_calls_below n s) (idle_calls (after_idles n s) n) all)
  where
    go : (o : Result State ℤ) → TellsIdleAll n s o → AreAnswered (idle_calls o n) → TellsIdleAll (suc n) s (then_idle o n)
    go (Err z) h a = HasFailed n s z _ h refl
    go (Ok u) h a = NextTold n s u _ h (calls_by_linux u callback.UpdateIdle (two_numbers n 1) 0 n a)

only_tells_idle_all : (n : ℕ) (s : State) (r : Result State ℤ) → TellsIdleAll n s r → r ≡ after_idles n s
only_tells_idle_all zero s r (NoneTold _ _ k) = k
only_tells_idle_all (suc n) s r (HasFailed _ _ x _ h k) = k ∙ ap (λ o. then_idle o n) (only_tells_idle_all n s (Err x) h)
only_tells_idle_all (suc n) s r (NextTold _ _ u _ h x) = only_calls_by_linux u callback.UpdateIdle (two_numbers n 1) 0 n r x ∙ ap (λ o. then_idle o n) (only_tells_idle_all n s (Ok u) h)

abbrev idle_as : State → Bool → Result State ℤ
idle_as s b = if b then unmarked (after_idles (length s.world.cpus) s) else Ok s

abbrev idle_calls_as : State → Bool → List CallMade
idle_calls_as s b = if b then idle_calls_below (length s.world.cpus) s else []

all_idle_is : (s : State) (b : Bool) → has_by_linux s callback.UpdateIdle ≡ b → idle_as s b ≡ all_idle s
all_idle_is s b e = ap (λ k. idle_as s k) (sym e)

heard_is : (s : State) → has_by_linux s callback.UpdateIdle ≡ true → HearsIdle s
heard_is s e = go s.policy.callbacks.update_idle refl (and_parts (is_by_linux s) (is_some s.policy.callbacks.update_idle) e)
  where
    go : (o : Option VerifiedProgram) → s.policy.callbacks.update_idle ≡ o → (is_by_linux s ≡ true) × (is_some s.policy.callbacks.update_idle ≡ true) → HearsIdle s
    go None k h = absurd (not_so (is_some s.policy.callbacks.update_idle) (ap (λ o. is_some o) k) h.1)
    go (Some p) k h = HasUpdateIdle p h.0 k

heard_of : (s : State) → HearsIdle s → has_by_linux s callback.UpdateIdle ≡ true
heard_of s (HasUpdateIdle p e k) = and_from (is_by_linux s) (is_some s.policy.callbacks.update_idle) e (ap (λ o. is_some o) k)

all_are_idle : (s : State) → AreAnswered (calls_after_enables (Ok s)) → AllAreIdle s (all_idle s)
all_are_idle s = go (has_by_linux s callback.UpdateIdle) refl
  where
    told : HearsIdle s → (o : Result State ℤ) → TellsIdleAll (length s.world.cpus) s o → AllAreIdle s (unmarked o)
    told h (Err n) t = IdleFails n h t refl
    told h (Ok u) t = IdleTold u h t refl

    go : (b : Bool) → has_by_linux s callback.UpdateIdle ≡ b → AreAnswered (idle_calls_as s b) → AllAreIdle s (idle_as s b)
    go false e all = NobodyHears (λ h. not_so (has_by_linux s callback.UpdateIdle) e (heard_of s h)) refl
    go true e all = told (heard_is s e) (after_idles (length s.world.cpus) s) (tells_idle_all (length s.world.cpus) s all)

only_all_are_idle : (s : State) (r : Result State ℤ) → AllAreIdle s r → r ≡ all_idle s
only_all_are_idle s r (NobodyHears n k) = k ∙ all_idle_is s false (false_from_ne_true (has_by_linux s callback.UpdateIdle) (λ e. n (heard_is s e)))
only_all_are_idle s r (IdleFails n h t k) = k ∙ ap (λ o. unmarked o) (only_tells_idle_all (length s.world.cpus) s (Err n) t) ∙ all_idle_is s true (heard_of s h)
only_all_are_idle s r (IdleTold u h t k) = k ∙ ap (λ o. unmarked o) (only_tells_idle_all (length s.world.cpus) s (Ok u) t) ∙ all_idle_is s true (heard_of s h)

-- ---- all of it

begins_from : (b : State) → AreAnswered (init_calls b ++ calls_after_init (after_init b)) → BeginsFrom b (all_enabled (after_init b))
begins_from b all = from (after_init b) refl (initializes b (answered_first (init_calls b) (calls_after_init (after_init b)) all)) (answered_second (init_calls b) (calls_after_init (after_init b)) all)
  where
    rest : (s : State) → Initializes b (Ok s) → (o : Result State ℤ) → EnablesAll (length s.world.tasks) s o → AreAnswered (calls_after_enables o) → BeginsFrom b (then_all_idle o)
    rest s i (Err n) h a = EnableFails s n i h refl
    rest s i (Ok u) h a = Succeeds s u i h (all_are_idle u a)

    from : (r : Result State ℤ) → after_init b ≡ r → Initializes b r → AreAnswered (calls_after_init r) → BeginsFrom b (all_enabled r)
    from (Err n) x i a = InitFails n i refl
    from (Ok s) x i a =
        let xs = calls_below (length s.world.tasks) s in
        let ys = calls_after_enables (after_enables (length s.world.tasks) s) in
        rest s i (after_enables (length s.world.tasks) s) (enables_all (length s.world.tasks) s (answered_first xs ys a)) (answered_second xs ys a)

only_begins_from : (b : State) (r : Result State ℤ) → BeginsFrom b r → r ≡ all_enabled (after_init b)
only_begins_from b r (InitFails n i k) = k ∙ ap (λ x. all_enabled x) (only_initializes b (Err n) i)
only_begins_from b r (EnableFails s n i h k) = k ∙ ap (λ x. then_all_idle x) (only_enables_all (length s.world.tasks) s (Err n) h) ∙ ap (λ x. all_enabled x) (only_initializes b (Ok s) i)
only_begins_from b r (Succeeds s u i h x) =
    only_all_are_idle u r x ∙ ap (λ y. then_all_idle y) (only_enables_all (length s.world.tasks) s (Ok u) h) ∙ ap (λ y. all_enabled y) (only_initializes b (Ok s) i)

-- a machine begins as it is computed
pub begins : RulesAllowStarts
begins p tree cpus all = record { before = blank p tree cpus; is_blank = is_blank p tree cpus; from = begins_from (blank p tree cpus) all }

-- and in no other way
pub only_begins : RulesAllowStartsOnly
only_begins p tree cpus r h = only_begins_from h.before r h.from ∙ ap (λ b. all_enabled (after_init b)) (only_blank p tree cpus h.before h.is_blank)
