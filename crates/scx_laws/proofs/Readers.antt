-- Helpers of Linux rules that read, choose or end a policy: what they answer and leave is allowed, and nothing else is.
use Rattle.std.proofs.Common.{◌≡◌, ℕ, zero, suc, ◌<◌, ◌≤◌, Bool, true, false, ◌==◌, ◌+◌, ◌*◌, ◌/◌, ◌%◌, ◌^◌, nat_lt, nat_le, ◌⊎◌, inl, inr, if◌then◌else◌, List, length, Option, Some, None, refl, sym, ◌∙◌, ap, subst, arith}
use Rattle.scx_sched.proofs.Events.{is_task}
use Rattle.scx_weights.proofs.Counting.{any_below_at}
use Rattle.std.specs.Int.{w64, bit_at, cast_signed}
use Rattle.std.proofs.lemmas.Nat.{div-add-mod'}
use Rattle.std.proofs.lemmas.Bool.Decides.{nat_tests}
use Rattle.std.proofs.lemmas.Bool.{cases_lt, eq-eqb, and_parts, and_from, and_right, or_cases, false_from_ne_true}
use Rattle.scx_weights.specs.Counting.{any_below}
use Rattle.scx_dsq.specs.Queues.{exists, front_of}
use Rattle.scx_dsq.specs.Laws.{one_if}
use Rattle.scx_isa_semantics.specs.declared.host_tables.Helper.{Helper}
use Rattle.scx_isa_semantics.specs.declared.host_tables.Helper.TheVariants.{SmpProcessorId, Exit, CpuCurr, DsqPeek, TaskRunning, TaskCpu, PickIdle, ClaimIdle, PrandomU32, MayRun}
use Rattle.scx_vm.specs.declared.arguments.Arg.{Arg}
use Rattle.scx_vm.specs.declared.arguments.Answer.{Answer}
use Rattle.scx_vm.specs.declared.arguments.Answer.TheVariants.{Num}
use Rattle.scx_sched_world.specs.declared.eject.Cause.TheVariants as reason
use Rattle.scx_sched_world.specs.declared.faults.Fault.{Fault}
use Rattle.scx_sched_world.specs.declared.faults.Fault.TheVariants.{NoSuchQueue, NoSuchCpu, UnknownFlag, IdleUntracked}
use Rattle.scx_sched_world.specs.Ids.{policy_end}
use Rattle.scx_sched_world.specs.World.{WorldState, is_this, is_free, is_current, current, here, this_if, may_run, after_claim, with_random}
use Rattle.scx_sched_world.specs.Helpers.{with_fault, given_number, given_task, is_there, or_fault, unless_fault, fault_or, ask_fault, pick_fault, task_or_null, is_current_one, cpu_of_task, may_run_there, next_random, random_answer, after_random, is_free_in, first_free_in, pick_answer_by, after_pick_by, helper_answer, helper_after}
use Rattle.scx_laws.specs.Differences.{IsCurrent}
use Rattle.scx_laws.specs.Helpers.{IsPolicyQueue, JudgesAsk, JudgesPick, TellsCurrent, IsOn, IsOnNone, GivenNone, TellsHome, OfTheTask, OfNoTask, TellsAllowed, MayThere, MayNotThere, NoOneMay, Draws, IsFreeIn, PicksFrom, PicksLowest, PicksNone, ClaimsThis, WasFree, WasTaken, IsEffect, Done, NamesTask, Wrong}
use Rattle.scx_laws.proofs.BindingTasks.{none_below, is_lowest, lowest_from, none_from, allowed_is, allowed_of, outside_is, outside_of}
use Rattle.scx_laws.proofs.PickingIdle.{free_is, free_of, past_end, free_within, claims, only_claims}
use Rattle.scx_laws.proofs.Differing.{not_so, current_is, only_current, is_here, only_here}
use Rattle.scx_laws.proofs.Ejecting.{blames, only_blames}

-- ---- tests as facts

-- a test that passes for one of the first numbers
pub some_below : (n : ℕ) (test : ℕ → Bool) → any_below n test ≡ true → (t : ℕ) × (t < n) × (test t ≡ true)
some_below zero test e = absurd (cc)
some_below (suc n) test e = go (λ x. some_below n test x) (or_cases (any_below n test) (test n) e)
  where
    go : (any_below n test ≡ true → (t : ℕ) × (t < n) × (test t ≡ true)) → (any_below n test ≡ true) ⊎ (test n ≡ true) → (t : ℕ) × (t < suc n) × (test t ≡ true)
    go f (inl x) = let h = f x in (h.0, omega (arith, h.1), h.2)
    go f (inr x) = (n, omega (arith), x)

-- the given one passes
pub this_of : (c : ℕ) (o : Option ℕ) → o ≡ Some c → is_this c o ≡ true
this_of c o e = ap (λ x. is_this c x) e ∙ eq-eqb c c refl

-- a queue that is found is one of the policy
pub there_is : (w : WorldState) (q : ℕ) → is_there w q ≡ true → IsPolicyQueue w q
there_is w q e = let x = and_parts (nat_lt q policy_end) (exists w.queues q) e in (grind (arith, nat_tests, x.0), x.1)

-- one of the policy is found
pub is_there_of : (w : WorldState) (q : ℕ) → IsPolicyQueue w q → is_there w q ≡ true
is_there_of w q h = let l : nat_lt q policy_end ≡ true = grind (arith, nat_tests, h.0) in rw (l, h.1) refl

-- a fault is no absence of one
pub some_fault : (f : Fault) → ◌≡◌ {A = Option Fault} (Some f) None → ⊥
some_fault f e = absurd (cc)

abbrev pub Is-effect : WorldState → Helper → List Arg → Type 0
Is-effect w h a = IsEffect w h a (helper_answer w h a) (helper_after w h a)

abbrev pub Is-this : WorldState → Helper → List Arg → Answer → WorldState → Type 0
Is-this w h a x v = (x ≡ helper_answer w h a) × (v ≡ helper_after w h a)

-- ---- the processor at hand, and an end of the policy's own

pub here_allowed : (w : WorldState) (a : List Arg) → Is-effect w SmpProcessorId a
here_allowed w a = Done (here w) refl (is_here w, refl) refl

pub only_here_so : (w : WorldState) (a : List Arg) (x : Answer) (v : WorldState) → IsEffect w SmpProcessorId a x v → Is-this w SmpProcessorId a x v
only_here_so w a x v (Done n j d e) = (e ∙ ap Num (only_here w n d.0), d.1)
only_here_so w a x v (NamesTask o j m e k) = absurd m
only_here_so w a x v (Wrong f j e k) = absurd (some_fault f j)

pub exit_allowed : (w : WorldState) (a : List Arg) → Is-effect w Exit a
exit_allowed w a = Done 0 refl (refl, blames w (reason.Exit (cast_signed w64 (given_number a 0)))) refl

pub only_exit : (w : WorldState) (a : List Arg) (x : Answer) (v : WorldState) → IsEffect w Exit a x v → Is-this w Exit a x v
only_exit w a x v (Done n j d e) = (e ∙ ap Num d.0, only_blames w (reason.Exit (cast_signed w64 (given_number a 0))) v d.1)
only_exit w a x v (NamesTask o j m e k) = absurd m
only_exit w a x v (Wrong f j e k) = absurd (some_fault f j)

-- ---- who is where

pub current_allowed : (w : WorldState) (a : List Arg) → Is-effect w CpuCurr a
current_allowed w a = go (nat_lt c (length w.cpus)) refl
  where
    c : ℕ
    c = given_number a 0

    go : (b : Bool) → nat_lt c (length w.cpus) ≡ b → IsEffect w CpuCurr a (if b then task_or_null (current w c) else Num 0) (if b then w else with_fault w NoSuchCpu)
    go true e = NamesTask (current w c) (grind (arith, nat_tests, e)) (current_is w c) refl refl
    go false e = Wrong NoSuchCpu (grind (arith, nat_tests, e)) refl (blames w (reason.Fault NoSuchCpu))

pub only_current_so : (w : WorldState) (a : List Arg) (x : Answer) (v : WorldState) → IsEffect w CpuCurr a x v → Is-this w CpuCurr a x v
only_current_so w a x v (Done n j d e) = absurd d
only_current_so w a x v (NamesTask o j m e k) =
    let l : nat_lt (given_number a 0) (length w.cpus) ≡ true = grind (arith, nat_tests, j) in
    rw l (e ∙ ap (λ y. task_or_null y) (only_current w (given_number a 0) o m), k)
only_current_so w a x v (Wrong NoSuchCpu j e k) =
    let l : nat_lt (given_number a 0) (length w.cpus) ≡ false = grind (arith, nat_tests, j) in
    rw l (e, only_blames w (reason.Fault NoSuchCpu) v k)
only_current_so w a x v (Wrong f j e k) = absurd j

pub peek_allowed : (w : WorldState) (a : List Arg) → Is-effect w DsqPeek a
peek_allowed w a = go (is_there w q) refl
  where
    q : ℕ
    q = given_number a 0

    go : (b : Bool) → is_there w q ≡ b → IsEffect w DsqPeek a (if b then task_or_null (front_of w.queues q) else Num 0) (if b then w else with_fault w NoSuchQueue)
    go true e = NamesTask (front_of w.queues q) (there_is w q e) refl refl refl
    go false e = Wrong NoSuchQueue (λ h. not_so (is_there w q) e (is_there_of w q h)) refl (blames w (reason.Fault NoSuchQueue))

pub only_peek : (w : WorldState) (a : List Arg) (x : Answer) (v : WorldState) → IsEffect w DsqPeek a x v → Is-this w DsqPeek a x v
only_peek w a x v (Done n j d e) = absurd d
only_peek w a x v (NamesTask o j m e k) = rw (is_there_of w (given_number a 0) j) (e ∙ ap (λ y. task_or_null y) m, k)
only_peek w a x v (Wrong NoSuchQueue j e k) =
    let b = false_from_ne_true (is_there w (given_number a 0)) (λ y. j (there_is w (given_number a 0) y)) in
    rw b (e, only_blames w (reason.Fault NoSuchQueue) v k)
only_peek w a x v (Wrong f j e k) = absurd j

on_is : (w : WorldState) (t c : ℕ) → is_this t (current w c) ≡ true → IsCurrent w c (Some t)
on_is w t c e = subst (λ o. IsCurrent w c o) (is_task t (current w c) e) (current_is w c)

tells_current : (w : WorldState) (o : Option ℕ) → TellsCurrent w o (one_if (is_current_one w o))
tells_current w None = GivenNone refl refl
tells_current w (Some t) = go (is_current w t) refl
  where
    test : ℕ → Bool
    test c = is_this t (current w c)

    go : (b : Bool) → is_current w t ≡ b → TellsCurrent w (Some t) (one_if b)
    go true e = let h = some_below (length w.cpus) (λ c. is_this t (current w c)) e in IsOn t h.0 refl h.1 (on_is w t h.0 h.2) refl
    go false e =
        IsOnNone t refl (λ c l h. not_so (is_current w t) e (any_below_at (length w.cpus) c (λ d. is_this t (current w d)) l (this_of t (current w c) (sym (only_current w c (Some t) h))))) refl

only_tells_current : (w : WorldState) (o : Option ℕ) (n : ℕ) → TellsCurrent w o n → n ≡ one_if (is_current_one w o)
only_tells_current w o n (IsOn t c e l h k) =
    k ∙ ap one_if (sym (any_below_at (length w.cpus) c (λ d. is_this t (current w d)) l (this_of t (current w c) (sym (only_current w c (Some t) h))))) ∙ ap (λ y. one_if (is_current_one w y)) (sym e)
only_tells_current w o n (IsOnNone t e none k) = k ∙ ap one_if (sym (false_from_ne_true (is_current w t) nowhere)) ∙ ap (λ y. one_if (is_current_one w y)) (sym e)
  where
    nowhere : is_current w t ≡ true → ⊥
    nowhere x = let h = some_below (length w.cpus) (λ c. is_this t (current w c)) x in none h.0 h.1 (on_is w t h.0 h.2)
only_tells_current w o n (GivenNone e k) = k ∙ ap (λ y. one_if (is_current_one w y)) (sym e)

pub running_allowed : (w : WorldState) (a : List Arg) → Is-effect w TaskRunning a
running_allowed w a = Done (one_if (is_current_one w (given_task a 0))) refl (tells_current w (given_task a 0), refl) refl

pub only_running : (w : WorldState) (a : List Arg) (x : Answer) (v : WorldState) → IsEffect w TaskRunning a x v → Is-this w TaskRunning a x v
only_running w a x v (Done n j d e) = (e ∙ ap Num (only_tells_current w (given_task a 0) n d.0), d.1)
only_running w a x v (NamesTask o j m e k) = absurd m
only_running w a x v (Wrong f j e k) = absurd (some_fault f j)

tells_home : (w : WorldState) (o : Option ℕ) → TellsHome w o (cpu_of_task w o)
tells_home w None = OfNoTask refl refl
tells_home w (Some t) = OfTheTask t refl refl

only_tells_home : (w : WorldState) (o : Option ℕ) (n : ℕ) → TellsHome w o n → n ≡ cpu_of_task w o
only_tells_home w o n (OfTheTask t e k) = k ∙ ap (λ y. cpu_of_task w y) (sym e)
only_tells_home w o n (OfNoTask e k) = k ∙ ap (λ y. cpu_of_task w y) (sym e)

pub home_allowed : (w : WorldState) (a : List Arg) → Is-effect w TaskCpu a
home_allowed w a = Done (cpu_of_task w (given_task a 0)) refl (tells_home w (given_task a 0), refl) refl

pub only_home : (w : WorldState) (a : List Arg) (x : Answer) (v : WorldState) → IsEffect w TaskCpu a x v → Is-this w TaskCpu a x v
only_home w a x v (Done n j d e) = (e ∙ ap Num (only_tells_home w (given_task a 0) n d.0), d.1)
only_home w a x v (NamesTask o j m e k) = absurd m
only_home w a x v (Wrong f j e k) = absurd (some_fault f j)

-- ---- where a task may run

tells_allowed : (w : WorldState) (o : Option ℕ) (c : ℕ) → TellsAllowed w o c (one_if (may_run_there w o c))
tells_allowed w None c = NoOneMay refl refl
tells_allowed w (Some t) c = go (may_run w t c) refl
  where
    go : (b : Bool) → may_run w t c ≡ b → TellsAllowed w (Some t) c (one_if b)
    go true e = MayThere t refl (allowed_is w t c e) refl
    go false e = MayNotThere t refl (outside_is w t c e) refl

only_tells_allowed : (w : WorldState) (o : Option ℕ) (c n : ℕ) → TellsAllowed w o c n → n ≡ one_if (may_run_there w o c)
only_tells_allowed w o c n (MayThere t e h k) = k ∙ ap one_if (sym (allowed_of w t c h)) ∙ ap (λ y. one_if (may_run_there w y c)) (sym e)
only_tells_allowed w o c n (MayNotThere t e h k) = k ∙ ap one_if (sym (outside_of w t c h)) ∙ ap (λ y. one_if (may_run_there w y c)) (sym e)
only_tells_allowed w o c n (NoOneMay e k) = k ∙ ap (λ y. one_if (may_run_there w y c)) (sym e)

pub may_allowed : (w : WorldState) (a : List Arg) → Is-effect w MayRun a
may_allowed w a = go (nat_lt c (length w.cpus)) refl
  where
    c : ℕ
    c = given_number a 1

    n : ℕ
    n = one_if (may_run_there w (given_task a 0) (given_number a 1))

    go : (b : Bool) → nat_lt c (length w.cpus) ≡ b → IsEffect w MayRun a (Num (unless_fault (if b then None else Some NoSuchCpu) n)) (if b then w else with_fault w NoSuchCpu)
    go true e = Done n (grind (arith, nat_tests, e)) (tells_allowed w (given_task a 0) (given_number a 1), refl) refl
    go false e = Wrong NoSuchCpu (grind (arith, nat_tests, e)) refl (blames w (reason.Fault NoSuchCpu))

pub only_may : (w : WorldState) (a : List Arg) (x : Answer) (v : WorldState) → IsEffect w MayRun a x v → Is-this w MayRun a x v
only_may w a x v (Done n j d e) =
    let l : nat_lt (given_number a 1) (length w.cpus) ≡ true = grind (arith, nat_tests, j) in
    rw l (e ∙ ap Num (only_tells_allowed w (given_task a 0) (given_number a 1) n d.0), d.1)
only_may w a x v (NamesTask o j m e k) = absurd m
only_may w a x v (Wrong NoSuchCpu j e k) =
    let l : nat_lt (given_number a 1) (length w.cpus) ≡ false = grind (arith, nat_tests, j) in
    rw l (e, only_blames w (reason.Fault NoSuchCpu) v k)
only_may w a x v (Wrong f j e k) = absurd j

-- ---- random numbers

upper : (x n low : ℕ) → x ≡ n * 2 ^ 32 + low → low < 2 ^ 32 → n ≡ x / 2 ^ 32
upper x n low e l = omega (arith, e, l)

draws : (w : WorldState) → Draws w (random_answer w) (after_random w)
draws w = go (next_random w.random) refl
  where
    go : (x : ℕ) → x ≡ next_random w.random → Draws w (x / 2 ^ 32) (with_random w x)
    go x e = record { next = x; follows = e; low = x % 2 ^ 32; halves = omega (arith, div-add-mod' x (2 ^ 32)); short = omega arith; all = refl }

only_draws : (w : WorldState) (n : ℕ) (v : WorldState) → Draws w n v → (n ≡ random_answer w) × (v ≡ after_random w)
only_draws w n v h = (upper h.next n h.low h.halves h.short ∙ ap (λ x. x / 2 ^ 32) h.follows, h.all ∙ ap (λ x. with_random w x) h.follows)

pub random_allowed : (w : WorldState) (a : List Arg) → Is-effect w PrandomU32 a
random_allowed w a = Done (random_answer w) refl (draws w) refl

pub only_random : (w : WorldState) (a : List Arg) (x : Answer) (v : WorldState) → IsEffect w PrandomU32 a x v → Is-this w PrandomU32 a x v
only_random w a x v (Done n j d e) = let h = only_draws w n v d in (e ∙ ap Num h.0, h.1)
only_random w a x v (NamesTask o j m e k) = absurd m
only_random w a x v (Wrong f j e k) = absurd (some_fault f j)

-- ---- a choice from a mask

wanted_is : (w : WorldState) (mask c : ℕ) → is_free_in mask w c ≡ true → IsFreeIn w mask c
wanted_is w mask c e = let x = and_parts (bit_at mask c == 1) (is_free w c) e in record { wanted = grind (arith, nat_tests, x.0); free = free_is w c x.1 }

wanted_of : (w : WorldState) (mask c : ℕ) → IsFreeIn w mask c → is_free_in mask w c ≡ true
wanted_of w mask c h = and_from (bit_at mask c == 1) (is_free w c) (eq-eqb (bit_at mask c) 1 h.wanted) (free_of w c h.free)

unwanted : (w : WorldState) (mask c : ℕ) → is_free_in mask w c ≡ false → ¬ IsFreeIn w mask c
unwanted w mask c e h = not_so (is_free_in mask w c) e (wanted_of w mask c h)

none_wanted : (w : WorldState) (mask : ℕ) → first_free_in mask w ≡ None → (c : ℕ) → is_free_in mask w c ≡ false
none_wanted w mask e c = go (cases_lt c (length w.cpus))
  where
    go : (c < length w.cpus) ⊎ (length w.cpus ≤ c) → is_free_in mask w c ≡ false
    go (inl l) = none_below (length w.cpus) (is_free_in mask w) e c l
    go (inr past) = and_right (bit_at mask c == 1) (is_free w c) (past_end w c past)

picks : (w : WorldState) (mask : ℕ) → PicksFrom w mask (pick_answer_by None (first_free_in mask w)) (after_claim w (first_free_in mask w))
picks w mask = go (first_free_in mask w) refl
  where
    go : (o : Option ℕ) → first_free_in mask w ≡ o → PicksFrom w mask (pick_answer_by None o) (after_claim w o)
    go (Some c) x = let h = is_lowest (length w.cpus) (is_free_in mask w) c x in PicksLowest (wanted_is w mask c h.passes) (λ d l. unwanted w mask d (h.below d l)) (claims w c)
    go None x = PicksNone (λ d. unwanted w mask d (none_wanted w mask x d)) refl refl

unwanted_of : (w : WorldState) (mask c : ℕ) → ¬ IsFreeIn w mask c → is_free_in mask w c ≡ false
unwanted_of w mask c n = false_from_ne_true (is_free_in mask w c) (λ e. n (wanted_is w mask c e))

first_is : (w : WorldState) (mask c : ℕ) → IsFreeIn w mask c → ((d : ℕ) → d < c → ¬ IsFreeIn w mask d) → first_free_in mask w ≡ Some c
first_is w mask c f below =
    lowest_from (length w.cpus) (is_free_in mask w) c (record { within = free_within w c (free_of w c f.free); passes = wanted_of w mask c f; below = λ d l. unwanted_of w mask d (below d l) })

first_none : (w : WorldState) (mask : ℕ) → ((d : ℕ) → ¬ IsFreeIn w mask d) → first_free_in mask w ≡ None
first_none w mask all = none_from (length w.cpus) (is_free_in mask w) (λ d l. unwanted_of w mask d (all d))

abbrev Picked-so : WorldState → ℕ → ℕ → WorldState → Type 0
Picked-so w mask n v = (n ≡ pick_answer_by None (first_free_in mask w)) × (v ≡ after_claim w (first_free_in mask w))

only_picks : (w : WorldState) (mask n : ℕ) (v : WorldState) → PicksFrom w mask n v → Picked-so w mask n v
only_picks w mask n v (PicksLowest f below c) =
    let x = first_is w mask n f below in
    (ap (λ o. pick_answer_by None o) (sym x), only_claims w n v c ∙ ap (λ o. after_claim w o) (sym x))
only_picks w mask n v (PicksNone all k z) =
    let x = first_none w mask all in
    (k ∙ ap (λ o. pick_answer_by None o) (sym x), z ∙ ap (λ o. after_claim w o) (sym x))

-- where the host tracks which are idle, and what else is wrong
abbrev first_wrong : Bool → Option Fault → Option Fault
first_wrong b o = or_fault (if b then None else Some IdleUntracked) o

abbrev flag_as : Bool → Option Fault
flag_as b = if b then None else Some UnknownFlag

pick_judged : (w : WorldState) (flags : ℕ) → JudgesPick w flags (pick_fault w flags)
pick_judged w flags = go w.tracks_idle refl (nat_le flags 1) refl
  where
    go : (a : Bool) → w.tracks_idle ≡ a → (b : Bool) → nat_le flags 1 ≡ b → JudgesPick w flags (first_wrong a (flag_as b))
    go false e b k = e
    go true e true k = (e, grind (arith, nat_tests, k))
    go true e false k = (e, grind (arith, nat_tests, k))

pick_from : (w : WorldState) (flags : ℕ) (o : Option Fault) → JudgesPick w flags o → pick_fault w flags ≡ o
pick_from w flags None j = let l : nat_le flags 1 ≡ true = grind (arith, nat_tests, j.1) in ap (λ a. first_wrong a (flag_as (nat_le flags 1))) j.0 ∙ ap (λ b. flag_as b) l
pick_from w flags (Some IdleUntracked) j = ap (λ a. first_wrong a (flag_as (nat_le flags 1))) j
pick_from w flags (Some UnknownFlag) j = let l : nat_le flags 1 ≡ false = grind (arith, nat_tests, j.1) in ap (λ a. first_wrong a (flag_as (nat_le flags 1))) j.0 ∙ ap (λ b. flag_as b) l
pick_from w flags (Some f) j = absurd j

pub pick_allowed : (w : WorldState) (a : List Arg) → Is-effect w PickIdle a
pick_allowed w a = go (pick_fault w flags) (pick_judged w flags)
  where
    flags : ℕ
    flags = given_number a 1

    first : Option ℕ
    first = first_free_in (given_number a 0) w

    go : (o : Option Fault) → JudgesPick w flags o → IsEffect w PickIdle a (Num (pick_answer_by o first)) (after_pick_by o w first)
    go None j = Done (pick_answer_by None first) j (picks w (given_number a 0)) refl
    go (Some f) j = Wrong f j refl (blames w (reason.Fault f))

abbrev picked_so : WorldState → List Arg → Option Fault → Answer
picked_so w a o = Num (pick_answer_by o (first_free_in (given_number a 0) w))

abbrev left_so : WorldState → List Arg → Option Fault → WorldState
left_so w a o = after_pick_by o w (first_free_in (given_number a 0) w)

pub only_pick : (w : WorldState) (a : List Arg) (x : Answer) (v : WorldState) → IsEffect w PickIdle a x v → Is-this w PickIdle a x v
only_pick w a x v (Done n j d e) =
    let y = pick_from w (given_number a 1) None j in
    let h = only_picks w (given_number a 0) n v d in
    (e ∙ ap Num h.0 ∙ ap (λ o. picked_so w a o) (sym y), h.1 ∙ ap (λ o. left_so w a o) (sym y))
only_pick w a x v (NamesTask o j m e k) = absurd m
only_pick w a x v (Wrong f j e k) =
    let y = pick_from w (given_number a 1) (Some f) j in
    (e ∙ ap (λ o. picked_so w a o) (sym y), only_blames w (reason.Fault f) v k ∙ ap (λ o. left_so w a o) (sym y))

-- ---- a claim

claims_this : (w : WorldState) (c : ℕ) → ClaimsThis w c (one_if (is_free w c)) (after_claim w (this_if (is_free w c) c))
claims_this w c = go (is_free w c) refl
  where
    go : (b : Bool) → is_free w c ≡ b → ClaimsThis w c (one_if b) (after_claim w (this_if b c))
    go true e = WasFree (free_is w c e) refl (claims w c)
    go false e = WasTaken (λ h. not_so (is_free w c) e (free_of w c h)) refl refl

abbrev Claimed-so : WorldState → ℕ → ℕ → WorldState → Type 0
Claimed-so w c n v = (n ≡ one_if (is_free w c)) × (v ≡ after_claim w (this_if (is_free w c) c))

only_claims_this : (w : WorldState) (c n : ℕ) (v : WorldState) → ClaimsThis w c n v → Claimed-so w c n v
only_claims_this w c n v (WasFree h k z) =
    let x = free_of w c h in
    (k ∙ ap one_if (sym x), only_claims w c v z ∙ ap (λ b. after_claim w (this_if b c)) (sym x))
only_claims_this w c n v (WasTaken h k z) =
    let x = false_from_ne_true (is_free w c) (λ e. h (free_is w c e)) in
    (k ∙ ap one_if (sym x), z ∙ ap (λ b. after_claim w (this_if b c)) (sym x))

abbrev cpu_as : Bool → Option Fault
cpu_as b = if b then None else Some NoSuchCpu

-- a question about an idle processor, and what is wrong with it
pub ask_judged : (w : WorldState) (c : ℕ) → JudgesAsk w c (ask_fault w c)
ask_judged w c = go w.tracks_idle refl (nat_lt c (length w.cpus)) refl
  where
    go : (a : Bool) → w.tracks_idle ≡ a → (b : Bool) → nat_lt c (length w.cpus) ≡ b → JudgesAsk w c (first_wrong a (cpu_as b))
    go false e b k = e
    go true e true k = (e, grind (arith, nat_tests, k))
    go true e false k = (e, grind (arith, nat_tests, k))

-- and nothing else is
pub ask_from : (w : WorldState) (c : ℕ) (o : Option Fault) → JudgesAsk w c o → ask_fault w c ≡ o
ask_from w c None j = let l : nat_lt c (length w.cpus) ≡ true = grind (arith, nat_tests, j.1) in ap (λ a. first_wrong a (cpu_as (nat_lt c (length w.cpus)))) j.0 ∙ ap (λ b. cpu_as b) l
ask_from w c (Some IdleUntracked) j = ap (λ a. first_wrong a (cpu_as (nat_lt c (length w.cpus)))) j
ask_from w c (Some NoSuchCpu) j =
    let l : nat_lt c (length w.cpus) ≡ false = grind (arith, nat_tests, j.1) in ap (λ a. first_wrong a (cpu_as (nat_lt c (length w.cpus)))) j.0 ∙ ap (λ b. cpu_as b) l
ask_from w c (Some f) j = absurd j

abbrev answered_so : WorldState → ℕ → Option Fault → Answer
answered_so w c o = Num (unless_fault o (one_if (is_free w c)))

abbrev claimed_so : WorldState → ℕ → Option Fault → WorldState
claimed_so w c o = fault_or w o (after_claim w (this_if (is_free w c) c))

pub claim_allowed : (w : WorldState) (a : List Arg) → Is-effect w ClaimIdle a
claim_allowed w a = go (ask_fault w c) (ask_judged w c)
  where
    c : ℕ
    c = given_number a 0

    go : (o : Option Fault) → JudgesAsk w c o → IsEffect w ClaimIdle a (answered_so w c o) (claimed_so w c o)
    go None j = Done (one_if (is_free w c)) j (claims_this w c) refl
    go (Some f) j = Wrong f j refl (blames w (reason.Fault f))

pub only_claim : (w : WorldState) (a : List Arg) (x : Answer) (v : WorldState) → IsEffect w ClaimIdle a x v → Is-this w ClaimIdle a x v
only_claim w a x v (Done n j d e) =
    let y = ask_from w (given_number a 0) None j in
    let h = only_claims_this w (given_number a 0) n v d in
    (e ∙ ap Num h.0 ∙ ap (λ o. answered_so w (given_number a 0) o) (sym y), h.1 ∙ ap (λ o. claimed_so w (given_number a 0) o) (sym y))
only_claim w a x v (NamesTask o j m e k) = absurd m
only_claim w a x v (Wrong f j e k) =
    let y = ask_from w (given_number a 0) (Some f) j in
    (e ∙ ap (λ o. answered_so w (given_number a 0) o) (sym y), only_blames w (reason.Fault f) v k ∙ ap (λ o. claimed_so w (given_number a 0) o) (sym y))
