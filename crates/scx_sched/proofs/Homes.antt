-- Where bound tasks begin: on the lowest processor on which each may run.
use Rattle.std.proofs.Common.{◌≡◌, ℕ, zero, suc, ◌<◌, Bool, true, false, length, Option, Some, None, unwrap_or, refl, ap, arith, ◌≤◌, ◌&&◌, ◌||◌, not, ◌⊎◌, inl, inr, if◌then◌else◌, List, set, get_or, sym, ◌∙◌, nat_lt}
use Rattle.scx_weights.specs.Hierarchy as tree
use Rattle.scx_weights.specs.Hierarchy.{is_in_mask, Hierarchy}
use Rattle.scx_sched_world.specs.World.{WorldState, with_task, task_at, or_this, this_if, binds, lowest_below, lowest_cpu, first_home, are_linux, may_run, is_free_for, free_choice, choice, default_choice}
use Rattle.scx_sched_world.specs.Tasks.{with_home}
use Rattle.scx_sched_world.specs.First.{with_homes_below, at_first_homes}
use Rattle.scx_sched_machine.proofs.Choices.{keeps_if}
use Rattle.std.proofs.lemmas.Bool.{cases_eq, and_parts}
use Rattle.std.proofs.lemmas.List.{length-set, get_or-set_same, get_or-set_other}
use Rattle.scx_weights.specs.Counting.{any_below}
use Rattle.scx_isa_semantics.specs.declared.rules.Rules.{Rules}
use Rattle.scx_sched_tasks.specs.declared.task.Task.{Task}
use Rattle.scx_sched_tasks.specs.Tasks.{no_task}
use Rattle.scx_vm.specs.Programs.{VerifiedProgram}
use Rattle.scx_sched_machine.specs.Events.{cpu_or_home, target}
use Rattle.scx_sched_machine.proofs.Active.{any_below_at}

-- the lowest processor for which a test holds is there
pub lowest_is_there : (m : ℕ) (p : ℕ → Bool) (c : ℕ) → lowest_below m p ≡ Some c → c < m
lowest_is_there zero p c e = absurd (cc)
lowest_is_there (suc m) p c e = go (lowest_below m p) (λ x. lowest_is_there m p c x) (p m) e
  where
    go : (o : Option ℕ) → (o ≡ Some c → c < m) → (b : Bool) → or_this o (this_if b m) ≡ Some c → c < suc m
    go (Some d) f b x = omega (arith, f x)
    go None f true x = let is : m ≡ c = ap (λ o. unwrap_or o m) x in omega (arith, is)
    go None f false x = absurd (cc)

-- the lowest processor on which a task may run is there
pub home_is_there : (w : WorldState) (t : ℕ) → 0 < length w.cpus → first_home w t < length w.cpus
home_is_there w t some = keeps_if (λ c. c < length w.cpus) (binds w) (unwrap_or (lowest_cpu w (is_in_mask w.tree t)) 0) 0 (go (lowest_cpu w (is_in_mask w.tree t)) refl) some
  where
    go : (o : Option ℕ) → lowest_cpu w (is_in_mask w.tree t) ≡ o → unwrap_or o 0 < length w.cpus
    go None e = some
    go (Some c) e = lowest_is_there (length w.cpus) (is_in_mask w.tree t) c e

-- what stays as the processor of a task changes to one that there is, stays as bound tasks get theirs
pub keeps_homes : (P : WorldState → Type 0) → ((v : WorldState) (t c : ℕ) → (0 < length v.cpus → c < length v.cpus) → P v → P (with_task v t (with_home (task_at v t) c))) → (w : WorldState) → P w → P (at_first_homes w)
keeps_homes P set w h = keeps_if P (binds w) (with_homes_below (length w.tasks) w) w (below (length w.tasks)) h
  where
    below : (n : ℕ) → P (with_homes_below n w)
    below zero = h
    below (suc n) =
        let v = with_homes_below n w in
        set v n (first_home v n) (λ some. home_is_there v n some) (below n)

-- ---- each bound task begins where it may run

-- either no processor passes the test, or the lowest one for which it holds does
lowest_is : (m : ℕ) (p : ℕ → Bool) → ((any_below m p ≡ false) × (lowest_below m p ≡ None)) ⊎ ((c : ℕ) × (lowest_below m p ≡ Some c) × (p c ≡ true))
lowest_is zero p = inl (refl, refl)
lowest_is (suc m) p = go (lowest_is m p) (p m) refl
  where
    go : ((any_below m p ≡ false) × (lowest_below m p ≡ None)) ⊎ ((c : ℕ) × (lowest_below m p ≡ Some c) × (p c ≡ true)) → (b : Bool) → p m ≡ b → ((any_below (suc m) p ≡ false) × (lowest_below (suc m) p ≡ None)) ⊎ ((c : ℕ) × (lowest_below (suc m) p ≡ Some c) × (p c ≡ true))
    go (inl x) true e = inr (m, rw (x.1, e) refl, e)
    go (inl x) false e = inl (rw (x.0, e) refl, rw (x.1, e) refl)
    go (inr x) b e = inr (x.0, rw x.1 refl, x.2)

-- a bound task may run on its first home, if it may run anywhere
first_home_passes : (w : WorldState) (t : ℕ) → binds w ≡ true → any_below (length w.cpus) (is_in_mask w.tree t) ≡ true → is_in_mask w.tree t (first_home w t) ≡ true
first_home_passes w t bound some = go (lowest_is (length w.cpus) (is_in_mask w.tree t))
  where
    here : ℕ → Bool
    here c = is_in_mask w.tree t c

    home : (o : Option ℕ) → lowest_cpu w (is_in_mask w.tree t) ≡ o → first_home w t ≡ unwrap_or o 0
    home o e = ap (λ b. if b then unwrap_or (lowest_cpu w (is_in_mask w.tree t)) 0 else 0) bound ∙ ap (λ x. unwrap_or x 0) e

    go : ((any_below (length w.cpus) (is_in_mask w.tree t) ≡ false) × (lowest_cpu w (is_in_mask w.tree t) ≡ None)) ⊎ ((c : ℕ) × (lowest_cpu w (is_in_mask w.tree t) ≡ Some c) × (is_in_mask w.tree t c ≡ true)) → is_in_mask w.tree t (first_home w t) ≡ true
    go (inl x) = let bad : true ≡ false = sym some ∙ x.0 in absurd (cc)
    go (inr x) = ap here (home (Some x.0) x.1) ∙ x.2

yes_after : (a b : Bool) → b ≡ true → (a || b) ≡ true
yes_after true b e = refl
yes_after false b e = e

-- what stays as the first tasks get their homes
record IsHoused (w v : WorldState) : Type 0 where
  rules : v.rules ≡ w.rules
  tree : v.tree ≡ w.tree
  cpus : v.cpus ≡ w.cpus
  many : length v.tasks ≡ length w.tasks

housed : (n : ℕ) (w : WorldState) → IsHoused w (with_homes_below n w)
housed zero w = record { rules = refl; tree = refl; cpus = refl; many = refl }
housed (suc n) w =
    let v = with_homes_below n w in
    let h = housed n w in
    record { rules = h.rules; tree = h.tree; cpus = h.cpus; many = length-set v.tasks n (with_home (task_at v n) (first_home v n)) ∙ h.many }

-- a home, by the parts of a world that say it
abbrev home_in : Rules → Hierarchy → List (Option ℕ) → ℕ → ℕ
home_in r h on t = if are_linux r && tree.binds h then unwrap_or (lowest_below (length on) (is_in_mask h t)) 0 else 0

same_home : (w v : WorldState) (t : ℕ) → IsHoused w v → first_home v t ≡ first_home w t
same_home w v t h = ap (λ r. home_in r v.tree v.cpus t) h.rules ∙ (ap (λ x. home_in w.rules x v.cpus t) h.tree ∙ ap (λ on. home_in w.rules w.tree on t) h.cpus)

-- the processor of each of them is its first home
home_below : (n : ℕ) (w : WorldState) → n ≤ length w.tasks → (t : ℕ) → t < n → (task_at (with_homes_below n w) t).prev_cpu ≡ first_home w t
home_below zero w most t l = absurd (omega (arith, l))
home_below (suc n) w most t l = go (cases_eq t n) (λ d. home_below n w (omega (arith, most)) t (omega (arith, l, d)))
  where
    v : WorldState
    v = with_homes_below n w

    x : Task
    x = with_home (task_at v n) (first_home v n)

    there : n < length v.tasks
    there = omega (arith, most, (housed n w).many)

    go : (t ≡ n) ⊎ (t ≡ n → ⊥) → ((t ≡ n → ⊥) → (task_at v t).prev_cpu ≡ first_home w t) → (get_or (set v.tasks n x) t no_task).prev_cpu ≡ first_home w t
    go (inl is) before = rw (is, get_or-set_same v.tasks n x no_task there) (same_home w v n (housed n w))
    go (inr d) before = rw (get_or-set_other v.tasks n t x no_task d) (before d)

-- as bound tasks begin where they may run, each may run on its processor
pub homes_allow : (w : WorldState) → ((t : ℕ) → t < length w.tasks → binds w ≡ true → any_below (length w.cpus) (is_in_mask w.tree t) ≡ true) → (t : ℕ) → t < length w.tasks → may_run (at_first_homes w) t (task_at (at_first_homes w) t).prev_cpu ≡ true
homes_allow w somewhere t l = go (binds w) refl
  where
    v : WorldState
    v = with_homes_below (length w.tasks) w

    go : (b : Bool) → binds w ≡ b → may_run (if b then v else w) t (task_at (if b then v else w) t).prev_cpu ≡ true
    go false free = ap (λ b. not b || is_in_mask w.tree t (task_at w t).prev_cpu) free
    go true bound =
        let h = housed (length w.tasks) w in
        let on-home : is_in_mask v.tree t (task_at v t).prev_cpu ≡ true = ap (λ x. is_in_mask x t (task_at v t).prev_cpu) h.tree ∙ (ap (λ c. is_in_mask w.tree t c) (home_below (length w.tasks) w (omega arith) t l) ∙ first_home_passes w t bound (somewhere t l bound)) in
        yes_after (not (binds v)) (is_in_mask v.tree t (task_at v t).prev_cpu) on-home

-- ---- a processor that is chosen

-- where a task may run on a processor that there is, it may on its first home
pub home_may : (w : WorldState) (t c : ℕ) → c < length w.cpus → may_run w t c ≡ true → may_run w t (first_home w t) ≡ true
home_may w t c l may = go (binds w) refl
  where
    here : (b d : Bool) → b ≡ true → (not b || d) ≡ true → d ≡ true
    here true d e x = x
    here false d e x = absurd (cc)

    go : (b : Bool) → binds w ≡ b → may_run w t (first_home w t) ≡ true
    go false free = ap (λ b. not b || is_in_mask w.tree t (first_home w t)) free
    go true bound = yes_after (not (binds w)) (is_in_mask w.tree t (first_home w t)) (first_home_passes w t bound (any_below_at (length w.cpus) c (is_in_mask w.tree t) l (here (binds w) (is_in_mask w.tree t c) bound may)))

-- the processor that the host chooses is one on which the task may run
pub choice_may : (w : WorldState) (t c : ℕ) → choice w t ≡ Some c → may_run w t c ≡ true
choice_may w t c e = tracked w.tracks_idle e
  where
    same : (a b : ℕ) → Some a ≡ Some b → a ≡ b
    same a b x = cc

    lowest : (o : Option ℕ) → lowest_cpu w (is_free_for w t) ≡ o → o ≡ Some c → is_free_for w t c ≡ true
    lowest o is x = by (lowest_is (length w.cpus) (is_free_for w t))
      where
        by : ((any_below (length w.cpus) (is_free_for w t) ≡ false) × (lowest_cpu w (is_free_for w t) ≡ None)) ⊎ ((d : ℕ) × (lowest_cpu w (is_free_for w t) ≡ Some d) × (is_free_for w t d ≡ true)) → is_free_for w t c ≡ true
        by (inl y) = let bad : None ≡ Some c = sym y.1 ∙ (is ∙ x) in absurd (cc)
        by (inr y) = let at : y.0 ≡ c = same y.0 c (sym y.1 ∙ (is ∙ x)) in ap (λ k. is_free_for w t k) (sym at) ∙ y.2

    free : (d : ℕ) → is_free_for w t d ≡ true → may_run w t d ≡ true
    free d x = (and_parts (may_run w t d) _ x).0

    go : (b : Bool) → is_free_for w t (task_at w t).prev_cpu ≡ b → (if b then Some (task_at w t).prev_cpu else lowest_cpu w (is_free_for w t)) ≡ Some c → may_run w t c ≡ true
    go true f x = let at : (task_at w t).prev_cpu ≡ c = same (task_at w t).prev_cpu c x in ap (λ k. may_run w t k) (sym at) ∙ free (task_at w t).prev_cpu f
    go false f x = free c (lowest (lowest_cpu w (is_free_for w t)) refl x)

    tracked : (b : Bool) → (if b then free_choice w t else None) ≡ Some c → may_run w t c ≡ true
    tracked true x = go (is_free_for w t (task_at w t).prev_cpu) refl x
    tracked false x = absurd (cc)

-- so is the default choice, if the task may run on its own
pub default_may : (w : WorldState) (t : ℕ) → may_run w t (task_at w t).prev_cpu ≡ true → may_run w t (default_choice w t) ≡ true
default_may w t home = go (choice w t) refl
  where
    go : (o : Option ℕ) → choice w t ≡ o → may_run w t (unwrap_or o (task_at w t).prev_cpu) ≡ true
    go None e = home
    go (Some c) e = choice_may w t c e

-- and the target of a task that wakes
pub target_may : (p : Option VerifiedProgram) (w : WorldState) (t : ℕ) (a : Option ℕ) → (task_at w t).prev_cpu < length w.cpus → may_run w t (task_at w t).prev_cpu ≡ true → may_run w t (target p w t a) ≡ true
target_may None w t a l home = default_may w t home
target_may (Some p) w t None l home = default_may w t home
target_may (Some p) w t (Some c) l home = go (nat_lt c (length w.cpus))
  where
    at : (b : Bool) → may_run w t c ≡ b → may_run w t (if b then c else first_home w t) ≡ true
    at true x = x
    at false x = home_may w t (task_at w t).prev_cpu l home

    go : (b : Bool) → may_run w t (if b then cpu_or_home w t c else default_choice w t) ≡ true
    go true = at (may_run w t c) refl
    go false = default_may w t home
