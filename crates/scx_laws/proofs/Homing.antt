-- Before any callback each task is at home, as the cases allow, and not otherwise.
use Rattle.std.proofs.Common.{◌≡◌, ℕ, zero, suc, ◌<◌, ◌≤◌, Bool, true, false, ◌⊎◌, inl, inr, if◌then◌else◌, List, length, get_or, set, refl, sym, ap, subst, ◌∙◌, arith}
use Rattle.std.proofs.lemmas.Bool.{cases_eq}
use Rattle.std.proofs.lemmas.List.{length-set, length-replicate, get_or-set_same, get_or-set_other, get_or-replicate, ext_get_or}
use Rattle.scx_weights.specs.Hierarchy.{Hierarchy, is_in_mask}
use Rattle.scx_sched_tasks.specs.declared.task.Task.{Task}
use Rattle.scx_sched_tasks.specs.Tasks.{no_task, new_task}
use Rattle.scx_sched_world.specs.World.{WorldState, task_at, binds, lowest_cpu, first_home}
use Rattle.scx_sched_world.specs.Tasks.{with_home, begun_periods}
use Rattle.scx_sched_world.specs.First.{first_world, with_first_home, with_homes_below, at_first_homes}
use Rattle.scx_sched_policy.specs.Policy.{PolicyState}
use Rattle.scx_sched_machine.specs.Steps.{State, with_world}
use Rattle.scx_sched_machine.specs.Start.{by_policy, blank}
use Rattle.scx_laws.specs.Starts.{AreAtHome, IsBlank}
use Rattle.scx_laws.proofs.BindingTasks.{home_as, is_home, only_home_of}

-- ---- the first tasks at home

abbrev homed : ℕ → WorldState → List Task → List Task
homed zero w xs = xs
homed (suc n) w xs = set (homed n w xs) n (with_home (get_or (homed n w xs) n no_task) (first_home w n))

homed_is : (n : ℕ) (w : WorldState) → with_homes_below n w ≡ record w { tasks = homed n w w.tasks }
homed_is zero w = refl
homed_is (suc n) w = ap (λ v. with_first_home v n) (homed_is n w)

homed_long : (n : ℕ) (w : WorldState) (xs : List Task) → length (homed n w xs) ≡ length xs
homed_long zero w xs = refl
homed_long (suc n) w xs = length-set (homed n w xs) n (with_home (get_or (homed n w xs) n no_task) (first_home w n)) ∙ homed_long n w xs

not_yet : (n : ℕ) (w : WorldState) (xs : List Task) (t : ℕ) → n ≤ t → get_or (homed n w xs) t no_task ≡ get_or xs t no_task
not_yet zero w xs t l = refl
not_yet (suc n) w xs t l =
    get_or-set_other (homed n w xs) n t (with_home (get_or (homed n w xs) n no_task) (first_home w n)) no_task (λ e. omega (arith, e, l)) ∙ not_yet n w xs t (omega (arith, l))

homed_at : (n : ℕ) (w : WorldState) (xs : List Task) (t : ℕ) → t < n → t < length xs → get_or (homed n w xs) t no_task ≡ with_home (get_or xs t no_task) (first_home w t)
homed_at zero w xs t l m = absurd (omega (arith, l))
homed_at (suc n) w xs t l m = go (cases_eq t n) (λ d. homed_at n w xs t (omega (arith, l, d)) m)
  where
    ys : List Task
    ys = homed n w xs

    x : Task
    x = with_home (get_or ys n no_task) (first_home w n)

    there : t ≡ n → n < length ys
    there is = omega (arith, is, m, homed_long n w xs)

    go : (t ≡ n) ⊎ (t ≡ n → ⊥) → ((t ≡ n → ⊥) → get_or ys t no_task ≡ with_home (get_or xs t no_task) (first_home w t)) → get_or (set ys n x) t no_task ≡ with_home (get_or xs t no_task) (first_home w t)
    go (inl is) before =
        ap (λ k. get_or (set ys n x) k no_task) is ∙ get_or-set_same ys n x no_task (there is) ∙ ap (λ y. with_home y (first_home w n)) (not_yet n w xs n (omega arith))
        ∙ ap (λ k. with_home (get_or xs k no_task) (first_home w k)) (sym is)
    go (inr d) before = get_or-set_other ys n t x no_task d ∙ before d

-- ---- all tasks

-- the tasks of that world have not run yet
abbrev AreNew : WorldState → Type 0
AreNew w = (t : ℕ) → t < length w.tasks → task_at w t ≡ new_task

at_home : (w : WorldState) → AreNew w → AreAtHome w (at_first_homes w)
at_home w new = go (binds w) refl
  where
    stays : binds w ≡ false → (t : ℕ) → t < length w.tasks → task_at w t ≡ with_home (task_at w t) (first_home w t)
    stays e t l =
        let first : first_home w t ≡ 0 = ap (λ b. home_as b (lowest_cpu w (is_in_mask w.tree t))) e in
        new t l ∙ sym (ap (λ x. with_home x (first_home w t)) (new t l) ∙ ap (λ c. with_home new_task c) first)

    go : (b : Bool) → binds w ≡ b → AreAtHome w (if b then with_homes_below (length w.tasks) w else w)
    go true e =
        subst (λ v. AreAtHome w v) (sym (homed_is (length w.tasks) w))
        (record { many = homed_long (length w.tasks) w w.tasks; each = λ t l. record { cpu = first_home w t; first = is_home w t; all = homed_at (length w.tasks) w w.tasks t l l }; others = refl })
    go false e = record { many = refl; each = λ t l. record { cpu = first_home w t; first = is_home w t; all = stays e t l }; others = refl }

same_homes : (w v u : WorldState) → AreAtHome w v → AreAtHome w u → v ≡ u
same_homes w v u h g = h.others ∙ ap (λ xs. record w { tasks = xs }) lists ∙ sym g.others
  where
    one : (t : ℕ) → t < length w.tasks → task_at v t ≡ task_at u t
    one t l = let x = h.each t l in let y = g.each t l in x.all ∙ ap (λ c. with_home (task_at w t) c) (only_home_of w t x.cpu x.first ∙ sym (only_home_of w t y.cpu y.first)) ∙ sym y.all

    lists : v.tasks ≡ u.tasks
    lists = ext_get_or no_task v.tasks u.tasks (h.many ∙ sym g.many) (λ t l. one t (omega (arith, l, h.many)))

-- ---- before any callback

abbrev start_world : PolicyState → Hierarchy → ℕ → WorldState
start_world p tree cpus = begun_periods (by_policy p (first_world tree cpus))

all_new : (p : PolicyState) (tree : Hierarchy) (cpus : ℕ) → AreNew (start_world p tree cpus)
all_new p tree cpus t l = get_or-replicate (length tree.homes) t new_task no_task (omega (arith, l, length-replicate (length tree.homes) new_task))

-- a machine is blank as it is computed
pub is_blank : (p : PolicyState) (tree : Hierarchy) (cpus : ℕ) → IsBlank p tree cpus (blank p tree cpus)
is_blank p tree cpus = record { world = at_first_homes (start_world p tree cpus); at_home = at_home (start_world p tree cpus) (all_new p tree cpus); all = refl }

-- and in no other way
pub only_blank : (p : PolicyState) (tree : Hierarchy) (cpus : ℕ) (s : State) → IsBlank p tree cpus s → s ≡ blank p tree cpus
only_blank p tree cpus s h =
    let w = start_world p tree cpus in
    h.all ∙ ap (λ v. with_world (blank p tree cpus) v) (same_homes w h.world (at_first_homes w) h.at_home (at_home w (all_new p tree cpus)))
