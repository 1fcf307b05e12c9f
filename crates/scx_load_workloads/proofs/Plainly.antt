-- Tasks of a workload for plain rules have the default weight themselves, and may run on all CPUs.
use Rattle.std.proofs.Common.{◌≡◌, ℕ, zero, suc, Bool, false, List, [], ◌∷◌, ◌++◌, length, replicate, Ok, codes, refl, sym, ap, ◌∙◌, subst}
use Rattle.std.proofs.lemmas.List.{length-append, replicate-append-replicate}
use Rattle.std.proofs.lemmas.Bool.{eq-eqb}
use Rattle.toml.specs.Data.{Members}
use Rattle.scx_isa_semantics.specs.declared.rules.Rules.TheVariants.{Plain}
use Rattle.scx_load_files.specs.Paths.{element}
use Rattle.scx_load_files.specs.Unknown.{known_alone}
use Rattle.scx_load_files.specs.Values.{document, required, table_of, integer_of}
use Rattle.scx_weights.specs.Hierarchy.{default_own_weight, idle, masks_in, with_masks, with_own_weights}
use Rattle.scx_load_workloads.specs.Workload.{WorkloadState, all_cpus, is_bound, first_tree}
use Rattle.scx_load_workloads.specs.Reading.{cpu_limits, length_limits, fold_from, some_elements, new_name, GroupList, groups_in, TaskList, no_tasks, leaf_named, timing_in, with_task, task_at, tasks_in, changes_in, unknown_keys, workload_in, workload_file, workload_of}
use Rattle.scx_load_workloads.specs.Laws.{IsUnbound}
use Rattle.scx_load_workloads.proofs.Forest.{parts, same_ok, kept}

-- all tasks have the default weight, and may run on all CPUs
record AreAlike (cpus : ℕ) (t : TaskList) : Type 0 where
  pub weights : t.own_weights ≡ replicate (length t.homes) default_own_weight
  pub masks : t.masks ≡ replicate (length t.homes) (all_cpus cpus)

one_more : (n : ℕ) (xs homes : List ℕ) (home : ℕ) → xs ≡ replicate (length homes) n → xs ++ n ∷ [] ≡ replicate (length (homes ++ home ∷ [])) n
one_more n xs homes home e =
    ap (λ (ys : List ℕ). ys ++ n ∷ []) e ∙ replicate-append-replicate (length homes) 1 n ∙ sym (ap (λ k. replicate k n) (length-append homes (home ∷ [])))

-- one task more
task_step : (cpus : ℕ) (g : GroupList) (t : TaskList) (path : List ℕ) (ms : Members) (u : TaskList) → with_task Plain cpus g t path ms ≡ Ok u → AreAlike cpus t → AreAlike cpus u
task_step cpus g t path ms u e h =
    let a = parts (new_name t.names path ms) _ u e in
    let b = parts (required (leaf_named g) path (codes "group") ms) _ u a.second in
    let c = parts (timing_in path ms) _ u b.second in
    subst (AreAlike cpus) (same_ok _ u c.second) record {
      weights = one_more default_own_weight t.own_weights t.homes b.value h.weights;
      masks = one_more (all_cpus cpus) t.masks t.homes b.value h.masks;
    }

-- all tasks
tasks_alike : (cpus : ℕ) (ms : Members) (g : GroupList) (t : TaskList) → tasks_in Plain cpus g ms ≡ Ok t → AreAlike cpus t
tasks_alike cpus ms g t e =
    let x = parts (some_elements 1024 (codes "task") ms) (fold_from (task_at Plain cpus g) no_tasks 0) t e in
    kept (task_at Plain cpus g) (AreAlike cpus) (λ s n d u r p. let z = parts (table_of (element (codes "task") n) d) (with_task Plain cpus g s (element (codes "task") n)) u r in task_step cpus g s (element (codes "task") n) z.value u z.second p)
    x.value no_tasks 0 t x.second record { weights = refl; masks = refl }

-- of a whole file
record IsPlain (w : WorkloadState) : Type 0 where
  pub weights : w.own_weights ≡ replicate (length w.homes) default_own_weight
  pub unbound : IsUnbound w

file_alike : (ms : Members) (w : WorkloadState) → workload_in Plain ms ≡ Ok w → IsPlain w
file_alike ms w e =
    let a = parts (required (integer_of cpu_limits) [] (codes "cpus") ms) _ w e in
    let b = parts (required (integer_of length_limits) [] (codes "ms") ms) _ w a.second in
    let c = parts (groups_in ms) _ w b.second in
    let d = parts (tasks_in Plain a.value c.value ms) _ w c.second in
    let f = parts (changes_in Plain c.value d.value ms) _ w d.second in
    let alike = tasks_alike a.value ms c.value d.value d.first in
    subst IsPlain (same_ok _ w f.second) record { weights = alike.weights; unbound = record { masks = alike.masks; seed = refl } }

plain_file : (text : List ℕ) (w : WorkloadState) → workload_of text ≡ Ok w → IsPlain w
plain_file text w e =
    let a = parts (document text) (workload_file Plain) w e in
    let b = parts (known_alone (unknown_keys Plain a.value)) (λ known. workload_in Plain a.value) w a.second in
    file_alike a.value w b.second

-- where each mask is all CPUs, none is bound
none_bound : (cpus n : ℕ) → is_bound cpus (replicate n (all_cpus cpus)) ≡ false
none_bound cpus zero = refl
none_bound cpus (suc n) = rw (eq-eqb (all_cpus cpus) (all_cpus cpus) refl) (none_bound cpus n)

-- the law of weights
pub plain_tasks_weigh_alike : (text : List ℕ) (w : WorkloadState) → workload_of text ≡ Ok w → first_tree w ≡ idle w.groups w.homes
plain_tasks_weigh_alike text w e =
    let plain = plain_file text w e in
    let free : is_bound w.cpus w.masks ≡ false = ap (is_bound w.cpus) plain.unbound.masks ∙ none_bound w.cpus (length w.homes) in
    ap (λ (b : Bool). with_masks (with_own_weights (idle w.groups w.homes) w.own_weights) (masks_in b w.masks)) free
    ∙ ap (λ (ws : List ℕ). record (idle w.groups w.homes) { own_weights = ws }) plain.weights

-- the law of masks and seeds
pub plain_tasks_are_unbound : (text : List ℕ) (w : WorkloadState) → workload_of text ≡ Ok w → IsUnbound w
plain_tasks_are_unbound text w e = (plain_file text w e).unbound
