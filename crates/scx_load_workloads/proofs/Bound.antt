-- Masks of tasks as they are read name CPUs that are there.
use Rattle.std.proofs.Common.{◌≡◌, ◌⊎◌, inl, inr, ℕ, ◌+◌, ◌<◌, ◌≤◌, List, [], ◌∷◌, ◌++◌, length, Option, Some, None, Ok, codes, refl, subst, arith}
use Rattle.std.proofs.lemmas.Bool.{cases_lt}
use Rattle.std.proofs.lemmas.List.{length-append, get_or_append_left, get_or-append-add}
use Rattle.toml.specs.Data.{Data, Members, get_member}
use Rattle.scx_isa_semantics.specs.declared.rules.Rules.{Rules}
use Rattle.scx_isa_semantics.specs.declared.rules.Rules.TheVariants.{Plain, Linux}
use Rattle.scx_load_files.specs.declared.fault.Cause.TheVariants as cause
use Rattle.scx_load_files.specs.Faults.{refusal}
use Rattle.scx_load_files.specs.Paths.{below, element}
use Rattle.scx_load_files.specs.Values.{found_or, required, table_of, text_of}
use Rattle.scx_load_workloads.specs.CpuLists.{mask_in}
use Rattle.scx_load_workloads.specs.Workload.{IsMask, mask_at, all_cpus}
use Rattle.scx_load_workloads.specs.Reading.{fold_from, some_elements, new_name, GroupList, TaskList, no_tasks, leaf_named, own_weight_in, mask_read, mask_of_task, timing_in, with_task, task_at, tasks_in}
use Rattle.scx_load_workloads.proofs.Forest.{parts, same_ok, kept}
use Rattle.scx_load_workloads.proofs.Masks.{is_mask, all_is_mask}
use Rattle.scx_load_workloads.proofs.OwnWeights.{AreMasks}

-- one mask more
masks_more : (cpus : ℕ) (xs : List ℕ) (x : ℕ) → AreMasks cpus xs → IsMask cpus x → AreMasks cpus (xs ++ x ∷ [])
masks_more cpus xs x all new t l = go (cases_lt t (length xs))
  where
    go : (t < length xs) ⊎ (length xs ≤ t) → IsMask cpus (mask_at (xs ++ x ∷ []) t)
    go (inl within) = rw (get_or_append_left xs (x ∷ []) _ t within) (all t within)
    go (inr past) = let last : t ≡ length xs + 0 = omega (arith, past, l, length-append xs (x ∷ [])) in rw (last, get_or-append-add xs (x ∷ []) 0 _) new

-- a mask that a value says
said : (cpus : ℕ) (path : List ℕ) (d : Data) (mask : ℕ) → mask_read cpus path d ≡ Ok mask → IsMask cpus mask
said cpus path d mask e =
    let x = parts (text_of path d) (λ text. found_or Ok (refusal path cause.OutOfRange) (mask_in cpus text)) mask e in
    go x.value (mask_in cpus x.value) refl x.second
  where
    go : (text : List ℕ) (o : Option ℕ) → mask_in cpus text ≡ o → found_or Ok (refusal path cause.OutOfRange) o ≡ Ok mask → IsMask cpus mask
    go text None f g = absurd (cc)
    go text (Some m) f g = subst (IsMask cpus) (same_ok m mask g) (is_mask cpus text m f)

mask_is_right : (rules : Rules) (cpus : ℕ) (path : List ℕ) (ms : Members) (mask : ℕ) → 1 ≤ cpus → mask_of_task rules cpus path ms ≡ Ok mask → IsMask cpus mask
mask_is_right Plain cpus path ms mask some e = subst (IsMask cpus) (same_ok (all_cpus cpus) mask e) (all_is_mask cpus some)
mask_is_right Linux cpus path ms mask some e = at (get_member (codes "cpus") ms) e
  where
    at : (o : Option Data) → found_or (mask_read cpus (below path (codes "cpus"))) (Ok (all_cpus cpus)) o ≡ Ok mask → IsMask cpus mask
    at None f = subst (IsMask cpus) (same_ok (all_cpus cpus) mask f) (all_is_mask cpus some)
    at (Some d) f = said cpus (below path (codes "cpus")) d mask f

task_step : (rules : Rules) (cpus : ℕ) (g : GroupList) (t : TaskList) (path : List ℕ) (ms : Members) (u : TaskList) → 1 ≤ cpus → with_task rules cpus g t path ms ≡ Ok u → AreMasks cpus t.masks → AreMasks cpus u.masks
task_step rules cpus g t path ms u some e f =
    let a = parts (new_name t.names path ms) _ u e in
    let b = parts (required (leaf_named g) path (codes "group") ms) _ u a.second in
    let w = parts (own_weight_in rules path ms) _ u b.second in
    let m = parts (mask_of_task rules cpus path ms) _ u w.second in
    let c = parts (timing_in path ms) _ u m.second in
    subst (λ (v : TaskList). AreMasks cpus v.masks) (same_ok _ u c.second) (masks_more cpus t.masks m.value f (mask_is_right rules cpus path ms m.value some m.first))

-- whatever the file
pub masks_are_right : (rules : Rules) (cpus : ℕ) (ms : Members) (g : GroupList) (t : TaskList) → 1 ≤ cpus → tasks_in rules cpus g ms ≡ Ok t → AreMasks cpus t.masks
masks_are_right rules cpus ms g t some e =
    let y = parts (some_elements 1024 (codes "task") ms) (fold_from (task_at rules cpus g) no_tasks 0) t e in
    kept (task_at rules cpus g) (λ (s : TaskList). AreMasks cpus s.masks) (λ s n d u r p. let z = parts (table_of (element (codes "task") n) d) (with_task rules cpus g s (element (codes "task") n)) u r in task_step rules cpus g s (element (codes "task") n) z.value u some z.second p)
    y.value no_tasks 0 t y.second (λ k l. absurd (omega (arith, l)))
