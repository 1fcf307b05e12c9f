-- A workload is what is read of its parts.
use Rattle.std.proofs.Common.{◌≡◌, ℕ, List, [], Ok, codes, refl, sym, ap, ◌∙◌}
use Rattle.toml.specs.Data.{Members}
use Rattle.scx_isa_semantics.specs.declared.rules.Rules.{Rules}
use Rattle.scx_load_files.specs.declared.fault.LoadError.{LoadError}
use Rattle.scx_load_files.specs.declared.fault.LoadError.TheVariants as errors
use Rattle.scx_load_files.specs.Faults.{Fails}
use Rattle.scx_load_files.specs.Values.{required, integer_of}
use Rattle.scx_load_workloads.specs.Workload.{WorkloadState}
use Rattle.scx_load_workloads.specs.Reading.{cpu_limits, length_limits, GroupList, TaskList, seed_in, groups_in, tasks_in, changes_in, workload_in}

-- a workload with these numbers and changes, and with the lists of these groups and tasks, is read if they are
pub read_whole : (rules : Rules) (file : Members) (path : List ℕ) (w : WorkloadState) (g : GroupList) (t : TaskList) → path ≡ []
    → required (integer_of cpu_limits) path (codes "cpus") file ≡ Ok w.cpus → required (integer_of length_limits) path (codes "ms") file ≡ Ok w.ms → seed_in rules file ≡ Ok w.seed
    → groups_in file ≡ Ok g → tasks_in rules w.cpus g file ≡ Ok t → changes_in rules g t file ≡ Ok w.changes → w.groups ≡ g.groups → w.group_names ≡ g.names
    → w.homes ≡ t.homes → w.task_names ≡ t.names → w.own_weights ≡ t.own_weights → w.masks ≡ t.masks → w.timings ≡ t.timings → workload_in rules file ≡ Ok w
read_whole rules file path w g t whole a b c d e f groups group_names homes task_names own_weights masks timings =
    let x = ap (λ p. required (integer_of cpu_limits) p (codes "cpus") file) (sym whole) ∙ a in
    let y = ap (λ p. required (integer_of length_limits) p (codes "ms") file) (sym whole) ∙ b in
    rw (x, y, c, d, e, f, ← groups, ← group_names, ← homes, ← task_names, ← own_weights, ← masks, ← timings) refl

-- a fault of the changes is that of the whole, once all before them was read
pub changes_fail : (rules : Rules) (file : Members) (path : List ℕ) (cpus ms seed : ℕ) (g : GroupList) (t : TaskList) (e : LoadError) → path ≡ []
    → required (integer_of cpu_limits) path (codes "cpus") file ≡ Ok cpus → required (integer_of length_limits) path (codes "ms") file ≡ Ok ms → seed_in rules file ≡ Ok seed
    → groups_in file ≡ Ok g → tasks_in rules cpus g file ≡ Ok t → Fails e (changes_in rules g t file) → Fails e (workload_in rules file)
changes_fail rules file path cpus ms seed g t (errors.At place cause) whole a b c d f changes =
    let x = ap (λ p. required (integer_of cpu_limits) p (codes "cpus") file) (sym whole) ∙ a in
    let y = ap (λ p. required (integer_of length_limits) p (codes "ms") file) (sym whole) ∙ b in
    rw (x, y, c, d, f, changes) refl
changes_fail rules file path cpus ms seed g t errors.NoMemory whole a b c d f changes = tt
