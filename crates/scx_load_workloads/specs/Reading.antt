-- The reading of a workload file: unknown keys first, wherever they are; then `cpus`, `ms`, `seed`,
-- the groups, tasks and changes of weights, each element by itself. Rules are those by which
-- the policy that it is read for goes: under Linux rules a task may have a weight of its own, and
-- may be bound to some CPUs.
use Rattle.std.specs.Prelude.{ℕ, ◌+◌, Bool, List, [], ◌∷◌, ◌++◌, Option, Some, None, is_some, Ok, codes, if◌then◌else◌}
use Rattle.std.specs.List.{list_any}
use Rattle.std.specs.Str.{bytes_eq}
use Rattle.toml.specs.Data.{Data, Items, no_items, item, Members, get_member}
use Rattle.scx_load_files.specs.declared.fault.Cause.TheVariants as cause
use Rattle.scx_load_files.specs.declared.section.Limits.{Limits}
use Rattle.scx_isa_semantics.specs.Results.{◌>>=◌}
use Rattle.scx_isa_semantics.specs.declared.rules.Rules.{Rules}
use Rattle.scx_isa_semantics.specs.declared.rules.Rules.TheVariants.{Plain, Linux}
use Rattle.scx_load_files.specs.Faults.{Reading, refusal}
use Rattle.scx_load_files.specs.Paths.{below, element}
use Rattle.scx_load_files.specs.Unknown.{known_alone, unknown, unknown_in_each}
use Rattle.scx_load_files.specs.Values.{found_or, document, required, optional, table_of, text_of, name_of, integer_of, natural_of, elements_of}
use Rattle.scx_weights.specs.declared.group.Group.{Group}
use Rattle.scx_weights.specs.Refusals.{above, is_parent}
use Rattle.scx_load_workloads.specs.declared.limit.Limit.{Limit}
use Rattle.scx_load_workloads.specs.declared.workload.Timing.{Timing}
use Rattle.scx_load_workloads.specs.declared.workload.Weighed.{Weighed}
use Rattle.scx_load_workloads.specs.declared.workload.Weighed.TheVariants as which
use Rattle.scx_load_workloads.specs.declared.workload.Change.{Change}
use Rattle.scx_load_workloads.specs.Limit.{no_limit, limit_in}
use Rattle.scx_load_workloads.specs.CpuLists.{mask_in}
use Rattle.scx_load_workloads.specs.Workload.{WorkloadState, all_cpus}

-- ---- limits

-- how many processors a workload has, 1 to 64
abbrev pub cpu_limits : Limits
cpu_limits = record { least = 1; most = 64 }

-- how many milliseconds a workload lasts, 1 to 1000000
abbrev pub length_limits : Limits
length_limits = record { least = 1; most = 1000000 }

-- a task's `start`, `run` and `sleep` and a change's `at`, in milliseconds, 0 to 1000000
abbrev pub time_limits : Limits
time_limits = record { least = 0; most = 1000000 }

-- the weight of a group, and of a task itself, 1 to 10000
abbrev pub weight_limits : Limits
weight_limits = record { least = 1; most = 10000 }

-- ---- arrays

-- the elements from the n-th on, each read with what was read before it
abbrev pub fold_from : {S : Type 0} → (S → ℕ → Data → Reading S) → S → ℕ → Items → Reading S
fold_from read s n no_items = Ok s
fold_from read s n (item d ds) = read s n d >>= λ t. fold_from read t (n + 1) ds

-- an array that is absent or empty is missing
abbrev pub some_of : List ℕ → Items → Reading Items
some_of path no_items = refusal path cause.Missing
some_of path (item d ds) = Ok (item d ds)

-- the elements of the array at a key of the whole file: one at least, and at most this number
abbrev pub some_elements : ℕ → List ℕ → Members → Reading Items
some_elements most key ms = optional (elements_of most) no_items [] key ms >>= some_of key

-- ---- names

-- the number of the first such name from the i-th on
abbrev pub index_from : ℕ → List (List ℕ) → List ℕ → Option ℕ
index_from i [] name = None
index_from i (n ∷ names) name = if bytes_eq n name then Some i else index_from (i + 1) names name

-- the number of the first such name, from 0; none where it isn't among them
abbrev pub index_of : List (List ℕ) → List ℕ → Option ℕ
index_of names name = index_from 0 names name

-- a name that isn't among those before it; one that is there already is refused
abbrev pub if_new : List (List ℕ) → List ℕ → List ℕ → Reading (List ℕ)
if_new names path name = if is_some (index_of names name) then refusal path cause.Twice else Ok name

-- the name of an element, which no element before it has
abbrev pub new_name : List (List ℕ) → List ℕ → Members → Reading (List ℕ)
new_name names path ms =
    required name_of path (codes "name") ms >>= if_new names (below path (codes "name"))

-- the number of the group of that name
abbrev pub group_named : List (List ℕ) → List ℕ → Data → Reading ℕ
group_named names path d =
    text_of path d >>= λ text. found_or Ok (refusal path cause.NoSuchGroup) (index_of names text)

-- ---- groups

-- the groups that have been read so far, and the name of each
pub record GroupList : Type 0 where
  pub names : List (List ℕ)
  pub groups : List Group

-- no group has been read yet
abbrev pub no_groups : GroupList
no_groups = record { names = []; groups = [] }

-- a group below that one would be the fourth of its line
abbrev pub is_deep : List Group → ℕ → Bool
is_deep groups parent = is_some (above groups 2 (Some parent))

-- that group as a parent; it is refused where a group below it would be too deep
abbrev pub if_shallow : List Group → List ℕ → ℕ → Reading (Option ℕ)
if_shallow groups path parent =
    if is_deep groups parent then refusal path cause.TooDeep else Ok (Some parent)

-- the parent that a value names: a group read before, below which one more isn't too deep
abbrev pub parent_named : GroupList → List ℕ → Data → Reading (Option ℕ)
parent_named g path d = group_named g.names path d >>= if_shallow g.groups path

-- the limit that a text says
abbrev pub limit_read : List ℕ → Data → Reading Limit
limit_read path d =
    text_of path d >>= λ text. found_or Ok (refusal path cause.OutOfRange) (limit_in text)

-- with one more group, which the table at a path says
abbrev pub with_group : GroupList → List ℕ → Members → Reading GroupList
with_group g path ms = do
  name ← new_name g.names path ms
  weight ← optional (integer_of weight_limits) 100 path (codes "weight") ms
  parent ← optional (parent_named g) None path (codes "parent") ms
  limit ← optional limit_read no_limit path (codes "cpu_max") ms
  Ok (record {
    names = g.names ++ name ∷ [];
    groups =
        g.groups ++ (record {
          parent = parent;
          weight = weight;
          quota_ms = limit.quota_ms;
          period_ms = limit.period_ms;
        }) ∷ [];
  })

-- with one more group, which the element of that number in the array `group` says
abbrev pub group_at : GroupList → ℕ → Data → Reading GroupList
group_at g n d = table_of (element (codes "group") n) d >>= with_group g (element (codes "group") n)

-- the groups that the table of a file says, 1 to 256, each read after those before it
abbrev pub groups_in : Members → Reading GroupList
groups_in ms = some_elements 256 (codes "group") ms >>= fold_from group_at no_groups 0

-- ---- tasks

-- the tasks that have been read so far: of each its name, the number of its group, its own weight,
-- its mask and its times
pub record TaskList : Type 0 where
  pub names : List (List ℕ)
  pub homes : List ℕ
  pub own_weights : List ℕ
  pub masks : List ℕ
  pub timings : List Timing

-- no task has been read yet
abbrev pub no_tasks : TaskList
no_tasks = record { names = []; homes = []; own_weights = []; masks = []; timings = [] }

-- a group has others below it: it is the parent of one at least
abbrev pub has_children : List Group → ℕ → Bool
has_children groups g = list_any (λ (child : Group). is_parent g child.parent) groups

-- that group as one of a task; it is refused where it has groups below it
abbrev pub if_leaf : List Group → List ℕ → ℕ → Reading ℕ
if_leaf groups path g = if has_children groups g then refusal path cause.NotALeaf else Ok g

-- the number of the group that a value names for a task: one without groups below it
abbrev pub leaf_named : GroupList → List ℕ → Data → Reading ℕ
leaf_named g path d = group_named g.names path d >>= if_leaf g.groups path

-- the weight of a task itself, as the table at a path says; under plain rules no key says it
abbrev pub own_weight_in : Rules → List ℕ → Members → Reading ℕ
own_weight_in Plain path ms = Ok 100
own_weight_in Linux path ms = optional (integer_of weight_limits) 100 path (codes "weight") ms

-- the mask that a text says in a workload with this number of CPUs
abbrev pub mask_read : ℕ → List ℕ → Data → Reading ℕ
mask_read cpus path d =
    text_of path d >>= λ text. found_or Ok (refusal path cause.OutOfRange) (mask_in cpus text)

-- the mask of a task, as the table at a path says: all CPUs where it says none; by plain rules no
-- key says it
abbrev pub mask_of_task : Rules → ℕ → List ℕ → Members → Reading ℕ
mask_of_task Plain cpus path ms = Ok (all_cpus cpus)
mask_of_task Linux cpus path ms =
    optional (mask_read cpus) (all_cpus cpus) path (codes "cpus") ms

-- when a task works, as the table at a path says; a time that is absent is 0
abbrev pub timing_in : List ℕ → Members → Reading Timing
timing_in path ms = do
  start ← optional (integer_of time_limits) 0 path (codes "start") ms
  run ← optional (integer_of time_limits) 0 path (codes "run") ms
  sleep ← optional (integer_of time_limits) 0 path (codes "sleep") ms
  Ok (record { start = start; run = run; sleep = sleep })

-- with one more task, in one of these groups and bound to some of this number of CPUs, which the
-- table at a path says
abbrev pub with_task : Rules → ℕ → GroupList → TaskList → List ℕ → Members → Reading TaskList
with_task rules cpus g t path ms = do
  name ← new_name t.names path ms
  home ← required (leaf_named g) path (codes "group") ms
  weight ← own_weight_in rules path ms
  mask ← mask_of_task rules cpus path ms
  timing ← timing_in path ms
  Ok (record {
    names = t.names ++ name ∷ [];
    homes = t.homes ++ home ∷ [];
    own_weights = t.own_weights ++ weight ∷ [];
    masks = t.masks ++ mask ∷ [];
    timings = t.timings ++ timing ∷ [];
  })

-- with one more task, which the element of that number in the array `task` says
abbrev pub task_at : Rules → ℕ → GroupList → TaskList → ℕ → Data → Reading TaskList
task_at rules cpus g t n d =
    table_of (element (codes "task") n) d >>= with_task rules cpus g t (element (codes "task") n)

-- the tasks that the table of a file says, 1 to 1024, each in one of these groups
abbrev pub tasks_in : Rules → ℕ → GroupList → Members → Reading TaskList
tasks_in rules cpus g ms =
    some_elements 1024 (codes "task") ms >>= fold_from (task_at rules cpus g) no_tasks 0

-- ---- changes

-- the number of the task of that name
abbrev pub task_named : List (List ℕ) → List ℕ → Data → Reading ℕ
task_named names path d =
    text_of path d >>= λ text. found_or Ok (refusal path cause.NoSuchTask) (index_of names text)

-- the group whose weight changes
abbrev pub group_weighed : GroupList → List ℕ → Members → Reading Weighed
group_weighed g path ms =
    required (group_named g.names) path (codes "group") ms >>= λ n. Ok (which.Group n)

-- the task at that path whose weight changes; it is refused where there is a group too
abbrev pub task_weighed : TaskList → List ℕ → Option Data → Data → Reading Weighed
task_weighed t path None d = task_named t.names path d >>= λ n. Ok (which.Task n)
task_weighed t path (Some group) d = refusal path cause.Twice

-- the group or the task whose weight changes; under plain rules no key says a task
abbrev pub weighed_in : Rules → GroupList → TaskList → List ℕ → Members → Reading Weighed
weighed_in Plain g t path ms = group_weighed g path ms
weighed_in Linux g t path ms =
    found_or (task_weighed t (below path (codes "task")) (get_member (codes "group") ms))
    (group_weighed g path ms) (get_member (codes "task") ms)

-- the change of a weight of one of these groups or tasks that the table at a path says
abbrev pub change_in : Rules → GroupList → TaskList → List ℕ → Members → Reading Change
change_in rules g t path ms = do
  at ← required (integer_of time_limits) path (codes "at") ms
  weighed ← weighed_in rules g t path ms
  weight ← required (integer_of weight_limits) path (codes "weight") ms
  Ok (record { at = at; weighed = weighed; weight = weight })

-- the change of a weight that the element of that number in the array `change` says
abbrev pub change_from : Rules → GroupList → TaskList → ℕ → Data → Reading Change
change_from rules g t n d =
    table_of (element (codes "change") n) d
    >>= change_in rules g t (element (codes "change") n)

-- with one more change, which the element of that number in the array `change` says
abbrev pub with_change :
    Rules → GroupList → TaskList → List Change → ℕ → Data → Reading (List Change)
with_change rules g t cs n d = change_from rules g t n d >>= λ c. Ok (cs ++ c ∷ [])

-- the changes of weights that the table of a file says, 1024 at most; it may have none
abbrev pub changes_in : Rules → GroupList → TaskList → Members → Reading (List Change)
changes_in rules g t ms =
    optional (elements_of 1024) no_items [] (codes "change") ms
    >>= fold_from (with_change rules g t) [] 0

-- ---- the file

-- the keys that the table of a whole file may have under those rules
abbrev pub file_keys : Rules → List (List ℕ)
file_keys Plain = codes "cpus" ∷ codes "ms" ∷ codes "group" ∷ codes "task" ∷ codes "change" ∷ []
file_keys Linux =
    codes "cpus" ∷ codes "ms" ∷ codes "seed" ∷ codes "group" ∷ codes "task" ∷ codes "change" ∷ []

-- the keys that an element of the array `group` may have
abbrev pub group_keys : List (List ℕ)
group_keys = codes "name" ∷ codes "weight" ∷ codes "parent" ∷ codes "cpu_max" ∷ []

-- the keys that an element of the array `task` may have under those rules
abbrev pub task_keys : Rules → List (List ℕ)
task_keys Plain = codes "name" ∷ codes "group" ∷ codes "start" ∷ codes "run" ∷ codes "sleep" ∷ []
task_keys Linux =
    codes "name" ∷ codes "group" ∷ codes "weight" ∷ codes "cpus"
    ∷ codes "start" ∷ codes "run" ∷ codes "sleep" ∷ []

-- the keys that an element of the array `change` may have under those rules
abbrev pub change_keys : Rules → List (List ℕ)
change_keys Plain = codes "at" ∷ codes "group" ∷ codes "weight" ∷ []
change_keys Linux = codes "at" ∷ codes "group" ∷ codes "task" ∷ codes "weight" ∷ []

-- the paths of all unknown keys of a file
abbrev pub unknown_keys : Rules → Members → List (List ℕ)
unknown_keys rules ms =
    unknown (file_keys rules) [] ms
    ++ unknown_in_each group_keys [] (codes "group") ms
    ++ unknown_in_each (task_keys rules) [] (codes "task") ms
    ++ unknown_in_each (change_keys rules) [] (codes "change") ms

-- where random numbers begin: at 0 where no key says it, as under plain rules
abbrev pub seed_in : Rules → Members → Reading ℕ
seed_in Plain ms = Ok 0
seed_in Linux ms = optional natural_of 0 [] (codes "seed") ms

-- what the known keys of a file say
abbrev pub workload_in : Rules → Members → Reading WorkloadState
workload_in rules ms = do
  cpus ← required (integer_of cpu_limits) [] (codes "cpus") ms
  length ← required (integer_of length_limits) [] (codes "ms") ms
  seed ← seed_in rules ms
  g ← groups_in ms
  t ← tasks_in rules cpus g ms
  changes ← changes_in rules g t ms
  Ok (record {
    cpus = cpus;
    ms = length;
    seed = seed;
    groups = g.groups;
    group_names = g.names;
    homes = t.homes;
    task_names = t.names;
    own_weights = t.own_weights;
    masks = t.masks;
    timings = t.timings;
    changes = changes;
  })

-- what the table of a file says; an unknown key is refused before any other fault
abbrev pub workload_file : Rules → Members → Reading WorkloadState
workload_file rules ms = known_alone (unknown_keys rules ms) >>= λ known. workload_in rules ms

-- the workload that a text is for a policy by those rules
abbrev pub workload_by : Rules → List ℕ → Reading WorkloadState
workload_by rules text = document text >>= workload_file rules

-- the workload that a text is for a policy by plain rules
abbrev pub workload_of : List ℕ → Reading WorkloadState
workload_of text = workload_by Plain text
