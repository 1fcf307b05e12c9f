-- The reading of a file of events: unknown keys first, wherever they are; then `cpus`, `ms`,
-- `seed`, the groups and the tasks as in a workload, and `events`, line by line. Rules are those by
-- which the policy that it is read for goes.
use Rattle.std.specs.Prelude.{ℕ, ◌+◌, ⊤, Bool, false, List, [], ◌∷◌, ◌++◌, is_some, Result, Ok, Err, codes}
use Rattle.std.specs.Str.Lines.{lines}
use Rattle.toml.specs.Data.{Members, get_member}
use Rattle.toml.specs.Parse.{parse_document}
use Rattle.scx_isa_semantics.specs.Results.{◌>>=◌}
use Rattle.scx_isa_semantics.specs.declared.rules.Rules.{Rules}
use Rattle.scx_isa_semantics.specs.declared.rules.Rules.TheVariants.{Plain, Linux}
use Rattle.scx_load_files.specs.declared.event_fault.EventFault.{EventFault}
use Rattle.scx_load_files.specs.declared.fault.Cause.TheVariants as cause
use Rattle.scx_load_files.specs.Faults.{Reading, refusal}
use Rattle.scx_load_files.specs.Unknown.{known_alone, unknown, unknown_in_each}
use Rattle.scx_load_files.specs.Values.{found_or, document, required, text_of}
use Rattle.scx_load_workloads.specs.Workload.{WorkloadState}
use Rattle.scx_load_workloads.specs.Reading.{group_keys, workload_in}
use Rattle.scx_load_replay.specs.Replay.{ReplayState}
use Rattle.scx_load_replay.specs.Lines.{ProgressState, no_lines, text_behind}

-- ---- lines

-- a line of that number as it was read, or its fault
abbrev pub at_line : {A : Type 0} → ℕ → Result A EventFault → Reading A
at_line n (Ok x) = Ok x
at_line n (Err f) = refusal (codes "events") (cause.Event f n)

-- the lines from the n-th on, one after another
unfoldable pub lines_from :
    Rules → WorkloadState → ℕ → ProgressState → List (List ℕ) → Reading ProgressState
lines_from rules w n p [] = Ok p
lines_from rules w n p (text ∷ texts) =
    at_line n (text_behind rules w p text) >>= λ q. lines_from rules w (n + 1) q texts

-- the progress of a file of events by the lines of a text, for that workload
abbrev pub lines_in : Rules → WorkloadState → List ℕ → Reading ProgressState
lines_in rules w text = lines_from rules w 1 (no_lines w) (lines text)

-- the file of events of that workload, with the lines of a text
abbrev pub replay_with : Rules → WorkloadState → List ℕ → Reading ReplayState
replay_with rules w text =
    lines_in rules w text >>= λ p. Ok (record { workload = w; lines = p.lines })

-- ---- the file

-- the keys that the table of a whole file may have under those rules
abbrev pub file_keys : Rules → List (List ℕ)
file_keys Plain = codes "cpus" ∷ codes "ms" ∷ codes "group" ∷ codes "task" ∷ codes "events" ∷ []
file_keys Linux =
    codes "cpus" ∷ codes "ms" ∷ codes "seed" ∷ codes "group" ∷ codes "task" ∷ codes "events" ∷ []

-- the keys that an element of the array `task` may have under those rules
abbrev pub task_keys : Rules → List (List ℕ)
task_keys Plain = codes "name" ∷ codes "group" ∷ []
task_keys Linux = codes "name" ∷ codes "group" ∷ codes "weight" ∷ codes "cpus" ∷ []

-- the paths of all unknown keys of a file
abbrev pub unknown_keys : Rules → Members → List (List ℕ)
unknown_keys rules ms =
    unknown (file_keys rules) [] ms
    ++ unknown_in_each group_keys [] (codes "group") ms
    ++ unknown_in_each (task_keys rules) [] (codes "task") ms

-- no key is unknown, or the least path is refused
abbrev pub known_file_keys : Rules → Members → Reading ⊤
known_file_keys rules ms = known_alone (unknown_keys rules ms)

-- the file of events that a table says
abbrev pub replay_file : Rules → Members → Reading ReplayState
replay_file rules ms = do
  known ← known_file_keys rules ms
  w ← workload_in rules ms
  text ← required text_of [] (codes "events") ms
  replay_with rules w text

-- the file of events that a text is for a policy by those rules
abbrev pub replay_by : Rules → List ℕ → Reading ReplayState
replay_by rules text = document text >>= replay_file rules

-- the file of events that a text is for a policy by plain rules
abbrev pub replay_of : List ℕ → Reading ReplayState
replay_of text = replay_by Plain text

-- ---- files of events among other texts

-- the table of a file has a key `events`
abbrev pub has_key_events : Members → Bool
has_key_events ms = is_some (get_member (codes "events") ms)

-- the text is a TOML document, and its top table has a key `events`
abbrev pub has_events : List ℕ → Bool
has_events text = found_or has_key_events false (parse_document text)
