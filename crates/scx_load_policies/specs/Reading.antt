-- The reading of a policy file: unknown keys first, wherever they are; then the name, the timeout,
-- the rules, the ticks, whether idle CPUs are tracked, the maps, the timers, the programs in `code`
-- and those in `slots`.
use Rattle.std.specs.Prelude.{ℕ, ◌==◌, Bool, List, [], ◌∷◌, ◌++◌, codes, Ok, Err, if◌then◌else◌}
use Rattle.std.specs.Str.{bytes_eq}
use Rattle.toml.specs.Data.{Data, Members, no_members}
use Rattle.scx_load_files.specs.declared.fault.Cause.TheVariants as cause
use Rattle.scx_load_files.specs.declared.section.Limits.{Limits}
use Rattle.scx_isa_semantics.specs.Results.{◌>>=◌}
use Rattle.scx_isa_semantics.specs.declared.rules.Rules.{Rules}
use Rattle.scx_isa_semantics.specs.declared.rules.Rules.TheVariants.{Plain, Linux}
use Rattle.scx_load_files.specs.Faults.{Reading, refusal}
use Rattle.scx_load_files.specs.Values.{document, optional, table_of, text_of, name_of, integer_of}
use Rattle.scx_load_files.specs.Unknown.{known_alone, unknown, unknown_in, unknown_in_each}
use Rattle.scx_isa_semantics.specs.Callbacks.{none}
use Rattle.scx_load_policies.specs.Policies.{PolicyFile, Programs, callback_keys}
use Rattle.scx_load_policies.specs.Maps.{maps}
use Rattle.scx_load_policies.specs.Timers.{timers}
use Rattle.scx_load_policies.specs.Programs.{with_code, with_slots}

-- the keys that the table of a whole file may have by those rules
abbrev pub file_keys : Rules → List (List ℕ)
file_keys Plain =
    codes "name" ∷ codes "timeout_ms" ∷ codes "rules" ∷ codes "tick_ms" ∷ codes "map"
    ∷ codes "code" ∷ codes "slots" ∷ []
file_keys Linux =
    codes "name" ∷ codes "timeout_ms" ∷ codes "rules" ∷ codes "tick_ms" ∷ codes "keep_idle"
    ∷ codes "map" ∷ codes "timer" ∷ codes "code" ∷ codes "slots" ∷ []

-- the keys that an element of the array `map` may have by those rules
abbrev pub map_keys : Rules → List (List ℕ)
map_keys Plain = codes "entries" ∷ codes "value_size" ∷ []
map_keys Linux = codes "entries" ∷ codes "value_size" ∷ codes "kind" ∷ codes "key_size" ∷ []

-- the keys that an element of the array `timer` may have
abbrev pub timer_keys : List (List ℕ)
timer_keys = codes "name" ∷ []

-- ---- the rules

-- the rules that a text names; any other text is refused
abbrev pub rules_named : List ℕ → List ℕ → Reading Rules
rules_named path text =
    if bytes_eq text (codes "plain") then Ok Plain
    else if bytes_eq text (codes "linux") then Ok Linux
    else refusal path cause.OutOfRange

-- the rules that a value names
abbrev pub rules_of : List ℕ → Data → Reading Rules
rules_of path d = text_of path d >>= rules_named path

-- the rules of the machine; where the key is absent, the plain ones
abbrev pub rules_in : Members → Reading Rules
rules_in ms = optional rules_of Plain [] (codes "rules") ms

-- these rules, or the plain ones where the key is refused
abbrev pub or_plain : Reading Rules → Rules
or_plain (Ok rules) = rules
or_plain (Err fault) = Plain

-- the rules that decide which callbacks a file may have: those that it names, else the plain ones
abbrev pub rules_meant : Members → Rules
rules_meant ms = or_plain (rules_in ms)

-- ---- unknown keys

-- the paths of all unknown keys of a file that may have these keys, whose maps may have those, and
-- whose programs the last ones
abbrev pub unknown_beside :
    List (List ℕ) → List (List ℕ) → List (List ℕ) → Members → List (List ℕ)
unknown_beside keys of_maps callbacks ms =
    unknown keys [] ms
    ++ unknown_in_each of_maps [] (codes "map") ms
    ++ unknown_in_each timer_keys [] (codes "timer") ms
    ++ unknown_in callbacks [] (codes "code") ms
    ++ unknown_in callbacks [] (codes "slots") ms

-- the paths of all unknown keys of a file; which keys and callbacks are known its rules say
abbrev pub unknown_keys : Members → List (List ℕ)
unknown_keys ms =
    unknown_beside (file_keys (rules_meant ms)) (map_keys (rules_meant ms))
    (callback_keys (rules_meant ms)) ms

-- ---- the values

-- how many milliseconds a task may wait at most, 1 to 30000
abbrev pub timeout_limits : Limits
timeout_limits = record { least = 1; most = 30000 }

-- how many milliseconds there may be from tick to tick, 0 to 100
abbrev pub tick_limits : Limits
tick_limits = record { least = 0; most = 100 }

-- the name; where it is absent, an empty one
abbrev pub policy_name : Members → Reading (List ℕ)
policy_name ms = optional name_of [] [] (codes "name") ms

-- the milliseconds from tick to tick where a file says none: those of a kernel with HZ=250
abbrev pub default_tick : Rules → ℕ
default_tick Plain = 0
default_tick Linux = 4

-- the milliseconds from tick to tick that a value says; under plain rules each value is refused
abbrev pub tick_of : Rules → List ℕ → Data → Reading ℕ
tick_of Plain path d = refusal path cause.OutOfRange
tick_of Linux path d = integer_of tick_limits path d

-- the milliseconds from tick to tick
abbrev pub tick_in : Rules → Members → Reading ℕ
tick_in rules ms = optional (tick_of rules) (default_tick rules) [] (codes "tick_ms") ms

-- the number that says whether idle CPUs are tracked beside `update_idle`, 0 or 1
abbrev pub idle_limits : Limits
idle_limits = record { least = 0; most = 1 }

-- whether idle CPUs are tracked beside `update_idle`; where the key is absent they aren't
abbrev pub idle_kept : Members → Reading Bool
idle_kept ms =
    optional (integer_of idle_limits) 0 [] (codes "keep_idle") ms >>= λ n. Ok (n == 1)

-- the table at a key; where it is absent, one without keys
abbrev pub table_in : List ℕ → Members → Reading Members
table_in key ms = optional table_of no_members [] key ms

-- these programs, and those of the table `slots`
abbrev pub with_slots_in : Members → Programs → Reading Programs
with_slots_in ms programs = table_in (codes "slots") ms >>= λ slots. with_slots slots programs

-- these programs, and those of both tables
abbrev pub programs_with : Members → Programs → Reading Programs
programs_with ms before = do
  code ← table_in (codes "code") ms
  programs ← with_code code before
  with_slots_in ms programs

-- the programs of both tables
abbrev pub programs_in : Members → Reading Programs
programs_in ms = programs_with ms none

-- what the known keys of a file say
abbrev pub policy_in : Members → Reading PolicyFile
policy_in ms = do
  name ← policy_name ms
  timeout ← optional (integer_of timeout_limits) 30000 [] (codes "timeout_ms") ms
  rules ← rules_in ms
  tick ← tick_in rules ms
  kept ← idle_kept ms
  shapes ← maps ms
  count ← timers ms
  programs ← programs_in ms
  Ok (record {
    name = name;
    shapes = shapes;
    timeout_ms = timeout;
    rules = rules;
    tick_ms = tick;
    keeps_idle = kept;
    timers = count;
    programs = programs;
  })

-- what the table of a file says; an unknown key is refused before any other fault
abbrev pub policy_file : Members → Reading PolicyFile
policy_file ms = known_alone (unknown_keys ms) >>= λ known. policy_in ms

-- the policy file that a text is
abbrev pub policy_text : List ℕ → Reading PolicyFile
policy_text text = document text >>= policy_file
