-- The timers of a policy file: an array of tables, each with a name or none.
use Rattle.std.specs.Prelude.{ℕ, ◌+◌, ⊤, List, [], codes, Ok}
use Rattle.toml.specs.Data.{Data, Members, Items, no_items, item}
use Rattle.scx_isa_semantics.specs.Results.{◌>>=◌}
use Rattle.scx_load_files.specs.Faults.{Reading}
use Rattle.scx_load_files.specs.Paths.{element}
use Rattle.scx_load_files.specs.Values.{optional, name_of, table_of, elements_of}
use Rattle.scx_load_policies.specs.Policies.{max_timers}

-- a value is a timer's name; it isn't kept
abbrev pub is_timer_name : List ℕ → Data → Reading ⊤
is_timer_name path d = name_of path d >>= λ name. Ok tt

-- the table at a path is a timer's, with a name or none
abbrev pub timer_in : List ℕ → Members → Reading ⊤
timer_in path ms = optional is_timer_name tt path (codes "name") ms

-- the n-th element is a timer's table
abbrev pub timer_at : ℕ → Data → Reading ⊤
timer_at n d = table_of (element (codes "timer") n) d >>= timer_in (element (codes "timer") n)

-- how many timers there are once the elements from the n-th on are read, one after another
abbrev pub timers_from : ℕ → Items → Reading ℕ
timers_from n no_items = Ok n
timers_from n (item d ds) = timer_at n d >>= λ t. timers_from (n + 1) ds

-- how many timers a file says in its array `timer`, which may be absent
abbrev pub timers : Members → Reading ℕ
timers ms =
    optional (elements_of max_timers) no_items [] (codes "timer") ms >>= timers_from 0
