-- The unknown keys of a file, and the one of the least path.
use Rattle.std.specs.Prelude.{◌≡◌, ℕ, ◌+◌, Bool, true, false, ◌||◌, if◌then◌else◌, List, [], ◌∷◌, ◌++◌, All, Contains, ⊤, Option, Some, None, Ok, option_map, map, string_bytes}
use Rattle.std.specs.Bool.{IsFalse}
use Rattle.std.specs.Borrow.{Bor}
use Rattle.std.specs.Ordering.{nat_cmp, is_lt, is_gt}
use Rattle.std.specs.Cmp.Lexicographic.{slice_cmp}
use Rattle.std.specs.Str.{bytes_eq}
use Rattle.toml.specs.Data.{Data, array, table, Items, no_items, item, Members, no_members, member, get_member}
use Rattle.scx_load_files.specs.declared.unknown.Unknown.{Unknown as UnknownKeys}
use Rattle.scx_load_files.specs.declared.fault.Cause.TheVariants as cause
use Rattle.scx_load_files.specs.Faults.{Reading, refusal}
use Rattle.scx_load_files.specs.Keys.{key_text}
use Rattle.scx_load_files.specs.Paths.{below, element}
use Rattle.scx_load_files.specs.Values.{found_or}

-- ---- which keys are unknown

-- the key is one of those that the format has
abbrev pub is_known : List (List ℕ) → List ℕ → Bool
is_known [] key = false
is_known (k ∷ known) key = bytes_eq k key || is_known known key

-- the paths of the unknown keys of the table at a path
abbrev pub unknown : List (List ℕ) → List ℕ → Members → List (List ℕ)
unknown known path no_members = []
unknown known path (member key d ms) =
    if is_known known key then unknown known path ms
    else below path (key_text key) ∷ unknown known path ms

-- of a value at a path, if it is a table
abbrev pub unknown_of : List (List ℕ) → List ℕ → Data → List (List ℕ)
unknown_of known path (table ms) = unknown known path ms
unknown_of known path _ = []

-- of the elements from the n-th on of an array at a path
abbrev pub unknown_from : List (List ℕ) → List ℕ → ℕ → Items → List (List ℕ)
unknown_from known path n no_items = []
unknown_from known path n (item d ds) =
    unknown_of known (element path n) d ++ unknown_from known path (n + 1) ds

-- of a value at a path, if it is an array
abbrev pub unknown_of_each : List (List ℕ) → List ℕ → Data → List (List ℕ)
unknown_of_each known path (array ds) = unknown_from known path 0 ds
unknown_of_each known path _ = []

-- of the table at a key, and of the tables of the array at a key
abbrev pub unknown_in : List (List ℕ) → List ℕ → List ℕ → Members → List (List ℕ)
unknown_in known path key ms = found_or (unknown_of known (below path key)) [] (get_member key ms)

-- the paths of the unknown keys of the tables in the array at a key; none without an array
abbrev pub unknown_in_each : List (List ℕ) → List ℕ → List ℕ → Members → List (List ℕ)
unknown_in_each known path key ms =
    found_or (unknown_of_each known (below path key)) [] (get_member key ms)

-- ---- the least of some paths, by their bytes

-- of a path and another, if there is another, the one that is less by its bytes
abbrev pub lesser : List ℕ → Option (List ℕ) → List ℕ
lesser p None = p
lesser p (Some q) = if is_lt (slice_cmp nat_cmp p q) then p else q

-- the least of some paths and of one found before, if one was; none where there are no paths
abbrev pub least_with : Option (List ℕ) → List (List ℕ) → Option (List ℕ)
least_with least [] = least
least_with least (p ∷ paths) = least_with (Some (lesser p least)) paths

-- nothing, where there are no paths; else one of them that is greater than none of them
abbrev pub IsLeast : List (List ℕ) → Option (List ℕ) → Type 0
IsLeast paths None = paths ≡ []
IsLeast paths (Some p) = Contains paths p × All (λ q. IsFalse (is_gt (slice_cmp nat_cmp p q))) paths

-- The path that is found so is the least.
abbrev pub LeastIsFound : Type 0
LeastIsFound = (paths : List (List ℕ)) → IsLeast paths (least_with None paths)

-- nothing, where no key is unknown; else the least path is refused
abbrev pub refuse_least : Option (List ℕ) → Reading ⊤
refuse_least None = Ok tt
refuse_least (Some path) = refusal path cause.Unknown

-- of the paths of unknown keys the least is refused; nothing is where there are none
abbrev pub known_alone : List (List ℕ) → Reading ⊤
known_alone paths = refuse_least (least_with None paths)

-- the bytes of each of some borrowed texts
abbrev pub words : List (Bor (List ℕ)) → List (List ℕ)
words texts = map (λ t. t.now) texts

-- the least path of the unknown keys that were met
abbrev pub least_path : UnknownKeys → Option (List ℕ)
least_path u = option_map string_bytes u.least
