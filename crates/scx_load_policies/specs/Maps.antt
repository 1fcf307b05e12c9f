-- The maps of a policy file: an array of tables, each with the number of entries, the bytes of a
-- value, the kind of the map and, of a hash, the bytes of a key.
use Rattle.std.specs.Prelude.{ℕ, nat_le, ◌==◌, List, [], codes, Ok, if◌then◌else◌}
use Rattle.std.specs.Str.{bytes_eq}
use Rattle.toml.specs.Data.{Data, Members, no_items, get_member}
use Rattle.scx_isa_semantics.specs.declared.map_kinds.KeySize.TheVariants.{Four, Eight}
use Rattle.scx_isa_semantics.specs.declared.map_kinds.MapKind.{MapKind}
use Rattle.scx_isa_semantics.specs.declared.map_kinds.MapKind.TheVariants.{Array, PerCpu, Hash, Queue, Stack}
use Rattle.scx_maps.specs.declared.shape.Shape.{Shape}
use Rattle.scx_maps.specs.declared.shape.TheConstants.{MAX_ENTRIES, MAX_VALUE_SIZE}
use Rattle.scx_maps.specs.declared.defs.TheConstants.{MAX_MAPS, MAX_BYTES}
use Rattle.scx_maps.specs.Limits.{total_bytes}
use Rattle.scx_load_files.specs.declared.fault.Cause.TheVariants as cause
use Rattle.scx_load_files.specs.declared.section.Limits.{Limits}
use Rattle.scx_isa_semantics.specs.Results.{◌>>=◌}
use Rattle.scx_load_files.specs.Faults.{Reading, refusal}
use Rattle.scx_load_files.specs.Paths.{element, below}
use Rattle.scx_load_files.specs.Values.{found_or, required, optional, integer_of, text_of, table_of, elements_of, each_from}

-- how many entries a map has, 1 to 65536
abbrev pub entry_limits : Limits
entry_limits = record { least = 1; most = MAX_ENTRIES }

-- how many bytes an element of a map has, 1 to 4096
abbrev pub size_limits : Limits
size_limits = record { least = 1; most = MAX_VALUE_SIZE }

-- how many bytes a key of a hash has, 4 or 8
abbrev pub key_limits : Limits
key_limits = record { least = 4; most = 8 }

-- a hash with keys of that many bytes, 4 or 8; any other number is refused at a path
abbrev pub hash_of : List ℕ → ℕ → Reading MapKind
hash_of path n =
    if n == 4 then Ok (Hash Four)
    else if n == 8 then Ok (Hash Eight) else refusal path cause.OutOfRange

-- a hash, which has a size of keys
abbrev pub hash_in : List ℕ → Members → Reading MapKind
hash_in path ms =
    required (integer_of key_limits) path (codes "key_size") ms
    >>= hash_of (below path (codes "key_size"))

-- a key that is refused, whatever its value
abbrev pub refused_key : List ℕ → Data → Reading MapKind
refused_key path d = refusal path cause.OutOfRange

-- no map but a hash has a size of keys
abbrev pub without_key_size : MapKind → List ℕ → Members → Reading MapKind
without_key_size k path ms = optional refused_key k path (codes "key_size") ms

-- the kind of map that a text names, with its size of keys; any other text is refused
abbrev pub kind_named : List ℕ → Members → List ℕ → Reading MapKind
kind_named path ms text =
    if bytes_eq text (codes "array") then without_key_size Array path ms
    else if bytes_eq text (codes "hash") then hash_in path ms
    else if bytes_eq text (codes "queue") then without_key_size Queue path ms
    else if bytes_eq text (codes "stack") then without_key_size Stack path ms
    else if bytes_eq text (codes "percpu") then without_key_size PerCpu path ms
    else refusal (below path (codes "kind")) cause.OutOfRange

-- the kind of map that a value names
abbrev pub kind_of : List ℕ → List ℕ → Members → Data → Reading MapKind
kind_of key path ms d = text_of key d >>= kind_named path ms

-- the kind of a map; where the key is absent, an array
abbrev pub kind_in : List ℕ → Members → Reading MapKind
kind_in path ms =
    found_or (kind_of (below path (codes "kind")) path ms) (without_key_size Array path ms)
    (get_member (codes "kind") ms)

-- the shape that the table at a path says
abbrev pub shape_in : List ℕ → Members → Reading Shape
shape_in path ms = do
  entries ← required (integer_of entry_limits) path (codes "entries") ms
  size ← required (integer_of size_limits) path (codes "value_size") ms
  kind ← kind_in path ms
  Ok (record { entries = entries; value_size = size; kind = kind })

-- the shape that the n-th element says
abbrev pub map_at : ℕ → Data → Reading Shape
map_at n d = table_of (element (codes "map") n) d >>= shape_in (element (codes "map") n)

-- the shapes, if they are not too large together
abbrev pub fitting : List Shape → Reading (List Shape)
fitting shapes =
    if nat_le (total_bytes shapes) MAX_BYTES then Ok shapes
    else refusal (codes "map") cause.OutOfRange

-- the shapes of the maps that a file says, in the order of its array `map`, which may be absent
abbrev pub maps : Members → Reading (List Shape)
maps ms = do
  elements ← optional (elements_of MAX_MAPS) no_items [] (codes "map") ms
  shapes ← each_from map_at 0 elements
  fitting shapes
