-- The lines of maps: one for each element of an array that isn't zero, and one for each value that
-- a hash, a queue or a stack has.
use Rattle.std.specs.Prelude.{ℕ, zero, suc, ◌+◌, ◌-◌, ◌*◌, ◌/◌, ◌%◌, min, max, nat_lt, Bool, if◌then◌else◌, List, [], ◌++◌, codes, decimal, encode_utf8, length, take, slice_index, slice_index_or, Option, Some, None}
use Rattle.std.specs.Char.{digit_char}
use Rattle.std.specs.Int.{div_ceil}
use Rattle.std.specs.List.{list_any}
use Rattle.scx_isa_semantics.specs.declared.map_kinds.MapKind.{MapKind}
use Rattle.scx_isa_semantics.specs.declared.map_kinds.MapKind.TheVariants as kind
use Rattle.scx_isa_semantics.specs.Directories.{Directory, Hash, copies, kind_of}
use Rattle.scx_isa_semantics.specs.Elements.{Maps, count, directory, number_at}
use Rattle.scx_isa_semantics.specs.Serving.{slot_count}
use Rattle.scx_maps.specs.Laws.{value_at, listed}
use Rattle.scx_sched.specs.Sim.{SimState}
use Rattle.scx_load_replay.specs.declared.scenario.Scenario.{Scenario}
use Rattle.scxsim_output.specs.Texts.{all_below}
use Rattle.scxsim_runs.specs.Scenarios.{last_in}

-- ---- values

-- a byte of the value isn't 0
abbrev pub is_nonzero : List ℕ → Bool
is_nonzero value = list_any (λ b. nat_lt 0 b) value

-- the number in the eight bytes that come after k times eight, or in those that are left
abbrev pub number_text : List ℕ → ℕ → List ℕ
number_text value k =
    codes " " ++ decimal (number_at value (8 * k) (min 8 (length value - 8 * k)))

-- a byte in two hexadecimal digits
abbrev pub byte_text : ℕ → List ℕ
byte_text b = codes " " ++ encode_utf8 (digit_char (b / 16)) ++ encode_utf8 (digit_char (b % 16))

-- the number of bytes up to the last of the first n that isn't 0
abbrev pub up_to_last : List ℕ → ℕ → ℕ
up_to_last value zero = 0
up_to_last value (suc n) = if nat_lt 0 (slice_index value n) then suc n else up_to_last value n

-- the number of bytes of a value that are printed: those of whole numbers, up to the last that
-- isn't 0, and of at least one
abbrev pub printed_count : List ℕ → ℕ
printed_count value = min (length value) (8 * max 1 (div_ceil (up_to_last value (length value)) 8))

-- the numbers in bytes, of eight bytes each and the last of those that are left
abbrev pub numbers_text : List ℕ → List ℕ
numbers_text bytes = all_below (number_text bytes) (div_ceil (length bytes) 8)

-- bytes in hexadecimal
abbrev pub bytes_text : List ℕ → List ℕ
bytes_text bytes = all_below (λ k. byte_text (slice_index bytes k)) (length bytes)

-- the end of a line, after that many zeros that aren't printed
abbrev pub end_text : ℕ → List ℕ
end_text zero = codes "\n"
end_text (suc n) = codes " zeros " ++ decimal (suc n) ++ codes "\n"

-- a value: its numbers and its bytes, and how many zeros come after them
unfoldable pub value_text : List ℕ → List ℕ
value_text value =
    codes " value" ++ numbers_text (take (printed_count value) value)
    ++ codes " bytes" ++ bytes_text (take (printed_count value) value)
    ++ end_text (length value - printed_count value)

-- ---- lines

-- a value under a key of that map
unfoldable pub key_line : ℕ → ℕ → List ℕ → List ℕ
key_line m k value = codes "map " ++ decimal m ++ codes " key " ++ decimal k ++ value_text value

-- a value under a key in the copy of a CPU
unfoldable pub copy_line : ℕ → ℕ → ℕ → List ℕ → List ℕ
copy_line m c k value =
    codes "map " ++ decimal m ++ codes " cpu " ++ decimal c ++ codes " key " ++ decimal k
    ++ value_text value

-- the value that the pop of that number gives, counted from 1
unfoldable pub pop_line : ℕ → ℕ → List ℕ → List ℕ
pop_line m n value = codes "map " ++ decimal m ++ codes " pop " ++ decimal n ++ value_text value

-- the line of a value, if one is there
abbrev pub if_there : (List ℕ → List ℕ) → Option (List ℕ) → List ℕ
if_there line None = []
if_there line (Some value) = line value

-- the line of a value, unless all of its bytes are 0
abbrev pub unless_zero : (List ℕ → List ℕ) → List ℕ → List ℕ
unless_zero line value = if is_nonzero value then line value else []

-- ---- maps

-- the elements of an array
abbrev pub array_lines : Maps → ℕ → List ℕ
array_lines maps m =
    all_below (λ k. if_there (unless_zero (key_line m k)) (value_at maps m 0 k)) (slot_count maps m)

-- the elements of a CPU's copy
abbrev pub copy_lines : Maps → ℕ → ℕ → List ℕ
copy_lines maps m c =
    all_below (λ k. if_there (unless_zero (copy_line m c k)) (value_at maps m c k))
    (slot_count maps m / copies)

-- the key that each slot of a hash holds
abbrev pub held_in : Directory → List (Option ℕ)
held_in (Hash s ks) = ks.held
held_in d = []

-- a key that a slot holds, and its value
abbrev pub held_line : Maps → ℕ → Option ℕ → List ℕ
held_line maps m None = []
held_line maps m (Some k) = if_there (key_line m k) (value_at maps m 0 k)

-- the keys of a hash, in the order of their slots
abbrev pub hash_lines : Maps → ℕ → List ℕ
hash_lines maps m =
    all_below (λ s. held_line maps m (slice_index_or (held_in (directory maps m)) s None))
    (length (held_in (directory maps m)))

-- the values of a queue, the oldest first
abbrev pub queue_lines : Maps → ℕ → List ℕ
queue_lines maps m =
    all_below (λ j. pop_line m (j + 1) (slice_index_or (listed maps m) j []))
    (length (listed maps m))

-- the values of a stack, the newest first
abbrev pub stack_lines : Maps → ℕ → List ℕ
stack_lines maps m =
    let n = length (listed maps m) in
    all_below (λ j. pop_line m (j + 1) (slice_index_or (listed maps m) (n - 1 - j) [])) n

-- the lines of a map, by its kind
abbrev pub lines_by : MapKind → Maps → ℕ → List ℕ
lines_by kind.Array maps m = array_lines maps m
lines_by kind.PerCpu maps m = all_below (copy_lines maps m) copies
lines_by (kind.Hash s) maps m = hash_lines maps m
lines_by kind.Queue maps m = queue_lines maps m
lines_by kind.Stack maps m = stack_lines maps m

-- the lines of the map of that number
abbrev pub kind_lines : Maps → ℕ → List ℕ
kind_lines maps m = lines_by (kind_of (directory maps m)) maps m

-- the lines of all maps, by their numbers
abbrev pub map_lines : Maps → List ℕ
map_lines maps = all_below (kind_lines maps) (count maps)

-- the lines of the maps after all events of a run
abbrev pub maps_text : Scenario → SimState → List ℕ
maps_text x s = map_lines (last_in x s).state.maps
