-- The part of a map beside its elements, which are slots for values (Linux, kernel/bpf/arraymap.c,
-- hashtab.c, queue_stack_maps.c). An array has none. A hash has the key in each slot, the slots that
-- were freed, and the first slot that was never used. A queue or a stack has the slot of its oldest
-- value and their number: its values are in a ring of slots. No part holds a byte of a value.
use Rattle.std.specs.Prelude.{ℕ, suc, ◌+◌, ◌-◌, ◌*◌, ◌/◌, ◌%◌, ◌^◌, Bool, true, false, ◌&&◌, nat_eq, nat_lt, List, [], ◌∷◌, ◌++◌, length, take, replicate, slice_get, slice_set, Option, Some, None, option_map, Result, Ok, Err, if◌then◌else◌}
use Rattle.scx_isa_semantics.specs.declared.map_kinds.KeySize.{KeySize}
use Rattle.scx_isa_semantics.specs.declared.map_kinds.Line.{Line}
use Rattle.scx_isa_semantics.specs.declared.map_kinds.KeySize.TheVariants.{Four}
use Rattle.scx_isa_semantics.specs.declared.map_kinds.MapKind.{MapKind}
use Rattle.scx_isa_semantics.specs.declared.map_kinds.MapKind.TheVariants as kind

-- the keys of a hash: the key in each slot, the slots that were freed, the last one last, and the
-- first slot that was never used
pub record Keys : Type 0 where
  pub held : List (Option ℕ)
  pub freed : List ℕ
  pub used : ℕ

-- the part of a map beside its elements
pub data Directory : Type 0 where
  Array : Directory
  PerCpu : Directory
  Hash : KeySize → Keys → Directory
  Queue : Line → Directory
  Stack : Line → Directory

-- the kind of a map that has this part
abbrev pub kind_of : Directory → MapKind
kind_of Array = kind.Array
kind_of PerCpu = kind.PerCpu
kind_of (Hash s ks) = kind.Hash s
kind_of (Queue l) = kind.Queue
kind_of (Stack l) = kind.Stack

-- the size of the keys of a map of that kind; it is of no account where a map has none
abbrev pub key_size : MapKind → KeySize
key_size (kind.Hash s) = s
key_size k = Four

-- ---- answers

-- the negated error number (uapi/asm-generic/errno-base.h), as a register holds it
abbrev pub refusal : ℕ → ℕ
refusal n = 2 ^ 64 - n

-- the key isn't there, or no value is: ENOENT
abbrev pub not_there : ℕ
not_there = refusal 2

-- no slot is left, or the key is none of the map's: E2BIG
abbrev pub too_big : ℕ
too_big = refusal 7

-- the key is there: EEXIST
abbrev pub is_there : ℕ
is_there = refusal 17

-- flags or a map that the helper doesn't take: EINVAL
abbrev pub invalid : ℕ
invalid = refusal 22

-- the part of a map after a helper, and the slot that it found, or the error number
pub record Placed : Type 0 where
  pub directory : Directory
  pub slot : Result ℕ ℕ

-- nothing changes
abbrev pub stays : Directory → Result ℕ ℕ → Placed
stays d r = record { directory = d; slot = r }

-- ---- arrays

-- the copies of a map that has one for each CPU
abbrev pub copies : ℕ
copies = 64

-- the slot of a key in an array of n elements
abbrev pub array_slot : ℕ → ℕ → Option ℕ
array_slot n k = if nat_lt k n then Some k else None

-- the slot of a key in the copy of a CPU, of n elements in all copies
abbrev pub copy_slot : ℕ → ℕ → ℕ → Option ℕ
copy_slot n c k =
    if nat_lt c copies && nat_lt k (n / copies) then Some (c * (n / copies) + k) else None

-- an update of an array, by the slot of its key and flags: all keys of an array are there
abbrev pub array_updated : Option ℕ → ℕ → Result ℕ ℕ
array_updated None f = Err too_big
array_updated (Some s) f = if nat_eq f 1 then Err is_there else Ok s

-- ---- hashes

-- true if a slot holds the key
abbrev pub holds_key : ℕ → Option ℕ → Bool
holds_key k None = false
holds_key k (Some h) = nat_eq h k

-- the first slot that holds the key
abbrev pub slot_of : List (Option ℕ) → ℕ → Option ℕ
slot_of [] k = None
slot_of (h ∷ held) k = if holds_key k h then Some 0 else option_map suc (slot_of held k)

-- the first slot that was never used, if one is left
abbrev pub unused_slot : Keys → Option ℕ
unused_slot ks = if nat_lt ks.used (length ks.held) then Some ks.used else None

-- the slot that was freed last, if there is one, or else that one
abbrev pub or_unused : Option ℕ → Option ℕ → Option ℕ
or_unused None u = u
or_unused (Some s) u = Some s

-- the slot that a new key takes: the one that was freed last, or else the first never used
abbrev pub free_slot : Keys → Option ℕ
free_slot ks = or_unused (slice_get ks.freed (length ks.freed - 1)) (unused_slot ks)

-- the keys with a new one in that slot, which is free
abbrev pub with_key : Keys → ℕ → ℕ → Keys
with_key ks s k = record {
  held = slice_set ks.held s (Some k);
  freed = take (length ks.freed - 1) ks.freed;
  used = if nat_eq (length ks.freed) 0 then ks.used + 1 else ks.used;
}

-- the keys without the one in that slot, which is free from now on
abbrev pub without_key : Keys → ℕ → Keys
without_key ks s = record {
  held = slice_set ks.held s None;
  freed = ks.freed ++ s ∷ [];
  used = ks.used;
}

-- a new key takes a free slot, if there is one
abbrev pub key_added : (Keys → Directory) → Keys → ℕ → Option ℕ → Placed
key_added of ks k None = stays (of ks) (Err too_big)
key_added of ks k (Some s) = record { directory = of (with_key ks s k); slot = Ok s }

-- an update of a key, by the slot that holds it and flags: 1 for new keys alone, 2 for old ones
abbrev pub key_updated : (Keys → Directory) → Keys → ℕ → ℕ → Option ℕ → Placed
key_updated of ks k f (Some s) = stays (of ks) (if nat_eq f 1 then Err is_there else Ok s)
key_updated of ks k f None =
    if nat_eq f 2 then stays (of ks) (Err not_there) else key_added of ks k (free_slot ks)

-- a key is taken out, by the slot that holds it
abbrev pub key_deleted : (Keys → Directory) → Keys → Option ℕ → Placed
key_deleted of ks None = stays (of ks) (Err not_there)
key_deleted of ks (Some s) = record { directory = of (without_key ks s); slot = Ok s }

-- ---- queues and stacks

-- the slot of the value that is so many behind the oldest, in a ring of n slots
abbrev pub line_slot : ℕ → Line → ℕ → ℕ
line_slot n l j = (l.first + j) % n

-- the slot of the oldest value, and of the newest
abbrev pub oldest : ℕ → Line → ℕ
oldest n l = line_slot n l 0

abbrev pub newest : ℕ → Line → ℕ
newest n l = line_slot n l (l.count - 1)

-- one value more
abbrev pub longer : Line → Line
longer l = record { first = l.first; count = l.count + 1 }

-- the line without its oldest value
abbrev pub without_oldest : ℕ → Line → Line
without_oldest n l = record { first = line_slot n l 1; count = l.count - 1 }

-- the line without its newest value
abbrev pub without_newest : Line → Line
without_newest l = record { first = l.first; count = l.count - 1 }

-- the line where its oldest value made way for a new one
abbrev pub turned : ℕ → Line → Line
turned n l = record { first = line_slot n l 1; count = l.count }

-- the line after a push with flags, and the slot for the value: with flags 2 the oldest value of a
-- full line makes way
abbrev pub line_pushed : (Line → Directory) → ℕ → Line → ℕ → Placed
line_pushed of n l f =
    if nat_lt l.count n then record { directory = of (longer l); slot = Ok (line_slot n l l.count) }
    else if nat_eq f 2 then record { directory = of (turned n l); slot = Ok (oldest n l) }
    else stays (of l) (Err too_big)

-- ---- helpers

-- the slot of a key, by the number of elements and a CPU
abbrev pub seek : Directory → ℕ → ℕ → ℕ → Option ℕ
seek Array n c k = array_slot n k
seek PerCpu n c k = copy_slot n c k
seek (Hash s ks) n c k = slot_of ks.held k
seek d n c k = None

-- an update of a key with flags that a map may take
abbrev pub updated_in : Directory → ℕ → ℕ → ℕ → ℕ → Placed
updated_in (Hash s ks) n c k f = key_updated (Hash s) ks k f (slot_of ks.held k)
updated_in d n c k f = stays d (array_updated (seek d n c k) f)

-- an update of a key: the slot for the value
abbrev pub updated : Directory → ℕ → ℕ → ℕ → ℕ → Placed
updated d n c k f = if nat_lt 2 f then stays d (Err invalid) else updated_in d n c k f

-- a key is taken out of a hash: the slot that it had
abbrev pub deleted : Directory → ℕ → Placed
deleted (Hash s ks) k = key_deleted (Hash s) ks (slot_of ks.held k)
deleted d k = stays d (Err invalid)

-- a push with flags that a map may take
abbrev pub pushed_on : Directory → ℕ → ℕ → Placed
pushed_on (Queue l) n f = line_pushed Queue n l f
pushed_on (Stack l) n f = line_pushed Stack n l f
pushed_on d n f = stays d (Err invalid)

-- a push: the slot for the value
abbrev pub pushed : Directory → ℕ → ℕ → Placed
pushed d n f =
    if nat_eq f 1 then stays d (Err invalid)
    else if nat_lt 2 f then stays d (Err invalid) else pushed_on d n f

-- the slot of the value that comes next, if there is one
abbrev pub next_of : ℕ → Line → ℕ → Result ℕ ℕ
next_of n l s = if nat_eq l.count 0 then Err not_there else Ok s

-- the slot of the value that a pop would take
abbrev pub peeked : Directory → ℕ → Result ℕ ℕ
peeked (Queue l) n = next_of n l (oldest n l)
peeked (Stack l) n = next_of n l (newest n l)
peeked d n = Err invalid

-- the part of a map without the value that comes next
abbrev pub shortened : Directory → ℕ → Directory
shortened (Queue l) n = Queue (if nat_eq l.count 0 then l else without_oldest n l)
shortened (Stack l) n = Stack (if nat_eq l.count 0 then l else without_newest l)
shortened d n = d

-- a pop: the slot of the value that it takes
abbrev pub popped : Directory → ℕ → Placed
popped d n = record { directory = shortened d n; slot = peeked d n }

-- ---- the beginning

-- the keys of a new hash of n elements
abbrev pub no_keys : ℕ → Keys
no_keys n = record { held = replicate n None; freed = []; used = 0 }

-- a new queue or stack
abbrev pub no_line : Line
no_line = record { first = 0; count = 0 }

-- the part of a new map of n elements, by its kind
abbrev pub new_directory : MapKind → ℕ → Directory
new_directory kind.Array n = Array
new_directory kind.PerCpu n = PerCpu
new_directory (kind.Hash s) n = Hash s (no_keys n)
new_directory kind.Queue n = Queue no_line
new_directory kind.Stack n = Stack no_line
