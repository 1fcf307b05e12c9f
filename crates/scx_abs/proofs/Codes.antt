-- The codes that helpers on maps answer are numbers of a register.
use Rattle.std.proofs.Common.{ℕ, ◌<◌, ◌^◌, Bool, true, false, nat_eq, nat_lt, Option, Some, None, Result, Ok, Err, if◌then◌else◌, arith}
use Rattle.scx_isa_semantics.specs.declared.map_kinds.Line.{Line}
use Rattle.scx_isa_semantics.specs.Directories.{Keys, Directory, Array, PerCpu, Hash, Queue, Stack, Placed, stays, not_there, is_there, invalid, array_updated, slot_of, free_slot, key_added, key_updated, key_deleted, line_pushed, oldest, newest, seek, updated_in, updated, deleted, pushed_on, pushed, peeked}
use Rattle.scx_isa_semantics.specs.Serving.{code_of}

-- the answer of a helper that found that
abbrev pub IsSmall : Result ℕ ℕ → Type 0
IsSmall r = code_of r < 2 ^ 64

either : (b : Bool) (r s : Result ℕ ℕ) → IsSmall r → IsSmall s → IsSmall (if b then r else s)
either true r s g h = g
either false r s g h = h

either_placed : (b : Bool) (p q : Placed) → IsSmall p.slot → IsSmall q.slot → IsSmall (if b then p else q).slot
either_placed true p q g h = g
either_placed false p q g h = h

array_small : (o : Option ℕ) (f : ℕ) → IsSmall (array_updated o f)
array_small None f = omega arith
array_small (Some s) f = either (nat_eq f 1) (Err is_there) (Ok s) (omega arith) (omega arith)

added_small : (of : Keys → Directory) (ks : Keys) (k : ℕ) (o : Option ℕ) → IsSmall (key_added of ks k o).slot
added_small of ks k None = omega arith
added_small of ks k (Some s) = omega arith

key_small : (of : Keys → Directory) (ks : Keys) (k f : ℕ) (o : Option ℕ) → IsSmall (key_updated of ks k f o).slot
key_small of ks k f (Some s) = either (nat_eq f 1) (Err is_there) (Ok s) (omega arith) (omega arith)
key_small of ks k f None = either_placed (nat_eq f 2) (stays (of ks) (Err not_there)) (key_added of ks k (free_slot ks)) (omega arith) (added_small of ks k (free_slot ks))

updated_in_small : (d : Directory) (n c k f : ℕ) → IsSmall (updated_in d n c k f).slot
updated_in_small (Hash z ks) n c k f = key_small (Hash z) ks k f (slot_of ks.held k)
updated_in_small Array n c k f = array_small (seek Array n c k) f
updated_in_small PerCpu n c k f = array_small (seek PerCpu n c k) f
updated_in_small (Queue l) n c k f = array_small (seek (Queue l) n c k) f
updated_in_small (Stack l) n c k f = array_small (seek (Stack l) n c k) f

-- of an update
pub updated_small : (d : Directory) (n c k f : ℕ) → IsSmall (updated d n c k f).slot
updated_small d n c k f = either_placed (nat_lt 2 f) (stays d (Err invalid)) (updated_in d n c k f) (omega arith) (updated_in_small d n c k f)

taken_small : (of : Keys → Directory) (ks : Keys) (o : Option ℕ) → IsSmall (key_deleted of ks o).slot
taken_small of ks None = omega arith
taken_small of ks (Some s) = omega arith

-- of a deletion
pub deleted_small : (d : Directory) (k : ℕ) → IsSmall (deleted d k).slot
deleted_small (Hash z ks) k = taken_small (Hash z) ks (slot_of ks.held k)
deleted_small Array k = omega arith
deleted_small PerCpu k = omega arith
deleted_small (Queue l) k = omega arith
deleted_small (Stack l) k = omega arith

line_small : (of : Line → Directory) (n : ℕ) (l : Line) (f : ℕ) → IsSmall (line_pushed of n l f).slot
line_small of n l f = either_placed (nat_lt l.count n) _ _ (omega arith) (either_placed (nat_eq f 2) _ _ (omega arith) (omega arith))

pushed_on_small : (d : Directory) (n f : ℕ) → IsSmall (pushed_on d n f).slot
pushed_on_small (Queue l) n f = line_small Queue n l f
pushed_on_small (Stack l) n f = line_small Stack n l f
pushed_on_small Array n f = omega arith
pushed_on_small PerCpu n f = omega arith
pushed_on_small (Hash z ks) n f = omega arith

-- of a push
pub pushed_small : (d : Directory) (n f : ℕ) → IsSmall (pushed d n f).slot
pushed_small d n f = either_placed (nat_eq f 1) (stays d (Err invalid)) _ (omega arith) (either_placed (nat_lt 2 f) (stays d (Err invalid)) (pushed_on d n f) (omega arith) (pushed_on_small d n f))

-- of a pop or a peek
pub peeked_small : (d : Directory) (n : ℕ) → IsSmall (peeked d n)
peeked_small (Queue l) n = either (nat_eq l.count 0) (Err not_there) (Ok (oldest n l)) (omega arith) (omega arith)
peeked_small (Stack l) n = either (nat_eq l.count 0) (Err not_there) (Ok (newest n l)) (omega arith) (omega arith)
peeked_small Array n = omega arith
peeked_small PerCpu n = omega arith
peeked_small (Hash z ks) n = omega arith
