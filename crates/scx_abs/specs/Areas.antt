-- The memory that an address means for an access: an offset on the stack lies in it with all
-- bytes of the access, and is a multiple of their number, so that they are bytes of one cell.
use Rattle.std.specs.Prelude.{ℕ, ◌+◌, ◌%◌, ◌≡◌, ◌≤◌}
use Rattle.scx_isa_semantics.specs.Memory.{stack_size}
use Rattle.scx_abs.specs.declared.memory.Area.{Area}
use Rattle.scx_abs.specs.declared.memory.Area.TheVariants.{OnStack, InElement, InTask}

-- n bytes from an offset on lie in memory of that size, and the offset is a multiple of n
pub record IsAlignedWithin (size n at : ℕ) : Type 0 where
  pub inside : at + n ≤ size
  pub aligned : at % n ≡ 0

-- that many bytes of the stack lie in it, at a multiple of them; of other memory this asks nothing
abbrev pub IsAlignedOnStack : ℕ → Area → Type 0
IsAlignedOnStack n (OnStack at) = IsAlignedWithin stack_size n at
IsAlignedOnStack n InElement = Unit {0}
IsAlignedOnStack n (InTask f) = Unit {0}
