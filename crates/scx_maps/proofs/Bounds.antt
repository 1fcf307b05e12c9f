-- The bytes of maps that are within their limits can be counted.
use Rattle.std.proofs.Common.{◌≡◌, ℕ, ◌+◌, ◌≤◌, ◌<◌, List, length, take, get_or, arith}
use Rattle.std.proofs.Math.Nat.{mul-le-mul}
use Rattle.std.specs.Prelude.{All}
use Rattle.std.proofs.lemmas.List.Sums.{sum_by-le, sum_by_more_le}
use Rattle.scx_isa_semantics.specs.declared.map_kinds.MapKind.TheVariants.{Array, PerCpu, Hash, Queue, Stack}
use Rattle.scx_maps.specs.declared.shape.Shape.{Shape}
use Rattle.scx_maps.specs.Slots.{slots, slots_by}
use Rattle.scx_maps.specs.declared.defs.TheConstants.{MAX_MAPS}
use Rattle.scx_maps.specs.Limits.{IsWithinLimits, byte_count, total_bytes}
use Rattle.scx_maps.specs.Unused.{unused_shape}

-- a map has at most so many elements
pub slots-le : (s : Shape) → IsWithinLimits s → slots s ≤ 4194304
slots-le s limits = elim s.kind as (λ k. slots_by k s.entries ≤ 4194304) [
  | Array ↦ omega (arith, limits.entries.within)
  | PerCpu ↦ omega (arith, limits.entries.within)
  | Hash z ↦ omega (arith, limits.entries.within)
  | Queue ↦ omega (arith, limits.entries.within)
  | Stack ↦ omega (arith, limits.entries.within)
]

-- of one map
pub byte_count-le : (s : Shape) → IsWithinLimits s → byte_count s ≤ 17179869184
byte_count-le s limits = mul-le-mul (slots-le s limits) limits.value_size.within

-- of all maps
pub total_bytes-le : (shapes : List Shape) → length shapes ≤ MAX_MAPS → All IsWithinLimits shapes → total_bytes shapes ≤ 274877906944
total_bytes-le shapes count each =
    let sum = sum_by-le byte_count 17179869184 shapes (λ k d below. byte_count-le (get_or shapes k d) (each k d below)) in
    omega (arith, sum, count)

-- so the bytes so far and those of the next map fit
pub more_fits : (shapes : List Shape) (m bytes more : ℕ) → length shapes ≤ MAX_MAPS → All IsWithinLimits shapes → m < length shapes → bytes ≡ total_bytes (take m shapes)
    → more ≡ byte_count (get_or shapes m unused_shape) → bytes + more < 18446744073709551616
more_fits shapes m bytes more count each below so_far next =
    let part = sum_by_more_le byte_count shapes m unused_shape below in
    let whole = total_bytes-le shapes count each in
    omega (arith, part, whole, so_far, next)
