-- The number that follows in a sequence of random numbers.
use Rattle.std.proofs.Common.{◌≡◌, ℕ, ◌+◌, ◌*◌, ◌%◌, ◌^◌, arith}

-- a product that is cut to 64 bits before the sum is
pub cut_before : (n : ℕ) → (n * 6364136223846793005 % 2 ^ 64 + 1442695040888963407) % 2 ^ 64 ≡ (n * 6364136223846793005 + 1442695040888963407) % 2 ^ 64
cut_before n = omega arith
