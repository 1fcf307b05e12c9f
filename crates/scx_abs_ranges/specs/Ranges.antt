-- Ranges of 64-bit numbers. A range is the set of multiples of two to the power of shift from low
-- to high. Both ends are such multiples, and a single number has the greatest shift, up to 3, that
-- fits: so one set has one range.
use Rattle.std.specs.Prelude.{ℕ, ◌-◌, ◌%◌, ◌^◌, ◌≡◌, ◌≤◌, ◌<◌, min, max, Bool, ◌&&◌, nat_eq, nat_le, if◌then◌else◌}
use Rattle.scx_abs_ranges.specs.declared.ranges.Range.{Range}

-- how many of the three lowest bits are 0, from the lowest on
abbrev pub trailing : ℕ → ℕ
trailing n =
    if nat_eq (n % 8) 0 then 3
    else if nat_eq (n % 4) 0 then 2
    else if nat_eq (n % 2) 0 then 1 else 0

-- the number is in the range
pub record IsIn (n : ℕ) (r : Range) : Type 0 where
  pub from_low : r.low ≤ n
  pub to_high : n ≤ r.high
  pub multiple : n % 2 ^ r.shift ≡ 0

-- it is the range of a set of numbers
pub record IsWellFormed (r : Range) : Type 0 where
  pub ordered : r.low ≤ r.high
  pub small : r.shift ≤ 3
  pub low_multiple : r.low % 2 ^ r.shift ≡ 0
  pub high_multiple : r.high % 2 ^ r.shift ≡ 0
  pub greatest : r.low ≡ r.high → r.shift ≡ trailing r.low

-- it is the range of a set of 64-bit numbers
pub record IsRange (r : Range) : Type 0 where
  pub formed : IsWellFormed r
  pub fits : r.high < 2 ^ 64

-- the first covers the second
pub record CoversRange (b a : Range) : Type 0 where
  pub low : b.low ≤ a.low
  pub high : a.high ≤ b.high
  pub shift : b.shift ≤ a.shift

-- the greatest multiple that isn't above a number
abbrev pub floor : ℕ → ℕ → ℕ
floor n shift = n - n % 2 ^ shift

-- the range between two multiples
abbrev pub between : ℕ → ℕ → ℕ → Range
between low high shift =
    record { low = low; high = high; shift = if nat_eq low high then trailing low else shift }

-- one number
abbrev pub single : ℕ → Range
single n = between n n 0

-- all numbers
abbrev pub all : Range
all = record { low = 0; high = 18446744073709551615; shift = 0 }

-- whether it holds one number alone
abbrev pub is_single : Range → Bool
is_single r = nat_eq r.low r.high

-- whether it holds the number
abbrev pub contains : ℕ → Range → Bool
contains n r = nat_le r.low n && nat_le n r.high && nat_eq (n % 2 ^ r.shift) 0

-- the least range that covers both
abbrev pub join_ranges : Range → Range → Range
join_ranges a b =
    record { low = min a.low b.low; high = max a.high b.high; shift = min a.shift b.shift }
