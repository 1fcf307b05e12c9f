-- The text of a task's `cpus`: numbers and ranges of CPUs with commas between them, as `0-3,8` (the
-- list format of cpuset(7)). That a number has one or two digits, and a range no step, is this
-- project's own.
use Rattle.std.specs.Prelude.{◌≡◌, ℕ, ◌+◌, ◌-◌, ◌^◌, ◌<◌, ◌≤◌, Bool, true, ◌==◌, ◌&&◌, nat_le, nat_lt, List, [], ◌∷◌, ◌++◌, length, take, drop, All, Option, Some, None, if◌then◌else◌}
use Rattle.std.specs.Int.{bit_at}
use Rattle.std.specs.Int.Bits.{bit_or}
use Rattle.std.specs.List.{list_any, position, slice_split}
use Rattle.std.specs.Str.Parse.{digits_value}
use Rattle.scx_load_workloads.specs.Limit.{is_numeral, numeral}

-- ---- the meaning of a text

-- the CPUs from the first to the last
pub record Range : Type 0 where
  pub first : ℕ
  pub last : ℕ

-- one or two digits, and nothing else, say the number of a CPU
pub record IsCpu (text : List ℕ) (cpu : ℕ) : Type 0 where
  pub digits : is_numeral text ≡ true
  pub few : length text ≤ 2
  pub value : digits_value 10 text ≡ cpu

-- a part of a list says a range as two numbers with a hyphen between them, or one CPU as a number
pub data SaysRange (range : Range) : List ℕ → Type 0 where
  both : (first last : List ℕ)
      → IsCpu first range.first → IsCpu last range.last → SaysRange range (first ++ 45 ∷ last)
  alone : (cpu : List ℕ) → IsCpu cpu range.first → range.last ≡ range.first → SaysRange range cpu

-- a list says ranges, one at least, in parts with one comma between two
pub data SaysRanges : List Range → List ℕ → Type 0 where
  one : (range : Range) (part : List ℕ) → SaysRange range part → SaysRanges (range ∷ []) part
  more : (range : Range) (ranges : List Range) (part rest : List ℕ)
      → SaysRange range part → SaysRanges ranges rest
      → SaysRanges (range ∷ ranges) (part ++ 44 ∷ rest)

-- a range of a machine with this number of CPUs: from a lower or the same to a higher one
pub record IsRange (cpus : ℕ) (range : Range) : Type 0 where
  pub order : range.first ≤ range.last
  pub there : range.last < cpus

-- the CPU is in one of the ranges
abbrev pub is_named : List Range → ℕ → Bool
is_named ranges c = list_any (λ (range : Range). nat_le range.first c && nat_le c range.last) ranges

-- a text says a mask: it lists ranges of CPUs, and the mask's bits are those of the CPUs in them
pub record SaysMask (cpus mask : ℕ) (text : List ℕ) : Type 0 where
  pub ranges : List Range
  pub said : SaysRanges ranges text
  pub there : All (IsRange cpus) ranges
  pub bits : (c : ℕ) → (bit_at mask c == 1) ≡ is_named ranges c

-- ---- how it is read

-- the number that one or two digits say
abbrev pub cpu_in : List ℕ → Option ℕ
cpu_in text = if nat_le (length text) 2 then numeral text else None

-- the CPUs from the first to the last, one bit each, if they are there and in order
abbrev pub range_of : ℕ → Option ℕ → Option ℕ → Option ℕ
range_of cpus None last = None
range_of cpus (Some first) None = None
range_of cpus (Some first) (Some last) =
    if nat_le first last && nat_lt last cpus then Some (2 ^ (last + 1) - 2 ^ first) else None

-- the CPUs of a part whose first hyphen is there
abbrev pub range_at : ℕ → List ℕ → Option ℕ → Option ℕ
range_at cpus part None = range_of cpus (cpu_in part) (cpu_in part)
range_at cpus part (Some hyphen) =
    range_of cpus (cpu_in (take hyphen part)) (cpu_in (drop (hyphen + 1) part))

-- the CPUs that a part of a list says, one bit each
abbrev pub range_in : ℕ → List ℕ → Option ℕ
range_in cpus part = range_at cpus part (position (λ b. b == 45) part)

-- a mask, and the CPUs of a part beside it
abbrev pub joined : ℕ → Option ℕ → Option ℕ
joined mask None = None
joined mask (Some cpus) = Some (bit_or mask cpus)

-- a mask and the CPUs that more parts say; none where one of the parts says none
abbrev pub mask_with : ℕ → Option ℕ → List (List ℕ) → Option ℕ
mask_with cpus None parts = None
mask_with cpus (Some mask) [] = Some mask
mask_with cpus (Some mask) (part ∷ parts) =
    mask_with cpus (joined mask (range_in cpus part)) parts

-- the mask of the CPUs that a text says
abbrev pub mask_in : ℕ → List ℕ → Option ℕ
mask_in cpus text = mask_with cpus (Some 0) (slice_split (λ b. b == 44) text)

-- ---- what is read is what is said

-- a text says that mask and no other, or, where there is none, it says no mask at all
abbrev pub SaysJustMask : ℕ → List ℕ → Option ℕ → Type 0
SaysJustMask cpus text None = (mask : ℕ) → ¬ (SaysMask cpus mask text)
SaysJustMask cpus text (Some mask) =
    SaysMask cpus mask text × ((other : ℕ) → SaysMask cpus other text → other ≡ mask)

-- each text says the mask that is read in it and no other, or none where none is read
abbrev pub TextsSayOneMask : Type 0
TextsSayOneMask =
    (cpus : ℕ) → cpus ≤ 64 → (text : List ℕ) → SaysJustMask cpus text (mask_in cpus text)
