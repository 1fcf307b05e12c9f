-- The texts of a group's `cpu_max`: `MAX PERIOD` or `MAX`, a quota and the length of its periods in
-- microseconds (Linux Documentation/admin-guide/cgroup-v2.rst, `cpu.max`). That both are whole
-- milliseconds is this project's own.
use Rattle.std.specs.Prelude.{◌≡◌, ℕ, ◌≤◌, ◌+◌, ◌*◌, ◌/◌, ◌%◌, ◌^◌, Bool, true, ◌==◌, ◌&&◌, nat_lt, not, List, ◌∷◌, ◌++◌, length, take, drop, Option, Some, None, option_map, codes, if◌then◌else◌}
use Rattle.std.specs.List.{position}
use Rattle.std.specs.Str.{bytes_eq, all_ascii_digits}
use Rattle.std.specs.Str.Parse.{digits_value}
use Rattle.scx_weights.specs.Refusals.{max_quota, max_period, is_outside}
use Rattle.scx_load_workloads.specs.declared.limit.Limit.{Limit}

-- no quota, and periods of 100 ms
abbrev pub no_limit : Limit
no_limit = record { quota_ms = None; period_ms = 100 }

-- ---- the meaning of a text

-- one digit or more, and nothing else
abbrev pub is_numeral : List ℕ → Bool
is_numeral text = nat_lt 0 (length text) && all_ascii_digits text

-- the number that a numeral says, if it is less than 2 ^ 32
abbrev pub numeral : List ℕ → Option ℕ
numeral text =
    if is_numeral text && nat_lt (digits_value 10 text) (2 ^ 32) then Some (digits_value 10 text)
    else None

-- digits, as many as one likes, write that many milliseconds in microseconds: 1 ms to the greatest
pub record IsTime (most : ℕ) (text : List ℕ) (ms : ℕ) : Type 0 where
  pub digits : is_numeral text ≡ true
  pub value : digits_value 10 text ≡ ms * 1000
  pub least : 1 ≤ ms
  pub greatest : ms ≤ most

-- the word `max` is no quota, and digits are one
abbrev pub IsQuota : List ℕ → Option ℕ → Type 0
IsQuota text None = text ≡ codes "max"
IsQuota text (Some ms) = IsTime max_quota text ms

-- a limit is written in a text as a quota and a period, with one space between them, or
-- as a quota alone
pub data Says (limit : Limit) : List ℕ → Type 0 where
  both : (quota period : List ℕ)
      → IsQuota quota limit.quota_ms → IsTime max_period period limit.period_ms
      → Says limit (quota ++ 32 ∷ period)
  alone : (quota : List ℕ) → IsQuota quota limit.quota_ms → limit.period_ms ≡ 100 → Says limit quota

-- ---- how it is read

-- these microseconds are whole milliseconds, 1 to the greatest
abbrev pub is_time : ℕ → ℕ → Bool
is_time most us = ((us % 1000) == 0) && not (is_outside most (us / 1000))

-- microseconds in milliseconds, if these are whole, 1 to the greatest
abbrev pub whole_ms : ℕ → ℕ → Option ℕ
whole_ms most us = if is_time most us then Some (us / 1000) else None

-- the milliseconds that a numeral says in microseconds
abbrev pub ms_in : ℕ → List ℕ → Option ℕ
ms_in most text = if is_numeral text then whole_ms most (digits_value 10 text) else None

-- a quota, or that there is none
abbrev pub quota_in : List ℕ → Option (Option ℕ)
quota_in text =
    if bytes_eq text (codes "max") then Some None else option_map Some (ms_in max_quota text)

-- the quota and the period that two texts say
abbrev pub limit_of : Option (Option ℕ) → Option ℕ → Option Limit
limit_of None period = None
limit_of (Some quota) None = None
limit_of (Some quota) (Some period) = Some (record { quota_ms = quota; period_ms = period })

-- the limit of a text whose first space is there
abbrev pub limit_at : List ℕ → Option ℕ → Option Limit
limit_at text None = limit_of (quota_in text) (Some 100)
limit_at text (Some space) =
    limit_of (quota_in (take space text)) (ms_in max_period (drop (space + 1) text))

-- the limit that a text says
abbrev pub limit_in : List ℕ → Option Limit
limit_in text = limit_at text (position (λ b. b == 32) text)

-- ---- what is read is what is said

-- a text says that limit and no other, or, where there is none, it says no limit at all
abbrev pub SaysJust : List ℕ → Option Limit → Type 0
SaysJust text None = (limit : Limit) → ¬ (Says limit text)
SaysJust text (Some limit) = Says limit text × ((other : Limit) → Says other text → other ≡ limit)

-- each text says the limit that is read in it and no other, or none where none is read
abbrev pub TextsSayOneLimit : Type 0
TextsSayOneLimit = (text : List ℕ) → SaysJust text (limit_in text)
