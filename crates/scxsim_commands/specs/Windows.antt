-- The part of a run that two words name, and why they are refused.
use Rattle.std.specs.Prelude.{◌≡◌, ℕ, ◌<◌, ◌≤◌, max, List, Option, Some, None, ◌⊎◌}
use Rattle.std.specs.Str.Parse.{IsNumeral, digits_value, without_leading_plus}
use Rattle.scxsim_commands.specs.declared.windows.Span.{Span}
use Rattle.scxsim_commands.specs.declared.windows.Window.{Window}
use Rattle.scxsim_commands.specs.declared.refusal.Refusal.{Refusal}
use Rattle.scxsim_commands.specs.declared.refusal.Refusal.TheVariants.{OutOfRange}
use Rattle.scxsim_commands.specs.declared.refusal.Word.TheVariants as word

-- digits, with a plus before them or without one, say that moment
abbrev pub Says : List ℕ → ℕ → Type 0
Says text moment =
    IsNumeral 10 (without_leading_plus text)
    × (digits_value 10 (without_leading_plus text) ≡ moment)

-- the words name the part between these moments of a run of `ms` milliseconds
pub record IsPart (ms : ℕ) (span : Span) (from to : ℕ) : Type 0 where
  pub begins : Says span.from.now from
  pub ends : Says span.to.now to
  pub some : from < to
  pub inside : to ≤ ms

-- the window of a run: the part that words name, or the whole run where there are none
abbrev pub IsWindow : ℕ → Option Span → Window → Type 0
IsWindow ms None window = (window.from ≡ 0) × (window.to ≡ max ms 1)
IsWindow ms (Some span) window = IsPart ms span window.from window.to

-- one of the two words is out of range
abbrev pub IsSpanRefusal : Refusal → Type 0
IsSpanRefusal r = (r ≡ OutOfRange word.From) ⊎ (r ≡ OutOfRange word.To)

-- there are words, and they name no part of the run
abbrev pub IsBadSpan : ℕ → Option Span → Refusal → Type 0
IsBadSpan ms None r = ⊥
IsBadSpan ms (Some span) r = IsSpanRefusal r × ((from to : ℕ) → ¬ IsPart ms span from to)
