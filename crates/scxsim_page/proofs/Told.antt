-- Waits by the clock.
use Rattle.std.proofs.Common.{◌≡◌, ◌≢◌, ℕ, ◌+◌, ◌-◌, ◌/◌, ◌%◌, ◌<◌, ◌⊎◌, inl, inr, Bool, true, false, if◌then◌else◌, refl, arith}
use Rattle.std.specs.Prelude.{nat_lt, ◌==◌}
use Rattle.std.proofs.lemmas.Bool.{ltb-true, lt-ltb, eqb-true, eqb-false, false≢true}
use Rattle.scxsim_template.specs.Pieces.{moment_of}
use Rattle.scxsim_page.specs.Clocks.{clock_of, is_without_tick}

-- the clock of a sum
pub clock_told : (sum : ℕ) → clock_of sum ≡ moment_of sum - sum % 2
clock_told sum = omega arith

-- a wait that has time by the clock
pub told : (since until : ℕ) → clock_of since < clock_of until → (moment_of since < moment_of until) ⊎ (is_without_tick since until ≡ true)
told since until less = go (moment_of since == moment_of until) refl
  where
    go : (b : Bool) → (moment_of since == moment_of until) ≡ b → (moment_of since < moment_of until) ⊎ ((if b then nat_lt since until else false) ≡ true)
    go true e = inr (lt-ltb since until (omega (arith, less)))
    go false e = inl (omega (arith, less, eqb-false (moment_of since) (moment_of until) e))

-- a wait without a tick
pub one_long : (since until : ℕ) → is_without_tick since until ≡ true → clock_of until ≡ clock_of since + 1
one_long since until = go (moment_of since == moment_of until) refl
  where
    go : (b : Bool) → (moment_of since == moment_of until) ≡ b → (if b then nat_lt since until else false) ≡ true → clock_of until ≡ clock_of since + 1
    go true e less = omega (arith, eqb-true (moment_of since) (moment_of until) e, ltb-true since until less)
    go false e less = absurd (false≢true less)
