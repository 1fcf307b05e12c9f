-- Steps between the members of a range, and the shifts that they mean.
use Rattle.std.specs.Prelude.{ℕ, ◌≡◌, nat_eq, if◌then◌else◌}
use Rattle.std.proofs.Common.{refl}
use Rattle.scx_abs_ranges.specs.declared.steps.Step.{Step}
use Rattle.scx_abs_ranges.specs.declared.steps.Step.TheVariants.{One, Two, Four, Eight}

-- the shift of a step, of which power of two it is
abbrev pub shift_of : Step → ℕ
shift_of One = 0
shift_of Two = 1
shift_of Four = 2
shift_of Eight = 3

-- the step of a shift; 3 and all above it give Eight
abbrev pub step_of : ℕ → Step
step_of n =
    if nat_eq n 0 then One else if nat_eq n 1 then Two else if nat_eq n 2 then Four else Eight

-- a step is that of its shift
pub step_back : (s : Step) → step_of (shift_of s) ≡ s
step_back One = refl
step_back Two = refl
step_back Four = refl
step_back Eight = refl
