use Rattle.std.proofs.Common.{◌≡◌, ℕ, suc, ◌<◌, length}
use Rattle.scxsim_views.specs.Claims.{due, level_at, IsLevel}
use Rattle.scxsim_views.proofs.claims.find_levels.Given as goal

abbrev pub invariant-loop-group : goal.invariant-loop-group
invariant-loop-group l =
    (length l.levels ≡ suc (length l.claims))
    × IsLevel l.claims 0 l.ran (level_at l.levels 0)
    × ((g : ℕ) → g < l.group → IsLevel l.claims (suc g) (due l.claims l.levels g) (level_at l.levels (suc g)))
