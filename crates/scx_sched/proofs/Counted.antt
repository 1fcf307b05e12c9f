-- Events are counted by how many are accepted still.
use Rattle.std.proofs.Common.{◌≡◌, ℕ, ◌+◌, ◌-◌, ◌<◌, ◌≤◌, ◌==◌, true, false, arith}
use Rattle.std.proofs.lemmas.Bool.Decides.{nat_tests}
use Rattle.scx_sched.specs.Sim.{max_events, accepted}

-- where none is left, as many were accepted as may be
pub none_left : (n : ℕ) → n ≡ 0 → (accepted n == max_events) ≡ true
none_left n e = grind (arith, nat_tests, e)

-- where one is left, fewer were
pub some_left : (n : ℕ) → 0 < n → n ≤ max_events → (accepted n == max_events) ≡ false
some_left n l few = grind (arith, nat_tests, l, few)

-- an event that is accepted leaves one less
pub one_less : (n : ℕ) → 0 < n → n ≤ max_events → accepted (n - 1) ≡ accepted n + 1
one_less n l few = omega (arith, l, few)

-- events that are accepted leave as many less
pub many_less : (n k : ℕ) → k ≤ n → n ≤ max_events → accepted (n - k) ≡ accepted n + k
many_less n k le few = omega (arith, le, few)

pub ruleset counts = (none_left, some_left, one_less)
