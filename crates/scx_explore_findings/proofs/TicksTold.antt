-- What words tell of the time between two states by Linux rules: it is made of whole ticks.
use Rattle.std.proofs.Common.{◌≡◌, ℕ, ◌+◌, ◌*◌, ◌/◌, ◌%◌, ◌==◌, Bool, true, false, cond, refl, sym, ap, ◌∙◌, arith}
use Rattle.std.proofs.lemmas.Nat.{div-add-mod'}
use Rattle.std.proofs.Math.Nat.{mul-add-mod_self_right, mul-mod_left}
use Rattle.scx_sched_policy.specs.Policy.{PolicyState}
use Rattle.scx_sched_machine.specs.Steps.{State}
use Rattle.scx_explore_states.specs.Written.{past_tick, rules_words}
use Rattle.scx_explore_findings.specs.Delayed.{IsWholeTicks}
use Rattle.scx_explore_findings.proofs.LinuxTold.{linux_told}

-- a number is a multiple if nothing is left of it beside another one
multiple : (n a d : ℕ) → a % n ≡ (a + d) % n → d % n ≡ 0
multiple n a d same =
    let here = div-add-mod' a n in
    let there = div-add-mod' (a + d) n in
    let between : a / n * n + d ≡ (a + d) / n * n = omega (arith, here, there, same) in
    sym (mul-add-mod_self_right (a / n) n d) ∙ (ap (λ (m : ℕ). m % n) between ∙ mul-mod_left ((a + d) / n) n)

-- a time is made of whole ticks if the clock is as far past a tick after it as before
pub whole_ticks : (tick clock d : ℕ) → past_tick tick clock ≡ past_tick tick (clock + d) → past_tick tick d ≡ 0
whole_ticks tick clock d = go (tick == 0)
  where
    go : (b : Bool) → cond b 0 (clock % tick) ≡ cond b 0 ((clock + d) % tick) → cond b 0 (d % tick) ≡ 0
    go true e = refl
    go false e = multiple tick clock d e

-- two states of one policy whose words are the same are whole ticks apart
pub ticks_told : (d : ℕ) (s t : State) → s.policy ≡ t.policy → s.world.rules ≡ t.world.rules → rules_words s ≡ rules_words t → s.world.clock + d ≡ t.world.clock → IsWholeTicks d s
ticks_told d s t policy rules words later linux =
    whole_ticks s.policy.tick_ms s.world.clock d
    ((linux_told s t linux rules words).past
    ∙ (ap (λ (p : PolicyState). past_tick p.tick_ms t.world.clock) (sym policy) ∙ ap (past_tick s.policy.tick_ms) (sym later)))
