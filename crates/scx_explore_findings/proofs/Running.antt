-- A run of a program with a number of instructions.
use Rattle.std.proofs.Common.{◌≡◌, ℕ, zero, suc, List, [], ◌∷◌, true, false, Option, Some, None, Result, inl, inr, refl, sym, ◌∙◌, subst, arith}
use Rattle.std.specs.Prelude.{is_ok, ◌⊎◌}
use Rattle.scx_isa_semantics.specs.declared.callbacks.Callback.{Callback}
use Rattle.scx_sched_machine.specs.declared.events.Refused.{Refused}
use Rattle.scx_sched_machine.specs.Hearing.{Hears}
use Rattle.scx_sched_machine.specs.Steps.{CallMade}
use Rattle.scx_sched.specs.Sim.{answer_of}
use Rattle.scx_explore_findings.specs.Running.{IsRunOf, IsRunAmong}
use Rattle.scx_explore_findings.specs.Tallies.{Tells}
use Rattle.scx_explore_findings.specs.declared.tally.Tally.{Tally}

-- a run is one of the callback and of the number that are the same
run_as : (c : CallMade) (b e : Callback) (m n : ℕ) → IsRunOf c b m → b ≡ e → m ≡ n → IsRunOf c e n
run_as c b e m n run same many = subst (λ (x : Callback). IsRunOf c x n) same (subst (λ (k : ℕ). IsRunOf c b k) many run)

-- a tally is told of a call that comes to an answer in that many steps
pub tells : (a b : Tally) (c : CallMade) (d e : Callback) (n : ℕ) → IsRunOf c e n → d ≡ e → b.callback ≡ a.callback → b.instructions ≡ a.instructions → (b.has_run ≡ true → (a.has_run ≡ true) ⊎ ((d ≡ a.callback) × (n ≡ a.instructions))) → Tells a c b
tells a b c d e n run is same many seen = (same, many, λ (h : b.has_run ≡ true). go (seen h))
  where
    go : (a.has_run ≡ true) ⊎ ((d ≡ a.callback) × (n ≡ a.instructions)) → (a.has_run ≡ true) ⊎ IsRunOf c a.callback a.instructions
    go (inl before) = inl before
    go (inr now) = inr (run_as c e a.callback n a.instructions run (sym is ∙ now.0) now.1)

-- one of a list's calls is one of the list with a call in front
behind : (c : CallMade) (cs : List CallMade) (e : Callback) (n : ℕ) → IsRunAmong cs e n → IsRunAmong (c ∷ cs) e n
behind c cs e n (k, x, l, at, run) = (suc k, x, omega (arith, l), at, run)

-- a tally that says that there was such a run said so before the calls, or one of them is one
seen_among : (a b : Tally) (cs : List CallMade) → Hears Tells a cs b → b.has_run ≡ true → (a.has_run ≡ true) ⊎ IsRunAmong cs a.callback a.instructions
seen_among a b [] e h = inl (subst (λ (x : Tally). x.has_run ≡ true) e h)
seen_among a b (c ∷ cs) (u, answered, (same, many, told), more) h = go (seen_among u b cs more h)
  where
    first : (a.has_run ≡ true) ⊎ IsRunOf c a.callback a.instructions → (a.has_run ≡ true) ⊎ IsRunAmong (c ∷ cs) a.callback a.instructions
    first (inl before) = inl before
    first (inr run) = inr (zero, c, omega arith, refl, run)

    go : (u.has_run ≡ true) ⊎ IsRunAmong cs u.callback u.instructions → (a.has_run ≡ true) ⊎ IsRunAmong (c ∷ cs) a.callback a.instructions
    go (inl before) = first (told before)
    go (inr run) =
        inr (subst (λ (x : Callback). IsRunAmong (c ∷ cs) x a.instructions) same (subst (λ (k : ℕ). IsRunAmong (c ∷ cs) u.callback k) many (behind c cs u.callback u.instructions run)))

-- where it had seen none before, one of the calls is one
pub run_wanted : (a b : Tally) (cs : List CallMade) (e : Callback) (n : ℕ) → Hears Tells a cs b → a ≡ record { callback = e; instructions = n; has_run = false } → b.has_run ≡ true → IsRunAmong cs e n
run_wanted a b cs e n heard begins seen = go (seen_among (record { callback = e; instructions = n; has_run = false }) b cs (subst (λ (x : Tally). Hears Tells x cs b) begins heard) seen)
  where
    go : (false ≡ true) ⊎ IsRunAmong cs e n → IsRunAmong cs e n
    go (inl never) = absurd (cc)
    go (inr run) = run

-- an event is accepted where the answer says so
pub is_accepted : (o : Option Refused) (r : Result (Unit {0}) Refused) → r ≡ answer_of o → is_ok r ≡ true → o ≡ None
is_accepted None r h ok = refl
is_accepted (Some x) r h ok = absurd (no (subst (λ (y : Result (Unit {0}) Refused). is_ok y ≡ true) h ok))
  where
    no : is_ok (answer_of (Some x)) ≡ true → ⊥
    no e = absurd (cc)
