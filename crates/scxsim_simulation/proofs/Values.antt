-- The bytes of a value up to the last that isn't 0.
use Rattle.std.proofs.Common.{◌≡◌, ℕ, zero, suc, ◌-◌, ◌<◌, Bool, true, false, nat_lt, List, get_or, if◌then◌else◌, refl, ap, ◌∙◌, arith}
use Rattle.std.proofs.lemmas.Bool.{ltb-true}
use Rattle.scxsim_simulation.specs.MapLines.{up_to_last}

-- a byte that is 0 is not the last
pub one_less : (value : List ℕ) (n : ℕ) → 0 < n → get_or value (n - 1) 0 ≡ 0 → up_to_last value n ≡ up_to_last value (n - 1)
one_less value zero some is = absurd (omega (arith, some))
one_less value (suc n) some is = go (nat_lt 0 (get_or value n 0)) refl ∙ ap (λ i. up_to_last value i) same
  where
    same : n ≡ suc n - 1
    same = omega arith

    here : get_or value n 0 ≡ 0
    here = ap (λ i. get_or value i 0) same ∙ is

    go : (b : Bool) → nat_lt 0 (get_or value n 0) ≡ b → (if b then suc n else up_to_last value n) ≡ up_to_last value n
    go true more = absurd (omega (arith, ltb-true 0 (get_or value n 0) more, here))
    go false none = refl
