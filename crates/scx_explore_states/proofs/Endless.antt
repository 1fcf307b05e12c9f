-- The one slice of 64 bits that never ends.
use Rattle.std.proofs.Common.{◌≡◌, ℕ, ◌-◌, ◌%◌, ◌<◌, ◌≤◌, ◌==◌, ◌&&◌, Bool, sym, ap, ◌∙◌, ⊎_elim, arith}
use Rattle.std.proofs.lemmas.Bool.{cases_lt, eq-eqb, ne_eqb, lt-leb}
use Rattle.scx_explore_states.specs.Rows.{is_endless}

pub endless_of_64 : (n : ℕ) → n ≤ 0xffff_ffff_ffff_ffff → (n == 0xffff_ffff_ffff_ffff) ≡ is_endless n
endless_of_64 n most =
    ⊎_elim (λ (l : n < 0xffff_ffff_ffff_ffff).
    ne_eqb n 0xffff_ffff_ffff_ffff (λ e. omega (arith, l, e)) ∙ sym (ap (λ (b : Bool). b && ((n - 0xffff_ffff_ffff_ffff) % 1000000 == 0)) (lt-leb 0xffff_ffff_ffff_ffff n l)))
    (λ (l : 0xffff_ffff_ffff_ffff ≤ n).
    let is : n ≡ 0xffff_ffff_ffff_ffff = omega (arith, most, l) in
    eq-eqb n 0xffff_ffff_ffff_ffff is ∙ sym (ap is_endless is)) (cases_lt n 0xffff_ffff_ffff_ffff)
