-- A key's own key is its time again.
use Rattle.std.proofs.Common.{◌≡◌, ℕ, ◌<◌, ◌^◌, refl, arith}
use Rattle.scx_isa_semantics.specs.declared.rules.Rules.{Rules}
use Rattle.scx_isa_semantics.specs.declared.rules.Rules.TheVariants.{Plain, Linux}
use Rattle.scxsim_views.specs.Keys.{key_of_time}

-- a key has its time as its key
pub key_twice : (rules : Rules) (key : ℕ) → key < 2 ^ 64 → key_of_time rules (key_of_time rules key) ≡ key
key_twice Plain key small = refl
key_twice Linux key small = omega (arith, small)
