-- The one register that is never written.
use Rattle.std.proofs.Common.{◌≡◌, false, nat_eq, refl}
use denote.Enum.Bare.{sameb}
use Rattle.scx_isa_semantics.specs.declared.registers.Register.{Register}
use Rattle.scx_isa_semantics.specs.declared.registers.Register.TheVariants.{R10}
use Rattle.scx_isa_semantics.specs.contracts.registers.Register.{the_type}
use Rattle.scx_isa_semantics.specs.Registers.{number}

-- any other has another number
pub not_last : (r : Register) → sameb the_type r R10 ≡ false → nat_eq (number r) 10 ≡ false
not_last R10 e = absurd (cc)
not_last r e = refl
