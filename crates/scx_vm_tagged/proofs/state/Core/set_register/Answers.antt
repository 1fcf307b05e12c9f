use Rattle.std.proofs.Common.{◌≡◌, false, nat_eq, sym, ap, ◌∙◌}
use Rattle.scx_isa_semantics.specs.Effects.{Next}
use Rattle.scx_isa_semantics.specs.Registers.{number}
use Rattle.scx_vm_tagged.proofs.Registers.{not_last}
use Rattle.scx_vm_tagged.proofs.state.Core.set_register.Goals as goal

pub returns : goal.returns
returns c = λ maps.
    let other : nat_eq (number c.args.register) 10 ≡ false = not_last c.args.register (sym c.eq.ensures ∙ c.if-eq.false) in
    rw (c.in-Some.is, other) (ap Next (sym (c.write.ensures maps)))
