use Rattle.std.proofs.Common.{◌≡◌, true, false, nat_eq, sym, ap, ◌∙◌, refl}
use Rattle.scx_isa_semantics.specs.declared.values.Value.TheVariants.{Number}
use Rattle.scx_isa_semantics.specs.Meaning.{is_plain}
use Rattle.scx_isa_semantics.specs.Registers.{number}
use Rattle.scx_vm_tagged.specs.State.{seen}
use Rattle.scx_vm_tagged.proofs.Registers.{not_last}
use Rattle.scx_vm_tagged.proofs.Fields.{field_loaded}
use Rattle.scx_vm_tagged.proofs.access.load_field.Goals as goal

pub returns : goal.returns
returns g c = λ maps.
    let other : nat_eq (number c.args.destination) 10 ≡ false = not_last c.args.destination (sym c.eq.ensures ∙ c.if-eq.false) in
    let plain : is_plain c.args.access ≡ true = cc (c.is_plain.ensures, c.if-not-is_plain.false) in
    field_loaded _ (seen c.args.core.now maps) (number c.args.destination) c.args.access c.args.task c.args.field (Number c.load-n.result) c.args.env.now (seen c.write.new.self maps)
    plain other (ap Number c.load-n.ensures.number, refl, c.load-n.ensures.fits) (c.write.ensures maps)
