use Rattle.std.proofs.Common.{ap, ◌∙◌}
use Rattle.scx_isa_semantics.specs.declared.values.Value.TheVariants.{Unset}
use Rattle.scx_isa_semantics.specs.Machine.{with_register}
use Rattle.scx_vm_tagged.proofs.state.Core.end_call.Goals as goal

pub returns : goal.returns
returns c = λ maps.
    c.write-6.ensures maps ∙ ap (λ m. with_register m 0 c.args.answer)
    (c.write-5.ensures maps ∙ ap (λ m. with_register m 5 Unset)
    (c.write-4.ensures maps ∙ ap (λ m. with_register m 4 Unset)
    (c.write-3.ensures maps ∙ ap (λ m. with_register m 3 Unset)
    (c.write-2.ensures maps ∙ ap (λ m. with_register m 2 Unset) (c.write.ensures maps)))))
