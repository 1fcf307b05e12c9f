use Rattle.std.proofs.Common.{ap, ◌∙◌}
use Rattle.scx_vm_tagged.specs.MapCalls.{value_found}
use Rattle.scx_vm_tagged.proofs.on_map.element.Goals as goal

pub returns-in-Some : goal.returns-in-Some
returns-in-Some c =
    c.element_or_0.ensures ∙ ap (λ o. value_found c.args.maps.now c.args.map o) c.in-Some.ensures
