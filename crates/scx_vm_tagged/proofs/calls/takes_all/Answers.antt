use Rattle.std.proofs.Common.{◌&&◌, ◌∙◌}
use Rattle.scx_vm_tagged.specs.State.{seen}
use Rattle.scx_vm_tagged.proofs.HelperCalls.{takes_all-found}
use Rattle.scx_vm_tagged.proofs.calls.takes_all.Goals as goal

pub returns : goal.returns
returns c = λ maps.
    let first = c.takes.ensures maps in
    let second = c.takes-2.ensures maps in
    let third = c.takes-3.ensures maps in
    let fourth = c.takes-4.ensures maps in
    let fifth = c.takes-5.ensures maps in
    (λ i. first i && (second i && (third i && (fourth i && fifth i)))) ∙ takes_all-found (seen c.args.core.now maps) c.args.helper c.requires
