use Rattle.std.proofs.Common.{◌∷◌, []}
use Rattle.scx_vm_tagged.proofs.calls.arguments.Goals as goal

pub returns : goal.returns
returns c = λ maps.
    let first = c.argument.ensures maps in
    let second = c.argument-2.ensures maps in
    let third = c.argument-3.ensures maps in
    let fourth = c.argument-4.ensures maps in
    let fifth = c.argument-5.ensures maps in
    λ i. first i ∷ second i ∷ third i ∷ fourth i ∷ fifth i ∷ []
