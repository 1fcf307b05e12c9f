use Rattle.std.proofs.Common.{◌<◌, length, refl, sym, ◌∙◌, arith}
use Rattle.scx_isa_semantics.specs.Elements.{slots_in}
use Rattle.scx_maps.proofs.Blocks.{map_there, length-value_of, limits_of, some_bytes}
use Rattle.scx_maps.proofs.values.Values.value_size.Goals as goal

pub value_size-requires : goal.value_size-requires
value_size-requires c =
    let below : c.args.map < length c.args.self.now = omega arith in
    map_there c.self.inside.layout c.self.inside.block.items c.args.self.now c.args.map c.self.view_is below

pub returns-then-lookup-clause-size : goal.returns-then-lookup-clause-size
returns-then-lookup-clause-size c =
    let below : c.args.map < length c.args.self.now = omega arith in
    let within : c.args.index < length (slots_in c.args.self.now c.args.map) = c.if-lookup.ensures.0 refl in
    c.value_size.ensures ∙ sym (length-value_of c.self.inside.layout c.self.inside.block.items c.args.self.now c.args.map c.args.index c.self.view_is below within c.self.invariant.full)

pub returns-then-lookup-clause-most : goal.returns-then-lookup-clause-most
returns-then-lookup-clause-most c =
    let below : c.args.map < length c.args.self.now = omega arith in
    let there = map_there c.self.inside.layout c.self.inside.block.items c.args.self.now c.args.map c.self.view_is below in
    omega (arith, c.value_size.ensures, (limits_of c.self.inside.layout c.args.map c.self.invariant.limits there).value_size.within)

pub returns-then-lookup-clause-some : goal.returns-then-lookup-clause-some
returns-then-lookup-clause-some c below =
    some_bytes c.self.inside.layout c.self.inside.block.items c.args.self.now c.args.map c.self.view_is c.self.invariant.full c.self.invariant.limits below

pub returns-else-from-count-clause-some : goal.returns-else-from-count-clause-some
returns-else-from-count-clause-some c below =
    some_bytes c.self.inside.layout c.self.inside.block.items c.args.self.now c.args.map c.self.view_is c.self.invariant.full c.self.invariant.limits below
