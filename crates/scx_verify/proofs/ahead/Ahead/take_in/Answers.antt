use Rattle.std.proofs.Common.{is_ok, if◌then◌else◌, Some, None, ◌∙◌, ap, sym, subst, arith}
use Rattle.scx_verify.specs.Pass.{IsAdded}
use Rattle.scx_verify.proofs.Indices.{within, found, some_there, pushed_or_not, exchanged_apart, exchanged_others, freed_there}
use Rattle.scx_verify.proofs.ahead.Ahead.take_in.Goals as goal

pub index_mut-requires : goal.index_mut-requires
index_mut-requires c =
    let at = found c.self.inside.indices.items c.self.inside.states.items c.self.inside.free.items c.args.self.now c.args.slot c.in-Some.index _ _ c.self.invariant c.self.view_is c.requires c.index.ensures c.in-Some.is in
    omega (arith, at.1, c.from.ensures, c.self.inside.states.ok.0)

pub invariant_of-self : goal.invariant_of-self
invariant_of-self c =
    let indices = c.self.inside.indices.items in
    let states = c.self.inside.states.items in
    let free = c.self.inside.free.items in
    let lt = within indices states c.args.self.now c.args.slot c.self.view_is c.requires in
    let at = found indices states free c.args.self.now c.args.slot c.in-Some.index _ _ c.self.invariant c.self.view_is c.requires c.index.ensures c.in-Some.is in
    exchanged_apart indices states c.args.self.now c.args.slot c.in-Some.index c.self.view_is at.0 c.from.result c.merge.new.kept free c.push.new.self.items lt c.self.invariant
    (pushed_or_not (is_ok c.push.result) free c.push.new.self.items c.in-Some.index c.push.ensures.items)

pub returns-clause-here : goal.returns-clause-here
returns-clause-here c =
    let indices = c.self.inside.indices.items in
    let states = c.self.inside.states.items in
    let now = c.args.self.now in
    let at = found indices states c.self.inside.free.items now c.args.slot c.from.result _ _ c.self.invariant c.self.view_is c.requires c.index.ensures (c.in-Some.is ∙ ap Some (sym c.from.ensures)) in
    let some = some_there indices states now c.args.slot c.from.result c.self.view_is at.0 c.index_mut.result.now _ at.1 c.index_mut.ensures.value in
    subst (λ o. IsAdded o (if c.args.live then Some c.args.state.now else None) (Some c.merge.new.state)) (sym some) c.merge.ensures

pub returns-clause-apart : goal.returns-clause-apart
returns-clause-apart c =
    let indices = c.self.inside.indices.items in
    let states = c.self.inside.states.items in
    let free = c.self.inside.free.items in
    let at = found indices states free c.args.self.now c.args.slot c.from.result _ _ c.self.invariant c.self.view_is c.requires c.index.ensures (c.in-Some.is ∙ ap Some (sym c.from.ensures)) in
    exchanged_others indices states c.args.self.now c.args.slot c.from.result c.self.view_is at.0 c.merge.new.kept free c.self.invariant

pub returns-clause-gone : goal.returns-clause-gone
returns-clause-gone c = freed_there c.self.inside.indices.items _ c.args.slot
    (within c.self.inside.indices.items c.self.inside.states.items c.args.self.now c.args.slot c.self.view_is c.requires)
