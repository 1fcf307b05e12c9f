use Rattle.std.proofs.Common.{◌≡◌, length, Some, refl, ◌∙◌, ap, sym, subst, arith}
use Rattle.scx_abs.specs.Changes.{after_change}
use Rattle.scx_verify.specs.Pass.{IsMerged}
use Rattle.scx_verify.proofs.Indices.{within, read_there, free_small, kept_apart, kept_there, kept_others, none_there, found, some_there, joined_there, joined_others}
use Rattle.scx_verify.proofs.ahead.Ahead.send.Goals as goal

pub index_mut-requires : goal.index_mut-requires
index_mut-requires c =
    let at = found c.self.inside.indices.items c.self.inside.states.items c.self.inside.free.items c.args.self.now c.args.slot c.in-Some.index _ _ c.self.invariant c.self.view_is c.requires c.index.ensures c.in-Some.is in
    omega (arith, at.1, c.from.ensures, c.self.inside.states.ok.0)

pub keep-requires : goal.keep-requires
keep-requires c = free_small c.self.inside.indices.items c.self.inside.free.items (length c.self.inside.states.items) c.self.invariant

pub invariant_of-self-in-None : goal.invariant_of-self-in-None
invariant_of-self-in-None c =
    let lt = within c.self.inside.indices.items c.self.inside.states.items c.args.self.now c.args.slot c.self.view_is c.requires in
    kept_apart c.self.inside.indices.items c.args.slot c.self.inside.states.items c.self.inside.free.items c.in_ok-index-in-None.index (after_change c.args.state.now c.args.change.now)
    c.keep.new.states.items c.keep.new.free.items lt c.self.invariant c.in_ok-index-in-None.ensures.kept

pub returns-in-Some-clause-sent : goal.returns-in-Some-clause-sent
returns-in-Some-clause-sent c =
    let indices = c.self.inside.indices.items in
    let states = c.self.inside.states.items in
    let now = c.args.self.now in
    let x = c.join_in.new.self in
    let at = found indices states c.self.inside.free.items now c.args.slot c.from.result _ _ c.self.invariant c.self.view_is c.requires c.index.ensures (c.in-Some.is ∙ ap Some (sym c.from.ensures)) in
    let some = some_there indices states now c.args.slot c.from.result c.self.view_is at.0 c.index_mut.result.now _ at.1 c.index_mut.ensures.value in
    let a = after_change c.args.state.now c.args.change.now in
    let sent : c.write_over.new.kept ≡ a = c.write_over.ensures in
    (x, subst (λ o. IsMerged o a x) (sym some) (subst (λ a. IsMerged (Some c.index_mut.result.now) a x) sent (c.join_in.ensures.least, c.join_in.ensures.proper)), joined_there indices states now c.args.slot c.from.result c.self.view_is at.0 x at.1)

pub returns-in-Some-clause-apart : goal.returns-in-Some-clause-apart
returns-in-Some-clause-apart c =
    let indices = c.self.inside.indices.items in
    let states = c.self.inside.states.items in
    let free = c.self.inside.free.items in
    let at = found indices states free c.args.self.now c.args.slot c.from.result _ _ c.self.invariant c.self.view_is c.requires c.index.ensures (c.in-Some.is ∙ ap Some (sym c.from.ensures)) in
    joined_others indices states c.args.self.now c.args.slot c.from.result c.self.view_is at.0 free c.self.invariant c.join_in.new.self

pub returns-in_ok-index-in-None-clause-sent : goal.returns-in_ok-index-in-None-clause-sent
returns-in_ok-index-in-None-clause-sent c =
    let indices = c.self.inside.indices.items in
    let states = c.self.inside.states.items in
    let now = c.args.self.now in
    let a = after_change c.args.state.now c.args.change.now in
    let lt = within indices states now c.args.slot c.self.view_is c.requires in
    let none = none_there indices states now c.args.slot c.self.view_is (read_there indices states now c.args.slot _ _ c.self.view_is c.requires c.index.ensures ∙ c.in-None.is) in
    let same : a ≡ a = refl in
    (a, subst (λ o. IsMerged o a a) (sym none) same, kept_there indices c.args.slot states c.self.inside.free.items c.in_ok-index-in-None.index a c.keep.new.states.items c.keep.new.free.items lt c.self.invariant c.in_ok-index-in-None.ensures.kept)

pub returns-in_ok-index-in-None-clause-apart : goal.returns-in_ok-index-in-None-clause-apart
returns-in_ok-index-in-None-clause-apart c =
    let lt = within c.self.inside.indices.items c.self.inside.states.items c.args.self.now c.args.slot c.self.view_is c.requires in
    kept_others c.self.inside.indices.items c.args.slot c.self.inside.states.items c.self.inside.free.items c.in_ok-index-in-None.index (after_change c.args.state.now c.args.change.now)
    c.keep.new.states.items c.keep.new.free.items lt c.self.invariant c.in_ok-index-in-None.ensures.kept c.args.self.now c.self.view_is
