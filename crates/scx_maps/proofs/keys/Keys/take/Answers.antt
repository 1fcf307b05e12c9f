use Rattle.std.proofs.Common.{◌+◌, ◌-◌, nat_eq, take, if◌then◌else◌, sym, ap, ◌∙◌}
use Rattle.std.specs.Vec.{vec_capacity}
use Rattle.scx_isa_semantics.specs.Directories.{free_slot}
use Rattle.scx_maps.specs.declared.keys.Keys.TheInside.{Inside}
use Rattle.scx_maps.proofs.Kept.{taken_kept_as, used_on}
use Rattle.scx_maps.proofs.keys.Keys.take.Goals.{then-is_none, else-is_none}
use Rattle.scx_maps.proofs.keys.Keys.take.Goals as goal

pub invariant_of-self : goal.invariant_of-self
invariant_of-self c =
    let was = c.self.inside in
    let is = c.if-is_none.self-inside in
    let left = c.pop.ensures.rest ∙ ap (λ n. take (n - 1) was.freed.items) was.freed.ok.0 in
    let used = used_on c.pop.result c.is_none.result was.freed.len c.pop.new.self.len was.used c.is_none.ensures c.pop.ensures.cases in
    let count = ap (λ n. if nat_eq n 0 then was.used + 1 else was.used) (sym was.freed.ok.0) in
    let kept =
    taken_kept_as was.held.items was.freed.items was.used (vec_capacity was.freed) was.index c.note.new.index c.args.slot c.args.key is.held.items c.deref.result.now is.freed.items is.used (vec_capacity is.freed)
    c.self.invariant (ap free_slot c.self.view_is ∙ c.requires.free) c.note.ensures.noted c.note.ensures.led c.note.ensures.room c.deref.ensures.value in
    elim c.if-is_none.branch [
      | then-is_none w ↦ kept (ap (λ (i : Inside). i.held.items) w.self-inside-is) (ap (λ (i : Inside). i.freed.items) w.self-inside-is ∙ left)
          (ap (λ (i : Inside). i.used) w.self-inside-is ∙ sym (count ∙ used ∙ ap (λ b. if b then was.used + 1 else was.used) w.if-is_none.true))
          (ap (λ (i : Inside). vec_capacity i.freed) w.self-inside-is ∙ c.pop.ensures.capacity)
      | else-is_none w ↦ kept (ap (λ (i : Inside). i.held.items) w.self-inside-is) (ap (λ (i : Inside). i.freed.items) w.self-inside-is ∙ left)
          (ap (λ (i : Inside). i.used) w.self-inside-is ∙ sym (count ∙ used ∙ ap (λ b. if b then was.used + 1 else was.used) w.if-is_none.false))
          (ap (λ (i : Inside). vec_capacity i.freed) w.self-inside-is ∙ c.pop.ensures.capacity)
    ]
