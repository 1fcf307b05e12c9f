use Rattle.std.proofs.Common.{◌≡◌, map, replicate, sym, ap, ◌∙◌, subst}
use Rattle.scx_maps.specs.declared.shape.Shape.{Shape}
use Rattle.scx_maps.specs.Slots.{slots}
use Rattle.scx_maps.specs.Contents.{kinds, HasShapes}
use Rattle.scx_sched_world.specs.World.{IsLike}
use Rattle.scx_sched_policy.specs.Policy.{PolicyState}
use Rattle.scx_sched_machine.specs.Steps.{State}
use Rattle.scx_sched_machine.proofs.machine.Machine.copy_from.Goals as goal

pub copy_from-requires-clause-kinds : goal.copy_from-requires-clause-kinds
copy_from-requires-clause-kinds c =
    let same : c.self.inside.policy ≡ c.other.inside.policy = ap (λ (s : State). s.policy) c.self.view_is ∙ (c.requires.policy ∙ sym (ap (λ (s : State). s.policy) c.other.view_is)) in
    c.self.invariant.kinds ∙ (ap (λ (p : PolicyState). kinds p.shapes) same ∙ sym c.other.invariant.kinds)

pub copy_from-requires-clause-lengths : goal.copy_from-requires-clause-lengths
copy_from-requires-clause-lengths c =
    let same : c.self.inside.policy ≡ c.other.inside.policy = ap (λ (s : State). s.policy) c.self.view_is ∙ (c.requires.policy ∙ sym (ap (λ (s : State). s.policy) c.other.view_is)) in
    c.self.invariant.lengths ∙ (ap (λ (p : PolicyState). map (λ (s : Shape). replicate (slots s) s.value_size) p.shapes) same ∙ sym c.other.invariant.lengths)

pub copy_from-requires-2 : goal.copy_from-requires-2
copy_from-requires-2 c =
    let own : c.self.inside.world ≡ c.args.self.now.world = ap (λ (s : State). s.world) c.self.view_is in
    let others : c.other.inside.world ≡ c.args.other.now.world = ap (λ (s : State). s.world) c.other.view_is in
    subst (λ w. IsLike w c.other.inside.world) (sym own) (subst (λ w. IsLike c.args.self.now.world w) (sym others) c.requires.world)

pub returns : goal.returns
returns c =
    let same : c.self.inside.policy ≡ c.other.inside.policy = ap (λ (s : State). s.policy) c.self.view_is ∙ (c.requires.policy ∙ sym (ap (λ (s : State). s.policy) c.other.view_is)) in
    let all : ◌≡◌ {A = State} (record { policy = c.self.inside.policy; maps = c.copy_from.new.self; world = c.copy_from-2.new.self }) (record { policy = c.other.inside.policy; maps = c.other.inside.maps; world = c.other.inside.world }) =
    λ i. record { policy = same i; maps = c.copy_from.ensures i; world = c.copy_from-2.ensures i } in
    all ∙ c.other.view_is

pub invariant_of-self : goal.invariant_of-self
invariant_of-self c =
    let same : c.self.inside.policy ≡ c.other.inside.policy = ap (λ (s : State). s.policy) c.self.view_is ∙ (c.requires.policy ∙ sym (ap (λ (s : State). s.policy) c.other.view_is)) in
    subst (λ m. HasShapes c.self.inside.policy.shapes m) (sym c.copy_from.ensures) (subst (λ (p : PolicyState). HasShapes p.shapes c.other.inside.maps) (sym same) c.other.invariant)
