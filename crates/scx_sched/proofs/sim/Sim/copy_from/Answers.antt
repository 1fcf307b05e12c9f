use Rattle.std.proofs.Common.{◌≡◌, sym, ap, ◌∙◌, subst}
use Rattle.scx_sched_world.specs.World.{IsLike}
use Rattle.scx_sched_machine.specs.Steps.{State}
use Rattle.scx_sched.specs.Sim.{SimState, IsCounted, accepted}
use Rattle.scx_sched.proofs.sim.Sim.copy_from.Goals as goal

pub copy_from-requires : goal.copy_from-requires
copy_from-requires c =
    let own : c.self.inside.machine ≡ c.args.self.now.state = ap (λ (s : SimState). s.state) c.self.view_is in
    let others : c.other.inside.machine ≡ c.args.other.now.state = ap (λ (s : SimState). s.state) c.other.view_is in
    record {
      policy = ap (λ (s : State). s.policy) own ∙ (c.requires.policy ∙ sym (ap (λ (s : State). s.policy) others));
      world = subst (λ (s : State). IsLike s.world c.other.inside.machine.world) (sym own) (subst (λ (s : State). IsLike c.args.self.now.state.world s.world) (sym others) c.requires.world);
    }

pub returns : goal.returns
returns c =
    let n = accepted c.other.inside.left in
    let all : ◌≡◌ {A = SimState} (record { state = c.copy_from.new.self; events = n }) (record { state = c.other.inside.machine; events = n }) =
    λ i. record { state = c.copy_from.ensures i; events = n } in
    all ∙ c.other.view_is

pub invariant_of-self : goal.invariant_of-self
invariant_of-self c = subst (λ (s : State). IsCounted s c.other.inside.left) (sym c.copy_from.ensures) c.other.invariant
