use Rattle.std.proofs.Common.{Bool, ◌||◌, refl, sym, ap, ◌∙◌}
use Rattle.scx_explore_states.specs.Written.{needs_slices}
use Rattle.scx_explore_states.proofs.form.Form.suited_to.Goals as goal
use Rattle.scx_explore_states.proofs.form.Form.suited_to.Goals.{then-self, else-self}

pub returns : goal.returns
returns c = record {
  rest = refl;
  slices =
      let needs : Bool = needs_slices c.args.sim.now.state.world in
      elim c.if-self.branch [
        | then-self w ↦ w.result-is ∙ (w.if-self.true ∙ sym (ap (λ (b : Bool). b || needs) w.if-self.true))
        | else-self w ↦ w.result-is ∙ (c.needs_slices-needed.ensures ∙ sym (ap (λ (b : Bool). b || needs) w.if-self.false))
      ];
  few = rw c.maps.ensures at c.of.ensures;
}
