use Rattle.std.proofs.Common.{take, ap, ◌∙◌, subst, arith}
use Rattle.scx_sched_machine.specs.Hearing.{Hears}
use Rattle.scx_sched_machine.specs.Notes.{Takes}
use Rattle.scx_sched.specs.Sim.{SimState, refusal, answer_of, notes_of, calls_of}
use Rattle.scx_explore_findings.specs.Path.{last_of}
use Rattle.scx_explore_findings.proofs.Replaying.{is_accepted, is_refused}
use Rattle.scx_explore_findings.proofs.PathFields.{from_last, shown, shown_many, along_still, along_further, view_further, view_still}
use Rattle.scx_explore_findings.proofs.path.Path.go_on.Goals as goal

pub invariant_of-self : goal.invariant_of-self
invariant_of-self g c = record {
  along = rw (shown c.self.inside c.args.self.now c.self.view_is c.self.invariant c.args.event c.len-depth.result (omega (arith, c.len-depth.ensures, c.self.inside.events.ok.0)) c.as_mut_slice.result.now c.step_from.new.sims c.as_mut_slice.ensures.value c.step_from.ensures.sims, c.push_reserved.ensures.items) (along_further c.self.inside c.args.self.now c.self.view_is c.self.invariant c.args.event c.len-depth.result (omega (arith, c.len-depth.ensures, c.self.inside.events.ok.0)) c.as_mut_slice.result.now c.step_from.new.sims c.as_mut_slice.ensures.value c.step_from.ensures.sims c.requires (is_accepted (refusal (last_of c.self.inside.root (take c.len-depth.result c.as_mut_slice.result.now)) c.args.event) tt c.in-Ok.ensures.answer));
  alike = rw (shown c.self.inside c.args.self.now c.self.view_is c.self.invariant c.args.event c.len-depth.result (omega (arith, c.len-depth.ensures, c.self.inside.events.ok.0)) c.as_mut_slice.result.now c.step_from.new.sims c.as_mut_slice.ensures.value c.step_from.ensures.sims) c.step_from.ensures.alike;
  room =
      let many = shown_many c.self.inside c.args.self.now c.self.view_is c.self.invariant c.args.event c.len-depth.result (omega (arith, c.len-depth.ensures, c.self.inside.events.ok.0)) c.as_mut_slice.result.now c.step_from.new.sims c.as_mut_slice.ensures.value c.step_from.ensures.sims in
      omega (arith, many, c.self.invariant.room, c.push_reserved.ensures.capacity);
}

pub returns-in-Ok-clause-answer : goal.returns-in-Ok-clause-answer
returns-in-Ok-clause-answer g c =
    c.in-Ok.ensures.answer ∙ ap (λ (s : SimState). answer_of (refusal s c.args.event)) (from_last c.self.inside c.args.self.now c.self.view_is c.self.invariant c.args.event c.len-depth.result (omega (arith, c.len-depth.ensures, c.self.inside.events.ok.0)) c.as_mut_slice.result.now c.step_from.new.sims c.as_mut_slice.ensures.value c.step_from.ensures.sims)

pub returns-in-Ok-clause-list : goal.returns-in-Ok-clause-list
returns-in-Ok-clause-list g c =
    view_further c.self.inside c.args.self.now c.self.view_is c.self.invariant c.args.event c.len-depth.result (omega (arith, c.len-depth.ensures, c.self.inside.events.ok.0)) c.as_mut_slice.result.now c.step_from.new.sims c.as_mut_slice.ensures.value c.step_from.ensures.sims _ c.push_reserved.new.self.items (shown_many c.self.inside c.args.self.now c.self.view_is c.self.invariant c.args.event c.len-depth.result (omega (arith, c.len-depth.ensures, c.self.inside.events.ok.0)) c.as_mut_slice.result.now c.step_from.new.sims c.as_mut_slice.ensures.value c.step_from.ensures.sims) c.push_reserved.ensures.items (is_accepted (refusal (last_of c.self.inside.root (take c.len-depth.result c.as_mut_slice.result.now)) c.args.event) tt c.in-Ok.ensures.answer)

pub returns-in-Ok-clause-notes : goal.returns-in-Ok-clause-notes
returns-in-Ok-clause-notes g c =
    subst (λ (s : SimState). Takes g.H.Hearer.takes (g.H.Hearer.noted c.args.hearer.now) (notes_of s c.args.event) (g.H.Hearer.noted c.step_from.new.hearer)) (from_last c.self.inside c.args.self.now c.self.view_is c.self.invariant c.args.event c.len-depth.result (omega (arith, c.len-depth.ensures, c.self.inside.events.ok.0)) c.as_mut_slice.result.now c.step_from.new.sims c.as_mut_slice.ensures.value c.step_from.ensures.sims) c.step_from.ensures.notes

pub returns-in-Ok-clause-calls : goal.returns-in-Ok-clause-calls
returns-in-Ok-clause-calls g c =
    subst (λ (s : SimState). Hears g.H.Hearer.hears (g.H.Hearer.told c.args.hearer.now) (calls_of s c.args.event) (g.H.Hearer.told c.step_from.new.hearer)) (from_last c.self.inside c.args.self.now c.self.view_is c.self.invariant c.args.event c.len-depth.result (omega (arith, c.len-depth.ensures, c.self.inside.events.ok.0)) c.as_mut_slice.result.now c.step_from.new.sims c.as_mut_slice.ensures.value c.step_from.ensures.sims) c.step_from.ensures.calls

pub invariant_of-self-in-Err : goal.invariant_of-self-in-Err
invariant_of-self-in-Err g c = record {
  along = rw (shown c.self.inside c.args.self.now c.self.view_is c.self.invariant c.args.event c.len-depth.result (omega (arith, c.len-depth.ensures, c.self.inside.events.ok.0)) c.as_mut_slice.result.now c.step_from.new.sims c.as_mut_slice.ensures.value c.step_from.ensures.sims) (along_still c.self.inside c.args.self.now c.self.view_is c.self.invariant c.args.event c.len-depth.result (omega (arith, c.len-depth.ensures, c.self.inside.events.ok.0)) c.as_mut_slice.result.now c.step_from.new.sims c.as_mut_slice.ensures.value c.step_from.ensures.sims);
  alike = rw (shown c.self.inside c.args.self.now c.self.view_is c.self.invariant c.args.event c.len-depth.result (omega (arith, c.len-depth.ensures, c.self.inside.events.ok.0)) c.as_mut_slice.result.now c.step_from.new.sims c.as_mut_slice.ensures.value c.step_from.ensures.sims) c.step_from.ensures.alike;
  room =
      let many = shown_many c.self.inside c.args.self.now c.self.view_is c.self.invariant c.args.event c.len-depth.result (omega (arith, c.len-depth.ensures, c.self.inside.events.ok.0)) c.as_mut_slice.result.now c.step_from.new.sims c.as_mut_slice.ensures.value c.step_from.ensures.sims in
      omega (arith, many, c.self.invariant.room);
}

pub returns-in-Err-clause-answer : goal.returns-in-Err-clause-answer
returns-in-Err-clause-answer g c =
    c.in-Err.ensures.answer ∙ ap (λ (s : SimState). answer_of (refusal s c.args.event)) (from_last c.self.inside c.args.self.now c.self.view_is c.self.invariant c.args.event c.len-depth.result (omega (arith, c.len-depth.ensures, c.self.inside.events.ok.0)) c.as_mut_slice.result.now c.step_from.new.sims c.as_mut_slice.ensures.value c.step_from.ensures.sims)

pub returns-in-Err-clause-list : goal.returns-in-Err-clause-list
returns-in-Err-clause-list g c =
    view_still c.self.inside c.args.self.now c.self.view_is c.self.invariant c.args.event c.len-depth.result (omega (arith, c.len-depth.ensures, c.self.inside.events.ok.0)) c.as_mut_slice.result.now c.step_from.new.sims c.as_mut_slice.ensures.value c.step_from.ensures.sims _ _ (shown_many c.self.inside c.args.self.now c.self.view_is c.self.invariant c.args.event c.len-depth.result (omega (arith, c.len-depth.ensures, c.self.inside.events.ok.0)) c.as_mut_slice.result.now c.step_from.new.sims c.as_mut_slice.ensures.value c.step_from.ensures.sims) (is_refused (refusal (last_of c.self.inside.root (take c.len-depth.result c.as_mut_slice.result.now)) c.args.event) _ c.in-Err.ensures.answer)

pub returns-in-Err-clause-notes : goal.returns-in-Err-clause-notes
returns-in-Err-clause-notes g c =
    subst (λ (s : SimState). Takes g.H.Hearer.takes (g.H.Hearer.noted c.args.hearer.now) (notes_of s c.args.event) (g.H.Hearer.noted c.step_from.new.hearer)) (from_last c.self.inside c.args.self.now c.self.view_is c.self.invariant c.args.event c.len-depth.result (omega (arith, c.len-depth.ensures, c.self.inside.events.ok.0)) c.as_mut_slice.result.now c.step_from.new.sims c.as_mut_slice.ensures.value c.step_from.ensures.sims) c.step_from.ensures.notes

pub returns-in-Err-clause-calls : goal.returns-in-Err-clause-calls
returns-in-Err-clause-calls g c =
    subst (λ (s : SimState). Hears g.H.Hearer.hears (g.H.Hearer.told c.args.hearer.now) (calls_of s c.args.event) (g.H.Hearer.told c.step_from.new.hearer)) (from_last c.self.inside c.args.self.now c.self.view_is c.self.invariant c.args.event c.len-depth.result (omega (arith, c.len-depth.ensures, c.self.inside.events.ok.0)) c.as_mut_slice.result.now c.step_from.new.sims c.as_mut_slice.ensures.value c.step_from.ensures.sims) c.step_from.ensures.calls
