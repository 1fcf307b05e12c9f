use Rattle.std.proofs.Common.{◌≡◌, ◌≤◌, add-one, refl, sym, ◌∙◌, arith}
use Rattle.scx_isa_semantics.specs.Code.{instruction_count, instructions_from}
use Rattle.scx_isa_semantics.specs.Machine.{start}
use Rattle.scx_isa.proofs.Counts.{instruction_count-length, none_left}
use Rattle.scx_vm.specs.Arguments.{program_arguments}
use Rattle.scx_vm_tagged.specs.State.{seen}
use Rattle.scx_vm_tagged.proofs.RunSteps.{Leads-more, one_left_at_end, run_done, run_stuck}
use Rattle.scx_vm_tagged.proofs.Coming.{came_next, came_end, ends_at, none_next}
use Rattle.scx_vm_tagged.proofs.run.walk.Goals as goal

pub loop-steps-init : goal.loop-steps-init
loop-steps-init g c = record {
  leads = (refl, c.start-core.ensures c.args.maps.now, refl);
  left = omega arith;
  shapes = refl;
  room = omega arith;
  spent = omega arith;
  came = tt;
  did_not_come = λ none not_yet. not_yet;
}

pub step-requires-clause-room : goal.step-requires-clause-room
step-requires-clause-room g c = let at = c.loop-steps in omega (arith, at.invariant.left, at.invariant.room, c.requires.room)

pub loop-steps-preserved : goal.loop-steps-preserved
loop-steps-preserved g c =
    let at = c.loop-steps in
    record {
      leads = rw add-one (Leads-more _ c.args.callback c.args.program.now at.steps 0 (start (program_arguments c.args.arguments) c.args.maps.now) c.args.env.now at.slot (seen at.core at.maps) at.env c.in-At.next (seen c.step.new.core c.step.new.maps) c.step.new.env at.invariant.leads c.in-At.ensures.step);
      left = omega (arith, at.invariant.left, c.in-At.ensures.nearer);
      shapes = c.step.ensures.shapes ∙ at.invariant.shapes;
      room = omega (arith, c.step.ensures.room, at.invariant.room);
      spent = omega (arith, c.step.ensures.spent, at.invariant.spent);
      came = rw (c.came_at-found.ensures, c.has_come-had_come.ensures, c.has_come.ensures) (came_next _ g.W.Watch.awaited c.args.callback c.args.program.now (program_arguments c.args.arguments) c.args.maps.now c.args.env.now at.found at.steps (record { slot = at.slot; arguments = c.arguments.result }) (seen at.core at.maps) at.env c.in-At.next (seen c.step.new.core c.step.new.maps) c.step.new.env at.invariant.came at.invariant.leads (c.arguments.ensures at.maps) c.in-At.ensures.step);
      did_not_come = λ none not_yet. none_next at.found _ _ (record { slot = at.slot; arguments = c.arguments.result }) (sym (c.came_at-found.ensures ∙ rw (c.has_come-had_come.ensures, c.has_come.ensures) refl) ∙ none) (λ e. at.invariant.did_not_come e not_yet);
    }

pub returns-in-Ended-clause-done : goal.returns-in-Ended-clause-done
returns-in-Ended-clause-done g c =
    let at = c.loop-steps in
    run_done _ c.args.callback c.args.program.now (program_arguments c.args.arguments) c.args.maps.now c.args.env.now at.steps at.slot (seen at.core at.maps) at.env c.in-Ended.r0 c.step.new.maps c.step.new.env at.invariant.leads c.in-Ended.ensures.step.0 c.in-Ended.ensures.step.1 c.in-Ended.ensures.step.2

pub returns-in-Ended-clause-in_bound : goal.returns-in-Ended-clause-in_bound
returns-in-Ended-clause-in_bound g c =
    let at = c.loop-steps in
    let one = one_left_at_end c.args.callback c.args.program.now at.slot (seen at.core at.maps) c.in-Ended.r0 c.in-Ended.ensures.step.0 in
    omega (arith, at.invariant.left, one)

pub returns-in-Stuck-clause-stuck : goal.returns-in-Stuck-clause-stuck
returns-in-Stuck-clause-stuck g c =
    let at = c.loop-steps in
    let bound : at.steps ≤ instruction_count c.args.program.now = omega (arith, at.invariant.left) in
    run_stuck _ c.args.callback c.args.program.now (program_arguments c.args.arguments) c.args.maps.now c.args.env.now at.steps at.slot (seen at.core at.maps) at.env c.step.new.maps c.step.new.env at.invariant.leads c.in-Stuck.ensures.step.0 c.in-Stuck.ensures.step.1 c.in-Stuck.ensures.step.2 bound

pub returns-clause-stuck : goal.returns-clause-stuck
returns-clause-stuck g c =
    let code = c.args.program.now in
    let at = c.loop-steps in
    let none : instructions_from code at.slot ≡ 0 = omega (arith, instruction_count-length code, at.invariant.left) in
    let bound : at.steps ≤ instruction_count code = omega (arith, at.invariant.left) in
    run_stuck _ c.args.callback code (program_arguments c.args.arguments) c.args.maps.now c.args.env.now at.steps at.slot (seen at.core at.maps) at.env at.maps at.env at.invariant.leads (rw (none_left code at.slot none) refl) refl refl bound

pub returns-in-Ended-clause-came : goal.returns-in-Ended-clause-came
returns-in-Ended-clause-came g c =
    let at = c.loop-steps in
    came_end _ g.W.Watch.awaited c.args.callback c.args.program.now (program_arguments c.args.arguments) c.args.maps.now c.args.env.now at.found at.slot (seen at.core at.maps) at.env c.step.new.env at.invariant.came c.in-Ended.ensures.step.2

pub returns-in-Ended-clause-last : goal.returns-in-Ended-clause-last
returns-in-Ended-clause-last g c =
    let at = c.loop-steps in
    ends_at _ c.args.callback c.args.program.now (program_arguments c.args.arguments) c.args.maps.now c.args.env.now at.steps at.slot (seen at.core at.maps) at.env c.in-Ended.r0 c.step.new.env at.invariant.leads c.in-Ended.ensures.step.0 c.in-Ended.ensures.step.2

pub returns-in-Stuck-clause-came : goal.returns-in-Stuck-clause-came
returns-in-Stuck-clause-came g c =
    let at = c.loop-steps in
    came_end _ g.W.Watch.awaited c.args.callback c.args.program.now (program_arguments c.args.arguments) c.args.maps.now c.args.env.now at.found at.slot (seen at.core at.maps) at.env c.step.new.env at.invariant.came c.in-Stuck.ensures.step.2

pub returns-clause-came : goal.returns-clause-came
returns-clause-came g c =
    let at = c.loop-steps in
    came_end _ g.W.Watch.awaited c.args.callback c.args.program.now (program_arguments c.args.arguments) c.args.maps.now c.args.env.now at.found at.slot (seen at.core at.maps) at.env at.env at.invariant.came refl
