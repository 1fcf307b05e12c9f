use Rattle.std.proofs.Common.{List, drop, set, get_or, sym, ap, ◌∙◌, subst}
use Rattle.std.specs.Prelude.{All}
use Rattle.scx_sched.specs.Sim.{SimState, after_event}
use Rattle.scx_explore_findings.specs.Path.{IsAs}
use Rattle.scx_explore_findings.proofs.ListMachines.{fits_last, fits_all}
use Rattle.scx_explore_findings.proofs.PoolCopies.{put_up, last_there}
use Rattle.scx_explore_findings.proofs.path.step_from.Goals as goal

pub step_copy-requires : goal.step_copy-requires
step_copy-requires g c =
    let d = c.index-rest-0.result in
    subst (λ (ts : List SimState). IsAs (get_or ts 0 d) c.last_of.result.now) (sym c.split_at_mut-before.ensures.back)
    (subst (λ (s : SimState). IsAs (get_or (drop c.args.place c.args.sims.now) 0 d) s) (sym (last_there c.args.root.now c.args.sims.now c.split_at_mut-before.result.0.now c.args.place c.last_of.result.now c.split_at_mut-before.ensures.front c.last_of.ensures)) (fits_last c.args.root.now c.args.sims.now c.args.place d c.requires.there c.requires.alike))

pub returns-clause-sims : goal.returns-clause-sims
returns-clause-sims g c =
    put_up c.args.sims.now c.split_at_mut-before.result.0.now c.split_at_mut-before.result.1.now c.args.place c.step_copy.new.sim c.split_at_mut-before.ensures.front c.split_at_mut-before.ensures.back
    ∙ ap (λ (x : SimState). set c.args.sims.now c.args.place x) (c.step_copy.ensures.state ∙ ap (λ (s : SimState). after_event s c.args.event) (last_there c.args.root.now c.args.sims.now c.split_at_mut-before.result.0.now c.args.place c.last_of.result.now c.split_at_mut-before.ensures.front c.last_of.ensures))

pub returns-clause-alike : goal.returns-clause-alike
returns-clause-alike g c =
    subst (λ (ts : List SimState). All (IsAs c.args.root.now) ts) (sym (put_up c.args.sims.now c.split_at_mut-before.result.0.now c.split_at_mut-before.result.1.now c.args.place c.step_copy.new.sim c.split_at_mut-before.ensures.front c.split_at_mut-before.ensures.back))
    (fits_all c.args.root.now c.args.sims.now c.args.place c.step_copy.new.sim c.requires.alike (subst (λ (s : SimState). IsAs s c.step_copy.new.sim) (last_there c.args.root.now c.args.sims.now c.split_at_mut-before.result.0.now c.args.place c.last_of.result.now c.split_at_mut-before.ensures.front c.last_of.ensures) c.step_copy.ensures.alike))
