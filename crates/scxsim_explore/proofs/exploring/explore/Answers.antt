use Rattle.std.proofs.Common.{inl, sym, subst}
use Rattle.scx_sched_policy.specs.Policy.{IsTimeout}
use Rattle.scx_sched.specs.Sim.{SimState}
use Rattle.scx_explore_findings.specs.Path.{IsAs}
use Rattle.scx_explore_findings.proofs.SamePolicy.{as_itself}
use Rattle.scxsim_explore.proofs.Told.{explored, limited}
use Rattle.scxsim_explore.proofs.exploring.explore.Goals as goal

pub returns-in-Err-clause-done : goal.returns-in-Err-clause-done
returns-in-Err-clause-done g c =
    limited c.args.policy.now c.args.workload.now c.args.lists c.in-Err.limit _ _ c.refuse.result (inl c.in-Err.ensures.past) c.refuse.ensures.done

pub tell-told-requires : goal.tell-told-requires
tell-told-requires g c =
    let both = rw c.in-Within.is at c.in_ok-limit.ensures.start in
    subst (λ (s : SimState). IsAs c.in-Within.begun.machines s) (sym both.0) (as_itself c.in-Within.begun.machines)

pub returns-in_ok-told-in-Within-clause-done : goal.returns-in_ok-told-in-Within-clause-done
returns-in_ok-told-in-Within-clause-done g c =
    let both = rw c.in-Within.is at c.in_ok-limit.ensures.start in
    let told = rw c.in_ok-told-in-Within.was at c.tell-told.ensures.ok in
    let limit = subst (λ (s : SimState). IsTimeout s.state.policy.timeout_ms) c.first.ensures c.is_sound.ensures.timeout in
    explored c.args.policy.now c.args.workload.now c.args.lists _ _ _ _ _ _ _ c.in-Ok.ensures.bounds both.1 c.is_whole.ensures limit told
