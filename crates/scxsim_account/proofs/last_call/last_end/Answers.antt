use Rattle.std.proofs.Common.{◌≡◌, true, [], refl, rules}
use Rattle.std.specs.Prelude.{is_some}
use Rattle.scxsim_account.proofs.LastHeard.{passes, up_to_ejection}
use Rattle.scxsim_account.proofs.last_call.last_end.Goals as goal

pub loop-init : goal.loop-init
loop-init g c = ([], refl, refl, tt)

pub loop-preserved : goal.loop-preserved
loop-preserved g c =
    let at = c.loop in
    passes (g.E.Events.remaining c.next.new.self) _ at.sim c.step-end.new.sim _ _ c.in-Some.event at.end c.step-end.result at.invariant c.in-Some.ensures.next c.step-end.ensures.state c.step-end.ensures.end

pub returns-then-is_some : goal.returns-then-is_some
returns-then-is_some g c =
    let at = c.loop in
    let out : is_some at.sim.state.world.ejected ≡ true = search rules in
    up_to_ejection _ at.sim _ _ at.end at.invariant out
