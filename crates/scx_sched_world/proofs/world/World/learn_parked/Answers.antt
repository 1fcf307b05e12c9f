use Rattle.std.proofs.Common.{◌<◌, ℕ, length, refl, subst, sym}
use Rattle.scx_sched_world.specs.Kept.{state_of, StaysParked, NobodyIsFree}
use Rattle.scx_sched_world.specs.World.{WorldState}
use Rattle.scx_sched_world.proofs.Keeping.{queues_changed}
use Rattle.scx_sched_world.proofs.Parked.{none_free, all_looked_at}
use Rattle.scx_sched_world.proofs.world.World.learn_parked.Goals as goal

pub invariant_of-self : goal.invariant_of-self
invariant_of-self c =
    let w = c.self.inside in
    let is = c.self.invariant in
    queues_changed w w.queues c.is_nobody_free-self-inside.result w.unsettled is refl is.places
    (λ known. all_looked_at (state_of w) is.queued (subst (λ (v : WorldState). (t : ℕ) → t < length v.tasks → StaysParked v t) (sym c.self.view_is) (c.is_nobody_free-self-inside.ensures.throttled known)))
    is.settled

pub returns-clause-throttled : goal.returns-clause-throttled
returns-clause-throttled c known =
    let w = state_of c.self.inside in
    let queued = c.self.invariant.queued in
    let looked = subst (λ (v : WorldState). (t : ℕ) → t < length v.tasks → StaysParked v t) (sym c.self.view_is) (c.is_nobody_free-self-inside.ensures.throttled known) in
    subst (λ (v : WorldState). NobodyIsFree v) c.self.view_is (none_free w queued (all_looked_at w queued looked))
