use Rattle.std.proofs.Common.{rules, ◌≡◌, ℕ, ◌+◌, ◌-◌, ◌*◌, List, [], ◌++◌, drop, length, sym, ap, ◌∙◌, subst, arith}
use Rattle.std.proofs.lemmas.List.{drop_all}
use Rattle.scx_sched_world.specs.Tasks.{tick_ns}
use Rattle.scx_sched.specs.Sim.{SimState}
use Rattle.scx_sched.specs.Quiet.{quiet_events, after_all, GoQuietly, AllWithin}
use Rattle.scx_load_driver.specs.declared.driver.Phase.TheVariants as phase
use Rattle.scx_load_driver.specs.Blocks.{ticks_of}
use Rattle.scx_load_driver.specs.Runs.{Skips}
use Rattle.scx_load_driver.specs.Watch.{last_ticks_of}
use Rattle.scx_load_driver.specs.Driver.{DriverState, remaining, is_empty, state_of, blocks_left}
use Rattle.scx_load_driver.specs.Passing.{RunsLast}
use Rattle.scx_load_driver.proofs.Remaining.{none_ticks, only_ticks}
use Rattle.scx_load_driver.proofs.Calm.{noted_for_ticks, later_for_ticks}
use Rattle.scx_load_driver.proofs.Coming.{later_from}
use Rattle.scx_load_driver.proofs.Passing.{ticking, beginning, runs_less, calm_between, skips_some}
use Rattle.scx_load_driver.proofs.driver.Driver.skip_some.Goals as goal

-- all events of the block at hand were answered
pub begin_ticks-requires : goal.begin_ticks-requires
begin_ticks-requires c =
    let inside = c.self.inside in
    let events = inside.events.items in
    let asleep : inside.phase ≡ phase.Sleeps = search rules in
    let none : drop inside.taken events ≡ [] = drop_all inside.taken events (omega (arith, c.self.invariant.ticked asleep)) in
    ap (λ es. is_empty es) (none_ticks inside.cpus inside.cpus (drop inside.taken events) [] (omega arith) none)

pub returns : goal.returns
returns c =
    let inside = c.self.inside in
    let whole = c.self.invariant in
    let events = inside.events.items in
    let d = state_of inside in
    let m = inside.clock in
    let n = inside.left in
    let ms = c.calm_ms-ms.result in
    let s = c.quiet_ms-most.new.self in
    let t = c.skip.new.self in
    let last = last_ticks_of inside.timings.items inside.ran.items in
    let asleep : inside.phase ≡ phase.Sleeps = search rules in
    let none : drop inside.taken events ≡ [] = drop_all inside.taken events (omega (arith, whole.ticked asleep)) in
    let same : s ≡ c.args.sim.now = c.quiet_ms-most.ensures.same in
    let cpus : length s.state.world.cpus ≡ inside.cpus = ap (λ (x : SimState). length x.state.world.cpus) same ∙ omega (arith, c.cpus.ensures, c.if-cpus-self.false) in
    let lasts : RunsLast (ms * tick_ns) last s.state.world =
    runs_less (ms * tick_ns) (c.runs_last-most.result * tick_ns) last s.state.world (omega (arith, c.calm_ms-ms.ensures.most, c.quiet_ms-most.ensures.most))
    (subst (λ (x : SimState). RunsLast (c.runs_last-most.result * tick_ns) last x.state.world) (sym same)
    (subst (λ (xs : List ℕ). RunsLast (c.runs_last-most.result * tick_ns) xs c.args.sim.now.state.world) (c.deref.ensures.value ∙ whole.last)
    (c.runs_last-most.ensures.last (omega (arith, c.if-ms-eq0.false, c.calm_ms-ms.ensures.most, c.quiet_ms-most.ensures.most))))) in
    let calm = calm_between d m ms inside.next_change inside.calendar
    (later_for_ticks inside.changes.items inside.phase m inside.next_change (later_from inside.changes.items _ inside.coming inside.next_change whole.coming)) (noted_for_ticks inside.due.items inside.phase m inside.calendar whole.noted)
    c.calm_ms-ms.ensures.changes c.calm_ms-ms.ensures.wakes in
    let passes : Skips (remaining (ticking d m n) s) s (remaining (beginning d (m + ms) (n - ms)) t) t =
    skips_some d m n ms inside.next_change inside.calendar s t (omega (arith, c.if-ms-eq0.false))
    (omega (arith, c.calm_ms-ms.ensures.most, c.quiet_ms-most.ensures.most, c.runs_last-most.ensures.most)) (λ _. whole.unwatched c.if-self.false)
    (subst (λ k. GoQuietly s (quiet_events ms k)) cpus c.skip.ensures.quietly)
    (subst (λ k. AllWithin (ms * tick_ns) s s (quiet_events ms k)) cpus c.skip.ensures.within)
    lasts calm (c.skip.ensures.state ∙ ap (λ k. after_all s (quiet_events ms k)) cpus) in
    let begun : inside.cpu ≡ 0 = omega (arith, c.if-self-gt0.false) in
    let ticks : ticks_of inside.cpus ≡ drop inside.cpu (ticks_of inside.cpus) ++ drop inside.taken events =
    sym (ap (λ k. drop k (ticks_of inside.cpus) ++ drop inside.taken events) begun ∙ only_ticks inside.cpus (drop inside.taken events) none) in
    let first : ticking d m n ≡ c.args.self.now = (ap (λ es. record d { pending = es; blocks = blocks_left phase.Sleeps m n }) ticks ∙ ap (λ q. record d { blocks = blocks_left q m n }) (sym asleep)) ∙ c.self.view_is in
    let spent = none_ticks inside.cpus inside.cpus (drop inside.taken events) [] (omega arith) none in
    let rest : remaining (beginning d (m + ms) (n - ms)) t ≡ remaining c.begin_ticks.new.self t =
    ap (λ es. remaining (record d { pending = es; blocks = blocks_left phase.Changes (m + ms) (n - ms) }) t) (sym spent) ∙ sym (c.begin_ticks.ensures t) in
    subst (λ (x : SimState). Skips (remaining c.args.self.now x) x (remaining c.begin_ticks.new.self t) t) same
    (subst (λ es. Skips (remaining c.args.self.now s) s es t) rest
    (subst (λ (x : DriverState). Skips (remaining x s) s (remaining (beginning d (m + ms) (n - ms)) t) t) first passes))
