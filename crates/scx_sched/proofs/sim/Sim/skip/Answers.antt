use Rattle.std.proofs.Common.{◌≡◌, ℕ, ◌+◌, ◌-◌, ◌*◌, ◌<◌, length, sym, ap, ◌∙◌, subst, arith}
use Rattle.scx_sched_world.specs.Tasks.{tick_ns}
use Rattle.scx_sched_machine.specs.Steps.{State}
use Rattle.scx_sched_machine.specs.Quiet.{IsQuiet, skipped}
use Rattle.scx_sched.specs.Sim.{SimState, IsValid, accepted}
use Rattle.scx_sched.specs.Quiet.{quiet_events, after_all, GoQuietly, AllWithin, AreLeft}
use Rattle.scx_sched.proofs.Counted.{many_less}
use Rattle.scx_sched.proofs.Quiet.{at, Leads, leads_quietly}
use Rattle.scx_sched.proofs.sim.Sim.skip.Goals as goal

-- the machine goes through those events
led : (inside now : SimState) (ms : ℕ) → inside ≡ now → IsQuiet ms now.state → IsValid inside.state inside.events → 0 < ms → AreLeft ms now
    → Leads (ms * tick_ns) inside inside.state inside.events (quiet_events ms (length inside.state.world.cpus)) (skipped ms inside.state) (inside.events + ms * (length inside.state.world.cpus + 1))
led inside now ms view quiet valid some room =
    leads_quietly inside.state ms ms inside.events (subst (λ (x : SimState). IsQuiet ms x.state) (sym view) quiet) valid some (omega arith) (subst (λ (x : SimState). AreLeft ms x) (sym view) room)

pub skip-requires-clause-clock : goal.skip-requires-clause-clock
skip-requires-clause-clock c =
    let n = accepted c.self.inside.left in
    let room = subst (λ (x : SimState). AreLeft c.args.ms x) (sym c.self.view_is) c.requires.left in
    omega (arith, c.self.invariant.valid.fine.clock, room)

pub skip-requires-clause-early : goal.skip-requires-clause-early
skip-requires-clause-early c t = omega (arith, c.self.invariant.valid.fine.runs t, c.self.invariant.valid.over)

pub skip-requires-clause-used : goal.skip-requires-clause-used
skip-requires-clause-used c g = omega (arith, c.self.invariant.valid.fine.used g, c.self.invariant.valid.over)

pub returns-clause-quietly : goal.returns-clause-quietly
returns-clause-quietly c =
    let now : SimState = at c.self.inside.machine (accepted c.self.inside.left) in
    let lead = led now c.args.self.now c.args.ms c.self.view_is c.requires.quiet c.self.invariant.valid c.requires.some c.requires.left in
    subst (λ (x : SimState). GoQuietly x (quiet_events c.args.ms (length x.state.world.cpus))) c.self.view_is lead.quietly

pub returns-clause-within : goal.returns-clause-within
returns-clause-within c =
    let now : SimState = at c.self.inside.machine (accepted c.self.inside.left) in
    let lead = led now c.args.self.now c.args.ms c.self.view_is c.requires.quiet c.self.invariant.valid c.requires.some c.requires.left in
    subst (λ (x : SimState). AllWithin (c.args.ms * tick_ns) x x (quiet_events c.args.ms (length x.state.world.cpus))) c.self.view_is lead.within

pub returns-clause-state : goal.returns-clause-state
returns-clause-state c =
    let now : SimState = at c.self.inside.machine (accepted c.self.inside.left) in
    let lead = led now c.args.self.now c.args.ms c.self.view_is c.requires.quiet c.self.invariant.valid c.requires.some c.requires.left in
    let count : c.cpus.result ≡ length c.self.inside.machine.world.cpus = c.cpus.ensures ∙ ap (λ (x : SimState). length x.state.world.cpus) (sym c.self.view_is) in
    let room = subst (λ (x : SimState). AreLeft c.args.ms x) (sym c.self.view_is) c.requires.left in
    let all : c.from-2.result * (c.from-events.result + 1) ≡ c.args.ms * (length now.state.world.cpus + 1) =
    ap (λ k. k * (c.from-events.result + 1)) c.from-2.ensures ∙ ap (λ k. c.args.ms * (k + 1)) (c.from-events.ensures ∙ count) in
    let events : accepted (c.self.inside.left - c.from-2.result * (c.from-events.result + 1)) ≡ now.events + c.args.ms * (length now.state.world.cpus + 1) =
    ap (λ k. accepted (c.self.inside.left - k)) all
    ∙ many_less c.self.inside.left (c.args.ms * (length now.state.world.cpus + 1)) (omega (arith, room, c.self.invariant.few)) c.self.invariant.few in
    let state : c.skip.new.self ≡ skipped c.args.ms now.state = c.skip.ensures.state ∙ ap (λ k. skipped k now.state) c.from.ensures in
    (λ i. at (state i) (events i)) ∙ sym lead.state ∙ ap (λ (x : SimState). after_all x (quiet_events c.args.ms (length x.state.world.cpus))) c.self.view_is

pub invariant_of-self : goal.invariant_of-self
invariant_of-self c =
    let now : SimState = at c.self.inside.machine (accepted c.self.inside.left) in
    let lead = led now c.args.self.now c.args.ms c.self.view_is c.requires.quiet c.self.invariant.valid c.requires.some c.requires.left in
    let count : c.cpus.result ≡ length c.self.inside.machine.world.cpus = c.cpus.ensures ∙ ap (λ (x : SimState). length x.state.world.cpus) (sym c.self.view_is) in
    let room = subst (λ (x : SimState). AreLeft c.args.ms x) (sym c.self.view_is) c.requires.left in
    let all : c.from-2.result * (c.from-events.result + 1) ≡ c.args.ms * (length now.state.world.cpus + 1) =
    ap (λ k. k * (c.from-events.result + 1)) c.from-2.ensures ∙ ap (λ k. c.args.ms * (k + 1)) (c.from-events.ensures ∙ count) in
    let events : accepted (c.self.inside.left - c.from-2.result * (c.from-events.result + 1)) ≡ now.events + c.args.ms * (length now.state.world.cpus + 1) =
    ap (λ k. accepted (c.self.inside.left - k)) all
    ∙ many_less c.self.inside.left (c.args.ms * (length now.state.world.cpus + 1)) (omega (arith, room, c.self.invariant.few)) c.self.invariant.few in
    let state : c.skip.new.self ≡ skipped c.args.ms now.state = c.skip.ensures.state ∙ ap (λ k. skipped k now.state) c.from.ensures in
    record {
      few = omega (arith, c.self.invariant.few);
      valid = subst (λ k. IsValid c.skip.new.self k) (sym events) (subst (λ (x : State). IsValid x (now.events + c.args.ms * (length now.state.world.cpus + 1))) (sym state) lead.valid);
    }
