-- The clock grows by a millisecond at most in an event, so by no more than there are events in a list.
use Rattle.std.proofs.Common.{◌≡◌, ℕ, suc, ◌+◌, ◌≤◌, List, [], ◌∷◌, length, None, sym, ap, subst, arith}
use Rattle.scx_maps.specs.declared.shape.Shape.{Shape}
use Rattle.scx_sched_machine.specs.declared.events.Event.{Event}
use Rattle.scx_sched_machine.specs.declared.events.Event.TheVariants.{Wake, Sleep, Tick, Clock, SetWeight, SetTaskWeight}
use Rattle.scx_sched.specs.Decided.{clock_after}
use Rattle.scx_sched.specs.Ranges.{IsFine}
use Rattle.scx_sched.specs.Sim.{SimState, refusal, stepped_if, after_event}
use Rattle.scx_sched.proofs.Deciding.{accepted, decides}
use Rattle.scx_load_driver.specs.Runs.{stepped_all, AreAccepted}
use Rattle.scx_explore_findings.specs.WholeForms.{IsLed}
use Rattle.scx_explore_findings.proofs.Led.{AreUnweighing, led_one}

grows : (e : Event) (n : ℕ) → clock_after e n ≤ n + 1
grows (Wake t) n = omega arith
grows (Sleep t) n = omega arith
grows (Tick c) n = omega arith
grows Clock n = omega arith
grows (SetWeight g x) n = omega arith
grows (SetTaskWeight t x) n = omega arith

none_came : (n : ℕ) → n ≤ n + 0
none_came n = omega arith

one_came : (n i j k : ℕ) → i ≤ n + 1 → j ≤ i + k → j ≤ n + suc k
one_came n i j k l m = omega (arith, l, m)

module _ (shapes : List Shape) (root : SimState) where
  clock_one : (s : SimState) (e : Event) → refusal s e ≡ None → IsLed shapes root s → (after_event s e).state.world.clock ≤ s.state.world.clock + 1
  clock_one s e ok led =
      let k = led.events in
      let here : IsFine (length s.state.world.tasks) k k None s.state.world.cpus s.state.world = subst (λ (m : ℕ). IsFine m k k None s.state.world.cpus s.state.world) (sym led.fine.sound.tasks) led.fine in
      let decided = decides s.state k e (accepted s e ok).taken here in
      subst (λ (x : SimState). x.state.world.clock ≤ s.state.world.clock + 1) (sym (ap (λ o. stepped_if o s e) ok))
      (subst (λ (n : ℕ). n ≤ s.state.world.clock + 1) (sym decided.clock) (grows e s.state.world.clock))

  -- of a list of accepted events
  pub clock_all : (s : SimState) (events : List Event) → AreAccepted s events → AreUnweighing events → IsLed shapes root s → (stepped_all s events).state.world.clock ≤ s.state.world.clock + length events
  clock_all s [] all none led = none_came s.state.world.clock
  clock_all s (e ∷ es) all none led =
      one_came s.state.world.clock (after_event s e).state.world.clock (stepped_all s (e ∷ es)).state.world.clock (length es) (clock_one s e all.0 led)
      (clock_all (after_event s e) es all.1 none.1 (led_one shapes root s e all.0 none.0 led))
