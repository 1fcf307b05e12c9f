-- A processor that is idle after an event, while a task waits.
use Rattle.std.proofs.Common.{◌≡◌, ℕ, true, false, Option, Some, None, refl, sym, subst}
use Rattle.std.specs.Prelude.{is_some}
use Rattle.scx_sched_world.specs.World.{running}
use Rattle.scx_sched_machine.specs.declared.events.Event.{Event}
use Rattle.scx_sched_machine.specs.declared.events.Event.TheVariants.{Tick}
use Rattle.scx_sched.specs.Sim.{SimState}
use Rattle.scx_explore_findings.specs.declared.finding.Finding.TheVariants as finding
use Rattle.scx_explore_findings.specs.Findings.{IsFirstLeft, IsIdleBehind}

none_of : (o : Option ℕ) → is_some o ≡ false → o ≡ None
none_of None e = refl
none_of (Some x) e = absurd (cc)

some_not : (o : Option ℕ) → is_some o ≡ true → o ≡ None → ⊥
some_not None some none = absurd (cc)
some_not (Some x) some none = absurd (cc)

same_cpu : (c d : ℕ) → ◌≡◌ {A = Event} (Tick c) (Tick d) → c ≡ d
same_cpu c d e = cc

-- a processor that is busy
pub busy : (s : SimState) (c : ℕ) → is_some (running s.state.world c) ≡ true → IsIdleBehind s (Tick c) None
busy s c some d same idle = absurd (some_not (running s.state.world c) some (subst (λ (k : ℕ). running s.state.world k ≡ None) (sym (same_cpu c d same)) idle))

-- no task waits for the policy
pub nobody : (s : SimState) (c : ℕ) → IsFirstLeft s.state.world c None → IsIdleBehind s (Tick c) None
nobody s c left d same idle = subst (λ (k : ℕ). IsFirstLeft s.state.world k None) (same_cpu c d same) left

-- the first one that does
pub somebody : (s : SimState) (c t : ℕ) → is_some (running s.state.world c) ≡ false → IsFirstLeft s.state.world c (Some t) → IsIdleBehind s (Tick c) (Some (finding.Idle c t))
somebody s c t idle left = (refl, none_of (running s.state.world c) idle, left)
