-- A run of a program that reads no clock goes as later, in a world that is later.
use Rattle.std.proofs.Common.{◌≡◌, ℕ, zero, suc, false, Option, Some, None, refl, ap, ◌∙◌, subst}
use Rattle.scx_isa_semantics.specs.declared.instructions.Insn.{Insn}
use Rattle.scx_isa_semantics.specs.declared.instructions.Insn.TheVariants as insn
use Rattle.scx_isa_semantics.specs.declared.values.Value.{Value}
use Rattle.scx_isa_semantics.specs.declared.callbacks.Callback.{Callback}
use Rattle.scx_isa_semantics.specs.Elements.{Maps}
use Rattle.scx_isa_semantics.specs.Code.{Code, at, instruction_count}
use Rattle.scx_isa_semantics.specs.Machine.{Machine, Arguments, start}
use Rattle.scx_isa_semantics.specs.Steps.{Outcome, Stuck, Goes, Asks, Ends, step}
use Rattle.scx_isa_semantics.specs.Endings.{Ending, ending_of, run_within, run_of}
use Rattle.scx_vm.specs.Host.{answer_to, after_query}
use Rattle.scx_sched_world.specs.World.{WorldState}
use Rattle.scx_sched_world.specs.Helpers.{world_functions}
use Rattle.scx_explore_findings.specs.Delayed.{delay, is_clock, reads_clock, IsClocklessBy}
use Rattle.scx_explore_findings.proofs.DelayedHelpers.{IsTimeless, answer_as, delays_query}
use Rattle.scx_explore_states.proofs.Queries.{StepsOpen, MayAskAt, of_step}

-- what a program asks
timeless_insn : (c : Callback) (o : Option Insn) → reads_clock o ≡ false → MayAskAt IsTimeless (λ t f n. tt) c o
timeless_insn c None e = tt
timeless_insn c (Some (insn.Load a d b offset)) e = λ t f is. tt
timeless_insn c (Some (insn.Call n)) e = (λ f v is free. subst (λ o. is_clock o ≡ false) is e, λ f is free. refl)
timeless_insn c (Some i) e = tt

timeless_step : (c : Callback) (code : Code) → IsClocklessBy code → (s : ℕ) (m : Machine) → StepsOpen IsTimeless (λ t f n. tt) (step c code s m)
timeless_step c code none s m = of_step IsTimeless (λ t f n. tt) c code (λ slot. timeless_insn c (at code slot) (none slot)) s m

module _ (k : ℕ) where
  -- how a run ends in a world that is later
  abbrev pub delay_ending : Ending WorldState → Ending WorldState
  delay_ending e = record e { outside = delay k e.outside }

  -- a run goes on as later
  abbrev Follows : (ℕ → Machine → WorldState → Ending WorldState) → Type 0
  Follows on = (t : ℕ) (m : Machine) (w : WorldState) → delay_ending (on t m w) ≡ on t m (delay k w)

  ending_as : (on : ℕ → Machine → WorldState → Ending WorldState) → Follows on → (o : Outcome) → StepsOpen IsTimeless (λ t f n. tt) o → (m : Machine) (w : WorldState)
      → delay_ending (ending_of (answer_to world_functions) (after_query world_functions) on o m w) ≡ ending_of (answer_to world_functions) (after_query world_functions) on o m (delay k w)
  ending_as on more Stuck fine m w = refl
  ending_as on more (Goes t n) fine m w = more t n w
  ending_as on more (Asks q t go) fine m w =
      let n = go (answer_to world_functions w q) in
      more t n (after_query world_functions w q)
      ∙ ap (λ (v : WorldState). on t n v) (delays_query k q w)
      ∙ ap (λ (x : Value). on t (go x) (after_query world_functions (delay k w) q)) (answer_as k q w fine)
  ending_as on more (Ends n) fine m w = refl

  run_as : (c : Callback) (code : Code) → IsClocklessBy code → (n : ℕ) → Follows (λ t m w. run_within (answer_to world_functions) (after_query world_functions) c code n t m w)
  run_as c code none zero s m w = refl
  run_as c code none (suc n) s m w = ending_as (λ t j v. run_within (answer_to world_functions) (after_query world_functions) c code n t j v) (run_as c code none n) (step c code s m) (timeless_step c code none s m) m w

  -- a run of a program that reads no clock
  pub program_as : (c : Callback) (code : Code) → IsClocklessBy code → (a : Arguments) (maps : Maps) (w : WorldState) → delay_ending (run_of (answer_to world_functions) (after_query world_functions) c code a maps w) ≡ run_of (answer_to world_functions) (after_query world_functions) c code a maps (delay k w)
  unfolding run_of
  program_as c code none a maps w = run_as c code none (suc (instruction_count code)) 0 (start a maps) w
