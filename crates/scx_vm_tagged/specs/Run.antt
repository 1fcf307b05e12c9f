-- The ends of a step and of a run of the interpreter. Control goes from an instruction to the
-- next one, or to a jump's target (RFC 9669, section 4.3).
use Rattle.std.specs.Prelude.{◌≡◌, ℕ, ⊤, ◌<◌, ◌≤◌}
use Rattle.scx_isa_semantics.specs.declared.callbacks.Callback.{Callback}
use Rattle.scx_isa_semantics.specs.Code.{Code, instruction_count, instructions_from}
use Rattle.scx_isa_semantics.specs.Elements.{Maps}
use Rattle.scx_isa_semantics.specs.Machine.{Machine, Arguments}
use Rattle.scx_isa_semantics.specs.Steps as steps
use Rattle.scx_isa_semantics.specs.Runs.{Outside, LeadsTo, GetsStuck}
use Rattle.scx_vm_tagged.specs.declared.run.Outcome.{Outcome}
use Rattle.scx_vm_tagged.specs.declared.run.Outcome.TheVariants as outcome
use Rattle.scx_vm.specs.declared.ending.Done.{Done}
use Rattle.scx_vm_tagged.specs.declared.run.Ending.{Ending}
use Rattle.scx_vm_tagged.specs.declared.run.Ending.TheVariants as ran

-- a step with these maps and this outside comes to what the interpreter says
abbrev pub StepsTo :
    {W : Type 0} → Outside W → steps.Outcome → Maps → W → Outcome → Machine → W → Type 0
StepsTo O e maps w outcome.Stuck m w' = (e ≡ steps.Stuck) × (m.maps ≡ maps) × (w' ≡ w)
StepsTo O e maps w (outcome.At slot) m w' = LeadsTo O e w slot m w'
StepsTo O e maps w (outcome.Ended answer) m w' =
    (e ≡ steps.Ends answer) × (m.maps ≡ maps) × (w' ≡ w)

-- the step from that slot leads to where fewer are left
abbrev pub LeadsNearer : Code → ℕ → Outcome → Type 0
LeadsNearer code slot outcome.Stuck = ⊤
LeadsNearer code slot (outcome.At next) = instructions_from code next < instructions_from code slot
LeadsNearer code slot (outcome.Ended answer) = ⊤

-- if the run came to its end, this holds of what it came to; of a stuck one nothing is said
abbrev pub IfDone : Ending → (Done → Type 0) → Type 0
IfDone (ran.Done done) P = P done
IfDone (ran.Stuck slot) P = ⊤

-- if the run got stuck, this holds of the slot; of one that came to its end nothing is said
abbrev pub IfStuck : Ending → (ℕ → Type 0) → Type 0
IfStuck (ran.Done done) P = ⊤
IfStuck (ran.Stuck slot) P = P slot

-- a run gets stuck at the slot, after no more steps than the program has instructions
pub record GetsStuckAt {W : Type 0} (O : Outside W) (c : Callback) (code : Code) (a : Arguments)
    (maps : Maps) (w : W) (slot : ℕ) (maps' : Maps) (w' : W) : Type 0 where
  pub steps : ℕ
  pub stuck : GetsStuck O c code a maps w slot steps maps' w'
  pub in_bound : steps ≤ instruction_count code
