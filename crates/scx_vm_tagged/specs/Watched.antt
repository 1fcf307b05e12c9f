-- The instruction of a run by which something came about in its host.
use Rattle.std.specs.Prelude.{◌≡◌, ℕ, Bool, true, false, ◌&&◌, not, if◌then◌else◌, List, [], ◌∷◌, Option, Some, None}
use Rattle.scx_isa_semantics.specs.declared.callbacks.Callback.{Callback}
use Rattle.scx_isa_semantics.specs.declared.values.Value.{Value}
use Rattle.scx_isa_semantics.specs.Code.{Code}
use Rattle.scx_isa_semantics.specs.Elements.{Maps}
use Rattle.scx_isa_semantics.specs.Machine.{Machine, Arguments, start}
use Rattle.scx_isa_semantics.specs.Steps.{Ends, step}
use Rattle.scx_isa_semantics.specs.Runs.{Outside, Leads, LeadsTo}
use Rattle.scx_vm_tagged.specs.declared.run.Site.{Site}

-- what r1 to r5 hold
abbrev pub held : Machine → List Value
held m =
    m.registers 1 ∷ m.registers 2 ∷ m.registers 3 ∷ m.registers 4 ∷ m.registers 5 ∷ []

-- The run comes to the instruction at this slot, with that in r1 to r5. What is awaited of the host
-- isn't there before the instruction is done, and is there after it. From there the run goes on to
-- the last slot, state and host.
pub record CameAt {W : Type 0} (O : Outside W) (awaited : W → Bool) (c : Callback) (code : Code)
    (a : Arguments) (maps : Maps) (w : W) (site : Site) (last_slot : ℕ) (last : Machine) (w' : W)
    : Type 0 where
  pub steps : ℕ
  pub state : Machine
  pub before : W
  pub leads : Leads O c code steps 0 (start a maps) w site.slot state before
  pub registers : site.arguments ≡ held state
  pub not_yet : awaited before ≡ false
  pub next_slot : ℕ
  pub next_state : Machine
  pub after : W
  pub does : LeadsTo O (step c code site.slot state) before next_slot next_state after
  pub came : awaited after ≡ true
  pub rest : ℕ
  pub follows : Leads O c code rest next_slot next_state after last_slot last w'

-- it came about there in a run that leaves the host so
abbrev pub Came : {W : Type 0} → Outside W → (W → Bool) → Callback → Code
    → Arguments → Maps → W → W → Site → Type 0
Came O awaited c code a maps w w' site =
    (last_slot : ℕ) × (last : Machine) × CameAt O awaited c code a maps w site last_slot last w'

-- where it came first: as was found before, else here, if it wasn't there and now is
abbrev pub came_at : Option Site → Bool → Bool → Site → Option Site
came_at (Some s) had has site = Some s
came_at None had has site = if not had && has then Some site else None

-- the run ends at the instruction at this slot, with that answer
pub record EndsAt {W : Type 0} (O : Outside W) (c : Callback) (code : Code) (a : Arguments)
    (maps : Maps) (w : W) (answer : ℕ) (w' : W) (slot : ℕ) : Type 0 where
  pub steps : ℕ
  pub state : Machine
  pub leads : Leads O c code steps 0 (start a maps) w slot state w'
  pub ends : step c code slot state ≡ Ends answer
