-- The interpreter's answer to a helper on a map, and what it finds on the way: the map that r1
-- refers to, room for a value, the CPU at hand, the element in a slot.
use Rattle.std.specs.Prelude.{◌≡◌, ℕ, ◌+◌, ◌<◌, ◌≤◌, ⊤, true, false, Option, Some, None, if◌then◌else◌}
use Rattle.scx_isa_semantics.specs.declared.values.Pointer.TheVariants as pointer
use Rattle.scx_isa_semantics.specs.declared.values.Value.{Value}
use Rattle.scx_isa_semantics.specs.declared.values.Value.TheVariants.{Number, Pointer}
use Rattle.scx_isa_semantics.specs.declared.host_tables.Helper.{Helper}
use Rattle.scx_isa_semantics.specs.declared.host_tables.Helper.TheVariants.{SmpProcessorId}
use Rattle.scx_isa_semantics.specs.declared.host_tables.Parameter.{Parameter}
use Rattle.scx_isa_semantics.specs.Memory.{stack_size}
use Rattle.scx_isa_semantics.specs.HostTables.{parameters}
use Rattle.scx_isa_semantics.specs.Directories as directories
use Rattle.scx_isa_semantics.specs.Directories.{Directory}
use Rattle.scx_isa_semantics.specs.Elements.{Maps, count}
use Rattle.scx_isa_semantics.specs.Locations as locations
use Rattle.scx_isa_semantics.specs.Machine.{Machine}
use Rattle.scx_isa_semantics.specs.Effects as effects
use Rattle.scx_isa_semantics.specs.Calls.{takes_map, takes_all, is_room, nothing_given, number_given, element_or_0, call_effect}
use Rattle.scx_isa_semantics.specs.Runs.{Outside}
use Rattle.scx_vm_tagged.specs.declared.effect.Effect.{Effect}
use Rattle.scx_vm_tagged.specs.declared.effect.Effect.TheVariants.{Stuck, Next}
use Rattle.scx_vm_tagged.specs.declared.memory.Location.{Location}
use Rattle.scx_vm_tagged.specs.declared.memory.Location.TheVariants as found
use Rattle.scx_vm_tagged.specs.Locations.{location_of, LiesInElement}

-- the effect of a helper's call, if it finds what it takes
abbrev pub called : Machine → Helper → effects.Effect
called m h = if takes_all m (parameters h) 1 then call_effect m h else effects.Stuck

-- the effect is what the interpreter says: none, or that control goes on in this state
abbrev pub Does : effects.Effect → Maps → Effect → Machine → Type 0
Does e maps Stuck m = (e ≡ effects.Stuck) × (m.maps ≡ maps)
Does e maps Next m = e ≡ effects.Next m
Does e maps r m = ⊥

-- r1 refers to the map that was found, of a kind that the parameter takes
pub record RefersTo (m : Machine) (p : Parameter) (k : ℕ) : Type 0 where
  pub takes : takes_map m p (m.registers 1) ≡ true
  pub refers : m.registers 1 ≡ Pointer (pointer.Map k)
  pub there : k < count m.maps

-- the map that was found, or none because r1 refers to none that the parameter takes
abbrev pub FindsMap : Machine → Parameter → Option ℕ → Type 0
FindsMap m p None = takes_map m p (m.registers 1) ≡ false
FindsMap m p (Some k) = RefersTo m p k

-- n bytes from the location on are there, wherever they begin
abbrev pub HasBytes : Maps → ℕ → Location → Type 0
HasBytes maps n found.Nowhere = ⊤
HasBytes maps n (found.OnStack at) = at + n ≤ stack_size
HasBytes maps n (found.InElement m i at) = LiesInElement maps m i at n
HasBytes maps n (found.InTask t f) = ⊤

-- the location may be written to, and n bytes from it on are there
pub record IsRoom (maps : Maps) (n : ℕ) (to : locations.Location) (l : Location) : Type 0 where
  pub location : to ≡ location_of l
  pub room : is_room to ≡ true
  pub has : HasBytes maps n l

-- the room for n bytes that was found, or none
abbrev pub FindsRoom : Maps → ℕ → locations.Location → Option Location → Type 0
FindsRoom maps n to None = is_room to ≡ false
FindsRoom maps n to (Some l) = IsRoom maps n to l

-- the outside tells the number of the CPU at hand
abbrev pub TellsHere : {W : Type 0} → Outside W → W → ℕ → W → Type 0
TellsHere O w n w' =
    (v : Value) × O w (effects.Call SmpProcessorId nothing_given) v w' × (n ≡ number_given v)

-- the outside tells which CPU's copy of a map with that part is at hand; 0 if there are no copies
abbrev pub TellsCopy : {W : Type 0} → Outside W → Directory → W → ℕ → W → Type 0
TellsCopy O directories.PerCpu w n w' = TellsHere O w n w'
TellsCopy O d w n w' = (n ≡ 0) × (w' ≡ w)

-- a pointer to the element in the slot that was found, or 0
abbrev pub value_found : Maps → ℕ → Option ℕ → Value
value_found maps m None = Number 0
value_found maps m (Some s) = element_or_0 maps m s
