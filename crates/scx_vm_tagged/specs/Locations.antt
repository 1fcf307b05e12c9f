-- The interpreter's locations as the locations of the definitions, and what it knows of one that an
-- address means: its bytes are there, and on the stack it is a multiple of their number.
use Rattle.std.specs.Prelude.{◌≡◌, ℕ, ◌+◌, ◌%◌, ◌<◌, ◌≤◌, ⊤, length}
use Rattle.scx_isa_semantics.specs.Elements.{Maps, count, elements, element}
use Rattle.scx_isa_semantics.specs.Memory.{stack_size}
use Rattle.scx_isa_semantics.specs.Locations as locations
use Rattle.scx_vm_tagged.specs.declared.memory.Location.{Location}
use Rattle.scx_vm_tagged.specs.declared.memory.Location.TheVariants.{Nowhere, OnStack, InElement, InTask}

-- a location of the interpreter, as the definitions have it
abbrev pub location_of : Location → locations.Location
location_of Nowhere = locations.Nowhere
location_of (OnStack at) = locations.OnStack at
location_of (InElement m i at) = locations.InElement m i at
location_of (InTask t f) = locations.InTask t f

-- that many bytes from an offset on are on the stack, and the offset is a multiple of their number
pub record LiesOnStack (at n : ℕ) : Type 0 where
  pub within : at + n ≤ stack_size
  pub aligned : at % n ≡ 0

-- that many bytes from an offset on are in an element of a map, and both of these are there
pub record LiesInElement (maps : Maps) (m i at n : ℕ) : Type 0 where
  pub map : m < count maps
  pub index : i < length (elements maps m)
  pub within : at + n ≤ length (element maps m i)

-- n bytes from the location on are there
abbrev pub Lies : Maps → ℕ → Location → Type 0
Lies maps n Nowhere = ⊤
Lies maps n (OnStack at) = LiesOnStack at n
Lies maps n (InElement m i at) = LiesInElement maps m i at n
Lies maps n (InTask t f) = ⊤
