-- Maps that have given shapes (Linux, Documentation/bpf/map_array.rst): each has as many elements
-- as its shape says, each of the shape's size, and is of the shape's kind.
use Rattle.std.specs.Prelude.{◌≡◌, ℕ, Bool, true, ◌&&◌, List, [], ◌∷◌, length, map, replicate, if◌then◌else◌}
use Rattle.scx_isa_semantics.specs.declared.map_kinds.MapKind.{MapKind}
use Rattle.scx_isa_semantics.specs.declared.map_kinds.MapKind.TheVariants.{Array}
use Rattle.scx_isa_semantics.specs.Directories.{Directory, kind_of, new_directory}
use Rattle.scx_isa_semantics.specs.Elements.{Contents, AreOfBytes, Maps, HoldBytes}
use Rattle.scx_maps.specs.declared.shape.Shape.{Shape}
use Rattle.scx_maps.specs.Slots.{slots}
use Rattle.scx_maps.specs.Sameness.{same_kind}

-- elements of maps of these shapes, all bytes 0
abbrev pub zero_contents : List Shape → Contents
zero_contents shapes = map (λ (s : Shape). replicate (slots s) (replicate s.value_size 0)) shapes

-- the part of a new map beside its elements
abbrev pub directory_of : Shape → Directory
directory_of s = new_directory s.kind (slots s)

-- true if it is the shape of an array
abbrev pub is_array : Shape → Bool
is_array s = same_kind s.kind Array

-- true if all are shapes of arrays
abbrev pub are_arrays : List Shape → Bool
are_arrays [] = true
are_arrays (s ∷ shapes) = is_array s && are_arrays shapes

-- the parts of new maps of these shapes beside their elements; arrays alone have none
abbrev pub new_directories : List Shape → List Directory
new_directories shapes = if are_arrays shapes then [] else map directory_of shapes

-- maps of these shapes, all bytes 0, hashes, queues and stacks empty
abbrev pub zeros : List Shape → Maps
zeros shapes =
    record { contents = zero_contents shapes; directories = new_directories shapes }

-- the size in bytes of each element of a map
abbrev pub lengths : List (List ℕ) → List ℕ
lengths entries = map (λ (value : List ℕ). length value) entries

-- the size in bytes of each element of each map
abbrev pub lengths_in : Contents → List (List ℕ)
lengths_in contents = map lengths contents

-- the size in bytes of each element of each map
abbrev pub lengths_of : Maps → List (List ℕ)
lengths_of maps = lengths_in maps.contents

-- each map has as many elements as its shape says, each of as many bytes as the shape's value size
pub record HaveShapes (shapes : List Shape) (contents : Contents) : Type 0 where
  pub lengths : lengths_in contents ≡ map (λ (s : Shape). replicate (slots s) s.value_size) shapes
  pub bytes : AreOfBytes contents

-- the kinds of maps of these shapes; of arrays alone none is kept
abbrev pub kinds : List Shape → List MapKind
kinds shapes = if are_arrays shapes then [] else map (λ (s : Shape). s.kind) shapes

-- the kind of each map that has a part beside its elements
abbrev pub kinds_of : Maps → List MapKind
kinds_of maps = map kind_of maps.directories

-- each map has as many elements as its shape says, each of as many bytes as the shape's value size,
-- and is of the shape's kind
pub record HasShapes (shapes : List Shape) (maps : Maps) : Type 0 where
  pub lengths : lengths_of maps ≡ map (λ (s : Shape). replicate (slots s) s.value_size) shapes
  pub bytes : HoldBytes maps
  pub kinds : kinds_of maps ≡ kinds shapes
