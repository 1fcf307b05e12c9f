-- The keys of a hash as they are kept: beside the key in each slot an index, which says of each key
-- that a slot holds which slot that is. Of keys that were taken out it may say anything.
use Rattle.std.specs.Prelude.{◌≡◌, ℕ, suc, ◌+◌, ◌==◌, ◌<◌, ◌≤◌, List, [], ◌∷◌, length, slice_get, slice_index_or, Option, Some, None}
use Rattle.indexmap.specs.IndexMap.{IndexMap, index_map_len, spare, get}
use Rattle.scx_isa_semantics.specs.declared.map_kinds.Line.{Line}
use Rattle.scx_isa_semantics.specs.declared.map_kinds.MapKind.{MapKind}
use Rattle.scx_isa_semantics.specs.declared.map_kinds.MapKind.TheVariants as kind
use Rattle.scx_isa_semantics.specs.Directories.{Keys, Directory, Array, PerCpu, Hash, Queue, Stack}
use Rattle.scx_isa_semantics.specs.Elements.{Contents, slots_in}

-- the number of slots that hold a key
abbrev pub live : List (Option ℕ) → ℕ
live [] = 0
live (None ∷ held) = live held
live (Some k ∷ held) = suc (live held)

-- the slot that the index says of a key
abbrev pub finds : {S : Type 0} → IndexMap ℕ ℕ S → ℕ → Option ℕ
finds index k = get ◌==◌ index k

-- the index leads to each key that a slot holds
abbrev pub LeadsTo : {S : Type 0} → IndexMap ℕ ℕ S → List (Option ℕ) → Type 0
LeadsTo index held = (s k : ℕ) → slice_get held s ≡ Some (Some k) → finds index k ≡ Some s

-- no two slots hold one key
abbrev pub AreApart : List (Option ℕ) → Type 0
AreApart held =
    (s r k : ℕ) → slice_get held s ≡ Some (Some k) → slice_get held r ≡ Some (Some k) → s ≡ r

-- Keys are sound: a freed slot holds no key, nor does one that was never used, and none was freed
-- twice.
pub record AreSound (held : List (Option ℕ)) (freed : List ℕ) (used : ℕ) : Type 0 where
  pub free : (j s : ℕ) → slice_get freed j ≡ Some s → slice_get held s ≡ Some None
  pub apart : (i j s : ℕ) → slice_get freed i ≡ Some s → slice_get freed j ≡ Some s → i ≡ j
  pub before : (j s : ℕ) → slice_get freed j ≡ Some s → s < used
  pub never : (s : ℕ) → used ≤ s → s < length held → slice_get held s ≡ Some None
  pub within : used ≤ length held

-- The index leads to each key that a slot holds, and has room for twice as many. There is room to
-- free all slots.
pub record IsIndexed {S : Type 0} (held : List (Option ℕ)) (freed : List ℕ) (used capacity : ℕ)
    (index : IndexMap ℕ ℕ S) : Type 0 where
  pub led : LeadsTo index held
  pub room : length held + length held ≤ index_map_len index + spare index
  pub sound : AreSound held freed used
  pub counted : length freed + live held ≡ used
  pub reserved : length held ≤ capacity
  pub few : length held < 4294967296

-- the part of a map beside its elements, by its kind
abbrev pub directory_by : MapKind → Line → Keys → Directory
directory_by kind.Array l ks = Array
directory_by kind.PerCpu l ks = PerCpu
directory_by (kind.Hash s) l ks = Hash s ks
directory_by kind.Queue l ks = Queue l
directory_by kind.Stack l ks = Stack l

-- a map that isn't a hash has no slot for a key
abbrev pub HasItsSlots : MapKind → Keys → Type 0
HasItsSlots (kind.Hash s) ks = Unit {0}
HasItsSlots k ks = length ks.held ≡ 0

-- the number of slots of a hash; other maps have none for keys
abbrev pub slots_held : Directory → ℕ
slots_held (Hash s ks) = length ks.held
slots_held d = 0

-- a hash has a slot for each element
abbrev pub HasSlots : Directory → ℕ → Type 0
HasSlots (Hash s ks) n = length ks.held ≡ n
HasSlots d n = Unit {0}

-- as many elements of each map
abbrev pub HaveSameCounts : Contents → Contents → Type 0
HaveSameCounts a b = (m : ℕ) → length (slots_in a m) ≡ length (slots_in b m)

-- so has each hash of several maps
abbrev pub HaveSlots : List Directory → Contents → Type 0
HaveSlots directories contents =
    (m : ℕ) → HasSlots (slice_index_or directories m Array) (length (slots_in contents m))
