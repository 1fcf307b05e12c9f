-- The part of a map beside its elements as words, of which there are as many for all of its kind
-- and size: two that have the same words are the same.
use Rattle.std.specs.Prelude.{ℕ, zero, suc, ◌+◌, List, [], ◌∷◌, ◌++◌, length, map, slice_get, Option, Some, None}
use Rattle.scx_isa_semantics.specs.declared.map_kinds.Line.{Line}
use Rattle.scx_isa_semantics.specs.Directories.{Keys, Directory, Array, PerCpu, Hash, Queue, Stack}

-- 1 for a slot that holds a key, else 0
abbrev pub held_word : Option ℕ → ℕ
held_word None = 0
held_word (Some k) = 1

-- the key that a slot holds, or 0
abbrev pub key_word : Option ℕ → ℕ
key_word None = 0
key_word (Some k) = k

-- a slot and 1, or 0 for none
abbrev pub slot_word : Option ℕ → ℕ
slot_word None = 0
slot_word (Some s) = s + 1

-- the first n freed slots
abbrev pub freed_words : List ℕ → ℕ → List ℕ
freed_words freed zero = []
freed_words freed (suc n) = freed_words freed n ++ slot_word (slice_get freed n) ∷ []

-- the keys of a hash
abbrev pub key_words : Keys → List ℕ
key_words ks =
    ks.used ∷ (map held_word ks.held
    ++ (map key_word ks.held ++ freed_words ks.freed (length ks.held)))

-- the values of a queue or a stack
abbrev pub line_words : Line → List ℕ
line_words l = l.first ∷ l.count ∷ []

-- the part of a map
abbrev pub part_words : Directory → List ℕ
part_words Array = []
part_words PerCpu = []
part_words (Hash s ks) = key_words ks
part_words (Queue l) = line_words l
part_words (Stack l) = line_words l

-- the parts of all maps that have one
abbrev pub parts_words : List Directory → List ℕ
parts_words [] = []
parts_words (d ∷ ds) = part_words d ++ parts_words ds
