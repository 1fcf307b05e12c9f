-- The result of a first pass as definitions see it, from its form in memory.
use Rattle.std.specs.Prelude.{ℕ, List, map}
use Rattle.std.specs.Borrow.{Bor}
use Rattle.scx_asm.specs.declared.scanning.FirstPass.{FirstPass}
use Rattle.scx_asm.specs.Resolving.{Labels}
use Rattle.scx_asm.specs.FirstPass.{FirstPassState, unresolved_of}

-- the labels of a table in memory, by their bytes, each with its slot
abbrev pub table : List (Bor (List ℕ) × ℕ) → Labels
table es = map (λ e. (e.0.now, e.1)) es

-- the slots, labels and unresolved lines that the code keeps of a first pass
abbrev pub first_pass_of : FirstPass → FirstPassState
first_pass_of l = record {
  slots = l.slots;
  labels = table l.labels.entries;
  unresolved = map unresolved_of l.unresolved.items;
}
