-- The first pass over a text: line by line the instructions get their slots and the labels
-- theirs, up to the first faulty line. Of several faults of one line the one with the least
-- number is reported.
use Rattle.std.specs.Prelude.{◌≡◌, ℕ, suc, ◌+◌, nat_lt, is_some, List, [], ◌∷◌, ◌++◌, Result, Ok, Err, if◌then◌else◌}
use Rattle.scx_isa_semantics.specs.Results.{◌>>=◌}
use Rattle.scx_isa.specs.declared.program.TheConstants.{MAX_SLOTS}
use Rattle.scx_asm_text.specs.Options.{either}
use Rattle.scx_asm_text.specs.Items.{ItemValue, Blank, DefinesLabel, item_value, read_line}
use Rattle.scx_asm.specs.declared.faults.AsmFault.{AsmFault}
use Rattle.scx_asm.specs.declared.faults.AsmFault.TheVariants.{Syntax, TwiceLabel, OutOfRange, TooLong}
use Rattle.scx_asm.specs.declared.faults.AsmError.{AsmError}
use Rattle.scx_asm.specs.declared.faults.AsmError.TheVariants as errors
use Rattle.scx_asm.specs.declared.scanning.Unresolved.{Unresolved}
use Rattle.scx_asm.specs.Resolving.{Labels, find, fits, slots}

-- an instruction that still has its numbers as they are written, its slot and its line
pub record UnresolvedLine : Type 0 where
  pub line : ℕ
  pub slot : ℕ
  pub says : ItemValue

-- the state of the first pass: the slots taken so far, the labels and the instructions
pub record FirstPassState : Type 0 where
  pub slots : ℕ
  pub labels : Labels
  pub unresolved : List UnresolvedLine

-- the first pass before the first line
abbrev pub nothing_read : FirstPassState
nothing_read = record { slots = 0; labels = []; unresolved = [] }

-- an unresolved line of the code, with the bytes of its label if it goes to one
abbrev pub unresolved_of : Unresolved → UnresolvedLine
unresolved_of e = record { line = e.line; slot = e.slot; says = item_value e.item }

-- a fault, at a line
abbrev pub at_line : {A : Type 0} → ℕ → Result A AsmFault → Result A (AsmFault × ℕ)
at_line n (Ok x) = Ok x
at_line n (Err e) = Err (e, n)

-- the first pass with a label more, which names the next slot; a fault where it is defined twice
abbrev pub with_label : FirstPassState → List ℕ → Result FirstPassState AsmFault
with_label p l =
    if is_some (find l p.labels) then Err TwiceLabel
    else Ok (record p { labels = p.labels ++ (l, p.slots) ∷ [] })

-- the first pass with a line's instruction more; a fault if a number doesn't fit or no slot remains
abbrev pub with_unresolved : ℕ → FirstPassState → ItemValue → Result FirstPassState AsmFault
with_unresolved n p l =
    if fits l
    then (if nat_lt MAX_SLOTS (p.slots + slots l) then Err TooLong
    else Ok (record {
      slots = p.slots + slots l;
      labels = p.labels;
      unresolved = p.unresolved ++ record { line = n; slot = p.slots; says = l } ∷ [];
    }))
    else Err OutOfRange

-- the first pass with one line more
abbrev pub with_line : ℕ → FirstPassState → ItemValue → Result FirstPassState AsmFault
with_line n p Blank = Ok p
with_line n p (DefinesLabel l) = with_label p l
with_line n p l = with_unresolved n p l

-- the first pass with a line more, from its bytes; a fault if they aren't of the language
abbrev pub with_text : ℕ → FirstPassState → List ℕ → Result FirstPassState AsmFault
with_text n p text = either (read_line text) (with_line n p) (Err Syntax)

-- the first pass with the lines from the n-th on
unfoldable pub first_pass :
    ℕ → FirstPassState → List (List ℕ) → Result FirstPassState (AsmFault × ℕ)
first_pass n p [] = Ok p
first_pass n p (text ∷ texts) = at_line n (with_text n p text) >>= λ q. first_pass (suc n) q texts

-- What a function returned, seen by view, is what reading gives, unless memory ran out.
abbrev pub Fails : {Y : Type 0} → AsmError → Result Y (AsmFault × ℕ) → Type 0
Fails (errors.Refused fault line) read = read ≡ Err (fault, line)
Fails errors.OutOfMemory read = Unit {0}

-- a function's answer, seen by view, is what reading gives; want of memory says nothing of it
abbrev pub Gives : {X Y : Type 0} → (X → Y) → Result X AsmError → Result Y (AsmFault × ℕ) → Type 0
Gives view (Ok x) read = read ≡ Ok (view x)
Gives view (Err e) read = Fails e read
