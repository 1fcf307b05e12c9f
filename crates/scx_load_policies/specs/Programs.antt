-- The programs of a policy file: assembler texts in the table `code`, and pairs of hexadecimal
-- digits in the table `slots`.
use Rattle.std.specs.Prelude.{ℕ, Bool, ◌||◌, ◌==◌, List, [], ◌∷◌, Option, Some, None, Result, Ok, Err, codes, if◌then◌else◌}
use Rattle.toml.specs.Data.{Data, Members}
use Rattle.hex.specs.declared.error.FromHexError.{FromHexError}
use Rattle.hex.specs.Hex.{decode_of}
use Rattle.scx_isa_encoding.specs.declared.faults.DecodeFault.{DecodeFault}
use Rattle.scx_isa_semantics.specs.declared.callbacks.Callback.{Callback}
use Rattle.scx_isa_semantics.specs.Callbacks.{callback_name, callbacks, at, with_at}
use Rattle.scx_isa_semantics.specs.Code.{Code}
use Rattle.scx_isa.specs.Reading.{read_program}
use Rattle.scx_asm.specs.declared.faults.AsmFault.{AsmFault}
use Rattle.scx_asm.specs.Reading.{read_text}
use Rattle.scx_load_files.specs.declared.fault.Cause.TheVariants as cause
use Rattle.scx_isa_semantics.specs.Results.{◌>>=◌}
use Rattle.scx_load_files.specs.Faults.{Reading, refusal}
use Rattle.scx_load_files.specs.Values.{optional, text_of}
use Rattle.scx_load_policies.specs.Policies.{Programs}

-- the programs, of each of these callbacks in turn the one that is read there
abbrev pub with_each :
    (Callback → Programs → Reading (Option Code)) → List Callback → Programs → Reading Programs
with_each read [] p = Ok p
with_each read (b ∷ bs) p = read b p >>= λ code. with_each read bs (with_at p b code)

-- ---- in `code`

-- the program that an assembler text gave, or else its first fault and line, at that path
abbrev pub from_assembly : List ℕ → Result Code (AsmFault × ℕ) → Reading (Option Code)
from_assembly path (Ok code) = Ok (Some code)
from_assembly path (Err e) = refusal path (cause.Asm e.0 e.1)

-- the program that the value at a path spells in assembler
abbrev pub code_of : List ℕ → Data → Reading (Option Code)
code_of path d = text_of path d >>= λ text. from_assembly path (read_text text)

-- the program at a callback's key in the table `code`; none where the key is absent
abbrev pub code_at : Members → Callback → Reading (Option Code)
code_at ms b = optional code_of None (codes "code") (callback_name b) ms

-- the programs as the table `code` has them, in the order of callbacks
abbrev pub with_code : Members → Programs → Reading Programs
with_code ms p = with_each (λ b old. code_at ms b) callbacks p

-- ---- in `slots`

-- space, tab, line feed and carriage return
abbrev pub is_blank : ℕ → Bool
is_blank b = (b == 32) || (b == 9) || (b == 10) || (b == 13)

-- a text without spaces, tabs, line feeds and carriage returns
abbrev pub without_blanks : List ℕ → List ℕ
without_blanks [] = []
without_blanks (b ∷ bytes) = if is_blank b then without_blanks bytes else b ∷ without_blanks bytes

-- the program that bytes gave, or else their first fault and its slot, at that path
abbrev pub from_slots : List ℕ → Result Code (DecodeFault × ℕ) → Reading (Option Code)
from_slots path (Ok code) = Ok (Some code)
from_slots path (Err e) = refusal path (cause.Decode e.0 e.1)

-- the bytes that pairs of hexadecimal digits gave; a text that isn't such pairs is refused
abbrev pub from_hex : List ℕ → Result (List ℕ) FromHexError → Reading (List ℕ)
from_hex path (Ok bytes) = Ok bytes
from_hex path (Err e) = refusal path cause.BadHex

-- the program whose slots the text at a path spells
abbrev pub program_of_hex : List ℕ → List ℕ → Reading (Option Code)
program_of_hex path text =
    from_hex path (decode_of (without_blanks text))
    >>= λ bytes. from_slots path (read_program bytes)

-- the program whose slots the value at a path spells, where the callback has no program yet
abbrev pub slots_of : Option Code → List ℕ → Data → Reading (Option Code)
slots_of None path d = text_of path d >>= program_of_hex path
slots_of (Some code) path d = refusal path cause.Twice

-- a callback's program after its key in the table `slots`; where that is absent, the one before
abbrev pub slots_at : Members → Callback → Option Code → Reading (Option Code)
slots_at ms b code = optional (slots_of code) code (codes "slots") (callback_name b) ms

-- the programs with those of the table `slots`, in the order of callbacks
abbrev pub with_slots : Members → Programs → Reading Programs
with_slots ms p = with_each (λ b old. slots_at ms b (at old b)) callbacks p
