-- The text of a program, as a loop writes it slot by slot.
use Rattle.std.proofs.Common.{◌≡◌, ℕ, ◌+◌, ◌<◌, [], ◌∷◌, ◌++◌, length, take, get_or, None, refl, sym}
use Rattle.std.proofs.lemmas.List.{take_more, append-nil}
use Rattle.std.proofs.lemmas.Grind.{flat_map-append}
use Rattle.scx_isa_semantics.specs.Code.{Code, at}
use Rattle.scx_asm.specs.Printing.{occupant_text, program_text}

-- one slot more
pub more_text : (code : Code) (s : ℕ) → s < length code → program_text (take (s + 1) code) ≡ program_text (take s code) ++ occupant_text (at code s)
more_text code s lt = rw (take_more code s None lt, flat_map-append occupant_text (take s code) (get_or code s None ∷ []), append-nil (occupant_text (get_or code s None))) refl

-- a second half adds nothing
pub no_more_text : (code : Code) (s : ℕ) → s < length code → at code s ≡ None → program_text (take s code) ≡ program_text (take (s + 1) code)
no_more_text code s lt e = rw (more_text code s lt, e) (sym (append-nil (program_text (take s code))))
