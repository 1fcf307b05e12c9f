-- The lines of refusals, each with the line feed that ends it.
use Rattle.std.specs.Prelude.{ℕ, ℤ, List, [], ◌++◌, codes, string_bytes, decimal}
use Rattle.std.specs.Fmt.{signed_decimal}
use Rattle.scx_isa_encoding.specs.Faults.{decode_number, decode_name}
use Rattle.scx_verify.specs.Faults.{fault_number, fault_name}
use Rattle.scx_asm.specs.Faults.{asm_number, asm_name}
use Rattle.scx_load_files.specs.EventFaults.{event_number, event_name}
use Rattle.scx_load_files.specs.declared.fault.Cause.{Cause}
use Rattle.scx_load_files.specs.declared.fault.Cause.TheVariants as causes
use Rattle.scx_isa_semantics.specs.Callbacks.{callback_name}
use Rattle.scxsim_commands.specs.declared.refusal.Refusal.{Refusal}
use Rattle.scxsim_commands.specs.declared.refusal.Refusal.TheVariants.{TooLarge, NotUtf8, NoMemory, Decode, Verify, Assemble, Callback, Policy, Workload, Init, OutOfRange, NoSuchTask, Events, TooManyStretches}
use Rattle.scxsim_commands.specs.declared.refusal.Word.{Word}
use Rattle.scxsim_commands.specs.declared.refusal.Word.TheVariants.{From, To}
use Rattle.scxsim_commands.specs.Lines.{fault_text}

-- what is wrong with a file
abbrev pub cause_text : Cause → List ℕ
cause_text causes.NotToml = codes "not TOML"
cause_text causes.Unknown = codes "unknown"
cause_text causes.Missing = codes "missing"
cause_text causes.WrongType = codes "wrong type"
cause_text causes.OutOfRange = codes "out of range"
cause_text causes.BadName = codes "bad name"
cause_text causes.Twice = codes "twice"
cause_text causes.TooMany = codes "too many"
cause_text causes.NoSuchGroup = codes "no such group"
cause_text causes.NoSuchTask = codes "no such task"
cause_text causes.NotALeaf = codes "not a leaf"
cause_text causes.TooDeep = codes "too deep"
cause_text causes.BadHex = codes "bad hex"
cause_text (causes.Asm fault line) =
    codes "asm " ++ fault_text (asm_number fault) (asm_name fault) line
cause_text (causes.Decode fault slot) =
    codes "decode " ++ fault_text (decode_number fault) (decode_name fault) slot
cause_text (causes.Event fault line) =
    codes "event " ++ fault_text (event_number fault) (event_name fault) line

-- an `init` that failed with that answer
abbrev pub init_line : ℤ → List ℕ
init_line answer = codes "refused: init " ++ signed_decimal answer ++ codes "\n"

-- a word that is out of range
abbrev pub word_line : Word → List ℕ
word_line From = codes "refused: word FROM: out of range\n"
word_line To = codes "refused: word TO: out of range\n"

-- a page that would hold that many stretches of time
abbrev pub stretches_line : ℕ → List ℕ
stretches_line stretches =
    codes "refused: too many stretches: " ++ decimal stretches ++ codes ", at most 3750000\n"

-- the line of a refused input
abbrev pub refusal_line : Refusal → List ℕ
refusal_line TooLarge = codes "refused: too large\n"
refusal_line NotUtf8 = codes "refused: not UTF-8\n"
refusal_line NoMemory = codes "refused: no memory\n"
refusal_line (Decode fault slot) =
    codes "refused: decode "
    ++ fault_text (decode_number fault) (decode_name fault) slot ++ codes "\n"
refusal_line (Verify fault slot) =
    codes "refused: verify "
    ++ fault_text (fault_number fault) (fault_name fault) slot ++ codes "\n"
refusal_line (Assemble fault line) =
    codes "refused: asm " ++ fault_text (asm_number fault) (asm_name fault) line ++ codes "\n"
refusal_line (Callback callback fault slot) =
    codes "refused: verify " ++ callback_name callback ++ codes " "
    ++ fault_text (fault_number fault) (fault_name fault) slot ++ codes "\n"
refusal_line (Policy path cause) =
    codes "refused: policy " ++ string_bytes path ++ codes ": " ++ cause_text cause ++ codes "\n"
refusal_line (Workload path cause) =
    codes "refused: workload " ++ string_bytes path ++ codes ": " ++ cause_text cause ++ codes "\n"
refusal_line (Events path cause) =
    codes "refused: events " ++ string_bytes path ++ codes ": " ++ cause_text cause ++ codes "\n"
refusal_line (Init answer) = init_line answer
refusal_line (OutOfRange word) = word_line word
refusal_line NoSuchTask = codes "refused: word TASK: no such task\n"
refusal_line (TooManyStretches stretches) = stretches_line stretches

-- ---- a refusal's line in three parts: the text before the path of a key, the path, and the text
-- after it

-- the text before the path of a key; the whole line of a refusal that has no path
abbrev pub start : Refusal → List ℕ
start (Policy path cause) = codes "refused: policy "
start (Workload path cause) = codes "refused: workload "
start (Events path cause) = codes "refused: events "
start refusal = refusal_line refusal

-- the path of the key that is refused in a file; empty of a refusal that has none
abbrev pub path_of : Refusal → List ℕ
path_of (Policy path cause) = string_bytes path
path_of (Workload path cause) = string_bytes path
path_of (Events path cause) = string_bytes path
path_of refusal = []

-- the text after the path of a key, with the line feed; empty of a refusal that has no path
abbrev pub end : Refusal → List ℕ
end (Policy path cause) = codes ": " ++ cause_text cause ++ codes "\n"
end (Workload path cause) = codes ": " ++ cause_text cause ++ codes "\n"
end (Events path cause) = codes ": " ++ cause_text cause ++ codes "\n"
end refusal = []
