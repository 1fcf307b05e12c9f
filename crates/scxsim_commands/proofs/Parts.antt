-- A refusal's line is its parts, one after the other.
use Rattle.std.proofs.Common.{◌≡◌, ℕ, List, [], ◌++◌, sym, ap, ◌∙◌, append_assoc, codes, string_bytes}
use Rattle.std.proofs.lemmas.List.{append-nil}
use Rattle.scxsim_commands.specs.declared.refusal.Refusal.{Refusal}
use Rattle.scxsim_commands.specs.declared.refusal.Refusal.TheVariants.{TooLarge, NotUtf8, NoMemory, Decode, Verify, Assemble, Callback, Policy, Workload, Init, OutOfRange, NoSuchTask, Events, TooManyStretches}
use Rattle.scxsim_commands.specs.RefusalLines.{refusal_line, cause_text, start, path_of, end}

alone : (line : List ℕ) → line ++ [] ++ [] ≡ line
alone line = append-nil (line ++ []) ∙ append-nil line

behind : (front mark cause feed : List ℕ) → front ++ (mark ++ cause ++ feed) ≡ front ++ mark ++ cause ++ feed
behind front mark cause feed = sym (append_assoc front (mark ++ cause) feed) ∙ ap (λ line. line ++ feed) (sym (append_assoc front mark cause))

-- whatever the refusal
pub line_in_parts : (refusal : Refusal) → start refusal ++ path_of refusal ++ end refusal ≡ refusal_line refusal
line_in_parts TooLarge = alone (refusal_line TooLarge)
line_in_parts NotUtf8 = alone (refusal_line NotUtf8)
line_in_parts NoMemory = alone (refusal_line NoMemory)
line_in_parts (Decode fault slot) = alone (refusal_line (Decode fault slot))
line_in_parts (Verify fault slot) = alone (refusal_line (Verify fault slot))
line_in_parts (Assemble fault line) = alone (refusal_line (Assemble fault line))
line_in_parts (Callback callback fault slot) = alone (refusal_line (Callback callback fault slot))
line_in_parts (Policy path cause) = behind (codes "refused: policy " ++ string_bytes path) (codes ": ") (cause_text cause) (codes "\n")
line_in_parts (Workload path cause) = behind (codes "refused: workload " ++ string_bytes path) (codes ": ") (cause_text cause) (codes "\n")
line_in_parts (Events path cause) = behind (codes "refused: events " ++ string_bytes path) (codes ": ") (cause_text cause) (codes "\n")
line_in_parts (Init answer) = alone (refusal_line (Init answer))
line_in_parts (OutOfRange word) = alone (refusal_line (OutOfRange word))
line_in_parts NoSuchTask = alone (refusal_line NoSuchTask)
line_in_parts (TooManyStretches stretches) = alone (refusal_line (TooManyStretches stretches))
