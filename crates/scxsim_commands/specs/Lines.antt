-- The lines of a run and of a file that can't be read, each with the line feed that ends it, and
-- how a fault is said in a line.
use Rattle.std.specs.Prelude.{ℕ, List, ◌++◌, codes, decimal}

-- the line of a run that ended by `exit`
abbrev pub done_line : ℕ → ℕ → List ℕ
done_line r0 steps =
    codes "r0 = " ++ decimal r0 ++ codes " in " ++ decimal steps ++ codes " steps\n"

-- the line of a file that could not be read
abbrev pub unread_line : List ℕ → List ℕ
unread_line path = codes "failed: reading " ++ path ++ codes "\n"

-- a fault by its number and name, and the slot or line where it was found
abbrev pub fault_text : ℕ → List ℕ → ℕ → List ℕ
fault_text number name at = decimal number ++ codes " " ++ name ++ codes " at " ++ decimal at
