-- Paths of keys: the keys from the table of the file down, and the numbers of elements from 0, with
-- periods between them.
use Rattle.std.specs.Prelude.{ℕ, List, [], ◌∷◌, ◌++◌, codes, decimal}

-- the path of a key in the table at a path; the table of the whole file has the empty path
abbrev pub below : List ℕ → List ℕ → List ℕ
below [] key = key
below (b ∷ path) key = (b ∷ path) ++ codes "." ++ key

-- the path of an element of the array at a path
abbrev pub element : List ℕ → ℕ → List ℕ
element path n = path ++ codes "." ++ decimal n
