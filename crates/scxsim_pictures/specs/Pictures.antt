-- The text that `picture` writes.
use Rattle.std.specs.Prelude.{ℕ, List, ◌++◌, codes}

-- a document of SVG in which that is drawn, from its first byte to its last
abbrev pub svg : List ℕ → List ℕ
svg drawn = codes "<svg xmlns=\"http://www.w3.org/2000/svg\" " ++ drawn ++ codes "</svg>\n"
