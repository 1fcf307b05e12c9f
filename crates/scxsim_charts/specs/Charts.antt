-- The text that `gantt` writes.
use Rattle.std.specs.Prelude.{ℕ, List, ◌++◌, codes}

-- a chart with that title and these lines
abbrev pub chart : List ℕ → List ℕ → List ℕ
chart title lines = title ++ codes ": " ++ lines
