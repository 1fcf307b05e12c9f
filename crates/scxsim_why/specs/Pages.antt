-- The output of `why`.
use Rattle.std.specs.Prelude.{ℕ, List, ◌++◌, codes}

-- a page on a run, whose first line says how the policy ended
abbrev pub page : List ℕ → List ℕ
page rest = codes "policy " ++ rest
