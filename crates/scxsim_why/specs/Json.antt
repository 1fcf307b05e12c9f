-- The output of `why_json`: an object on each line.
use Rattle.std.specs.Prelude.{ℕ, List, ◌++◌, codes, decimal}
use Rattle.scxsim_account.specs.declared.idling.IdleFigures.{IdleFigures}

-- the line of the milliseconds in which CPUs were idle while tasks waited, and of how many times
unfoldable pub idle_line : IdleFigures → List ℕ
idle_line x =
    (codes "{\"kind\":\"idle\",\"ms\":" ++ decimal x.lost)
    ++ (codes ",\"times\":" ++ decimal x.count) ++ codes "}\n"

-- a line on how the run ended, after its first member, then a line on idle CPUs, and others
abbrev pub objects : List ℕ → List ℕ → List ℕ → List ℕ
objects ending idle rest = (codes "{\"kind\":\"ending\"" ++ ending) ++ (idle ++ rest)
