-- The text that `timeline` writes.
use Rattle.std.specs.Prelude.{ℕ, List, ◌++◌, codes}

-- a document of the Chrome trace format with these objects, from its first byte to its last
abbrev pub document : List ℕ → List ℕ
document objects =
    codes "{\"displayTimeUnit\":\"ms\",\"traceEvents\":[\n" ++ objects ++ codes "\n]}\n"
