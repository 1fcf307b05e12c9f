-- Texts of a page that were written, one after another.
use Rattle.std.proofs.Common.{ℕ, Option, Result, Ok, Err, List, ◌++◌}
use Rattle.std.specs.Prelude.{⊤, OnOk}
use Rattle.std.specs.Io.KnownBytes.{Appends}
use Rattle.scxsim_pictures.specs.Sketching.{Grows, GrowsBy}
use Rattle.scxsim_pictures.proofs.Growing.{written_in_order, grown_by_none}

-- a text that may be cut off is a growth
pub grown_by_text : {A E : Type 0} (r : Result A E) (a b : Option (List ℕ)) (text : List ℕ) → OnOk r (Appends a b text) → OnOk r (Grows a b)
grown_by_text (Ok x) a b text ab = (text, ab)
grown_by_text (Err x) a b text ab = ab

-- four texts, of which the last one may be cut off
pub grown_by_four : {A E : Type 0} (r : Result A E) (a b c d e : Option (List ℕ)) (first second third fourth : List ℕ)
    → Appends a b first → Appends b c second → Appends c d third → OnOk r (Appends d e fourth) → OnOk r (Grows a e)
grown_by_four r a b c d e first second third fourth ab bc cd de =
    grown_by_text r a e (first ++ second ++ third ++ fourth) (written_in_order r a b c d e first second third fourth ab bc cd de)

-- any growth
pub grown_by_any : {A E : Type 0} (r : Result A E) (a b : Option (List ℕ)) → OnOk r (Grows a b) → OnOk r (GrowsBy (λ _. ⊤) a b)
grown_by_any (Ok x) a b (text, ab) = (text, tt, ab)
grown_by_any (Err x) a b ab = ab

-- no growth
pub grown_by_nothing : (known : Option (List ℕ)) → GrowsBy (λ _. ⊤) known known
grown_by_nothing known = let none = grown_by_none known in (none.0, tt, none.1)
