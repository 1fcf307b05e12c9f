-- Texts that were written, one after another.
use Rattle.std.proofs.Common.{◌≡◌, ℕ, Option, Result, Ok, Err, List, [], ◌++◌, refl}
use Rattle.std.proofs.KnownBytes.{Appends-nil}
use Rattle.std.specs.Prelude.{OnOk}
use Rattle.std.specs.Io.KnownBytes.{Appends}
use Rattle.scxsim_output.proofs.Growth.{grows_twice}
use Rattle.scxsim_pictures.specs.Sketching.{Grows, GrowsBy}

-- known bytes to which nothing is written stay as they are
pub nothing_written : (known : Option (List ℕ)) → Appends known known []
nothing_written known = Appends-nil known

-- four texts, of which the last one may be cut off
pub written_in_order : {A E : Type 0} (r : Result A E) (a b c d e : Option (List ℕ)) (first second third fourth : List ℕ)
    → Appends a b first → Appends b c second → Appends c d third → OnOk r (Appends d e fourth)
    → OnOk r (Appends a e (first ++ second ++ third ++ fourth))
written_in_order (Ok x) a b c d e first second third fourth ab bc cd de =
    grows_twice a d e (first ++ second ++ third) fourth (grows_twice a c d (first ++ second) third (grows_twice a b c first second ab bc) cd) de
written_in_order (Err x) a b c d e first second third fourth ab bc cd de = de

-- known bytes that stay as they are have grown, by none
pub grown_by_none : (known : Option (List ℕ)) → Grows known known
grown_by_none known = ([], Appends-nil known)

-- two growths are one
pub grown_twice : (a b c : Option (List ℕ)) → Grows a b → Grows b c → Grows a c
grown_twice a b c (first, ab) (next, bc) = (first ++ next, grows_twice a b c first next ab bc)

-- one of some texts is some text
pub grown_by : (texts : List ℕ → Type 0) (a b : Option (List ℕ)) → GrowsBy texts a b → Grows a b
grown_by texts a b (text, may, ab) = (text, ab)

-- the text that was made is written, or a beginning of it
pub written_as_made : {A E : Type 0} (r : Result A E) (a b : Option (List ℕ)) (made : List ℕ) → OnOk r (Appends a b made) → OnOk r (GrowsBy (λ text. text ≡ made) a b)
written_as_made (Ok x) a b made ab = (made, refl, ab)
written_as_made (Err x) a b made ab = ab

-- a growth, and then one of some texts, which may be cut off
pub grown_further : {A E : Type 0} (r : Result A E) (texts : List ℕ → Type 0) (a b c : Option (List ℕ)) → Grows a b → OnOk r (GrowsBy texts b c) → OnOk r (Grows a c)
grown_further (Ok x) texts a b c ab bc = grown_twice a b c ab (grown_by texts b c bc)
grown_further (Err x) texts a b c ab bc = bc

-- a document: its head, its beginning, what was made of notes and as the run ended, and its end
pub written_between : {A E : Type 0} (r : Result A E) (a b c d e f : Option (List ℕ)) (head first end : List ℕ)
    → Appends a b head → Appends b c first → Grows c d → Grows d e → OnOk r (Appends e f end)
    → OnOk r ((made : List ℕ) × Appends a f (head ++ made ++ end))
written_between (Ok x) a b c d e f head first end ab bc (notes, cd) (last, de) ef =
    let made = first ++ (notes ++ last) in
    let be = grows_twice b c e first (notes ++ last) bc (grows_twice c d e notes last cd de) in
    (made, grows_twice a e f (head ++ made) end (grows_twice a b e head made ab be) ef)
written_between (Err x) a b c d e f head first end ab bc cd de ef = ef
