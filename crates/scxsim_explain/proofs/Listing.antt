-- Texts of programs, one program after another.
use Rattle.std.proofs.Common.{◌≡◌, ℕ, ◌+◌, ◌<◌, List, [], ◌∷◌, ◌++◌, length, take, map, get_or, Option, Result, Ok, Err, refl, sym, ap, subst, ◌∙◌, append_assoc, codes}
use Rattle.std.proofs.lemmas.List.{append-nil, take_more, map-append}
use Rattle.std.specs.Prelude.{OnOk}
use Rattle.std.specs.Io.KnownBytes.{Appends}
use Rattle.scxsim_output.proofs.Growth.{grows_by_none, grows_twice}
use Rattle.scxsim_explain.specs.declared.explained.Explained.{Explained}
use Rattle.scxsim_explain.specs.Explained.{first_line}
use Rattle.scxsim_explain.specs.Listed.{Grows, IsListed, IsListedBehind}

-- known bytes grow by no bytes
pub grown_by_none : (known : Option (List ℕ)) → Grows known known
grown_by_none known = ([], grows_by_none known [])

-- what has grown by some bytes and then by others has grown
pub grown_more : (a b c : Option (List ℕ)) (bytes : List ℕ) → Grows a b → Appends b c bytes → Grows a c
grown_more a b c bytes (before, grown) more = (before ++ bytes, grows_twice a b c before bytes grown more)

-- one program more
pub one_more : (lines : List (List ℕ)) (line listing text : List ℕ) → IsListedBehind lines text → IsListedBehind (lines ++ line ∷ []) (text ++ (codes "\n" ++ (line ++ listing)))
one_more [] line listing text nothing =
    let P : List ℕ → Type 0 = λ z. IsListedBehind (line ∷ []) (z ++ (codes "\n" ++ (line ++ listing))) in
    subst P (sym nothing) (listing, [], refl, sym (append-nil (codes "\n" ++ (line ++ listing))))
one_more (other ∷ lines) line listing text (its, later, rest, whole) = (
  its,
  later ++ (codes "\n" ++ (line ++ listing)),
  one_more lines line listing later rest,
  ap (λ z. z ++ (codes "\n" ++ (line ++ listing))) whole ∙ append_assoc (codes "\n" ++ (other ++ its)) later (codes "\n" ++ (line ++ listing)),
)

-- what was written of the programs behind the first
abbrev pub HasListed : Option (List ℕ) → Option (List ℕ) → List (List ℕ) → Type 0
HasListed old new lines = (text : List ℕ) × IsListedBehind lines text × Appends old new text

-- behind the first program nothing is written yet
pub listed_none : (known : Option (List ℕ)) → HasListed known known []
listed_none known = ([], refl, grows_by_none known [])

-- one program more is written behind those before, on a line of its own
pub listed_more : (a b c d : Option (List ℕ)) (lines : List (List ℕ)) (line listing : List ℕ)
    → HasListed a b lines → Appends b c (codes "\n") → Appends c d (line ++ listing) → HasListed a d (lines ++ line ∷ [])
listed_more a b c d lines line listing (text, listed, grown) feed more =
    let program = grows_twice b c d (codes "\n") (line ++ listing) feed more in (
      text ++ (codes "\n" ++ (line ++ listing)),
      one_more lines line listing text listed,
      grows_twice a b d text (codes "\n" ++ (line ++ listing)) grown program,
    )

-- the first program, and then those behind it
pub listed_all : (a b c : Option (List ℕ)) (line listing : List ℕ) (lines : List (List ℕ))
    → Appends a b (line ++ listing) → HasListed b c lines → (text : List ℕ) × IsListed (line ∷ lines) text × Appends a c text
listed_all a b c line listing lines first (text, listed, grown) =
    ((line ++ listing) ++ text, (listing, text, listed, refl), grows_twice a b c (line ++ listing) text first grown)

-- ---- in the case of success

-- a line that was written is followed by what is written below it, where no write fails
pub grown_below : {A E : Type 0} (r : Result A E) (a b c : Option (List ℕ)) (line : List ℕ)
    → Appends a b line → OnOk r (Grows b c) → OnOk r ((listing : List ℕ) × Appends a c (line ++ listing))
grown_below (Ok x) a b c line first (listing, grown) = (listing, grows_twice a b c line listing first grown)
grown_below (Err e) a b c line first below = below

-- the first program's text is followed by the others', where no write fails
pub listed_first : {A E : Type 0} (r : Result A E) (a b c : Option (List ℕ)) (line listing : List ℕ) (lines : List (List ℕ))
    → Appends a b (line ++ listing) → OnOk r (HasListed b c lines) → OnOk r ((text : List ℕ) × IsListed (line ∷ lines) text × Appends a c text)
listed_first (Ok x) a b c line listing lines first rest = listed_all a b c line listing lines first rest
listed_first (Err e) a b c line listing lines first rest = rest

-- the first lines of one program more
pub first_lines_more : (programs : List Explained) (i : ℕ) (program : Explained) → i < length programs → get_or programs i program ≡ program
    → map first_line (take (i + 1) programs) ≡ map first_line (take i programs) ++ first_line program ∷ []
first_lines_more programs i program within read =
    ap (λ xs. map first_line xs) (take_more programs i program within)
    ∙ map-append first_line (take i programs) (get_or programs i program ∷ [])
    ∙ ap (λ x. map first_line (take i programs) ++ first_line x ∷ []) read
