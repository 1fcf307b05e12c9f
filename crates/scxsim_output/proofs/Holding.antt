-- What is known of an output that holds bytes back.
use Rattle.std.proofs.Common.{◌≡◌, ℕ, List, [], ◌++◌, take, Option, None, Some, Result, Ok, Err, OnOk, sym, ap, ◌∙◌, subst}
use Rattle.std.proofs.lemmas.List.{append-nil}
use Rattle.std.specs.Io.KnownBytes.{Keeps, WriteAppends, append_known}

-- nothing is held back where the length is 0
pub emptied : {X E : Type 0} (r : Result X E) (xs : List ℕ) (n : ℕ) → n ≡ 0 → OnOk r (take n xs ≡ [])
emptied (Ok x) xs n none = ap (λ k. take k xs) none
emptied (Err e) xs n none = tt

through : {E : Type 0} (a b c : Option (List ℕ)) (bytes : List ℕ) (r : Result ℕ E) → Keeps a (append_known b []) → WriteAppends b c r bytes
    → WriteAppends a (append_known c []) r bytes
through None b c bytes (Ok n) kept grown = tt
through None b c bytes (Err e) kept grown = tt
through (Some x) None c bytes r kept grown = absurd kept
through (Some x) (Some y) None bytes (Ok n) kept grown = absurd grown
through (Some x) (Some y) None bytes (Err e) kept grown = absurd grown
through (Some x) (Some y) (Some z) bytes (Ok n) kept grown = append-nil z ∙ grown ∙ ap (λ l. l ++ take n bytes) (sym (append-nil y) ∙ kept)
through (Some x) (Some y) (Some z) bytes (Err e) kept grown = append-nil z ∙ grown ∙ sym (append-nil y) ∙ kept

-- where nothing is held back a write goes to the output behind
pub written_through : {E : Type 0} (a b c : Option (List ℕ)) (xs bytes : List ℕ) (n : ℕ) (r : Result ℕ E) → n ≡ 0 → Keeps a (append_known b (take n xs))
    → WriteAppends b c r bytes → WriteAppends a (append_known c (take n xs)) r bytes
written_through a b c xs bytes n r none kept grown =
    let P : ℕ → Type 0 = λ k. Keeps a (append_known b (take k xs)) in
    let Q : ℕ → Type 0 = λ k. WriteAppends a (append_known c (take k xs)) r bytes in
    subst Q (sym none) (through a b c bytes r (subst P none kept) grown)
