-- Labels in a table: what is found there, and one label more.
use Rattle.std.proofs.Common.{◌≡◌, ℕ, true, false, cond, List, [], ◌∷◌, ◌++◌, is_some, Option, Some, None, Ok, Err, Bor, refl, ap}
use Rattle.std.proofs.lemmas.List.{map-append}
use Rattle.std.specs.Str.{bytes_eq}
use Rattle.std.specs.Map.{lookup}
use Rattle.scx_asm.specs.declared.faults.AsmFault.TheVariants.{TwiceLabel}
use Rattle.scx_asm.specs.Resolving.{find}
use Rattle.scx_asm.specs.FirstPass.{UnresolvedLine, at_line, with_label}
use Rattle.scx_asm.specs.Passes.{table}

-- what is found is what a look-up gives
pub find_is : (l : Bor (List ℕ)) (es : List (Bor (List ℕ) × ℕ)) → find l.now (table es) ≡ lookup (λ (k : Bor (List ℕ)). bytes_eq l.now k.now) es
unfolding find
find_is l [] = refl
find_is l (e ∷ es) = ap (λ (r : Option ℕ). cond (bytes_eq l.now e.0.now) (Some e.1) r) (find_is l es)

-- a label that is there is refused
pub twice : (n slots : ℕ) (l : List ℕ) (es : List (Bor (List ℕ) × ℕ)) (drafts : List UnresolvedLine) → is_some (find l (table es)) ≡ true
    → at_line n (with_label (record { slots = slots; labels = table es; unresolved = drafts }) l) ≡ Err (TwiceLabel, n)
twice n slots l es drafts e = rw e refl

-- one that isn't is added
pub labelled : (n slots : ℕ) (l : Bor (List ℕ)) (es new : List (Bor (List ℕ) × ℕ)) (drafts : List UnresolvedLine) → is_some (find l.now (table es)) ≡ false → new ≡ es ++ (l, slots) ∷ []
    → at_line n (with_label (record { slots = slots; labels = table es; unresolved = drafts }) l.now) ≡ Ok (record { slots = slots; labels = table new; unresolved = drafts })
labelled n slots l es new drafts e more = rw (e, more, map-append {B = List ℕ × ℕ} (λ (e : Bor (List ℕ) × ℕ). (e.0.now, e.1)) es ((l, slots) ∷ [])) refl

-- nothing is found of it
pub not_there : (r : Option ℕ) → is_some r ≡ false → r ≡ None
not_there None e = refl
not_there (Some x) e = absurd (cc)
