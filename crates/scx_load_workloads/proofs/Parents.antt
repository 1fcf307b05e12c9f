-- Groups that are marked as parents: one more mark, and one more group.
use Rattle.std.proofs.Common.{◌≡◌, ℕ, zero, suc, ◌<◌, Bool, true, false, ◌||◌, ◌==◌, List, [], ◌∷◌, ◌++◌, set, length, refl, sym, ap, ◌∙◌, true≢false, arith}
use Rattle.std.proofs.lemmas.Bool.{eqb-true, eq-eqb}
use Rattle.std.proofs.lemmas.Grind.{get_or-set_at}
use Rattle.std.proofs.lemmas.List.{get_or-set_other}
use Rattle.std.proofs.lemmas.List.Folds.{list_any-append}
use Rattle.std.proofs.Math.Bool.{or-false}
use Rattle.std.specs.Prelude.{slice_index_or}
use Rattle.scx_weights.specs.declared.group.Group.{Group}
use Rattle.scx_weights.specs.Refusals.{is_parent}
use Rattle.scx_load_workloads.specs.Reading.{has_children}

or_true : (b : Bool) → (b || true) ≡ true
or_true true = refl
or_true false = refl

-- a parent that is marked is marked, and all others are as before
pub marked : (marks : List Bool) (p k : ℕ) → p < length marks → slice_index_or (set marks p true) k false ≡ (slice_index_or marks k false || (p == k))
marked marks p k within = go (p == k) refl
  where
    go : (b : Bool) → (p == k) ≡ b → slice_index_or (set marks p true) k false ≡ (slice_index_or marks k false || b)
    go true e = get_or-set_at marks p k true false (sym (eqb-true p k e)) within ∙ sym (or_true (slice_index_or marks k false))
    go false e = get_or-set_other marks p k true false (λ same. true≢false (sym (eq-eqb p k (sym same)) ∙ e)) ∙ sym (or-false (slice_index_or marks k false))

-- a new group isn't marked
unmarked : (marks : List Bool) (k : ℕ) → slice_index_or (marks ++ false ∷ []) k false ≡ slice_index_or marks k false
unmarked [] zero = refl
unmarked [] (suc k) = refl
unmarked (m ∷ marks) zero = refl
unmarked (m ∷ marks) (suc k) = unmarked marks k

-- with one group more the marks are those of all groups
pub one_more : (old marks : List Bool) (groups : List Group) (x : Group) → ((k : ℕ) → slice_index_or old k false ≡ has_children groups k) → ((k : ℕ) → slice_index_or marks k false ≡ (slice_index_or old k false || is_parent k x.parent))
    → (k : ℕ) → slice_index_or (marks ++ false ∷ []) k false ≡ has_children (groups ++ x ∷ []) k
one_more old marks groups x are more k =
    unmarked marks k
    ∙ more k
    ∙ ap (λ b. b || is_parent k x.parent) (are k)
    ∙ ap (λ b. has_children groups k || b) (sym (or-false (is_parent k x.parent)))
    ∙ sym (list_any-append (λ (child : Group). is_parent k child.parent) groups (x ∷ []))
