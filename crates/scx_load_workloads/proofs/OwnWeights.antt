-- The weights of a workload's tasks themselves, and their masks, may be set in its tree.
use Rattle.std.proofs.Common.{◌≡◌, ℕ, suc, ◌<◌, ◌==◌, false, List, [], ◌∷◌, length, None, refl, arith}
use Rattle.std.proofs.lemmas.Bool.{eq-eqb}
use Rattle.std.proofs.lemmas.Bool.Decides.{nat_tests}
use Rattle.scx_weights.specs.Hierarchy.{Hierarchy}
use Rattle.scx_weights.specs.Refusals.{has_bad_own_weight, own_weights_fault, has_empty_mask, masks_fault}
use Rattle.scx_load_workloads.specs.Workload.{IsOwnWeight, own_weight_at, IsMask, mask_at}
use Rattle.scx_load_workloads.proofs.Forest.{inside}

-- each weight is in its range
abbrev pub AreOwn : List ℕ → Type 0
AreOwn ws = (t : ℕ) → t < length ws → IsOwnWeight (own_weight_at ws t)

none_bad : (ws : List ℕ) → AreOwn ws → has_bad_own_weight ws ≡ false
none_bad [] h = refl
none_bad (w ∷ ws) h =
    let first = h 0 (omega arith) in
    rw (inside 10000 w first.least first.greatest) (none_bad ws (λ t l. h (suc t) (omega (arith, l))))

-- so none is refused, where there is one for each task
pub none_refused : (tree : Hierarchy) (ws : List ℕ) → length ws ≡ length tree.homes → AreOwn ws → own_weights_fault tree ws ≡ None
none_refused tree ws even h = rw (eq-eqb (length ws) (length tree.homes) even, none_bad ws h) refl

-- each mask is one of a machine with this number of CPUs
abbrev pub AreMasks : ℕ → List ℕ → Type 0
AreMasks cpus masks = (t : ℕ) → t < length masks → IsMask cpus (mask_at masks t)

none_empty : (cpus : ℕ) (masks : List ℕ) → AreMasks cpus masks → has_empty_mask masks ≡ false
none_empty cpus [] h = refl
none_empty cpus (mask ∷ masks) h =
    let first = h 0 (omega arith) in
    let some : (mask == 0) ≡ false = let l = first.some in grind (arith, nat_tests, l) in
    rw some (none_empty cpus masks (λ t l. h (suc t) (omega (arith, l))))

-- so none is refused, where there is one for each task
pub none_unbound : (cpus : ℕ) (tree : Hierarchy) (masks : List ℕ) → length masks ≡ length tree.homes → AreMasks cpus masks → masks_fault tree masks ≡ None
none_unbound cpus tree masks even h = rw (eq-eqb (length masks) (length tree.homes) even, none_empty cpus masks h) refl
