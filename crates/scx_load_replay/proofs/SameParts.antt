-- Groups that are the same.
use Rattle.std.proofs.Common.{◌≡◌, ℕ, ◌+◌, ◌<◌, ◌≤◌, List, length, take, get_or, None, sym, ◌∙◌, arith}
use Rattle.std.proofs.lemmas.List.{take_all, take_more_same}
use Rattle.scx_weights.specs.declared.group.Group.{Group}

-- a group by its parts
pub same_group : (g h : Group) → g.parent ≡ h.parent → g.weight ≡ h.weight → g.quota_ms ≡ h.quota_ms → g.period_ms ≡ h.period_ms → g ≡ h
same_group g h parent weight quota period = λ i. record { parent = parent i; weight = weight i; quota_ms = quota i; period_ms = period i }

-- two lists that have the same beginnings, as long as they are
pub same_lists : (xs ys : List Group) (n : ℕ) → length xs ≤ n → length xs ≡ length ys → take n xs ≡ take n ys → xs ≡ ys
same_lists xs ys n past many h =
    sym (take_all n xs past) ∙ (h ∙ take_all n ys (omega (arith, past, many)))

no_group : Group
no_group = record { parent = None; weight = 0; quota_ms = None; period_ms = 0 }

-- one group more
pub same_more : (xs ys : List Group) (n : ℕ) → n < length xs → n < length ys → ((d : Group) → get_or xs n d ≡ get_or ys n d) → take n xs ≡ take n ys → take (n + 1) xs ≡ take (n + 1) ys
same_more xs ys n l k same h = take_more_same xs ys n no_group l k h (same no_group)
