-- The least unknown key of three lists.
use Rattle.std.proofs.Common.{◌≡◌, ℕ, List, ◌++◌, None, refl}
use Rattle.scx_load_files.specs.Unknown.{least_with}
use Rattle.scx_load_files.proofs.Least.{least_with-append}

-- it is the least of all of them
pub three_looks : (ps qs rs : List (List ℕ)) → least_with (least_with (least_with None ps) qs) rs ≡ least_with None (ps ++ qs ++ rs)
three_looks ps qs rs = rw (least_with-append None (ps ++ qs) rs, least_with-append None ps qs) refl
