-- The meaning of names as they are kept.
use Rattle.std.specs.Prelude.{◌≡◌, ℕ, List, String, map, string_bytes}
use Rattle.std.specs.declared.alloc.Global.{Global}
use Rattle.scx_load_workloads.specs.declared.names.Names.TheInside.{Inside}

-- the bytes of each of some names
abbrev pub texts : List (String Global) → List (List ℕ)
texts names = map (λ name. string_bytes name) names

-- the names that the fields of a `Names` mean
abbrev pub names_of : Inside → List (List ℕ)
names_of n = texts n.list.items

-- what holds of names as they are read: the set has all of them, in their order
pub record AreNames (n : Inside) : Type 0 where
  pub listed : texts n.set.keys ≡ texts n.list.items
