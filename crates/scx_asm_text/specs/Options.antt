-- Values that may be missing: what follows takes the value if there is one; else there is none, or
-- another one in its place.
use Rattle.std.specs.Prelude.{Option, Some, None}

infixl 10 ◌>>=◌
abbrev pub ◌>>=◌ : {A B : Type 0} → Option A → (A → Option B) → Option B
(Some x) >>= f = f x
None >>= f = None

-- what follows a value, or else the other one in its place
abbrev pub either : {A B : Type 0} → Option A → (A → B) → B → B
either (Some x) f other = f x
either None f other = other
