-- What both of two keep, a choice of them keeps.
use Rattle.std.proofs.Common.{Bool, true, false, cond}

-- what both keep, a choice of them keeps
pub keeps_if : {A : Type 0} (P : A → Type 0) (b : Bool) (x y : A) → P x → P y → P (cond b x y)
keeps_if P true x y p q = p
keeps_if P false x y p q = q
