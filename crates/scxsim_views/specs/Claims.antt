-- The time that is due to groups under quotas: each group gets its share of a stretch's CPU
-- milliseconds by weight, and none more than its quota lets through.
use Rattle.std.specs.Prelude.{◌≡◌, ◌⊎◌, ℕ, zero, suc, ◌-◌, ◌^◌, Bool, true, false, Option, None, Some, ◌+◌, ◌*◌, ◌≤◌, ◌<◌, ◌==◌, min, nat_lt, nat_le, List, length, slice_get, slice_index_or, slice_set, if◌then◌else◌}
use Rattle.std.specs.List.{list_any}
use Rattle.scx_weights.specs.Counting.{sum_below}
use Rattle.scxsim_views.specs.declared.claims.Claim.{Claim}
use Rattle.scxsim_views.specs.declared.quotas.QuotaFigures.{QuotaFigures}

-- the claim of the group of that number; where there is none, one to nothing
abbrev pub claim_at : List Claim → ℕ → Claim
claim_at cs g = slice_index_or cs g (record { family = 0; weight = 0; room = 0 })

-- the number of the family of groups with this parent: 0 at the top
abbrev pub family_of : Option ℕ → ℕ
family_of None = 0
family_of (Some parent) = suc parent

-- ---- rooms

-- how much of an amount a group has room for, in parts of 10^28 of a millisecond: no more than its
-- quota lets through beside what was due to it before in its period; nothing while no task of it is
-- runnable
abbrev pub room_of : Bool → Option ℕ → ℕ → ℕ → ℕ
room_of false quota due amount = 0
room_of true None due amount = amount
room_of true (Some quota) due amount = min amount (quota * 10 ^ 28 - due)

-- the room of a group in a family, of groups with the same parent; 0 in any other
abbrev pub room_in : ℕ → Claim → ℕ
room_in family c = if c.family == family then c.room else 0

-- the room of all groups of a family
abbrev pub rooms : List Claim → ℕ → ℕ
rooms cs family = sum_below (length cs) (λ g. room_in family (claim_at cs g))

-- the family has a group
abbrev pub has_groups : List Claim → ℕ → Bool
has_groups cs family = list_any (λ c. c.family == family) cs

-- the room of a group, or of the groups within it if that is less
abbrev pub room_within : List Claim → ℕ → ℕ
room_within cs g =
    if has_groups cs (suc g)
    then min (claim_at cs g).room (rooms cs (suc g))
    else (claim_at cs g).room

-- the claim of a group with its room, of its quota and its share by weight, which isn't 0 if a task
-- of it is runnable
abbrev pub roomy : Option QuotaFigures → Option ℕ → ℕ → Claim → Claim
roomy None share amount c = c
roomy (Some q) None amount c = c
roomy (Some q) (Some share) amount c =
    record c { room = room_of (nat_lt 0 share) q.quota_ms q.due amount }

-- the claims with the rooms of the groups below that number
abbrev pub all_roomy : ℕ → List QuotaFigures → List ℕ → ℕ → List Claim → List Claim
all_roomy zero qs shares amount cs = cs
all_roomy (suc g) qs shares amount cs =
    slice_set (all_roomy g qs shares amount cs) g
    (roomy (slice_get qs g) (slice_get shares g) amount
    (claim_at (all_roomy g qs shares amount cs) g))

-- no group below that number has more room than the groups within it; the last comes first
abbrev pub narrowed : ℕ → List Claim → List Claim
narrowed zero cs = cs
narrowed (suc g) cs =
    narrowed g (slice_set cs g (record (claim_at cs g) { room = room_within cs g }))

-- the claims of a stretch in which that amount ran
abbrev pub claims_in : List Claim → List QuotaFigures → List ℕ → ℕ → List Claim
claims_in cs qs shares amount = narrowed (length cs) (all_roomy (length cs) qs shares amount cs)

-- milliseconds in parts of 10^28; at most what fits in 128 bits
abbrev pub stretch : ℕ → ℕ
stretch ms = min (ms * 10 ^ 28) (2 ^ 128 - 1)

-- ---- levels

-- the weight of a group in a family, of groups with the same parent; 0 in any other
abbrev pub weight_in : ℕ → Claim → ℕ
weight_in family c = if c.family == family then c.weight else 0

-- what a group takes at a level: as much for each unit of its weight, and no more than its room
abbrev pub takes : ℕ → ℕ → Claim → ℕ
takes family level c = min c.room (weight_in family c * level)

-- what all groups of a family take at a level
abbrev pub taken : List Claim → ℕ → ℕ → ℕ
taken cs family level = sum_below (length cs) (λ g. takes family level (claim_at cs g))

-- the weight of a group of the family that has room for more than it takes at a level; else 0
abbrev pub open_weight : ℕ → ℕ → Claim → ℕ
open_weight family level c = if nat_lt (takes family level c) c.room then weight_in family c else 0

-- all of these weights
abbrev pub open_weights : List Claim → ℕ → ℕ → ℕ
open_weights cs family level =
    sum_below (length cs) (λ g. open_weight family level (claim_at cs g))

-- at that level nothing is left of the amount, or all groups of the family are full
abbrev pub IsSettled : List Claim → ℕ → ℕ → ℕ → Type 0
IsSettled cs family amount level =
    (amount ≤ taken cs family level) ⊎ (open_weights cs family level ≡ 0)

-- the level at which a family shares an amount: that is settled, and at each lower one something is
-- left
pub record IsLevel (cs : List Claim) (family amount level : ℕ) : Type 0 where
  pub settled : IsSettled cs family amount level
  pub lowest : (l : ℕ) → l < level → taken cs family l < amount

-- a way up from a level: more is taken at its end, and below its end something is left
pub record IsStep (cs : List Claim) (family amount level step : ℕ) : Type 0 where
  pub left : taken cs family level < amount
  pub more : taken cs family level < taken cs family (level + step)
  pub within : level + step ≤ amount
  pub too_low : (l : ℕ) → level ≤ l → l < level + step → taken cs family l < amount

-- the level of the family of that number
abbrev pub level_at : List ℕ → ℕ → ℕ
level_at levels family = slice_index_or levels family 0

-- what is due to a group, by its claim, at the levels of all families; the group's parent comes
-- before it
abbrev pub due_by : List ℕ → ℕ → Claim → ℕ
due_by levels g c = if nat_le c.family g then takes c.family (level_at levels c.family) c else 0

-- what is due to the group of that number
abbrev pub due : List Claim → List ℕ → ℕ → ℕ
due cs levels g = due_by levels g (claim_at cs g)

-- the levels of all families: the groups at the top share what ran, and those within a group share
-- what is due to it
pub record AreLevels (cs : List Claim) (ran : ℕ) (levels : List ℕ) : Type 0 where
  pub top : IsLevel cs 0 ran (level_at levels 0)
  pub within : (g : ℕ) → g < length cs →
      IsLevel cs (suc g) (due cs levels g) (level_at levels (suc g))

-- ---- dues

-- one number of a list is greater by that much; at most what fits in 128 bits
abbrev pub more_at : List ℕ → ℕ → ℕ → List ℕ
more_at xs g more = slice_set xs g (min (slice_index_or xs g 0 + more) (2 ^ 128 - 1))

-- with what is due to the groups below that number at these levels
abbrev pub with_dues : ℕ → List Claim → List ℕ → List ℕ → List ℕ
with_dues zero cs levels xs = xs
with_dues (suc g) cs levels xs = more_at (with_dues g cs levels xs) g (due cs levels g)

-- ---- laws

-- a group and another of its family, both after their parent
pub record AreBeside (cs : List Claim) (g h : ℕ) : Type 0 where
  pub family : (claim_at cs h).family ≡ (claim_at cs g).family
  pub first : (claim_at cs g).family ≤ g
  pub second : (claim_at cs g).family ≤ h

-- no group is due more than it has room for, and one that is due less by weight than another of its
-- family has room for no more
pub record AreFair (cs : List Claim) (levels : List ℕ) : Type 0 where
  pub capped : (g : ℕ) → due cs levels g ≤ (claim_at cs g).room
  pub full : (g h : ℕ) → AreBeside cs g h →
      due cs levels g * (claim_at cs h).weight < due cs levels h * (claim_at cs g).weight →
      due cs levels g ≡ (claim_at cs g).room

-- dues are fair, at whatever levels
abbrev pub DuesAreFair : Type 0
DuesAreFair = (cs : List Claim) (levels : List ℕ) → AreFair cs levels
