-- The states that are kept, each in the same number of words, and the way to each.
use Rattle.std.specs.Prelude.{◌≡◌, ℕ, ◌+◌, ◌*◌, ◌≤◌, ◌<◌, List, [], ◌∷◌, ◌++◌, length, take, drop, Option, slice_get, vec_capacity}
use Rattle.scx_explore_machines.specs.declared.seen.Seen.TheInside.{Inside}
use Rattle.scx_explore_machines.specs.declared.seen.Way.{Way}
use Rattle.scx_explore_machines.specs.declared.seen.Place.{Place}
use Rattle.scx_explore_machines.specs.declared.seen.Place.TheVariants.{Of, Free, Nowhere}
use Rattle.scx_explore_machines.specs.declared.seen.Entered.{Entered}
use Rattle.scx_explore_machines.specs.declared.seen.Entered.TheVariants.{Was, New, Full}

-- states as words, by their numbers
pub record Kept : Type 0 where
  pub width : ℕ  -- how many words a state has
  pub count : ℕ  -- how many states are kept
  pub words : List ℕ
  pub ways : List Way

-- before any state is met
abbrev pub no_states : ℕ → Kept
no_states width = record { width = width; count = 0; words = []; ways = [] }

-- the state of that number
abbrev pub state_at : Kept → ℕ → List ℕ
state_at v k = take v.width (drop (k * v.width) v.words)

-- the state is one of those that are kept
abbrev pub IsKept : Kept → List ℕ → Type 0
IsKept v xs = (k : ℕ) × (k < v.count) × (state_at v k ≡ xs)

-- how the state of that number was come to
abbrev pub way_at : Kept → ℕ → Option Way
way_at v k = slice_get v.ways k

-- one state more
abbrev pub with_state : Kept → List ℕ → Way → Kept
with_state v xs way = record {
  width = v.width;
  count = v.count + 1;
  words = v.words ++ xs;
  ways = v.ways ++ way ∷ [];
}

-- what is so of the answer: one that was kept is that state, and one more is kept, or none
abbrev pub IsEntered : Kept → List ℕ → Way → Entered → Kept → Type 0
IsEntered v xs way (Was k) new = (k < v.count) × (state_at v k ≡ xs) × (new ≡ v)
IsEntered v xs way (New k) new = (k ≡ v.count) × (new ≡ with_state v xs way)
IsEntered v xs way Full new = new ≡ v

-- the place of a state that is kept is its number; one that isn't may be kept if it has as many
-- words
abbrev pub IsPlace : Kept → List ℕ → Place → Type 0
IsPlace v xs (Of k) = (k < v.count) × (state_at v k ≡ xs)
IsPlace v xs (Free k) = length xs ≡ v.width
IsPlace v xs Nowhere = Unit {0}

-- what is kept, in its fields
abbrev pub view_of : Inside → Kept
view_of i = record {
  width = i.width;
  count = i.count;
  words = i.words.items;
  ways = i.ways.items;
}

-- each state has its words and its way, and there is room for as many as there may be
pub record IsFilled (i : Inside) : Type 0 where
  pub some : 0 < i.width
  pub filled : length i.words.items ≡ i.count * i.width
  pub each : length i.ways.items ≡ i.count
  pub room : i.room * i.width ≤ vec_capacity i.words
  pub ways_room : i.room ≤ vec_capacity i.ways
  pub few : i.count ≤ i.room
