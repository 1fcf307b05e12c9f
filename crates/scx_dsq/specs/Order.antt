-- The order of the ids of the queues. No public clause cites it.
use Rattle.std.specs.Prelude.{ℕ, ◌<◌, ◌≤◌, List, length, slice_index_or, All, AllPairs, Contains}

-- the positions of all ids, those of lesser ids first
pub record IsOrder (ids order : List ℕ) : Type 0 where
  pub within : All (λ a. a < length ids) order
  pub ascending : AllPairs (λ a b. slice_index_or ids a 0 < slice_index_or ids b 0) order
  pub all : (m : ℕ) → m < length ids → Contains order m

-- the id isn't there, and belongs at that position of the order
pub record IsGap (ids order : List ℕ) (id gap : ℕ) : Type 0 where
  pub within : gap ≤ length order
  pub below : (k d : ℕ) → k < gap → slice_index_or ids (slice_index_or order k d) 0 < id
  pub above : (k d : ℕ)
      → gap ≤ k → k < length order → id < slice_index_or ids (slice_index_or order k d) 0
