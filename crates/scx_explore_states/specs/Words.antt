-- Numbers of queues, by which the words of a state name them.
use Rattle.std.specs.Prelude.{ℕ, ◌<◌, ◌==◌, ◌&&◌, nat_lt, List, [], ◌∷◌, ◌++◌, length, All, if◌then◌else◌, Option, Some, None, unwrap_or, position}
use Rattle.scx_dsq.specs.declared.entries.Entry.{Entry}

-- ---- numbers of queues

-- the most queues of a machine that is searched
abbrev pub most_queues : ℕ
most_queues = 36

-- the number of a queue among those in which tasks were met, or the next one
abbrev pub number_in : List ℕ → ℕ → ℕ
number_in ids q = unwrap_or (position (λ other. other == q) ids) (length ids)

-- the queues with one more, if it isn't there and there is room
abbrev pub added : List ℕ → ℕ → List ℕ
added ids q =
    if (number_in ids q == length ids) && nat_lt (number_in ids q) most_queues then ids ++ q ∷ []
    else ids

-- each of the others has a number among these
abbrev pub HasNumbers : List ℕ → List ℕ → Type 0
HasNumbers ids others = All (λ q. number_in ids q < length ids) others

-- the same with that of a task that waits
abbrev pub met : List ℕ → Option Entry → List ℕ
met ids None = ids
met ids (Some e) = added ids e.queue
