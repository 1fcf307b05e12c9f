-- A machine as far as limits see it: the tree, and the task on each processor.
use Rattle.std.specs.Prelude.{ℕ, Bool, true, ◌&&◌, not, nat_lt, List, [], ◌∷◌, length, replicate, slice_index_or, slice_set, Option, None, Some, is_none, if◌then◌else◌}
use Rattle.scx_weights.specs.Hierarchy.{Hierarchy}
use Rattle.scx_weights.specs.Limits.{is_throttled, with_use, with_turn}
use Rattle.scx_weights.specs.Uses.{Use, Ran, Turned}

-- the tree, and on each processor the task that runs there, if one does
pub record QuotaMachine : Type 0 where
  pub tree : Hierarchy
  pub cpus : List (Option ℕ)

-- what happens on a machine
pub data Step : Type 0 where
  Begin : ℕ → ℕ → Step  -- on that processor that task begins to run
  End : ℕ → Step  -- who runs there stops
  Tick : ℕ → Step  -- who runs there has run for a ms
  Turn : ℕ → Step  -- the clock comes to show that time in ms

-- the task that runs on a processor; none where there is no such processor
abbrev pub running : QuotaMachine → ℕ → Option ℕ
running m c = slice_index_or m.cpus c None

-- nobody runs yet
abbrev pub idle_machine : Hierarchy → ℕ → QuotaMachine
idle_machine t cpus = record { tree = t; cpus = replicate cpus None }

-- a task that is throttled after its ms leaves
abbrev pub without_throttled : Hierarchy → ℕ → List (Option ℕ) → ℕ → List (Option ℕ)
without_throttled t k cpus c = if is_throttled t k then slice_set cpus c None else cpus

-- that task, where there is one, has run for a ms there
abbrev pub after_ms : Option ℕ → QuotaMachine → ℕ → QuotaMachine
after_ms None m c = m
after_ms (Some k) m c =
    record { tree = with_use m.tree k; cpus = without_throttled (with_use m.tree k) k m.cpus c }

-- the machine after a step
abbrev pub after_step : QuotaMachine → Step → QuotaMachine
after_step m (Begin c k) = record { tree = m.tree; cpus = slice_set m.cpus c (Some k) }
after_step m (End c) = record { tree = m.tree; cpus = slice_set m.cpus c None }
after_step m (Tick c) = after_ms (running m c) m c
after_step m (Turn clock) = record { tree = with_turn m.tree clock; cpus = m.cpus }

-- none begins to run who is throttled, or where another runs
abbrev pub is_allowed : QuotaMachine → Step → Bool
is_allowed m (Begin c k) =
    (nat_lt c (length m.cpus) && is_none (running m c)) && not (is_throttled m.tree k)
is_allowed m (End c) = nat_lt c (length m.cpus)
is_allowed m (Tick c) = true
is_allowed m (Turn clock) = true

-- the machine after all that, the latest first
abbrev pub run_of : QuotaMachine → List Step → QuotaMachine
run_of m [] = m
run_of m (s ∷ past) = after_step (run_of m past) s

-- each of these steps, the latest first, is allowed where it is done
abbrev pub are_allowed : QuotaMachine → List Step → Bool
are_allowed m [] = true
are_allowed m (s ∷ past) = is_allowed (run_of m past) s && are_allowed m past

-- what a step means for usages
abbrev pub ran_now : Option ℕ → List Use → List Use
ran_now None past = past
ran_now (Some k) past = Ran k ∷ past

-- what happened to usages with a step too: a task ran for a ms, the clock turned, or nothing
abbrev pub used_by : QuotaMachine → Step → List Use → List Use
used_by m (Begin c k) past = past
used_by m (End c) past = past
used_by m (Tick c) past = ran_now (running m c) past
used_by m (Turn clock) past = Turned clock ∷ past

-- what these steps, the latest first, did to usages
abbrev pub uses_of : QuotaMachine → List Step → List Use
uses_of m [] = []
uses_of m (s ∷ past) = used_by (run_of m past) s (uses_of m past)
