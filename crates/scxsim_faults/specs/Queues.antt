-- The queues that a policy created, in that order.
use Rattle.std.specs.Prelude.{ℕ, zero, suc, ◌+◌, ◌&&◌, nat_lt, slice_get, List, [], ◌∷◌, ◌++◌, length, take, if◌then◌else◌, Option, Some, None}
use Rattle.scx_sched_world.specs.Ids.{policy_end}
use Rattle.scx_sched_world.specs.World.{WorldState}
use Rattle.scxsim_faults.specs.declared.policy_queues.PolicyQueues.{PolicyQueues}

-- the ids that are listed
abbrev pub listed : PolicyQueues → List ℕ
listed q = take q.count q.ids

-- the list with one more queue, if that is a policy's: there are at most 16
abbrev pub with_queue : List ℕ → ℕ → List ℕ
with_queue ids id = if nat_lt id policy_end && nat_lt (length ids) 16 then ids ++ id ∷ [] else ids

-- the list with one more queue, if there is one
abbrev pub with_any : List ℕ → Option ℕ → List ℕ
with_any ids None = ids
with_any ids (Some id) = with_queue ids id

-- the policy's queues among those that were created first
abbrev pub queues_below : ℕ → WorldState → List ℕ
queues_below zero w = []
queues_below (suc n) w = with_any (queues_below n w) (slice_get w.queues.ids n)

-- the policy's queues; in all there are at most 20 queues and one for each CPU
abbrev pub policy_queues : WorldState → List ℕ
policy_queues w = queues_below (20 + length w.cpus) w
