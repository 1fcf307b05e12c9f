-- The machine of a run: it has the policy of the policy file, and the processors, groups and tasks
-- of the workload.
use Rattle.std.specs.Prelude.{◌≡◌, ℕ, List, [], ◌∷◌, length, Option, Some, None, slice_set}
use Rattle.scx_weights.specs.declared.group.Group.{Group}
use Rattle.scx_weights.specs.Hierarchy.{Hierarchy, parent_of, quota_at, period_at}
use Rattle.scx_sched_machine.specs.declared.events.Event.{Event}
use Rattle.scx_sched_machine.specs.declared.events.Event.TheVariants.{SetTaskWeight}
use Rattle.scx_sched_machine.specs.declared.events.Refused.{Refused}
use Rattle.scx_sched.specs.Sim.{SimState, refusal}
use Rattle.scx_load_policies.specs.Policies.{PolicyFile}
use Rattle.scx_load_policies.specs.Building.{IsBuilt}
use Rattle.scx_load_workloads.specs.Workload.{WorkloadState, first_tree}

-- the tree has these groups with their parents, quotas and periods, whatever their weights are now,
-- and these tasks, each in its group
pub record HasGroups (groups : List Group) (homes : List ℕ) (tree : Hierarchy) : Type 0 where
  pub count : length tree.groups ≡ length groups
  pub parents : (g : ℕ) → parent_of tree.groups g ≡ parent_of groups g
  pub quotas : (g : ℕ) → quota_at tree.groups g ≡ quota_at groups g
  pub periods : (g : ℕ) → period_at tree.groups g ≡ period_at groups g
  pub tasks : tree.homes ≡ homes

-- the machine has the policy that `build` makes of that file, with its limit and all of its
-- programs, its random numbers begin at that workload's seed, and it has the processors, tasks and
-- groups of that workload, each task with its mask and with that weight of its own
pub record IsMachineOf (p : PolicyFile) (w : WorkloadState) (own : List ℕ) (s : SimState)
    : Type 0 where
  pub policy : IsBuilt p s.state.policy
  pub seed : s.state.policy.seed ≡ w.seed
  pub cpus : length s.state.world.cpus ≡ w.cpus
  pub tasks : length s.state.world.tasks ≡ length w.homes
  pub tree : HasGroups w.groups w.homes s.state.world.tree
  pub weights : s.state.world.tree.own_weights ≡ own
  pub masks : s.state.world.tree.masks ≡ (first_tree w).masks

-- ---- from state to state

-- the own weights of tasks after an event: those before, but for the task to which it gives another
abbrev pub weights_given : List ℕ → Event → List ℕ
weights_given own (SetTaskWeight t x) = slice_set own t x
weights_given own e = own

-- an event that is refused gives none
abbrev pub weights_after : Option Refused → List ℕ → Event → List ℕ
weights_after None own e = weights_given own e
weights_after (Some r) own e = own

-- of the states, one more than events, each is a machine of that file and that workload; tasks have
-- these own weights in the first one, and then those that the events give them
abbrev pub AreMachinesOf :
    PolicyFile → WorkloadState → List ℕ → List Event → List SimState → Type 0
AreMachinesOf p w own [] (s ∷ []) = IsMachineOf p w own s
AreMachinesOf p w own (e ∷ es) (s ∷ ss) =
    IsMachineOf p w own s × AreMachinesOf p w (weights_after (refusal s e) own e) es ss
AreMachinesOf p w own es ss = ⊥
