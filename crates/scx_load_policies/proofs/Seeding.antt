-- A policy that is given a seed.
use Rattle.std.proofs.Common.{ℕ}
use Rattle.scx_sched_policy.specs.Policy.{PolicyState, with_seed}
use Rattle.scx_load_policies.specs.Policies.{PolicyFile}
use Rattle.scx_load_policies.specs.Building.{IsBuilt}

-- the policy of a file stays that where its random numbers begin at a seed
pub built_seeded : (text : PolicyFile) (p : PolicyState) (n : ℕ) → IsBuilt text p → IsBuilt text (with_seed p n)
built_seeded text p n b = record {
  shapes = b.shapes;
  timeout = b.timeout;
  rules = b.rules;
  ticks = b.ticks;
  idle = b.idle;
  timers = b.timers;
  programs = b.programs;
  contexts = b.contexts;
  accepted = b.accepted;
  as_callbacks = b.as_callbacks;
  for_maps = b.for_maps;
  by_rules = b.by_rules;
}
