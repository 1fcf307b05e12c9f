-- The numbers by which queues order virtual times.
use Rattle.std.specs.Prelude.{ℕ, ◌+◌, ◌%◌, ◌^◌, if◌then◌else◌}
use Rattle.scx_isa_semantics.specs.declared.rules.Rules.{Rules}
use Rattle.scx_isa_semantics.specs.declared.rules.Rules.TheVariants.{Plain, Linux}
use Rattle.scx_sched_world.specs.World.{WorldState, is_by_linux}

-- the rules of the policy, while it is in force; else plain ones
abbrev pub rules_in_force : WorldState → Rules
rules_in_force w = if is_by_linux w then Linux else Plain

-- the number by which a queue of the policy orders a virtual time: under Linux rules times compare
-- as signed numbers (ext.c, `scx_dsq_priq_less`)
abbrev pub key_of_time : Rules → ℕ → ℕ
key_of_time Plain time = time
key_of_time Linux time = (time + 2 ^ 63) % 2 ^ 64
