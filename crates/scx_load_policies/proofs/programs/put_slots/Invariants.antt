use Rattle.std.proofs.Common.{◌≡◌, drop}
use Rattle.toml.specs.View.{table_view}
use Rattle.scx_isa_semantics.specs.Callbacks.{callbacks, at}
use Rattle.scx_load_policies.specs.Programs.{with_each, slots_at, with_slots}
use Rattle.scx_load_policies.proofs.programs.put_slots.Given as goal

-- what the callbacks still to come make of the programs is what all make of those at the beginning
abbrev pub invariant-loop-callback : goal.invariant-loop-callback
invariant-loop-callback l =
    let ms = table_view l.slots.table.now in
    with_each (λ b old. slots_at ms b (at old b)) (drop l.callback-index callbacks) l.programs ≡ with_slots ms l.initial.programs
