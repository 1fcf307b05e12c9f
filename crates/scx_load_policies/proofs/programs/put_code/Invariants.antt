use Rattle.std.proofs.Common.{◌≡◌, drop}
use Rattle.toml.specs.View.{table_view}
use Rattle.scx_isa_semantics.specs.Callbacks.{callbacks}
use Rattle.scx_load_policies.specs.Programs.{with_each, code_at, with_code}
use Rattle.scx_load_policies.proofs.programs.put_code.Given as goal

-- what the callbacks still to come make of the programs is what all make of those at the beginning
abbrev pub invariant-loop-callback : goal.invariant-loop-callback
invariant-loop-callback l =
    let ms = table_view l.code.table.now in
    with_each (λ b old. code_at ms b) (drop l.callback-index callbacks) l.programs ≡ with_code ms l.initial.programs
