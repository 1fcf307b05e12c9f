use Rattle.std.proofs.Common.{◌≡◌, map, Ok}
use Rattle.scx_isa_semantics.specs.Results.{◌>>=◌}
use Rattle.scx_asm.specs.FirstPass.{unresolved_of}
use Rattle.scx_asm.specs.Passes.{table}
use Rattle.scx_asm.specs.Reading.{second_pass, code_of}
use Rattle.scx_asm.proofs.SecondPasses.{left}
use Rattle.scx_asm.proofs.assembling.second_pass.Given as goal

abbrev pub invariant-loop-unresolved : goal.invariant-loop-unresolved
invariant-loop-unresolved l = left (table l.pass.labels.entries) l.pass.unresolved.items l.unresolved-index l.code.items ≡ (second_pass (table l.pass.labels.entries) (map unresolved_of l.pass.unresolved.items) >>= λ is. Ok (code_of is))
