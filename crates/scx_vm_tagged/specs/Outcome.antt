-- The answer of a run, by what the interpreter says.
use Rattle.std.specs.Prelude.{ℕ, Option, Some, None}
use Rattle.scx_vm_tagged.specs.declared.run.Ending.{Ending}
use Rattle.scx_vm_tagged.specs.declared.run.Ending.TheVariants as ran

-- the answer, if the run came to an exit
abbrev pub answer_of : Ending → Option ℕ
answer_of (ran.Done d) = Some d.r0
answer_of (ran.Stuck s) = None
