use Rattle.std.proofs.Common.{Ok, Err}
use Rattle.scx_asm.proofs.Fitting.{program_read}
use Rattle.scx_asm.proofs.FirstFaults.{answers}
use Rattle.scx_asm.proofs.assembling.assemble.Goals as goal

pub new-requires : goal.new-requires
new-requires c = program_read c.args.text.now c.in-Ok.code.items c.in-Ok.ensures

pub returns-in-Ok-clause-answers : goal.returns-in-Ok-clause-answers
returns-in-Ok-clause-answers c = answers c.args.text.now (Ok c.new.result) (rw c.new.ensures c.in-Ok.ensures)

pub returns-in-Err-clause-answers : goal.returns-in-Err-clause-answers
returns-in-Err-clause-answers c = answers c.args.text.now (Err c.in-Err.error) c.in-Err.ensures
