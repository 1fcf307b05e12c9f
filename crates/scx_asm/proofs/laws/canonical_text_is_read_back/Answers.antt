use Rattle.scx_asm.proofs.RoundTrip.{reads_back, assembles_back}
use Rattle.scx_asm.proofs.Standing.{read_as}
use Rattle.scx_asm.proofs.laws.canonical_text_is_read_back.Goals as goal

pub returns-clause-read : goal.returns-clause-read
returns-clause-read c = reads_back

pub returns-clause-assembled : goal.returns-clause-assembled
returns-clause-assembled c = assembles_back

pub returns-clause-reads : goal.returns-clause-reads
returns-clause-reads c = read_as
