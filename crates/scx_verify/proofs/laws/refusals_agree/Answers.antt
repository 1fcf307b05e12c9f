use Rattle.scx_verify.proofs.Agreement.{first_refusals_agree, refusals_agree}
use Rattle.scx_verify.proofs.laws.refusals_agree.Goals as goal

pub returns-clause-first : goal.returns-clause-first
returns-clause-first c = first_refusals_agree

pub returns-clause-all : goal.returns-clause-all
returns-clause-all c = refusals_agree
