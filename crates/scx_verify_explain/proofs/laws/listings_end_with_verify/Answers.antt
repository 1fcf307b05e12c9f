use Rattle.scx_verify_explain.proofs.Coming.{listings_end, listings_need_flow, listings_whole}
use Rattle.scx_verify_explain.proofs.laws.listings_end_with_verify.Goals as goal

pub returns-clause-refused : goal.returns-clause-refused
returns-clause-refused c = listings_end

pub returns-clause-flow : goal.returns-clause-flow
returns-clause-flow c = listings_need_flow

pub returns-clause-whole : goal.returns-clause-whole
returns-clause-whole c = listings_whole
