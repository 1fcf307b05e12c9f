use Rattle.scxsim_explore.proofs.Ended.{is_yes}
use Rattle.scxsim_explore.proofs.auditing.is_closed_along.Goals as goal

pub returns : goal.returns
returns c = λ is. record {
  room = c.args.path.now.room;
  few = c.is_within.ensures c.if-not-is_within.false;
  whole = is_yes _ c.none_in_lists.result is c.none_in_lists.ensures.whole;
  none = (c.numbers.result.now, is_yes _ c.none_in_lists.result is c.none_in_lists.ensures.numbers, is_yes _ c.none_in_lists.result is c.none_in_lists.ensures.none);
}
