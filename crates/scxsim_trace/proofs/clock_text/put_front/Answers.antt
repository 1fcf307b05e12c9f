use Rattle.scxsim_trace.proofs.Digits.{at_front}
use Rattle.scxsim_trace.proofs.clock_text.put_front.Goals as goal

pub returns-clause-text : goal.returns-clause-text
returns-clause-text c =
    at_front _ _ _ _ _ c.write_digits.ensures.start c.digit_count-count.ensures.count c.write_digits.ensures.written
