use Rattle.scx_abs.proofs.Orders.{covers_itself, covers_through, covers_more}
use Rattle.scx_abs.proofs.Proper.{same_state}
use Rattle.scx_abs.proofs.Sound.{rules_sound, start_sound}
use Rattle.scx_abs.proofs.laws.rules_are_sound.Goals as goal

pub returns-clause-rules : goal.returns-clause-rules
returns-clause-rules c = rules_sound

pub returns-clause-start : goal.returns-clause-start
returns-clause-start c = start_sound

pub returns-clause-covers : goal.returns-clause-covers
returns-clause-covers c = covers_more

pub returns-clause-reflexive : goal.returns-clause-reflexive
returns-clause-reflexive c = covers_itself

pub returns-clause-transitive : goal.returns-clause-transitive
returns-clause-transitive c = covers_through

pub returns-clause-antisymmetric : goal.returns-clause-antisymmetric
returns-clause-antisymmetric c = same_state
