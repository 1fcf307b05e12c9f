use Rattle.scx_maps.proofs.UnderKeys.{writes_the_key, writes_no_other_key, takes_the_key, takes_no_other_key, stay_sound}
use Rattle.scx_maps.proofs.NewLaws.{new_are_sound}
use Rattle.scx_maps.proofs.laws.keys_have_values.Goals as goal

pub returns-clause-written : goal.returns-clause-written
returns-clause-written c = writes_the_key

pub returns-clause-others : goal.returns-clause-others
returns-clause-others c = writes_no_other_key

pub returns-clause-taken : goal.returns-clause-taken
returns-clause-taken c = takes_the_key

pub returns-clause-rest : goal.returns-clause-rest
returns-clause-rest c = takes_no_other_key

pub returns-clause-sound : goal.returns-clause-sound
returns-clause-sound c = stay_sound

pub returns-clause-new : goal.returns-clause-new
returns-clause-new c = new_are_sound
