use Rattle.scx_abs.proofs.Sound.{rules_sound}
use Rattle.scx_abs.proofs.laws.calls_and_null_tests_are_sound.Goals as goal

pub returns : goal.returns
returns c = λ k i a m is fits p h. rules_sound k i a m fits p h
