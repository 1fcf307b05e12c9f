use Rattle.std.proofs.Common.{refl}
use Rattle.scx_isa_semantics.proofs.per_callback.PerCallback+Option+T.passes.Goals as goal

pub returns-in-Some : goal.returns-in-Some
returns-in-Some g c = rw (← c.get.ensures, c.in-Some.is) record { shown = c.in-Some.value; shows = refl; says = record { met = c.test.ensures } }
