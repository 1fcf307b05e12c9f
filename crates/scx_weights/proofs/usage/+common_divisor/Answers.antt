use Rattle.std.proofs.lemmas.Nat.Gcd.{IsGcd-from_mod}
use Rattle.scx_weights.proofs.usage.+common_divisor.Goals as goal

pub returns : goal.returns
returns t c = IsGcd-from_mod c.args.a c.args.b c.common_divisor.result c.common_divisor.ensures
