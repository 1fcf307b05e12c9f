use Rattle.std.proofs.Common.{◌≡◌, rules}
use Rattle.scx_maps.specs.Sameness.{same_shapes}
use Rattle.scx_maps.proofs.Same.{Decides-same_shapes}
use Rattle.scx_maps.proofs.defs.MapDefsPartialEq.eq.Goals as goal

pub returns-clause-same : goal.returns-clause-same
returns-clause-same c =
    let answer : c.eq.result ≡ same_shapes c.args.self.now c.args.other.now = search rules in
    Decides-same_shapes c.args.self.now c.args.other.now c.eq.result answer
