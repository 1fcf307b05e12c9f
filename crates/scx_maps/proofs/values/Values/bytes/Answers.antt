use Rattle.std.proofs.Common.{sym, ◌∙◌}
use Rattle.scx_maps.proofs.ByPlace.{all_shown}
use Rattle.scx_maps.proofs.values.Values.bytes.Goals as goal

pub returns : goal.returns
returns c = c.deref.ensures.value ∙ sym (all_shown c.self.inside.layout c.self.inside.block.items c.args.self.now c.self.invariant c.self.view_is)
