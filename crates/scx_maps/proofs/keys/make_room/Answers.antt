use Rattle.scx_maps.proofs.Kept.{led_apart}
use Rattle.scx_maps.proofs.keys.make_room.Goals as goal

pub index_again-requires-clause-apart : goal.index_again-requires-clause-apart
index_again-requires-clause-apart c = led_apart c.args.held.now c.args.index.now c.requires.led
