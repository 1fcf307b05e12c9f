use Rattle.std.proofs.Common.{sym, ◌∙◌, arith}
use Rattle.indexmap.specs.IndexMap.{with_value_at}
use Rattle.indexmap.proofs.CallerLemmas.{index_map_len-with_value_at}
use Rattle.scx_maps.proofs.Noted.{noted_at, led_on}
use Rattle.scx_maps.proofs.keys.note.Goals as goal

pub returns-in-Some-clause-noted : goal.returns-in-Some-clause-noted
returns-in-Some-clause-noted c =
    (noted_at c.args.index.now c.args.key c.in-Some.place c.args.slot c.get_index_of.ensures.unique (sym c.get_index_of.ensures.index ∙ c.in-Some.is)).1

pub returns-in-Some-clause-led : goal.returns-in-Some-clause-led
returns-in-Some-clause-led c =
    let noted = noted_at c.args.index.now c.args.key c.in-Some.place c.args.slot c.get_index_of.ensures.unique (sym c.get_index_of.ensures.index ∙ c.in-Some.is) in
    led_on c.args.held.now c.args.index.now (with_value_at c.args.index.now c.in-Some.place c.args.slot) c.args.key c.args.slot c.requires.led c.requires.new noted.2

pub returns-in-Some-clause-room : goal.returns-in-Some-clause-room
returns-in-Some-clause-room c = omega (arith, c.requires.room, index_map_len-with_value_at c.args.index.now c.in-Some.place c.args.slot)
