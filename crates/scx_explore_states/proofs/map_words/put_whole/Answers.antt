use Rattle.std.proofs.Common.{◌≡◌, take, arith}
use Rattle.std.proofs.lemmas.List.{take_all}
use Rattle.scx_maps.specs.Words.{parts_words}
use Rattle.scx_explore_states.proofs.Putting.{behind}
use Rattle.scx_explore_states.proofs.map_words.put_whole.Goals as goal

pub returns : goal.returns
returns c is =
    let parts = c.args.maps.now.directories in
    let all : take c.parts.result parts ≡ parts = take_all c.parts.result parts (omega (arith, c.parts.ensures)) in
    behind _ _ _ _ (parts_words parts) (rw all at (c.put_parts.ensures is)) (rw c.bytes.ensures at (c.put_bytes.ensures c.if-not-put_bytes.false))
