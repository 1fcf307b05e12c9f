use Rattle.std.proofs.Common.{ℕ, List, ◌+◌, ◌/◌, length, ap}
use Rattle.scx_explore_states.proofs.Pairs.{both_pairs}
use Rattle.scx_explore_states.proofs.map_words.put_pairs.Goals as goal

pub returns : goal.returns
returns c is =
    both_pairs c.args.maps.now _ _ _ _ (ap (λ (bytes : List ℕ). (length bytes + 7) / 8) c.bytes-bytes.ensures) (rw c.bytes-bytes.ensures at (c.put_byte_pairs.ensures c.if-not-put_byte_pairs.false)) (c.put_part_pairs.ensures is)
