use Rattle.std.proofs.Common.{◌<◌, ◌≢◌, length, ap, ◌∙◌, arith, length-set, get_or-set_other, get_or-set_same, below_more}
use Rattle.std.proofs.lemmas.List.Sums.{sum_by_more}
use Rattle.scx_maps.specs.Limits.{byte_count}
use Rattle.scx_maps.specs.Unused.{unused_shape}
use Rattle.scx_maps.proofs.layout.Layout.new.Goals as goal

pub loop-map-preserved : goal.loop-map-preserved
loop-map-preserved c =
    let more = sum_by_more byte_count c.shapes-shape-items.result.now c.loop-map.map unused_shape c.loop-map-test.true in
    let same = ap (λ xs. length xs) c.shapes-shape-items.ensures.shapes in
    let there : c.loop-map.map < length c.loop-map.starts = omega (arith, same, c.loop-map.invariant.long, c.shapes-shape-items.ensures.limits.count, c.loop-map-test.true) in
    record {
      long = length-set c.loop-map.starts c.loop-map.map c.loop-map.bytes ∙ c.loop-map.invariant.long;
      so_far = omega (arith, more, c.loop-map.invariant.so_far, c.bytes-bytes.ensures);
      begins = below_more _ _
          (λ m below. let ne : m ≢ c.loop-map.map = omega (arith, below) in get_or-set_other c.loop-map.starts c.loop-map.map m c.loop-map.bytes 0 ne ∙ c.loop-map.invariant.begins m below)
          (get_or-set_same c.loop-map.starts c.loop-map.map c.loop-map.bytes 0 there ∙ c.loop-map.invariant.so_far);
    }
