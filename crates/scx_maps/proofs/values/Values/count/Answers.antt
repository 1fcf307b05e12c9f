use Rattle.std.proofs.Common.{◌≡◌, length, ap, sym, ◌∙◌, arith}
use Rattle.scx_maps.proofs.Blocks.{length-contents_in}
use Rattle.scx_maps.proofs.values.Values.count.Goals as goal

pub returns : goal.returns
returns c =
    let same : c.count.result ≡ length c.args.self.now = c.count.ensures.count ∙ sym (length-contents_in c.self.inside.layout c.self.inside.block.items) ∙ ap (λ maps. length maps) c.self.view_is in
    record {
      count = same;
      most = omega (arith, same, c.count.ensures.count, c.count.ensures.limits.count);
    }
