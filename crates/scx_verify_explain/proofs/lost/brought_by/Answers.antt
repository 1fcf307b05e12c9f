use Rattle.std.proofs.Common.{sym, ◌∙◌}
use Rattle.scx_verify_explain.proofs.Tracks.{brings_greatest}
use Rattle.scx_verify_explain.proofs.lost.brought_by.Goals as goal

pub returns-then-is_same_greatest : goal.returns-then-is_same_greatest
returns-then-is_same_greatest c =
    brings_greatest c.args.listing.now c.args.point (record { from = c.args.from; kind = c.in_ok-kind.kind }) c.args.way c.greatest.result c.greatest_before.result
    c.requires (sym c.kind_brought.ensures ∙ c.in_ok-kind.was) c.greatest.ensures c.greatest_before.ensures (sym c.is_same_greatest.ensures ∙ c.if-is_same_greatest.true)
