use Rattle.std.proofs.Common.{◌≡◌, ◌-◌, ◌≤◌, ◌++◌, length, take, sym, ap, ◌∙◌, arith}
use Rattle.std.specs.List.{copy_within}
use Rattle.std.proofs.KnownBytes.{append_known-moved}
use Rattle.scxsim_output.proofs.Shorts.{moved}
use Rattle.scxsim_output.proofs.blocks.Blocks.spill.Goals as goal

pub returns-clause-contents : goal.returns-clause-contents
returns-clause-contents g c =
    let n = c.write_front-count.result.0 in
    let xs = c.args.self.now.block in
    let end = c.args.self.now.end in
    let inside : end ≤ length xs = omega arith in
    let kept : c.copy_within.new.self ≡ copy_within xs n end 0 = c.copy_within.ensures.after in
    append_known-moved _ _ _ _ _ c.write_front-count.ensures.bytes
    (moved xs n end c.write_front-count.ensures.bound inside ∙ ap (λ z. take n (take end xs) ++ take (end - n) z) (sym kept))
