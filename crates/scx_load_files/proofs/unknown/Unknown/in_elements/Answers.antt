use Rattle.std.proofs.Common.{◌≡◌, get_or, sym, ◌∙◌, arith}
use Rattle.std.proofs.lemmas.Grind.{common_steps}
use Rattle.scx_load_files.specs.Unknown.{least_path, words}
use Rattle.scx_load_files.proofs.Least.{one_more}
use Rattle.scx_load_files.proofs.unknown.Unknown.in_elements.Goals as goal

pub loop-number-preserved : goal.loop-number-preserved
loop-number-preserved c =
    let values = c.args.values.now in
    let i = c.loop-number.number in
    let value = c.index-values-number.result in
    let here : get_or values i value ≡ value = grind (arith, common_steps) in
    let step = rw here at (one_more (words c.args.known.now) c.args.path.now values i value (least_path c.loop-number.unknown) c.loop-number-test.true) in
    rw (c.in_ok-unknown.ensures, c.deref.ensures, c.in_ok-path.ensures) (sym step ∙ c.loop-number.invariant)
