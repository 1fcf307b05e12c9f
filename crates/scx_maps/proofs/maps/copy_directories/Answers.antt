use Rattle.std.proofs.Common.{◌+◌, take, set, ap, ◌∙◌, map, arith}
use Rattle.scx_isa_semantics.specs.Directories.{Directory, kind_of}
use Rattle.scx_maps.specs.Keeping.{slots_held}
use Rattle.scx_maps.proofs.CopiedParts.{alike_at, alike_on, alike_length, front_copied}
use Rattle.scx_maps.proofs.maps.copy_directories.Goals as goal

pub copy_from-requires-clause-kind : goal.copy_from-requires-clause-kind
copy_from-requires-clause-kind c =
    let far = c.loop-number in
    let long = alike_length kind_of far.directories c.args.others.now far.invariant.kinds in
    alike_at kind_of far.directories c.args.others.now far.number c.index-directories-number.result c.index-others-number.result far.invariant.kinds (omega (arith, long, c.loop-number-test.true)) c.loop-number-test.true c.index-others-number.is

pub copy_from-requires-clause-slots : goal.copy_from-requires-clause-slots
copy_from-requires-clause-slots c =
    let far = c.loop-number in
    let long = alike_length kind_of far.directories c.args.others.now far.invariant.kinds in
    alike_at slots_held far.directories c.args.others.now far.number c.index-directories-number.result c.index-others-number.result far.invariant.slots (omega (arith, long, c.loop-number-test.true)) c.loop-number-test.true c.index-others-number.is

pub loop-number-preserved : goal.loop-number-preserved
loop-number-preserved c =
    let far = c.loop-number in
    let others = c.args.others.now in
    let next = c.index-others-number in
    let long = alike_length kind_of far.directories others far.invariant.kinds in
    record {
      done =
          ap (λ (d : Directory). take (far.number + 1) (set far.directories far.number d)) c.copy_from.ensures
          ∙ front_copied far.directories others far.number next.result (omega (arith, long, c.loop-number-test.true)) c.loop-number-test.true next.is far.invariant.done;
      kinds =
          ap (λ (d : Directory). map kind_of (set far.directories far.number d)) c.copy_from.ensures
          ∙ alike_on kind_of far.directories others far.number next.result c.loop-number-test.true next.is far.invariant.kinds;
      slots =
          ap (λ (d : Directory). map slots_held (set far.directories far.number d)) c.copy_from.ensures
          ∙ alike_on slots_held far.directories others far.number next.result c.loop-number-test.true next.is far.invariant.slots;
    }
