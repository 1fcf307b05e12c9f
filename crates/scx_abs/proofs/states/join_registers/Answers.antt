use Rattle.std.proofs.Common.{rules, slice_index_or, ap, arith}
use Rattle.std.proofs.lemmas.Grind.{common_steps}
use Rattle.scx_abs.specs.declared.kinds.Kind.TheVariants.{Unusable}
use Rattle.scx_abs.specs.Kinds.{join_kind}
use Rattle.scx_abs.proofs.Lists.{joined_more, joined_later}
use Rattle.scx_abs.proofs.states.join_registers.Goals as goal

pub loop-register-preserved : goal.loop-register-preserved
loop-register-preserved c =
    let at = c.loop-register in
    let x = join_kind (slice_index_or at.registers at.register Unusable) (slice_index_or c.args.others.now at.register Unusable) in
    let here = ap (λ k. join_kind k (slice_index_or c.args.others.now at.register Unusable)) (at.invariant.later at.register (omega arith)) in
    rw c.join_register.ensures record {
      long = first_of (search rules, grind (arith, common_steps));
      so_far = joined_more join_kind at.registers c.args.registers.now c.args.others.now at.register x Unusable
          (omega (arith, c.loop-register-test.true, at.invariant.long)) here at.invariant.so_far;
      later = joined_later at.registers c.args.registers.now at.register x Unusable at.invariant.later;
    }
