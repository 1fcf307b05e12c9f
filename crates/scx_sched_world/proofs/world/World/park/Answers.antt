use Rattle.std.proofs.Common.{◌≡◌, ◌∙◌, inl, inr, nat_lt, length, sym, ap, arith}
use Rattle.std.proofs.lemmas.Bool.{and_parts}
use Rattle.scx_dsq.specs.declared.entries.Rank.TheVariants.{Fifo}
use Rattle.scx_weights.specs.Limits.{is_throttled}
use Rattle.scx_sched_world.specs.Ids.{parked_queue}
use Rattle.scx_sched_world.specs.World as world
use Rattle.scx_sched_world.specs.World.{WorldState}
use Rattle.scx_sched_world.proofs.Keeping.{push_keeps_both}
use Rattle.scx_sched_world.proofs.Parked.{known_parked}
use Rattle.scx_sched_world.proofs.Settled.{marked_apart}
use Rattle.scx_sched_world.proofs.world.World.park.Goals.{then-not-is_throttled, else-not-is_throttled}
use Rattle.scx_sched_world.proofs.world.World.park.Goals as goal

pub invariant_of-self : goal.invariant_of-self
invariant_of-self c =
    let w = c.self-then-task-len.inside in
    let now = c.if-not-is_throttled.self-inside in
    let is = c.self-then-task-len.invariant in
    let task : c.from.result ≡ c.args.task = c.from.ensures in
    elim c.if-not-is_throttled.branch [
      | then-not-is_throttled b ↦ push_keeps_both w now c.push_fifo-refused.new.self now.unsettled parked_queue c.from.result Fifo is
          (inl b.self-inside-is) (λ on. marked_apart now.unsettled parked_queue (omega arith)) c.push_fifo-refused.ensures.state c.push_fifo-refused.ensures.tasks
      | else-not-is_throttled b ↦
          let throttled = and_parts (nat_lt c.args.task (length w.tasks)) (is_throttled w.tree c.args.task) (ap (λ (v : WorldState). world.is_throttled v c.args.task) c.self-then-task-len.view_is ∙ (sym c.is_throttled.ensures ∙ b.if-not-is_throttled.false)) in
          push_keeps_both w now c.push_fifo-refused.new.self now.unsettled parked_queue c.from.result Fifo is
          (inr (b.self-inside-is, known_parked w.parked_throttled w.queues.state w.tree c.from.result (ap (λ t. is_throttled w.tree t) task ∙ throttled.1) is.parked))
          (λ on. marked_apart now.unsettled parked_queue (omega arith)) c.push_fifo-refused.ensures.state c.push_fifo-refused.ensures.tasks
    ]
