use Rattle.std.proofs.Common.{◌≡◌, ◌<◌, ◌∙◌, Some, length, inl, inr, sym, ap}
use Rattle.scx_weights.specs.Limits.{with_use, is_throttled}
use Rattle.scx_sched_world.specs.Tasks.{slice_left}
use Rattle.scx_sched_world.specs.World.{WorldState, with_tree}
use Rattle.scx_sched_world.proofs.Records.{left_after}
use Rattle.scx_sched_world.proofs.world.World.run_limited.Goals.{then-throttled, else-throttled}
use Rattle.scx_sched_world.proofs.world.World.run_limited.Goals as goal

pub returns-clause-answer : goal.returns-clause-answer
returns-clause-answer c =
    let w = c.args.self.now in
    let t = c.args.task in
    let known : t < length w.tasks = c.requires.known in
    let ran = c.run_ms-left.ensures.world in
    let throttled : c.throttled.result ≡ is_throttled (with_use w.tree t) t =
    c.throttled.ensures ∙ (ap (λ k. is_throttled c.self.inside.tree k) c.from.ensures
    ∙ (ap (λ (x : WorldState). is_throttled x.tree t) (c.self.view_is ∙ c.charge_ms.ensures) ∙ ap (λ (x : WorldState). is_throttled (with_use x.tree t) t) ran)) in
    let after = ap (λ (x : WorldState). slice_left x t) (c.charge_ms.ensures ∙ ap (λ (x : WorldState). with_tree x (with_use x.tree t)) ran) in
    elim c.if-throttled.branch [
      | then-throttled b ↦ left_after w (with_use w.tree t) t c.throttled.result c.if-throttled.result known throttled (inl (b.if-throttled.true, b.result-is)) ∙ sym after
      | else-throttled b ↦ left_after w (with_use w.tree t) t c.throttled.result c.if-throttled.result known throttled (inr (b.if-throttled.false, b.result-is ∙ ap Some c.run_ms-left.ensures.answer)) ∙ sym after
    ]
