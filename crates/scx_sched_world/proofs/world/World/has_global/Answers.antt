use Rattle.std.proofs.Common.{◌≡◌, ℕ, false, Option, Some, None, is_some, IfNone, sym, ◌∙◌, subst}
use Rattle.scx_dsq.specs.Queues.{Waits}
use Rattle.scx_dsq.specs.declared.entries.Entry.{Entry}
use Rattle.scx_sched_world.specs.Ids.{global}
use Rattle.scx_sched_world.specs.World.{WorldState}
use Rattle.scx_sched_world.proofs.Places.{global_stands}
use Rattle.scx_sched_world.proofs.world.World.has_global.Goals as goal

pub front_at-requires : goal.front_at-requires
front_at-requires c = global_stands c.self.inside.queues.state _ c.self.invariant.places

by_none : {P : Type 0} (o : Option ℕ) → is_some o ≡ false → IfNone o P → P
by_none None e p = p
by_none (Some x) e p = absurd (cc)

pub returns-clause-nobody : goal.returns-clause-nobody
returns-clause-nobody c none =
    subst (λ (w : WorldState). (t : ℕ) (p : Entry) → Waits w.queues global t p → ⊥) c.self.view_is
    (by_none c.front_at.result (sym c.is_some.ensures ∙ none) c.front_at.ensures.empty)
