-- A callback that isn't dispatch moves nobody: it changes no entry and pushes nothing, and leaves the tree as it is.
use Rattle.std.proofs.Common.{◌∙◌, sym, ◌≡◌, ℕ, Bool, true, false, cond, List, map, Option, None, is_none}
use Rattle.scx_dsq.specs.Queues.{QueueState}
use Rattle.scx_dsq.specs.Calls.{create_refusal, with_queue, after_create}
use Rattle.scx_isa_semantics.specs.declared.host_tables.Helper.{Helper}
use Rattle.scx_isa_semantics.specs.Effects.{Query, Call, Load, Store}
use Rattle.scx_vm.specs.Arguments.{argument_of}
use Rattle.scx_vm.specs.Host.{after_query}
use Rattle.scx_vm.specs.declared.arguments.Arg.{Arg}
use Rattle.scx_sched_world.specs.declared.call.Insert.{Insert}
use Rattle.scx_sched_world.specs.World.{WorldState, with_queues}
use Rattle.scx_sched_world.specs.Tasks.{for_cpu}
use Rattle.scx_sched_world.specs.Helpers.{is_dispatch, with_insert, after_release, insert_or_fault, helper_after, world_functions}
use Rattle.scx_sched_machine.proofs.Choices.{keeps_if}
use Rattle.scx_sched.proofs.Queries.{KeepsApart, kept_apart}

-- from the first world to the second, with a callback at hand that isn't dispatch
pub record IsCalm (v w : WorldState) : Type 0 where
  pub entries : w.queues.entries ≡ v.queues.entries
  pub pushes : w.queues.pushes ≡ v.queues.pushes
  pub tree : w.tree ≡ v.tree
  pub ejected : w.ejected ≡ v.ejected
  pub callback : is_dispatch w.call.callback ≡ false

module _ (v : WorldState) where
  calm_apart : KeepsApart (IsCalm v)
  calm_apart w x m a b c d r h = record { entries = h.entries; pushes = h.pushes; tree = h.tree; ejected = h.ejected; callback = h.callback }

  calm_created : (w : WorldState) (q : ℕ) → IsCalm v w → IsCalm v (with_queues w (after_create w.queues q))
  calm_created w q h = keeps_if (λ (s : QueueState). IsCalm v (with_queues w s)) (is_none (create_refusal w.queues q)) (with_queue w.queues q) w.queues (record { entries = h.entries; pushes = h.pushes; tree = h.tree; ejected = h.ejected; callback = h.callback }) (record { entries = h.entries; pushes = h.pushes; tree = h.tree; ejected = h.ejected; callback = h.callback })

  calm_inserted : (w : WorldState) (t : Option ℕ) (i : Insert) → IsCalm v w → IsCalm v (insert_or_fault w None t i)
  calm_inserted w t i h = go (is_dispatch w.call.callback) h.callback
    where
      go : (b : Bool) → b ≡ false → IsCalm v (cond b (after_release w t (for_cpu w.call.cpu i)) (with_insert w i))
      go true e = absurd (cc)
      go false e = record { entries = h.entries; pushes = h.pushes; tree = h.tree; ejected = h.ejected; callback = h.callback }

  calm_helper : (w : WorldState) (f : Helper) (a : List Arg) → IsCalm v w → IsCalm v (helper_after w f a)
  calm_helper w f a h = kept_apart (IsCalm v) calm_apart w h (λ i o new. record { entries = h.entries; pushes = h.pushes; tree = h.tree; ejected = h.ejected; callback = h.callback }) (λ q. calm_created w q h) (λ t i flags back none. calm_inserted w t i h) (λ q here low. absurd (is_not here)) f a
    where
      is_not : is_dispatch w.call.callback ≡ true → ⊥
      is_not here = let x : true ≡ false = sym here ∙ h.callback in cc

  pub calm_query : (w : WorldState) (q : Query) → IsCalm v w → IsCalm v (after_query world_functions w q)
  calm_query w (Call f a) h = calm_helper w f (map argument_of a) h
  calm_query w (Load t f) h = h
  calm_query w (Store t f k) h = record { entries = h.entries; pushes = h.pushes; tree = h.tree; ejected = h.ejected; callback = h.callback }
