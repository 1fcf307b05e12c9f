-- What select_cpu inserted may still be done once the policy has heard that the task is runnable: that callback inserts
-- nothing, moves nobody, and no queue goes.
use Rattle.std.proofs.Common.{◌≡◌, ℕ, true, false, List, map, Option, Some, None, is_some, refl, sym, ap, ◌∙◌, subst}
use Rattle.scx_dsq.specs.Calls.{after_create}
use Rattle.scx_isa_semantics.specs.declared.callbacks.Callback.TheVariants as callback
use Rattle.scx_isa_semantics.specs.declared.host_tables.Helper.{Helper}
use Rattle.scx_isa_semantics.specs.Effects.{Query, Call, Load, Store}
use Rattle.scx_vm.specs.Arguments.{argument_of}
use Rattle.scx_vm.specs.declared.arguments.Arg.{Arg}
use Rattle.scx_vm.specs.declared.arguments.Args.{Args}
use Rattle.scx_vm.specs.Host.{after_query}
use Rattle.scx_sched_world.specs.declared.call.Insert.{Insert}
use Rattle.scx_sched_world.specs.declared.eject.Cause.{Cause}
use Rattle.scx_sched_world.specs.World.{WorldState, at_callback}
use Rattle.scx_sched_world.specs.Ejecting.{eject_of}
use Rattle.scx_sched_world.specs.Helpers.{is_dispatch, may_insert_in, insert_fault, helper_after, world_functions}
use Rattle.scx_sched_machine.specs.Steps.{State, is_ejected}
use Rattle.scx_sched_machine.specs.Ejecting.{ejected_for}
use Rattle.scx_sched_machine.specs.Callbacks.{call_ending, acting, after_callback, cause_of, call_back}
use Rattle.scx_sched.specs.Once.{GoesSomewhere}
use Rattle.scx_sched.proofs.Entering.{open_created, goes_on}
use Rattle.scx_sched.proofs.Sound.{is_fit}
use Rattle.scx_sched.proofs.Unchanged.{eject_sets}
use Rattle.scx_sched.proofs.Queries.{kept_called, kept_apart}

module _ (cpus : ℕ) (o : Option Insert) where
  -- with `runnable` at hand
  abbrev IsRemembered : WorldState → Type 0
  IsRemembered w = (w.call.callback ≡ callback.Runnable) × (w.call.insert ≡ None) × GoesSomewhere w.queues cpus o

  not_dispatch : (w : WorldState) → IsRemembered w → is_dispatch w.call.callback ≡ true → ⊥
  not_dispatch w h here = let bad : false ≡ true = sym (ap is_dispatch h.0) ∙ here in absurd (cc)

  inserts_nothing : (w : WorldState) (t : Option ℕ) (i : Insert) (flags : ℕ) → IsRemembered w → insert_fault w t i flags ≡ None → ⊥
  inserts_nothing w t i flags h none = let bad : false ≡ true = subst (λ b. may_insert_in b w t ≡ true) h.0 (is_fit w t i flags none).may in absurd (cc)

  remembered_helper : (w : WorldState) (f : Helper) (a : List Arg) → IsRemembered w → IsRemembered (helper_after w f a)
  remembered_helper w f a h =
      kept_apart IsRemembered (λ v x m a b c d r l. l) w h (λ i o new. h) (λ q. (h.0, h.1, goes_on w.queues (after_create w.queues q) cpus o (λ x r y. open_created w.queues q x r y) h.2))
      (λ t i flags back none. absurd (inserts_nothing w t i flags h none)) (λ q here low. absurd (not_dispatch w h here)) f a

  remembered_query : (w : WorldState) (q : Query) → IsRemembered w → IsRemembered (after_query world_functions w q)
  remembered_query w (Call f a) h = remembered_helper w f (map argument_of a) h
  remembered_query w (Load t f) h = h
  remembered_query w (Store t f k) h = h

  -- what is so of a state is so once a callback has left the policy in force
  kept_in_force : (P : WorldState → Type 0) (x : Option Cause) (s : State) → is_ejected (ejected_for x s).state ≡ false → P s.world → P (ejected_for x s).state.world
  kept_in_force P None s force h = h
  kept_in_force P (Some x) s force h = let bad : true ≡ false = sym (ap (λ y. is_some y) (eject_sets s (eject_of x s.world.clock)).1) ∙ force in absurd (cc)

  -- as `runnable` has run and left the policy in force
  pub remembers : (s : State) (a : Args) (t c : ℕ) → GoesSomewhere s.world.queues cpus o → is_ejected (call_back s callback.Runnable a t c).state ≡ false → IsRemembered (call_back s callback.Runnable a t c).state.world
  unfolding call_back
  remembers s a t c goes force =
      let e = call_ending (acting s callback.Runnable) callback.Runnable a s.maps (at_callback s.world callback.Runnable t c) in
      kept_in_force IsRemembered (cause_of callback.Runnable e) (after_callback s.policy e) force (kept_called IsRemembered remembered_query (acting s callback.Runnable) callback.Runnable a s.maps (at_callback s.world callback.Runnable t c) (refl, refl, goes))
