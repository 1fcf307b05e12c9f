-- A task that is put leaves those that are parked as they are.
use Rattle.std.proofs.Common.{ℕ, ◌<◌, Bool, true, false, if◌then◌else◌, List, length, Option, Some, refl}
use Rattle.scx_isa_semantics.specs.declared.callbacks.Callback.TheVariants as callback
use Rattle.scx_isa_semantics.specs.Effects.{Query}
use Rattle.scx_vm.specs.Host.{after_query}
use Rattle.scx_sched_world.specs.World.{WorldState}
use Rattle.scx_sched_world.specs.Ejecting.{evict}
use Rattle.scx_sched_world.specs.Helpers.{world_functions}
use Rattle.scx_sched_machine.specs.Steps.{State, is_ejected}
use Rattle.scx_sched_machine.specs.Callbacks.{call_back, task_and_number}
use Rattle.scx_sched_machine.specs.Put.{enters, enqueue_choice, enters_builtin, comes_in, put}
use Rattle.scx_sched.specs.Kept.{IsKeptBySteps}
use Rattle.scx_sched.specs.Once.{IsSound}
use Rattle.scx_sched.proofs.Parked.{StayParked, stay_here, as_then, as_query, as_evict, as_put_builtin, as_wanted}
use Rattle.scx_sched.proofs.Skeleton.{is_wanted, keeps_call_back}
use Rattle.scx_sched.proofs.Queries.{KeepsCallbacks, kept_call_back}

module _ (w : WorldState) where
  stay_query : (v : WorldState) (q : Query) → StayParked w v → StayParked w (after_query world_functions v q)
  stay_query v q h = as_then w.queues v.queues (after_query world_functions v q).queues h (as_query v q)

  stay_callbacks : KeepsCallbacks (StayParked w)
  stay_callbacks = record { query = stay_query; quiet = λ v h. h; out = λ v x h. h; ejecting = record { evict = λ v t l h. as_then w.queues v.queues (evict v t).queues h (as_evict v t); cut = λ v t h. h } }

module _ (n : ℕ) (I : ℕ → Option ℕ → List (Option ℕ) → WorldState → Type 0) (k : IsKeptBySteps n I) (sound : (m : ℕ) (hand : Option ℕ) (on : List (Option ℕ)) (w : WorldState) → I m hand on w → IsSound hand on n w) where
  stay_comes_in : (m : ℕ) (on : List (Option ℕ)) (w : WorldState) (s : State) (t c : ℕ) → c < length on → I m (Some t) on s.world → StayParked w s.world → StayParked w (comes_in s t c).state.world
  unfolding comes_in enters enters_builtin
  stay_comes_in m on w s t c l h x = go (is_ejected s)
    where
      go : (b : Bool) → StayParked w (if b then enters_builtin s t else enters s t (enqueue_choice s.policy.callbacks.enqueue c s.world.call.insert)).state.world
      go true = as_then w.queues s.world.queues (enters_builtin s t).state.world.queues x (as_put_builtin s.world t)
      go false =
          let i = enqueue_choice s.policy.callbacks.enqueue c s.world.call.insert in
          as_then w.queues s.world.queues (enters s t i).state.world.queues x (as_wanted on n (Some t) s.world t i (is_wanted (length on) s.world s.policy.callbacks.enqueue c s.world.call.insert l refl) (sound m (Some t) on s.world h))

  pub stay_put : (m : ℕ) (on : List (Option ℕ)) (s : State) (t c flags : ℕ) → c < length on → I m (Some t) on s.world → StayParked s.world (put s t c flags).state.world
  unfolding put
  stay_put m on s t c flags l h =
      let r = call_back s callback.Enqueue (task_and_number t flags) t c in
      stay_comes_in m on s.world r.state t c l (keeps_call_back n I k m (Some t) on s callback.Enqueue (task_and_number t flags) t c l h) (kept_call_back (StayParked s.world) (stay_callbacks s.world) s callback.Enqueue (task_and_number t flags) t c (stay_here s.world))
