-- One walk over the steps of an event. A relation of a state and a step from it that holds of each small step, and of
-- one step after another, holds of callbacks that are told, of cycles, of rounds and of whole events.
use Rattle.std.proofs.Common.{◌≡◌, ℕ, zero, suc, Bool, true, false, ◌==◌, ◌&&◌, not, if◌then◌else◌, List, [], ◌∷◌, ◌++◌, length, Option, Some, None, is_some, refl, subst, arith, ap, sym, ◌∙◌}
use Rattle.std.proofs.lemmas.Bool.{ne_eqb}
use Rattle.std.proofs.lemmas.List.{append-nil}
use Rattle.scx_dsq.specs.Queues.{len_of, front_of, behind_of}
use Rattle.scx_isa_semantics.specs.declared.callbacks.Callback.{Callback}
use Rattle.scx_isa_semantics.specs.declared.callbacks.Callback.TheVariants as callback
use Rattle.scx_vm.specs.Programs.{VerifiedProgram}
use Rattle.scx_vm.specs.declared.arguments.Args.{Args}
use Rattle.scx_sched_world.specs.declared.call.Insert.{Insert}
use Rattle.scx_sched_world.specs.declared.notes.Note.{Note}
use Rattle.scx_sched_world.specs.declared.notes.What.TheVariants as note
use Rattle.scx_sched_world.specs.declared.timers.Alarm.{Alarm}
use Rattle.scx_sched_world.specs.Ids.{global, builtin_queue, parked_queue, local_on}
use Rattle.scx_sched_world.specs.CpuSets.{is_in_set}
use Rattle.scx_sched_world.specs.World.{WorldState, with_switch, with_slept, with_waker, task_at, is_throttled, running, cpu_of, is_idle, at_callback, note_now, waits, out_of_cycle, without_kick, first_home}
use Rattle.scx_sched_world.specs.Tasks.{to_front, homed, after_run, after_switch, after_cut_off, after_wake, after_sleep, after_leave, for_cpu, after_stop, started_at, after_keep, let_go, after_own_weight}
use Rattle.scx_sched_world.specs.Helpers.{alarm_at, due_now, after_fire}
use Rattle.scx_sched_world.specs.Ejecting.{after_charge, after_catch_up}
use Rattle.scx_sched_policy.specs.Policy.{program_of}
use Rattle.scx_sched_machine.specs.Steps.{State, Stepped, with_world, stays, after, one_after_other, is_ejected, is_by_linux, kicked, kicked_if_idle}
use Rattle.scx_sched_machine.specs.Callbacks.{acting, call_back, call_by_linux, answered_by, noted_by, one_task, task_cpu_and_0, task_and_number, cpu_and_task, one_number, two_numbers}
use Rattle.scx_sched_machine.specs.Put.{enters, enqueue_choice, enters_builtin, comes_in, put}
use Rattle.scx_sched_machine.specs.Filling.{fill}
use Rattle.scx_sched_machine.specs.Parking.{park, throttled_front, throttled_next, park_next, clear, in_reach, supply, let_go_one, let_go_from, let_all_go}
use Rattle.scx_sched_machine.specs.Custody.{is_in_custody, tells_dequeued, leaver, tells_of, tells_each, moved_as, hears_dequeue, tells_left}
use Rattle.scx_sched_machine.specs.Cycle.{has_local, keeps_slice, supply_unless_kept, told_of, dispatch_called, after_dispatch, asks_again, tries, stopping_called, after_stopping, after_running, put_back, leave, switched, started_if, start, tells_idle, rest_notes, kept, rest, swap, swap_or_rest, builtin_dispatch, builtin_fill, builtin_ask, builtin_cycle, start_or_cycle, picked, refilled, is_local, start_picked, start_picked_or_cycle, tells_busy, makes_way, pick, pick_or_rest, keep_or_pick, conclude, give_up, ask, seek, look, cycling, ends, falls_idle, notes_idle, idle_or_anew, becomes_idle, concluded, cycle}
use Rattle.scx_sched_machine.specs.Firing.{due, fired, fires, fire, fire_below, fire_all}
use Rattle.scx_sched_machine.specs.Events.{target, insert_or_put, woken, wake_target, comes_to, while_in_force, told_runnable, settle, chosen_by_default, chosen, ask_target, asks_target, settle_at_home, select, from_waker, wake, told_of_sleep, falls_asleep, looks_after_sleep, leaves_cpu, leaves_queue, sleep_from_cpu, sleep_from_queue, sleep_from, sleep, throttle, ends_slices, expire, hears_tick, tick_heard, tick_idle, restore_flag, change_flags, takes_weight, changes_weight, reweigh_running, reweigh_waiting, reweigh_off_cpu, reweigh_at}
use Rattle.scx_sched_machine.specs.Rounds.{most_rounds, next_to_look, look_past, look_from, round, round_then, rounds, with_rounds}
use Rattle.scx_sched_machine.proofs.Choices.{keeps_if}
use Rattle.scx_sched_machine.proofs.Leaving.{in_turn}
use Rattle.scx_sched.specs.Kept.{with_moved}
use Rattle.scx_sched.proofs.Queries.{KeepsQueries, KeepsBuiltin, KeepsCallbacks, kept_enter, kept_put_builtin, kept_call_back}
use Rattle.scx_sched.proofs.Supplying.{park_left, park_next_from, clear_from, IsThrottledIn, throttled_is, throttled_next_is}

-- ---- on and off a processor

-- the callbacks of a task that leaves a processor or comes to one
pub data IsOfSwitch : Callback → Type 0 where
  Leaving : IsOfSwitch callback.Stopping
  Coming : IsOfSwitch callback.Running

-- such a step: the built-in scheduler goes on in that world, or the policy is called for the task
pub data IsSwitch (s : State) (t c : ℕ) (out : WorldState) : Stepped → Type 0 where
  Silent : is_ejected s ≡ true → IsSwitch s t c out (stays (with_world s out))
  Called : (b : Callback) (a : Args) → is_ejected s ≡ false → IsOfSwitch b → IsSwitch s t c out (call_back s b a t c)

-- a task is off its processor, of which the policy didn't hear yet
abbrev pub off_cpu : State → ℕ → ℕ → State
off_cpu s c t = with_world s (after_stop s.world c t)

-- it leaves its processor, and the policy hears of it; the number says whether it stays runnable
abbrev pub goes_off : State → ℕ → ℕ → ℕ → Stepped
goes_off s c t n = after_stopping (off_cpu s c t) c t n

-- so it is once a task has left its processor
pub by_stop : (P : Stepped → Type 0) (s : State) (c t n : ℕ) → ((r : Stepped) → IsSwitch s t c (after_charge s.world t) r → P r) → P (after_stopping s c t n)
unfolding after_stopping
by_stop P s c t n each = go (is_ejected s) refl
  where
    go : (b : Bool) → is_ejected s ≡ b → P (if b then stays (with_world s (after_charge s.world t)) else stopping_called s c t n)
    go true out = each _ (Silent out)
    go false force = each _ (Called callback.Stopping (task_and_number t n) force Leaving)

-- and once one has come to it
pub by_start : (P : Stepped → Type 0) (s : State) (c t : ℕ) → ((r : Stepped) → IsSwitch s t c (after_catch_up s.world t) r → P r) → P (after_running s c t)
unfolding after_running
by_start P s c t each = go (is_ejected s) refl
  where
    go : (b : Bool) → is_ejected s ≡ b → P (if b then stays (with_world s (after_catch_up s.world t)) else call_back s callback.Running (one_task t) t c)
    go true out = each _ (Silent out)
    go false force = each _ (Called callback.Running (one_task t) force Coming)

-- ---- one step after another

-- a step of the first sort and one of the second after it are one of the third
abbrev pub Joins : (R Q S : State → Stepped → Type 0) → Type 0
Joins R Q S = (s : State) (a r : Stepped) → R s a → Q a.state r → S s (one_after_other a r)

-- nothing is said of what a step notes
abbrev pub IsNoted : (State → Stepped → Type 0) → Type 0
IsNoted R = (s : State) (ns : List Note) (r : Stepped) → R s r → R s (record r { notes = ns })

-- what a relation has to hold of for steps to be walked over: of a step that changes nothing, of one after another, and
-- whatever is noted
pub record IsWalked (R : State → Stepped → Type 0) : Type 0 where
  pub none : (s : State) → R s (stays s)
  pub joined : Joins R R R
  pub noted : IsNoted R

-- a step after which nothing is called
ended_so : (r : Stepped) (v : State) → one_after_other r (stays v) ≡ record r { state = v }
ended_so r v = λ i. record { state = v; notes = append-nil r.notes i; calls = append-nil r.calls i }

-- a step that ends with a change of the state
pub walk_ended : (W R : State → Stepped → Type 0) → Joins W R W → (s : State) (r : Stepped) (v : State) → W s r → R r.state (stays v) → W s (record r { state = v })
walk_ended W R after s r v h x = subst (λ (y : Stepped). W s y) (ended_so r v) (after s r (stays v) h x)

-- ---- a property of worlds

-- stays in a step
abbrev pub Stays : (WorldState → Type 0) → State → Stepped → Type 0
Stays P s r = P s.world → P r.state.world

-- so it can be walked over
pub stays_walked : (P : WorldState → Type 0) → IsWalked (Stays P)
stays_walked P = record { none = λ s h. h; joined = λ s a r f g h. g (f h); noted = λ s ns r f. f }

-- ---- callbacks

-- in an event a policy is told things by any callback but those that begin it or choose a processor
abbrev pub is_told : Callback → Bool
is_told callback.Init = false
is_told callback.SelectCpu = false
is_told b = true

abbrev pub IsTold : Callback → Type 0
IsTold b = is_told b ≡ true

-- none of them is asked for a processor
pub told_no_choice : (b : Callback) → IsTold b → b ≡ callback.SelectCpu → ⊥
told_no_choice b told e = let bad : false ≡ true = ap is_told (sym e) ∙ told in absurd (cc)

-- what it has to hold of for the policy to be told something: a callback for that processor
pub record KeepsCalls (R : State → Stepped → Type 0) (c : ℕ) : Type 0 where
  pub steps : IsWalked R
  pub called : (s : State) (b : Callback) (a : Args) (t : ℕ) → IsTold b → R s (call_back s b a t c)

module _ (R : State → Stepped → Type 0) (c : ℕ) (k : KeepsCalls R c) where
  -- one that Linux rules call more
  pub walk_call_by_linux : (s : State) (b : Callback) (a : Args) (t : ℕ) → IsTold b → R s (call_by_linux s b a t c)
  unfolding call_by_linux
  walk_call_by_linux s b a t told = keeps_if (R s) (is_by_linux s && is_some (program_of s.policy b)) (call_back s b a t c) (stays s) (k.called s b a t told) (k.steps.none s)

  -- those of a task that leaves a processor or comes to one
  pub walk_switch : (s : State) (t : ℕ) (out : WorldState) → R s (stays (with_world s out)) → (r : Stepped) → IsSwitch s t c out r → R s r
  walk_switch s t out silent _ (Silent e) = silent
  walk_switch s t out silent _ (Called b a force is) = k.called s b a t (told b is)
    where
      told : (b : Callback) → IsOfSwitch b → IsTold b
      told _ Leaving = refl
      told _ Coming = refl

  -- the policy hears that a processor is idle, or idle no more
  pub walk_tells_idle : (s : State) (n : ℕ) → R s (tells_idle s c n)
  unfolding tells_idle
  walk_tells_idle s n = walk_call_by_linux s callback.UpdateIdle (two_numbers c n) 0 refl

  pub walk_tells_busy : (s : State) (p : Option ℕ) (ran : Bool) → R s (tells_busy s c p ran)
  unfolding tells_busy
  walk_tells_busy s None false = walk_tells_idle s 0
  walk_tells_busy s None true = k.steps.none s
  walk_tells_busy s (Some t) ran = k.steps.none s

  -- of a tick
  pub walk_heard : (s : State) (t : ℕ) → R s (tick_heard s c t)
  unfolding tick_heard
  walk_heard s t = keeps_if (R s) (hears_tick s) (call_back s callback.Tick (one_task t) t c) (stays s) (k.called s callback.Tick (one_task t) t refl) (k.steps.none s)

  -- that a task left its custody
  pub walk_dequeued : (s : State) (t flags : ℕ) → R s (tells_dequeued s t c flags)
  unfolding tells_dequeued
  walk_dequeued s t flags = walk_call_by_linux s callback.Dequeue (task_and_number t flags) t refl

  pub walk_leaves_queue : (s : State) (t flags : ℕ) → R s (stays (with_world s (after_leave s.world t))) → R s (leaves_queue s t c flags)
  unfolding leaves_queue
  walk_leaves_queue s t flags left =
      let v = with_world s (after_leave s.world t) in
      let b = is_in_custody s.world t in
      k.steps.joined s (stays v) (if b then tells_dequeued v t c flags else stays v) left (keeps_if (R v) b (tells_dequeued v t c flags) (stays v) (walk_dequeued v t flags) (k.steps.none v))

  -- each of several that left custody
  walk_tells_of : (o : Option ℕ) (s : State) → R s (tells_of o s c)
  walk_tells_of None s = k.steps.none s
  walk_tells_of (Some t) s = walk_dequeued s t 0

  walk_tells_each : (ns : List Note) (s : State) → R s (tells_each ns s c)
  walk_tells_each [] s = k.steps.none s
  walk_tells_each (x ∷ xs) s = let r = tells_of (leaver x.what) s c in k.steps.joined s r (tells_each xs r.state c) (walk_tells_of (leaver x.what) s) (walk_tells_each xs r.state)

-- a timer that is due: it isn't started any more, the policy hears of it, and then it isn't at hand any more
pub walk_fires : (R : State → Stepped → Type 0) (s : State) (n : ℕ) (a : Alarm) → KeepsCalls R a.cpu → R s (stays (with_world s (after_fire s.world n))) → ((r : State) → R r (stays (fired r))) → R s (fires (Some a) s n)
walk_fires R s n a k begins stops =
    let v = with_world s (after_fire s.world n) in
    let r = call_by_linux v callback.Timer (one_number n) 0 a.cpu in
    walk_ended R R k.steps.joined s r (fired r.state) (k.steps.joined s (stays v) r begins (walk_call_by_linux R a.cpu k v callback.Timer (one_number n) 0 refl)) (stops r.state)

-- ---- a local queue is supplied

-- and as a local queue is filled, throttled tasks are parked, and dispatch is the last callback again
pub record KeepsSupply (R : State → Stepped → Type 0) (c : ℕ) : Type 0 where
  pub calls : KeepsCalls R c
  pub filled : (s : State) (q : ℕ) → (q == parked_queue) ≡ false → R s (fill s q c)
  pub parked : (s : State) (q t : ℕ) → (q == parked_queue) ≡ false → IsThrottledIn s q t → R s (park_left s t)
  pub moved : (s : State) (b : Bool) → R s (stays (with_world s (with_moved s.world b)))

module _ (R : State → Stepped → Type 0) (c : ℕ) (k : KeepsSupply R c) where
  abbrev supply_steps : IsWalked R
  supply_steps = k.calls.steps

  pub walk_park_next : (j : ℕ) (s : State) (q : ℕ) → (q == parked_queue) ≡ false → R s (park_next j s q c)
  unfolding park_next
  walk_park_next zero s q apart = supply_steps.none s
  walk_park_next (suc j) s q apart = go (throttled_next s q c) refl (λ t. walk_park_next j (park_left s t).state q apart)
    where
      go : (o : Option ℕ) → throttled_next s q c ≡ o → ((t : ℕ) → R (park_left s t).state (park_next j (park_left s t).state q c)) → R s (park_next_from j s q c o)
      go None e more = supply_steps.none s
      go (Some t) e more = let p = park_left s t in supply_steps.joined s p (park_next j p.state q c) (k.parked s q t apart (throttled_next_is s q c t e)) (more t)

  walk_clear : (j : ℕ) (s : State) → R s (clear j s c)
  unfolding clear
  walk_clear zero s = supply_steps.none s
  walk_clear (suc j) s =
      let f = fill s global c in
      supply_steps.joined s f (clear_from j f.state c (throttled_front f.state (local_on c))) (k.filled s global refl) (go f.state (throttled_front f.state (local_on c)) refl (λ v. walk_clear j v))
    where
      go : (v : State) (o : Option ℕ) → throttled_front v (local_on c) ≡ o → ((u : State) → R u (clear j u c)) → R v (clear_from j v c o)
      go v None e more = supply_steps.none v
      go v (Some t) e more = let p = park_left v t in supply_steps.joined v p (clear j p.state c) (k.parked v (local_on c) t (ne_eqb (local_on c) parked_queue (λ x. omega (arith, x))) (throttled_is v (local_on c) t e)) (more p.state)

  pub walk_supply : (s : State) → R s (supply s c)
  unfolding supply
  walk_supply s = walk_clear (in_reach s c) s

  -- ---- dispatch

  walk_tells_left : (s : State) (ns : List Note) → R s (tells_left s c ns)
  unfolding tells_left
  walk_tells_left s ns =
      let r = tells_each ns s c in
      let x = walk_tells_each R c k.calls ns s in
      let v = with_world r.state (with_moved r.state.world s.world.call.has_moved) in
      keeps_if (R s) (hears_dequeue s) (record r { state = moved_as s.world.call.has_moved r.state }) (stays s)
      (keeps_if (λ (u : State). R s (record r { state = u })) (is_ejected r.state) r.state v x (walk_ended R R supply_steps.joined s r v x (k.moved r.state s.world.call.has_moved))) (supply_steps.none s)

  pub walk_dispatch_called : (s : State) (p : Option ℕ) → R s (dispatch_called s c p)
  unfolding dispatch_called
  walk_dispatch_called s p =
      let a = cpu_and_task c (told_of s p) in
      let r = call_back s callback.Dispatch a 0 c in
      let ns = noted_by s callback.Dispatch a 0 c in
      supply_steps.joined s r (tells_left r.state c ns) (k.calls.called s callback.Dispatch a 0 refl) (walk_tells_left r.state ns)

  -- and the local queue is supplied
  pub walk_dispatched : (s : State) (p : Option ℕ) → R s (after_dispatch s c p)
  unfolding after_dispatch supply_unless_kept
  walk_dispatched s p =
      let r = dispatch_called s c p in
      let b = keeps_slice r.state p in
      supply_steps.joined s r (if b then stays r.state else supply r.state c) (walk_dispatch_called s p) (keeps_if (R r.state) b (stays r.state) (supply r.state c) (supply_steps.none r.state) (walk_supply r.state))

  -- several times
  pub walk_tries : (j : ℕ) (s : State) (p : Option ℕ) → R s (tries j s c p)
  unfolding tries
  walk_tries zero s p = supply_steps.none s
  walk_tries (suc j) s p =
      let d = after_dispatch s c p in
      let x = walk_dispatched s p in
      keeps_if (R s) (asks_again d.state c p) (one_after_other d (tries j d.state c p)) d (supply_steps.joined s d (tries j d.state c p) x (walk_tries j d.state p)) x

  -- by the built-in scheduler
  pub walk_builtin_fill : (s : State) → R s (builtin_fill s c)
  unfolding builtin_fill builtin_dispatch
  walk_builtin_fill s =
      let p = park_next (len_of s.world.queues builtin_queue) s builtin_queue c in
      keeps_if (R s) (has_local s c) (stays s) (one_after_other p (fill p.state builtin_queue c)) (supply_steps.none s)
      (supply_steps.joined s p (fill p.state builtin_queue c) (walk_park_next (len_of s.world.queues builtin_queue) s builtin_queue refl) (k.filled p.state builtin_queue refl))

-- ---- a task is put

-- the policy hears that a task is runnable, and the task comes to wait as it was wanted to before
abbrev pub told_and_arrives : State → ℕ → ℕ → Stepped
told_and_arrives s t c =
    let r = call_by_linux s callback.Runnable (task_and_number t 1) t c in
    one_after_other r (insert_or_put (while_in_force r.state s.world.call.insert) r.state t c)

-- and as a task comes to wait, by the policy or by the built-in scheduler
pub record KeepsPuts (R : State → Stepped → Type 0) : Type 0 where
  pub calls : (c : ℕ) → KeepsCalls R c
  pub enters : (s : State) (t : ℕ) (i : Insert) → R s (enters s t i)
  pub enters_builtin : (s : State) (t : ℕ) → R s (enters_builtin s t)

-- a property of worlds that each small change of a query, callbacks and the built-in scheduler keep
pub stays_puts : (P : WorldState → Type 0) → KeepsQueries P → KeepsBuiltin P → KeepsCallbacks P → ((w : WorldState) (b : Callback) (t c : ℕ) → P w → P (at_callback w b t c)) → KeepsPuts (Stays P)
unfolding enters enters_builtin
stays_puts P q b k begun = record {
  calls = λ c. record { steps = stays_walked P; called = λ s x a t told h. kept_call_back P k s x a t c (begun s.world x t c h) };
  enters = λ s t i h. kept_enter P q s.world t i h;
  enters_builtin = λ s t h. kept_put_builtin P q b s.world t h;
}

module _ (R : State → Stepped → Type 0) (k : KeepsPuts R) where
  pub walk_put : (s : State) (t c flags : ℕ) → R s (put s t c flags)
  unfolding put comes_in
  walk_put s t c flags =
      let r = call_back s callback.Enqueue (task_and_number t flags) t c in
      let i = enqueue_choice r.state.policy.callbacks.enqueue c r.state.world.call.insert in
      let b = is_ejected r.state in
      (k.calls c).steps.joined s r (if b then enters_builtin r.state t else enters r.state t i) ((k.calls c).called s callback.Enqueue (task_and_number t flags) t refl)
      (keeps_if (R r.state) b (enters_builtin r.state t) (enters r.state t i) (k.enters_builtin r.state t) (k.enters r.state t i))

  -- or an insert of select_cpu is done
  pub walk_arrives : (o : Option Insert) (s : State) (t c : ℕ) → R s (insert_or_put o s t c)
  walk_arrives None s t c = walk_put s t c 1
  walk_arrives (Some i) s t c = k.enters s t (for_cpu c i)

  -- once the policy has heard that the task is runnable
  pub walk_arrives_told : (s : State) (t c : ℕ) → R s (told_and_arrives s t c)
  walk_arrives_told s t c =
      let a = task_and_number t 1 in
      let r = call_by_linux s callback.Runnable a t c in
      let i = while_in_force r.state s.world.call.insert in
      (k.calls c).steps.joined s r (insert_or_put i r.state t c) (walk_call_by_linux R c (k.calls c) s callback.Runnable a t refl) (walk_arrives i r.state t c)

-- ---- a cycle

-- and as tasks leave processors, come to them and stay there, and cycles begin and end
pub record KeepsCycle (R : State → Stepped → Type 0) : Type 0 where
  pub supply : (c : ℕ) → KeepsSupply R c
  pub puts : (s : State) (t c flags : ℕ) → R s (put s t c flags)
  pub fronts : (s : State) (t c : ℕ) → R s (enters s t (to_front c))
  pub stopped : (s : State) (c t : ℕ) → R s (stays (off_cpu s c t))
  pub charged : (s : State) (t : ℕ) → R s (stays (with_world s (after_charge s.world t)))
  pub started : (s : State) (c t : ℕ) → R s (stays (with_world s (started_at (Some t) s.world c)))
  pub ran : (s : State) (c t : ℕ) → R s (stays (with_world s (after_run s.world c t)))
  pub caught_up : (s : State) (t : ℕ) → R s (stays (with_world s (after_catch_up s.world t)))
  pub switched : (s : State) (t : ℕ) → R s (stays (with_world s (after_switch s.world t)))
  pub kept : (s : State) (t : ℕ) → R s (stays (with_world s (after_keep s.world (Some t))))
  pub kicked : (s : State) (c : ℕ) → R s (stays (kicked s c))
  pub cycling : (s : State) (o : Option ℕ) → R s (stays (cycling s o))
  pub ended : (s : State) → R s (stays (with_world s (out_of_cycle s.world)))

module _ (R : State → Stepped → Type 0) (k : KeepsCycle R) (c : ℕ) where
  abbrev told_here : KeepsCalls R c
  told_here = (k.supply c).calls

  abbrev all_steps : IsWalked R
  all_steps = (k.supply c).calls.steps

  walk_after : (s : State) (ns : List Note) (r : Stepped) → R s r → R s (after ns r)
  walk_after s ns r h = all_steps.noted s (ns ++ r.notes) r h

  -- ---- on and off a processor

  pub walk_goes_off : (s : State) (t n : ℕ) → R s (goes_off s c t n)
  walk_goes_off s t n =
      let off = off_cpu s c t in
      all_steps.joined s (stays off) (goes_off s c t n) (k.stopped s c t) (by_stop (R off) off c t n (walk_switch R c told_here off t (after_charge off.world t) (k.charged off t)))

  walk_put_back : (s : State) (t : ℕ) → R s (put_back s c t)
  unfolding put_back
  walk_put_back s t = keeps_if (R s) (keeps_slice s (Some t)) (enters s t (to_front c)) (put s t c 0) (k.fronts s t c) (k.puts s t c 0)

  -- a task that leaves its processor and is put
  pub walk_leave : (s : State) (p : Option ℕ) → R s (leave s c p)
  unfolding leave
  walk_leave s None = all_steps.none s
  walk_leave s (Some t) =
      let r = goes_off s c t 1 in
      walk_after s (note_now s.world (note.Stop t c) ∷ []) (one_after_other r (put_back r.state c t)) (all_steps.joined s r (put_back r.state c t) (walk_goes_off s t 1) (walk_put_back r.state t))

  walk_switched : (s : State) (t : ℕ) (r : Stepped) → R (switched s t) r → R s r
  unfolding switched
  walk_switched s t r h = all_steps.joined s (stays (switched s t)) r (keeps_if (λ (v : State). R s (stays v)) (is_by_linux s && not (s.policy.tick_ms == 0)) (with_world s (after_switch s.world t)) s (k.switched s t) (all_steps.none s)) h

  -- a task that comes to it, once it has left its queue
  walk_runs : (s v : State) (t : ℕ) → R s (stays v) → R s (after (note_now s.world (note.Run t c) ∷ []) (after_running (switched v t) c t))
  walk_runs s v t left =
      let u = switched v t in
      let r = after_running u c t in
      walk_after s (note_now s.world (note.Run t c) ∷ []) r (all_steps.joined s (stays v) r left (walk_switched v t r (by_start (R u) u c t (walk_switch R c told_here u t (after_catch_up u.world t) (k.caught_up u t)))))

  walk_start : (s : State) → R s (start s c)
  unfolding start
  walk_start s = go (front_of s.world.queues (local_on c))
    where
      go : (o : Option ℕ) → R s (started_if o s c)
      go None = all_steps.none s
      go (Some t) = walk_runs s (with_world s (started_at (Some t) s.world c)) t (k.started s c t)

  -- one that keeps it
  walk_kept : (s : State) (p : Option ℕ) (ns : List Note) → R s (record { state = kept s p; notes = ns; calls = [] })
  walk_kept s None ns = all_steps.noted s ns (stays s) (all_steps.none s)
  walk_kept s (Some t) ns = let v = switched s t in all_steps.noted s ns (stays v) (walk_switched s t (stays v) (all_steps.none v))

  walk_refilled : (s : State) (o : Option ℕ) (r : Stepped) → R (refilled s o) r → R s r
  walk_refilled s None r h = h
  walk_refilled s (Some t) r h = all_steps.joined s (stays (refilled s (Some t))) r (k.kept s t) h

  walk_rest : (s : State) (p : Option ℕ) (ran : Bool) → R s (rest s c p ran)
  unfolding rest
  walk_rest s p ran = walk_refilled s p _ (walk_kept (refilled s p) p (rest_notes s c p ran))

  -- ---- the built-in scheduler

  walk_swap : (s : State) (p : Option ℕ) → R s (swap s c p)
  unfolding swap
  walk_swap s p = let l = leave s c p in all_steps.joined s l (start l.state c) (walk_leave s p) (walk_start l.state)

  walk_swap_or_rest : (s : State) (p : Option ℕ) (ran : Bool) → R s (swap_or_rest s c p ran)
  unfolding swap_or_rest
  walk_swap_or_rest s p ran = keeps_if (R s) (has_local s c) (swap s c p) (rest s c p ran) (walk_swap s p) (walk_rest s p ran)

  walk_builtin_ask : (s : State) (p : Option ℕ) (ran : Bool) → R s (builtin_ask s c p ran)
  unfolding builtin_ask
  walk_builtin_ask s p ran = let f = builtin_fill s c in all_steps.joined s f (swap_or_rest f.state c p ran) (walk_builtin_fill R c (k.supply c) s) (walk_swap_or_rest f.state p ran)

  pub walk_builtin_cycle : (s : State) (p : Option ℕ) (ran : Bool) → R s (builtin_cycle s c p ran)
  unfolding builtin_cycle
  walk_builtin_cycle s p ran = let f = supply s c in all_steps.joined s f (builtin_ask f.state c p ran) (walk_supply R c (k.supply c) s) (walk_builtin_ask f.state p ran)

  -- ---- the policy

  walk_start_or_cycle : (s : State) (ran : Bool) → R s (start_or_cycle s c ran)
  unfolding start_or_cycle
  walk_start_or_cycle s ran = keeps_if (R s) (has_local s c) (start s c) (builtin_cycle s c None ran) (walk_start s) (walk_builtin_cycle s None ran)

  walk_start_picked : (s : State) (t : ℕ) → R s (start_picked s c t)
  unfolding start_picked
  walk_start_picked s t = walk_runs s (with_world s (after_run s.world c t)) t (k.ran s c t)

  walk_start_picked_or_cycle : (o : Option ℕ) (s : State) (ran : Bool) → R s (start_picked_or_cycle o s c ran)
  walk_start_picked_or_cycle None s ran = walk_start_or_cycle s ran
  walk_start_picked_or_cycle (Some t) s ran = keeps_if (R s) (is_local s c t) (start_picked s c t) (start_or_cycle s c ran) (walk_start_picked s t) (walk_start_or_cycle s ran)

  -- a task leaves, once the policy has heard that the processor isn't idle any more
  pub walk_makes_way : (s : State) (p : Option ℕ) (ran : Bool) → R s (makes_way s c p ran)
  unfolding makes_way
  walk_makes_way s p ran = let b = tells_busy s c p ran in all_steps.joined s b (leave b.state c p) (walk_tells_busy R c told_here s p ran) (walk_leave b.state p)

  walk_pick : (s : State) (p : Option ℕ) (ran : Bool) → R s (pick s c p ran)
  unfolding pick
  walk_pick s p ran =
      let o = picked s c in
      let v = refilled s o in
      let l = makes_way v c p ran in
      let r = start_picked_or_cycle o l.state c ran in
      walk_refilled s o (one_after_other l r) (all_steps.joined v l r (walk_makes_way v p ran) (walk_start_picked_or_cycle o l.state ran))

  walk_pick_or_rest : (s : State) (p : Option ℕ) (ran : Bool) → R s (pick_or_rest s c p ran)
  unfolding pick_or_rest
  walk_pick_or_rest s p ran = keeps_if (R s) (has_local s c) (pick s c p ran) (rest s c p ran) (walk_pick s p ran) (walk_rest s p ran)

  walk_keep_or_pick : (s : State) (p : Option ℕ) (ran : Bool) → R s (keep_or_pick s c p ran)
  unfolding keep_or_pick
  walk_keep_or_pick s p ran = keeps_if (R s) (keeps_slice s p) (stays (kept s p)) (pick_or_rest s c p ran) (walk_kept s p []) (walk_pick_or_rest s p ran)

  walk_conclude : (s : State) (p : Option ℕ) (ran : Bool) → R s (conclude s c p ran)
  unfolding conclude
  walk_conclude s p ran = keeps_if (R s) (is_ejected s) (builtin_cycle s c p ran) (keep_or_pick s c p ran) (walk_builtin_cycle s p ran) (walk_keep_or_pick s p ran)

  walk_give_up : (s : State) (p : Option ℕ) → R s (stays (give_up s c p))
  unfolding give_up
  walk_give_up s p = keeps_if (λ (v : State). R s (stays v)) (is_by_linux s && asks_again s c p) (kicked s c) s (k.kicked s c) (all_steps.none s)

  walk_ask : (s : State) (p : Option ℕ) (ran : Bool) → R s (ask s c p ran)
  unfolding ask
  walk_ask s p ran =
      let d = tries 32 s c p in
      let v = give_up d.state c p in
      let r = conclude v c p ran in
      all_steps.joined s d r (walk_tries R c (k.supply c) 32 s p) (all_steps.joined d.state (stays v) r (walk_give_up d.state p) (walk_conclude v p ran))

  walk_seek : (s : State) (p : Option ℕ) (ran : Bool) → R s (seek s c p ran)
  unfolding seek
  walk_seek s p ran =
      let f = supply s c in
      let b = has_local f.state c in
      all_steps.joined s f (if b then pick f.state c p ran else ask f.state c p ran) (walk_supply R c (k.supply c) s) (keeps_if (R f.state) b (pick f.state c p ran) (ask f.state c p ran) (walk_pick f.state p ran) (walk_ask f.state p ran))

  pub walk_look : (s : State) (p : Option ℕ) (ran : Bool) → R s (look s c p ran)
  unfolding look
  walk_look s p ran = keeps_if (R s) (is_ejected s) (builtin_cycle s c p ran) (seek s c p ran) (walk_builtin_cycle s p ran) (walk_seek s p ran)

  -- ---- a processor that falls idle

  walk_ends : (s : State) (r : Stepped) → R s r → R s (ends r)
  walk_ends s r h = walk_ended R R all_steps.joined s r (cycling r.state None) h (k.cycling r.state None)

  walk_idle_or_anew : (s : State) → R s (idle_or_anew s c)
  unfolding idle_or_anew notes_idle
  walk_idle_or_anew s =
      let v = cycling s (Some c) in
      let r = ends (builtin_cycle v c None true) in
      let ns = note_now s.world (note.Idle c) ∷ [] in
      keeps_if (R s) (is_ejected s) r (record { state = cycling s None; notes = ns; calls = [] })
      (all_steps.joined s (stays v) r (k.cycling s (Some c)) (walk_ends v (builtin_cycle v c None true) (walk_builtin_cycle v None true))) (all_steps.noted s ns (stays (cycling s None)) (k.cycling s None))

  walk_becomes_idle : (s : State) → R s (becomes_idle s c)
  unfolding becomes_idle
  walk_becomes_idle s =
      let v = with_world s (out_of_cycle s.world) in
      let r = tells_idle v c 1 in
      let y = idle_or_anew r.state c in
      all_steps.joined s (stays v) (one_after_other r y) (k.ended s) (all_steps.joined v r y (walk_tells_idle R c told_here v 1) (walk_idle_or_anew r.state))

  walk_concluded : (s : State) (ran : Bool) → R s (concluded s c ran)
  unfolding concluded
  walk_concluded s ran = keeps_if (R s) (falls_idle s c ran) (becomes_idle s c) (stays (cycling s None)) (walk_becomes_idle s) (k.cycling s None)

  -- a whole cycle
  pub walk_cycle : (s : State) (p : Option ℕ) (ran : Bool) → R s (cycle s c p ran)
  unfolding cycle
  walk_cycle s p ran =
      let v = cycling s (Some c) in
      let r = look v c p ran in
      let y = concluded r.state c ran in
      all_steps.joined s (stays v) (one_after_other r y) (k.cycling s (Some c)) (all_steps.joined v r y (walk_look v p ran) (walk_concluded r.state ran))

-- ---- rounds

module _ (R : State → Stepped → Type 0) (k : IsWalked R) (each : (s : State) (c : ℕ) → next_to_look s ≡ Some c → R s (round s c)) where
  walk_rounds : (j : ℕ) (s : State) → R s (rounds j s)
  unfolding rounds
  walk_rounds zero s = k.none s
  walk_rounds (suc j) s = go (next_to_look s) refl (λ c. walk_rounds j (round s c).state)
    where
      go : (o : Option ℕ) → next_to_look s ≡ o → ((c : ℕ) → R (round s c).state (rounds j (round s c).state)) → R s (round_then (λ r. rounds j r) s o)
      go None e more = k.none s
      go (Some c) e more = let r = round s c in k.joined s r (rounds j r.state) (each s c e) (more c)

  -- a step, and the processors that look for work after it
  pub walk_with_rounds : (W : State → Stepped → Type 0) → Joins W R W → (s : State) (r : Stepped) → W s r → W s (with_rounds r)
  unfolding with_rounds
  walk_with_rounds W after s r h = keeps_if (W s) (is_by_linux r.state) (one_after_other r (rounds most_rounds r.state)) r (after s r (rounds most_rounds r.state) h (walk_rounds most_rounds r.state)) h

-- ---- timers

module _ (R : State → Stepped → Type 0) (k : IsWalked R) (each : (s : State) (n : ℕ) (a : Alarm) → is_by_linux s ≡ true → due_now s.world (alarm_at s.world n) ≡ Some a → R s (fires (Some a) s n)) where
  walk_fire : (s : State) (n : ℕ) → R s (fire s n)
  unfolding fire due
  walk_fire s n = go (is_by_linux s) refl (due_now s.world (alarm_at s.world n)) refl
    where
      go : (b : Bool) → is_by_linux s ≡ b → (o : Option Alarm) → due_now s.world (alarm_at s.world n) ≡ o → R s (fires (if b then o else None) s n)
      go false e o f = k.none s
      go true e None f = k.none s
      go true e (Some a) f = each s n a e f

  walk_fire_below : (j : ℕ) (s : State) → R s (fire_below j s)
  walk_fire_below zero s = k.none s
  walk_fire_below (suc j) s = let r = fire_below j s in k.joined s r (fire r.state j) (walk_fire_below j s) (walk_fire r.state j)

  -- all that are due
  pub walk_fire_all : (s : State) → R s (fire_all s)
  unfolding fire_all
  walk_fire_all s = walk_fire_below (length s.world.timers) s

-- ---- tasks are let go

-- what is shown of one that is let go, at one of the parked and a state, so that it is so of all
pub record IsOneLetGo (I : State → Type 0) (At : State → Option ℕ → Type 0) (R : State → Stepped → Type 0) : Type 0 where
  pub none : (s : State) → I s → R s (stays s)
  pub joined : Joins R R R
  pub passed : (s : State) (t : ℕ) → At s (Some t) → At s (behind_of s.world.queues t)
  pub one : (s : State) (t : ℕ) → At s (Some t) → I s → R s (let_go_one s t) × I (let_go_one s t).state × At (let_go_one s t).state (behind_of s.world.queues t)

module _ (I : State → Type 0) (At : State → Option ℕ → Type 0) (R : State → Stepped → Type 0) (k : IsOneLetGo I At R) where
  walk_let_go_from : (j : ℕ) (s : State) (o : Option ℕ) → At s o → I s → R s (let_go_from j s o)
  unfolding let_go_from
  walk_let_go_from zero s o here h = k.none s h
  walk_let_go_from (suc j) s None here h = k.none s h
  walk_let_go_from (suc j) s (Some t) here h =
      let next = behind_of s.world.queues t in
      let r = let_go_one s t in
      let x = k.one s t here h in
      keeps_if (R s) (is_throttled s.world t) (let_go_from j s next) (one_after_other r (let_go_from j r.state next)) (walk_let_go_from j s next (k.passed s t here) h) (k.joined s r (let_go_from j r.state next) x.0 (walk_let_go_from j r.state next x.2 x.1))

  -- from the front of the parked on
  pub parked_let_go : (s : State) → At s (front_of s.world.queues parked_queue) → I s → R s (let_all_go s)
  unfolding let_all_go
  parked_let_go s here h = walk_let_go_from (len_of s.world.queues parked_queue) s (front_of s.world.queues parked_queue) here h

-- a walk that holds of each task that is let go holds of letting all go
pub walk_let_all_go : (R : State → Stepped → Type 0) → IsWalked R → ((s : State) (t : ℕ) → R s (let_go_one s t)) → (s : State) → R s (let_all_go s)
walk_let_all_go R k each s = parked_let_go (λ s. Unit {0}) (λ s o. Unit {0}) R (record { none = λ s h. k.none s; joined = k.joined; passed = λ s t h. tt; one = λ s t h i. (each s t, tt, tt) }) s tt tt

-- one of them
pub walk_let_go_one : (R : State → Stepped → Type 0) → IsWalked R → (s : State) (t : ℕ) → R s (stays (with_world s (let_go s.world t))) → ((v : State) (c : ℕ) → R v (put v t c 0)) → ((r : State) (c : ℕ) → R r (stays (kicked r c))) → R s (let_go_one s t)
unfolding let_go_one
walk_let_go_one R k s t free puts kicks =
    let c = (task_at s.world t).prev_cpu in
    let v = with_world s (let_go s.world t) in
    let r = put v t c 0 in
    walk_ended R R k.joined s r (kicked_if_idle r.state c) (k.joined s (stays v) r free (puts v c))
    (keeps_if (λ (u : State). R r.state (stays u)) (is_by_linux r.state && is_idle r.state.world c) (kicked r.state c) r.state (kicks r.state c) (k.none r.state))

-- ---- a task wakes

-- A walk over a wake until its target looks for a task, and then to the end: a processor is chosen, and the task comes
-- to wait.
pub record KeepsWake (R E : State → Stepped → Type 0) (MayAsk : State → Type 0) : Type 0 where
  pub none : (s : State) → R s (stays s)
  pub ending : Joins R E E
  pub asks : (s : State) (t c : ℕ) → MayAsk s → R s (call_back s callback.SelectCpu (task_cpu_and_0 t c) t c)
  pub arrives : (s : State) (t c : ℕ) → R s (insert_or_put s.world.call.insert s t c)
  pub arrives_told : (s : State) (t c : ℕ) → is_by_linux s ≡ true → R s (told_and_arrives s t c)
  pub homed : (s : State) (t c : ℕ) → R s (stays (with_world s (homed s.world t c)))
  pub chosen : (s : State) (t : ℕ) → R s (stays (with_world s (chosen_by_default s.world t)))
  pub asked : (s : State) (t c : ℕ) → R s (stays (with_world s (at_callback s.world callback.SelectCpu t c)))
  pub target : (s : State) (c : ℕ) → E s (wake_target s c)

module _ (R E : State → Stepped → Type 0) (MayAsk : State → Type 0) (k : KeepsWake R E MayAsk) where
  walk_comes_to : (s : State) (t c : ℕ) → E s (comes_to s.world.call.insert s t c)
  unfolding comes_to
  walk_comes_to s t c = let r = insert_or_put s.world.call.insert s t c in k.ending s r (wake_target r.state c) (k.arrives s t c) (k.target r.state c)

  walk_told_runnable : (s : State) (t c : ℕ) → is_by_linux s ≡ true → E s (told_runnable s.world.call.insert s t c)
  unfolding told_runnable comes_to
  walk_told_runnable s t c linux =
      let r = call_by_linux s callback.Runnable (task_and_number t 1) t c in
      let a = insert_or_put (while_in_force r.state s.world.call.insert) r.state t c in
      let w = wake_target a.state c in
      subst (λ (x : Stepped). E s x) (in_turn r a w) (k.ending s (one_after_other r a) w (k.arrives_told s t c linux) (k.target a.state c))

  walk_settle : (s : State) (t c : ℕ) → E s (settle s t c)
  unfolding settle
  walk_settle s t c = k.ending s (stays v) (if is_by_linux v then told_runnable v.world.call.insert v t c else comes_to v.world.call.insert v t c) (k.homed s t c) (go (is_by_linux v) refl)
    where
      v : State
      v = with_world s (homed s.world t c)

      go : (b : Bool) → is_by_linux v ≡ b → E v (if b then told_runnable v.world.call.insert v t c else comes_to v.world.call.insert v t c)
      go true linux = walk_told_runnable v t c linux
      go false plain = walk_comes_to v t c

  walk_chosen : (p : Option VerifiedProgram) (s : State) (t : ℕ) → R s (stays (chosen p s t))
  walk_chosen None s t = k.chosen s t
  walk_chosen (Some p) s t = k.none s

  walk_ask_target : (s : State) (t : ℕ) → MayAsk s → E s (ask_target s t)
  unfolding ask_target
  walk_ask_target s t may =
      let c = (task_at s.world t).prev_cpu in
      let a = task_cpu_and_0 t c in
      let r = call_back s callback.SelectCpu a t c in
      let p = acting r.state callback.SelectCpu in
      let d = target p r.state.world t (answered_by s callback.SelectCpu a t c) in
      let v = chosen p r.state t in
      k.ending s r (settle v t d) (k.asks s t c may) (k.ending r.state (stays v) (settle v t d) (walk_chosen p r.state t) (walk_settle v t d))

  walk_settle_at_home : (s : State) (t c : ℕ) → E s (settle_at_home s t c)
  unfolding settle_at_home
  walk_settle_at_home s t c = let v = with_world s (at_callback s.world callback.SelectCpu t c) in k.ending s (stays v) (settle v t c) (k.asked s t c) (walk_settle v t c)

  pub walk_select : (s : State) (t : ℕ) → MayAsk s → E s (select s t)
  unfolding select
  walk_select s t may =
      let c = first_home s.world t in
      keeps_if (E s) (asks_target s t) (ask_target s t) (settle_at_home s t c) (walk_ask_target s t may) (walk_settle_at_home s t c)

-- ---- what an event does by itself

-- such a change comes once, between other steps
pub record Owns (R W : State → Stepped → Type 0) : Type 0 where
  pub before : Joins R W W
  pub after : Joins W R W
  pub noted : IsNoted W

-- what is walked over is no other
pub owns_all : (R : State → Stepped → Type 0) → IsWalked R → Owns R R
owns_all R k = record { before = k.joined; after = k.joined; noted = k.noted }

-- ---- a task's own weight

module _ (R W : State → Stepped → Type 0) (o : Owns R W) (t x : ℕ) (weighed : (s : State) → W s (stays (with_world s (after_own_weight s.world t x)))) where
  module _ (c : ℕ) (k : KeepsCalls R c) where
    pub walk_takes_weight : (s : State) → W s (takes_weight s t c x)
    unfolding takes_weight
    walk_takes_weight s =
        let v = with_world s (after_own_weight s.world t x) in
        let a = task_and_number t x in
        o.after s (stays v) (call_by_linux v callback.SetWeight a t c) (weighed s) (walk_call_by_linux R c k v callback.SetWeight a t refl)

    pub walk_changes_weight : (s : State) → W s (changes_weight s t c x)
    unfolding changes_weight
    walk_changes_weight s =
        let q = call_by_linux s callback.Quiescent (task_and_number t change_flags) t c in
        let w = takes_weight q.state t c x in
        let r = call_by_linux w.state callback.Runnable (task_and_number t restore_flag) t c in
        o.before s q (one_after_other w r) (walk_call_by_linux R c k s callback.Quiescent (task_and_number t change_flags) t refl)
        (o.after q.state w r (walk_takes_weight q.state) (walk_call_by_linux R c k w.state callback.Runnable (task_and_number t restore_flag) t refl))

    pub walk_reweigh_running : (s : State) → W s (reweigh_running s t c x)
    unfolding reweigh_running
    walk_reweigh_running s =
        let a = call_by_linux s callback.Stopping (task_and_number t 0) t c in
        let b = changes_weight a.state t c x in
        let r = call_by_linux b.state callback.Running (one_task t) t c in
        o.before s a (one_after_other b r) (walk_call_by_linux R c k s callback.Stopping (task_and_number t 0) t refl)
        (o.after a.state b r (walk_changes_weight a.state) (walk_call_by_linux R c k b.state callback.Running (one_task t) t refl))

  module _ (k : (c : ℕ) → KeepsCalls R c) (puts : (s : State) (c : ℕ) → R s (put s t c 0)) (left : (s : State) → R s (stays (with_world s (after_leave s.world t)))) where
    walk_reweigh_waiting : (s : State) (c : ℕ) → W s (reweigh_waiting s t c x)
    unfolding reweigh_waiting
    walk_reweigh_waiting s c =
        let a = leaves_queue s t c change_flags in
        let b = changes_weight a.state t c x in
        let r = put b.state t c 0 in
        o.before s a (one_after_other b r) (walk_leaves_queue R c (k c) s t change_flags (left s)) (o.after a.state b r (walk_changes_weight c (k c) a.state) (puts b.state c))

    walk_reweigh_off_cpu : (s : State) (c : ℕ) → W s (reweigh_off_cpu s t c x)
    unfolding reweigh_off_cpu
    walk_reweigh_off_cpu s c = keeps_if (W s) (waits s.world t) (reweigh_waiting s t c x) (takes_weight s t c x) (walk_reweigh_waiting s c) (walk_takes_weight c (k c) s)

    pub walk_reweigh_at : (on : Option ℕ) (s : State) → W s (reweigh_at on s t x)
    walk_reweigh_at None s = walk_reweigh_off_cpu s (task_at s.world t).prev_cpu
    walk_reweigh_at (Some c) s = walk_reweigh_running c (k c) s

-- ---- events

-- and as processors look for work, switch, and are chosen, as timers are due, and as tasks wake, sleep and are parked
pub record KeepsEvents (R : State → Stepped → Type 0) (MayAsk : State → Type 0) : Type 0 where
  pub cycle : KeepsCycle R
  pub asks : (s : State) (t c : ℕ) → MayAsk s → R s (call_back s callback.SelectCpu (task_cpu_and_0 t c) t c)
  pub arrives : (s : State) (t c : ℕ) → R s (insert_or_put s.world.call.insert s t c)
  pub arrives_told : (s : State) (t c : ℕ) → is_by_linux s ≡ true → R s (told_and_arrives s t c)
  pub looks : (s : State) (c : ℕ) → R s (stays (with_world s (without_kick s.world c)))
  pub cut_off : (s : State) (t : ℕ) → R s (stays (with_world s (after_cut_off s.world t)))
  pub switching : (s : State) (c : ℕ) → R s (stays (with_world s (with_switch s.world c)))
  pub left : (s : State) (t : ℕ) → R s (stays (with_world s (after_leave s.world t)))
  pub parked : (s : State) (t : ℕ) → R s (park s t)
  pub free : (s : State) (t : ℕ) → R s (stays (with_world s (let_go s.world t)))
  pub homed : (s : State) (t c : ℕ) → R s (stays (with_world s (homed s.world t c)))
  pub chosen : (s : State) (t : ℕ) → R s (stays (with_world s (chosen_by_default s.world t)))
  pub asked : (s : State) (t c : ℕ) → R s (stays (with_world s (at_callback s.world callback.SelectCpu t c)))
  pub woken : (s : State) → R s (stays (woken s))
  pub fired : (s : State) → R s (stays (fired s))
  pub waker : (s : State) (c : ℕ) → is_by_linux s ≡ true → R s (stays (with_world s (with_waker s.world (Some c))))
  pub slept : (s : State) (t : ℕ) → is_by_linux s ≡ true → R s (stays (with_world s (with_slept s.world t)))
  pub due : (s : State) (n : ℕ) → is_by_linux s ≡ true → R s (stays (with_world s (after_fire s.world n)))

module _ (R : State → Stepped → Type 0) (MayAsk : State → Type 0) (k : KeepsEvents R MayAsk) where
  abbrev told_on : (c : ℕ) → KeepsCalls R c
  told_on c = (k.cycle.supply c).calls

  abbrev cycles_on : (c : ℕ) (s : State) (p : Option ℕ) (ran : Bool) → R s (cycle s c p ran)
  cycles_on c s p ran = walk_cycle R k.cycle c s p ran

  walk_look_past : (s : State) (c t : ℕ) → R s (look_past s c t)
  unfolding look_past
  walk_look_past s c t = keeps_if (R s) ((task_at s.world t).slice == 0) (cycle s c (Some t) true) (stays s) (cycles_on c s (Some t) true) ((told_on c).steps.none s)

  walk_look_from : (o : Option ℕ) (b : Bool) (s : State) (c : ℕ) → R s (look_from o b s c)
  walk_look_from None b s c = cycles_on c s None false
  walk_look_from (Some t) false s c = walk_look_past s c t
  walk_look_from (Some t) true s c = let v = with_world s (after_cut_off s.world t) in (told_on c).steps.joined s (stays v) (look_past v c t) (k.cut_off s t) (walk_look_past v c t)

  walk_round : (s : State) (c : ℕ) → R s (round s c)
  unfolding round
  walk_round s c =
      let v = with_world s (without_kick s.world c) in
      let o = running s.world c in
      let b = is_in_set s.world.preempted c in
      (told_on c).steps.joined s (stays v) (look_from o b v c) (k.looks s c) (walk_look_from o b v c)

  pub walk_rounds_of : (W : State → Stepped → Type 0) → Joins W R W → (s : State) (r : Stepped) → W s r → W s (with_rounds r)
  walk_rounds_of W after s r h = walk_with_rounds R (told_on 0).steps (λ v c e. walk_round v c) W after s r h

  -- who may run again is let go
  pub walk_lets_go : (s : State) → R s (let_all_go s)
  walk_lets_go s = walk_let_all_go R (told_on 0).steps (λ v t. walk_let_go_one R (told_on 0).steps v t (k.free v t) (λ u c. k.cycle.puts u t c 0) k.cycle.kicked) s

  -- timers that are due run
  pub walk_timers : (s : State) → R s (fire_all s)
  walk_timers s = walk_fire_all R (told_on 0).steps (λ v n a linux e. walk_fires R v n a (told_on a.cpu) (k.due v n linux) k.fired) s

  -- a task leaves its processor, and the policy hears of it
  pub walk_leaves_cpu : (s : State) (c t n : ℕ) → R s (leaves_cpu s c t n)
  unfolding leaves_cpu
  walk_leaves_cpu s c t n =
      let v = with_world s (with_switch s.world c) in
      let r = goes_off v c t n in
      (told_on c).steps.noted s (note_now s.world (note.Stop t c) ∷ r.notes) r ((told_on c).steps.joined s (stays v) r (k.switching s c) (walk_goes_off R k.cycle c v t n))

  walk_throttle : (s : State) (c t : ℕ) → R s (throttle s c t)
  unfolding throttle
  walk_throttle s c t =
      let r = leaves_cpu s c t 1 in
      let p = park r.state t in
      let y = cycle p.state c None true in
      (told_on c).steps.joined s r (one_after_other p y) (walk_leaves_cpu s c t 1) ((told_on c).steps.joined r.state p y (k.parked r.state t) (cycles_on c p.state None true))

  walk_expire : (s : State) (c t : ℕ) → R s (expire s c t)
  unfolding expire
  walk_expire s c t = keeps_if (R s) (((task_at s.world t).slice == 0) && ends_slices s) (cycle s c (Some t) true) (stays s) (cycles_on c s (Some t) true) ((told_on c).steps.none s)

  -- a task has run for a millisecond, which its groups have used
  pub walk_used_up : (s : State) (c t : ℕ) → R s (if is_throttled s.world t then throttle s c t else expire s c t)
  walk_used_up s c t = keeps_if (R s) (is_throttled s.world t) (throttle s c t) (expire s c t) (walk_throttle s c t) (walk_expire s c t)

  -- none has
  pub walk_tick_idle : (s : State) (c : ℕ) → R s (tick_idle s c)
  unfolding tick_idle
  walk_tick_idle s c = keeps_if (R s) (is_by_linux s) (stays s) (cycle s c None false) ((told_on c).steps.none s) (cycles_on c s None false)

  walk_wake_target : (s : State) (c : ℕ) → R s (wake_target s c)
  unfolding wake_target
  walk_wake_target s c =
      let steps = (told_on c).steps in
      let v = woken s in
      keeps_if (R s) (is_by_linux s) (stays (kicked_if_idle v c)) (if is_idle s.world c then cycle s c None false else stays s)
      (steps.joined s (stays v) (stays (kicked_if_idle v c)) (k.woken s) (keeps_if (λ (u : State). R v (stays u)) (is_by_linux v && is_idle v.world c) (kicked v c) v (k.cycle.kicked v c) (steps.none v)))
      (keeps_if (R s) (is_idle s.world c) (cycle s c None false) (stays s) (cycles_on c s None false) (steps.none s))

  pub walk_waking : KeepsWake R R MayAsk
  walk_waking = record { none = (told_on 0).steps.none; ending = (told_on 0).steps.joined; asks = k.asks; arrives = k.arrives; arrives_told = k.arrives_told; homed = k.homed; chosen = k.chosen; asked = k.asked; target = walk_wake_target }

  -- a change by Linux rules alone
  walk_if_linux : (s v : State) (r : Stepped) → (is_by_linux s ≡ true → R s (stays v)) → R (if is_by_linux s then v else s) r → R s r
  walk_if_linux s v r x h = go (is_by_linux s) refl h
    where
      go : (b : Bool) → is_by_linux s ≡ b → R (if b then v else s) r → R s r
      go true linux y = (told_on 0).steps.joined s (stays v) r (x linux) y
      go false plain y = y

  pub walk_from_waker : (s : State) (t : ℕ) (r : Stepped) → R (from_waker s t) r → R s r
  unfolding from_waker
  walk_from_waker s t r h = let c = (task_at s.world t).prev_cpu in walk_if_linux s (with_world s (with_waker s.world (Some c))) r (k.waker s c) h

  pub walk_looks_after_sleep : (s : State) (t c : ℕ) → R s (looks_after_sleep s t c)
  unfolding looks_after_sleep told_of_sleep
  walk_looks_after_sleep s t c = let v = with_world s (with_slept s.world t) in walk_if_linux s v (cycle (if is_by_linux s then v else s) c None true) (k.slept s t) (cycles_on c (if is_by_linux s then v else s) None true)

-- a task sleeps
abbrev pub asleep : State → ℕ → Stepped
asleep s t = stays (with_world s (after_sleep s.world t))

module _ (R W : State → Stepped → Type 0) (MayAsk : State → Type 0) (k : KeepsEvents R MayAsk) (o : Owns R W) where
  pub walk_wake : (s : State) (t : ℕ) → MayAsk (from_waker (with_world s (after_wake s.world t)) t) → W s (stays (with_world s (after_wake s.world t))) → W s (wake s t)
  unfolding wake
  walk_wake s t may woke =
      let v = with_world s (after_wake s.world t) in
      let u = from_waker v t in
      let r = select u t in
      o.noted s (note_now s.world (note.Wake t) ∷ r.notes) r (o.after s (stays v) r woke (walk_from_waker R MayAsk k v t r (walk_select R R MayAsk (walk_waking R MayAsk k) u t may)))

  walk_falls_asleep : (s : State) (t c : ℕ) → W s (asleep s t) → W s (falls_asleep s t c)
  unfolding falls_asleep
  walk_falls_asleep s t c h =
      let v = with_world s (after_sleep s.world t) in
      let a = task_and_number t 1 in
      o.after s (stays v) (call_by_linux v callback.Quiescent a t c) h (walk_call_by_linux R c (told_on R MayAsk k c) v callback.Quiescent a t refl)

  walk_sleep_from_cpu : (s : State) (t c : ℕ) → W (leaves_cpu s c t 0).state (asleep (leaves_cpu s c t 0).state t) → W s (sleep_from_cpu s t c)
  unfolding sleep_from_cpu
  walk_sleep_from_cpu s t c h =
      let r = leaves_cpu s c t 0 in
      let q = falls_asleep r.state t c in
      let y = looks_after_sleep q.state t c in
      o.before s r (one_after_other q y) (walk_leaves_cpu R MayAsk k s c t 0) (o.after r.state q y (walk_falls_asleep r.state t c h) (walk_looks_after_sleep R MayAsk k q.state t c))

  walk_sleep_from_queue : (s : State) (t c : ℕ) → W (leaves_queue s t c 1).state (asleep (leaves_queue s t c 1).state t) → W s (sleep_from_queue s t c)
  unfolding sleep_from_queue
  walk_sleep_from_queue s t c h = let r = leaves_queue s t c 1 in o.before s r (falls_asleep r.state t c) (walk_leaves_queue R c (told_on R MayAsk k c) s t 1 (k.left s t)) (walk_falls_asleep r.state t c h)

  -- wherever it is
  pub walk_sleep : (s : State) (t : ℕ) → (let r = leaves_queue s t (task_at s.world t).prev_cpu 1 in W r.state (asleep r.state t)) → ((c : ℕ) → cpu_of s.world t ≡ Some c → W (leaves_cpu s c t 0).state (asleep (leaves_cpu s c t 0).state t)) → W s (sleep s t)
  unfolding sleep
  walk_sleep s t waits runs = go (cpu_of s.world t) refl
    where
      go : (at : Option ℕ) → cpu_of s.world t ≡ at → W s (after (note_now s.world (note.Sleep t) ∷ []) (sleep_from at s t))
      go None e = let r = sleep_from None s t in o.noted s (note_now s.world (note.Sleep t) ∷ r.notes) r (walk_sleep_from_queue s t (task_at s.world t).prev_cpu waits)
      go (Some c) e = let r = sleep_from (Some c) s t in o.noted s (note_now s.world (note.Sleep t) ∷ r.notes) r (walk_sleep_from_cpu s t c (runs c e))
