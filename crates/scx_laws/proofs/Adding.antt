-- The run times of all tasks together grow by a millisecond at each tick of a busy processor, and at no other event.
use Rattle.std.proofs.Common.{◌≡◌, ℕ, Bool, true, false, if◌then◌else◌, ◌+◌, ◌*◌, ◌<◌, length, get_or, Option, Some, None, is_some, refl, List, [], ◌∷◌, arith}
use Rattle.std.proofs.lemmas.Bool.{eq-eqb, ne_eqb}
use Rattle.scx_dsq.specs.Laws.{one_if}
use Rattle.scx_sched_tasks.specs.declared.task.Task.{Task}
use Rattle.scx_sched_tasks.specs.Tasks.{no_task}
use Rattle.scx_sched_world.specs.World.{running, task_at, is_this}
use Rattle.scx_sched_world.specs.Tasks.{tick_ns}
use Rattle.scx_sched_machine.specs.declared.events.Event.{Event}
use Rattle.scx_sched_machine.specs.declared.events.Event.TheVariants.{Wake, Sleep, Tick, Clock, SetWeight, SetTaskWeight}
use Rattle.scx_sched_machine.specs.declared.events.Refused.{Refused}
use Rattle.scx_sched_machine.specs.Events as machine
use Rattle.scx_sched.specs.Sim.{SimState, refusal, stepped_if, after_event}
use Rattle.scx_sched.specs.Decided.{ran_in}
use Rattle.scx_sched.proofs.Deciding.{accepted}
use Rattle.scx_sched.proofs.Events.{fine_step, known_running, IsTaken, Ticks, is_taken}
use Rattle.scx_sched.proofs.Tallies.{run_times}
use Rattle.scx_laws.specs.Runs.{after_events}
use Rattle.scx_laws.specs.Times.{run_of_all, busy_if, busy_ticks, TimeAddsUp, ran_if, ran_ticks, EachHasItsTicks}
use Rattle.scx_laws.proofs.Sums.{sum_same, sum_more, sum_none}
use Rattle.scx_laws.proofs.Sound.{IsFirm, firm_first, firm_step}

module _ (s : SimState) (e : Event) (ok : refusal s e ≡ None) (h : IsFirm s) where
  -- the tasks before and after
  abbrev before : List Task
  before = s.state.world.tasks

  abbrev afterwards : List Task
  afterwards = (machine.event_step s.state e).state.world.tasks

  as_many : length afterwards ≡ length before
  as_many = let x = fine_step (length before) s.events s.state e refl (accepted s e ok).taken h.fine in x.sound.tasks

  ran : (u : ℕ) → (get_or afterwards u no_task).run_ns ≡ (get_or before u no_task).run_ns + ran_in e s.state.world u
  ran u = run_times s.events s.state e (accepted s e ok).taken h.fine h.there u

  -- if no task ran
  none_ran : ((u : ℕ) → ran_in e s.state.world u ≡ 0) → run_of_all (machine.event_step s.state e).state.world ≡ run_of_all s.state.world
  none_ran none = sum_same (λ (x : Task). x.run_ns) no_task before afterwards as_many (λ u. omega (arith, ran u, none u))

  -- where one task ran
  one_ran : (t : ℕ) → t < length before → ran_in e s.state.world t ≡ tick_ns → ((u : ℕ) → (u ≡ t → ⊥) → ran_in e s.state.world u ≡ 0) → run_of_all (machine.event_step s.state e).state.world ≡ run_of_all s.state.world + tick_ns
  one_ran t l here others = sum_more (λ (x : Task). x.run_ns) no_task tick_ns t before afterwards as_many l (omega (arith, ran t, here)) (λ u apart. omega (arith, ran u, others u apart))

-- an accepted tick
grows_at_tick : (s : SimState) (c : ℕ) → refusal s (Tick c) ≡ None → IsFirm s → run_of_all (machine.event_step s.state (Tick c)).state.world ≡ run_of_all s.state.world + tick_ns * one_if (is_some (running s.state.world c))
grows_at_tick s c ok h = go (running s.state.world c) refl (is_taken s.state (Tick c) (accepted s (Tick c) ok).taken)
  where
    go : (o : Option ℕ) → running s.state.world c ≡ o → IsTaken s.state (Tick c) → run_of_all (machine.event_step s.state (Tick c)).state.world ≡ run_of_all s.state.world + tick_ns * one_if (is_some o)
    go None at taken = omega (arith, none_ran s (Tick c) ok h (λ u. rw at refl))
    go (Some t) at (Ticks _ l) =
        let within = known_running (length s.state.world.tasks) s.events s.events s.state.world c t l at h.fine in
        omega (arith, one_ran s (Tick c) ok h t within (rw (at, eq-eqb t t refl) refl) (λ u apart. rw (at, ne_eqb u t apart) refl))

-- an accepted event
grows_at : (s : SimState) (e : Event) → refusal s e ≡ None → IsFirm s → run_of_all (machine.event_step s.state e).state.world ≡ run_of_all s.state.world + tick_ns * busy_if None s e
grows_at s (Tick c) ok h = grows_at_tick s c ok h
grows_at s (Wake t) ok h = omega (arith, none_ran s (Wake t) ok h (λ u. refl))
grows_at s (Sleep t) ok h = omega (arith, none_ran s (Sleep t) ok h (λ u. refl))
grows_at s Clock ok h = omega (arith, none_ran s Clock ok h (λ u. refl))
grows_at s (SetWeight g x) ok h = omega (arith, none_ran s (SetWeight g x) ok h (λ u. refl))
grows_at s (SetTaskWeight t x) ok h = omega (arith, none_ran s (SetTaskWeight t x) ok h (λ u. refl))

-- any event
grows : (s : SimState) (e : Event) → IsFirm s → run_of_all (after_event s e).state.world ≡ run_of_all s.state.world + tick_ns * busy_if (refusal s e) s e
grows s e h = go (refusal s e) refl
  where
    go : (o : Option Refused) → refusal s e ≡ o → run_of_all (stepped_if o s e).state.world ≡ run_of_all s.state.world + tick_ns * busy_if o s e
    go None ok = grows_at s e ok h
    go (Some r) ok = omega arith

-- a list of events
adds_up : (s : SimState) (events : List Event) → IsFirm s → run_of_all (after_events s events).state.world ≡ run_of_all s.state.world + tick_ns * busy_ticks s events
adds_up s [] h = omega arith
adds_up s (e ∷ es) h = omega (arith, grows s e h, adds_up (after_event s e) es (firm_step s e h))

-- the law
pub time_adds_up : TimeAddsUp
time_adds_up p tree cpus s events b =
    let firm = firm_first p tree cpus s b in
    let none : run_of_all s.state.world ≡ 0 = sum_none (λ (x : Task). x.run_ns) no_task s.state.world.tasks (λ u. omega (arith, firm.fine.runs u, b.first.1)) in
    omega (arith, adds_up s events firm, none)

-- ---- each task

-- a tick of its processor
in_ticks : (b : Bool) → (if b then tick_ns else 0) ≡ tick_ns * one_if b
in_ticks true = refl
in_ticks false = refl

-- in an accepted event
ran_at : (s : SimState) (e : Event) (t : ℕ) → ran_in e s.state.world t ≡ tick_ns * ran_if None s e t
ran_at s (Tick c) t = in_ticks (is_this t (running s.state.world c))
ran_at s (Wake u) t = refl
ran_at s (Sleep u) t = refl
ran_at s Clock t = refl
ran_at s (SetWeight g x) t = refl
ran_at s (SetTaskWeight u x) t = refl

-- in any event
each_grows : (s : SimState) (e : Event) (t : ℕ) → IsFirm s → (task_at (after_event s e).state.world t).run_ns ≡ (task_at s.state.world t).run_ns + tick_ns * ran_if (refusal s e) s e t
each_grows s e t h = go (refusal s e) refl
  where
    go : (o : Option Refused) → refusal s e ≡ o → (task_at (stepped_if o s e).state.world t).run_ns ≡ (task_at s.state.world t).run_ns + tick_ns * ran_if o s e t
    go None ok = omega (arith, ran s e ok h t, ran_at s e t)
    go (Some r) ok = omega arith

-- in a list of events
each_adds_up : (s : SimState) (events : List Event) (t : ℕ) → IsFirm s → (task_at (after_events s events).state.world t).run_ns ≡ (task_at s.state.world t).run_ns + tick_ns * ran_ticks s events t
each_adds_up s [] t h = omega arith
each_adds_up s (e ∷ es) t h = omega (arith, each_grows s e t h, each_adds_up (after_event s e) es t (firm_step s e h))

-- the law
pub each_has_its_ticks : EachHasItsTicks
each_has_its_ticks p tree cpus s events t b =
    let firm = firm_first p tree cpus s b in
    omega (arith, each_adds_up s events t firm, firm.fine.runs t, b.first.1)
