-- Two machines that go on alike: if each small step keeps a relation of their states, callbacks, cycles and whole events do.
use Rattle.std.proofs.Common.{◌≡◌, ◌==◌, Bool, true, false, length, ◌∷◌, Option, Some, None, refl, subst, ℕ, []}
use Rattle.scx_dsq.specs.Queues.{len_of, front_of, behind_of, queue_of}
use Rattle.scx_isa_semantics.specs.declared.callbacks.Callback.{Callback}
use Rattle.scx_isa_semantics.specs.declared.callbacks.Callback.TheVariants as callback
use Rattle.scx_vm.specs.declared.arguments.Args.{Args}
use Rattle.scx_sched_world.specs.declared.call.Insert.{Insert}
use Rattle.scx_sched_world.specs.declared.eject.Eject.TheVariants as cause
use Rattle.scx_sched_world.specs.declared.notes.What.{What}
use Rattle.scx_sched_world.specs.declared.timers.Alarm.{Alarm}
use Rattle.scx_sched_world.specs.Ids.{held_queue, local_on}
use Rattle.scx_sched_world.specs.World.{WorldState, with_switch, with_kick, without_kick, with_slept, with_waker, with_timer_at_hand, with_cycling, out_of_cycle, task_at, has_one_cpu, first_home, is_idle, is_throttled, at_callback, note_now, default_choice, may_run}
use Rattle.scx_sched_world.specs.Tasks.{next_for, after_fill, put_parked, after_leave, after_stop, after_enter, after_keep, after_switch, after_cut_off, after_run, after_tick, after_wake, after_sleep, after_reweigh, after_own_weight, started_at, homed, let_go, used_ms, to_front, for_cpu}
use Rattle.scx_sched_world.specs.Helpers.{after_fire, alarm_at, due_now}
use Rattle.scx_sched_world.specs.Ejecting.{after_charge, put_builtin}
use Rattle.scx_sched_machine.specs.Callbacks.{call_back, answered_by, noted_by, one_task, task_and_number}
use Rattle.scx_sched_machine.specs.Custody.{tells_left}
use Rattle.scx_sched_machine.specs.Cycle.{is_local, after_running, switched}
use Rattle.scx_sched_machine.specs.Ejecting.{eject}
use Rattle.scx_sched_machine.specs.Events.{chosen_by_default, is_tick_time}
use Rattle.scx_sched_machine.specs.Put.{enqueue_choice}
use Rattle.scx_sched_machine.specs.Steps.{State, Stepped, with_world, is_ejected, is_by_linux, stays, after, one_after_other}
use Rattle.scx_sched.proofs.Supplying.{IsThrottledIn}
use Rattle.scx_explore_states.specs.Asking.{is_early}

-- A relation of two states, and one of two steps; where the flag is true, the callback at hand is the same in both. Both states
-- agree on whether the slice of a task that is `told` has ended. The relation is kept if a task comes into a queue by an insert by
-- which it `may`.
pub record Relation : Type 1 where
  pub states : Bool → State → State → Type 0
  pub steps : Bool → Stepped → Stepped → Type 0
  pub told : ℕ → Type 0
  pub may : ℕ → Insert → Type 0

-- ---- what is read

-- two timers of one CPU, or none
abbrev pub SameCpu : Option Alarm → Option Alarm → Type 0
SameCpu None None = Unit {0}
SameCpu (Some a) (Some b) = a.cpu ≡ b.cpu
SameCpu o x = ⊥

-- so it is of two timers that are the same
pub same_cpus : (o x : Option Alarm) → o ≡ x → SameCpu o x
same_cpus o x e = subst (SameCpu o) e (go o)
  where
    go : (y : Option Alarm) → SameCpu y y
    go None = tt
    go (Some a) = refl

-- a step reads the same of both states
pub record ReadAlike (z : Relation) (s t : State) : Type 0 where
  pub policy : s.policy ≡ t.policy
  pub ejected : is_ejected s ≡ is_ejected t
  pub linux : is_by_linux s ≡ is_by_linux t
  pub cpus : s.world.cpus ≡ t.world.cpus
  pub slept : s.world.passing.slept ≡ t.world.passing.slept
  pub kicked : is_by_linux s ≡ true → s.world.kicked ≡ t.world.kicked
  pub preempted : is_by_linux s ≡ true → s.world.preempted ≡ t.world.preempted
  pub timers : length s.world.timers ≡ length t.world.timers
  pub ticks : is_by_linux s ≡ true → is_tick_time s ≡ is_tick_time t
  pub idle : (c : ℕ) → is_idle s.world c ≡ is_idle t.world c
  pub homes : (u : ℕ) → (task_at s.world u).prev_cpu ≡ (task_at t.world u).prev_cpu
  pub first_homes : (u : ℕ) → first_home s.world u ≡ first_home t.world u
  pub one_cpu : (u : ℕ) → has_one_cpu s.world u ≡ has_one_cpu t.world u
  pub throttled : (u : ℕ) → is_throttled s.world u ≡ is_throttled t.world u
  pub slices : (u : ℕ) → z.told u → ((task_at s.world u).slice == 0) ≡ ((task_at t.world u).slice == 0)
  pub lengths : (q : ℕ) → len_of s.world.queues q ≡ len_of t.world.queues q
  pub fronts : (q : ℕ) → front_of s.world.queues q ≡ front_of t.world.queues q
  pub behind : (u : ℕ) → behind_of s.world.queues u ≡ behind_of t.world.queues u
  pub places : (u : ℕ) → queue_of s.world.queues u ≡ queue_of t.world.queues u
  pub locals : (c u : ℕ) → is_local s c u ≡ is_local t c u
  pub next : (q c : ℕ) → next_for s.world q c ≡ next_for t.world q c
  pub alarms : (n : ℕ) → SameCpu (due_now s.world (alarm_at s.world n)) (due_now t.world (alarm_at t.world n))
  pub choices : (u : ℕ) → default_choice s.world u ≡ default_choice t.world u
  pub allowed : (u c : ℕ) → may_run s.world u c ≡ may_run t.world u c

-- where the callback at hand is the same, it moved and wanted to insert the same
pub record CalledAlike (s t : State) : Type 0 where
  pub moved : s.world.call.has_moved ≡ t.world.call.has_moved
  pub wanted : s.world.call.insert ≡ t.world.call.insert

-- ---- callbacks

-- a callback is given no task that runs, or one of which both states agree on whether its slice has ended
pub data IsGiven (z : Relation) : Callback → Args → Type 0 where
  Early : (b : Callback) (a : Args) → is_early b true ≡ true → IsGiven z b a
  Alone : (b : Callback) (u : ℕ) → z.told u → IsGiven z b (one_task u)
  Counted : (b : Callback) (u n : ℕ) → z.told u → IsGiven z b (task_and_number u n)

-- it answers the same, and its notes tell of the same tasks
pub record AnswersAlike (s t : State) (b : Callback) (a : Args) (u c : ℕ) : Type 0 where
  pub answer : answered_by s b a u c ≡ answered_by t b a u c
  pub left : (x : State) (d : ℕ) → tells_left x d (noted_by s b a u c) ≡ tells_left x d (noted_by t b a u c)

-- ---- steps

-- a step leads from two such states to two such states; the callback at hand is the same before it if the first says so, and after
-- it if the second does
abbrev pub From : Relation → Bool → Bool → (State → Stepped) → Type 0
From z b c f = (s t : State) → z.states b s t → z.steps c (f s) (f t)

-- a step that keeps the callback at hand the same
abbrev pub On : Relation → Bool → (State → Stepped) → Type 0
On z b f = From z b b f

-- a change of the state
abbrev pub Turns : Relation → Bool → (State → State) → Type 0
Turns z b f = (s t : State) → z.states b s t → z.states b (f s) (f t)

-- a change of the world
abbrev pub Changes : Relation → Bool → (WorldState → WorldState) → Type 0
Changes z b f = Turns z b (λ s. with_world s (f s.world))

-- Such a relation is kept by one step after another, by a callback with whatever follows it, and by each small change of a world.
pub record IsPaired (z : Relation) : Type 0 where
  -- steps
  pub reads : (s t : State) → z.states false s t → ReadAlike z s t
  pub calls : (s t : State) → z.states true s t → CalledAlike s t
  pub eased : (s t : State) → z.states true s t → z.states false s t
  pub rests : (b : Bool) → On z b stays
  pub joined : (b c : Bool) (r q r' q' : Stepped) → z.steps b r q → (z.states b r.state q.state → z.steps c r' q') → z.steps c (one_after_other r r') (one_after_other q q')
  pub noted : (b : Bool) (s t : State) → z.states b s t → (x : What) (r q : Stepped) → z.steps b r q → z.steps b (after (note_now s.world x ∷ []) r) (after (note_now t.world x ∷ []) q)
  pub called : (s t : State) (b : Callback) (a : Args) (u c : ℕ) → IsGiven z b a → z.states false s t → (d : Bool) (r q : Stepped)
      → (z.states true (call_back s b a u c).state (call_back t b a u c).state → AnswersAlike s t b a u c → z.steps d r q)
      → z.steps d (one_after_other (call_back s b a u c) r) (one_after_other (call_back t b a u c) q)
  -- local queues
  pub filled : (b : Bool) (q c : ℕ) → (q == held_queue) ≡ false → Changes z b (λ w. after_fill w q c)
  pub parked : (b : Bool) (q u : ℕ) (s t : State) → (q == held_queue) ≡ false → IsThrottledIn s q u → z.states b s t → z.states b (with_world s (put_parked (after_leave s.world u) u)) (with_world t (put_parked (after_leave t.world u) u))
  pub moved : (m : Bool) → Changes z true (λ w. record w { call = record w.call { has_moved = m } })
  -- inserts
  pub chooses : (s t : State) (u c : ℕ) → z.states true s t → z.may u (enqueue_choice s.policy.callbacks.enqueue c s.world.call.insert)
  pub inserts : (s t : State) (u c : ℕ) (i : Insert) → z.states true s t → s.world.call.insert ≡ Some i → z.may u (for_cpu c i)
  pub fronts : (u c : ℕ) → z.told u → z.may u (to_front c)
  pub entered : (u : ℕ) (i : Insert) → z.may u i → Changes z false (λ w. after_enter w u i)
  pub put : (u : ℕ) → Changes z false (λ w. put_builtin w u)
  -- cycles
  pub stopped : (c u : ℕ) → Changes z false (λ w. after_stop w c u)
  pub charged : (u : ℕ) → z.told u → Changes z false (λ w. after_charge w u)
  pub kept : (o : Option ℕ) → Changes z false (λ w. after_keep w o)
  pub switched : (u : ℕ) → Changes z false (λ w. after_switch w u)
  pub kicked : (c : ℕ) → Changes z false (λ w. with_kick w c)
  pub unkicked : (c : ℕ) → Changes z false (λ w. without_kick w c)
  pub cut_off : (u : ℕ) → Changes z false (λ w. after_cut_off w u)
  pub cycling : (o : Option ℕ) → Changes z false (λ w. with_cycling w o)
  pub out_of_cycle : Changes z false (λ w. out_of_cycle w)
  -- events
  pub woken : (u : ℕ) → Changes z false (λ w. after_wake w u)
  pub waker : (o : Option ℕ) → Changes z false (λ w. with_waker w o)
  pub homed : (u c : ℕ) → Changes z true (λ w. homed w u c)
  pub chosen : (u : ℕ) → Changes z true (λ w. chosen_by_default w u)
  pub at_hand : (u c : ℕ) (s t : State) → z.states false s t → z.states true (with_world s (at_callback s.world callback.SelectCpu u c)) (with_world t (at_callback t.world callback.SelectCpu u c))
  pub asleep : (u : ℕ) → Changes z false (λ w. after_sleep w u)
  pub slept : (u : ℕ) → Changes z false (λ w. with_slept w u)
  pub switching : (c : ℕ) → Changes z false (λ w. with_switch w c)
  pub left : (u : ℕ) → Changes z false (λ w. after_leave w u)
  pub parks : (u : ℕ) → z.told u → Changes z false (λ w. put_parked w u)
  pub ticked : (u : ℕ) → Changes z false (λ w. after_tick w u)
  pub used : (u : ℕ) → Changes z false (λ w. used_ms w u)
  pub let_off : (u : ℕ) → Changes z false (λ w. let_go w u)
  pub fired : (n : ℕ) → Changes z false (λ w. after_fire w n)
  pub unhanded : Changes z false (λ w. with_timer_at_hand w None)
  pub reweighed : (g x : ℕ) → Changes z false (λ w. after_reweigh w g x)
  pub weighed : (u x : ℕ) → Changes z false (λ w. after_own_weight w u x)
  pub stalled : (u : ℕ) → On z false (λ s. eject s (cause.Stall u s.world.clock))

-- a task has begun to run, and the policy hears of it
abbrev pub begun : ℕ → ℕ → State → Stepped
begun c u s = after_running (switched s u) c u

-- and tasks of a local queue begin to run
pub record IsPairedWhole (z : Relation) : Type 0 where
  pub small : IsPaired z
  pub starts : (c u : ℕ) (s t : State) → z.states false s t → front_of s.world.queues (local_on c) ≡ Some u → z.steps false (begun c u (with_world s (started_at (Some u) s.world c))) (begun c u (with_world t (started_at (Some u) t.world c)))
  pub runs : (c u : ℕ) (s t : State) → z.states false s t → is_local s c u ≡ true → z.steps false (begun c u (with_world s (after_run s.world c u))) (begun c u (with_world t (after_run t.world c u)))
