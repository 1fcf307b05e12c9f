-- The scheduling cycle, by cases and with its steps named (sched-ext.rst, "Scheduling Cycle"): a
-- task is put, the local queue is filled, the front of it is picked, dispatch is asked. A callback
-- of the policy is given by the run of its program; once the policy is ejected, the built-in
-- scheduler does its work.
use Rattle.std.specs.Prelude.{◌≡◌, ℕ, suc, ◌<◌, Bool, true, false, List, [], ◌∷◌, Option, Some, None}
use Rattle.scx_dsq.specs.Queues.{front_of, queue_of}
use Rattle.scx_dsq.specs.Calls.{after_push, after_remove}
use Rattle.scx_dsq.specs.declared.entries.Rank.TheVariants.{Fifo}
use Rattle.scx_isa_semantics.specs.declared.callbacks.Callback.TheVariants as callback
use Rattle.scx_vm.specs.Programs.{VerifiedProgram}
use Rattle.scx_sched_world.specs.declared.call.Insert.{Insert}
use Rattle.scx_sched_world.specs.declared.notes.Note.{Note}
use Rattle.scx_sched_world.specs.declared.notes.What.{What}
use Rattle.scx_sched_world.specs.declared.notes.What.TheVariants as note
use Rattle.scx_sched_world.specs.declared.eject.Eject.{Eject}
use Rattle.scx_sched_world.specs.Ids.{global, builtin_queue, parked_queue, local_on}
use Rattle.scx_sched_world.specs.World.{is_throttled, WorldState, with_queues, running, note_now}
use Rattle.scx_sched_world.specs.Tasks.{local_len, after_enter, for_cpu, to_held, to_global, to_front, after_stop, started_at, after_run, after_keep, put_parked}
use Rattle.scx_sched_world.specs.Ejecting.{put_builtin, after_catch_up, after_charge}
use Rattle.scx_sched_machine.specs.Steps.{State, Stepped, with_world, stays, after, one_after_other, is_by_linux}
use Rattle.scx_sched_machine.specs.Callbacks.{call_back, noted_by, one_task, task_and_number, two_numbers, cpu_and_task}
use Rattle.scx_sched_machine.specs.Cycle.{told_of, stopping_called}
use Rattle.scx_sched_machine.specs.Parking.{FrontMayRun}
use Rattle.scx_laws.specs.Differences.{Homes, BeginsSwitch, BeginsCycle, EndsCycle, CallsIfThere, HearsIdle, KeepsSlice, GivesWay, Switches, IsToAsk, GivesUp}
use Rattle.scx_laws.specs.BoundTasks.{IsNextFor}
use Rattle.scx_laws.specs.Custody.{gone_out, TellsLeft}

-- to that world, with one note of it
abbrev pub noting : State → WorldState → What → Stepped
noting s w x = record { state = with_world s w; notes = note_now s.world x ∷ []; calls = [] }

-- to that world, with no note
abbrev pub silent : State → WorldState → Stepped
silent s w = record { state = with_world s w; notes = []; calls = [] }

-- ---- callbacks of a cycle

-- enqueue is called for a task, with these flags and that processor at hand
abbrev pub enqueue_called : State → ℕ → ℕ → ℕ → Stepped
enqueue_called s t c flags = call_back s callback.Enqueue (task_and_number t flags) t c

-- dispatch is called for a processor, and given the task before or 0; under Linux rules, where a
-- task goes to sleep, that one
abbrev pub dispatch_run : State → ℕ → Option ℕ → Stepped
dispatch_run s c p = call_back s callback.Dispatch (cpu_and_task c (told_of s p)) 0 c

-- what its program notes while it runs: who is moved, and who is inserted
abbrev pub dispatch_noted : State → ℕ → Option ℕ → List Note
dispatch_noted s c p = noted_by s callback.Dispatch (cpu_and_task c (told_of s p)) 0 c

-- dispatch is called, and the policy hears who left its custody in that
pub record CallsDispatch (s : State) (c : ℕ) (p : Option ℕ) (r : Stepped) : Type 0 where
  pub told : Stepped
  pub tells : TellsLeft (dispatch_run s c p).state c (dispatch_noted s c p) told
  pub all : r ≡ one_after_other (dispatch_run s c p) told

-- the task has left its processor; the number says whether it stays runnable
pub data HasStopped (s : State) (c t runnable : ℕ) (r : Stepped) : Type 0 where
  Policy_hears : s.world.ejected ≡ None
      → r ≡ stopping_called s c t runnable
      → HasStopped s c t runnable r
  Is_charged : (x : Eject)
      → s.world.ejected ≡ Some x → r ≡ silent s (after_charge s.world t)
      → HasStopped s c t runnable r

-- the task has come to its processor
pub data HasStarted (s : State) (c t : ℕ) (r : Stepped) : Type 0 where
  Policy_learns : s.world.ejected ≡ None → r ≡ call_back s callback.Running (one_task t) t c
      → HasStarted s c t r
  Catches_up : (x : Eject)
      → s.world.ejected ≡ Some x → r ≡ silent s (after_catch_up s.world t) → HasStarted s c t r

-- where a task that runs is changed, the policy hears that it stops
abbrev pub HearsStop : State → ℕ → ℕ → Stepped → Type 0
HearsStop s c t r = CallsIfThere s callback.Stopping (task_and_number t 0) t c r

-- and that it runs again
abbrev pub HearsRun : State → ℕ → ℕ → Stepped → Type 0
HearsRun s c t r = CallsIfThere s callback.Running (one_task t) t c r

-- the state in which a task is off its processor, and waits from now on
abbrev pub gone_off : State → ℕ → ℕ → State
gone_off s c t = with_world s (after_stop s.world c t)

-- the state in which a task, the front of the local queue, is on that processor
abbrev pub gone_on : State → ℕ → ℕ → State
gone_on s c t = with_world s (started_at (Some t) s.world c)

-- the state in which a task, which was picked, is on that processor
abbrev pub picked_on : State → ℕ → ℕ → State
picked_on s c t = with_world s (after_run s.world c t)

-- a task that runs leaves its processor; the number says whether it stays runnable
pub record LeavesCpu (s : State) (c t runnable : ℕ) (r : Stepped) : Type 0 where
  pub switching : WorldState
  pub switches : BeginsSwitch s.world c switching
  pub stopped : Stepped
  pub stops : HasStopped (gone_off (with_world s switching) c t) c t runnable stopped
  pub all : r ≡ after (note_now s.world (note.Stop t c) ∷ []) stopped

-- ---- put

-- a task comes to wait as an insert wants it to, and that is noted
abbrev pub entering : State → ℕ → Insert → Stepped
entering s t i = noting s (after_enter s.world t i) (note.Insert t i.queue)

-- after enqueue the task comes to wait: where the callback said, LOCAL being of that processor,
-- held where it said nothing, and for any processor where there is no such callback; and for the
-- built-in scheduler where the policy is ejected
pub data Enters (s : State) (t c : ℕ) (r : Stepped) : Type 0 where
  For_builtin : (x : Eject)
      → s.world.ejected ≡ Some x
      → r ≡ noting s (put_builtin s.world t) (note.Insert t builtin_queue) → Enters s t c r
  Default : s.world.ejected ≡ None → s.policy.callbacks.enqueue ≡ None → r ≡ entering s t to_global
      → Enters s t c r
  Held : (p : VerifiedProgram)
      → s.world.ejected ≡ None → s.policy.callbacks.enqueue ≡ Some p → s.world.call.insert ≡ None
      → r ≡ entering s t to_held → Enters s t c r
  Inserted : (p : VerifiedProgram) (i : Insert)
      → s.world.ejected ≡ None → s.policy.callbacks.enqueue ≡ Some p → s.world.call.insert ≡ Some i
      → r ≡ entering s t (for_cpu c i) → Enters s t c r

-- enqueue is called for a task, and then the task comes to wait
pub record Puts (s : State) (t c flags : ℕ) (r : Stepped) : Type 0 where
  pub put : Stepped
  pub enters : Enters (enqueue_called s t c flags).state t c put
  pub all : r ≡ one_after_other (enqueue_called s t c flags) put

-- ---- fill

-- where the local queue is empty, the first task of another that may run on the processor comes to
-- it
pub data Fills (s : State) (q c : ℕ) (r : Stepped) : Type 0 where
  HasLocal : 0 < local_len s.world c → r ≡ stays s → Fills s q c r
  NoOther : local_len s.world c ≡ 0 → IsNextFor s.world q c None → r ≡ stays s → Fills s q c r
  Moves : (t : ℕ) (moved : WorldState)
      → local_len s.world c ≡ 0 → IsNextFor s.world q c (Some t)
      → Homes (with_queues s.world (after_push (after_remove s.world.queues t) (local_on c) t Fifo))
      t c moved
      → r ≡ noting s moved (note.Move t c) → Fills s q c r

-- ---- supply

-- a task that is at hand is parked
abbrev pub parking : State → ℕ → Stepped
parking s t = noting s (put_parked s.world t) (note.Insert t parked_queue)

-- a task that is throttled leaves its queue and is parked
pub record Parks (s : State) (t : ℕ) (r : Stepped) : Type 0 where
  pub throttled : is_throttled s.world t ≡ true
  pub all : r ≡ parking (gone_out s t) t

-- the first task of that queue that may run on the processor, if there is one, isn't throttled
abbrev pub NextIsFree : State → ℕ → ℕ → Type 0
NextIsFree s q c = (t : ℕ) → IsNextFor s.world q c (Some t) → is_throttled s.world t ≡ false

-- one first task after another, until one isn't throttled or nobody is there
pub data ParksFirst (q c : ℕ) : State → Stepped → Type 0 where
  NoneLeft : (s : State) (r : Stepped) → NextIsFree s q c → r ≡ stays s → ParksFirst q c s r
  OneMore : (s : State) (t : ℕ) (gone more r : Stepped)
      → IsNextFor s.world q c (Some t) → Parks s t gone → ParksFirst q c gone.state more
      → r ≡ one_after_other gone more → ParksFirst q c s r

-- a local queue comes to have a front that may run, if it or the queue of all processors has such a
-- task: it is filled wherever it is empty, and each front that may not run is parked
pub data Supplies : ℕ → State → Stepped → Type 0 where
  Supplied : (c : ℕ) (s : State) (filled r : Stepped)
      → Fills s global c filled → FrontMayRun filled.state (local_on c)
      → r ≡ one_after_other filled (stays filled.state) → Supplies c s r
  ParkedOne : (c : ℕ) (s : State) (t : ℕ) (filled gone more r : Stepped)
      → Fills s global c filled → front_of filled.state.world.queues (local_on c) ≡ Some t
      → Parks filled.state t gone → Supplies c gone.state more
      → r ≡ one_after_other filled (one_after_other gone more) → Supplies c s r

-- dispatch of the built-in scheduler, where the local queue is empty: the first of its queue that
-- may run on the processor, once those that are throttled are parked
pub data FillsBuiltin (s : State) (c : ℕ) (r : Stepped) : Type 0 where
  HasOne : 0 < local_len s.world c → r ≡ stays s → FillsBuiltin s c r
  Looked : (gone filled : Stepped)
      → local_len s.world c ≡ 0 → ParksFirst builtin_queue c s gone
      → Fills gone.state builtin_queue c filled → r ≡ one_after_other gone filled
      → FillsBuiltin s c r

-- ---- dispatch

-- a call of dispatch, and then the local queue is supplied, unless the task before keeps its slice
pub data Dispatches (s : State) (c : ℕ) (p : Option ℕ) (r : Stepped) : Type 0 where
  Supplied_then : (called supplied : Stepped)
      → CallsDispatch s c p called → GivesWay called.state p → Supplies c called.state supplied
      → r ≡ one_after_other called supplied → Dispatches s c p r
  Kept_then : CallsDispatch s c p r → KeepsSlice r.state p → Dispatches s c p r

-- at most that many calls: one more if the local queue is still empty, the last call moved a task,
-- and the task before doesn't keep its slice
pub data Asks : ℕ → State → ℕ → Option ℕ → Stepped → Type 0 where
  Enough : (s : State) (c : ℕ) (p : Option ℕ) (r : Stepped) → r ≡ stays s → Asks 0 s c p r
  Came : (n : ℕ) (s : State) (c : ℕ) (p : Option ℕ) (r : Stepped)
      → Dispatches s c p r → 0 < local_len r.state.world c → Asks (suc n) s c p r
  NothingMoved : (n : ℕ) (s : State) (c : ℕ) (p : Option ℕ) (r : Stepped)
      → Dispatches s c p r → local_len r.state.world c ≡ 0 → r.state.world.call.has_moved ≡ false
      → Asks (suc n) s c p r
  KeptOn : (n : ℕ) (s : State) (c : ℕ) (p : Option ℕ) (r : Stepped)
      → Dispatches s c p r → KeepsSlice r.state p → Asks (suc n) s c p r
  Again : (n : ℕ) (s : State) (c : ℕ) (p : Option ℕ) (d more r : Stepped)
      → Dispatches s c p d → IsToAsk d.state c p
      → Asks n d.state c p more → r ≡ one_after_other d more → Asks (suc n) s c p r

-- ---- pick

-- a task that was stopped is put; one that keeps its slice goes to the front of the local queue,
-- and enqueue isn't called (ext.c, `put_prev_task_scx`)
pub data PutsBack (s : State) (c t : ℕ) (r : Stepped) : Type 0 where
  Is_put : GivesWay s (Some t) → Puts s t c 0 r → PutsBack s c t r
  Goes_first : KeepsSlice s (Some t) → r ≡ entering s t (to_front c) → PutsBack s c t r

-- the task before leaves the processor, and is put
pub data Leaves (s : State) (c : ℕ) (p : Option ℕ) (r : Stepped) : Type 0 where
  Nobody : p ≡ None → r ≡ stays s → Leaves s c p r
  Stops : (t : ℕ) (left put : Stepped)
      → p ≡ Some t → HasStopped (gone_off s c t) c t 1 left → PutsBack left.state c t put
      → r ≡ after (note_now s.world (note.Stop t c) ∷ []) (one_after_other left put)
      → Leaves s c p r

-- the front of the local queue runs
pub data Starts (s : State) (c : ℕ) (r : Stepped) : Type 0 where
  Empty : front_of s.world.queues (local_on c) ≡ None → r ≡ stays s → Starts s c r
  Front : (t : ℕ) (on : State) (begun : Stepped)
      → front_of s.world.queues (local_on c) ≡ Some t → Switches (gone_on s c t) t on
      → HasStarted on c t begun
      → r ≡ after (note_now s.world (note.Run t c) ∷ []) begun → Starts s c r

-- ---- rest

-- nobody came: the task before keeps the processor, or it is idle, which is noted where a task
-- ran there as the event began; not yet where the policy hears of it first
pub data Rests (s : State) (c : ℕ) : Option ℕ → Bool → Stepped → Type 0 where
  Keeps : (t : ℕ) (ran : Bool) (on : State) (r : Stepped)
      → Switches (with_world s (after_keep s.world (Some t))) t on
      → r ≡ stays on → Rests s c (Some t) ran r
  Idles : (r : Stepped)
      → ¬ HearsIdle s → r ≡ noting s s.world (note.Idle c) → Rests s c None true r
  IdlesUnheard : (r : Stepped) → HearsIdle s → r ≡ stays s → Rests s c None true r
  WasIdle : (r : Stepped) → r ≡ stays s → Rests s c None false r

-- ---- the built-in scheduler's cycle

-- the front of the local queue runs in the place of the task before
pub record Swaps (s : State) (c : ℕ) (p : Option ℕ) (r : Stepped) : Type 0 where
  pub left : Stepped
  pub leaves : Leaves s c p left
  pub started : Stepped
  pub starts : Starts left.state c started
  pub all : r ≡ one_after_other left started

-- the front of the local queue runs; where there is none, nobody comes
pub data SwapsOrRests (s : State) (c : ℕ) (p : Option ℕ) (ran : Bool) (r : Stepped) : Type 0 where
  Swapped : 0 < local_len s.world c → Swaps s c p r → SwapsOrRests s c p ran r
  Kept : local_len s.world c ≡ 0 → Rests s c p ran r → SwapsOrRests s c p ran r

-- the local queue is supplied from GLOBAL, or else filled from the built-in scheduler's queue
pub record CyclesBuiltin (s : State) (c : ℕ) (p : Option ℕ) (ran : Bool) (r : Stepped)
    : Type 0 where
  pub supplied : Stepped
  pub supplies : Supplies c s supplied
  pub asked : Stepped
  pub asks : FillsBuiltin supplied.state c asked
  pub ended : Stepped
  pub ends : SwapsOrRests asked.state c p ran ended
  pub all : r ≡ one_after_other supplied (one_after_other asked ended)

-- ---- the policy's cycle

-- the front of the local queue runs; where an ejection has emptied the local queue, the cycle
-- begins anew
pub data StartsOrAnew (s : State) (c : ℕ) (ran : Bool) (r : Stepped) : Type 0 where
  Runs_front : 0 < local_len s.world c → Starts s c r → StartsOrAnew s c ran r
  Emptied : local_len s.world c ≡ 0 → CyclesBuiltin s c None ran r → StartsOrAnew s c ran r

-- the task that was picked runs, from wherever it waits in the local queue
pub record StartsPicked (s : State) (c t : ℕ) (r : Stepped) : Type 0 where
  pub on : State
  pub switches : Switches (picked_on s c t) t on
  pub begun : Stepped
  pub starts : HasStarted on c t begun
  pub all : r ≡ after (note_now s.world (note.Run t c) ∷ []) begun

-- the state in which the task that is picked has a slice: a new one where it had none
abbrev pub picking : State → ℕ → State
picking s t = with_world s (after_keep s.world (Some t))

-- of a processor that was idle the policy hears that it isn't any more (ext/idle.c,
-- `__scx_update_idle`)
pub data TellsBusy (s : State) (c : ℕ) : Option ℕ → Bool → Stepped → Type 0 where
  WasAtRest : (r : Stepped)
      → CallsIfThere s callback.UpdateIdle (two_numbers c 0) 0 c r → TellsBusy s c None false r
  HadTask : (t : ℕ) (ran : Bool) (r : Stepped) → r ≡ stays s → TellsBusy s c (Some t) ran r
  HadRun : (r : Stepped) → r ≡ stays s → TellsBusy s c None true r

-- the task before leaves, once the policy has heard that a processor isn't idle any more
pub record MakesWay (s : State) (c : ℕ) (p : Option ℕ) (ran : Bool) (r : Stepped) : Type 0 where
  pub told : Stepped
  pub tells : TellsBusy s c p ran told
  pub left : Stepped
  pub leaves : Leaves told.state c p left
  pub all : r ≡ one_after_other told left

-- the task before leaves, and another runs in its place: under plain rules the front of the local
-- queue by then; under Linux rules its front before that, which is picked, and gets a slice if it
-- has none (ext.c, `do_pick_task_scx`), unless an ejection took it away
pub data Picks (s : State) (c : ℕ) (p : Option ℕ) (ran : Bool) (r : Stepped) : Type 0 where
  Picks_then : (left started : Stepped)
      → is_by_linux s ≡ false → MakesWay s c p ran left → StartsOrAnew left.state c ran started
      → r ≡ one_after_other left started → Picks s c p ran r
  Picks_before : (t : ℕ) (left started : Stepped)
      → is_by_linux s ≡ true → front_of s.world.queues (local_on c) ≡ Some t
      → MakesWay (picking s t) c p ran left
      → queue_of left.state.world.queues t ≡ Some (local_on c)
      → StartsPicked left.state c t started → r ≡ one_after_other left started
      → Picks s c p ran r
  Picks_anew : (t : ℕ) (left started : Stepped)
      → is_by_linux s ≡ true → front_of s.world.queues (local_on c) ≡ Some t
      → MakesWay (picking s t) c p ran left
      → ¬ (queue_of left.state.world.queues t ≡ Some (local_on c))
      → StartsOrAnew left.state c ran started → r ≡ one_after_other left started
      → Picks s c p ran r

-- once dispatch was asked; a task that keeps its slice stays, and nothing is noted
pub data Ends (s : State) (c : ℕ) (p : Option ℕ) (ran : Bool) (r : Stepped) : Type 0 where
  Anew : (x : Eject) → s.world.ejected ≡ Some x → CyclesBuiltin s c p ran r → Ends s c p ran r
  KeepsOn : (t : ℕ) (on : State)
      → s.world.ejected ≡ None → p ≡ Some t → KeepsSlice s p → Switches s t on
      → r ≡ stays on → Ends s c p ran r
  Picked : s.world.ejected ≡ None → GivesWay s p → 0 < local_len s.world c → Picks s c p ran r
      → Ends s c p ran r
  Rested : s.world.ejected ≡ None → GivesWay s p → local_len s.world c ≡ 0 → Rests s c p ran r
      → Ends s c p ran r

-- of a processor on which that task ran and may stay, or none
pub data Seeks (s : State) (c : ℕ) (p : Option ℕ) (ran : Bool) (r : Stepped) : Type 0 where
  Filled : (filled picked : Stepped)
      → Supplies c s filled → 0 < local_len filled.state.world c → Picks filled.state c p ran picked
      → r ≡ one_after_other filled picked → Seeks s c p ran r
  Asked : (filled asked ended : Stepped) (done : State)
      → Supplies c s filled → local_len filled.state.world c ≡ 0 → Asks 32 filled.state c p asked
      → GivesUp asked.state c p done → Ends done c p ran ended
      → r ≡ one_after_other filled (one_after_other asked ended) → Seeks s c p ran r

-- of whichever scheduler is in force
pub data Looks (s : State) (c : ℕ) (p : Option ℕ) (ran : Bool) (r : Stepped) : Type 0 where
  Of_policy : s.world.ejected ≡ None → Seeks s c p ran r → Looks s c p ran r
  Of_builtin : (x : Eject)
      → s.world.ejected ≡ Some x → CyclesBuiltin s c p ran r → Looks s c p ran r

-- ---- a processor falls idle

-- a cycle began on a processor with a task, and ended with none, and the policy hears of that
pub record FallsIdle (s : State) (c : ℕ) (ran : Bool) : Type 0 where
  pub hears : HearsIdle s
  pub had_task : ran ≡ true
  pub has_none : running s.world c ≡ None

-- the policy has heard that a processor is idle, which is noted only then; where that ejected the
-- policy, a cycle of the built-in scheduler follows
pub data StaysIdle (s : State) (c : ℕ) (r : Stepped) : Type 0 where
  IsNoted : (ended : WorldState)
      → s.world.ejected ≡ None → EndsCycle s.world ended → r ≡ noting s ended (note.Idle c)
      → StaysIdle s c r
  CyclesAnew : (x : Eject) (begun ended : WorldState) (found : Stepped)
      → s.world.ejected ≡ Some x → BeginsCycle s.world c begun
      → CyclesBuiltin (with_world s begun) c None true found → EndsCycle found.state.world ended
      → r ≡ record found { state = with_world found.state ended } → StaysIdle s c r

-- the policy hears that a processor is idle, as it is already; the task that was there last is
-- current there until that is over
pub record HearsOfIdle (s : State) (c : ℕ) (r : Stepped) : Type 0 where
  pub told : Stepped
  pub tells : CallsIfThere (with_world s (record s.world { cycling = None })) callback.UpdateIdle
      (two_numbers c 1) 0 c told
  pub done : Stepped
  pub stays_so : StaysIdle told.state c done
  pub all : r ≡ one_after_other told done

-- what follows a cycle
pub data Concludes (s : State) (c : ℕ) (ran : Bool) (r : Stepped) : Type 0 where
  FellIdle : FallsIdle s c ran → HearsOfIdle s c r → Concludes s c ran r
  HasEnded : (ended : WorldState)
      → ¬ FallsIdle s c ran → EndsCycle s.world ended → r ≡ silent s ended → Concludes s c ran r

-- a cycle is under way from the first step to the last
pub record Cycles (s : State) (c : ℕ) (p : Option ℕ) (ran : Bool) (r : Stepped) : Type 0 where
  pub begun : WorldState
  pub begins : BeginsCycle s.world c begun
  pub found : Stepped
  pub looks : Looks (with_world s begun) c p ran found
  pub ended : Stepped
  pub concludes : Concludes found.state c ran ended
  pub all : r ≡ one_after_other found ended
