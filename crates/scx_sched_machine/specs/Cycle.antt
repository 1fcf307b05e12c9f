-- The scheduling cycle (sched-ext.rst, "Scheduling Cycle"): a processor looks for the task
-- that it runs next.
use Rattle.std.specs.Prelude.{ℕ, zero, suc, Bool, true, false, ◌&&◌, ◌==◌, not, List, [], ◌∷◌, if◌then◌else◌, Option, Some, None, is_none, is_some}
use Rattle.scx_dsq.specs.Queues.{front_of, len_of, entry_of, is_in}
use Rattle.scx_isa_semantics.specs.declared.callbacks.Callback.TheVariants as callback
use Rattle.scx_sched_world.specs.declared.notes.Note.{Note}
use Rattle.scx_sched_world.specs.declared.notes.What.TheVariants.{Stop, Run, Idle}
use Rattle.scx_weights.specs.Limits.{has_quota}
use Rattle.scx_sched_world.specs.Ids.{global, builtin_queue, local_on}
use Rattle.scx_sched_world.specs.World.{WorldState, or_this, with_cycling, out_of_cycle, task_at, running, at_callback, note_now}
use Rattle.scx_sched_world.specs.Pending as world
use Rattle.scx_sched_world.specs.Tasks.{local_len, after_stop, started_at, after_run, after_switch, after_keep, to_front, next_for}
use Rattle.scx_sched_world.specs.Ejecting.{after_catch_up, after_charge}
use Rattle.scx_sched_machine.specs.Steps.{State, Stepped, with_world, stays, after, one_after_other, is_ejected, is_by_linux, kicked}
use Rattle.scx_sched_machine.specs.Callbacks.{call_back, call_by_linux, noted_by, calls_of, one_task, task_and_number, two_numbers, cpu_and_task}
use Rattle.scx_sched_machine.specs.Custody.{tells_left}
use Rattle.scx_sched_policy.specs.Policy.{program_of}
use Rattle.scx_sched_policy.specs.Vain.{asked_in, in_vain}
use Rattle.scx_sched_machine.specs.Put.{enters, put}
use Rattle.scx_sched_machine.specs.Filling.{fill}
use Rattle.scx_sched_machine.specs.Parking.{park_next, supply}

-- whether a task waits in the local queue of the processor
abbrev pub has_local : State → ℕ → Bool
has_local s c = world.has_local s.world c

-- ---- dispatch

-- under Linux rules a task keeps the processor while some of its slice is left (ext.c,
-- `dispatch_one`)
abbrev pub keeps_slice : State → Option ℕ → Bool
keeps_slice s None = false
keeps_slice s (Some t) = is_by_linux s && not ((task_at s.world t).slice == 0)

-- the local queue is supplied, unless the task before keeps the processor
unfoldable pub supply_unless_kept : State → ℕ → Option ℕ → Stepped
supply_unless_kept s c p = if keeps_slice s p then stays s else supply s c

-- the task that dispatch is told of: the one before, else, under Linux rules, the one that went to
-- sleep (ext.c, `prev_on_sch`)
abbrev pub told_of : State → Option ℕ → Option ℕ
told_of s p = or_this p s.world.passing.slept

-- one call of dispatch; a policy that has `dequeue` hears who left its custody in it
unfoldable pub dispatch_called : State → ℕ → Option ℕ → Stepped
dispatch_called s c p =
    let r = call_back s callback.Dispatch (cpu_and_task c (told_of s p)) 0 c in
    one_after_other r
    (tells_left r.state c (noted_by s callback.Dispatch (cpu_and_task c (told_of s p)) 0 c))

-- one call of dispatch, and then the local queue is supplied
unfoldable pub after_dispatch : State → ℕ → Option ℕ → Stepped
after_dispatch s c p =
    let r = dispatch_called s c p in one_after_other r (supply_unless_kept r.state c p)

-- whether dispatch moved or inserted a task, and the local queue is empty still
abbrev pub moved_in_vain : State → ℕ → Bool
moved_in_vain s c = (local_len s.world c == 0) && s.world.call.has_moved

-- whether dispatch is asked again: it moved a task in vain, and the task before doesn't keep the
-- processor
abbrev pub asks_again : State → ℕ → Option ℕ → Bool
asks_again s c p = not (keeps_slice s p) && moved_in_vain s c

-- at most that many calls, as long as the local queue is empty and the last one moved something; an
-- ejection forgets what was moved
unfoldable pub tries : ℕ → State → ℕ → Option ℕ → Stepped
tries zero s c p = stays s
tries (suc n) s c p =
    let d = after_dispatch s c p in
    if asks_again d.state c p then one_after_other d (tries n d.state c p) else d

-- ---- on and off a processor

-- stopping is called for a task that left its processor; the number says whether it stays runnable
abbrev pub stopping_called : State → ℕ → ℕ → ℕ → Stepped
stopping_called s c t n = call_back s callback.Stopping (task_and_number t n) t c

-- once a task has left its processor; the number says whether it stays runnable
unfoldable pub after_stopping : State → ℕ → ℕ → ℕ → Stepped
after_stopping s c t n =
    if is_ejected s then stays (with_world s (after_charge s.world t))
    else stopping_called s c t n

-- once a task has come to its processor
unfoldable pub after_running : State → ℕ → ℕ → Stepped
after_running s c t =
    if is_ejected s then stays (with_world s (after_catch_up s.world t))
    else call_back s callback.Running (one_task t) t c

-- a task that was stopped is put; under Linux rules one with some of its slice left goes to the
-- front of the local queue, and enqueue isn't called (ext.c, `put_prev_task_scx`)
unfoldable pub put_back : State → ℕ → ℕ → Stepped
put_back s c t = if keeps_slice s (Some t) then enters s t (to_front c) else put s t c 0

-- the task before leaves the processor, and is put
unfoldable pub leave : State → ℕ → Option ℕ → Stepped
leave s c None = stays s
leave s c (Some t) =
    let r = after_stopping (with_world s (after_stop s.world c t)) c t 1 in
    after (note_now s.world (Stop t c) ∷ []) (one_after_other r (put_back r.state c t))

-- under Linux rules with ticks, a task that begins to run has a slice one nanosecond longer, so
-- that one of a whole number of ticks lasts for one tick more (measured)
unfoldable pub switched : State → ℕ → State
switched s t =
    if is_by_linux s && not (s.policy.tick_ms == 0) then with_world s (after_switch s.world t)
    else s

-- that task, the front of the local queue, leaves it and runs; without one nothing is done
abbrev pub started_if : Option ℕ → State → ℕ → Stepped
started_if None s c = stays s
started_if (Some t) s c =
    after (note_now s.world (Run t c) ∷ [])
    (after_running (switched (with_world s (started_at (Some t) s.world c)) t) c t)

-- the front of the local queue runs
unfoldable pub start : State → ℕ → Stepped
start s c = started_if (front_of s.world.queues (local_on c)) s c

-- ---- rest

-- whether a policy hears which processors are idle: under Linux rules, where it has `update_idle`
unfoldable pub hears_idle : State → Bool
hears_idle s = is_by_linux s && is_some (program_of s.policy callback.UpdateIdle)

-- the policy hears that the processor is idle (1), or idle no more (0)
unfoldable pub tells_idle : State → ℕ → ℕ → Stepped
tells_idle s c n = call_by_linux s callback.UpdateIdle (two_numbers c n) 0 c

-- what is noted where nobody comes: idle, if none may stay and one ran as the event began
abbrev pub idle_note : WorldState → Option ℕ → Bool → ℕ → List Note
idle_note w None true c = note_now w (Idle c) ∷ []
idle_note w None false c = []
idle_note w (Some t) ran c = []

-- the same; not yet where the policy is to hear of it first
abbrev pub rest_notes : State → ℕ → Option ℕ → Bool → List Note
rest_notes s c p ran = idle_note s.world p (ran && not (hears_idle s)) c

-- a task that keeps the processor got its slice in this cycle, once the time up to now was taken
-- from it: it is a nanosecond longer too (ext.c, `dispatch_one` calls `update_curr_scx` first)
abbrev pub kept : State → Option ℕ → State
kept s None = s
kept s (Some t) = switched s t

-- nobody comes: the task before stays, or the processor is idle
unfoldable pub rest : State → ℕ → Option ℕ → Bool → Stepped
rest s c p ran = record {
  state = kept (with_world s (after_keep s.world p)) p;
  notes = rest_notes s c p ran;
  calls = [];
}

-- ---- the built-in scheduler

-- the front of the local queue runs in the place of the task before
unfoldable pub swap : State → ℕ → Option ℕ → Stepped
swap s c p = let l = leave s c p in one_after_other l (start l.state c)

-- the front of the local queue runs; where there is none, the task before stays or nobody runs
unfoldable pub swap_or_rest : State → ℕ → Option ℕ → Bool → Stepped
swap_or_rest s c p ran = if has_local s c then swap s c p else rest s c p ran

-- its dispatch: the first of its queue that may run on the processor comes to the local queue, once
-- those that are throttled are parked
unfoldable pub builtin_dispatch : State → ℕ → Stepped
builtin_dispatch s c =
    let p = park_next (len_of s.world.queues builtin_queue) s builtin_queue c in
    one_after_other p (fill p.state builtin_queue c)

-- it is asked where the local queue is empty
unfoldable pub builtin_fill : State → ℕ → Stepped
builtin_fill s c = if has_local s c then stays s else builtin_dispatch s c

-- a local queue that is empty is filled from the built-in one, and then its front runs, if any
unfoldable pub builtin_ask : State → ℕ → Option ℕ → Bool → Stepped
builtin_ask s c p ran = let f = builtin_fill s c in one_after_other f (swap_or_rest f.state c p ran)

-- a cycle of the built-in scheduler: the local queue and the global one go before its own
unfoldable pub builtin_cycle : State → ℕ → Option ℕ → Bool → Stepped
builtin_cycle s c p ran = let f = supply s c in one_after_other f (builtin_ask f.state c p ran)

-- ---- the policy

-- the local queue is empty only where an ejection emptied it; then the cycle begins anew
unfoldable pub start_or_cycle : State → ℕ → Bool → Stepped
start_or_cycle s c ran = if has_local s c then start s c else builtin_cycle s c None ran

-- who is picked before the task before leaves: under Linux rules the front of the local queue
-- (ext.c, `do_pick_task_scx`); under plain rules nobody is, and its front runs, whoever that is by
-- then
unfoldable pub picked : State → ℕ → Option ℕ
picked s c = if is_by_linux s then front_of s.world.queues (local_on c) else None

-- the task that is picked gets a slice, if it has none
abbrev pub refilled : State → Option ℕ → State
refilled s o = with_world s (after_keep s.world o)

-- whether that task, which was picked, waits in the local queue still
abbrev pub is_local : State → ℕ → ℕ → Bool
is_local s c t = is_in (local_on c) (entry_of s.world.queues t)

-- the task that was picked runs, from wherever it waits in the local queue
unfoldable pub start_picked : State → ℕ → ℕ → Stepped
start_picked s c t =
    after (note_now s.world (Run t c) ∷ [])
    (after_running (switched (with_world s (after_run s.world c t)) t) c t)

-- where an ejection took it away the cycle begins anew
abbrev pub start_picked_or_cycle : Option ℕ → State → ℕ → Bool → Stepped
start_picked_or_cycle None s c ran = start_or_cycle s c ran
start_picked_or_cycle (Some t) s c ran =
    if is_local s c t then start_picked s c t else start_or_cycle s c ran

-- where the processor was idle, the policy hears that it isn't any more (ext/idle.c,
-- `__scx_update_idle`)
unfoldable pub tells_busy : State → ℕ → Option ℕ → Bool → Stepped
tells_busy s c None false = tells_idle s c 0
tells_busy s c p ran = stays s

-- the task before leaves, once the policy has heard that a processor isn't idle any more
unfoldable pub makes_way : State → ℕ → Option ℕ → Bool → Stepped
makes_way s c p ran =
    let b = tells_busy s c p ran in one_after_other b (leave b.state c p)

-- the front of the local queue runs in the place of the task before, of which a callback
-- may eject the policy
unfoldable pub pick : State → ℕ → Option ℕ → Bool → Stepped
pick s c p ran =
    let l = makes_way (refilled s (picked s c)) c p ran in
    one_after_other l (start_picked_or_cycle (picked s c) l.state c ran)

-- under a policy, the front of the local queue is picked; where there is none, nobody comes
unfoldable pub pick_or_rest : State → ℕ → Option ℕ → Bool → Stepped
pick_or_rest s c p ran = if has_local s c then pick s c p ran else rest s c p ran

-- a task that keeps the processor stays, and nothing is noted
unfoldable pub keep_or_pick : State → ℕ → Option ℕ → Bool → Stepped
keep_or_pick s c p ran = if keeps_slice s p then stays (kept s p) else pick_or_rest s c p ran

-- once dispatch was asked; where it ejected the policy, the cycle begins anew
unfoldable pub conclude : State → ℕ → Option ℕ → Bool → Stepped
conclude s c p ran = if is_ejected s then builtin_cycle s c p ran else keep_or_pick s c p ran

-- under Linux rules a processor that gives up asking looks again as the event ends (ext/inlines.h,
-- `scx_dispatch_sched`)
unfoldable pub give_up : State → ℕ → Option ℕ → State
give_up s c p = if is_by_linux s && asks_again s c p then kicked s c else s

-- where neither the local queue nor that of all processors has a task, dispatch is asked
unfoldable pub ask : State → ℕ → Option ℕ → Bool → Stepped
ask s c p ran =
    let d = tries 32 s c p in one_after_other d (conclude (give_up d.state c p) c p ran)

-- of a processor on which that task ran and may stay, or none; `ran` says whether any ran
-- there as the event began
unfoldable pub seek : State → ℕ → Option ℕ → Bool → Stepped
seek s c p ran =
    let f = supply s c in
    one_after_other f (if has_local f.state c then pick f.state c p ran else ask f.state c p ran)

-- ---- whichever is in force

-- the cycle of the policy, or that of the built-in scheduler once the policy is ejected
unfoldable pub look : State → ℕ → Option ℕ → Bool → Stepped
look s c p ran = if is_ejected s then builtin_cycle s c p ran else seek s c p ran

-- the cycle begins or ends
abbrev pub cycling : State → Option ℕ → State
cycling s o = with_world s (with_cycling s.world o)

-- whether nobody waits for the processor or for any, no task may be throttled, and there is no
-- dispatch to ask, or it asks in vain
unfoldable pub stays_idle : State → ℕ → Bool
stays_idle s c =
    not (is_ejected s)
    && (not (has_quota s.world.tree.groups)
    && ((local_len s.world c == 0)
    && (is_none (next_for s.world global c)
    && in_vain s.world c (asked_in (program_of s.policy callback.Dispatch)))))

-- a cycle that comes to nothing: dispatch is asked, if there is one, and nobody runs
unfoldable pub idles : State → ℕ → Stepped
idles s c =
    let v = cycling s (Some c) in
    let w = at_callback v.world callback.Dispatch 0 c in
    record {
      state = cycling (with_world v w) None;
      notes = [];
      calls = calls_of (program_of s.policy callback.Dispatch) callback.Dispatch
          (cpu_and_task c (told_of v None)) s.maps w;
    }

-- the cycle ends
abbrev pub ends : Stepped → Stepped
ends r = record r { state = cycling r.state None }

-- ---- a processor falls idle

-- whether no task came to a processor on which one ran, and the policy hears of that
unfoldable pub falls_idle : State → ℕ → Bool → Bool
falls_idle s c ran = ran && (hears_idle s && is_none (running s.world c))

-- it is idle, and that is noted
unfoldable pub notes_idle : State → ℕ → Stepped
notes_idle s c = record {
  state = cycling s None;
  notes = note_now s.world (Idle c) ∷ [];
  calls = [];
}

-- where the policy was ejected as it heard of it, the cycle begins anew
unfoldable pub idle_or_anew : State → ℕ → Stepped
idle_or_anew s c =
    if is_ejected s then ends (builtin_cycle (cycling s (Some c)) c None true) else notes_idle s c

-- the processor is idle already as the policy hears of it; the task that was there last is current
-- there until then
unfoldable pub becomes_idle : State → ℕ → Stepped
becomes_idle s c =
    let r = tells_idle (with_world s (out_of_cycle s.world)) c 1 in
    one_after_other r (idle_or_anew r.state c)

-- after the cycle on a processor
unfoldable pub concluded : State → ℕ → Bool → Stepped
concluded s c ran = if falls_idle s c ran then becomes_idle s c else stays (cycling s None)

-- all the while the cycle is under way
unfoldable pub cycle : State → ℕ → Option ℕ → Bool → Stepped
cycle s c p ran =
    let r = look (cycling s (Some c)) c p ran in one_after_other r (concluded r.state c ran)
