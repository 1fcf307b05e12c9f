-- What each small step of a world keeps, callbacks and ejections keep, and a task that is put.
use Rattle.std.proofs.Common.{◌≡◌, ℕ, ◌+◌, ◌<◌, Bool, true, false, ◌==◌, ◌&&◌, not, nat_le, if◌then◌else◌, List, length, Option, Some, None, refl, arith}
use Rattle.scx_isa_semantics.specs.declared.callbacks.Callback.{Callback}
use Rattle.scx_isa_semantics.specs.declared.callbacks.Callback.TheVariants as callback
use Rattle.scx_isa_semantics.specs.Elements.{Maps}
use Rattle.scx_vm.specs.Programs.{VerifiedProgram}
use Rattle.scx_vm.specs.declared.arguments.Args.{Args}
use Rattle.scx_sched_world.specs.declared.eject.Eject.{Eject}
use Rattle.scx_sched_world.specs.declared.timers.Alarm.{Alarm}
use Rattle.scx_sched_world.specs.CpuSets.{and_cpu}
use Rattle.scx_sched_world.specs.World as world
use Rattle.scx_sched_world.specs.World.{WorldState, with_task, switch_at, with_switch, with_waker, task_at, is_idle, with_timer_at_hand, may_run}
use Rattle.scx_sched_world.specs.Tasks.{with_home, homed, after_switch, for_cpu}
use Rattle.scx_sched_world.specs.Helpers.{alarm_at, due_now}
use Rattle.scx_sched_world.specs.Ejecting.{after_charge, after_catch_up}
use Rattle.scx_sched_machine.specs.Steps.{State, Stepped, stays, with_world, is_ejected, is_by_linux, kicked, kicked_if_idle}
use Rattle.scx_sched_machine.specs.Ejecting.{eject}
use Rattle.scx_sched_machine.specs.Callbacks.{call_ending, call_back, call_by_linux, one_task, task_and_number}
use Rattle.scx_sched_world.specs.declared.call.Insert.{Insert}
use Rattle.scx_sched_machine.specs.Put.{enters, enqueue_choice, enters_builtin, comes_in, put}
use Rattle.scx_sched_machine.specs.Cycle.{switched, after_running}
use Rattle.scx_sched_machine.specs.Events.{insert_or_put}
use Rattle.scx_sched_machine.proofs.Choices.{keeps_if}
use Rattle.scx_sched.specs.Kept.{IsKeptBySteps, IsWanted, ForAny, Nowhere, Inserted}
use Rattle.scx_sched.specs.Allowed.{MayGo}
use Rattle.scx_sched.proofs.Placing.{MayPut}
use Rattle.scx_sched.proofs.Stepwise.{Stays, stays_walked, KeepsCalls, IsSwitch, Silent, Called, off_cpu, goes_off, by_stop}
use Rattle.scx_sched.proofs.Queries.{KeepsCallbacks, kept_called, kept_eject, kept_call_back, kept_call_by_linux}

-- the task before, if there is one, is a task that there is
abbrev pub IsKnown : ℕ → Option ℕ → Type 0
IsKnown n None = Unit {0}
IsKnown n (Some t) = t < n

-- a timer that is due was started
pub due_started : (w : WorldState) (j : ℕ) (a : Alarm) → due_now w (alarm_at w j) ≡ Some a → alarm_at w j ≡ Some a
due_started w j a e = go (alarm_at w j) e
  where
    at : (x : Alarm) (b : Bool) → (if b then Some x else None) ≡ Some a → Some x ≡ Some a
    at x true e = e
    at x false e = absurd (cc)

    go : (o : Option Alarm) → due_now w o ≡ Some a → o ≡ Some a
    go None e = e
    go (Some x) e = at x (nat_le x.due w.clock) e

-- a task before is charged once at most
abbrev pub once_for : Option ℕ → ℕ → ℕ
once_for None m = m
once_for (Some t) m = m + 1

-- enqueue puts a task where it may go
pub is_wanted : (cpus : ℕ) (w : WorldState) (p : Option VerifiedProgram) (c : ℕ) (o : Option Insert) → c < cpus → w.call.insert ≡ o → IsWanted cpus w (enqueue_choice p c o)
is_wanted cpus w None c o l e = ForAny refl
is_wanted cpus w (Some p) c None l e = Nowhere refl
is_wanted cpus w (Some p) c (Some i) l e = Inserted c i l e refl

module _ (n : ℕ) (I : ℕ → Option ℕ → List (Option ℕ) → WorldState → Type 0) (k : IsKeptBySteps n I) where
  -- with somebody at hand or nobody, and the same on the processors
  module _ (m : ℕ) (hand : Option ℕ) (on : List (Option ℕ)) where
    -- the run of a callback
    pub keeps_called : (p : Option VerifiedProgram) (b : Callback) (a : Args) (maps : Maps) (w : WorldState) → I m hand on w → I m hand on (call_ending p b a maps w).outside
    keeps_called p b a maps w h = kept_called (I m hand on) (λ v q. k.query m hand on v q) p b a maps w h

    keeps_callbacks : KeepsCallbacks (I m hand on)
    keeps_callbacks = record {
      query = λ w q h. k.query m hand on w q h;
      quiet = λ w h. k.quiet m hand on w h;
      out = λ w x h. k.put_out m hand on w x h;
      ejecting = record { evict = λ w t l h. k.evict m hand on w t (omega (arith, l, k.known m hand on w h)) h; cut = λ w t h. k.cut m hand on w t h };
    }

    pub keeps_eject : (s : State) (x : Eject) → I m hand on s.world → I m hand on (eject s x).state.world
    keeps_eject s x h = kept_eject (I m hand on) keeps_callbacks.ejecting s x (k.put_out m hand on s.world x h)

    -- a callback on a processor that there is
    pub keeps_call_back : (s : State) (b : Callback) (a : Args) (t c : ℕ) → c < length on → I m hand on s.world → I m hand on (call_back s b a t c).state.world
    keeps_call_back s b a t c l h = kept_call_back (I m hand on) keeps_callbacks s b a t c (k.begun m hand on s.world b t c l h)

    -- so what the policy is told of that processor can be walked over
    pub keeps_calls : (c : ℕ) → c < length on → KeepsCalls (Stays (I m hand on)) c
    keeps_calls c l = record { steps = stays_walked (I m hand on); called = λ s b a t told h. keeps_call_back s b a t c l h }

    -- a task leaves its processor, and the policy hears of it
    pub keeps_goes_off : (s : State) (c t x : ℕ) → c < length on → I m hand on (off_cpu s c t).world → I (m + 1) hand on (goes_off s c t x).state.world
    keeps_goes_off s c t x l h = by_stop (λ (r : Stepped). I (m + 1) hand on r.state.world) off c t x each
      where
        off : State
        off = off_cpu s c t

        each : (r : Stepped) → IsSwitch off t c (after_charge off.world t) r → I (m + 1) hand on r.state.world
        each _ (Silent out) = k.charged m hand on off.world t out h
        each _ (Called b a force is) = k.more m hand on (call_back off b a t c).state.world (keeps_call_back off b a t c l h)

    pub keeps_running_on : (s : State) (c t : ℕ) → c < length on → I m hand on s.world → I m hand on (after_running s c t).state.world
    unfolding after_running
    keeps_running_on s c t l h =
        keeps_if (λ (r : Stepped). I m hand on r.state.world) (is_ejected s) (stays (with_world s (after_catch_up s.world t))) (call_back s callback.Running (one_task t) t c) (k.overtaken m hand on s.world t h) (keeps_call_back s callback.Running (one_task t) t c l h)

    -- ---- Linux rules

    -- a callback that Linux rules call more
    pub keeps_call_by_linux : (s : State) (b : Callback) (a : Args) (t c : ℕ) → c < length on → I m hand on s.world → I m hand on (call_by_linux s b a t c).state.world
    keeps_call_by_linux s b a t c l h = kept_call_by_linux (I m hand on) keeps_callbacks s b a t c (k.begun m hand on s.world b t c l h) h

    -- a processor that begins to switch
    pub keeps_switch : (w : WorldState) (c : ℕ) → I m hand on w → I m hand on (with_switch w c)
    keeps_switch w c h = keeps_if (I m hand on) (world.is_by_linux w) (record w { passing = record w.passing { switching = switch_at w c } }) w (k.sets m hand on w w.claimed w.kicked w.preempted w.call.claims (record w.passing { switching = switch_at w c }) (λ d e. e) h) h

    -- a processor from which a task is woken, or none
    pub keeps_waker : (w : WorldState) (o : Option ℕ) → ((c : ℕ) → o ≡ Some c → c < length on) → I m hand on w → I m hand on (with_waker w o)
    keeps_waker w o l h = k.wakes m hand on w o l h

    -- a timer whose callback is at hand, or none
    pub keeps_timer : (w : WorldState) (o : Option ℕ) → I m hand on w → I m hand on (with_timer_at_hand w o)
    keeps_timer w o h = k.sets m hand on w w.claimed w.kicked w.preempted w.call.claims (record w.passing { timer = o }) (λ d e. e) h

    -- a processor that is to look for work
    pub keeps_kicked : (s : State) (c : ℕ) → I m hand on s.world → I m hand on (kicked s c).world
    keeps_kicked s c h = k.sets m hand on s.world s.world.claimed (and_cpu s.world.kicked c) s.world.preempted s.world.call.claims s.world.passing (λ d e. e) h

    pub keeps_kicked_if_idle : (s : State) (c : ℕ) → I m hand on s.world → I m hand on (kicked_if_idle s c).world
    keeps_kicked_if_idle s c h = keeps_if (λ (r : State). I m hand on r.world) (is_by_linux s && is_idle s.world c) (kicked s c) s (keeps_kicked s c h) h

    -- the processor of a task
    pub keeps_homed : (w : WorldState) (t c : ℕ) → c < length on → may_run w t c ≡ true → I m hand on w → I m hand on (homed w t c)
    keeps_homed w t c l may h = keeps_if (I m hand on) (world.is_by_linux w) (with_task w t (with_home (task_at w t) c)) w (k.homed m hand on w t c l may h) h

    -- a task that begins to run
    pub keeps_switched : (s : State) (t : ℕ) → I m hand on s.world → I m hand on (switched s t).world
    unfolding switched
    keeps_switched s t h = keeps_if (λ (r : State). I m hand on r.world) (is_by_linux s && not (s.policy.tick_ms == 0)) (with_world s (after_switch s.world t)) s (k.sliced m hand on s.world t _ h) h

  module _ (m : ℕ) (on : List (Option ℕ)) where
    keeps_comes_in : (s : State) (t c : ℕ) → t < n → c < length on → MayGo (length on) s.world t (enqueue_choice s.policy.callbacks.enqueue c s.world.call.insert) → I m (Some t) on s.world → I m None on (comes_in s t c).state.world
    unfolding comes_in enters enters_builtin
    keeps_comes_in s t c within l may h =
        let p = s.policy.callbacks.enqueue in
        let o = s.world.call.insert in
        keeps_if (λ (r : Stepped). I m None on r.state.world) (is_ejected s) (enters_builtin s t) (enters s t (enqueue_choice p c o)) (k.put_builtin m on s.world t within h) (k.entered m on s.world t (enqueue_choice p c o) within (is_wanted (length on) s.world p c o l refl) may h)

    -- a task that is put
    pub keeps_put : (s : State) (t c flags : ℕ) → t < n → c < length on → MayPut (length on) s t c flags → I m (Some t) on s.world → I m None on (put s t c flags).state.world
    unfolding put
    keeps_put s t c flags within l may h =
        let r = call_back s callback.Enqueue (task_and_number t flags) t c in
        keeps_comes_in r.state t c within l may (keeps_call_back m (Some t) on s callback.Enqueue (task_and_number t flags) t c l h)

    -- an insert of select_cpu that may still be done
    pub keeps_settled : (o : Option Insert) (s : State) (t c : ℕ) → ((i : Insert) → o ≡ Some i → IsWanted (length on) s.world (for_cpu c i) × MayGo (length on) s.world t (for_cpu c i)) → MayPut (length on) s t c 1 → t < n → c < length on → I m (Some t) on s.world → I m None on (insert_or_put o s t c).state.world
    unfolding enters
    keeps_settled None s t c may put within l h = keeps_put s t c 1 within l put h
    keeps_settled (Some i) s t c may put within l h = let x = may i refl in k.entered m on s.world t (for_cpu c i) within x.0 x.1 h
