-- By plain rules less is asked: what steps come to where the machine doesn't go by Linux rules.
use Rattle.std.proofs.Common.{◌≡◌, ℕ, ◌-◌, ◌<◌, Bool, true, false, ◌==◌, ◌&&◌, not, if◌then◌else◌, is_some, [], ◌∷◌, Option, Some, None, refl, ap, ◌∙◌}
use Rattle.scx_dsq.specs.Queues.{front_of}
use Rattle.scx_isa_semantics.specs.declared.callbacks.Callback.TheVariants as callback
use Rattle.scx_vm.specs.Programs.{VerifiedProgram}
use Rattle.scx_sched_world.specs.declared.call.Insert.{Insert}
use Rattle.scx_sched_world.specs.declared.notes.What.TheVariants.{Stop, Run}
use Rattle.scx_sched_world.specs.Ids.{local_on}
use Rattle.scx_sched_world.specs.World as world
use Rattle.scx_sched_world.specs.World.{WorldState, with_task, with_waker, task_at, first_home, has_one_cpu, is_idle, choice, after_claim, note_now}
use Rattle.scx_sched_world.specs.Tasks.{with_home, homed, after_stop, started_at, after_switch, for_cpu, to_front}
use Rattle.scx_sched_world.specs.Ejecting.{after_charge}
use Rattle.scx_sched_machine.specs.Steps.{State, Stepped, with_world, stays, after, one_after_other, is_ejected, is_by_linux, kicked, kicked_if_idle}
use Rattle.scx_sched_machine.specs.Callbacks.{acting, call_back, call_by_linux, answered_by, task_cpu_and_0, task_and_number, two_numbers, cpu_and_task}
use Rattle.scx_sched_policy.specs.Policy.{program_of}
use Rattle.scx_sched_machine.specs.Custody.{hears_dequeue}
use Rattle.scx_sched_machine.specs.Put.{enters, enters_builtin, enqueue_choice, comes_in, put}
use Rattle.scx_sched_machine.specs.Parking.{supply}
use Rattle.scx_sched_machine.specs.Cycle.{keeps_slice, supply_unless_kept, told_of, after_dispatch, moved_in_vain, asks_again, tries, after_stopping, after_running, switched, started_if, start, put_back, leave, builtin_cycle, start_or_cycle, picked, refilled, start_picked_or_cycle, tells_idle, tells_busy, makes_way, pick, pick_or_rest, kept, keep_or_pick, conclude, give_up, cycle}
use Rattle.scx_sched_machine.specs.Events.{target, insert_or_put, woken, wake_target, comes_to, told_runnable, settle, settle_at_home, inserted_by_choice, chosen, ask_target, select, from_waker}
use Rattle.scx_sched_machine.proofs.Choices.{keeps_if}
use Rattle.scx_sched_machine.proofs.Leaving.{dispatch_unheard}
use Rattle.scx_sched_machine.proofs.Steady.{steady, steady_entered, steady_builtin, plain_as, plain_called, plain_supplied}
use Rattle.scx_sched_machine.proofs.Tries.{tries_none, tries_again, tries_last}

-- ---- the machine goes on by plain rules

plain_comes_in : (s : State) (t c : ℕ) → is_by_linux s ≡ false → is_by_linux (comes_in s t c).state ≡ false
unfolding comes_in enters enters_builtin
plain_comes_in s t c plain =
    let i = enqueue_choice s.policy.callbacks.enqueue c s.world.call.insert in
    keeps_if (λ (r : Stepped). is_by_linux r.state ≡ false) (is_ejected s) (enters_builtin s t) (enters s t i)
    (plain_as s.world _ (steady_builtin s.world s.world t (steady s.world)) plain)
    (plain_as s.world _ (steady_entered s.world s.world t i (steady s.world)) plain)

plain_put : (s : State) (t c flags : ℕ) → is_by_linux s ≡ false → is_by_linux (put s t c flags).state ≡ false
unfolding put
plain_put s t c flags plain =
    plain_comes_in (call_back s callback.Enqueue (task_and_number t flags) t c).state t c (plain_called s callback.Enqueue (task_and_number t flags) t c plain)

-- a task comes to wait by an insert, or is put
pub plain_arrives : (o : Option Insert) (s : State) (t c : ℕ) → is_by_linux s ≡ false → is_by_linux (insert_or_put o s t c).state ≡ false
unfolding enters
plain_arrives None s t c plain = plain_put s t c 1 plain
plain_arrives (Some i) s t c plain = plain_as s.world _ (steady_entered s.world s.world t (for_cpu c i) (steady s.world)) plain

-- a task has left its processor
plain_stopped : (s : State) (c t n : ℕ) → is_by_linux s ≡ false → is_by_linux (after_stopping s c t n).state ≡ false
unfolding after_stopping
plain_stopped s c t n plain =
    keeps_if (λ (r : Stepped). is_by_linux r.state ≡ false) (is_ejected s) (stays (with_world s (after_charge s.world t))) (call_back s callback.Stopping (task_and_number t n) t c)
    plain (plain_called s callback.Stopping (task_and_number t n) t c plain)

-- ---- a wake

-- once a task waits, an idle target looks for it at once
abbrev woken_plainly : Stepped → ℕ → Stepped
woken_plainly r c =
    one_after_other r (if is_idle r.state.world c then cycle r.state c None false else stays r.state)

comes_plainly : (o : Option Insert) (s : State) (t c : ℕ) → is_by_linux s ≡ false → comes_to o s t c ≡ woken_plainly (insert_or_put o s t c) c
unfolding comes_to wake_target
comes_plainly o s t c plain =
    let r = insert_or_put o s t c in
    ap (λ b. one_after_other r (if b then stays (kicked_if_idle (woken r.state) c) else (if is_idle r.state.world c then cycle r.state c None false else stays r.state))) (plain_arrives o s t c plain)

home_plainly : (w : WorldState) (t c : ℕ) → world.is_by_linux w ≡ false → homed w t c ≡ w
home_plainly w t c plain = ap (λ b. if b then with_task w t (with_home (task_at w t) c) else w) plain

-- the task's processor stays, and nobody is told that it is runnable
pub settles : (s : State) (t c : ℕ) → is_by_linux s ≡ false → settle s t c ≡ woken_plainly (insert_or_put s.world.call.insert s t c) c
unfolding settle
settles s t c plain =
    ap (λ (w : WorldState). let v = with_world s w in if is_by_linux v then told_runnable v.world.call.insert v t c else comes_to v.world.call.insert v t c) (home_plainly s.world t c plain)
    ∙ ap (λ b. if b then told_runnable s.world.call.insert s t c else comes_to s.world.call.insert s t c) plain
    ∙ comes_plainly s.world.call.insert s t c plain

still_by_linux : (w : WorldState) (t c : ℕ) → world.is_by_linux w ≡ true → world.is_by_linux (homed w t c) ≡ true
still_by_linux w t c linux = keeps_if (λ (u : WorldState). world.is_by_linux u ≡ true) (world.is_by_linux w) (with_task w t (with_home (task_at w t) c)) w linux linux

-- by Linux rules the policy may hear that it is runnable
pub settles_by_linux : (s : State) (t c : ℕ) → is_by_linux s ≡ true → settle s t c ≡ told_runnable (homed s.world t c).call.insert (with_world s (homed s.world t c)) t c
unfolding settle
settles_by_linux s t c linux =
    let v = with_world s (homed s.world t c) in
    ap (λ b. if b then told_runnable v.world.call.insert v t c else comes_to v.world.call.insert v t c) (still_by_linux s.world t c linux)

choose_plainly : (o : Option VerifiedProgram) (s : State) (t : ℕ) → is_by_linux s ≡ false → chosen o s t ≡ s
choose_plainly None s t plain = ap (λ b. with_world s (if b then inserted_by_choice (after_claim s.world (choice s.world t)) (choice s.world t) else s.world)) plain
choose_plainly (Some p) s t plain = refl

waker_plainly : (s : State) (t : ℕ) → is_by_linux s ≡ false → from_waker s t ≡ s
unfolding from_waker
waker_plainly s t plain = ap (λ b. if b then with_world s (with_waker s.world (Some (task_at s.world t).prev_cpu)) else s) plain

asked_plainly : (s : State) (t : ℕ) → is_by_linux s ≡ false → select s t ≡ ask_target s t
unfolding select
asked_plainly s t plain =
    ap (λ b. if not (b && has_one_cpu s.world t) then ask_target s t else settle_at_home s t (first_home s.world t)) plain

-- no processor is claimed, and select_cpu is asked
pub selects : (s : State) (t : ℕ) → is_by_linux s ≡ false → select (from_waker s t) t ≡ (
    let c = (task_at s.world t).prev_cpu in
    let r = call_back s callback.SelectCpu (task_cpu_and_0 t c) t c in
    one_after_other r (settle r.state t (target (acting r.state callback.SelectCpu) r.state.world t (answered_by s callback.SelectCpu (task_cpu_and_0 t c) t c))))
unfolding ask_target
selects s t plain =
    let c = (task_at s.world t).prev_cpu in
    let r = call_back s callback.SelectCpu (task_cpu_and_0 t c) t c in
    let n = target (acting r.state callback.SelectCpu) r.state.world t (answered_by s callback.SelectCpu (task_cpu_and_0 t c) t c) in
    ap (λ (v : State). select v t) (waker_plainly s t plain) ∙ asked_plainly s t plain
    ∙ ap (λ (v : State). one_after_other r (settle v t n)) (choose_plainly (acting r.state callback.SelectCpu) r.state t (plain_called s callback.SelectCpu (task_cpu_and_0 t c) t c plain))

-- ---- dispatch

keeps_plainly : (s : State) (p : Option ℕ) → is_by_linux s ≡ false → keeps_slice s p ≡ false
keeps_plainly s None plain = refl
keeps_plainly s (Some t) plain = ap (λ b. b && not ((task_at s.world t).slice == 0)) plain

-- nothing is heard of who leaves custody
unheard_plainly : (s : State) → is_by_linux s ≡ false → hears_dequeue s ≡ false
unfolding hears_dequeue
unheard_plainly s plain = ap (λ b. b && is_some (program_of s.policy callback.Dequeue)) plain

-- no task before keeps the processor
pub dispatches : (s : State) (c : ℕ) (p : Option ℕ) → is_by_linux s ≡ false → after_dispatch s c p ≡ (
    let r = call_back s callback.Dispatch (cpu_and_task c (told_of s p)) 0 c in
    one_after_other r (supply r.state c))
unfolding after_dispatch supply_unless_kept
dispatches s c p plain =
    let r = call_back s callback.Dispatch (cpu_and_task c (told_of s p)) 0 c in
    ap (λ (x : Stepped). one_after_other x (supply_unless_kept x.state c p)) (dispatch_unheard s c p (unheard_plainly s plain))
    ∙ ap (λ b. one_after_other r (if b then stays r.state else supply r.state c)) (keeps_plainly r.state p (plain_called s callback.Dispatch (cpu_and_task c (told_of s p)) 0 c plain))

plain_dispatched : (s : State) (c : ℕ) (p : Option ℕ) → is_by_linux s ≡ false → is_by_linux (after_dispatch s c p).state ≡ false
plain_dispatched s c p plain =
    let r = call_back s callback.Dispatch (cpu_and_task c (told_of s p)) 0 c in
    ap (λ (x : Stepped). is_by_linux x.state) (dispatches s c p plain)
    ∙ plain_supplied r.state c (plain_called s callback.Dispatch (cpu_and_task c (told_of s p)) 0 c plain)

asks_plainly : (s : State) (c : ℕ) (p : Option ℕ) → is_by_linux s ≡ false → asks_again s c p ≡ moved_in_vain s c
asks_plainly s c p plain = ap (λ b. not b && moved_in_vain s c) (keeps_plainly s p plain)

-- dispatch is asked again, as it moved a task in vain
pub tries_on : (n c : ℕ) (s : State) (p : Option ℕ) → 0 < n → is_by_linux s ≡ false → moved_in_vain (after_dispatch s c p).state c ≡ true → tries n s c p ≡ one_after_other (after_dispatch s c p) (tries (n - 1) (after_dispatch s c p).state c p)
tries_on n c s p l plain e = tries_again n c s p l (asks_plainly (after_dispatch s c p).state c p (plain_dispatched s c p plain) ∙ e)

-- it isn't asked again
pub tries_no_more : (n c : ℕ) (s : State) (p : Option ℕ) → 0 < n → is_by_linux s ≡ false → moved_in_vain (after_dispatch s c p).state c ≡ false → tries n s c p ≡ after_dispatch s c p
tries_no_more n c s p l plain e = tries_last n c s p l (asks_plainly (after_dispatch s c p).state c p (plain_dispatched s c p plain) ∙ e)

-- of calls of dispatch by plain rules
pub ruleset tries_plainly = (tries_none, tries_on, tries_no_more)

-- a processor that gives up asking doesn't look again, and no task before keeps it
pub concludes : (s : State) (c : ℕ) (p : Option ℕ) (ran : Bool) → is_by_linux s ≡ false → conclude (give_up s c p) c p ran ≡ (if is_ejected s then builtin_cycle s c p ran else pick_or_rest s c p ran)
unfolding conclude give_up keep_or_pick
concludes s c p ran plain =
    ap (λ b. let v = if b && asks_again s c p then kicked s c else s in if is_ejected v then builtin_cycle v c p ran else (if keeps_slice v p then stays (kept v p) else pick_or_rest v c p ran)) plain
    ∙ ap (λ b. if is_ejected s then builtin_cycle s c p ran else (if b then stays (kept s p) else pick_or_rest s c p ran)) (keeps_plainly s p plain)

-- ---- a cycle

puts_plainly : (s : State) (c t : ℕ) → is_by_linux s ≡ false → put_back s c t ≡ put s t c 0
unfolding put_back
puts_plainly s c t plain = ap (λ b. if b && not ((task_at s.world t).slice == 0) then enters s t (to_front c) else put s t c 0) plain

-- the task before leaves, and is put
abbrev left_plainly : State → ℕ → Option ℕ → Stepped
left_plainly s c None = stays s
left_plainly s c (Some t) =
    let r = after_stopping (with_world s (after_stop s.world c t)) c t 1 in
    after (note_now s.world (Stop t c) ∷ []) (one_after_other r (put r.state t c 0))

-- no task goes back to the front of a local queue
pub leaves : (s : State) (c : ℕ) (o : Option ℕ) → is_by_linux s ≡ false → leave s c o ≡ left_plainly s c o
unfolding leave
leaves s c None plain = refl
leaves s c (Some t) plain =
    let stopped = with_world s (after_stop s.world c t) in
    let r = after_stopping stopped c t 1 in
    ap (λ (x : Stepped). after (note_now s.world (Stop t c) ∷ []) (one_after_other r x)) (puts_plainly r.state c t (plain_stopped stopped c t 1 plain))

-- the machine goes on by plain rules
pub plain_left : (s : State) (c : ℕ) (o : Option ℕ) → is_by_linux s ≡ false → is_by_linux (leave s c o).state ≡ false
plain_left s c o plain = ap (λ (x : Stepped). is_by_linux x.state) (leaves s c o plain) ∙ go o
  where
    go : (o : Option ℕ) → is_by_linux (left_plainly s c o).state ≡ false
    go None = plain
    go (Some t) =
        let stopped = with_world s (after_stop s.world c t) in
        plain_put (after_stopping stopped c t 1).state t c 0 (plain_stopped stopped c t 1 plain)

-- a task that begins to run keeps its slice
switch_plainly : (s : State) (t : ℕ) → is_by_linux s ≡ false → switched s t ≡ s
unfolding switched
switch_plainly s t plain = ap (λ b. if b && not (s.policy.tick_ms == 0) then with_world s (after_switch s.world t) else s) plain

-- the front of the local queue runs
abbrev started_plainly : Option ℕ → State → ℕ → Stepped
started_plainly None s c = stays s
started_plainly (Some t) s c = after (note_now s.world (Run t c) ∷ []) (after_running (with_world s (started_at (Some t) s.world c)) c t)

pub starts : (s : State) (c : ℕ) → is_by_linux s ≡ false → start s c ≡ started_plainly (front_of s.world.queues (local_on c)) s c
unfolding start
starts s c plain = go (front_of s.world.queues (local_on c))
  where
    go : (o : Option ℕ) → started_if o s c ≡ started_plainly o s c
    go None = refl
    go (Some t) = ap (λ (v : State). after (note_now s.world (Run t c) ∷ []) (after_running v c t)) (switch_plainly (with_world s (started_at (Some t) s.world c)) t plain)

picked_none : (s : State) (c : ℕ) → is_by_linux s ≡ false → picked s c ≡ None
unfolding picked
picked_none s c plain = ap (λ b. if b then front_of s.world.queues (local_on c) else None) plain

-- nothing is heard of a processor that isn't idle any more
busy_plainly : (s : State) (c : ℕ) (p : Option ℕ) (ran : Bool) → is_by_linux s ≡ false → tells_busy s c p ran ≡ stays s
unfolding tells_busy tells_idle call_by_linux
busy_plainly s c None false plain = ap (λ b. if b && is_some (program_of s.policy callback.UpdateIdle) then call_back s callback.UpdateIdle (two_numbers c 0) 0 c else stays s) plain
busy_plainly s c None true plain = refl
busy_plainly s c (Some t) ran plain = refl

-- nobody is picked before the task before leaves
pub picks : (s : State) (c : ℕ) (p : Option ℕ) (ran : Bool) → is_by_linux s ≡ false → pick s c p ran ≡ one_after_other (leave s c p) (start_or_cycle (leave s c p).state c ran)
unfolding pick makes_way
picks s c p ran plain =
    ap (λ (o : Option ℕ). let l = makes_way (refilled s o) c p ran in one_after_other l (start_picked_or_cycle o l.state c ran)) (picked_none s c plain)
    ∙ ap (λ (b : Stepped). let l = one_after_other b (leave b.state c p) in one_after_other l (start_or_cycle l.state c ran)) (busy_plainly s c p ran plain)
