-- Under a policy of one line no callback has a fault: queue 0 is there, and takes each task at its end.
use Rattle.std.proofs.Common.{◌≡◌, ℕ, zero, suc, ◌<◌, ◌≤◌, ◌⊎◌, inl, inr, Bool, true, false, ◌&&◌, not, nat_le, nat_lt, if◌then◌else◌, [], ◌∷◌, length, Option, Some, None, is_some, is_none, refl, sym, ap, ◌∙◌, subst, arith}
use Rattle.scx_sched.proofs.Blaming.{eject_policy}
use Rattle.std.specs.List.{list_any}
use Rattle.std.proofs.lemmas.Bool.{eq-eqb}
use Rattle.std.proofs.lemmas.Bool.Decides.{nat_tests}
use Rattle.std.proofs.lemmas.List.{length-set}
use Rattle.std.proofs.lemmas.List.Elements.{All-from_get_or}
use Rattle.std.proofs.lemmas.List.Folds.{list_any_none}
use Rattle.scx_dsq.specs.Queues.{QueueState, front_of}
use Rattle.scx_dsq.specs.Calls.{clashes, after_push, after_remove}
use Rattle.scx_dsq.specs.declared.entries.Rank.TheVariants.{Fifo}
use Rattle.scx_isa_semantics.specs.declared.callbacks.Callback.{Callback}
use Rattle.scx_isa_semantics.specs.declared.callbacks.Callback.TheVariants as callback
use Rattle.scx_isa_semantics.specs.declared.rules.Rules.{Rules}
use Rattle.scx_isa_semantics.specs.declared.rules.Rules.TheVariants.{Plain}
use Rattle.scx_isa_semantics.specs.Endings.{Ending}
use Rattle.scx_vm.specs.Programs.{VerifiedProgram}
use Rattle.scx_vm.specs.declared.arguments.Args.{Args}
use Rattle.scx_sched_tasks.specs.declared.task.Task.{Task}
use Rattle.scx_sched_tasks.specs.Tasks.{no_task}
use Rattle.scx_sched_world.specs.declared.call.Insert.{Insert}
use Rattle.scx_sched_world.specs.declared.eject.Cause.{Cause}
use Rattle.scx_sched_world.specs.declared.eject.Eject.{Eject}
use Rattle.scx_sched_world.specs.declared.eject.Eject.TheVariants as cause
use Rattle.scx_sched_world.specs.declared.faults.Fault.{Fault}
use Rattle.scx_sched_world.specs.Ids.{builtin_queue, parked_queue, local_on}
use Rattle.scx_sched_world.specs.World as world
use Rattle.scx_sched_world.specs.World.{WorldState, with_queues, with_task, task_at, are_linux, waits, default_choice, at_callback, quiet}
use Rattle.scx_sched_world.specs.Tasks.{with_home, after_wake, after_leave, after_local, local_cpu, homed, homed_at, after_enter, brought, fill_front, after_stop, started_at, after_keep, let_go, put_parked, next_for}
use Rattle.scx_sched_world.specs.declared.faults.Fault.TheVariants.{NoSuchQueue, NoSuchCpu}
use Rattle.scx_weights.specs.Refusals.{weight_fault, own_weight_fault}
use Rattle.scx_sched_world.specs.Helpers.{with_fault, can_move, is_held, flags_fault, insert_fault, insert_or_fault, after_late, after_insert, with_insert, moved_to_local}
use Rattle.scx_sched_world.specs.Ejecting.{put_builtin, evict}
use Rattle.scx_sched_policy.specs.Policy.{PolicyState, program_of}
use Rattle.scx_sched_machine.specs.Steps.{State, with_world, is_by_linux, is_ejected}
use Rattle.scx_sched_machine.specs.Ejecting.{eject, ejected_for}
use Rattle.scx_sched_machine.specs.Callbacks.{call_ending, after_callback, answer_fault, as_cause, or_cause, cause_of, unless_ejected, acting, call_back, task_cpu_and_0, task_and_number}
use Rattle.scx_sched_machine.specs.Put.{enters, enqueue_choice, enters_builtin, comes_in, put}
use Rattle.scx_sched_machine.specs.Filling.{fill}
use Rattle.scx_sched_machine.specs.Parking.{park, let_go_one}
use Rattle.scx_sched_machine.proofs.Choices.{keeps_if}
use Rattle.scx_sched.specs.Once.{IsSorted, IsOpen}
use Rattle.scx_sched.proofs.Entering.{open_without, open_removed, open_same, open_own}
use Rattle.scx_sched.proofs.Queries.{kept_eject}
use Rattle.scx_sched.proofs.Written.{each_written}
use Rattle.scx_laws.specs.Serving.{after_serving}
use Rattle.scx_laws.specs.Lines.{to_line, asked_for, ChoosesIdle, MayChoose, IsLine, IsStall}
use Rattle.scx_sched_machine.specs.Events.{insert_or_put}
use Rattle.scx_laws.proofs.Plain.{kicked_plain}
use Rattle.scx_sched.proofs.Stepwise.{IsOfSwitch, Leaving, Coming, IsOneLetGo, parked_let_go}
use Rattle.scx_laws.proofs.Walking.{after_asking, IsSettled, IsKeptPlainly}
use Rattle.scx_laws.proofs.Choosing.{chosen_there, idle_end, answered, asked_so}

-- ---- the world of such a policy

-- by plain rules queue 0 is there, in order of arrival, and the policy is out of force for a wait if at all
pub record IsInLine (w : WorldState) : Type 0 where
  pub rules : w.rules ≡ Plain
  pub some : 0 < length w.cpus
  pub tracks : w.tracks_idle ≡ true
  pub ready : IsOpen w.queues 0 Fifo
  pub stall : (x : Eject) → w.ejected ≡ Some x → IsStall x

-- and the policy is of one line
abbrev pub IsKeptInLine : ℕ → State → Type 0
IsKeptInLine slice s = IsLine slice s.policy × IsInLine s.world

pub world_plain : (w : WorldState) → w.rules ≡ Plain → world.is_by_linux w ≡ false
world_plain w rules = ap (λ (r : Rules). are_linux r && is_none w.ejected) rules

-- another world with other queues
with_other : (w : WorldState) (s : QueueState) → IsOpen s 0 Fifo → IsInLine w → IsInLine (with_queues w s)
with_other w s ready h = record { rules = h.rules; some = h.some; tracks = h.tracks; ready = ready; stall = h.stall }

-- another record of a task
with_record : (w : WorldState) (t : ℕ) (x : Task) → IsInLine w → IsInLine (with_task w t x)
with_record w t x h = record { rules = h.rules; some = h.some; tracks = h.tracks; ready = h.ready; stall = h.stall }

line_homed : (w : WorldState) (t c : ℕ) → IsInLine w → IsInLine (homed w t c)
line_homed w t c h = keeps_if IsInLine (world.is_by_linux w) (with_task w t (with_home (task_at w t) c)) w (with_record w t _ h) h

line_left : (w : WorldState) (t : ℕ) → IsInLine w → IsInLine (after_leave w t)
line_left w t h = with_other w (after_remove w.queues t) (open_removed w.queues t 0 Fifo h.ready) h

line_local : (w : WorldState) (c t : ℕ) → IsInLine w → IsInLine (after_local w c t)
line_local w c t h = let s = after_push w.queues (local_on c) t Fifo in line_homed (with_queues w s) t c (with_other w s (open_same w.queues (local_on c) t 0 Fifo Fifo refl h.ready) h)

line_brought : (o : Option ℕ) (w : WorldState) (c : ℕ) → IsInLine w → IsInLine (brought o w c)
line_brought None w c h = h
line_brought (Some t) w c h = line_local (after_leave w t) c t (line_left w t h)

line_parked : (w : WorldState) (t : ℕ) → IsInLine w → IsInLine (put_parked w t)
line_parked w t h = keeps_if IsInLine (nat_lt t (length w.tasks)) _ w (record { rules = h.rules; some = h.some; tracks = h.tracks; ready = open_same w.queues parked_queue t 0 Fifo Fifo refl h.ready; stall = h.stall }) h

line_stopped : (w : WorldState) (c t : ℕ) → IsInLine w → IsInLine (after_stop w c t)
line_stopped w c t h = record { rules = h.rules; some = omega (arith, h.some, length-set {A = Option ℕ} w.cpus c None); tracks = h.tracks; ready = h.ready; stall = h.stall }

line_started : (w : WorldState) (c t : ℕ) → IsInLine w → IsInLine (started_at (Some t) w c)
line_started w c t h = record { rules = h.rules; some = omega (arith, h.some, length-set {A = Option ℕ} w.cpus c (Some t)); tracks = h.tracks; ready = open_without w.queues (front_of w.queues (local_on c)) 0 Fifo h.ready; stall = h.stall }

line_kept : (w : WorldState) (o : Option ℕ) → IsInLine w → IsInLine (after_keep w o)
line_kept w None h = h
line_kept w (Some t) h = with_record w t _ h

line_builtin : (w : WorldState) (t : ℕ) → IsInLine w → IsInLine (put_builtin w t)
line_builtin w t h = keeps_if IsInLine (nat_lt t (length w.tasks)) _ w (record { rules = h.rules; some = h.some; tracks = h.tracks; ready = open_own w.queues builtin_queue t _ 0 Fifo (omega arith) refl h.ready; stall = h.stall }) h

line_evict : (w : WorldState) (t : ℕ) → IsInLine w → IsInLine (evict w t)
line_evict w t h = keeps_if IsInLine (waits w t) (put_builtin (after_leave w t) t) w (line_builtin (after_leave w t) t (line_left w t h)) h

-- an ejection for a wait
line_stalled : (s : State) (t n : ℕ) → IsInLine s.world → IsInLine (eject s (cause.Stall t n)).state.world
line_stalled s t n h =
    kept_eject IsInLine (record { evict = λ w u l x. line_evict w u x; cut = λ w u x. with_record w u _ x }) s (cause.Stall t n)
    (record { rules = h.rules; some = h.some; tracks = refl; ready = h.ready; stall = λ x e. subst IsStall (same x e) tt })
  where
    same : (x : Eject) → Some (cause.Stall t n) ≡ Some x → cause.Stall t n ≡ x
    same x e = cc

-- ---- callbacks

-- a callback that the policy doesn't have
pub acts_not : (s : State) (b : Callback) → program_of s.policy b ≡ None → acting s b ≡ None
acts_not s b none = go s.world.ejected
  where
    go : (o : Option Eject) → unless_ejected o (program_of s.policy b) ≡ None
    go None = none
    go (Some x) = refl

-- and one that it has, while it is in force
acts : (s : State) (b : Callback) (p : VerifiedProgram) → s.world.ejected ≡ None → program_of s.policy b ≡ Some p → acting s b ≡ Some p
acts s b p force there = ap (λ (o : Option Eject). unless_ejected o (program_of s.policy b)) force ∙ there

pub out_acts : (s : State) (b : Callback) (x : Eject) → s.world.ejected ≡ Some x → acting s b ≡ None
out_acts s b x out = ap (λ (o : Option Eject). unless_ejected o (program_of s.policy b)) out

-- what a callback leaves that ends so
abbrev ending_state : State → Callback → Ending WorldState → State
ending_state s b e = (ejected_for (cause_of b e) (after_callback s.policy e)).state

called_state : (s : State) (b : Callback) (a : Args) (t c : ℕ) → (call_back s b a t c).state ≡ ending_state s b (call_ending (acting s b) b a s.maps (at_callback s.world b t c))
unfolding call_back
called_state s b a t c = refl

-- where it ends without a cause
called_so : (s : State) (b : Callback) (a : Args) (t c : ℕ) (e : Ending WorldState) → call_ending (acting s b) b a s.maps (at_callback s.world b t c) ≡ e → cause_of b e ≡ None → (call_back s b a t c).state ≡ after_callback s.policy e
called_so s b a t c e runs none = called_state s b a t c ∙ (ap (λ (x : Ending WorldState). ending_state s b x) runs ∙ ap (λ (o : Option Cause). (ejected_for o (after_callback s.policy e)).state) none)

-- one that isn't there changes nothing
pub nothing_called : (s : State) (b : Callback) (a : Args) (t c : ℕ) → acting s b ≡ None → answer_fault b (at_callback s.world b t c) 0 ≡ None → (call_back s b a t c).state ≡ with_world s (at_callback s.world b t c)
unfolding call_ending
nothing_called s b a t c none right =
    let w = at_callback s.world b t c in
    called_so s b a t c (record { answer = Some 0; maps = s.maps; outside = w }) (ap (λ (p : Option VerifiedProgram). call_ending p b a s.maps w) none) (ap (λ (o : Option Fault). as_cause o) right)

pub line_at : (w : WorldState) (b : Callback) (t c : ℕ) → IsInLine w → IsInLine (at_callback w b t c)
line_at w b t c h = record { rules = h.rules; some = h.some; tracks = h.tracks; ready = h.ready; stall = h.stall }

no_clash : (s : QueueState) → IsOpen s 0 Fifo → list_any (clashes 0 Fifo) s.entries ≡ false
no_clash s h = list_any_none (clashes 0 Fifo) s.entries (All-from_get_or (λ o. clashes 0 Fifo o ≡ false) s.entries None (λ i l. h.alike i))

-- ---- enqueue

-- the end of that queue
abbrev pub end_of : ℕ → ℕ → Insert
end_of q slice = record { queue = q; slice = slice; rank = Fifo; preempts = false; refills = false }

-- the end of the line
abbrev pub line_end : ℕ → Insert
line_end slice = end_of 0 slice

module _ (w : WorldState) (t c : ℕ) (rules : w.rules ≡ Plain) (ready : IsOpen w.queues 0 Fifo) where
  abbrev begun : WorldState
  begun = at_callback w callback.Enqueue t c

  begun_plain : world.is_by_linux begun ≡ false
  begun_plain = world_plain begun rules

  lined : (slice flags : ℕ) → nat_le flags 1 ≡ true → to_line slice begun flags ≡ line_end slice
  lined slice zero few = ap (λ b. record { queue = 0; slice = slice; rank = Fifo; preempts = false; refills = b }) begun_plain
  lined slice (suc zero) few = ap (λ b. record { queue = 0; slice = slice; rank = Fifo; preempts = false; refills = b }) begun_plain
  lined slice (suc (suc n)) few = let bad : suc (suc n) ≤ 1 = grind (arith, nat_tests, few) in absurd (omega (arith, bad))

  no_fault : (slice flags : ℕ) → nat_le flags 1 ≡ true → insert_fault begun (Some t) (line_end slice) flags ≡ None
  no_fault slice flags few = rw (eq-eqb t t refl, begun_plain, few, ready.there, no_clash w.queues ready) refl

  -- enqueue comes to an insert at the end of the line
  inserted : (slice flags : ℕ) → nat_le flags 1 ≡ true → after_insert begun (Some t) (to_line slice begun flags) flags ≡ with_insert begun (line_end slice)
  inserted slice flags few =
      ap (λ i. after_insert begun (Some t) i flags) (lined slice flags few)
      ∙ (ap (λ b. if b && (false && not (is_held begun (Some t))) then after_late begun (flags_fault begun flags) else insert_or_fault begun (insert_fault begun (Some t) (line_end slice) flags) (Some t) (line_end slice)) begun_plain
      ∙ ap (λ (o : Option Fault). insert_or_fault begun o (Some t) (line_end slice)) (no_fault slice flags few))

-- the task comes to wait at the end of the line
pub put_lined : (slice : ℕ) (s : State) (t c flags : ℕ) → nat_le flags 1 ≡ true → s.world.ejected ≡ None → IsKeptInLine slice s
    → (put s t c flags).state ≡ with_world s (after_enter (quiet (with_insert (at_callback s.world callback.Enqueue t c) (line_end slice))) t (line_end slice))
unfolding put comes_in enters
put_lined slice s t c flags few force h = ap (λ (v : State). (comes_in v t c).state) called ∙ (ap (λ b. (if b then enters_builtin v t else enters v t (enqueue_choice s.policy.callbacks.enqueue c (Some (line_end slice)))).state) in_force ∙ ap (λ (p : Option VerifiedProgram). (enters v t (enqueue_choice p c (Some (line_end slice)))).state) h.0.enqueues)
  where
    w : WorldState
    w = at_callback s.world callback.Enqueue t c

    e : Ending WorldState
    e = record { answer = Some 0; maps = s.maps; outside = with_insert w (line_end slice) }

    v : State
    v = after_callback s.policy e

    in_force : is_ejected v ≡ false
    in_force = ap (λ (o : Option Eject). is_some o) force

    called : (call_back s callback.Enqueue (task_and_number t flags) t c).state ≡ v
    called = called_so s callback.Enqueue (task_and_number t flags) t c e
        (ap (λ (p : Option VerifiedProgram). call_ending p callback.Enqueue (task_and_number t flags) s.maps w) (acts s callback.Enqueue h.0.enqueue force h.0.enqueues)
        ∙ (h.0.lines_up t flags s.maps w ∙ ap (λ (x : WorldState). record { answer = Some 0; maps = s.maps; outside = x }) (inserted s.world t c h.1.rules h.1.ready slice flags few))) refl

-- once the policy is out of force it comes to wait for the built-in scheduler
pub put_out_of_force : (s : State) (t c flags : ℕ) (x : Eject) → s.world.ejected ≡ Some x → (put s t c flags).state ≡ with_world s (put_builtin (at_callback s.world callback.Enqueue t c) t)
unfolding put comes_in enters_builtin
put_out_of_force s t c flags x out =
    let v = with_world s (at_callback s.world callback.Enqueue t c) in
    ap (λ (u : State). (comes_in u t c).state) (nothing_called s callback.Enqueue (task_and_number t flags) t c (out_acts s callback.Enqueue x out) refl)
    ∙ ap (λ b. (if b then enters_builtin v t else enters v t (enqueue_choice s.policy.callbacks.enqueue c v.world.call.insert)).state) (ap (λ (o : Option Eject). is_some o) out)

line_homed_at : (w : WorldState) (t : ℕ) (o : Option ℕ) → IsInLine w → IsInLine (homed_at w t o)
line_homed_at w t None h = h
line_homed_at w t (Some c) h = line_homed w t c h

line_entered : (w : WorldState) (q t slice : ℕ) → IsInLine w → IsInLine (after_enter w t (end_of q slice))
line_entered w q t slice h = keeps_if IsInLine (nat_lt t (length w.tasks)) _ w (line_homed_at _ t (local_cpu w q) (record { rules = h.rules; some = h.some; tracks = h.tracks; ready = open_same w.queues q t 0 Fifo Fifo refl h.ready; stall = h.stall })) h

-- a task that is put
pub line_put : (slice : ℕ) (s : State) (t c flags : ℕ) → nat_le flags 1 ≡ true → IsKeptInLine slice s → IsKeptInLine slice (put s t c flags).state
line_put slice s t c flags few h = go s.world.ejected refl
  where
    go : (o : Option Eject) → s.world.ejected ≡ o → IsKeptInLine slice (put s t c flags).state
    go None force =
        let w = quiet (with_insert (at_callback s.world callback.Enqueue t c) (line_end slice)) in
        subst (IsKeptInLine slice) (sym (put_lined slice s t c flags few force h)) (h.0, line_entered w 0 t slice (record { rules = h.1.rules; some = h.1.some; tracks = h.1.tracks; ready = h.1.ready; stall = h.1.stall }))
    go (Some x) out = subst (IsKeptInLine slice) (sym (put_out_of_force s t c flags x out)) (h.0, line_builtin (at_callback s.world callback.Enqueue t c) t (line_at s.world callback.Enqueue t c h.1))

-- ---- dispatch

-- the front of the line goes to the processor
abbrev pub served : WorldState → WorldState
served w = moved_to_local w (next_for w 0 w.call.cpu)

is_served : (w : WorldState) → can_move w 0 ≡ true → after_serving (0 ∷ []) w ≡ served w
is_served w may = go (can_move w 0) (next_for w 0 w.call.cpu) may
  where
    go : (b : Bool) (o : Option ℕ) → b ≡ true → (if b && is_none o then w else (if b then moved_to_local w o else with_fault w NoSuchQueue)) ≡ moved_to_local w o
    go true None e = refl
    go true (Some t) e = refl
    go false o e = absurd (cc)

no_cause : (w : WorldState) (o : Option ℕ) → w.call.cause ≡ None → (moved_to_local w o).call.cause ≡ None
no_cause w None none = none
no_cause w (Some t) none =
    let v = with_queues (after_leave w t) (after_push (after_leave w t).queues (local_on w.call.cpu) t Fifo) in
    keeps_if (λ (x : WorldState). x.call.cause ≡ None) (world.is_by_linux v) (with_task v t (with_home (task_at v t) w.call.cpu)) v none none

pub dispatch_lined : (slice : ℕ) (s : State) (a : Args) (c : ℕ) → s.world.ejected ≡ None → IsKeptInLine slice s
    → (call_back s callback.Dispatch a 0 c).state ≡ with_world s (quiet (served (at_callback s.world callback.Dispatch 0 c)))
dispatch_lined slice s a c force h =
    let w = at_callback s.world callback.Dispatch 0 c in
    called_so s callback.Dispatch a 0 c (record { answer = Some 0; maps = s.maps; outside = served w })
    (ap (λ (p : Option VerifiedProgram). call_ending p callback.Dispatch a s.maps w) (acts s callback.Dispatch h.0.dispatch force h.0.dispatches)
    ∙ (h.0.serves a s.maps w ∙ ap (λ (x : WorldState). record { answer = Some 0; maps = s.maps; outside = x }) (is_served w h.1.ready.there)))
    (ap (λ (o : Option Cause). or_cause o None) (no_cause w (next_for w 0 c) refl))

line_noted : (w : WorldState) (o : Option ℕ) → IsInLine w → IsInLine (quiet (moved_to_local w o))
line_noted w None h = record { rules = h.rules; some = h.some; tracks = h.tracks; ready = h.ready; stall = h.stall }
line_noted w (Some t) h = let x = line_local (after_leave w t) w.call.cpu t (line_left w t h) in record { rules = x.rules; some = x.some; tracks = x.tracks; ready = x.ready; stall = x.stall }

line_dispatched : (slice : ℕ) (s : State) (a : Args) (c : ℕ) → IsKeptInLine slice s → IsKeptInLine slice (call_back s callback.Dispatch a 0 c).state
line_dispatched slice s a c h = go s.world.ejected refl
  where
    w : WorldState
    w = at_callback s.world callback.Dispatch 0 c

    go : (o : Option Eject) → s.world.ejected ≡ o → IsKeptInLine slice (call_back s callback.Dispatch a 0 c).state
    go None force = subst (IsKeptInLine slice) (sym (dispatch_lined slice s a c force h)) (h.0, line_noted w (next_for w 0 c) (line_at s.world callback.Dispatch 0 c h.1))
    go (Some x) out = subst (IsKeptInLine slice) (sym (nothing_called s callback.Dispatch a 0 c (out_acts s callback.Dispatch x out) refl)) (h.0, line_at s.world callback.Dispatch 0 c h.1)

-- ---- the other callbacks

-- as a task leaves a processor or comes to one, such a policy hears nothing
pub nothing_told : (slice : ℕ) (s : State) (b : Callback) (a : Args) (t c : ℕ) → IsOfSwitch b → IsLine slice s.policy → (call_back s b a t c).state ≡ with_world s (at_callback s.world b t c)
nothing_told slice s b a t c is h = let x = absent b is in nothing_called s b a t c (acts_not s b x.0) x.1
  where
    absent : (b : Callback) → IsOfSwitch b → (program_of s.policy b ≡ None) × (answer_fault b (at_callback s.world b t c) 0 ≡ None)
    absent _ Leaving = (h.stops, refl)
    absent _ Coming = (h.runs, refl)

-- where there is no select_cpu, processor 0 is answered
pub zero_there : (w : WorldState) → 0 < length w.cpus → answer_fault callback.SelectCpu w 0 ≡ None
zero_there w some = let there : nat_lt 0 (length w.cpus) ≡ true = grind (arith, nat_tests, some) in rw there refl

-- after select_cpu nothing is changed, or the task is to go to a local queue
abbrev IsAsked : ℕ → State → State → ℕ → ℕ → Type 0
IsAsked slice r u t c = (r ≡ with_world u (at_callback u.world callback.SelectCpu t c)) ⊎ (r ≡ with_world u (with_insert (at_callback u.world callback.SelectCpu t c) (idle_end slice)))

asked_absent : (slice : ℕ) (u : State) (a : Args) (t c : ℕ) → acting u callback.SelectCpu ≡ None → IsInLine u.world → IsAsked slice (call_back u callback.SelectCpu a t c).state u t c
asked_absent slice u a t c none h = inl (nothing_called u callback.SelectCpu a t c none (zero_there (at_callback u.world callback.SelectCpu t c) h.some))

asked_there : (slice : ℕ) (u : State) (t c : ℕ) (q : VerifiedProgram) → ChoosesIdle slice q → acting u callback.SelectCpu ≡ Some q → (task_at u.world t).prev_cpu < length u.world.cpus → IsSorted u.world.queues → IsInLine u.world → IsAsked slice (call_back u callback.SelectCpu (task_cpu_and_0 t c) t c).state u t c
asked_there slice u t c q chooses there home sorted h = by (asked_so u.world t c plain h.tracks sorted slice d l)
  where
    w : WorldState
    w = at_callback u.world callback.SelectCpu t c

    d : ℕ
    d = default_choice w t

    l : d < length u.world.cpus
    l = chosen_there w t home

    plain : world.is_by_linux u.world ≡ false
    plain = world_plain u.world h.rules

    right : answer_fault callback.SelectCpu w d ≡ None
    right = let is : nat_lt d (length u.world.cpus) ≡ true = grind (arith, nat_tests, l) in rw is refl

    ends : call_ending (acting u callback.SelectCpu) callback.SelectCpu (task_cpu_and_0 t c) u.maps w ≡ record { answer = Some d; maps = u.maps; outside = asked_for slice w t d }
    ends = ap (λ (p : Option VerifiedProgram). call_ending p callback.SelectCpu (task_cpu_and_0 t c) u.maps w) there
        ∙ (chooses t c u.maps w ∙ ap (λ n. record { answer = Some n; maps = u.maps; outside = asked_for slice w t n }) (answered u.world t c plain h.tracks sorted))

    so : (v : WorldState) → v.call.cause ≡ None → length v.cpus ≡ length u.world.cpus → asked_for slice w t d ≡ v → (call_back u callback.SelectCpu (task_cpu_and_0 t c) t c).state ≡ with_world u (quiet v)
    so v none many is = called_so u callback.SelectCpu (task_cpu_and_0 t c) t c (record { answer = Some d; maps = u.maps; outside = v }) (ends ∙ ap (λ (x : WorldState). record { answer = Some d; maps = u.maps; outside = x }) is) (ap (λ (o : Option Cause). or_cause o (as_cause (answer_fault callback.SelectCpu v d))) none ∙ ap (λ k. as_cause (if nat_lt d k then None else Some NoSuchCpu)) many ∙ ap (λ (o : Option Fault). as_cause o) right)

    by : (asked_for slice w t d ≡ w) ⊎ (asked_for slice w t d ≡ with_insert w (idle_end slice)) → IsAsked slice (call_back u callback.SelectCpu (task_cpu_and_0 t c) t c).state u t c
    by (inl is) = inl (so w refl refl is)
    by (inr is) = inr (so (with_insert w (idle_end slice)) refl refl is)

-- a task that wakes was last on a processor that is there
woken_home : (w : WorldState) (t : ℕ) → IsSettled w → (task_at (after_wake w t) t).prev_cpu < length w.cpus
woken_home w t settled = each_written (λ k (x : Task). x.prev_cpu < length w.cpus) w.tasks t _ no_task (settled.homes t) settled.homes t

asked_lined : (slice : ℕ) (s : State) (t c : ℕ) → IsSettled s.world → IsKeptInLine slice s → let u = with_world s (after_wake s.world t) in IsAsked slice (call_back u callback.SelectCpu (task_cpu_and_0 t c) t c).state u t c
asked_lined slice s t c settled h = go s.world.ejected refl (program_of s.policy callback.SelectCpu) refl
  where
    u : State
    u = with_world s (after_wake s.world t)

    woken : IsInLine u.world
    woken = record { rules = h.1.rules; some = h.1.some; tracks = h.1.tracks; ready = h.1.ready; stall = h.1.stall }

    go : (o : Option Eject) → s.world.ejected ≡ o → (p : Option VerifiedProgram) → program_of s.policy callback.SelectCpu ≡ p → IsAsked slice (call_back u callback.SelectCpu (task_cpu_and_0 t c) t c).state u t c
    go (Some x) out p is = asked_absent slice u (task_cpu_and_0 t c) t c (out_acts u callback.SelectCpu x out) woken
    go None force None is = asked_absent slice u (task_cpu_and_0 t c) t c (acts_not u callback.SelectCpu is) woken
    go None force (Some q) is = asked_there slice u t c q (subst (λ (p : Option VerifiedProgram). MayChoose slice p) is h.0.chooses) (acts u callback.SelectCpu q force is) (woken_home s.world t settled) settled.sorted woken

-- with the task at hand
abbrev pub asking : State → ℕ → WorldState
asking s t = let w = after_wake s.world t in at_callback w callback.SelectCpu t (task_at w t).prev_cpu

-- what holds in both cases
pub by_asked : (P : State → Type 0) (slice : ℕ) (s : State) (t : ℕ) → IsSettled s.world → IsKeptInLine slice s → P (with_world s (asking s t)) → P (with_world s (with_insert (asking s t) (idle_end slice))) → P (after_asking s t)
by_asked P slice s t settled h none some = go (asked_lined slice s t (task_at (after_wake s.world t) t).prev_cpu settled h)
  where
    go : IsAsked slice (after_asking s t) (with_world s (after_wake s.world t)) t (task_at (after_wake s.world t) t).prev_cpu → P (after_asking s t)
    go (inl is) = subst P (sym is) none
    go (inr is) = subst P (sym is) some

-- and then it comes to wait
line_asked : (slice : ℕ) (s : State) (t d : ℕ) → IsSettled s.world → IsKeptInLine slice s → let r = after_asking s t in (is_by_linux r ≡ false) × IsKeptInLine slice (insert_or_put r.world.call.insert r t d).state
unfolding enters
line_asked slice s t d settled h =
    let w = asking s t in
    by_asked (λ r. (is_by_linux r ≡ false) × IsKeptInLine slice (insert_or_put r.world.call.insert r t d).state) slice s t settled h
    (world_plain w h.1.rules, line_put slice (with_world s w) t d 1 refl (h.0, record { rules = h.1.rules; some = h.1.some; tracks = h.1.tracks; ready = h.1.ready; stall = h.1.stall }))
    (world_plain w h.1.rules, (h.0, line_entered (with_insert w (idle_end slice)) (local_on d) t slice (record { rules = h.1.rules; some = h.1.some; tracks = h.1.tracks; ready = h.1.ready; stall = h.1.stall })))

-- ---- who is let go

-- a parked task is at hand again
pub line_let : (slice : ℕ) (s : State) (t : ℕ) → IsKeptInLine slice s → IsKeptInLine slice (with_world s (let_go s.world t))
line_let slice s t h = (h.0, line_left (with_task s.world t _) t (with_record s.world t _ h.1))

-- and put
pub let_go_plain : (slice : ℕ) (s : State) (t : ℕ) → IsKeptInLine slice s → (let_go_one s t).state ≡ (put (with_world s (let_go s.world t)) t (task_at s.world t).prev_cpu 0).state
unfolding let_go_one
let_go_plain slice s t h =
    let c = (task_at s.world t).prev_cpu in
    let u = with_world s (let_go s.world t) in
    let x = line_put slice u t c 0 refl (line_let slice s t h) in
    kicked_plain (put u t c 0).state (world_plain (put u t c 0).state.world x.1.rules) c

pub line_let_one : (slice : ℕ) (s : State) (t : ℕ) → IsKeptInLine slice s → IsKeptInLine slice (let_go_one s t).state
line_let_one slice s t h = subst (IsKeptInLine slice) (sym (let_go_plain slice s t h)) (line_put slice (with_world s (let_go s.world t)) t (task_at s.world t).prev_cpu 0 refl (line_let slice s t h))

one_let_go : (slice : ℕ) → IsOneLetGo (IsKeptInLine slice) (λ s o. Unit {0}) (λ s r. IsKeptInLine slice r.state)
one_let_go slice = record {
  none = λ s h. h;
  joined = λ s a r x y. y;
  passed = λ s t here. tt;
  one = λ s t here h. let x = line_let_one slice s t h in (x, x, tt);
}

-- ---- all small steps

pub keeps_line : (slice : ℕ) → IsKeptPlainly (λ t. Unit {0}) (IsKeptInLine slice)
unfolding fill park
keeps_line slice = record {
  plain = λ s h. world_plain s.world h.1.rules;
  filled = λ s q c own h. (h.0, line_brought (fill_front s.world q c) s.world c h.1);
  left = λ s q t own there h. (h.0, line_left s.world t h.1);
  removed = λ s t may h. (h.0, line_left s.world t h.1);
  parked = λ s t h. (h.0, line_parked s.world t h.1);
  dispatched = λ s a c h. line_dispatched slice s a c h;
  told = λ s b a t c is h. subst (IsKeptInLine slice) (sym (nothing_told slice s b a t c is h.0)) (h.0, line_at s.world b t c h.1);
  charged = λ s t h. (h.0, with_record s.world t _ h.1);
  caught_up = λ s t h. (h.0, record { rules = h.1.rules; some = h.1.some; tracks = h.1.tracks; ready = h.1.ready; stall = h.1.stall });
  stopped = λ s c t h. (h.0, line_stopped s.world c t h.1);
  started = λ s c t front h. (h.0, line_started s.world c t h.1);
  puts = λ s t c flags few h. line_put slice s t c flags few h;
  kept = λ s o h. (h.0, line_kept s.world o h.1);
  cycles = λ s o h. (h.0, record { rules = h.1.rules; some = h.1.some; tracks = h.1.tracks; ready = h.1.ready; stall = h.1.stall });
  woken = λ s t h. (h.0, record { rules = h.1.rules; some = h.1.some; tracks = h.1.tracks; ready = h.1.ready; stall = h.1.stall });
  asked = λ s t d settled h. line_asked slice s t d settled h;
  asleep = λ s t h. (h.0, keeps_if IsInLine (nat_lt t (length s.world.tasks)) _ s.world (record { rules = h.1.rules; some = h.1.some; tracks = h.1.tracks; ready = h.1.ready; stall = h.1.stall }) h.1);
  ticked = λ s t h. (h.0, with_record s.world t _ h.1);
  used = λ s t h. (h.0, keeps_if IsInLine (nat_lt t (length s.world.tasks)) _ s.world (record { rules = h.1.rules; some = h.1.some; tracks = h.1.tracks; ready = h.1.ready; stall = h.1.stall }) h.1);
  later = λ s h. (h.0, record { rules = h.1.rules; some = h.1.some; tracks = h.1.tracks; ready = h.1.ready; stall = h.1.stall });
  lets_go = λ s h. parked_let_go (IsKeptInLine slice) (λ s o. Unit {0}) (λ s r. IsKeptInLine slice r.state) (one_let_go slice) s tt h;
  stalled = λ s t h. (subst (λ (p : PolicyState). IsLine slice p) (sym (eject_policy s (cause.Stall t s.world.clock))) h.0, line_stalled s t s.world.clock h.1);
  reweighed = λ s g x h. (h.0, keeps_if IsInLine (is_none (weight_fault s.world.tree g x)) _ s.world (record { rules = h.1.rules; some = h.1.some; tracks = h.1.tracks; ready = h.1.ready; stall = h.1.stall }) h.1);
  weighed = λ s t x h. (h.0, keeps_if IsInLine (is_none (own_weight_fault s.world.tree t x)) _ s.world (record { rules = h.1.rules; some = h.1.some; tracks = h.1.tracks; ready = h.1.ready; stall = h.1.stall }) h.1);
}
