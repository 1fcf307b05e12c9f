-- One walk over all that a program asks of the world: what has to be shown of a property, so that a helper call, a
-- query, the run of a callback, and the moves of an ejection keep it.
use Rattle.std.proofs.Common.{◌≡◌, ℕ, zero, suc, ◌+◌, ◌<◌, ◌≤◌, Bool, true, false, ◌==◌, ◌&&◌, ◌||◌, if◌then◌else◌, nat_lt, max, List, length, map, Option, Some, None, is_some, is_none, refl, sym, ap, ◌∙◌, subst, arith}
use Rattle.std.proofs.lemmas.List.{length-set}
use Rattle.std.specs.Int.{w64, cast_signed}
use Rattle.scx_dsq.specs.Queues.{QueueState}
use Rattle.scx_dsq.specs.Calls.{after_create, after_push, after_remove}
use Rattle.scx_dsq.specs.declared.entries.Rank.{Rank}
use Rattle.scx_dsq.specs.declared.entries.Rank.TheVariants.{Fifo, Front, Vtime}
use Rattle.scx_isa_semantics.specs.declared.callbacks.Callback.{Callback}
use Rattle.scx_isa_semantics.specs.declared.host_tables.Field.{Field}
use Rattle.scx_isa_semantics.specs.declared.host_tables.Field.TheVariants.{Slice, DsqVtime}
use Rattle.scx_isa_semantics.specs.declared.host_tables.Helper.{Helper}
use Rattle.scx_isa_semantics.specs.Code.{instruction_count}
use Rattle.scx_isa_semantics.specs.Effects.{Query, Call, Load, Store}
use Rattle.scx_isa_semantics.specs.Elements.{Maps}
use Rattle.scx_isa_semantics.specs.Endings.{run_of}
use Rattle.scx_isa_semantics.proofs.EndedRuns.{run_keeps}
use Rattle.scx_isa_semantics.specs.Machine as start
use Rattle.scx_vm.specs.Programs.{VerifiedProgram}
use Rattle.scx_vm.specs.Arguments.{program_arguments, argument_of}
use Rattle.scx_vm.specs.declared.arguments.Arg.{Arg}
use Rattle.scx_vm.specs.declared.arguments.Args.{Args}
use Rattle.scx_vm.specs.Host.{answer_to, after_query}
use Rattle.scx_sched_tasks.specs.declared.task.Task.{Task}
use Rattle.scx_sched_tasks.specs.Tasks.{default_slice}
use Rattle.scx_sched_world.specs.declared.call.Insert.{Insert}
use Rattle.scx_sched_world.specs.declared.cpu_set.CpuSet.{CpuSet}
use Rattle.scx_sched_world.specs.declared.eject.Cause.{Cause}
use Rattle.scx_sched_world.specs.declared.eject.Cause.TheVariants as reason
use Rattle.scx_sched_world.specs.declared.eject.Eject.{Eject}
use Rattle.scx_sched_world.specs.declared.faults.Fault.{Fault}
use Rattle.scx_sched_world.specs.declared.faults.Fault.TheVariants.{Stuck}
use Rattle.scx_sched_world.specs.declared.kicks.Kick.{Kick}
use Rattle.scx_sched_world.specs.declared.kicks.Kick.TheVariants.{Any, IfIdle, Preempt}
use Rattle.scx_sched_world.specs.declared.notes.Note.{Note}
use Rattle.scx_sched_world.specs.declared.notes.What.{What}
use Rattle.scx_sched_world.specs.declared.timers.Alarm.{Alarm}
use Rattle.scx_sched_world.specs.CpuSets.{and_cpu}
use Rattle.scx_sched_world.specs.Ids.{policy_end, builtin_queue, local_on}
use Rattle.scx_sched_world.specs.World.{WorldState, with_queues, with_kick, with_task, task_at, running, waits, is_this, is_by_linux, here, after_claim, with_note, quiet, at_callback}
use Rattle.scx_sched_world.specs.Tasks.{with_builtin, with_slice, rank_by, given_vtime, task_after_insert, after_leave, after_enter, for_cpu, brought, next_for}
use Rattle.scx_sched_world.specs.Helpers.{first_cause, with_cause, is_dispatch, with_insert, with_move, insert_fault, after_release, insert_or_fault, moved_to_local, kicked_so, helper_after, stored_in, with_timer, alarm_in, next_random, world_functions}
use Rattle.scx_sched_world.specs.Ejecting.{eject_of, put_out, builtin_vtime, put_builtin, evict, after_evictions, after_cut, cut_task}
use Rattle.scx_sched_policy.specs.Policy.{program_of}
use Rattle.scx_sched_machine.specs.Steps.{State, Stepped, stays}
use Rattle.scx_sched_machine.specs.Steps as steps
use Rattle.scx_sched_machine.specs.Ejecting.{moves_over, eject, ejected_for}
use Rattle.scx_sched_machine.specs.Callbacks.{call_ending, acting, cause_of, after_callback, call_back, call_by_linux}
use Rattle.scx_sched_machine.proofs.Choices.{keeps_if}
use Rattle.scx_sched_machine.proofs.HelperCalls.{by_helper, IsOther, IsBehind}
use Rattle.scx_sched.proofs.Marks.{KeepsMarks, Anywhere, kept_kicked_so, kept_claim, kept_local, kept_entered}

-- ---- the run of a callback

-- what each query keeps, a run keeps
pub kept_called : (P : WorldState → Type 0) → ((w : WorldState) (q : Query) → P w → P (after_query world_functions w q)) → (p : Option VerifiedProgram) (b : Callback) (a : Args) (maps : Maps) (w : WorldState) → P w → P (call_ending p b a maps w).outside
unfolding call_ending run_of
kept_called P k None b a maps w h = h
kept_called P k (Some p) b a maps w h =
    run_keeps (answer_to world_functions) (after_query world_functions) P k b p.code (suc (instruction_count p.code)) 0 (start.start (program_arguments a) maps) w h

-- ---- apart from tasks and queues

-- what is kept whichever fault a callback has, whatever it claims, kicks and draws
abbrev pub KeepsApart : (WorldState → Type 0) → Type 0
KeepsApart P =
    (w : WorldState) (cause : Option Cause) (has_moved : Bool) (claims claimed kicked preempted : CpuSet) (random : ℕ) → P w
    → P (record w { claimed = claimed; kicked = kicked; preempted = preempted; random = random; call = record w.call { has_moved = has_moved; cause = cause; claims = claims } })

-- a timer is to run on the processor on which it is started
starts_here : (x a : Alarm) → Some x ≡ Some a → a.cpu ≡ x.cpu
starts_here x a e = ap (λ (b : Alarm). b.cpu) (sym (same e))
  where
    same : Some x ≡ Some a → x ≡ a
    same e = cc

module _ (P : WorldState → Type 0) (k : KeepsApart P) (w : WorldState) (h : P w) where
  apart_cause : (x : Cause) → P (with_cause w x)
  apart_cause x = k w (first_cause w.call.cause x) w.call.has_moved w.call.claims w.claimed w.kicked w.preempted w.random h

  apart_kick : (c : ℕ) → P (with_kick w c)
  apart_kick c = k w w.call.cause w.call.has_moved w.call.claims w.claimed (and_cpu w.kicked c) w.preempted w.random h

  apart_kicked : (c : ℕ) (x : Kick) → P (kicked_so w c x)
  apart_kicked c Any = apart_kick c
  apart_kicked c IfIdle = keeps_if P (is_none (running w c) || is_this c w.cycling) (with_kick w c) w (apart_kick c) h
  apart_kicked c Preempt = k w w.call.cause w.call.has_moved w.call.claims w.claimed (and_cpu w.kicked c) (and_cpu w.preempted c) w.random h

  apart_claim : (o : Option ℕ) → P (after_claim w o)
  apart_claim None = h
  apart_claim (Some c) = keeps_if P (is_by_linux w) _ w (k w w.call.cause w.call.has_moved (and_cpu w.call.claims c) (and_cpu w.claimed c) w.kicked w.preempted w.random h) h

  -- what is kept apart from tasks, queues and timers is kept by a helper call, where a timer that is started here or
  -- cancelled, an insert, a move and a new queue keep it
  pub kept_apart : ((n : ℕ) (o : Option Alarm) → ((a : Alarm) → o ≡ Some a → a.cpu ≡ here w) → P (with_timer w n o))
      → ((q : ℕ) → P (with_queues w (after_create w.queues q)))
      → ((t : Option ℕ) (i : Insert) (flags : ℕ) → (is_by_linux w ≡ false → IsBehind i.rank) → insert_fault w t i flags ≡ None → P (insert_or_fault w None t i))
      → ((q : ℕ) → is_dispatch w.call.callback ≡ true → q < policy_end → P (moved_to_local w (next_for w q w.call.cpu)))
      → (f : Helper) (a : List Arg) → P (helper_after w f a)
  kept_apart timed created inserted moved f a = by_helper P w (record {
    same = h;
    faulty = λ f other. apart_cause (reason.Fault f);
    ended = λ n. apart_cause (reason.Exit (cast_signed w64 n));
    created = created;
    inserted = inserted;
    late = λ linux here. k w w.call.cause true w.call.claims w.claimed w.kicked w.preempted w.random h;
    claimed = apart_claim;
    kicked = apart_kicked;
    started = λ n ns. timed n (Some (alarm_in w ns)) (λ a e. starts_here (alarm_in w ns) a e);
    cancelled = λ n. timed n None (λ a e. absurd (cc));
    drawn = k w w.call.cause w.call.has_moved w.call.claims w.claimed w.kicked w.preempted (next_random w.random) h;
    moved = moved;
  }) f a

-- ---- each small change

-- another slice, virtual time and processor of a task: a query changes no more of its record
abbrev pub KeepsTouched : (WorldState → Type 0) → Type 0
KeepsTouched P = (w : WorldState) (t slice vtime home : ℕ) → P w → P (with_task w t (record (task_at w t) { slice = slice; vtime = vtime; prev_cpu = home }))

-- a cause to put the policy out of force, though never that a callback was stuck
abbrev pub KeepsCauses : (WorldState → Type 0) → Type 0
KeepsCauses P = (w : WorldState) (x : Cause) → (x ≡ reason.Fault Stuck → ⊥) → P w → P (with_cause w x)

-- a timer that is due later, or isn't started any more
abbrev pub KeepsTimers : (WorldState → Type 0) → Type 0
KeepsTimers P = (w : WorldState) (n : ℕ) (o : Option Alarm) → ((a : Alarm) → o ≡ Some a → w.clock < a.due) → P w → P (with_timer w n o)

-- the record of a task that is put under the built-in scheduler
abbrev pub as_builtin : WorldState → ℕ → WorldState
as_builtin w t = with_task w t (with_builtin (with_slice (task_at w t) default_slice) (builtin_vtime w t))

abbrev pub KeepsBuiltin : (WorldState → Type 0) → Type 0
KeepsBuiltin P = (w : WorldState) (t : ℕ) → P w → P (as_builtin w t)

-- what each small change that a query makes keeps
pub record KeepsQueries (P : WorldState → Type 0) : Type 0 where
  pub caused : KeepsCauses P
  pub timed : KeepsTimers P
  pub touched : KeepsTouched P
  pub created : (w : WorldState) (q : ℕ) → P w → P (with_queues w (after_create w.queues q))
  pub removed : (w : WorldState) (t : ℕ) → P w → P (with_queues w (after_remove w.queues t))
  pub pushed : (w : WorldState) (q t : ℕ) (r : Rank) → P w → P (with_queues w (after_push w.queues q t r))
  -- what a callback asks for, moves and notes, sets of processors, and random numbers
  pub rest : (w : WorldState) (insert : Option Insert) (has_moved : Bool) (claims claimed kicked preempted : CpuSet) (random : ℕ) (notes : List Note) → P w
      → P (record w { claimed = claimed; kicked = kicked; preempted = preempted; random = random; notes = notes; call = record w.call { insert = insert; has_moved = has_moved; claims = claims } })

-- where queues don't matter either
pub off_queues : (P : WorldState → Type 0) → KeepsCauses P → KeepsTimers P → KeepsTouched P
    → ((w : WorldState) (queues : QueueState) (insert : Option Insert) (has_moved : Bool) (claims claimed kicked preempted : CpuSet) (random : ℕ) (notes : List Note) → P w
    → P (record w { queues = queues; claimed = claimed; kicked = kicked; preempted = preempted; random = random; notes = notes; call = record w.call { insert = insert; has_moved = has_moved; claims = claims } }))
    → KeepsQueries P
off_queues P caused timed touched rest = record {
  caused = caused;
  timed = timed;
  touched = touched;
  created = λ w q h. queued w (after_create w.queues q) h;
  removed = λ w t h. queued w (after_remove w.queues t) h;
  pushed = λ w q t r h. queued w (after_push w.queues q t r) h;
  rest = λ w i m a b c d n ns h. rest w w.queues i m a b c d n ns h;
}
  where
    queued : (w : WorldState) (s : QueueState) → P w → P (with_queues w s)
    queued w s h = rest w s w.call.insert w.call.has_moved w.call.claims w.claimed w.kicked w.preempted w.random w.notes h

-- an insert changes the slice and the virtual time of a record alone
pub given_so : (x : Task) (Q : Task → Type 0) → ((slice vtime : ℕ) → Q (record x { slice = slice; vtime = vtime })) → (i : Insert) → Q (task_after_insert x i)
given_so x Q h i = go i.rank (i.slice == 0) (i.refills && (x.slice == 0))
  where
    go : (r : Rank) (b c : Bool) → Q (given_vtime (if b then (if c then with_slice x 1 else x) else with_slice x i.slice) r)
    go Fifo true true = h 1 x.vtime
    go Fifo true false = h x.slice x.vtime
    go Fifo false c = h i.slice x.vtime
    go Front true true = h 1 x.vtime
    go Front true false = h x.slice x.vtime
    go Front false c = h i.slice x.vtime
    go (Vtime v) true true = h 1 v
    go (Vtime v) true false = h x.slice v
    go (Vtime v) false c = h i.slice v

-- so does a store of a program
pub stored_so : (x : Task) (Q : Task → Type 0) → ((slice vtime : ℕ) → Q (record x { slice = slice; vtime = vtime })) → (f : Field) (n : ℕ) → Q (stored_in x f n)
stored_so x Q h Slice n = h n x.vtime
stored_so x Q h DsqVtime n = h x.slice n
stored_so x Q h f n = h x.slice x.vtime

-- the fault of a helper call is never that a callback was stuck
never_stuck : (f : Fault) → IsOther (Some f) → reason.Fault f ≡ reason.Fault Stuck → ⊥
never_stuck f other e = other (same e)
  where
    same : reason.Fault f ≡ reason.Fault Stuck → Some f ≡ Some Stuck
    same x = cc

-- a timer that is started is due later
starts_later : (w : WorldState) (ns : ℕ) (a : Alarm) → Some (alarm_in w ns) ≡ Some a → w.clock < a.due
starts_later w ns a e = subst (λ (b : Alarm). w.clock < b.due) (same (alarm_in w ns) a e) (soon w.clock _)
  where
    same : (a b : Alarm) → Some a ≡ Some b → a ≡ b
    same a b e = cc

    soon : (now x : ℕ) → now < now + max 1 x
    soon now x = omega arith

module _ (P : WorldState → Type 0) (k : KeepsQueries P) where
  -- as the processor of a task, its slice and sets of processors change
  pub kept_marks : KeepsMarks Anywhere P
  kept_marks = record {
    there = λ w c h l. tt;
    homed = λ w t c l h. k.touched w t (task_at w t).slice (task_at w t).vtime c h;
    sliced = λ w t n h. k.touched w t n (task_at w t).vtime (task_at w t).prev_cpu h;
    sets = λ w a b c d h. k.rest w w.call.insert w.call.has_moved d a b c w.random w.notes h;
  }

  -- as a task comes to wait
  pub kept_enter : (w : WorldState) (t : ℕ) (i : Insert) → P w → P (after_enter w t i)
  kept_enter w t i h =
      let x = task_after_insert (task_at w t) i in
      kept_entered Anywhere P kept_marks w t i (k.pushed (with_task w t x) i.queue t (rank_by w i.rank) (given_so (task_at w t) (λ x. P (with_task w t x)) (λ s v. k.touched w t s v (task_at w t).prev_cpu h) i)) h

  kept_noted : (w : WorldState) (x : What) → P w → P (with_note (with_move w) x)
  kept_noted w x h = k.rest w w.call.insert true w.call.claims w.claimed w.kicked w.preempted w.random _ h

  kept_release : (w : WorldState) (t : Option ℕ) (i : Insert) → P w → P (after_release w t i)
  kept_release w None i h = h
  kept_release w (Some t) i h = kept_noted (after_enter (after_leave w t) t i) _ (kept_enter (after_leave w t) t i (k.removed w t h))

  kept_insert : (w : WorldState) (t : Option ℕ) (i : Insert) → P w → P (insert_or_fault w None t i)
  kept_insert w t i h =
      keeps_if P (is_dispatch w.call.callback) (after_release w t (for_cpu w.call.cpu i)) (with_insert w i) (kept_release w t (for_cpu w.call.cpu i) h)
      (k.rest w (Some i) w.call.has_moved w.call.claims w.claimed w.kicked w.preempted w.random w.notes h)

  -- as a task goes from its queue to a local one
  pub kept_brought : (o : Option ℕ) (w : WorldState) (c : ℕ) → P w → P (brought o w c)
  kept_brought None w c h = h
  kept_brought (Some t) w c h = kept_local Anywhere P kept_marks (after_leave w t) c t tt (k.pushed (after_leave w t) (local_on c) t Fifo (k.removed w t h))

  kept_move : (w : WorldState) (o : Option ℕ) → P w → P (moved_to_local w o)
  kept_move w None h = h
  kept_move w (Some t) h = kept_noted (brought (Some t) w w.call.cpu) _ (kept_brought (Some t) w w.call.cpu h)

  -- whichever helper is called
  pub kept_helper : (w : WorldState) (f : Helper) (a : List Arg) → P w → P (helper_after w f a)
  kept_helper w f a h = by_helper P w (record {
    same = h;
    faulty = λ f other. k.caused w (reason.Fault f) (never_stuck f other) h;
    ended = λ n. k.caused w (reason.Exit (cast_signed w64 n)) (λ e. absurd (cc)) h;
    created = λ q. k.created w q h;
    inserted = λ t i flags back none. kept_insert w t i h;
    late = λ linux here. k.rest w w.call.insert true w.call.claims w.claimed w.kicked w.preempted w.random w.notes h;
    claimed = λ o. kept_claim Anywhere P kept_marks w o h;
    kicked = λ c x. kept_kicked_so Anywhere P kept_marks w c x h;
    started = λ n ns. k.timed w n (Some (alarm_in w ns)) (starts_later w ns) h;
    cancelled = λ n. k.timed w n None (λ a e. absurd (cc)) h;
    drawn = k.rest w w.call.insert w.call.has_moved w.call.claims w.claimed w.kicked w.preempted (next_random w.random) w.notes h;
    moved = λ q here low. kept_move w (next_for w q w.call.cpu) h;
  }) f a

  -- whatever a program asks
  pub kept_query : (w : WorldState) (q : Query) → P w → P (after_query world_functions w q)
  kept_query w (Call f a) h = kept_helper w f (map argument_of a) h
  kept_query w (Load t f) h = h
  kept_query w (Store t f n) h = stored_so (task_at w t.0) (λ x. P (with_task w t.0 x)) (λ s v. k.touched w t.0 s v (task_at w t.0).prev_cpu h) f n

-- ---- an ejection

-- what is kept as a task that waits goes over, and as the slice of one that runs is cut
pub record KeepsEjecting (P : WorldState → Type 0) : Type 0 where
  pub evict : (w : WorldState) (t : ℕ) → t < length w.tasks → P w → P (evict w t)
  pub cut : (w : WorldState) (t : ℕ) → P w → P (cut_task (Some t) w)

many_put_builtin : (w : WorldState) (t : ℕ) → length (put_builtin w t).tasks ≡ length w.tasks
many_put_builtin w t = keeps_if (λ (v : WorldState). length v.tasks ≡ length w.tasks) (nat_lt t (length w.tasks)) _ w (length-set w.tasks t _) refl

-- there are as many tasks as before
many_evictions : (j : ℕ) (w : WorldState) → length (after_evictions j w).tasks ≡ length w.tasks
many_evictions zero w = refl
many_evictions (suc j) w =
    let v = after_evictions j w in
    let many = many_evictions j w in
    keeps_if (λ (u : WorldState). length u.tasks ≡ length w.tasks) (waits v j) (put_builtin (after_leave v j) j) v (many_put_builtin (after_leave v j) j ∙ many) many

module _ (P : WorldState → Type 0) (k : KeepsEjecting P) where
  kept_evictions : (j : ℕ) (w : WorldState) → j ≤ length w.tasks → P w → P (after_evictions j w)
  kept_evictions zero w l h = h
  kept_evictions (suc j) w l h = k.evict (after_evictions j w) j (omega (arith, l, many_evictions j w)) (kept_evictions j w (omega (arith, l)) h)

  kept_cut : (o : Option ℕ) (w : WorldState) → P w → P (cut_task o w)
  kept_cut None w h = h
  kept_cut (Some t) w h = k.cut w t h

  kept_cuts : (j : ℕ) (w : WorldState) → P w → P (after_cut j w)
  kept_cuts zero w h = h
  kept_cuts (suc j) w h = kept_cut (running (after_cut j w) j) (after_cut j w) (kept_cuts j w h)

  -- once the policy is out of force, the rest of its ejection
  pub kept_eject : (s : State) (x : Eject) → P (put_out s.world x) → P (eject s x).state.world
  unfolding eject moves_over
  kept_eject s x h =
      let w = put_out s.world x in
      let v = after_evictions (length w.tasks) w in
      kept_cuts (length v.cpus) v (kept_evictions (length w.tasks) w (omega arith) h)

-- where each small change of a query is kept
module _ (P : WorldState → Type 0) (k : KeepsQueries P) (b : KeepsBuiltin P) where
  -- as a task is put under the built-in scheduler
  pub kept_put_builtin : (w : WorldState) (t : ℕ) → P w → P (put_builtin w t)
  kept_put_builtin w t h = keeps_if P (nat_lt t (length w.tasks)) _ w (k.pushed (as_builtin w t) builtin_queue t (Vtime (builtin_vtime w t)) (b w t h)) h

  -- as it goes over, if it waits
  pub kept_evict : (w : WorldState) (t : ℕ) → P w → P (evict w t)
  kept_evict w t h = keeps_if P (waits w t) (put_builtin (after_leave w t) t) w (kept_put_builtin (after_leave w t) t (k.removed w t h)) h

  pub kept_ejecting : KeepsEjecting P
  kept_ejecting = record { evict = λ w t l h. kept_evict w t h; cut = λ w t h. k.touched w t _ (task_at w t).vtime (task_at w t).prev_cpu h }

-- ---- a callback

-- what is kept as a callback that has begun runs, its notes are handed on, and the policy is ejected
pub record KeepsCallbacks (P : WorldState → Type 0) : Type 0 where
  pub query : (w : WorldState) (q : Query) → P w → P (after_query world_functions w q)
  pub quiet : (w : WorldState) → P w → P (quiet w)
  pub out : (w : WorldState) (x : Eject) → P w → P (put_out w x)
  pub ejecting : KeepsEjecting P

module _ (P : WorldState → Type 0) (k : KeepsCallbacks P) where
  pub kept_ejected_for : (o : Option Cause) (s : State) → P s.world → P (ejected_for o s).state.world
  kept_ejected_for None s h = h
  kept_ejected_for (Some x) s h = let y = eject_of x s.world.clock in kept_eject P k.ejecting s y (k.out s.world y h)

  -- a callback
  pub kept_call_back : (s : State) (b : Callback) (a : Args) (t c : ℕ) → P (at_callback s.world b t c) → P (call_back s b a t c).state.world
  unfolding call_back
  kept_call_back s b a t c h =
      let w = at_callback s.world b t c in
      let e = call_ending (acting s b) b a s.maps w in
      kept_ejected_for (cause_of b e) (after_callback s.policy e) (k.quiet e.outside (kept_called P k.query (acting s b) b a s.maps w h))

  -- one that Linux rules call more
  pub kept_call_by_linux : (s : State) (b : Callback) (a : Args) (t c : ℕ) → P (at_callback s.world b t c) → P s.world → P (call_by_linux s b a t c).state.world
  unfolding call_by_linux
  kept_call_by_linux s b a t c begun h = keeps_if (λ (r : Stepped). P r.state.world) (steps.is_by_linux s && is_some (program_of s.policy b)) (call_back s b a t c) (stays s) (kept_call_back s b a t c begun) h
