-- Tasks come to queues, are parked, are moved by dispatch, stop and run: the notes tell what is so of each
-- task afterwards. Each is where it should be all the while; no more is asked.
use Rattle.std.proofs.Common.{◌≡◌, ℕ, ◌<◌, Bool, true, false, ◌==◌, nat_lt, ◌⊎◌, inl, inr, if◌then◌else◌, List, length, Option, Some, None, refl, sym, ap, ◌∙◌, subst}
use Rattle.std.proofs.lemmas.Bool.{cases_eq}
use Rattle.std.proofs.lemmas.List.{get_or-set_other}
use Rattle.scx_dsq.specs.declared.entries.Rank.TheVariants.{Fifo, Vtime}
use Rattle.scx_dsq.specs.Calls.{after_push}
use Rattle.scx_isa_semantics.specs.declared.callbacks.Callback.{Callback}
use Rattle.scx_isa_semantics.specs.declared.callbacks.Callback.TheVariants as callback
use Rattle.scx_vm.specs.declared.arguments.Args.{Args}
use Rattle.scx_sched_tasks.specs.declared.task.Task.{Task}
use Rattle.scx_sched_tasks.specs.Tasks.{no_task}
use Rattle.scx_sched_world.specs.declared.call.Insert.{Insert}
use Rattle.scx_sched_world.specs.declared.notes.Note.{Note}
use Rattle.scx_sched_world.specs.Ids.{builtin_queue, parked_queue}
use Rattle.scx_sched_world.specs.World.{WorldState, with_queues, with_task, task_at, or_this}
use Rattle.scx_sched_world.specs.Tasks.{with_since, rank_by, task_after_insert, put_parked, after_enter}
use Rattle.scx_sched_world.specs.Ejecting.{builtin_vtime, put_builtin, after_catch_up, after_charge}
use Rattle.scx_sched_machine.specs.Steps.{State, Stepped, stays, one_after_other, is_ejected}
use Rattle.scx_sched_machine.specs.Callbacks.{call_back, call_by_linux, task_and_number}
use Rattle.scx_sched_machine.specs.Custody.{tells_dequeued, tells_dequeued_if}
use Rattle.scx_sched_machine.specs.Put.{enters, enqueue_choice, enters_builtin, comes_in, put}
use Rattle.scx_sched_machine.specs.Parking.{park}
use Rattle.scx_sched_machine.proofs.Choices.{keeps_if}
use Rattle.scx_sched.specs.Kept.{IsKeptBySteps, IsWanted}
use Rattle.scx_sched.specs.Once.{IsSound}
use Rattle.scx_sched.proofs.Blaming.{honest_call_back}
use Rattle.scx_sched.proofs.Marks.{Anywhere, kept_put}
use Rattle.scx_sched.proofs.Parking.{sound_put_parked, sound_leaves}
use Rattle.scx_sched.proofs.Skeleton.{is_wanted, keeps_call_back, keeps_call_by_linux}
use Rattle.scx_sched.proofs.Sound.{inside, sound_query, sound_begun, sound_quiet, sound_cycling, sound_ended, sound_moves, sound_timed, sound_sets, sound_waker, sound_marks, sound_wants, sound_entered, sound_filled, sound_stopped, sound_started, sound_ran, sound_kept, sound_asleep, sound_put_out, sound_evict, sound_cut, sound_put_builtin, sound_overtaken, sound_charged}
use Rattle.scx_sched.proofs.Waiting.{since_set, given_since}
use Rattle.scx_laws.specs.Telling.{Told, tell, told}
use Rattle.scx_sched.proofs.Stepwise.{IsSwitch, Silent, Called}
use Rattle.scx_laws.proofs.Noted.{told_append, same_told, tell_task, IsAs, as_marks, IsReady, ready_tell, comes}
use Rattle.scx_laws.proofs.NotedCalls.{IsTold, TellsOf, told_nothing, told_joined, put_as, told_call_back, told_call_by_linux}

-- each small step keeps each task where it should be
pub sound_steps : (n : ℕ) → IsKeptBySteps n (λ m hand on w. IsSound hand on n w)
sound_steps n = record {
  more = λ m hand on w h. h;
  known = λ m hand on w h. h.tasks;
  query = λ m hand on w q h. sound_query hand on n w q h;
  begun = λ m hand on w b t c l h. sound_begun hand on n w b t c l h;
  quiet = λ m hand on w h. sound_quiet hand on n w h;
  cycling = λ m hand on w o h. sound_cycling hand on n w o h;
  ended = λ m hand on w h. sound_ended hand on n w h;
  moved = λ m hand on w b h. sound_moves hand on n w b h;
  cancelled = λ m hand on w t h. sound_timed hand on n w t None (λ a e. absurd (cc)) h;
  sets = λ m hand on w a b c d o waker h. sound_sets hand on n w a b c d o waker h;
  wakes = λ m hand on w o l h. sound_waker hand on n w o l h;
  homed = λ m hand on w t c l may h. (sound_marks hand on n).homed w t c l h;
  sliced = λ m hand on w t k h. (sound_marks hand on n).sliced w t k h;
  wants = λ m hand on w c l calm may h. sound_wants hand on n w c l calm h;
  entered = λ m on w t i l x may h. sound_entered on n w t i l x h;
  filled = λ m on w q c apart l h. sound_filled on n w q c apart l h;
  stopped = λ m on w c t l within runs h. sound_stopped on n w c t l within runs h;
  started = λ m on w c t l free front may h. sound_started on n w c t l free front h;
  ran = λ m on w c t l free here may h. sound_ran on n w c t l free here h;
  put_parked = λ m on w t l may-not h. sound_put_parked on n w t l h;
  left = λ m on w q t apart there h. sound_leaves on n w q t there apart h;
  kept = λ m on w t h. sound_kept on n w t h;
  asleep = λ m on w t l h. sound_asleep on n w t l h;
  put_out = λ m hand on w x h. sound_put_out hand on n w x h;
  evict = λ m hand on w t l h. sound_evict hand on n w t l h;
  cut = λ m hand on w t h. sound_cut hand on n w t h;
  put_builtin = λ m on w t l h. sound_put_builtin on n w t l h;
  overtaken = λ m hand on w t h. sound_overtaken hand on n w t h;
  charged = λ m hand on w t out h. sound_charged hand on n w t h;
}

module _ (u n : ℕ) where
  -- a step leaves each task where it should be, with the same one at hand, and its notes tell of this task
  abbrev pub Goes : Option ℕ → List (Option ℕ) → State → Stepped → Type 0
  Goes hand on s r = IsSound hand on n r.state.world × TellsOf u hand s r

  -- a step brings the task at hand to a queue, and its notes tell of this task
  abbrev pub Puts : List (Option ℕ) → ℕ → State → Stepped → Type 0
  Puts on t s r = IsSound None on n r.state.world × ((x : Told) → IsReady u t s.world x → told r.notes u x ≡ tell r.state.world u)

  -- where no task is at hand, no more is told than that
  pub told_plainly : (w v : WorldState) (ns : List Note) → told ns u (tell w u) ≡ tell v u → IsTold u None w v ns
  told_plainly w v ns e = record { tells = e; silent = λ f x. absurd (cc) }

  -- nor of the one that comes to a queue
  pub puts_told : (on : List (Option ℕ)) (t : ℕ) (s : State) (r : Stepped) → IsSound (Some t) on n s.world → Puts on t s r → TellsOf u None s r
  puts_told on t s r h p = told_plainly s.world r.state.world r.notes (p.1 (tell s.world u) (ready_tell on n s.world u t h))

  module _ (hand : Option ℕ) (on : List (Option ℕ)) where
    -- a step in which nothing happens
    pub goes_stays : (s : State) → IsSound hand on n s.world → Goes hand on s (stays s)
    goes_stays s h = (h, told_nothing u hand s.world s.world refl)

    -- one step after another
    pub goes_joined : (s : State) (a r : Stepped) → Goes hand on s a → Goes hand on a.state r → Goes hand on s (one_after_other a r)
    goes_joined s a r x y = (y.0, told_joined u hand s a r x.1 y.1)

    -- ---- a callback

    -- a callback on a CPU that is there
    pub goes_call_back : (s : State) (b : Callback) (a : Args) (t c : ℕ) → c < length on → IsSound hand on n s.world → Goes hand on s (call_back s b a t c)
    goes_call_back s b a t c l h = (keeps_call_back n (λ m hand on w. IsSound hand on n w) (sound_steps n) 0 hand on s b a t c l h, told_call_back u hand on n s b a t c l h)

    -- one that Linux rules call more
    pub goes_call_by_linux : (s : State) (b : Callback) (a : Args) (t c : ℕ) → c < length on → IsSound hand on n s.world → Goes hand on s (call_by_linux s b a t c)
    goes_call_by_linux s b a t c l h = (keeps_call_by_linux n (λ m hand on w. IsSound hand on n w) (sound_steps n) 0 hand on s b a t c l h, told_call_by_linux u hand on n s b a t c l h)

    -- a task has left its CPU, or come to one
    goes_switch : (s : State) (t c : ℕ) (out : WorldState) → c < length on → IsSound hand on n out → tell out u ≡ tell s.world u → IsSound hand on n s.world → (r : Stepped) → IsSwitch s t c out r → Goes hand on s r
    goes_switch s t c out l sound same h _ (Silent e) = (sound, told_nothing u hand s.world out same)
    goes_switch s t c out l sound same h _ (Called b a force is) = goes_call_back s b a t c l h

    pub goes_stops : (s : State) (t c : ℕ) → c < length on → IsSound hand on n s.world → (r : Stepped) → IsSwitch s t c (after_charge s.world t) r → Goes hand on s r
    goes_stops s t c l h r is = goes_switch s t c (after_charge s.world t) l (sound_charged hand on n s.world t h) (tell_task s.world t u _ refl) h r is

    pub goes_runs : (s : State) (t c : ℕ) → c < length on → IsSound hand on n s.world → (r : Stepped) → IsSwitch s t c (after_catch_up s.world t) r → Goes hand on s r
    goes_runs s t c l h r is = goes_switch s t c (after_catch_up s.world t) l (sound_overtaken hand on n s.world t h) refl h r is

    -- the policy hears that a task left its custody, if it did
    pub goes_tells_dequeued : (b : Bool) (s : State) (t c flags : ℕ) → c < length on → IsSound hand on n s.world → Goes hand on s (tells_dequeued_if b s t c flags)
    unfolding tells_dequeued
    goes_tells_dequeued true s t c flags l h = goes_call_by_linux s _ _ t c l h
    goes_tells_dequeued false s t c flags l h = goes_stays s h

  -- ---- the task at hand comes to a queue

  module _ (on : List (Option ℕ)) (t : ℕ) where
    -- a callback before changes nothing of it
    pub ready_on : (s : State) (r : Stepped) (x : Told) → r.state.world.clock ≡ s.world.clock → TellsOf u (Some t) s r → IsReady u t s.world x → IsReady u t r.state.world (told r.notes u x)
    ready_on s r x clock h ready = go (cases_eq u t)
      where
        w : WorldState
        w = s.world

        v : WorldState
        v = r.state.world

        go : (u ≡ t) ⊎ (u ≡ t → ⊥) → IsReady u t v (told r.notes u x)
        go (inl e) = subst (λ y. IsReady u t v y) (sym (h.silent (ap Some (sym e)) x)) (record { runnable = ready.runnable ∙ ap (λ (y : Told). y.runnable) same; cpu = ready.cpu ∙ ap (λ (y : Told). y.cpu) same; queue = λ d. absurd (d e); since = λ d. absurd (d e); waits = λ f. ap (λ k. or_this x.since (Some k)) clock ∙ (ready.waits f ∙ ap (λ (y : Told). y.since) same) })
          where
            same : tell w u ≡ tell v u
            same = sym (h.silent (ap Some (sym e)) (tell w u)) ∙ h.tells
        go (inr d) = record { runnable = ap (λ (y : Told). y.runnable) same; cpu = ap (λ (y : Told). y.cpu) same; queue = λ f. ap (λ (y : Told). y.queue) same; since = λ f. ap (λ (y : Told). y.since) same; waits = λ f. absurd (d f) }
          where
            same : told r.notes u x ≡ tell v u
            same = ap (λ y. told r.notes u y) (same_told x (tell w u) ready.runnable ready.cpu (ready.queue d) (ready.since d)) ∙ h.tells

    -- such a step after one that leaves it at hand
    pub puts_after : (s : State) (a r : Stepped) → a.state.world.clock ≡ s.world.clock → Goes (Some t) on s a → Puts on t a.state r → Puts on t s (one_after_other a r)
    puts_after s a r clock x p = (p.0, λ y ready. told_append a.notes r.notes u y ∙ p.1 (told a.notes u y) (ready_on s a y clock x.1 ready))

    -- it goes to the queue of an insert
    pub puts_enters : (s : State) (i : Insert) → t < n → IsWanted (length on) s.world i → IsSound (Some t) on n s.world → Puts on t s (enters s t i)
    unfolding enters
    puts_enters s i within wanted h = (z, λ x ready. comes on n w v t i.queue u (rank_by w i.rank) x within same.queues same.cpus same.active (λ k f. same.since k) h z ready)
      where
        w : WorldState
        w = s.world

        v : WorldState
        v = after_enter w t i

        z : IsSound None on n v
        z = sound_entered on n w t i within wanted h

        same : IsAs w (after_push w.queues i.queue t (rank_by w i.rank)) v
        same =
            kept_put Anywhere (IsAs w (after_push w.queues i.queue t (rank_by w i.rank))) (as_marks w (after_push w.queues i.queue t (rank_by w i.rank))) w t i (inside n w t within h.tasks)
            (record { queues = refl; cpus = refl; active = refl; since = λ k. since_set w.tasks t (task_after_insert (task_at w t) i) (given_since (task_at w t) i) k; notes = refl })

    puts_builtin : (s : State) → t < n → IsSound (Some t) on n s.world → Puts on t s (enters_builtin s t)
    unfolding enters_builtin
    puts_builtin s within h =
        let w = s.world in
        let z = sound_put_builtin on n w t within h in
        let same = put_as u None on n w t (inside n w t within h.tasks) in
        (z, λ x ready. comes on n w (put_builtin w t) t builtin_queue u (Vtime (builtin_vtime w t)) x within same.queues same.cpus same.active (λ k f. same.since k) h z ready)

    -- it is parked
    pub puts_park : (s : State) → t < n → IsSound (Some t) on n s.world → Puts on t s (park s t)
    unfolding park
    puts_park s within h = (z, λ x ready. comes on n w (put_parked w t) t parked_queue u Fifo x within (ap (λ (v : WorldState). v.queues) is) (ap (λ (v : WorldState). v.cpus) is) (ap (λ (v : WorldState). v.tree.active) is) since h z ready)
      where
        w : WorldState
        w = s.world

        z : IsSound None on n (put_parked w t)
        z = sound_put_parked on n w t within h

        known : nat_lt t (length w.tasks) ≡ true
        known = inside n w t within h.tasks

        parked : WorldState
        parked = with_queues (with_task w t (with_since (task_at w t) None)) (after_push w.queues parked_queue t Fifo)

        is : put_parked w t ≡ parked
        is = ap (λ b. if b then parked else w) known

        since : (k : ℕ) → (k ≡ t → (parked_queue == parked_queue) ≡ false) → (task_at (put_parked w t) k).since ≡ (task_at w k).since
        since k apart = ap (λ (v : WorldState). (task_at v k).since) is ∙ ap (λ (y : Task). y.since) (get_or-set_other w.tasks t k (with_since (task_at w t) None) no_task (λ e. let bad : true ≡ false = apart e in absurd (cc)))

    puts_comes_in : (s : State) (c : ℕ) → t < n → c < length on → IsSound (Some t) on n s.world → Puts on t s (comes_in s t c)
    unfolding comes_in
    puts_comes_in s c within l h =
        let p = s.policy.callbacks.enqueue in
        let o = s.world.call.insert in
        keeps_if (Puts on t s) (is_ejected s) (enters_builtin s t) (enters s t (enqueue_choice p c o)) (puts_builtin s within h) (puts_enters s (enqueue_choice p c o) within (is_wanted (length on) s.world p c o l refl) h)

    -- a task that is put
    pub puts_put : (s : State) (c flags : ℕ) → t < n → c < length on → IsSound (Some t) on n s.world → Puts on t s (put s t c flags)
    unfolding put
    puts_put s c flags within l h =
        let r = call_back s callback.Enqueue (task_and_number t flags) t c in
        let x = goes_call_back (Some t) on s callback.Enqueue (task_and_number t flags) t c l h in
        puts_after s r (comes_in r.state t c) (honest_call_back s callback.Enqueue (task_and_number t flags) t c (λ e. absurd (cc))).clock x (puts_comes_in r.state c within l x.0)
