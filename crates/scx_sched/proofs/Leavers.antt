-- Who leaves a policy's custody in dispatch waits in GLOBAL or for a processor until dispatch has ended, and still as
-- the policy hears of it.
use Rattle.std.proofs.Common.{◌≡◌, ℕ, ◌<◌, Bool, true, false, ◌==◌, ◌&&◌, nat_lt, if◌then◌else◌, inl, inr, cond, List, [], ◌∷◌, ◌++◌, length, get_or, map, Option, Some, None, is_some, is_none, option_map, refl, sym, ap, ◌∙◌, subst, arith}
use Rattle.std.proofs.lemmas.Bool.{ne_eqb, eqb-true}
use Rattle.std.proofs.lemmas.Bool.Decides.{nat_tests}
use Rattle.scx_dsq.specs.declared.entries.Entry.{Entry}
use Rattle.scx_dsq.specs.declared.entries.Rank.{Rank}
use Rattle.scx_dsq.specs.declared.entries.Rank.TheVariants.{Fifo}
use Rattle.scx_dsq.specs.Queues.{Entries, QueueState, exists, task_count, entry_of, queue_of, is_in}
use Rattle.scx_dsq.specs.Calls.{create_refusal, with_queue, after_create, after_push, after_remove}
use Rattle.scx_dsq.proofs.Facts.{tasks_removed}
use Rattle.scx_isa_semantics.specs.declared.callbacks.Callback.{Callback}
use Rattle.scx_isa_semantics.specs.declared.callbacks.Callback.TheVariants as callback
use Rattle.scx_isa_semantics.specs.declared.host_tables.Helper.{Helper}
use Rattle.scx_isa_semantics.specs.Effects.{Query, Call, Load, Store}
use Rattle.scx_isa_semantics.specs.Elements.{Maps}
use Rattle.scx_isa_semantics.specs.Endings.{Ending}
use Rattle.scx_vm.specs.Programs.{VerifiedProgram}
use Rattle.scx_vm.specs.Arguments.{argument_of}
use Rattle.scx_vm.specs.declared.arguments.Arg.{Arg}
use Rattle.scx_vm.specs.declared.arguments.Args.{Args}
use Rattle.scx_vm.specs.Host.{after_query}
use Rattle.scx_sched_world.specs.declared.call.Insert.{Insert}
use Rattle.scx_sched_world.specs.declared.eject.Cause.{Cause}
use Rattle.scx_sched_world.specs.declared.faults.Fault.TheVariants.{NoSuchQueue, NoSuchCpu}
use Rattle.scx_sched_world.specs.declared.notes.Note.{Note}
use Rattle.scx_sched_world.specs.declared.notes.What.TheVariants as note
use Rattle.scx_sched_world.specs.Ids.{policy_end, global, local, held_queue, local_on}
use Rattle.scx_sched_world.specs.World.{WorldState, are_linux, with_queues, at_callback}
use Rattle.scx_sched_world.specs.Ejecting.{eject_of}
use Rattle.scx_sched_world.specs.Tasks.{rank_by, after_local, after_leave, after_enter, queue_for, for_cpu, next_for}
use Rattle.scx_sched_world.specs.Helpers.{is_dispatch, queue_fault, insert_fault, after_release, insert_or_fault, with_insert, is_held, helper_after, world_functions, moved_to_local}
use Rattle.scx_sched_policy.specs.Policy.{program_of}
use Rattle.scx_sched_machine.specs.Steps.{State, CallMade, Stepped, stays, one_after_other, is_by_linux}
use Rattle.scx_sched_machine.specs.Ejecting.{eject, ejected_for}
use Rattle.scx_sched_machine.specs.Callbacks.{call_ending, calls_of, acting, after_callback, cause_of, call_back, call_by_linux, noted_by, task_and_number, cpu_and_task}
use Rattle.scx_sched_machine.specs.Custody.{tells_dequeued, leaver, tells_of, tells_each, moved_as, hears_dequeue, tells_left}
use Rattle.scx_sched_machine.specs.Cycle.{told_of, dispatch_called}
use Rattle.scx_sched_machine.proofs.Choices.{keeps_if}
use Rattle.scx_sched.specs.Once.{IsSound}
use Rattle.scx_sched.specs.Ranges.{IsFine}
use Rattle.scx_sched.specs.Leavers.{TakesToRun, WaitsToRun, TellsOfLeaver, LeaversWait}
use Rattle.scx_sched.proofs.Marks.{KeepsMarks, Anywhere, kept_local, kept_put}
use Rattle.scx_sched.proofs.Waiting.{pushed_here, pushed_other, removed_other}
use Rattle.scx_sched.proofs.Sound.{IsFit, is_fit, held_in_dispatch, held_waits, inside, sound_query, sound_begun, place_known}
use Rattle.scx_sched.proofs.Pushes.{takes_held, takes_queued}
use Rattle.scx_sched.proofs.Unchanged.{eject_sets}
use Rattle.scx_sched.proofs.Blaming.{eject_calls}
use Rattle.scx_sched.proofs.Ready.{calm_called}
use Rattle.scx_sched.proofs.Seen.{next_seen}
use Rattle.scx_sched.proofs.Queries.{kept_called, kept_apart}

-- ---- queues out of custody

-- a queue that a callback may name, and that isn't the policy's
out_of_custody : (w : WorldState) (q c : ℕ) → queue_fault w q ≡ None → nat_lt (queue_for c q) policy_end ≡ false → TakesToRun (queue_for c q)
out_of_custody w q c e out = go (nat_lt q policy_end) (exists w.queues q) (q == global) (q == local) (nat_lt q (local_on 0)) (nat_lt q (local_on (length w.cpus))) refl refl refl refl e
  where
    go : (a b g l m k : Bool) → nat_lt q policy_end ≡ a → (q == global) ≡ g → (q == local) ≡ l → nat_lt q (local_on 0) ≡ m
        → (if a then (if b then None else Some NoSuchQueue) else (if g then None else (if l then None else (if m then Some NoSuchQueue else (if k then None else (if nat_lt q (local_on 0x1_0000_0000) then Some NoSuchCpu else Some NoSuchQueue)))))) ≡ None
        → TakesToRun (queue_for c q)
    go true b g l m k ea eg el em e =
        let low : q < policy_end = grind (arith, nat_tests, ea) in
        let other : (q == local) ≡ false = ne_eqb q local (λ x. omega (arith, x, low)) in
        let bad : true ≡ false = sym ea ∙ (ap (λ x. nat_lt (cond x (local_on c) q) policy_end) (sym other) ∙ out) in
        absurd (cc)
    go false b true l m k ea eg el em e =
        let is : q ≡ global = eqb-true q global eg in
        rw (ne_eqb q local (λ x. omega (arith, x, is))) (inl is)
    go false b false true m k ea eg el em e = rw el (inr (omega arith))
    go false b false false true k ea eg el em e = absurd (cc)
    go false b false false false k ea eg el em e = rw el (inr (grind (arith, nat_tests, em)))

-- who is in a queue of the policy or held doesn't wait there
in_custody : (s : QueueState) (t q : ℕ) → queue_of s t ≡ Some q → (TakesToRun q → ⊥) → WaitsToRun s t → ⊥
in_custody s t q here not_out (r, there, out) = not_out (subst TakesToRun (same r q (sym there ∙ here)) out)
  where
    same : (a b : ℕ) → Some a ≡ Some b → a ≡ b
    same a b x = cc

held_stays : TakesToRun held_queue → ⊥
held_stays (inl e) = absurd (omega (arith, e))
held_stays (inr l) = absurd (omega (arith, l))

own_stays : (q : ℕ) → q < policy_end → TakesToRun q → ⊥
own_stays q low (inl e) = absurd (omega (arith, e, low))
own_stays q low (inr l) = absurd (omega (arith, l, low))

-- ---- notes

-- who left as these things were noted waits there
abbrev HaveLeft : QueueState → List Note → Type 0
HaveLeft s [] = Unit {0}
HaveLeft s (x ∷ xs) = ((t : ℕ) → leaver x.what ≡ Some t → WaitsToRun s t) × HaveLeft s xs

left_then : (s s' : QueueState) → ((t : ℕ) → WaitsToRun s t → WaitsToRun s' t) → (xs : List Note) → HaveLeft s xs → HaveLeft s' xs
left_then s s' f [] h = tt
left_then s s' f (x ∷ xs) h = ((λ t e. f t (h.0 t e)), left_then s s' f xs h.1)

left_append : (s : QueueState) (xs ys : List Note) → HaveLeft s xs → HaveLeft s ys → HaveLeft s (xs ++ ys)
left_append s [] ys h k = k
left_append s (x ∷ xs) ys h k = (h.0, left_append s xs ys h.1 k)

-- where entries are the same
waits_as : (s s' : QueueState) → s'.entries ≡ s.entries → (t : ℕ) → WaitsToRun s t → WaitsToRun s' t
waits_as s s' same t (q, there, out) = (q, ap (λ (xs : Entries). option_map (λ (p : Entry). p.queue) (get_or xs t None)) same ∙ there, out)

entry_then : (s s' : QueueState) (t : ℕ) → entry_of s' t ≡ entry_of s t → WaitsToRun s t → WaitsToRun s' t
entry_then s s' t same (q, there, out) = (q, ap (λ (o : Option Entry). option_map (λ (p : Entry). p.queue) o) same ∙ there, out)

-- ---- helpers

-- that world's queues and notes
abbrev IsAt : QueueState → List Note → WorldState → Type 0
IsAt s ns w = (w.queues ≡ s) × (w.notes ≡ ns)

at_marks : (s : QueueState) (ns : List Note) → KeepsMarks Anywhere (IsAt s ns)
at_marks s ns = record { there = λ w c h l. tt; homed = λ w t c l h. h; sliced = λ w t k h. h; sets = λ w a b c d h. h }

same_task : (a b : ℕ) → Some a ≡ Some b → a ≡ b
same_task a b x = cc

module _ (on : List (Option ℕ)) (n : ℕ) where
  abbrev Left : WorldState → Type 0
  Left w = HaveLeft w.queues w.notes

  left_created : (w : WorldState) (q : ℕ) → Left w → Left (with_queues w (after_create w.queues q))
  left_created w q h = keeps_if (λ (s : QueueState). HaveLeft s w.notes) (is_none (create_refusal w.queues q)) (with_queue w.queues q) w.queues (left_then w.queues (with_queue w.queues q) (λ t x. x) w.notes h) h

  -- a held task that was inserted
  left_released : (w : WorldState) (u : ℕ) (i : Insert) (flags : ℕ) → is_dispatch w.call.callback ≡ true → insert_fault w (Some u) i flags ≡ None → IsSound None on n w → Left w → Left (after_release w (Some u) (for_cpu w.call.cpu i))
  left_released w u i flags here none h left = subst (λ (s : QueueState). HaveLeft s (v.notes ++ x ∷ [])) (sym at.0) (left_append s' v.notes (x ∷ []) (subst (λ ns. HaveLeft s' ns) (sym at.1) (left_then w.queues s' others w.notes left)) (new, tt))
    where
      k : Insert
      k = for_cpu w.call.cpu i

      r : Rank
      r = rank_by w i.rank

      s' : QueueState
      s' = after_push (after_remove w.queues u) k.queue u r

      v : WorldState
      v = after_enter (after_leave w u) u k

      x : Note
      x = record { clock = v.clock; what = note.Insert u k.queue }

      fit : IsFit w (Some u) i
      fit = is_fit w (Some u) i flags none

      held : is_held w (Some u) ≡ true
      held = held_in_dispatch w (Some u) here fit.may

      at : IsAt s' w.notes v
      at = kept_put Anywhere (IsAt s' w.notes) (at_marks s' w.notes) (after_leave w u) u k (inside n w u (subst (λ j. u < j) h.even (held_waits w u held).known) h.tasks) (refl, refl)

      in_held : (o : Option Entry) → is_in held_queue o ≡ true → option_map (λ (p : Entry). p.queue) o ≡ Some held_queue
      in_held None e = absurd (cc)
      in_held (Some p) e = ap Some (eqb-true p.queue held_queue e)

      others : (t : ℕ) → WaitsToRun w.queues t → WaitsToRun s' t
      others t y =
          let apart : t ≡ u → ⊥ = λ is. in_custody w.queues u held_queue (in_held (entry_of w.queues u) held) held_stays (subst (WaitsToRun w.queues) is y) in
          entry_then w.queues s' t (pushed_other (after_remove w.queues u) k.queue u t r apart ∙ removed_other w.queues u t apart) y

      known : u < task_count (after_remove w.queues u)
      known = rw (tasks_removed w.queues u) (held_waits w u held).known

      there : queue_of s' u ≡ Some k.queue
      there = pushed_here (after_remove w.queues u) k.queue u r known (takes_held None on n w u i flags here none h)

      new : (t : ℕ) → leaver x.what ≡ Some t → WaitsToRun s' t
      new t e = go (nat_lt k.queue policy_end) refl e
        where
          go : (b : Bool) → nat_lt k.queue policy_end ≡ b → (if b then None else Some u) ≡ Some t → WaitsToRun s' t
          go true z y = absurd (cc)
          go false z y = subst (WaitsToRun s') (same_task u t y) (k.queue, there, out_of_custody w i.queue w.call.cpu fit.queue z)

  left_inserted : (w : WorldState) (t : Option ℕ) (i : Insert) (flags : ℕ) → insert_fault w t i flags ≡ None → IsSound None on n w → Left w → Left (insert_or_fault w None t i)
  left_inserted w t i flags none h left = go (is_dispatch w.call.callback) refl t none
    where
      go : (b : Bool) → is_dispatch w.call.callback ≡ b → (o : Option ℕ) → insert_fault w o i flags ≡ None → Left (if b then after_release w o (for_cpu w.call.cpu i) else with_insert w i)
      go false e o none = left
      go true e None none = left
      go true e (Some u) none = left_released w u i flags e none h left

  -- a task that was moved
  left_moved : (w : WorldState) (o : Option ℕ) (q : ℕ) → ((t : ℕ) → o ≡ Some t → queue_of w.queues t ≡ Some q) → is_dispatch w.call.callback ≡ true → q < policy_end → IsSound None on n w → Left w → Left (moved_to_local w o)
  left_moved w None q e here low h left = left
  left_moved w (Some u) q e here low h left = subst (λ (s : QueueState). HaveLeft s (v.notes ++ x ∷ [])) (sym at.0) (left_append s' v.notes (x ∷ []) (subst (λ ns. HaveLeft s' ns) (sym at.1) (left_then w.queues s' others w.notes left)) (new, tt))
    where
      d : ℕ
      d = local_on w.call.cpu

      s : QueueState
      s = after_remove w.queues u

      s' : QueueState
      s' = after_push s d u Fifo

      v : WorldState
      v = after_local (after_leave w u) w.call.cpu u

      x : Note
      x = record { clock = v.clock; what = note.Move u w.call.cpu }

      at : IsAt s' w.notes v
      at = kept_local Anywhere (IsAt s' w.notes) (at_marks s' w.notes) (after_leave w u) w.call.cpu u tt (refl, refl)

      others : (t : ℕ) → WaitsToRun w.queues t → WaitsToRun s' t
      others t y =
          let apart : t ≡ u → ⊥ = λ is. in_custody w.queues u q (e u refl) (own_stays q low) (subst (WaitsToRun w.queues) is y) in
          entry_then w.queues s' t (pushed_other s d u t Fifo apart ∙ removed_other w.queues u t apart) y

      known : u < task_count s
      known = rw (tasks_removed w.queues u) (place_known w.queues q u (e u refl)).0

      there : queue_of s' u ≡ Some d
      there = pushed_here s d u Fifo known (takes_queued None on n w q w.call.cpu u h.here.hand (e u refl) h)

      new : (t : ℕ) → leaver x.what ≡ Some t → WaitsToRun s' t
      new t y = subst (WaitsToRun s') (same_task u t y) (d, there, inr (omega arith))

  left_helper : (w : WorldState) (f : Helper) (a : List Arg) → IsSound None on n w → Left w → Left (helper_after w f a)
  left_helper w f a h left =
      kept_apart Left (λ v x m a b c d r l. l) w left (λ i o new. left) (λ q. left_created w q left) (λ t i flags back none. left_inserted w t i flags none h left)
      (λ q here low. left_moved w (next_for w q w.call.cpu) q (λ t e. (next_seen w q w.call.cpu t e).there) here low h left) f a

  -- with each task in its place
  abbrev SoundAndLeft : WorldState → Type 0
  SoundAndLeft w = IsSound None on n w × Left w

  left_query : (w : WorldState) (q : Query) → SoundAndLeft w → SoundAndLeft (after_query world_functions w q)
  left_query w (Call f a) h = (sound_query None on n w (Call f a) h.0, left_helper w f (map argument_of a) h.0 h.1)
  left_query w (Load t f) h = (sound_query None on n w (Load t f) h.0, h.1)
  left_query w (Store t f k) h = (sound_query None on n w (Store t f k) h.0, h.1)

  left_called : (p : Option VerifiedProgram) (b : Callback) (a : Args) (maps : Maps) (w : WorldState) → SoundAndLeft w → SoundAndLeft (call_ending p b a maps w).outside
  left_called p b a maps w h = kept_called SoundAndLeft left_query p b a maps w h

-- ---- the calls that follow

-- each `dequeue` of these tells of one who waits so
abbrev AllTell : List CallMade → Type 0
AllTell [] = Unit {0}
AllTell (m ∷ ms) = (m.callback ≡ callback.Dequeue → TellsOfLeaver m) × AllTell ms

tell_append : (xs ys : List CallMade) → AllTell xs → AllTell ys → AllTell (xs ++ ys)
tell_append [] ys h k = k
tell_append (m ∷ ms) ys h k = (h.0, tell_append ms ys h.1 k)

tell_among : (before : List CallMade) (m : CallMade) (after : List CallMade) → AllTell (before ++ m ∷ after) → m.callback ≡ callback.Dequeue → TellsOfLeaver m
tell_among [] m after h = h.0
tell_among (c ∷ cs) m after h = tell_among cs m after h.1

-- an ejection calls none
no_calls : (o : Option Cause) (s : State) → (ejected_for o s).calls ≡ []
no_calls None s = refl
no_calls (Some x) s = eject_calls s (eject_of x s.world.clock)

-- what holds of a state in force holds where a callback left it in force
in_force_still : (P : QueueState → Type 0) (o : Option Cause) (s : State) → P s.world.queues → is_by_linux (ejected_for o s).state ≡ true → P (ejected_for o s).state.world.queues
in_force_still P None s h linux = h
in_force_still P (Some x) s h linux = absurd (out (are_linux v.rules) (subst (λ o. (are_linux v.rules && is_none o) ≡ true) (eject_sets s (eject_of x s.world.clock)).1 linux))
  where
    v : WorldState
    v = (eject s (eject_of x s.world.clock)).state.world

    out : (b : Bool) → (b && false) ≡ true → ⊥
    out true e = absurd (cc)
    out false e = absurd (cc)

-- a call of dispatch is no `dequeue`
dispatch_tells : (p : Option VerifiedProgram) (a : Args) (maps : Maps) (w : WorldState) → AllTell (calls_of p callback.Dispatch a maps w)
dispatch_tells None a maps w = tt
dispatch_tells (Some p) a maps w = ((λ e. absurd (cc)), tt)

-- a `dequeue` of one who waits so
dequeue_tells : (p : Option VerifiedProgram) (t : ℕ) (maps : Maps) (w : WorldState) → WaitsToRun w.queues t → AllTell (calls_of p callback.Dequeue (task_and_number t 0) maps w)
dequeue_tells None t maps w h = tt
dequeue_tells (Some p) t maps w h = ((λ e. (t, refl, h)), tt)

-- the policy hears of one who left, and those who left still wait so
record HearsOf (xs : List Note) (r : Stepped) : Type 0 where
  tells : AllTell r.calls
  still : is_by_linux r.state ≡ true → HaveLeft r.state.world.queues xs

hears_of : (o : Option ℕ) (xs : List Note) (s : State) (c : ℕ) → (is_by_linux s ≡ true → (t : ℕ) → o ≡ Some t → WaitsToRun s.world.queues t) → (is_by_linux s ≡ true → HaveLeft s.world.queues xs) → HearsOf xs (tells_of o s c)
unfolding tells_dequeued call_by_linux call_back
hears_of None xs s c one rest = record { tells = tt; still = rest }
hears_of (Some t) xs s c one rest = go (is_by_linux s) refl (is_some (program_of s.policy callback.Dequeue))
  where
    a : Args
    a = task_and_number t 0

    w : WorldState
    w = at_callback s.world callback.Dequeue t c

    e : Ending WorldState
    e = call_ending (acting s callback.Dequeue) callback.Dequeue a s.maps w

    v : State
    v = after_callback s.policy e

    called : Stepped
    called = one_after_other (record { state = v; notes = e.outside.notes; calls = calls_of (acting s callback.Dequeue) callback.Dequeue a s.maps w }) (ejected_for (cause_of callback.Dequeue e) v)

    hears : is_by_linux s ≡ true → HearsOf xs called
    hears linux = record {
      tells = tell_append (calls_of (acting s callback.Dequeue) callback.Dequeue a s.maps w) (ejected_for (cause_of callback.Dequeue e) v).calls (dequeue_tells (acting s callback.Dequeue) t s.maps w (one linux t refl)) (subst AllTell (sym (no_calls (cause_of callback.Dequeue e) v)) tt);
      still = in_force_still (λ s. HaveLeft s xs) (cause_of callback.Dequeue e) v (left_then s.world.queues v.world.queues (waits_as s.world.queues v.world.queues (calm_called (acting s callback.Dequeue) callback.Dequeue a s.maps s.world t c refl).entries) xs (rest linux));
    }

    go : (b : Bool) → is_by_linux s ≡ b → (d : Bool) → HearsOf xs (if b && d then called else stays s)
    go true linux true = hears linux
    go true linux false = record { tells = tt; still = rest }
    go false plain d = record { tells = tt; still = rest }

hears_each : (xs : List Note) (s : State) (c : ℕ) → (is_by_linux s ≡ true → HaveLeft s.world.queues xs) → AllTell (tells_each xs s c).calls
hears_each [] s c h = tt
hears_each (x ∷ xs) s c h =
    let r = tells_of (leaver x.what) s c in
    let y = hears_of (leaver x.what) xs s c (λ linux t e. (h linux).0 t e) (λ linux. (h linux).1) in
    tell_append r.calls (tells_each xs r.state c).calls y.tells (hears_each xs r.state c y.still)

hears_left : (s : State) (c : ℕ) (ns : List Note) → (is_by_linux s ≡ true → HaveLeft s.world.queues ns) → AllTell (tells_left s c ns).calls
unfolding tells_left
hears_left s c ns h = keeps_if (λ (r : Stepped). AllTell r.calls) (hears_dequeue s) (let r = tells_each ns s c in record r { state = moved_as s.world.call.has_moved r.state }) (stays s) (hears_each ns s c h) tt

all_tell : (n e k : ℕ) (s : State) (c : ℕ) (p : Option ℕ) → c < length s.world.cpus → IsFine n e k None s.world.cpus s.world → AllTell (dispatch_called s c p).calls
unfolding dispatch_called call_back noted_by
all_tell n e k s c p there fine =
    tell_append (calls_of d callback.Dispatch a s.maps w ++ (ejected_for why v).calls) (tells_left r.state c i.outside.notes).calls
    (tell_append (calls_of d callback.Dispatch a s.maps w) (ejected_for why v).calls (dispatch_tells d a s.maps w) (subst AllTell (sym (no_calls why v)) tt))
    (hears_left r.state c i.outside.notes (in_force_still (λ s. HaveLeft s i.outside.notes) why v left.1))
  where
    a : Args
    a = cpu_and_task c (told_of s p)

    d : Option VerifiedProgram
    d = acting s callback.Dispatch

    w : WorldState
    w = at_callback s.world callback.Dispatch 0 c

    i : Ending WorldState
    i = call_ending d callback.Dispatch a s.maps w

    v : State
    v = after_callback s.policy i

    why : Option Cause
    why = cause_of callback.Dispatch i

    r : Stepped
    r = ejected_for why v

    left : SoundAndLeft s.world.cpus n i.outside
    left = left_called s.world.cpus n d callback.Dispatch a s.maps w (sound_begun None s.world.cpus n s.world callback.Dispatch 0 c there fine.sound, tt)

-- the law
pub leavers_wait : LeaversWait
leavers_wait n e k s c p there fine m among is = tell_among among.0 m among.1 (subst AllTell among.2 (all_tell n e k s c p there fine)) is
