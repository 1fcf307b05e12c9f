-- All events of a policy of one line keep what each change of the queues keeps: a task comes to the end of a queue, and
-- leaves the line at its front, or as it goes to sleep.
use Rattle.std.proofs.Common.{◌≡◌, ℕ, ◌≤◌, Bool, true, false, ◌&&◌, nat_lt, nat_le, if◌then◌else◌, length, Option, Some, None, is_some, is_none, option_map, refl, sym, ap, ◌∙◌, subst, arith}
use Rattle.scx_laws.proofs.Ejecting.{put_stays}
use Rattle.scx_sched.proofs.Blaming.{apart}
use Rattle.scx_sched.proofs.Waiting.{removed_other}
use Rattle.std.proofs.lemmas.List.{get_or-set_other}
use Rattle.scx_dsq.specs.declared.entries.Entry.{Entry}
use Rattle.scx_dsq.specs.declared.entries.Rank.{Rank}
use Rattle.scx_dsq.specs.declared.entries.Rank.TheVariants.{Fifo}
use Rattle.scx_dsq.specs.Queues.{QueueState, entry_of, queue_of, front_of, behind_of}
use Rattle.scx_dsq.specs.Calls.{push_refusal, next_entry, with_task as with_place, without_task, without, after_push}
use Rattle.scx_isa_semantics.specs.declared.callbacks.Callback.TheVariants as callback
use Rattle.scx_isa_semantics.specs.declared.rules.Rules.{Rules}
use Rattle.scx_vm.specs.declared.arguments.Args.{Args}
use Rattle.scx_weights.specs.Hierarchy as groups
use Rattle.scx_weights.specs.Refusals.{weight_fault, own_weight_fault}
use Rattle.scx_sched_world.specs.declared.eject.Eject.{Eject}
use Rattle.scx_sched_world.specs.declared.eject.Eject.TheVariants as cause
use Rattle.scx_sched_world.specs.Ids.{policy_end, parked_queue, local_on}
use Rattle.scx_sched_world.specs.World as world
use Rattle.scx_sched_world.specs.World.{WorldState, with_queues, with_task, task_at, are_linux, binds, at_callback, quiet}
use Rattle.scx_sched_world.specs.Tasks.{with_since, with_home, local_len, after_leave, after_local, local_cpu, homed, homed_at, after_enter, brought, fill_front, started_at, after_keep, let_go, put_parked, next_for}
use Rattle.scx_sched_world.specs.Helpers.{with_insert, moved_to_local}
use Rattle.scx_sched_world.specs.Ejecting.{put_builtin}
use Rattle.scx_sched_world.proofs.Fronts.{front_in, unbound_next, AtParked, at_front, at_behind, behind_in}
use Rattle.scx_sched_machine.specs.Steps.{State, with_world}
use Rattle.scx_sched_machine.specs.Ejecting.{eject}
use Rattle.scx_sched_machine.specs.Callbacks.{call_back}
use Rattle.scx_sched_machine.specs.Put.{enters, put}
use Rattle.scx_sched_machine.specs.Filling.{fill}
use Rattle.scx_sched_machine.specs.Parking.{park, let_go_one}
use Rattle.scx_sched_machine.specs.Events.{insert_or_put}
use Rattle.scx_sched_machine.proofs.Choices.{keeps_if}
use Rattle.scx_sched.proofs.Seen.{next_seen}
use Rattle.scx_sched.proofs.Unchanged.{eject_sets}
use Rattle.scx_laws.proofs.Choosing.{idle_end}
use Rattle.scx_sched.proofs.Stepwise.{IsOneLetGo, parked_let_go}
use Rattle.scx_laws.proofs.Walking.{after_asking, IsSettled, IsKeptPlainly}
use Rattle.scx_laws.proofs.InLine.{IsKeptInLine, end_of, line_end, put_lined, put_out_of_force, dispatch_lined, nothing_called, out_acts, nothing_told, asking, by_asked, line_let, let_go_plain, line_let_one, keeps_line}

-- the task that fills a local queue is the first one that may
pub filled_is : (w : WorldState) (q c x : ℕ) → fill_front w q c ≡ Some x → next_for w q c ≡ Some x
filled_is w q c x e = go (nat_lt 0 (local_len w c)) e
  where
    go : (b : Bool) → (if b then None else next_for w q c) ≡ Some x → next_for w q c ≡ Some x
    go true y = absurd (cc)
    go false y = y

-- what a task keeps that comes to the end of a queue, that leaves one of the machine's own, that goes to sleep, or that
-- is the front of the line and leaves it
pub record KeepsQueue (MaySleep : ℕ → Type 0) (Q : QueueState → Type 0) : Type 0 where
  pub pushed : (s : QueueState) (q x : ℕ) → Q s → Q (after_push s q x Fifo)
  pub own : (s : QueueState) (q x : ℕ) → policy_end ≤ q → queue_of s x ≡ Some q → Q s → Q (without_task s x)
  pub asleep : (s : QueueState) (x : ℕ) → MaySleep x → Q s → Q (without_task s x)
  pub front : (s : QueueState) (x : ℕ) → front_of s 0 ≡ Some x → Q s → Q (without_task s x)

module _ (MaySleep : ℕ → Type 0) (Q : QueueState → Type 0) (k : KeepsQueue MaySleep Q) where
  -- ---- worlds

  -- as long as the policy is in force
  abbrev pub InForce : WorldState → Type 0
  InForce w = w.ejected ≡ None → Q w.queues

  in_homed : (w : WorldState) (x c : ℕ) → InForce w → InForce (homed w x c)
  in_homed w x c h = keeps_if InForce (world.is_by_linux w) (with_task w x (with_home (task_at w x) c)) w h h

  in_local : (w : WorldState) (c x : ℕ) → InForce w → InForce (after_local w c x)
  in_local w c x h = in_homed (with_queues w (after_push w.queues (local_on c) x Fifo)) x c (λ force. k.pushed w.queues (local_on c) x (h force))

  in_left : (w : WorldState) (x : ℕ) → (w.ejected ≡ None → Q w.queues → Q (without_task w.queues x)) → InForce w → InForce (after_leave w x)
  in_left w x may h = λ force. keeps_if Q (is_some (entry_of w.queues x)) (without_task w.queues x) w.queues (may force (h force)) (h force)

  in_brought : (o : Option ℕ) (w : WorldState) (q c : ℕ) → policy_end ≤ q → ((x : ℕ) → o ≡ Some x → queue_of w.queues x ≡ Some q) → InForce w → InForce (brought o w c)
  in_brought None w q c own at h = h
  in_brought (Some x) w q c own at h = in_local (after_leave w x) c x (in_left w x (λ force. k.own w.queues q x own (at x refl)) h)

  in_homed_at : (w : WorldState) (x : ℕ) (o : Option ℕ) → InForce w → InForce (homed_at w x o)
  in_homed_at w x None h = h
  in_homed_at w x (Some c) h = in_homed w x c h

  in_entered : (w : WorldState) (q x slice : ℕ) → InForce w → InForce (after_enter w x (end_of q slice))
  in_entered w q x slice h = keeps_if InForce (nat_lt x (length w.tasks)) _ w (in_homed_at _ x (local_cpu w q) (λ force. k.pushed w.queues q x (h force))) h

  in_parked : (w : WorldState) (x : ℕ) → InForce w → InForce (put_parked w x)
  in_parked w x h = keeps_if InForce (nat_lt x (length w.tasks)) _ w (λ force. k.pushed w.queues parked_queue x (h force)) h

  in_started : (w : WorldState) (c x : ℕ) → front_of w.queues (local_on c) ≡ Some x → InForce w → InForce (started_at (Some x) w c)
  in_started w c x front h = λ force. subst (λ (o : Option ℕ). Q (without w.queues o)) (sym front) (k.own w.queues (local_on c) x (omega arith) (front_in w.queues (local_on c) x front) (h force))

  in_kept : (w : WorldState) (o : Option ℕ) → InForce w → InForce (after_keep w o)
  in_kept w None h = h
  in_kept w (Some x) h = h

  -- where a world is out of force nothing is said of it
  in_out : (w : WorldState) (x : Eject) → w.ejected ≡ Some x → InForce w
  in_out w x out force = absurd (apart w.ejected x force out)

  -- ---- steps

  module _ (slice : ℕ) where
    -- of a policy of one line
    abbrev pub IsInLineWith : State → Type 0
    IsInLineWith s = IsKeptInLine slice s × InForce s.world

    puts_with : (s : State) (x c flags : ℕ) → nat_le flags 1 ≡ true → IsInLineWith s → InForce (put s x c flags).state.world
    puts_with s x c flags few h = go s.world.ejected refl
      where
        go : (o : Option Eject) → s.world.ejected ≡ o → InForce (put s x c flags).state.world
        go None force =
            let w = quiet (with_insert (at_callback s.world callback.Enqueue x c) (line_end slice)) in
            subst (λ (v : State). InForce v.world) (sym (put_lined slice s x c flags few force h.0)) (in_entered w 0 x slice h.1)
        go (Some y) out =
            let w = at_callback s.world callback.Enqueue x c in
            subst (λ (v : State). InForce v.world) (sym (put_out_of_force s x c flags y out)) (in_out (put_builtin w x) y (put_stays w x ∙ out))

    dispatches_with : (s : State) (a : Args) (c : ℕ) → IsInLineWith s → InForce (call_back s callback.Dispatch a 0 c).state.world
    dispatches_with s a c h = go s.world.ejected refl
      where
        w : WorldState
        w = at_callback s.world callback.Dispatch 0 c

        unbound : binds w ≡ false
        unbound = ap (λ (r : Rules). are_linux r && groups.binds w.tree) h.0.1.rules

        served_so : (o : Option ℕ) → next_for w 0 c ≡ o → InForce (quiet (moved_to_local w o))
        served_so None e = h.1
        served_so (Some x) e = let y = in_local (after_leave w x) c x (in_left w x (λ force. k.front w.queues x (sym (unbound_next w 0 c unbound) ∙ e)) h.1) in λ force. y force

        go : (o : Option Eject) → s.world.ejected ≡ o → InForce (call_back s callback.Dispatch a 0 c).state.world
        go None force = subst (λ (v : State). InForce v.world) (sym (dispatch_lined slice s a c force h.0)) (served_so (next_for w 0 c) refl)
        go (Some y) out = subst (λ (v : State). InForce v.world) (sym (nothing_called s callback.Dispatch a 0 c (out_acts s callback.Dispatch y out) refl)) h.1

    -- ---- who is let go

    pushed_other : (s : QueueState) (q x : ℕ) (r : Rank) (v : ℕ) → (v ≡ x → ⊥) → entry_of (after_push s q x r) v ≡ entry_of s v
    pushed_other s q x r v other = keeps_if (λ (k : QueueState). entry_of k v ≡ entry_of s v) (is_none (push_refusal s q x r)) (with_place s q x r) s (get_or-set_other {A = Option Entry} s.entries x v (Some (next_entry s q r)) None other) refl

    entered_other : (w : WorldState) (x v : ℕ) → (v ≡ x → ⊥) → entry_of (after_enter w x (line_end slice)).queues v ≡ entry_of w.queues v
    entered_other w x v other = keeps_if (λ (k : WorldState). entry_of k.queues v ≡ entry_of w.queues v) (nat_lt x (length w.tasks)) _ w (pushed_other w.queues 0 x Fifo v other) refl

    -- once a parked task was put, the others are parked still
    parked_still : (s : State) (x : ℕ) (o : Option ℕ) → IsInLineWith s → s.world.ejected ≡ None → queue_of s.world.queues x ≡ Some parked_queue → behind_of s.world.queues x ≡ o → AtParked (let_go_one s x).state.world.queues o
    parked_still s x None h force at e = tt
    parked_still s x (Some v) h force at e =
        let b = behind_in s.world.queues parked_queue x v at e in
        let c = (task_at s.world x).prev_cpu in
        let r = with_world s (let_go s.world x) in
        let w = quiet (with_insert (at_callback r.world callback.Enqueue x c) (line_end slice)) in
        let is : (let_go_one s x).state ≡ with_world r (after_enter w x (line_end slice)) = let_go_plain slice s x h.0 ∙ put_lined slice r x c 0 refl force (line_let slice s x h.0) in
        let same : entry_of (after_enter w x (line_end slice)).queues v ≡ entry_of s.world.queues v = entered_other w x v b.other ∙ removed_other s.world.queues x v b.other in
        subst (λ (k : State). queue_of k.world.queues v ≡ Some parked_queue) (sym is) (ap (λ (k : Option Entry). option_map (λ (y : Entry). y.queue) k) same ∙ b.there)

    -- an ejection is for good
    still_out : (s : State) (x : ℕ) (y : Eject) → IsInLineWith s → s.world.ejected ≡ Some y → (let_go_one s x).state.world.ejected ≡ Some y
    still_out s x y h out =
        let c = (task_at s.world x).prev_cpu in
        let r = with_world s (let_go s.world x) in
        ap (λ (k : State). k.world.ejected) (let_go_plain slice s x h.0 ∙ put_out_of_force r x c 0 y out) ∙ (put_stays (at_callback r.world callback.Enqueue x c) x ∙ out)

    lets_with : (s : State) (x : ℕ) → (s.world.ejected ≡ None → queue_of s.world.queues x ≡ Some parked_queue) → IsInLineWith s → IsInLineWith (let_go_one s x).state
    lets_with s x at h =
        let c = (task_at s.world x).prev_cpu in
        let r = with_world s (let_go s.world x) in
        let y : IsInLineWith r = (line_let slice s x h.0, in_left (with_task s.world x (with_since (task_at s.world x) (Some s.world.clock))) x (λ force. k.own s.world.queues parked_queue x (omega arith) (at force)) h.1) in
        (line_let_one slice s x h.0, subst (λ (k : State). InForce k.world) (sym (let_go_plain slice s x h.0)) (puts_with r x c 0 refl y))

    -- while the policy is in force the next one is parked
    abbrev ParkedInForce : State → Option ℕ → Type 0
    ParkedInForce s o = s.world.ejected ≡ None → AtParked s.world.queues o

    one_let_go : IsOneLetGo IsInLineWith ParkedInForce (λ s r. IsInLineWith r.state)
    one_let_go = record {
      none = λ s h. h;
      joined = λ s a r x y. y;
      passed = λ s x there. λ force. at_behind s.world.queues x (behind_of s.world.queues x) (there force) refl;
      one = λ s x there h. let y = lets_with s x there h in (y, y, still s x there h (behind_of s.world.queues x) refl s.world.ejected refl);
    }
      where
        still : (s : State) (x : ℕ) → ParkedInForce s (Some x) → IsInLineWith s → (o : Option ℕ) → behind_of s.world.queues x ≡ o → (k : Option Eject) → s.world.ejected ≡ k → ParkedInForce (let_go_one s x).state o
        still s x there h o e None force after = parked_still s x o h force (there force) e
        still s x there h o e (Some y) out after = absurd (apart (let_go_one s x).state.world.ejected y after (still_out s x y h out))

    -- ---- all small steps

    asks_with : (s : State) (x d : ℕ) → IsSettled s.world → IsInLineWith s → let r = after_asking s x in InForce (insert_or_put r.world.call.insert r x d).state.world
    unfolding enters
    asks_with s x d settled h =
        let w = asking s x in
        by_asked (λ r. InForce (insert_or_put r.world.call.insert r x d).state.world) slice s x settled h.0
        (puts_with (with_world s w) x d 1 refl ((h.0.0, record { rules = h.0.1.rules; some = h.0.1.some; tracks = h.0.1.tracks; ready = h.0.1.ready; stall = h.0.1.stall }), h.1))
        (in_entered (with_insert w (idle_end slice)) (local_on d) x slice h.1)

    pub keeps_queue : IsKeptPlainly MaySleep IsInLineWith
    unfolding fill park
    keeps_queue =
        let line = keeps_line slice in
        record {
          plain = λ s h. line.plain s h.0;
          filled = λ s q c own h. (line.filled s q c own h.0, in_brought (fill_front s.world q c) s.world q c own (λ x e. (next_seen s.world q c x (filled_is s.world q c x e)).there) h.1);
          left = λ s q x own at h. (line.left s q x own at h.0, in_left s.world x (λ force. k.own s.world.queues q x own at) h.1);
          removed = λ s x may h. (line.removed s x tt h.0, in_left s.world x (λ force. k.asleep s.world.queues x may) h.1);
          parked = λ s x h. (line.parked s x h.0, in_parked s.world x h.1);
          dispatched = λ s a c h. (line.dispatched s a c h.0, dispatches_with s a c h);
          told = λ s b a x c is h. (line.told s b a x c is h.0, subst (λ (v : State). InForce v.world) (sym (nothing_told slice s b a x c is h.0.0)) h.1);
          charged = λ s x h. (line.charged s x h.0, h.1);
          caught_up = λ s x h. (line.caught_up s x h.0, h.1);
          stopped = λ s c x h. (line.stopped s c x h.0, h.1);
          started = λ s c x front h. (line.started s c x front h.0, in_started s.world c x front h.1);
          puts = λ s x c flags few h. (line.puts s x c flags few h.0, puts_with s x c flags few h);
          kept = λ s o h. (line.kept s o h.0, in_kept s.world o h.1);
          cycles = λ s o h. (line.cycles s o h.0, h.1);
          woken = λ s x h. (line.woken s x h.0, h.1);
          asked = λ s x d settled h. let y = line.asked s x d settled h.0 in (y.0, (y.1, asks_with s x d settled h));
          asleep = λ s x h. (line.asleep s x h.0, keeps_if InForce (nat_lt x (length s.world.tasks)) _ s.world h.1 h.1);
          ticked = λ s x h. (line.ticked s x h.0, h.1);
          used = λ s x h. (line.used s x h.0, keeps_if InForce (nat_lt x (length s.world.tasks)) _ s.world h.1 h.1);
          later = λ s h. (line.later s h.0, h.1);
          lets_go = λ s h. parked_let_go IsInLineWith ParkedInForce (λ s r. IsInLineWith r.state) one_let_go s (λ force. at_front s.world.queues (front_of s.world.queues parked_queue) refl) h;
          stalled = λ s x h. (line.stalled s x h.0, in_out (eject s (cause.Stall x s.world.clock)).state.world (cause.Stall x s.world.clock) (eject_sets s (cause.Stall x s.world.clock)).1);
          reweighed = λ s g x h. (line.reweighed s g x h.0, keeps_if InForce (is_none (weight_fault s.world.tree g x)) _ s.world h.1 h.1);
          weighed = λ s y x h. (line.weighed s y x h.0, keeps_if InForce (is_none (own_weight_fault s.world.tree y x)) _ s.world h.1 h.1);
        }
