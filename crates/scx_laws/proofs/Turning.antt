-- The steps of a cycle on the only processor: the front of the line comes to it, the task before goes to the end of the
-- line, and no task waits any longer for that.
use Rattle.std.proofs.Common.{◌≡◌, ℕ, ◌<◌, false, ◌&&◌, if◌then◌else◌, length, set, Option, Some, None, is_some, option_map, refl, sym, ap, ◌∙◌, subst, arith, ◌≤◌, ◌==◌, max, get_or, List, nat_lt}
use Rattle.std.proofs.lemmas.Option.{same_Some}
use Rattle.std.proofs.lemmas.List.{length-set, get_or-set_same}
use Rattle.scx_dsq.specs.declared.entries.Entry.{Entry}
use Rattle.scx_dsq.specs.declared.entries.Rank.TheVariants.{Fifo}
use Rattle.scx_dsq.specs.Queues.{entry_of, len_of, front_of}
use Rattle.scx_dsq.specs.Calls.{without, without_task, after_push, after_remove}
use Rattle.scx_isa_semantics.specs.declared.callbacks.Callback.TheVariants as callback
use Rattle.scx_isa_semantics.specs.declared.rules.Rules.{Rules}
use Rattle.scx_vm.specs.declared.arguments.Args.{Args}
use Rattle.scx_weights.specs.Hierarchy as groups
use Rattle.scx_sched_tasks.specs.Tasks.{no_task, default_slice}
use Rattle.scx_sched_tasks.specs.declared.task.Task.{Task}
use Rattle.scx_sched_world.specs.Ids.{local_on}
use Rattle.scx_sched_world.specs.World as world
use Rattle.scx_sched_world.specs.World.{WorldState, are_linux, binds, task_at, running, at_callback, quiet, with_queues}
use Rattle.scx_sched_world.specs.Tasks.{on_cpu, with_since, with_slice, with_new_slice, after_keep, task_after_insert, after_enter, after_stop, after_leave, after_local, started_at, next_for}
use Rattle.scx_sched_world.specs.Helpers.{moved_to_local}
use Rattle.scx_sched_world.proofs.Fronts.{front_in, unbound_next}
use Rattle.scx_sched_machine.specs.Steps.{State}
use Rattle.scx_sched_machine.specs.Callbacks.{call_back}
use Rattle.scx_sched_machine.proofs.Choices.{keeps_if}
use Rattle.scx_sched.proofs.Sound.{place_known}
use Rattle.scx_laws.specs.Bounds.{longest_wait}
use Rattle.scx_laws.proofs.Plain.{homed_plain}
use Rattle.scx_laws.proofs.InLine.{line_end, IsKeptInLine, world_plain, dispatch_lined}
use Rattle.scx_laws.proofs.Bounding.{IsBounded, bounded_moved, bounded_started, bounded_stopped, bounded_unseen, bounded_put, bounded_ran, bounded_alone}

-- one processor, whose tasks wait no longer than that
pub record IsTurning (slice n m : ℕ) (w : WorldState) : Type 0 where
  pub force : w.ejected ≡ None
  pub one : length w.cpus ≡ 1
  pub bounded : IsBounded slice n m w.clock w.tasks (running w 0) w.queues

module _ (slice n m : ℕ) where
  -- ---- dispatch

  -- the front of the line is a task of it
  record IsFrontOf (w : WorldState) (x : ℕ) : Type 0 where
    entry : Entry
    is : entry_of w.queues x ≡ Some entry
    here : entry.queue ≡ 0
    within : x < n

  front_is : (w : WorldState) (x : ℕ) → front_of w.queues 0 ≡ Some x → IsTurning slice n m w → IsFrontOf w x
  front_is w x front h = go (entry_of w.queues x) refl (front_in w.queues 0 x front)
    where
      go : (o : Option Entry) → entry_of w.queues x ≡ o → option_map (λ (e : Entry). e.queue) o ≡ Some 0 → IsFrontOf w x
      go None is at = absurd (cc)
      go (Some e) is at = record { entry = e; is = is; here = same_Some e.queue 0 at; within = omega (arith, (place_known w.queues 0 x (front_in w.queues 0 x front)).0, h.bounded.even) }

  turning_moved : (w : WorldState) (x : ℕ) → w.call.cpu ≡ 0 → world.is_by_linux w ≡ false → front_of w.queues 0 ≡ Some x → IsTurning slice n m w → IsTurning slice n m (after_local (after_leave w x) 0 x)
  turning_moved w x at plain front h = subst (IsTurning slice n m) (sym (homed_plain v plain x 0)) (record { force = h.force; one = h.one; bounded = moved })
    where
      v : WorldState
      v = with_queues w (after_push (after_remove w.queues x) (local_on 0) x Fifo)

      f : IsFrontOf w x
      f = front_is w x front h

      left : after_remove w.queues x ≡ without_task w.queues x
      left = ap (λ b. if b then without_task w.queues x else w.queues) (ap (λ (o : Option Entry). is_some o) f.is)

      moved : IsBounded slice n m w.clock w.tasks (running w 0) (after_push (after_remove w.queues x) (local_on 0) x Fifo)
      moved = subst (λ s. IsBounded slice n m w.clock w.tasks (running w 0) (after_push s (local_on 0) x Fifo)) (sym left) (bounded_moved slice n m w.clock w.tasks (running w 0) w.queues h.bounded x f.entry front f.is f.here f.within)

  -- dispatch brings the front of the line, if there is one
  pub turning_dispatched : (s : State) (a : Args) → IsKeptInLine slice s → IsTurning slice n m s.world → IsTurning slice n m (call_back s callback.Dispatch a 0 0).state.world
  turning_dispatched s a lined h = subst (λ (v : State). IsTurning slice n m v.world) (sym (dispatch_lined slice s a 0 h.force lined)) (go (next_for w 0 0) refl)
    where
      w : WorldState
      w = at_callback s.world callback.Dispatch 0 0

      plain : world.is_by_linux w ≡ false
      plain = world_plain w lined.1.rules

      unbound : binds w ≡ false
      unbound = ap (λ (r : Rules). are_linux r && groups.binds w.tree) lined.1.rules

      begun : IsTurning slice n m w
      begun = record { force = h.force; one = h.one; bounded = h.bounded }

      go : (o : Option ℕ) → next_for w 0 0 ≡ o → IsTurning slice n m (quiet (moved_to_local w o))
      go None e = record { force = h.force; one = h.one; bounded = h.bounded }
      go (Some x) e = let y = turning_moved w x refl plain (sym (unbound_next w 0 0 unbound) ∙ e) begun in record { force = y.force; one = y.one; bounded = y.bounded }

  -- ---- a task comes to run

  pub turning_started : (w : WorldState) (x : ℕ) → running w 0 ≡ None → front_of w.queues (local_on 0) ≡ Some x → IsTurning slice n m w → IsTurning slice n m (started_at (Some x) w 0)
  turning_started w x idle front h = go (entry_of w.queues x) refl (front_in w.queues (local_on 0) x front)
    where
      runs : running (started_at (Some x) w 0) 0 ≡ Some x
      runs = get_or-set_same {A = Option ℕ} w.cpus 0 (Some x) None (omega (arith, h.one))

      within : x < n
      within = omega (arith, (place_known w.queues (local_on 0) x (front_in w.queues (local_on 0) x front)).0, h.bounded.even)

      go : (o : Option Entry) → entry_of w.queues x ≡ o → option_map (λ (e : Entry). e.queue) o ≡ Some (local_on 0) → IsTurning slice n m (started_at (Some x) w 0)
      go None is at = absurd (cc)
      go (Some e) is at =
          let free = subst (λ o. IsBounded slice n m w.clock w.tasks o w.queues) idle h.bounded in
          let on = bounded_started slice n m w.clock w.tasks w.queues x e within is (same_Some e.queue (local_on 0) at) free in
          let ran = bounded_ran slice n m w.clock m 0 w.tasks (without_task w.queues x) x (on_cpu (task_at w x) 0) (on.most x refl) (omega arith) (omega arith) on in
          record {
            force = h.force;
            one = length-set {A = Option ℕ} w.cpus 0 (Some x) ∙ h.one;
            bounded = subst (λ o. IsBounded slice n m w.clock (set w.tasks x (on_cpu (task_at w x) 0)) o (without w.queues (front_of w.queues (local_on 0)))) (sym runs) (subst (λ o. IsBounded slice n m w.clock (set w.tasks x (on_cpu (task_at w x) 0)) (Some x) (without w.queues o)) (sym front) ran);
          }

  -- ---- a task leaves the processor, and comes to the end of the line

  pub turning_stopped : (w : WorldState) (r : ℕ) → running w 0 ≡ Some r → IsTurning slice n m w → IsTurning slice n m (after_stop w 0 r)
  turning_stopped w r runs h = record {
    force = h.force;
    one = length-set {A = Option ℕ} w.cpus 0 None ∙ h.one;
    bounded = subst (λ o. IsBounded slice n m w.clock (set w.tasks r (with_since (task_at w r) (Some w.clock))) o w.queues) (sym idle) off;
  }
    where
      idle : running (after_stop w 0 r) 0 ≡ None
      idle = get_or-set_same {A = Option ℕ} w.cpus 0 None None (omega (arith, h.one))

      off : IsBounded slice n m w.clock (set w.tasks r (with_since (task_at w r) (Some w.clock))) None w.queues
      off = bounded_unseen slice n m w.clock w.tasks None w.queues r (with_since (task_at w r) (Some w.clock)) (h.bounded.off r runs).1 (λ k e y. absurd (cc)) (bounded_stopped slice n m w.clock w.tasks (running w 0) w.queues h.bounded)

  -- a slice of 0 would keep the one that there is
  whole_slice : (x : Task) → (slice == 0) ≡ false → task_after_insert x (line_end slice) ≡ with_slice x slice
  whole_slice x some = ap (λ b. if b then (if false && (x.slice == 0) then with_slice x 1 else x) else with_slice x slice) some

  pub turning_put : (w : WorldState) (r : ℕ) → (slice == 0) ≡ false → longest_wait n slice ≤ m → entry_of w.queues r ≡ None → ((k : ℕ) → running w 0 ≡ Some k → k ≡ r → ⊥) → r < n → (task_at w r).since ≡ Some w.clock → IsTurning slice n m w → IsTurning slice n m (after_enter w r (line_end slice))
  turning_put w r some longest none apart within now h = keeps_if (IsTurning slice n m) (nat_lt r (length w.tasks)) _ w (record { force = h.force; one = h.one; bounded = put }) h
    where
      x : Task
      x = task_after_insert (task_at w r) (line_end slice)

      tasks : List Task
      tasks = set w.tasks r x

      given : get_or tasks r no_task ≡ with_slice (task_at w r) slice
      given = get_or-set_same w.tasks r x no_task (omega (arith, within, h.bounded.many)) ∙ whole_slice (task_at w r) some

      put : IsBounded slice n m w.clock tasks (running w 0) (after_push w.queues 0 r Fifo)
      put = bounded_put slice n m w.clock tasks (running w 0) w.queues r none apart within (ap (λ (y : Task). y.slice) given) (ap (λ (y : Task). y.since) given ∙ now) longest (bounded_unseen slice n m w.clock w.tasks (running w 0) w.queues r x none apart h.bounded)

  -- ---- no task comes

  -- a task that keeps the processor has a slice
  some_slice : (x : Task) → x.slice ≤ max slice default_slice → (with_new_slice x).slice ≤ max slice default_slice
  some_slice x few = keeps_if (λ (y : Task). y.slice ≤ max slice default_slice) (x.slice == 0) (with_slice x default_slice) x (omega arith) few

  pub turning_kept : (w : WorldState) (o : Option ℕ) → running w 0 ≡ o → len_of w.queues 0 ≡ 0 → len_of w.queues (local_on 0) ≡ 0 → IsTurning slice n m w → IsTurning slice n m (after_keep w o)
  turning_kept w None runs empty none h = h
  turning_kept w (Some r) runs empty none h =
      let now = subst (λ o. IsBounded slice n m w.clock w.tasks o w.queues) runs h.bounded in
      let x = with_new_slice (task_at w r) in
      record { force = h.force; one = h.one; bounded = subst (λ o. IsBounded slice n m w.clock (set w.tasks r x) o w.queues) (sym runs) (bounded_alone slice n m w.clock w.tasks w.queues r x empty none (some_slice (task_at w r) (now.most r refl)) now) }
