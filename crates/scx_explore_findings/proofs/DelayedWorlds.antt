-- Each small step leads from a world that is later to one that is later by as much.
use Rattle.std.proofs.Common.{◌≡◌, ℕ, zero, suc, ◌+◌, ◌-◌, ◌*◌, ◌/◌, ◌%◌, ◌^◌, ◌&&◌, not, min, max, Bool, true, false, cond, nat_lt, is_none, is_some, List, [], ◌∷◌, ◌++◌, length, map, Option, Some, None, unwrap_or, refl, ap, ◌∙◌, arith}
use mathlib.Core.List.{map-append}
use Rattle.scx_dsq.specs.Calls.{after_push, after_pop}
use Rattle.scx_dsq.specs.declared.entries.Rank.TheVariants.{Fifo, Front, Vtime}
use Rattle.scx_dsq.specs.declared.entries.Rank.{Rank}
use Rattle.scx_weights.specs.Hierarchy as tree
use Rattle.scx_weights.specs.Limits as limits
use Rattle.scx_weights.specs.Refusals.{weight_fault, own_weight_fault}
use Rattle.scx_weights.specs.Weights.{task_weight}
use Rattle.scx_sched_tasks.specs.declared.task.Task.{Task}
use Rattle.scx_sched_tasks.specs.Tasks.{default_slice}
use Rattle.scx_sched_world.specs.declared.call.Insert.{Insert}
use Rattle.scx_sched_world.specs.declared.eject.Eject.{Eject}
use Rattle.scx_sched_world.specs.declared.notes.Note.{Note}
use Rattle.scx_sched_world.specs.declared.notes.What.{What}
use Rattle.scx_sched_world.specs.declared.notes.What.TheVariants as note
use Rattle.scx_sched_world.specs.CpuSets.{is_in_set, but_cpu}
use Rattle.scx_sched_world.specs.Ids.{builtin_queue, parked_queue, local_on}
use Rattle.scx_sched_world.specs.World.{WorldState, are_linux, with_switch, switch_at, cycling_by_linux, with_cycling, with_waker, with_queues, with_tree, task_at, with_task, is_throttled, waits, running, with_cpu, with_kick, is_by_linux, is_this, is_idle, is_claimed, is_free, may_run, is_free_for, lowest_below, lowest_cpu, free_choice, choice, default_choice, after_claim, or_this, this_if, note_now, with_note}
use Rattle.scx_sched_world.specs.Tasks.{with_since, with_slice, with_home, with_builtin, task_after_insert, after_wake, after_sleep, after_leave, homed, local_cpu, homed_at, after_local, rank_by, after_preempt_of, after_preempt_at, after_preempt, after_enter, brought, fill_front, after_fill, after_stop, on_cpu, started_at, after_run, longer, after_switch, after_cut_off, with_new_slice, after_keep, put_parked, let_go, ran_a_tick, after_tick, used_ms, later, after_reweigh, after_own_weight}
use Rattle.scx_sched_world.specs.Waits.{first_overdue}
use Rattle.scx_sched_world.specs.Helpers.{weight_at, group_at}
use Rattle.scx_sched_world.specs.Ejecting.{builtin_vtime, put_builtin, after_catch_up, at_most_64_bits, after_charge, evict, after_evictions, evict_note, evict_notes, cut_task, after_cut}
use Rattle.scx_explore_findings.specs.Hidden.{with_tasks}
use Rattle.scx_explore_findings.specs.Delayed.{delayed_task, delayed_eject, delayed_note, delay}
use Rattle.scx_explore_findings.proofs.Leaving.{pushed, homing}
use Rattle.scx_explore_findings.proofs.DelayedTasks.{through_if, as_long, Changes, read_of, set_of, changes_new_slice, changes_insert, overdue_as}

-- the first of some processors for which one of two tests that agree holds
pub lowest_as : (n : ℕ) (p q : ℕ → Bool) → ((c : ℕ) → p c ≡ q c) → lowest_below n p ≡ lowest_below n q
lowest_as zero p q e = refl
lowest_as (suc n) p q e =
    ap (λ (o : Option ℕ). or_this o (this_if (p n) n)) (lowest_as n p q e)
    ∙ ap (λ (b : Bool). or_this (lowest_below n q) (this_if b n)) (e n)

module _ (k : ℕ) where
  -- a step leads from a later world to one that is later by as much
  abbrev pub Delays : (WorldState → WorldState) → Type 0
  Delays f = (w : WorldState) → delay k (f w) ≡ f (delay k w)

  -- one step after another
  pub both : (f g : WorldState → WorldState) → Delays f → Delays g → Delays (λ w. g (f w))
  both f g x y w = y (f w) ∙ ap g (x w)

  -- ---- what is read

  -- what is told alike of each record is read alike of a task
  pub read : {A : Type 0} (f : Task → A) → ((x : Task) → f x ≡ f (delayed_task k x)) → (w : WorldState) (t : ℕ) → f (task_at w t) ≡ f (task_at (delay k w) t)
  read f e w t = read_of k f e w.tasks t

  -- whether there is such a task
  pub known : (w : WorldState) (t : ℕ) → nat_lt t (length w.tasks) ≡ nat_lt t (length (delay k w).tasks)
  known w t = ap (λ (n : ℕ). nat_lt t n) (as_long (delayed_task k) w.tasks)

  -- whether the policy is in force
  pub force_as : (o : Option Eject) → is_none o ≡ is_none (delayed_eject k o)
  force_as None = refl
  force_as (Some x) = refl

  pub ejected_as : (o : Option Eject) → is_some o ≡ is_some (delayed_eject k o)
  ejected_as None = refl
  ejected_as (Some x) = refl

  -- whether the machine goes by Linux rules
  pub linux_as : (w : WorldState) → is_by_linux w ≡ is_by_linux (delay k w)
  linux_as w = ap (λ (b : Bool). are_linux w.rules && b) (force_as w.ejected)

  -- whether a task may not run
  pub throttled_as : (w : WorldState) (t : ℕ) → is_throttled w t ≡ is_throttled (delay k w) t
  throttled_as w t = ap (λ (b : Bool). b && limits.is_throttled w.tree t) (known w t)

  -- the weight of a task
  pub weight_as : (w : WorldState) (t : ℕ) → weight_at w t ≡ weight_at (delay k w) t
  weight_as w t = ap (λ (b : Bool). cond b (task_weight w.tree t) 0) (known w t)

  -- the group of a task
  pub group_as : (w : WorldState) (t : ℕ) → group_at w t ≡ group_at (delay k w) t
  group_as w t = ap (λ (b : Bool). cond b (tree.home_of w.tree t) 0) (known w t)

  -- whether a processor is claimed, and free
  pub claimed_as : (w : WorldState) (c : ℕ) → is_claimed w c ≡ is_claimed (delay k w) c
  claimed_as w c = ap (λ (b : Bool). b && is_in_set w.claimed c) (linux_as w)

  pub free_as : (w : WorldState) (c : ℕ) → is_free w c ≡ is_free (delay k w) c
  free_as w c = ap (λ (b : Bool). is_idle w c && not b) (claimed_as w c)

  free_for_as : (w : WorldState) (t c : ℕ) → is_free_for w t c ≡ is_free_for (delay k w) t c
  free_for_as w t c = ap (λ (b : Bool). may_run w t c && b) (free_as w c)

  -- the processor that is free for a task, if one is
  free_choice_as : (w : WorldState) (t : ℕ) → free_choice w t ≡ free_choice (delay k w) t
  free_choice_as w t =
      let low = lowest_as (length w.cpus) (is_free_for w t) (is_free_for (delay k w) t) (free_for_as w t) in
      ap (λ (o : Option ℕ). cond (is_free_for w t (task_at w t).prev_cpu) (Some (task_at w t).prev_cpu) o) low
      ∙ ap (λ (b : Bool). cond b (Some (task_at w t).prev_cpu) (lowest_cpu (delay k w) (is_free_for (delay k w) t))) (free_for_as w t (task_at w t).prev_cpu)
      ∙ read (λ x. cond (is_free_for (delay k w) t x.prev_cpu) (Some x.prev_cpu) (lowest_cpu (delay k w) (is_free_for (delay k w) t))) (λ x. refl) w t

  -- the processor that is chosen, if one is
  pub chosen_as : (w : WorldState) (t : ℕ) → choice w t ≡ choice (delay k w) t
  chosen_as w t = ap (λ (o : Option ℕ). cond w.tracks_idle o None) (free_choice_as w t)

  -- the processor that is chosen by default
  pub choice_as : (w : WorldState) (t : ℕ) → default_choice w t ≡ default_choice (delay k w) t
  choice_as w t =
      ap (λ (c : ℕ). unwrap_or (choice w t) c) (read (λ x. x.prev_cpu) (λ x. refl) w t)
      ∙ ap (λ (o : Option ℕ). unwrap_or o (task_at (delay k w) t).prev_cpu) (chosen_as w t)

  -- a task that waits too long
  pub overdue_as_well : (w : WorldState) (limit : ℕ) → first_overdue w limit ≡ first_overdue (delay k w) limit
  overdue_as_well w limit = overdue_as k w.clock limit w.tasks

  -- ---- steps

  -- a record is changed
  pub set_task : (g h : Task → Task) → Changes k g h → (w : WorldState) (t : ℕ) → delay k (with_task w t (g (task_at w t))) ≡ with_task (delay k w) t (h (task_at (delay k w) t))
  set_task g h e w t = ap (λ (xs : List Task). with_tasks (delay k w) xs) (set_of k g h e w.tasks t)

  -- one of two, by a test for a task
  if_known : (t : ℕ) (f : WorldState → WorldState) → Delays f → Delays (λ w. cond (nat_lt t (length w.tasks)) (f w) w)
  if_known t f x w = through_if (delay k) (nat_lt t (length w.tasks)) (nat_lt t (length (delay k w).tasks)) (f w) w (f (delay k w)) (delay k w) (known w t) (x w) refl

  -- a step that is made under Linux rules alone
  pub by_linux : (f : WorldState → WorldState) → Delays f → Delays (λ w. cond (is_by_linux w) (f w) w)
  by_linux f x w = through_if (delay k) (is_by_linux w) (is_by_linux (delay k w)) (f w) w (f (delay k w)) (delay k w) (linux_as w) (x w) refl

  -- something is noted
  pub delays_note : (x : What) → Delays (λ w. with_note w x)
  delays_note x w = ap (λ (ns : List Note). record (delay k w) { notes = ns }) (map-append (delayed_note k) w.notes (note_now w x ∷ []))

  -- a task wakes
  pub delays_wake : (t : ℕ) → Delays (λ w. after_wake w t)
  delays_wake t w = set_task (λ x. with_since x (Some w.clock)) (λ x. with_since x (Some (w.clock + k))) (λ x. refl) (with_tree w (tree.with_task w.tree t true)) t

  -- a task goes to sleep
  pub delays_sleep : (t : ℕ) → Delays (λ w. after_sleep w t)
  delays_sleep t = if_known t (λ w. with_tree (with_task w t (with_since (task_at w t) None)) (tree.with_task w.tree t false)) (λ w. set_task (λ x. with_since x None) (λ x. with_since x None) (λ x. refl) (with_tree w (tree.with_task w.tree t false)) t)

  -- a task's processor is that one
  pub delays_homed : (t c : ℕ) → Delays (λ w. homed w t c)
  delays_homed t c = by_linux (λ w. with_task w t (with_home (task_at w t) c)) (λ w. set_task (λ x. with_home x c) (λ x. with_home x c) (λ x. refl) w t)

  delays_homed_at : (t : ℕ) (o : Option ℕ) → Delays (λ w. homed_at w t o)
  delays_homed_at t None w = refl
  delays_homed_at t (Some c) w = delays_homed t c w

  -- a task comes into a local queue
  pub delays_local : (c t : ℕ) → Delays (λ w. after_local w c t)
  delays_local c t = both (λ w. with_queues w (after_push w.queues (local_on c) t Fifo)) (λ w. homed w t c) (λ w. refl) (delays_homed t c)

  -- the task that runs on a processor is preempted
  delays_preempt_of : (c : ℕ) (o : Option ℕ) → Delays (λ w. after_preempt_of w c o)
  delays_preempt_of c None w = refl
  delays_preempt_of c (Some t) w = through_if (delay k) (is_this c w.cycling) (is_this c w.cycling) w _ (delay k w) _ refl refl (set_task (λ x. with_slice x 0) (λ x. with_slice x 0) (λ x. refl) (with_kick w c) t)

  delays_preempt_at : (o : Option ℕ) → Delays (λ w. after_preempt_at w o)
  delays_preempt_at None w = refl
  delays_preempt_at (Some c) w = delays_preempt_of c (running w c) w

  delays_preempt : (i : Insert) → Delays (λ w. after_preempt w i)
  delays_preempt i w = through_if (delay k) i.preempts i.preempts _ w _ (delay k w) refl (delays_preempt_at (local_cpu w i.queue) w) refl

  rank_as : (r : Rank) (w : WorldState) → rank_by w r ≡ rank_by (delay k w) r
  rank_as Fifo w = refl
  rank_as Front w = refl
  rank_as (Vtime n) w = ap (λ (b : Bool). Vtime (cond b ((n + 2 ^ 63) % 2 ^ 64) n)) (linux_as w)

  -- a task goes into a queue
  pub delays_enter : (t : ℕ) (i : Insert) → Delays (λ w. after_enter w t i)
  delays_enter t i = if_known t (λ w. after_preempt (homing t i w) i) (both (homing t i) (λ w. after_preempt w i) (both (pushed t i) (λ w. homed_at w t (local_cpu w i.queue)) pushes (λ w. delays_homed_at t (local_cpu w i.queue) w)) (delays_preempt i))
    where
      pushes : Delays (pushed t i)
      pushes w =
          set_task (λ x. task_after_insert x i) (λ x. task_after_insert x i) (changes_insert k i) (with_queues w (after_push w.queues i.queue t (rank_by w i.rank))) t
          ∙ ap (λ (r : Rank). with_queues (with_task (delay k w) t (task_after_insert (task_at (delay k w) t) i)) (after_push w.queues i.queue t r)) (rank_as i.rank w)

  -- a task is brought from one queue to a local one
  pub delays_brought : (o : Option ℕ) (c : ℕ) → Delays (λ w. brought o w c)
  delays_brought None c w = refl
  delays_brought (Some t) c w = delays_local c t (after_leave w t)

  -- a local queue that is empty is filled
  pub delays_fill : (q c : ℕ) → Delays (λ w. after_fill w q c)
  delays_fill q c w = delays_brought (fill_front w q c) c w

  -- a task leaves its processor
  pub delays_stop : (c t : ℕ) → Delays (λ w. after_stop w c t)
  delays_stop c t w = set_task (λ x. with_since x (Some w.clock)) (λ x. with_since x (Some (w.clock + k))) (λ x. refl) (with_cpu w c None) t

  -- a front comes to a processor
  pub delays_started : (o : Option ℕ) (c : ℕ) → Delays (λ w. started_at o w c)
  delays_started None c w = refl
  delays_started (Some t) c w = set_task (λ x. on_cpu x c) (λ x. on_cpu x c) (λ x. refl) (with_cpu (with_queues w (after_pop w.queues (local_on c))) c (Some t)) t

  -- a task that was picked runs
  pub delays_run : (c t : ℕ) → Delays (λ w. after_run w c t)
  delays_run c t w = set_task (λ x. on_cpu x c) (λ x. on_cpu x c) (λ x. refl) (with_cpu (after_leave w t) c (Some t)) t

  -- a task that begins to run has a longer slice
  pub delays_switch : (t : ℕ) → Delays (λ w. after_switch w t)
  delays_switch t w = set_task (λ x. with_slice x (longer x.slice)) (λ x. with_slice x (longer x.slice)) (λ x. refl) w t

  -- a task has no slice left
  pub delays_cut_off : (t : ℕ) → Delays (λ w. after_cut_off w t)
  delays_cut_off t w = set_task (λ x. with_slice x 0) (λ x. with_slice x 0) (λ x. refl) w t

  -- a processor begins to switch
  pub delays_begin_switch : (c : ℕ) → Delays (λ w. with_switch w c)
  delays_begin_switch c = by_linux (λ w. record w { passing = record w.passing { switching = switch_at w c } }) (λ w. refl)

  delays_by_linux : (o : Option ℕ) → Delays (λ w. cycling_by_linux w o)
  delays_by_linux None w = refl
  delays_by_linux (Some c) w = ap (λ (v : WorldState). record v { cycling = Some c; claimed = but_cpu w.claimed c }) (delays_begin_switch c w)

  -- a cycle begins or ends
  pub delays_cycling : (o : Option ℕ) → Delays (λ w. with_cycling w o)
  delays_cycling o w =
      through_if (delay k) (is_by_linux w) (is_by_linux (delay k w)) (cycling_by_linux w o) (record w { cycling = o }) (cycling_by_linux (delay k w) o) (record (delay k w) { cycling = o }) (linux_as w) (delays_by_linux o w) refl

  -- a task is woken from the processor on which it was last
  pub delays_waker : (t : ℕ) → Delays (λ w. with_waker w (Some (task_at w t).prev_cpu))
  delays_waker t w = ap (λ (c : ℕ). with_waker (delay k w) (Some c)) (read (λ x. x.prev_cpu) (λ x. refl) w t)

  -- a processor is claimed
  pub delays_claim : (o : Option ℕ) → Delays (λ w. after_claim w o)
  delays_claim None w = refl
  delays_claim (Some c) w = through_if (delay k) (is_by_linux w) (is_by_linux (delay k w)) _ w _ (delay k w) (linux_as w) refl refl

  -- a task keeps its processor
  pub delays_keep : (o : Option ℕ) → Delays (λ w. after_keep w o)
  delays_keep None w = refl
  delays_keep (Some t) w = set_task with_new_slice with_new_slice (changes_new_slice k) w t

  -- a task is parked
  pub delays_parked : (t : ℕ) → Delays (λ w. put_parked w t)
  delays_parked t = if_known t (λ w. with_queues (with_task w t (with_since (task_at w t) None)) (after_push w.queues parked_queue t Fifo)) (λ w. set_task (λ x. with_since x None) (λ x. with_since x None) (λ x. refl) (with_queues w (after_push w.queues parked_queue t Fifo)) t)

  -- a task is let go
  pub delays_let_go : (t : ℕ) → Delays (λ w. let_go w t)
  delays_let_go t w = set_task (λ x. with_since x (Some w.clock)) (λ x. with_since x (Some (w.clock + k))) (λ x. refl) (after_leave w t) t

  -- a task has run for a tick
  pub delays_tick : (t : ℕ) → Delays (λ w. after_tick w t)
  delays_tick t w = set_task ran_a_tick ran_a_tick (λ x. refl) w t

  -- its groups have used that
  pub delays_used : (t : ℕ) → Delays (λ w. used_ms w t)
  delays_used t = if_known t (λ w. with_tree w (limits.with_use w.tree t)) (λ w. refl)

  one_more : (n : ℕ) → n + 1 + k ≡ n + k + 1
  one_more n = omega arith

  -- the clock grows
  pub delays_later : Delays later
  delays_later w = ap (λ (n : ℕ). record (delay k w) { clock = n }) (one_more w.clock)

  -- a group gets another weight
  pub delays_reweigh : (g x : ℕ) → Delays (λ w. after_reweigh w g x)
  delays_reweigh g x w = through_if (delay k) (is_none (weight_fault w.tree g x)) (is_none (weight_fault w.tree g x)) _ w _ (delay k w) refl refl refl

  -- a task gets another weight of its own
  pub delays_own_weight : (t x : ℕ) → Delays (λ w. after_own_weight w t x)
  delays_own_weight t x w = through_if (delay k) (is_none (own_weight_fault w.tree t x)) (is_none (own_weight_fault w.tree t x)) _ w _ (delay k w) refl refl refl

  -- ---- the built-in scheduler

  vtime_as : (w : WorldState) (t : ℕ) → builtin_vtime w t ≡ builtin_vtime (delay k w) t
  vtime_as w t = read (λ x. max x.builtin (w.builtin_clock - default_slice)) (λ x. refl) w t

  -- a task waits for the built-in scheduler
  pub delays_put_builtin : (t : ℕ) → Delays (λ w. put_builtin w t)
  delays_put_builtin t = if_known t put one
    where
      put : WorldState → WorldState
      put w = with_queues (with_task w t (with_builtin (with_slice (task_at w t) default_slice) (builtin_vtime w t))) (after_push w.queues builtin_queue t (Vtime (builtin_vtime w t)))

      one : Delays put
      one w =
          let g : Task → Task = λ x. with_builtin (with_slice x default_slice) (max x.builtin (w.builtin_clock - default_slice)) in
          set_task g g (λ x. refl) (with_queues w (after_push w.queues builtin_queue t (Vtime (builtin_vtime w t)))) t
          ∙ ap (λ (n : ℕ). with_queues (with_task (delay k w) t (g (task_at (delay k w) t))) (after_push w.queues builtin_queue t (Vtime n))) (vtime_as w t)

  -- the built-in clock catches up with a task
  pub delays_catch_up : (t : ℕ) → Delays (λ w. after_catch_up w t)
  delays_catch_up t w = ap (λ (n : ℕ). record (delay k w) { builtin_clock = n }) (read (λ x. max w.builtin_clock x.builtin) (λ x. refl) w t)

  -- with so much used by a task of that weight
  abbrev charged : ℕ → Task → Task
  charged weight x = with_builtin x (at_most_64_bits (x.builtin + (default_slice - x.slice) * 100 / max 1 weight))

  -- a task is charged for what it used
  pub delays_charge : (t : ℕ) → Delays (λ w. after_charge w t)
  delays_charge t w =
      set_task (charged (weight_at w t)) (charged (weight_at w t)) (λ x. refl) w t
      ∙ ap (λ (n : ℕ). with_task (delay k w) t (charged n (task_at (delay k w) t))) (weight_as w t)

  -- ---- an ejection

  -- a task goes over to the built-in scheduler
  pub delays_evict : (t : ℕ) → Delays (λ w. evict w t)
  delays_evict t w = through_if (delay k) (waits w t) (waits w t) _ w _ (delay k w) refl (delays_put_builtin t (after_leave w t)) refl

  delays_evictions : (n : ℕ) → Delays (after_evictions n)
  delays_evictions zero w = refl
  delays_evictions (suc n) w = both (after_evictions n) (λ v. evict v n) (delays_evictions n) (delays_evict n) w

  -- all tasks go over
  pub delays_move_over : Delays (λ w. after_evictions (length w.tasks) w)
  delays_move_over w = delays_evictions (length w.tasks) w ∙ ap (λ (n : ℕ). after_evictions n (delay k w)) (as_long (delayed_task k) w.tasks)

  one_note : (n : ℕ) (w : WorldState) → map (delayed_note k) (evict_note w n) ≡ evict_note (delay k w) n
  one_note n w = through_if (map (delayed_note k)) (waits w n) (waits w n) (note_now w (note.Insert n builtin_queue) ∷ []) [] (note_now (delay k w) (note.Insert n builtin_queue) ∷ []) [] refl refl refl

  notes_of : (n : ℕ) (w : WorldState) → map (delayed_note k) (evict_notes n w) ≡ evict_notes n (delay k w)
  notes_of zero w = refl
  notes_of (suc n) w =
      map-append (delayed_note k) (evict_notes n w) (evict_note (after_evictions n w) n)
      ∙ ap (λ (ns : List Note). ns ++ map (delayed_note k) (evict_note (after_evictions n w) n)) (notes_of n w)
      ∙ ap (λ (ns : List Note). evict_notes n (delay k w) ++ ns) (one_note n (after_evictions n w))
      ∙ ap (λ (v : WorldState). evict_notes n (delay k w) ++ evict_note v n) (delays_evictions n w)

  -- and that is noted
  pub move_notes_of : (w : WorldState) → map (delayed_note k) (evict_notes (length w.tasks) w) ≡ evict_notes (length (delay k w).tasks) (delay k w)
  move_notes_of w = notes_of (length w.tasks) w ∙ ap (λ (n : ℕ). evict_notes n (delay k w)) (as_long (delayed_task k) w.tasks)

  delays_cut_task : (o : Option ℕ) → Delays (cut_task o)
  delays_cut_task None w = refl
  delays_cut_task (Some t) w = set_task (λ x. with_slice x (min x.slice default_slice)) (λ x. with_slice x (min x.slice default_slice)) (λ x. refl) w t

  delays_cuts : (n : ℕ) → Delays (after_cut n)
  delays_cuts zero w = refl
  delays_cuts (suc n) w = delays_cut_task (running (after_cut n w) n) (after_cut n w) ∙ ap (λ (v : WorldState). cut_task (running v n) v) (delays_cuts n w)

  -- slices are cut
  pub delays_cut : Delays (λ w. after_cut (length w.cpus) w)
  delays_cut w = delays_cuts (length w.cpus) w
