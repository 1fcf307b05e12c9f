-- Each small step leads from two worlds that are the same but for what is left out to two such worlds: parts of records are
-- left out, and slices of tasks that sleep or are held.
use Rattle.std.proofs.Common.{◌≡◌, ◌++◌, ℕ, zero, suc, ◌+◌, ◌-◌, ◌*◌, ◌/◌, ◌&&◌, min, max, Bool, true, false, cond, nat_lt, is_none, List, length, set, Option, Some, None, unwrap_or, refl, sym, ap, ◌∙◌, subst}
use Rattle.scx_dsq.specs.Calls.{after_create, after_push, after_remove, after_pop}
use Rattle.scx_dsq.specs.Queues.{QueueState, entry_of}
use Rattle.scx_dsq.specs.declared.entries.Rank.TheVariants.{Fifo, Front, Vtime}
use Rattle.scx_dsq.specs.declared.entries.Rank.{Rank}
use Rattle.scx_weights.specs.Hierarchy as tree
use Rattle.scx_weights.specs.Limits as limits
use Rattle.scx_weights.specs.Refusals.{weight_fault, own_weight_fault}
use Rattle.scx_weights.specs.Weights.{task_weight}
use Rattle.scx_sched_tasks.specs.declared.task.Task.{Task}
use Rattle.scx_sched_tasks.specs.Tasks.{default_slice}
use Rattle.scx_sched_tasks.specs.Waits.{is_late, is_overdue}
use Rattle.scx_sched_world.specs.declared.call.Insert.{Insert}
use Rattle.scx_sched_world.specs.declared.notes.Note.{Note}
use Rattle.scx_sched_world.specs.CpuSets.{but_cpu}
use Rattle.scx_sched_world.specs.Ids.{builtin_queue, parked_queue, local_on}
use Rattle.scx_sched_world.specs.World.{WorldState, nothing_passes, with_switch, switch_at, cycling_by_linux, with_cycling, with_waker, with_queues, with_tree, task_at, with_task, is_throttled, waits, running, with_cpu, with_kick, is_by_linux, is_this, is_free_for, lowest_cpu, free_choice, choice, default_choice, after_claim}
use Rattle.scx_sched_world.specs.Tasks.{with_since, with_slice, with_home, with_builtin, task_after_insert, after_wake, after_sleep, after_leave, homed, local_cpu, homed_at, after_local, rank_by, after_preempt_of, after_preempt_at, after_preempt, after_enter, brought, after_stop, on_cpu, started_at, after_run, longer, after_switch, after_cut_off, with_new_slice, after_keep, put_parked, let_go, ran_a_tick, after_tick, used_ms, after_reweigh, after_own_weight}
use Rattle.scx_sched_world.specs.Waits.{first_overdue}
use Rattle.scx_sched_world.specs.Helpers.{weight_at, group_at}
use Rattle.scx_sched_world.specs.Ejecting.{builtin_vtime, put_builtin, after_catch_up, at_most_64_bits, after_charge, evict, after_evictions, evict_note, evict_notes, cut_task, after_cut}
use Rattle.scx_explore_findings.specs.Hidden.{since_unless, hidden_in, with_tasks}
use Rattle.scx_explore_findings.specs.IdleSlices.{is_put_nowhere, is_idle_of, sliceless_if}
use Rattle.scx_explore_findings.proofs.Records.{alike_if, Keeps, keeps_since, keeps_slice, keeps_slice_by, keeps_home, keeps_on_cpu, keeps_numbers, keeps_new_slice, keeps_tick, keeps_insert}
use Rattle.scx_explore_findings.proofs.IdleRecords.{bits, shown_if, Keeps as KeepsSliceless, keeps_if_so, keeps_new_slice as sliceless_new_slice, keeps_insert as sliceless_insert, given_anew}
use Rattle.scx_explore_findings.proofs.Leaving.{pushed, homing}
use Rattle.scx_explore_findings.proofs.Omitting.{Omitted, omit, less, twice, set_alike, read_at, length_same, first_same}
use Rattle.scx_explore_findings.proofs.IdleTasks.{removed_still, popped_still, created_still, pushed_apart, pushed_held, off_still, another, still, out_busy, not_that, MayEnter, Given, Held, Out}

module _ (h : Omitted) where
  -- of two worlds all is the same but for what is left out
  abbrev pub Same : WorldState → WorldState → Type 0
  Same v w = omit h v ≡ omit h w

  -- a step doesn't depend on what is left out
  abbrev pub Hides : (WorldState → WorldState) → Type 0
  Hides f = (w : WorldState) → Same (f w) (f (omit h w))

  -- leaving it out once more changes nothing
  pub plain : (w : WorldState) → Same w (omit h w)
  plain w = ap (λ (xs : List Task). with_tasks w xs) (twice h.parts (is_idle_of h.idle w) (is_idle_of h.idle w) w.tasks (λ t e. e))

  -- such a step leads from two worlds that are the same to two that are the same
  pub across : (f : WorldState → WorldState) → Hides f → (v w : WorldState) → Same v w → Same (f v) (f w)
  across f k v w e = k v ∙ ap (λ (u : WorldState). omit h (f u)) e ∙ sym (k w)

  -- one step after another
  pub both : (f g : WorldState → WorldState) → Hides f → Hides g → Hides (λ w. g (f w))
  both f g k l w = across g l (f w) (f (omit h w)) (k w)

  -- ---- what is read

  -- what is the same of each record without all that is read alike of a task
  pub read : {A : Type 0} (f : Task → A) → ((x : Task) → f x ≡ f (hidden_in h.parts x)) → ((x : Task) → f x ≡ f (with_slice x 0)) → (w : WorldState) (t : ℕ) → f (task_at w t) ≡ f (task_at (omit h w) t)
  read f k l w t = shown_if f l (is_idle_of h.idle w t) (task_at w t) ∙ read_at h.parts f k (is_idle_of h.idle w) w.tasks t

  -- of a task that isn't idle its slice is too
  pub read_busy : {A : Type 0} (f : Task → A) → ((x : Task) → f x ≡ f (hidden_in h.parts x)) → (w : WorldState) (t : ℕ) → is_idle_of h.idle w t ≡ false → f (task_at w t) ≡ f (task_at (omit h w) t)
  read_busy f k w t e = ap (λ (b : Bool). f (sliceless_if b (task_at w t))) (sym e) ∙ read_at h.parts f k (is_idle_of h.idle w) w.tasks t

  -- whether there is such a task
  pub known : (w : WorldState) (t : ℕ) → nat_lt t (length w.tasks) ≡ nat_lt t (length (omit h w).tasks)
  known w t = ap (λ (n : ℕ). nat_lt t n) (length_same h.parts (is_idle_of h.idle w) w.tasks)

  -- whether a task may not run
  pub throttled_same : (w : WorldState) (t : ℕ) → is_throttled w t ≡ is_throttled (omit h w) t
  throttled_same w t = ap (λ (b : Bool). b && limits.is_throttled w.tree t) (known w t)

  -- the weight of a task
  pub weight_same : (w : WorldState) (t : ℕ) → weight_at w t ≡ weight_at (omit h w) t
  weight_same w t = ap (λ (b : Bool). cond b (task_weight w.tree t) 0) (known w t)

  -- the group of a task
  pub group_same : (w : WorldState) (t : ℕ) → group_at w t ≡ group_at (omit h w) t
  group_same w t = ap (λ (b : Bool). cond b (tree.home_of w.tree t) 0) (known w t)

  -- the processor that is free for a task, if one is
  free_choice_same : (w : WorldState) (t : ℕ) → free_choice w t ≡ free_choice (omit h w) t
  free_choice_same w t = ap (λ (c : ℕ). cond (is_free_for w t c) (Some c) (lowest_cpu w (is_free_for w t))) (read (λ x. x.prev_cpu) (λ x. refl) (λ x. refl) w t)

  -- the processor that is chosen, if one is
  pub chosen_same : (w : WorldState) (t : ℕ) → choice w t ≡ choice (omit h w) t
  chosen_same w t = ap (λ (o : Option ℕ). cond w.tracks_idle o None) (free_choice_same w t)

  -- the processor that is chosen by default
  pub choice_same : (w : WorldState) (t : ℕ) → default_choice w t ≡ default_choice (omit h w) t
  choice_same w t =
      ap (λ (c : ℕ). unwrap_or (choice w t) c) (read (λ x. x.prev_cpu) (λ x. refl) (λ x. refl) w t)
      ∙ ap (λ (o : Option ℕ). unwrap_or o (task_at (omit h w) t).prev_cpu) (chosen_same w t)

  -- a task that waits too long, if waits aren't hidden
  pub overdue_same : h.parts.waits ≡ false → (w : WorldState) (limit : ℕ) → first_overdue w limit ≡ first_overdue (omit h w) limit
  overdue_same e w limit = first_same h.parts (is_overdue w.clock limit) (λ x. ap (λ (b : Bool). is_late w.clock limit (since_unless b x.since)) (sym e)) (λ x. refl) (is_idle_of h.idle w) w.tasks

  -- ---- steps

  -- a record is changed
  pub set_task : (g : Task → Task) → Keeps h.parts g → KeepsSliceless g → (w : WorldState) (t : ℕ) → Same (with_task w t (g (task_at w t))) (with_task (omit h w) t (g (task_at (omit h w) t)))
  set_task g keeps k w t =
      ap (λ (xs : List Task). with_tasks w xs)
      (set_alike h.parts (is_idle_of h.idle w) (is_idle_of h.idle w) g keeps w.tasks t (λ u n e. e) (λ x. keeps_if_so g k (is_idle_of h.idle w t) x))

  -- that of a task which isn't idle is, whatever its slice is made of
  pub set_busy : (g : Task → Task) → Keeps h.parts g → (w : WorldState) (t : ℕ) → is_idle_of h.idle w t ≡ false → Same (with_task w t (g (task_at w t))) (with_task (omit h w) t (g (task_at (omit h w) t)))
  set_busy g keeps w t busy =
      ap (λ (xs : List Task). with_tasks w xs)
      (set_alike h.parts (is_idle_of h.idle w) (is_idle_of h.idle w) g keeps w.tasks t (λ u n e. e) (λ x. ap (λ (b : Bool). sliceless_if (is_idle_of h.idle w t) (g (sliceless_if b x))) (sym busy)))

  -- where tasks that were idle are idle still nothing else is to be shown
  pub moves : (p : ℕ → Bool) (v : WorldState) → ((t : ℕ) → p t ≡ true → is_idle_of h.idle v t ≡ true) → Same v (with_tasks v (less h.parts p v.tasks))
  moves p v e = ap (λ (xs : List Task). with_tasks v xs) (twice h.parts p (is_idle_of h.idle v) v.tasks e)

  -- but for one whose record is changed
  set_moved : (p : ℕ → Bool) (g : Task → Task) → Keeps h.parts g → (v : WorldState) (t : ℕ) → ((u : ℕ) → (u ≡ t → ⊥) → p u ≡ true → is_idle_of h.idle v u ≡ true)
      → ((x : Task) → sliceless_if (is_idle_of h.idle v t) (g x) ≡ sliceless_if (is_idle_of h.idle v t) (g (sliceless_if (p t) x)))
      → Same (with_task v t (g (task_at v t))) (with_task (with_tasks v (less h.parts p v.tasks)) t (g (task_at (with_tasks v (less h.parts p v.tasks)) t)))
  set_moved p g keeps v t e k = ap (λ (xs : List Task). with_tasks v xs) (set_alike h.parts p (is_idle_of h.idle v) g keeps v.tasks t e k)

  -- one of two, by a test for a task
  if_known : (t : ℕ) (f : WorldState → WorldState) → Hides f → Hides (λ w. cond (nat_lt t (length w.tasks)) (f w) w)
  if_known t f k w = alike_if (omit h) (nat_lt t (length w.tasks)) (nat_lt t (length (omit h w).tasks)) (f w) (f (omit h w)) w (omit h w) (known w t) (k w) (plain w)

  -- a task leaves its queue
  pub hides_leave : (t : ℕ) → Hides (λ w. after_leave w t)
  hides_leave t w = moves (is_idle_of h.idle w) (after_leave w t) (λ u. still h.idle w w.cpus (after_remove w.queues t) u (λ e. e) (removed_still w.queues t u))

  -- a queue is created
  pub hides_create : (id : ℕ) → Hides (λ w. with_queues w (after_create w.queues id))
  hides_create id w = moves (is_idle_of h.idle w) (with_queues w (after_create w.queues id)) (λ u. still h.idle w w.cpus (after_create w.queues id) u (λ off. off) (created_still w.queues id u))

  -- a task wakes
  pub hides_wake : (t : ℕ) → Hides (λ w. after_wake w t)
  hides_wake t w = set_task (λ x. with_since x (Some w.clock)) (keeps_since h.parts (Some w.clock)) (λ x. refl) (with_tree w (tree.with_task w.tree t true)) t

  -- a task goes to sleep
  pub hides_sleep : (t : ℕ) → Hides (λ w. after_sleep w t)
  hides_sleep t = if_known t (λ w. with_tree (with_task w t (with_since (task_at w t) None)) (tree.with_task w.tree t false)) (λ w. set_task (λ x. with_since x None) (keeps_since h.parts None) (λ x. refl) (with_tree w (tree.with_task w.tree t false)) t)

  -- a step that is made under Linux rules alone
  pub by_linux : (f : WorldState → WorldState) → Hides f → Hides (λ w. cond (is_by_linux w) (f w) w)
  by_linux f k w = alike_if (omit h) (is_by_linux w) (is_by_linux w) (f w) (f (omit h w)) w (omit h w) refl (k w) (plain w)

  -- a task's processor is that one
  pub hides_homed : (t c : ℕ) → Hides (λ w. homed w t c)
  hides_homed t c = by_linux (λ w. with_task w t (with_home (task_at w t) c)) (λ w. set_task (λ x. with_home x c) (keeps_home h.parts c) (λ x. refl) w t)

  hides_homed_at : (t : ℕ) (o : Option ℕ) → Hides (λ w. homed_at w t o)
  hides_homed_at t None w = plain w
  hides_homed_at t (Some c) w = hides_homed t c w

  -- a task goes from its queue, which isn't that of held tasks, to a local one
  pub moved_on : (c t : ℕ) (w : WorldState) → is_idle_of h.idle w t ≡ false → Same (after_local (after_leave w t) c t) (after_local (after_leave (omit h w) t) c t)
  moved_on c t w busy =
      let v = with_queues w (after_push (after_remove w.queues t) (local_on c) t Fifo) in
      across (λ u. homed u t c) (hides_homed t c) v (with_queues (omit h w) (after_push (after_remove w.queues t) (local_on c) t Fifo))
      (moves (is_idle_of h.idle w) v
      (λ u e. still h.idle w w.cpus (after_push (after_remove w.queues t) (local_on c) t Fifo) u (λ off. off) (λ out. pushed_apart (after_remove w.queues t) (local_on c) t Fifo u (not_that h.idle w t u busy e) (removed_still w.queues t u out)) e))

  -- the task that runs on a processor is preempted
  hides_preempt_of : (c : ℕ) (o : Option ℕ) → Hides (λ w. after_preempt_of w c o)
  hides_preempt_of c None w = plain w
  hides_preempt_of c (Some t) w = alike_if (omit h) (is_this c w.cycling) (is_this c w.cycling) w (omit h w) _ _ refl (plain w) (set_task (λ x. with_slice x 0) (keeps_slice h.parts 0) (λ x. refl) (with_kick w c) t)

  hides_preempt_at : (o : Option ℕ) → Hides (λ w. after_preempt_at w o)
  hides_preempt_at None w = plain w
  hides_preempt_at (Some c) w = hides_preempt_of c (running w c) w

  hides_preempt : (i : Insert) → Hides (λ w. after_preempt w i)
  hides_preempt i w = alike_if (omit h) i.preempts i.preempts _ _ w (omit h w) refl (hides_preempt_at (local_cpu w i.queue) w) (plain w)

  rank_same : (r : Rank) (w : WorldState) → rank_by w r ≡ rank_by (omit h w) r
  rank_same Fifo w = refl
  rank_same Front w = refl
  rank_same (Vtime n) w = refl

  -- a task goes into a queue
  pub hides_enter : (t : ℕ) (i : Insert) → MayEnter h.idle t i → Hides (λ w. after_enter w t i)
  hides_enter t i may = if_known t (λ w. after_preempt (homing t i w) i) (both (homing t i) (λ w. after_preempt w i) (both (pushed t i) (λ w. homed_at w t (local_cpu w i.queue)) pushes (λ w. hides_homed_at t (local_cpu w i.queue) w)) (hides_preempt i))
    where
      inserted : Task → Task
      inserted x = task_after_insert x i

      in_queue : WorldState → WorldState
      in_queue w = with_queues w (after_push w.queues i.queue t (rank_by w i.rank))

      others : (w : WorldState) (u : ℕ) → (u ≡ t → ⊥) → is_idle_of h.idle w u ≡ true → is_idle_of h.idle (in_queue w) u ≡ true
      others w u n e = still h.idle w w.cpus (after_push w.queues i.queue t (rank_by w i.rank)) u (λ off. off) (pushed_apart w.queues i.queue t (rank_by w i.rank) u n) e

      itself : (w : WorldState) → MayEnter h.idle t i → (x : Task) → sliceless_if (is_idle_of h.idle (in_queue w) t) (inserted x) ≡ sliceless_if (is_idle_of h.idle (in_queue w) t) (inserted (sliceless_if (is_idle_of h.idle w t) x))
      itself w (Given e) x = ap (sliceless_if (is_idle_of h.idle (in_queue w) t)) (given_anew i e (is_idle_of h.idle w t) x)
      itself w (Out e) x = ap (λ (b : Bool). sliceless_if (is_idle_of h.idle (in_queue w) t) (inserted (sliceless_if b x))) (sym (out_busy h.idle w t e))
      itself w (Held e) x = go (is_idle_of h.idle w t) refl
        where
          held : is_idle_of h.idle w t ≡ true → is_idle_of h.idle (in_queue w) t ≡ true
          held idle =
              still h.idle w w.cpus (after_push w.queues i.queue t (rank_by w i.rank)) t (λ off. off)
              (λ out. subst (λ (q : ℕ). is_put_nowhere (entry_of (after_push w.queues q t (rank_by w i.rank)) t) ≡ true) (sym (ap (λ (j : Insert). j.queue) e)) (pushed_held w.queues t (rank_by w i.rank) t out)) idle

          go : (b : Bool) → is_idle_of h.idle w t ≡ b → sliceless_if (is_idle_of h.idle (in_queue w) t) (inserted x) ≡ sliceless_if (is_idle_of h.idle (in_queue w) t) (inserted (sliceless_if b x))
          go false is = refl
          go true is = subst (λ (b : Bool). sliceless_if b (inserted x) ≡ sliceless_if b (inserted (with_slice x 0))) (sym (held is)) (sliceless_insert i x)

      pushes : Hides (pushed t i)
      pushes w =
          set_moved (is_idle_of h.idle w) inserted (keeps_insert h.parts i) (in_queue w) t (others w) (itself w may)
          ∙ ap (λ (r : Rank). omit h (with_queues (with_task (omit h w) t (inserted (task_at (omit h w) t))) (after_push w.queues i.queue t r))) (rank_same i.rank w)

  -- a task is brought from one queue to a local one
  pub hides_brought : (o : Option ℕ) (c : ℕ) (w : WorldState) → ((t : ℕ) → o ≡ Some t → is_idle_of h.idle w t ≡ false) → Same (brought o w c) (brought o (omit h w) c)
  hides_brought None c w busy = plain w
  hides_brought (Some t) c w busy = moved_on c t w (busy t refl)

  -- a task leaves its processor
  pub hides_stop : (c t : ℕ) → Hides (λ w. after_stop w c t)
  hides_stop c t w =
      set_moved (is_idle_of h.idle w) (λ x. with_since x (Some w.clock)) (keeps_since h.parts (Some w.clock)) (with_cpu w c None) t (λ u n e. stays u e) (λ x. itself (is_idle_of h.idle w t) (is_idle_of h.idle (with_cpu w c None) t) (stays t) x)
    where
      stays : (u : ℕ) → is_idle_of h.idle w u ≡ true → is_idle_of h.idle (with_cpu w c None) u ≡ true
      stays u e = still h.idle w (set w.cpus c None) w.queues u (off_still u w.cpus c None refl) (λ out. out) e

      itself : (a b : Bool) → (a ≡ true → b ≡ true) → (x : Task) → sliceless_if b (with_since x (Some w.clock)) ≡ sliceless_if b (with_since (sliceless_if a x) (Some w.clock))
      itself false b e x = refl
      itself true true e x = refl
      itself true false e x = absurd (bits false (e refl) refl)

  -- a task that isn't idle runs
  runs_now : (c t : ℕ) (s : QueueState) (w : WorldState) → is_idle_of h.idle w t ≡ false → ((u : ℕ) → is_put_nowhere (entry_of w.queues u) ≡ true → is_put_nowhere (entry_of s u) ≡ true)
      → Same (with_cpu (with_task (with_queues w s) t (on_cpu (task_at w t) c)) c (Some t)) (with_cpu (with_task (with_queues (omit h w) s) t (on_cpu (task_at (omit h w) t) c)) c (Some t))
  runs_now c t s w busy out =
      let v = with_cpu (with_queues w s) c (Some t) in
      set_moved (is_idle_of h.idle w) (λ x. on_cpu x c) (keeps_on_cpu h.parts c) v t
      (λ u n e. still h.idle w (set w.cpus c (Some t)) s u (off_still u w.cpus c (Some t) (another u t n)) (out u) e)
      (λ x. ap (λ (b : Bool). sliceless_if (is_idle_of h.idle v t) (on_cpu (sliceless_if b x) c)) (sym busy))

  -- a front comes to a processor
  pub hides_started : (t c : ℕ) (w : WorldState) → is_idle_of h.idle w t ≡ false → Same (started_at (Some t) w c) (started_at (Some t) (omit h w) c)
  hides_started t c w busy = runs_now c t (after_pop w.queues (local_on c)) w busy (popped_still w.queues (local_on c))

  -- a task that was picked runs
  pub hides_run : (c t : ℕ) (w : WorldState) → is_idle_of h.idle w t ≡ false → Same (after_run w c t) (after_run (omit h w) c t)
  hides_run c t w busy = runs_now c t (after_remove w.queues t) w busy (removed_still w.queues t)

  -- a task that begins to run has a longer slice
  pub hides_switch : (t : ℕ) → Hides (λ w. after_switch w t)
  hides_switch t w = set_task (λ x. with_slice x (longer x.slice)) (keeps_slice_by h.parts longer) (λ x. refl) w t

  -- a task has no slice left
  pub hides_cut_off : (t : ℕ) → Hides (λ w. after_cut_off w t)
  hides_cut_off t w = set_task (λ x. with_slice x 0) (keeps_slice h.parts 0) (λ x. refl) w t

  -- a processor begins to switch
  pub hides_begin_switch : (c : ℕ) → Hides (λ w. with_switch w c)
  hides_begin_switch c = by_linux (λ w. record w { passing = record w.passing { switching = switch_at w c } }) (λ w. plain (record w { passing = record w.passing { switching = switch_at w c } }))

  hides_by_linux : (o : Option ℕ) → Hides (λ w. cycling_by_linux w o)
  hides_by_linux None w = plain (record w { cycling = None; passing = nothing_passes })
  hides_by_linux (Some c) w =
      across (λ v. record v { cycling = Some c; claimed = but_cpu w.claimed c }) (λ v. plain (record v { cycling = Some c; claimed = but_cpu w.claimed c })) (with_switch w c) (with_switch (omit h w) c) (hides_begin_switch c w)

  -- a cycle begins or ends
  pub hides_cycling : (o : Option ℕ) → Hides (λ w. with_cycling w o)
  hides_cycling o w =
      alike_if (omit h) (is_by_linux w) (is_by_linux w) (cycling_by_linux w o) (cycling_by_linux (omit h w) o) (record w { cycling = o }) (record (omit h w) { cycling = o }) refl
      (hides_by_linux o w) (plain (record w { cycling = o }))

  -- a task is woken from the processor on which it was last
  pub hides_waker : (t : ℕ) → Hides (λ w. with_waker w (Some (task_at w t).prev_cpu))
  hides_waker t w =
      plain (with_waker w (Some (task_at w t).prev_cpu))
      ∙ ap (λ (c : ℕ). omit h (with_waker (omit h w) (Some c))) (read (λ x. x.prev_cpu) (λ x. refl) (λ x. refl) w t)

  -- a processor is claimed
  pub hides_claim : (o : Option ℕ) → Hides (λ w. after_claim w o)
  hides_claim None w = plain w
  hides_claim (Some c) w = alike_if (omit h) (is_by_linux w) (is_by_linux w) _ _ w (omit h w) refl (plain _) (plain w)

  -- a task keeps its processor
  pub hides_keep : (o : Option ℕ) → Hides (λ w. after_keep w o)
  hides_keep None w = plain w
  hides_keep (Some t) w = set_task with_new_slice (keeps_new_slice h.parts) sliceless_new_slice w t

  -- a task that isn't idle is parked, from wherever it is, as it leaves its queue
  parks : (s : QueueState) (t : ℕ) (w : WorldState) → is_idle_of h.idle w t ≡ false → ((u : ℕ) → is_put_nowhere (entry_of w.queues u) ≡ true → is_put_nowhere (entry_of s u) ≡ true)
      → Same (put_parked (with_queues w s) t) (put_parked (with_queues (omit h w) s) t)
  parks s t w busy out =
      let v = with_queues w (after_push s parked_queue t Fifo) in
      alike_if (omit h) (nat_lt t (length w.tasks)) (nat_lt t (length (omit h w).tasks)) _ _ (with_queues w s) (with_queues (omit h w) s) (known w t)
      (set_moved (is_idle_of h.idle w) (λ x. with_since x None) (keeps_since h.parts None) v t
      (λ u n e. still h.idle w w.cpus (after_push s parked_queue t Fifo) u (λ off. off) (λ k. pushed_apart s parked_queue t Fifo u n (out u k)) e)
      (λ x. ap (λ (b : Bool). sliceless_if (is_idle_of h.idle v t) (with_since (sliceless_if b x) None)) (sym busy)))
      (moves (is_idle_of h.idle w) (with_queues w s) (λ u e. still h.idle w w.cpus s u (λ off. off) (out u) e))

  -- a task is parked
  pub hides_parked : (t : ℕ) → h.idle t ≡ false → Hides (λ w. put_parked w t)
  hides_parked t out w = parks w.queues t w (out_busy h.idle w t out) (λ u k. k)

  -- and one that leaves its queue
  pub hides_parked_from : (t : ℕ) (w : WorldState) → is_idle_of h.idle w t ≡ false → Same (put_parked (after_leave w t) t) (put_parked (after_leave (omit h w) t) t)
  hides_parked_from t w busy = parks (after_remove w.queues t) t w busy (removed_still w.queues t)

  -- a task is let go
  pub hides_let_go : (t : ℕ) → Hides (λ w. let_go w t)
  hides_let_go t = both (λ w. with_task w t (with_since (task_at w t) (Some w.clock))) (λ w. after_leave w t) (λ w. set_task (λ x. with_since x (Some w.clock)) (keeps_since h.parts (Some w.clock)) (λ x. refl) w t) (hides_leave t)

  -- a task has run for a tick
  pub hides_tick : (t : ℕ) → Hides (λ w. after_tick w t)
  hides_tick t w = set_task ran_a_tick (keeps_tick h.parts) (λ x. refl) w t

  -- its groups have used that
  pub hides_used : (t : ℕ) → Hides (λ w. used_ms w t)
  hides_used t = if_known t (λ w. with_tree w (limits.with_use w.tree t)) (λ w. plain (with_tree w (limits.with_use w.tree t)))

  -- a group gets another weight
  pub hides_reweigh : (g x : ℕ) → Hides (λ w. after_reweigh w g x)
  hides_reweigh g x w = alike_if (omit h) (is_none (weight_fault w.tree g x)) (is_none (weight_fault w.tree g x)) _ _ w (omit h w) refl (plain (with_tree w (tree.with_weight w.tree g x))) (plain w)

  -- a task gets another weight of its own
  pub hides_own_weight : (t x : ℕ) → Hides (λ w. after_own_weight w t x)
  hides_own_weight t x w = alike_if (omit h) (is_none (own_weight_fault w.tree t x)) (is_none (own_weight_fault w.tree t x)) _ _ w (omit h w) refl (plain (with_tree w (tree.with_own_weight w.tree t x))) (plain w)

  -- ---- the built-in scheduler

  vtime_same : (w : WorldState) (t : ℕ) → builtin_vtime w t ≡ builtin_vtime (omit h w) t
  vtime_same w t = read (λ x. max x.builtin (w.builtin_clock - default_slice)) (λ x. refl) (λ x. refl) w t

  -- a task waits for the built-in scheduler
  pub hides_put_builtin : (t : ℕ) → Hides (λ w. put_builtin w t)
  hides_put_builtin t = if_known t put one
    where
      put : WorldState → WorldState
      put w = with_queues (with_task w t (with_builtin (with_slice (task_at w t) default_slice) (builtin_vtime w t))) (after_push w.queues builtin_queue t (Vtime (builtin_vtime w t)))

      given : ℕ → Task → Task
      given n x = with_builtin (with_slice x default_slice) (max x.builtin n)

      keeps_given : (n : ℕ) → Keeps h.parts (given n)
      keeps_given n = keeps_numbers h.parts (λ x. default_slice) (λ x. max x.builtin n) (λ x. refl) (λ x. refl)

      anew : (a b : Bool) (n : ℕ) (x : Task) → sliceless_if b (given n x) ≡ sliceless_if b (given n (sliceless_if a x))
      anew true b n x = refl
      anew false b n x = refl

      one : Hides put
      one w =
          let s = after_push w.queues builtin_queue t (Vtime (builtin_vtime w t)) in
          let n = w.builtin_clock - default_slice in
          set_moved (is_idle_of h.idle w) (given n) (keeps_given n) (with_queues w s) t
          (λ u l e. still h.idle w w.cpus s u (λ off. off) (pushed_apart w.queues builtin_queue t (Vtime (builtin_vtime w t)) u l) e)
          (λ x. anew (is_idle_of h.idle w t) (is_idle_of h.idle (with_queues w s) t) n x)
          ∙ ap (λ (n : ℕ). omit h (with_queues (with_task (omit h w) t (given (w.builtin_clock - default_slice) (task_at (omit h w) t))) (after_push w.queues builtin_queue t (Vtime n)))) (vtime_same w t)

  -- the built-in clock catches up with a task
  pub hides_catch_up : (t : ℕ) → Hides (λ w. after_catch_up w t)
  hides_catch_up t w = plain (after_catch_up w t) ∙ ap (λ (n : ℕ). omit h (record (omit h w) { builtin_clock = n })) (read (λ x. max w.builtin_clock x.builtin) (λ x. refl) (λ x. refl) w t)

  -- with so much used by a task of that weight
  abbrev charged : ℕ → Task → Task
  charged weight x = with_builtin x (at_most_64_bits (x.builtin + (default_slice - x.slice) * 100 / max 1 weight))

  keeps_charged : (n : ℕ) → Keeps h.parts (charged n)
  keeps_charged n x = keeps_numbers h.parts (λ y. y.slice) (λ y. at_most_64_bits (y.builtin + (default_slice - y.slice) * 100 / max 1 n)) (λ y. refl) (λ y. refl) x

  -- a task is charged for what it used, if it isn't one of those
  pub hides_charge : (t : ℕ) → h.idle t ≡ false → Hides (λ w. after_charge w t)
  hides_charge t out w =
      set_busy (charged (weight_at w t)) (keeps_charged (weight_at w t)) w t (out_busy h.idle w t out)
      ∙ ap (λ (n : ℕ). omit h (with_task (omit h w) t (charged n (task_at (omit h w) t)))) (weight_same w t)

  -- ---- an ejection

  -- a task goes over to the built-in scheduler
  pub hides_evict : (t : ℕ) → Hides (λ w. evict w t)
  hides_evict t w = alike_if (omit h) (waits w t) (waits w t) _ _ w (omit h w) refl (both (λ v. after_leave v t) (λ v. put_builtin v t) (hides_leave t) (hides_put_builtin t) w) (plain w)

  hides_evictions : (n : ℕ) → Hides (after_evictions n)
  hides_evictions zero w = plain w
  hides_evictions (suc n) w = both (after_evictions n) (λ v. evict v n) (hides_evictions n) (hides_evict n) w

  -- all tasks go over
  pub hides_move_over : Hides (λ w. after_evictions (length w.tasks) w)
  hides_move_over w = hides_evictions (length w.tasks) w ∙ ap (λ (n : ℕ). omit h (after_evictions n (omit h w))) (length_same h.parts (is_idle_of h.idle w) w.tasks)

  notes_same : (n : ℕ) (w : WorldState) → evict_notes n w ≡ evict_notes n (omit h w)
  notes_same zero w = refl
  notes_same (suc n) w =
      ap (λ (ns : List Note). ns ++ evict_note (after_evictions n w) n) (notes_same n w)
      ∙ ap (λ (v : WorldState). evict_notes n (omit h w) ++ evict_note v n) (hides_evictions n w)

  -- and that is noted alike
  pub move_notes_same : (w : WorldState) → evict_notes (length w.tasks) w ≡ evict_notes (length (omit h w).tasks) (omit h w)
  move_notes_same w = notes_same (length w.tasks) w ∙ ap (λ (n : ℕ). evict_notes n (omit h w)) (length_same h.parts (is_idle_of h.idle w) w.tasks)

  hides_cut_task : (o : Option ℕ) → Hides (cut_task o)
  hides_cut_task None w = plain w
  hides_cut_task (Some t) w = set_task (λ x. with_slice x (min x.slice default_slice)) (λ x. keeps_slice h.parts (min x.slice default_slice) x) (λ x. refl) w t

  hides_cuts : (n : ℕ) → Hides (after_cut n)
  hides_cuts zero w = plain w
  hides_cuts (suc n) w = both (after_cut n) (λ v. cut_task (running v n) v) (hides_cuts n) (λ v. hides_cut_task (running v n) v) w

  -- slices are cut
  pub hides_cut : Hides (λ w. after_cut (length w.cpus) w)
  hides_cut w = hides_cuts (length w.cpus) w
