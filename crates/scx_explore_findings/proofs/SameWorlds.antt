-- Each small step leads from two worlds that are the same but for unread parts to two such worlds.
use Rattle.std.proofs.Common.{◌≡◌, ℕ, zero, suc, set, get_or, is_some, ◌&&◌, ◌||◌, Bool, true, false, cond, nat_lt, is_none, List, [], ◌∷◌, ◌++◌, length, Option, Some, None, refl, sym, ap, ◌∙◌, subst}
use Rattle.std.specs.List.{list_any}
use Rattle.scx_dsq.specs.declared.entries.Rank.{Rank}
use Rattle.scx_dsq.specs.declared.entries.Rank.TheVariants.{Fifo, Front, Vtime}
use Rattle.scx_dsq.specs.Queues.{QueueState, only, len_of}
use Rattle.scx_dsq.specs.Calls.{after_push, after_pop, after_remove}
use Rattle.scx_weights.specs.Hierarchy as tree
use Rattle.scx_weights.specs.Hierarchy.{Hierarchy, is_in_mask}
use Rattle.scx_weights.specs.Limits as limits
use Rattle.scx_weights.specs.Limits.{has_quota}
use Rattle.scx_weights.specs.declared.group.Group.{Group}
use Rattle.scx_weights.specs.Refusals.{weight_fault, own_weight_fault}
use Rattle.scx_sched_world.specs.declared.call.Insert.{Insert}
use Rattle.scx_sched_world.specs.declared.notes.Note.{Note}
use Rattle.scx_sched_world.specs.declared.notes.What.TheVariants as note
use Rattle.scx_sched_world.specs.CpuSets.{and_cpu, but_cpu}
use Rattle.scx_isa_semantics.specs.declared.callbacks.Callback.{Callback}
use Rattle.scx_sched_world.specs.declared.call.Call.{Call}
use Rattle.scx_sched_world.specs.declared.cpu_set.CpuSet.{CpuSet}
use Rattle.scx_sched_world.specs.Ids.{builtin_queue, parked_queue, local_on}
use Rattle.scx_sched_world.specs.World.{WorldState, with_waker, nothing_passes, with_switch, switch_at, cycling_by_linux, with_cycling, with_queues, with_tree, task_at, with_task, waits_in, waits, running, with_cpu, with_kick, is_by_linux, is_this, binds, after_claim, at_callback, is_throttled, note_now}
use Rattle.scx_sched_world.specs.Tasks.{with_since, with_slice, with_home, after_wake, after_sleep, after_stop, after_switch, after_cut_off, after_tick, after_leave, homed, local_cpu, homed_at, after_local, task_after_insert, rank_by, after_preempt_of, after_preempt_at, after_preempt, after_enter, seen_from, next_for, brought, fill_front, after_fill, on_cpu, started_at, after_run, after_keep, put_parked, let_go, used_ms, after_reweigh, after_own_weight}
use Rattle.scx_sched_world.specs.Ejecting.{after_catch_up, after_charge, builtin_vtime, put_builtin, evict, after_evictions, evict_note, evict_notes, cut_task, after_cut}
use Rattle.scx_sched_tasks.specs.Tasks.{default_slice}
use Rattle.scx_sched_world.specs.Tasks.{with_builtin}
use Rattle.scx_explore_findings.specs.QueueOrder.{AreAsQueues}
use Rattle.scx_explore_findings.specs.UnreadParts.{Parts, AreAsWorlds, Fits, parts_of, with_parts}
use Rattle.scx_explore_findings.proofs.SameQueues.{choose_same, queue_same, len_same, front_same, only_same, push_same, remove_same, pop_same}

-- ---- groups

-- true is true
abbrev IsTrue : Bool → Type 0
IsTrue true = Unit {0}
IsTrue false = ⊥

pub true_isnt_false : true ≡ false → ⊥
true_isnt_false e = subst IsTrue e tt

any_set : (p : Group → Bool) (xs : List Group) (i : ℕ) (x d : Group) → p x ≡ p (get_or xs i d) → list_any p (set xs i x) ≡ list_any p xs
any_set p [] i x d e = refl
any_set p (y ∷ xs) zero x d e = ap (λ b. b || list_any p xs) e
any_set p (y ∷ xs) (suc i) x d e = ap (λ b. p y || b) (any_set p xs i x d e)

-- a group has a quota as it had one before
weight_keeps_quota : (groups : List Group) (g x : ℕ) → has_quota (tree.with_weight_of groups g x) ≡ has_quota groups
weight_keeps_quota groups g x = any_set (λ (group : Group). is_some group.quota_ms) groups g _ _ refl

left_false : (b c : Bool) → (b || c) ≡ false → b ≡ false
left_false true c e = e
left_false false c e = refl

right_false : (b c : Bool) → (b || c) ≡ false → c ≡ false
right_false true c e = absurd (true_isnt_false e)
right_false false c e = e

no_number : (o : Option ℕ) → is_some o ≡ false → o ≡ None
no_number None e = refl
no_number (Some n) e = absurd (true_isnt_false e)

-- where no group has a quota, none has one
no_quota : (groups : List Group) (g : ℕ) → has_quota groups ≡ false → tree.quota_at groups g ≡ None
no_quota [] g e = refl
no_quota (x ∷ groups) zero e = no_number x.quota_ms (left_false (is_some x.quota_ms) (has_quota groups) e)
no_quota (x ∷ groups) (suc g) e = no_quota groups g (right_false (is_some x.quota_ms) (has_quota groups) e)

any_again : (f g : ℕ → Bool) → ((n : ℕ) → f n ≡ g n) → (xs : List ℕ) → list_any f xs ≡ list_any g xs
any_again f g e [] = refl
any_again f g e (x ∷ xs) = ap (λ b. b || list_any f xs) (e x) ∙ ap (λ b. g x || b) (any_again f g e xs)

-- a task is throttled whatever usages are, unless a group has a quota
throttled_tree : (x : Hierarchy) (us : List ℕ) → (has_quota x.groups ≡ true → x.usages ≡ us) → (k : ℕ) → limits.is_throttled x k ≡ limits.is_throttled (record x { usages = us }) k
throttled_tree x us same k = go (has_quota x.groups) refl
  where
    go : (b : Bool) → has_quota x.groups ≡ b → limits.is_throttled x k ≡ limits.is_throttled (record x { usages = us }) k
    go true e = ap (λ (vs : List ℕ). limits.is_throttled (record x { usages = vs }) k) (same e)
    go false e =
        any_again (λ g. limits.is_throttled_group x g) (λ g. limits.is_throttled_group (record x { usages = us }) g)
        (λ g. ap (λ (o : Option ℕ). limits.is_used_up o (limits.usage_of x g)) (no_quota x.groups g e) ∙ sym (ap (λ (o : Option ℕ). limits.is_used_up o (limits.usage_of (record x { usages = us }) g)) (no_quota x.groups g e)))
        (tree.path x.groups (tree.home_of x k))

-- ---- how small steps are made of others

-- a step leads from two worlds that are the same but for unread parts to two such worlds
abbrev pub Skips : Bool → (WorldState → WorldState) → Type 0
Skips b f = (w : WorldState) (z : Parts) → Fits b w z → AreAsWorlds b (f w) (f (with_parts w z))

module _ {b : Bool} where
  -- a step that changes no unread part
  pub plain : (w : WorldState) (z : Parts) → Fits b w z → AreAsWorlds b w (with_parts w z)
  plain w z m = record { parts = m; rest = refl }

  -- with other queues that are the same but for order numbers
  pub requeued : (w : WorldState) (x y : QueueState) (z : Parts) → Fits b w z → AreAsQueues x y → AreAsWorlds b (with_queues w x) (with_queues (with_parts w z) y)
  requeued w x y z m k = record {
    parts = record { queues = k; call = m.call; kicked = m.kicked; preempted = m.preempted; usages = m.usages };
    rest = refl;
  }

  -- the callback at hand is changed alike
  pub recalled : (f : Call → Call) (w : WorldState) (z : Parts) → Fits b w z → AreAsWorlds b (record w { call = f w.call }) (record (with_parts w z) { call = f z.call })
  recalled f w z m = record {
    parts = record { queues = m.queues; call = λ e. ap f (m.call e); kicked = m.kicked; preempted = m.preempted; usages = m.usages };
    rest = refl;
  }

  -- kicks are changed alike
  pub rekicked : (f g : CpuSet → CpuSet) (w : WorldState) (z : Parts) → Fits b w z → AreAsWorlds b (record w { kicked = f w.kicked; preempted = g w.preempted }) (record (with_parts w z) { kicked = f z.kicked; preempted = g z.preempted })
  rekicked f g w z m = record {
    parts = record { queues = m.queues; call = m.call; kicked = λ e. ap f (m.kicked e); preempted = λ e. ap g (m.preempted e); usages = m.usages };
    rest = refl;
  }

  -- a callback begins, which is at hand in both
  pub called : (e : Callback) (t c : ℕ) (w : WorldState) (z : Parts) → Fits b w z → AreAsWorlds true (at_callback w e t c) (at_callback (with_parts w z) e t c)
  called e t c w z m = record {
    parts = record { queues = m.queues; call = λ x. refl; kicked = m.kicked; preempted = m.preempted; usages = m.usages };
    rest = refl;
  }

  -- usages are changed alike
  pub reused : (f : List ℕ → List ℕ) (w : WorldState) (z : Parts) → Fits b w z → AreAsWorlds b (with_tree w (record w.tree { usages = f w.tree.usages })) (with_tree (with_parts w z) (record w.tree { usages = f z.usages }))
  reused f w z m = record {
    parts = record { queues = m.queues; call = m.call; kicked = m.kicked; preempted = m.preempted; usages = λ e. ap f (m.usages e) };
    rest = refl;
  }

  -- such a step leads from two worlds that are the same to two that are the same
  pub across : (f : WorldState → WorldState) → Skips b f → (v w : WorldState) → AreAsWorlds b v w → AreAsWorlds b (f v) (f w)
  across f k v w e = subst (λ u. AreAsWorlds b (f v) (f u)) e.rest (k v (parts_of w) e.parts)

  -- one step after another
  pub both : (f g : WorldState → WorldState) → Skips b f → Skips b g → Skips b (λ w. g (f w))
  both f g k l w z m = across g l (f w) (f (with_parts w z)) (k w z m)

  -- a value that is the same in two such worlds
  pub read_across : {A : Type 0} (f : WorldState → A) → ((w : WorldState) (z : Parts) → Fits b w z → f w ≡ f (with_parts w z)) → (v w : WorldState) → AreAsWorlds b v w → f v ≡ f w
  read_across f k v w e = k v (parts_of w) e.parts ∙ ap f e.rest

  -- one of two, by the same test
  pub choose_worlds : (c d : Bool) (x x' y y' : WorldState) → c ≡ d → AreAsWorlds b x x' → AreAsWorlds b y y' → AreAsWorlds b (cond c x y) (cond d x' y')
  choose_worlds c d x x' y y' e f g = subst (λ a. AreAsWorlds b (cond c x y) (cond a x' y')) e (go c)
    where
      go : (a : Bool) → AreAsWorlds b (cond a x y) (cond a x' y')
      go true = f
      go false = g

  -- a step under a test that reads no unread part
  pub if_so : (c : Bool) (f : WorldState → WorldState) (w : WorldState) (z : Parts) → Fits b w z → AreAsWorlds b (f w) (f (with_parts w z)) → AreAsWorlds b (cond c (f w) w) (cond c (f (with_parts w z)) (with_parts w z))
  if_so c f w z m e = choose_worlds c c (f w) (f (with_parts w z)) w (with_parts w z) refl e (plain w z m)

rank_same : (r : Rank) (w : WorldState) (z : Parts) → rank_by w r ≡ rank_by (with_parts w z) r
rank_same Fifo w z = refl
rank_same Front w z = refl
rank_same (Vtime n) w z = refl

-- a task with what an insert asks for, in its queue
pushed : ℕ → Insert → WorldState → WorldState
pushed t i w = with_queues (with_task w t (task_after_insert (task_at w t) i)) (after_push w.queues i.queue t (rank_by w i.rank))

entered : ℕ → Insert → WorldState → WorldState
entered t i w = after_preempt (homed_at (pushed t i w) t (local_cpu w i.queue)) i

module _ {b : Bool} where
  -- ---- reads

  -- a task waits in both or in none
  pub waits_same : (w : WorldState) (z : Parts) → Fits b w z → (t : ℕ) → waits w t ≡ waits (with_parts w z) t
  waits_same w z m t = ap waits_in (queue_same w.queues z.queues m.queues t)

  -- the queues as a processor sees them
  seen_same : (w : WorldState) (z : Parts) → Fits b w z → (c : ℕ) → AreAsQueues (seen_from w c) (seen_from (with_parts w z) c)
  seen_same w z m c = choose_same (binds w) (binds w) (only (λ t. is_in_mask w.tree t c) w.queues) (only (λ t. is_in_mask w.tree t c) z.queues) w.queues z.queues refl (only_same w.queues z.queues m.queues (λ t. is_in_mask w.tree t c)) m.queues

  -- the first task of a queue that may run on a processor
  pub next_same : (w : WorldState) (z : Parts) → Fits b w z → (q c : ℕ) → next_for w q c ≡ next_for (with_parts w z) q c
  next_same w z m q c = front_same (seen_from w c) (seen_from (with_parts w z) c) (seen_same w z m c) q

  -- the task that comes to a local queue, where that is empty
  pub fill_front_same : (w : WorldState) (z : Parts) → Fits b w z → (q c : ℕ) → fill_front w q c ≡ fill_front (with_parts w z) q c
  fill_front_same w z m q c =
      ap (λ n. cond (nat_lt 0 n) None (next_for w q c)) (len_same w.queues z.queues m.queues (local_on c))
      ∙ ap (λ (o : Option ℕ). cond (nat_lt 0 (len_of z.queues (local_on c))) None o) (next_same w z m q c)

  -- a task is throttled in both or in none
  pub throttled_same : (w : WorldState) (z : Parts) → Fits b w z → (t : ℕ) → is_throttled w t ≡ is_throttled (with_parts w z) t
  throttled_same w z m t = ap (λ (c : Bool). nat_lt t (length w.tasks) && c) (throttled_tree w.tree z.usages m.usages t)

  -- ---- steps

  -- a task goes to sleep
  pub skips_sleep : (t : ℕ) → Skips b (λ w. after_sleep w t)
  skips_sleep t w z m = if_so (nat_lt t (length w.tasks)) (λ v. with_tree (with_task v t (with_since (task_at v t) None)) (tree.with_task v.tree t false)) w z m (plain (with_tree (with_task w t (with_since (task_at w t) None)) (tree.with_task w.tree t false)) z m)

  -- a task leaves its queue
  pub skips_leave : (t : ℕ) → Skips b (λ w. after_leave w t)
  skips_leave t w z m = requeued w (after_remove w.queues t) (after_remove z.queues t) z m (remove_same w.queues z.queues m.queues t)

  -- a task's processor is that one
  pub skips_homed : (t c : ℕ) → Skips b (λ w. homed w t c)
  skips_homed t c w z m = if_so (is_by_linux w) (λ v. with_task v t (with_home (task_at v t) c)) w z m (plain (with_task w t (with_home (task_at w t) c)) z m)

  skips_homed_at : (t : ℕ) (o : Option ℕ) → Skips b (λ w. homed_at w t o)
  skips_homed_at t None w z m = plain w z m
  skips_homed_at t (Some c) w z m = skips_homed t c w z m

  -- a task comes into a local queue
  pub skips_local : (c t : ℕ) → Skips b (λ w. after_local w c t)
  skips_local c t = both (λ w. with_queues w (after_push w.queues (local_on c) t Fifo)) (λ w. homed w t c) (λ w z m. requeued w (after_push w.queues (local_on c) t Fifo) (after_push z.queues (local_on c) t Fifo) z m (push_same w.queues z.queues m.queues (local_on c) t Fifo)) (skips_homed t c)

  -- the task that runs on a processor is preempted
  skips_preempt_of : (c : ℕ) (o : Option ℕ) → Skips b (λ w. after_preempt_of w c o)
  skips_preempt_of c None w z m = plain w z m
  skips_preempt_of c (Some t) w z m =
      let v = with_task w t (with_slice (task_at w t) 0) in
      choose_worlds (is_this c w.cycling) (is_this c w.cycling) w (with_parts w z) (with_kick v c) (with_kick (with_parts v z) c) refl (plain w z m) (rekicked (λ k. and_cpu k c) (λ k. k) v z m)

  skips_preempt_at : (o : Option ℕ) → Skips b (λ w. after_preempt_at w o)
  skips_preempt_at None w z m = plain w z m
  skips_preempt_at (Some c) w z m = skips_preempt_of c (running w c) w z m

  skips_preempt : (i : Insert) → Skips b (λ w. after_preempt w i)
  skips_preempt i w z m = if_so i.preempts (λ v. after_preempt_at v (local_cpu w i.queue)) w z m (skips_preempt_at (local_cpu w i.queue) w z m)

  module _ (t : ℕ) (i : Insert) where
    skips_pushed : Skips b (pushed t i)
    unfolding pushed
    skips_pushed w z m =
        let v = with_task w t (task_after_insert (task_at w t) i) in
        subst (λ r. AreAsWorlds b (with_queues v (after_push w.queues i.queue t (rank_by w i.rank))) (with_queues (with_parts v z) (after_push z.queues i.queue t r))) (rank_same i.rank w z)
        (requeued v (after_push w.queues i.queue t (rank_by w i.rank)) (after_push z.queues i.queue t (rank_by w i.rank)) z m (push_same w.queues z.queues m.queues i.queue t (rank_by w i.rank)))

    skips_entered : Skips b (entered t i)
    unfolding entered
    skips_entered w z m =
        across (λ v. after_preempt v i) (skips_preempt i) (homed_at (pushed t i w) t (local_cpu w i.queue)) (homed_at (pushed t i (with_parts w z)) t (local_cpu w i.queue))
        (across (λ v. homed_at v t (local_cpu w i.queue)) (skips_homed_at t (local_cpu w i.queue)) (pushed t i w) (pushed t i (with_parts w z)) (skips_pushed w z m))

    -- a task goes into a queue
    pub skips_enter : Skips b (λ w. after_enter w t i)
    unfolding entered pushed
    skips_enter w z m = if_so (nat_lt t (length w.tasks)) (entered t i) w z m (skips_entered w z m)

  -- a task is brought from one queue to a local one
  pub skips_brought : (o : Option ℕ) (c : ℕ) → Skips b (λ w. brought o w c)
  skips_brought None c w z m = plain w z m
  skips_brought (Some t) c w z m = both (λ v. after_leave v t) (λ v. after_local v c t) (skips_leave t) (skips_local c t) w z m

  -- a local queue that is empty is filled
  pub skips_fill : (q c : ℕ) → Skips b (λ w. after_fill w q c)
  skips_fill q c w z m = subst (λ (o : Option ℕ). AreAsWorlds b (after_fill w q c) (brought o (with_parts w z) c)) (fill_front_same w z m q c) (skips_brought (fill_front w q c) c w z m)

  -- a task wakes
  pub skips_wake : (t : ℕ) → Skips b (λ w. after_wake w t)
  skips_wake t w z m = plain (after_wake w t) z m

  -- a task leaves its processor
  pub skips_stop : (c t : ℕ) → Skips b (λ w. after_stop w c t)
  skips_stop c t w z m = plain (after_stop w c t) z m

  -- a task that begins to run has a longer slice
  pub skips_switch : (t : ℕ) → Skips b (λ w. after_switch w t)
  skips_switch t w z m = plain (after_switch w t) z m

  -- a task has no slice left
  pub skips_cut_off : (t : ℕ) → Skips b (λ w. after_cut_off w t)
  skips_cut_off t w z m = plain (after_cut_off w t) z m

  -- a task has run for a tick
  pub skips_tick : (t : ℕ) → Skips b (λ w. after_tick w t)
  skips_tick t w z m = plain (after_tick w t) z m

  -- the built-in clock catches up with a task
  pub skips_catch_up : (t : ℕ) → Skips b (λ w. after_catch_up w t)
  skips_catch_up t w z m = plain (after_catch_up w t) z m

  -- a task is charged for what it used
  pub skips_charge : (t : ℕ) → Skips b (λ w. after_charge w t)
  skips_charge t w z m = plain (after_charge w t) z m

  -- a task is woken from the processor on which it was last
  pub skips_waker : (t : ℕ) → Skips b (λ w. with_waker w (Some (task_at w t).prev_cpu))
  skips_waker t w z m = plain (with_waker w (Some (task_at w t).prev_cpu)) z m

  -- a front comes to a processor
  pub skips_started : (o : Option ℕ) (c : ℕ) → Skips b (λ w. started_at o w c)
  skips_started None c w z m = plain w z m
  skips_started (Some t) c w z m = requeued (with_cpu (with_task w t (on_cpu (task_at w t) c)) c (Some t)) (after_pop w.queues (local_on c)) (after_pop z.queues (local_on c)) z m (pop_same w.queues z.queues m.queues (local_on c))

  -- a task that was picked runs
  pub skips_run : (c t : ℕ) → Skips b (λ w. after_run w c t)
  skips_run c t w z m = requeued (with_cpu (with_task w t (on_cpu (task_at w t) c)) c (Some t)) (after_remove w.queues t) (after_remove z.queues t) z m (remove_same w.queues z.queues m.queues t)

  -- a processor begins to switch
  pub skips_begin_switch : (c : ℕ) → Skips b (λ w. with_switch w c)
  skips_begin_switch c w z m =
      let f : WorldState → WorldState = λ v. record v { passing = record v.passing { switching = switch_at v c } } in
      if_so (is_by_linux w) f w z m (plain (f w) z m)

  skips_by_linux : (o : Option ℕ) → Skips b (λ w. cycling_by_linux w o)
  skips_by_linux None w z m = plain (record w { cycling = None; passing = nothing_passes }) z m
  skips_by_linux (Some c) w z m =
      across (λ v. record v { cycling = Some c; claimed = but_cpu w.claimed c }) (λ v y n. plain (record v { cycling = Some c; claimed = but_cpu w.claimed c }) y n) (with_switch w c) (with_switch (with_parts w z) c) (skips_begin_switch c w z m)

  -- a cycle begins or ends
  pub skips_cycling : (o : Option ℕ) → Skips b (λ w. with_cycling w o)
  skips_cycling o w z m =
      choose_worlds (is_by_linux w) (is_by_linux w) (cycling_by_linux w o) (cycling_by_linux (with_parts w z) o) (record w { cycling = o }) (record (with_parts w z) { cycling = o }) refl (skips_by_linux o w z m) (plain (record w { cycling = o }) z m)

  -- a processor is claimed
  pub skips_claim : (o : Option ℕ) → Skips b (λ w. after_claim w o)
  skips_claim None w z m = plain w z m
  skips_claim (Some c) w z m =
      let v = record w { claimed = and_cpu w.claimed c } in
      let f : Call → Call = λ j. record j { claims = and_cpu j.claims c } in
      choose_worlds (is_by_linux w) (is_by_linux w) (record v { call = f w.call }) (record (with_parts v z) { call = f z.call }) w (with_parts w z) refl (recalled f v z m) (plain w z m)

  -- a task keeps its processor
  pub skips_keep : (o : Option ℕ) → Skips b (λ w. after_keep w o)
  skips_keep None w z m = plain w z m
  skips_keep (Some t) w z m = plain (after_keep w (Some t)) z m

  -- a task is parked
  pub skips_parked : (t : ℕ) → Skips b (λ w. put_parked w t)
  skips_parked t w z m =
      let v = with_task w t (with_since (task_at w t) None) in
      choose_worlds (nat_lt t (length w.tasks)) (nat_lt t (length w.tasks)) (with_queues v (after_push w.queues parked_queue t Fifo)) (with_queues (with_parts v z) (after_push z.queues parked_queue t Fifo)) w (with_parts w z) refl
      (requeued v (after_push w.queues parked_queue t Fifo) (after_push z.queues parked_queue t Fifo) z m (push_same w.queues z.queues m.queues parked_queue t Fifo)) (plain w z m)

  -- a task is let go
  pub skips_let_go : (t : ℕ) → Skips b (λ w. let_go w t)
  skips_let_go t w z m = requeued (with_task w t (with_since (task_at w t) (Some w.clock))) (after_remove w.queues t) (after_remove z.queues t) z m (remove_same w.queues z.queues m.queues t)

  -- its groups have used a millisecond
  pub skips_used : (t : ℕ) → Skips b (λ w. used_ms w t)
  skips_used t w z m = if_so (nat_lt t (length w.tasks)) (λ v. with_tree v (limits.with_use v.tree t)) w z m (reused (λ us. (limits.with_use (record w.tree { usages = us }) t).usages) w z m)

  reweighed : (g x : ℕ) → Skips b (λ w. with_tree w (tree.with_weight w.tree g x))
  reweighed g x w z m = record {
    parts = record { queues = m.queues; call = m.call; kicked = m.kicked; preempted = m.preempted; usages = λ e. m.usages (sym (weight_keeps_quota w.tree.groups g x) ∙ e) };
    rest = refl;
  }

  -- a group gets another weight
  pub skips_reweigh : (g x : ℕ) → Skips b (λ w. after_reweigh w g x)
  skips_reweigh g x w z m = if_so (is_none (weight_fault w.tree g x)) (λ v. with_tree v (tree.with_weight v.tree g x)) w z m (reweighed g x w z m)

  -- a task gets another weight of its own
  pub skips_own_weight : (t x : ℕ) → Skips b (λ w. after_own_weight w t x)
  skips_own_weight t x w z m = if_so (is_none (own_weight_fault w.tree t x)) (λ v. with_tree v (tree.with_own_weight v.tree t x)) w z m (plain (with_tree w (tree.with_own_weight w.tree t x)) z m)

  -- ---- an ejection

  -- a task waits for the built-in scheduler
  pub skips_put_builtin : (t : ℕ) → Skips b (λ w. put_builtin w t)
  skips_put_builtin t w z m =
      let v = with_task w t (with_builtin (with_slice (task_at w t) default_slice) (builtin_vtime w t)) in
      let r : Rank = Vtime (builtin_vtime w t) in
      choose_worlds (nat_lt t (length w.tasks)) (nat_lt t (length w.tasks)) (with_queues v (after_push w.queues builtin_queue t r)) (with_queues (with_parts v z) (after_push z.queues builtin_queue t r)) w (with_parts w z) refl
      (requeued v (after_push w.queues builtin_queue t r) (after_push z.queues builtin_queue t r) z m (push_same w.queues z.queues m.queues builtin_queue t r)) (plain w z m)

  -- a task goes over to the built-in scheduler
  pub skips_evict : (t : ℕ) → Skips b (λ w. evict w t)
  skips_evict t w z m =
      choose_worlds (waits w t) (waits (with_parts w z) t) (put_builtin (after_leave w t) t) (put_builtin (after_leave (with_parts w z) t) t) w (with_parts w z) (waits_same w z m t)
      (both (λ v. after_leave v t) (λ v. put_builtin v t) (skips_leave t) (skips_put_builtin t) w z m) (plain w z m)

  skips_evictions : (n : ℕ) → Skips b (after_evictions n)
  skips_evictions zero w z m = plain w z m
  skips_evictions (suc n) w z m = both (after_evictions n) (λ v. evict v n) (skips_evictions n) (skips_evict n) w z m

  -- all tasks go over
  pub skips_move_over : Skips b (λ w. after_evictions (length w.tasks) w)
  skips_move_over w z m = skips_evictions (length w.tasks) w z m

  note_same : (t : ℕ) (w : WorldState) (z : Parts) → Fits b w z → evict_note w t ≡ evict_note (with_parts w z) t
  note_same t w z m = ap (λ (b : Bool). cond b (note_now w (note.Insert t builtin_queue) ∷ []) []) (waits_same w z m t)

  notes_same : (n : ℕ) (w : WorldState) (z : Parts) → Fits b w z → evict_notes n w ≡ evict_notes n (with_parts w z)
  notes_same zero w z m = refl
  notes_same (suc n) w z m =
      ap (λ (ns : List Note). ns ++ evict_note (after_evictions n w) n) (notes_same n w z m)
      ∙ ap (λ (ns : List Note). evict_notes n (with_parts w z) ++ ns) (read_across (λ v. evict_note v n) (note_same n) (after_evictions n w) (after_evictions n (with_parts w z)) (skips_evictions n w z m))

  -- an ejection notes the same in both
  pub move_notes_same : (w : WorldState) (z : Parts) → Fits b w z → evict_notes (length w.tasks) w ≡ evict_notes (length w.tasks) (with_parts w z)
  move_notes_same w z m = notes_same (length w.tasks) w z m

  skips_cut_task : (o : Option ℕ) → Skips b (cut_task o)
  skips_cut_task None w z m = plain w z m
  skips_cut_task (Some t) w z m = plain (cut_task (Some t) w) z m

  skips_cuts : (n : ℕ) → Skips b (after_cut n)
  skips_cuts zero w z m = plain w z m
  skips_cuts (suc n) w z m = both (after_cut n) (λ v. cut_task (running v n) v) (skips_cuts n) (λ v y l. skips_cut_task (running v n) v y l) w z m

  -- slices are cut
  pub skips_cut : Skips b (λ w. after_cut (length w.cpus) w)
  skips_cut w z m = skips_cuts (length w.cpus) w z m
