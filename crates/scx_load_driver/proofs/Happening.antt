-- What an event leaves of groups and tasks, and of how many tasks and processors there are.
use Rattle.std.proofs.Common.{◌≡◌, ℕ, ◌+◌, ◌<◌, ◌≤◌, ◌⊎◌, inl, inr, Bool, true, false, ◌==◌, if◌then◌else◌, nat_lt, List, length, set, get_or, Option, Some, None, is_none, refl, sym, ◌∙◌, ap, arith}
use Rattle.std.proofs.lemmas.Bool.{cases_eq, cases_lt, eq-eqb, lt-ltb}
use Rattle.std.proofs.lemmas.List.{length-set, get_or-set_same, get_or-set_other, set_past}
use Rattle.scx_weights.specs.Hierarchy.{Hierarchy, is_active_task, with_own_weight}
use Rattle.scx_weights.specs.Refusals.{own_weight_fault}
use Rattle.scx_weights.specs.Hierarchy as tree
use Rattle.scx_weights.specs.Limits.{with_use}
use Rattle.scx_sched_tasks.specs.declared.task.Task.{Task}
use Rattle.scx_sched_tasks.specs.Tasks.{no_task}
use Rattle.scx_sched_world.specs.World as world
use Rattle.scx_sched_world.specs.World.{WorldState, with_tree, with_waker, running, cpu_of, is_this, task_at}
use Rattle.scx_sched_world.specs.Tasks.{after_own_weight, tick_ns, ran_a_tick, after_tick, used_ms, later, begun_periods}
use Rattle.scx_sched_machine.specs.Steps.{State, Stepped, with_world, stays, is_by_linux}
use Rattle.scx_sched_machine.specs.Firing.{fire_all}
use Rattle.scx_sched_machine.specs.Parking.{let_all_go}
use Rattle.scx_sched_machine.specs.declared.events.Event.{Event}
use Rattle.scx_sched_machine.specs.declared.events.Event.TheVariants.{Wake, Sleep, Tick, Clock, SetTaskWeight}
use Rattle.scx_sched_machine.specs.Events.{woken, use_up, tick_heard, count_down, tick_of, tick, overdue, eject_if_stalled, watch, timers_and_watchdog, clock, reweigh_at, reweigh_by_linux, reweigh, own_step, event_step, leaves_queue, leaves_cpu}
use Rattle.scx_sched_machine.proofs.Choices.{keeps_if}
use Rattle.scx_sched.proofs.Stepwise.{Owns, walk_put, walk_heard, walk_reweigh_at, walk_rounds_of, walk_lets_go, walk_timers, walk_used_up, walk_tick_idle, asleep, walk_wake, walk_sleep}
use Rattle.scx_load_driver.proofs.Alike.{IsTreeLike, Times, AreTimed, IsLike, timed_set, like_eject, Likes, like_calls, like_puts, like_events, like_rounds}

-- a task is active, or not, in both
tree_set : (h t : Hierarchy) (k : ℕ) (on : Bool) → IsTreeLike h t → IsTreeLike (tree.with_task h k on) (tree.with_task t k on)
tree_set h t k on i = (i.0, i.1, ap (λ xs. set xs k on) i.2, i.3, i.4)

-- ---- what an event does by itself

-- a step leaves a world like another tree, whose tasks have run as long as these at most; maybe only of so many tasks
abbrev Turns : (Hierarchy → Hierarchy) → (Times → Times) → (Times → Type 0) → State → Stepped → Type 0
Turns f g May s r = (h : Hierarchy) (n : Times) (c : ℕ) → May n → IsLike h n c s.world → IsLike (f h) (g n) c r.state.world

turns : (f : Hierarchy → Hierarchy) (g : Times → Times) (May : Times → Type 0) → Owns Likes (Turns f g May)
turns f g May = record { before = λ s a r x y h n c may i. y h n c may (x h n c i); after = λ s a r x y h n c may i. y (f h) (g n) c (x h n c may i); noted = λ s ns r x. x }

-- of any
abbrev Any : Times → Type 0
Any n = Unit {0}

abbrev IsAsked : State → Type 0
IsAsked s = Unit {0}

-- and then processors look for work
turned : (f : Hierarchy → Hierarchy) (g : Times → Times) (May : Times → Type 0) (s : State) (e : Event) → Turns f g May s (own_step s e) → Turns f g May s (event_step s e)
turned f g May s e h = walk_rounds_of Likes IsAsked like_events (Turns f g May) (turns f g May).after s (own_step s e) h

-- ---- a task wakes, or sleeps

module _ (h : Hierarchy) (n : Times) (c : ℕ) where
  -- a task that wakes is active
  pub like_wake : (s : State) (t : ℕ) → IsLike h n c s.world → IsLike (tree.with_task h t true) n c (event_step s (Wake t)).state.world
  like_wake s t i =
      let f = λ (k : Hierarchy). tree.with_task k t true in
      let g = λ (k : Times). k in
      turned f g Any s (Wake t) (walk_wake Likes (Turns f g Any) IsAsked like_events (turns f g Any) s t tt (λ h n c any i. (tree_set h s.world.tree t true i.0, timed_set n s.world.tasks t _ refl i.1, i.2))) h n c tt i

  -- one that sleeps isn't any more
  pub like_sleep : (s : State) (t : ℕ) → t < n.many → IsLike h n c s.world → IsLike (tree.with_task h t false) n c (event_step s (Sleep t)).state.world
  like_sleep s t l i = turned f g May s (Sleep t) (walk_sleep Likes (Turns f g May) IsAsked like_events (turns f g May) s t (sleeps (leaves_queue s t (task_at s.world t).prev_cpu 1).state) (λ d e. sleeps (leaves_cpu s d t 0).state)) h n c l i
    where
      f : Hierarchy → Hierarchy
      f k = tree.with_task k t false

      g : Times → Times
      g k = k

      May : Times → Type 0
      May k = t < k.many

      sleeps : (v : State) → Turns f g May v (asleep v t)
      sleeps v h n c l i = rw (lt-ltb t (length v.world.tasks) (omega (arith, l, i.1.0))) (tree_set h v.world.tree t false i.0, timed_set n v.world.tasks t _ refl i.1, i.2)

-- ---- the clock

module _ (h : Hierarchy) (n : Times) (c : ℕ) where
  like_stalled : (o : Option ℕ) (s : State) → IsLike h n c s.world → IsLike h n c (eject_if_stalled o s).state.world
  like_stalled None s i = i
  like_stalled (Some t) s i = like_eject h n c s _ i

  like_later : (s : State) → IsLike h n c s.world → IsLike h n c (clock s).state.world
  unfolding clock timers_and_watchdog watch
  like_later s i =
      let v = with_world s (begun_periods (later s.world)) in
      let r = (let_all_go v).state in
      let f = (fire_all r).state in
      like_stalled (overdue f) f (walk_timers Likes IsAsked like_events r h n c (walk_lets_go Likes IsAsked like_events v h n c (i.0, i.1, i.2)))

  -- the clock leaves all of it
  pub like_clock : (s : State) → IsLike h n c s.world → IsLike h n c (event_step s Clock).state.world
  like_clock s i = like_rounds h n c (clock s) (like_later s i)

-- ---- a task's own weight

-- the tree in which the task has that weight itself
abbrev pub own_weighed : Hierarchy → ℕ → ℕ → Hierarchy
own_weighed h t x = if is_none (own_weight_fault h t x) then with_own_weight h t x else h

-- it has the same groups
pub own_weighed_groups : (h : Hierarchy) (t x : ℕ) → (own_weighed h t x).groups ≡ h.groups
own_weighed_groups h t x = keeps_if (λ (g : Hierarchy). g.groups ≡ h.groups) (is_none (own_weight_fault h t x)) (with_own_weight h t x) h refl refl

-- and the same tasks are active
pub own_weighed_active : (h : Hierarchy) (t x : ℕ) → (own_weighed h t x).active ≡ h.active
own_weighed_active h t x = keeps_if (λ (g : Hierarchy). g.active ≡ h.active) (is_none (own_weight_fault h t x)) (with_own_weight h t x) h refl refl

module _ (h : Hierarchy) (n : Times) (c : ℕ) where
  like_own_weight : (w : WorldState) (t x : ℕ) → IsLike h n c w → IsLike (own_weighed h t x) n c (after_own_weight w t x)
  like_own_weight w t x i = rw (sym fault) (go (is_none (own_weight_fault w.tree t x)))
    where
      same : IsTreeLike h w.tree
      same = i.0

      fault : own_weight_fault w.tree t x ≡ own_weight_fault h t x
      fault = ap (λ (hs : List ℕ). own_weight_fault (record h { homes = hs }) t x) same.1

      go : (b : Bool) → IsLike (if b then with_own_weight h t x else h) n c (if b then with_tree w (with_own_weight w.tree t x) else w)
      go true = ((same.0, same.1, same.2, ap (λ (ws : List ℕ). set ws t x) same.3, same.4), i.1, i.2)
      go false = i

-- a change of a task's own weight leaves all but that
pub like_weighed_task : (h : Hierarchy) (n : Times) (c : ℕ) (s : State) (t x : ℕ) → IsLike h n c s.world → IsLike (own_weighed h t x) n c (event_step s (SetTaskWeight t x)).state.world
unfolding reweigh reweigh_by_linux
like_weighed_task h n c s t x i = turned f g Any s (SetTaskWeight t x) weighs h n c tt i
  where
    f : Hierarchy → Hierarchy
    f k = own_weighed k t x

    g : Times → Times
    g k = k

    weighed : (v : State) → Turns f g Any v (stays (with_world v (after_own_weight v.world t x)))
    weighed v h n c any i = like_own_weight h n c v.world t x i

    weighs : Turns f g Any s (reweigh s t x)
    weighs h n c any i =
        let v = with_world s (with_waker s.world (Some 0)) in
        let r = reweigh_at (cpu_of s.world t) v t x in
        keeps_if (λ (y : Stepped). IsLike (f h) n c y.state.world) (is_by_linux s) (record r { state = woken r.state }) (stays (with_world s (after_own_weight s.world t x)))
        (walk_reweigh_at Likes (Turns f g Any) (turns f g Any) t x weighed like_calls (λ u d. walk_put Likes like_puts u t d 0) (λ u k m d j. j) (cpu_of s.world t) v h n c any i) (weighed s h n c any i)

-- who runs may have run for a tick more
abbrev pub times_after_tick : Option ℕ → Times → Times
times_after_tick o n = record n { most = λ u. n.most u + (if is_this u o then tick_ns else 0) }

-- a task has run for a tick more
timed_ticked : (n : Times) (xs : List Task) (t : ℕ) → AreTimed n xs → AreTimed (times_after_tick (Some t) n) (set xs t (ran_a_tick (get_or xs t no_task)))
timed_ticked n xs t h = (length-set xs t x ∙ h.0, λ u. go u (cases_eq u t) (cases_lt t (length xs)))
  where
    x : Task
    x = ran_a_tick (get_or xs t no_task)

    go : (u : ℕ) → (u ≡ t) ⊎ (u ≡ t → ⊥) → (t < length xs) ⊎ (length xs ≤ t) → (get_or (set xs t x) u no_task).run_ns ≤ n.most u + (if u == t then tick_ns else 0)
    go u (inl e) (inl within) = rw (e, get_or-set_same xs t x no_task within, eq-eqb t t refl) (omega (arith, h.1 t))
    go u (inl e) (inr past) = rw (set_past xs t x past) (omega (arith, h.1 u))
    go u (inr d) l = rw (get_or-set_other xs t u x no_task d) (omega (arith, h.1 u))

module _ (h : Hierarchy) (n : Times) (c : ℕ) where
  -- usages are no part of it
  like_used_ms : (w : WorldState) (t : ℕ) → IsLike h n c w → IsLike h n c (used_ms w t)
  like_used_ms w t i = keeps_if (IsLike h n c) (nat_lt t (length w.tasks)) (with_tree w (with_use w.tree t)) w i i

-- a processor ran that task for a millisecond, or none
like_ticked : (o : Option ℕ) (s : State) (d : ℕ) → Turns (λ k. k) (times_after_tick o) Any s (tick_of o s d)
unfolding count_down use_up
like_ticked None s d h n c any i = let x = walk_tick_idle Likes IsAsked like_events s d h n c i in (x.0, (x.1.0, λ u. omega (arith, x.1.1 u)), x.2)
like_ticked (Some t) s d h n c any i =
    let m = times_after_tick (Some t) n in
    let v = with_world s (after_tick s.world t) in
    let r = (tick_heard v d t).state in
    let u = with_world r (used_ms r.world t) in
    walk_used_up Likes IsAsked like_events u d t h m c (like_used_ms h m c r.world t (walk_heard Likes d (like_calls d) v t h m c (i.0, timed_ticked n s.world.tasks t i.1, i.2)))

-- a tick leaves all of it, but for who runs there
pub like_tick : (h : Hierarchy) (n : Times) (c : ℕ) (s : State) (d : ℕ) → IsLike h n c s.world → IsLike h (times_after_tick (running s.world d) n) c (event_step s (Tick d)).state.world
unfolding tick
like_tick h n c s d i = turned (λ k. k) (times_after_tick (running s.world d)) Any s (Tick d) (like_ticked (running s.world d) s d) h n c tt i

-- whether other tasks are active stays
pub others_stay : (h : Hierarchy) (t u : ℕ) (on : Bool) → (u ≡ t → ⊥) → is_active_task (tree.with_task h t on) u ≡ is_active_task h u
others_stay h t u on d = get_or-set_other h.active t u on false d
