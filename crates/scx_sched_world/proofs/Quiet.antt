-- Milliseconds in which nothing happens but that tasks run: what they make of each part of a world, and one number of them
-- after another.
use Rattle.std.proofs.Common.{arith, ◌≡◌, ℕ, zero, suc, ◌+◌, ◌*◌, ◌<◌, ◌≤◌, ◌⊎◌, inl, inr, Bool, true, false, cond, ltb, List, [], length, get_or, set, Option, Some, None, refl, sym, ap, ◌∙◌, subst, add-one}
use Rattle.std.proofs.lemmas.Bool.{cases_eq, cases_lt, eq-eqb, ne_eqb, lt-ltb, le-ltb}
use Rattle.std.proofs.lemmas.Grind.{get_or-set_at}
use Rattle.std.proofs.lemmas.List.{ext_get_or, get_or_past, get_or-set_other, length-set, set_past}
use Rattle.scx_isa_semantics.specs.declared.callbacks.Callback.TheVariants as callback
use Rattle.scx_dsq.specs.Laws.{one_if}
use Rattle.scx_weights.specs.Hierarchy.{Hierarchy, lies_in, home_of}
use Rattle.scx_weights.specs.Limits.{usage_of, begins_period, with_uses, with_turn}
use Rattle.scx_weights.proofs.Usages.{usage_used_for}
use Rattle.scx_weights.proofs.Uses.{length-uses, uses_more, uses_swap, turn_none}
use Rattle.scx_sched_tasks.specs.declared.task.Task.{Task}
use Rattle.scx_sched_tasks.specs.Tasks.{no_task, after_many}
use Rattle.scx_sched_tasks.proofs.Times.{many_more, many_ran}
use Rattle.scx_sched_world.specs.declared.call.Call.{Call}
use Rattle.scx_sched_world.specs.declared.notes.Note.{Note}
use Rattle.scx_sched_world.specs.World.{WorldState, no_call, is_by_linux, is_this, running, task_at, with_task, with_tree}
use Rattle.scx_sched_world.specs.Tasks.{begun_periods}
use Rattle.scx_sched_world.specs.Quiet.{ran_for, ticked_for, all_ticked, skipped, SlicesLast, StaysCalm}

-- ---- the parts of a world, after a tick of one processor, that many times

abbrev pub tasks_for : ℕ → Option ℕ → List Task → List Task
tasks_for n None xs = xs
tasks_for n (Some t) xs = set xs t (after_many n (get_or xs t no_task))

abbrev pub tree_for : ℕ → Option ℕ → ℕ → Hierarchy → Hierarchy
tree_for n None count h = h
tree_for n (Some t) count h = cond (ltb t count) (with_uses h t n) h

abbrev pub call_for : Bool → Option ℕ → ℕ → Call → Call
call_for true o c x = x
call_for false None c x = record no_call { callback = callback.Dispatch; task = 0; cpu = c }
call_for false (Some t) c x = x

abbrev pub notes_for : Bool → Option ℕ → List Note → List Note
notes_for true o xs = xs
notes_for false None xs = []
notes_for false (Some t) xs = xs

-- ---- and of the first processors

abbrev pub tasks_below : ℕ → ℕ → List (Option ℕ) → List Task → List Task
tasks_below n zero cpus xs = xs
tasks_below n (suc c) cpus xs = tasks_for n (get_or cpus c None) (tasks_below n c cpus xs)

abbrev pub tree_below : ℕ → ℕ → List (Option ℕ) → ℕ → Hierarchy → Hierarchy
tree_below n zero cpus count h = h
tree_below n (suc c) cpus count h = tree_for n (get_or cpus c None) count (tree_below n c cpus count h)

abbrev pub call_below : Bool → ℕ → List (Option ℕ) → Call → Call
call_below linux zero cpus x = x
call_below linux (suc c) cpus x = call_for linux (get_or cpus c None) c (call_below linux c cpus x)

abbrev pub notes_below : Bool → ℕ → List (Option ℕ) → List Note → List Note
notes_below linux zero cpus xs = xs
notes_below linux (suc c) cpus xs = notes_for linux (get_or cpus c None) (notes_below linux c cpus xs)

-- the world with those parts
abbrev pub ticked_to : ℕ → ℕ → WorldState → WorldState
ticked_to n c w = record w {
  tasks = tasks_below n c w.cpus w.tasks;
  tree = tree_below n c w.cpus (length w.tasks) w.tree;
  call = call_below (is_by_linux w) c w.cpus w.call;
  notes = notes_below (is_by_linux w) c w.cpus w.notes;
}

length-for : (n : ℕ) (o : Option ℕ) (xs : List Task) → length (tasks_for n o xs) ≡ length xs
length-for n None xs = refl
length-for n (Some t) xs = length-set xs t (after_many n (get_or xs t no_task))

pub length-below : (n c : ℕ) (cpus : List (Option ℕ)) (xs : List Task) → length (tasks_below n c cpus xs) ≡ length xs
length-below n zero cpus xs = refl
length-below n (suc c) cpus xs = length-for n (get_or cpus c None) (tasks_below n c cpus xs) ∙ length-below n c cpus xs

-- one processor more
ticked_is : (n : ℕ) (w : WorldState) (c : ℕ) (o : Option ℕ) → ticked_for n w c o ≡ record w {
  tasks = tasks_for n o w.tasks;
  tree = tree_for n o (length w.tasks) w.tree;
  call = call_for (is_by_linux w) o c w.call;
  notes = notes_for (is_by_linux w) o w.notes;
}
ticked_is n w c None = go (is_by_linux w)
  where
    go : (b : Bool) → cond b w (record w { call = record no_call { callback = callback.Dispatch; task = 0; cpu = c }; notes = [] }) ≡ record w { call = call_for b None c w.call; notes = notes_for b None w.notes }
    go true = refl
    go false = refl
ticked_is n w c (Some t) =
    ap (λ k. cond (ltb t k) (record w { tasks = ran; tree = with_uses w.tree t n }) (record w { tasks = ran })) (length-set w.tasks t (after_many n (task_at w t)))
    ∙ go (ltb t (length w.tasks)) (is_by_linux w)
  where
    ran : List Task
    ran = set w.tasks t (after_many n (task_at w t))

    go : (b linux : Bool) → cond b (record w { tasks = ran; tree = with_uses w.tree t n }) (record w { tasks = ran })
        ≡ record w { tasks = ran; tree = cond b (with_uses w.tree t n) w.tree; call = call_for linux (Some t) c w.call; notes = notes_for linux (Some t) w.notes }
    go true true = refl
    go true false = refl
    go false true = refl
    go false false = refl

-- all below a number
pub all_ticked_is : (n c : ℕ) (w : WorldState) → all_ticked n c w ≡ ticked_to n c w
all_ticked_is n zero w = refl
all_ticked_is n (suc c) w =
    ap (λ (v : WorldState). ticked_for n v c (running v c)) (all_ticked_is n c w)
    ∙ ticked_is n (ticked_to n c w) c (running w c)
    ∙ ap (λ k. record (ticked_to n (suc c) w) { tree = tree_for n (running w c) k (tree_below n c w.cpus (length w.tasks) w.tree) }) (length-below n c w.cpus w.tasks)

-- ---- as bodies make it

-- a task that there is
pub ran_known : (n t : ℕ) (w : WorldState) → t < length w.tasks → with_tree (with_task w t (after_many n (task_at w t))) (with_uses w.tree t n) ≡ ran_for n w t
ran_known n t w known = ap (λ b. cond b (with_tree v (with_uses w.tree t n)) v) (sym there)
  where
    v : WorldState
    v = with_task w t (after_many n (task_at w t))

    there : ltb t (length (set w.tasks t (after_many n (task_at w t)))) ≡ true
    there = ap (ltb t) (length-set w.tasks t (after_many n (task_at w t))) ∙ lt-ltb t (length w.tasks) known

-- one that there isn't
pub ran_past : (n t : ℕ) (w : WorldState) → length w.tasks ≤ t → w ≡ ran_for n w t
ran_past n t w past = sym (ap (λ b. cond b (with_tree v (with_uses w.tree t n)) v) none ∙ ap (λ xs. record w { tasks = xs }) (set_past w.tasks t (after_many n (task_at w t)) past))
  where
    v : WorldState
    v = with_task w t (after_many n (task_at w t))

    none : ltb t (length (set w.tasks t (after_many n (task_at w t)))) ≡ false
    none = ap (ltb t) (length-set w.tasks t (after_many n (task_at w t))) ∙ le-ltb t (length w.tasks) past

-- one processor more
pub all_ticked_next : (n c : ℕ) (w : WorldState) → all_ticked n (c + 1) w ≡ ticked_for n (all_ticked n c w) c (running (all_ticked n c w) c)
all_ticked_next n c w = rw add-one refl

ran_more : (n : ℕ) (o : Option ℕ) (xs : List Task) (t : ℕ) → (get_or (tasks_for n o xs) t no_task).run_ns ≤ (get_or xs t no_task).run_ns + n * 1000000
ran_more n None xs t = omega arith
ran_more n (Some u) xs t = go (cases_eq t u) (cases_lt u (length xs))
  where
    ran : Task
    ran = after_many n (get_or xs u no_task)

    go : (t ≡ u) ⊎ (t ≡ u → ⊥) → (u < length xs) ⊎ (length xs ≤ u) → (get_or (set xs u ran) t no_task).run_ns ≤ (get_or xs t no_task).run_ns + n * 1000000
    go (inl e) (inl lt) =
        let here : (get_or (set xs u ran) t no_task).run_ns ≡ ran.run_ns = ap (λ (x : Task). x.run_ns) (get_or-set_at xs u t ran no_task e lt) in
        let was : (get_or xs u no_task).run_ns ≡ (get_or xs t no_task).run_ns = ap (λ i. (get_or xs i no_task).run_ns) (sym e) in
        omega (arith, here, was, many_ran n (get_or xs u no_task))
    go (inl e) (inr past) = let same : (get_or (set xs u ran) t no_task).run_ns ≡ (get_or xs t no_task).run_ns = ap (λ ys. (get_or ys t no_task).run_ns) (set_past xs u ran past) in omega (arith, same)
    go (inr d) l = let same : (get_or (set xs u ran) t no_task).run_ns ≡ (get_or xs t no_task).run_ns = ap (λ (x : Task). x.run_ns) (get_or-set_other xs u t ran no_task d) in omega (arith, same)

-- in such ticks no task runs for longer
pub ticked_ran : (n : ℕ) (w : WorldState) (c : ℕ) (o : Option ℕ) (t : ℕ) → (task_at (ticked_for n w c o) t).run_ns ≤ (task_at w t).run_ns + n * 1000000
ticked_ran n w c o t = let is : (task_at (ticked_for n w c o) t).run_ns ≡ (get_or (tasks_for n o w.tasks) t no_task).run_ns = ap (λ (v : WorldState). (task_at v t).run_ns) (ticked_is n w c o) in omega (arith, is, ran_more n o w.tasks t)

used_more : (n t g : ℕ) (h : Hierarchy) → usage_of (with_uses h t n) g ≤ usage_of h g + n
used_more n t g h = go (cases_lt g (length h.groups))
  where
    part : (b : Bool) → cond b n 0 ≤ n
    part true = omega arith
    part false = omega arith

    go : (g < length h.groups) ⊎ (length h.groups ≤ g) → usage_of (with_uses h t n) g ≤ usage_of h g + n
    go (inl lt) = omega (arith, usage_used_for h t n g lt, part (lies_in h.groups (home_of h t) g))
    go (inr past) = let none : usage_of (with_uses h t n) g ≡ 0 = get_or_past (with_uses h t n).usages g 0 (omega (arith, past, length-uses h (λ g. usage_of h g + cond (lies_in h.groups (home_of h t) g) n 0))) in omega (arith, none)

-- nor is more used
pub ticked_used : (n : ℕ) (w : WorldState) (c : ℕ) (o : Option ℕ) (g : ℕ) → usage_of (ticked_for n w c o).tree g ≤ usage_of w.tree g + n
ticked_used n w c o g = let is : usage_of (ticked_for n w c o).tree g ≡ usage_of (tree_for n o (length w.tasks) w.tree) g = ap (λ (v : WorldState). usage_of v.tree g) (ticked_is n w c o) in omega (arith, is, go o)
  where
    go : (o : Option ℕ) → usage_of (tree_for n o (length w.tasks) w.tree) g ≤ usage_of w.tree g + n
    go None = omega arith
    go (Some t) = at (ltb t (length w.tasks))
      where
        at : (b : Bool) → usage_of (cond b (with_uses w.tree t n) w.tree) g ≤ usage_of w.tree g + n
        at true = used_more n t g w.tree
        at false = omega arith

-- ---- tasks, one by one

-- on how many of the first processors it runs
abbrev pub times : ℕ → List (Option ℕ) → ℕ → ℕ
times zero cpus t = 0
times (suc c) cpus t = times c cpus t + one_if (is_this t (get_or cpus c None))

times_one : (n k : ℕ) (x : Task) → after_many n (after_many (n * k) x) ≡ after_many (n * (k + 1)) x
times_one n k x = let more : n + n * k ≡ n * (k + 1) = omega arith in many_more (n * k) n x ∙ ap (λ m. after_many m x) more

-- one processor more, for a task
task_more : (n c k : ℕ) (o : Option ℕ) (before : List Task) (t : ℕ) (x : Task) → t < length before → get_or before t no_task ≡ after_many (n * k) x → get_or (tasks_for n o before) t no_task ≡ after_many (n * (k + one_if (is_this t o))) x
task_more n c k None before t x lt same = let none : n * k ≡ n * (k + 0) = omega arith in same ∙ ap (λ m. after_many m x) none
task_more n c k (Some u) before t x lt same = go (cases_eq t u)
  where
    ran : Task
    ran = after_many n (get_or before u no_task)

    go : (t ≡ u) ⊎ (t ≡ u → ⊥) → get_or (set before u ran) t no_task ≡ after_many (n * (k + one_if (is_this t (Some u)))) x
    go (inl e) =
        let here : get_or (set before u ran) t no_task ≡ ran = get_or-set_at before u t ran no_task e (omega (arith, lt, e)) in
        let was : ran ≡ after_many n (after_many (n * k) x) = ap (λ i. after_many n (get_or before i no_task)) (sym e) ∙ ap (after_many n) same in
        here ∙ was ∙ times_one n k x ∙ ap (λ b. after_many (n * (k + one_if b)) x) (sym (eq-eqb t u e))
    go (inr d) =
        let none : n * k ≡ n * (k + 0) = omega arith in
        get_or-set_other before u t ran no_task d ∙ same ∙ ap (λ m. after_many m x) none ∙ ap (λ b. after_many (n * (k + one_if b)) x) (sym (ne_eqb t u d))

-- each task ran on each processor on which it runs
pub task_below : (n c : ℕ) (cpus : List (Option ℕ)) (xs : List Task) (t : ℕ) → t < length xs → get_or (tasks_below n c cpus xs) t no_task ≡ after_many (n * times c cpus t) (get_or xs t no_task)
task_below n zero cpus xs t lt = let none : 0 ≡ n * 0 = omega arith in ap (λ m. after_many m (get_or xs t no_task)) none
task_below n (suc c) cpus xs t lt =
    task_more n c (times c cpus t) (get_or cpus c None) (tasks_below n c cpus xs) t (get_or xs t no_task) (omega (arith, lt, length-below n c cpus xs)) (task_below n c cpus xs t lt)

-- ---- two numbers of milliseconds, one after the other

tasks_twice : (m n c : ℕ) (cpus : List (Option ℕ)) (xs : List Task) → tasks_below m c cpus (tasks_below n c cpus xs) ≡ tasks_below (n + m) c cpus xs
tasks_twice m n c cpus xs =
    ext_get_or no_task _ _ (length-below m c cpus (tasks_below n c cpus xs) ∙ length-below n c cpus xs ∙ sym (length-below (n + m) c cpus xs)) each
  where
    each : (t : ℕ) → t < length (tasks_below m c cpus (tasks_below n c cpus xs)) → get_or (tasks_below m c cpus (tasks_below n c cpus xs)) t no_task ≡ get_or (tasks_below (n + m) c cpus xs) t no_task
    each t lt =
        let there : t < length xs = omega (arith, lt, length-below m c cpus (tasks_below n c cpus xs), length-below n c cpus xs) in
        let k = times c cpus t in
        let sum : m * k + n * k ≡ (n + m) * k = omega arith in
        task_below m c cpus (tasks_below n c cpus xs) t (omega (arith, there, length-below n c cpus xs))
        ∙ ap (after_many (m * k)) (task_below n c cpus xs t there)
        ∙ many_more (n * k) (m * k) (get_or xs t no_task)
        ∙ ap (λ j. after_many j (get_or xs t no_task)) sum
        ∙ sym (task_below (n + m) c cpus xs t there)

-- usages of a task are added at any time
tree_swap : (m n : ℕ) (o p : Option ℕ) (count : ℕ) (h : Hierarchy) → tree_for m o count (tree_for n p count h) ≡ tree_for n p count (tree_for m o count h)
tree_swap m n None p count h = refl
tree_swap m n (Some t) None count h = refl
tree_swap m n (Some t) (Some u) count h = go (ltb t count) (ltb u count)
  where
    go : (a b : Bool) → cond a (with_uses (cond b (with_uses h u n) h) t m) (cond b (with_uses h u n) h) ≡ cond b (with_uses (cond a (with_uses h t m) h) u n) (cond a (with_uses h t m) h)
    go true true = uses_swap h u t n m
    go true false = refl
    go false true = refl
    go false false = refl

tree_join : (m n : ℕ) (o : Option ℕ) (count : ℕ) (h : Hierarchy) → tree_for m o count (tree_for n o count h) ≡ tree_for (n + m) o count h
tree_join m n None count h = refl
tree_join m n (Some t) count h = go (ltb t count)
  where
    go : (b : Bool) → cond b (with_uses (cond b (with_uses h t n) h) t m) (cond b (with_uses h t n) h) ≡ cond b (with_uses h t (n + m)) h
    go true = let sum : m + n ≡ n + m = omega arith in uses_more h t n m ∙ ap (with_uses h t) sum
    go false = refl

tree_past : (m n c : ℕ) (o : Option ℕ) (cpus : List (Option ℕ)) (count : ℕ) (h : Hierarchy) → tree_below m c cpus count (tree_for n o count h) ≡ tree_for n o count (tree_below m c cpus count h)
tree_past m n zero o cpus count h = refl
tree_past m n (suc c) o cpus count h =
    ap (tree_for m (get_or cpus c None) count) (tree_past m n c o cpus count h) ∙ tree_swap m n (get_or cpus c None) o count (tree_below m c cpus count h)

tree_twice : (m n c : ℕ) (cpus : List (Option ℕ)) (count : ℕ) (h : Hierarchy) → tree_below m c cpus count (tree_below n c cpus count h) ≡ tree_below (n + m) c cpus count h
tree_twice m n zero cpus count h = refl
tree_twice m n (suc c) cpus count h =
    ap (tree_for m (get_or cpus c None) count) (tree_past m n c (get_or cpus c None) cpus count (tree_below n c cpus count h))
    ∙ tree_join m n (get_or cpus c None) count (tree_below m c cpus count (tree_below n c cpus count h))
    ∙ ap (tree_for (n + m) (get_or cpus c None) count) (tree_twice m n c cpus count h)

-- the last idle processor asked last
call_twice : (linux : Bool) (c : ℕ) (cpus : List (Option ℕ)) (x : Call) → call_below linux c cpus (call_below linux c cpus x) ≡ call_below linux c cpus x
call_twice linux zero cpus x = refl
call_twice linux (suc c) cpus x = go linux (get_or cpus c None) (call_twice linux c cpus x)
  where
    go : (b : Bool) (o : Option ℕ) → call_below b c cpus (call_below b c cpus x) ≡ call_below b c cpus x
        → call_for b o c (call_below b c cpus (call_for b o c (call_below b c cpus x))) ≡ call_for b o c (call_below b c cpus x)
    go true o e = e
    go false None e = refl
    go false (Some t) e = e

notes_twice : (linux : Bool) (c : ℕ) (cpus : List (Option ℕ)) (xs : List Note) → notes_below linux c cpus (notes_below linux c cpus xs) ≡ notes_below linux c cpus xs
notes_twice linux zero cpus xs = refl
notes_twice linux (suc c) cpus xs = go linux (get_or cpus c None) (notes_twice linux c cpus xs)
  where
    go : (b : Bool) (o : Option ℕ) → notes_below b c cpus (notes_below b c cpus xs) ≡ notes_below b c cpus xs
        → notes_for b o (notes_below b c cpus (notes_for b o (notes_below b c cpus xs))) ≡ notes_for b o (notes_below b c cpus xs)
    go true o e = e
    go false None e = refl
    go false (Some t) e = e

-- ticks alone
pub ticked_twice : (m n c : ℕ) (w : WorldState) → ticked_to m c (ticked_to n c w) ≡ ticked_to (n + m) c w
ticked_twice m n c w =
    ap (λ k. record w {
      tasks = tasks_below m c w.cpus (tasks_below n c w.cpus w.tasks);
      tree = tree_below m c w.cpus k (tree_below n c w.cpus (length w.tasks) w.tree);
      call = call_below (is_by_linux w) c w.cpus (call_below (is_by_linux w) c w.cpus w.call);
      notes = notes_below (is_by_linux w) c w.cpus (notes_below (is_by_linux w) c w.cpus w.notes);
    }) (length-below n c w.cpus w.tasks)
    ∙ (λ i. record w {
      tasks = tasks_twice m n c w.cpus w.tasks i;
      tree = tree_twice m n c w.cpus (length w.tasks) w.tree i;
      call = call_twice (is_by_linux w) c w.cpus w.call i;
      notes = notes_twice (is_by_linux w) c w.cpus w.notes i;
    })

-- groups stay as they are, and each keeps a usage
groups_for : (n : ℕ) (o : Option ℕ) (count : ℕ) (h : Hierarchy) → (tree_for n o count h).groups ≡ h.groups
groups_for n None count h = refl
groups_for n (Some t) count h = go (ltb t count)
  where
    go : (b : Bool) → (cond b (with_uses h t n) h).groups ≡ h.groups
    go true = refl
    go false = refl

pub groups_below : (n c : ℕ) (cpus : List (Option ℕ)) (count : ℕ) (h : Hierarchy) → (tree_below n c cpus count h).groups ≡ h.groups
groups_below n zero cpus count h = refl
groups_below n (suc c) cpus count h = groups_for n (get_or cpus c None) count (tree_below n c cpus count h) ∙ groups_below n c cpus count h

even_for : (n : ℕ) (o : Option ℕ) (count : ℕ) (h : Hierarchy) → length h.usages ≡ length h.groups → length (tree_for n o count h).usages ≡ length h.groups
even_for n None count h same = same
even_for n (Some t) count h same = go (ltb t count)
  where
    go : (b : Bool) → length (cond b (with_uses h t n) h).usages ≡ length h.groups
    go true = length-uses h _
    go false = same

pub even_below : (n c : ℕ) (cpus : List (Option ℕ)) (count : ℕ) (h : Hierarchy) → length h.usages ≡ length h.groups → length (tree_below n c cpus count h).usages ≡ length h.groups
even_below n zero cpus count h same = same
even_below n (suc c) cpus count h same =
    let groups = groups_below n c cpus count h in
    even_for n (get_or cpus c None) count (tree_below n c cpus count h) (even_below n c cpus count h same ∙ sym (ap length groups)) ∙ ap length groups

-- ---- with the clock

-- that many milliseconds, in which no period begins
abbrev pub passed : ℕ → WorldState → WorldState
passed n w = let v = ticked_to n (length w.cpus) w in record v { clock = v.clock + n }

-- nor do the clock and the queues change
pub ticked_clock : (n c : ℕ) (w : WorldState) → (all_ticked n c w).clock ≡ w.clock
ticked_clock n c w = ap (λ (v : WorldState). v.clock) (all_ticked_is n c w)

pub ticked_pushes : (n c : ℕ) (w : WorldState) → (all_ticked n c w).queues.pushes ≡ w.queues.pushes
ticked_pushes n c w = ap (λ (v : WorldState). v.queues.pushes) (all_ticked_is n c w)

pub skipped_is : (n : ℕ) (w : WorldState) → skipped n w ≡ begun_periods (passed n w)
skipped_is n w = ap (λ (v : WorldState). begun_periods (record v { clock = v.clock + n })) (all_ticked_is n (length w.cpus) w)

passed_twice : (m n : ℕ) (w : WorldState) → passed m (passed n w) ≡ passed (n + m) w
passed_twice m n w =
    ap (λ (v : WorldState). record v { clock = w.clock + n + m }) (ticked_twice m n (length w.cpus) w) ∙ (λ i. record (passed (n + m) w) { clock = sum i })
  where
    sum : w.clock + n + m ≡ w.clock + (n + m)
    sum = omega arith

-- where no period begins at that clock none is begun
pub none_begun : (w : WorldState) → length w.tree.usages ≡ length w.tree.groups → ((g : ℕ) → g < length w.tree.groups → begins_period w.tree g w.clock ≡ false) → begun_periods w ≡ w
none_begun w same none = ap (λ h. record w { tree = h }) (turn_none w.tree w.clock same none)

-- one number of milliseconds, at whose end no period begins, and then another
pub skipped_more : (m n : ℕ) (w : WorldState) → begun_periods (passed n w) ≡ passed n w → skipped m (skipped n w) ≡ skipped (n + m) w
skipped_more m n w none =
    ap (skipped m) (skipped_is n w ∙ none) ∙ skipped_is m (passed n w) ∙ ap begun_periods (passed_twice m n w) ∙ sym (skipped_is (n + m) w)

-- up to an earlier clock
pub calm_less : (w : WorldState) (limit early late : ℕ) → early ≤ late → StaysCalm w limit late → StaysCalm w limit early
calm_less w limit early late le h = record {
  waits = λ t k e. omega (arith, h.waits t k e, le);
  timers = λ k a e. omega (arith, h.timers k a e, le);
  periods = λ clock g after until there. h.periods clock g after (omega (arith, until, le)) there;
  even = h.even;
}

-- for fewer milliseconds
pub slices_less : (n m : ℕ) (w : WorldState) → m ≤ n → SlicesLast n w → SlicesLast m w
slices_less n m w le h = λ c t e. omega (arith, h c t e, le)
