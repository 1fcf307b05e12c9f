-- A scheduling cycle leaves the groups and tasks, who is active, how many tasks and processors there are, and how long
-- each task has run.
use Rattle.std.proofs.Common.{◌≡◌, ℕ, ◌≤◌, nat_lt, List, length, set, get_or, Option, Some, None, Ok, refl, ◌∙◌, arith}
use Rattle.std.proofs.lemmas.List.{length-set, length-replicate}
use Rattle.scx_isa_semantics.specs.declared.callbacks.Callback.TheVariants as callback
use Rattle.scx_weights.specs.Hierarchy.{Hierarchy}
use Rattle.scx_sched_tasks.specs.declared.task.Task.{Task}
use Rattle.scx_sched_tasks.specs.Tasks.{no_task}
use Rattle.scx_sched_world.specs.First.{first_world}
use Rattle.scx_sched_world.specs.World.{WorldState, with_task, task_at, at_callback, is_by_linux, choice, after_claim}
use Rattle.scx_sched_world.specs.Tasks.{begun_periods, to_front, after_leave, fill_front, after_stop, started_at, after_run, put_parked}
use Rattle.scx_sched_policy.specs.Policy.{PolicyState}
use Rattle.scx_sched_world.specs.declared.eject.Eject.{Eject}
use Rattle.scx_sched_machine.specs.Steps.{State, Stepped}
use Rattle.scx_sched_machine.specs.Ejecting.{eject}
use Rattle.scx_sched_machine.specs.Callbacks.{acting, task_cpu_and_0}
use Rattle.scx_sched_machine.specs.Put.{enters, enters_builtin}
use Rattle.scx_sched_machine.specs.Events.{inserted_by_choice, chosen_by_default}
use Rattle.scx_sched_machine.specs.Filling.{fill}
use Rattle.scx_sched_machine.specs.Parking.{park}
use Rattle.scx_sched_machine.specs.Cycle.{kept}
use Rattle.scx_sched_machine.specs.Rounds.{with_rounds}
use Rattle.scx_sched_machine.specs.Start.{by_policy, blank, first_state}
use Rattle.scx_sched_machine.proofs.Choices.{keeps_if}
use Rattle.scx_sched.proofs.Marks.{KeepsMarks, KeepsCycles, Anywhere, kept_claim, kept_homed, kept_switch, kept_cycling}
use Rattle.scx_sched.proofs.Fine.{renewed_run}
use Rattle.scx_sched.proofs.Queries.{KeepsQueries, KeepsBuiltin, KeepsEjecting, KeepsCallbacks, off_queues, kept_marks, kept_called, kept_enter, kept_brought, kept_query, kept_put_builtin, kept_ejecting, kept_eject, kept_call_back}
use Rattle.scx_sched.proofs.Begins.{keeps_started}
use Rattle.scx_sched.proofs.Homes.{keeps_homes}
use Rattle.scx_sched.proofs.Stepwise.{IsWalked, KeepsCalls, KeepsSupply, KeepsPuts, KeepsEvents, walk_put, walk_arrives, walk_arrives_told, walk_rounds_of}
use Rattle.scx_sched.proofs.Written.{each_written}

-- the same groups and tasks, each with the same weight of its own and the same mask, of which the
-- same are active
abbrev pub IsTreeLike : Hierarchy → Hierarchy → Type 0
IsTreeLike h t = (t.groups ≡ h.groups) × (t.homes ≡ h.homes) × (t.active ≡ h.active) × (t.own_weights ≡ h.own_weights) × (t.masks ≡ h.masks)

-- how many tasks there are, and how long each has run at most
pub record Times : Type 0 where
  pub many : ℕ
  pub most : ℕ → ℕ

-- so many tasks, which have run for so long at most
abbrev pub AreTimed : Times → List Task → Type 0
AreTimed n xs = (length xs ≡ n.many) × ((u : ℕ) → (get_or xs u no_task).run_ns ≤ n.most u)

-- a tree like that one, such tasks, and so many processors
abbrev pub IsLike : Hierarchy → Times → ℕ → WorldState → Type 0
IsLike tree n c w = IsTreeLike tree w.tree × AreTimed n w.tasks × (length w.cpus ≡ c)

-- as many tasks, none of which runs on
abbrev pub times_of : ℕ → WorldState → Times
times_of n w = record { many = n; most = λ u. (task_at w u).run_ns }

-- another record of a task, which has run as long
pub timed_set : (n : Times) (xs : List Task) (t : ℕ) (x : Task) → x.run_ns ≡ (get_or xs t no_task).run_ns → AreTimed n xs → AreTimed n (set xs t x)
timed_set n xs t x same h = (length-set xs t x ∙ h.0, each_written (λ u (y : Task). y.run_ns ≤ n.most u) xs t x no_task (omega (arith, same, h.1 t)) h.1)

-- a world like a tree has its groups
pub like_groups : (h : Hierarchy) (n : Times) (c : ℕ) (w : WorldState) → IsLike h n c w → w.tree.groups ≡ h.groups
like_groups h n c w i = let t : IsTreeLike h w.tree = i.0 in t.0

-- in a world like a tree tasks have the same weights of their own
pub like_own_weights : (h : Hierarchy) (n : Times) (c : ℕ) (w : WorldState) → IsLike h n c w → w.tree.own_weights ≡ h.own_weights
like_own_weights h n c w i = let t : IsTreeLike h w.tree = i.0 in t.3

-- in a world like a tree tasks have the same masks
pub like_masks : (h : Hierarchy) (n : Times) (c : ℕ) (w : WorldState) → IsLike h n c w → w.tree.masks ≡ h.masks
like_masks h n c w i = let t : IsTreeLike h w.tree = i.0 in t.4

-- in a world like a tree the same tasks are active
pub like_active : (h : Hierarchy) (n : Times) (c : ℕ) (w : WorldState) → IsLike h n c w → w.tree.active ≡ h.active
like_active h n c w i = let t : IsTreeLike h w.tree = i.0 in t.2

module _ (h : Hierarchy) (n : Times) (c : ℕ) where
  -- ---- small steps

  like_task : (w : WorldState) (t : ℕ) (x : Task) → x.run_ns ≡ (task_at w t).run_ns → IsLike h n c w → IsLike h n c (with_task w t x)
  like_task w t x same i = (i.0, timed_set n w.tasks t x same i.1, i.2)

  -- each small change of a query
  like_kept : KeepsQueries (IsLike h n c)
  like_kept = off_queues (IsLike h n c) (λ w x other i. i) (λ w k o later i. i) (λ w t s v d i. like_task w t _ refl i) (λ w q k m a b d e r ns i. i)

  like_builtin : KeepsBuiltin (IsLike h n c)
  like_builtin w t i = like_task w t _ refl i

  -- processors of tasks, slices and sets of processors are no part of it
  pub like_marks : KeepsMarks Anywhere (IsLike h n c)
  like_marks = kept_marks (IsLike h n c) like_kept

  pub like_stopped : (w : WorldState) (d t : ℕ) → IsLike h n c w → IsLike h n c (after_stop w d t)
  like_stopped w d t i = (i.0, timed_set n w.tasks t _ refl i.1, length-set w.cpus d None ∙ i.2)

  like_started : (w : WorldState) (d t : ℕ) → IsLike h n c w → IsLike h n c (started_at (Some t) w d)
  like_started w d t i = (i.0, timed_set n w.tasks t _ refl i.1, length-set w.cpus d (Some t) ∙ i.2)

  like_ran : (w : WorldState) (d t : ℕ) → IsLike h n c w → IsLike h n c (after_run w d t)
  like_ran w d t i = (i.0, timed_set n w.tasks t _ refl i.1, length-set w.cpus d (Some t) ∙ i.2)

  -- ---- an ejection

  like_ejecting : KeepsEjecting (IsLike h n c)
  like_ejecting = kept_ejecting (IsLike h n c) like_kept like_builtin

  pub like_eject : (s : State) (x : Eject) → IsLike h n c s.world → IsLike h n c (eject s x).state.world
  like_eject s x i = kept_eject (IsLike h n c) like_ejecting s x (i.0, i.1, i.2)

  -- ---- callbacks

  like_callbacks : KeepsCallbacks (IsLike h n c)
  like_callbacks = record { query = kept_query (IsLike h n c) like_kept; quiet = λ w i. i; out = λ w x i. i; ejecting = like_ejecting }

  -- what an event by Linux rules keeps until it ends is no part of it
  like_cycles : KeepsCycles (IsLike h n c)
  like_cycles w o claimed x wakes i = i

  like_put_parked : (w : WorldState) (t : ℕ) → IsLike h n c w → IsLike h n c (put_parked w t)
  like_put_parked w t i = keeps_if (IsLike h n c) (nat_lt t (length w.tasks)) _ w (like_task w t _ refl i) i

  -- a processor that is chosen by default
  like_chosen : (w : WorldState) (t : ℕ) → IsLike h n c w → IsLike h n c (chosen_by_default w t)
  like_chosen w t i = keeps_if (IsLike h n c) (is_by_linux w) (inserted_by_choice (after_claim w (choice w t)) (choice w t)) w (go (choice w t)) i
    where
      go : (o : Option ℕ) → IsLike h n c (inserted_by_choice (after_claim w o) o)
      go None = i
      go (Some d) = kept_claim Anywhere (IsLike h n c) like_marks w (Some d) i

-- ---- steps

-- a step leaves whatever a world was like
abbrev pub Likes : State → Stepped → Type 0
Likes s r = (h : Hierarchy) (n : Times) (c : ℕ) → IsLike h n c s.world → IsLike h n c r.state.world

likes_walked : IsWalked Likes
likes_walked = record { none = λ s h n c i. i; joined = λ s a r f g h n c i. g h n c (f h n c i); noted = λ s ns r f. f }

-- so does a callback
pub like_calls : (d : ℕ) → KeepsCalls Likes d
like_calls d = record { steps = likes_walked; called = λ s b a t told h n c i. kept_call_back (IsLike h n c) (like_callbacks h n c) s b a t d i }

-- and a task that is put
pub like_puts : KeepsPuts Likes
unfolding enters enters_builtin
like_puts = record {
  calls = like_calls;
  enters = λ s t x h n c i. kept_enter (IsLike h n c) (like_kept h n c) s.world t x i;
  enters_builtin = λ s t h n c i. kept_put_builtin (IsLike h n c) (like_kept h n c) (like_builtin h n c) s.world t i;
}

like_supplied : (d : ℕ) → KeepsSupply Likes d
unfolding fill park
like_supplied d = record {
  calls = like_calls d;
  filled = λ s q apart h n c i. kept_brought (IsLike h n c) (like_kept h n c) (fill_front s.world q d) s.world d i;
  parked = λ s q t apart there h n c i. like_put_parked h n c (after_leave s.world t) t i;
  moved = λ s b h n c i. i;
}

-- all others of an event do, but for what it does by itself
pub like_events : KeepsEvents Likes (λ s. Unit {0})
unfolding park
like_events = record {
  cycle = record {
    supply = like_supplied;
    puts = walk_put Likes like_puts;
    fronts = λ s t d. like_puts.enters s t (to_front d);
    stopped = λ s d t h n c i. like_stopped h n c s.world d t i;
    charged = λ s t h n c i. like_task h n c s.world t _ refl i;
    started = λ s d t h n c i. like_started h n c s.world d t i;
    ran = λ s d t h n c i. like_ran h n c s.world d t i;
    caught_up = λ s t h n c i. i;
    switched = λ s t h n c i. like_task h n c s.world t _ refl i;
    kept = λ s t h n c i. like_task h n c s.world t _ (renewed_run (task_at s.world t)) i;
    kicked = λ s d h n c i. i;
    cycling = λ s o h n c i. kept_cycling (IsLike h n c) (like_cycles h n c) s.world o i;
    ended = λ s h n c i. i;
  };
  asks = λ s t d any h n c i. kept_call_back (IsLike h n c) (like_callbacks h n c) s callback.SelectCpu (task_cpu_and_0 t d) t d i;
  arrives = λ s t d. walk_arrives Likes like_puts s.world.call.insert s t d;
  arrives_told = λ s t d linux. walk_arrives_told Likes like_puts s t d;
  looks = λ s d h n c i. i;
  cut_off = λ s t h n c i. like_task h n c s.world t _ refl i;
  switching = λ s d h n c i. kept_switch (IsLike h n c) (like_cycles h n c) s.world d i;
  left = λ s t h n c i. i;
  parked = λ s t h n c i. like_put_parked h n c s.world t i;
  free = λ s t h n c i. like_task h n c s.world t _ refl i;
  homed = λ s t d h n c i. kept_homed Anywhere (IsLike h n c) (like_marks h n c) s.world t d tt i;
  chosen = λ s t h n c i. like_chosen h n c s.world t i;
  asked = λ s t d h n c i. i;
  woken = λ s h n c i. i;
  fired = λ s h n c i. i;
  waker = λ s d linux h n c i. i;
  slept = λ s t linux h n c i. i;
  due = λ s k linux h n c i. i;
}

-- a step, and the processors that look for work after it
pub like_rounds : (h : Hierarchy) (n : Times) (c : ℕ) (r : Stepped) → IsLike h n c r.state.world → IsLike h n c (with_rounds r).state.world
like_rounds h n c r i = walk_rounds_of Likes (λ s. Unit {0}) like_events Likes likes_walked.joined r.state r (λ h n c i. i) h n c i

-- ---- the first world

-- as it begins, before any callback
like_blank : (p : PolicyState) (h : Hierarchy) (cpus : ℕ) → IsLike h (times_of (length h.homes) (blank p h cpus).world) cpus (blank p h cpus).world
like_blank p h cpus =
    let w = begun_periods (by_policy p (first_world h cpus)) in
    let n = times_of (length h.homes) w in
    let x = keeps_homes (IsLike h n cpus) (λ v t c there i. like_task h n cpus v t _ refl i) w ((refl, refl, refl, refl, refl), (length-replicate (length h.homes) _, λ u. omega arith), length-replicate {A = Option ℕ} cpus None) in
    (x.0, (x.1.0, λ u. omega arith), x.2)

-- the first world has such a tree, and a task and a processor for each
pub like_first : (p : PolicyState) (h : Hierarchy) (cpus : ℕ) (t : State) → first_state p h cpus ≡ Ok t → IsLike h (times_of (length h.homes) (blank p h cpus).world) cpus t.world
like_first p h cpus t e =
    let I = IsLike h (times_of (length h.homes) (blank p h cpus).world) cpus in
    let kept = kept_query I (like_kept h (times_of (length h.homes) (blank p h cpus).world) cpus) in
    keeps_started cpus (λ s. I s.world) (λ s b a u c any i. kept_called I kept (acting s b) b a s.maps (at_callback s.world b u c) i) (λ s i. i) p h t e (like_blank p h cpus)
