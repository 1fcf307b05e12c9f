-- Each small step leads from two worlds that are the same but for what ticks count to two such worlds.
use Rattle.std.proofs.Common.{◌≡◌, ℕ, ◌&&◌, Bool, cond, nat_lt, List, length, Option, Some, None, refl, sym, ap, ◌∙◌}
use Rattle.std.specs.Prelude.{true, false}
use Rattle.scx_dsq.specs.Calls.{after_create, after_push, after_pop}
use Rattle.scx_dsq.specs.declared.entries.Rank.TheVariants.{Fifo, Front, Vtime}
use Rattle.scx_dsq.specs.declared.entries.Rank.{Rank}
use Rattle.scx_weights.specs.Hierarchy as tree
use Rattle.scx_weights.specs.Limits as limits
use Rattle.scx_weights.specs.Weights.{task_weight}
use Rattle.scx_sched_tasks.specs.declared.task.Task.{Task}
use Rattle.scx_sched_world.specs.declared.call.Insert.{Insert}
use Rattle.scx_sched_world.specs.Ids.{parked_queue, local_on}
use Rattle.scx_sched_world.specs.World.{WorldState, with_queues, with_tree, task_at, with_task, is_throttled, running, with_cpu, with_kick, is_by_linux, is_this, default_choice, after_claim}
use Rattle.scx_sched_world.specs.Tasks.{with_since, with_slice, with_home, task_after_insert, after_wake, after_sleep, after_leave, homed, local_cpu, homed_at, after_local, rank_by, after_preempt_of, after_preempt_at, after_preempt, after_enter, brought, after_stop, on_cpu, started_at, with_new_slice, after_keep, put_parked, let_go, ran_a_tick, after_tick, used_ms}
use Rattle.scx_sched_world.specs.Helpers.{weight_at, group_at}
use Rattle.scx_explore_findings.specs.Counted.{uncounted, all_uncounted, without_counts}
use Rattle.scx_explore_findings.proofs.Leaving.{Less, IsLeaving, pushed, homing, choice_same as chosen_alike}
use Rattle.scx_explore_findings.proofs.Records.{alike_if}
use Rattle.scx_explore_findings.proofs.CountedRecords.{Keeps, keeps_since, keeps_slice, keeps_home, keeps_on_cpu, keeps_new_slice, keeps_insert, all_again, keeps_set, read_same, length_same, set_same}

-- of two worlds all is the same but for what ticks count
abbrev pub Same : WorldState → WorldState → Type 0
Same v w = without_counts v ≡ without_counts w

-- a step doesn't depend on that
abbrev pub Leaves : (WorldState → WorldState) → Type 0
Leaves f = (w : WorldState) → Same (f w) (f (without_counts w))

abbrev with_records : WorldState → List Task → WorldState
with_records w xs = record w { tasks = xs }

-- leaving it out once more changes nothing
pub plain : (w : WorldState) → Same w (without_counts w)
plain w = ap (with_records w) (all_again w.tasks)

-- such a step leads from two worlds that are the same to two that are the same
pub across : (f : WorldState → WorldState) → Leaves f → (v w : WorldState) → Same v w → Same (f v) (f w)
across f k v w e = k v ∙ ap (λ (u : WorldState). without_counts (f u)) e ∙ sym (k w)

-- one step after another
pub both : (f g : WorldState → WorldState) → Leaves f → Leaves g → Leaves (λ w. g (f w))
both f g k l w = across g l (f w) (f (without_counts w)) (k w)

-- one of two, by a test that says the same of both
pub either : (b c : Bool) (x x' y y' : WorldState) → b ≡ c → Same x x' → Same y y' → Same (cond b x y) (cond c x' y')
either b c x x' y y' e p q = alike_if without_counts b c x x' y y' e p q

-- ---- what is read

-- what is the same of each record without that is read alike of a task
pub read : {A : Type 0} (f : Task → A) → ((x : Task) → f x ≡ f (uncounted x)) → (w : WorldState) (t : ℕ) → f (task_at w t) ≡ f (task_at (without_counts w) t)
read f k w t = read_same f k w.tasks t

-- whether there is such a task
pub known : (w : WorldState) (t : ℕ) → nat_lt t (length w.tasks) ≡ nat_lt t (length (without_counts w).tasks)
known w t = ap (λ (n : ℕ). nat_lt t n) (length_same w.tasks)

-- whether a task may not run
pub throttled_same : (w : WorldState) (t : ℕ) → is_throttled w t ≡ is_throttled (without_counts w) t
throttled_same w t = ap (λ (b : Bool). b && limits.is_throttled w.tree t) (known w t)

-- the weight of a task
pub weight_same : (w : WorldState) (t : ℕ) → weight_at w t ≡ weight_at (without_counts w) t
weight_same w t = ap (λ (b : Bool). cond b (task_weight w.tree t) 0) (known w t)

-- the group of a task
pub group_same : (w : WorldState) (t : ℕ) → group_at w t ≡ group_at (without_counts w) t
group_same w t = ap (λ (b : Bool). cond b (tree.home_of w.tree t) 0) (known w t)

-- the processor on which it ran last
pub prev_same : (w : WorldState) (t : ℕ) → (task_at w t).prev_cpu ≡ (task_at (without_counts w) t).prev_cpu
prev_same w t = read (λ x. x.prev_cpu) (λ x. refl) w t

-- ---- steps

-- a record is changed
pub set_task : (g : Task → Task) → Keeps g → (w : WorldState) (t : ℕ) → Same (with_task w t (g (task_at w t))) (with_task (without_counts w) t (g (task_at (without_counts w) t)))
set_task g keeps w t = ap (with_records w) (keeps_set g keeps w.tasks t)

if_known : (t : ℕ) (f : WorldState → WorldState) → Leaves f → Leaves (λ w. cond (nat_lt t (length w.tasks)) (f w) w)
if_known t f k w = either (nat_lt t (length w.tasks)) (nat_lt t (length (without_counts w).tasks)) (f w) (f (without_counts w)) w (without_counts w) (known w t) (k w) (plain w)

-- a step that is made under Linux rules alone
pub by_linux : (f : WorldState → WorldState) → Leaves f → Leaves (λ w. cond (is_by_linux w) (f w) w)
by_linux f k w = either (is_by_linux w) (is_by_linux w) (f w) (f (without_counts w)) w (without_counts w) refl (k w) (plain w)

-- a task wakes
pub leaves_wake : (t : ℕ) → Leaves (λ w. after_wake w t)
leaves_wake t w = set_task (λ x. with_since x (Some w.clock)) (keeps_since (Some w.clock)) (with_tree w (tree.with_task w.tree t true)) t

-- a task goes to sleep
pub leaves_sleep : (t : ℕ) → Leaves (λ w. after_sleep w t)
leaves_sleep t = if_known t (λ w. with_tree (with_task w t (with_since (task_at w t) None)) (tree.with_task w.tree t false)) (λ w. set_task (λ x. with_since x None) (keeps_since None) (with_tree w (tree.with_task w.tree t false)) t)

-- a task's processor is that one
pub leaves_homed : (t c : ℕ) → Leaves (λ w. homed w t c)
leaves_homed t c = by_linux (λ w. with_task w t (with_home (task_at w t) c)) (λ w. set_task (λ x. with_home x c) (keeps_home c) w t)

leaves_homed_at : (t : ℕ) (o : Option ℕ) → Leaves (λ w. homed_at w t o)
leaves_homed_at t None w = plain w
leaves_homed_at t (Some c) w = leaves_homed t c w

-- a task comes to a local queue
pub leaves_local : (c t : ℕ) → Leaves (λ w. after_local w c t)
leaves_local c t = both (λ w. with_queues w (after_push w.queues (local_on c) t Fifo)) (λ w. homed w t c) (λ w. plain (with_queues w (after_push w.queues (local_on c) t Fifo))) (leaves_homed t c)

-- a task leaves its queue
pub leaves_leave : (t : ℕ) → Leaves (λ w. after_leave w t)
leaves_leave t w = plain (after_leave w t)

-- a task is brought from one queue to a local one
pub leaves_brought : (o : Option ℕ) (c : ℕ) → Leaves (λ w. brought o w c)
leaves_brought None c w = plain w
leaves_brought (Some t) c w = leaves_local c t (after_leave w t)

preempt_of : (c : ℕ) (o : Option ℕ) → Leaves (λ w. after_preempt_of w c o)
preempt_of c None w = plain w
preempt_of c (Some t) w =
    either (is_this c w.cycling) (is_this c w.cycling) w (without_counts w) (with_kick (with_task w t (with_slice (task_at w t) 0)) c) (with_kick (with_task (without_counts w) t (with_slice (task_at (without_counts w) t) 0)) c) refl
    (plain w) (set_task (λ x. with_slice x 0) (keeps_slice 0) (with_kick w c) t)

preempt_at : (o : Option ℕ) → Leaves (λ w. after_preempt_at w o)
preempt_at None w = plain w
preempt_at (Some c) w = preempt_of c (running w c) w

preempt : (i : Insert) → Leaves (λ w. after_preempt w i)
preempt i w = either i.preempts i.preempts (after_preempt_at w (local_cpu w i.queue)) (after_preempt_at (without_counts w) (local_cpu w i.queue)) w (without_counts w) refl (preempt_at (local_cpu w i.queue) w) (plain w)

rank_same : (r : Rank) (w : WorldState) → rank_by w r ≡ rank_by (without_counts w) r
rank_same Fifo w = refl
rank_same Front w = refl
rank_same (Vtime n) w = refl

-- a task goes into a queue
pub leaves_enter : (t : ℕ) (i : Insert) → Leaves (λ w. after_enter w t i)
leaves_enter t i = if_known t (λ w. after_preempt (homing t i w) i) (both (homing t i) (λ w. after_preempt w i) (both (pushed t i) (λ w. homed_at w t (local_cpu w i.queue)) pushes (λ w. leaves_homed_at t (local_cpu w i.queue) w)) (preempt i))
  where
    pushes : Leaves (pushed t i)
    pushes w =
        set_task (λ x. task_after_insert x i) (keeps_insert i) (with_queues w (after_push w.queues i.queue t (rank_by w i.rank))) t
        ∙ ap (λ (r : Rank). without_counts (with_queues (with_task (without_counts w) t (task_after_insert (task_at (without_counts w) t) i)) (after_push w.queues i.queue t r))) (rank_same i.rank w)

-- a task leaves its processor
pub leaves_stop : (c t : ℕ) → Leaves (λ w. after_stop w c t)
leaves_stop c t w = set_task (λ x. with_since x (Some w.clock)) (keeps_since (Some w.clock)) (with_cpu w c None) t

-- a front comes to a processor
pub leaves_started : (t c : ℕ) → Leaves (λ w. started_at (Some t) w c)
leaves_started t c w = set_task (λ x. on_cpu x c) (keeps_on_cpu c) (with_cpu (with_queues w (after_pop w.queues (local_on c))) c (Some t)) t

-- a task keeps its processor
pub leaves_keep : (o : Option ℕ) → Leaves (λ w. after_keep w o)
leaves_keep None w = plain w
leaves_keep (Some t) w = set_task with_new_slice keeps_new_slice w t

-- a task is parked
pub leaves_parked : (t : ℕ) → Leaves (λ w. put_parked w t)
leaves_parked t = if_known t (λ w. with_queues (with_task w t (with_since (task_at w t) None)) (after_push w.queues parked_queue t Fifo)) (λ w. set_task (λ x. with_since x None) (keeps_since None) (with_queues w (after_push w.queues parked_queue t Fifo)) t)

-- a task is let go
pub leaves_let_go : (t : ℕ) → Leaves (λ w. let_go w t)
leaves_let_go t = both (λ w. with_task w t (with_since (task_at w t) (Some w.clock))) (λ w. after_leave w t) (λ w. set_task (λ x. with_since x (Some w.clock)) (keeps_since (Some w.clock)) w t) (leaves_leave t)

-- its groups have used a millisecond more
pub leaves_used : (t : ℕ) → Leaves (λ w. used_ms w t)
leaves_used t = if_known t (λ w. with_tree w (limits.with_use w.tree t)) (λ w. plain (with_tree w (limits.with_use w.tree t)))

-- a processor is claimed
pub leaves_claim : (o : Option ℕ) → Leaves (λ w. after_claim w o)
leaves_claim None w = plain w
leaves_claim (Some c) w = either (is_by_linux w) (is_by_linux w) _ _ w (without_counts w) refl (plain _) (plain w)

-- ---- what programs ask for

-- records without what ticks count, wherever tasks run and wait
abbrev pub records : Less
records cpus queues xs = all_uncounted xs

-- any slice may be given
abbrev pub AnyGiven : ℕ → Type 0
AnyGiven n = Unit {0}

pub leaving : IsLeaving records AnyGiven
leaving = record {
  plain = plain;
  lengths = λ w. length_same w.tasks;
  home = prev_same;
  left = leaves_leave;
  created = λ q w. plain (with_queues w (after_create w.queues q));
  entered = λ t i e. leaves_enter t i;
  claimed = leaves_claim;
  brought = λ q c t w apart from. leaves_local c t (after_leave w t);
}

-- the processor that is chosen by default
pub choice_same : (w : WorldState) (t : ℕ) → default_choice w t ≡ default_choice (without_counts w) t
choice_same w t = chosen_alike records AnyGiven leaving w t

-- ---- a tick

-- a task has run for a tick, whose record is the same but for that
pub ticked_same : (w : WorldState) (t : ℕ) → uncounted (ran_a_tick (task_at w t)) ≡ uncounted (task_at w t) → Same (after_tick w t) w
ticked_same w t e = ap (with_records w) (set_same w.tasks t (ran_a_tick (task_at w t)) e)
