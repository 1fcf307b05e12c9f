-- A property of the world alone, whoever is at hand and whoever runs where: what has to be shown of it, so that each
-- small step of a machine keeps it.
use Rattle.std.proofs.Common.{◌≡◌, ℕ, ◌+◌, ◌==◌, nat_lt, List, [], length, Option, Some, None, is_none}
use Rattle.scx_dsq.specs.Calls.{after_pop}
use Rattle.scx_dsq.specs.declared.entries.Rank.TheVariants.{Fifo}
use Rattle.scx_weights.specs.Hierarchy.{Hierarchy, with_own_weight}
use Rattle.scx_weights.specs.Refusals.{own_weight_fault}
use Rattle.scx_sched_tasks.specs.declared.task.Task.{Task}
use Rattle.scx_sched_tasks.specs.Tasks.{default_slice}
use Rattle.scx_sched_world.specs.declared.call.Call.{Call}
use Rattle.scx_sched_world.specs.declared.cpu_set.CpuSet.{CpuSet}
use Rattle.scx_sched_world.specs.declared.eject.Eject.{Eject}
use Rattle.scx_sched_world.specs.declared.notes.Note.{Note}
use Rattle.scx_sched_world.specs.declared.passing.Passing.{Passing}
use Rattle.scx_sched_world.specs.Ids.{parked_queue, local_on}
use Rattle.scx_sched_world.specs.World.{WorldState, with_queues, with_tree, with_task, task_at, with_cpu, with_waker, at_callback}
use Rattle.scx_sched_world.specs.Tasks.{with_since, with_slice, to_local, on_cpu, after_leave, fill_front, after_own_weight}
use Rattle.scx_sched_world.specs.Helpers.{with_insert}
use Rattle.scx_sched_world.specs.Ejecting.{put_out, builtin_vtime, used_vtime, at_most_64_bits, after_catch_up}
use Rattle.scx_sched_machine.proofs.Choices.{keeps_if}
use Rattle.scx_sched.specs.Kept.{IsKeptBySteps, with_sets, with_moved}
use Rattle.scx_sched.proofs.Marks.{KeepsCycles, kept_cycling}
use Rattle.scx_sched.proofs.Queries.{KeepsQueries, KeepsBuiltin, kept_query, kept_enter, kept_brought, kept_put_builtin, kept_evict}

-- what is kept by the small changes of queries, by tasks that begin to wait and wait no more, and by an ejection
pub record KeepsAlone (n : ℕ) (P : WorldState → Type 0) : Type 0 where
  pub known : (w : WorldState) → P w → length w.tasks ≡ n
  pub queries : KeepsQueries P
  -- a task waits from now on; one waits no more; one has another virtual time under the built-in scheduler
  pub waits_now : (w : WorldState) (t : ℕ) → P w → P (with_task w t (with_since (task_at w t) (Some w.clock)))
  pub waits_not : (w : WorldState) (t home : ℕ) → P w → P (with_task w t (record (task_at w t) { since = None; prev_cpu = home }))
  pub builtin : (w : WorldState) (t slice vtime : ℕ) → P w → P (with_task w t (record (task_at w t) { slice = slice; builtin = vtime }))
  pub popped : (w : WorldState) (q : ℕ) → P w → P (with_queues w (after_pop w.queues q))
  pub out : (w : WorldState) (x : Eject) → P w → P (put_out w x)
  -- the rest doesn't matter
  pub rest : (w : WorldState) (cpus : List (Option ℕ)) (cycling : Option ℕ) (passing : Passing) (claimed kicked preempted : CpuSet) (tree : Hierarchy) (call : Call) (builtin_clock : ℕ) (notes : List Note) → P w
      → P (record w { cpus = cpus; cycling = cycling; passing = passing; claimed = claimed; kicked = kicked; preempted = preempted; tree = tree; call = call; builtin_clock = builtin_clock; notes = notes })

module _ (n : ℕ) (P : WorldState → Type 0) (k : KeepsAlone n P) where
  alone_cpu : (w : WorldState) (c : ℕ) (o : Option ℕ) → P w → P (with_cpu w c o)
  alone_cpu w c o h = k.rest w (with_cpu w c o).cpus w.cycling w.passing w.claimed w.kicked w.preempted w.tree w.call w.builtin_clock w.notes h

  alone_call : (w : WorldState) (x : Call) (notes : List Note) → P w → P (record w { call = x; notes = notes })
  alone_call w x notes h = k.rest w w.cpus w.cycling w.passing w.claimed w.kicked w.preempted w.tree x w.builtin_clock notes h

  alone_cycles : KeepsCycles P
  alone_cycles w o claimed x waker h = k.rest w w.cpus o x claimed w.kicked w.preempted w.tree w.call w.builtin_clock w.notes h

  alone_builtin : KeepsBuiltin P
  alone_builtin w t h = k.builtin w t default_slice (builtin_vtime w t) h

  alone_slice : (w : WorldState) (t slice : ℕ) → P w → P (with_task w t (with_slice (task_at w t) slice))
  alone_slice w t slice h = k.queries.touched w t slice (task_at w t).vtime (task_at w t).prev_cpu h

  -- other weights
  pub alone_tree : (w : WorldState) (x : Hierarchy) → P w → P (with_tree w x)
  alone_tree w x h = k.rest w w.cpus w.cycling w.passing w.claimed w.kicked w.preempted x w.call w.builtin_clock w.notes h

  pub alone_weighed : (w : WorldState) (t x : ℕ) → P w → P (after_own_weight w t x)
  alone_weighed w t x h = keeps_if P (is_none (own_weight_fault w.tree t x)) (with_tree w (with_own_weight w.tree t x)) w (alone_tree w (with_own_weight w.tree t x) h) h

  -- a task that waits no more, where it ran last
  alone_still : (w : WorldState) (t : ℕ) → P w → P (with_task w t (with_since (task_at w t) None))
  alone_still w t h = k.waits_not w t (task_at w t).prev_cpu h

  -- each small step
  pub alone_steps : IsKeptBySteps n (λ m hand on w. P w)
  alone_steps = record {
    more = λ m hand on w h. h;
    known = λ m hand on w h. k.known w h;
    query = λ m hand on w q h. kept_query P k.queries w q h;
    begun = λ m hand on w b t c l h. alone_call w (at_callback w b t c).call [] h;
    quiet = λ m hand on w h. alone_call w w.call [] h;
    moved = λ m hand on w b h. alone_call w (with_moved w b).call w.notes h;
    cancelled = λ m hand on w i h. k.queries.timed w i None (λ a e. absurd (cc)) h;
    cycling = λ m hand on w o h. kept_cycling P alone_cycles w o h;
    ended = λ m hand on w h. k.rest w w.cpus None w.passing w.claimed w.kicked w.preempted w.tree w.call w.builtin_clock w.notes h;
    sets = λ m hand on w a b c d o waker h. k.rest w w.cpus w.cycling o a b c w.tree (with_sets w a b c d o).call w.builtin_clock w.notes h;
    wakes = λ m hand on w o l h. k.rest w w.cpus w.cycling (with_waker w o).passing w.claimed w.kicked w.preempted w.tree w.call w.builtin_clock w.notes h;
    homed = λ m hand on w t c l may h. k.queries.touched w t (task_at w t).slice (task_at w t).vtime c h;
    sliced = λ m hand on w t s h. alone_slice w t s h;
    wants = λ m hand on w c l calm may h. alone_call w (with_insert w (to_local c)).call w.notes h;
    entered = λ m on w t i l x may h. kept_enter P k.queries w t i h;
    filled = λ m on w q c apart l h. kept_brought P k.queries (fill_front w q c) w c h;
    stopped = λ m on w c t l within runs h. alone_cpu (with_task w t (with_since (task_at w t) (Some w.clock))) c None (k.waits_now w t h);
    started = λ m on w c t l free front may h. alone_cpu (with_task (with_queues w (after_pop w.queues (local_on c))) t (on_cpu (task_at w t) c)) c (Some t) (k.waits_not (with_queues w (after_pop w.queues (local_on c))) t c (k.popped w (local_on c) h));
    ran = λ m on w c t l free here may h. alone_cpu (with_task (after_leave w t) t (on_cpu (task_at w t) c)) c (Some t) (k.waits_not (after_leave w t) t c (k.queries.removed w t h));
    put_parked = λ m on w t l may-not h. keeps_if P (nat_lt t (length w.tasks)) _ w (k.queries.pushed (with_task w t (with_since (task_at w t) None)) parked_queue t Fifo (alone_still w t h)) h;
    left = λ m on w q t apart there h. k.queries.removed w t h;
    kept = λ m on w t h. keeps_if (λ (x : Task). P (with_task w t x)) ((task_at w t).slice == 0) (with_slice (task_at w t) default_slice) (task_at w t) (alone_slice w t default_slice h) (alone_slice w t (task_at w t).slice h);
    asleep = λ m on w t l h. keeps_if P (nat_lt t (length w.tasks)) _ w (alone_tree (with_task w t (with_since (task_at w t) None)) _ (alone_still w t h)) h;
    put_out = λ m hand on w x h. k.out w x h;
    evict = λ m hand on w t l h. kept_evict P k.queries alone_builtin w t h;
    cut = λ m hand on w t h. alone_slice w t _ h;
    put_builtin = λ m on w t l h. kept_put_builtin P k.queries alone_builtin w t h;
    overtaken = λ m hand on w t h. k.rest w w.cpus w.cycling w.passing w.claimed w.kicked w.preempted w.tree w.call (after_catch_up w t).builtin_clock w.notes h;
    charged = λ m hand on w t out h. k.builtin w t (task_at w t).slice (at_most_64_bits ((task_at w t).builtin + used_vtime w t)) h;
  }
