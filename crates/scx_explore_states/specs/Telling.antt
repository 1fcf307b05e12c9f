-- The words of a state tell what is kept of its machine, where each task has its own place in them.
use Rattle.std.specs.Prelude.{◌≡◌, ℕ, ◌<◌, ◌≤◌, ◌%◌, ◌||◌, not, min, true, List, length}
use Rattle.scx_dsq.specs.Queues.{entry_of}
use Rattle.scx_sched_world.specs.World.{WorldState, task_at, wait, cpu_of}
use Rattle.scx_sched.specs.Sim.{SimState}
use Rattle.scx_explore_states.specs.declared.form.Form.{Form}
use Rattle.scx_explore_states.specs.Rows.{kept, slice_kept, waiting_key, is_by_vtime, ahead_of, entries_of, place_of, is_idle}
use Rattle.scx_explore_states.specs.Words.{most_queues}
use Rattle.scx_explore_states.specs.Written.{IsWritten, usage_words, rules_words, map_words}

-- both machines have as many tasks, CPUs and timers, the same groups, and go by the same rules
pub record AreOfOneShape (v w : WorldState) : Type 0 where
  pub tasks : length v.tasks ≡ length w.tasks
  pub cpus : length v.cpus ≡ length w.cpus
  pub timers : length v.timers ≡ length w.timers
  pub groups : v.tree.groups ≡ w.tree.groups
  pub rules : v.rules ≡ w.rules

-- where the task of that number is, with these numbers of queues
abbrev pub place_at : WorldState → List ℕ → ℕ → ℕ
place_at w ids k = place_of ids (cpu_of w k) (entry_of w.queues k)

-- the same is kept of the task of that number in both worlds
pub record IsKeptAlike (f : Form) (ids : List ℕ) (v w : WorldState) (k : ℕ) : Type 0 where
  pub wait : min (kept f.waits (wait v k)) 65535 ≡ min (kept f.waits (wait w k)) 65535
  pub place : place_at v ids k ≡ place_at w ids k
  pub prev_cpu : (task_at v k).prev_cpu % 16 ≡ (task_at w k).prev_cpu % 16
  pub ahead :
      ahead_of (entries_of v) (entry_of v.queues k) ≡ ahead_of (entries_of w) (entry_of w.queues k)
  pub by_vtime : is_by_vtime (entry_of v.queues k) ≡ is_by_vtime (entry_of w.queues k)
  pub slice :
      kept (f.idle_slices || not (is_idle (place_at v ids k) (entry_of v.queues k)))
      (slice_kept f.slices (task_at v k).slice)
      ≡ kept (f.idle_slices || not (is_idle (place_at w ids k) (entry_of w.queues k)))
      (slice_kept f.slices (task_at w k).slice)
  pub key :
      kept f.keys (waiting_key (entry_of v.queues k))
      ≡ kept f.keys (waiting_key (entry_of w.queues k))
  pub vtime : kept f.vtime (task_at v k).vtime ≡ kept f.vtime (task_at w k).vtime
  pub run_ns : kept f.run_ns (task_at v k).run_ns ≡ kept f.run_ns (task_at w k).run_ns

-- of both machines the same is kept: of each of the first eight tasks, of times that the form
-- keeps, what groups have used, what Linux rules keep, and the maps
pub record KeepTheSame (f : Form) (ids : List ℕ) (s t : SimState) : Type 0 where
  pub tasks : (k : ℕ)
      → k < 8 → k < length s.state.world.tasks
      → IsKeptAlike f ids s.state.world t.state.world k
  pub clock : f.clock ≡ true → s.state.world.clock ≡ t.state.world.clock
  pub random : f.random ≡ true → s.state.world.random ≡ t.state.world.random
  pub usages : usage_words s.state.world ≡ usage_words t.state.world
  pub rules : rules_words s.state ≡ rules_words t.state
  pub maps : map_words s.state.maps ≡ map_words t.state.maps

-- machines of one shape that are written as the same words, by a form that tells tasks apart, keep
-- the same
abbrev pub WordsTell : Type 0
WordsTell =
    (f : Form) (ids xs : List ℕ) (s t : SimState)
    → f.names ≡ true
    → length ids ≤ most_queues
    → AreOfOneShape s.state.world t.state.world
    → IsWritten f ids xs s
    → IsWritten f ids xs t
    → KeepTheSame f ids s t
