-- A task comes into a queue as an insert wants it to, by cases: its slice, its virtual time, its
-- place, its processor, and what becomes of the task that runs on the processor of a local queue.
use Rattle.std.specs.Prelude.{◌≡◌, ℕ, ◌+◌, ◌%◌, ◌^◌, ◌<◌, true, false, length, Some, None}
use Rattle.scx_dsq.specs.Calls.{after_push}
use Rattle.scx_dsq.specs.declared.entries.Rank.{Rank}
use Rattle.scx_dsq.specs.declared.entries.Rank.TheVariants.{Fifo, Front, Vtime}
use Rattle.scx_sched_tasks.specs.declared.task.Task.{Task}
use Rattle.scx_sched_world.specs.declared.call.Insert.{Insert}
use Rattle.scx_sched_world.specs.Ids.{local_on}
use Rattle.scx_sched_world.specs.World.{WorldState, with_queues, with_kick, is_by_linux, task_at, with_task, running}
use Rattle.scx_sched_world.specs.Tasks.{with_slice, with_vtime}
use Rattle.scx_laws.specs.Differences.{Homes}

-- a slice of 0 keeps the one that there is; under Linux rules it makes 1 of 0 (ext.c,
-- `apply_slice_vtime`)
pub data GetsSlice (x : Task) (i : Insert) (y : Task) : Type 0 where
  IsGiven : 0 < i.slice → y ≡ with_slice x i.slice → GetsSlice x i y
  HasSome : i.slice ≡ 0 → 0 < x.slice → y ≡ x → GetsSlice x i y
  HasNone : i.slice ≡ 0 → i.refills ≡ false → y ≡ x → GetsSlice x i y
  GetsOne : i.slice ≡ 0 → i.refills ≡ true → x.slice ≡ 0 → y ≡ with_slice x 1 → GetsSlice x i y

-- by virtual time the task has that one from then on
pub data GetsVtime (x : Task) (r : Rank) (y : Task) : Type 0 where
  AsLast : r ≡ Fifo → y ≡ x → GetsVtime x r y
  AsFirst : r ≡ Front → y ≡ x → GetsVtime x r y
  AtTime : (n : ℕ) → r ≡ Vtime n → y ≡ with_vtime x n → GetsVtime x r y

-- its place: at the end, at the front, or by a key, which is the virtual time; under Linux rules it
-- is that time by sign (ext.c, `scx_dsq_priq_less`)
pub data HasPlace (w : WorldState) (r place : Rank) : Type 0 where
  IsLast : r ≡ Fifo → place ≡ Fifo → HasPlace w r place
  IsFirst : r ≡ Front → place ≡ Front → HasPlace w r place
  ByTime : (n : ℕ) → is_by_linux w ≡ false → r ≡ Vtime n → place ≡ Vtime n → HasPlace w r place
  BySign : (n : ℕ)
      → is_by_linux w ≡ true → r ≡ Vtime n → place ≡ Vtime ((n + 2 ^ 63) % 2 ^ 64)
      → HasPlace w r place

-- no local queue of a processor
abbrev pub IsNotLocal : WorldState → ℕ → Type 0
IsNotLocal w q = (c : ℕ) → c < length w.cpus → q ≡ local_on c → ⊥

-- in a local queue the processor is the task's
pub data HomesThere (w : WorldState) (t q : ℕ) (v : WorldState) : Type 0 where
  InLocal : (c : ℕ) → c < length w.cpus → q ≡ local_on c → Homes w t c v → HomesThere w t q v
  InOther : IsNotLocal w q → v ≡ w → HomesThere w t q v

-- an insert with PREEMPT into a local queue takes the slice of the task that runs on its processor,
-- which looks for another as the event ends; not where its own cycle is under way (ext.c,
-- `rq_owned_post_enq`)
pub data PreemptsThere (w : WorldState) (i : Insert) (v : WorldState) : Type 0 where
  HasNoFlag : i.preempts ≡ false → v ≡ w → PreemptsThere w i v
  IntoOther : IsNotLocal w i.queue → v ≡ w → PreemptsThere w i v
  OfNobody : (c : ℕ)
      → c < length w.cpus → i.queue ≡ local_on c → running w c ≡ None → v ≡ w
      → PreemptsThere w i v
  InItsCycle : (c : ℕ)
      → c < length w.cpus → i.queue ≡ local_on c → w.cycling ≡ Some c → v ≡ w
      → PreemptsThere w i v
  TakesSlice : (c t : ℕ)
      → i.preempts ≡ true → c < length w.cpus → i.queue ≡ local_on c → running w c ≡ Some t
      → ¬ (w.cycling ≡ Some c) → v ≡ with_kick (with_task w t (with_slice (task_at w t) 0)) c
      → PreemptsThere w i v

-- all of it, one after another
pub record EntersQueue (w : WorldState) (t : ℕ) (i : Insert) (v : WorldState) : Type 0 where
  pub sliced : Task
  pub gets_slice : GetsSlice (task_at w t) i sliced
  pub timed : Task
  pub gets_vtime : GetsVtime sliced i.rank timed
  pub place : Rank
  pub has_place : HasPlace w i.rank place
  pub home : WorldState
  pub homes : HomesThere
      (with_queues (with_task w t timed) (after_push w.queues i.queue t place)) t i.queue home
  pub preempts : PreemptsThere home i v
