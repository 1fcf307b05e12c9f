-- What Linux rules change besides what plain rules do: the processor of a task, the slice of a task that runs, and sets
-- of processors that are claimed, kicked and preempted. Who keeps a property as these change keeps it as tasks come to
-- wait, and as processors are claimed and kicked.
use Rattle.std.proofs.Common.{◌≡◌, ℕ, ◌+◌, ◌-◌, ◌<◌, Bool, true, false, ◌&&◌, ◌||◌, nat_lt, nat_le, if◌then◌else◌, length, Option, Some, None, is_none, refl, arith}
use Rattle.std.proofs.lemmas.Bool.Decides.{nat_tests}
use Rattle.scx_dsq.specs.Calls.{after_push}
use Rattle.scx_dsq.specs.declared.entries.Rank.TheVariants.{Fifo}
use Rattle.scx_sched_world.specs.declared.call.Insert.{Insert}
use Rattle.scx_sched_world.specs.declared.cpu_set.CpuSet.{CpuSet}
use Rattle.scx_sched_world.specs.declared.kicks.Kick.{Kick}
use Rattle.scx_sched_world.specs.declared.kicks.Kick.TheVariants.{Any, IfIdle, Preempt}
use Rattle.scx_sched_world.specs.declared.passing.Passing.{Passing}
use Rattle.scx_sched_world.specs.CpuSets.{and_cpu, but_cpu}
use Rattle.scx_sched_world.specs.Ids.{local_on}
use Rattle.scx_sched_world.specs.World.{WorldState, nothing_passes, with_queues, with_task, with_kick, without_kick, with_cycling, switch_at, with_switch, task_at, running, is_this, is_by_linux, after_claim}
use Rattle.scx_sched_world.specs.Tasks.{with_slice, with_home, homed, homed_at, local_cpu, after_local, task_after_insert, rank_by, after_preempt_of, after_preempt_at, after_preempt, after_enter}
use Rattle.scx_sched_world.specs.Helpers.{kicked_so}
use Rattle.scx_sched_machine.proofs.Choices.{keeps_if}
use Rattle.scx_sched.specs.Kept.{with_sets, WakesNoMore}

-- what is kept as the processor or the slice of a task changes, and as sets of processors do; where it matters, the
-- processor is one that there is
pub record KeepsMarks (IsThere : ℕ → Type 0) (P : WorldState → Type 0) : Type 0 where
  pub there : (w : WorldState) (c : ℕ) → P w → c < length w.cpus → IsThere c
  pub homed : (w : WorldState) (t c : ℕ) → IsThere c → P w → P (with_task w t (with_home (task_at w t) c))
  pub sliced : (w : WorldState) (t n : ℕ) → P w → P (with_task w t (with_slice (task_at w t) n))
  pub sets : (w : WorldState) (claimed kicked preempted claims : CpuSet) → P w → P (with_sets w claimed kicked preempted claims w.passing)

-- where it doesn't matter
abbrev pub Anywhere : ℕ → Type 0
Anywhere c = Unit {0}

-- what is kept whichever cycle is under way, whichever processors are claimed, and whatever an event by Linux rules
-- keeps until it ends
abbrev pub KeepsCycles : (WorldState → Type 0) → Type 0
KeepsCycles P = (w : WorldState) (o : Option ℕ) (claimed : CpuSet) (x : Passing) → WakesNoMore w.passing x → P w → P (record w { cycling = o; claimed = claimed; passing = x })

module _ (P : WorldState → Type 0) (k : KeepsCycles P) where
  -- as a processor begins to switch
  pub kept_switch : (w : WorldState) (c : ℕ) → P w → P (with_switch w c)
  kept_switch w c h = keeps_if P (is_by_linux w) (record w { passing = record w.passing { switching = switch_at w c } }) w (k w w.cycling w.claimed (record w.passing { switching = switch_at w c }) (λ d e. e) h) h

  -- as a cycle begins or ends
  pub kept_cycling : (w : WorldState) (o : Option ℕ) → P w → P (with_cycling w o)
  kept_cycling w None h = keeps_if P (is_by_linux w) (record w { cycling = None; passing = nothing_passes }) (record w { cycling = None }) (k w None w.claimed nothing_passes (λ d e. absurd (cc)) h) (k w None w.claimed w.passing (λ d e. e) h)
  kept_cycling w (Some c) h = go (is_by_linux w)
    where
      new : Passing
      new = record w.passing { switching = switch_at w c }

      go : (b : Bool) → P (if b then record (if b then record w { passing = new } else w) { cycling = Some c; claimed = but_cpu w.claimed c } else record w { cycling = Some c })
      go true = k w (Some c) (but_cpu w.claimed c) new (λ d e. e) h
      go false = k w (Some c) w.claimed w.passing (λ d e. e) h

-- the processor of a local queue is there
pub local_there : (w : WorldState) (q c : ℕ) → local_cpu w q ≡ Some c → c < length w.cpus
local_there w q c e = go (nat_le (local_on 0) q) (nat_lt q (local_on (length w.cpus))) refl refl e
  where
    is : (a b : ℕ) → Some a ≡ Some b → a ≡ b
    is a b x = cc

    go : (a b : Bool) → nat_le (local_on 0) q ≡ a → nat_lt q (local_on (length w.cpus)) ≡ b → (if a && b then Some (q - local_on 0) else None) ≡ Some c → c < length w.cpus
    go true true x y z =
        let low : local_on 0 + 0 < q + 1 = grind (arith, nat_tests, x) in
        let high : q < local_on (length w.cpus) = grind (arith, nat_tests, y) in
        omega (arith, is (q - local_on 0) c z, low, high)
    go true false x y z = absurd (cc)
    go false b x y z = absurd (cc)

module _ (IsThere : ℕ → Type 0) (P : WorldState → Type 0) (k : KeepsMarks IsThere P) where
  -- ---- sets of processors

  -- as a processor is kicked
  pub kept_kick : (w : WorldState) (c : ℕ) → P w → P (with_kick w c)
  kept_kick w c h = k.sets w w.claimed (and_cpu w.kicked c) w.preempted w.call.claims h

  -- as it looks for work
  pub kept_without_kick : (w : WorldState) (c : ℕ) → P w → P (without_kick w c)
  kept_without_kick w c h = k.sets w w.claimed (but_cpu w.kicked c) (but_cpu w.preempted c) w.call.claims h

  -- as a callback kicks it
  pub kept_kicked_so : (w : WorldState) (c : ℕ) (x : Kick) → P w → P (kicked_so w c x)
  kept_kicked_so w c Any h = kept_kick w c h
  kept_kicked_so w c IfIdle h = keeps_if P (is_none (running w c) || is_this c w.cycling) (with_kick w c) w (kept_kick w c h) h
  kept_kicked_so w c Preempt h = k.sets w w.claimed (and_cpu w.kicked c) (and_cpu w.preempted c) w.call.claims h

  -- as one is claimed
  pub kept_claim : (w : WorldState) (o : Option ℕ) → P w → P (after_claim w o)
  kept_claim w None h = h
  kept_claim w (Some c) h = keeps_if P (is_by_linux w) _ w (k.sets w (and_cpu w.claimed c) w.kicked w.preempted (and_cpu w.call.claims c) h) h

  -- ---- the processor of a task

  -- as it comes to be that one
  pub kept_homed : (w : WorldState) (t c : ℕ) → IsThere c → P w → P (homed w t c)
  kept_homed w t c l h = keeps_if P (is_by_linux w) (with_task w t (with_home (task_at w t) c)) w (k.homed w t c l h) h

  kept_homed_at : (w : WorldState) (t : ℕ) (o : Option ℕ) → ((c : ℕ) → o ≡ Some c → c < length w.cpus) → P w → P (homed_at w t o)
  kept_homed_at w t None known h = h
  kept_homed_at w t (Some c) known h = kept_homed w t c (k.there w c h (known c refl)) h

  -- as the task comes to a local queue
  pub kept_local : (w : WorldState) (c t : ℕ) → IsThere c → P (with_queues w (after_push w.queues (local_on c) t Fifo)) → P (after_local w c t)
  kept_local w c t l h = kept_homed (with_queues w (after_push w.queues (local_on c) t Fifo)) t c l h

  -- ---- a task that comes to wait as an insert wants it to

  kept_preempt_at : (w : WorldState) (o : Option ℕ) → P w → P (after_preempt_at w o)
  kept_preempt_at w None h = h
  kept_preempt_at w (Some c) h = go (running w c)
    where
      go : (o : Option ℕ) → P (after_preempt_of w c o)
      go None = h
      go (Some t) = keeps_if P (is_this c w.cycling) w _ h (kept_kick (with_task w t (with_slice (task_at w t) 0)) c (k.sliced w t 0 h))

  kept_preempt : (w : WorldState) (i : Insert) → P w → P (after_preempt w i)
  kept_preempt w i h = keeps_if P i.preempts (after_preempt_at w (local_cpu w i.queue)) w (kept_preempt_at w (local_cpu w i.queue) h) h

  -- once it was pushed, with a record as the insert wants it
  abbrev pub Entered : WorldState → ℕ → Insert → WorldState
  Entered w t i = with_queues (with_task w t (task_after_insert (task_at w t) i)) (after_push w.queues i.queue t (rank_by w i.rank))

  -- a task that there is
  pub kept_put : (w : WorldState) (t : ℕ) (i : Insert) → nat_lt t (length w.tasks) ≡ true → P (Entered w t i) → P (after_enter w t i)
  kept_put w t i known h = go (nat_lt t (length w.tasks)) known
    where
      v : WorldState
      v = Entered w t i

      done : P (after_preempt (homed_at v t (local_cpu w i.queue)) i)
      done = kept_preempt (homed_at v t (local_cpu w i.queue)) i (kept_homed_at v t (local_cpu w i.queue) (λ c e. local_there w i.queue c e) h)

      go : (b : Bool) → b ≡ true → P (if b then after_preempt (homed_at v t (local_cpu w i.queue)) i else w)
      go true e = done
      go false e = absurd (cc)

  -- whichever task
  pub kept_entered : (w : WorldState) (t : ℕ) (i : Insert) → P (Entered w t i) → P w → P (after_enter w t i)
  kept_entered w t i new h = go (nat_lt t (length w.tasks)) refl
    where
      go : (b : Bool) → nat_lt t (length w.tasks) ≡ b → P (after_enter w t i)
      go true e = kept_put w t i e new
      go false e = keeps_if_not (nat_lt t (length w.tasks)) e
        where
          keeps_if_not : (b : Bool) → b ≡ false → P (if b then after_preempt (homed_at (Entered w t i) t (local_cpu w i.queue)) i else w)
          keeps_if_not true x = absurd (cc)
          keeps_if_not false x = h
