-- An ejection loses no task: who waits in any queue goes over to the built-in scheduler, and who runs stays.
use Rattle.std.proofs.Common.{◌≡◌, ℕ, zero, suc, ◌<◌, ◌≤◌, Bool, true, false, ◌⊎◌, inl, inr, if◌then◌else◌, List, length, Option, Some, None, option_map, refl, sym, ap, ◌∙◌, arith}
use Rattle.std.proofs.lemmas.Bool.{cases_eq, cases_lt}
use Rattle.scx_dsq.specs.declared.entries.Entry.{Entry}
use Rattle.scx_dsq.specs.declared.entries.Rank.{Rank}
use Rattle.scx_dsq.specs.declared.entries.Rank.TheVariants.{Vtime}
use Rattle.scx_dsq.specs.Queues.{QueueState, task_count, entry_of, queue_of}
use Rattle.scx_dsq.specs.Calls.{push_refusal, after_push, after_remove}
use Rattle.scx_dsq.proofs.Facts.{tasks_removed}
use Rattle.scx_sched_world.specs.Ids.{builtin_queue, parked_queue}
use Rattle.scx_sched_world.specs.World.{WorldState, waits_in, waits, running}
use Rattle.scx_sched_world.specs.Tasks.{after_leave}
use Rattle.scx_sched_world.specs.Ejecting.{builtin_vtime, put_builtin, put_out, evict, after_evictions, after_cut, cut_task}
use Rattle.scx_sched_world.specs.declared.eject.Eject.{Eject}
use Rattle.scx_sched_machine.specs.Steps.{State}
use Rattle.scx_sched_machine.specs.Ejecting.{moves_over, eject}
use Rattle.scx_sched.specs.Laws.{EjectionLosesNobody}
use Rattle.scx_sched.specs.Once.{IsSound}
use Rattle.scx_sched.specs.Over.{GoesOver}
use Rattle.scx_sched.proofs.Waiting.{waits_there, pushed_here, pushed_other, removed_other}
use Rattle.scx_sched.proofs.Sound.{inside, waits_known, sound_put_out, sound_evict}
use Rattle.scx_sched.proofs.Pushes.{takes_evicted}

-- ---- the first so many tasks

-- the queue of an entry
abbrev home_of : Option Entry → Option ℕ
home_of o = option_map (λ p. p.queue) o

-- who waited so waits for the built-in scheduler, and who didn't doesn't
record IsOver (old new : Option Entry) : Type 0 where
  over : waits_in (home_of old) ≡ true → home_of new ≡ Some builtin_queue
  still : waits_in (home_of old) ≡ false → waits_in (home_of new) ≡ false
  parked : home_of old ≡ Some parked_queue → home_of new ≡ Some parked_queue

over_as : (old new new' : Option Entry) → new' ≡ new → IsOver old new → IsOver old new'
over_as old new new' e h = record { over = λ x. ap home_of e ∙ h.over x; still = λ x. ap (λ o. waits_in (home_of o)) e ∙ h.still x; parked = λ x. ap home_of e ∙ h.parked x }

record HasGone (j : ℕ) (w v : WorldState) : Type 0 where
  done : (t : ℕ) → t < j → IsOver (entry_of w.queues t) (entry_of v.queues t)
  rest : (t : ℕ) → j ≤ t → entry_of v.queues t ≡ entry_of w.queues t
  running : v.cpus ≡ w.cpus
  tree : v.tree ≡ w.tree

both : (b : Bool) → b ≡ true → b ≡ false → ⊥
both true x y = absurd (cc)
both false x y = absurd (cc)

module _ (n : ℕ) (hand : Option ℕ) (on : List (Option ℕ)) where
  one_goes : (j : ℕ) (w v : WorldState) → j < n → IsSound hand on n v → HasGone j w v → HasGone (suc j) w (evict v j)
  one_goes j w v l h g = go (waits v j) refl
    where
      s : QueueState
      s = after_remove v.queues j

      r : Rank
      r = Vtime (builtin_vtime v j)

      here : entry_of v.queues j ≡ entry_of w.queues j
      here = g.rest j (omega arith)

      other : (t : ℕ) → (t ≡ j → ⊥) → entry_of (after_push s builtin_queue j r) t ≡ entry_of v.queues t
      other t d = pushed_other s builtin_queue j t r d ∙ removed_other v.queues j t d

      known : j < task_count s
      known = rw (tasks_removed v.queues j, h.even) l

      over : waits v j ≡ true → HasGone (suc j) w (put_builtin (after_leave v j) j)
      over here_now = rw (inside n v j l h.tasks) record { done = λ t k. at t k (cases_eq t j); rest = λ t k. other t (λ x. omega (arith, x, k)) ∙ g.rest t (omega (arith, k)); running = g.running; tree = g.tree }
        where
          ok : push_refusal s builtin_queue j r ≡ None
          ok = takes_evicted hand on n v j here_now h

          waited : waits w j ≡ true
          waited = ap (λ o. waits_in (home_of o)) (sym here) ∙ here_now

          at : (t : ℕ) → t < suc j → (t ≡ j) ⊎ (t ≡ j → ⊥) → IsOver (entry_of w.queues t) (entry_of (after_push s builtin_queue j r) t)
          at t k (inl x) = rw x record {
            over = λ y. pushed_here s builtin_queue j r known ok;
            still = λ y. absurd (both (waits w j) waited y);
            parked = λ y. absurd (both (waits w j) waited (ap waits_in y));
          }
          at t k (inr d) = over_as (entry_of w.queues t) (entry_of v.queues t) (entry_of (after_push s builtin_queue j r) t) (other t d) (g.done t (omega (arith, k, d)))

      none : waits v j ≡ false → HasGone (suc j) w v
      none absent = record { done = λ t k. at t k (cases_eq t j); rest = λ t k. g.rest t (omega (arith, k)); running = g.running; tree = g.tree }
        where
          at : (t : ℕ) → t < suc j → (t ≡ j) ⊎ (t ≡ j → ⊥) → IsOver (entry_of w.queues t) (entry_of v.queues t)
          at t k (inl x) = rw x record {
            over = λ y. absurd (both (waits w j) y (ap (λ o. waits_in (home_of o)) (sym here) ∙ absent));
            still = λ y. absent;
            parked = λ y. ap home_of here ∙ y;
          }
          at t k (inr d) = g.done t (omega (arith, k, d))

      go : (b : Bool) → waits v j ≡ b → HasGone (suc j) w (if b then put_builtin (after_leave v j) j else v)
      go true x = over x
      go false x = none x

  sound_evicted : (j : ℕ) (w : WorldState) → j ≤ n → IsSound hand on n w → IsSound hand on n (after_evictions j w)
  sound_evicted zero w l h = h
  sound_evicted (suc j) w l h = sound_evict hand on n (after_evictions j w) j (omega (arith, l)) (sound_evicted j w (omega (arith, l)) h)

  all_go : (j : ℕ) (w : WorldState) → j ≤ n → IsSound hand on n w → HasGone j w (after_evictions j w)
  all_go zero w l h = record { done = λ t k. absurd (omega (arith, k)); rest = λ t k. refl; running = refl; tree = refl }
  all_go (suc j) w l h = one_goes j w (after_evictions j w) (omega (arith, l)) (sound_evicted j w (omega (arith, l)) h) (all_go j w (omega (arith, l)) h)

-- ---- slices that are cut

abbrev IsCut : WorldState → WorldState → Type 0
IsCut w v = (v.queues ≡ w.queues) × (v.cpus ≡ w.cpus) × (v.tree ≡ w.tree)

cut_one : (o : Option ℕ) (w v : WorldState) → IsCut w v → IsCut w (cut_task o v)
cut_one None w v h = h
cut_one (Some t) w v h = h

cut_all : (j : ℕ) (w : WorldState) → IsCut w (after_cut j w)
cut_all zero w = (refl, refl, refl)
cut_all (suc j) w = cut_one (running (after_cut j w) j) w (after_cut j w) (cut_all j w)

-- who waits goes over
pub goes_over : (n : ℕ) (hand : Option ℕ) (on : List (Option ℕ)) (s : State) (x : Eject) → IsSound hand on n s.world → GoesOver s.world (eject s x).state.world
unfolding eject moves_over
goes_over n hand on s x h = record {
  waiting = λ t there. ap (λ (q : QueueState). queue_of q t) c.0 ∙ (g.done t (omega (arith, waits_known s.world.queues t (waits_there s.world.queues t there), h.even, h.tasks))).over there;
  others = λ t absent. others t absent (cases_lt t (length w.tasks));
  parked = λ t there. ap (λ (q : QueueState). queue_of q t) c.0 ∙ parks t there (cases_lt t (length w.tasks));
  running = c.1 ∙ g.running;
  tree = c.2 ∙ g.tree;
}
  where
    w : WorldState
    w = put_out s.world x

    v : WorldState
    v = after_evictions (length w.tasks) w

    out : IsSound hand on n w
    out = sound_put_out hand on n s.world x h

    g : HasGone (length w.tasks) w v
    g = all_go n hand on (length w.tasks) w (omega (arith, out.tasks)) out

    c : IsCut v (after_cut (length v.cpus) v)
    c = cut_all (length v.cpus) v

    others : (t : ℕ) → waits s.world t ≡ false → (t < length w.tasks) ⊎ (length w.tasks ≤ t) → waits (after_cut (length v.cpus) v) t ≡ false
    others t absent (inl l) = ap (λ (q : QueueState). waits_in (queue_of q t)) c.0 ∙ (g.done t l).still absent
    others t absent (inr past) = ap (λ (q : QueueState). waits_in (queue_of q t)) c.0 ∙ (ap (λ o. waits_in (home_of o)) (g.rest t past) ∙ absent)

    parks : (t : ℕ) → queue_of s.world.queues t ≡ Some parked_queue → (t < length w.tasks) ⊎ (length w.tasks ≤ t) → queue_of v.queues t ≡ Some parked_queue
    parks t there (inl l) = (g.done t l).parked there
    parks t there (inr past) = ap home_of (g.rest t past) ∙ there

-- the law
pub loses_nobody : EjectionLosesNobody
loses_nobody n e m hand s x h = goes_over n hand s.world.cpus s x h.sound
