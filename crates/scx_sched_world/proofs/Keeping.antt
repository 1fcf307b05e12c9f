-- What a world keeps once one of its parts has changed.
use Rattle.std.proofs.Common.{◌≡◌, ◌⊎◌, inl, inr, ◌∙◌, ℕ, Bool, true, false, ◌&&◌, is_none, ◌-◌, ◌^◌, ◌≤◌, vec_capacity, length, subst, sym}
use Rattle.scx_dsq.specs.Queues.{task_count}
use Rattle.scx_dsq.specs.Calls.{after_push}
use Rattle.scx_dsq.specs.declared.entries.Rank.{Rank}
use Rattle.scx_dsq.specs.declared.queues.Queues.{Queues}
use Rattle.scx_weights.specs.declared.tree.Tree.{Tree}
use Rattle.scx_isa_semantics.specs.declared.rules.Rules.{Rules}
use Rattle.scx_sched_world.specs.declared.world.World.TheInside.{Inside}
use Rattle.scx_sched_world.specs.World.{are_linux}
use Rattle.scx_sched_world.specs.Kept.{IsKept, AreThrottled, StandFirst, AreSettled}
use Rattle.scx_sched_world.proofs.Places.{pushed}
use Rattle.scx_sched_world.proofs.Settled.{AreMarked, settled_pushed, unsettled}

-- another world has the same in it, and room for the notes of a callback
pub same_kept : (w v : Inside) → IsKept w → v.clock ≡ w.clock → v.tasks ≡ w.tasks → v.cpus.items ≡ w.cpus.items → v.busy ≡ w.busy → v.running_on.items ≡ w.running_on.items
    → v.timers.items ≡ w.timers.items → v.queues ≡ w.queues → v.tree ≡ w.tree → v.notes.items ≡ w.notes.items → 4096 ≤ vec_capacity v.notes → v.parked_throttled ≡ w.parked_throttled
    → v.rules ≡ w.rules → v.ejected ≡ w.ejected → v.by_linux ≡ w.by_linux → v.cycling ≡ w.cycling → v.unsettled ≡ w.unsettled → IsKept v
same_kept w v is clock tasks cpus busy running timers queues tree notes room known rules ejected linux cycling unsettled = record {
  notes = room;
  few_notes = rw notes is.few_notes;
  queued = rw (queues, tasks) is.queued;
  weighed = rw (tree, tasks) is.weighed;
  few_tasks = rw tasks is.few_tasks;
  few_cpus = rw cpus is.few_cpus;
  few_timers = rw timers is.few_timers;
  busy = rw (busy, cpus) is.busy;
  running = rw (running, cpus) is.running;
  known_running = rw (running, tasks) is.known_running;
  places = rw (queues, cpus) is.places;
  early = rw clock is.early;
  linux = rw (linux, rules, ejected) is.linux;
  parked = λ yes. subst (λ (x : Tree). AreThrottled v.queues.state x) (sym tree) (subst (λ (x : Queues). AreThrottled x.state w.tree) (sym queues) (is.parked (sym known ∙ yes)));
  settled = λ on. subst (λ (x : Queues). AreSettled v.unsettled v.cpus.items v.cycling x.state) (sym queues) (rw (cpus, cycling, unsettled) (is.settled (sym linux ∙ on)));
}

-- the queues are others that know of as many tasks, and what is known of the parked and of idle processors is so in them
pub queues_changed : (w : Inside) (queues : Queues) (known : Bool) (bits : ℕ) → IsKept w → task_count queues.state ≡ task_count w.queues.state
    → StandFirst queues.state (length w.cpus.items) → (known ≡ true → AreThrottled queues.state w.tree)
    → (w.by_linux ≡ true → AreSettled bits w.cpus.items w.cycling queues.state)
    → IsKept (record w { queues = queues; parked_throttled = known; unsettled = bits })
queues_changed w queues known bits is tasks places parked settled = record {
  notes = is.notes;
  few_notes = is.few_notes;
  queued = tasks ∙ is.queued;
  weighed = is.weighed;
  few_tasks = is.few_tasks;
  few_cpus = is.few_cpus;
  few_timers = is.few_timers;
  busy = is.busy;
  running = is.running;
  known_running = is.known_running;
  places = places;
  early = is.early;
  linux = is.linux;
  parked = parked;
  settled = settled;
}

-- the groups are others, with as many tasks, and what is known of the parked is so under them
pub tree_changed : (w : Inside) (tree : Tree) (known : Bool) → IsKept w → length tree.homes ≡ length w.tree.homes → (known ≡ true → AreThrottled w.queues.state tree)
    → IsKept (record w { tree = tree; parked_throttled = known })
tree_changed w tree known is homes parked = record {
  notes = is.notes;
  few_notes = is.few_notes;
  queued = is.queued;
  weighed = homes ∙ is.weighed;
  few_tasks = is.few_tasks;
  few_cpus = is.few_cpus;
  few_timers = is.few_timers;
  busy = is.busy;
  running = is.running;
  known_running = is.known_running;
  places = is.places;
  early = is.early;
  linux = is.linux;
  parked = parked;
  settled = is.settled;
}

-- the machine goes by other rules from now on, and nothing is known of idle processors
pub rules_changed : (w : Inside) (rules : Rules) (linux : Bool) → IsKept w → linux ≡ (are_linux rules && is_none w.ejected) → IsKept (record w { rules = rules; by_linux = linux; unsettled = 2 ^ 64 - 1 })
rules_changed w rules linux is known = record {
  notes = is.notes;
  few_notes = is.few_notes;
  queued = is.queued;
  weighed = is.weighed;
  few_tasks = is.few_tasks;
  few_cpus = is.few_cpus;
  few_timers = is.few_timers;
  busy = is.busy;
  running = is.running;
  known_running = is.known_running;
  places = is.places;
  early = is.early;
  linux = known;
  parked = is.parked;
  settled = λ on. unsettled w is;
}

-- a task has come into a queue
pub push_keeps : (w : Inside) (queues : Queues) (known : Bool) (marked q t : ℕ) (r : Rank) → IsKept w
    → (known ≡ true → AreThrottled (after_push w.queues.state q t r) w.tree)
    → (w.by_linux ≡ true → AreMarked w.unsettled marked q)
    → queues.state ≡ after_push w.queues.state q t r → task_count queues.state ≡ task_count w.queues.state
    → IsKept (record w { queues = queues; parked_throttled = known; unsettled = marked })
push_keeps w queues known marked q t r is parked marks after tasks =
    queues_changed w queues known marked is tasks (rw after (pushed w.queues.state _ q t r ∙ is.places)) (rw after parked)
    (rw after (settled_pushed w marked q t r is marks))

-- the same, where it was first forgotten whether the parked are throttled, or stays known
pub push_keeps_both : (w now : Inside) (queues : Queues) (marked q t : ℕ) (r : Rank) → IsKept w
    → (now ≡ record w { parked_throttled = false }) ⊎ ((now ≡ w) × (w.parked_throttled ≡ true → AreThrottled (after_push w.queues.state q t r) w.tree))
    → (now.by_linux ≡ true → AreMarked now.unsettled marked q)
    → queues.state ≡ after_push now.queues.state q t r → task_count queues.state ≡ task_count now.queues.state
    → IsKept (record now { queues = queues; unsettled = marked })
push_keeps_both w now queues marked q t r is (inl e) =
    subst (λ (n : Inside). (n.by_linux ≡ true → AreMarked n.unsettled marked q) → queues.state ≡ after_push n.queues.state q t r → task_count queues.state ≡ task_count n.queues.state → IsKept (record n { queues = queues; unsettled = marked })) (sym e)
    (push_keeps w queues false marked q t r is (λ known. let bad : false ≡ true = known in absurd (cc)))
push_keeps_both w now queues marked q t r is (inr (e, parked)) =
    subst (λ (n : Inside). (n.by_linux ≡ true → AreMarked n.unsettled marked q) → queues.state ≡ after_push n.queues.state q t r → task_count queues.state ≡ task_count n.queues.state → IsKept (record n { queues = queues; unsettled = marked })) (sym e)
    (push_keeps w queues w.parked_throttled marked q t r is parked)
