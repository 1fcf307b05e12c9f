-- What the accessors of the machine answer.
use Rattle.std.specs.Prelude.{ℕ, ◌==◌, ◌%◌, ◌^◌, nat_lt, if◌then◌else◌, Option, Some, None}
use Rattle.scx_dsq.specs.Queues.{queue_of}
use Rattle.scx_sched_world.specs.Ids.{policy_end, global, held_queue, builtin_queue, parked_queue}
use Rattle.scx_sched_world.specs.World.{WorldState, cpu_of}
use Rattle.scx_sched.specs.declared.places.Place.{Place}
use Rattle.scx_sched.specs.declared.places.Place.TheVariants.{Asleep, Cpu, Policy, Global, Local, Held, Builtin, Parked}

-- the queue of that id; the low 32 bits of a local queue's are the processor
abbrev pub queue_place : ℕ → Place
queue_place q =
    if nat_lt q policy_end then Policy q
    else (if q == global then Global
    else (if q == held_queue then Held
    else (if q == builtin_queue then Builtin
    else (if q == parked_queue then Parked else Local (q % 2 ^ 32)))))

-- on a processor, in a queue, or in neither place
abbrev pub place_in : Option ℕ → Option ℕ → Place
place_in (Some c) q = Cpu c
place_in None (Some q) = queue_place q
place_in None None = Asleep

-- where a task is: on a processor, else in its queue, else asleep
abbrev pub place : WorldState → ℕ → Place
place w t = place_in (cpu_of w t) (queue_of w.queues t)
