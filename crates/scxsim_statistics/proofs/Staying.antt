-- An accepted event leaves as many tasks as there were.
use Rattle.std.proofs.Common.{◌≡◌, ℕ, ◌<◌, ◌≤◌, Bool, true, false, cond, eqb, List, [], ◌∷◌, length, Option, None, Some, is_none, refl, sym, ap, ◌∙◌, ◌⊎◌, inl, inr, arith}
use Rattle.std.proofs.lemmas.Bool.{cases_lt, le-ltb}
use Rattle.scx_weights.specs.Refusals.{weight_fault}
use Rattle.scx_sched_machine.specs.declared.events.Event.{Event}
use Rattle.scx_sched_machine.specs.declared.events.Event.TheVariants as event
use Rattle.scx_sched_machine.specs.declared.events.Refused.{Refused}
use Rattle.scx_sched_machine.specs.declared.events.Refused.TheVariants.{RunOver, UnknownTask}
use Rattle.scx_sched_machine.specs.Steps.{State, Stepped}
use Rattle.scx_sched_machine.specs.Events as machine
use Rattle.scx_sched.specs.Sim.{SimState, max_events, refusal, after_event, stepped_if}
use Rattle.scx_load_driver.specs.Runs.{stepped_all, AreAccepted}
use Rattle.scx_load_driver.proofs.Alike.{IsLike, Times, times_of, like_rounds}
use Rattle.scx_load_driver.proofs.Happening.{like_clock, like_tick, like_wake, like_sleep, like_weighed_task}

-- as many tasks as now, which have run as long
abbrev times : State → Times
times s = times_of (length s.world.tasks) s.world

like_now : (s : State) → IsLike s.world.tree (times s) (length s.world.cpus) s.world
like_now s = ((refl, refl, refl, refl, refl), (refl, λ u. omega arith), refl)

-- a task that isn't there can't sleep
not_there : (s : State) (t : ℕ) → length s.world.tasks ≤ t → machine.refusal s (event.Sleep t) ≡ Some UnknownTask
not_there s t past = rw (le-ltb t (length s.world.tasks) past) refl

as_many : (v : Event) (s : State) → machine.refusal s v ≡ None → length (machine.event_step s v).state.world.tasks ≡ length s.world.tasks
as_many (event.Wake t) s accepted = (like_wake s.world.tree (times s) (length s.world.cpus) s t (like_now s)).1.0
as_many (event.Sleep t) s accepted = go (cases_lt t (length s.world.tasks))
  where
    go : (t < length s.world.tasks) ⊎ (length s.world.tasks ≤ t) → length (machine.event_step s (event.Sleep t)).state.world.tasks ≡ length s.world.tasks
    go (inl there) = (like_sleep s.world.tree (times s) (length s.world.cpus) s t there (like_now s)).1.0
    go (inr past) =
        let wrong : Some UnknownTask ≡ None = sym (not_there s t past) ∙ accepted in
        absurd (cc)
as_many (event.Tick c) s accepted = (like_tick s.world.tree (times s) (length s.world.cpus) s c (like_now s)).1.0
as_many (event.SetTaskWeight t x) s accepted = (like_weighed_task s.world.tree (times s) (length s.world.cpus) s t x (like_now s)).1.0
as_many event.Clock s accepted = (like_clock s.world.tree (times s) (length s.world.cpus) s (like_now s)).1.0
as_many (event.SetWeight g x) s accepted =
    (like_rounds own.state.world.tree (times s) (length s.world.cpus) own (go (is_none (weight_fault s.world.tree g x)) refl)).1.0
  where
    own : Stepped
    own = machine.own_step s (event.SetWeight g x)

    go : (b : Bool) → is_none (weight_fault s.world.tree g x) ≡ b → IsLike own.state.world.tree (times s) (length s.world.cpus) own.state.world
    go true e = rw e ((refl, refl, refl, refl, refl), (refl, λ u. omega arith), refl)
    go false e = rw e ((refl, refl, refl, refl, refl), (refl, λ u. omega arith), refl)

by_machine : (b : Bool) (o : Option Refused) → cond b (Some RunOver) o ≡ None → o ≡ None
by_machine true o e = absurd (cc)
by_machine false o e = e

one_event : (v : Event) (s : SimState) → refusal s v ≡ None → length (after_event s v).state.world.tasks ≡ length s.state.world.tasks
one_event v s accepted =
    ap (λ o. length (stepped_if o s v).state.world.tasks) accepted
    ∙ as_many v s.state (by_machine (eqb s.events max_events) (machine.refusal s.state v) accepted)

-- events that are accepted leave as many tasks as there were
pub tasks_stay : (es : List Event) (s : SimState) → AreAccepted s es → length (stepped_all s es).state.world.tasks ≡ length s.state.world.tasks
tasks_stay [] s accepted = refl
tasks_stay (e ∷ es) s accepted = tasks_stay es (after_event s e) accepted.1 ∙ one_event e s accepted.0
