-- What holds between two events holds at first, and after each accepted event.
use Rattle.std.proofs.Common.{◌≡◌, ℕ, ◌+◌, ◌≤◌, false, length, None, Ok, refl, sym, ap, ◌∙◌, subst, arith}
use Rattle.std.proofs.lemmas.Bool.Decides.{nat_tests}
use Rattle.scx_weights.specs.Hierarchy.{Hierarchy}
use Rattle.scx_sched_world.specs.declared.eject.Eject.TheVariants as cause
use Rattle.scx_sched_world.specs.declared.faults.Fault.TheVariants.{Stuck}
use Rattle.scx_sched_world.specs.World.{WorldState}
use Rattle.scx_sched_machine.specs.declared.events.Event.{Event}
use Rattle.scx_sched_policy.specs.Policy.{PolicyState, IsTimeout, AreAs}
use Rattle.scx_sched_machine.specs.Steps.{State}
use Rattle.scx_sched_machine.specs.Callbacks.{AreAnswered}
use Rattle.scx_sched_machine.specs.Events as machine
use Rattle.scx_sched_machine.specs.Start.{is_bad_shape, first_state}
use Rattle.scx_sched_machine.specs.Budgets.{start_pushes, event_pushes}
use Rattle.scx_sched.specs.Ranges.{IsFine}
use Rattle.scx_sched.specs.Usages.{AreBounded}
use Rattle.scx_sched.specs.Sim.{refusal, IsValid}
use Rattle.scx_sched.proofs.Bounded.{are_bounded}
use Rattle.scx_sched.proofs.Blaming.{apart}
use Rattle.scx_sched.proofs.Deciding.{accepted, decides}
use Rattle.scx_sched.proofs.Unstuck.{unstuck_step}
use Rattle.scx_sched.proofs.Events.{fine_step}
use Rattle.scx_sched.proofs.First.{fine_started, time_started, policy_started, rules_started, force_started}
use Rattle.scx_sched.proofs.Timely.{IsInTime}
use Rattle.scx_sched.proofs.Watching.{time_step}
use Rattle.scx_sched.proofs.Tallies.{queues_first, queues_there}
use Rattle.scx_sched.proofs.Still.{still_step, still_first, are_current}
use Rattle.scx_sched.proofs.Alarms.{timers_step, timers_first}
use Rattle.scx_sched.specs.Allowed.{AreAllowed, IsAllowedIn}
use Rattle.scx_sched.proofs.Allowing.{allowed_now}

fine_with : (n e : ℕ) (w : WorldState) → IsFine n e e None w.cpus w → IsFine (length w.tasks) e e None w.cpus w
fine_with n e w h = subst (λ k. IsFine k e e None w.cpus w) (sym h.sound.tasks) h

allowed_at : (n e : ℕ) (w : WorldState) → IsFine n e e None w.cpus w → AreAllowed w
allowed_at n e w h = allowed_now w (subst (λ k. IsAllowedIn w.cpus k w) (sym h.sound.tasks) h.allowed)

-- at first
pub valid_first : (p : PolicyState) (tree : Hierarchy) (cpus : ℕ) (t : State) → is_bad_shape tree cpus ≡ false → length tree.active ≡ length tree.homes → IsTimeout p.timeout_ms → AreAs p.callbacks → first_state p tree cpus ≡ Ok t → t.world.queues.pushes ≤ start_pushes → IsValid t 0
valid_first p tree cpus t shape flags timeout programs e few =
    let h = fine_started p tree cpus t shape flags e in
    record {
      over = omega arith;
      pushes = omega (arith, few);
      still = (still_first p tree cpus t e).0;
      settled = (still_first p tree cpus t e).1;
      current = are_current t.world (still_first p tree cpus t e).1;
      rules = rules_started p tree cpus t e ∙ sym (ap (λ (q : PolicyState). q.rules) (policy_started p tree cpus t e));
      timeout = subst (λ (q : PolicyState). IsTimeout q.timeout_ms) (sym (policy_started p tree cpus t e)) timeout;
      programs = subst (λ (q : PolicyState). AreAs q.callbacks) (sym (policy_started p tree cpus t e)) programs;
      timely = time_started t.policy.timeout_ms p tree cpus t shape e;
      timers = timers_first p tree cpus t shape e;
      allowed = allowed_at (length tree.homes) 0 t.world (subst (λ on. IsFine (length tree.homes) 0 0 None on t.world) (sym h.sound.cpus) h);
      unstuck = λ n out. absurd (apart t.world.ejected (cause.Fault Stuck n) (force_started p tree cpus t e) out);
      there = queues_first p tree cpus t shape e;
      fine = fine_with (length tree.homes) 0 t.world (subst (λ on. IsFine (length tree.homes) 0 0 None on t.world) (sym h.sound.cpus) h);
    }

-- after each
pub valid_step : (s : State) (n : ℕ) (v : Event) → refusal (record { state = s; events = n }) v ≡ None → IsValid s n → AreAnswered (machine.event_step s v).calls → (machine.event_step s v).state.world.queues.pushes ≤ s.world.queues.pushes + event_pushes → IsValid (machine.event_step s v).state (n + 1)
valid_step s n v e h answered few =
    let a = accepted (record { state = s; events = n }) v e in
    let t = (machine.event_step s v).state in
    let same : t.policy ≡ s.policy = (decides s n v a.taken h.fine).policy in
    let time = time_step s.policy.timeout_ms (length s.world.tasks) n s v refl a.taken refl h.fine h.timely in
    record {
      over = grind (arith, nat_tests, a.not_over, h.over);
      pushes = omega (arith, few, h.pushes);
      still = (still_step s v (h.still, h.settled)).0;
      settled = (still_step s v (h.still, h.settled)).1;
      current = are_current t.world (still_step s v (h.still, h.settled)).1;
      rules = (decides s n v a.taken h.fine).rules ∙ (h.rules ∙ sym (ap (λ (q : PolicyState). q.rules) same));
      timeout = subst (λ (q : PolicyState). IsTimeout q.timeout_ms) (sym same) h.timeout;
      programs = subst (λ (q : PolicyState). AreAs q.callbacks) (sym same) h.programs;
      timers = timers_step (length s.world.tasks) n s v refl a.taken h.fine h.timers;
      allowed = allowed_at (length s.world.tasks) (n + 1) t.world (fine_step (length s.world.tasks) n s v refl a.taken h.fine);
      unstuck = unstuck_step s n v a.taken h.fine answered h.unstuck;
      there = queues_there n s v a.taken h.fine h.there;
      timely = subst (λ (q : PolicyState). IsInTime q.timeout_ms t.world) (sym same) time;
      fine = fine_with (length s.world.tasks) (n + 1) (machine.event_step s v).state.world (fine_step (length s.world.tasks) n s v refl a.taken h.fine);
    }

-- and then no usage is past its bound
pub step_bounded : (s : State) (n : ℕ) (v : Event) → refusal (record { state = s; events = n }) v ≡ None → IsValid s n → AreBounded (machine.event_step s v).state.world
step_bounded s n v e h = are_bounded (machine.event_step s v).state.world (fine_step (length s.world.tasks) n s v refl (accepted (record { state = s; events = n }) v e).taken h.fine).within
