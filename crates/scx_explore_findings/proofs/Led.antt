-- Lists of events that change no weight lead to machines of which a whole form tells everything that is read.
use Rattle.std.proofs.Common.{◌≡◌, ℕ, ◌+◌, List, [], ◌∷◌, length, None, refl, sym, ap, ◌∙◌, subst, arith}
use Rattle.scx_dsq.specs.Queues.{entry_of}
use Rattle.scx_maps.specs.declared.shape.Shape.{Shape}
use Rattle.scx_sched_machine.specs.declared.events.Event.{Event}
use Rattle.scx_sched_machine.specs.Events as machine
use Rattle.scx_sched_policy.specs.Policy.{PolicyState}
use Rattle.scx_sched.specs.Ranges.{IsFine}
use Rattle.scx_sched.specs.Sim.{SimState, refusal, stepped_if, after_event}
use Rattle.scx_sched.specs.Timers.{AreTimersLater}
use Rattle.scx_sched.proofs.Alarms.{timers_step}
use Rattle.scx_sched.proofs.Deciding.{accepted, decides}
use Rattle.scx_sched.proofs.Events.{fine_step}
use Rattle.scx_sched.proofs.Still.{still_step}
use Rattle.scx_sched.proofs.Timely.{IsInTime}
use Rattle.scx_sched.proofs.Watching.{time_step}
use Rattle.scx_load_driver.specs.Runs.{stepped_all, AreAccepted}
use Rattle.scx_explore_findings.specs.FifoOnly.{IsInOrder}
use Rattle.scx_explore_findings.specs.WholeForms.{IsLed}
use Rattle.scx_explore_findings.proofs.Between.{events_leave_no_notes}
use Rattle.scx_explore_findings.proofs.EventSizes.{sized_after}
use Rattle.scx_explore_findings.proofs.EventWalk.{IsWeighing, walk_after}
use Rattle.scx_explore_findings.proofs.FifoQueues.{order_steps, waiting_is}
use Rattle.scx_explore_findings.proofs.MapWalk.{shaped_after}
use Rattle.scx_explore_findings.proofs.QueueWalk.{events_keep_queues_sound}
use Rattle.scx_explore_findings.proofs.RandomWalk.{drawn_after}
use Rattle.scx_explore_findings.proofs.SamePolicy.{sized_like}
use Rattle.scx_explore_findings.proofs.SameTold.{IsSuited}
use Rattle.scx_explore_findings.proofs.Tidying.{tidy_after}
use Rattle.scx_explore_findings.proofs.WorldSizes.{like_sized}

-- no event of the list changes a weight
abbrev pub AreUnweighing : List Event → Type 0
AreUnweighing [] = Unit {0}
AreUnweighing (e ∷ es) = (IsWeighing e → ⊥) × AreUnweighing es

module _ (shapes : List Shape) (root : SimState) where
  -- an accepted event leads on
  pub led_one : (s : SimState) (e : Event) → refusal s e ≡ None → (IsWeighing e → ⊥) → IsLed shapes root s → IsLed shapes root (after_event s e)
  led_one s e ok none h =
      let k = h.events in
      let n = length root.state.world.tasks in
      let taken = (accepted s e ok).taken in
      let here : IsFine (length s.state.world.tasks) k k None s.state.world.cpus s.state.world = subst (λ (m : ℕ). IsFine m k k None s.state.world.cpus s.state.world) (sym h.fine.sound.tasks) h.fine in
      let decided = decides s.state k e taken here in
      let still = still_step s.state e (h.still, h.settled) in
      let time = time_step s.state.policy.timeout_ms n k s.state e h.fine.sound.tasks taken refl h.fine h.timely in
      let new = (machine.event_step s.state e).state in
      let made : after_event s e ≡ record { state = new; events = s.events + 1 } = ap (λ o. stepped_if o s e) ok in
      record {
        policy = ap (λ (x : SimState). x.state.policy) made ∙ (decided.policy ∙ h.policy);
        timeout = h.timeout;
        size = like_sized root.state.world (after_event s e).state.world (sized_after root.state.world s e (sized_like root.state.world s.state.world h.size));
        events = k + 1;
        fine = subst (λ (x : SimState). IsFine n (k + 1) (k + 1) None x.state.world.cpus x.state.world) (sym made) (fine_step n k s.state e h.fine.sound.tasks taken h.fine);
        timely = subst (λ (x : SimState). IsInTime x.state.policy.timeout_ms x.state.world) (sym made) (subst (λ (q : PolicyState). IsInTime q.timeout_ms new.world) (sym decided.policy) time);
        timers = subst (λ (x : SimState). AreTimersLater x.state.world) (sym made) (timers_step n k s.state e h.fine.sound.tasks taken h.fine h.timers);
        still = ap (λ (x : SimState). x.state.world.cycling) made ∙ still.0;
        settled = ap (λ (x : SimState). x.state.world.passing) made ∙ still.1;
        rules = ap (λ (x : SimState). x.state.world.rules) made ∙ (decided.rules ∙ h.rules);
        quiet = events_leave_no_notes root.state.world.tracks_idle s e h.quiet;
        tidy = tidy_after root.state.world.tree s e none h.tidy;
        queues = events_keep_queues_sound s e h.queues;
        maps = shaped_after shapes s e h.maps;
        random = λ may. drawn_after root.state.world.random root.state.policy may s e h.policy (h.random may);
        order = λ may. (walk_after root.state.policy IsInOrder (order_steps root.state.policy may) s e (h.policy, h.order may)).1;
      }

  -- a list of accepted events leads on
  pub led_all : (s : SimState) (events : List Event) → AreAccepted s events → AreUnweighing events → IsLed shapes root s → IsLed shapes root (stepped_all s events)
  led_all s [] all none h = h
  led_all s (e ∷ es) all none h = led_all (after_event s e) es all.1 none.1 (led_one s e all.0 none.0 h)

  -- while the policy is in force, words tell such a machine
  pub led_suited : (s : SimState) → s.state.world.ejected ≡ None → IsLed shapes root s → IsSuited shapes root s
  led_suited s force h =
      let limit : s.state.policy.timeout_ms ≡ root.state.policy.timeout_ms = ap (λ (q : PolicyState). q.timeout_ms) h.policy in
      record {
        policy = h.policy;
        size = sized_like root.state.world s.state.world h.size;
        sound = h.fine.sound;
        fresh = h.fine.not_yet force;
        timely = λ t. omega (arith, h.timely force t, limit, h.timeout.1);
        still = h.still;
        settled = h.settled;
        rules = h.rules;
        quiet = h.quiet;
        force = force;
        tidy = h.tidy;
        queues = h.queues;
        maps = h.maps;
        timers = h.timers;
        random = h.random;
        order = λ may k. waiting_is (entry_of s.state.world.queues k) ((h.order may force).0 k);
      }
