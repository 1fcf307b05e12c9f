-- The headline holds of a run through the events that its machine took.
use Rattle.std.proofs.Common.{◌≡◌, ℕ, List, [], ◌∷◌, ◌++◌, Option, None, Result, Ok, Err, OnErr, sym, subst, ap, ◌∙◌}
use Rattle.std.specs.List.{AllByRecursion}
use Rattle.scx_sched_machine.specs.declared.events.Event.{Event}
use Rattle.scx_sched_machine.specs.Callbacks.{AreAnswered}
use Rattle.scx_sched_policy.specs.Policy.{PolicyState, IsTimeout}
use Rattle.scx_sched_machine.proofs.Taking.{answered_append}
use Rattle.scx_sched.specs.Sim.{SimState, after_event, calls_of}
use Rattle.scx_sched.specs.Once.{IsOnce}
use Rattle.scx_sched.specs.Waits.{IsTimely, HasWaits}
use Rattle.scx_sched.specs.Usages.{AreBounded}
use Rattle.scx_sched.proofs.First.{policy_started}
use Rattle.scx_load_workloads.specs.Workload.{WorkloadState, IsWorkload, first_tree}
use Rattle.scx_load_driver.specs.Headline.{states_from, calls_of_all, NoneIsLate, EachFollows}
use Rattle.scx_load_driver.proofs.Going.{follows_before}
use Rattle.scx_load_driver.proofs.Whole.{run_notes, run_last, run_never_stuck, run_once, run_counted, run_timely, run_bounded, run_follows}
use Rattle.scxsim_trace.specs.Lines.{NameLists, names_of}
use Rattle.scxsim_trace.specs.Runs.{IsInOrder, StaysInOrder, StopsAtFailure}
use Rattle.scxsim_runs.specs.Runs.{IsBegun}
use Rattle.scxsim_simulation.specs.Traces.{run_of, IsOfHeadline, IsCutOff}
use Rattle.scxsim_simulation.proofs.Belonging.{is_that_machine}
use Rattle.scxsim_runs.proofs.Shapes.{shape_is_right}

all_answered : (s : SimState) (events : List Event) → StaysInOrder s events → AreAnswered (calls_of_all s events)
all_answered s [] h = tt
all_answered s (e ∷ es) (now, well, more) =
    answered_append (calls_of s e) (calls_of_all (after_event s e) es) well.0 (all_answered (after_event s e) es more)

-- what states in order have, each state has of a run that stays in order
each_has : (P : SimState → Type 0) → ((s : SimState) → IsInOrder s → P s) → (s : SimState) (events : List Event) → StaysInOrder s events → AllByRecursion P (states_from s events)
each_has P has s [] h = (has s h, tt)
each_has P has s (e ∷ es) (now, well, more) = (has s now, each_has P has (after_event s e) es more)

all_follow : (s : SimState) (events : List Event) → StaysInOrder s events → EachFollows events (states_from s events)
all_follow s [] h = tt
all_follow s (e ∷ es) (now, well, more) = follows_before s e es well.1 (all_follow (after_event s e) es more)

-- the limit of a machine that has begun is that of the policy's text
limit_of_text : {policy : List ℕ} {w : WorkloadState} {s : SimState} (x : IsBegun policy w s) → s.state.policy.timeout_ms ≡ x.file.timeout_ms
limit_of_text {policy} {w} {s} x =
    ap (λ (p : PolicyState). p.timeout_ms) (policy_started x.machine (first_tree w) w.cpus s.state x.first.0) ∙ x.built.timeout

-- the headline holds of a run through events that leave its machine in order after each
pub headline_holds : {policy : List ℕ} {w : WorkloadState} {s : SimState} (x : IsBegun policy w s) (events : List Event) → IsWorkload w → IsTimeout s.state.policy.timeout_ms → StaysInOrder s events → IsOfHeadline x events
headline_holds {policy} {w} {s} x events whole limit_is h =
    let tree = first_tree w in
    let limit : ℕ → Type 0 = λ n. NoneIsLate n (run_of x events) in
    record {
      notes = sym (run_notes x.machine tree w.cpus events s x.first);
      last = run_last x.machine tree w.cpus events s x.first;
      never_stuck = run_never_stuck x.machine tree w.cpus events s x.first x.answered (all_answered s events h);
      once = run_once x.machine tree w.cpus events s x.first (each_has (λ t. IsOnce None t.state.world) (λ t now. now.once) s events h);
      counted = run_counted x.machine tree w.cpus events s x.first (each_has (λ t. HasWaits None t.state.world) (λ t now. now.counted) s events h);
      timely = subst limit x.built.timeout (run_timely x.machine tree w.cpus events s x.first (all_follow s events h) (each_has (λ t. IsTimely t.state) (λ t now. now.timely) s events h));
      bounded = run_bounded x.machine tree w.cpus events s x.first (each_has (λ t. AreBounded t.state.world) (λ t now. now.bounded) s events h);
      follows = run_follows x.machine tree w.cpus events s x.first (all_follow s events h);
      shape = shape_is_right w whole;
      limit = subst IsTimeout (limit_of_text x) limit_is;
      programs = x.built.as_callbacks;
      machine = is_that_machine x.file w x.machine s events x.built x.seeded x.first h;
    }

-- up to where writing failed
pub headline_cut : {policy : List ℕ} {w : WorkloadState} {s : SimState} (x : IsBegun policy w s) (events : List Event) (t : SimState) (old new : Option (List ℕ))
    → IsWorkload w → IsTimeout s.state.policy.timeout_ms → StopsAtFailure (names_of w) events s t old new → IsCutOff x events old new
headline_cut x events t old new whole limit_is h = record {
  done = h.done;
  event = h.event;
  rest = h.rest;
  whole = h.whole;
  headline = headline_holds x (h.done ++ h.event ∷ []) whole limit_is h.in_order;
  lines = h.lines;
}

-- in some state
pub stops_somewhere : {A E : Type 0} (r : Result A E) (names : NameLists) (events : List Event) (s t : SimState) (old new : Option (List ℕ))
    → OnErr r (StopsAtFailure names events s t old new) → OnErr r ((end : SimState) × StopsAtFailure names events s end old new)
stops_somewhere (Ok done) names events s t old new h = tt
stops_somewhere (Err e) names events s t old new h = (t, h)
