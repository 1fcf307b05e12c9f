-- The figures of a whole run.
use Rattle.std.proofs.Common.{◌≡◌, ℕ, zero, suc, ◌+◌, ◌<◌, ◌≤◌, max, false, List, length, map, replicate, Option, None, Some, Result, Ok, Err, refl, sym, ap, subst, ◌∙◌, arith, ◌⊎◌, inl, inr}
use Rattle.std.proofs.lemmas.Bool.{cases_eq}
use Rattle.std.proofs.lemmas.List.{length-set, length-map, length-replicate, get_or-replicate, get_or-set_same, get_or-set_other}
use Rattle.std.specs.List.{filter}
use Rattle.std.specs.Prelude.{is_err, IfOk, OnOk}
use Rattle.scx_sched_world.specs.declared.notes.Note.{Note}
use Rattle.scx_sched_world.specs.World.{WorldState, task_at}
use Rattle.scx_sched_machine.specs.declared.events.Event.{Event}
use Rattle.scx_sched.specs.Sim.{SimState}
use Rattle.scx_load_driver.specs.Runs.{stepped_all, notes_of_all}
use Rattle.scxsim_trace.specs.Report.{ran_ms}
use Rattle.scx_load_workloads.specs.Workload.{WorkloadState}
use Rattle.scxsim_views.specs.declared.pauses.Doing.{Doing}
use Rattle.scxsim_views.specs.declared.pauses.Doing.TheVariants.{Sleeps}
use Rattle.scxsim_views.specs.declared.pauses.Pause.{Pause}
use Rattle.scxsim_views.specs.declared.pauses.PauseKind.{PauseKind}
use Rattle.scxsim_views.specs.declared.pauses.PauseKind.TheVariants as kind
use Rattle.scxsim_views.specs.Pauses.{doing_at, pause_of, open_pause}
use Rattle.scxsim_trace.specs.Observing.{Watches}
use Rattle.scxsim_views.specs.Watching.{kept_of_all, CountsEvent, CountsNote}
use Rattle.scxsim_views.proofs.Keeping.{run_is_kept}
use Rattle.scxsim_statistics.specs.declared.tally.RunTally.{RunTally}
use Rattle.scxsim_statistics.specs.declared.tally.TaskFigures.{TaskFigures}
use Rattle.scxsim_statistics.specs.declared.tally.CpuFigures.{CpuFigures}
use Rattle.scxsim_statistics.specs.declared.group_waits.GroupWaits.{GroupWaits}
use Rattle.scx_sched_world.specs.declared.eject.Eject.{Eject}
use Rattle.scxsim_statistics.specs.declared.gathering.Gathered.{Gathered}
use Rattle.scxsim_views.specs.Lengths.{Lengths, no_lengths, at_most_64_bits, length_of}
use Rattle.scxsim_statistics.specs.Bursts.{no_bursts, bursts_at}
use Rattle.scxsim_statistics.specs.Latencies.{no_latencies, latencies_at}
use Rattle.scxsim_statistics.specs.Groups.{waits_in, waits_below, waits_at, merged_below, is_in}
use Rattle.scxsim_statistics.specs.Losses.{lost_at}
use Rattle.scxsim_statistics.specs.Counting.{RunCounts, counts_of, no_figures, unused_cpu, nothing, figures_at, cpu_at, with_run, with_pause, with_pause_of, after_pause, has_run, counts_after_note, counts_after_event, ended_below, counts_at_end}
use Rattle.scxsim_statistics.specs.Figures.{does_after, to_list, pauses_in, pauses_of, waits_of, is_wait, longest_of, wakes_of, stops_in, busy_in, idle_in, lost_in, lost_anywhere_in, of_counts, of_gathered, all_asleep, latencies_of, waits_of_group, latencies_of_group, IsOfTask, IsOfBursts, AreLatencies, AreOfGroup, IsOfCpu, AreOfRun}
use Rattle.scxsim_statistics.proofs.Rows.{tasks_kept, with_option, pause_here, pause_there, of_pause, Row, row, row_all, IsThere, row_of_run}
use Rattle.scxsim_statistics.proofs.Told.{wakes_told, stops_told, does_told, waits_told, waited_all, waited_append, pause_said, count_told, times_told, longest_told}
use Rattle.scxsim_statistics.proofs.Processors.{cpu_told, cpus_stay}
use Rattle.scxsim_statistics.proofs.Merging.{IsOfLengths, percentiles_of, merged_told, greatest_of, length_below, at_below}
use Rattle.scxsim_statistics.proofs.Waking.{latencies_told, latencies_stay}
use Rattle.scxsim_statistics.proofs.Awake.{are_of_bursts}
use Rattle.scxsim_statistics.proofs.Lost.{lost_told, anywhere_told}

from_0 : (n : ℕ) → 0 + n ≡ n
from_0 n = omega arith

-- ---- the end

length_ended : (n : ℕ) (w : WorldState) (ds : List Doing) (tasks : List TaskFigures) → length (ended_below n w ds tasks) ≡ length tasks
length_ended zero w ds tasks = refl
length_ended (suc n) w ds tasks =
    let ran = has_run (ended_below n w ds tasks) n (ran_ms (task_at w n)) in
    length_paused (open_pause w.clock ds n) ran ∙ length-set (ended_below n w ds tasks) n (with_run (ran_ms (task_at w n)) (figures_at (ended_below n w ds tasks) n)) ∙ length_ended n w ds tasks
  where
    length_paused : (q : Option Pause) (xs : List TaskFigures) → length (after_pause q xs) ≡ length xs
    length_paused None xs = refl
    length_paused (Some p) xs = length-set xs p.task (with_pause p (figures_at xs p.task))

-- one step: that task, and another
ended_here : (before : List TaskFigures) (n ms clock : ℕ) (d : Doing) → n < length before
    → figures_at (after_pause (pause_of clock n d) (has_run before n ms)) n ≡ with_option (pause_of clock n d) (with_run ms (figures_at before n))
ended_here before n ms clock d within =
    let x = with_run ms (figures_at before n) in
    pause_here (pause_of clock n d) (has_run before n ms) n (of_pause clock n d) (subst (λ m. n < m) (sym (length-set before n x)) within)
    ∙ ap (λ y. with_option (pause_of clock n d) y) (get_or-set_same before n x no_figures within)

ended_there : (before : List TaskFigures) (n t ms clock : ℕ) (d : Doing) → (t ≡ n → ⊥)
    → figures_at (after_pause (pause_of clock n d) (has_run before n ms)) t ≡ figures_at before t
ended_there before n t ms clock d other =
    pause_there (pause_of clock n d) (has_run before n ms) n t (of_pause clock n d) other
    ∙ get_or-set_other before n t (with_run ms (figures_at before n)) no_figures other

-- a task whose turn hasn't come
not_ended : (n t : ℕ) (w : WorldState) (ds : List Doing) (tasks : List TaskFigures) → n ≤ t → figures_at (ended_below n w ds tasks) t ≡ figures_at tasks t
not_ended zero t w ds tasks le = refl
not_ended (suc n) t w ds tasks le =
    ended_there (ended_below n w ds tasks) n t (ran_ms (task_at w n)) w.clock (doing_at ds n) (λ e. omega (arith, e, le))
    ∙ not_ended n t w ds tasks (omega (arith, le))

-- as a run ends, a task's figures get how long it ran and then the pause that goes on
pub is_ended : (n t : ℕ) (w : WorldState) (ds : List Doing) (tasks : List TaskFigures) → t < n → t < length tasks
    → figures_at (ended_below n w ds tasks) t ≡ with_option (pause_of w.clock t (doing_at ds t)) (with_run (ran_ms (task_at w t)) (figures_at tasks t))
is_ended zero t w ds tasks below within = absurd (omega (arith, below))
is_ended (suc n) t w ds tasks below within = go (cases_eq t n) (λ less. is_ended n t w ds tasks less within)
  where
    here : n < length tasks → figures_at (ended_below (suc n) w ds tasks) n ≡ with_option (pause_of w.clock n (doing_at ds n)) (with_run (ran_ms (task_at w n)) (figures_at tasks n))
    here in' =
        ended_here (ended_below n w ds tasks) n (ran_ms (task_at w n)) w.clock (doing_at ds n) (subst (λ m. n < m) (sym (length_ended n w ds tasks)) in')
        ∙ ap (λ y. with_option (pause_of w.clock n (doing_at ds n)) (with_run (ran_ms (task_at w n)) y)) (not_ended n n w ds tasks (omega arith))

    go : (t ≡ n) ⊎ (t ≡ n → ⊥) → (t < n → figures_at (ended_below n w ds tasks) t ≡ with_option (pause_of w.clock t (doing_at ds t)) (with_run (ran_ms (task_at w t)) (figures_at tasks t)))
        → figures_at (ended_below (suc n) w ds tasks) t ≡ with_option (pause_of w.clock t (doing_at ds t)) (with_run (ran_ms (task_at w t)) (figures_at tasks t))
    go (inl e) before =
        let P : ℕ → Type 0 = λ k. figures_at (ended_below (suc n) w ds tasks) k ≡ with_option (pause_of w.clock k (doing_at ds k)) (with_run (ran_ms (task_at w k)) (figures_at tasks k)) in
        subst P (sym e) (here (subst (λ k. k < length tasks) e within))
    go (inr other) before =
        ended_there (ended_below n w ds tasks) n t (ran_ms (task_at w n)) w.clock (doing_at ds n) other
        ∙ before (omega (arith, below, other))

-- ---- a task

end_keeps : (q : Option Pause) (x : TaskFigures) → ((with_option q x).run ≡ x.run) × ((with_option q x).wakes ≡ x.wakes) × ((with_option q x).stopped ≡ x.stopped)
end_keeps None x = (refl, refl, refl)
end_keeps (Some p) x = by_kind p.kind
  where
    by_kind : (k : PauseKind) → ((with_pause_of k p x).run ≡ x.run) × ((with_pause_of k p x).wakes ≡ x.wakes) × ((with_pause_of k p x).stopped ≡ x.stopped)
    by_kind kind.Wait = (refl, refl, refl)
    by_kind kind.Parked = (refl, refl, refl)

abbrev first_row : Row
first_row = record { doing = Sleeps; figures = no_figures }

task_told : (t clock ms : ℕ) (ns : List Note) (r : Row) (x : TaskFigures) → r ≡ row_all t ns first_row → x ≡ with_option (pause_of clock t r.doing) (with_run ms r.figures)
    → (x.run ≡ ms) × (x.wakes ≡ at_most_64_bits (wakes_of t ns)) × (x.stopped ≡ at_most_64_bits (stops_in t Sleeps ns)) × (x.waits ≡ waited_all (pauses_of t clock ns) no_lengths)
task_told t clock ms ns r x all end =
    let q = pause_of clock t r.doing in
    let y = with_run ms r.figures in
    let keeps = end_keeps q y in
    let doing : r.doing ≡ does_after t Sleeps ns = ap (λ (z : Row). z.doing) all ∙ does_told t ns first_row in
    let waits : r.figures.waits ≡ waited_all (pauses_in t Sleeps ns) no_lengths = ap (λ (z : Row). z.figures.waits) all ∙ waits_told t ns first_row in (
      ap (λ (z : TaskFigures). z.run) end ∙ keeps.0,
      ap (λ (z : TaskFigures). z.wakes) end ∙ keeps.1 ∙ ap (λ (z : Row). z.figures.wakes) all ∙ wakes_told t ns first_row 0 refl ∙ ap at_most_64_bits (from_0 (wakes_of t ns)),
      ap (λ (z : TaskFigures). z.stopped) end ∙ keeps.2 ∙ ap (λ (z : Row). z.figures.stopped) all ∙ stops_told t ns first_row 0 refl ∙ ap at_most_64_bits (from_0 (stops_in t Sleeps ns)),
      ap (λ (z : TaskFigures). z.waits) end ∙ pause_said q y ∙ ap (λ z. waited_all (to_list q) z) waits
          ∙ ap (λ d. waited_all (to_list (pause_of clock t d)) (waited_all (pauses_in t Sleeps ns) no_lengths)) doing
          ∙ sym (waited_append (pauses_in t Sleeps ns) (to_list (pause_of clock t (does_after t Sleeps ns))) no_lengths),
    )

first_is_there : (n m t : ℕ) → t < n → IsThere t (nothing n m)
first_is_there n m t below = record {
  tasks = subst (λ k. t < k) (sym (length-replicate n no_figures)) below;
  doing = subst (λ k. t < k) (sym (length-replicate n Sleeps)) below;
}

first_is : (n m t : ℕ) → t < n → row t (nothing n m) ≡ first_row
first_is n m t below =
    ap (λ d. record { doing = d; figures = figures_at (replicate n no_figures) t }) (get_or-replicate n t Sleeps Sleeps below)
    ∙ ap (λ x. record { doing = Sleeps; figures = x }) (get_or-replicate n t no_figures no_figures below)

-- ---- the run

abbrev pub final : WorkloadState → SimState → List Event → RunCounts
final wl s es = counts_at_end (stepped_all s es).state.world (kept_of_all counts_after_event counts_after_note s es (nothing (length wl.homes) wl.cpus))

-- what is told of a task: how long it ran, its wakes and stops, and exactly its waits
record IsToldOf (t : ℕ) (w : WorldState) (ns : List Note) (x : TaskFigures) : Type 0 where
  pub run : x.run ≡ ran_ms (task_at w t)
  pub wakes : x.wakes ≡ at_most_64_bits (wakes_of t ns)
  pub stopped : x.stopped ≡ at_most_64_bits (stops_in t Sleeps ns)
  pub waits : IsOfLengths (map length_of (waits_of t w.clock ns)) x.waits

told_of_run : (wl : WorkloadState) (s : SimState) (es : List Event) (t : ℕ) → t < length wl.homes → t < length (stepped_all s es).state.world.tasks
    → IsToldOf t (stepped_all s es).state.world (notes_of_all s es) (figures_at (final wl s es).tasks t)
told_of_run wl s es t below in_world =
    let world = (stepped_all s es).state.world in
    let first = nothing (length wl.homes) wl.cpus in
    let k = kept_of_all counts_after_event counts_after_note s es first in
    let ns = notes_of_all s es in
    let run = row_of_run t es s first (first_is_there (length wl.homes) wl.cpus t below) in
    let all : row t k ≡ row_all t ns first_row = run.1 ∙ ap (λ r. row_all t ns r) (first_is (length wl.homes) wl.cpus t below) in
    let there : IsThere t k = run.0 in
    let told = task_told t world.clock (ran_ms (task_at world t)) ns (row t k) (figures_at (final wl s es).tasks t) all
    (is_ended (length world.tasks) t world k.doing k.tasks in_world there.tasks) in
    record {
      run = told.0;
      wakes = told.1;
      stopped = told.2;
      waits = record {
        count =
            ap (λ x. x.count) told.3 ∙ count_told (pauses_of t world.clock ns) no_lengths 0 refl ∙ ap at_most_64_bits (from_0 (length (waits_of t world.clock ns)))
            ∙ ap at_most_64_bits (sym (length-map (waits_of t world.clock ns) length_of));
        longest =
            ap (λ x. x.longest) told.3 ∙ longest_told (pauses_of t world.clock ns) no_lengths (λ e. refl) ∙ from_none (longest_of (filter is_wait (pauses_of t world.clock ns)))
            ∙ greatest_of (waits_of t world.clock ns);
        times = ap (λ x. x.times) told.3 ∙ times_told (pauses_of t world.clock ns) no_lengths;
      };
    }
  where
    from_none : (a : ℕ) → max 0 a ≡ a
    from_none a = omega arith

task_of_run : (wl : WorkloadState) (s : SimState) (es : List Event) (t : ℕ) → t < length wl.homes → t < length (stepped_all s es).state.world.tasks
    → IsOfTask t (stepped_all s es).state.world (notes_of_all s es) (figures_at (final wl s es).tasks t)
task_of_run wl s es t below in_world =
    let world = (stepped_all s es).state.world in
    let waits = waits_of t world.clock (notes_of_all s es) in
    let told = told_of_run wl s es t below in_world in
    record {
      run = told.run;
      wakes = told.wakes;
      stopped = told.stopped;
      waits = told.waits.count ∙ ap at_most_64_bits (length-map waits length_of);
      longest = told.waits.longest ∙ sym (greatest_of waits);
      percentiles = percentiles_of (map length_of waits) (figures_at (final wl s es).tasks t).waits told.waits;
    }

-- exactly the wake-to-run latencies of a task are counted
waking_of_run : (wl : WorkloadState) (s : SimState) (es : List Event) (t : ℕ) → t < length wl.homes → IsOfLengths (latencies_of t (notes_of_all s es)) (latencies_at (final wl s es).latencies t).lengths
waking_of_run wl s es t below =
    latencies_told t s es (nothing (length wl.homes) wl.cpus) (subst (λ k. t < k) (sym (length-replicate (length wl.homes) no_latencies)) below)
    (get_or-replicate (length wl.homes) t no_latencies no_latencies below)

latencies_of_run : (wl : WorkloadState) (s : SimState) (es : List Event) (t : ℕ) → t < length wl.homes → AreLatencies t (notes_of_all s es) (latencies_at (final wl s es).latencies t)
latencies_of_run wl s es t below =
    let told = waking_of_run wl s es t below in
    record {
      count = told.count;
      longest = told.longest;
      percentiles = percentiles_of (latencies_of t (notes_of_all s es)) (latencies_at (final wl s es).latencies t).lengths told;
    }

length_tasks : (wl : WorkloadState) (s : SimState) (es : List Event) → length (final wl s es).tasks ≡ length wl.homes
length_tasks wl s es =
    let world = (stepped_all s es).state.world in
    let k = kept_of_all counts_after_event counts_after_note s es (nothing (length wl.homes) wl.cpus) in
    length_ended (length world.tasks) world k.doing k.tasks ∙ tasks_kept es s (nothing (length wl.homes) wl.cpus) ∙ length-replicate (length wl.homes) no_figures

length_latencies : (wl : WorkloadState) (s : SimState) (es : List Event) → length (final wl s es).latencies ≡ length wl.homes
length_latencies wl s es =
    latencies_stay es s (nothing (length wl.homes) wl.cpus) ∙ length-replicate (length wl.homes) no_latencies

-- the lengths of what was counted of both are those of a group
of_both : (wl : WorkloadState) (g clock : ℕ) (ns : List Note) (x : GroupWaits) → IsOfLengths (waits_of_group wl g clock ns) x.waits → IsOfLengths (latencies_of_group wl g ns) x.latencies → AreOfGroup wl g clock ns x
of_both wl g clock ns x waits latencies = record {
  waits = waits.count;
  longest = waits.longest;
  percentiles = percentiles_of (waits_of_group wl g clock ns) x.waits waits;
  latencies = latencies.count;
  longest_latency = latencies.longest;
  latency_percentiles = percentiles_of (latencies_of_group wl g ns) x.latencies latencies;
}

group_of_run : (wl : WorkloadState) (s : SimState) (es : List Event) (g : ℕ) → g < length wl.groups → length wl.homes ≤ length (stepped_all s es).state.world.tasks
    → AreOfGroup wl g (stepped_all s es).state.world.clock (notes_of_all s es) (waits_at (waits_below wl (final wl s es).tasks (final wl s es).latencies (length wl.groups)) g)
group_of_run wl s es g below in_world =
    let world = (stepped_all s es).state.world in
    let ns = notes_of_all s es in
    let k = final wl s es in
    let waits_counted : ℕ → Lengths = λ t. (figures_at k.tasks t).waits in
    let counted : ℕ → Lengths = λ t. (latencies_at k.latencies t).lengths in
    let waits = merged_told wl g (λ t. map length_of (waits_of t world.clock ns)) waits_counted (length wl.homes)
    (λ t there. (told_of_run wl s es t there (omega (arith, there, in_world))).waits) in
    let latencies = merged_told wl g (λ t. latencies_of t ns) counted (length wl.homes) (λ t there. waking_of_run wl s es t there) in
    let W : ℕ → Type 0 = λ n. IsOfLengths (waits_of_group wl g world.clock ns) (merged_below (is_in wl g) waits_counted n) in
    let L : ℕ → Type 0 = λ n. IsOfLengths (latencies_of_group wl g ns) (merged_below (is_in wl g) counted n) in
    let P : GroupWaits → Type 0 = λ x. AreOfGroup wl g world.clock ns x in
    subst P (sym (at_below wl k.tasks k.latencies (length wl.groups) g below))
    (of_both wl g world.clock ns (waits_in wl k.tasks k.latencies g) (subst W (sym (length_tasks wl s es)) waits) (subst L (sym (length_latencies wl s es)) latencies))

cpu_of_run : (wl : WorkloadState) (s : SimState) (es : List Event) (c : ℕ) → c < wl.cpus → IsOfCpu c s es (cpu_at (final wl s es).cpus c)
cpu_of_run wl s es c below =
    let first = nothing (length wl.homes) wl.cpus in
    let unused_there : cpu_at first.cpus c ≡ unused_cpu = get_or-replicate wl.cpus c unused_cpu unused_cpu below in
    let told = cpu_told c es s first 0 0 (subst (λ m. c < m) (sym (length-replicate wl.cpus unused_cpu)) below)
    (ap (λ (x : CpuFigures). x.busy) unused_there) (ap (λ (x : CpuFigures). x.idle) unused_there) in
    record { busy = told.0 ∙ ap at_most_64_bits (from_0 (busy_in c s es)); idle = told.1 ∙ ap at_most_64_bits (from_0 (idle_in c s es)) }

bursts_of_run : (wl : WorkloadState) (s : SimState) (es : List Event) (t : ℕ) → t < length wl.homes → IsOfBursts t s es (notes_of_all s es) (bursts_at (final wl s es).bursts t)
bursts_of_run wl s es t below =
    are_of_bursts t s es (nothing (length wl.homes) wl.cpus) (subst (λ k. t < k) (sym (length-replicate (length wl.homes) no_bursts)) below)
    (get_or-replicate (length wl.homes) t no_bursts no_bursts below)

loss_of_run : (wl : WorkloadState) (s : SimState) (es : List Event) (c : ℕ) → c < wl.cpus → lost_at (final wl s es).lost c ≡ at_most_64_bits (lost_in c (all_asleep wl) s es)
loss_of_run wl s es c below =
    lost_told c es s (nothing (length wl.homes) wl.cpus) 0 (subst (λ k. c < k) (sym (length-replicate wl.cpus 0)) below) (get_or-replicate wl.cpus c 0 0 below)
    ∙ ap at_most_64_bits (from_0 (lost_in c (all_asleep wl) s es))

anywhere_of_run : (wl : WorkloadState) (s : SimState) (es : List Event) → (final wl s es).anywhere ≡ at_most_64_bits (lost_anywhere_in (all_asleep wl) s es)
anywhere_of_run wl s es =
    anywhere_told es s (nothing (length wl.homes) wl.cpus) 0 refl ∙ ap at_most_64_bits (from_0 (lost_anywhere_in (all_asleep wl) s es))

-- what is counted in a whole run, with how the policy has ended, are the figures of that run
pub figures_told : (wl : WorkloadState) (s : SimState) (es : List Event) → AreOfRun wl s es (of_counts wl (final wl s es) (stepped_all s es).state.world.ejected)
figures_told wl s es = record {
  all_tasks = length_tasks wl s es;
  all_cpus = cpus_stay es s (nothing (length wl.homes) wl.cpus) ∙ length-replicate wl.cpus unused_cpu;
  of_task = task_of_run wl s es;
  of_bursts = bursts_of_run wl s es;
  of_latencies = latencies_of_run wl s es;
  all_groups = length_below wl (final wl s es).tasks (final wl s es).latencies (length wl.groups);
  of_group = group_of_run wl s es;
  of_cpu = cpu_of_run wl s es;
  of_loss = loss_of_run wl s es;
  anywhere = anywhere_of_run wl s es;
  ejected = refl;
}

-- ---- what was gathered

-- a view that was shown a whole run, and had memory to its end, has counted all of the run
pub gathered : {G : Type 0} (tally : G → RunTally) (wl : WorkloadState) (s t : SimState) (es : List Event) (first shown last : G)
    → counts_of (tally first) ≡ nothing (length wl.homes) wl.cpus
    → Watches (CountsEvent (λ g. is_err (tally g).result) (λ g. counts_of (tally g)) counts_after_event) (λ g. is_err (tally g).result) (CountsNote (λ g. is_err (tally g).result) (λ g. counts_of (tally g)) counts_after_note) es s first t shown
    → (is_err (tally last).result ≡ false → (is_err (tally shown).result ≡ false) × (counts_of (tally last) ≡ counts_at_end t.state.world (counts_of (tally shown))))
    → is_err (tally last).result ≡ false → (counts_of (tally last) ≡ final wl s es) × (t ≡ stepped_all s es)
gathered tally wl s t es first shown last begins watched ends well =
    let at_end = ends well in
    let kept = run_is_kept (λ g. is_err (tally g).result) (λ g. counts_of (tally g)) counts_after_event counts_after_note es s t first shown watched at_end.0 in (
      at_end.1 ∙ ap (λ (x : SimState). counts_at_end x.state.world (counts_of (tally shown))) kept.0
          ∙ ap (λ k. counts_at_end (stepped_all s es).state.world k) (kept.1 ∙ ap (λ k. kept_of_all counts_after_event counts_after_note s es k) begins),
      kept.0,
    )

-- an answer with the figures of a tally that counted all of a run has the figures of the run
pub answered : {E : Type 0} (r : Result Gathered E) (x : RunTally) (wl : WorkloadState) (s t : SimState) (es : List Event) (ejected : Option Eject)
    → IfOk r (λ f. of_gathered f ≡ of_counts wl (counts_of x) ejected) → OnOk r (is_err x.result ≡ false) → ejected ≡ t.state.world.ejected
    → (is_err x.result ≡ false → (counts_of x ≡ final wl s es) × (t ≡ stepped_all s es)) → IfOk r (λ f. AreOfRun wl s es (of_gathered f))
answered (Ok f) x wl s t es ejected same well end counts =
    let both = counts well in
    let how : ejected ≡ (stepped_all s es).state.world.ejected = end ∙ ap (λ (u : SimState). u.state.world.ejected) both.1 in
    let all : of_gathered f ≡ of_counts wl (final wl s es) (stepped_all s es).state.world.ejected = same ∙ ap (λ k. of_counts wl k ejected) both.0 ∙ ap (λ o. of_counts wl (final wl s es) o) how in
    subst (λ v. AreOfRun wl s es v) (sym all) (figures_told wl s es)
answered (Err e) x wl s t es ejected same well end counts = tt
