use Rattle.std.proofs.Common.{rules, ◌≡◌, ◌≤◌, ℕ, List, true, length, map, replicate, refl, sym, ap, ◌∙◌, subst, arith}
use Rattle.std.proofs.lemmas.List.{length-map, length-replicate}
use Rattle.scx_load_workloads.specs.declared.workload.Timing.{Timing}
use Rattle.scx_load_workloads.specs.declared.workload.Change.{Change}
use Rattle.scx_load_workloads.specs.Workload.{max_ms, timing_at}
use Rattle.scx_load_driver.specs.Watch.{last_tick, last_ticks_of}
use Rattle.scx_load_driver.proofs.LastTicks.{first_last}
use Rattle.scx_load_driver.specs.Calendar.{AreNoted}
use Rattle.scx_load_driver.proofs.Quiet.{unwatched_true}
use Rattle.scx_load_driver.proofs.Remaining.{none_ticks}
use Rattle.scx_load_driver.specs.Changes.{AreAlike}
use Rattle.scx_load_driver.proofs.Ordered.{alike_events}
use Rattle.scx_load_driver.proofs.Watching.{first_remain}
use Rattle.scx_load_driver.proofs.driver.Driver.new.Goals as goal

pub invariant_of-result-2 : goal.invariant_of-result-2
invariant_of-result-2 c =
    let w = c.args.workload.now in
    let whole = c.is_whole.ensures in
    let timings : c.in_ok-timings.timings.items ≡ w.timings = c.in_ok-timings.ensures.items ∙ c.timings.ensures in
    let ran : c.in_ok-ran.ran.items ≡ replicate (length w.timings) 0 = (search rules) in
    let many : c.len-2.result ≡ length c.in_ok-timings.timings.items = omega (arith, c.len-2.ensures, c.in_ok-timings.timings.ok.0) in
    record {
      room = omega (arith, c.in_ok-with_capacity.ensures.exact);
      taken = omega arith;
      ticked = λ ticks. absurd (cc);
      few_cpus = omega (arith, c.cpus-cpus.ensures, whole.few_cpus);
      cpu = omega arith;
      few_tasks = omega (arith, ap length timings, whole.timed, whole.few_tasks);
      few_changes = omega (arith, c.in_ok-in_order.ensures.many, ap length c.changes.ensures, whole.few_changes);
      due = ap length c.in_ok-due.ensures ∙ length-map c.timings-2.result.now (λ (t : Timing). t.start) ∙ ap length (c.timings-2.ensures ∙ sym timings);
      ran = omega (arith, c.in_ok-ran.ran.ok.0, c.in_ok-ran.ensures.len, c.len.ensures, c.in_ok-timings.timings.ok.0);
      last =
          c.in_ok-last_ticks.ensures ∙ ap (λ xs. map (λ (t : Timing). last_tick t.run 0) xs) c.timings-3.ensures ∙ first_last w.timings
          ∙ ap (λ xs. last_ticks_of xs (replicate (length w.timings) 0)) (sym timings) ∙ ap (λ rs. last_ticks_of c.in_ok-timings.timings.items rs) (sym ran);
      watched = ap length c.watched.view_is ∙ ap length c.in_ok-watched.ensures ∙ length-replicate c.len-2.result true ∙ many;
      ordered = c.in_ok-in_order.ensures.ordered;
      coming = record { within = omega arith; past = λ i l. absurd (omega (arith, l)); later = λ i x l. omega arith; ahead = omega arith };
      whole = c.in_ok-calendar.ensures.whole;
      noted = subst (λ (ds : List ℕ). AreNoted ds 0 c.in_ok-calendar.calendar) c.deref.ensures.value c.in_ok-calendar.ensures.noted;
      unwatched = unwatched_true _;
      times = omega (arith, c.ms.ensures, whole.few_ms);
      sleeps = λ t l. subst (λ xs. (timing_at xs t).sleep ≤ max_ms) (sym timings) (whole.timings t (omega (arith, l, ap length timings))).sleep;
    }

pub returns : goal.returns
returns c s =
    let w = c.args.workload.now in
    let timings : c.in_ok-timings.timings.items ≡ w.timings = c.in_ok-timings.ensures.items ∙ c.timings.ensures in
    let ordered = c.in_ok-in_order.field-0.items in
    let alike : AreAlike ordered w.changes = subst (λ (cs : List Change). AreAlike ordered cs) c.changes.ensures c.in_ok-in_order.ensures.alike in
    let due = c.in_ok-due.ensures ∙ ap (λ xs. map (λ (t : Timing). t.start) xs) c.timings-2.ensures in
    first_remain (record w { changes = ordered }) s _ _ _ _ _ _ _ _ c.cpus-cpus.ensures timings refl c.ms.ensures due (search rules) (search rules) (none_ticks c.cpus-cpus.result c.cpus-cpus.result _ _ (omega arith) (search rules))
    ∙ alike_events w ordered s alike
