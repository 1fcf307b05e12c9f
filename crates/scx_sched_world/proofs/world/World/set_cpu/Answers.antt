use Rattle.std.proofs.Common.{◌≡◌, ℕ, ◌<◌, ◌++◌, ◌∙◌, None, List, length, set, take, drop, ap, subst, sym, arith}
use Rattle.std.proofs.lemmas.List.{get_or_read, length-set}
use Rattle.std.proofs.Math.Seq.{take-append_seam}
use Rattle.scx_dsq.specs.Laws.{one_if}
use Rattle.scx_sched_world.specs.Kept.{AreOn}
use Rattle.scx_sched_world.proofs.Busy.{busy_set}
use Rattle.scx_sched_world.proofs.Places.{cpu_set}
use Rattle.scx_sched_world.proofs.Running.{on_set}
use Rattle.scx_sched_world.proofs.Settled.{settled_cpu}
use Rattle.scx_sched_world.proofs.world.World.set_cpu.Goals as goal

pub invariant_of-self : goal.invariant_of-self
invariant_of-self c =
    let w = c.self.inside in
    let is = c.self.invariant in
    let cpu = c.args.cpu in
    let within : cpu < length w.cpus.items = omega arith in
    let had = get_or_read w.cpus.items cpu c.index-before.result.now within c.index-before.ensures None in
    let count = rw c.deref_mut.ensures.value at c.change_running.ensures.count in
    let here = rw (had, c.deref_mut.ensures.value) at c.change_running.ensures.here in
    let others = rw c.deref_mut.ensures.value at c.change_running.ensures.others in
    let now = c.change_running.new.running in
    let long : w.running_on.len ≡ length now = omega (arith, count, w.running_on.ok.0) in
    let written : take w.running_on.len (now ++ drop (length now) w.running_on.items) ≡ now =
    ap (λ n. take n (now ++ drop (length now) w.running_on.items)) long ∙ take-append_seam now (drop (length now) w.running_on.items) in
    record {
      notes = is.notes;
      few_notes = is.few_notes;
      queued = is.queued;
      weighed = is.weighed;
      few_tasks = is.few_tasks;
      few_cpus = rw (length-set w.cpus.items cpu c.args.task) is.few_cpus;
      few_timers = is.few_timers;
      busy = busy_set w.busy _ cpu c.args.task w.cpus.items within is.few_cpus (c.with_bit-self-inside.ensures.here ∙ ap one_if c.is_some.ensures) c.with_bit-self-inside.ensures.others is.busy;
      running = subst (λ (bits : List ℕ). AreOn bits (set w.cpus.items cpu c.args.task)) (sym written) (on_set w.running_on.items now cpu c.args.task w.cpus.items within is.few_cpus count here others is.running);
      known_running = ap (λ (bits : List ℕ). length bits) written ∙ (count ∙ is.known_running);
      places = cpu_set w.queues.state w.cpus.items cpu c.args.task is.places;
      early = is.early;
      linux = is.linux;
      parked = is.parked;
      settled = settled_cpu w c.unsettle.new.bits cpu c.args.task is c.unsettle.ensures;
    }
