-- Two machines that are the same but for what ticks count show the same, by forms that leave it out.
use Rattle.std.proofs.Common.{◌≡◌, ℕ, ◌+◌, ◌*◌, ◌%◌, ◌||◌, min, not, Bool, true, false, cond, List, length, Option, None, refl, sym, ap, ◌∙◌, subst}
use Rattle.scx_dsq.specs.declared.entries.Entry.{Entry}
use Rattle.scx_dsq.specs.Queues.{entry_of}
use Rattle.scx_sched_tasks.specs.declared.task.Task.{Task}
use Rattle.scx_sched_tasks.specs.Waits.{time_since}
use Rattle.scx_sched_world.specs.World.{WorldState, task_at, cpu_of, running}
use Rattle.scx_sched_machine.specs.declared.events.Event.{Event}
use Rattle.scx_sched_machine.specs.Steps.{State}
use Rattle.scx_sched.specs.Sim.{SimState}
use Rattle.scx_explore_states.specs.declared.form.Form.{Form}
use Rattle.scx_explore_states.specs.Rows.{kept, bit_of, is_endless, slice_kept, is_by_vtime, ahead_of, entries_of, place_of, is_idle, spot_of, row_of}
use Rattle.scx_explore_states.specs.Written.{IsWritten}
use Rattle.scx_explore_findings.specs.Counted.{uncounted_slice, all_uncounted, without_counts, AreSame}
use Rattle.scx_explore_findings.specs.Findings.{waits_left, IsIdleBehind}
use Rattle.scx_explore_findings.proofs.CountedRecords.{length_same}
use Rattle.scx_explore_findings.proofs.CountedWorlds.{read}
use Rattle.scx_explore_findings.proofs.Shown.{idle_there}
use Rattle.scx_explore_findings.proofs.Words.{IsKeptAlike, shown, found}

-- a form that leaves slices out keeps whether one never ends
ends_alike : (b : Bool) (n : ℕ) → b ≡ false → slice_kept b n ≡ slice_kept b (uncounted_slice n)
ends_alike b n e = ap (λ (c : Bool). slice_kept c n) e ∙ ap bit_of (go (is_endless n) refl) ∙ sym (ap (λ (c : Bool). slice_kept c (uncounted_slice n)) e)
  where
    go : (c : Bool) → is_endless n ≡ c → is_endless n ≡ is_endless (cond c 0xffff_ffff_ffff_ffff 0)
    go true is = is
    go false is = is

run_out : (b : Bool) (n : ℕ) → b ≡ false → kept b n ≡ kept b 0
run_out b n e = ap (λ (c : Bool). kept c n) e ∙ sym (ap (λ (c : Bool). kept c 0) e)

module _ (f : Form) (ids : List ℕ) (sliceless : f.slices ≡ false) (timeless : f.run_ns ≡ false) where
  row_same : (w : WorldState) (t : ℕ) → IsKeptAlike f ids w (without_counts w) t
  row_same w t = λ i. record (row_of f w t e (spot_of f w ids (entries_of w) t e)) { spot = spot i; slice = slice i; vtime = vtime i; run_ns = run_ns i }
    where
      e : Option Entry
      e = entry_of w.queues t

      there : Task
      there = task_at (without_counts w) t

      number_by : Task → ℕ
      number_by x = min (kept f.waits (time_since w.clock x.since)) 65535 * 65536 + place_of ids (cpu_of w t) e * 256 + x.prev_cpu % 16 * 16 + ahead_of (entries_of w) e * 2 + bit_of (is_by_vtime e)

      spot : number_by (task_at w t) ≡ number_by there
      spot = read number_by (λ x. refl) w t

      sliced : Task → ℕ
      sliced x = kept (f.idle_slices || not (is_idle (place_of ids (cpu_of w t) e) e)) (slice_kept f.slices x.slice)

      slice : sliced (task_at w t) ≡ sliced there
      slice = read sliced (λ x. ap (kept (f.idle_slices || not (is_idle (place_of ids (cpu_of w t) e) e))) (ends_alike f.slices x.slice sliceless)) w t

      vtime : kept f.vtime (task_at w t).vtime ≡ kept f.vtime there.vtime
      vtime = read (λ x. kept f.vtime x.vtime) (λ x. refl) w t

      run_ns : kept f.run_ns (task_at w t).run_ns ≡ kept f.run_ns there.run_ns
      run_ns = read (λ x. kept f.run_ns x.run_ns) (λ x. run_out f.run_ns x.run_ns timeless) w t

  -- they are written as the same words
  pub counted_written : (xs : List ℕ) (s t : SimState) → AreSame s t → IsWritten f ids xs s → IsWritten f ids xs t
  counted_written xs s t same is =
      found f ids t (all_uncounted t.state.world.tasks) 0 (length_same t.state.world.tasks) (row_same t.state.world) xs
      (subst (λ (x : State). IsWritten f ids xs (record { state = x; events = 0 })) same
      (shown f ids s (all_uncounted s.state.world.tasks) 0 (length_same s.state.world.tasks) (row_same s.state.world) xs is))

-- and leave the same CPUs idle while the same tasks wait
pub counted_idle : (s t : SimState) → AreSame s t → (e : Event) → IsIdleBehind s e None → IsIdleBehind t e None
counted_idle s t same e is =
    idle_there s t (length_same s.state.world.tasks ∙ ap (λ (x : State). length x.world.tasks) same ∙ sym (length_same t.state.world.tasks))
    (λ c u. ap (λ (x : State). waits_left x.world c u) (sym same)) (λ c. ap (λ (x : State). running x.world c) (sym same)) e None is
