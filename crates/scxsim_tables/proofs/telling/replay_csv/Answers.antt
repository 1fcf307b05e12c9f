use Rattle.std.specs.Io.KnownBytes.{Appends}
use Rattle.scxsim_runs.specs.Replays.{IsReplayCause}
use Rattle.scxsim_statistics.specs.Figures.{AreOfEvents}
use Rattle.scxsim_tables.specs.Values.{values}
use Rattle.scxsim_tables.proofs.Rows.{with_figures, no_memory_is_cause}
use Rattle.scxsim_tables.proofs.telling.replay_csv.Goals as goal

pub returns-clause-done : goal.returns-clause-done
returns-clause-done g c =
    with_figures c.write_values.result _ (AreOfEvents c.args.policy.now c.args.events.now) (λ f. Appends (g.W.Out.contents c.args.out.now) (g.W.Out.contents _) (values f)) c.in_ok-all.ensures.of_events c.write_values.ensures.done

pub returns-clause-refused : goal.returns-clause-refused
returns-clause-refused g c =
    no_memory_is_cause c.write_values.result (IsReplayCause c.args.policy.now c.args.events.now) tt c.write_values.ensures.refused

pub returns-clause-cut : goal.returns-clause-cut
returns-clause-cut g c = λ failed. (_, c.in_ok-all.ensures.of_events, c.write_values.ensures.cut failed)
