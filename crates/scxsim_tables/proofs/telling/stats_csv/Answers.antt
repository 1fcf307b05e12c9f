use Rattle.std.specs.Io.KnownBytes.{Appends}
use Rattle.scxsim_runs.specs.Scenarios.{IsScenarioCause}
use Rattle.scxsim_statistics.specs.Figures.{AreOfTexts}
use Rattle.scxsim_tables.specs.Values.{values}
use Rattle.scxsim_tables.proofs.Rows.{with_figures, no_memory_is_cause}
use Rattle.scxsim_tables.proofs.telling.stats_csv.Goals as goal

pub returns-clause-done : goal.returns-clause-done
returns-clause-done g c =
    with_figures c.write_values.result _ (AreOfTexts c.args.policy.now c.args.scenario.now) (λ f. Appends (g.W.Out.contents c.args.out.now) (g.W.Out.contents _) (values f)) c.in_ok-all.ensures.of_texts c.write_values.ensures.done

pub returns-clause-refused : goal.returns-clause-refused
returns-clause-refused g c =
    no_memory_is_cause c.write_values.result (IsScenarioCause c.args.policy.now c.args.scenario.now) tt c.write_values.ensures.refused

pub returns-clause-cut : goal.returns-clause-cut
returns-clause-cut g c = λ failed. (_, c.in_ok-all.ensures.of_texts, c.write_values.ensures.cut failed)
