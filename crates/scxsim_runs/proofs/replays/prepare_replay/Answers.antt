use Rattle.std.proofs.lemmas.Result.{err_from_is_err_and}
use Rattle.scx_load_replay.specs.Replayer.{ReplayerState, remaining}
use Rattle.scxsim_runs.specs.declared.preparing.Run.{Run}
use Rattle.scxsim_runs.proofs.Causing.{events_cause}
use Rattle.scxsim_runs.proofs.Running.{replay_is}
use Rattle.scxsim_runs.proofs.replays.prepare_replay.Goals as goal

pub returns-clause-run : goal.returns-clause-run
returns-clause-run c =
    replay_is c.args.policy.now c.args.events.now _ _ _ (λ (run : Run ReplayerState). run.workload) (λ (run : Run ReplayerState). run.sim) (λ (run : Run ReplayerState). remaining run.driver) c.begin_replay.result c.in_ok-text.ensures.read (rw c.rules.ensures at c.in_ok-replay.ensures.read) c.in_ok-policy.ensures.built (rw (c.seed.ensures, c.workload.ensures) at c.in_ok-policy.ensures.seeded)
    c.begin_replay.ensures.workload c.begin_replay.ensures.events c.begin_replay.ensures.first c.begin_replay.ensures.accepted c.begin_replay.ensures.answered

pub returns-in_err-replay-clause-refused : goal.returns-in_err-replay-clause-refused
returns-in_err-replay-clause-refused c =
    let error = err_from_is_err_and c.from_residual-in_err-replay.result c.from_residual-in_err-replay.ensures.1 in
    rw (error.1, error.2) (events_cause c.args.policy.now c.args.events.now _ c.in_err-replay.field-0.0 c.in_ok-text.ensures.read (rw c.rules.ensures at c.in_err-replay.ensures.refused))
