use Rattle.scx_load_replay.specs.Reading.{replay_by}
use Rattle.scxsim_commands.specs.declared.refusal.FileKind.TheVariants as kinds
use Rattle.scxsim_commands.specs.Refusals.{file_refusal}
use Rattle.scxsim_runs.proofs.Passing.{read_is}
use Rattle.scxsim_runs.proofs.replays.events_in.Goals as goal

pub returns-clause-read : goal.returns-clause-read
returns-clause-read c = read_is (file_refusal kinds.Events) c.read_replay_by.result c.or_refusal.result (replay_by c.args.rules c.args.text.now) c.read_replay_by.ensures c.or_refusal.ensures
