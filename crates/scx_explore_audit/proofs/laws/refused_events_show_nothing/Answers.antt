use Rattle.scx_explore_audit.proofs.Skipping.{refused_events_show_nothing}
use Rattle.scx_explore_audit.proofs.laws.refused_events_show_nothing.Goals as goal

pub returns : goal.returns
returns c = refused_events_show_nothing
