use Rattle.scx_isa_semantics.specs.Callbacks.{callbacks}
use Rattle.scx_explore_bounds.specs.Forms.{no_uses}
use Rattle.scx_explore_bounds.proofs.EachProgram.{done_by}
use Rattle.scx_explore_bounds.proofs.forms.uses_of.Goals as goal

pub returns : goal.returns
returns c =
    done_by c.rules-rules.result c.args.text.rules c.defs.result.now c.args.text.shapes c.into_programs-programs.result c.args.text.programs callbacks no_uses c.uses_in-uses.result c.rules-rules.ensures c.defs.ensures c.into_programs-programs.ensures c.uses_in-uses.ensures
