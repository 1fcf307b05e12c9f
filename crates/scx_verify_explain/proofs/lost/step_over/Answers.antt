use Rattle.std.proofs.Common.{sym, ◌∙◌}
use Rattle.scx_verify_explain.proofs.Tracks.{stepped_back}
use Rattle.scx_verify_explain.proofs.lost.step_over.Goals as goal

pub returns : goal.returns
returns c =
    stepped_back c.args.listing.now c.args.sought c.args.walk c.args.brought c.in_ok-instruction.instruction c.in_ok-before.before c.steps_only.result
    (record { brings = c.requires; there = sym c.insn.ensures ∙ c.in_ok-instruction.was; before_it = sym c.kind_before.ensures ∙ c.in_ok-before.was })
    c.steps_only.ensures c.step_by.result c.step_by.ensures
