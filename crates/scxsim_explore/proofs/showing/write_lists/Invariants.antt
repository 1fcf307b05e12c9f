use Rattle.std.specs.Prelude.{take}
use Rattle.scxsim_trace.specs.Lines.{names_of}
use Rattle.scx_explore_findings.specs.Path.{IsAs}
use Rattle.scxsim_explore_lines.specs.Found.{told_texts}
use Rattle.scxsim_explore_lines.proofs.Written.{AreWritten}
use Rattle.scxsim_explore.proofs.showing.write_lists.Given as goal

-- the lists so far are written, and the teller has the policy and the size of the first machine
abbrev pub invariant-loop-list : goal.invariant-loop-list
invariant-loop-list g l = record {
  alike : IsAs l.first l.teller;
  written :
      AreWritten (told_texts (names_of l.about) l.first l.mode (take l.list-index l.lists)) (g.W.Out.contents l.initial.out) (g.W.Out.contents l.out) (g.W.Out.failure_count l.initial.out) (g.W.Out.failure_count l.out);
}
