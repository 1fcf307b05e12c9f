-- Explanations of programs, and the programs that they are of.
use Rattle.std.specs.Prelude.{◌≡◌, ℕ, List, map, Option, None, IfSome}
use Rattle.scx_verify_explain.specs.declared.reasons.Explanation.{Explanation}
use Rattle.scx_verify_explain.specs.Reasons.{fault_of}
use Rattle.scx_verify_explain.specs.Said.{IsSaid}
use Rattle.scx_verify_explain.specs.Leading.{AreJumps}
use Rattle.scx_verify_explain.specs.Lost.{IsLostAt}
use Rattle.scxsim_commands.specs.declared.verdict.Verdict.{Verdict}
use Rattle.scxsim_commands.specs.declared.verdict.Verdict.TheVariants.{Accepted, Refused}
use Rattle.scxsim_commands.specs.VerdictLines.{verdict_line}
use Rattle.scxsim_explain.specs.declared.explained.Explained.{Explained}
use Rattle.scxsim_explain.specs.declared.explained.ExplainedPolicy.{ExplainedPolicy}
use Rattle.scxsim_explain.specs.Listed.{first_lines}

-- An accepted program has no explanation. That of a refused one, if there is one, is of the fault
-- and the slot of the verdict.
abbrev pub IsExplanation : Verdict → Option Explanation → Type 0
IsExplanation (Accepted count) explanation = explanation ≡ None
IsExplanation (Refused fault slot) explanation =
    IfSome explanation (λ e. (e.slot ≡ slot) × (fault_of e.reason ≡ fault))

-- a program's explanation is of its verdict: none of an accepted one
abbrev pub IsExplained : Explained → Type 0
IsExplained explained = IsExplanation explained.verdict explained.explanation

-- what its explanation says is so, if it has one
abbrev pub IsSo : Explained → Type 0
IsSo explained = IfSome explained.explanation (λ e. IsSaid explained.listing e.slot e.reason)

-- where its number comes from by which a pointer came out of its memory is so, if it has one
abbrev pub IsTraced : Explained → Type 0
IsTraced explained =
    IfSome explained.explanation (λ e. IfSome e.lost (IsLostAt explained.listing e.slot))

-- the jumps that are named in its listing are all of them
abbrev pub HasJumps : Explained → Type 0
HasJumps explained = AreJumps explained.listing explained.jumps

-- the line of the verdict on an explained program
abbrev pub first_line : Explained → List ℕ
first_line explained = verdict_line explained.listing.context.callback explained.verdict

-- the programs of a policy are those that have verdicts
abbrev pub ArePrograms : ExplainedPolicy → Type 0
ArePrograms policy = map first_line policy.programs.items ≡ first_lines policy.verdicts
