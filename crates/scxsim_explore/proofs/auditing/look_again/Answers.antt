use Rattle.std.proofs.Common.{◌∙◌, ap, inl, inr, sym}
use Rattle.scx_explore.specs.Ends.{done_of}
use Rattle.scxsim_explore_lines.specs.Summary.{Nones, nones_of}
use Rattle.scxsim_explore.proofs.Ended.{concluded_again, concluded_any, concluded_apart, concluded_bounds, concluded_looked, concluded_some, not_looked, unlooked_apart, unlooked_some}
use Rattle.scxsim_explore.proofs.auditing.look_again.Goals as goal

pub returns-in_default-clause-bounds : goal.returns-in_default-clause-bounds
returns-in_default-clause-bounds c = ap (λ (x : Nones). x.bounds) c.unlooked.ensures

pub returns-in_default-clause-apart : goal.returns-in_default-clause-apart
returns-in_default-clause-apart c = λ starts found h. unlooked_apart starts c.args.begun.now.machines found (nones_of c.args.unfound) (nones_of c.unlooked.result) c.args.unfound.reach c.unlooked.ensures h

pub returns-in_default-clause-again : goal.returns-in_default-clause-again
returns-in_default-clause-again c =
    not_looked c.args.form c.args.about.now c.args.begun.now.machines (nones_of c.args.unfound) (nones_of c.unlooked.result) c.args.unfound.reach c.unlooked.ensures

pub returns-in_default-clause-any : goal.returns-in_default-clause-any
returns-in_default-clause-any c = λ none. sym (ap (λ (x : Nones). x.reach) c.unlooked.ensures) ∙ none

pub returns-in_default-clause-looked : goal.returns-in_default-clause-looked
returns-in_default-clause-looked c = λ none. inr (c.moves_within.ensures.cant c.in_default.is)

pub returns-in_default-clause-some : goal.returns-in_default-clause-some
returns-in_default-clause-some c =
    unlooked_some (done_of c.args.course.now.last) (nones_of c.args.unfound) (nones_of c.unlooked.result) c.unlooked.ensures

pub returns-clause-bounds : goal.returns-clause-bounds
returns-clause-bounds c = concluded_bounds c.is_closed-closed.result _ c.in-Some.moves (nones_of c.args.unfound) (nones_of c.concluded.result.unfound) c.concluded.ensures.nones

pub returns-clause-apart : goal.returns-clause-apart
returns-clause-apart c = λ starts found h. concluded_apart c.is_closed-closed.result _ c.in-Some.moves starts c.args.begun.now.machines found (nones_of c.args.unfound) (nones_of c.concluded.result.unfound) c.concluded.ensures.nones h

pub returns-clause-again : goal.returns-clause-again
returns-clause-again c =
    concluded_again c.is_closed-closed.result _ c.in-Some.moves c.args.form c.args.about.now c.args.begun.now.machines (nones_of c.args.unfound) (nones_of c.concluded.result.unfound)
    c.concluded.ensures.nones c.in-Some.ensures.may c.is_closed-closed.ensures

pub returns-clause-any : goal.returns-clause-any
returns-clause-any c = concluded_any c.is_closed-closed.result _ c.in-Some.moves (nones_of c.args.unfound) (nones_of c.concluded.result.unfound) c.concluded.ensures.nones

pub returns-clause-looked : goal.returns-clause-looked
returns-clause-looked c = λ none. inl (concluded_looked c.is_closed-closed.result _ c.in-Some.moves (nones_of c.args.unfound) (nones_of c.concluded.result.unfound) c.concluded.ensures.nones none)

pub returns-clause-some : goal.returns-clause-some
returns-clause-some c =
    rw c.done.ensures at (concluded_some c.is_closed-closed.result _ c.in-Some.moves (nones_of c.args.unfound) (nones_of c.concluded.result.unfound) c.concluded.ensures.nones)
