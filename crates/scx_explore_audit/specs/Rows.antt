-- The first rows of what states leave out: the order numbers of pushes, the last callback, kicks
-- under plain rules, usages where no group has a quota, and the number of events.
use Rattle.std.specs.Prelude.{◌≡◌, ℕ, ◌+◌, ◌≤◌, false, List, length}
use Rattle.scx_sched_machine.specs.declared.events.Event.{Event}
use Rattle.scx_sched.specs.Sim.{SimState, max_events}
use Rattle.scx_explore_findings.specs.declared.finding.Sort.{Sort}
use Rattle.scx_explore_findings.specs.UnreadParts.{AreSame}
use Rattle.scx_explore_states.specs.declared.form.Form.{Form}
use Rattle.scx_explore_audit.specs.declared.table.Moves.{Moves}
use Rattle.scx_explore_audit.specs.Claims.{IsMove}
use Rattle.scx_explore_audit.specs.Closed.{IsMatched}

-- of two states that are the same but for such parts, with room for the events of a move, each move
-- of the first is matched by the same move of the second
abbrev pub UnreadPartsAreRespected : Type 0
UnreadPartsAreRespected =
    (f : Form) (ids : List ℕ) (moves : Moves) (sorts : List Sort) (root s t : SimState)
    (es : List Event)
    → f.pushes ≡ false
    → AreSame s t
    → s.events + length es ≤ max_events
    → t.events + length es ≤ max_events
    → IsMove moves root es
    → IsMatched f ids moves sorts root s t es
