-- States that are the same but for parts that nothing reads are matched move by move.
use Rattle.std.proofs.Common.{◌+◌, ◌≤◌, false, List, [], ◌∷◌, length, None, sym, ap, ◌∙◌}
use Rattle.std.proofs.lemmas.List.Elements.{All-weaker}
use Rattle.scx_sched_machine.specs.declared.events.Event.{Event}
use Rattle.scx_sched.specs.Sim.{SimState, max_events, refusal, after_event}
use Rattle.scx_explore_findings.specs.Findings.{fault_in, stall_in, exit_in}
use Rattle.scx_explore_findings.specs.declared.finding.Sort.{Sort}
use Rattle.scx_explore_findings.specs.declared.finding.Sort.TheVariants as sort
use Rattle.scx_explore_findings.specs.UnreadParts.{AreSame}
use Rattle.scx_explore_findings.proofs.SameMachines.{events_read_no_such_part, lists_read_no_such_part, counted, room_for_one, room_for_rest, one_longer, states_back}
use Rattle.scx_explore_findings.proofs.SameShown.{such_parts_show_nothing}
use Rattle.scx_explore_audit.specs.Claims.{IsFree, ShowsNoneAtFirst}
use Rattle.scx_explore_audit.specs.Closed.{IsSurvived}
use Rattle.scx_explore_audit.specs.Rows.{UnreadPartsAreRespected}

-- what the second state doesn't show after an event, the first one doesn't
free_there : (s t : SimState) → AreSame s t → (e : Event) (x : Sort) → IsFree x t e → IsFree x s e
free_there s t same e (sort.Fault f) k = λ is. k (ap fault_in (sym (such_parts_show_nothing s t same).ejected) ∙ is)
free_there s t same e sort.Stall k = ap stall_in (such_parts_show_nothing s t same).ejected ∙ k
free_there s t same e sort.Idle k = λ force. (such_parts_show_nothing t s (states_back false s.state t.state same)).idle e None (k (sym (such_parts_show_nothing s t same).ejected ∙ force))
free_there s t same e sort.Overtaken k = k
free_there s t same e sort.Exit k = ap exit_in (such_parts_show_nothing s t same).ejected ∙ k

module _ (sorts : List Sort) where
  shows_alike : (s t : SimState) (es : List Event) → AreSame s t → s.events + length es ≤ max_events → t.events + length es ≤ max_events → ShowsNoneAtFirst sorts t es → ShowsNoneAtFirst sorts s es
  shows_alike s t [] same here there none = tt
  shows_alike s t (e ∷ es) same here there none =
      let k = length es in
      let l = one_longer e es s.events max_events here in
      let m = one_longer e es t.events max_events there in
      let one = events_read_no_such_part s t e same (room_for_one s.events k max_events l) (room_for_one t.events k max_events m) in
      let after = one.after in
      let shown = such_parts_show_nothing (after_event s e) (after_event t e) after in
      λ fine.
      let next = none (sym one.refusal ∙ fine) in (
        All-weaker (λ x. IsFree x (after_event t e) e) (λ x. IsFree x (after_event s e) e) (λ x. free_there (after_event s e) (after_event t e) after e x) sorts next.0,
        λ force. shows_alike (after_event s e) (after_event t e) es after (room_for_rest s.events (after_event s e).events k max_events (counted (refusal s e) s e) l) (room_for_rest t.events (after_event t e).events k max_events (counted (refusal t e) t e) m)
            (next.1 (sym shown.ejected ∙ force)),
      )

  survives : (s t : SimState) (es : List Event) → AreSame s t → s.events + length es ≤ max_events → t.events + length es ≤ max_events → IsSurvived s es → IsSurvived t es
  survives s t [] same here there all = tt
  survives s t (e ∷ es) same here there all =
      let k = length es in
      let l = one_longer e es s.events max_events here in
      let m = one_longer e es t.events max_events there in
      let one = events_read_no_such_part s t e same (room_for_one s.events k max_events l) (room_for_one t.events k max_events m) in
      let after = one.after in
      let shown = such_parts_show_nothing (after_event s e) (after_event t e) after in (
        sym one.refusal ∙ all.0,
        sym shown.ejected ∙ all.1,
        survives (after_event s e) (after_event t e) es after (room_for_rest s.events (after_event s e).events k max_events (counted (refusal s e) s e) l) (room_for_rest t.events (after_event t e).events k max_events (counted (refusal t e) t e) m) all.2,
      )

-- so each move of the first one is matched
pub unread_parts_are_respected : UnreadPartsAreRespected
unread_parts_are_respected f ids moves sorts root s t es none same here there is =
    let more = lists_read_no_such_part s t es same here there in
    record {
      other = es;
      move = is;
      free = shows_alike sorts s t es same here there;
      there = survives sorts s t es same here there;
      written = λ xs survived written. (such_parts_show_nothing _ _ (states_back false _ _ more.after)).written f ids xs none written;
    }
