-- A form that keeps all that programs can read leaves out nothing that matters; waits only where no task waits too long.
use Rattle.std.proofs.Common.{◌≡◌, ℕ, ◌≤◌, inl, inr, Bool, true, false, List, length, refl, sym, subst}
use Rattle.scx_isa_semantics.specs.Effects.{Query}
use Rattle.scx_maps.specs.declared.shape.Shape.{Shape}
use Rattle.scx_sched_machine.specs.declared.events.Event.{Event}
use Rattle.scx_sched_policy.specs.Policy.{PolicyState}
use Rattle.scx_sched.specs.Sim.{SimState}
use Rattle.scx_explore_findings.specs.declared.finding.Sort.{Sort}
use Rattle.scx_explore_findings.specs.Asked.{AskAnyhow, AskOnly}
use Rattle.scx_explore_findings.specs.Hidden.{Hidden}
use Rattle.scx_explore_findings.specs.IdleSlices.{TellNoSlices, TellNoIdleSlices}
use Rattle.scx_explore_findings.specs.Unread.{ReadsNone}
use Rattle.scx_explore_findings.specs.WholeForms.{IsWholeBy, HasFew, IsLed}
use Rattle.scx_explore_findings.proofs.OwnCalls.{left_out_if}
use Rattle.scx_explore_findings.proofs.Steps.{TellNothing}
use Rattle.scx_explore_states.specs.Words.{most_queues}
use Rattle.scx_explore_states.specs.Written.{IsWritten}
use Rattle.scx_explore_states.specs.declared.form.Form.{Form}
use Rattle.scx_explore_audit.specs.declared.table.Moves.{Moves}
use Rattle.scx_explore_audit.specs.declared.table.Moves.TheVariants.{Events, Milliseconds}
use Rattle.scx_explore_audit.specs.Claims.{IsMove}
use Rattle.scx_explore_audit.specs.Closed.{IsReached, IsNear, IsMatched}
use Rattle.scx_explore_audit.specs.Whole.{HasRoom, MayLeaveWaits, WholeFormsAreRespected, FormsWholeInRunsAreRespected}
use Rattle.scx_explore_audit.proofs.Waitless.{matched_event}
use Rattle.scx_explore_audit.proofs.Wholly.{bits_apart, Along, Tells, along_any, along_runs, matched}

module _ (Ask : (Query → Type 0) → PolicyState → Type 0) (Tell : PolicyState → Type 0) (f : Form) (ids : List ℕ) (sorts : List Sort) (root : SimState) (room : ℕ) (shapes : List Shape) (whole : IsWholeBy Ask Tell root.state.policy f) (slices : f.slices ≡ true) (sizes : HasFew root) (led : IsLed shapes root root) (few : length ids ≤ most_queues) (xs : List ℕ) (s t : SimState) (es : List Event) (near : IsNear root room t) (known : (less : Bool) → (less ≡ true → Tell root.state.policy) → Along (Tells less whole.hidden root.state.policy) t es) (here : IsWritten f ids xs s) (there : IsWritten f ids xs t) where
  by_events : (moves : Moves) → moves ≡ Events → whole.hidden.waits ≡ true → MayLeaveWaits f moves sorts root room → HasRoom moves root room → IsReached moves root s → IsMove moves root es → IsMatched f ids moves sorts root s t es
  by_events Milliseconds is out may fits reached move = absurd (cc)
  by_events Events is out (inl kept) fits reached move = absurd (bits_apart f.waits (whole.left_out.waits out) kept)
  by_events Events is out (inr may) fits reached move =
      subst (λ (l : List Event). IsMatched f ids Events sorts root s t l) (sym move.2)
      (matched_event Ask Tell f ids sorts root room shapes whole out slices sizes led few fits may.2 may.1 xs s t move.0 reached near
      (λ less tells. subst (λ (l : List Event). Along (Tells less whole.hidden root.state.policy) t l) move.2 (known less tells)) here there move.1)

  -- whether or not waits are left out, a move is matched
  matched_either : (moves : Moves) → MayLeaveWaits f moves sorts root room → HasRoom moves root room → IsReached moves root s → IsMove moves root es → IsMatched f ids moves sorts root s t es
  matched_either moves may fits reached move = go whole.hidden.waits refl may
    where
      go : (b : Bool) → whole.hidden.waits ≡ b → MayLeaveWaits f moves sorts root room → IsMatched f ids moves sorts root s t es
      go false stay o = matched Ask Tell f ids moves sorts root room shapes whole stay slices sizes led few fits xs s t es reached near known here there move
      go true out (inl kept) = absurd (bits_apart f.waits (whole.left_out.waits out) kept)
      go true out (inr is) = by_events moves is.0 out (inr is) fits reached move

-- ---- laws

tell_nothing : (less : Bool) (h : Hidden) (p : PolicyState) → AskAnyhow (ReadsNone h) p → (less ≡ true → TellNoSlices p) → TellNothing (left_out_if less h) p
tell_nothing true h p unread told = record { unread = unread; told = inr (told refl) }
tell_nothing false h p unread told = record { unread = unread; told = inl (λ t. refl) }

pub whole_forms_are_respected : WholeFormsAreRespected
whole_forms_are_respected f ids moves sorts root room shapes whole slices waits sizes led few fits xs s t es reached near here there move =
    matched_either AskAnyhow TellNoSlices f ids sorts root room shapes whole slices sizes led few xs s t es near
    (λ less tells. along_any less whole.hidden root.state.policy (tell_nothing less whole.hidden root.state.policy whole.unread tells) t es) here there moves waits fits reached move

pub forms_whole_in_runs_are_respected : FormsWholeInRunsAreRespected
forms_whole_in_runs_are_respected f ids moves sorts root room shapes whole slices waits sizes led few fits xs s t es reached near run here there move =
    matched_either AskOnly TellNoIdleSlices f ids sorts root room shapes whole slices sizes led few xs s t es near
    (λ less tells. along_runs less whole.hidden root.state.policy whole.unread tells t es (run es move)) here there moves waits fits reached move
