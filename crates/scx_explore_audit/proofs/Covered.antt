-- That a table that is closed has covered every list, where a move of a list may go without one that is tried.
use Rattle.std.proofs.Common.{◌≡◌, Bool, true, false, ℕ, suc, ◌+◌, ◌≤◌, List, [], ◌∷◌, ◌++◌, length, map, All, Option, None, Some, refl, sym, ap, ◌∙◌, subst, arith, ◌<◌, ◌⊎◌, inl, inr}
use Rattle.std.specs.Prelude.{IfSome}
use Rattle.std.proofs.lemmas.List.Elements.{All-nil, All-push, All-head, All-tail, All-map, All-weaker}
use Rattle.std.proofs.lemmas.List.{append-nil, append_assoc, length-map}
use Rattle.scx_sched_machine.specs.declared.events.Event.{Event}
use Rattle.scx_sched.specs.Sim.{SimState, after_event}
use Rattle.scx_load_driver.specs.Runs.{stepped_all, AreAccepted}
use Rattle.scx_explore_findings.specs.declared.finding.Sort.{Sort}
use Rattle.scx_explore_machines.specs.Seen.{state_at}
use Rattle.scx_explore_states.specs.declared.form.Form.{Form}
use Rattle.scx_explore_states.specs.Written.{IsWritten}
use Rattle.scx_explore_audit.specs.declared.table.Moves.{Moves}
use Rattle.scx_explore_audit.specs.declared.table.Moves.TheVariants.{Events}
use Rattle.scx_explore_audit.specs.Claims.{IsTried, IsMove, ShowsNone, ShowsNoneAtFirst, list_of}
use Rattle.scx_explore_audit.specs.Closed.{Claim, IsReached, IsSurvived, IsWithin, CallsRunAlong, IsMatched, RespectsRuns, IsAudited, IsFollowed, FollowsRuns, IsMet, LeadsBack, IsDone, IsClosed, depth_at}
use Rattle.scx_explore_audit.specs.Tried.{IsTriedIn}
use Rattle.scx_explore_audit.specs.Laws.{ClosedTablesCover, ListsAreOfEvents}
use Rattle.scx_explore_audit.proofs.Skipping.{NoneAtFirst, none_past}

-- ---- events behind others

-- one event behind others
pub stepped_push : (s : SimState) (es : List Event) (e : Event) → stepped_all s (es ++ e ∷ []) ≡ after_event (stepped_all s es) e
stepped_push s [] e = refl
stepped_push s (x ∷ es) e = stepped_push (after_event s x) es e

-- events behind others
pub stepped_append : (s : SimState) (es rest : List Event) → stepped_all s (es ++ rest) ≡ stepped_all (stepped_all s es) rest
stepped_append s [] rest = refl
stepped_append s (e ∷ es) rest = stepped_append (after_event s e) es rest

-- all of which are accepted
pub accepted_append : (s : SimState) (es rest : List Event) → AreAccepted s es → AreAccepted (stepped_all s es) rest → AreAccepted s (es ++ rest)
accepted_append s [] rest first second = second
accepted_append s (e ∷ es) rest first second = (first.0, accepted_append (after_event s e) es rest first.1 second)

-- events behind which the policy stays in force are accepted
survived_accepted : (s : SimState) (es : List Event) → IsSurvived s es → AreAccepted s es
survived_accepted s [] survived = tt
survived_accepted s (e ∷ es) survived = (survived.0, survived_accepted (after_event s e) es survived.2)

-- and it is in force behind all of them
survived_force : (s : SimState) (es : List Event) → s.state.world.ejected ≡ None → IsSurvived s es → (stepped_all s es).state.world.ejected ≡ None
survived_force s [] force survived = force
survived_force s (e ∷ es) force survived = survived_force (after_event s e) es survived.1 survived.2

-- ---- moves

-- one move behind others
list_push : (list : List (List Event)) (es : List Event) → list_of (list ++ es ∷ []) ≡ list_of list ++ es
list_push [] es = append-nil es
list_push (xs ∷ list) es = ap (λ (ys : List Event). xs ++ ys) (list_push list es) ∙ sym (append_assoc xs (list_of list) es)

-- the state before any move
pub reached_first : (moves : Moves) (root : SimState) → root.state.world.ejected ≡ None → IsReached moves root root
reached_first moves root force = record {
  list = [];
  made = All-nil (IsMove moves root);
  accepted = tt;
  state = refl;
  force = force;
}

-- one move further
further : (moves : Moves) (root s : SimState) (es : List Event) → IsReached moves root s → IsMove moves root es → IsSurvived s es → IsReached moves root (stepped_all s es)
further moves root s es h move survived =
    let is : list_of (h.list ++ es ∷ []) ≡ list_of h.list ++ es = list_push h.list es in
    record {
      list = h.list ++ es ∷ [];
      made = All-push (IsMove moves root) h.list es h.made move;
      accepted =
          subst (λ (xs : List Event). AreAccepted root xs) (sym is)
          (accepted_append root (list_of h.list) es h.accepted
          (subst (λ (t : SimState). AreAccepted t es) h.state (survived_accepted s es survived)));
      state =
          ap (λ (t : SimState). stepped_all t es) h.state ∙ sym (stepped_append root (list_of h.list) es)
          ∙ ap (λ (xs : List Event). stepped_all root xs) (sym is);
      force = survived_force s es h.force survived;
    }

-- ---- what is shown

-- what leads back shows nothing
leads_shows : (c : Claim) (n : ℕ) (s : SimState) (es : List Event) → LeadsBack c n s es → ShowsNoneAtFirst c.sorts s es
leads_shows c n s [] leads = tt
leads_shows c n s (e ∷ es) leads = λ fine. (
  (leads fine).0,
  λ force. leads_shows c n (after_event s e) es ((leads fine).1 force),
)

-- and its callbacks run as they were verified
leads_run : (c : Claim) (n : ℕ) (s : SimState) (es : List Event) → LeadsBack c n s es → CallsRunAlong s es
leads_run c n s [] leads = tt
leads_run c n s (e ∷ es) leads = λ fine. ((leads fine).2, λ force. leads_run c n (after_event s e) es ((leads fine).1 force))

-- and where it is survived, the state behind it is kept
leads_met : (c : Claim) (n : ℕ) (s : SimState) (es : List Event) → LeadsBack c n s es → IsSurvived s es → IsWithin c.limit n → IsMet c n (stepped_all s es)
leads_met c n s [] leads survived within = leads within
leads_met c n s (e ∷ es) leads survived within =
    leads_met c n (after_event s e) es ((leads survived.0).1 survived.1) survived.2 within

-- a list shows nothing if its beginning doesn't, and nor does what is behind it
shows_append : (sorts : List Sort) (s : SimState) (es rest : List Event) → ShowsNoneAtFirst sorts s es → (IsSurvived s es → ShowsNoneAtFirst sorts (stepped_all s es) rest) → ShowsNoneAtFirst sorts s (es ++ rest)
shows_append sorts s [] rest first second = second tt
shows_append sorts s (e ∷ es) rest first second = λ fine. (
  (first fine).0,
  λ force.
      shows_append sorts (after_event s e) es rest ((first fine).1 force) (λ survived. second (fine, force, survived)),
)

-- ---- how many moves there are

-- where one more comes
within_more : (limit : Option ℕ) (n m : ℕ) → IfSome limit (λ most. n + suc m ≤ most) → IsWithin limit n
within_more None n m few = tt
within_more (Some most) n m few = omega (arith, few)

-- before the first one
none_came : (limit : Option ℕ) (m : ℕ) → IfSome limit (λ most. m ≤ most) → IfSome limit (λ most. 0 + m ≤ most)
none_came None m few = tt
none_came (Some most) m few = omega (arith, few)

-- of which one has come
one_came : (limit : Option ℕ) (n m : ℕ) → IfSome limit (λ most. n + suc m ≤ most) → IfSome limit (λ most. n + 1 + m ≤ most)
one_came None n m few = tt
one_came (Some most) n m few = omega (arith, few)

-- fewer are within it
within_fewer : (limit : Option ℕ) (d n : ℕ) → IfSome limit (λ most. d ≤ n) → IsWithin limit n → IsWithin limit d
within_fewer None d n few within = tt
within_fewer (Some most) d n few within = omega (arith, few, within)

-- one more on both sides
one_more : (limit : Option ℕ) (d n : ℕ) → IfSome limit (λ most. d ≤ n) → IfSome limit (λ most. d + 1 ≤ n + 1)
one_more None d n few = tt
one_more (Some most) d n few = omega (arith, few)

no_more : (limit : Option ℕ) (k d n : ℕ) → IfSome limit (λ most. k ≤ d) → IfSome limit (λ most. d ≤ n) → IfSome limit (λ most. k ≤ n)
no_more None k d n less few = tt
no_more (Some most) k d n less few = omega (arith, less, few)

-- ---- what is followed

-- where slices are kept the moves of lists are tried
tried_as : (b : Bool) (moves : Moves) (root s : SimState) (es : List Event) → b ≡ true → IsMove moves root es → IsTriedIn b moves root s es
tried_as true moves root s es kept is = is
tried_as false moves root s es kept is = let bad : false ≡ true = kept in absurd (cc)

-- so what is respected is followed
pub respected_followed : (f : Form) (ids : List ℕ) (moves : Moves) (sorts : List Sort) (root : SimState) (room : ℕ) → f.slices ≡ true → RespectsRuns f ids moves sorts root room → FollowsRuns f ids moves sorts root room
respected_followed f ids moves sorts root room kept respects xs s t es reached near seen here there move =
    let m : IsMatched f ids moves sorts root s t es = respects xs s t es reached near (λ fs is. seen.run fs (tried_as f.slices moves root t fs kept is)) here there move in
    record {
      other = m.other;
      move = inr (tried_as f.slices moves root t m.other kept m.move);
      free = m.free;
      there = m.there;
      written = m.written;
    }

-- ---- the law

-- what stands for one state stands for the other, where no fewer moves came before
met_as : (c : Claim) (d n : ℕ) (s t : SimState) → IfSome c.limit (λ most. d ≤ n) → ((xs : List ℕ) → IsWritten c.form c.ids xs t → IsWritten c.form c.ids xs s) → (IsWithin c.limit d → IsMet c d t) → IsWithin c.limit n → IsMet c n s
met_as c d n s t few written there within =
    let m : IsMet c d t = there (within_fewer c.limit d n few within) in
    record {
      number = m.number;
      there = m.there;
      depth = no_more c.limit (depth_at c m.number) d n m.depth few;
      written = written (state_at c.kept m.number) m.written;
    }

-- where no fewer moves came before
no_less : (limit : Option ℕ) (d n : ℕ) → IfSome limit (λ most. d ≤ n) → IfSome limit (λ most. d ≤ n + 1)
no_less None d n few = tt
no_less (Some most) d n few = omega (arith, few)

module _ (c : Claim) (root : SimState) (room : ℕ) where
  -- what the audit has seen of a state, from which moves that are tried lead back
  module _ (k n : ℕ) (there : k < c.kept.count) (few : IfSome c.limit (λ most. depth_at c k ≤ n)) (done : IsDone c root room k) where
    abbrev Tried : List Event → Type 0
    Tried fs = IsTriedIn c.form.slices c.moves root done.state fs

    seen : IsAudited c.form c.moves c.sorts root room done.state done.near
    seen = record {
      shown = λ fs is. leads_shows c (depth_at c k + 1) done.state fs (done.moves fs is);
      run = λ fs is. leads_run c (depth_at c k + 1) done.state fs (done.moves fs is);
      fits = done.fits;
      early = done.early;
    }

    -- such a move shows nothing, and nor does none
    none_shown : (fs : List Event) → (fs ≡ []) ⊎ Tried fs → ShowsNoneAtFirst c.sorts done.state fs
    none_shown fs (inl none) = subst (λ (es : List Event). ShowsNoneAtFirst c.sorts done.state es) (sym none) tt
    none_shown fs (inr is) = seen.shown fs is

    -- and the state after it is met
    then_met : (fs : List Event) → (fs ≡ []) ⊎ Tried fs → IsSurvived done.state fs → IsWithin c.limit (n + 1) → IsMet c (n + 1) (stepped_all done.state fs)
    then_met fs (inl none) survived within = record {
      number = k;
      there = there;
      depth = no_less c.limit (depth_at c k) n few;
      written = subst (λ (es : List Event). IsWritten c.form c.ids (state_at c.kept k) (stepped_all done.state es)) (sym none) done.written;
    }
    then_met fs (inr is) survived within =
        let d = depth_at c k in
        met_as c (d + 1) (n + 1) (stepped_all done.state fs) (stepped_all done.state fs) (one_more c.limit d n few) (λ xs written. written) (leads_met c (d + 1) done.state fs (done.moves fs is) survived) within

  -- as what follows it is, so is the state that it follows
  met_too : (n : ℕ) (s t : SimState) → ((xs : List ℕ) → IsWritten c.form c.ids xs t → IsWritten c.form c.ids xs s) → IsMet c n t → IsMet c n s
  met_too n s t written m = record { number = m.number; there = m.there; depth = m.depth; written = written (state_at c.kept m.number) m.written }

  module _ (follows : FollowsRuns c.form c.ids c.moves c.sorts root room) (closed : IsClosed c root room) where
    covers : (list : List (List Event)) (n : ℕ) (s : SimState) → IsReached c.moves root s → (IsWithin c.limit n → IsMet c n s) → All (IsMove c.moves root) list → IfSome c.limit (λ most. n + length list ≤ most) → ShowsNoneAtFirst c.sorts s (list_of list)
    covers [] n s reached met moves few = tt
    covers (es ∷ list) n s reached met moves few =
        let within : IsWithin c.limit n = within_more c.limit n (length list) few in
        let m : IsMet c n s = met within in
        let k : ℕ = m.number in
        let done : IsDone c root room k = closed.each k m.there (within_fewer c.limit (depth_at c k) n m.depth within) in
        let move : IsMove c.moves root es = All-head (IsMove c.moves root) es list moves in
        let x : IsFollowed c.form c.ids c.moves c.sorts root s done.state es =
        follows (state_at c.kept k) s done.state es reached done.near (seen k n m.there m.depth done) m.written done.written move in
        shows_append c.sorts s es (list_of list) (x.free (none_shown k n m.there m.depth done x.other x.move))
        (λ survived.
        covers list (n + 1) (stepped_all s es)
        (further c.moves root s es reached move survived)
        (λ more. met_too (n + 1) (stepped_all s es) (stepped_all done.state x.other) (λ xs. x.written xs survived) (then_met k n m.there m.depth done x.other x.move (x.there survived) more))
        (All-tail (IsMove c.moves root) es list moves)
        (one_came c.limit n (length list) few))

    -- from the first state on, as far as events are accepted
    covered : NoneAtFirst c.moves c.limit c.sorts root
    covered list moves few = covers list 0 root (reached_first c.moves root closed.force) closed.first moves (none_came c.limit (length list) few)

-- and past those that are refused
pub closed_tables_cover : ClosedTablesCover
closed_tables_cover c root room follows closed = none_past c.moves c.limit c.sorts root (covered c root room follows closed)

-- ---- lists of events

-- each event is a move
each_move : (root : SimState) (events : List Event) → All (IsTried root) events → All (IsMove Events root) (map (λ e. e ∷ []) events)
each_move root events tried =
    All-map (IsMove Events root) (λ e. e ∷ []) events
    (All-weaker (IsTried root) (λ e. IsMove Events root (e ∷ [])) (λ e here. (e, here, refl)) events tried)

-- one after another they are the list
list_events : (events : List Event) → list_of (map (λ e. e ∷ []) events) ≡ events
list_events [] = refl
list_events (e ∷ events) = ap (λ (es : List Event). e ∷ es) (list_events events)

-- of which there are as many
as_many : (limit : Option ℕ) (n m : ℕ) → n ≡ m → IfSome limit (λ most. m ≤ most) → IfSome limit (λ most. n ≤ most)
as_many limit n m same few = subst (λ (k : ℕ). IfSome limit (λ most. k ≤ most)) (sym same) few

pub lists_are_of_events : ListsAreOfEvents
lists_are_of_events limit sorts root none events tried few =
    let moves : List (List Event) = map (λ e. e ∷ []) events in
    subst (λ (es : List Event). ShowsNone sorts root es) (list_events events)
    (none moves (each_move root events tried)
    (as_many limit (length moves) (length events) (length-map events (λ e. e ∷ [])) few))
