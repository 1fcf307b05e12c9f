-- Closed tables of states, and the premise about their words.
use Rattle.std.specs.Prelude.{◌≡◌, ℕ, ◌+◌, ◌<◌, ◌≤◌, ⊤, true, false, List, [], ◌∷◌, length, slice_index, All, Option, None, Some, IfSome, ◌⊎◌}
use Rattle.scx_dsq.specs.Queues.{exists}
use Rattle.scx_sched_machine.specs.declared.events.Event.{Event}
use Rattle.scx_sched.specs.Sim.{SimState, refusal, after_event, calls_of}
use Rattle.scx_load_driver.specs.Runs.{stepped_all, AreAccepted}
use Rattle.scx_explore_findings.specs.Asked.{RunAsVerified}
use Rattle.scx_explore_findings.specs.declared.finding.Sort.{Sort}
use Rattle.scx_explore_states.specs.declared.form.Form.{Form}
use Rattle.scx_explore_machines.specs.Seen.{Kept, state_at}
use Rattle.scx_explore_states.specs.Ticks.{times}
use Rattle.scx_explore_states.specs.Words.{most_queues}
use Rattle.scx_explore_states.specs.Written.{IsWritten}
use Rattle.scx_explore_audit.specs.declared.table.Moves.{Moves}
use Rattle.scx_explore_audit.specs.declared.table.Moves.TheVariants.{Events}
use Rattle.scx_explore_audit.specs.declared.table.Charted.{Charted}
use Rattle.scx_explore_audit.specs.Claims.{IsTried, IsMove, AreFree, ShowsNoneAtFirst, list_of}
use Rattle.scx_explore_audit.specs.Tried.{IsTriedIn}

-- queues of the machine in that state, in any order
abbrev pub AreQueuesOf : SimState → List ℕ → Type 0
AreQueuesOf s ids = All (λ id. exists s.state.world.queues id ≡ true) ids

-- what is audited: how states are written, with which numbers of queues, the states that are kept,
-- the sorts of which none is to be shown, of which moves lists are made, how many a list has at
-- most where that is bounded, and how many lead to each state
pub record Claim : Type 0 where
  pub form : Form
  pub ids : List ℕ
  pub kept : Kept
  pub sorts : List Sort
  pub moves : Moves
  pub limit : Option ℕ
  pub depths : List ℕ

-- what is audited of a table whose depths are known
abbrev pub claim_of : Charted → Claim
claim_of c = record {
  form = c.table.form;
  ids = c.table.numbers.now;
  kept = c.table.seen.now;
  sorts = c.table.sorts.now;
  moves = c.table.moves;
  limit = c.table.limit;
  depths = c.depths.now;
}

-- how many moves lead to the state of that number
abbrev pub depth_at : Claim → ℕ → ℕ
depth_at c k = slice_index c.depths k

-- a list of n moves may have one more
abbrev pub IsWithin : Option ℕ → ℕ → Type 0
IsWithin None n = ⊤
IsWithin (Some limit) n = n < limit

-- the numbers are of queues of the machine in that state, and they are few enough to be told apart
-- in the words of a state
pub record AreNumbersOf (s : SimState) (ids : List ℕ) : Type 0 where
  pub queues : AreQueuesOf s ids
  pub few : length ids ≤ most_queues

-- ---- states

-- the state is that after a list of such moves, and the policy is in force
pub record IsReached (moves : Moves) (root s : SimState) : Type 0 where
  pub list : List (List Event)
  pub made : All (IsMove moves root) list
  pub accepted : AreAccepted root (list_of list)
  pub state : s ≡ stepped_all root (list_of list)
  pub force : s.state.world.ejected ≡ None

-- the state is that after fewer events than that, whichever, and the policy is in force
pub record IsNear (root : SimState) (room : ℕ) (s : SimState) : Type 0 where
  pub events : List Event
  pub tried : All (IsTried root) events
  pub accepted : AreAccepted root events
  pub state : s ≡ stepped_all root events
  pub force : s.state.world.ejected ≡ None
  pub few : length events < room

-- each of the events is accepted, and the policy stays in force after each
abbrev pub IsSurvived : SimState → List Event → Type 0
IsSurvived s [] = ⊤
IsSurvived s (e ∷ es) =
    (refusal s e ≡ None) × ((after_event s e).state.world.ejected ≡ None)
    × IsSurvived (after_event s e) es

-- ---- what is presumed

-- One of those lists does in the second state as the events do in the first one, as far as
-- anything is said of it: they show nothing where it doesn't, and words of the state after it are
-- words of the one after them. The second list may go on where the first one ends: where a task
-- waited too long.
pub record IsMatchedBy
    (Is : List Event → Type 0) (f : Form) (ids : List ℕ) (sorts : List Sort) (s t : SimState)
    (es : List Event) : Type 0 where
  pub other : List Event
  pub move : Is other
  pub free : ShowsNoneAtFirst sorts t other → ShowsNoneAtFirst sorts s es
  pub there : IsSurvived s es → IsSurvived t other
  pub written :
      (xs : List ℕ)
      → IsSurvived s es
      → IsWritten f ids xs (stepped_all t other)
      → IsWritten f ids xs (stepped_all s es)

-- what the events do in the first state a move does in the second one
abbrev pub IsMatched :
    Form → List ℕ → Moves → List Sort → SimState → SimState → SimState → List Event → Type 0
IsMatched f ids moves sorts root s t es = IsMatchedBy (IsMove moves root) f ids sorts s t es

-- what a form leaves out of a state changes nothing that is looked for: of two states that are
-- written as the same words, the first one after a list of moves and the second one after few
-- events, each move of the first is matched
abbrev pub Respects : Form → List ℕ → Moves → List Sort → SimState → ℕ → Type 0
Respects f ids moves sorts root room =
    (xs : List ℕ) (s t : SimState) (es : List Event)
    → IsReached moves root s
    → IsNear root room t
    → IsWritten f ids xs s
    → IsWritten f ids xs t
    → IsMove moves root es
    → IsMatched f ids moves sorts root s t es

-- as far as the events are accepted and the policy stays in force, each callback that they call
-- runs to its end as it was verified
abbrev pub CallsRunAlong : SimState → List Event → Type 0
CallsRunAlong s [] = ⊤
CallsRunAlong s (e ∷ es) =
    refusal s e ≡ None
    → RunAsVerified (calls_of s e)
    × ((after_event s e).state.world.ejected ≡ None → CallsRunAlong (after_event s e) es)

-- the same where callbacks of the second state's moves run as they were verified
abbrev pub RespectsRuns : Form → List ℕ → Moves → List Sort → SimState → ℕ → Type 0
RespectsRuns f ids moves sorts root room =
    (xs : List ℕ) (s t : SimState) (es : List Event)
    → IsReached moves root s
    → IsNear root room t
    → ((fs : List Event) → IsMove moves root fs → CallsRunAlong t fs)
    → IsWritten f ids xs s
    → IsWritten f ids xs t
    → IsMove moves root es
    → IsMatched f ids moves sorts root s t es

-- ---- rows

-- there is room for each row that is tried in a state to which n events lead
abbrev pub HasRoomForRows : Form → Moves → SimState → ℕ → ℕ → SimState → Type 0
HasRoomForRows f moves root room n s =
    f.slices ≡ false → moves ≡ Events
    → (e : Event) → IsTried root e → n + times s e ≤ room

-- A state near the first one is audited: as far as the moves that are tried there are
-- accepted and the policy stays in force, they show nothing, and callbacks run as they were
-- verified. Where waits are left out no task can have waited too long.
pub record IsAudited
    (f : Form) (moves : Moves) (sorts : List Sort) (root : SimState) (room : ℕ) (s : SimState)
    (near : IsNear root room s) : Type 0
  where
    pub shown : (es : List Event)
        → IsTriedIn f.slices moves root s es → ShowsNoneAtFirst sorts s es
    pub run : (es : List Event) → IsTriedIn f.slices moves root s es → CallsRunAlong s es
    pub fits : HasRoomForRows f moves root room (length near.events) s
    pub early : f.waits ≡ false → s.state.world.clock < s.state.policy.timeout_ms

-- what the events do in the first state, a move that is tried in the second one does there, or no
-- event does
abbrev pub IsFollowed :
    Form → List ℕ → Moves → List Sort → SimState → SimState → SimState → List Event → Type 0
IsFollowed f ids moves sorts root s t es =
    IsMatchedBy (λ fs. (fs ≡ []) ⊎ IsTriedIn f.slices moves root t fs) f ids sorts s t es

-- of two states that are written as the same words, the first one after a list of moves and the
-- second one after few events, each move of the first is followed so, if what is tried in the
-- second one was audited
abbrev pub FollowsRuns : Form → List ℕ → Moves → List Sort → SimState → ℕ → Type 0
FollowsRuns f ids moves sorts root room =
    (xs : List ℕ) (s t : SimState) (es : List Event)
    → IsReached moves root s
    → (near : IsNear root room t)
    → IsAudited f moves sorts root room t near
    → IsWritten f ids xs s
    → IsWritten f ids xs t
    → IsMove moves root es
    → IsFollowed f ids moves sorts root s t es

-- ---- what is audited

-- words of the state are kept, and no more moves lead to them than that, where their
-- number is bounded
pub record IsMet (c : Claim) (n : ℕ) (s : SimState) : Type 0 where
  pub number : ℕ
  pub there : number < c.kept.count
  pub depth : IfSome c.limit (λ limit. depth_at c number ≤ n)
  pub written : IsWritten c.form c.ids (state_at c.kept number) s

-- as far as the events are accepted and the policy stays in force, they show nothing, and callbacks
-- run as they were verified; and where all are and it does, the state after them is kept, if a list
-- of n moves may have one more
abbrev pub LeadsBack : Claim → ℕ → SimState → List Event → Type 0
LeadsBack c n s [] = IsWithin c.limit n → IsMet c n s
LeadsBack c n s (e ∷ es) =
    refusal s e ≡ None
    → AreFree c.sorts (after_event s e) e
    × ((after_event s e).state.world.ejected ≡ None → LeadsBack c n (after_event s e) es)
    × RunAsVerified (calls_of s e)

-- a state that is written as the words of that number is near, and each move that is tried there
-- leads back from it
pub record IsDone (c : Claim) (root : SimState) (room k : ℕ) : Type 0 where
  pub state : SimState
  pub near : IsNear root room state
  pub written : IsWritten c.form c.ids (state_at c.kept k) state
  pub fits : HasRoomForRows c.form c.moves root room (length near.events) state
  pub early : c.form.waits ≡ false → state.state.world.clock < state.state.policy.timeout_ms
  pub moves :
      (es : List Event)
      → IsTriedIn c.form.slices c.moves root state es
      → LeadsBack c (depth_at c k + 1) state es

-- the same of that number, where a list that leads there may have one more move
abbrev pub IsSettled : Claim → SimState → ℕ → ℕ → Type 0
IsSettled c root room k = IsWithin c.limit (depth_at c k) → IsDone c root room k

-- the first state is kept, if lists have moves at all, and from no state that is kept a move that
-- is tried there leads out of the table
pub record IsClosed (c : Claim) (root : SimState) (room : ℕ) : Type 0 where
  pub force : root.state.world.ejected ≡ None
  pub first : IsWithin c.limit 0 → IsMet c 0 root
  pub each : (k : ℕ) → k < c.kept.count → IsSettled c root room k
