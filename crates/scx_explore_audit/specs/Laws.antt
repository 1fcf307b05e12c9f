-- Laws: no list shows what no state of a closed table shows.
use Rattle.std.specs.Prelude.{◌≡◌, ℕ, ◌≤◌, true, List, length, All, Option, None, IfSome}
use Rattle.scx_sched_machine.specs.declared.events.Event.{Event}
use Rattle.scx_sched.specs.Sim.{SimState}
use Rattle.scx_explore_findings.specs.declared.finding.Sort.{Sort}
use Rattle.scx_explore_states.specs.declared.form.Form.{Form}
use Rattle.scx_explore_audit.specs.declared.table.Moves.{Moves}
use Rattle.scx_explore_audit.specs.declared.table.Moves.TheVariants.{Events}
use Rattle.scx_explore_audit.specs.Claims.{IsMove, IsTried, ShowsNone, ShowsNoneAtFirst, accepted_of, list_of}
use Rattle.scx_explore_audit.specs.Closed.{Claim, IsClosed, FollowsRuns, RespectsRuns}

-- no list of such moves, of any number or of at most `limit`, shows anything of these sorts,
-- whichever of its events are refused
abbrev pub NoneIn : Moves → Option ℕ → List Sort → SimState → Type 0
NoneIn moves limit sorts root =
    (list : List (List Event))
    → All (IsMove moves root) list
    → IfSome limit (λ most. length list ≤ most)
    → ShowsNone sorts root (list_of list)

-- so it is where a table of states is closed, and what its words leave out changes nothing
abbrev pub ClosedTablesCover : Type 0
ClosedTablesCover =
    (c : Claim) (root : SimState) (room : ℕ)
    → FollowsRuns c.form c.ids c.moves c.sorts root room
    → IsClosed c root room
    → NoneIn c.moves c.limit c.sorts root

-- moves that are matched are followed, where states keep slices
abbrev pub MatchedMovesAreFollowed : Type 0
MatchedMovesAreFollowed =
    (f : Form) (ids : List ℕ) (moves : Moves) (sorts : List Sort) (root : SimState) (room : ℕ)
    → f.slices ≡ true
    → RespectsRuns f ids moves sorts root room
    → FollowsRuns f ids moves sorts root room

-- A list shows nothing if the list of its events that are accepted doesn't, and the other way
-- round. And then it shows nothing as far as its events are accepted.
pub record ShowsAsAccepted (sorts : List Sort) (s : SimState) (es : List Event) : Type 0 where
  pub there : ShowsNone sorts s (accepted_of s es) → ShowsNone sorts s es
  pub back : ShowsNone sorts s es → ShowsNone sorts s (accepted_of s es)
  pub first : ShowsNone sorts s es → ShowsNoneAtFirst sorts s es

-- so it is of every list, in a state in which the policy is in force
abbrev pub RefusedEventsShowNothing : Type 0
RefusedEventsShowNothing =
    (sorts : List Sort) (s : SimState) (es : List Event)
    → s.state.world.ejected ≡ None
    → ShowsAsAccepted sorts s es

-- where lists are made of events, that is said of each list of wakes, sleeps, ticks and the clock
abbrev pub ListsAreOfEvents : Type 0
ListsAreOfEvents =
    (limit : Option ℕ) (sorts : List Sort) (root : SimState)
    → NoneIn Events limit sorts root
    → (events : List Event)
    → All (IsTried root) events
    → IfSome limit (λ most. length events ≤ most)
    → ShowsNone sorts root events
