-- Laws of policies of one line: only a wait puts them out of force, and no task overtakes another.
use Rattle.std.proofs.Common.{◌≡◌, ℕ, Bool, true, false, ◌&&◌, not, sym, ap, ◌∙◌, List, [], ◌∷◌, Option, Some, None, refl, ◌==◌}
use Rattle.std.proofs.lemmas.Bool.{eq-eqb, and_parts}
use Rattle.scx_dsq.specs.declared.entries.Entry.{Entry}
use Rattle.scx_dsq.specs.declared.entries.Rank.TheVariants.{Fifo}
use Rattle.scx_dsq.specs.Calls.{clashes}
use Rattle.scx_dsq.specs.Queues.{QueueState, entry_of, is_ahead}
use Rattle.scx_dsq.specs.Entries.{is_before, same_sort}
use Rattle.scx_sched_world.specs.declared.eject.Eject.{Eject}
use Rattle.scx_sched_world.specs.declared.eject.Eject.TheVariants as cause
use Rattle.scx_sched_machine.specs.declared.events.Event.{Event}
use Rattle.scx_sched_machine.specs.declared.events.Event.TheVariants.{Wake, Sleep, Tick, Clock, SetWeight, SetTaskWeight}
use Rattle.scx_sched_machine.specs.Steps.{State}
use Rattle.scx_sched_policy.specs.Policy.{PolicyState}
use Rattle.scx_weights.specs.Hierarchy.{Hierarchy}
use Rattle.scx_sched.specs.Sim.{SimState, after_event}
use Rattle.scx_sched.proofs.Seen.{next_seen}
use Rattle.scx_laws.specs.Runs.{after_events}
use Rattle.scx_laws.specs.Lines.{IsLineBegun, OnlyWaitsEject, IdlesUnlessLate, StaysAwake, NobodyOvertakes, NobodyCutsIn, OnlyFewerAhead}
use Rattle.scx_laws.proofs.Sound.{IsFirm, firm_first, firm_step, firm_after}
use Rattle.scx_laws.proofs.Keeping.{KeepsQueue, IsInLineWith, keeps_queue}
use Rattle.scx_laws.proofs.Overtaking.{Follows, IsOther, keeps_following, WereThere, keeps_there, fewer}
use Rattle.scx_laws.proofs.Walking.{IsSettled, IsKeptPlainly, MayHappen, AllMay, walk_all}
use Rattle.scx_laws.proofs.InLine.{IsKeptInLine, keeps_line}
use Rattle.scx_laws.proofs.Beginning.{line_begins}
use Rattle.scx_laws.proofs.Leaving.{none_is_left}

-- all tasks may go to sleep
may_any : (e : Event) → MayHappen (λ t. Unit {0}) e
may_any (Wake t) = tt
may_any (Sleep t) = tt
may_any (Tick c) = tt
may_any Clock = tt
may_any (SetWeight g x) = tt
may_any (SetTaskWeight t x) = tt

may_all : (events : List Event) → AllMay (λ t. Unit {0}) events
may_all [] = tt
may_all (e ∷ es) = (may_any e, may_all es)

-- between two events a machine is settled
settled : (s : SimState) → IsFirm s → IsSettled s.state.world
settled s f = record { homes = λ t. f.fine.sound.homes t; sorted = f.fine.sound.sorted }

-- what small steps keep, any events keep
walk_firm : (MaySleep : ℕ → Type 0) (I : State → Type 0) → IsKeptPlainly MaySleep I → (s : SimState) (events : List Event) → AllMay MaySleep events → IsFirm s → I s.state → I (after_events s events).state
walk_firm MaySleep I k s events may f h = walk_all MaySleep I k (λ w q c t e. (next_seen w q c t e).there) IsFirm settled (λ v e g. firm_step v e g) s events may f h

-- a policy of one line stays one, and its line is there
line_after : (slice : ℕ) (s : SimState) (events : List Event) → IsFirm s → IsKeptInLine slice s.state → IsKeptInLine slice (after_events s events).state
line_after slice s events f h = walk_firm (λ t. Unit {0}) (IsKeptInLine slice) (keeps_line slice) s events (may_all events) f h

line_run : (slice : ℕ) (p : PolicyState) (tree : Hierarchy) (cpus : ℕ) (s : SimState) → IsLineBegun slice p tree cpus s → (events : List Event) → IsKeptInLine slice (after_events s events).state
line_run slice p tree cpus s r events = line_after slice s events (firm_first p tree cpus s r.begun) (line_begins slice p tree cpus r.line r.rules r.begun.shape s.state r.begun.first.0)

-- only a wait puts such a policy out of force
pub only_waits_eject : OnlyWaitsEject
only_waits_eject slice p tree cpus s events x r out = (line_run slice p tree cpus s r events).1.stall x out

-- so the law of served queues holds unless a task waited too long
pub idles_unless_late : IdlesUnlessLate
idles_unless_late slice p tree cpus s events v c r free ok at idle in_time =
    none_is_left (0 ∷ []) p tree cpus s events v c (record { dispatch = r.line.dispatch; is_there = r.line.dispatches; serves = r.line.serves }) r.rules free r.begun ok at (in_force final.state.world.ejected refl) idle
  where
    final : SimState
    final = after_event (after_events s events) v

    lined : IsKeptInLine slice final.state
    lined = line_after slice (after_events s events) (v ∷ []) (firm_after s events (firm_first p tree cpus s r.begun)) (line_run slice p tree cpus s r events)

    in_force : (o : Option Eject) → final.state.world.ejected ≡ o → final.state.world.ejected ≡ None
    in_force None e = e
    in_force (Some (cause.Stall t clock)) e = absurd (in_time t clock e)
    in_force (Some (cause.Fault f clock)) e = absurd (lined.1.stall (cause.Fault f clock) e)
    in_force (Some (cause.Exit n clock)) e = absurd (lined.1.stall (cause.Exit n clock) e)

-- ---- no task overtakes another

-- an entry of the line is in order of arrival
in_order : (e : Entry) → e.queue ≡ 0 → clashes 0 Fifo (Some e) ≡ false → same_sort e.rank Fifo ≡ true
in_order e here none = go (same_sort e.rank Fifo) (ap (λ b. b && not (same_sort e.rank Fifo)) (sym (eq-eqb e.queue 0 here)) ∙ none)
  where
    go : (b : Bool) → (true && not b) ≡ false → b ≡ true
    go true x = refl
    go false x = absurd (cc)

-- what each change of the queues keeps, any events keep, while the policy is in force
queue_after : (slice : ℕ) (MaySleep : ℕ → Type 0) (Q : QueueState → Type 0) → KeepsQueue MaySleep Q → (s : SimState) (events : List Event) → AllMay MaySleep events → IsFirm s → IsKeptInLine slice s.state → Q s.state.world.queues → (after_events s events).state.world.ejected ≡ None → Q (after_events s events).state.world.queues
queue_after slice MaySleep Q k s events may firm lined h force = (walk_firm MaySleep (IsInLineWith MaySleep Q k slice) (keeps_queue MaySleep Q k slice) s events may firm (lined, λ now. h)).1 force

-- the second task stays awake
other_all : (t u : ℕ) (first second : Entry) (here : first.queue ≡ 0) (there : second.queue ≡ 0) (before : is_before first second ≡ true) (es : List Event) → StaysAwake u es → AllMay (IsOther t u first second here there before) es
other_all t u first second here there before [] h = tt
other_all t u first second here there before (Sleep x ∷ es) h = (h.0, other_all t u first second here there before es h.1)
other_all t u first second here there before (Wake x ∷ es) h = (tt, other_all t u first second here there before es h)
other_all t u first second here there before (Tick c ∷ es) h = (tt, other_all t u first second here there before es h)
other_all t u first second here there before (Clock ∷ es) h = (tt, other_all t u first second here there before es h)
other_all t u first second here there before (SetWeight g x ∷ es) h = (tt, other_all t u first second here there before es h)
other_all t u first second here there before (SetTaskWeight y x ∷ es) h = (tt, other_all t u first second here there before es h)

pub none_overtakes : NobodyOvertakes
none_overtakes slice p tree cpus s events more t u first second r ahead awake force is =
    let later = firm_after s events (firm_first p tree cpus s r.begun) in
    let kept = queue_after slice (IsOther t u first second ahead.here ahead.there ahead.before) (Follows t u first second ahead.here ahead.there ahead.before) (keeps_following t u first second ahead.here ahead.there ahead.before) (after_events s events) more
    (other_all t u first second ahead.here ahead.there ahead.before more awake) later (line_run slice p tree cpus s r events) (later.fine.sound.stamped t first ahead.front, λ still. ahead.back) force in
    kept.1 is

-- who comes before a task of the line was there before
was_there : (slice : ℕ) (p : PolicyState) (tree : Hierarchy) (cpus : ℕ) (s : SimState) (events more : List Event) (t : ℕ) (mine : Entry) → IsLineBegun slice p tree cpus s → entry_of (after_events s events).state.world.queues t ≡ Some mine → mine.queue ≡ 0 → (after_events (after_events s events) more).state.world.ejected ≡ None
    → (u : ℕ) (other : Entry) → entry_of (after_events (after_events s events) more).state.world.queues u ≡ Some other → is_before other mine ≡ true → entry_of (after_events s events).state.world.queues u ≡ Some other
was_there slice p tree cpus s events more t mine r at here force =
    let later = firm_after s events (firm_first p tree cpus s r.begun) in
    let lined = line_run slice p tree cpus s r events in
    let before = (after_events s events).state.world.queues in
    let fifo = in_order mine here (ap (λ (o : Option Entry). clashes 0 Fifo o) (sym at) ∙ lined.1.ready.alike t) in
    let kept = queue_after slice (λ x. Unit {0}) (WereThere before mine fifo) (keeps_there before mine fifo) (after_events s events) more (may_all more) later lined (later.fine.sound.stamped t mine at, λ v y is early. is) force in
    kept.1

-- so no task cuts in
pub none_cuts_in : NobodyCutsIn
none_cuts_in slice p tree cpus s events more t u mine other r at here force ahead = was_there slice p tree cpus s events more t mine r at here force u other ahead.front ahead.before

-- and no more tasks come before a task
pub only_fewer_ahead : OnlyFewerAhead
only_fewer_ahead slice p tree cpus s events more t mine r at here force = fewer (is_ahead 0 mine) (is_ahead 0 mine) refl now.entries before.entries (λ u e. go u (entry_of now u) refl e)
  where
    before : QueueState
    before = (after_events s events).state.world.queues

    now : QueueState
    now = (after_events (after_events s events) more).state.world.queues

    go : (u : ℕ) (o : Option Entry) → entry_of now u ≡ o → is_ahead 0 mine o ≡ true → is_ahead 0 mine (entry_of before u) ≡ true
    go u None is e = absurd (cc)
    go u (Some other) is e = ap (λ (k : Option Entry). is_ahead 0 mine k) (was_there slice p tree cpus s events more t mine r at here force u other is (and_parts (other.queue == 0) (is_before other mine) e).1) ∙ e
