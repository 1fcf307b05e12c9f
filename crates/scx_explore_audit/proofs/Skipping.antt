-- Lists some of whose events are refused.
use Rattle.std.proofs.Common.{◌≡◌, ℕ, zero, suc, ◌+◌, ◌≤◌, ◌<◌, ◌==◌, Bool, true, false, List, [], ◌∷◌, ◌++◌, length, All, Option, None, Some, is_none, if◌then◌else◌, refl, sym, ap, ◌∙◌, subst, arith}
use Rattle.std.specs.Prelude.{IfSome}
use Rattle.std.proofs.lemmas.Bool.{eq-eqb, ne_eqb, lt-ltb}
use Rattle.std.proofs.lemmas.List.{append_assoc}
use Rattle.std.proofs.lemmas.List.Elements.{All-nil, All-cons, All-head, All-tail}
use Rattle.scx_sched_machine.specs.declared.events.Event.{Event}
use Rattle.scx_sched_machine.specs.declared.events.Event.TheVariants.{Wake, Sleep, Tick, Clock}
use Rattle.scx_sched_machine.specs.declared.events.Refused.{Refused}
use Rattle.scx_sched_machine.specs.declared.events.Refused.TheVariants.{RunOver, UnknownCpu}
use Rattle.scx_sched_machine.specs.Events as machine
use Rattle.scx_sched.specs.Sim.{SimState, max_events, refusal, stepped_if, after_event}
use Rattle.scx_explore_findings.specs.declared.finding.Sort.{Sort}
use Rattle.scx_explore_findings.proofs.WorldSizes.{HasSize}
use Rattle.scx_explore_findings.proofs.EventSizes.{sized_after}
use Rattle.scx_explore_audit.specs.declared.table.Moves.{Moves}
use Rattle.scx_explore_audit.specs.declared.table.Moves.TheVariants.{Events, Milliseconds}
use Rattle.scx_explore_audit.specs.Claims.{TaskSet, of_tasks, ticks, millisecond, IsMillisecond, IsMove, AreFree, ShowsNone, ShowsNoneAtFirst, accepted_of, list_of}
use Rattle.scx_explore_audit.specs.Laws.{NoneIn, RefusedEventsShowNothing}

-- no list of moves shows anything as far as its events are accepted
abbrev pub NoneAtFirst : Moves → Option ℕ → List Sort → SimState → Type 0
NoneAtFirst moves limit sorts root =
    (list : List (List Event)) → All (IsMove moves root) list → IfSome limit (λ most. length list ≤ most) → ShowsNoneAtFirst sorts root (list_of list)

-- ---- one event

-- an event isn't both accepted and refused
never_both : (o : Option Refused) (r : Refused) → o ≡ Some r → o ≡ None → ⊥
never_both o r some none = absurd (cc)

-- one that is refused changes nothing
stays : (s : SimState) (e : Event) (r : Refused) → refusal s e ≡ Some r → after_event s e ≡ s
stays s e r is = ap (λ (o : Option Refused). stepped_if o s e) is

-- a list shows nothing where its first event doesn't, and nor does what is behind it
one : (sorts : List Sort) (s : SimState) (e : Event) (rest : List Event) → (refusal s e ≡ None → AreFree sorts (after_event s e) e) → ((r : Refused) → refusal s e ≡ Some r → ShowsNone sorts s rest) → (refusal s e ≡ None → (after_event s e).state.world.ejected ≡ None → ShowsNone sorts (after_event s e) rest) → ShowsNone sorts s (e ∷ rest)
one sorts s e rest free past on = (free, go (refusal s e) refl)
  where
    go : (o : Option Refused) → refusal s e ≡ o → (after_event s e).state.world.ejected ≡ None → ShowsNone sorts (after_event s e) rest
    go None x = on x
    go (Some r) x = λ force. subst (λ (t : SimState). ShowsNone sorts t rest) (sym (stays s e r x)) (past r x)

-- ---- a run that is over

-- each further event is refused
over : (sorts : List Sort) (s : SimState) (es : List Event) → (s.events == max_events) ≡ true → ShowsNone sorts s es
over sorts s [] is = tt
over sorts s (e ∷ es) is =
    let refused : refusal s e ≡ Some RunOver = ap (λ (b : Bool). if b then Some RunOver else machine.refusal s.state e) is in
    one sorts s e es (λ fine. absurd (never_both (refusal s e) RunOver refused fine)) (λ r x. over sorts s es is)
    (λ fine. absurd (never_both (refusal s e) RunOver refused fine))

-- an event that is refused by a run alone that is over
one_or_over : (sorts : List Sort) (s : SimState) (e : Event) (rest : List Event) → machine.refusal s.state e ≡ None → (refusal s e ≡ None → AreFree sorts (after_event s e) e) → (refusal s e ≡ None → (after_event s e).state.world.ejected ≡ None → ShowsNone sorts (after_event s e) rest) → ShowsNone sorts s (e ∷ rest)
one_or_over sorts s e rest known free on = go (s.events == max_events) refl
  where
    go : (b : Bool) → (s.events == max_events) ≡ b → ShowsNone sorts s (e ∷ rest)
    go true is = over sorts s (e ∷ rest) is
    go false is =
        let fine : refusal s e ≡ None = ap (λ (b : Bool). if b then Some RunOver else machine.refusal s.state e) is ∙ known in
        one sorts s e rest free (λ r x. absurd (never_both (refusal s e) r x fine)) on

-- ---- sets of tasks

-- the set with that task, or without it
abbrev put : ℕ → Bool → TaskSet → TaskSet
put t b set u = if u == t then b else set u

-- has it, or not
put_same : (t : ℕ) (b : Bool) (set : TaskSet) → put t b set t ≡ b
put_same t b set = ap (λ (c : Bool). if c then b else set t) (eq-eqb t t refl)

-- and of the tasks behind it the same ones
put_behind : (event : ℕ → Event) (t : ℕ) (b : Bool) (set : TaskSet) (u n : ℕ) → t < u → of_tasks event (put t b set) u n ≡ of_tasks event set u n
put_behind event t b set u zero above = refl
put_behind event t b set u (suc n) above =
    let same : put t b set u ≡ set u = ap (λ (c : Bool). if c then b else set u) (ne_eqb u t (λ e. omega (arith, e, above))) in
    ap (λ (c : Bool). (if c then event u ∷ [] else []) ++ of_tasks event (put t b set) (suc u) n) same
    ∙ ap (λ (es : List Event). (if set u then event u ∷ [] else []) ++ es) (put_behind event t b set (suc u) n (omega (arith, above)))

-- with that task in it or not, what is left of a set is any set behind it
put_first : (event : ℕ → Event) (t : ℕ) (b : Bool) (set : TaskSet) (n : ℕ) (rest : List Event) → of_tasks event (put t b set) t (suc n) ++ rest ≡ ((if b then event t ∷ [] else []) ++ of_tasks event set (suc t) n) ++ rest
put_first event t b set n rest =
    ap (λ (c : Bool). ((if c then event t ∷ [] else []) ++ of_tasks event (put t b set) (suc t) n) ++ rest) (put_same t b set)
    ∙ ap (λ (es : List Event). ((if b then event t ∷ [] else []) ++ es) ++ rest) (put_behind event t b set (suc t) n (omega arith))

-- ---- what is left of a list

-- at most so many moves
record Few (moves : Moves) (root : SimState) (n : ℕ) : Type 0 where
  pub list : List (List Event)
  pub made : All (IsMove moves root) list
  pub few : length list ≤ n

-- none
abbrev no_moves : (moves : Moves) (root : SimState) (n : ℕ) → Few moves root n
no_moves moves root n = record { list = []; made = All-nil (IsMove moves root); few = omega arith }

-- one before others
abbrev one_before : (moves : Moves) (root : SimState) (n : ℕ) (es : List Event) → IsMove moves root es → Few moves root n → Few moves root (suc n)
one_before moves root n es move f = record {
  list = es ∷ f.list;
  made = All-cons (IsMove moves root) es f.list move f.made;
  few = omega (arith, f.few);
}

-- a millisecond and what is behind it, by its parts
parts : (tasks cpus : ℕ) (wakes sleeps : TaskSet) (rest : List Event) → millisecond tasks cpus wakes sleeps ++ rest ≡ of_tasks (λ t. Wake t) wakes 0 tasks ++ (ticks 0 cpus ++ (of_tasks (λ t. Sleep t) sleeps 0 tasks ++ (Clock ∷ rest)))
parts tasks cpus wakes sleeps rest =
    append_assoc (of_tasks (λ t. Wake t) wakes 0 tasks) (ticks 0 cpus ++ (of_tasks (λ t. Sleep t) sleeps 0 tasks ++ Clock ∷ [])) rest
    ∙ ap (λ (es : List Event). of_tasks (λ t. Wake t) wakes 0 tasks ++ es)
    (append_assoc (ticks 0 cpus) (of_tasks (λ t. Sleep t) sleeps 0 tasks ++ Clock ∷ []) rest
    ∙ ap (λ (es : List Event). ticks 0 cpus ++ es) (append_assoc (of_tasks (λ t. Sleep t) sleeps 0 tasks) (Clock ∷ []) rest))

module _ (sorts : List Sort) (root : SimState) where
  -- the machine has as many processors
  abbrev IsSized : SimState → Type 0
  IsSized s = HasSize root.state.world s.state.world

  -- in whichever state, what is left shows nothing, if none of these does as far as events are accepted
  abbrev GoesPast : {I : Type 0} → (I → List Event) → List Event → Type 0
  GoesPast {I} left rest =
      (s : SimState) → IsSized s → ((i : I) → ShowsNoneAtFirst sorts s (left i)) → ShowsNone sorts s rest

  -- so with a clock before it
  clock_past : {I : Type 0} (some : I) (left : I → List Event) (rest : List Event) → GoesPast left rest → GoesPast (λ i. Clock ∷ left i) (Clock ∷ rest)
  clock_past some left rest goes s size none =
      one_or_over sorts s Clock rest refl (λ fine. (none some fine).0)
      (λ fine force. goes (after_event s Clock) (sized_after root.state.world s Clock size) (λ i. (none i fine).1 force))

  -- with ticks of processors
  ticks_past : {I : Type 0} (some : I) (left : I → List Event) (rest : List Event) → GoesPast left rest → (n c : ℕ) → c + n ≤ length root.state.world.cpus → GoesPast (λ i. ticks c n ++ left i) (ticks c n ++ rest)
  ticks_past some left rest goes zero c few s size none = goes s size none
  ticks_past some left rest goes (suc n) c few s size none =
      let there : machine.refusal s.state (Tick c) ≡ None =
      ap (λ (b : Bool). if b then None else Some UnknownCpu) (lt-ltb c (length s.state.world.cpus) (omega (arith, few, size.1))) in
      one_or_over sorts s (Tick c) (ticks (suc c) n ++ rest) there (λ fine. (none some fine).0)
      (λ fine force.
      ticks_past some left rest goes n (suc c) (omega (arith, few)) (after_event s (Tick c)) (sized_after root.state.world s (Tick c) size)
      (λ i. (none i fine).1 force))

  -- with wakes or sleeps of tasks
  tasks_past : {I : Type 0} (some : I) (left : I → List Event) (rest : List Event) → GoesPast left rest → (event : ℕ → Event) (n t : ℕ) (set : TaskSet) → GoesPast {I = TaskSet × I} (λ i. of_tasks event i.0 t n ++ left i.1) (of_tasks event set t n ++ rest)
  tasks_past some left rest goes event zero t set s size none = goes s size (λ i. none (set, i))
  tasks_past {I} some left rest goes event (suc n) t set s size none =
      go (tasks_past some left rest goes event n (suc t) set) (set t)
    where
      off : (i : TaskSet × I) → ShowsNoneAtFirst sorts s (of_tasks event i.0 (suc t) n ++ left i.1)
      off i = subst (λ (es : List Event). ShowsNoneAtFirst sorts s es) (put_first event t false i.0 n (left i.1)) (none (put t false i.0, i.1))

      on : (i : TaskSet × I) → ShowsNoneAtFirst sorts s (event t ∷ (of_tasks event i.0 (suc t) n ++ left i.1))
      on i = subst (λ (es : List Event). ShowsNoneAtFirst sorts s es) (put_first event t true i.0 n (left i.1)) (none (put t true i.0, i.1))

      go : GoesPast {I = TaskSet × I} (λ i. of_tasks event i.0 (suc t) n ++ left i.1) (of_tasks event set (suc t) n ++ rest) → (b : Bool) → ShowsNone sorts s (((if b then event t ∷ [] else []) ++ of_tasks event set (suc t) n) ++ rest)
      go behind false = behind s size off
      go behind true =
          one sorts s (event t) (of_tasks event set (suc t) n ++ rest) (λ fine. (on (set, some) fine).0) (λ r x. behind s size off)
          (λ fine force. behind (after_event s (event t)) (sized_after root.state.world s (event t) size) (λ i. (on i fine).1 force))

  -- lists of milliseconds, and of events
  milliseconds_past : (list : List (List Event)) → All (IsMove Milliseconds root) list → GoesPast {I = Few Milliseconds root (length list)} (λ f. list_of f.list) (list_of list)
  milliseconds_past [] made s size none = tt
  milliseconds_past (es ∷ list) made s size none =
      let tasks : ℕ = length root.state.world.tasks in
      let cpus : ℕ = length root.state.world.cpus in
      let move : IsMillisecond tasks cpus es = All-head (IsMove Milliseconds root) es list made in
      let some : Few Milliseconds root (length list) = no_moves Milliseconds root (length list) in
      let left : Few Milliseconds root (length list) → List Event = λ f. list_of f.list in
      let behind = milliseconds_past list (All-tail (IsMove Milliseconds root) es list made) in
      let after_sleeps = clock_past some left (list_of list) behind in
      let after_ticks =
      tasks_past some (λ f. Clock ∷ left f) (Clock ∷ list_of list) after_sleeps (λ t. Sleep t) tasks 0 move.sleeps in
      let after_wakes =
      ticks_past (move.sleeps, some) (λ i. of_tasks (λ t. Sleep t) i.0 0 tasks ++ (Clock ∷ left i.1)) (of_tasks (λ t. Sleep t) move.sleeps 0 tasks ++ (Clock ∷ list_of list)) after_ticks cpus 0 (omega arith) in
      let all =
      tasks_past (move.sleeps, some) (λ i. ticks 0 cpus ++ (of_tasks (λ t. Sleep t) i.0 0 tasks ++ (Clock ∷ left i.1))) (ticks 0 cpus ++ (of_tasks (λ t. Sleep t) move.sleeps 0 tasks ++ (Clock ∷ list_of list))) after_wakes (λ t. Wake t) tasks 0 move.wakes in
      subst (λ (xs : List Event). ShowsNone sorts s xs)
      (sym (ap (λ (xs : List Event). xs ++ list_of list) move.list ∙ parts tasks cpus move.wakes move.sleeps (list_of list)))
      (all s size
      (λ i.
      subst (λ (xs : List Event). ShowsNoneAtFirst sorts s xs) (parts tasks cpus i.0 i.1.0 (left i.1.1))
      (none (one_before Milliseconds root (length list) (millisecond tasks cpus i.0 i.1.0) (record { wakes = i.0; sleeps = i.1.0; list = refl }) i.1.1))))

  events_past : (list : List (List Event)) → All (IsMove Events root) list → GoesPast {I = Few Events root (length list)} (λ f. list_of f.list) (list_of list)
  events_past [] made s size none = tt
  events_past (es ∷ list) made s size none =
      let move : IsMove Events root es = All-head (IsMove Events root) es list made in
      let behind = events_past list (All-tail (IsMove Events root) es list made) in
      let with_it : (f : Few Events root (length list)) → ShowsNoneAtFirst sorts s (move.0 ∷ list_of f.list) =
      λ f.
      subst (λ (xs : List Event). ShowsNoneAtFirst sorts s (xs ++ list_of f.list)) move.2
      (none (one_before Events root (length list) es move f)) in
      subst (λ (xs : List Event). ShowsNone sorts s (xs ++ list_of list)) (sym move.2)
      (one sorts s move.0 (list_of list) (λ fine. (with_it (no_moves Events root (length list)) fine).0)
      (λ r x. behind s size (λ f. none (record { list = f.list; made = f.made; few = omega (arith, f.few) })))
      (λ fine force. behind (after_event s move.0) (sized_after root.state.world s move.0 size) (λ f. (with_it f fine).1 force)))

-- the lists that are as long as that are within the limit
within : (limit : Option ℕ) (n m : ℕ) → n ≤ m → IfSome limit (λ most. m ≤ most) → IfSome limit (λ most. n ≤ most)
within None n m less few = tt
within (Some most) n m less few = omega (arith, less, few)

-- where no list shows anything as far as its events are accepted, none shows anything behind one that is refused
pub none_past : (moves : Moves) (limit : Option ℕ) (sorts : List Sort) (root : SimState) → NoneAtFirst moves limit sorts root → NoneIn moves limit sorts root
none_past Events limit sorts root none list made few =
    events_past sorts root list made root (refl, refl, refl, refl, refl, refl) (λ f. none f.list f.made (within limit (length f.list) (length list) f.few few))
none_past Milliseconds limit sorts root none list made few =
    milliseconds_past sorts root list made root (refl, refl, refl, refl, refl, refl) (λ f. none f.list f.made (within limit (length f.list) (length list) f.few few))

-- ---- the events that are accepted

module _ (sorts : List Sort) where
  there : (s : SimState) (es : List Event) → ShowsNone sorts s (accepted_of s es) → ShowsNone sorts s es
  there s [] shown = tt
  there s (e ∷ es) shown = go (there (after_event s e) es) (refusal s e) refl shown
    where
      go : (ShowsNone sorts (after_event s e) (accepted_of (after_event s e) es) → ShowsNone sorts (after_event s e) es) → (o : Option Refused) → refusal s e ≡ o → ShowsNone sorts s ((if is_none o then e ∷ [] else []) ++ accepted_of (after_event s e) es) → ShowsNone sorts s (e ∷ es)
      go rest None x all = (all.0, λ force. rest (all.1 force))
      go rest (Some r) x all = (
        λ fine. absurd (never_both (refusal s e) r x fine),
        λ force.
            rest (subst (λ (t : SimState). ShowsNone sorts t (accepted_of (after_event s e) es)) (sym (stays s e r x)) all),
      )

  back : (s : SimState) (es : List Event) → s.state.world.ejected ≡ None → ShowsNone sorts s es → ShowsNone sorts s (accepted_of s es)
  back s [] force shown = tt
  back s (e ∷ es) force shown = go (back (after_event s e) es) (refusal s e) refl
    where
      go : ((after_event s e).state.world.ejected ≡ None → ShowsNone sorts (after_event s e) es → ShowsNone sorts (after_event s e) (accepted_of (after_event s e) es)) → (o : Option Refused) → refusal s e ≡ o → ShowsNone sorts s ((if is_none o then e ∷ [] else []) ++ accepted_of (after_event s e) es)
      go rest None x = (shown.0, λ f. rest f (shown.1 f))
      go rest (Some r) x =
          let same : after_event s e ≡ s = stays s e r x in
          let here : (after_event s e).state.world.ejected ≡ None = ap (λ (t : SimState). t.state.world.ejected) same ∙ force in
          subst (λ (t : SimState). ShowsNone sorts t (accepted_of (after_event s e) es)) same (rest here (shown.1 here))

  at_first : (s : SimState) (es : List Event) → ShowsNone sorts s es → ShowsNoneAtFirst sorts s es
  at_first s [] shown = tt
  at_first s (e ∷ es) shown = λ fine. (shown.0 fine, λ force. at_first (after_event s e) es (shown.1 force))

-- a list shows what the list of its events shows that are accepted
pub refused_events_show_nothing : RefusedEventsShowNothing
refused_events_show_nothing sorts s es force = record { there = there sorts s es; back = back sorts s es force; first = at_first sorts s es }
