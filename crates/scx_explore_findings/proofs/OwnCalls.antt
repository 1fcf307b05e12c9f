-- Callbacks that run as they were verified ask what the runs of the policy's programs ask.
use Rattle.std.proofs.Common.{◌≡◌, ℕ, zero, suc, ◌&&◌, ◌||◌, not, Bool, true, false, List, [], ◌∷◌, Option, Some, None, refl, sym, ap, ◌∙◌, subst, inl, inr, ⊎_elim}
use Rattle.std.proofs.lemmas.Bool.{eq-eqb, or_left, or_right}
use Rattle.scx_isa_semantics.specs.declared.callbacks.Callback.{Callback}
use Rattle.scx_isa_semantics.specs.declared.host_tables.Field.TheVariants.{Slice}
use Rattle.scx_isa_semantics.specs.declared.host_tables.TaskId.{TaskId}
use Rattle.scx_isa_semantics.specs.Arguments.{IsTask}
use Rattle.scx_isa_semantics.specs.Code.{Code}
use Rattle.scx_isa_semantics.specs.Effects.{Query, Call, Load, Store}
use Rattle.scx_isa_semantics.specs.Machine.{Machine, start}
use Rattle.scx_isa_semantics.specs.Runs.{LeadsTo, Leads, any_answer}
use Rattle.scx_isa_semantics.specs.Steps.{Outcome, Stuck, Goes, Asks, Ends, step}
use Rattle.scx_isa_semantics.specs.declared.values.Value.{Value}
use Rattle.scx_vm.specs.Arguments.{argument_value, program_arguments}
use Rattle.scx_vm.specs.declared.arguments.Arg.{Arg}
use Rattle.scx_vm.specs.declared.arguments.Arg.TheVariants as argument
use Rattle.scx_vm.specs.declared.arguments.Args.{Args}
use Rattle.scx_vm.specs.Programs.{VerifiedProgram}
use Rattle.scx_sched_world.specs.World.{WorldState}
use Rattle.scx_sched_policy.specs.Policy.{PolicyState, program_of}
use Rattle.scx_sched_machine.specs.Callbacks.{IsAnswered}
use Rattle.scx_sched_machine.specs.Hearing.{Hears}
use Rattle.scx_sched_machine.specs.Steps.{CallMade}
use Rattle.scx_explore_states.specs.Asking.{LoadsNo, GivesOne, PointsTo, IsOfTask, is_early}
use Rattle.scx_explore_findings.specs.Asked.{StepAnyhow, AnyhowWithin, AsksAnyhow, IfAsksAnyhow, AskAnyhow, IfAsksOnly, AskOnly, CallAsks, IsCallOf, IsFitting, RunAsVerified}
use Rattle.scx_explore_findings.specs.Hidden.{Hidden}
use Rattle.scx_explore_findings.specs.IdleSlices.{is_idle, TellsNoSlice, TellNoSlices, AsksForNone, LoadsItsOwn, IfLoadsItsOwn, TellNoIdleSlices}
use Rattle.scx_explore_findings.specs.Unread.{ReadsNone}
use Rattle.scx_explore_findings.specs.WholeForms.{WholeFormsAreSoInRuns}
use Rattle.scx_explore_findings.proofs.Answered.{AsksFrom, answered_asks_from, fitting_asks, answered_asks}
use Rattle.scx_explore_findings.proofs.OwnTasks.{asks_of_task}
use Rattle.scx_explore_findings.proofs.IdleRecords.{bits}
use Rattle.scx_explore_findings.proofs.IdleTasks.{or_parts}
use Rattle.scx_explore_findings.proofs.Helpers.{LoadsBusyOf, IsTold}
use Rattle.scx_explore_findings.proofs.Omitting.{Omitted, is_that, is_some_task, is_at_hand, in_call}
use Rattle.scx_explore_findings.proofs.Runs.{asks_more}
use Rattle.scx_explore_findings.proofs.Steps.{AskNone}
use Rattle.scx_explore_findings.proofs.Events.{late_given}

-- ---- whatever is answered

module _ (P : Query → Type 0) (c : Callback) (code : Code) where
  -- what a run asks at that slot, if it asks nothing else, whatever is answered
  asked_at : (n s slot : ℕ) (m state : Machine) → AnyhowWithin P c code (suc n) s m → Leads any_answer c code n s m tt slot state tt → (q : Query) (next : ℕ) (on : Value → Machine) → step c code slot state ≡ Asks q next on → P q
  asked_at zero s slot m state asks leads q next on is =
      let here : step c code s m ≡ Asks q next on = ap (λ (t : ℕ). step c code t m) (sym leads.0) ∙ (ap (λ (k : Machine). step c code slot k) (sym leads.1) ∙ is) in
      (subst (λ (o : Outcome). StepAnyhow P (AnyhowWithin P c code zero) o) here asks).0
  asked_at (suc n) s slot m state asks leads q next on is =
      asked_at n leads.0 slot leads.1 state (further (step c code s m) leads.0 leads.1 asks leads.3) leads.4 q next on is
    where
      further : (o : Outcome) (t : ℕ) (k : Machine) → StepAnyhow P (AnyhowWithin P c code (suc n)) o → LeadsTo any_answer o tt t k tt → AnyhowWithin P c code (suc n) t k
      further Stuck t k a l = absurd l
      further (Goes u j) t k a l = subst (λ (x : ℕ). AnyhowWithin P c code (suc n) x k) (sym l.0) (subst (λ (x : Machine). AnyhowWithin P c code (suc n) u x) (sym l.1) a)
      further (Asks r u go) t k a l = subst (λ (x : ℕ). AnyhowWithin P c code (suc n) x k) (sym l.2) (subst (λ (x : Machine). AnyhowWithin P c code (suc n) u x) (sym l.3) (a.1 l.0))
      further (Ends x) t k a l = absurd l

-- a policy's programs ask in each run what they ask whatever is answered
pub only_of_anyhow : (P : Query → Type 0) (p : PolicyState) → AskAnyhow P p → AskOnly P p
only_of_anyhow P p asks b = go (program_of p b) (asks b)
  where
    go : (o : Option VerifiedProgram) → IfAsksAnyhow P b o → IfAsksOnly P b o
    go None a = tt
    go (Some q) a = λ is args maps steps slot m shaped fits leads query next on at.
        asked_at P q.context.callback q.code steps 0 slot (start args maps) m (subst (λ (x : Callback). AsksAnyhow P x q.code) (sym is) a (suc steps) args maps) leads query next on at

-- and what they ask of a weaker sort too
only_more : (P Q : Query → Type 0) → ((q : Query) → P q → Q q) → (b : Callback) (o : Option VerifiedProgram) → IfAsksOnly P b o → IfAsksOnly Q b o
only_more P Q more b None asks = tt
only_more P Q more b (Some p) asks = λ is args maps steps slot m shaped fits leads query next on at. more query (asks is args maps steps slot m shaped fits leads query next on at)

-- so those that tell no slices tell none of tasks that sleep or are held
tell_no_idle : (p : PolicyState) → TellNoSlices p → TellNoIdleSlices p
tell_no_idle p tells =
    let asks = only_of_anyhow TellsNoSlice p tells in
    record {
      given = λ b. only_more TellsNoSlice GivesOne (λ q k. k.1) b (program_of p b) (asks b);
      loads = λ b. none b (program_of p b) (only_more TellsNoSlice (LoadsNo Slice) (λ q k. k.0) b (program_of p b) (asks b));
    }
  where
    none : (b : Callback) (o : Option VerifiedProgram) → IfAsksOnly (LoadsNo Slice) b o → IfLoadsItsOwn b o
    none b None k = tt
    none b (Some q) k = λ is. inl (k is)

pub whole_forms_are_so_in_runs : WholeFormsAreSoInRuns
whole_forms_are_so_in_runs p f whole = record {
  clock = whole.clock;
  pushes = whole.pushes;
  idle_slices = ⊎_elim (λ e. inl e) (λ tells. inr (tell_no_idle p tells)) whole.idle_slices;
  keys = whole.keys;
  hidden = whole.hidden;
  unread = only_of_anyhow (ReadsNone whole.hidden) p whole.unread;
  left_out = whole.left_out;
  waits = whole.waits;
  vtime = whole.vtime;
  run_ns = whole.run_ns;
  random = whole.random;
  names = whole.names;
}

-- ---- calls

-- a hearer that is told of calls that fit has heard of callbacks that run as they were verified
pub heard : {T : Type 0} (s t : T) (cs : List CallMade) → Hears (λ (x : T) (c : CallMade) (y : T). IsFitting c) s cs t → RunAsVerified cs
heard s t [] hears = tt
heard s t (c ∷ cs) hears = (hears.1, hears.2, heard hears.0 t cs hears.3)

-- ---- slices of the task at hand

-- a query loads slices of such tasks alone
abbrev LoadsIf : (ℕ → Bool) → Query → Type 0
LoadsIf f (Load t Slice) = f t.0 ≡ true
LoadsIf f q = Unit {0}

loads_any : (f : ℕ → Bool) → ((u : ℕ) → f u ≡ true) → (q : Query) → LoadsIf f q
loads_any f all (Load t Slice) = all t.0
loads_any f all (Load t g) = tt
loads_any f all (Call g a) = tt
loads_any f all (Store t g n) = tt

loads_one : (f : ℕ → Bool) (t : TaskId) → f t.0 ≡ true → (q : Query) → IsOfTask t q → LoadsIf f q
loads_one f t one (Load u Slice) is = subst (λ (x : TaskId). f x.0 ≡ true) (sym is) one
loads_one f t one (Load u g) is = tt
loads_one f t one (Call g a) is = tt
loads_one f t one (Store u g n) is = tt

loads_none : (f : ℕ → Bool) (q : Query) → LoadsNo Slice q → LoadsIf f q
loads_none f (Load t Slice) none = absurd (bits true refl none)
loads_none f (Load t g) none = tt
loads_none f (Call g a) none = tt
loads_none f (Store t g n) none = tt

-- of such tasks no slice is left out
busy_if : (f : ℕ → Bool) (w : WorldState) (q : Query) → LoadsIf f q → LoadsBusyOf (λ u. not (f u) && true) w q
busy_if f w (Load t Slice) is = ap (λ (b : Bool). (not b && true) && is_idle w t.0) is
busy_if f w (Load t g) is = tt
busy_if f w (Call g a) is = tt
busy_if f w (Store t g n) is = tt

no_task_points : (t : TaskId) (x : Arg) → is_some_task x ≡ false → PointsTo t (argument_value x)
no_task_points t argument.Unset e = tt
no_task_points t (argument.Num n) e = tt
no_task_points t (argument.Task u) e = absurd (bits true refl e)

module _ (c : CallMade) (fitting : IsFitting c) where
  -- the run of the call asks such queries alone, as long as what is answered fits
  abbrev From : (Query → Type 0) → Type 0
  From P = AsksFrom P c.callback c.program.code (program_arguments c.arguments) c.maps

  abbrev at_hand : ℕ → Bool
  at_hand = is_at_hand c.callback c.arguments

  -- if it asks for no task it loads the slice of the task at hand alone
  own_slices : is_early c.callback true ≡ false → From AsksForNone → From (LoadsIf at_hand)
  own_slices late asks = go c.arguments.first refl (late_given c.callback late (program_arguments c.arguments) fitting.arguments)
    where
      a : Args
      a = c.arguments

      others : Bool
      others = is_some_task a.second || is_some_task a.third

      so : (u : ℕ) → (is_that a.first u || others) ≡ true → at_hand u ≡ true
      so u e = ap (λ (b : Bool). not b && (is_that a.first u || others)) late ∙ e

      alone : (t : TaskId) → a.first ≡ argument.Task t → (b : Bool) → others ≡ b → From (LoadsIf at_hand)
      alone t is true more = λ n s m leads q next on at. loads_any at_hand (λ u. so u (or_right (is_that a.first u) others more)) q
      alone t is false none =
          let two = or_parts (is_some_task a.second) (is_some_task a.third) none in
          let first : PointsTo t (argument_value a.first) = subst (λ (x : Arg). PointsTo t (argument_value x)) (sym is) refl in
          let this : is_that a.first t.0 ≡ true = ap (λ (x : Arg). is_that x t.0) is ∙ eq-eqb t.0 t.0 refl in
          λ n s m leads q next on at.
          loads_one at_hand t (so t.0 (or_left (is_that a.first t.0) others this)) q
          (asks_of_task c.callback c.program.code (program_arguments a) c.maps asks t (first, no_task_points t a.second two.0, no_task_points t a.third two.1) n s m leads q next on at)

      go : (x : Arg) → a.first ≡ x → IsTask (argument_value x) → From (LoadsIf at_hand)
      go (argument.Task t) is task = alone t is others refl
      go (argument.Num n) is task = absurd task
      go argument.Unset is task = absurd task

  -- so it does if its program loads its own
  slices_at_hand : LoadsItsOwn c.program.context c.program.code → From (LoadsIf at_hand)
  slices_at_hand (inl none) = λ n s m leads q next on at. loads_none at_hand q (fitting_asks (LoadsNo Slice) c fitting none n s m leads q next on at)
  slices_at_hand (inr own) = own_slices (ap (λ (b : Callback). is_early b true) (sym fitting.callback) ∙ own.0) (fitting_asks AsksForNone c fitting own.1)

-- ---- what is left out

-- these parts of records, and slices of tasks that sleep or are held, or not
abbrev pub left_out_if : Bool → Hidden → Omitted
left_out_if less h = record { parts = h; idle = λ t. less }

-- a query asks for no such part, loads slices of those tasks alone, and gives one if it inserts a task
abbrev AsksAtHand : Hidden → (ℕ → Bool) → Query → Type 0
AsksAtHand h f q = ReadsNone h q × LoadsIf f q × GivesOne q

-- a call that asks for no such part, and for no slice but that of the task at hand where they are left out, asks for nothing
-- that is left out
call_tells_none : (less : Bool) (h : Hidden) (c : CallMade) → IsAnswered c → IsFitting c → IfAsksOnly (ReadsNone h) c.callback (Some c.program) → (less ≡ true → IfAsksOnly GivesOne c.callback (Some c.program) × IfLoadsItsOwn c.callback (Some c.program)) → CallAsks (IsTold (in_call (left_out_if less h) c)) c
call_tells_none false h c answered fitting unread told n =
    asks_more (λ w. ReadsNone h) (IsTold (in_call (left_out_if false h) c)) (λ w q k. (k, inl (λ u. never (not (is_at_hand c.callback c.arguments u))))) c.callback c.program.code n 0 (start (program_arguments c.arguments) c.maps) c.world
    (answered_asks (ReadsNone h) c answered fitting (unread fitting.callback) n)
  where
    never : (b : Bool) → (b && false) ≡ false
    never true = refl
    never false = refl
call_tells_none true h c answered fitting unread told n =
    let f = is_at_hand c.callback c.arguments in
    let reads = fitting_asks (ReadsNone h) c fitting (unread fitting.callback) in
    let loads = slices_at_hand c fitting ((told refl).1 fitting.callback) in
    let gives = fitting_asks GivesOne c fitting ((told refl).0 fitting.callback) in
    asks_more (λ w. AsksAtHand h f) (IsTold (in_call (left_out_if true h) c)) (λ w q k. (k.0, inr (busy_if f w q k.1, k.2))) c.callback c.program.code n 0 (start (program_arguments c.arguments) c.maps) c.world
    (answered_asks_from (AsksAtHand h f) c answered (λ n s m leads q next on at. (reads n s m leads q next on at, loads n s m leads q next on at, gives n s m leads q next on at)) n)

-- so calls that run as they were verified ask for nothing of that
pub own_calls_tell_none : (less : Bool) (h : Hidden) (p : PolicyState) (cs : List CallMade) → AskOnly (ReadsNone h) p → (less ≡ true → TellNoIdleSlices p) → RunAsVerified cs → AskNone (left_out_if less h) p cs
own_calls_tell_none less h p [] unread told run = tt
own_calls_tell_none less h p (c ∷ cs) unread told run = (
  λ own.
      call_tells_none less h c run.0 run.1 (of_call (IfAsksOnly (ReadsNone h) c.callback) own (unread c.callback))
      (λ e. (of_call (IfAsksOnly GivesOne c.callback) own ((told e).given c.callback), of_call (IfLoadsItsOwn c.callback) own ((told e).loads c.callback))),
  own_calls_tell_none less h p cs unread told run.2,
)
  where
    of_call : (P : Option VerifiedProgram → Type 0) → IsCallOf p c → P (program_of p c.callback) → P (Some c.program)
    of_call P own known = subst P own known
