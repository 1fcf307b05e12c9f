-- Queries of programs in their runs: whatever they are given and answered, and as the world answers
-- the callbacks that are called.
use Rattle.std.specs.Prelude.{◌≡◌, ℕ, zero, suc, List, [], ◌∷◌, Option, Some, None}
use Rattle.scx_isa_semantics.specs.declared.callbacks.Callback.{Callback}
use Rattle.scx_isa_semantics.specs.declared.host_tables.Field.{Field}
use Rattle.scx_isa_semantics.specs.declared.values.Value.{Value}
use Rattle.scx_isa_semantics.specs.Arguments.{FitsCallback}
use Rattle.scx_isa_semantics.specs.Code.{Code}
use Rattle.scx_isa_semantics.specs.Effects.{Query}
use Rattle.scx_isa_semantics.specs.Elements.{Maps}
use Rattle.scx_isa_semantics.specs.Machine.{Machine, Arguments, start}
use Rattle.scx_isa_semantics.specs.Steps.{Outcome, Stuck, Goes, Asks, Ends, step}
use Rattle.scx_maps.specs.Contents.{HasShapes}
use Rattle.scx_vm.specs.Arguments.{program_arguments}
use Rattle.scx_vm.specs.Host.{answer_to, after_query}
use Rattle.scx_vm.specs.Programs.{VerifiedProgram}
use Rattle.scx_sched_world.specs.Helpers.{world_functions}
use Rattle.scx_sched_world.specs.World.{WorldState}
use Rattle.scx_sched_machine.specs.Callbacks.{IsAnswered}
use Rattle.scx_sched_policy.specs.Policy.{PolicyState, program_of}
use Rattle.scx_sched_machine.specs.Steps.{CallMade}
use Rattle.scx_explore_states.specs.Asking.{LoadsNo, GivesOne, AsksOnly}

-- ---- whatever is answered

-- a step asks what is such, if it asks, and so does what follows it, whatever is answered
abbrev pub StepAnyhow : (Query → Type 0) → (ℕ → Machine → Type 0) → Outcome → Type 0
StepAnyhow P on Stuck = Unit {0}
StepAnyhow P on (Goes t m) = on t m
StepAnyhow P on (Asks q t go) = P q × ((v : Value) → on t (go v))
StepAnyhow P on (Ends n) = Unit {0}

-- from that slot on the next n steps ask nothing else, whatever is answered
abbrev pub AnyhowWithin : (Query → Type 0) → Callback → Code → ℕ → ℕ → Machine → Type 0
AnyhowWithin P c code zero s m = Unit {0}
AnyhowWithin P c code (suc n) s m = StepAnyhow P (AnyhowWithin P c code n) (step c code s m)

-- nor does any run of the program, whatever it is given
abbrev pub AsksAnyhow : (Query → Type 0) → Callback → Code → Type 0
AsksAnyhow P c code =
    (n : ℕ) (a : Arguments) (maps : Maps) → AnyhowWithin P c code n 0 (start a maps)

-- the same of a program, if there is one
abbrev pub IfAsksAnyhow : (Query → Type 0) → Callback → Option VerifiedProgram → Type 0
IfAsksAnyhow P c None = Unit {0}
IfAsksAnyhow P c (Some p) = AsksAnyhow P c p.code

-- and of each program of the policy
abbrev pub AskAnyhow : (Query → Type 0) → PolicyState → Type 0
AskAnyhow P p = (b : Callback) → IfAsksAnyhow P b (program_of p b)

-- ---- in runs

-- each run of a program asks such queries alone, if there is one that was verified for the
-- callback, as long as its arguments, maps and answers fit
abbrev pub IfAsksOnly : (Query → Type 0) → Callback → Option VerifiedProgram → Type 0
IfAsksOnly P b None = Unit {0}
IfAsksOnly P b (Some p) = p.context.callback ≡ b → AsksOnly P p.context p.code

-- so does each run of each program of the policy
abbrev pub AskOnly : (Query → Type 0) → PolicyState → Type 0
AskOnly P p = (b : Callback) → IfAsksOnly P b (program_of p b)

-- ---- as the world answers

-- a step asks what is such in that world, if it asks, and so does what follows it
abbrev pub StepAsks :
    (WorldState → Query → Type 0) → (ℕ → Machine → WorldState → Type 0) → Outcome → WorldState
    → Type 0
StepAsks P on Stuck w = Unit {0}
StepAsks P on (Goes t m) w = on t m w
StepAsks P on (Asks q t go) w =
    P w q × on t (go (answer_to world_functions w q)) (after_query world_functions w q)
StepAsks P on (Ends n) w = Unit {0}

-- from that slot on the next n steps ask nothing else
abbrev pub AsksWithin :
    (WorldState → Query → Type 0) → Callback → Code → ℕ → ℕ → Machine → WorldState → Type 0
AsksWithin P c code zero s m w = Unit {0}
AsksWithin P c code (suc n) s m w = StepAsks P (AsksWithin P c code n) (step c code s m) w

-- nor does the run of a callback that is called
abbrev pub CallAsks : (WorldState → Query → Type 0) → CallMade → Type 0
CallAsks P c =
    (n : ℕ)
    → AsksWithin P c.callback c.program.code n 0 (start (program_arguments c.arguments) c.maps)
    c.world

-- the same of each of these
abbrev pub CallsAsk : (WorldState → Query → Type 0) → List CallMade → Type 0
CallsAsk P [] = Unit {0}
CallsAsk P (c ∷ cs) = CallAsks P c × CallsAsk P cs

-- the program that is called is the policy's
abbrev pub IsCallOf : PolicyState → CallMade → Type 0
IsCallOf p c = program_of p c.callback ≡ Some c.program

-- each of these calls of a program of the policy asks alone what such a call may
abbrev pub OwnCallsAsk :
    (CallMade → WorldState → Query → Type 0) → PolicyState → List CallMade → Type 0
OwnCallsAsk P p [] = Unit {0}
OwnCallsAsk P p (c ∷ cs) = (IsCallOf p c → CallAsks (P c) c) × OwnCallsAsk P p cs

-- A callback that is called runs as it was verified: its program, its arguments and its maps fit.
pub record IsFitting (c : CallMade) : Type 0 where
  pub callback : c.program.context.callback ≡ c.callback
  pub arguments : FitsCallback c.callback (program_arguments c.arguments)
  pub shapes : HasShapes c.program.context.defs c.maps

-- each of these callbacks runs to its end as it was verified
abbrev pub RunAsVerified : List CallMade → Type 0
RunAsVerified [] = Unit {0}
RunAsVerified (c ∷ cs) = IsAnswered c × IsFitting c × RunAsVerified cs

-- ---- laws

-- if no run of its program asks for that field of a task, as long as what is answered fits, the
-- callback doesn't
abbrev pub AnsweredCallsLoadNone : Type 0
AnsweredCallsLoadNone =
    (f : Field) (c : CallMade)
    → IsAnswered c → IsFitting c → AsksOnly (LoadsNo f) c.program.context c.program.code
    → CallAsks (λ w. LoadsNo f) c

-- and if each insert gives a slice in all such runs, each of the callback's does
abbrev pub AnsweredCallsGive : Type 0
AnsweredCallsGive =
    (c : CallMade)
    → IsAnswered c → IsFitting c → AsksOnly GivesOne c.program.context c.program.code
    → CallAsks (λ w. GivesOne) c
