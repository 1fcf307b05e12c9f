-- The laws of rules and of the order, which are the contracts of public functions without bodies of
-- their own: the rule of an instruction against its meaning, and that states stay proper.
use Rattle.std.specs.Prelude.{◌≡◌, Bool, true, false, IsTrue, List, Option, Some, None, is_some, Result, Ok, Err, IfSome, IfOk}
use Rattle.std.specs.Bool.{IsFalse}
use Rattle.scx_isa_semantics.specs.declared.instructions.Insn.{Insn}
use Rattle.scx_isa_semantics.specs.declared.instructions.Insn.TheVariants as insn
use Rattle.scx_isa_semantics.specs.declared.values.Value.{Value}
use Rattle.scx_isa_semantics.specs.declared.callbacks.Callback.{Callback}
use Rattle.scx_isa_semantics.specs.Elements.{Maps}
use Rattle.scx_isa_semantics.specs.Machine.{Machine, Arguments, start}
use Rattle.scx_isa_semantics.specs.Effects as effect
use Rattle.scx_isa_semantics.specs.Effects.{Effect}
use Rattle.scx_isa_semantics.specs.Meaning.{act}
use Rattle.scx_isa_semantics.specs.Runs.{Fits}
use Rattle.scx_isa_encoding.specs.Spelling.{IsInsn}
use Rattle.scx_maps.specs.declared.shape.Shape.{Shape}
use Rattle.scx_vm.specs.declared.context.Context.{Context}
use Rattle.scx_maps.specs.Contents.{HasShapes}
use Rattle.scx_abs.specs.declared.faults.Why.{Why}
use Rattle.scx_abs.specs.declared.states.AbsState.{AbsState}
use Rattle.scx_abs.specs.declared.rules.Next.{Next}
use Rattle.scx_abs.specs.States.{CoversState, IsProper, start_of}
use Rattle.scx_isa_semantics.specs.Arguments.{FitsCallback}
use Rattle.scx_abs.specs.Stands.{IsMember}
use Rattle.scx_abs.specs.Rules.{null_test, rule}

-- a state flows there, and describes this one
abbrev pub Receives : List Shape → Option AbsState → Machine → Type 0
Receives shapes None m = ⊥
Receives shapes (Some a) m = IsMember shapes a m

-- what an instruction does is among what flows on from it
abbrev pub FlowsIn : List Shape → Next → Effect → Type 0
FlowsIn shapes next effect.Stuck = ⊥
FlowsIn shapes next (effect.Next m) = Receives shapes next.on m
FlowsIn shapes next (effect.Jumped m) = Receives shapes next.jump m
FlowsIn shapes next (effect.Ask q go) = (v : Value) → Fits q v → Receives shapes next.on (go v)
FlowsIn shapes next (effect.Ended n) = Unit {0}

-- where no check failed, what an instruction does is among what flows on from it
abbrev pub IsSoundFor : List Shape → Result Next Why → Effect → Type 0
IsSoundFor shapes (Err why) e = Unit {0}
IsSoundFor shapes (Ok next) e = FlowsIn shapes next e

-- Where the checks of an instruction pass, no state that is stood for is stuck, and what it
-- leads to is stood for by what flows on, whatever the host answers, as long as it fits. The
-- instruction's numbers fit their fields, and the state is proper.
abbrev pub RulesAreSound : Type 0
RulesAreSound =
    (c : Context) (i : Insn) (a : AbsState) (m : Machine)
    → IsInsn i → IsProper a → IsMember c.defs a m
    → IsSoundFor c.defs (rule c i a) (act c.callback i m)

-- whether it is a call of a helper, or a jump that tests a register for 0
abbrev pub is_call_or_null_test : Insn → Bool
is_call_or_null_test (insn.Call k) = true
is_call_or_null_test (insn.JumpIf w k r x offset) = is_some (null_test w k x)
is_call_or_null_test i = false

-- The rule is sound for the instructions of some kind.
abbrev pub RulesAreSoundFor : (Insn → Type 0) → Type 0
RulesAreSoundFor IsOfKind =
    (c : Context) (i : Insn) (a : AbsState) (m : Machine)
    → IsOfKind i → IsInsn i → IsProper a → IsMember c.defs a m
    → IsSoundFor c.defs (rule c i a) (act c.callback i m)

-- The rule is sound for each instruction but calls of helpers and tests for 0.
abbrev pub PlainRulesAreSound : Type 0
PlainRulesAreSound = RulesAreSoundFor (λ i. IsFalse (is_call_or_null_test i))

-- The rule is sound for calls of helpers and for jumps that test a register for 0.
abbrev pub CallsAndNullTestsAreSound : Type 0
CallsAndNullTestsAreSound = RulesAreSoundFor (λ i. IsTrue (is_call_or_null_test i))

-- A callback's start state describes all states in which it may begin.
abbrev pub StartIsSound : Type 0
StartIsSound =
    (shapes : List Shape) (c : Callback) (a : Arguments) (maps : Maps)
    → HasShapes shapes maps → FitsCallback c a → IsMember shapes (start_of c) (start a maps)

-- What covers an abstract state describes all that it describes.
abbrev pub CoversMore : Type 0
CoversMore =
    (shapes : List Shape) (b a : AbsState) (m : Machine)
    → CoversState b a → IsMember shapes a m → IsMember shapes b m

-- Each abstract state covers itself.
abbrev pub CoversItself : Type 0
CoversItself = (a : AbsState) → CoversState a a

-- A state that covers a cover of another covers the other too.
abbrev pub CoversThrough : Type 0
CoversThrough = (c b a : AbsState) → CoversState c b → CoversState b a → CoversState c a

-- Proper states that cover each other are the same.
abbrev pub CoversBothWays : Type 0
CoversBothWays =
    (a b : AbsState) → IsProper a → IsProper b → CoversState a b → CoversState b a → a ≡ b

-- ---- proper states

-- A callback begins in a proper state.
abbrev pub StartIsProper : Type 0
StartIsProper = (c : Callback) → IsProper (start_of c)

-- what flows on is proper
abbrev pub FlowsProper : Next → Type 0
FlowsProper next = IfSome next.on IsProper × IfSome next.jump IsProper

-- What flows on from an instruction in a proper state is proper. The instruction's numbers
-- fit their fields.
abbrev pub RulesKeepProper : Type 0
RulesKeepProper =
    (c : Context) (i : Insn) (a : AbsState)
    → IsInsn i → IsProper a → IfOk (rule c i a) FlowsProper
