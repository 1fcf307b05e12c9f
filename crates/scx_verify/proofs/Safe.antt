-- A program with a typing is safe: wherever a run of it stands, the slot's abstract state stands for the
-- state that the run has come to, and so an instruction there is never stuck.
use Rattle.std.proofs.Common.{◌≡◌, ℕ, zero, suc, ◌+◌, List, Option, Some, None, IsSome, Ok, refl, true, false}
use Rattle.scx_isa_semantics.specs.declared.instructions.Insn.{Insn}
use Rattle.scx_vm.specs.declared.context.Context.{Context}
use Rattle.scx_isa_semantics.specs.Code.{Code, at, size}
use Rattle.scx_isa_semantics.specs.Elements.{Maps}
use Rattle.scx_isa_semantics.specs.Machine.{Machine, Arguments, start}
use Rattle.scx_isa_semantics.specs.Effects as effect
use Rattle.scx_isa_semantics.specs.Effects.{Effect}
use Rattle.scx_isa_semantics.specs.Meaning.{act}
use Rattle.scx_isa_semantics.specs.Steps.{Stuck, Goes, outcome_at, goes, step, target}
use Rattle.scx_isa_semantics.specs.Runs.{LeadsTo, Leads, any_answer}
use Rattle.scx_isa.specs.Spelling.{IsProgram}
use Rattle.scx_isa.specs.Flow.{Flows}
use Rattle.scx_isa.proofs.Codes.{occupant_fits}
use Rattle.scx_isa.proofs.Control.{keeps_control}
use Rattle.scx_maps.specs.declared.shape.Shape.{Shape}
use Rattle.scx_maps.specs.Contents.{HasShapes}
use Rattle.scx_abs.specs.declared.states.AbsState.{AbsState}
use Rattle.scx_abs.specs.declared.rules.Next.{Next}
use Rattle.scx_abs.specs.States.{CoversSome, IsProper, start_of}
use Rattle.scx_isa_semantics.specs.Arguments.{FitsCallback}
use Rattle.scx_abs.specs.Stands.{IsMember}
use Rattle.scx_abs.specs.Rules.{rule}
use Rattle.scx_abs.specs.Laws.{Receives, FlowsIn}
use Rattle.scx_abs.proofs.Orders.{covers_more}
use Rattle.scx_abs.proofs.Sound.{rules_sound, start_sound}
use Rattle.scx_verify.specs.Typing.{States, CoversAt, CoversNext, IsTyping, IsTyped}
use Rattle.scx_verify.specs.Laws.{TypedIsSafe}

-- the slot's abstract state stands for the state
pub record IsAt (shapes : List Shape) (states : States) (s : ℕ) (m : Machine) : Type 0 where
  pub state : AbsState
  pub here : states s ≡ Some state
  pub member : IsMember shapes state m

-- a state that is stood for is so by what covers it
pub covered_at : (shapes : List Shape) (states : States) (t : ℕ) (a : AbsState) (m : Machine) → CoversSome (states t) a → IsMember shapes a m → IsAt shapes states t m
covered_at shapes states t a m h g = go (states t) refl h
  where
    go : (o : Option AbsState) → states t ≡ o → CoversSome o a → IsAt shapes states t m
    go None e c = absurd c
    go (Some b) e c = record { state = b; here = e; member = covers_more shapes b a m c g }

-- what flows on stands for the state, where it goes
received_on : (shapes : List Shape) (states : States) (s : ℕ) (i : Insn) (next : Next) (m : Machine) → CoversNext states s i next → Receives shapes next.on m → IsAt shapes states (s + size i) m
received_on shapes states s i next m c r = go next.on refl r
  where
    go : (o : Option AbsState) → next.on ≡ o → Receives shapes o m → IsAt shapes states (s + size i) m
    go None e h = absurd h
    go (Some a) e h = covered_at shapes states (s + size i) a m (c.on a e) h

-- where a jump goes
record JumpsTo (shapes : List Shape) (states : States) (s : ℕ) (i : Insn) (m : Machine) : Type 0 where
  slot : ℕ
  is : target s i ≡ Some slot
  stands : IsAt shapes states slot m

received_jump : (shapes : List Shape) (states : States) (s : ℕ) (i : Insn) (next : Next) (m : Machine) → CoversNext states s i next → Receives shapes next.jump m → JumpsTo shapes states s i m
received_jump shapes states s i next m c r = go next.jump refl r
  where
    there : (t : Option ℕ) → target s i ≡ t → (a : AbsState) → CoversAt states t a → IsMember shapes a m → JumpsTo shapes states s i m
    there None e a h g = absurd h
    there (Some t) e a h g = record { slot = t; is = e; stands = covered_at shapes states t a m h g }

    go : (o : Option AbsState) → next.jump ≡ o → Receives shapes o m → JumpsTo shapes states s i m
    go None e h = absurd h
    go (Some a) e h = there (target s i) refl a (c.jump a e) h

-- an effect that is among what flows on leads to where it is stood for, and isn't stuck
effect_at : (shapes : List Shape) (states : States) (s t : ℕ) (i : Insn) (next : Next) (e : Effect) (k : Machine) → CoversNext states s i next → FlowsIn shapes next e → LeadsTo any_answer (outcome_at s i e) tt t k tt → IsAt shapes states t k
effect_at shapes states s t i next effect.Stuck k c f l = absurd f
effect_at shapes states s t i next (effect.Next m) k c f l = rw (l.0, l.1) (received_on shapes states s i next m c f)
effect_at shapes states s t i next (effect.Jumped m) k c f l =
    let to = received_jump shapes states s i next m c f in
    let l' : LeadsTo any_answer (goes (Some to.slot) m) tt t k tt = rw to.is at l in
    rw (l'.0, l'.1) to.stands
effect_at shapes states s t i next (effect.Ask q go) k c f l = rw (l.2, l.3) (received_on shapes states s i next (go l.0) c (f l.0 l.1))
effect_at shapes states s t i next (effect.Ended n) k c f l = absurd l

goes_stuck : (t : ℕ) (m : Machine) → Goes t m ≡ Stuck → ⊥
goes_stuck t m e = absurd (cc)

-- an effect that flows on isn't stuck
pub effect_goes : (shapes : List Shape) (states : States) (s : ℕ) (i : Insn) (next : Next) (e : Effect) → CoversNext states s i next → FlowsIn shapes next e → outcome_at s i e ≡ Stuck → ⊥
effect_goes shapes states s i next effect.Stuck c f h = f
effect_goes shapes states s i next (effect.Next m) c f h = goes_stuck (s + size i) m h
effect_goes shapes states s i next (effect.Jumped m) c f h =
    let to = received_jump shapes states s i next m c f in
    goes_stuck to.slot m (rw to.is at h)
effect_goes shapes states s i next (effect.Ask q go) c f h = absurd (cc)
effect_goes shapes states s i next (effect.Ended n) c f h = absurd (cc)

-- the instruction there passes its checks, and what it does flows on
pub flows_in : (c : Context) (code : Code) (s : ℕ) (i : Insn) (a : AbsState) (m : Machine) (next : Next) → IsProgram code → at code s ≡ Some i → IsProper a → IsMember c.defs a m → rule c i a ≡ Ok next
    → FlowsIn c.defs next (act c.callback i m)
flows_in c code s i a m next program there proper h e = rw e at (rules_sound c i a m (occupant_fits false code s program.insns i there) proper h)

-- a step leads to where the typing stands for it
pub step_at : (c : Context) (code : Code) (states : States) (s t : ℕ) (m k : Machine) → IsProgram code → IsTyping c code states → IsAt c.defs states s m → LeadsTo any_answer (step c.callback code s m) tt t k tt → IsAt c.defs states t k
step_at c code states s t m k program typing here l = go (at code s) refl
  where
    go : (o : Option Insn) → at code s ≡ o → IsAt c.defs states t k
    go None e = absurd (rw e at l)
    go (Some i) e =
        let passes = typing.insns s i here.state e here.here in
        effect_at c.defs states s t i passes.next (act c.callback i m) k passes.covered (flows_in c code s i here.state m passes.next program e (typing.proper s here.state here.here) here.member passes.passes) (rw e at l)

steps_at : (c : Context) (code : Code) (states : States) (n s t : ℕ) (m k : Machine) → IsProgram code → IsTyping c code states → IsAt c.defs states s m → Leads any_answer c.callback code n s m tt t k tt → IsAt c.defs states t k
steps_at c code states zero s t m k program typing here l = rw (l.0, l.1) here
steps_at c code states (suc n) s t m k program typing here l = steps_at c code states n l.0 t l.1 k program typing (step_at c code states s l.0 m l.1 program typing here l.3) l.4

goes_on : (c : Context) (code : Code) (states : States) (s : ℕ) (m : Machine) → IsProgram code → IsTyping c code states → IsAt c.defs states s m → IsSome (at code s) → step c.callback code s m ≡ Stuck → ⊥
goes_on c code states s m program typing here some stuck = go (at code s) refl
  where
    go : (o : Option Insn) → at code s ≡ o → ⊥
    go None e = let bad : false ≡ true = rw e at some in absurd (cc)
    go (Some i) e =
        let passes = typing.insns s i here.state e here.here in
        effect_goes c.defs states s i passes.next (act c.callback i m) passes.covered (flows_in c code s i here.state m passes.next program e (typing.proper s here.state here.here) here.member passes.passes) (rw e at stuck)

-- wherever a run stands
reached : (c : Context) (code : Code) (program : IsProgram code) (typed : IsTyped c code) (a : Arguments) (maps : Maps) (n s : ℕ) (m : Machine) → HasShapes c.defs maps → FitsCallback c.callback a
    → Leads any_answer c.callback code n 0 (start a maps) tt s m tt → IsAt c.defs typed.states s m
reached c code program typed a maps n s m shaped fits l =
    let first = covered_at c.defs typed.states 0 (start_of c.callback) (start a maps) typed.typing.start (start_sound c.defs c.callback a maps shaped fits) in
    steps_at c code typed.states n 0 s (start a maps) m program typed.typing first l

-- a program without a fault in its flow is typed by a typing
abbrev pub typed_by : (c : Context) (code : Code) (states : States) → Flows code → IsTyping c code states → IsTyped c code
typed_by c code states flows typing = record { flows = flows; states = states; typing = typing }

-- the law
pub typed_safe : TypedIsSafe
typed_safe c code program typed = record {
  never_stuck = λ a maps shaped fits n s m l. goes_on c code typed.states s m program typed.typing (reached c code program typed a maps n s m shaped fits l) ((keeps_control code program typed.flows c.callback (start a maps) n s m l).0);
  bounded = λ a maps shaped fits n s m l. (keeps_control code program typed.flows c.callback (start a maps) n s m l).1;
  keeps_shapes = λ a maps shaped fits n s m l. (reached c code program typed a maps n s m shaped fits l).member.maps;
}
