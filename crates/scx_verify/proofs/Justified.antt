-- Refusals are justified: every typing covers the forward states, so where one of these fails a check,
-- so does the state of a typing there.
use Rattle.std.proofs.Common.{◌≡◌, false, ℕ, zero, suc, ◌+◌, ◌<◌, ◌≤◌, inl, inr, Option, Some, None, Result, Ok, refl, sym, subst, arith}
use Rattle.scx_isa_semantics.specs.declared.instructions.Insn.{Insn}
use Rattle.scx_isa_semantics.specs.Code.{Code, size}
use Rattle.scx_isa_semantics.specs.Steps.{target}
use Rattle.scx_isa_encoding.specs.Spelling.{IsInsn}
use Rattle.scx_isa.specs.Spelling.{IsProgram}
use Rattle.scx_isa.proofs.Codes.{occupant_fits}
use Rattle.scx_vm.specs.declared.context.Context.{Context}
use Rattle.scx_abs.specs.declared.rules.Next.{Next}
use Rattle.scx_abs.specs.declared.faults.Why.{Why}
use Rattle.scx_abs.specs.declared.states.AbsState.{AbsState}
use Rattle.scx_abs.specs.States.{CoversState, CoversSome, IsProper}
use Rattle.scx_abs.specs.Rules.{rule}
use Rattle.scx_abs.specs.Monotone.{PassesToo, CoversIfAny, CoversFlows}
use Rattle.scx_abs.proofs.Orders.{covers_through}
use Rattle.scx_abs.proofs.MonotoneRules.{rules_monotone}
use Rattle.scx_verify.specs.declared.faults.Fault.TheVariants.{Flow, Rule, NoMemory}
use Rattle.scx_verify.specs.declared.faults.VerifyError.{VerifyError}
use Rattle.scx_verify.specs.Faults.{IsRefusal, IsJustified}
use Rattle.scx_verify.specs.Typing.{States, CoversAt, CoversNext, Passes, IsTyping, IsTyped}
use Rattle.scx_verify.specs.Forward.{IsSent, FlowsTo, Arrives, IsLeast, AreForward, IsFirstRefusal}
use Rattle.scx_verify.specs.Laws.{TypingsCoverForward, RefusalsAreJustified}
use Rattle.scx_verify.proofs.Agreement.{flows_faultless}
use Rattle.scx_verify.proofs.Visits.{kept_proper}

-- ---- what a typing's instruction lets flow on covers what a forward state's does

some_through : (o : Option AbsState) (y x : AbsState) → CoversSome o y → CoversState y x → CoversSome o x
some_through None y x h g = absurd h
some_through (Some b) y x h g = covers_through b y x h g

at_through : (states : States) (t : Option ℕ) (y x : AbsState) → CoversAt states t y → CoversState y x → CoversAt states t x
at_through states None y x h g = absurd h
at_through states (Some t) y x h g = some_through (states t) y x h g

on_covered : (states : States) (t : ℕ) (o : Option AbsState) (x : AbsState) → ((y : AbsState) → o ≡ Some y → CoversSome (states t) y) → CoversSome o x → CoversSome (states t) x
on_covered states t None x f h = absurd h
on_covered states t (Some y) x f h = some_through (states t) y x (f y refl) h

jump_covered : (states : States) (t : Option ℕ) (o : Option AbsState) (x : AbsState) → ((y : AbsState) → o ≡ Some y → CoversAt states t y) → CoversSome o x → CoversAt states t x
jump_covered states t None x f h = absurd h
jump_covered states t (Some y) x f h = at_through states t y x (f y refl) h

sent_covered : (typed : States) (s t : ℕ) (i : Insn) (next other : Next) (x : AbsState) → CoversNext typed s i next → CoversFlows next other → IsSent s i other t x → CoversSome (typed t) x
sent_covered typed s t i next other x c f (inl h) =
    subst (λ u. CoversSome (typed u) x) (sym h.1) (on_covered typed (s + size i) next.on x c.on (subst (λ o. CoversIfAny next.on o) h.0 f.on))
sent_covered typed s t i next other x c f (inr h) =
    subst (λ u. CoversAt typed u x) h.1 (jump_covered typed (target s i) next.jump x c.jump (subst (λ o. CoversIfAny next.jump o) h.0 f.jump))

-- there is a state in the typing, and it covers the forward state
record IsCovered (typed : States) (t : ℕ) (a : AbsState) : Type 0 where
  state : AbsState
  here : typed t ≡ Some state
  covers : CoversState state a

covered_here : (typed : States) (t : ℕ) (a : AbsState) → CoversSome (typed t) a → IsCovered typed t a
covered_here typed t a h = go (typed t) refl h
  where
    go : (o : Option AbsState) → typed t ≡ o → CoversSome o a → IsCovered typed t a
    go None e c = absurd c
    go (Some b) e c = record { state = b; here = e; covers = c }

abbrev ok : Next → Result Next Why
ok next = Ok next

-- the rule at the slot, in the typing's state and in the forward state
passes_here : (c : Context) (code : Code) (typed : States) (s : ℕ) (i : Insn) (a : AbsState) (here : IsCovered typed s a) (p : Passes c typed s i here.state) → IsInsn i → IsProper here.state → IsProper a
    → PassesToo CoversFlows (ok p.next) (rule c i a)
passes_here c code typed s i a here p fits more proper =
    subst (λ r. PassesToo CoversFlows r (rule c i a)) p.passes (rules_monotone c i here.state a fits more proper here.covers)

flows_covered : (c : Context) (code : Code) (states typed : States) (s t : ℕ) (x : AbsState) → IsProgram code → IsTyping c code typed → (f : FlowsTo c code states s t x) → IsProper f.state → CoversSome (typed s) f.state
    → CoversSome (typed t) x
flows_covered c code states typed s t x program typing f proper h =
    let here = covered_here typed s f.state h in
    let p : Passes c typed s f.insn here.state = typing.insns s f.insn here.state f.there here.here in
    let both : CoversFlows p.next f.next = subst (λ r. PassesToo CoversFlows (ok p.next) r) f.passes (passes_here c code typed s f.insn f.state here p (occupant_fits false code s program.insns f.insn f.there) (typing.proper s here.state here.here) proper) in
    sent_covered typed s t f.insn p.next f.next x p.covered both f.sent

-- ---- typings cover the forward states

-- a typing that covers all that arrives covers the least state
covers_least : (o p : Option AbsState) (x : AbsState) (P : AbsState → Type 0) → p ≡ Some x → IsLeast p P → ((b : AbsState) → P b → CoversSome o b) → CoversSome o x
covers_least o None x P e h f = absurd (cc)
covers_least None (Some y) x P e h f = f h.some.0 h.some.1
covers_least (Some a) (Some y) x P e h f = let same : y ≡ x = cc in subst (λ z. CoversState a z) same (h.least a f)

arrived_covered : (c : Context) (code : Code) (states typed : States) (slot t : ℕ) → IsProgram code → AreForward c code states slot → IsTyping c code typed → t ≤ slot
    → ((s : ℕ) (b : AbsState) → s < t → states s ≡ Some b → CoversSome (typed s) b) → (x : AbsState) → Arrives c code states t t x → CoversSome (typed t) x
arrived_covered c code states typed slot t program forward typing le before x (inl h) = rw (h.0, h.1) typing.start
arrived_covered c code states typed slot t program forward typing le before x (inr h) =
    let f : FlowsTo c code states h.0 t x = h.2 in
    flows_covered c code states typed h.0 t x program typing f (kept_proper (states h.0) f.state (Arrives c code states h.0 h.0) f.here (forward h.0 (omega (arith, h.1, le))))
    (before h.0 f.state h.1 f.here)

covered : (c : Context) (code : Code) (states typed : States) (slot : ℕ) → IsProgram code → AreForward c code states slot → IsTyping c code typed → (n t : ℕ) (a : AbsState) → t < n → t ≤ slot → states t ≡ Some a
    → CoversSome (typed t) a
covered c code states typed slot program forward typing zero t a lt le e = absurd (omega (arith, lt))
covered c code states typed slot program forward typing (suc n) t a lt le e =
    covers_least (typed t) (states t) a (Arrives c code states t t) e (forward t le)
    (arrived_covered c code states typed slot t program forward typing le
    (λ s b before here. covered c code states typed slot program forward typing n s b (omega (arith, before, lt)) (omega (arith, before, le)) here))

-- the law of typings
pub typings_cover : TypingsCoverForward
typings_cover c code states typed slot program forward typing t a le e = covered c code states typed slot program forward typing (suc t) t a (omega arith) le e

-- ---- refusals

no_typing : (c : Context) (code : Code) (why : Why) (slot : ℕ) → IsProgram code → IsFirstRefusal c code why slot → IsTyped c code → ⊥
no_typing c code why slot program r typed =
    let here = covered_here typed.states slot r.state (typings_cover c code r.states typed.states slot program r.forward typed.typing slot r.state (omega arith) r.here) in
    let p : Passes c typed.states slot r.insn here.state = typed.typing.insns slot r.insn here.state r.there here.here in
    let proper = kept_proper (r.states slot) r.state (Arrives c code r.states slot slot) r.here (r.forward slot (omega arith)) in
    subst (λ s. PassesToo CoversFlows (ok p.next) s) r.fails (passes_here c code typed.states slot r.insn r.state here p (occupant_fits false code slot program.insns r.insn r.there) (typed.typing.proper slot here.state here.here) proper)

-- the law of refusals
pub refusals_justified : RefusalsAreJustified
refusals_justified c code (Flow fault) slot program other r typed = flows_faultless code fault slot typed.flows r
refusals_justified c code (Rule why) slot program other r typed = no_typing c code why slot program r.1 typed
refusals_justified c code NoMemory slot program other r typed = other refl

-- the same of an error
pub refusal_justified : (c : Context) (code : Code) (error : VerifyError) → IsProgram code → IsRefusal c code error → IsJustified c code error
refusal_justified c code error program r other typed = refusals_justified c code error.fault error.slot program other r typed
