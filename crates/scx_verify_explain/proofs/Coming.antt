-- Where a listing ends, and `verify` too.
use Rattle.std.proofs.Common.{◌≡◌, ℕ, ◌+◌, inl, inr, length, ap, ◌∙◌}
use Rattle.scx_isa_semantics.specs.Code.{Code}
use Rattle.scx_vm.specs.declared.context.Context.{Context}
use Rattle.scx_abs.specs.declared.faults.Why.{Why}
use Rattle.scx_isa.specs.Flow.{Flows}
use Rattle.scx_isa.specs.Spelling.{IsProgram}
use Rattle.scx_verify.specs.declared.faults.Fault.TheVariants.{Rule, NoMemory}
use Rattle.scx_verify.specs.Typing.{States, IsTyped}
use Rattle.scx_verify.specs.Forward.{IsFirstRefusal}
use Rattle.scx_verify.proofs.Agreement.{first_refusals_agree, flows_faultless}
use Rattle.scx_verify.proofs.Justified.{refusals_justified}
use Rattle.scx_verify_explain.specs.Listings.{IsEnd, IsKnown}
use Rattle.scx_verify_explain.specs.Laws.{ListingsEndAtRefusals, ListingsNeedFlow, ListingsAreWhole}

rule_is_none : (why : Why) → Rule why ≡ NoMemory → ⊥
rule_is_none why e = absurd (cc)

-- a program that has a typing isn't refused for a check
typed_refused : (c : Context) (code : Code) (why : Why) (slot : ℕ) → IsProgram code → Flows code → IsFirstRefusal c code why slot → IsTyped c code → ⊥
typed_refused c code why slot program flow first typed = refusals_justified c code (Rule why) slot program (rule_is_none why) (flow, first) typed

ends_at_refusal : (c : Context) (code : Code) (states : States) (slots : ℕ) (why : Why) (slot : ℕ) → IsProgram code → Flows code → IsEnd c code states slots → IsFirstRefusal c code why slot → slots ≡ slot + 1
ends_at_refusal c code states slots why slot program flow (inl h) first = absurd (typed_refused c code why slot program flow first (record { flows = flow; states = states; typing = h.1 }))
ends_at_refusal c code states slots why slot program flow (inr h) first = h.2 ∙ ap (λ s. s + 1) (first_refusals_agree c code h.0 why h.1 slot h.3 first).1

known_at_refusal : (c : Context) (code : Code) (states : States) (slots : ℕ) (why : Why) (slot : ℕ) → IsProgram code → IsKnown c code states slots → Flows code → IsFirstRefusal c code why slot → slots ≡ slot + 1
known_at_refusal c code states slots why slot program (inl h) flow first = ends_at_refusal c code states slots why slot program flow h.1.ends first
known_at_refusal c code states slots why slot program (inr h) flow first = absurd (flows_faultless code h.0 h.1 flow h.2)

-- The last slot that is looked at is the one that is refused for a check.
pub listings_end : ListingsEndAtRefusals
listings_end c program listing why slot fits h reason = known_at_refusal c program _ listing.pass.slots why slot fits h.known reason.0 reason.1

known_without_flow : (c : Context) (code : Code) (states : States) (slots : ℕ) → IsKnown c code states slots → (Flows code → ⊥) → slots ≡ 0
known_without_flow c code states slots (inl h) none = absurd (none h.0)
known_without_flow c code states slots (inr h) none = h.3

-- Where the flow is refused, no slot is looked at.
pub listings_need_flow : ListingsNeedFlow
listings_need_flow c program listing fault slot h reason = known_without_flow c program _ listing.pass.slots h.known (λ flow. flows_faultless program fault slot flow reason)

ends_whole : (c : Context) (code : Code) (states : States) (slots : ℕ) → IsProgram code → IsEnd c code states slots → IsTyped c code → slots ≡ length code
ends_whole c code states slots program (inl h) typed = h.0
ends_whole c code states slots program (inr h) typed = absurd (typed_refused c code h.0 h.1 program typed.flows h.3 typed)

known_whole : (c : Context) (code : Code) (states : States) (slots : ℕ) → IsProgram code → IsKnown c code states slots → IsTyped c code → slots ≡ length code
known_whole c code states slots program (inl h) typed = ends_whole c code states slots program h.1.ends typed
known_whole c code states slots program (inr h) typed = absurd (flows_faultless code h.0 h.1 typed.flows h.2)

-- Of a program that is accepted all slots are looked at.
pub listings_whole : ListingsAreWhole
listings_whole c program listing fits h typed = known_whole c program _ listing.pass.slots fits h.known typed
