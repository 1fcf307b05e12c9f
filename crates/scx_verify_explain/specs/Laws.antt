-- A listing comes as far as `verify`.
use Rattle.std.specs.Prelude.{◌≡◌, ℕ, ◌+◌, length}
use Rattle.scx_isa_semantics.specs.Code.{Code}
use Rattle.scx_vm.specs.declared.context.Context.{Context}
use Rattle.scx_abs.specs.declared.faults.Why.{Why}
use Rattle.scx_isa.specs.Spelling.{IsProgram}
use Rattle.scx_verify.specs.declared.faults.Fault.TheVariants.{Flow, Rule}
use Rattle.scx_isa.specs.declared.faults.FlowFault.{FlowFault}
use Rattle.scx_verify.specs.Typing.{IsTyped}
use Rattle.scx_verify.specs.Faults.{IsReason}
use Rattle.scx_verify_explain.specs.declared.listing.Listing.{Listing}
use Rattle.scx_verify_explain.specs.Listings.{IsListing}

-- The last slot that is looked at is the one that is refused for a check.
abbrev pub ListingsEndAtRefusals : Type 0
ListingsEndAtRefusals =
    (c : Context) (program : Code) (listing : Listing) (why : Why) (slot : ℕ)
    → IsProgram program → IsListing c program listing → IsReason c program (Rule why) slot
    → listing.pass.slots ≡ slot + 1

-- Where the flow is refused, no slot is looked at.
abbrev pub ListingsNeedFlow : Type 0
ListingsNeedFlow =
    (c : Context) (program : Code) (listing : Listing) (fault : FlowFault) (slot : ℕ)
    → IsListing c program listing → IsReason c program (Flow fault) slot → listing.pass.slots ≡ 0

-- Of a program that is accepted all slots are looked at.
abbrev pub ListingsAreWhole : Type 0
ListingsAreWhole =
    (c : Context) (program : Code) (listing : Listing)
    → IsProgram program → IsListing c program listing → IsTyped c program
    → listing.pass.slots ≡ length program
