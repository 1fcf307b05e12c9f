-- Listings: the program, and the forward states, as far as the pass comes that `verify`
-- makes too.
use Rattle.std.specs.Prelude.{◌≡◌, ℕ, ◌+◌, ◌<◌, ◌⊎◌, nat_lt, length, Option, None, if◌then◌else◌}
use Rattle.scx_isa_semantics.specs.Code.{Code}
use Rattle.scx_vm.specs.declared.context.Context.{Context}
use Rattle.scx_isa.specs.declared.faults.FlowFault.{FlowFault}
use Rattle.scx_isa.specs.Flow.{Flows, IsFirstFlowFault}
use Rattle.scx_abs.specs.declared.faults.Why.{Why}
use Rattle.scx_abs.specs.declared.states.AbsState.{AbsState}
use Rattle.scx_verify.specs.Typing.{States, IsTyping}
use Rattle.scx_verify.specs.Forward.{Arrives, IsLeast, IsFirstRefusal}
use Rattle.scx_verify.specs.Pass.{states_of}
use Rattle.scx_verify_explain.specs.declared.listing.Listing.{Listing}

-- the pass came to the end, and the states are a typing, or the last slot that it came
-- to is refused
abbrev pub IsEnd : Context → Code → States → ℕ → Type 0
IsEnd c code states slots =
    ((slots ≡ length code) × IsTyping c code states)
    ⊎ ((why : Why) × (slot : ℕ) × (slots ≡ slot + 1) × IsFirstRefusal c code why slot)

-- These are the forward states of that many slots, which are all, or those up to the first
-- that is refused.
pub record IsPass (c : Context) (code : Code) (states : States) (slots : ℕ) : Type 0 where
  pub forward : (t : ℕ) → t < slots → IsLeast (states t) (Arrives c code states t t)
  pub ends : IsEnd c code states slots

-- where the flow is refused, nothing is known of any slot
abbrev pub IsKnown : Context → Code → States → ℕ → Type 0
IsKnown c code states slots =
    (Flows code × IsPass c code states slots)
    ⊎ ((fault : FlowFault) × (slot : ℕ) × IsFirstFlowFault code fault slot × (slots ≡ 0))

-- a listing of a program that is run in that context
pub record IsListing (c : Context) (program : Code) (listing : Listing) : Type 0 where
  pub context : listing.context ≡ c
  pub code : listing.code.items ≡ program
  pub known : IsKnown c program (states_of listing.pass.states.items) listing.pass.slots

-- what is known at a slot, as far as the pass came
abbrev pub known_at : Listing → ℕ → Option AbsState
known_at listing slot =
    if nat_lt slot listing.pass.slots then states_of listing.pass.states.items slot else None
