-- The jumps that lead to a slot.
use Rattle.std.specs.Prelude.{◌≡◌, ℕ, ◌+◌, ◌<◌, ◌≤◌, ℤ, pos, Bool, ◌&&◌, nat_eq, is_some, List, slice_index_or, length, Option, Some, None, Result, Ok, Err, if◌then◌else◌}
use Rattle.scx_isa_semantics.specs.declared.instructions.Insn.{Insn}
use Rattle.scx_isa_semantics.specs.declared.instructions.Insn.TheVariants.{JumpIf, Goto, GotoLong}
use Rattle.scx_isa_semantics.specs.Code.{at, size}
use Rattle.scx_vm.specs.declared.context.Context.{Context}
use Rattle.scx_abs.specs.declared.faults.Why.{Why}
use Rattle.scx_abs.specs.declared.states.AbsState.{AbsState}
use Rattle.scx_abs.specs.declared.rules.Next.{Next}
use Rattle.scx_abs.specs.Rules.{rule}
use Rattle.scx_verify_explain.specs.declared.listing.Listing.{Listing}
use Rattle.scx_verify_explain.specs.declared.jumps.Jumps.{Jumps}
use Rattle.scx_verify_explain.specs.Listings.{known_at}

-- where a jump leads that goes that far from the slot after it, if it goes forward
abbrev pub forward : ℕ → ℤ → Option ℕ
forward s (pos n) = Some (s + n)
forward s k = None

-- the slot to which a jump leads that goes forward
abbrev pub target_of : ℕ → Insn → Option ℕ
target_of s (JumpIf w c r x distance) = forward (s + 1) distance
target_of s (Goto distance) = forward (s + 1) distance
target_of s (GotoLong distance) = forward (s + 1) distance
target_of s i = None

-- that slot, if it isn't the next one, to which control goes on
abbrev pub apart : ℕ → Bool → Option ℕ → Option ℕ
apart next goes_on None = None
apart next goes_on (Some t) = if goes_on && nat_eq t next then None else Some t

-- where control jumps from an instruction, by what flows on from it
abbrev pub sent_by_jump : ℕ → Insn → Result Next Why → Option ℕ
sent_by_jump s i (Err why) = None
sent_by_jump s i (Ok next) =
    if is_some next.jump then apart (s + size i) (is_some next.on) (target_of s i) else None

-- where control jumps from that instruction in that state; nowhere where either isn't there
abbrev pub jump_of : Context → ℕ → Option Insn → Option AbsState → Option ℕ
jump_of c s None a = None
jump_of c s (Some i) None = None
jump_of c s (Some i) (Some a) = sent_by_jump s i (rule c i a)

-- Where control jumps from the instruction at a slot, as far as is known what it may do there.
-- Where it goes on to the same slot too, it needn't jump to get there.
abbrev pub jump_from : Listing → ℕ → Option ℕ
jump_from l s = jump_of l.context s (at l.code.items s) (known_at l s)

-- the first slot from the n-th on from which control jumps to that one
abbrev pub IsFirstFrom : (ℕ → Option ℕ) → ℕ → ℕ → Option ℕ → Type 0
IsFirstFrom jumps n t None = (s : ℕ) → n ≤ s → jumps s ≡ Some t → ⊥
IsFirstFrom jumps n t (Some s) =
    (n ≤ s) × (jumps s ≡ Some t) × ((r : ℕ) → n ≤ r → r < s → jumps r ≡ Some t → ⊥)

-- what `Jumps::first` and `Jumps::next` answer
abbrev pub first_at : Jumps → ℕ → Option ℕ
first_at j t = slice_index_or j.first.items t None

-- what `Jumps::next` answers: the next slot that jumps where this one does; none past the last
abbrev pub next_at : Jumps → ℕ → Option ℕ
next_at j s = slice_index_or j.next.items s None

-- The jumps from the n-th slot on, to one of that many slots: to each the first, and after each
-- jump the next one that leads to the same slot.
pub record AreFrom (jumps : ℕ → Option ℕ) (n slots : ℕ) (heads links : List (Option ℕ))
    : Type 0 where
  pub heads_long : length heads ≡ slots
  pub links_long : length links ≡ slots
  pub first : (t : ℕ) → t < slots → IsFirstFrom jumps n t (slice_index_or heads t None)
  pub next : (s t : ℕ)
      → n ≤ s → t < slots → jumps s ≡ Some t
      → IsFirstFrom jumps (s + 1) t (slice_index_or links s None)

-- these are the jumps of a listing from the n-th slot on
abbrev pub AreJumpsFrom : Listing → ℕ → Jumps → Type 0
AreJumpsFrom l n j = AreFrom (jump_from l) n (length l.code.items) j.first.items j.next.items

-- these are all jumps of a listing
abbrev pub AreJumps : Listing → Jumps → Type 0
AreJumps l j = AreJumpsFrom l 0 j
