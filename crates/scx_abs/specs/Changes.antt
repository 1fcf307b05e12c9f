-- The change that an instruction makes to the state before it, on each way that control goes on:
-- little, so that one state can be kept and changed in place.
use Rattle.std.specs.Prelude.{ℕ, ◌/◌, ◌<◌, ◌≤◌, ◌≡◌, List, [], slice_index_or, Some, None, Result, Ok, Err}
use Rattle.scx_isa_semantics.specs.Registers.{number}
use Rattle.scx_abs.specs.declared.faults.Why.{Why}
use Rattle.scx_abs.specs.declared.kinds.Cell.{Cell}
use Rattle.scx_abs.specs.declared.kinds.Cell.TheVariants.{Bytes}
use Rattle.scx_abs.specs.declared.states.AbsState.{AbsState}
use Rattle.scx_abs.specs.declared.changes.Change.{Change}
use Rattle.scx_abs.specs.declared.changes.Change.TheVariants as change
use Rattle.scx_abs.specs.declared.changes.Flow.{Flow}
use Rattle.scx_abs.specs.declared.changes.Flow.TheVariants.{End, On, Jump, Both}
use Rattle.scx_abs.specs.declared.rules.Next.{Next}
use Rattle.scx_abs.specs.Cells.{no_bytes}
use Rattle.scx_abs.specs.States.{cell_at, with_kind}
use Rattle.scx_abs.specs.declared.memory.Area.{Area}
use Rattle.scx_abs.specs.declared.memory.Area.TheVariants.{OnStack}
use Rattle.scx_abs.specs.Calls.{after_call, with_written}
use Rattle.scx_abs.specs.Checks.{flows, goes_on}

-- the state with that change of its registers, and of the cells that a helper wrote to
abbrev pub after_change : AbsState → Change → AbsState
after_change a change.Nothing = a
after_change a (change.Register r k) = with_kind a (number r) k
after_change a (change.Called k) = after_call a k
after_change a (change.Filled k at n) = after_call (with_written a at n) k

-- what flows on from that state, changed
abbrev pub next_of : AbsState → Flow → Next
next_of a End = flows None None
next_of a (On c) = flows (Some (after_change a c)) None
next_of a (Jump c) = flows None (Some (after_change a c))
next_of a (Both c d) = flows (Some (after_change a c)) (Some (after_change a d))

-- what flows on from that state, changed, where no check failed
abbrev pub next_states : AbsState → Result Flow Why → Result Next Why
next_states a (Ok f) = Ok (next_of a f)
next_states a (Err why) = Err why

-- the state, changed, goes on to the next instruction alone, where no check failed
abbrev pub went_on : AbsState → Result Change Why → Result Next Why
went_on a (Ok c) = goes_on (after_change a c)
went_on a (Err why) = Err why

-- a state that was changed in place goes on to the next instruction alone, where no check failed
abbrev pub done_on : {A : Type 0} → AbsState → Result A Why → Result Next Why
done_on a (Ok x) = goes_on a
done_on a (Err why) = Err why

-- nothing flows on where the program ends, if no check failed
abbrev pub ended_on : Result (Unit {0}) Why → Result Next Why
ended_on (Ok u) = Ok (flows None None)
ended_on (Err why) = Err why

-- ---- how much of the stack is known of

-- the lowest cell that a store there writes; 64 where it writes none
abbrev pub lowest_in : Area → ℕ
lowest_in (OnStack at) = at / 8
lowest_in area = 64

-- the lowest cell that a change writes; 64 where it writes none
abbrev pub lowest_changed : Change → ℕ
lowest_changed (change.Filled k at n) = at / 8
lowest_changed c = 64

-- the cells below that one stay
abbrev pub AreKept : ℕ → AbsState → AbsState → Type 0
AreKept n before after = (c : ℕ) → c < n → cell_at after c ≡ cell_at before c

-- of the cells below that one nothing is known
abbrev pub AreBlank : ℕ → List Cell → Type 0
AreBlank low cells = (c : ℕ) → c < low → slice_index_or cells c (Bytes []) ≡ Bytes no_bytes

-- nothing is known of the cells below that one, which is at most 64, the end of the stack
pub record IsBlankBelow (low : ℕ) (a : AbsState) : Type 0 where
  pub within : low ≤ 64
  pub blank : AreBlank low a.cells
