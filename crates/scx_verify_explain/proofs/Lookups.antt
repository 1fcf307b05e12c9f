-- What a pass reads of the states of a list, and what it doesn't find there.
use Rattle.std.proofs.Common.{◌≡◌, ℕ, ◌<◌, List, length, slice_index_or, Option, Some, None, OnSome, refl, sym, ◌∙◌}
use Rattle.std.proofs.lemmas.List.{get_or_read}
use Rattle.scx_isa_semantics.specs.declared.instructions.Insn.{Insn}
use Rattle.scx_abs.specs.declared.states.AbsState.{AbsState}
use Rattle.scx_verify.specs.Pass.{states_of}

-- the state that is read at a slot
pub read_state : (states : List (Option AbsState)) (s : ℕ) (o : Option AbsState) → s < length states → o ≡ slice_index_or states s o → states_of states s ≡ o
read_state states s o lt e = sym (get_or_read states s o lt e None)

-- an instruction that isn't there is none
pub no_insn : (i : Insn) (o : Option Insn) → o ≡ None → o ≡ Some i → ⊥
no_insn i o e f = let bad : None ≡ Some i = sym e ∙ f in absurd (cc)

-- a state that isn't there is none
pub no_state_there : (a : AbsState) (o : Option AbsState) → o ≡ None → o ≡ Some a → ⊥
no_state_there a o e f = let bad : None ≡ Some a = sym e ∙ f in absurd (cc)

-- what follows of a state that is there holds wherever one is there
pub if_some : (o : Option AbsState) (P : Type 0) → ((a : AbsState) → o ≡ Some a → P) → OnSome o P
if_some None P f = tt
if_some (Some a) P f = f a refl
