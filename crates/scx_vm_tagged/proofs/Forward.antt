-- Control goes forward in a program whose flow has no fault.
use Rattle.std.proofs.Common.{◌≡◌, ℕ, ◌+◌, ℤ, pos, negsuc, ◌≤ℤ◌, Some, None, arith}
use Rattle.std.proofs.lemmas.Int.{ints}
use Rattle.scx_isa_semantics.specs.declared.instructions.Insn.{Insn}
use Rattle.scx_isa_semantics.specs.declared.instructions.Insn.TheVariants.{Binary, Negate, SignExtend, ByteSwap, LoadImmediate, LoadMapReference, Load, Store, JumpIf, Goto, GotoLong, Call, Exit}
use Rattle.scx_isa_semantics.specs.Code.{Code, at}
use Rattle.scx_isa.specs.Flow.{Flows, jump_fault}
use Rattle.scx_isa_semantics.specs.Steps.{distance}

jump-forward : (code : Code) (s : ℕ) (z : ℤ) → jump_fault code s z ≡ None → pos 0 ≤ℤ z
jump-forward code s (pos n) e = omega (arith, ints)
jump-forward code s (negsuc n) e = absurd (cc)

-- no jump's distance is negative
pub distance-forward : (code : Code) (s : ℕ) (i : Insn) → Flows code → at code s ≡ Some i → pos 0 ≤ℤ distance i
distance-forward code s (JumpIf w c r x (pos n)) flows e = omega (arith, ints)
distance-forward code s (JumpIf w c r x (negsuc n)) flows e = absurd (let fault = flows s (JumpIf w c r x (negsuc n)) e in cc)
distance-forward code s (Goto z) flows e = jump-forward code (s + 1) z (flows s (Goto z) e)
distance-forward code s (GotoLong z) flows e = jump-forward code (s + 1) z (flows s (GotoLong z) e)
distance-forward code s (Binary w o d x) flows e = omega (arith, ints)
distance-forward code s (Negate w d) flows e = omega (arith, ints)
distance-forward code s (SignExtend x d r) flows e = omega (arith, ints)
distance-forward code s (ByteSwap o w d) flows e = omega (arith, ints)
distance-forward code s (LoadImmediate d low high) flows e = omega (arith, ints)
distance-forward code s (LoadMapReference d k) flows e = omega (arith, ints)
distance-forward code s (Load a d r z) flows e = omega (arith, ints)
distance-forward code s (Store b r z x) flows e = omega (arith, ints)
distance-forward code s (Call k) flows e = omega (arith, ints)
distance-forward code s Exit flows e = omega (arith, ints)
