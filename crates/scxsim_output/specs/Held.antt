-- Bytes that an output holds back until a whole block is handed on.
use Rattle.std.specs.Prelude.{ℕ, List, take, Option}
use Rattle.std.specs.Io.KnownBytes.{append_known}
use Rattle.scxsim_output.specs.declared.blocks.Blocks.{Blocks}

-- the bytes that weren't handed on
abbrev pub held_back : {W : Type 0} → Blocks W → List ℕ
held_back b = take b.end b.block

-- the bytes that the inner output holds, and then what is held back, where that is known
abbrev pub blocks_contents : {W : Type 0} → (W → Option (List ℕ)) → Blocks W → Option (List ℕ)
blocks_contents contents b = append_known (contents b.out) (held_back b)
