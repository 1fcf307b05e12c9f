use Rattle.std.proofs.Common.{◌≡◌, drop}
use Rattle.scx_asm_text.specs.Names.{first_with_name, access_text, named_accesses, access_named}
use Rattle.scx_asm_text.proofs.words.access_named.Given as goal

abbrev pub invariant-loop-access : goal.invariant-loop-access
invariant-loop-access l = access_named l.name ≡ first_with_name access_text (drop l.access-index named_accesses) l.name
