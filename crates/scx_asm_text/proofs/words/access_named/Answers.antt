use Rattle.std.proofs.Common.{◌≡◌, true, false, get_or, sym, ◌∙◌}
use Rattle.std.specs.Str.{bytes_eq}
use Rattle.scx_isa_semantics.specs.declared.operations.Access.TheVariants as access
use Rattle.scx_asm_text.specs.Names.{access_text, named_accesses}
use Rattle.scx_asm_text.proofs.Names.{named_here, named_later}
use Rattle.scx_asm_text.proofs.words.access_named.Goals as goal

pub returns-then-eq : goal.returns-then-eq
returns-then-eq c =
    let found : bytes_eq c.args.name.now (access_text (get_or named_accesses c.loop-access.access-index access.Byte)) ≡ true = cc in
    sym (c.loop-access.invariant ∙ named_here access_text named_accesses c.loop-access.access-index access.Byte c.args.name.now c.loop-access-test.true found)

pub loop-access-preserved : goal.loop-access-preserved
loop-access-preserved c =
    let missed : bytes_eq c.args.name.now (access_text (get_or named_accesses c.loop-access.access-index access.Byte)) ≡ false = cc in
    c.loop-access.invariant ∙ named_later access_text named_accesses c.loop-access.access-index access.Byte c.args.name.now c.loop-access-test.true missed
