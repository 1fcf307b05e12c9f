use Rattle.std.proofs.Common.{ap, ◌∙◌, arith}
use Rattle.scx_isa_semantics.specs.Directories.{pushed}
use Rattle.scx_maps.proofs.Pushes.{line_placed}
use Rattle.scx_maps.proofs.directory.Directory.push.Goals as goal

pub returns-in-Queue-clause-placed : goal.returns-in-Queue-clause-placed
returns-in-Queue-clause-placed c =
    line_placed c.self.inside.kind c.self.inside.line c.push-slot.result.0 c.self.inside.keys c.push-slot.result.1 c.args.slots c.args.flags c.in-Queue.is c.if-flags-eq1.false (omega (arith, c.if-flags-gt2.false)) c.push-slot.ensures.placed
    ∙ ap (λ d. pushed d c.args.slots c.args.flags) c.self.view_is
