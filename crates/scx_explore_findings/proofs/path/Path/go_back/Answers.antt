use Rattle.std.proofs.Common.{arith}
use Rattle.scx_explore_findings.proofs.ListMachines.{along_take}
use Rattle.scx_explore_findings.proofs.path.Path.go_back.Goals as goal

pub invariant_of-self : goal.invariant_of-self
invariant_of-self c =
    let inside = c.self.inside in
    record {
      along = rw c.truncate.ensures.items (along_take c.args.depth inside.root inside.events.items inside.sims.items c.self.invariant.along);
      alike = c.self.invariant.alike;
      room = omega (arith, c.self.invariant.room, c.truncate.ensures.capacity);
    }
