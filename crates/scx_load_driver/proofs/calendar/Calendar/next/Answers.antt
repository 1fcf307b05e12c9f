use Rattle.std.proofs.Common.{◌≤◌, ◌*◌, ◌%◌, arith}
use Rattle.scx_load_driver.specs.Sets.{is_there}
use Rattle.scx_load_driver.proofs.Sets.{shifted}
use Rattle.scx_load_driver.proofs.calendar.Calendar.next.Goals as goal

pub returns : goal.returns
returns c =
    let base = c.args.now % 256 * 1024 in
    let after : base ≤ c.next.result = omega (arith, c.next.ensures.after) in
    record {
      next = shifted (is_there c.args.self.now.there) base c.args.from c.args.end c.next.result c.next.ensures.next after;
      after = omega (arith, c.next.ensures.after);
    }
