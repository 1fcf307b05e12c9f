use Rattle.std.proofs.Common.{◌≤◌, length, ap, subst, arith}
use Rattle.scx_load_driver.specs.Sets.{is_in, is_there, IsNext}
use Rattle.scx_load_driver.proofs.Sets.{length_members, as_members, from_on}
use Rattle.scx_load_driver.proofs.set.NumberSet.next.Goals as goal

pub next_in-requires-clause-within : goal.next_in-requires-clause-within
next_in-requires-clause-within c =
    let inside = c.self.inside in
    omega (arith, c.requires.within, ap length c.self.view_is, length_members inside.limit inside.words.items, c.self.invariant.enough, ap length c.as_slice.ensures.value)

pub returns : goal.returns
returns c =
    let inside = c.self.inside in
    let words = inside.words.items in
    let within : c.args.end ≤ inside.limit = omega (arith, c.requires.within, ap length c.self.view_is, length_members inside.limit words) in
    let next = subst (λ ws. IsNext (is_in ws) c.args.from c.args.end c.next_in.result) c.as_slice.ensures.value c.next_in.ensures in
    record {
      next = subst (λ xs. IsNext (is_there xs) c.args.from c.args.end c.next_in.result) c.self.view_is (as_members inside.limit words c.args.from c.args.end c.next_in.result within next);
      after = from_on (is_in words) c.args.from c.args.end c.next_in.result c.requires.ordered next;
    }
