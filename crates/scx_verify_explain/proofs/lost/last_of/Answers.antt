use Rattle.scx_verify_explain.proofs.Tracks.{not_gone, gone_on, gone_to}
use Rattle.scx_verify_explain.proofs.lost.last_of.Goals as goal

pub loop-init : goal.loop-init
loop-init c = not_gone c.args.listing.now c.args.start c.args.sought

pub returns-in-Some-Found : goal.returns-in-Some-Found
returns-in-Some-Found c =
    gone_to c.args.listing.now c.args.start c.args.sought c.loop.walk c.in-Some-Found.found c.loop.invariant
    (rw c.in-Some-Found.field-0-is at c.in-Some-Found.ensures)

pub loop-preserved : goal.loop-preserved
loop-preserved c =
    gone_on c.args.listing.now c.args.start c.args.sought c.loop.walk c.in-Some-Earlier.earlier c.loop.invariant
    (rw c.in-Some-Earlier.field-0-is at c.in-Some-Earlier.ensures)
