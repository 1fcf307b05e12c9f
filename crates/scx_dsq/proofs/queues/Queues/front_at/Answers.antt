use Rattle.std.proofs.Common.{MatchOption, refl, arith}
use Rattle.scx_dsq.specs.Queues.{IsQueueAt, IsFront}
use Rattle.scx_dsq.specs.Kept.{state_of}
use Rattle.scx_dsq.proofs.Facts.{front_is_known}
use Rattle.scx_dsq.proofs.Fronts.{NobodyIn}
use Rattle.scx_dsq.proofs.Forms.{front_answer, front_first, front_none}
use Rattle.scx_dsq.proofs.QueueReads.{front_at, found_at}
use Rattle.scx_dsq.proofs.queues.Queues.front_at.Goals as goal

pub index-requires : goal.index-requires
index-requires c =
    let at : IsQueueAt (state_of c.self.inside) c.args.place c.args.id = rw (← c.self.view_is) at c.requires in
    let inside = (found_at c.self.inside c.args.place c.args.id at).0 in omega (arith, inside, c.self.inside.live.ok.0)

pub returns-clause-answer : goal.returns-clause-answer
returns-clause-answer c =
    let at : IsQueueAt (state_of c.self.inside) c.args.place c.args.id = rw (← c.self.view_is) at c.requires in
    let front : MatchOption c.front.result (NobodyIn (state_of c.self.inside) c.args.id) (IsFront (state_of c.self.inside) c.args.id) = rw (← c.front.ensures) at (front_at c.self.inside c.self.inside.live.items c.args.place c.args.id c.index.result.now c.self.invariant refl (found_at c.self.inside c.args.place c.args.id at) c.index.ensures) in
    rw (← c.self.view_is) (front_answer (state_of c.self.inside) c.args.id c.front.result front)

pub returns-clause-known : goal.returns-clause-known
returns-clause-known c =
    let at : IsQueueAt (state_of c.self.inside) c.args.place c.args.id = rw (← c.self.view_is) at c.requires in
    let front : MatchOption c.front.result (NobodyIn (state_of c.self.inside) c.args.id) (IsFront (state_of c.self.inside) c.args.id) = rw (← c.front.ensures) at (front_at c.self.inside c.self.inside.live.items c.args.place c.args.id c.index.result.now c.self.invariant refl (found_at c.self.inside c.args.place c.args.id at) c.index.ensures) in
    rw (← c.self.view_is) (front_is_known (state_of c.self.inside) c.args.id c.front.result (front_answer (state_of c.self.inside) c.args.id c.front.result front))

pub returns-clause-first : goal.returns-clause-first
returns-clause-first c =
    let at : IsQueueAt (state_of c.self.inside) c.args.place c.args.id = rw (← c.self.view_is) at c.requires in
    let front : MatchOption c.front.result (NobodyIn (state_of c.self.inside) c.args.id) (IsFront (state_of c.self.inside) c.args.id) = rw (← c.front.ensures) at (front_at c.self.inside c.self.inside.live.items c.args.place c.args.id c.index.result.now c.self.invariant refl (found_at c.self.inside c.args.place c.args.id at) c.index.ensures) in
    rw (← c.self.view_is) (front_first (state_of c.self.inside) c.args.id c.front.result front)

pub returns-clause-empty : goal.returns-clause-empty
returns-clause-empty c =
    let at : IsQueueAt (state_of c.self.inside) c.args.place c.args.id = rw (← c.self.view_is) at c.requires in
    let front : MatchOption c.front.result (NobodyIn (state_of c.self.inside) c.args.id) (IsFront (state_of c.self.inside) c.args.id) = rw (← c.front.ensures) at (front_at c.self.inside c.self.inside.live.items c.args.place c.args.id c.index.result.now c.self.invariant refl (found_at c.self.inside c.args.place c.args.id at) c.index.ensures) in
    rw (← c.self.view_is) (front_none (state_of c.self.inside) c.args.id c.front.result front)
