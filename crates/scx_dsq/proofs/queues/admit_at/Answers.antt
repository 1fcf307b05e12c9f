use Rattle.std.proofs.Common.{◌≡◌, true, None, HoldsAt, ap, sym, ◌∙◌, rules}
use Rattle.std.proofs.lemmas.List.{get_or_default}
use Rattle.scx_dsq.specs.declared.queue.Queue.{Queue}
use Rattle.scx_dsq.specs.Queues.{entry_at}
use Rattle.scx_dsq.specs.Kept.{mixes}
use Rattle.scx_dsq.proofs.queues.admit_at.Goals as goal

pub returns-then-clashes-clause-refused : goal.returns-then-clashes-clause-refused
returns-then-clashes-clause-refused c =
    let none : entry_at c.args.entries.now c.args.task ≡ None = search rules in
    let q = c.index-live-place.result in
    let mixed : HoldsAt (λ (r : Queue). mixes c.args.rank r ≡ true) c.args.live.now c.args.place = λ d. ap (λ (r : Queue). mixes c.args.rank r) (get_or_default c.args.live.now c.args.place d q c.requires.place ∙ sym c.index-live-place.is) ∙ (sym c.clashes.ensures ∙ c.if-clashes.true) in
    (c.requires.there, none, record { entry = c.args.place; inside = c.requires.place; is = c.requires.is; mixed = mixed })
