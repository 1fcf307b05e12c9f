use Rattle.std.proofs.Common.{◌≡◌, [], ◌∷◌, ◌++◌, length, ap, rules, arith, ◌∙◌}
use Rattle.scx_dsq.specs.Heaps.{HeapState, KeepsOthers, with_spot}
use Rattle.scx_dsq.proofs.Spots.{keeps_both}
use Rattle.scx_dsq.proofs.HeapEdits.{heap_pushed, spots_pushed, keeps_pushed, cheap_pushed, put_last, written_back}
use Rattle.scx_dsq.proofs.heap.Heap.insert.Goals as goal

pub rise_with-requires-clause-spots : goal.rise_with-requires-clause-spots
rise_with-requires-clause-spots g c =
    let pushed : c.deref_mut.result.now ≡ c.args.self.now.items ++ c.args.item ∷ [] = c.deref_mut.ensures.value ∙ c.push_reserved.ensures.items ∙ ap (λ (h : HeapState). h.items ++ c.args.item ∷ []) c.self.view_is in
    let last : c.len-last.result ≡ length c.args.self.now.items = rw (← c.self.view_is) (search rules) in
    rw (pushed, last, put_last c.args.self.now.items c.args.item) (spots_pushed c.args.self.now.items c.args.item c.args.spots.now c.requires.task c.requires.absent c.requires.spots)

pub rise_with-requires-clause-heap : goal.rise_with-requires-clause-heap
rise_with-requires-clause-heap g c =
    let pushed : c.deref_mut.result.now ≡ c.args.self.now.items ++ c.args.item ∷ [] = c.deref_mut.ensures.value ∙ c.push_reserved.ensures.items ∙ ap (λ (h : HeapState). h.items ++ c.args.item ∷ []) c.self.view_is in
    let last : c.len-last.result ≡ length c.args.self.now.items = rw (← c.self.view_is) (search rules) in
    rw (pushed, last, put_last c.args.self.now.items c.args.item) (heap_pushed c.args.self.now.items c.args.item c.requires.heap)

pub returns-clause-spots : goal.returns-clause-spots
returns-clause-spots g c =
    let same = written_back c.push_reserved.new.self.len c.rise_with.new.items c.push_reserved.new.self.items (omega (arith, c.rise_with.auto.items, c.deref_mut.ensures.len)) in
    rw same c.rise_with.ensures.spots

pub returns-clause-cost : goal.returns-clause-cost
returns-clause-cost g c =
    let pushed : c.deref_mut.result.now ≡ c.args.self.now.items ++ c.args.item ∷ [] = c.deref_mut.ensures.value ∙ c.push_reserved.ensures.items ∙ ap (λ (h : HeapState). h.items ++ c.args.item ∷ []) c.self.view_is in
    let last : c.len-last.result ≡ length c.args.self.now.items = rw (← c.self.view_is) (search rules) in
    let same = written_back c.push_reserved.new.self.len c.rise_with.new.items c.push_reserved.new.self.items (omega (arith, c.rise_with.auto.items, c.deref_mut.ensures.len)) in
    rw same (cheap_pushed c.args.self.now.items c.args.item c.rise_with.new.items _ (rw (pushed, last, put_last c.args.self.now.items c.args.item) at c.rise_with.ensures.cost))

pub returns-clause-heap : goal.returns-clause-heap
returns-clause-heap g c =
    let same = written_back c.push_reserved.new.self.len c.rise_with.new.items c.push_reserved.new.self.items (omega (arith, c.rise_with.auto.items, c.deref_mut.ensures.len)) in
    rw same c.rise_with.ensures.heap

pub returns-clause-same : goal.returns-clause-same
returns-clause-same g c =
    let pushed : c.deref_mut.result.now ≡ c.args.self.now.items ++ c.args.item ∷ [] = c.deref_mut.ensures.value ∙ c.push_reserved.ensures.items ∙ ap (λ (h : HeapState). h.items ++ c.args.item ∷ []) c.self.view_is in
    let same = written_back c.push_reserved.new.self.len c.rise_with.new.items c.push_reserved.new.self.items (omega (arith, c.rise_with.auto.items, c.deref_mut.ensures.len)) in
    let last : c.len-last.result ≡ length c.args.self.now.items = rw (← c.self.view_is) (search rules) in
    rw same (rw (pushed, last, put_last c.args.self.now.items c.args.item) at c.rise_with.ensures.same)

pub returns-clause-others : goal.returns-clause-others
returns-clause-others g c =
    let pushed : c.deref_mut.result.now ≡ c.args.self.now.items ++ c.args.item ∷ [] = c.deref_mut.ensures.value ∙ c.push_reserved.ensures.items ∙ ap (λ (h : HeapState). h.items ++ c.args.item ∷ []) c.self.view_is in
    let last : c.len-last.result ≡ length c.args.self.now.items = rw (← c.self.view_is) (search rules) in
    let rest : KeepsOthers (c.args.self.now.items ++ c.args.item ∷ []) (with_spot c.args.spots.now c.args.item (length c.args.self.now.items)) c.rise_with.new.spots = rw (pushed, last, put_last c.args.self.now.items c.args.item) at c.rise_with.ensures.others in
    keeps_both (c.args.self.now.items ++ c.args.item ∷ []) c.args.spots.now (with_spot c.args.spots.now c.args.item (length c.args.self.now.items)) c.rise_with.new.spots (keeps_pushed c.args.self.now.items c.args.item c.args.spots.now) rest
