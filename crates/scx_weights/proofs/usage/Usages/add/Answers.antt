use Rattle.std.proofs.Common.{arith, sym, ap, ◌∙◌, ◌+◌, ◌-◌, ◌<◌, length, get_or, set}
use Rattle.std.proofs.lemmas.List.{get_or_read, length-set}
use Rattle.scx_weights.specs.Hierarchy.{path, lies_in}
use Rattle.scx_weights.proofs.Paths.{parent_within}
use Rattle.scx_weights.proofs.Adding.{gain, gain_over, gain_here, add_walk, added_step, add_room}
use Rattle.scx_weights.proofs.usage.Usages.add.Goals.{in-Some, in_default}
use Rattle.scx_weights.proofs.usage.Usages.add.Goals as goal

pub overflow_add-index_mut : goal.overflow_add-index_mut
overflow_add-index_mut c =
    let groups = c.args.groups.now in
    let group = c.in-Some.group in
    let before = c.loop-level in
    let known = before.invariant.known group c.in-Some.is in
    let here = gain_here groups c.args.ms before._level group before.at c.loop-level-test.true c.in-Some.is in
    let read = get_or_read before.self.used.items group c.index_mut.result.now (omega (arith, before.invariant.lengths, known)) c.index_mut.ensures.value 0 in
    let room = add_room (lies_in groups c.args.home group) c.index_mut.result.now c.args.ms (get_or c.args.self.now.used.items group 0)
    (omega (arith, read, here, before.invariant.counted group known)) (omega (arith, read, before.invariant.grown group)) (omega arith) (c.requires.room group) in
    omega (arith, room)

pub loop-level-preserved : goal.loop-level-preserved
loop-level-preserved c =
    let groups = c.args.groups.now in
    let before = c.loop-level in
    let ms = c.args.ms in
    elim c.match-at.branch [
      | in-Some w ↦
          let x = w.in-Some.group in
          let known = before.invariant.known x w.in-Some.is in
          let within : x < length before.self.used.items = omega (arith, before.invariant.lengths, known) in
          let read = get_or_read before.self.used.items x w.index_mut.result.now within w.index_mut.ensures.value 0 in
          let written = ap (λ s. s.used.items) w.self-is ∙ ap (λ n. set before.self.used.items x (n + ms)) read in
          record {
            pending = ap (λ s. s.pending.items) w.self-is ∙ before.invariant.pending;
            beat = ap (λ s. s.beat) w.self-is ∙ before.invariant.beat;
            since = ap (λ s. s.since) w.self-is ∙ before.invariant.since;
            next = ap (λ s. s.next) w.self-is ∙ before.invariant.next;
            limited = ap (λ s. s.limited) w.self-is ∙ before.invariant.limited;
            lengths = ap length written ∙ length-set before.self.used.items x (get_or before.self.used.items x 0 + ms) ∙ before.invariant.lengths;
            known = λ y e. parent_within groups c.requires.forest x y known (sym w.parent_of-at.ensures ∙ sym w.at-is ∙ e);
            grown = added_step before.self.used.items c.match-at.self.used.items c.args.self.now.used.items x ms within written before.invariant.grown;
            counted = add_walk groups c.requires.forest before.self.used.items c.match-at.self.used.items
                (λ g. get_or c.args.self.now.used.items g 0 + gain ms g (path groups c.args.home)) ms before._level x before.at c.match-at.at
                c.loop-level-test.true before.invariant.lengths known w.in-Some.is (w.at-is ∙ w.parent_of-at.ensures)
                written before.invariant.counted;
          }
      | in_default w ↦
          let same = ap (λ s. s.used.items) w.self-is in
          record {
            pending = ap (λ s. s.pending.items) w.self-is ∙ before.invariant.pending;
            beat = ap (λ s. s.beat) w.self-is ∙ before.invariant.beat;
            since = ap (λ s. s.since) w.self-is ∙ before.invariant.since;
            next = ap (λ s. s.next) w.self-is ∙ before.invariant.next;
            limited = ap (λ s. s.limited) w.self-is ∙ before.invariant.limited;
            lengths = ap length same ∙ before.invariant.lengths;
            known = λ y e. before.invariant.known y (sym w.at-is ∙ e);
            grown = λ g. let here = ap (λ us. get_or us g 0) same in omega (arith, here, before.invariant.grown g);
            counted = λ g lt.
                let here = ap (λ us. get_or us g 0) same in
                let none_before = gain_over groups ms (3 - before._level) g before.at w.in_default.is in
                let none_after = gain_over groups ms (3 - (before._level + 1)) g c.match-at.at (w.at-is ∙ w.in_default.is) in
                omega (arith, here, none_before, none_after, before.invariant.counted g lt);
          }
    ]
