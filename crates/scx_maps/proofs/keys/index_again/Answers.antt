use Rattle.std.proofs.Common.{◌≡◌, ℕ, Option, Some, None, ap, ◌∙◌}
use Rattle.std.specs.Prelude.{slice_get}
use Rattle.std.proofs.lemmas.Option.{slice_get-get_or}
use Rattle.scx_maps.proofs.Noted.{IsMadeTo, inserted, later_absent, made_none, made_room, made_some}
use Rattle.scx_maps.proofs.keys.index_again.Goals.{in-Some, in_default}
use Rattle.scx_maps.proofs.keys.index_again.Goals as goal

pub loop-slot-preserved : goal.loop-slot-preserved
loop-slot-preserved c =
    let held = c.args.held.now in
    let slot = c.loop-slot.slot in
    let index = c.loop-slot.index in
    let far = c.loop-slot.invariant in
    let within = slice_get-get_or held slot None c.loop-slot-test.true in
    let made : IsMadeTo held slot index = record { led = far.led; few = far.few; room = far.room; absent = far.absent } in
    elim c.match-there.branch [
      | in-Some w ↦
          let key = w.in-Some.key in
          let there : slice_get held slot ≡ Some (Some key) = within ∙ ap (λ (o : Option ℕ). Some o) w.in-Some.is in
          let new = far.absent key (later_absent held slot key c.requires.apart there) in
          let notes =
          inserted w.insert.result index w.insert.new.self key slot (made_room held slot index c.loop-slot-test.true made) new
          w.insert.ensures.succeeds w.insert.ensures.old w.insert.ensures.updates w.insert.ensures.len w.insert.ensures.spare in
          let next = made_some held slot key index w.insert.new.self c.requires.apart there made notes in
          rw w.index-is (record { led = next.led; few = next.few; room = next.room; absent = next.absent })
      | in_default w ↦
          let next = made_none held slot index (within ∙ ap (λ (o : Option ℕ). Some o) w.in_default.is) made in
          rw w.index-is (record { led = next.led; few = next.few; room = next.room; absent = next.absent })
    ]
