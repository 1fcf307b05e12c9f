use Rattle.std.proofs.Common.{◌≡◌, refl, ap, ◌∙◌, subst, arith}
use Rattle.scx_sched_world.specs.World.{WorldState, note_now}
use Rattle.scx_sched_world.specs.declared.notes.Note.{Note}
use Rattle.scx_sched_world.specs.declared.notes.What.TheVariants.{Insert}
use Rattle.scx_sched_world.specs.Tasks.{after_enter}
use Rattle.scx_sched_machine.specs.Steps.{State, with_world}
use Rattle.scx_sched_machine.specs.Put.{enters}
use Rattle.scx_sched_machine.proofs.machine.Machine.enter.Goals as goal

pub returns : goal.returns
unfolding enters
returns g c =
    let h = g.H.Hearer in
    let seen = ap (λ (s : State). s.world) c.self.view_is in
    let pushes = ap (λ (w : WorldState). w.queues.pushes) seen in
    let noted : c.note.result ≡ note_now c.args.self.now.world (Insert c.args.task c.args.insert.queue) = c.note.ensures ∙ ap (λ (w : WorldState). note_now w (Insert c.args.task c.args.insert.queue)) seen in
    record {
      state = ap (λ (w : WorldState). record { policy = c.self.inside.policy; maps = c.self.inside.maps; world = w }) c.enter.ensures.world ∙ ap (λ (s : State). with_world s (after_enter s.world c.args.task c.args.insert)) c.self.view_is;
      notes = (h.noted c.note-2.new.self, subst (λ (n : Note). h.takes (h.noted c.args.hearer.now) n (h.noted c.note-2.new.self)) noted c.note-2.ensures.notes, refl);
      few = omega (arith, c.enter.ensures.few, pushes);
      calls = c.note-2.ensures.calls;
    }
