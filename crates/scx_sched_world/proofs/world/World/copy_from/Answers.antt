use Rattle.std.proofs.Common.{length, sym, ap, ◌∙◌, arith}
use Rattle.scx_sched_world.proofs.Likes.{fields_alike}
use Rattle.scx_sched_world.proofs.world.World.copy_from.Goals as goal

pub copy_from-requires : goal.copy_from-requires
copy_from-requires c = (fields_alike c.self.inside c.other.inside _ _ c.self.view_is c.other.view_is c.requires).tasks

pub copy_from_slice-requires : goal.copy_from_slice-requires
copy_from_slice-requires c =
    omega (arith, c.self.inside.cpus.ok.0, (fields_alike c.self.inside c.other.inside _ _ c.self.view_is c.other.view_is c.requires).cpus, ap (λ xs. length xs) c.deref.ensures.value)

pub copy_from_slice-requires-2 : goal.copy_from_slice-requires-2
copy_from_slice-requires-2 c =
    omega (arith, c.self.inside.running_on.ok.0, (fields_alike c.self.inside c.other.inside _ _ c.self.view_is c.other.view_is c.requires).tasks, c.self.invariant.known_running, c.other.invariant.known_running, ap (λ xs. length xs) c.deref-2.ensures.value)

pub copy_timers-requires : goal.copy_timers-requires
copy_timers-requires c =
    omega (arith, c.self.inside.timers.ok.0, (fields_alike c.self.inside c.other.inside _ _ c.self.view_is c.other.view_is c.requires).timers, ap (λ xs. length xs) c.deref-3.ensures.value)

pub copy_from-requires-2 : goal.copy_from-requires-2
copy_from-requires-2 c =
    let like = fields_alike c.self.inside c.other.inside _ _ c.self.view_is c.other.view_is c.requires in
    record {
      room = like.room;
      queues = like.queues;
      tasks = c.self.invariant.queued ∙ like.tasks ∙ sym c.other.invariant.queued;
    }

pub copy_from-requires-3 : goal.copy_from-requires-3
copy_from-requires-3 c =
    let like = fields_alike c.self.inside c.other.inside _ _ c.self.view_is c.other.view_is c.requires in
    record {
      groups = like.groups;
      tasks = c.self.invariant.weighed ∙ like.tasks ∙ sym c.other.invariant.weighed;
    }
