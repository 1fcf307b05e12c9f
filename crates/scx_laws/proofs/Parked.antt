-- Who is parked and who runs, in each small step of a machine.
use Rattle.std.proofs.Common.{◌≡◌, ℕ, Bool, true, false, ◌==◌, nat_lt, List, length, set, Option, Some, None, is_none, refl, ap, arith}
use Rattle.std.proofs.lemmas.Bool.{ne_eqb}
use Rattle.scx_dsq.specs.declared.entries.Rank.TheVariants.{Fifo}
use Rattle.scx_dsq.specs.Queues.{QueueState}
use Rattle.scx_dsq.specs.Calls.{after_push, after_remove, after_pop}
use Rattle.scx_dsq.specs.Laws.{IsStamped}
use Rattle.scx_weights.specs.Hierarchy.{Hierarchy, with_task, with_own_weight}
use Rattle.scx_weights.specs.Limits.{is_throttled}
use Rattle.scx_weights.specs.Refusals.{own_weight_fault}
use Rattle.scx_sched_world.specs.Ids.{parked_queue, local_on}
use Rattle.scx_sched_world.specs.World.{WorldState}
use Rattle.scx_sched_world.specs.Tasks.{fill_front, after_enter, brought}
use Rattle.scx_sched_world.specs.Ejecting.{put_builtin, evict}
use Rattle.scx_sched_world.specs.Helpers.{world_functions}
use Rattle.scx_vm.specs.Host.{after_query}
use Rattle.scx_sched_machine.proofs.Choices.{keeps_if}
use Rattle.scx_sched.specs.Kept.{IsKeptBySteps}
use Rattle.scx_sched.specs.Ranges.{IsFine}
use Rattle.scx_sched.proofs.Marks.{kept_cycling}
use Rattle.scx_sched.proofs.Queries.{KeepsQueries, KeepsBuiltin, off_queues, kept_enter, kept_brought, kept_query, kept_put_builtin, kept_evict}
use Rattle.scx_sched.proofs.Parked.{IsAsParked, StayParked, as_same, as_popped, as_wanted, as_brought, next_apart, as_put_builtin, as_evict, as_query}
use Rattle.scx_sched.proofs.Fine.{fine_steps}
use Rattle.scx_sched.proofs.Events.{IsKeptByEvents, fine_events}
use Rattle.scx_laws.proofs.Keeping.{filled_is}

-- the same tasks are throttled
abbrev pub AreSameThrottled : Hierarchy → Hierarchy → Type 0
AreSameThrottled x y = (u : ℕ) → is_throttled y u ≡ is_throttled x u

-- a property of parked and running tasks: it stays while the same tasks are parked and throttled, as
-- a throttled one is parked, as one leaves its queue, as one stops, and as one starts that isn't throttled
pub record IsOfParked (P : List (Option ℕ) → QueueState → Hierarchy → Type 0) : Type 0 where
  pub stays : (on : List (Option ℕ)) (s s' : QueueState) (x y : Hierarchy) → IsAsParked s s' → AreSameThrottled x y → P on s x → P on s' y
  pub comes : (on : List (Option ℕ)) (s : QueueState) (x : Hierarchy) (t : ℕ) → IsStamped s → is_throttled x t ≡ true → P on s x → P on (after_push s parked_queue t Fifo) x
  pub goes : (on : List (Option ℕ)) (s : QueueState) (x : Hierarchy) (t : ℕ) → P on s x → P on (after_remove s t) x
  pub stops : (on : List (Option ℕ)) (s : QueueState) (x : Hierarchy) (c : ℕ) → P on s x → P (set on c None) s x
  pub starts : (on : List (Option ℕ)) (s : QueueState) (x : Hierarchy) (c t : ℕ) → is_throttled x t ≡ false → P on s x → P (set on c (Some t)) s x

-- groups stay as they are, whatever a query does
abbrev HasTree : Hierarchy → WorldState → Type 0
HasTree x w = w.tree ≡ x

tree_kept : (x : Hierarchy) → KeepsQueries (HasTree x)
tree_kept x = off_queues (HasTree x) (λ w y other h. h) (λ w n o later h. h) (λ w t slice vtime c h. h) (λ w s i m a b c d r ns h. h)

tree_builtin : (x : Hierarchy) → KeepsBuiltin (HasTree x)
tree_builtin x w t h = h

pub local_apart : (c : ℕ) → (local_on c == parked_queue) ≡ false
local_apart c = ne_eqb (local_on c) parked_queue (λ x. omega (arith, x))

module _ (n : ℕ) (P : List (Option ℕ) → QueueState → Hierarchy → Type 0) (k : IsOfParked P) where
  -- the invariant inside of an event, with that property
  abbrev pub With : ℕ → ℕ → Option ℕ → List (Option ℕ) → WorldState → Type 0
  With e m hand on w = IsFine n e m hand on w × P on w.queues w.tree

  -- with these on the processors
  abbrev Of : List (Option ℕ) → WorldState → Type 0
  Of on w = P on w.queues w.tree

  stays_so : (on : List (Option ℕ)) (w v : WorldState) → StayParked w v → HasTree w.tree v → Of on w → Of on v
  stays_so on w v same tree h = k.stays on w.queues v.queues w.tree v.tree same (λ u. ap (λ x. is_throttled x u) tree) h

  -- as a task comes to be runnable, or isn't any more
  activated : (on : List (Option ℕ)) (s : QueueState) (x : Hierarchy) (t : ℕ) (b : Bool) → P on s x → P on s (with_task x t b)
  activated on s x t b h = k.stays on s s x (with_task x t b) (as_same s s (λ u. refl)) (λ u. refl) h

  weighed : (on : List (Option ℕ)) (s : QueueState) (x : Hierarchy) (t y : ℕ) → P on s x → P on s (with_own_weight x t y)
  weighed on s x t y h = k.stays on s s x (with_own_weight x t y) (as_same s s (λ u. refl)) (λ u. refl) h

  steps_with : (e : ℕ) → IsKeptBySteps n (With e)
  steps_with e =
      let f = fine_steps n e in
      record {
        more = λ m hand on w h. (f.more m hand on w h.0, h.1);
        known = λ m hand on w h. f.known m hand on w h.0;
        query = λ m hand on w q h. (f.query m hand on w q h.0, stays_so on w (after_query world_functions w q) (as_query w q) (kept_query (HasTree w.tree) (tree_kept w.tree) w q refl) h.1);
        begun = λ m hand on w b t c l h. (f.begun m hand on w b t c l h.0, h.1);
        quiet = λ m hand on w h. (f.quiet m hand on w h.0, h.1);
        cycling = λ m hand on w o h. (f.cycling m hand on w o h.0, kept_cycling (Of on) (λ v p a x waker r. r) w o h.1);
        ended = λ m hand on w h. (f.ended m hand on w h.0, h.1);
        moved = λ m hand on w b h. (f.moved m hand on w b h.0, h.1);
        cancelled = λ m hand on w t h. (f.cancelled m hand on w t h.0, h.1);
        sets = λ m hand on w a b c d o waker h. (f.sets m hand on w a b c d o waker h.0, h.1);
        wakes = λ m hand on w o l h. (f.wakes m hand on w o l h.0, h.1);
        homed = λ m hand on w t c l may h. (f.homed m hand on w t c l may h.0, h.1);
        sliced = λ m hand on w t x h. (f.sliced m hand on w t x h.0, h.1);
        wants = λ m hand on w c l calm may h. (f.wants m hand on w c l calm may h.0, h.1);
        entered = λ m on w t i l x may h. (f.entered m on w t i l x may h.0, stays_so on w (after_enter w t i) (as_wanted on n (Some t) w t i x h.0.sound) (kept_enter (HasTree w.tree) (tree_kept w.tree) w t i refl) h.1);
        filled = λ m on w q c apart l h. (f.filled m on w q c apart l h.0, stays_so on w (brought (fill_front w q c) w c) (as_brought (fill_front w q c) w c (λ t e. next_apart w q c t apart (filled_is w q c t e))) (kept_brought (HasTree w.tree) (tree_kept w.tree) (fill_front w q c) w c refl) h.1);
        stopped = λ m on w c t l within runs h. (f.stopped m on w c t l within runs h.0, k.stops on w.queues w.tree c h.1);
        started = λ m on w c t l free front may h. (f.started m on w c t l free front may h.0, k.starts on (after_pop w.queues (local_on c)) w.tree c t may (k.stays on w.queues (after_pop w.queues (local_on c)) w.tree w.tree (as_popped w.queues (local_on c) (local_apart c)) (λ u. refl) h.1));
        ran = λ m on w c t l free here may h. (f.ran m on w c t l free here may h.0, k.starts on (after_remove w.queues t) w.tree c t may (k.goes on w.queues w.tree t h.1));
        put_parked = λ m on w t l may-not h. (f.put_parked m on w t l may-not h.0, keeps_if (Of on) (nat_lt t (length w.tasks)) _ w (k.comes on w.queues w.tree t h.0.sound.stamped may-not h.1) h.1);
        left = λ m on w q t apart there h. (f.left m on w q t apart there h.0, k.goes on w.queues w.tree t h.1);
        kept = λ m on w t h. (f.kept m on w t h.0, h.1);
        asleep = λ m on w t l h. (f.asleep m on w t l h.0, keeps_if (Of on) (nat_lt t (length w.tasks)) _ w (activated on w.queues w.tree t false h.1) h.1);
        put_out = λ m hand on w x h. (f.put_out m hand on w x h.0, h.1);
        evict = λ m hand on w t l h. (f.evict m hand on w t l h.0, stays_so on w (evict w t) (as_evict w t) (kept_evict (HasTree w.tree) (tree_kept w.tree) (tree_builtin w.tree) w t refl) h.1);
        cut = λ m hand on w t h. (f.cut m hand on w t h.0, h.1);
        put_builtin = λ m on w t l h. (f.put_builtin m on w t l h.0, stays_so on w (put_builtin w t) (as_put_builtin w t) (kept_put_builtin (HasTree w.tree) (tree_kept w.tree) (tree_builtin w.tree) w t refl) h.1);
        overtaken = λ m hand on w t h. (f.overtaken m hand on w t h.0, h.1);
        charged = λ m hand on w t out h. (f.charged m hand on w t out h.0, h.1);
      }

  pub events_with : (e : ℕ) → IsKeptByEvents n (With e)
  events_with e =
      let f = fine_events n e in
      record {
        steps = steps_with e;
        sound = λ m hand on w h. h.0.sound;
        allowed = λ m hand on w h. h.0.allowed;
        woken = λ m on w t within resting h. (f.woken m on w t within resting h.0, activated on w.queues w.tree t true h.1);
        let_go = λ m on w t within there h. (f.let_go m on w t within there h.0, k.goes on w.queues w.tree t h.1);
        left = λ m on w t within runnable off h. (f.left m on w t within runnable off h.0, keeps_if (Of on) (nat_lt t (length w.tasks)) _ _ (activated on (after_remove w.queues t) w.tree t false (k.goes on w.queues w.tree t h.1)) (k.goes on w.queues w.tree t h.1));
        removed = λ m on w t within here h. (f.removed m on w t within here h.0, k.goes on w.queues w.tree t h.1);
        weighed = λ m hand on w t x h. (f.weighed m hand on w t x h.0, keeps_if (Of on) (is_none (own_weight_fault w.tree t x)) _ w (weighed on w.queues w.tree t x h.1) h.1);
        anew = λ m j on w force h. (f.anew m j on w force h.0, h.1);
      }
