-- Who is parked stays parked in the same order, and nobody comes to be parked, in each small step but those of
-- parking.
use Rattle.std.proofs.Common.{◌≡◌, ℕ, ◌<◌, ◌≤◌, ◌⊎◌, inl, inr, Bool, true, false, ◌==◌, nat_lt, cond, List, length, get_or, map, Option, Some, None, is_some, is_none, option_map, refl, sym, ◌∙◌, ap, subst, arith}
use Rattle.std.proofs.lemmas.Bool.{cases_eq, cases_lt, ne_eqb, eq-eqb, eqb-true}
use Rattle.std.proofs.lemmas.List.{get_or-set_same, get_or-set_other, set_past}
use Rattle.scx_dsq.specs.declared.entries.Entry.{Entry}
use Rattle.scx_dsq.specs.declared.entries.Rank.{Rank}
use Rattle.scx_dsq.specs.declared.entries.Rank.TheVariants.{Fifo, Vtime}
use Rattle.scx_dsq.specs.Queues.{QueueState, entry_of, queue_of, front_of, is_in}
use Rattle.scx_dsq.specs.Calls.{create_refusal, with_queue, after_create, push_refusal, next_entry, with_task as with_place, after_push, without_task, after_remove, without, after_pop}
use Rattle.scx_dsq.proofs.Facts.{free_from}
use Rattle.scx_isa_semantics.specs.declared.host_tables.Helper.{Helper}
use Rattle.scx_isa_semantics.specs.Effects.{Query, Call, Load, Store}
use Rattle.scx_vm.specs.Arguments.{argument_of}
use Rattle.scx_vm.specs.Host.{after_query}
use Rattle.scx_vm.specs.declared.arguments.Arg.{Arg}
use Rattle.scx_weights.specs.Limits.{is_throttled, with_use}
use Rattle.scx_weights.proofs.Throttled.{uses_keep_throttled}
use Rattle.scx_sched_world.specs.declared.call.Insert.{Insert}
use Rattle.scx_sched_world.specs.Ids.{held_queue, builtin_queue, parked_queue, local_on}
use Rattle.scx_sched_world.specs.World.{WorldState, with_tree, waits_in, waits}
use Rattle.scx_sched_world.specs.Tasks.{rank_by, after_leave, after_enter, for_cpu, brought, put_parked, next_for}
use Rattle.scx_sched_world.specs.Helpers.{is_dispatch, is_held, with_insert, after_release, insert_or_fault, helper_after, world_functions, moved_to_local}
use Rattle.scx_sched_world.specs.Ejecting.{builtin_vtime, put_builtin, evict}
use Rattle.scx_sched_machine.proofs.Choices.{keeps_if}
use Rattle.scx_sched.specs.Once.{IsSound, GoesSomewhere}
use Rattle.scx_sched.specs.Kept.{IsWanted, ForAny, Nowhere, Inserted, InFront, Before}
use Rattle.scx_sched.specs.Parked.{AreThrottled}
use Rattle.scx_sched_world.proofs.Fronts.{front_in}
use Rattle.scx_sched.proofs.Marks.{KeepsMarks, Anywhere, kept_local, kept_entered}
use Rattle.scx_sched.proofs.Waiting.{pushed_other, without_other}
use Rattle.scx_sched.proofs.Sound.{IsFit, is_fit, fit_apart, held_in_dispatch, said_apart}
use Rattle.scx_sched.proofs.Seen.{next_seen}
use Rattle.scx_sched.proofs.Queries.{kept_apart}

-- the same tasks are parked, in the same order
pub record IsAsParked (s s' : QueueState) : Type 0 where
  pub stay : (u : ℕ) → queue_of s u ≡ Some parked_queue → entry_of s' u ≡ entry_of s u
  pub none : (u : ℕ) → queue_of s' u ≡ Some parked_queue → entry_of s' u ≡ entry_of s u

-- where all have the same entries, the same tasks are parked
pub as_same : (s s' : QueueState) → ((u : ℕ) → entry_of s' u ≡ entry_of s u) → IsAsParked s s'
as_same s s' h = record { stay = λ u e. h u; none = λ u e. h u }

abbrev home_of : Option Entry → Option ℕ
home_of o = option_map (λ p. p.queue) o

-- where two changes leave the same tasks parked, they do one after the other
pub as_then : (s s' s'' : QueueState) → IsAsParked s s' → IsAsParked s' s'' → IsAsParked s s''
as_then s s' s'' a b = record {
  stay = λ u e. b.stay u (ap home_of (a.stay u e) ∙ e) ∙ a.stay u e;
  none = λ u e. b.none u e ∙ a.none u (ap home_of (sym (b.none u e)) ∙ e);
}

-- the only entry that changes is that of a task which isn't parked before or after
as_but : (s s' : QueueState) (t : ℕ) → (queue_of s t ≡ Some parked_queue → ⊥) → (queue_of s' t ≡ Some parked_queue → ⊥) → ((u : ℕ) → (u ≡ t → ⊥) → entry_of s' u ≡ entry_of s u) → IsAsParked s s'
as_but s s' t before after others = record { stay = λ u e. stay u e (cases_eq u t); none = λ u e. none u e (cases_eq u t) }
  where
    stay : (u : ℕ) → queue_of s u ≡ Some parked_queue → (u ≡ t) ⊎ (u ≡ t → ⊥) → entry_of s' u ≡ entry_of s u
    stay u e (inl x) = absurd (before (subst (λ k. queue_of s k ≡ Some parked_queue) x e))
    stay u e (inr d) = others u d

    none : (u : ℕ) → queue_of s' u ≡ Some parked_queue → (u ≡ t) ⊎ (u ≡ t → ⊥) → entry_of s' u ≡ entry_of s u
    none u e (inl x) = absurd (after (subst (λ k. queue_of s' k ≡ Some parked_queue) x e))
    none u e (inr d) = others u d

same_some : (a b : ℕ) → Some a ≡ Some b → a ≡ b
same_some a b e = cc

both : (b : Bool) → b ≡ true → b ≡ false → ⊥
both true x y = absurd (cc)
both false x y = absurd (cc)

-- in another queue, so not parked
apart_from : (q : ℕ) (o : Option ℕ) → o ≡ Some q → (q == parked_queue) ≡ false → o ≡ Some parked_queue → ⊥
apart_from q o is apart e = both (q == parked_queue) (eq-eqb q parked_queue (same_some q parked_queue (sym is ∙ e))) apart

none_from : (o : Option Entry) → o ≡ None → home_of o ≡ Some parked_queue → ⊥
none_from o is e = let bad : None ≡ Some parked_queue = sym (ap home_of is) ∙ e in absurd (cc)

-- ---- queues

-- after a push to another queue the same tasks are parked
pub as_pushed : (s : QueueState) (q t : ℕ) (r : Rank) → (q == parked_queue) ≡ false → IsAsParked s (after_push s q t r)
as_pushed s q t r apart = go (push_refusal s q t r) refl
  where
    s' : QueueState
    s' = with_place s q t r

    after : (t < length s.entries) ⊎ (length s.entries ≤ t) → push_refusal s q t r ≡ None → queue_of s' t ≡ Some parked_queue → ⊥
    after (inl l) ok e = apart_from q (queue_of s' t) (ap home_of (get_or-set_same {A = Option Entry} s.entries t (Some (next_entry s q r)) None l)) apart e
    after (inr past) ok e = none_from (entry_of s t) (free_from s q t r ok) (ap (λ (xs : List (Option Entry)). home_of (get_or xs t None)) (sym (set_past s.entries t (Some (next_entry s q r)) past)) ∙ e)

    go : (o : Option _) → push_refusal s q t r ≡ o → IsAsParked s (cond (is_none o) s' s)
    go None ok = as_but s s' t (none_from (entry_of s t) (free_from s q t r ok)) (after (cases_lt t (length s.entries)) ok) (λ u d. get_or-set_other {A = Option Entry} s.entries t u (Some (next_entry s q r)) None d)
    go (Some f) x = as_same s s (λ u. refl)

-- without the entry of a task that isn't parked the same tasks are parked
pub as_without : (s : QueueState) (t : ℕ) → (queue_of s t ≡ Some parked_queue → ⊥) → IsAsParked s (without_task s t)
as_without s t before = as_but s (without_task s t) t before (after (cases_lt t (length s.entries))) (λ u d. without_other s t u d)
  where
    after : (t < length s.entries) ⊎ (length s.entries ≤ t) → queue_of (without_task s t) t ≡ Some parked_queue → ⊥
    after (inl l) e = none_from (entry_of (without_task s t) t) (get_or-set_same {A = Option Entry} s.entries t None None l) e
    after (inr past) e = before (ap (λ (xs : List (Option Entry)). home_of (get_or xs t None)) (sym (set_past s.entries t None past)) ∙ e)

-- after a task that isn't parked has left its queue the same tasks are parked
pub as_removed : (s : QueueState) (t : ℕ) → (queue_of s t ≡ Some parked_queue → ⊥) → IsAsParked s (after_remove s t)
as_removed s t before = keeps_if (IsAsParked s) (is_some (entry_of s t)) (without_task s t) s (as_without s t before) (as_same s s (λ u. refl))

-- after the front of another queue has left it the same tasks are parked
pub as_popped : (s : QueueState) (q : ℕ) → (q == parked_queue) ≡ false → IsAsParked s (after_pop s q)
as_popped s q apart = go (front_of s q) refl
  where
    go : (o : Option ℕ) → front_of s q ≡ o → IsAsParked s (without s o)
    go None e = as_same s s (λ u. refl)
    go (Some t) e = as_without s t (apart_from q (queue_of s t) (front_in s q t e) apart)

as_created : (s : QueueState) (q : ℕ) → IsAsParked s (after_create s q)
as_created s q = keeps_if (IsAsParked s) (is_none (create_refusal s q)) (with_queue s q) s (as_same s (with_queue s q) (λ u. refl)) (as_same s s (λ u. refl))

local_apart : (c : ℕ) → (local_on c == parked_queue) ≡ false
local_apart c = ne_eqb (local_on c) parked_queue (λ x. omega (arith, x))

-- ---- small steps of a world

-- from the first world to the second
abbrev pub StayParked : WorldState → WorldState → Type 0
StayParked w v = IsAsParked w.queues v.queues

-- in the same world the same tasks are parked
pub stay_here : (w : WorldState) → StayParked w w
stay_here w = as_same w.queues w.queues (λ u. refl)

wanted_apart : (on : List (Option ℕ)) (n : ℕ) (w : WorldState) (i : Insert) → IsWanted (length on) w i → GoesSomewhere w.queues (length on) w.call.insert → (i.queue == parked_queue) ≡ false
wanted_apart on n w i (ForAny e) g = rw e refl
wanted_apart on n w i (Nowhere e) g = rw e refl
wanted_apart on n w i (Inserted c said l x e) g = rw e (said_apart on n w c said l x g)
wanted_apart on n w i (InFront c l linux e) g = rw e (local_apart c)
wanted_apart on n w i (Before c said l linux none goes e) g = rw e (goes c l).1

-- as the processor of a task, its slice and sets of processors change, the same tasks stay parked
parked_marks : (w : WorldState) → KeepsMarks Anywhere (StayParked w)
parked_marks w = record { there = λ v c h l. tt; homed = λ v t c l h. h; sliced = λ v t k h. h; sets = λ v a b c d h. h }

-- as a task comes to wait in another queue, the same tasks stay parked
pub as_entered : (w : WorldState) (t : ℕ) (i : Insert) → (i.queue == parked_queue) ≡ false → StayParked w (after_enter w t i)
as_entered w t i apart = kept_entered Anywhere (StayParked w) (parked_marks w) w t i (as_pushed w.queues i.queue t (rank_by w i.rank) apart) (stay_here w)

-- as the task at hand comes to wait where it may, the same tasks stay parked
pub as_wanted : (on : List (Option ℕ)) (n : ℕ) (hand : Option ℕ) (w : WorldState) (t : ℕ) (i : Insert) → IsWanted (length on) w i → IsSound hand on n w → StayParked w (after_enter w t i)
as_wanted on n hand w t i x h = as_entered w t i (wanted_apart on n w i x h.goes)

-- as a task goes from another queue to a local one, the same tasks stay parked
pub as_brought : (o : Option ℕ) (w : WorldState) (c : ℕ) → ((t : ℕ) → o ≡ Some t → queue_of w.queues t ≡ Some parked_queue → ⊥) → StayParked w (brought o w c)
as_brought None w c apart = stay_here w
as_brought (Some t) w c apart =
    kept_local Anywhere (StayParked w) (parked_marks w) (after_leave w t) c t tt
    (as_then w.queues (after_remove w.queues t) (after_push (after_remove w.queues t) (local_on c) t Fifo) (as_removed w.queues t (apart t refl)) (as_pushed (after_remove w.queues t) (local_on c) t Fifo (local_apart c)))

-- the first task of another queue that may run on a processor isn't parked
pub next_apart : (w : WorldState) (q c t : ℕ) → (q == parked_queue) ≡ false → next_for w q c ≡ Some t → queue_of w.queues t ≡ Some parked_queue → ⊥
next_apart w q c t apart e = apart_from q (queue_of w.queues t) (next_seen w q c t e).there apart

-- as a task comes to wait for the built-in scheduler, the same tasks stay parked
pub as_put_builtin : (w : WorldState) (t : ℕ) → StayParked w (put_builtin w t)
as_put_builtin w t = keeps_if (StayParked w) (nat_lt t (length w.tasks)) _ w (as_pushed w.queues builtin_queue t (Vtime (builtin_vtime w t)) refl) (stay_here w)

-- as a task goes over, if it waits, the same tasks stay parked
pub as_evict : (w : WorldState) (t : ℕ) → StayParked w (evict w t)
as_evict w t = go (waits w t) refl
  where
    go : (b : Bool) → waits w t ≡ b → StayParked w (cond b (put_builtin (after_leave w t) t) w)
    go true e = as_then w.queues (after_leave w t).queues (put_builtin (after_leave w t) t).queues (as_removed w.queues t (λ x. both (waits w t) e (ap waits_in x))) (as_put_builtin (after_leave w t) t)
    go false e = stay_here w

-- ---- helpers

held_apart : (w : WorldState) (t : ℕ) → is_held w (Some t) ≡ true → queue_of w.queues t ≡ Some parked_queue → ⊥
held_apart w t e x = go (entry_of w.queues t) e x
  where
    go : (o : Option Entry) → is_in held_queue o ≡ true → home_of o ≡ Some parked_queue → ⊥
    go None y z = absurd (cc)
    go (Some p) y z = let bad : held_queue ≡ parked_queue = sym (eqb-true p.queue held_queue y) ∙ same_some p.queue parked_queue z in absurd (omega (arith, bad))

as_inserted : (w : WorldState) (t : Option ℕ) (i : Insert) → IsFit w t i → StayParked w (insert_or_fault w None t i)
as_inserted w t i fit = go (is_dispatch w.call.callback) refl t fit
  where
    go : (b : Bool) → is_dispatch w.call.callback ≡ b → (u : Option ℕ) → IsFit w u i → StayParked w (cond b (after_release w u (for_cpu w.call.cpu i)) (with_insert w i))
    go true x None fit = stay_here w
    go true x (Some u) fit =
        as_then w.queues (after_leave w u).queues (after_enter (after_leave w u) u (for_cpu w.call.cpu i)).queues (as_removed w.queues u (held_apart w u (held_in_dispatch w (Some u) x fit.may)))
        (as_entered (after_leave w u) u (for_cpu w.call.cpu i) (fit_apart w i.queue w.call.cpu fit.queue))
    go false x u fit = stay_here w

as_moved : (w : WorldState) (o : Option ℕ) → ((t : ℕ) → o ≡ Some t → queue_of w.queues t ≡ Some parked_queue → ⊥) → StayParked w (moved_to_local w o)
as_moved w None apart = stay_here w
as_moved w (Some t) apart = as_brought (Some t) w w.call.cpu apart

as_helper : (w : WorldState) (f : Helper) (a : List Arg) → StayParked w (helper_after w f a)
as_helper w f a =
    kept_apart (StayParked w) (λ v x m a b c d r h. h) w (stay_here w) (λ i o new. stay_here w) (as_created w.queues) (λ t i flags back none. as_inserted w t i (is_fit w t i flags none))
    (λ q here low. as_moved w (next_for w q w.call.cpu) (λ t e. next_apart w q w.call.cpu t (ne_eqb q parked_queue (λ x. omega (arith, x, low))) e)) f a

-- as a program asks something of the world, the same tasks stay parked
pub as_query : (w : WorldState) (q : Query) → StayParked w (after_query world_functions w q)
as_query w (Call f a) = as_helper w f (map argument_of a)
as_query w (Load t f) = stay_here w
as_query w (Store t f k) = stay_here w

-- ---- nobody is parked without cause

-- where the same are parked, and who was throttled is so
pub throttled_as : (w v : WorldState) → StayParked w v → ((t : ℕ) → is_throttled w.tree t ≡ true → is_throttled v.tree t ≡ true) → AreThrottled w → AreThrottled v
throttled_as w v a grows h t e = grows t (h t (ap home_of (sym (a.none t e)) ∙ e))

-- a task that is parked is throttled
pub throttled_parked : (w : WorldState) (t : ℕ) → is_throttled w.tree t ≡ true → AreThrottled w → AreThrottled (put_parked w t)
throttled_parked w t now h = keeps_if AreThrottled (nat_lt t (length w.tasks)) _ w (λ u e. go u e (cases_eq u t)) h
  where
    go : (u : ℕ) → queue_of (after_push w.queues parked_queue t Fifo) u ≡ Some parked_queue → (u ≡ t) ⊎ (u ≡ t → ⊥) → is_throttled w.tree u ≡ true
    go u e (inl x) = rw x now
    go u e (inr d) = h u (ap home_of (sym (pushed_other w.queues parked_queue t u Fifo d)) ∙ e)

-- as milliseconds go by
pub throttled_used : (w : WorldState) (t : ℕ) → AreThrottled w → AreThrottled (with_tree w (with_use w.tree t))
throttled_used w t h = throttled_as w (with_tree w (with_use w.tree t)) (stay_here w) (λ u e. uses_keep_throttled w.tree u t e) h
