-- A local queue that was supplied has a front that may run, or nobody in it.
use Rattle.std.proofs.Common.{◌≡◌, ℕ, zero, suc, ◌+◌, ◌<◌, ◌≤◌, ◌⊎◌, inl, inr, Bool, true, false, ◌==◌, not, nat_lt, cond, length, set, Option, Some, None, is_none, option_map, refl, sym, ap, ◌∙◌, arith, count_by}
use Rattle.std.proofs.lemmas.Bool.{cases_eq, cases_lt, ne_eqb, eq-eqb}
use Rattle.std.proofs.lemmas.Bool.Decides.{nat_tests}
use Rattle.std.proofs.lemmas.List.{get_or_past, set_past}
use Rattle.scx_dsq.specs.declared.entries.Entry.{Entry}
use Rattle.scx_dsq.specs.declared.entries.Rank.{Rank}
use Rattle.scx_dsq.specs.declared.entries.Rank.TheVariants.{Fifo}
use Rattle.scx_dsq.specs.Laws.{one_if}
use Rattle.scx_dsq.specs.Queues.{QueueState, entry_of, queue_of, is_in, len_of, front_of}
use Rattle.scx_dsq.specs.Calls.{push_refusal, next_entry, with_task as with_place, after_push, after_remove}
use Rattle.scx_sched_world.specs.Ids.{global, builtin_queue, parked_queue, local_on}
use Rattle.scx_sched_world.specs.World.{WorldState, with_queues, is_throttled}
use Rattle.scx_sched_world.specs.Tasks.{local_len, brought, put_parked, after_leave, next_for}
use Rattle.scx_sched_machine.specs.Steps.{State, Stepped, with_world, stays, one_after_other}
use Rattle.scx_sched_machine.specs.Filling.{fill}
use Rattle.scx_sched_machine.specs.Parking.{park, if_throttled, throttled_front, throttled_next, park_then, park_next, clear, in_reach, supply, FrontMayRun}
use Rattle.scx_sched_machine.specs.Cycle.{has_local, builtin_dispatch, builtin_fill}
use Rattle.scx_sched_machine.proofs.Choices.{keeps_if}
use Rattle.scx_sched_world.proofs.Fronts.{front_in}
use Rattle.scx_sched.proofs.Marks.{KeepsMarks, Anywhere, kept_local}
use Rattle.scx_sched.proofs.Waiting.{pushed_other}
use Rattle.scx_sched.proofs.Lengths.{len_set}
use Rattle.scx_sched.proofs.Fronts.{IsSameIn, same_here, same_then, same_pushed, same_removed}
use Rattle.scx_sched.proofs.Clear.{MayStart, may_marks, len_same}
use Rattle.scx_sched.proofs.Seen.{next_seen}
use Rattle.scx_sched.proofs.Sound.{place_known}

-- ---- how many are in a queue

-- a task of a queue is counted
pub len_removed : (s : QueueState) (id t : ℕ) → queue_of s t ≡ Some id → len_of (after_remove s t) id + 1 ≡ len_of s id
len_removed s id t e =
    let place = place_known s id t e in
    rw place.1 (omega (arith, len_set s id t None place.0, ap one_if (inside (entry_of s t) e)))
  where
    same : (a b : ℕ) → Some a ≡ Some b → a ≡ b
    same a b e = cc

    inside : (o : Option Entry) → option_map (λ p. p.queue) o ≡ Some id → is_in id o ≡ true
    inside None x = absurd (cc)
    inside (Some p) x = eq-eqb p.queue id (same p.queue id x)

-- a push makes each queue longer by one task at most
pub len_pushed_most : (s : QueueState) (q id t : ℕ) (r : Rank) → len_of (after_push s q t r) id ≤ len_of s id + 1
len_pushed_most s q id t r = go (push_refusal s q t r) refl
  where
    one_le : (b : Bool) → one_if b ≤ 1
    one_le true = omega arith
    one_le false = omega arith

    go : (o : Option _) → push_refusal s q t r ≡ o → len_of (cond (is_none o) (with_place s q t r) s) id ≤ len_of s id + 1
    go (Some e) x = omega arith
    go None x = at (cases_lt t (length s.entries))
      where
        at : (t < length s.entries) ⊎ (length s.entries ≤ t) → count_by (is_in id) (set s.entries t (Some (next_entry s q r))) ≤ len_of s id + 1
        at (inl l) = omega (arith, len_set s id t (Some (next_entry s q r)) l, one_le (is_in id (Some (next_entry s q r))))
        at (inr past) = rw (set_past s.entries t (Some (next_entry s q r)) past) (omega arith)

-- where nobody is there is no front
pub empty_no_front : (s : QueueState) (id : ℕ) → len_of s id ≡ 0 → front_of s id ≡ None
empty_no_front s id e = go (front_of s id) refl
  where
    go : (o : Option ℕ) → front_of s id ≡ o → front_of s id ≡ None
    go None x = x
    go (Some t) x = absurd (omega (arith, len_removed s id t (front_in s id t x), e))

-- nor does any processor see a task
pub empty_no_next : (w : WorldState) (q c : ℕ) → len_of w.queues q ≡ 0 → next_for w q c ≡ None
empty_no_next w q c e = go (next_for w q c) refl
  where
    go : (o : Option ℕ) → next_for w q c ≡ o → next_for w q c ≡ None
    go None x = x
    go (Some t) x = absurd (omega (arith, len_removed w.queues q t (next_seen w q c t x).there, e))

-- ---- the task that may not run

-- a task of that queue is throttled
pub record IsThrottledIn (s : State) (q t : ℕ) : Type 0 where
  pub there : queue_of s.world.queues t ≡ Some q
  pub throttled : is_throttled s.world t ≡ true

same_task : (a b : ℕ) → Some a ≡ Some b → a ≡ b
same_task a b e = cc

-- a task that is found to be throttled is that one, and throttled
throttled_if : (w : WorldState) (o : Option ℕ) (t : ℕ) → if_throttled w o ≡ Some t → (o ≡ Some t) × (is_throttled w t ≡ true)
throttled_if w None t e = absurd (cc)
throttled_if w (Some u) t e = at (is_throttled w u) refl e
  where
    at : (b : Bool) → is_throttled w u ≡ b → cond b (Some u) None ≡ Some t → (Some u ≡ Some t) × (is_throttled w t ≡ true)
    at true x y = let same : u ≡ t = same_task u t y in (ap Some same, ap (λ k. is_throttled w k) (sym same) ∙ x)
    at false x y = absurd (cc)

-- a front that is found to be throttled is in its queue, and throttled
pub throttled_is : (s : State) (q t : ℕ) → throttled_front s q ≡ Some t → IsThrottledIn s q t
throttled_is s q t e =
    let x = throttled_if s.world (front_of s.world.queues q) t e in
    record { there = front_in s.world.queues q t x.0; throttled = x.1 }

-- so is the first task that may run on a processor
pub throttled_next_is : (s : State) (q c t : ℕ) → throttled_next s q c ≡ Some t → IsThrottledIn s q t
throttled_next_is s q c t e =
    let x = throttled_if s.world (next_for s.world q c) t e in
    record { there = (next_seen s.world q c t x.0).there; throttled = x.1 }

-- where none is, the task may run
free_if : (w : WorldState) (o : Option ℕ) → if_throttled w o ≡ None → (t : ℕ) → o ≡ Some t → is_throttled w t ≡ false
free_if w o e t f = at (is_throttled w t) refl (ap (λ x. if_throttled w x) (sym f) ∙ e)
  where
    at : (b : Bool) → is_throttled w t ≡ b → cond b (Some t) None ≡ None → is_throttled w t ≡ false
    at true x y = absurd (cc)
    at false x y = x

-- the front may run
pub front_is_free : (s : State) (q : ℕ) → throttled_front s q ≡ None → FrontMayRun s q
front_is_free s q e = free_if s.world (front_of s.world.queues q) e

-- the first task of that queue for the processor isn't throttled
abbrev pub NextIsFree : State → ℕ → ℕ → Type 0
NextIsFree s q c = (t : ℕ) → next_for s.world q c ≡ Some t → is_throttled s.world t ≡ false

-- ---- the rest, once the front is known

-- a task leaves its queue, and is parked
abbrev pub park_left : State → ℕ → Stepped
park_left s t = park (with_world s (after_leave s.world t)) t

abbrev pub park_next_from : ℕ → State → ℕ → ℕ → Option ℕ → Stepped
park_next_from n s q c o = park_then (λ r. park_next n r q c) s o

abbrev pub clear_from : ℕ → State → ℕ → Option ℕ → Stepped
clear_from n s c o = park_then (λ r. clear n r c) s o

-- ---- what parking leaves

-- other queues than that and the parked, the tree and the rules
pub record IsLeft (id : ℕ) (w v : WorldState) : Type 0 where
  pub queue : IsSameIn id w.queues v.queues
  pub tree : v.tree ≡ w.tree
  pub rules : v.rules ≡ w.rules

left_here : (id : ℕ) (w : WorldState) → IsLeft id w w
left_here id w = record { queue = same_here id w.queues w.queues refl; tree = refl; rules = refl }

-- where two changes leave a queue and the tree alike, they do one after the other
pub left_then : (id : ℕ) (u w v : WorldState) → IsLeft id u w → IsLeft id w v → IsLeft id u v
left_then id u w v a b = record { queue = same_then id u.queues w.queues v.queues a.queue b.queue; tree = b.tree ∙ a.tree; rules = b.rules ∙ a.rules }

left_put_parked : (id : ℕ) (w : WorldState) (t : ℕ) → (parked_queue == id) ≡ false → IsLeft id w (put_parked w t)
left_put_parked id w t apart = keeps_if (IsLeft id w) (nat_lt t (length w.tasks)) _ w (record { queue = same_pushed id w.queues parked_queue t Fifo apart; tree = refl; rules = refl }) (left_here id w)

-- as a task of another queue is parked, a queue, the tree and the rules stay, but for the queue of the parked
pub left_park_left : (id : ℕ) (s : State) (q t : ℕ) → (q == id) ≡ false → (parked_queue == id) ≡ false → queue_of s.world.queues t ≡ Some q → IsLeft id s.world (park_left s t).state.world
unfolding park
left_park_left id s q t apart other there =
    let v = after_leave s.world t in
    left_then id s.world v (put_parked v t) (record { queue = same_removed id s.world.queues q t apart there; tree = refl; rules = refl }) (left_put_parked id v t other)

-- so they do as tasks of another queue are parked that may run on a processor
pub left_park_next : (j id : ℕ) (s : State) (q c : ℕ) → (q == id) ≡ false → (parked_queue == id) ≡ false → IsLeft id s.world (park_next j s q c).state.world
unfolding park_next
left_park_next zero id s q c apart other = left_here id s.world
left_park_next (suc j) id s q c apart other = go (throttled_next s q c) refl (λ t. left_park_next j id (park_left s t).state q c apart other)
  where
    go : (o : Option ℕ) → throttled_next s q c ≡ o → ((t : ℕ) → IsLeft id (park_left s t).state.world (park_next j (park_left s t).state q c).state.world) → IsLeft id s.world (park_next_from j s q c o).state.world
    go None x more = left_here id s.world
    go (Some t) x more =
        let p = (park_left s t).state in
        left_then id s.world p.world (park_next j p q c).state.world (left_park_left id s q t apart other (throttled_next_is s q c t x).there) (more t)

-- the queue itself has one task less
pub len_park_left : (s : State) (q t : ℕ) → (parked_queue == q) ≡ false → queue_of s.world.queues t ≡ Some q → len_of (park_left s t).state.world.queues q + 1 ≡ len_of s.world.queues q
unfolding park
len_park_left s q t apart there =
    let v = after_leave s.world t in
    omega (arith, len_removed s.world.queues q t there, len_same q v.queues (put_parked v t).queues (left_put_parked q v t apart).queue)

-- an empty queue has no front
no_front_at : (s : State) (q t : ℕ) → len_of s.world.queues q ≡ 0 → front_of s.world.queues q ≡ Some t → ⊥
no_front_at s q t empty e = let bad : None ≡ Some t = sym (empty_no_front s.world.queues q empty) ∙ e in absurd (cc)

-- ---- all that may not run are parked

-- after as many rounds as tasks are in a queue, its first task that may run on the processor, if there is one, isn't throttled
pub next_parked : (j : ℕ) (s : State) (q c : ℕ) → (parked_queue == q) ≡ false → len_of s.world.queues q ≤ j → NextIsFree (park_next j s q c).state q c
unfolding park_next
next_parked zero s q c apart few = λ t e. let bad : None ≡ Some t = sym (empty_no_next s.world q c (omega (arith, few))) ∙ e in absurd (cc)
next_parked (suc j) s q c apart few = go (throttled_next s q c) refl (λ u l. next_parked j (park_left s u).state q c apart l)
  where
    go : (o : Option ℕ) → throttled_next s q c ≡ o → ((u : ℕ) → len_of (park_left s u).state.world.queues q ≤ j → NextIsFree (park_next j (park_left s u).state q c).state q c) → NextIsFree (park_next_from j s q c o).state q c
    go None x more = free_if s.world (next_for s.world q c) x
    go (Some u) x more = more u (omega (arith, few, len_park_left s q u apart (throttled_next_is s q c u x).there))

-- ---- a local queue

abbrev apart_local : (c : ℕ) → ℕ → Type 0
apart_local c q = (q == local_on c) ≡ false

abbrev reach : ℕ → WorldState → ℕ
reach c v = len_of v.queues (local_on c) + len_of v.queues global

-- as a task of a local queue is parked, one task less is in it or in the global one
pub reach_park_left : (s : State) (c t : ℕ) → queue_of s.world.queues t ≡ Some (local_on c) → in_reach (park_left s t).state c + 1 ≡ in_reach s c
reach_park_left s c t there =
    let v = (park_left s t).state.world in
    let others : len_of v.queues global ≡ len_of s.world.queues global = len_same global s.world.queues v.queues (left_park_left global s (local_on c) t (ne_eqb (local_on c) global (λ x. omega (arith, x))) refl there).queue in
    omega (arith, len_park_left s (local_on c) t (ne_eqb parked_queue (local_on c) (λ x. omega (arith, x))) there, others)

reach_marks : (c k : ℕ) → KeepsMarks Anywhere (λ v. reach c v ≤ k)
reach_marks c k = record { there = λ w d h l. tt; homed = λ w t d l h. h; sliced = λ w t n h. h; sets = λ w a b d e h. h }

-- after a fill no more tasks than before are in the local queue and the global one
pub reach_fill : (s : State) (c : ℕ) → in_reach (fill s global c).state c ≤ in_reach s c
unfolding fill
reach_fill s c = go (nat_lt 0 (local_len s.world c)) refl (next_for s.world global c) refl
  where
    w : WorldState
    w = s.world

    go : (b : Bool) → nat_lt 0 (local_len w c) ≡ b → (o : Option ℕ) → next_for w global c ≡ o → reach c (brought (cond b None o) w c) ≤ reach c w
    go true x o f = omega arith
    go false x None f = omega arith
    go false x (Some t) f =
        let q = after_remove w.queues t in
        let there = (next_seen w global c t f).there in
        let more = len_pushed_most q (local_on c) (local_on c) t Fifo in
        let local_stays : len_of q (local_on c) ≡ len_of w.queues (local_on c) = len_same (local_on c) w.queues q (same_removed (local_on c) w.queues global t (ne_eqb global (local_on c) (λ y. omega (arith, y))) there) in
        let global_stays : len_of (after_push q (local_on c) t Fifo) global ≡ len_of q global = len_same global q (after_push q (local_on c) t Fifo) (same_pushed global q (local_on c) t Fifo (ne_eqb (local_on c) global (λ y. omega (arith, y)))) in
        kept_local Anywhere (λ v. reach c v ≤ reach c w) (reach_marks c (reach c w)) (after_leave w t) c t tt (omega (arith, more, local_stays, global_stays, len_removed w.queues global t there))

-- no front that may not run is left
pub clear_clears : (j : ℕ) (s : State) (c : ℕ) → in_reach s c ≤ j → MayStart c (clear j s c).state.world
unfolding clear
clear_clears zero s c few = λ t e. absurd (no_front_at s (local_on c) t (omega (arith, few)) e)
clear_clears (suc j) s c few = go (fill s global c).state (reach_fill s c) (throttled_front (fill s global c).state (local_on c)) refl (λ u l. clear_clears j (park_left (fill s global c).state u).state c l)
  where
    go : (f : State) → in_reach f c ≤ in_reach s c → (o : Option ℕ) → throttled_front f (local_on c) ≡ o → ((u : ℕ) → in_reach (park_left f u).state c ≤ j → MayStart c (clear j (park_left f u).state c).state.world)
        → MayStart c (clear_from j f c o).state.world
    go f less None x more = front_is_free f (local_on c) x
    go f less (Some u) x more = more u (omega (arith, few, less, reach_park_left f c u (throttled_is f (local_on c) u x).there))

-- once a local queue was supplied, its front, if there is one, may run
pub supply_clears : (s : State) (c : ℕ) → MayStart c (supply s c).state.world
unfolding supply
supply_clears s c = clear_clears (in_reach s c) s c (omega arith)

-- ---- the queue of the built-in scheduler

stands_counted : (s : QueueState) (q u : ℕ) → queue_of s u ≡ Some q → 0 < len_of s q
stands_counted s q u e = go (entry_of s u) refl e (cases_lt u (length s.entries))
  where
    go : (o : Option Entry) → entry_of s u ≡ o → option_map (λ p. p.queue) o ≡ Some q → (u < length s.entries) ⊎ (length s.entries ≤ u) → 0 < len_of s q
    go None x y l = absurd (cc)
    go (Some p) x y (inl l) =
        let inside : is_in q (Some p) ≡ true = eq-eqb p.queue q (same_task p.queue q y) in
        omega (arith, len_set s q u None l, ap (λ o. one_if (is_in q o)) x, ap one_if inside)
    go (Some p) x y (inr past) = let bad : Some p ≡ None = sym x ∙ get_or_past {X = Option Entry} s.entries u None past in absurd (cc)

-- who is pushed to an empty queue is alone there
only_pushed : (s : QueueState) (q t u : ℕ) (r : Rank) → len_of s q ≡ 0 → queue_of (after_push s q t r) u ≡ Some q → u ≡ t
only_pushed s q t u r empty e = go (cases_eq u t)
  where
    go : (u ≡ t) ⊎ (u ≡ t → ⊥) → u ≡ t
    go (inl x) = x
    go (inr d) = absurd (omega (arith, empty, stands_counted s q u (ap (λ (o : Option Entry). option_map (λ p. p.queue) o) (sym (pushed_other s q t u r d)) ∙ e)))

-- its front comes to the local queue only if it may run
pub builtin_clears : (s : State) (c : ℕ) → MayStart c s.world → MayStart c (builtin_fill s c).state.world
unfolding builtin_fill builtin_dispatch fill
builtin_clears s c h = go (has_local s c) refl
  where
    p : State
    p = (park_next (len_of s.world.queues builtin_queue) s builtin_queue c).state

    left : IsLeft (local_on c) s.world p.world
    left = left_park_next (len_of s.world.queues builtin_queue) (local_on c) s builtin_queue c (ne_eqb builtin_queue (local_on c) (λ x. omega (arith, x))) (ne_eqb parked_queue (local_on c) (λ x. omega (arith, x)))

    none_there : (k : ℕ) (b : Bool) → (k == 0) ≡ b → not b ≡ false → k ≡ 0
    none_there k true x y = grind (arith, nat_tests, x)
    none_there k false x y = absurd (cc)

    bring : local_len p.world c ≡ 0 → (b : Bool) (o : Option ℕ) → next_for p.world builtin_queue c ≡ o → MayStart c (brought (cond b None o) p.world c)
    bring empty true o e = λ t x. let bad : None ≡ Some t = sym (empty_no_front p.world.queues (local_on c) empty) ∙ x in absurd (cc)
    bring empty false None e = λ t x. let bad : None ≡ Some t = sym (empty_no_front p.world.queues (local_on c) empty) ∙ x in absurd (cc)
    bring empty false (Some u) e = kept_local Anywhere (MayStart c) (may_marks c) (after_leave p.world u) c u tt alone_there
      where
        q : QueueState
        q = after_remove p.world.queues u

        alone : len_of q (local_on c) ≡ 0
        alone = len_same (local_on c) p.world.queues q (same_removed (local_on c) p.world.queues builtin_queue u (ne_eqb builtin_queue (local_on c) (λ y. omega (arith, y))) (next_seen p.world builtin_queue c u e).there) ∙ empty

        alone_there : MayStart c (with_queues p.world (after_push q (local_on c) u Fifo))
        alone_there t x =
            let same : t ≡ u = only_pushed q (local_on c) u t Fifo alone (front_in (after_push q (local_on c) u Fifo) (local_on c) t x) in
            ap (λ k. is_throttled p.world k) same ∙ next_parked (len_of s.world.queues builtin_queue) s builtin_queue c refl (omega arith) u e

    go : (b : Bool) → has_local s c ≡ b → MayStart c (cond b (stays s) (one_after_other (park_next (len_of s.world.queues builtin_queue) s builtin_queue c) (fill p builtin_queue c))).state.world
    go true some = h
    go false none =
        bring (len_same (local_on c) s.world.queues p.world.queues left.queue ∙ none_there (local_len s.world c) (local_len s.world c == 0) refl none) (nat_lt 0 (local_len p.world c)) (next_for p.world builtin_queue c) refl
