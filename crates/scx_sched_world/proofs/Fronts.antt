-- Who stands at the front of a queue, and whom a task has right behind it there.
use Rattle.std.proofs.Common.{◌≡◌, ℕ, Bool, true, false, nat_lt, ◌==◌, ◌&&◌, cond, if◌then◌else◌, Option, Some, None, IfNone, option_map, refl, sym, ap, ◌∙◌, subst}
use Rattle.std.proofs.lemmas.Bool.{and_parts, eqb-true, both_ways}
use Rattle.std.proofs.lemmas.List.Quantifiers.{position-Some}
use Rattle.scx_dsq.specs.declared.entries.Entry.{Entry}
use Rattle.scx_dsq.specs.declared.entries.Rank.{Rank}
use Rattle.scx_dsq.specs.declared.entries.Rank.TheVariants.{Fifo, Front, Vtime}
use Rattle.scx_dsq.specs.Entries.{is_before}
use Rattle.scx_dsq.specs.Queues.{QueueState, only, entry_of, queue_of, is_first, front_of, is_right_behind, next_by, right_behind, behind_of}
use Rattle.scx_dsq.specs.Calls.{without}
use Rattle.scx_dsq.proofs.Orders.{before-asym}
use Rattle.scx_weights.specs.Hierarchy.{is_in_mask}
use Rattle.scx_sched_world.specs.Ids.{parked_queue}
use Rattle.scx_sched_world.specs.World.{WorldState, with_queues, binds}
use Rattle.scx_sched_world.specs.Tasks.{local_len, next_for, fill_front, unbound_front, after_take}

-- the front of a queue stands there
pub front_in : (s : QueueState) (q t : ℕ) → front_of s q ≡ Some t → queue_of s t ≡ Some q
unfolding front_of
front_in s q t e = go (entry_of s t) (position-Some (is_first s.entries q) s.entries t None e).1
  where
    go : (o : Option Entry) → is_first s.entries q o ≡ true → option_map (λ (p : Entry). p.queue) o ≡ Some q
    go None h = absurd (cc)
    go (Some p) h = ap Some (eqb-true p.queue q (and_parts (p.queue == q) _ h).0)

-- nobody in either case
pub none_either : (b : Bool) → cond {A = Option ℕ} b None None ≡ None
none_either true = refl
none_either false = refl

-- where tasks are bound, others than those that may run there are passed over
pub bound_next : (w : WorldState) (q c : ℕ) → binds w ≡ true → next_for w q c ≡ front_of (only (λ t. is_in_mask w.tree t c) w.queues) q
bound_next w q c bound = rw bound refl

-- where tasks aren't bound, the first of a queue that may run somewhere is its front
pub unbound_next : (w : WorldState) (q c : ℕ) → binds w ≡ false → next_for w q c ≡ front_of w.queues q
unbound_next w q c free = rw free refl

-- and so is the one that comes to a local queue
pub unbound_fill : (w : WorldState) (q c : ℕ) → binds w ≡ false → unbound_front w q c ≡ fill_front w q c
unbound_fill w q c free = rw free refl

-- from an empty queue nobody comes
pub nobody_comes : (w : WorldState) (q c : ℕ) → front_of w.queues q ≡ None → unbound_front w q c ≡ None
nobody_comes w q c e = go (nat_lt 0 (local_len w c))
  where
    go : (b : Bool) → (if b then None else front_of w.queues q) ≡ None
    go true = refl
    go false = e

-- nor does anybody leave it
pub nobody_leaves : (w v : WorldState) (q : ℕ) (o : Option ℕ) → o ≡ front_of w.queues q → v ≡ after_take w q → IfNone o (v ≡ w)
nobody_leaves w v q None e h = h ∙ ap (λ o. with_queues w (without w.queues o)) (sym e)
nobody_leaves w v q (Some t) e h = tt

-- ---- whom a task has right behind it

not_itself : (p : Entry) → is_before p p ≡ true → ⊥
not_itself p e = both_ways (is_before p p) (before-asym p p e) e

-- is in the same queue, and another one
pub record IsBehind (s : QueueState) (q t u : ℕ) : Type 0 where
  pub there : queue_of s u ≡ Some q
  pub other : u ≡ t → ⊥

same_entry : (a b : Entry) → Some a ≡ Some b → a ≡ b
same_entry a b e = cc

-- whoever is right behind a task is in the same queue, and another task
pub behind_in : (s : QueueState) (q t u : ℕ) → queue_of s t ≡ Some q → behind_of s t ≡ Some u → IsBehind s q t u
unfolding behind_of
behind_in s q t u here e = go (entry_of s t) refl here e
  where
    go : (o : Option Entry) → entry_of s t ≡ o → option_map (λ p. p.queue) o ≡ Some q → right_behind s.entries o ≡ Some u → IsBehind s q t u
    go None x y z = absurd (cc)
    go (Some p) x y z = by p.rank z
      where
        at : (o : Option Entry) → entry_of s u ≡ o → is_right_behind s.entries p o ≡ true → IsBehind s q t u
        at None v w = absurd (cc)
        at (Some r) v w =
            let behind = and_parts (r.queue == p.queue) (is_before p r) (and_parts (r.queue == p.queue && is_before p r) _ w).0 in
            record {
              there = ap (λ (o : Option Entry). option_map (λ k. k.queue) o) v ∙ ap Some (eqb-true r.queue p.queue behind.0) ∙ y;
              other = λ same. not_itself p (subst (λ k. is_before p k ≡ true) (same_entry r p (sym v ∙ ap (λ k. entry_of s k) same ∙ x)) behind.1);
            }

        by : (k : Rank) → next_by k s.entries p ≡ Some u → IsBehind s q t u
        by Fifo w = at (entry_of s u) refl (position-Some (is_right_behind s.entries p) s.entries u None w).1
        by Front w = at (entry_of s u) refl (position-Some (is_right_behind s.entries p) s.entries u None w).1
        by (Vtime k) w = absurd (cc)

-- ---- a walk over the parked

-- whoever is looked at next is parked
abbrev pub AtParked : QueueState → Option ℕ → Type 0
AtParked s None = Unit {0}
AtParked s (Some t) = queue_of s t ≡ Some parked_queue

-- the front of the queue of parked tasks, if there is one, is parked
pub at_front : (s : QueueState) (o : Option ℕ) → front_of s parked_queue ≡ o → AtParked s o
at_front s None e = tt
at_front s (Some t) e = front_in s parked_queue t e

-- whoever is right behind a parked task, if anyone, is parked
pub at_behind : (s : QueueState) (t : ℕ) (o : Option ℕ) → queue_of s t ≡ Some parked_queue → behind_of s t ≡ o → AtParked s o
at_behind s t None here e = tt
at_behind s t (Some u) here e = (behind_in s parked_queue t u here e).there
