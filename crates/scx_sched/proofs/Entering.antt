-- Where a task may enter a queue: each push that the machine makes is accepted.
use Rattle.std.proofs.Common.{◌≡◌, ℕ, ◌<◌, ◌≤◌, Bool, true, false, ◌==◌, ◌&&◌, ◌||◌, not, nat_lt, ◌⊎◌, inl, inr, if◌then◌else◌, [], ◌∷◌, length, set, Option, Some, None, is_some, is_none, refl, sym, ◌∙◌, ◌+◌, ap, subst, arith}
use Rattle.std.specs.List.{list_any}
use Rattle.std.proofs.lemmas.Bool.{cases_eq, cases_lt, eq-eqb, ne_eqb}
use Rattle.std.proofs.lemmas.Bool.Decides.{nat_tests}
use Rattle.std.proofs.lemmas.List.{get_or-set_same, get_or-set_other, get_or_past, set_past}
use Rattle.std.proofs.lemmas.List.Elements.{All-from_get_or}
use Rattle.std.proofs.lemmas.List.Folds.{list_any-append, list_any_at, list_any_none}
use Rattle.scx_dsq.specs.Queues.{Entries, entry_at, QueueState, exists, entry_of, is_in, front_of}
use Rattle.scx_dsq.specs.Calls.{clashes, push_refusal, after_push, after_pop, after_remove, without, with_queue, after_create, create_refusal, with_task as with_place, without_task, next_entry}
use Rattle.scx_dsq.specs.Entries.{same_sort}
use Rattle.scx_dsq.specs.declared.entries.Rank.{Rank}
use Rattle.scx_dsq.specs.declared.entries.Rank.TheVariants.{Fifo, Front, Vtime}
use Rattle.scx_dsq.specs.declared.entries.Entry.{Entry}
use Rattle.scx_dsq.specs.Laws.{one_if, IsStamped}
use Rattle.scx_dsq.proofs.Facts.{ids_pushed, ids_without, ids_removed}
use Rattle.scx_sched_world.specs.declared.call.Insert.{Insert}
use Rattle.scx_sched_world.specs.Ids.{global, held_queue, builtin_queue, local_on, policy_end, parked_queue}
use Rattle.scx_sched_world.specs.World.{WorldState, is_runnable}
use Rattle.scx_sched_world.specs.Tasks.{queue_for, rank_by}
use Rattle.scx_sched_machine.proofs.Choices.{keeps_if}
use Rattle.scx_sched.specs.Once.{IsOnce, HasQueues, sort_of, fits_queue, fits_sort, IsSorted, IsAlike, IsOpen, GoesSomewhere}
use Rattle.scx_sched.proofs.Written.{each_written}

-- ---- where a task may enter

-- a truth value counts once at most
pub one_le : (b : Bool) → one_if b ≤ 1
one_le true = omega arith
one_le false = omega arith

-- the task at hand waits nowhere
pub nowhere : (w : WorldState) (t : ℕ) → IsOnce (Some t) w → entry_of w.queues t ≡ None
nowhere w t once = go (entry_of w.queues t) (omega (arith, once t, one_le (is_runnable w t), hit))
  where
    hit : one_if (t == t) ≡ 1
    hit = rw (eq-eqb t t refl) refl

    go : (o : Option Entry) → one_if (is_some o) ≡ 0 → o ≡ None
    go None e = refl
    go (Some p) e = absurd (omega (arith, e))

-- what each entry passes, and a new one too, each entry passes then
pub each_set : (f : Option Entry → Bool) (b : Bool) (places : Entries) (t : ℕ) (o : Option Entry) → f o ≡ b → ((u : ℕ) → f (entry_at places u) ≡ b) → (u : ℕ) → f (entry_at (set places t o) u) ≡ b
each_set f b places t o new old u = each_written (λ k (p : Option Entry). f p ≡ b) places t o None new old u

-- a push that fits leaves each queue of its sort
pub sorted_pushed : (s : QueueState) (q t : ℕ) (r : Rank) → fits_queue q r ≡ true → IsSorted s → IsSorted (after_push s q t r)
sorted_pushed s q t r fits sorted = go (is_none (push_refusal s q t r))
  where
    go : (b : Bool) → IsSorted (if b then with_place s q t r else s)
    go true = each_set fits_sort true s.entries t (Some (next_entry s q r)) fits sorted
    go false = sorted

-- and so does a task that leaves
pub sorted_without : (s : QueueState) (o : Option ℕ) → IsSorted s → IsSorted (without s o)
sorted_without s None sorted = sorted
sorted_without s (Some t) sorted = each_set fits_sort true s.entries t None refl sorted

-- a pop
pub sorted_popped : (s : QueueState) (q : ℕ) → IsSorted s → IsSorted (after_pop s q)
sorted_popped s q sorted = sorted_without s (front_of s q) sorted

-- and a removal
pub sorted_removed : (s : QueueState) (t : ℕ) → IsSorted s → IsSorted (after_remove s t)
sorted_removed s t sorted = keeps_if IsSorted (is_some (entry_of s t)) (without_task s t) s (each_set fits_sort true s.entries t None refl sorted) sorted

-- ---- the stamps of entries are below the number of pushes

-- after a push each stamp is still that of an accepted push
pub stamped_pushed : (s : QueueState) (q t : ℕ) (r : Rank) → IsStamped s → IsStamped (after_push s q t r)
stamped_pushed s q t r h = keeps_if IsStamped (is_none (push_refusal s q t r)) (with_place s q t r) s (λ u p e. at u p e (cases_eq u t) (cases_lt t (length s.entries))) h
  where
    stamp : (a b : Entry) → Some a ≡ Some b → b.stamp ≡ a.stamp
    stamp a b e = ap (λ (x : Entry). x.stamp) (sym (same a b e))
      where
        same : (a b : Entry) → Some a ≡ Some b → a ≡ b
        same a b e = cc

    at : (u : ℕ) (p : Entry) → entry_of (with_place s q t r) u ≡ Some p → (u ≡ t) ⊎ (u ≡ t → ⊥) → (t < length s.entries) ⊎ (length s.entries ≤ t) → p.stamp < s.pushes + 1
    at u p e (inl x) (inl l) =
        let here : entry_of (with_place s q t r) u ≡ Some (next_entry s q r) = ap (λ k. entry_of (with_place s q t r) k) x ∙ get_or-set_same {A = Option Entry} s.entries t (Some (next_entry s q r)) None l in
        omega (arith, stamp (next_entry s q r) p (sym here ∙ e))
    at u p e (inl x) (inr past) = let old : p.stamp < s.pushes = h u p (sym (ap (λ xs. entry_at xs u) (set_past s.entries t (Some (next_entry s q r)) past)) ∙ e) in omega (arith, old)
    at u p e (inr d) l = let old : p.stamp < s.pushes = h u p (sym (get_or-set_other {A = Option Entry} s.entries t u (Some (next_entry s q r)) None d) ∙ e) in omega (arith, old)

stamped_gone : (s : QueueState) (t : ℕ) → IsStamped s → IsStamped (without_task s t)
stamped_gone s t h u p e = at (cases_eq u t) (cases_lt t (length s.entries))
  where
    at : (u ≡ t) ⊎ (u ≡ t → ⊥) → (t < length s.entries) ⊎ (length s.entries ≤ t) → p.stamp < s.pushes
    at (inl x) (inl l) =
        let here : entry_of (without_task s t) u ≡ None = ap (λ k. entry_of (without_task s t) k) x ∙ get_or-set_same {A = Option Entry} s.entries t None None l in
        let bad : None ≡ Some p = sym here ∙ e in absurd (cc)
    at (inl x) (inr past) = h u p (sym (ap (λ xs. entry_at xs u) (set_past s.entries t None past)) ∙ e)
    at (inr d) l = h u p (sym (get_or-set_other {A = Option Entry} s.entries t u None None d) ∙ e)

stamped_without : (s : QueueState) (o : Option ℕ) → IsStamped s → IsStamped (without s o)
stamped_without s None h = h
stamped_without s (Some t) h = stamped_gone s t h

-- after a front has left its queue each stamp is still that of an accepted push
pub stamped_popped : (s : QueueState) (q : ℕ) → IsStamped s → IsStamped (after_pop s q)
stamped_popped s q h = stamped_without s (front_of s q) h

-- after a task has left its queue each stamp is still that of an accepted push
pub stamped_removed : (s : QueueState) (t : ℕ) → IsStamped s → IsStamped (after_remove s t)
stamped_removed s t h = keeps_if IsStamped (is_some (entry_of s t)) (without_task s t) s (stamped_gone s t h) h

-- after a queue was created each stamp is still that of an accepted push
pub stamped_created : (s : QueueState) (q : ℕ) → IsStamped s → IsStamped (after_create s q)
stamped_created s q h = keeps_if IsStamped (is_none (create_refusal s q)) (with_queue s q) s h h

-- ---- who waits in a queue was put there in one way

alike_pushed : (s : QueueState) (q t : ℕ) (r : Rank) (q' : ℕ) (r' : Rank) → clashes q r (Some (next_entry s q' r')) ≡ false → IsAlike s q r → IsAlike (after_push s q' t r') q r
alike_pushed s q t r q' r' new old =
    keeps_if (λ (x : QueueState). IsAlike x q r) (is_none (push_refusal s q' t r')) (with_place s q' t r') s (each_set (clashes q r) false s.entries t (Some (next_entry s q' r')) new old) old

alike_without : (s : QueueState) (o : Option ℕ) (q : ℕ) (r : Rank) → IsAlike s q r → IsAlike (without s o) q r
alike_without s None q r old = old
alike_without s (Some t) q r old = each_set (clashes q r) false s.entries t None refl old

alike_removed : (s : QueueState) (t q : ℕ) (r : Rank) → IsAlike s q r → IsAlike (after_remove s t) q r
alike_removed s t q r old = keeps_if (λ (x : QueueState). IsAlike x q r) (is_some (entry_of s t)) (without_task s t) s (each_set (clashes q r) false s.entries t None refl old) old

alike_created : (s : QueueState) (q' q : ℕ) (r : Rank) → IsAlike s q r → IsAlike (after_create s q') q r
alike_created s q' q r old = keeps_if (λ (x : QueueState). IsAlike x q r) (is_none (create_refusal s q')) (with_queue s q') s old old

-- two of the sort of a third are of one sort
pub one_sort : (a b c : Rank) → same_sort a b ≡ true → same_sort c b ≡ true → same_sort a c ≡ true
one_sort Fifo Fifo Fifo e f = refl
one_sort Fifo Fifo Front e f = refl
one_sort Fifo Fifo (Vtime l) e f = f
one_sort Fifo Front Fifo e f = refl
one_sort Fifo Front Front e f = refl
one_sort Fifo Front (Vtime l) e f = f
one_sort Fifo (Vtime k) c e f = absurd (cc)
one_sort Front Fifo Fifo e f = refl
one_sort Front Fifo Front e f = refl
one_sort Front Fifo (Vtime l) e f = f
one_sort Front Front Fifo e f = refl
one_sort Front Front Front e f = refl
one_sort Front Front (Vtime l) e f = f
one_sort Front (Vtime k) c e f = absurd (cc)
one_sort (Vtime j) Fifo c e f = absurd (cc)
one_sort (Vtime j) Front c e f = absurd (cc)
one_sort (Vtime j) (Vtime k) Fifo e f = f
one_sort (Vtime j) (Vtime k) Front e f = f
one_sort (Vtime j) (Vtime k) (Vtime l) e f = refl

-- where an id isn't one of the policy's, the other test holds
pub low_or : (q : ℕ) (b : Bool) → policy_end ≤ q → (nat_lt q policy_end || b) ≡ true → b ≡ true
low_or q b past e = let no : nat_lt q policy_end ≡ false = grind (arith, nat_tests, past) in subst (λ x. (x || b) ≡ true) no e

-- the machine's own queues hold those of their own sort
pub own_alike : (s : QueueState) (q : ℕ) (r : Rank) → policy_end ≤ q → same_sort r (sort_of q) ≡ true → IsSorted s → IsAlike s q r
own_alike s q r past fits sorted t = one (entry_of s t) (sorted t)
  where
    at : (p : Entry) → fits_sort (Some p) ≡ true → (p.queue ≡ q) ⊎ (p.queue ≡ q → ⊥) → clashes q r (Some p) ≡ false
    at p f (inl e) =
        let same : same_sort p.rank (sort_of q) ≡ true = low_or q (same_sort p.rank (sort_of q)) past (subst (λ x. fits_queue x p.rank ≡ true) e f) in
        rw (eq-eqb p.queue q e, one_sort p.rank (sort_of q) r same fits) refl
    at p f (inr n) = rw (ne_eqb p.queue q n) refl

    one : (o : Option Entry) → fits_sort o ≡ true → clashes q r o ≡ false
    one None f = refl
    one (Some p) f = at p f (cases_eq p.queue q)

fits_own : (q : ℕ) (r : Rank) → same_sort r (sort_of q) ≡ true → fits_queue q r ≡ true
fits_own q r e = go (nat_lt q policy_end)
  where
    go : (b : Bool) → (b || same_sort r (sort_of q)) ≡ true
    go true = refl
    go false = e

-- a queue of the machine's own is open for its sort
pub own_open : (s : QueueState) (q : ℕ) (r : Rank) → exists s q ≡ true → policy_end ≤ q → same_sort r (sort_of q) ≡ true → IsSorted s → IsOpen s q r
own_open s q r there past fits sorted = record { there = there; fits = fits_own q r fits; alike = own_alike s q r past fits sorted }

no_clash : (s : QueueState) (q : ℕ) (r : Rank) → IsAlike s q r → list_any (clashes q r) s.entries ≡ false
no_clash s q r alike = list_any_none (clashes q r) s.entries (All-from_get_or (λ o. clashes q r o ≡ false) s.entries None (λ i l. alike i))

-- who would clash is seen
pub alike_from : (s : QueueState) (q : ℕ) (r : Rank) → list_any (clashes q r) s.entries ≡ false → IsAlike s q r
alike_from s q r none t = go (cases_lt t (length s.entries)) (clashes q r (entry_of s t)) refl
  where
    both : (b : Bool) → b ≡ true → b ≡ false → ⊥
    both true x y = absurd (cc)
    both false x y = absurd (cc)

    go : (t < length s.entries) ⊎ (length s.entries ≤ t) → (b : Bool) → clashes q r (entry_of s t) ≡ b → clashes q r (entry_of s t) ≡ false
    go (inl l) true e = absurd (both (list_any (clashes q r) s.entries) (list_any_at (clashes q r) s.entries t None l e) none)
    go (inl l) false e = e
    go (inr past) b e = ap (λ o. clashes q r o) (get_or_past {X = Option Entry} s.entries t None past)

-- a push into an open queue is accepted, of a task that waits nowhere
pub is_accepted : (s : QueueState) (t q : ℕ) (r : Rank) → entry_of s t ≡ None → IsOpen s q r → push_refusal s q t r ≡ None
is_accepted s t q r free ready = rw (ready.there, free, no_clash s q r ready.alike) refl

-- ---- queues that are there stay

abbrev pub Stay : QueueState → QueueState → Type 0
Stay s s' = (r : ℕ) → exists s r ≡ true → exists s' r ≡ true

-- a push leaves the queues that there are
pub stay_pushed : (s : QueueState) (q t : ℕ) (k : Rank) → Stay s (after_push s q t k)
stay_pushed s q t k r h = rw (ids_pushed s q t k) h

-- a task that leaves does
pub stay_without : (s : QueueState) (o : Option ℕ) → Stay s (without s o)
stay_without s o r h = rw (ids_without s o) h

-- a removal does
pub stay_removed : (s : QueueState) (t : ℕ) → Stay s (after_remove s t)
stay_removed s t r h = rw (ids_removed s t) h

-- a queue that is created leaves the others
pub stay_created : (s : QueueState) (q : ℕ) → Stay s (after_create s q)
stay_created s q r h = keeps_if (λ x. exists x r ≡ true) (is_none (create_refusal s q)) (with_queue s q) s (rw (list_any-append (λ other. other == r) s.ids (q ∷ []), h) refl) h

-- so the machine's own stay
pub queues_stay : (s s' : QueueState) (n : ℕ) → Stay s s' → HasQueues s n → HasQueues s' n
queues_stay s s' n stay h = record { global = stay global h.global; held = stay held_queue h.held; builtin = stay builtin_queue h.builtin; parked = stay parked_queue h.parked; locals = λ c l. stay (local_on c) (h.locals c l) }

-- ---- what takes a task takes it still

-- an open queue stays open where a task leaves
pub open_without : (s : QueueState) (o : Option ℕ) (q : ℕ) (r : Rank) → IsOpen s q r → IsOpen (without s o) q r
open_without s o q r h = record { there = stay_without s o q h.there; fits = h.fits; alike = alike_without s o q r h.alike }

-- and where one is removed
pub open_removed : (s : QueueState) (t q : ℕ) (r : Rank) → IsOpen s q r → IsOpen (after_remove s t) q r
open_removed s t q r h = record { there = stay_removed s t q h.there; fits = h.fits; alike = alike_removed s t q r h.alike }

-- and where a queue is created
pub open_created : (s : QueueState) (q' q : ℕ) (r : Rank) → IsOpen s q r → IsOpen (after_create s q') q r
open_created s q' q r h = record { there = stay_created s q' q h.there; fits = h.fits; alike = alike_created s q' q r h.alike }

open_pushed : (s : QueueState) (q' t : ℕ) (r' : Rank) (q : ℕ) (r : Rank) → clashes q r (Some (next_entry s q' r')) ≡ false → IsOpen s q r → IsOpen (after_push s q' t r') q r
open_pushed s q' t r' q r new h = record { there = stay_pushed s q' t r' q h.there; fits = h.fits; alike = alike_pushed s q t r q' r' new h.alike }

-- a push into one of the machine's own queues
pub open_own : (s : QueueState) (q' t : ℕ) (r' : Rank) (q : ℕ) (r : Rank) → policy_end ≤ q' → same_sort r' (sort_of q') ≡ true → IsOpen s q r → IsOpen (after_push s q' t r') q r
open_own s q' t r' q r past fits h = open_pushed s q' t r' q r (go (cases_eq q' q)) h
  where
    go : (q' ≡ q) ⊎ (q' ≡ q → ⊥) → clashes q r (Some (next_entry s q' r')) ≡ false
    go (inl e) =
        let own : same_sort r (sort_of q') ≡ true = low_or q' (same_sort r (sort_of q')) past (subst (λ x. fits_queue x r ≡ true) (sym e) h.fits) in
        rw (eq-eqb q' q e, one_sort r' (sort_of q') r fits own) refl
    go (inr n) = rw (ne_eqb q' q n) refl

-- a rank is of one sort with itself
pub same_itself : (r : Rank) → same_sort r r ≡ true
same_itself Fifo = refl
same_itself Front = refl
same_itself (Vtime k) = refl

-- or one of the same sort
pub open_same : (s : QueueState) (q' t q : ℕ) (r k : Rank) → same_sort k r ≡ true → IsOpen s q r → IsOpen (after_push s q' t k) q r
open_same s q' t q r k same h = open_pushed s q' t k q r (go (cases_eq q' q)) h
  where
    go : (q' ≡ q) ⊎ (q' ≡ q → ⊥) → clashes q r (Some (next_entry s q' k)) ≡ false
    go (inl e) = rw (eq-eqb q' q e, same) refl
    go (inr n) = rw (ne_eqb q' q n) refl

-- ---- ranks by the rules

-- the rank by which a task is pushed is of the sort that was asked for
pub same_key : (w : WorldState) (r k : Rank) → same_sort (rank_by w r) k ≡ same_sort r k
same_key w Fifo k = refl
same_key w Front k = refl
same_key w (Vtime n) Fifo = refl
same_key w (Vtime n) Front = refl
same_key w (Vtime n) (Vtime m) = refl

key_same : (w : WorldState) (k r : Rank) → same_sort k (rank_by w r) ≡ same_sort k r
key_same w k Fifo = refl
key_same w k Front = refl
key_same w Fifo (Vtime n) = refl
key_same w Front (Vtime n) = refl
key_same w (Vtime m) (Vtime n) = refl

-- so a queue that is open for the one is open for the other
pub open_by : (w : WorldState) (s : QueueState) (q : ℕ) (r : Rank) → IsOpen s q r → IsOpen s q (rank_by w r)
open_by w s q r h = record { there = h.there; fits = ap (λ b. nat_lt q policy_end || b) (same_key w r (sort_of q)) ∙ h.fits; alike = λ t. one (entry_of s t) (h.alike t) }
  where
    one : (o : Option Entry) → clashes q r o ≡ false → clashes q (rank_by w r) o ≡ false
    one None e = refl
    one (Some p) e = ap (λ b. is_in q (Some p) && not b) (key_same w p.rank r) ∙ e

-- so an insert still goes somewhere
pub goes_on : (s s' : QueueState) (n : ℕ) (o : Option Insert) → ((q : ℕ) (r : Rank) → IsOpen s q r → IsOpen s' q r) → GoesSomewhere s n o → GoesSomewhere s' n o
goes_on s s' n None f g = tt
goes_on s s' n (Some i) f g = λ c l. (f (queue_for c i.queue) i.rank (g c l).0, (g c l).1)

-- local queues take whoever goes in order of arrival
pub local_fits : (c : ℕ) (r : Rank) → same_sort r Fifo ≡ true → same_sort r (sort_of (local_on c)) ≡ true
local_fits c r h = let e : (local_on c == builtin_queue) ≡ false = ne_eqb (local_on c) builtin_queue (λ x. omega (arith, x)) in rw e h

-- local queues are in order of arrival
pub local_sort : (c : ℕ) → same_sort Fifo (sort_of (local_on c)) ≡ true
local_sort c = local_fits c Fifo refl

-- a policy's own queue takes any sort
pub low_fits : (q : ℕ) (r : Rank) → nat_lt q policy_end ≡ true → fits_queue q r ≡ true
low_fits q r l = rw l refl
