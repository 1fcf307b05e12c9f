-- As the clock grows all who may run again are let go: after that each task that is parked is throttled.
use Rattle.std.proofs.Common.{◌≡◌, ℕ, zero, suc, ◌+◌, ◌<◌, ◌≤◌, ◌⊎◌, inl, inr, pos, Bool, true, false, ◌==◌, ◌&&◌, not, nat_le, cond, if◌then◌else◌, List, [], ◌∷◌, length, get_or, Option, Some, None, is_some, is_none, option_map, position, count_by, refl, sym, ap, ◌∙◌, subst, arith}
use Rattle.scx_laws.proofs.Bounding.{stamp_before, sorted_fifo}
use Rattle.std.proofs.lemmas.Option.{same_Some}
use Rattle.std.specs.List.{list_all, position_or_len}
use Rattle.std.proofs.lemmas.Bool.{cases_eq, cases_lt, eq-eqb, eqb-true, lt-ltb, and_parts, and_from, both_ways, not-true, and_right}
use Rattle.std.proofs.lemmas.Bool.Decides.{nat_tests}
use Rattle.std.proofs.lemmas.Int.{ints}
use Rattle.std.proofs.lemmas.List.{get_or-set_same, get_or-set_other, get_or_default, set_past, get_or_past}
use Rattle.std.proofs.lemmas.List.Quantifiers.{position-Some}
use Rattle.std.proofs.lemmas.List.Folds.{list_all_at}
use Rattle.std.proofs.lemmas.List.Sums.{sum_by-cons, fails_before_first, list_all-from_AllPass}
use Rattle.scx_dsq.specs.declared.entries.Entry.{Entry}
use Rattle.scx_dsq.specs.declared.entries.Rank.TheVariants.{Fifo}
use Rattle.scx_dsq.specs.Entries.{turn_by, turn, is_before}
use Rattle.scx_dsq.specs.Queues.{Entries, QueueState, only, entry_of, is_in, is_ahead, is_first, is_behind, is_right_behind, next_by, right_behind, front_of, behind_of}
use Rattle.scx_dsq.specs.Calls.{push_refusal, next_entry, with_task, after_push, without_task, after_remove}
use Rattle.scx_dsq.specs.Laws.{one_if, IsStamped}
use Rattle.scx_dsq.proofs.Orders.{earlier_turns}
use Rattle.scx_weights.specs.Hierarchy.{Hierarchy}
use Rattle.scx_weights.specs.Limits.{is_throttled}
use Rattle.scx_sched_world.specs.Ids.{parked_queue}
use Rattle.scx_sched.proofs.Parked.{IsAsParked}
use Rattle.scx_sched.proofs.Seen.{entry_seen}
use Rattle.scx_sched.proofs.Firsts.{no_front_is_empty}

-- where none passes each fails
all_fail : (p : Option Entry → Bool) (es : List (Option Entry)) → position p es ≡ None → (k : ℕ) → k < length es → p (get_or es k None) ≡ false
all_fail p es none k l = fails_before_first p es k None (omega (arith, l, past (cases_lt at (length es))))
  where
    at : ℕ
    at = position_or_len p es

    found : Some at ≡ None → ⊥
    found e = absurd (cc)

    past : (at < length es) ⊎ (length es ≤ at) → length es ≤ at
    past (inl within) = absurd (found (subst (λ b. cond b (Some at) None ≡ None) (lt-ltb at (length es) within) none))
    past (inr long) = long

abbrev home : Option Entry → Option ℕ
home o = option_map (λ p. p.queue) o

-- ---- the order of the parked

-- each parked task came to the end of the queue, by a push of its own
pub record AreInLine (s : QueueState) : Type 0 where
  pub last : (t : ℕ) (p : Entry) → entry_of s t ≡ Some p → p.queue ≡ parked_queue → p.rank ≡ Fifo
  pub own : (t u : ℕ) (p q : Entry) → entry_of s t ≡ Some p → entry_of s u ≡ Some q → p.queue ≡ parked_queue → q.queue ≡ parked_queue → p.stamp ≡ q.stamp → t ≡ u

-- each entry of a parked task is one that was there before
abbrev pub AreOfBefore : QueueState → QueueState → Type 0
AreOfBefore s s' = (u : ℕ) (p : Entry) → entry_of s' u ≡ Some p → p.queue ≡ parked_queue → entry_of s u ≡ Some p

line_from : (s s' : QueueState) → AreOfBefore s s' → AreInLine s → AreInLine s'
line_from s s' old h = record {
  last = λ t p e at. h.last t p (old t p e at) at;
  own = λ t u p q e f at here same. h.own t u p q (old t p e at) (old u q f here) at here same;
}

-- the same are parked
pub of_before : (s s' : QueueState) → IsAsParked s s' → AreOfBefore s s'
of_before s s' a u p e at = sym (a.none u (ap home e ∙ ap Some at)) ∙ e

pub line_stays : (s s' : QueueState) → IsAsParked s s' → AreInLine s → AreInLine s'
line_stays s s' a h = line_from s s' (of_before s s' a) h

-- a task leaves its queue
pub without_others : (s : QueueState) (t u : ℕ) (p : Entry) → entry_of (without_task s t) u ≡ Some p → (u ≡ t → ⊥) × (entry_of s u ≡ Some p) ⊎ (length s.entries ≤ t)
without_others s t u p e = go (cases_eq u t) (cases_lt t (length s.entries))
  where
    go : (u ≡ t) ⊎ (u ≡ t → ⊥) → (t < length s.entries) ⊎ (length s.entries ≤ t) → (u ≡ t → ⊥) × (entry_of s u ≡ Some p) ⊎ (length s.entries ≤ t)
    go x (inr past) = inr past
    go (inl x) (inl l) = let none : None ≡ Some p = sym (get_or-set_same {A = Option Entry} s.entries t None None l) ∙ (ap (λ k. entry_of (without_task s t) k) (sym x) ∙ e) in absurd (cc)
    go (inr d) (inl l) = inl (d, sym (get_or-set_other {A = Option Entry} s.entries t u None None d) ∙ e)

gone_before : (s : QueueState) (t : ℕ) → AreOfBefore s (without_task s t)
gone_before s t u p e at = go (without_others s t u p e)
  where
    go : (u ≡ t → ⊥) × (entry_of s u ≡ Some p) ⊎ (length s.entries ≤ t) → entry_of s u ≡ Some p
    go (inl x) = x.1
    go (inr past) = ap (λ (xs : Entries). get_or xs u None) (sym (set_past s.entries t None past)) ∙ e

pub removed_before : (s : QueueState) (t : ℕ) → AreOfBefore s (after_remove s t)
removed_before s t u p e at = go (is_some (entry_of s t)) e
  where
    go : (b : Bool) → entry_of (if b then without_task s t else s) u ≡ Some p → entry_of s u ≡ Some p
    go true f = gone_before s t u p f at
    go false f = f

pub line_goes : (s : QueueState) (t : ℕ) → AreInLine s → AreInLine (after_remove s t)
line_goes s t h = line_from s (after_remove s t) (removed_before s t) h

-- a task is parked: an entry is the new one, or was there before
abbrev IsNew : QueueState → ℕ → ℕ → Entry → Type 0
IsNew s t u p = ((u ≡ t) × (p ≡ next_entry s parked_queue Fifo)) ⊎ (entry_of s u ≡ Some p)

placed_new : (s : QueueState) (t u : ℕ) (p : Entry) → entry_of (with_task s parked_queue t Fifo) u ≡ Some p → IsNew s t u p
placed_new s t u p e = go (cases_eq u t) (cases_lt t (length s.entries))
  where
    new : Entry
    new = next_entry s parked_queue Fifo

    go : (u ≡ t) ⊎ (u ≡ t → ⊥) → (t < length s.entries) ⊎ (length s.entries ≤ t) → IsNew s t u p
    go (inl x) (inl l) = inl (x, same_Some p new (sym e ∙ (ap (λ k. entry_of (with_task s parked_queue t Fifo) k) x ∙ get_or-set_same {A = Option Entry} s.entries t (Some new) None l)))
    go (inl x) (inr past) = inr (ap (λ (xs : Entries). get_or xs u None) (sym (set_past s.entries t (Some new) past)) ∙ e)
    go (inr d) l = inr (sym (get_or-set_other {A = Option Entry} s.entries t u (Some new) None d) ∙ e)

pushed_new : (s : QueueState) (t u : ℕ) (p : Entry) → entry_of (after_push s parked_queue t Fifo) u ≡ Some p → IsNew s t u p
pushed_new s t u p e = go (is_none (push_refusal s parked_queue t Fifo)) e
  where
    go : (b : Bool) → entry_of (if b then with_task s parked_queue t Fifo else s) u ≡ Some p → IsNew s t u p
    go true f = placed_new s t u p f
    go false f = inr f

-- so it is that task, or was there before
pub pushed_either : (s : QueueState) (t u : ℕ) (p : Entry) → entry_of (after_push s parked_queue t Fifo) u ≡ Some p → (u ≡ t) ⊎ (entry_of s u ≡ Some p)
pushed_either s t u p e = go (pushed_new s t u p e)
  where
    go : IsNew s t u p → (u ≡ t) ⊎ (entry_of s u ≡ Some p)
    go (inl x) = inl x.0
    go (inr f) = inr f

pub line_comes : (s : QueueState) (t : ℕ) → IsStamped s → AreInLine s → AreInLine (after_push s parked_queue t Fifo)
line_comes s t stamped h = record { last = λ u p e at. last u p at (pushed_new s t u p e); own = λ u v p q e f at here same. own u v p q at here same (pushed_new s t u p e) (pushed_new s t v q f) }
  where
    last : (u : ℕ) (p : Entry) → p.queue ≡ parked_queue → IsNew s t u p → p.rank ≡ Fifo
    last u p at (inl x) = ap (λ (q : Entry). q.rank) x.1
    last u p at (inr e) = h.last u p e at

    stamp_new : (p : Entry) → p ≡ next_entry s parked_queue Fifo → p.stamp ≡ s.pushes
    stamp_new p x = ap (λ (q : Entry). q.stamp) x

    own : (u v : ℕ) (p q : Entry) → p.queue ≡ parked_queue → q.queue ≡ parked_queue → p.stamp ≡ q.stamp → IsNew s t u p → IsNew s t v q → u ≡ v
    own u v p q at here same (inl x) (inl y) = x.0 ∙ sym y.0
    own u v p q at here same (inl x) (inr f) = absurd (omega (arith, stamp_new p x.1, same, stamped v q f))
    own u v p q at here same (inr e) (inl y) = absurd (omega (arith, stamp_new q y.1, same, stamped u p e))
    own u v p q at here same (inr e) (inr f) = h.own u v p q e f at here same

-- ---- in order of arrival stamps decide

turn_is : (p : Entry) → p.rank ≡ Fifo → turn p ≡ pos p.stamp
turn_is p e = ap (λ r. turn_by r p.stamp) e

first_earlier : (p q : Entry) → p.rank ≡ Fifo → q.rank ≡ Fifo → is_before p q ≡ true → p.stamp < q.stamp
first_earlier p q a b e =
    let less = earlier_turns p q (sorted_fifo p.rank a) (sorted_fifo q.rank b) e in
    omega (arith, ints, less, turn_is p a, turn_is q b)

not_first : (p q : Entry) → p.rank ≡ Fifo → q.rank ≡ Fifo → is_before q p ≡ false → p.stamp ≤ q.stamp
not_first p q a b e = go (cases_lt q.stamp p.stamp)
  where
    go : (q.stamp < p.stamp) ⊎ (p.stamp ≤ q.stamp) → p.stamp ≤ q.stamp
    go (inl lt) = absurd (both_ways (is_before q p) e (stamp_before q p b a lt))
    go (inr le) = le

-- one that holds for all holds at each place
at_each : (f : Option Entry → Bool) (xs : Entries) → list_all f xs ≡ true → (k : ℕ) (q : Entry) → get_or xs k None ≡ Some q → f (Some q) ≡ true
at_each f xs all k q e = go (f (Some q)) refl (cases_lt k (length xs))
  where
    go : (b : Bool) → f (Some q) ≡ b → (k < length xs) ⊎ (length xs ≤ k) → f (Some q) ≡ true
    go true y l = y
    go false y (inl l) = absurd (both_ways (list_all f xs) (list_all_at f xs k None l (ap f e ∙ y)) all)
    go false y (inr past) = absurd (none_there)
      where
        none_there : ⊥
        none_there = let bad : None ≡ Some q = sym (get_or_past {X = Option Entry} xs k None past) ∙ e in absurd (cc)

-- ---- how many there are from a stamp on

abbrev pub from_stamp : ℕ → Option Entry → ℕ
from_stamp k None = 0
from_stamp k (Some q) = one_if (q.queue == parked_queue && nat_le k q.stamp)

abbrev pub many_from : ℕ → Entries → ℕ
many_from k [] = 0
many_from k (o ∷ xs) = from_stamp k o + many_from k xs

counted_less : (j k : ℕ) (xs ys : Entries) → length ys ≡ length xs → ((i : ℕ) → from_stamp j (get_or ys i None) ≤ from_stamp k (get_or xs i None)) → many_from j ys ≤ many_from k xs
counted_less j k [] [] same less = omega arith
counted_less j k [] (y ∷ ys) same less = absurd (omega (arith, same))
counted_less j k (x ∷ xs) [] same less = absurd (omega (arith, same))
counted_less j k (x ∷ xs) (y ∷ ys) same less = omega (arith, less 0, counted_less j k xs ys (omega (arith, same)) (λ i. less (suc i)))

pub counted_fewer : (j k t : ℕ) (xs ys : Entries) → length ys ≡ length xs → ((i : ℕ) → from_stamp j (get_or ys i None) ≤ from_stamp k (get_or xs i None)) → from_stamp k (get_or xs t None) ≡ 1 → from_stamp j (get_or ys t None) ≡ 0 → many_from j ys < many_from k xs
counted_fewer j k t [] ys same less one none = absurd (omega (arith, one))
counted_fewer j k t (x ∷ xs) [] same less one none = absurd (omega (arith, same))
counted_fewer j k zero (x ∷ xs) (y ∷ ys) same less one none = omega (arith, one, none, counted_less j k xs ys (omega (arith, same)) (λ i. less (suc i)))
counted_fewer j k (suc t) (x ∷ xs) (y ∷ ys) same less one none = omega (arith, less 0, counted_fewer j k t xs ys (omega (arith, same)) (λ i. less (suc i)) one none)

pub counted_one : (k t : ℕ) (xs : Entries) → from_stamp k (get_or xs t None) ≡ 1 → 0 < many_from k xs
counted_one k t [] one = absurd (omega (arith, one))
counted_one k zero (x ∷ xs) one = omega (arith, one)
counted_one k (suc t) (x ∷ xs) one = omega (arith, counted_one k t xs one)

parked_cons : (x : Option Entry) (xs : Entries) → count_by (is_in parked_queue) (x ∷ xs) ≡ one_if (is_in parked_queue x) + count_by (is_in parked_queue) xs
parked_cons x xs = sum_by-cons (λ o. one_if (is_in parked_queue o)) x xs

one_at_most : (a b : Bool) → one_if (a && b) ≤ one_if a
one_at_most true true = omega arith
one_at_most true false = omega arith
one_at_most false b = omega arith

-- as many at most as are parked
pub counted_all : (k : ℕ) (xs : Entries) → many_from k xs ≤ count_by (is_in parked_queue) xs
counted_all k [] = omega arith
counted_all k (x ∷ xs) = omega (arith, parked_cons x xs, counted_all k xs, each x)
  where
    each : (o : Option Entry) → from_stamp k o ≤ one_if (is_in parked_queue o)
    each None = omega arith
    each (Some q) = one_at_most (q.queue == parked_queue) (nat_le k q.stamp)

-- where none is parked none is counted
none_parked : (xs : Entries) (u : ℕ) (q : Entry) → count_by (is_in parked_queue) xs ≡ 0 → get_or xs u None ≡ Some q → q.queue ≡ parked_queue → ⊥
none_parked [] u q none e at = absurd (cc)
none_parked (x ∷ xs) zero q none e at = absurd (omega (arith, parked_cons x xs, none, ap (λ o. one_if (is_in parked_queue o)) e, ap one_if (eq-eqb q.queue parked_queue at)))
none_parked (x ∷ xs) (suc u) q none e at = none_parked xs u q (omega (arith, parked_cons x xs, none)) e at

pub le_test : (k m : ℕ) → k ≤ m → nat_le k m ≡ true
le_test k m le = grind (arith, nat_tests, le)

pub le_fails : (k m : ℕ) → m < k → nat_le k m ≡ false
le_fails k m lt = grind (arith, nat_tests, lt)

pub is_counted : (k : ℕ) (q : Entry) → q.queue ≡ parked_queue → k ≤ q.stamp → from_stamp k (Some q) ≡ 1
is_counted k q at le = ap one_if (and_from (q.queue == parked_queue) (nat_le k q.stamp) (eq-eqb q.queue parked_queue at) (le_test k q.stamp le))

pub isnt_counted : (k : ℕ) (q : Entry) → q.stamp < k → from_stamp k (Some q) ≡ 0
isnt_counted k q lt = ap one_if (and_right (q.queue == parked_queue) (nat_le k q.stamp) (le_fails k q.stamp lt))

-- ---- the walk over them

-- all that are parked and come before that one are throttled; all are where there is none
pub record IsNext (s : QueueState) (x : Hierarchy) (t : ℕ) : Type 0 where
  pub entry : Entry
  pub here : entry_of s t ≡ Some entry
  pub parked : entry.queue ≡ parked_queue
  pub others : (u : ℕ) (q : Entry) → entry_of s u ≡ Some q → q.queue ≡ parked_queue → (entry.stamp ≤ q.stamp) ⊎ (is_throttled x u ≡ true)

abbrev pub Covers : QueueState → Hierarchy → Option ℕ → Type 0
Covers s x None = (u : ℕ) (q : Entry) → entry_of s u ≡ Some q → q.queue ≡ parked_queue → is_throttled x u ≡ true
Covers s x (Some t) = IsNext s x t

module _ (s : QueueState) (x : Hierarchy) (h : AreInLine s) where
  -- at first
  pub covers_front : (o : Option ℕ) → front_of s parked_queue ≡ o → Covers s x o
  unfolding front_of
  covers_front None e = λ u q f at. absurd (none_parked s.entries u q (no_front_is_empty s parked_queue e) f at)
  covers_front (Some t) e = go (entry_of s t) refl (position-Some (is_first s.entries parked_queue) s.entries t None e).1
    where
      go : (o : Option Entry) → entry_of s t ≡ o → is_first s.entries parked_queue o ≡ true → IsNext s x t
      go None y first = absurd (cc)
      go (Some p) y first =
          let parts = and_parts (p.queue == parked_queue) (list_all (λ other. not (is_ahead parked_queue p other)) s.entries) first in
          let at : p.queue ≡ parked_queue = eqb-true p.queue parked_queue parts.0 in
          record {
            entry = p;
            here = y;
            parked = at;
            others = λ u q f here.
                let ahead : is_ahead parked_queue p (Some q) ≡ false = not-true (is_ahead parked_queue p (Some q)) (at_each (λ other. not (is_ahead parked_queue p other)) s.entries parts.1 u q f) in
                inl (not_first p q (h.last t p y at) (h.last u q f here) (sym (ap (λ b. b && is_before q p) (eq-eqb q.queue parked_queue here)) ∙ ahead));
          }

  -- ---- the next task after a parked one

  module _ (t : ℕ) (p : Entry) (here : entry_of s t ≡ Some p) (at : p.queue ≡ parked_queue) where
    behind_is : behind_of s t ≡ position (is_right_behind s.entries p) s.entries
    unfolding behind_of
    behind_is = ap (λ o. right_behind s.entries o) here ∙ ap (λ r. next_by r s.entries p) (h.last t p here at)

    is_later : (u : ℕ) (q : Entry) → entry_of s u ≡ Some q → q.queue ≡ parked_queue → p.stamp < q.stamp → is_behind p (Some q) ≡ true
    is_later u q f there lt = and_from (q.queue == p.queue) (is_before p q) (eq-eqb q.queue p.queue (there ∙ sym at)) (stamp_before p q (h.last t p here at) (h.last u q f there) lt)

    -- the others, where those are the ones that come after it
    abbrev later_ones : QueueState
    later_ones = only (λ k. is_behind p (entry_of s k)) s

    seen : (k : ℕ) → entry_of later_ones k ≡ (if is_behind p (entry_of s k) then entry_of s k else None)
    seen k = entry_seen (λ i. is_behind p (entry_of s i)) s k

    -- the first of them is right behind it
    first_behind : (v : ℕ) → is_first later_ones.entries parked_queue (entry_of later_ones v) ≡ true → is_right_behind s.entries p (entry_of s v) ≡ true
    first_behind v first = go (is_behind p (entry_of s v)) refl (entry_of s v) refl (ap (λ o. is_first later_ones.entries parked_queue o) (sym (seen v)) ∙ first)
      where
        go : (b : Bool) → is_behind p (entry_of s v) ≡ b → (o : Option Entry) → entry_of s v ≡ o → is_first later_ones.entries parked_queue (if b then o else None) ≡ true → is_right_behind s.entries p o ≡ true
        go false y o f g = absurd (cc)
        go true y None f g = absurd (cc)
        go true y (Some r) f g = and_from (is_behind p (Some r)) (list_all among s.entries) (ap (λ o. is_behind p o) (sym f) ∙ y) (list_all-from_AllPass among s.entries (λ k d l. each k (get_or s.entries k d) (get_or_default s.entries k None d l)))
          where
            among : Option Entry → Bool
            among other = not (is_behind p other && is_ahead p.queue r other)

            none_ahead : list_all (λ other. not (is_ahead parked_queue r other)) later_ones.entries ≡ true
            none_ahead = (and_parts (r.queue == parked_queue) (list_all (λ other. not (is_ahead parked_queue r other)) later_ones.entries) g).1

            each : (k : ℕ) (o : Option Entry) → entry_of s k ≡ o → among o ≡ true
            each k None e = refl
            each k (Some q) e = by (is_behind p (Some q)) refl
              where
                by : (b : Bool) → is_behind p (Some q) ≡ b → not (b && is_ahead p.queue r (Some q)) ≡ true
                by false z = refl
                by true z =
                    let is : entry_of later_ones k ≡ Some q = seen k ∙ (ap (λ b. if b then entry_of s k else None) (ap (λ o. is_behind p o) e ∙ z) ∙ e) in
                    ap (λ i. not (is_ahead i r (Some q))) at ∙ at_each (λ other. not (is_ahead parked_queue r other)) later_ones.entries none_ahead k q is

    -- where none is right behind it none comes after it
    none_later : position (is_right_behind s.entries p) s.entries ≡ None → (u : ℕ) (q : Entry) → entry_of s u ≡ Some q → q.queue ≡ parked_queue → p.stamp < q.stamp → ⊥
    unfolding front_of
    none_later none u q f there lt = go (front_of later_ones parked_queue) refl
      where
        none_at : (k : ℕ) → k < length s.entries → is_right_behind s.entries p (get_or s.entries k None) ≡ false
        none_at = all_fail (is_right_behind s.entries p) s.entries none

        go : (o : Option ℕ) → front_of later_ones parked_queue ≡ o → ⊥
        go None e = none_parked later_ones.entries u q (no_front_is_empty later_ones parked_queue e) (seen u ∙ (ap (λ b. if b then entry_of s u else None) (ap (λ o. is_behind p o) f ∙ is_later u q f there lt) ∙ f)) there
        go (Some v) e =
            let first = (position-Some (is_first later_ones.entries parked_queue) later_ones.entries v None e).1 in
            let right = first_behind v first in
            by (cases_lt v (length s.entries)) right
          where
            by : (v < length s.entries) ⊎ (length s.entries ≤ v) → is_right_behind s.entries p (entry_of s v) ≡ true → ⊥
            by (inl l) right = both_ways (is_right_behind s.entries p (entry_of s v)) (none_at v l) right
            by (inr past) right = let none : is_right_behind s.entries p (entry_of s v) ≡ false = ap (λ o. is_right_behind s.entries p o) (get_or_past {X = Option Entry} s.entries v None past) in both_ways (is_right_behind s.entries p (entry_of s v)) none right

    -- the one right behind it comes after it, and before all others that do
    pub record IsAfter (v : ℕ) : Type 0 where
      pub entry : Entry
      pub there : entry_of s v ≡ Some entry
      pub parked : entry.queue ≡ parked_queue
      pub later : p.stamp < entry.stamp
      pub first : (u : ℕ) (q : Entry) → entry_of s u ≡ Some q → q.queue ≡ parked_queue → p.stamp < q.stamp → entry.stamp ≤ q.stamp

    abbrev pub Follows : Option ℕ → Type 0
    Follows None = (u : ℕ) (q : Entry) → entry_of s u ≡ Some q → q.queue ≡ parked_queue → p.stamp < q.stamp → ⊥
    Follows (Some v) = IsAfter v

    pub follows : (o : Option ℕ) → behind_of s t ≡ o → Follows o
    follows None e = none_later (sym behind_is ∙ e)
    follows (Some v) e = go (entry_of s v) refl (position-Some (is_right_behind s.entries p) s.entries v None (sym behind_is ∙ e)).1
      where
        go : (o : Option Entry) → entry_of s v ≡ o → is_right_behind s.entries p o ≡ true → IsAfter v
        go None f right = absurd (cc)
        go (Some r) f right =
            let parts = and_parts (is_behind p (Some r)) (list_all (λ other. not (is_behind p other && is_ahead p.queue r other)) s.entries) right in
            let both = and_parts (r.queue == p.queue) (is_before p r) parts.0 in
            let parked : r.queue ≡ parked_queue = eqb-true r.queue p.queue both.0 ∙ at in
            record {
              entry = r;
              there = f;
              parked = parked;
              later = first_earlier p r (h.last t p here at) (h.last v r f parked) both.1;
              first = λ u q g there lt.
                  let none = at_each (λ other. not (is_behind p other && is_ahead p.queue r other)) s.entries parts.1 u q g in
                  let out : is_ahead p.queue r (Some q) ≡ false = not-true (is_ahead p.queue r (Some q)) (ap (λ b. not (b && is_ahead p.queue r (Some q))) (sym (is_later u q g there lt)) ∙ none) in
                  not_first r q (h.last v r f parked) (h.last u q g there) (sym (ap (λ b. b && is_before q r) (eq-eqb q.queue p.queue (there ∙ sym at))) ∙ out);
            }
