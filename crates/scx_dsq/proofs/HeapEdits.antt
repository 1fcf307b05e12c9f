-- An item put into a heap, or taken out.
use Rattle.std.proofs.Common.{◌≡◌, ◌≢◌, ℕ, ◌+◌, ◌-◌, ◌^◌, ◌<◌, ◌≤◌, ◌==◌, true, false, List, [], ◌∷◌, ◌++◌, length, set, take, drop, slice_index_or, refl, sym, ap, ◌∙◌, subst, arith, ◌⊎◌, inl, inr}
use Rattle.std.specs.List.{list_any, swap_remove}
use Rattle.std.specs.List.Sorted.{IsPermutation}
use Rattle.std.proofs.Math.Pow.{pow_mono}
use Rattle.std.proofs.Math.Seq.{take-append_seam}
use Rattle.std.proofs.lemmas.Bool.{both_ways, eq-eqb, ne_eqb, or_parts, cases_eq, cases_lt}
use Rattle.std.proofs.lemmas.List.{get_or_default, get_or_past, get_or_push, get_or_append_left, get_or-take, length-take-le, get_or-set_same, get_or-set_other, length-set, length_push}
use Rattle.std.proofs.lemmas.List.Folds.{list_any_at, list_any_none}
use Rattle.std.proofs.lemmas.List.Sorted.{list_any-IsPermutation, IsPermutation-swap_remove}
use Rattle.scx_dsq.specs.declared.heap.Item.{Item}
use Rattle.scx_dsq.specs.Heaps.{comes_before, parent, IsHeap, IsHeapBut, IsHeapAround, Rose, Settled, IsCheap, HasSpots, IsAbsent, IsIn, KeepsOthers}
use Rattle.scx_dsq.proofs.Heaps.{not-trans, not_there}

fewer : (levels digits n : ℕ) → 2 ^ levels ≤ n → n < 2 ^ digits → levels < digits
fewer levels digits n deep lt = go (cases_lt levels digits)
  where
    go : (levels < digits) ⊎ (digits ≤ levels) → levels < digits
    go (inl is) = is
    go (inr le) = let more = pow_mono le in absurd (omega (arith, more, deep, lt))

-- no item of the array is of a task that isn't there
pub absent_is_apart : (items : List Item) (t k : ℕ) (d : Item) → k < length items → IsAbsent items t → (slice_index_or items k d).task ≢ t
absent_is_apart items t k d lt out e = both_ways _ out (list_any_at (λ (x : Item). x.task == t) items k d lt (eq-eqb (slice_index_or items k d).task t e))

-- what a vector holds after its lent slice was changed
pub written_back : (n : ℕ) (ys zs : List Item) → length ys ≡ n → take n (ys ++ drop (length ys) zs) ≡ ys
written_back n ys zs e = subst (λ m. take m (ys ++ drop (length ys) zs) ≡ ys) e (take-append_seam ys (drop (length ys) zs))

-- what is put last again is there already
pub put_last : (items : List Item) (x : Item) → set (items ++ x ∷ []) (length items) x ≡ items ++ x ∷ []
put_last [] x = refl
put_last (y ∷ items) x = ap (λ ys. y ∷ ys) (put_last items x)

-- ---- an item put in

module _ (items : List Item) (x : Item) where
  within_pushed : (k : ℕ) → k < length (items ++ x ∷ []) → k ≢ length items → k < length items
  within_pushed k lt n = omega (arith, lt, length_push items x, n)

  kept_pushed : (k : ℕ) (d : Item) → k < length items → slice_index_or (items ++ x ∷ []) k d ≡ slice_index_or items k d
  kept_pushed k d lt = get_or_append_left items (x ∷ []) d k lt

  -- a heap with one item more at its end is one but for that position
  pub heap_pushed : IsHeap items → IsHeapBut (items ++ x ∷ []) (length items)
  heap_pushed h = record {
    others = λ k some lt n d e. let inside = within_pushed k lt n in
        rw (kept_pushed k d inside, kept_pushed (parent k) e (omega (arith, inside, some))) (h k some inside d e);
    children = λ k some lt is up. absurd (omega (arith, lt, length_push items x, is, up, some));
  }

  -- each task has its spot, the new one at the end
  pub spots_pushed : (spots : List ℕ) → x.task < length spots → IsAbsent items x.task → HasSpots items spots → HasSpots (items ++ x ∷ []) (set spots x.task (length items))
  spots_pushed spots within out h k d e lt = go (cases_eq k (length items))
    where
      go : (k ≡ length items) ⊎ (k ≡ length items → ⊥) → ((slice_index_or (items ++ x ∷ []) k d).task < length (set spots x.task (length items))) × (slice_index_or (set spots x.task (length items)) (slice_index_or (items ++ x ∷ []) k d).task e ≡ k)
      go (inl same) = rw (get_or_push items x d k (sym same), length-set spots x.task (length items), get_or-set_same spots x.task (length items) e within) (within, sym same)
      go (inr n) =
          let inside = within_pushed k lt n in
          rw (kept_pushed k d inside, length-set spots x.task (length items), get_or-set_other spots x.task (slice_index_or items k d).task (length items) e (absent_is_apart items x.task k d inside out)) (h k d e inside)

  -- the spots of other tasks stay
  pub keeps_pushed : (spots : List ℕ) → KeepsOthers (items ++ x ∷ []) spots (set spots x.task (length items))
  keeps_pushed spots = record {
    long = length-set spots x.task (length items);
    same = λ t e out. get_or-set_other spots x.task t (length items) e (λ s. absent_is_apart (items ++ x ∷ []) t (length items) x (omega (arith, length_push items x)) out (ap (λ (y : Item). y.task) (get_or_push items x x (length items) refl) ∙ sym s));
  }

  kept_but_last : (k : ℕ) (d : Item) → k ≢ length items → slice_index_or (items ++ x ∷ []) k d ≡ slice_index_or items k d
  kept_but_last k d n = go (cases_lt k (length items))
    where
      go : (k < length items) ⊎ (length items ≤ k) → slice_index_or (items ++ x ∷ []) k d ≡ slice_index_or items k d
      go (inl lt) = kept_pushed k d lt
      go (inr le) = get_or_past (items ++ x ∷ []) k d (omega (arith, le, n, length_push items x)) ∙ sym (get_or_past items k d le)

  -- a way up from the end is cheap
  pub cheap_pushed : (new : List Item) (n : ℕ) → Rose (items ++ x ∷ []) new (length items) n → IsCheap items new n
  cheap_pushed new n h = record {
    comparisons = λ digits lt. let below = fewer h.levels digits (length items + 1) h.depth lt in let cost = h.cost in omega arith;
    changes = λ digits lt. record {
      positions = length items ∷ h.positions;
      few = let below = fewer h.levels digits (length items + 1) h.depth lt in let few = h.few in omega arith;
      differs = λ k d out. let apart = not_there k (length items) h.positions out in h.differs k apart.0 apart.1 d ∙ kept_but_last k d apart.0;
    };
  }

-- ---- an item taken out, to whose position the last one comes

pub record Taken (items now : List Item) (at : ℕ) : Type 0 where
  pub inside : at < length items
  pub long : length now + 1 ≡ length items
  pub moved : (d : Item) → at + 1 < length items → slice_index_or now at d ≡ slice_index_or items (length items - 1) d
  pub kept : (k : ℕ) (d : Item) → k ≢ at → k + 1 < length items → slice_index_or now k d ≡ slice_index_or items k d

-- where a task stands in the array
pub task_within : (items : List Item) (spots : List ℕ) (t : ℕ) → HasSpots items spots → IsIn items t → t < length spots
task_within items spots t h is = go items is.position is.inside is.there h
  where
    go : (xs : List Item) (k : ℕ) → k < length xs → ((d : Item) → (slice_index_or xs k d).task ≡ t) → HasSpots xs spots → t < length spots
    go [] k lt there stand = absurd (omega arith)
    go (x ∷ xs) k lt there stand = subst (λ u. u < length spots) (there x) (stand k x 0 lt).0

-- a task's spot is the position of its item
pub spot_is : (items : List Item) (spots : List ℕ) (t : ℕ) → HasSpots items spots → (is : IsIn items t) → slice_index_or spots t 0 ≡ is.position
spot_is items spots t h is = go items is.position is.inside is.there h
  where
    go : (xs : List Item) (k : ℕ) → k < length xs → ((d : Item) → (slice_index_or xs k d).task ≡ t) → HasSpots xs spots → slice_index_or spots t 0 ≡ k
    go [] k lt there stand = absurd (omega arith)
    go (x ∷ xs) k lt there stand = subst (λ u. slice_index_or spots u 0 ≡ k) (there x) (stand k x 0 lt).1

-- a task's spot lies in the array
pub spot_within : (items : List Item) (spots : List ℕ) (t : ℕ) → HasSpots items spots → IsIn items t → slice_index_or spots t 0 < length items
spot_within items spots t h is = subst (λ k. k < length items) (sym (spot_is items spots t h is)) is.inside

-- the last item takes the position of the one that is taken out
pub taken_out : (items now : List Item) (at : ℕ) (x : Item) → at < length items → now ≡ swap_remove items at x → Taken items now at
taken_out items now at x lt e = record {
  inside = lt;
  long = rw (e, length-take-le (length items - 1) filled (omega (arith, length-set items at end))) (omega (arith, lt));
  moved = λ d less. rw (e, get_or-take (length items - 1) filled at d (omega (arith, less)), get_or-set_same items at end d lt) (get_or_default items (length items - 1) x d (omega (arith, lt)));
  kept = λ k d n less. rw (e, get_or-take (length items - 1) filled k d (omega (arith, less)), get_or-set_other items at k end d n) refl;
}
  where
    end : Item
    end = slice_index_or items (length items - 1) x

    filled : List Item
    filled = set items at end

-- the items are the one that was taken out and those that are left
pub permuted : (items now : List Item) (at : ℕ) (x : Item) → at < length items → x ≡ slice_index_or items at x → now ≡ swap_remove items at x → IsPermutation items (x ∷ now)
permuted items now at x lt is e = subst (λ l. IsPermutation items (x ∷ l)) (sym e) (IsPermutation-swap_remove items at x lt is)

module _ (items now : List Item) (at : ℕ) (taken : Taken items now at) where
  inside : at < length items
  inside = taken.inside

  long : length now + 1 ≡ length items
  long = taken.long

  moved : (d : Item) → at + 1 < length items → slice_index_or now at d ≡ slice_index_or items (length items - 1) d
  moved = taken.moved

  kept : (k : ℕ) (d : Item) → k ≢ at → k + 1 < length items → slice_index_or now k d ≡ slice_index_or items k d
  kept = taken.kept

  -- a heap from which one was taken out is one but around its position
  pub heap_taken : at < length now → IsHeap items → IsHeapAround now at
  heap_taken within h = record {
    others = λ k some lt n m d e. rw (kept k d n (omega (arith, lt, long)), kept (parent k) e m (omega (arith, lt, long, some))) (h k some (omega (arith, lt, long)) d e);
    above = λ k some lt is up d e.
        let under : at < k = omega (arith, is, some) in
        let old = h k some (omega (arith, lt, long)) d d in
        let to_at : comes_before (slice_index_or items k d).priority (slice_index_or items at d).priority ≡ false = subst (λ j. comes_before (slice_index_or items k d).priority (slice_index_or items j d).priority ≡ false) is old in
        rw (kept k d (λ s. absurd (omega (arith, s, under))) (omega (arith, lt, long)), kept (parent at) e (λ s. absurd (omega (arith, s, up))) (omega (arith, within, long, up)))
        (not-trans (slice_index_or items k d).priority (slice_index_or items at d).priority (slice_index_or items (parent at) e).priority to_at (h at up inside d e));
  }

  last : ℕ
  last = length items - 1

  module _ (spots : List ℕ) (y : Item) (within : at < length now) (is : (d : Item) → slice_index_or now at d ≡ y) (h : HasSpots items spots) where
    is_last : (d : Item) → y ≡ slice_index_or items (length items - 1) d
    is_last d = sym (is d) ∙ moved d (omega (arith, within, long))

    last_stands : (e : ℕ) → (y.task < length spots) × (slice_index_or spots y.task e ≡ length items - 1)
    last_stands e = rw (is_last y) (h (length items - 1) y e (omega (arith, inside)))

    apart_from_last : (k : ℕ) (d : Item) → k < length now → (slice_index_or items k d).task ≢ y.task
    apart_from_last k d lt s =
        let here = (h k d 0 (omega (arith, lt, long))).1 in
        let there = (last_stands 0).1 in
        let same : k ≡ length items - 1 = sym here ∙ ap (λ t. slice_index_or spots t 0) s ∙ there in
        omega (arith, same, lt, long)

    -- each task that is left has its spot, once that of the moved one is written
    pub spots_moved : HasSpots now (set spots y.task at)
    spots_moved k d e lt = go (cases_eq k at)
      where
        go : (k ≡ at) ⊎ (k ≡ at → ⊥) → ((slice_index_or now k d).task < length (set spots y.task at)) × (slice_index_or (set spots y.task at) (slice_index_or now k d).task e ≡ k)
        go (inl same) = rw (same, is d, length-set spots y.task at, get_or-set_same spots y.task at e (last_stands e).0) ((last_stands e).0, refl)
        go (inr n) =
            rw (kept k d n (omega (arith, lt, long)), length-set spots y.task at, get_or-set_other spots y.task (slice_index_or items k d).task at e (apart_from_last k d lt)) (h k d e (omega (arith, lt, long)))

    -- the spots of tasks that aren't there stay
    pub keeps_moved : KeepsOthers items spots (set spots y.task at)
    keeps_moved = record {
      long = length-set spots y.task at;
      same = λ t e out. get_or-set_other spots y.task t at e (λ s. absent_is_apart items t (length items - 1) y (omega (arith, inside)) out (ap (λ (z : Item). z.task) (sym (is_last y)) ∙ sym s));
    }

  -- where the last one was taken out, each task that is left has its spot
  pub spots_taken : (spots : List ℕ) → length now ≤ at → HasSpots items spots → HasSpots now spots
  spots_taken spots past h k d e lt = rw (kept k d (λ s. absurd (omega (arith, s, past, lt))) (omega (arith, lt, long))) (h k d e (omega (arith, lt, long)))

  -- the task whose spot that was isn't there any more
  pub gone : (spots : List ℕ) (t : ℕ) → HasSpots items spots → slice_index_or spots t 0 ≡ at → IsAbsent now t
  gone spots t h here = list_any_none (λ (x : Item). x.task == t) now (λ k d lt. ne_eqb (slice_index_or now k d).task t (λ e. go k d lt e (cases_eq k at)))
    where
      go : (k : ℕ) (d : Item) → k < length now → (slice_index_or now k d).task ≡ t → (k ≡ at) ⊎ (k ≡ at → ⊥) → ⊥
      go k d lt e (inl same) =
          let end : (slice_index_or items (length items - 1) d).task ≡ t = ap (λ (x : Item). x.task) (sym (moved d (omega (arith, same, lt, long)))) ∙ subst (λ j. (slice_index_or now j d).task ≡ t) same e in
          let spot = (h (length items - 1) d 0 (omega (arith, inside))).1 in
          let at_end : at ≡ length items - 1 = sym here ∙ ap (λ u. slice_index_or spots u 0) (sym end) ∙ spot in
          absurd (omega (arith, at_end, same, lt, long))
      go k d lt e (inr n) =
          let old : (slice_index_or items k d).task ≡ t = ap (λ (x : Item). x.task) (sym (kept k d n (omega (arith, lt, long)))) ∙ e in
          let spot = (h k d 0 (omega (arith, lt, long))).1 in
          n (sym spot ∙ ap (λ u. slice_index_or spots u 0) old ∙ here)

  kept_but_two : (k : ℕ) (d : Item) → k ≢ at → k ≢ length items - 1 → slice_index_or now k d ≡ slice_index_or items k d
  kept_but_two k d n m = go (cases_lt (k + 1) (length items))
    where
      go : (k + 1 < length items) ⊎ (length items ≤ k + 1) → slice_index_or now k d ≡ slice_index_or items k d
      go (inl lt) = kept k d n lt
      go (inr le) = get_or_past now k d (omega (arith, le, long)) ∙ sym (get_or_past items k d (omega (arith, le, m)))

  -- a way that was settled after one was taken out is cheap
  pub cheap_settled : (new : List Item) (n : ℕ) → at < length now → Settled now new at n → IsCheap items new n
  cheap_settled new n within h = record {
    comparisons = λ digits lt. let a = below digits lt h.down h.deep in let b = below digits lt h.up h.high in let cost = h.cost in omega arith;
    changes = λ digits lt. record {
      positions = (length items - 1) ∷ h.positions;
      few = let a = below digits lt h.down h.deep in let b = below digits lt h.up h.high in let few = h.few in omega arith;
      differs = λ k d out.
          let last = not_there k (length items - 1) h.positions out in
          h.differs k d last.1 ∙ kept_but_two k d (λ e. both_ways _ last.1 (subst (λ j. list_any (λ p. p == j) h.positions ≡ true) (sym e) h.top)) last.0;
    };
  }
    where
      below : (digits : ℕ) → length items + 1 < 2 ^ digits → (levels : ℕ) → 2 ^ levels ≤ length now → levels < digits
      below digits lt levels deep = fewer levels digits (length items + 1) (omega (arith, deep, long)) lt

  -- the last one is taken out without a comparison, which is cheap
  pub cheap_taken : (n : ℕ) → n ≡ 0 → length now ≤ at → IsCheap items now n
  cheap_taken n none past = record {
    comparisons = λ digits lt. omega (arith, none);
    changes = λ digits lt. record {
      positions = at ∷ [];
      few = let some : 0 < digits = fewer 0 digits (length items + 1) (omega arith) lt in omega arith;
      differs = λ k d out. let apart = not_there k at [] out in kept_but_two k d apart.0 (λ s. apart.0 (omega (arith, s, past, inside, long)));
    };
  }

-- who isn't there isn't among the same items in another order
pub still_gone : (now new : List Item) (t : ℕ) → IsPermutation now new → IsAbsent now t → IsAbsent new t
still_gone now new t moved out = sym (list_any-IsPermutation (λ (x : Item). x.task == t) now new moved) ∙ out

-- one after the other, both changes keep the spots of tasks that weren't there
pub keeps_taken : (items now : List Item) (x : Item) (first second third : List ℕ) → IsPermutation items (x ∷ now) → KeepsOthers items first second → KeepsOthers now second third → KeepsOthers items first third
keeps_taken items now x first second third moved h more = record {
  long = more.long ∙ h.long;
  same = λ t e out. more.same t e (or_parts (x.task == t) (list_any (λ (y : Item). y.task == t) now) (sym (list_any-IsPermutation (λ (y : Item). y.task == t) items (x ∷ now) moved) ∙ out)).1 ∙ h.same t e out;
}
