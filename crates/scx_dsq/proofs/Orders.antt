-- The order of entries: by key, then by turn.
use Rattle.std.proofs.Common.{◌≡◌, ℕ, ◌+◌, ◌*◌, ◌^◌, ◌<◌, ◌≤◌, Bool, true, false, ◌⊎◌, inl, inr, nat_lt, int_lt, ℤ, pos, negsuc, ◌<ℤ◌, ◌≤ℤ◌, ◌≢◌, ◌==◌, ◌&&◌, ◌||◌, arith, refl, sym, ◌∙◌}
use Rattle.std.proofs.lemmas.Bool.{ltb-true, eqb-true, lt-ltb, le-ltb, eq-eqb, ne_eqb, cases_lt, cases_order, or_cases, and_parts, and_from, or_left, false_from_ne_true, cases_eq}
use Rattle.std.proofs.lemmas.Int.{ints, by_lt_z}
use Rattle.scx_dsq.specs.declared.entries.Rank.{Rank}
use Rattle.scx_dsq.specs.declared.entries.Rank.TheVariants.{Fifo, Front, Vtime}
use Rattle.scx_dsq.specs.declared.entries.Entry.{Entry}
use Rattle.scx_dsq.specs.Entries.{key_of, same_sort, turn_by, turn, is_before}

-- what a test of two turns says
turns_say : (s t : ℤ) → int_lt s t ≡ true → s <ℤ t
turns_say s t e = omega (arith, ints)

turns_from : (s t : ℤ) → s <ℤ t → int_lt s t ≡ true
turns_from s t lt = go (int_lt s t) refl
  where
    go : (b : Bool) → int_lt s t ≡ b → int_lt s t ≡ true
    go true e = e
    go false e = absurd (omega (arith, ints))

-- what the test says of keys and turns
record IsEarlier (k : ℕ) (s : ℤ) (l : ℕ) (t : ℤ) : Type 0 where
  keys : k ≤ l
  turns : k ≡ l → s <ℤ t

-- what comes before has the lesser key, or the same and the earlier turn
before_says : (p q : Entry) → is_before p q ≡ true → IsEarlier (key_of p.rank) (turn p) (key_of q.rank) (turn q)
before_says p q h =
    elim (or_cases (nat_lt (key_of p.rank) (key_of q.rank)) (key_of p.rank == key_of q.rank && int_lt (turn p) (turn q)) h) [
      | inl k ↦ let lt : key_of p.rank < key_of q.rank = ltb-true _ _ k in record { keys = omega arith; turns = λ e. absurd (omega arith) }
      | inr b ↦
          let parts = and_parts (key_of p.rank == key_of q.rank) (int_lt (turn p) (turn q)) b in
          let same : key_of p.rank ≡ key_of q.rank = eqb-true _ _ parts.0 in
          record { keys = omega arith; turns = λ e. turns_say (turn p) (turn q) parts.1 }
    ]

-- and what has them comes before
before_from : (p q : Entry) → IsEarlier (key_of p.rank) (turn p) (key_of q.rank) (turn q) → is_before p q ≡ true
before_from p q h =
    elim (cases_eq (key_of p.rank) (key_of q.rank)) [
      | inl e ↦ or_from_right _ _ (and_from _ _ (eq-eqb _ _ e) (turns_from (turn p) (turn q) (h.turns e)))
      | inr n ↦
          let keys : key_of p.rank ≤ key_of q.rank = h.keys in
          let lt : key_of p.rank < key_of q.rank = omega (arith, n) in
          or_left _ _ (lt-ltb _ _ lt)
    ]
  where
    or_from_right : (x y : Bool) → y ≡ true → (x || y) ≡ true
    or_from_right true y e = refl
    or_from_right false y e = e

-- a lesser key, or the same and the lesser stamp
pub record Below (k s l t : ℕ) : Type 0 where
  pub keys : k ≤ l
  pub stamps : k ≡ l → s < t

-- by virtual time what has them comes before
pub by_stamps : (i k s j l t : ℕ) → Below k s l t → is_before (record { queue = i; rank = Vtime k; stamp = s }) (record { queue = j; rank = Vtime l; stamp = t }) ≡ true
by_stamps i k s j l t b =
    before_from (record { queue = i; rank = Vtime k; stamp = s }) (record { queue = j; rank = Vtime l; stamp = t })
    (record { keys = b.keys; turns = λ e. let lt : s < t = b.stamps e in omega (arith, ints, lt) })

-- what is before one that is before a third is before the third
pub before-trans : (p q r : Entry) → is_before p q ≡ true → is_before q r ≡ true → is_before p r ≡ true
before-trans p q r h k =
    let a = before_says p q h in
    let b = before_says q r k in
    before_from p r (record {
      keys = omega (arith, a.keys, b.keys);
      turns = λ e.
          let first : turn p <ℤ turn q = a.turns (omega (arith, a.keys, b.keys, e)) in
          let second : turn q <ℤ turn r = b.turns (omega (arith, a.keys, b.keys, e)) in
          omega (arith, ints, first, second);
    })

-- no two entries are before each other
pub before-asym : (p q : Entry) → is_before p q ≡ true → is_before q p ≡ false
before-asym p q h =
    let a = before_says p q h in
    false_from_ne_true _ (λ k. apart a (before_says q p k))
  where
    apart : {k l : ℕ} {s t : ℤ} → IsEarlier k s l t → IsEarlier l t k s → ⊥
    apart {k} {l} {s} {t} a b =
        let same : k ≡ l = omega (arith, a.keys, b.keys) in
        let early : s <ℤ t = a.turns same in
        let late : t <ℤ s = b.turns (sym same) in
        absurd (omega (arith, ints, early, late))

-- ---- turns

-- of two turns that differ one is earlier
pub apart_turns : (a b : ℤ) → a ≤ℤ b → a ≢ b → a <ℤ b
apart_turns a b le n = by_lt_z {P = a <ℤ b} a b (λ lt. lt) (λ (ge : b ≤ℤ a). absurd (n (omega (arith, ints, le, ge))))

-- two turns that are one are those of one stamp
pub one_turn : (r s : Rank) (m n : ℕ) → turn_by r m ≡ turn_by s n → m ≡ n
one_turn Fifo Fifo m n e = cc
one_turn Fifo Front m n e = absurd (cc)
one_turn Fifo (Vtime l) m n e = cc
one_turn Front Fifo m n e = absurd (cc)
one_turn Front Front m n e = cc
one_turn Front (Vtime l) m n e = absurd (cc)
one_turn (Vtime k) Fifo m n e = cc
one_turn (Vtime k) Front m n e = absurd (cc)
one_turn (Vtime k) (Vtime l) m n e = cc

-- a later push has a later turn, if it isn't one to the front
pub later_turn : (r s : Rank) (m n : ℕ) → s ≡ Fifo → m < n → turn_by r m <ℤ turn_by s n
later_turn r s m n is lt = rw is (go r)
  where
    go : (x : Rank) → turn_by x m <ℤ pos n
    go Fifo = omega (arith, ints, lt)
    go Front = omega (arith, ints, lt)
    go (Vtime k) = omega (arith, ints, lt)

-- one to the front has an earlier turn than all pushes before it
pub earlier_turn : (r s : Rank) (m n : ℕ) → s ≡ Front → m < n → turn_by s n <ℤ turn_by r m
earlier_turn r s m n is lt = rw is (go r)
  where
    go : (x : Rank) → negsuc n <ℤ turn_by x m
    go Fifo = omega (arith, ints, lt)
    go Front = omega (arith, ints, lt)
    go (Vtime k) = omega (arith, ints, lt)

-- ---- entries in order of arrival

-- their key is 0
pub arrival_key : (r : Rank) → same_sort r Fifo ≡ true → key_of r ≡ 0
arrival_key Fifo e = refl
arrival_key Front e = refl
arrival_key (Vtime k) e = absurd (cc)

-- turns alone decide which of them comes first
pub earlier_turns : (p q : Entry) → same_sort p.rank Fifo ≡ true → same_sort q.rank Fifo ≡ true → is_before p q ≡ true → turn p <ℤ turn q
earlier_turns p q a b e = (before_says p q e).turns (arrival_key p.rank a ∙ sym (arrival_key q.rank b))

-- and the other way round
pub before_turns : (p q : Entry) → same_sort p.rank Fifo ≡ true → same_sort q.rank Fifo ≡ true → turn p <ℤ turn q → is_before p q ≡ true
before_turns p q a b lt = before_from p q (record { keys = omega (arith, arrival_key p.rank a); turns = λ e. lt })

-- what is of one sort with the front is of one sort with the end
pub front_sort : (r : Rank) → same_sort r Front ≡ same_sort r Fifo
front_sort Fifo = refl
front_sort Front = refl
front_sort (Vtime k) = refl

-- a rank of the sort of one in order of arrival is of that sort
pub alike_arrival : (r s : Rank) → same_sort r s ≡ true → same_sort r Fifo ≡ true → same_sort s Fifo ≡ true
alike_arrival Fifo Fifo alike e = refl
alike_arrival Fifo Front alike e = refl
alike_arrival Fifo (Vtime l) alike e = absurd (cc)
alike_arrival Front Fifo alike e = refl
alike_arrival Front Front alike e = refl
alike_arrival Front (Vtime l) alike e = absurd (cc)
alike_arrival (Vtime k) s alike e = absurd (cc)

-- ---- keys and stamps as numbers

-- the same number in front changes nothing
in_front : (m s t : ℕ) → nat_lt (m + s) (m + t) ≡ nat_lt s t
in_front m s t = go (cases_lt s t)
  where
    go : (s < t) ⊎ (t ≤ s) → nat_lt (m + s) (m + t) ≡ nat_lt s t
    go (inl lt) = rw (lt-ltb (m + s) (m + t) (omega (arith, lt)), lt-ltb s t lt) refl
    go (inr le) = rw (le-ltb (m + s) (m + t) (omega (arith, le)), le-ltb s t le) refl

-- keys with stamps behind them compare by key, then by stamp
pub wholes_compare : (k s l t : ℕ) → s < 2 ^ 64 → t < 2 ^ 64 → nat_lt (k * 2 ^ 64 + s) (l * 2 ^ 64 + t) ≡ (nat_lt k l || (k == l && nat_lt s t))
wholes_compare k s l t low lower = go (cases_order k l)
  where
    go : (k ≡ l) ⊎ ((k < l) ⊎ (l < k)) → nat_lt (k * 2 ^ 64 + s) (l * 2 ^ 64 + t) ≡ (nat_lt k l || (k == l && nat_lt s t))
    go (inl e) = rw (e, in_front (l * 2 ^ 64) s t, le-ltb l l (omega arith), eq-eqb l l refl) refl
    go (inr (inl lt)) = rw (lt-ltb (k * 2 ^ 64 + s) (l * 2 ^ 64 + t) (omega (arith, lt, low)), lt-ltb k l lt) refl
    go (inr (inr gt)) = rw (le-ltb (k * 2 ^ 64 + s) (l * 2 ^ 64 + t) (omega (arith, gt, lower)), le-ltb k l (omega (arith, gt)), ne_eqb k l (λ e. absurd (omega (arith, e, gt)))) refl
