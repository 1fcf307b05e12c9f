-- The words of a state tell what is kept of its machine.
use Rattle.std.proofs.Common.{◌≡◌, ℕ, zero, suc, ◌+◌, ◌*◌, ◌/◌, ◌%◌, ◌<◌, ◌≤◌, ◌==◌, nat_lt, Bool, true, false, List, [], ◌∷◌, ◌++◌, length, get_or, Option, Some, None, refl, sym, ap, ◌∙◌, subst, arith, ⊎_elim}
use Rattle.std.specs.Prelude.{min, cond, unwrap_or, slice_index}
use Rattle.std.specs.List.{position_or_len}
use Rattle.std.proofs.lemmas.Bool.{cases_lt, lt-ltb, le-ltb}
use Rattle.std.proofs.lemmas.Grind.{or_after_shift}
use Rattle.std.proofs.lemmas.List.{length-append}
use Rattle.scx_dsq.specs.declared.entries.Entry.{Entry}
use Rattle.scx_weights.specs.Hierarchy.{Hierarchy}
use Rattle.scx_weights.specs.declared.group.Group.{Group}
use Rattle.scx_weights.specs.Limits.{usage_of, has_quota}
use Rattle.scx_dsq.specs.Queues.{entry_of}
use Rattle.scx_sched_world.specs.World.{WorldState, are_linux, task_at, wait, cpu_of}
use Rattle.scx_sched_world.specs.Helpers.{alarm_at}
use Rattle.scx_sched.specs.Sim.{SimState}
use Rattle.scx_explore_states.specs.declared.form.Form.{Form}
use Rattle.scx_explore_states.specs.declared.rows.Row.{Row}
use Rattle.scx_explore_states.specs.Rows.{kept, bit_of, waiting_key, is_by_vtime, ahead_of, entries_of, place_of, spot_of, row_of, no_row, task_row, rows_of}
use Rattle.scx_explore_states.specs.Written.{joined, kept_word, own_order, task_in, row_in, spot_words, row_words, rows_words, time_words, used_words, usage_words, alarm_words, timer_words, linux_words, rules_words, map_words, past_tick, task_words, state_words}
use Rattle.scx_explore_states.specs.Words.{number_in, most_queues}
use Rattle.scx_explore_states.specs.NotZero.{kept_words}
use Rattle.scx_explore_states.specs.Laws.{Fits}
use Rattle.scx_explore_states.specs.Telling.{AreOfOneShape, IsKeptAlike, KeepTheSame, WordsTell}
use Rattle.scx_explore_states.proofs.Pairs.{same_first, same_rest, same_words}
use Rattle.scx_explore_states.proofs.Placed.{own_tasks}
use Rattle.scx_explore_states.proofs.Spots.{numbers_tell, bit_small}

-- ---- lists

-- of two lists that are the same the first parts are, where they are as long, and so are the rests
pub parts_same : (xs ys us vs : List ℕ) → length xs ≡ length us → xs ++ ys ≡ us ++ vs → (xs ≡ us) × (ys ≡ vs)
parts_same [] ys [] vs n e = (refl, e)
parts_same [] ys (u ∷ us) vs n e = absurd (omega (arith, n))
parts_same (x ∷ xs) ys [] vs n e = absurd (omega (arith, n))
parts_same (x ∷ xs) ys (u ∷ us) vs n e =
    let more = parts_same xs ys us vs (omega (arith, n)) (same_rest x u (xs ++ ys) (us ++ vs) e) in
    (ap (λ (z : ℕ). z ∷ xs) (same_first x u (xs ++ ys) (us ++ vs) e) ∙ ap (λ (l : List ℕ). u ∷ l) more.0, more.1)

-- two lists that are as long stay so with two that are as long after them
longer_same : (xs ys us vs : List ℕ) → length xs ≡ length us → length ys ≡ length vs → length (xs ++ ys) ≡ length (us ++ vs)
longer_same xs ys us vs n m = length-append xs ys ∙ (ap (λ (k : ℕ). k + length ys) n ∙ (ap (λ (k : ℕ). length us + k) m ∙ sym (length-append us vs)))

-- ---- words that are kept

word_long : (b : Bool) (n k : ℕ) → length (kept_word b n) ≡ length (kept_word b k)
word_long true n k = refl
word_long false n k = refl

abbrev IsYes : Bool → Type 0
IsYes true = Unit {0}
IsYes false = ⊥

no_isnt_yes : false ≡ true → ⊥
no_isnt_yes e = subst IsYes (sym e) tt

word_tells : (b : Bool) (n k : ℕ) → kept_word b n ≡ kept_word b k → b ≡ true → n ≡ k
word_tells true n k e so = same_first n k [] [] e
word_tells false n k e so = absurd (no_isnt_yes so)

-- a number that is 0 where it isn't kept
kept_tells : (b : Bool) (n k : ℕ) → kept_word b (kept b n) ≡ kept_word b (kept b k) → kept b n ≡ kept b k
kept_tells true n k e = same_first n k [] [] e
kept_tells false n k e = refl

-- ---- tasks

-- a row that the form can tell
pub record IsOf (f : Form) (r : Row) : Type 0 where
  pub spot : r.spot < 4294967296
  pub key : ℕ
  pub keys : r.key ≡ kept f.keys key
  pub time : ℕ
  pub times : r.vtime ≡ kept f.vtime time
  pub run : ℕ
  pub runs : r.run_ns ≡ kept f.run_ns run

row_long : (f : Form) (r q : Row) → length (row_words f r) ≡ length (row_words f q)
row_long f r q =
    ap suc
    (longer_same (kept_word f.keys r.key) (kept_word f.vtime r.vtime ++ kept_word f.run_ns r.run_ns) (kept_word f.keys q.key) (kept_word f.vtime q.vtime ++ kept_word f.run_ns q.run_ns) (word_long f.keys r.key q.key)
    (longer_same (kept_word f.vtime r.vtime) (kept_word f.run_ns r.run_ns) (kept_word f.vtime q.vtime) (kept_word f.run_ns q.run_ns) (word_long f.vtime r.vtime q.vtime) (word_long f.run_ns r.run_ns q.run_ns)))

-- its words tell all of it but the spot
row_tells : (f : Form) (r q : Row) → IsOf f r → IsOf f q → r.spot ≡ q.spot → row_words f r ≡ row_words f q → r ≡ q
row_tells f r q is iq spot e =
    let a = same_rest r.slice q.slice (kept_word f.keys r.key ++ (kept_word f.vtime r.vtime ++ kept_word f.run_ns r.run_ns)) (kept_word f.keys q.key ++ (kept_word f.vtime q.vtime ++ kept_word f.run_ns q.run_ns)) e in
    let k = parts_same (kept_word f.keys r.key) (kept_word f.vtime r.vtime ++ kept_word f.run_ns r.run_ns) (kept_word f.keys q.key) (kept_word f.vtime q.vtime ++ kept_word f.run_ns q.run_ns) (word_long f.keys r.key q.key) a in
    let v = parts_same (kept_word f.vtime r.vtime) (kept_word f.run_ns r.run_ns) (kept_word f.vtime q.vtime) (kept_word f.run_ns q.run_ns) (word_long f.vtime r.vtime q.vtime) k.1 in
    let slice : r.slice ≡ q.slice = same_first r.slice q.slice (kept_word f.keys r.key ++ (kept_word f.vtime r.vtime ++ kept_word f.run_ns r.run_ns)) (kept_word f.keys q.key ++ (kept_word f.vtime q.vtime ++ kept_word f.run_ns q.run_ns)) e in
    let key : r.key ≡ q.key = told f.keys r.key q.key is.key iq.key is.keys iq.keys k.0 in
    let vtime : r.vtime ≡ q.vtime = told f.vtime r.vtime q.vtime is.time iq.time is.times iq.times v.0 in
    let run : r.run_ns ≡ q.run_ns = told f.run_ns r.run_ns q.run_ns is.run iq.run is.runs iq.runs v.1 in
    λ i. record { spot = spot i; slice = slice i; key = key i; vtime = vtime i; run_ns = run i }
  where
    told : (b : Bool) (x y n k : ℕ) → x ≡ kept b n → y ≡ kept b k → kept_word b x ≡ kept_word b y → x ≡ y
    told b x y n k e g same = e ∙ (kept_tells b n k (ap (kept_word b) (sym e) ∙ (same ∙ ap (kept_word b) g)) ∙ sym g)

-- two halves of a word
halves_tell : (a b c d : ℕ) → a < 4294967296 → b < 4294967296 → c < 4294967296 → d < 4294967296 → joined 32 a b ≡ joined 32 c d → (a ≡ c) × (b ≡ d)
halves_tell a b c d la lb lc ld e =
    let p : joined 32 a b ≡ a * 4294967296 + b = or_after_shift a 4294967296 18446744073709551616 b refl lb (omega (arith, la)) in
    let q : joined 32 c d ≡ c * 4294967296 + d = or_after_shift c 4294967296 18446744073709551616 d refl ld (omega (arith, lc)) in
    let same : a * 4294967296 + b ≡ c * 4294967296 + d = sym p ∙ (e ∙ q) in
    (omega (arith, same, la, lb, lc, ld), omega (arith, same, la, lb, lc, ld))

module _ (f : Form) (rs qs : List Row) (order : List ℕ) where
  spots_long : (n : ℕ) → length (spot_words rs order n) ≡ length (spot_words qs order n)
  spots_long zero = refl
  spots_long (suc n) =
      longer_same (spot_words rs order n) (joined 32 (row_in rs order (2 * n)).spot (row_in rs order (2 * n + 1)).spot ∷ []) (spot_words qs order n) (joined 32 (row_in qs order (2 * n)).spot (row_in qs order (2 * n + 1)).spot ∷ []) (spots_long n) refl

  rows_long : (n : ℕ) → length (rows_words f rs order n) ≡ length (rows_words f qs order n)
  rows_long zero = refl
  rows_long (suc n) =
      longer_same (rows_words f rs order n) (row_words f (row_in rs order n)) (rows_words f qs order n) (row_words f (row_in qs order n)) (rows_long n) (row_long f (row_in rs order n) (row_in qs order n))

  module _ (is : (p : ℕ) → IsOf f (row_in rs order p)) (iq : (p : ℕ) → IsOf f (row_in qs order p)) where
    -- the spots of both tasks of a pair
    spots_tell : (n : ℕ) → spot_words rs order n ≡ spot_words qs order n → (k : ℕ) → k < n → ((row_in rs order (2 * k)).spot ≡ (row_in qs order (2 * k)).spot) × ((row_in rs order (2 * k + 1)).spot ≡ (row_in qs order (2 * k + 1)).spot)
    spots_tell zero e k l = absurd (omega (arith, l))
    spots_tell (suc n) e k l =
        let both = parts_same (spot_words rs order n) (joined 32 (row_in rs order (2 * n)).spot (row_in rs order (2 * n + 1)).spot ∷ []) (spot_words qs order n) (joined 32 (row_in qs order (2 * n)).spot (row_in qs order (2 * n + 1)).spot ∷ []) (spots_long n) e in
        let last = same_first (joined 32 (row_in rs order (2 * n)).spot (row_in rs order (2 * n + 1)).spot) (joined 32 (row_in qs order (2 * n)).spot (row_in qs order (2 * n + 1)).spot) [] [] both.1 in
        let here = halves_tell (row_in rs order (2 * n)).spot (row_in rs order (2 * n + 1)).spot (row_in qs order (2 * n)).spot (row_in qs order (2 * n + 1)).spot (is (2 * n)).spot (is (2 * n + 1)).spot (iq (2 * n)).spot (iq (2 * n + 1)).spot last in
        ⊎_elim (λ (few : k < n). spots_tell n both.0 k few)
        (λ (past : n ≤ k).
        let at : n ≡ k = omega (arith, past, l) in
        subst (λ (j : ℕ). ((row_in rs order (2 * j)).spot ≡ (row_in qs order (2 * j)).spot) × ((row_in rs order (2 * j + 1)).spot ≡ (row_in qs order (2 * j + 1)).spot)) at here)
        (cases_lt k n)

    -- the other words of each task
    others_tell : (n : ℕ) → rows_words f rs order n ≡ rows_words f qs order n → (k : ℕ) → k < n → row_words f (row_in rs order k) ≡ row_words f (row_in qs order k)
    others_tell zero e k l = absurd (omega (arith, l))
    others_tell (suc n) e k l =
        let both = parts_same (rows_words f rs order n) (row_words f (row_in rs order n)) (rows_words f qs order n) (row_words f (row_in qs order n)) (rows_long n) e in
        ⊎_elim (λ (few : k < n). others_tell n both.0 k few)
        (λ (past : n ≤ k).
        let at : n ≡ k = omega (arith, past, l) in
        subst (λ (j : ℕ). row_words f (row_in rs order j) ≡ row_words f (row_in qs order j)) at both.1)
        (cases_lt k n)

    -- the spot of a task, by its pair
    spot_at : (n : ℕ) → spot_words rs order ((n + 1) / 2) ≡ spot_words qs order ((n + 1) / 2) → (k : ℕ) → k < n → (row_in rs order k).spot ≡ (row_in qs order k).spot
    spot_at n e k l =
        let pair = spots_tell ((n + 1) / 2) e (k / 2) (omega (arith, l)) in
        ⊎_elim
        (λ (even : k % 2 < 1).
        let at : 2 * (k / 2) ≡ k = omega (arith, even) in
        subst (λ (j : ℕ). (row_in rs order j).spot ≡ (row_in qs order j).spot) at pair.0)
        (λ (odd : 1 ≤ k % 2).
        let at : 2 * (k / 2) + 1 ≡ k = omega (arith, odd) in
        subst (λ (j : ℕ). (row_in rs order j).spot ≡ (row_in qs order j).spot) at pair.1)
        (cases_lt (k % 2) 1)

    -- all that is kept of each task
    tasks_tell : (n : ℕ) → task_words f rs order n ≡ task_words f qs order n → (k : ℕ) → k < n → row_in rs order k ≡ row_in qs order k
    tasks_tell n e k l =
        let both = parts_same (spot_words rs order ((n + 1) / 2)) (rows_words f rs order n) (spot_words qs order ((n + 1) / 2)) (rows_words f qs order n) (spots_long ((n + 1) / 2)) e in
        row_tells f (row_in rs order k) (row_in qs order k) (is k) (iq k) (spot_at n both.0 k l) (others_tell n both.1 k l)

    tasks_long : (n : ℕ) → length (task_words f rs order n) ≡ length (task_words f qs order n)
    tasks_long n = longer_same (spot_words rs order ((n + 1) / 2)) (rows_words f rs order n) (spot_words qs order ((n + 1) / 2)) (rows_words f qs order n) (spots_long ((n + 1) / 2)) (rows_long n)

-- ---- what a row has

kept_zero : (b : Bool) → 0 ≡ kept b 0
kept_zero true = refl
kept_zero false = refl

-- a number of a queue is among these, or the next one
number_few : (ids : List ℕ) (q : ℕ) → number_in ids q ≤ length ids
number_few ids q = go (position_or_len (λ other. other == q) ids) (length ids)
  where
    go : (i n : ℕ) → unwrap_or (cond (nat_lt i n) (Some i) None) n ≤ n
    go i n =
        ⊎_elim
        (λ (l : i < n).
        let here : i ≤ n = omega (arith, l) in
        subst (λ (b : Bool). unwrap_or (cond b (Some i) None) n ≤ n) (sym (lt-ltb i n l)) here)
        (λ (l : n ≤ i).
        let past : n ≤ n = omega arith in
        subst (λ (b : Bool). unwrap_or (cond b (Some i) None) n ≤ n) (sym (le-ltb i n l)) past)
        (cases_lt i n)

below_16 : (n : ℕ) → n % 16 < 16
below_16 n = omega arith

below_8 : (n : ℕ) → n % 8 < 8
below_8 n = omega arith

min_16 : (n : ℕ) → min n 65535 ≤ 65535
min_16 n = omega arith

min_3 : (n : ℕ) → min n 7 < 8
min_3 n = omega arith

below_both : (k n : ℕ) → k < 8 → k < n → k < min n 8
below_both k n l m = omega (arith, l, m)

place_few : (ids : List ℕ) → length ids ≤ most_queues → (c : Option ℕ) (e : Option Entry) → place_of ids c e < 256
place_few ids few (Some c) e = let is : 1 + c % 16 < 256 = omega arith in is
place_few ids few None None = let is : 0 < 256 = omega arith in is
place_few ids few None (Some e) =
    let most : length ids ≤ 36 = few in
    let is : 17 + number_in ids e.queue < 256 = omega (arith, most, number_few ids e.queue) in
    is

ahead_few : (es : List (Option Entry)) (e : Option Entry) → ahead_of es e < 8
ahead_few es None = let is : 0 < 8 = omega arith in is
ahead_few es (Some e) = min_3 _

module _ (f : Form) (ids : List ℕ) (few : length ids ≤ most_queues) where
  spot_fits : (w : WorldState) (k : ℕ) → Fits (spot_of f w ids (entries_of w) k (entry_of w.queues k))
  spot_fits w k = record {
    place = place_few ids few (cpu_of w k) (entry_of w.queues k);
    prev_cpu = below_16 (task_at w k).prev_cpu;
    ahead = ahead_few (entries_of w) (entry_of w.queues k);
  }

  row_is : (w : WorldState) (k : ℕ) → IsOf f (row_of f w k (entry_of w.queues k) (spot_of f w ids (entries_of w) k (entry_of w.queues k)))
  row_is w k =
      let e = entry_of w.queues k in
      let place = place_few ids few (cpu_of w k) e in
      let ahead = ahead_few (entries_of w) e in
      record {
        spot = spot_few (min (kept f.waits (wait w k)) 65535) (place_of ids (cpu_of w k) e) ((task_at w k).prev_cpu % 16) (ahead_of (entries_of w) e) (bit_of (is_by_vtime e)) (min_16 (kept f.waits (wait w k))) place (below_16 (task_at w k).prev_cpu) ahead (bit_small (is_by_vtime e));
        key = waiting_key e;
        keys = refl;
        time = (task_at w k).vtime;
        times = refl;
        run = (task_at w k).run_ns;
        runs = refl;
      }
    where
      spot_few : (a p c h b : ℕ) → a ≤ 65535 → p < 256 → c < 16 → h < 8 → b < 2 → a * 65536 + p * 256 + c * 16 + h * 2 + b < 4294967296
      spot_few a p c h b la lp lc lh lb = omega (arith, la, lp, lc, lh, lb)

  zero_few : 0 < 4294967296
  zero_few = omega arith

  task_is : (w : WorldState) (k : ℕ) → IsOf f (task_row f w ids k)
  task_is w k = go (nat_lt k (length w.tasks))
    where
      go : (b : Bool) → IsOf f (cond b (row_of f w k (entry_of w.queues k) (spot_of f w ids (entries_of w) k (entry_of w.queues k))) no_row)
      go true = row_is w k
      go false = record { spot = zero_few; key = 0; keys = kept_zero f.keys; time = 0; times = kept_zero f.vtime; run = 0; runs = kept_zero f.run_ns }

  eight_rows : (w : WorldState) (k : ℕ) → k < 8 → get_or (rows_of f w ids) k no_row ≡ task_row f w ids k
  eight_rows w zero l = refl
  eight_rows w (suc zero) l = refl
  eight_rows w (suc (suc zero)) l = refl
  eight_rows w (suc (suc (suc zero))) l = refl
  eight_rows w (suc (suc (suc (suc zero)))) l = refl
  eight_rows w (suc (suc (suc (suc (suc zero))))) l = refl
  eight_rows w (suc (suc (suc (suc (suc (suc zero)))))) l = refl
  eight_rows w (suc (suc (suc (suc (suc (suc (suc zero))))))) l = refl
  eight_rows w (suc (suc (suc (suc (suc (suc (suc (suc k)))))))) l = absurd (omega (arith, l))

  placed_is : (w : WorldState) (order : List ℕ) (p : ℕ) → IsOf f (row_in (rows_of f w ids) order p)
  placed_is w order p =
      let k = task_in order p in
      subst (IsOf f) (sym (eight_rows w k (below_8 (slice_index order (p % 8))))) (task_is w k)

  -- the row of a task that is there
  there : (w : WorldState) (k : ℕ) → k < 8 → k < length w.tasks → row_in (rows_of f w ids) own_order k ≡ row_of f w k (entry_of w.queues k) (spot_of f w ids (entries_of w) k (entry_of w.queues k))
  there w k l m =
      ap (λ (j : ℕ). get_or (rows_of f w ids) j no_row) (own_tasks k l)
      ∙ (eight_rows w k l
      ∙ ap (λ (b : Bool). cond b (row_of f w k (entry_of w.queues k) (spot_of f w ids (entries_of w) k (entry_of w.queues k))) no_row) (lt-ltb k (length w.tasks) m))

  -- rows that are the same tell the same of their tasks
  alike : (v w : WorldState) (k : ℕ) → row_of f v k (entry_of v.queues k) (spot_of f v ids (entries_of v) k (entry_of v.queues k)) ≡ row_of f w k (entry_of w.queues k) (spot_of f w ids (entries_of w) k (entry_of w.queues k)) → IsKeptAlike f ids v w k
  alike v w k e =
      let same = numbers_tell (spot_of f v ids (entries_of v) k (entry_of v.queues k)) (spot_of f w ids (entries_of w) k (entry_of w.queues k)) (spot_fits v k) (spot_fits w k) (ap (λ (r : Row). r.spot) e) in
      record {
        wait = same.wait;
        place = same.place;
        prev_cpu = same.prev_cpu;
        ahead = same.ahead;
        by_vtime = same.by_vtime;
        slice = ap (λ (r : Row). r.slice) e;
        key = ap (λ (r : Row). r.key) e;
        vtime = ap (λ (r : Row). r.vtime) e;
        run_ns = ap (λ (r : Row). r.run_ns) e;
      }

-- ---- the other words

used_long : (x y : Hierarchy) (n : ℕ) → length (used_words x n) ≡ length (used_words y n)
used_long x y zero = refl
used_long x y (suc n) = longer_same (used_words x n) (usage_of x n ∷ []) (used_words y n) (usage_of y n ∷ []) (used_long x y n) refl

-- as many timers have as many words
pub timers_long : (v w : WorldState) (n : ℕ) → length (timer_words v n) ≡ length (timer_words w n)
timers_long v w zero = refl
timers_long v w (suc n) = longer_same (timer_words v n) (alarm_words v.clock (alarm_at v n)) (timer_words w n) (alarm_words w.clock (alarm_at w n)) (timers_long v w n) refl

long_if : (b c : Bool) (xs ys : List ℕ) → b ≡ c → length xs ≡ length ys → length (cond b xs []) ≡ length (cond c ys [])
long_if b c xs ys e n = subst (λ (d : Bool). length (cond b xs []) ≡ length (cond d ys [])) e (go b)
  where
    go : (d : Bool) → length (cond d xs []) ≡ length (cond d ys [])
    go true = n
    go false = refl

module _ (v w : WorldState) (shape : AreOfOneShape v w) where
  usage_long : length (usage_words v) ≡ length (usage_words w)
  usage_long =
      long_if (has_quota v.tree.groups) (has_quota w.tree.groups) (v.clock ∷ used_words v.tree (length v.tree.groups)) (w.clock ∷ used_words w.tree (length w.tree.groups)) (ap (λ (gs : List Group). has_quota gs) shape.groups)
      (ap suc (used_long v.tree w.tree (length v.tree.groups) ∙ ap (λ (gs : List Group). length (used_words w.tree (length gs))) shape.groups))

  linux_long : length (linux_words v) ≡ length (linux_words w)
  linux_long = ap (λ (n : ℕ). suc (suc (suc n))) (timers_long v w (length v.timers) ∙ ap (λ (n : ℕ). length (timer_words w n)) shape.timers)

  times_long : (f : Form) → length (time_words f v) ≡ length (time_words f w)
  times_long f =
      longer_same (kept_word f.clock v.clock) (kept_word f.pushes v.queues.pushes ++ kept_word f.random v.random) (kept_word f.clock w.clock) (kept_word f.pushes w.queues.pushes ++ kept_word f.random w.random) (word_long f.clock v.clock w.clock)
      (longer_same (kept_word f.pushes v.queues.pushes) (kept_word f.random v.random) (kept_word f.pushes w.queues.pushes) (kept_word f.random w.random) (word_long f.pushes v.queues.pushes w.queues.pushes) (word_long f.random v.random w.random))

-- ---- all of a state

module _ (f : Form) (ids : List ℕ) (few : length ids ≤ most_queues) (s t : SimState) (shape : AreOfOneShape s.state.world t.state.world) where
  tells : state_words f (rows_of f s.state.world ids) own_order s ≡ state_words f (rows_of f t.state.world ids) own_order t → KeepTheSame f ids s t
  tells e =
      let v = s.state.world in
      let w = t.state.world in
      let rs = rows_of f v ids in
      let qs = rows_of f w ids in
      let n = min (length v.tasks) 8 in
      let many : min (length w.tasks) 8 ≡ n = ap (λ (k : ℕ). min k 8) (sym shape.tasks) in
      let rest = rules_words s.state ++ kept_words f.map_words (map_words s.state.maps) in
      let rest' = rules_words t.state ++ kept_words f.map_words (map_words t.state.maps) in
      let whole : task_words f rs own_order n ++ (time_words f v ++ (usage_words v ++ rest)) ≡ task_words f qs own_order n ++ (time_words f w ++ (usage_words w ++ rest')) =
      e ∙ ap (λ (k : ℕ). task_words f qs own_order k ++ (time_words f w ++ (usage_words w ++ rest'))) many in
      let a = parts_same (task_words f rs own_order n) (time_words f v ++ (usage_words v ++ rest)) (task_words f qs own_order n) (time_words f w ++ (usage_words w ++ rest')) (tasks_long f rs qs own_order (placed_is f ids few v own_order) (placed_is f ids few w own_order) n) whole in
      let b = parts_same (time_words f v) (usage_words v ++ rest) (time_words f w) (usage_words w ++ rest') (times_long v w shape f) a.1 in
      let c = parts_same (usage_words v) rest (usage_words w) rest' (usage_long v w shape) b.1 in
      let long : length (rules_words s.state) ≡ length (rules_words t.state) =
      long_if (are_linux v.rules) (are_linux w.rules) (past_tick s.state.policy.tick_ms v.clock ∷ linux_words v) (past_tick t.state.policy.tick_ms w.clock ∷ linux_words w) (ap are_linux shape.rules) (ap suc (linux_long v w shape)) in
      let d = parts_same (rules_words s.state) (kept_words f.map_words (map_words s.state.maps)) (rules_words t.state) (kept_words f.map_words (map_words t.state.maps)) long c.1 in
      let clocks = parts_same (kept_word f.clock v.clock) (kept_word f.pushes v.queues.pushes ++ kept_word f.random v.random) (kept_word f.clock w.clock) (kept_word f.pushes w.queues.pushes ++ kept_word f.random w.random) (word_long f.clock v.clock w.clock) b.0 in
      let randoms = parts_same (kept_word f.pushes v.queues.pushes) (kept_word f.random v.random) (kept_word f.pushes w.queues.pushes) (kept_word f.random w.random) (word_long f.pushes v.queues.pushes w.queues.pushes) clocks.1 in
      record {
        tasks = λ k l m.
            alike f ids few v w k
            (sym (there f ids few v k l m)
            ∙ (tasks_tell f rs qs own_order (placed_is f ids few v own_order) (placed_is f ids few w own_order) n a.0 k (below_both k (length v.tasks) l m)
            ∙ there f ids few w k l (subst (λ (j : ℕ). k < j) shape.tasks m)));
        clock = word_tells f.clock v.clock w.clock clocks.0;
        random = word_tells f.random v.random w.random randoms.1;
        usages = c.0;
        rules = d.0;
        maps = same_words f.map_words (map_words s.state.maps) (map_words t.state.maps) d.1;
      }

-- machines of one shape that are written as the same words keep the same
pub words_tell : WordsTell
words_tell f ids xs s t names few shape is it =
    let rs = rows_of f s.state.world ids in
    let qs = rows_of f t.state.world ids in
    let same : state_words f rs is.order s ≡ state_words f qs it.order t =
    same_rest is.began it.began (state_words f rs is.order s) (state_words f qs it.order t) (sym is.words ∙ it.words) in
    tells f ids few s t shape
    (ap (λ (o : List ℕ). state_words f rs o s) (sym (is.fair.names names)) ∙ (same ∙ ap (λ (o : List ℕ). state_words f qs o t) (it.fair.names names)))
