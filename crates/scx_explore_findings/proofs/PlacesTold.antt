-- The place of a task in the words of a state tells on which processor it runs, or in which queue it waits and how.
use Rattle.std.proofs.Common.{◌≡◌, ℕ, suc, ◌+◌, ◌%◌, ◌<◌, ◌≤◌, ◌==◌, Bool, true, false, cond, not, nat_lt, List, [], ◌∷◌, length, get_or, Option, Some, None, option_map, refl, sym, ap, ◌∙◌, subst, arith, ⊎_elim}
use Rattle.std.specs.Prelude.{unwrap_or}
use Rattle.std.specs.List.{position_or_len}
use Rattle.std.proofs.lemmas.Bool.{eqb-true, cases_lt, lt-ltb, le-ltb}
use Rattle.scx_dsq.specs.declared.entries.Entry.{Entry}
use Rattle.scx_dsq.specs.declared.entries.Rank.{Rank}
use Rattle.scx_dsq.specs.declared.entries.Rank.TheVariants.{Fifo, Front, Vtime}
use Rattle.scx_dsq.specs.Entries.{key_of}
use Rattle.scx_explore_states.specs.Rows.{waiting_key, by_vtime_in, is_by_vtime, place_of}
use Rattle.scx_explore_states.specs.Words.{number_in}
use Rattle.scx_explore_findings.specs.QueueOrder.{rank_left, unnumbered}

-- ---- numbers of queues

-- the test holds where it is found to hold first
found : (p : ℕ → Bool) (xs : List ℕ) → position_or_len p xs < length xs → p (get_or xs (position_or_len p xs) 0) ≡ true
found p [] l = absurd (omega (arith, l))
found p (x ∷ xs) l = go (p x) refl l (λ k. found p xs k)
  where
    go : (b : Bool) → p x ≡ b → cond (not b) (1 + position_or_len p xs) 0 < length (x ∷ xs) → (position_or_len p xs < length xs → p (get_or xs (position_or_len p xs) 0) ≡ true) → p (get_or (x ∷ xs) (cond (not b) (1 + position_or_len p xs) 0) 0) ≡ true
    go true e few more = e
    go false e few more =
        let step : suc (position_or_len p xs) ≡ 1 + position_or_len p xs = omega arith in
        subst (λ (i : ℕ). p (get_or (x ∷ xs) i 0) ≡ true) step (more (omega (arith, few)))

-- a number of a queue is that of its place
number_is : (ids : List ℕ) (q : ℕ) → number_in ids q < length ids → number_in ids q ≡ position_or_len (λ other. other == q) ids
number_is ids q few = go (position_or_len (λ other. other == q) ids) (length ids) few
  where
    go : (i n : ℕ) → unwrap_or (cond (nat_lt i n) (Some i) None) n < n → unwrap_or (cond (nat_lt i n) (Some i) None) n ≡ i
    go i n less =
        ⊎_elim (λ (l : i < n). ap (λ (b : Bool). unwrap_or (cond b (Some i) None) n) (lt-ltb i n l))
        (λ (l : n ≤ i).
        let past : n < n = subst (λ (b : Bool). unwrap_or (cond b (Some i) None) n < n) (le-ltb i n l) less in
        absurd (omega (arith, past)))
        (cases_lt i n)

-- the queue with that number
queue_is : (ids : List ℕ) (q : ℕ) → number_in ids q < length ids → get_or ids (number_in ids q) 0 ≡ q
queue_is ids q few =
    let is = number_is ids q few in
    eqb-true (get_or ids (number_in ids q) 0) q
    (subst (λ (i : ℕ). (get_or ids i 0 == q) ≡ true) (sym is) (found (λ other. other == q) ids (subst (λ (i : ℕ). i < length ids) is few)))

-- so numbers tell queues
pub numbers_tell_queues : (ids : List ℕ) (p q : ℕ) → number_in ids p < length ids → number_in ids q < length ids → number_in ids p ≡ number_in ids q → p ≡ q
numbers_tell_queues ids p q lp lq e = sym (queue_is ids p lp) ∙ (ap (λ (i : ℕ). get_or ids i 0) e ∙ queue_is ids q lq)

-- ---- places

-- a processor is one of sixteen
abbrev pub IsSmall : Option ℕ → Type 0
IsSmall None = Unit {0}
IsSmall (Some c) = c < 16

-- a task that waits does so in a queue with a number
abbrev pub IsKnown : List ℕ → Option Entry → Type 0
IsKnown ids None = Unit {0}
IsKnown ids (Some e) = number_in ids e.queue < length ids

-- on which processor a task runs
pub place_tells_cpu : (ids : List ℕ) (c d : Option ℕ) (e f : Option Entry) → IsSmall c → IsSmall d → place_of ids c e ≡ place_of ids d f → c ≡ d
place_tells_cpu ids None None e f lc ld same = refl
place_tells_cpu ids (Some c) (Some d) e f lc ld same =
    let k : 1 + c % 16 ≡ 1 + d % 16 = same in
    let cs : c < 16 = lc in
    let ds : d < 16 = ld in
    let is : c ≡ d = omega (arith, k, cs, ds) in
    ap (λ (x : ℕ). Some x) is
place_tells_cpu ids (Some c) None e None lc ld same = let k : 1 + c % 16 ≡ 0 = same in absurd (omega (arith, k))
place_tells_cpu ids (Some c) None e (Some f) lc ld same = let k : 1 + c % 16 ≡ 17 + number_in ids f.queue = same in absurd (omega (arith, k))
place_tells_cpu ids None (Some d) None f lc ld same = let k : 0 ≡ 1 + d % 16 = same in absurd (omega (arith, k))
place_tells_cpu ids None (Some d) (Some e) f lc ld same = let k : 17 + number_in ids e.queue ≡ 1 + d % 16 = same in absurd (omega (arith, k))

-- true is so
abbrev IsSo : Bool → Type 0
IsSo true = Unit {0}
IsSo false = ⊥

apart_bits : true ≡ false → ⊥
apart_bits e = subst IsSo e tt

rank_told : (r q : Rank) → by_vtime_in r ≡ by_vtime_in q → key_of r ≡ key_of q → rank_left r ≡ rank_left q
rank_told Fifo Fifo b k = refl
rank_told Fifo Front b k = refl
rank_told Front Fifo b k = refl
rank_told Front Front b k = refl
rank_told (Vtime n) (Vtime m) b k = ap (λ (x : ℕ). Vtime x) k
rank_told Fifo (Vtime m) b k = absurd (apart_bits (sym b))
rank_told Front (Vtime m) b k = absurd (apart_bits (sym b))
rank_told (Vtime n) Fifo b k = absurd (apart_bits b)
rank_told (Vtime n) Front b k = absurd (apart_bits b)

-- in which queue, and how
pub place_tells_entry : (ids : List ℕ) (e f : Option Entry) → IsKnown ids e → IsKnown ids f → place_of ids None e ≡ place_of ids None f → is_by_vtime e ≡ is_by_vtime f → waiting_key e ≡ waiting_key f → option_map unnumbered e ≡ option_map unnumbered f
place_tells_entry ids None None le lf same b k = refl
place_tells_entry ids None (Some f) le lf same b k = let is : 0 ≡ 17 + number_in ids f.queue = same in absurd (omega (arith, is))
place_tells_entry ids (Some e) None le lf same b k = let is : 17 + number_in ids e.queue ≡ 0 = same in absurd (omega (arith, is))
place_tells_entry ids (Some e) (Some f) le lf same b k =
    let numbers : 17 + number_in ids e.queue ≡ 17 + number_in ids f.queue = same in
    let number : number_in ids e.queue ≡ number_in ids f.queue = omega (arith, numbers) in
    let queue = numbers_tell_queues ids e.queue f.queue le lf number in
    let rank = rank_told e.rank f.rank b k in
    λ i. Some (record { queue = queue i; rank = rank i; stamp = 0 })
