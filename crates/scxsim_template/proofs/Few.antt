-- A task has few pieces.
use Rattle.std.proofs.Common.{◌≡◌, ℕ, suc, ◌+◌, ◌-◌, ◌*◌, ◌/◌, ◌^◌, ◌<◌, ◌≤◌, max, Bool, true, false, if◌then◌else◌, List, [], ◌∷◌, ◌++◌, length, sum_by, All, None, Some, refl, ap, subst, ◌∙◌, arith}
use Rattle.std.specs.Prelude.{nat_lt, slice_index_or}
use Rattle.std.proofs.lemmas.Bool.{ltb-true}
use Rattle.std.proofs.lemmas.List.Elements.{All-head, All-tail}
use Rattle.std.proofs.lemmas.List.Sums.{sum_by-cons}
use Rattle.std.proofs.Math.Nat.{suc-mul, one-mul, zero-mul, add-mul, mul-add, mul_comm, mul_assoc, lt-mul-div-succ, lt_of_mul-lt-mul_right}
use Rattle.scxsim_template.specs.declared.stretches.Stretch.{Stretch}
use Rattle.scxsim_template.specs.declared.pieces.Piece.{Piece}
use Rattle.scxsim_template.specs.declared.pieces.Piece.TheVariants.{One, Several}
use Rattle.scxsim_template.specs.Pieces.{at_most_64_bits, moment_of, AreInOrder, joined_of, joined, parted, listed, pieces_from, shortest_width, pieces_of_all}

-- one piece more
one_more : (n k a b u v until : ℕ) → n * k + (b + v) ≤ 2 * until + k → a + k ≤ v → u ≤ b → suc n * k + (a + u) ≤ 2 * until + k
one_more n k a b u v until before long after = rw (suc-mul n k) (omega (arith, before, long, after))

alone : (k a u until : ℕ) → a ≤ u → u ≤ until → 1 * k + (a + u) ≤ 2 * until + k
alone k a u until order last = rw (one-mul k) (omega (arith, order, last))

-- the pieces from one on, which goes from `a` to `u`
few_from : (width until : ℕ) (rest : List Stretch) (p : Piece) (a u : ℕ) → (joined_of p).since ≡ a → a ≤ u → AreInOrder u until rest
    → length (pieces_from width (Some p) rest) * (width + 1) + (a + u) ≤ 2 * until + (width + 1)
few_from width until [] p a u since order last = alone (width + 1) a u until order last
few_from width until (t ∷ ts) p a u since order (after, some, rest) =
    go (nat_lt width (moment_of t.until - (joined_of p).since)) refl (few_from width until ts (One t) (moment_of t.since) (moment_of t.until) refl some rest)
    (few_from width until ts (Several (joined (joined_of p) t)) a (moment_of t.until) since (omega (arith, order, after, some)) rest)
  where
    go : (b : Bool) → nat_lt width (moment_of t.until - (joined_of p).since) ≡ b
        → length (pieces_from width (Some (One t)) ts) * (width + 1) + (moment_of t.since + moment_of t.until) ≤ 2 * until + (width + 1)
        → length (pieces_from width (Some (Several (joined (joined_of p) t))) ts) * (width + 1) + (a + moment_of t.until) ≤ 2 * until + (width + 1)
        → length (listed (parted p t (if b then None else Some (Several (joined (joined_of p) t)))).0 ++ pieces_from width (Some (parted p t (if b then None else Some (Several (joined (joined_of p) t)))).1) ts) * (width + 1) + (a + u) ≤ 2 * until + (width + 1)
    go true e apart both =
        let long : width < moment_of t.until - (joined_of p).since = ltb-true _ _ e in
        one_more (length (pieces_from width (Some (One t)) ts)) (width + 1) a (moment_of t.since) u (moment_of t.until) until
        apart (omega (arith, long, since)) after
    go false e apart both = omega (arith, both, after, some)

pub are_few : (width from until : ℕ) (ss : List Stretch) → AreInOrder from until ss
    → length (pieces_from width None ss) * (width + 1) ≤ 2 * (until - from) + (width + 1)
are_few width from until [] order = omega arith
are_few width from until (s ∷ ss) (after, some, rest) =
    let all : length (pieces_from width (Some (One s)) ss) * (width + 1) + (moment_of s.since + moment_of s.until) ≤ 2 * until + (width + 1)
    = few_from width until ss (One s) (moment_of s.since) (moment_of s.until) refl some rest in
    omega (arith, all, after, some)

-- a sum of numbers, each at most `b` times
sum_times : {A : Type 0} (f : A → ℕ) (k b : ℕ) (xs : List A) → All (λ x. f x * k ≤ b) xs → sum_by f xs * k ≤ length xs * b
sum_times f k b [] all = rw (zero-mul k, zero-mul b) (omega arith)
sum_times f k b (x ∷ xs) all =
    let first : f x * k ≤ b = All-head (λ y. f y * k ≤ b) x xs all in
    let rest : sum_by f xs * k ≤ length xs * b = sum_times f k b xs (All-tail (λ y. f y * k ≤ b) x xs all) in
    rw (sum_by-cons f x xs, add-mul (f x) (sum_by f xs) k, suc-mul (length xs) b) (omega (arith, first, rest))

-- with a width that is that long
enough : (tasks span most pieces width : ℕ) → tasks < most → width ≡ span * tasks * 2 / (most - tasks) → pieces * (width + 1) ≤ tasks * (2 * span + (width + 1)) → pieces < most
enough tasks span most pieces width few is bound =
    let some : 0 < most - tasks = omega (arith, few) in
    let large : span * tasks * 2 < (most - tasks) * (width + 1) = rw is (lt-mul-div-succ (span * tasks * 2) some) in
    let twice : tasks * (2 * span) ≡ span * tasks * 2 = mul_comm tasks (2 * span) ∙ mul_assoc 2 span tasks ∙ mul_comm 2 (span * tasks) in
    let parts : tasks * (2 * span + (width + 1)) ≡ tasks * (2 * span) + tasks * (width + 1) = mul-add tasks (2 * span) (width + 1) in
    let whole : ((most - tasks) + tasks) * (width + 1) ≡ (most - tasks) * (width + 1) + tasks * (width + 1) = add-mul (most - tasks) tasks (width + 1) in
    let all : (most - tasks) + tasks ≡ most = omega (arith, few) in
    let below : pieces * (width + 1) < ((most - tasks) + tasks) * (width + 1) = omega (arith, bound, large, twice, parts, whole) in
    subst (λ n. pieces < n) all (lt_of_mul-lt-mul_right (width + 1) below)

-- the width of a page
exactly : (tasks span most : ℕ) → tasks < most → span * tasks * 2 < 2 ^ 64 → shortest_width tasks span most ≡ span * tasks * 2 / (most - tasks)
exactly tasks span most few small =
    let once : at_most_64_bits (span * tasks) ≡ span * tasks = omega (arith, small) in
    let twice : at_most_64_bits (span * tasks * 2) ≡ span * tasks * 2 = omega (arith, small) in
    let rest : max (most - tasks) 1 ≡ most - tasks = omega (arith, few) in
    ap (λ n. at_most_64_bits (n * 2) / max (most - tasks) 1) once ∙ ap (λ n. n / max (most - tasks) 1) twice ∙ ap (λ n. span * tasks * 2 / n) rest

pub fit : (from until most : ℕ) (all : List (List Stretch)) → All (AreInOrder from until) all → length all < most → (until - from) * length all * 2 < 2 ^ 64
    → pieces_of_all (shortest_width (length all) (until - from) most) all < most
fit from until most all order few small =
    enough (length all) (until - from) most (pieces_of_all width all) width few (exactly (length all) (until - from) most few small)
    (sum_times (λ ss. length (pieces_from width None ss)) (width + 1) (2 * (until - from) + (width + 1)) all (λ k d within. are_few width from until (slice_index_or all k d) (order k d within)))
  where
    width : ℕ
    width = shortest_width (length all) (until - from) most
