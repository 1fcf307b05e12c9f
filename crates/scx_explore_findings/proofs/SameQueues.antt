-- Calls on queues give the same answers, and the same queues after them, whatever the order numbers of pushes are.
use Rattle.std.proofs.Common.{◌≡◌, ℕ, zero, suc, ◌+◌, ◌<◌, ◌≤◌, ◌<ℤ◌, ◌≤ℤ◌, ℤ, pos, negsuc, int_lt, nat_lt, Bool, true, false, cond, not, ◌==◌, ◌&&◌, ◌||◌, List, [], ◌∷◌, length, set, get_or, count_by, position, Option, Some, None, is_some, is_none, option_map, if◌then◌else◌, refl, sym, ap, ◌∙◌, subst, arith, ⊎_elim}
use Rattle.std.specs.List.{list_any, list_all, position_or_len}
use Rattle.std.proofs.lemmas.Bool.{eqb-true, eq-eqb, ne_eqb, lt-ltb, le-ltb, cases_eq, cases_lt}
use Rattle.std.proofs.lemmas.Int.{ints}
use Rattle.std.proofs.lemmas.List.{get_or-set_same, get_or-set_other, length-set, set_past}
use Rattle.std.proofs.lemmas.List.Sums.{sum_by-cons}
use Rattle.scx_dsq.specs.declared.entries.Entry.{Entry}
use Rattle.scx_dsq.specs.declared.entries.Rank.{Rank}
use Rattle.scx_dsq.specs.declared.entries.Rank.TheVariants.{Fifo, Front, Vtime}
use Rattle.scx_dsq.specs.declared.errors.QueueError.{QueueError}
use Rattle.scx_dsq.specs.declared.errors.QueueError.TheVariants.{NoSuchQueue, AlreadyThere, Mixed}
use Rattle.scx_dsq.specs.Entries.{key_of, same_sort, turn_by, turn, is_before}
use Rattle.scx_dsq.specs.Queues.{QueueState, Entries, exists, entry_at, entry_of, queue_of, is_in, len_of, is_ahead, is_first, front_of, entries_of, only, is_behind, is_right_behind, next_by, right_behind, behind_of}
use Rattle.scx_dsq.specs.Calls.{create_refusal, with_queue, after_create, clashes, push_refusal, next_entry, with_task, after_push, without_task, after_remove, without, after_pop}
use Rattle.scx_dsq.specs.Laws.{IsStamped}
use Rattle.scx_explore_findings.specs.QueueOrder.{rank_left, unnumbered, leads, AreAsQueues}

-- none is no entry
abbrev IsNone : Option Entry → Type 0
IsNone None = Unit {0}
IsNone (Some p) = ⊥

pub none_is_none : (p : Entry) → None ≡ Some p → ⊥
none_is_none p e = subst IsNone e tt

-- ---- two lists, element by element

both_and : (a b c d : Bool) → a ≡ b → c ≡ d → (a && c) ≡ (b && d)
both_and a b c d e f = ap (λ x. x && c) e ∙ ap (λ x. b && x) f

-- if the first of two tests fails, the second one isn't read
and_where : (a b c : Bool) → (a ≡ true → b ≡ c) → (a && b) ≡ (a && c)
and_where true b c e = e refl
and_where false b c e = refl

module _ (p q : Option Entry → Bool) where
  -- the same test holds at each place of both
  abbrev Alike : Entries → Entries → Type 0
  Alike xs ys = (k : ℕ) → p (get_or xs k None) ≡ q (get_or ys k None)

  alike_rest : (x y : Option Entry) (xs ys : Entries) → Alike (x ∷ xs) (y ∷ ys) → Alike xs ys
  alike_rest x y xs ys e k = e (suc k)

  all_alike : (xs ys : Entries) → length xs ≡ length ys → Alike xs ys → list_all p xs ≡ list_all q ys
  all_alike [] [] n e = refl
  all_alike [] (y ∷ ys) n e = absurd (omega (arith, n))
  all_alike (x ∷ xs) [] n e = absurd (omega (arith, n))
  all_alike (x ∷ xs) (y ∷ ys) n e = both_and (p x) (q y) (list_all p xs) (list_all q ys) (e 0) (all_alike xs ys (omega (arith, n)) (alike_rest x y xs ys e))

  any_alike : (xs ys : Entries) → length xs ≡ length ys → Alike xs ys → list_any p xs ≡ list_any q ys
  any_alike [] [] n e = refl
  any_alike [] (y ∷ ys) n e = absurd (omega (arith, n))
  any_alike (x ∷ xs) [] n e = absurd (omega (arith, n))
  any_alike (x ∷ xs) (y ∷ ys) n e =
      ap (λ b. b || list_any p xs) (e 0) ∙ ap (λ b. q y || b) (any_alike xs ys (omega (arith, n)) (alike_rest x y xs ys e))

  count_alike : (xs ys : Entries) → length xs ≡ length ys → Alike xs ys → count_by p xs ≡ count_by q ys
  count_alike [] [] n e = refl
  count_alike [] (y ∷ ys) n e = absurd (omega (arith, n))
  count_alike (x ∷ xs) [] n e = absurd (omega (arith, n))
  count_alike (x ∷ xs) (y ∷ ys) n e =
      sum_by-cons (λ o. cond (p o) 1 0) x xs
      ∙ (ap (λ b. cond b 1 0 + count_by p xs) (e 0)
      ∙ (ap (λ i. cond (q y) 1 0 + i) (count_alike xs ys (omega (arith, n)) (alike_rest x y xs ys e))
      ∙ sym (sum_by-cons (λ o. cond (q o) 1 0) y ys)))

  place_alike : (xs ys : Entries) → length xs ≡ length ys → Alike xs ys → position_or_len p xs ≡ position_or_len q ys
  place_alike [] [] n e = refl
  place_alike [] (y ∷ ys) n e = absurd (omega (arith, n))
  place_alike (x ∷ xs) [] n e = absurd (omega (arith, n))
  place_alike (x ∷ xs) (y ∷ ys) n e =
      ap (λ b. cond (not b) (1 + position_or_len p xs) 0) (e 0)
      ∙ ap (λ i. cond (not (q y)) (1 + i) 0) (place_alike xs ys (omega (arith, n)) (alike_rest x y xs ys e))

  -- the first element that passes is at the same index of both
  first_alike : (xs ys : Entries) → length xs ≡ length ys → Alike xs ys → position p xs ≡ position q ys
  first_alike xs ys n e =
      ap (λ i. cond (nat_lt i (length xs)) (Some i) None) (place_alike xs ys n e)
      ∙ ap (λ l. cond (nat_lt (position_or_len q ys) l) (Some (position_or_len q ys)) None) n

-- ---- facts that the place of a task tells

in_told : (id : ℕ) (o : Option Entry) → is_in id o ≡ is_in id (option_map unnumbered o)
in_told id None = refl
in_told id (Some p) = refl

some_told : (o : Option Entry) → is_some o ≡ is_some (option_map unnumbered o)
some_told None = refl
some_told (Some p) = refl

queue_told : (o : Option Entry) → option_map (λ (p : Entry). p.queue) o ≡ option_map (λ (p : Entry). p.queue) (option_map unnumbered o)
queue_told None = refl
queue_told (Some p) = refl

sort_left : (r s : Rank) → same_sort (rank_left r) s ≡ same_sort r s
sort_left Fifo Fifo = refl
sort_left Fifo Front = refl
sort_left Fifo (Vtime k) = refl
sort_left Front Fifo = refl
sort_left Front Front = refl
sort_left Front (Vtime k) = refl
sort_left (Vtime l) Fifo = refl
sort_left (Vtime l) Front = refl
sort_left (Vtime l) (Vtime k) = refl

clashes_told : (id : ℕ) (r : Rank) (o : Option Entry) → clashes id r o ≡ clashes id r (option_map unnumbered o)
clashes_told id r None = refl
clashes_told id r (Some p) = ap (λ b. is_in id (Some p) && not b) (sym (sort_left p.rank r))

-- ---- tests for the order of two tasks

leads_in : (id : ℕ) (p : Entry) → p.queue ≡ id → (other : Option Entry) → is_ahead id p other ≡ leads other (Some p)
leads_in id p e None = refl
leads_in id p e (Some q) = ap (λ i. q.queue == i && is_before q p) (sym e)

all_again : (f g : Option Entry → Bool) → ((o : Option Entry) → f o ≡ g o) → (es : Entries) → list_all f es ≡ list_all g es
all_again f g e [] = refl
all_again f g e (o ∷ es) = both_and (f o) (g o) (list_all f es) (list_all g es) (e o) (all_again f g e es)

first_by_order : (es : Entries) (id : ℕ) (o : Option Entry) → is_first es id o ≡ (is_in id o && list_all (λ other. not (leads other o)) es)
first_by_order es id None = refl
first_by_order es id (Some p) =
    and_where (p.queue == id) (list_all (λ other. not (is_ahead id p other)) es) (list_all (λ other. not (leads other (Some p))) es)
    (λ e. all_again (λ other. not (is_ahead id p other)) (λ other. not (leads other (Some p))) (λ other. ap not (leads_in id p (eqb-true p.queue id e) other)) es)

swapped : (a b : ℕ) → (a == b) ≡ (b == a)
swapped a b = ⊎_elim (λ (e : a ≡ b). eq-eqb a b e ∙ sym (eq-eqb b a (sym e))) (λ n. ne_eqb a b n ∙ sym (ne_eqb b a (λ e. n (sym e)))) (cases_eq a b)

behind_leads : (p : Entry) (other : Option Entry) → is_behind p other ≡ leads (Some p) other
behind_leads p None = refl
behind_leads p (Some q) = ap (λ b. b && is_before p q) (swapped q.queue p.queue)

-- an entry is between two
abbrev between : Option Entry → Option Entry → Option Entry → Bool
between o x other = leads o other && leads other x

right_behind_by_order : (es : Entries) (p : Entry) (x : Option Entry) → is_right_behind es p x ≡ (leads (Some p) x && list_all (λ other. not (between (Some p) x other)) es)
right_behind_by_order es p None = refl
right_behind_by_order es p (Some q) =
    ap (λ b. b && list_all (λ other. not (is_behind p other && is_ahead p.queue q other)) es) (behind_leads p (Some q))
    ∙ and_where (leads (Some p) (Some q)) (list_all (λ other. not (is_behind p other && is_ahead p.queue q other)) es) (list_all (λ other. not (between (Some p) (Some q) other)) es)
    (λ e. all_again (λ other. not (is_behind p other && is_ahead p.queue q other)) (λ other. not (between (Some p) (Some q) other))
    (λ other. ap not (both_and (is_behind p other) (leads (Some p) other) (is_ahead p.queue q other) (leads other (Some q)) (behind_leads p other) (leads_in p.queue q (sym (one_queue p q e)) other))) es)
  where
    one_queue : (p q : Entry) → leads (Some p) (Some q) ≡ true → p.queue ≡ q.queue
    one_queue p q e = eqb-true p.queue q.queue (left_true (p.queue == q.queue) (is_before p q) e)
      where
        left_true : (a b : Bool) → (a && b) ≡ true → a ≡ true
        left_true true b e = refl
        left_true false b e = e

-- the tasks after one in order of arrival
next_left : (r : Rank) (es : Entries) (p : Entry) → next_by r es p ≡ next_by (rank_left r) es p
next_left Fifo es p = refl
next_left Front es p = refl
next_left (Vtime k) es p = refl

-- ---- the order of a new push

not_before_itself : (p : Entry) → is_before p p ≡ false
not_before_itself p = go (le-ltb (key_of p.rank) (key_of p.rank) (omega arith)) (ap (λ b. b) (int_itself (turn p)))
  where
    int_itself : (z : ℤ) → int_lt z z ≡ false
    int_itself z = cases (int_lt z z) refl
      where
        cases : (b : Bool) → int_lt z z ≡ b → int_lt z z ≡ false
        cases false e = e
        cases true e = absurd (omega (arith, ints, e))

    go : nat_lt (key_of p.rank) (key_of p.rank) ≡ false → int_lt (turn p) (turn p) ≡ false → is_before p p ≡ false
    go e f = ap (λ b. b || (key_of p.rank == key_of p.rank && int_lt (turn p) (turn p))) e ∙ ap (λ b. key_of p.rank == key_of p.rank && b) f ∙ none (key_of p.rank == key_of p.rank)
      where
        none : (b : Bool) → (b && false) ≡ false
        none true = refl
        none false = refl

int_is_false : (a b : ℤ) → b ≤ℤ a → int_lt a b ≡ false
int_is_false a b l = go (int_lt a b) refl
  where
    go : (c : Bool) → int_lt a b ≡ c → int_lt a b ≡ false
    go false e = e
    go true e = absurd (omega (arith, ints, e, l))

int_is_true : (a b : ℤ) → a <ℤ b → int_lt a b ≡ true
int_is_true a b l = go (int_lt a b) refl
  where
    go : (c : Bool) → int_lt a b ≡ c → int_lt a b ≡ true
    go true e = e
    go false e = absurd (omega (arith, ints, e, l))

-- a push to the front
abbrev in_front : Rank → Bool
in_front Fifo = false
in_front Front = true
in_front (Vtime k) = false

-- the turn of a push compared with that of one before it
turn_of_new : (r x : Rank) (n k : ℕ) → k < n → int_lt (turn_by r n) (turn_by x k) ≡ in_front r
turn_of_new Fifo Fifo n k l = int_is_false (pos n) (pos k) (omega (arith, ints, l))
turn_of_new Fifo Front n k l = int_is_false (pos n) (negsuc k) (omega (arith, ints, l))
turn_of_new Fifo (Vtime j) n k l = int_is_false (pos n) (pos k) (omega (arith, ints, l))
turn_of_new Front Fifo n k l = int_is_true (negsuc n) (pos k) (omega (arith, ints, l))
turn_of_new Front Front n k l = int_is_true (negsuc n) (negsuc k) (omega (arith, ints, l))
turn_of_new Front (Vtime j) n k l = int_is_true (negsuc n) (pos k) (omega (arith, ints, l))
turn_of_new (Vtime i) Fifo n k l = int_is_false (pos n) (pos k) (omega (arith, ints, l))
turn_of_new (Vtime i) Front n k l = int_is_false (pos n) (negsuc k) (omega (arith, ints, l))
turn_of_new (Vtime i) (Vtime j) n k l = int_is_false (pos n) (pos k) (omega (arith, ints, l))

turn_of_old : (r x : Rank) (n k : ℕ) → k < n → int_lt (turn_by x k) (turn_by r n) ≡ not (in_front r)
turn_of_old Fifo Fifo n k l = int_is_true (pos k) (pos n) (omega (arith, ints, l))
turn_of_old Fifo Front n k l = int_is_true (negsuc k) (pos n) (omega (arith, ints, l))
turn_of_old Fifo (Vtime j) n k l = int_is_true (pos k) (pos n) (omega (arith, ints, l))
turn_of_old Front Fifo n k l = int_is_false (pos k) (negsuc n) (omega (arith, ints, l))
turn_of_old Front Front n k l = int_is_false (negsuc k) (negsuc n) (omega (arith, ints, l))
turn_of_old Front (Vtime j) n k l = int_is_false (pos k) (negsuc n) (omega (arith, ints, l))
turn_of_old (Vtime i) Fifo n k l = int_is_true (pos k) (pos n) (omega (arith, ints, l))
turn_of_old (Vtime i) Front n k l = int_is_true (negsuc k) (pos n) (omega (arith, ints, l))
turn_of_old (Vtime i) (Vtime j) n k l = int_is_true (pos k) (pos n) (omega (arith, ints, l))

-- by the keys alone
abbrev first_by_keys : ℕ → ℕ → Bool → Bool
first_by_keys k l b = nat_lt k l || (k == l && b)

new_before : (s : QueueState) (id : ℕ) (r : Rank) (p : Entry) → p.stamp < s.pushes → is_before (next_entry s id r) p ≡ first_by_keys (key_of r) (key_of p.rank) (in_front r)
new_before s id r p l = ap (λ b. first_by_keys (key_of r) (key_of p.rank) b) (turn_of_new r p.rank s.pushes p.stamp l)

old_before : (s : QueueState) (id : ℕ) (r : Rank) (p : Entry) → p.stamp < s.pushes → is_before p (next_entry s id r) ≡ first_by_keys (key_of p.rank) (key_of r) (not (in_front r))
old_before s id r p l = ap (λ b. first_by_keys (key_of p.rank) (key_of r) b) (turn_of_old r p.rank s.pushes p.stamp l)

key_left : (r : Rank) → key_of (rank_left r) ≡ key_of r
key_left Fifo = refl
key_left Front = refl
key_left (Vtime k) = refl

-- the entry, if there is one
abbrev entry_or : Entry → Option Entry → Entry
entry_or d None = d
entry_or d (Some p) = p

module _ (p q : Entry) (e : option_map unnumbered (Some p) ≡ option_map unnumbered (Some q)) where
  told_entry : unnumbered p ≡ unnumbered q
  told_entry = ap (entry_or (unnumbered p)) e

  pub told_queue : p.queue ≡ q.queue
  told_queue = ap (λ (x : Entry). x.queue) told_entry

  told_rank : rank_left p.rank ≡ rank_left q.rank
  told_rank = ap (λ (x : Entry). x.rank) told_entry

  told_key : key_of p.rank ≡ key_of q.rank
  told_key = sym (key_left p.rank) ∙ (ap key_of told_rank ∙ key_left q.rank)

one_more : (n k : ℕ) → n ≡ k → k < n + 1
one_more n k e = omega (arith, e)

still_less : (k n : ℕ) → k < n → k < n + 1
still_less k n l = omega (arith, l)

leads_none : (o : Option Entry) → leads o None ≡ false
leads_none None = refl
leads_none (Some p) = refl

-- ---- entries of some tasks alone, and with that of one task changed

none_either : (b : Bool) → None ≡ cond {A = Option Entry} b None None
none_either true = refl
none_either false = refl

among : (p : ℕ → Bool) (n : ℕ) (entries : Entries) (t : ℕ) → entry_at (entries_of p n entries) t ≡ cond (p (n + t)) (entry_at entries t) None
among p n [] t = none_either (p (n + t))
among p n (e ∷ entries) zero = let same : n + 0 ≡ n = omega arith in rw same refl
among p n (e ∷ entries) (suc t) = let same : n + suc t ≡ suc n + t = omega arith in rw same (among p (suc n) entries t)

of_only : (p : ℕ → Bool) (s : QueueState) (t : ℕ) → entry_of (only p s) t ≡ cond (p t) (entry_of s t) None
of_only p s t =
    let same : 0 + t ≡ t = omega arith in
    subst (λ n. entry_at (entries_of p 0 s.entries) t ≡ cond (p n) (entry_at s.entries t) None) same (among p 0 s.entries t)

as_long : (p : ℕ → Bool) (n : ℕ) (entries : Entries) → length (entries_of p n entries) ≡ length entries
as_long p n [] = refl
as_long p n (e ∷ entries) = ap suc (as_long p (suc n) entries)

-- the task is there, and it is that one
abbrev is_one : Entries → ℕ → ℕ → Bool
is_one es t u = nat_lt t (length es) && (u == t)

set_reads : (es : Entries) (t : ℕ) (o : Option Entry) (u : ℕ) → entry_at (set es t o) u ≡ cond (is_one es t u) o (entry_at es u)
set_reads es t o u = ⊎_elim inside outside (cases_lt t (length es))
  where
    by : (b : Bool) → is_one es t u ≡ b → cond b o (entry_at es u) ≡ cond (is_one es t u) o (entry_at es u)
    by b e = ap (λ c. cond c o (entry_at es u)) (sym e)

    here : t < length es → u ≡ t → entry_at (set es t o) u ≡ cond (is_one es t u) o (entry_at es u)
    here l e = ap (λ i. entry_at (set es t o) i) e ∙ (get_or-set_same es t o None l ∙ by true (both_and (nat_lt t (length es)) true (u == t) true (lt-ltb t (length es) l) (eq-eqb u t e)))

    other : t < length es → (u ≡ t → ⊥) → entry_at (set es t o) u ≡ cond (is_one es t u) o (entry_at es u)
    other l n = get_or-set_other es t u o None n ∙ by false (both_and (nat_lt t (length es)) true (u == t) false (lt-ltb t (length es) l) (ne_eqb u t n))

    inside : t < length es → entry_at (set es t o) u ≡ cond (is_one es t u) o (entry_at es u)
    inside l = ⊎_elim (here l) (other l) (cases_eq u t)

    outside : length es ≤ t → entry_at (set es t o) u ≡ cond (is_one es t u) o (entry_at es u)
    outside l = ap (λ xs. entry_at xs u) (set_past es t o l) ∙ by false (ap (λ b. b && (u == t)) (le-ltb t (length es) l))

choose_places : (b c : Bool) (o o' x x' : Option Entry) → b ≡ c → option_map unnumbered o ≡ option_map unnumbered o' → option_map unnumbered x ≡ option_map unnumbered x' → option_map unnumbered (cond b o x) ≡ option_map unnumbered (cond c o' x')
choose_places b c o o' x x' e f g = subst (λ d. option_map unnumbered (cond b o x) ≡ option_map unnumbered (cond d o' x')) e (go b)
  where
    go : (d : Bool) → option_map unnumbered (cond d o x) ≡ option_map unnumbered (cond d o' x')
    go true = f
    go false = g

-- the order of two tasks by two choices
choose_order : (b c : Bool) (n n' x x' y y' : Option Entry) → leads n n ≡ leads n' n' → leads n y ≡ leads n' y' → leads x n ≡ leads x' n' → leads x y ≡ leads x' y' → leads (cond b n x) (cond c n y) ≡ leads (cond b n' x') (cond c n' y')
choose_order true true n n' x x' y y' a d e f = a
choose_order true false n n' x x' y y' a d e f = d
choose_order false true n n' x x' y y' a d e f = e
choose_order false false n n' x x' y y' a d e f = f

-- one of two states of each, by the same test
pub choose_same : (b c : Bool) (x x' y y' : QueueState) → b ≡ c → AreAsQueues x x' → AreAsQueues y y' → AreAsQueues (cond b x y) (cond c x' y')
choose_same b c x x' y y' e f g = subst (λ d. AreAsQueues (cond b x y) (cond d x' y')) e (go b)
  where
    go : (d : Bool) → AreAsQueues (cond d x y) (cond d x' y')
    go true = f
    go false = g

-- ---- two states that are the same but for order numbers

module _ (s t : QueueState) (h : AreAsQueues s t) where
  -- each task is in the same queue
  pub queue_same : (u : ℕ) → queue_of s u ≡ queue_of t u
  queue_same u = queue_told (entry_of s u) ∙ (ap (option_map (λ (p : Entry). p.queue)) (h.places u) ∙ sym (queue_told (entry_of t u)))

  -- a task is in that queue, if it is there in the other state
  pub in_same : (id u : ℕ) → is_in id (entry_of s u) ≡ is_in id (entry_of t u)
  in_same id u = in_told id (entry_of s u) ∙ (ap (is_in id) (h.places u) ∙ sym (in_told id (entry_of t u)))

  some_same : (u : ℕ) → is_some (entry_of s u) ≡ is_some (entry_of t u)
  some_same u = some_told (entry_of s u) ∙ (ap (λ (o : Option Entry). is_some o) (h.places u) ∙ sym (some_told (entry_of t u)))

  clashes_same : (id : ℕ) (r : Rank) (u : ℕ) → clashes id r (entry_of s u) ≡ clashes id r (entry_of t u)
  clashes_same id r u = clashes_told id r (entry_of s u) ∙ (ap (clashes id r) (h.places u) ∙ sym (clashes_told id r (entry_of t u)))

  -- the same queues are there
  pub exists_same : (id : ℕ) → exists s id ≡ exists t id
  exists_same id = ap (λ (ids : List ℕ). list_any (λ other. other == id) ids) h.ids

  -- tasks of the other sort wait in a queue of both or of none
  pub any_clash_same : (id : ℕ) (r : Rank) → list_any (clashes id r) s.entries ≡ list_any (clashes id r) t.entries
  any_clash_same id r = any_alike (clashes id r) (clashes id r) s.entries t.entries h.tasks (λ k. clashes_same id r k)

  -- as many tasks wait in a queue
  pub len_same : (id : ℕ) → len_of s id ≡ len_of t id
  len_same id = count_alike (is_in id) (is_in id) s.entries t.entries h.tasks (λ k. in_same id k)

  first_same_at : (id u : ℕ) → is_first s.entries id (entry_of s u) ≡ is_first t.entries id (entry_of t u)
  first_same_at id u =
      first_by_order s.entries id (entry_of s u)
      ∙ (both_and (is_in id (entry_of s u)) (is_in id (entry_of t u)) (list_all (λ other. not (leads other (entry_of s u))) s.entries) (list_all (λ other. not (leads other (entry_of t u))) t.entries) (in_same id u)
      (all_alike (λ other. not (leads other (entry_of s u))) (λ other. not (leads other (entry_of t u))) s.entries t.entries h.tasks (λ k. ap not (h.order k u)))
      ∙ sym (first_by_order t.entries id (entry_of t u)))

  -- the same task is the front
  pub front_same : (id : ℕ) → front_of s id ≡ front_of t id
  unfolding front_of
  front_same id = first_alike (is_first s.entries id) (is_first t.entries id) s.entries t.entries h.tasks (λ k. first_same_at id k)

  -- ---- the next task of a queue

  module _ (u : ℕ) (p q : Entry) (e : entry_of s u ≡ Some p) (f : entry_of t u ≡ Some q) where
    lead_same : (v : ℕ) → leads (Some p) (entry_of s v) ≡ leads (Some q) (entry_of t v)
    lead_same v = ap (λ o. leads o (entry_of s v)) (sym e) ∙ (h.order u v ∙ ap (λ o. leads o (entry_of t v)) f)

    between_same : (v k : ℕ) → between (Some p) (entry_of s v) (entry_of s k) ≡ between (Some q) (entry_of t v) (entry_of t k)
    between_same v k = both_and (leads (Some p) (entry_of s k)) (leads (Some q) (entry_of t k)) (leads (entry_of s k) (entry_of s v)) (leads (entry_of t k) (entry_of t v)) (lead_same k) (h.order k v)

    right_same : (v : ℕ) → is_right_behind s.entries p (entry_of s v) ≡ is_right_behind t.entries q (entry_of t v)
    right_same v =
        right_behind_by_order s.entries p (entry_of s v)
        ∙ (both_and (leads (Some p) (entry_of s v)) (leads (Some q) (entry_of t v)) (list_all (λ other. not (between (Some p) (entry_of s v) other)) s.entries) (list_all (λ other. not (between (Some q) (entry_of t v) other)) t.entries) (lead_same v)
        (all_alike (λ other. not (between (Some p) (entry_of s v) other)) (λ other. not (between (Some q) (entry_of t v) other)) s.entries t.entries h.tasks (λ k. ap not (between_same v k)))
        ∙ sym (right_behind_by_order t.entries q (entry_of t v)))

    place_same : position (is_right_behind s.entries p) s.entries ≡ position (is_right_behind t.entries q) t.entries
    place_same = first_alike (is_right_behind s.entries p) (is_right_behind t.entries q) s.entries t.entries h.tasks (λ k. right_same k)

    next_same : (r : Rank) → next_by r s.entries p ≡ next_by r t.entries q
    next_same Fifo = place_same
    next_same Front = place_same
    next_same (Vtime k) = refl

  behind_from : (u : ℕ) (o x : Option Entry) → entry_of s u ≡ o → entry_of t u ≡ x → option_map unnumbered o ≡ option_map unnumbered x → right_behind s.entries o ≡ right_behind t.entries x
  behind_from u None None e f g = refl
  behind_from u None (Some q) e f g = absurd (none_is_none (unnumbered q) g)
  behind_from u (Some p) None e f g = absurd (none_is_none (unnumbered p) (sym g))
  behind_from u (Some p) (Some q) e f g =
      next_left p.rank s.entries p
      ∙ (ap (λ r. next_by r s.entries p) (told_rank p q g)
      ∙ (next_same u p q e f (rank_left q.rank)
      ∙ sym (next_left q.rank t.entries q)))

  -- the next task after one is the same
  pub behind_same : (u : ℕ) → behind_of s u ≡ behind_of t u
  unfolding behind_of
  behind_same u = behind_from u (entry_of s u) (entry_of t u) refl refl (h.places u)

  -- ---- of some tasks alone

  only_stamped : (p : ℕ → Bool) (x : QueueState) → IsStamped x → IsStamped (only p x)
  only_stamped p x l u q e = go (p u) (sym (of_only p x u) ∙ e)
    where
      go : (b : Bool) → cond b (entry_of x u) None ≡ Some q → q.stamp < x.pushes
      go true f = l u q f
      go false f = absurd (none_is_none q f)

  only_order : (p : ℕ → Bool) (u v : ℕ) (b c : Bool) → leads (cond b (entry_of s u) None) (cond c (entry_of s v) None) ≡ leads (cond b (entry_of t u) None) (cond c (entry_of t v) None)
  only_order p u v true true = h.order u v
  only_order p u v true false = leads_none (entry_of s u) ∙ sym (leads_none (entry_of t u))
  only_order p u v false c = refl

  -- the same holds of some tasks alone
  pub only_same : (p : ℕ → Bool) → AreAsQueues (only p s) (only p t)
  only_same p = record {
    room = h.room;
    ids = h.ids;
    tasks = as_long p 0 s.entries ∙ (h.tasks ∙ sym (as_long p 0 t.entries));
    places = λ u.
        ap (option_map unnumbered) (of_only p s u)
        ∙ (choose_places (p u) (p u) (entry_of s u) (entry_of t u) None None refl (h.places u) refl
        ∙ ap (option_map unnumbered) (sym (of_only p t u)));
    order = λ u v.
        ap (λ o. leads o (entry_of (only p s) v)) (of_only p s u)
        ∙ (ap (λ o. leads (cond (p u) (entry_of s u) None) o) (of_only p s v)
        ∙ (only_order p u v (p u) (p v)
        ∙ (ap (λ o. leads (cond (p u) (entry_of t u) None) o) (sym (of_only p t v))
        ∙ ap (λ o. leads o (entry_of (only p t) v)) (sym (of_only p t u)))));
    stamped = only_stamped p s h.stamped;
    stamped_there = only_stamped p t h.stamped_there;
  }

  -- ---- with the entry of one task changed

  one_same : (u v : ℕ) → is_one s.entries u v ≡ is_one t.entries u v
  one_same u v = ap (λ n. nat_lt u n && (v == u)) h.tasks

  -- where the new entries are the same but for order numbers
  module _ (u : ℕ) (n n' : Option Entry) (place : option_map unnumbered n ≡ option_map unnumbered n') (itself : leads n n ≡ leads n' n') (ahead : (v : ℕ) → leads n (entry_of s v) ≡ leads n' (entry_of t v)) (behind : (v : ℕ) → leads (entry_of s v) n ≡ leads (entry_of t v) n') where
    set_places : (v : ℕ) → option_map unnumbered (entry_at (set s.entries u n) v) ≡ option_map unnumbered (entry_at (set t.entries u n') v)
    set_places v =
        ap (option_map unnumbered) (set_reads s.entries u n v)
        ∙ (choose_places (is_one s.entries u v) (is_one t.entries u v) n n' (entry_of s v) (entry_of t v) (one_same u v) place (h.places v)
        ∙ ap (option_map unnumbered) (sym (set_reads t.entries u n' v)))

    set_order : (v w : ℕ) → leads (entry_at (set s.entries u n) v) (entry_at (set s.entries u n) w) ≡ leads (entry_at (set t.entries u n') v) (entry_at (set t.entries u n') w)
    set_order v w =
        ap (λ o. leads o (entry_at (set s.entries u n) w)) (set_reads s.entries u n v)
        ∙ (ap (λ o. leads (cond (is_one s.entries u v) n (entry_of s v)) o) (set_reads s.entries u n w)
        ∙ (choose_order (is_one s.entries u v) (is_one s.entries u w) n n' (entry_of s v) (entry_of t v) (entry_of s w) (entry_of t w) itself (ahead w) (behind v) (h.order v w)
        ∙ (ap (λ b. leads (cond b n' (entry_of t v)) (cond (is_one s.entries u w) n' (entry_of t w))) (one_same u v)
        ∙ (ap (λ b. leads (cond (is_one t.entries u v) n' (entry_of t v)) (cond b n' (entry_of t w))) (one_same u w)
        ∙ (ap (λ o. leads (cond (is_one t.entries u v) n' (entry_of t v)) o) (sym (set_reads t.entries u n' w))
        ∙ ap (λ o. leads o (entry_at (set t.entries u n') w)) (sym (set_reads t.entries u n' v)))))))

    set_tasks : length (set s.entries u n) ≡ length (set t.entries u n')
    set_tasks = length-set s.entries u n ∙ (h.tasks ∙ sym (length-set t.entries u n'))

  -- ---- a push

  refused_by : Bool → Bool → Bool → Option QueueError
  refused_by a b c = if not a then Some NoSuchQueue else (if b then Some AlreadyThere else (if c then Some Mixed else None))

  pub push_refusal_same : (id u : ℕ) (r : Rank) → push_refusal s id u r ≡ push_refusal t id u r
  unfolding refused_by
  push_refusal_same id u r =
      ap (λ a. refused_by a (is_some (entry_of s u)) (list_any (clashes id r) s.entries)) (exists_same id)
      ∙ (ap (λ b. refused_by (exists t id) b (list_any (clashes id r) s.entries)) (some_same u)
      ∙ ap (λ c. refused_by (exists t id) (is_some (entry_of t u)) c) (any_clash_same id r))

  new_ahead : (id : ℕ) (r : Rank) (o x : Option Entry) → option_map unnumbered o ≡ option_map unnumbered x → ((p : Entry) → o ≡ Some p → p.stamp < s.pushes) → ((q : Entry) → x ≡ Some q → q.stamp < t.pushes) → leads (Some (next_entry s id r)) o ≡ leads (Some (next_entry t id r)) x
  new_ahead id r None None g l m = refl
  new_ahead id r None (Some q) g l m = absurd (none_is_none (unnumbered q) g)
  new_ahead id r (Some p) None g l m = absurd (none_is_none (unnumbered p) (sym g))
  new_ahead id r (Some p) (Some q) g l m =
      both_and (id == p.queue) (id == q.queue) (is_before (next_entry s id r) p) (is_before (next_entry t id r) q) (ap (λ i. id == i) (told_queue p q g))
      (new_before s id r p (l p refl) ∙ (ap (λ k. first_by_keys (key_of r) k (in_front r)) (told_key p q g) ∙ sym (new_before t id r q (m q refl))))

  new_behind : (id : ℕ) (r : Rank) (o x : Option Entry) → option_map unnumbered o ≡ option_map unnumbered x → ((p : Entry) → o ≡ Some p → p.stamp < s.pushes) → ((q : Entry) → x ≡ Some q → q.stamp < t.pushes) → leads o (Some (next_entry s id r)) ≡ leads x (Some (next_entry t id r))
  new_behind id r None None g l m = refl
  new_behind id r None (Some q) g l m = absurd (none_is_none (unnumbered q) g)
  new_behind id r (Some p) None g l m = absurd (none_is_none (unnumbered p) (sym g))
  new_behind id r (Some p) (Some q) g l m =
      both_and (p.queue == id) (q.queue == id) (is_before p (next_entry s id r)) (is_before q (next_entry t id r)) (ap (λ i. i == id) (told_queue p q g))
      (old_before s id r p (l p refl) ∙ (ap (λ k. first_by_keys k (key_of r) (not (in_front r))) (told_key p q g) ∙ sym (old_before t id r q (m q refl))))

  push_stamped : (x : QueueState) (id u : ℕ) (r : Rank) → IsStamped x → IsStamped (with_task x id u r)
  push_stamped x id u r l v q e = go (is_one x.entries u v) (sym (set_reads x.entries u (Some (next_entry x id r)) v) ∙ e)
    where
      go : (b : Bool) → cond b (Some (next_entry x id r)) (entry_of x v) ≡ Some q → q.stamp < x.pushes + 1
      go true f = one_more x.pushes q.stamp (ap (λ (o : Option Entry). (entry_or q o).stamp) f)
      go false f = still_less q.stamp x.pushes (l v q f)

  accepted_same : (id u : ℕ) (r : Rank) → AreAsQueues (with_task s id u r) (with_task t id u r)
  accepted_same id u r = record {
    room = h.room;
    ids = h.ids;
    tasks = set_tasks u n n' refl itself ahead behind;
    places = set_places u n n' refl itself ahead behind;
    order = set_order u n n' refl itself ahead behind;
    stamped = push_stamped s id u r h.stamped;
    stamped_there = push_stamped t id u r h.stamped_there;
  }
    where
      n : Option Entry
      n = Some (next_entry s id r)

      n' : Option Entry
      n' = Some (next_entry t id r)

      itself : leads n n ≡ leads n' n'
      itself = ap (λ b. id == id && b) (not_before_itself (next_entry s id r) ∙ sym (not_before_itself (next_entry t id r)))

      ahead : (v : ℕ) → leads n (entry_of s v) ≡ leads n' (entry_of t v)
      ahead v = new_ahead id r (entry_of s v) (entry_of t v) (h.places v) (λ p e. h.stamped v p e) (λ q e. h.stamped_there v q e)

      behind : (v : ℕ) → leads (entry_of s v) n ≡ leads (entry_of t v) n'
      behind v = new_behind id r (entry_of s v) (entry_of t v) (h.places v) (λ p e. h.stamped v p e) (λ q e. h.stamped_there v q e)

  -- after a push two states are the same but for order numbers
  pub push_same : (id u : ℕ) (r : Rank) → AreAsQueues (after_push s id u r) (after_push t id u r)
  push_same id u r = choose_same (is_none (push_refusal s id u r)) (is_none (push_refusal t id u r)) (with_task s id u r) (with_task t id u r) s t (ap (λ (o : Option QueueError). is_none o) (push_refusal_same id u r)) (accepted_same id u r) h

  -- ---- a task that leaves

  none_stamped : (x : QueueState) (u : ℕ) → IsStamped x → IsStamped (without_task x u)
  none_stamped x u l v q e = go (is_one x.entries u v) (sym (set_reads x.entries u None v) ∙ e)
    where
      go : (b : Bool) → cond b None (entry_of x v) ≡ Some q → q.stamp < x.pushes
      go true f = absurd (none_is_none q f)
      go false f = l v q f

  gone_same : (u : ℕ) → AreAsQueues (without_task s u) (without_task t u)
  gone_same u = record {
    room = h.room;
    ids = h.ids;
    tasks = set_tasks u None None refl refl (λ v. refl) behind;
    places = set_places u None None refl refl (λ v. refl) behind;
    order = set_order u None None refl refl (λ v. refl) behind;
    stamped = none_stamped s u h.stamped;
    stamped_there = none_stamped t u h.stamped_there;
  }
    where
      behind : (v : ℕ) → leads (entry_of s v) None ≡ leads (entry_of t v) None
      behind v = leads_none (entry_of s v) ∙ sym (leads_none (entry_of t v))

  -- after a removal they are, too
  pub remove_same : (u : ℕ) → AreAsQueues (after_remove s u) (after_remove t u)
  remove_same u = choose_same (is_some (entry_of s u)) (is_some (entry_of t u)) (without_task s u) (without_task t u) s t (some_same u) (gone_same u) h

  without_same : (o : Option ℕ) → AreAsQueues (without s o) (without t o)
  without_same None = h
  without_same (Some u) = gone_same u

  -- after a pop they are, too
  pub pop_same : (id : ℕ) → AreAsQueues (after_pop s id) (after_pop t id)
  pop_same id = subst (λ o. AreAsQueues (without s (front_of s id)) (without t o)) (front_same id) (without_same (front_of s id))

  -- ---- a queue that is created

  pub create_refusal_same : (id : ℕ) → create_refusal s id ≡ create_refusal t id
  create_refusal_same id = ap (λ (ids : List ℕ). create_refusal (record s { ids = ids }) id) h.ids ∙ ap (λ n. create_refusal (record t { room = n }) id) h.room

  created_same : (id : ℕ) → AreAsQueues (with_queue s id) (with_queue t id)
  created_same id = record {
    room = h.room;
    ids = ap (λ (ids : List ℕ). (with_queue (record s { ids = ids }) id).ids) h.ids;
    tasks = h.tasks;
    places = h.places;
    order = h.order;
    stamped = h.stamped;
    stamped_there = h.stamped_there;
  }

  -- with one more queue they are, too
  pub create_same : (id : ℕ) → AreAsQueues (after_create s id) (after_create t id)
  create_same id = choose_same (is_none (create_refusal s id)) (is_none (create_refusal t id)) (with_queue s id) (with_queue t id) s t (ap (λ (o : Option QueueError). is_none o) (create_refusal_same id)) (created_same id) h
