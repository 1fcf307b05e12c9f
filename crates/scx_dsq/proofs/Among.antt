-- The first of some tasks in a queue: the front of the queues as if those tasks alone waited.
use Rattle.std.proofs.Common.{◌≡◌, ◌≢◌, ℕ, zero, suc, ◌+◌, ◌<◌, ◌≤◌, ◌<ℤ◌, ◌≤ℤ◌, Bool, true, false, ◌==◌, ◌&&◌, ◌⊎◌, inl, inr, List, [], ◌∷◌, length, get_or, count_by, cond, Option, Some, None, IfSome, MatchOption, Contains, if◌then◌else◌, option_map, refl, sym, ap, ◌∙◌, subst, arith, ⊎_elim}
use Rattle.std.proofs.lemmas.Bool.{both_ways, eq-eqb, and_from, and_parts, cases_eq, false_from_ne_true}
use Rattle.std.proofs.lemmas.Int.{ints, by_lt_z}
use Rattle.std.proofs.lemmas.List.{get_or_default}
use Rattle.std.proofs.lemmas.List.Sums.{sum_by-cons}
use Rattle.scx_dsq.specs.declared.entries.Entry.{Entry}
use Rattle.scx_dsq.specs.declared.entries.Rank.TheVariants.{Fifo}
use Rattle.scx_dsq.specs.declared.heap.Item.{Item}
use Rattle.scx_dsq.specs.declared.links.Link.{Link}
use Rattle.scx_dsq.specs.declared.queue.Queue.{Queue}
use Rattle.scx_dsq.specs.declared.queues.Queues.TheInside.{Inside}
use Rattle.scx_dsq.specs.Entries.{is_before, same_sort, turn}
use Rattle.scx_dsq.specs.Queues.{Entries, QueueState, IsQueueAt, task_count, entry_at, entry_of, Waits, is_in, len_of, is_ahead, front_of, entries_of, only}
use Rattle.scx_dsq.specs.Laws.{HasOwnStamps}
use Rattle.scx_dsq.specs.Heaps.{comes_before, leads, with_leader, LeadsBelow, HasLeader}
use Rattle.scx_dsq.specs.Holdings.{entry_for, Holds}
use Rattle.scx_dsq.specs.Links.{no_ends, link_at, In, NobodyIsIn, WaitsInOrder, AreInOrder, HasFirstTurn, IsLast, IsNext, IsThreaded}
use Rattle.scx_dsq.specs.Kept.{IsOfOneSort, by_links, by_heap, Keeps, state_of, IsKept}
use Rattle.scx_dsq.proofs.Orders.{before-asym, before-trans, before_turns, apart_turns, by_stamps}
use Rattle.scx_dsq.proofs.Standing.{waits_below, same_entry, is_in_from}
use Rattle.scx_dsq.proofs.Facts.{front_is_known}
use Rattle.scx_dsq.proofs.Fronts.{NobodyIn, front_is, no_front}
use Rattle.scx_dsq.proofs.Heaps.{asym, itself, not-trans, not_before}
use Rattle.scx_dsq.proofs.Threads.{two_turns}
use Rattle.scx_dsq.proofs.Holdings.{found, holds_entry, holds_empty, holds_vtime}
use Rattle.scx_dsq.proofs.QueueReads.{row_at, queue_read, found_at}

-- ---- the queues as if those tasks alone waited

none_either : (b : Bool) → None ≡ cond {A = Option Entry} b None None
none_either true = refl
none_either false = refl

-- a task's entry among those of some tasks
entry_among : (p : ℕ → Bool) (n : ℕ) (entries : Entries) (t : ℕ) → entry_at (entries_of p n entries) t ≡ (if p (n + t) then entry_at entries t else None)
entry_among p n [] t = none_either (p (n + t))
entry_among p n (e ∷ entries) zero = let same : n + 0 ≡ n = omega arith in rw same refl
entry_among p n (e ∷ entries) (suc t) = let same : n + suc t ≡ suc n + t = omega arith in rw same (entry_among p (suc n) entries t)

entry_only : (p : ℕ → Bool) (entries : Entries) (t : ℕ) → entry_at (entries_of p 0 entries) t ≡ (if p t then entry_at entries t else None)
entry_only p entries t =
    let same : 0 + t ≡ t = omega arith in
    subst (λ n. entry_at (entries_of p 0 entries) t ≡ (if p n then entry_at entries t else None)) same (entry_among p 0 entries t)

-- there are as many entries
pub entries_long : (p : ℕ → Bool) (n : ℕ) (entries : Entries) → length (entries_of p n entries) ≡ length entries
entries_long p n [] = refl
entries_long p n (e ∷ entries) = ap suc (entries_long p (suc n) entries)

-- who waits there is one of them, and waits as before
pub waits_only : (p : ℕ → Bool) (s : QueueState) (id t : ℕ) (e : Entry) → Waits (only p s) id t e → (p t ≡ true) × Waits s id t e
waits_only p s id t e w = go (p t) refl
  where
    is : (if p t then entry_of s t else None) ≡ Some e
    is = sym (entry_only p s.entries t) ∙ w.0

    go : (b : Bool) → p t ≡ b → (p t ≡ true) × Waits s id t e
    go true passes = let there : (if true then entry_of s t else None) ≡ Some e = rw passes at is in (passes, (there, w.1))
    go false fails = let none : (if false then entry_of s t else None) ≡ Some e = rw fails at is in absurd (cc)

-- and who is one of them waits there
pub still_waits : (p : ℕ → Bool) (s : QueueState) (id t : ℕ) (e : Entry) → p t ≡ true → Waits s id t e → Waits (only p s) id t e
still_waits p s id t e passes w = (entry_only p s.entries t ∙ rw passes w.0, w.1)

-- the first of them is a task that there is
pub first_is_known : (p : ℕ → Bool) (s : QueueState) (id : ℕ) (o : Option ℕ) → o ≡ front_of (only p s) id → IfSome o (λ t. t < task_count s)
first_is_known p s id o e = subst (λ n. IfSome o (λ t. t < n)) (entries_long p 0 s.entries) (front_is_known (only p s) id o e)

-- in an empty queue none of them waits
pub first_of_nobody : (p : ℕ → Bool) (s : QueueState) (id : ℕ) → NobodyIn s id → front_of (only p s) id ≡ None
first_of_nobody p s id nobody = no_front (only p s) id (λ t e w. nobody t e (waits_only p s id t e w).1)

-- ---- counting

one_more_if : (a b : Bool) → (a ≡ true → b ≡ true) → cond {A = ℕ} a 1 0 ≤ cond {A = ℕ} b 1 0
one_more_if false b h = omega arith
one_more_if true b h = rw (h refl) (omega arith)

-- what passes one test passes the other
count_most : {X : Type 0} (p q : X → Bool) (xs : List X) → ((x : X) → p x ≡ true → q x ≡ true) → count_by p xs ≤ count_by q xs
count_most p q [] sub = omega arith
count_most p q (x ∷ xs) sub =
    let rest = count_most p q xs sub in
    let mine : count_by p (x ∷ xs) ≡ cond (p x) 1 0 + count_by p xs = sum_by-cons (λ y. cond (p y) 1 0) x xs in
    let others : count_by q (x ∷ xs) ≡ cond (q x) 1 0 + count_by q xs = sum_by-cons (λ y. cond (q y) 1 0) x xs in
    let here : cond {A = ℕ} (p x) 1 0 ≤ cond {A = ℕ} (q x) 1 0 = one_more_if (p x) (q x) (sub x) in
    omega (arith, rest, mine, others, here)

-- what passes one test passes the other, and one element the other alone
count_more : {X : Type 0} (p q : X → Bool) (xs : List X) (k : ℕ) (d : X) → k < length xs → ((x : X) → p x ≡ true → q x ≡ true) → p (get_or xs k d) ≡ false → q (get_or xs k d) ≡ true
    → count_by p xs + 1 ≤ count_by q xs
count_more p q [] k d lt sub out there = absurd (omega arith)
count_more p q (x ∷ xs) zero d lt sub out there =
    let none : cond {A = ℕ} (p x) 1 0 ≡ 0 = rw out refl in
    let one : cond {A = ℕ} (q x) 1 0 ≡ 1 = rw there refl in
    let rest = count_most p q xs sub in
    let mine : count_by p (x ∷ xs) ≡ cond (p x) 1 0 + count_by p xs = sum_by-cons (λ y. cond (p y) 1 0) x xs in
    let others : count_by q (x ∷ xs) ≡ cond (q x) 1 0 + count_by q xs = sum_by-cons (λ y. cond (q y) 1 0) x xs in
    omega (arith, rest, mine, others, none, one)
count_more p q (x ∷ xs) (suc k) d lt sub out there =
    let rest = count_more p q xs k d (omega arith) sub out there in
    let mine : count_by p (x ∷ xs) ≡ cond (p x) 1 0 + count_by p xs = sum_by-cons (λ y. cond (p y) 1 0) x xs in
    let others : count_by q (x ∷ xs) ≡ cond (q x) 1 0 + count_by q xs = sum_by-cons (λ y. cond (q y) 1 0) x xs in
    let here : cond {A = ℕ} (p x) 1 0 ≤ cond {A = ℕ} (q x) 1 0 = one_more_if (p x) (q x) (sub x) in
    omega (arith, rest, mine, others, here)

-- ---- a walk through a queue in order of arrival

-- how many wait in the queue before a task that waits there
pub ahead_of : Entries → ℕ → Option Entry → ℕ
ahead_of entries id None = 0
ahead_of entries id (Some p) = count_by (is_ahead id p) entries

-- at a task of the queue, none of those before it is one of them; each has cost one step
pub record IsOnTheWay (p : ℕ → Bool) (s : QueueState) (id task start steps : ℕ) : Type 0 where
  pub entry : Entry
  pub waits : In s.entries id task entry
  pub earlier : (u : ℕ) (q : Entry) → In s.entries id u q → turn q <ℤ turn entry → p u ≡ false
  pub cost : steps ≤ start + 1 + ahead_of s.entries id (entry_at s.entries task)

-- fewer wait before a task than there are in the queue
pub ahead_fewer : (s : QueueState) (id task : ℕ) (entry : Entry) → In s.entries id task entry → ahead_of s.entries id (entry_at s.entries task) + 1 ≤ len_of s id
unfolding ahead_of
ahead_fewer s id task entry w =
    rw w.0
    (count_more (is_ahead id entry) (is_in id) s.entries task None (waits_below s.entries task entry w.0) inside (rw w.0 itself_not) (rw w.0 (is_in_from id entry w.1)))
  where
    inside : (o : Option Entry) → is_ahead id entry o ≡ true → is_in id o ≡ true
    inside None e = absurd (cc)
    inside (Some q) e = (and_parts (q.queue == id) (is_before q entry) e).0

    itself_not : is_ahead id entry (Some entry) ≡ false
    itself_not = false_from_ne_true _ (λ h. let b = (and_parts (entry.queue == id) (is_before entry entry) h).1 in both_ways (is_before entry entry) (before-asym entry entry b) b)

module _ (p : ℕ → Bool) (s : QueueState) (id : ℕ) (order : AreInOrder s.entries id) (stamps : HasOwnStamps s) where
  -- it begins at the front
  pub begins : (front start steps : ℕ) → HasFirstTurn s.entries id front → steps ≤ start + 1 → IsOnTheWay p s id front start steps
  begins front start steps f few = record {
    entry = f.entry;
    waits = f.waits;
    earlier = λ u q w lt. let le : turn f.entry ≤ℤ turn q = f.first u q w in absurd (omega (arith, ints, le, lt));
    cost = omega (arith, few);
  }

  module _ (task start steps : ℕ) (way : IsOnTheWay p s id task start steps) where
    -- two tasks there have different turns
    apart : (u : ℕ) (q : Entry) → u ≢ task → In s.entries id u q → turn q ≢ turn way.entry
    apart u q n w = two_turns q way.entry (stamps u task q way.entry n w.0 way.waits.0)

    -- where it is at one of them, that is the first of them
    pub arrives : p task ≡ true → Some task ≡ front_of (only p s) id
    arrives passes = sym (front_is (only p s) id task (record {
      entry = way.entry;
      waits = still_waits p s id task way.entry passes way.waits;
      first = λ u other n w. first u other n (waits_only p s id u other w);
    }))
      where
        first : (u : ℕ) (other : Entry) → u ≢ task → (p u ≡ true) × Waits s id u other → is_before way.entry other ≡ true
        first u other n w =
            ⊎_elim
            (λ (lt : turn other <ℤ turn way.entry). absurd (both_ways (p u) (way.earlier u other w.1 lt) w.0))
            (λ (le : turn way.entry ≤ℤ turn other). before_turns way.entry other (order task way.entry way.waits) (order u other w.1) (apart_turns (turn way.entry) (turn other) le (λ same. apart u other n w.1 (sym same))))
            (by_lt_z {P = (turn other <ℤ turn way.entry) ⊎ (turn way.entry ≤ℤ turn other)} (turn other) (turn way.entry) inl inr)

    -- where the last isn't one of them, none is
    pub ends : IsLast s.entries id task → p task ≡ false → None ≡ front_of (only p s) id
    ends last fails = sym (no_front (only p s) id (λ u q w. nobody u q (waits_only p s id u q w)))
      where
        nobody : (u : ℕ) (q : Entry) → (p u ≡ true) × Waits s id u q → ⊥
        nobody u q w = go (cases_eq u task)
          where
            go : (u ≡ task) ⊎ (u ≡ task → ⊥) → ⊥
            go (inl same) = both_ways (p task) fails (subst (λ v. p v ≡ true) same w.0)
            go (inr n) =
                let mine : turn last.entry ≡ turn way.entry = ap turn (same_entry s.entries task last.entry way.entry last.waits.0 way.waits.0) in
                let most : turn q ≤ℤ turn last.entry = last.last u q w.1 in
                both_ways (p u) (way.earlier u q w.1 (apart_turns (turn q) (turn way.entry) (omega (arith, ints, mine, most)) (apart u q n w.1))) w.0

    module _ (next : ℕ) (n : IsNext s.entries id task next) where
      -- one more waits before the next
      pub ahead_more : ahead_of s.entries id (entry_at s.entries task) + 1 ≤ ahead_of s.entries id (entry_at s.entries next)
      unfolding ahead_of
      ahead_more =
          rw (way.waits.0, n.waits_behind.0)
          (count_more (is_ahead id way.entry) (is_ahead id n.entry_behind) s.entries task None (waits_below s.entries task way.entry way.waits.0) further (rw way.waits.0 itself_not) (rw way.waits.0 here))
        where
          before : is_before way.entry n.entry_behind ≡ true
          before =
              let mine : turn n.entry ≡ turn way.entry = ap turn (same_entry s.entries task n.entry way.entry n.waits.0 way.waits.0) in
              let lt : turn n.entry <ℤ turn n.entry_behind = n.before in
              before_turns way.entry n.entry_behind (order task way.entry way.waits) (order next n.entry_behind n.waits_behind) (omega (arith, ints, mine, lt))

          here : is_ahead id n.entry_behind (Some way.entry) ≡ true
          here = and_from (way.entry.queue == id) (is_before way.entry n.entry_behind) (eq-eqb way.entry.queue id way.waits.1) before

          itself_not : is_ahead id way.entry (Some way.entry) ≡ false
          itself_not = false_from_ne_true _ (λ h. let b = (and_parts (way.entry.queue == id) (is_before way.entry way.entry) h).1 in both_ways (is_before way.entry way.entry) (before-asym way.entry way.entry b) b)

          further : (o : Option Entry) → is_ahead id way.entry o ≡ true → is_ahead id n.entry_behind o ≡ true
          further None e = absurd (cc)
          further (Some q) e =
              let parts = and_parts (q.queue == id) (is_before q way.entry) e in
              and_from (q.queue == id) (is_before q n.entry_behind) parts.0 (before-trans q way.entry n.entry_behind parts.1 before)

      -- where it isn't at one of them, it goes on
      pub goes_on : (after : ℕ) → p task ≡ false → after ≤ steps + 1 → IsOnTheWay p s id next start after
      goes_on after fails few = record {
        entry = n.entry_behind;
        waits = n.waits_behind;
        earlier = λ u q w lt. earlier u q w lt (cases_eq u task);
        cost = let most = way.cost in omega (arith, most, few, ahead_more);
      }
        where
          earlier : (u : ℕ) (q : Entry) → In s.entries id u q → turn q <ℤ turn n.entry_behind → (u ≡ task) ⊎ (u ≡ task → ⊥) → p u ≡ false
          earlier u q w lt (inl same) = rw same fails
          earlier u q w lt (inr ne) =
              let mine : turn n.entry ≡ turn way.entry = ap turn (same_entry s.entries task n.entry way.entry n.waits.0 way.waits.0) in
              ⊎_elim
              (λ (x : turn q ≤ℤ turn n.entry). way.earlier u q w (apart_turns (turn q) (turn way.entry) (omega (arith, ints, x, mine)) (apart u q ne w)))
              (λ (x : turn n.entry_behind ≤ℤ turn q). absurd (omega (arith, ints, x, lt)))
              (n.none_between u q w)

-- ---- what a kept queue has

-- the queue at a place, in its form
form_at : (i : Inside) (k id : ℕ) → IsKept i → IsQueueAt (state_of i) k id → (d : Queue) → (get_or i.live.items k d).id ≡ id × Keeps i.entries.items i.links.items i.spots.items (get_or i.live.items k d)
form_at i k id h at d = let there = found_at i k id at in (there.1 d, h.live k d there.0)

-- the link of a task that waits in order of arrival leads to the next
pub next_in : (i : Inside) (k id t : ℕ) → IsKept i → IsQueueAt (state_of i) k id → WaitsInOrder i.entries.items id t → MatchOption (link_at i.links.items t).next (IsLast i.entries.items id t) (IsNext i.entries.items id t)
next_in i k id t h at w = go (get_or i.live.items k any) (form_at i k id h at any).0 (form_at i k id h at any).1.tasks
  where
    any : Queue
    any = record { id = id; ends = no_ends; heap = record { room = 0; items = [] } }

    go : (q : Queue) → q.id ≡ id → IsOfOneSort i.entries.items i.links.items q → MatchOption (link_at i.links.items t).next (IsLast i.entries.items id t) (IsNext i.entries.items id t)
    go q is (by_links f empty) = (subst (λ v. IsThreaded i.entries.items i.links.items v q.ends) is f).next t w.entry w.waits
    go q is (by_heap held none) = absurd (both_ways (same_sort w.entry.rank Fifo) (holds_vtime i.entries.items q.id q.heap.items held t w.entry (w.waits.0, w.waits.1 ∙ sym is)) w.fifo)

-- a queue with a first task is in order of arrival from there on
pub starts : (entries : Entries) (links : List Link) (q : Queue) (first : ℕ) → IsOfOneSort entries links q → q.ends.first ≡ Some first → HasFirstTurn entries q.id first × AreInOrder entries q.id
starts entries links q first (by_links f empty) e = (subst (λ o. MatchOption o (NobodyIsIn entries q.id) (HasFirstTurn entries q.id)) e f.first, f.sort)
starts entries links q first (by_heap held none) e = let other : no_ends.first ≡ Some first = rw none at e in absurd (cc)

-- the same of the queue at a place
pub starts_at : (i : Inside) (k id first : ℕ) (q : Queue) → IsKept i → IsQueueAt (state_of i) k id → q ≡ get_or i.live.items k q → q.ends.first ≡ Some first → HasFirstTurn i.entries.items id first × AreInOrder i.entries.items id
starts_at i k id first q h at read e =
    let there = queue_read i i.live.items k id q refl (found_at i k id at) read in
    subst (λ v. HasFirstTurn i.entries.items v first × AreInOrder i.entries.items v) there.1 (starts i.entries.items i.links.items q first (row_at i k q h there.0 read).tasks e)

-- the heap of a queue without a first task holds it
pub heap_holds : (s : QueueState) (links : List Link) (q : Queue) → IsOfOneSort s.entries links q → q.ends.first ≡ None → Holds s.entries q.id q.heap.items
heap_holds s links q (by_links f empty) e =
    rw empty (holds_empty s q.id (subst (λ o. MatchOption o (NobodyIsIn s.entries q.id) (HasFirstTurn s.entries q.id)) e f.first))
heap_holds s links q (by_heap held none) e = held

-- ---- the items of a queue by virtual time

-- of no items none leads
pub none_leads : (p : ℕ → Bool) (items : List Item) → HasLeader p items 0 None
none_leads p items k d lt = absurd (omega arith)

-- one item more
pub one_more : (p : ℕ → Bool) (items : List Item) (n : ℕ) (x : Item) (o : Option Item) → ((d : Item) → get_or items n d ≡ x) → HasLeader p items n o → HasLeader p items (n + 1) (with_leader p x o)
one_more p items n x o is h = go (p x.task) refl o h
  where
    last : (k : ℕ) → k < n + 1 → (k < n) ⊎ (k ≡ n)
    last k lt = by (cases_eq k n)
      where
        by : (k ≡ n) ⊎ (k ≡ n → ⊥) → (k < n) ⊎ (k ≡ n)
        by (inl e) = inr e
        by (inr m) = inl (omega (arith, lt, m))

    new : (k : ℕ) (d : Item) → k ≡ n → get_or items k d ≡ x
    new k d e = ap (λ m. get_or items m d) e ∙ is d

    leader : p x.task ≡ true → ((k : ℕ) (d : Item) → k < n → p (get_or items k d).task ≡ true → comes_before (get_or items k d).priority x.priority ≡ false) → LeadsBelow p items (n + 1) x
    leader passes others = record {
      position = n;
      inside = omega arith;
      there = is;
      among = passes;
      first = λ k d lt in_set. ⊎_elim (λ (below : k < n). others k d below in_set) (λ (e : k ≡ n). subst (λ (y : Item). comes_before y.priority x.priority ≡ false) (sym (new k d e)) (itself x.priority)) (last k lt);
    }

    stays : (y : Item) → LeadsBelow p items n y → (p x.task ≡ true → comes_before x.priority y.priority ≡ false) → LeadsBelow p items (n + 1) y
    stays y l late = record {
      position = l.position;
      inside = let inside = l.inside in omega (arith, inside);
      there = l.there;
      among = l.among;
      first = λ k d lt in_set.
          ⊎_elim (λ (below : k < n). l.first k d below in_set)
          (λ (e : k ≡ n). subst (λ (y' : Item). comes_before y'.priority y.priority ≡ false) (sym (new k d e)) (late (subst (λ (y' : Item). p y'.task ≡ true) (new k d e) in_set))) (last k lt);
    }

    beside : (y : Item) → p x.task ≡ true → LeadsBelow p items n y → (b : Bool) → comes_before x.priority y.priority ≡ b → HasLeader p items (n + 1) (if b then Some x else Some y)
    beside y passes l true e = leader passes (λ k d lt in_set. not-trans (get_or items k d).priority y.priority x.priority (l.first k d lt in_set) (asym x.priority y.priority e))
    beside y passes l false e = stays y l (λ h. e)

    go : (b : Bool) → p x.task ≡ b → (o : Option Item) → HasLeader p items n o → HasLeader p items (n + 1) (if b && leads x.priority o then Some x else o)
    go false fails None h = λ k d lt.
        ⊎_elim (λ (below : k < n). h k d below)
        (λ (e : k ≡ n). subst (λ (y : Item). p y.task ≡ false) (sym (new k d e)) fails) (last k lt)
    go false fails (Some y) h = stays y h (λ passes. absurd (both_ways (p x.task) fails passes))
    go true passes None h = leader passes (λ k d lt in_set. absurd (both_ways (p (get_or items k d).task) (h k d lt) in_set))
    go true passes (Some y) h = beside y passes h (comes_before x.priority y.priority) refl

-- the item that was read
pub item_more : (p : ℕ → Bool) (items : List Item) (n : ℕ) (d : Item) (o new : Option Item) → n < length items → new ≡ with_leader p (get_or items n d) o → HasLeader p items n o → HasLeader p items (n + 1) new
item_more p items n d o new lt e h = subst (λ r. HasLeader p items (n + 1) r) (sym e) (one_more p items n (get_or items n d) o (λ f. get_or_default items n f d lt) h)

-- who leads all of them is the first of them in the queue
pub leader_is : (p : ℕ → Bool) (s : QueueState) (id : ℕ) (items : List Item) (o : Option Item) → HasOwnStamps s → Holds s.entries id items → HasLeader p items (length items) o → option_map (λ (x : Item). x.task) o ≡ front_of (only p s) id
leader_is p s id items None stamps h none = sym (no_front (only p s) id (λ u q w. nobody u q (waits_only p s id u q w)))
  where
    nobody : (u : ℕ) (q : Entry) → (p u ≡ true) × Waits s id u q → ⊥
    nobody u q w = let there = h.all u q w.1 in let any : Item = record { task = 0; priority = record { key = 0; stamp = 0 } } in both_ways (p u) (subst (λ v. p v ≡ false) (there.there any) (none there.position any there.inside)) w.0
leader_is p s id items (Some x) stamps h l = sym (front_is (only p s) id x.task (record {
  entry = entry_for id x.priority;
  waits = still_waits p s id x.task (entry_for id x.priority) l.among (here, refl);
  first = λ u o n w. first u o n (waits_only p s id u o w);
}))
  where
    here : entry_at s.entries x.task ≡ Some (entry_for id x.priority)
    here = subst (λ (y : Item). entry_at s.entries y.task ≡ Some (entry_for id y.priority)) (l.there x) (h.there l.position x l.inside)

    go : (u : ℕ) (o : Entry) → u ≢ x.task → p u ≡ true → Waits s id u o → (y : Item) → Contains items y → y.task ≡ u → is_before (entry_for id x.priority) o ≡ true
    go u o n passes w y (k, lt, e) is =
        let entry = holds_entry s.entries id items u o y h w.0 (k, lt, e) is in
        let mine : p (get_or items k y).task ≡ true = subst (λ (z : Item). p z.task ≡ true) (sym e) (subst (λ v. p v ≡ true) (sym is) passes) in
        let late : comes_before y.priority x.priority ≡ false = subst (λ (z : Item). comes_before z.priority x.priority ≡ false) e (l.first k y lt mine) in
        let apart : o.stamp ≢ x.priority.stamp = stamps u x.task o (entry_for id x.priority) n w.0 here in
        let apart_too : y.priority.stamp ≢ x.priority.stamp = subst (λ (v : Entry). v.stamp ≢ x.priority.stamp) (sym entry) apart in
        let below = not_before y.priority x.priority late in
        subst (λ v. is_before (entry_for id x.priority) v ≡ true) entry
        (by_stamps id x.priority.key x.priority.stamp id y.priority.key y.priority.stamp (record { keys = below.keys; stamps = λ same. let no_later = below.stamps same in omega (arith, no_later, apart_too) }))

    first : (u : ℕ) (o : Entry) → u ≢ x.task → (p u ≡ true) × Waits s id u o → is_before (entry_for id x.priority) o ≡ true
    first u o n w = let f = found items u (h.all u o w.1) in go u o n w.0 w.1 f.item f.contained f.is

-- the same of the queue at a place, and how many items there are
pub leader_at : (p : ℕ → Bool) (i : Inside) (k id : ℕ) (q : Queue) (items : List Item) (o : Option Item) → IsKept i → IsQueueAt (state_of i) k id → q ≡ get_or i.live.items k q → q.ends.first ≡ None
    → items ≡ q.heap.items → HasLeader p items (length items) o → (option_map (λ (x : Item). x.task) o ≡ front_of (only p (state_of i)) id) × (length items ≡ len_of (state_of i) id)
leader_at p i k id q items o h at read e same leads = (leader_is p (state_of i) id items o h.sound.stamps held leads, held.count)
  where
    there : (k < length i.live.items) × (q.id ≡ id)
    there = queue_read i i.live.items k id q refl (found_at i k id at) read

    held : Holds i.entries.items id items
    held = subst (λ xs. Holds i.entries.items id xs) (sym same) (subst (λ v. Holds i.entries.items v q.heap.items) there.1 (heap_holds (state_of i) i.links.items q (row_at i k q h there.0 read).tasks e))
