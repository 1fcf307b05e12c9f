-- The wait of each task in the line of one CPU is bounded by the tasks ahead of it, each with a slice, and what is
-- left of the slice of the task that runs. No step of the machine makes that more, and each tick makes it less.
use Rattle.std.proofs.Common.{◌≡◌, ℕ, ◌+◌, ◌-◌, ◌*◌, max, ◌<◌, ◌≤◌, Bool, true, false, ◌==◌, ◌&&◌, not, ◌⊎◌, inl, inr, if◌then◌else◌, List, length, set, get_or, Option, Some, None, is_none, count_by, refl, sym, ap, ◌∙◌, subst, arith}
use Rattle.std.proofs.lemmas.Option.{same_Some}
use Rattle.std.specs.List.{list_all}
use Rattle.std.proofs.Math.Nat.{mul-add, mul_comm}
use Rattle.std.proofs.lemmas.Bool.{cases_eq, cases_lt, and_parts, eq-eqb, ne_eqb, and_right}
use Rattle.std.proofs.lemmas.List.{length-set, get_or-set_same, get_or-set_other, set_past}
use Rattle.std.proofs.lemmas.List.Folds.{list_all_at}
use Rattle.std.proofs.lemmas.List.Quantifiers.{position-Some}
use Rattle.scx_dsq.specs.declared.entries.Entry.{Entry}
use Rattle.scx_dsq.specs.declared.entries.Rank.{Rank}
use Rattle.scx_dsq.specs.declared.entries.Rank.TheVariants.{Fifo}
use Rattle.scx_dsq.specs.declared.errors.QueueError.{QueueError}
use Rattle.scx_dsq.specs.Entries.{is_before, same_sort}
use Rattle.scx_dsq.specs.Laws.{one_if, IsStamped}
use Rattle.scx_dsq.specs.Queues.{QueueState, entry_of, is_in, is_ahead, is_first, len_of, front_of}
use Rattle.scx_dsq.specs.Calls.{push_refusal, next_entry, with_task as with_place, without_task, after_push}
use Rattle.scx_dsq.proofs.Orders.{before-asym, before_turns, later_turn}
use Rattle.scx_sched_tasks.specs.declared.task.Task.{Task}
use Rattle.scx_sched_tasks.specs.Tasks.{no_task, default_slice}
use Rattle.scx_sched_tasks.specs.Waits.{time_since}
use Rattle.scx_sched_world.specs.Ids.{local_on}
use Rattle.scx_sched_machine.proofs.Choices.{keeps_if}
use Rattle.scx_sched.proofs.Entering.{stamped_pushed}
use Rattle.scx_sched.proofs.Lengths.{len_set}
use Rattle.scx_laws.specs.Bounds.{ticks_of, longest_wait}
use Rattle.scx_laws.proofs.Overtaking.{known_there, left_had, fewer}
use Rattle.scx_laws.proofs.Counting.{ahead_in, ahead_left, ahead_pushed, ahead_gone, one_out, two_out}

-- the ticks that are left of the slice of the task that runs
abbrev pub left_of : List Task → Option ℕ → ℕ
left_of tasks None = 0
left_of tasks (Some r) = ticks_of (get_or tasks r no_task).slice

-- of n tasks, with that slice in the line: the task that runs waits nowhere, the others in the line or in the local
-- queue, in order of arrival, and each of the line waits no longer than that, counted from now on as from before
pub record IsBounded (slice n m clock : ℕ) (tasks : List Task) (run : Option ℕ) (s : QueueState) : Type 0 where
  pub even : length s.entries ≡ n
  pub many : length tasks ≡ n
  pub off : (r : ℕ) → run ≡ Some r → (r < n) × (entry_of s r ≡ None)
  pub here : (u : ℕ) (e : Entry) → entry_of s u ≡ Some e → (e.queue ≡ 0) ⊎ (e.queue ≡ local_on 0)
  pub fifo : (u : ℕ) (e : Entry) → entry_of s u ≡ Some e → e.rank ≡ Fifo
  pub stamped : IsStamped s
  pub own : (u v : ℕ) (a b : Entry) → entry_of s u ≡ Some a → entry_of s v ≡ Some b → a.stamp ≡ b.stamp → u ≡ v
  pub slices : (u : ℕ) (e : Entry) → entry_of s u ≡ Some e → (get_or tasks u no_task).slice ≡ slice
  pub most : (r : ℕ) → run ≡ Some r → (get_or tasks r no_task).slice ≤ max slice default_slice
  pub bound : (t : ℕ) (e : Entry) → entry_of s t ≡ Some e → e.queue ≡ 0 → time_since clock (get_or tasks t no_task).since + (ticks_of slice * (ahead_in s e + len_of s (local_on 0)) + left_of tasks run) ≤ m

-- so it is of other records of the tasks, another bound and another time, where these fit
pub bounded_so : (slice n m clock : ℕ) (tasks : List Task) (run : Option ℕ) (s : QueueState) (j now : ℕ) (others : List Task) → length others ≡ length tasks → ((u : ℕ) (e : Entry) → entry_of s u ≡ Some e → (get_or others u no_task).slice ≡ slice) → ((r : ℕ) → run ≡ Some r → (get_or others r no_task).slice ≤ max slice default_slice)
    → ((t : ℕ) (e : Entry) → entry_of s t ≡ Some e → e.queue ≡ 0 → time_since now (get_or others t no_task).since + (ticks_of slice * (ahead_in s e + len_of s (local_on 0)) + left_of others run) ≤ j) → IsBounded slice n m clock tasks run s → IsBounded slice n j now others run s
bounded_so slice n m clock tasks run s j now others same slices most bound h = record { even = h.even; many = same ∙ h.many; off = h.off; here = h.here; fifo = h.fifo; stamped = h.stamped; own = h.own; slices = slices; most = most; bound = bound }

pub sorted_fifo : (r : Rank) → r ≡ Fifo → same_sort r Fifo ≡ true
sorted_fifo r e = ap (λ k. same_sort k Fifo) e

-- more times is no less
times_le : (k a b : ℕ) → a ≤ b → k * a ≤ k * b
times_le k a b l = let d : a + (b - a) ≡ b = omega (arith, l) in omega (arith, mul-add k a (b - a), ap (λ x. k * x) d)

times_suc : (k a : ℕ) → k * (a + 1) ≡ k * a + k
times_suc k a = let one : k * 1 ≡ k = omega arith in omega (arith, mul-add k a 1, one)

swap : (a b : ℕ) → a * b ≡ b * a
swap a b = mul_comm a b

-- no entry comes before itself
itself : (e : Entry) → is_before e e ≡ false
itself e = go (is_before e e) refl
  where
    go : (b : Bool) → is_before e e ≡ b → is_before e e ≡ false
    go true y = before-asym e e y
    go false y = y

-- ---- queues

-- a queue is no longer once a task has left
pub len_left : (s : QueueState) (x id : ℕ) → len_of (without_task s x) id ≤ len_of s id
len_left s x id = go (cases_lt x (length s.entries))
  where
    go : (x < length s.entries) ⊎ (length s.entries ≤ x) → len_of (without_task s x) id ≤ len_of s id
    go (inl l) = omega (arith, len_set s id x None l)
    go (inr past) = omega (arith, ap (λ xs. count_by (is_in id) xs) (set_past {X = Option Entry} s.entries x None past))

-- by one, where it was in it
pub len_gone : (s : QueueState) (x id : ℕ) (e : Entry) → x < length s.entries → entry_of s x ≡ Some e → e.queue ≡ id → len_of (without_task s x) id + 1 ≡ len_of s id
len_gone s x id e l is here = let was : one_if (is_in id (entry_of s x)) ≡ 1 = ap (λ (o : Option Entry). one_if (is_in id o)) is ∙ ap one_if (eq-eqb e.queue id here) in omega (arith, len_set s id x None l, was)

-- and by one longer at most once one has come
len_come : (s : QueueState) (q x id : ℕ) → len_of (after_push s q x Fifo) id ≤ len_of s id + one_if (q == id)
len_come s q x id = go (push_refusal s q x Fifo) refl (cases_lt x (length s.entries))
  where
    go : (o : Option QueueError) → push_refusal s q x Fifo ≡ o → (x < length s.entries) ⊎ (length s.entries ≤ x) → len_of (if is_none o then with_place s q x Fifo else s) id ≤ len_of s id + one_if (q == id)
    go (Some y) ok l = omega arith
    go None ok (inl l) = omega (arith, len_set s id x (Some (next_entry s q Fifo)) l)
    go None ok (inr past) = omega (arith, ap (λ xs. count_by (is_in id) xs) (set_past {X = Option Entry} s.entries x (Some (next_entry s q Fifo)) past))

module _ (slice n m clock : ℕ) (tasks : List Task) where
  -- ---- a task leaves

  -- wherever it was
  pub bounded_left : (run : Option ℕ) (s : QueueState) (x : ℕ) → IsBounded slice n m clock tasks run s → IsBounded slice n m clock tasks run (without_task s x)
  bounded_left run s x h = record {
    even = length-set {A = Option Entry} s.entries x None ∙ h.even;
    many = h.many;
    off = λ r runs. ((h.off r runs).0, free r (h.off r runs).1);
    here = λ u e is. h.here u e (left_had s x u e is);
    fifo = λ u e is. h.fifo u e (left_had s x u e is);
    stamped = λ u e is. h.stamped u e (left_had s x u e is);
    own = λ u v a b is was same. h.own u v a b (left_had s x u a is) (left_had s x v b was) same;
    slices = λ u e is. h.slices u e (left_had s x u e is);
    most = h.most;
    bound = λ t e is here.
        let had = left_had s x t e is in
        let less = times_le (ticks_of slice) (ahead_in (without_task s x) e + len_of (without_task s x) (local_on 0)) (ahead_in s e + len_of s (local_on 0)) (omega (arith, ahead_left s x e (sorted_fifo e.rank (h.fifo t e had)) (h.stamped t e had), len_left s x (local_on 0))) in
        omega (arith, h.bound t e had here, less);
  }
    where
      free : (r : ℕ) → entry_of s r ≡ None → entry_of (without_task s x) r ≡ None
      free r none = go (entry_of (without_task s x) r) refl
        where
          go : (o : Option Entry) → entry_of (without_task s x) r ≡ o → o ≡ None
          go None e = refl
          go (Some p) e = let bad : None ≡ Some p = sym none ∙ left_had s x r p e in absurd (cc)

  -- the front of the local queue leaves it and runs
  pub bounded_started : (s : QueueState) (x : ℕ) (e : Entry) → x < n → entry_of s x ≡ Some e → e.queue ≡ local_on 0 → IsBounded slice n m clock tasks None s → IsBounded slice n m clock tasks (Some x) (without_task s x)
  bounded_started s x p l at local h = record {
    even = gone.even;
    many = gone.many;
    off = λ r runs. subst (λ k. (k < n) × (entry_of (without_task s x) k ≡ None)) (same_Some x r runs) (l, get_or-set_same {A = Option Entry} s.entries x None None known);
    here = gone.here;
    fifo = gone.fifo;
    stamped = gone.stamped;
    own = gone.own;
    slices = gone.slices;
    most = λ r runs. subst (λ k. (get_or tasks k no_task).slice ≤ max slice default_slice) (same_Some x r runs) (omega (arith, h.slices x p at));
    bound = λ t e is here.
        let had = left_had s x t e is in
        let a = ahead_in (without_task s x) e in
        let fewer = ahead_left s x e (sorted_fifo e.rank (h.fifo t e had)) (h.stamped t e had) in
        let less = times_le (ticks_of slice) (a + len_of (without_task s x) (local_on 0) + 1) (ahead_in s e + len_of s (local_on 0)) (omega (arith, fewer, len_gone s x (local_on 0) p known at local)) in
        omega (arith, h.bound t e had here, less, times_suc (ticks_of slice) (a + len_of (without_task s x) (local_on 0)), ap ticks_of (h.slices x p at));
  }
    where
      known : x < length s.entries
      known = omega (arith, l, h.even)

      gone : IsBounded slice n m clock tasks None (without_task s x)
      gone = bounded_left None s x h

  -- ---- time

  -- a processor runs no task any more
  pub bounded_stopped : (run : Option ℕ) (s : QueueState) → IsBounded slice n m clock tasks run s → IsBounded slice n m clock tasks None s
  bounded_stopped run s h = record {
    even = h.even;
    many = h.many;
    off = λ r runs. absurd (cc);
    here = h.here;
    fifo = h.fifo;
    stamped = h.stamped;
    own = h.own;
    slices = h.slices;
    most = λ r runs. absurd (cc);
    bound = λ t e is here. omega (arith, h.bound t e is here);
  }

  -- a millisecond later
  pub bounded_later : (run : Option ℕ) (s : QueueState) → IsBounded slice n m clock tasks run s → IsBounded slice n (m + 1) (clock + 1) tasks run s
  bounded_later run s h =
      bounded_so slice n m clock tasks run s (m + 1) (clock + 1) tasks refl h.slices h.most
      (λ t e is here. omega (arith, h.bound t e is here, since_later (get_or tasks t no_task).since)) h
    where
      since_later : (o : Option ℕ) → time_since (clock + 1) o ≤ time_since clock o + 1
      since_later None = omega arith
      since_later (Some k) = omega arith

-- ---- a task comes to the end of a queue

-- each entry is an old one, or that of the one who came
pushed_had : (s : QueueState) (q x u : ℕ) (e : Entry) → entry_of (after_push s q x Fifo) u ≡ Some e → (entry_of s u ≡ Some e) ⊎ ((u ≡ x) × (e ≡ next_entry s q Fifo))
pushed_had s q x u e = go (push_refusal s q x Fifo)
  where
    by : (u ≡ x) ⊎ (u ≡ x → ⊥) → (x < length s.entries) ⊎ (length s.entries ≤ x) → entry_of (with_place s q x Fifo) u ≡ Some e → (entry_of s u ≡ Some e) ⊎ ((u ≡ x) × (e ≡ next_entry s q Fifo))
    by (inl y) (inl l) is = inr (y, same_Some e (next_entry s q Fifo) (sym is ∙ (ap (λ k. entry_of (with_place s q x Fifo) k) y ∙ get_or-set_same {A = Option Entry} s.entries x (Some (next_entry s q Fifo)) None l)))
    by (inl y) (inr past) is = inl (sym (ap (λ xs. get_or {A = Option Entry} xs u None) (set_past {X = Option Entry} s.entries x (Some (next_entry s q Fifo)) past)) ∙ is)
    by (inr d) l is = inl (sym (get_or-set_other {A = Option Entry} s.entries x u (Some (next_entry s q Fifo)) None d) ∙ is)

    go : (o : Option QueueError) → entry_of (if is_none o then with_place s q x Fifo else s) u ≡ Some e → (entry_of s u ≡ Some e) ⊎ ((u ≡ x) × (e ≡ next_entry s q Fifo))
    go (Some y) is = inl is
    go None is = by (cases_eq u x) (cases_lt x (length s.entries)) is

many_pushed : (s : QueueState) (q x : ℕ) → length (after_push s q x Fifo).entries ≡ length s.entries
many_pushed s q x = keeps_if (λ (k : QueueState). length k.entries ≡ length s.entries) (is_none (push_refusal s q x Fifo)) (with_place s q x Fifo) s (length-set {A = Option Entry} s.entries x (Some (next_entry s q Fifo))) refl

-- who is another waits nowhere still
free_pushed : (s : QueueState) (q x r : ℕ) → (r ≡ x → ⊥) → entry_of s r ≡ None → entry_of (after_push s q x Fifo) r ≡ None
free_pushed s q x r other none = go (entry_of (after_push s q x Fifo) r) refl
  where
    by : (e : Entry) → (entry_of s r ≡ Some e) ⊎ ((r ≡ x) × (e ≡ next_entry s q Fifo)) → ⊥
    by e (inl is) = let bad : None ≡ Some e = sym none ∙ is in absurd (cc)
    by e (inr new) = other new.0

    go : (o : Option Entry) → entry_of (after_push s q x Fifo) r ≡ o → o ≡ None
    go None e = refl
    go (Some p) e = absurd (by p (pushed_had s q x r p e))

-- stamps differ still
own_pushed : (s : QueueState) (q x : ℕ) → IsStamped s → ((u v : ℕ) (a b : Entry) → entry_of s u ≡ Some a → entry_of s v ≡ Some b → a.stamp ≡ b.stamp → u ≡ v)
    → (u v : ℕ) (a b : Entry) → entry_of (after_push s q x Fifo) u ≡ Some a → entry_of (after_push s q x Fifo) v ≡ Some b → a.stamp ≡ b.stamp → u ≡ v
own_pushed s q x stamped own u v a b is was same = by (pushed_had s q x u a is) (pushed_had s q x v b was)
  where
    by : (entry_of s u ≡ Some a) ⊎ ((u ≡ x) × (a ≡ next_entry s q Fifo)) → (entry_of s v ≡ Some b) ⊎ ((v ≡ x) × (b ≡ next_entry s q Fifo)) → u ≡ v
    by (inl y) (inl z) = own u v a b y z same
    by (inl y) (inr z) = absurd (omega (arith, stamped u a y, ap (λ (k : Entry). k.stamp) z.1, same))
    by (inr y) (inl z) = absurd (omega (arith, stamped v b z, ap (λ (k : Entry). k.stamp) y.1, same))
    by (inr y) (inr z) = y.0 ∙ sym z.0

-- an entry with the lower stamp comes before
pub stamp_before : (a b : Entry) → a.rank ≡ Fifo → b.rank ≡ Fifo → a.stamp < b.stamp → is_before a b ≡ true
stamp_before a b fa fb l = before_turns a b (sorted_fifo a.rank fa) (sorted_fifo b.rank fb) (later_turn a.rank b.rank a.stamp b.stamp fb l)

module _ (slice n m clock : ℕ) (tasks : List Task) (run : Option ℕ) (s : QueueState) (h : IsBounded slice n m clock tasks run s) where
  -- the front of the line comes before each other entry there
  front_before : (x t : ℕ) (p e : Entry) → front_of s 0 ≡ Some x → entry_of s x ≡ Some p → entry_of s t ≡ Some e → e.queue ≡ 0 → (t ≡ x → ⊥) → is_before p e ≡ true
  unfolding front_of
  front_before x t p e front at is here other = go (cases_lt p.stamp e.stamp)
    where
      first : is_first s.entries 0 (Some p) ≡ true
      first = sym (ap (λ (o : Option Entry). is_first s.entries 0 o) at) ∙ (position-Some (is_first s.entries 0) s.entries x None front).1

      earlier : is_before e p ≡ true → ⊥
      earlier y =
          let none : list_all (λ other. not (is_ahead 0 p other)) s.entries ≡ false = list_all_at (λ other. not (is_ahead 0 p other)) s.entries t None (known_there s t e is) (ap (λ (o : Option Entry). not (is_ahead 0 p o)) is ∙ (ap (λ b. not (b && is_before e p)) (eq-eqb e.queue 0 here) ∙ ap (λ b. not b) y)) in
          let bad : false ≡ true = sym none ∙ (and_parts (p.queue == 0) _ first).1 in
          absurd (cc)

      go : (p.stamp < e.stamp) ⊎ (e.stamp ≤ p.stamp) → is_before p e ≡ true
      go (inl l) = stamp_before p e (h.fifo x p at) (h.fifo t e is) l
      go (inr l) = by (cases_eq e.stamp p.stamp)
        where
          by : (e.stamp ≡ p.stamp) ⊎ (e.stamp ≡ p.stamp → ⊥) → is_before p e ≡ true
          by (inl same) = absurd (other (h.own t x e p is at same))
          by (inr differ) = absurd (earlier (stamp_before e p (h.fifo t e is) (h.fifo x p at) (omega (arith, l, differ))))

  -- it goes to the local queue
  pub bounded_moved : (x : ℕ) (p : Entry) → front_of s 0 ≡ Some x → entry_of s x ≡ Some p → p.queue ≡ 0 → x < n → IsBounded slice n m clock tasks run (after_push (without_task s x) (local_on 0) x Fifo)
  bounded_moved x p front at line l = record {
    even = many_pushed one (local_on 0) x ∙ gone.even;
    many = h.many;
    off = λ r runs. ((h.off r runs).0, free_pushed one (local_on 0) x r (λ y. not_there r runs y) (gone.off r runs).1);
    here = λ u e is. here u e (pushed_had one (local_on 0) x u e is);
    fifo = λ u e is. fifo u e (pushed_had one (local_on 0) x u e is);
    stamped = stamped_pushed one (local_on 0) x Fifo gone.stamped;
    own = own_pushed one (local_on 0) x gone.stamped gone.own;
    slices = λ u e is. slices u e (pushed_had one (local_on 0) x u e is);
    most = h.most;
    bound = λ t e is here. bound t e here (pushed_had one (local_on 0) x t e is);
  }
    where
      one : QueueState
      one = without_task s x

      gone : IsBounded slice n m clock tasks run one
      gone = bounded_left slice n m clock tasks run s x h

      two : QueueState
      two = after_push one (local_on 0) x Fifo

      known : x < length s.entries
      known = omega (arith, l, h.even)

      not_there : (r : ℕ) → run ≡ Some r → r ≡ x → ⊥
      not_there r runs y = let bad : None ≡ Some p = sym (h.off r runs).1 ∙ (ap (λ k. entry_of s k) y ∙ at) in absurd (cc)

      here : (u : ℕ) (e : Entry) → (entry_of one u ≡ Some e) ⊎ ((u ≡ x) × (e ≡ next_entry one (local_on 0) Fifo)) → (e.queue ≡ 0) ⊎ (e.queue ≡ local_on 0)
      here u e (inl is) = gone.here u e is
      here u e (inr new) = inr (ap (λ (k : Entry). k.queue) new.1)

      fifo : (u : ℕ) (e : Entry) → (entry_of one u ≡ Some e) ⊎ ((u ≡ x) × (e ≡ next_entry one (local_on 0) Fifo)) → e.rank ≡ Fifo
      fifo u e (inl is) = gone.fifo u e is
      fifo u e (inr new) = ap (λ (k : Entry). k.rank) new.1

      slices : (u : ℕ) (e : Entry) → (entry_of one u ≡ Some e) ⊎ ((u ≡ x) × (e ≡ next_entry one (local_on 0) Fifo)) → (get_or tasks u no_task).slice ≡ slice
      slices u e (inl is) = gone.slices u e is
      slices u e (inr new) = ap (λ k. (get_or tasks k no_task).slice) new.0 ∙ h.slices x p at

      bound : (t : ℕ) (e : Entry) → e.queue ≡ 0 → (entry_of one t ≡ Some e) ⊎ ((t ≡ x) × (e ≡ next_entry one (local_on 0) Fifo)) → time_since clock (get_or tasks t no_task).since + (ticks_of slice * (ahead_in two e + len_of two (local_on 0)) + left_of tasks run) ≤ m
      bound t e line-too (inr new) = absurd (omega (arith, line-too, ap (λ (k : Entry). k.queue) new.1))
      bound t e line-too (inl is) =
          let had = left_had s x t e is in
          let other : (t ≡ x → ⊥) = λ y. let bad : None ≡ Some e = sym (ap (λ k. entry_of one k) y ∙ get_or-set_same {A = Option Entry} s.entries x None None known) ∙ is in absurd (cc) in
          let before = front_before x t p e front at had line-too other in
          let sort = sorted_fifo e.rank (h.fifo t e had) in
          let less = times_le (ticks_of slice) (ahead_in two e + len_of two (local_on 0)) (ahead_in s e + len_of s (local_on 0)) (omega (arith, ahead_pushed one (local_on 0) x e sort (h.stamped t e had), ahead_gone s x e p known at line before, len_come one (local_on 0) x (local_on 0), len_left s x (local_on 0), ap one_if (eq-eqb (local_on 0) (local_on 0) refl))) in
          omega (arith, h.bound t e had line-too, less)

-- ---- a task comes to the end of the line

-- a longer slice lasts no fewer ticks
ticks_le : (a b : ℕ) → a ≤ b → ticks_of a ≤ ticks_of b
ticks_le a b l = omega (arith, l)

ticks_most : (a slice : ℕ) → a ≤ max slice default_slice → ticks_of a ≤ max (ticks_of slice) (ticks_of default_slice)
ticks_most a slice l = omega (arith, l)

module _ (slice n m clock : ℕ) where
  -- another record of a task that waits nowhere and doesn't run
  pub bounded_unseen : (tasks : List Task) (run : Option ℕ) (s : QueueState) (r : ℕ) (x : Task) → entry_of s r ≡ None → ((k : ℕ) → run ≡ Some k → k ≡ r → ⊥) → IsBounded slice n m clock tasks run s → IsBounded slice n m clock (set tasks r x) run s
  bounded_unseen tasks run s r x none apart h =
      bounded_so slice n m clock tasks run s m clock (set tasks r x) (length-set tasks r x) (λ u e is. ap (λ (k : Task). k.slice) (same u (waits u e is)) ∙ h.slices u e is) (λ k runs. subst (λ (y : Task). y.slice ≤ max slice default_slice) (sym (same k (apart k runs))) (h.most k runs))
      (λ t e is here. subst (λ (y : Task). time_since clock y.since + (ticks_of slice * (ahead_in s e + len_of s (local_on 0)) + left_of (set tasks r x) run) ≤ m) (sym (same t (waits t e is))) (omega (arith, h.bound t e is here, left run apart))) h
    where
      same : (u : ℕ) → (u ≡ r → ⊥) → get_or (set tasks r x) u no_task ≡ get_or tasks u no_task
      same u other = get_or-set_other tasks r u x no_task other

      waits : (u : ℕ) (e : Entry) → entry_of s u ≡ Some e → u ≡ r → ⊥
      waits u e is y = let bad : Some e ≡ None = sym is ∙ (ap (λ k. entry_of s k) y ∙ none) in absurd (cc)

      left : (o : Option ℕ) → ((k : ℕ) → o ≡ Some k → k ≡ r → ⊥) → left_of (set tasks r x) o ≡ left_of tasks o
      left None apart = refl
      left (Some k) apart = ap (λ (y : Task). ticks_of y.slice) (same k (apart k refl))

  -- it comes to the end of the line, with a whole slice, and waits from now on
  pub bounded_put : (tasks : List Task) (run : Option ℕ) (s : QueueState) (r : ℕ) → entry_of s r ≡ None → ((k : ℕ) → run ≡ Some k → k ≡ r → ⊥) → r < n → (get_or tasks r no_task).slice ≡ slice → (get_or tasks r no_task).since ≡ Some clock → longest_wait n slice ≤ m → IsBounded slice n m clock tasks run s → IsBounded slice n m clock tasks run (after_push s 0 r Fifo)
  bounded_put tasks run s r none apart within whole now longest h = record {
    even = many_pushed s 0 r ∙ h.even;
    many = h.many;
    off = λ k runs. ((h.off k runs).0, free_pushed s 0 r k (apart k runs) (h.off k runs).1);
    here = λ u e is. here u e (pushed_had s 0 r u e is);
    fifo = λ u e is. fifo u e (pushed_had s 0 r u e is);
    stamped = stamped_pushed s 0 r Fifo h.stamped;
    own = own_pushed s 0 r h.stamped h.own;
    slices = λ u e is. slices u e (pushed_had s 0 r u e is);
    most = h.most;
    bound = λ t e is line. bound t e line (pushed_had s 0 r t e is);
  }
    where
      two : QueueState
      two = after_push s 0 r Fifo

      new : Entry
      new = next_entry s 0 Fifo

      here : (u : ℕ) (e : Entry) → (entry_of s u ≡ Some e) ⊎ ((u ≡ r) × (e ≡ new)) → (e.queue ≡ 0) ⊎ (e.queue ≡ local_on 0)
      here u e (inl is) = h.here u e is
      here u e (inr y) = inl (ap (λ (k : Entry). k.queue) y.1)

      fifo : (u : ℕ) (e : Entry) → (entry_of s u ≡ Some e) ⊎ ((u ≡ r) × (e ≡ new)) → e.rank ≡ Fifo
      fifo u e (inl is) = h.fifo u e is
      fifo u e (inr y) = ap (λ (k : Entry). k.rank) y.1

      slices : (u : ℕ) (e : Entry) → (entry_of s u ≡ Some e) ⊎ ((u ≡ r) × (e ≡ new)) → (get_or tasks u no_task).slice ≡ slice
      slices u e (inl is) = h.slices u e is
      slices u e (inr y) = ap (λ k. (get_or tasks k no_task).slice) y.0 ∙ whole

      -- no entry is both in the line and in the local queue
      apart_there : (o : Option Entry) → (is_ahead 0 new o && is_in (local_on 0) o) ≡ false
      apart_there None = refl
      apart_there (Some e) = go (cases_eq e.queue 0)
        where
          go : (e.queue ≡ 0) ⊎ (e.queue ≡ 0 → ⊥) → ((e.queue == 0 && is_before e new) && e.queue == local_on 0) ≡ false
          go (inl y) = ap (λ q. (q == 0 && is_before e new) && q == local_on 0) y ∙ and_right (is_before e new) false refl
          go (inr y) = ap (λ b. (b && is_before e new) && e.queue == local_on 0) (ne_eqb e.queue 0 y)

      out : (k : ℕ) → entry_of s k ≡ None → (is_ahead 0 new (entry_of s k) ≡ false) × (is_in (local_on 0) (entry_of s k) ≡ false)
      out k free = (ap (λ (o : Option Entry). is_ahead 0 new o) free, ap (λ (o : Option Entry). is_in (local_on 0) o) free)

      -- so few are ahead
      few : (o : Option ℕ) → run ≡ o → ticks_of slice * (ahead_in s new + len_of s (local_on 0)) + left_of tasks o ≤ m
      few None runs =
          let most = one_out (is_ahead 0 new) (is_in (local_on 0)) None s.entries r (omega (arith, within, h.even)) (λ i. apart_there (get_or s.entries i None)) (out r none).0 (out r none).1 in
          let less = times_le (ticks_of slice) (ahead_in s new + len_of s (local_on 0)) (n - 2 + 1) (omega (arith, most, h.even)) in
          omega (arith, less, times_suc (ticks_of slice) (n - 2), swap (n - 2) (ticks_of slice), longest)
      few (Some k) runs = by (cases_lt k r)
        where
          off : (k < n) × (entry_of s k ≡ None)
          off = h.off k runs

          so : ahead_in s new + len_of s (local_on 0) + 2 ≤ length s.entries → ticks_of slice * (ahead_in s new + len_of s (local_on 0)) + ticks_of (get_or tasks k no_task).slice ≤ m
          so most =
              let less = times_le (ticks_of slice) (ahead_in s new + len_of s (local_on 0)) (n - 2) (omega (arith, most, h.even)) in
              omega (arith, less, swap (n - 2) (ticks_of slice), ticks_most (get_or tasks k no_task).slice slice (h.most k runs), longest)

          by : (k < r) ⊎ (r ≤ k) → ticks_of slice * (ahead_in s new + len_of s (local_on 0)) + ticks_of (get_or tasks k no_task).slice ≤ m
          by (inl l) = so (two_out (is_ahead 0 new) (is_in (local_on 0)) None s.entries k r l (omega (arith, within, h.even)) (λ i. apart_there (get_or s.entries i None)) (out k off.1).0 (out k off.1).1 (out r none).0 (out r none).1)
          by (inr l) = so (two_out (is_ahead 0 new) (is_in (local_on 0)) None s.entries r k (lt l (cases_eq k r)) (omega (arith, off.0, h.even)) (λ i. apart_there (get_or s.entries i None)) (out r none).0 (out r none).1 (out k off.1).0 (out k off.1).1)
            where
              lt : r ≤ k → (k ≡ r) ⊎ (k ≡ r → ⊥) → r < k
              lt l (inl y) = absurd (apart k runs y)
              lt l (inr d) = omega (arith, l, d)

      -- who is ahead of the new entry was there before
      none_more : ahead_in two new ≤ ahead_in s new
      none_more = fewer (is_ahead 0 new) (is_ahead 0 new) refl two.entries s.entries (λ u x. go u (entry_of two u) refl x)
        where
          by : (u : ℕ) (e : Entry) → is_ahead 0 new (Some e) ≡ true → (entry_of s u ≡ Some e) ⊎ ((u ≡ r) × (e ≡ new)) → is_ahead 0 new (entry_of s u) ≡ true
          by u e x (inl is) = ap (λ (o : Option Entry). is_ahead 0 new o) is ∙ x
          by u e x (inr y) = let bad : false ≡ true = sym (itself new) ∙ (ap (λ (k : Entry). is_before k new) (sym y.1) ∙ (and_parts (e.queue == 0) (is_before e new) x).1) in absurd (cc)

          go : (u : ℕ) (o : Option Entry) → entry_of two u ≡ o → is_ahead 0 new o ≡ true → is_ahead 0 new (entry_of s u) ≡ true
          go u None is x = absurd (cc)
          go u (Some e) is x = by u e x (pushed_had s 0 r u e is)

      local_same : len_of two (local_on 0) ≤ len_of s (local_on 0)
      local_same = omega (arith, len_come s 0 r (local_on 0))

      bound : (t : ℕ) (e : Entry) → e.queue ≡ 0 → (entry_of s t ≡ Some e) ⊎ ((t ≡ r) × (e ≡ new)) → time_since clock (get_or tasks t no_task).since + (ticks_of slice * (ahead_in two e + len_of two (local_on 0)) + left_of tasks run) ≤ m
      bound t e line (inl is) =
          let less = times_le (ticks_of slice) (ahead_in two e + len_of two (local_on 0)) (ahead_in s e + len_of s (local_on 0)) (omega (arith, ahead_pushed s 0 r e (sorted_fifo e.rank (h.fifo t e is)) (h.stamped t e is), local_same)) in
          omega (arith, h.bound t e is line, less)
      bound t e line (inr y) =
          let less = times_le (ticks_of slice) (ahead_in two new + len_of two (local_on 0)) (ahead_in s new + len_of s (local_on 0)) (omega (arith, none_more, local_same)) in
          let zero-wait : time_since clock (get_or tasks r no_task).since ≡ 0 = ap (λ (o : Option ℕ). time_since clock o) now ∙ omega arith in
          subst (λ (k : Entry). time_since clock (get_or tasks t no_task).since + (ticks_of slice * (ahead_in two k + len_of two (local_on 0)) + left_of tasks run) ≤ m) (sym y.1)
          (omega (arith, ap (λ k. time_since clock (get_or tasks k no_task).since) y.0, zero-wait, less, few run refl))

  -- ---- the task that runs

  -- the remaining slice is less by d
  pub bounded_ran : (j d : ℕ) (tasks : List Task) (s : QueueState) (r : ℕ) (x : Task) → x.slice ≤ max slice default_slice → ticks_of x.slice + d ≤ ticks_of (get_or tasks r no_task).slice → j + d ≡ m → IsBounded slice n m clock tasks (Some r) s → IsBounded slice n j clock (set tasks r x) (Some r) s
  bounded_ran j d tasks s r x few less sum h =
      bounded_so slice n m clock tasks (Some r) s j clock (set tasks r x) (length-set tasks r x) (λ u e is. ap (λ (k : Task). k.slice) (same u (waits u e is)) ∙ h.slices u e is) (λ k runs. subst (λ i. (get_or (set tasks r x) i no_task).slice ≤ max slice default_slice) (same_Some r k runs) (subst (λ (y : Task). y.slice ≤ max slice default_slice) (sym now) few))
      (λ t e is here. subst (λ (y : Task). time_since clock y.since + (ticks_of slice * (ahead_in s e + len_of s (local_on 0)) + left_of (set tasks r x) (Some r)) ≤ j) (sym (same t (waits t e is))) (omega (arith, h.bound t e is here, less, sum, ap (λ (y : Task). ticks_of y.slice) now))) h
    where
      runs : (r < n) × (entry_of s r ≡ None)
      runs = h.off r refl

      now : get_or (set tasks r x) r no_task ≡ x
      now = get_or-set_same tasks r x no_task (omega (arith, runs.0, h.many))

      same : (u : ℕ) → (u ≡ r → ⊥) → get_or (set tasks r x) u no_task ≡ get_or tasks u no_task
      same u other = get_or-set_other tasks r u x no_task other

      waits : (u : ℕ) (e : Entry) → entry_of s u ≡ Some e → u ≡ r → ⊥
      waits u e is y = let bad : Some e ≡ None = sym is ∙ (ap (λ k. entry_of s k) y ∙ runs.1) in absurd (cc)

  -- where no task waits, a task that keeps the processor may get a slice
  pub bounded_alone : (tasks : List Task) (s : QueueState) (r : ℕ) (x : Task) → len_of s 0 ≡ 0 → len_of s (local_on 0) ≡ 0 → x.slice ≤ max slice default_slice → IsBounded slice n m clock tasks (Some r) s → IsBounded slice n m clock (set tasks r x) (Some r) s
  bounded_alone tasks s r x empty none few h =
      bounded_so slice n m clock tasks (Some r) s m clock (set tasks r x) (length-set tasks r x) (λ u e is. absurd (none_there u e is (h.here u e is))) (λ k runs. subst (λ i. (get_or (set tasks r x) i no_task).slice ≤ max slice default_slice) (same_Some r k runs) (subst (λ (y : Task). y.slice ≤ max slice default_slice) (sym now) few))
      (λ t e is here. absurd (none_there t e is (h.here t e is))) h
    where
      now : get_or (set tasks r x) r no_task ≡ x
      now = get_or-set_same tasks r x no_task (omega (arith, (h.off r refl).0, h.many))

      none_there : (u : ℕ) (e : Entry) → entry_of s u ≡ Some e → (e.queue ≡ 0) ⊎ (e.queue ≡ local_on 0) → ⊥
      none_there u e is (inl y) = omega (arith, empty, len_gone s u 0 e (known_there s u e is) is y)
      none_there u e is (inr y) = omega (arith, none, len_gone s u (local_on 0) e (known_there s u e is) is y)
