-- Under a policy of one line no task overtakes another: each leaves the line at its front, or as it goes to sleep.
use Rattle.std.proofs.Common.{◌≡◌, ℕ, ◌+◌, ◌<◌, ◌≤◌, true, false, ◌==◌, not, ◌⊎◌, inl, inr, if◌then◌else◌, [], length, get_or, Option, Some, None, is_none, option_map, refl, sym, ap, ◌∙◌, arith, suc, Bool, count_by, ◌∷◌}
use Rattle.scx_sched.proofs.Waiting.{without_other}
use Rattle.std.proofs.lemmas.Option.{same_Some}
use Rattle.std.specs.List.{list_all}
use Rattle.std.proofs.lemmas.Bool.{cases_eq, cases_lt, eq-eqb, and_parts}
use Rattle.std.proofs.lemmas.List.{get_or-set_same, get_or-set_other, get_or_past, set_past}
use Rattle.std.proofs.lemmas.List.Folds.{list_all_at}
use Rattle.std.proofs.lemmas.List.Sums.{sum_by-cons}
use Rattle.scx_dsq.specs.Laws.{one_if}
use Rattle.std.proofs.lemmas.List.Quantifiers.{position-Some}
use Rattle.scx_dsq.specs.declared.entries.Entry.{Entry}
use Rattle.scx_dsq.specs.declared.entries.Rank.TheVariants.{Fifo}
use Rattle.scx_dsq.specs.declared.errors.QueueError.{QueueError}
use Rattle.scx_dsq.specs.Queues.{Entries, QueueState, entry_of, queue_of, is_ahead, is_first, front_of}
use Rattle.scx_dsq.specs.Calls.{push_refusal, next_entry, with_task as with_place, without_task, after_push}
use Rattle.scx_dsq.specs.Entries.{is_before, same_sort}
use Rattle.scx_dsq.proofs.Facts.{free_from}
use Rattle.scx_dsq.proofs.Orders.{before-asym, before_turns, later_turn}
use Rattle.scx_sched_machine.proofs.Choices.{keeps_if}
use Rattle.scx_sched_world.specs.Ids.{policy_end}
use Rattle.scx_laws.proofs.Keeping.{KeepsQueue}

-- ---- queues

-- a task in a queue is one of the machine's
pub known_there : (s : QueueState) (u : ℕ) (e : Entry) → entry_of s u ≡ Some e → u < length s.entries
known_there s u e is = go (cases_lt u (length s.entries))
  where
    go : (u < length s.entries) ⊎ (length s.entries ≤ u) → u < length s.entries
    go (inl l) = l
    go (inr past) = let bad : None ≡ Some e = sym (get_or_past {X = Option Entry} s.entries u None past) ∙ is in absurd (cc)

-- an entry that a task has once another has left, it had before
pub left_had : (s : QueueState) (x v : ℕ) (e : Entry) → entry_of (without_task s x) v ≡ Some e → entry_of s v ≡ Some e
left_had s x v e is = go (cases_eq v x) (cases_lt x (length s.entries))
  where
    go : (v ≡ x) ⊎ (v ≡ x → ⊥) → (x < length s.entries) ⊎ (length s.entries ≤ x) → entry_of s v ≡ Some e
    go (inl y) (inl l) = let bad : None ≡ Some e = sym (ap (λ k. entry_of (without_task s x) k) y ∙ get_or-set_same {A = Option Entry} s.entries x None None l) ∙ is in absurd (cc)
    go (inl y) (inr past) = sym (ap (λ xs. get_or {A = Option Entry} xs v None) (set_past {X = Option Entry} s.entries x None past)) ∙ is
    go (inr d) l = sym (get_or-set_other {A = Option Entry} s.entries x v None None d) ∙ is

module _ (t u : ℕ) (first second : Entry) (here : first.queue ≡ 0) (there : second.queue ≡ 0) (before : is_before first second ≡ true) where
  -- the stamp of the first entry is that of an earlier push; as long as the first task has its entry, so has the second
  abbrev pub Follows : QueueState → Type 0
  Follows s = (first.stamp < s.pushes) × (entry_of s t ≡ Some first → entry_of s u ≡ Some second)

  -- a task that may leave: the second one only once the first has left
  abbrev MayLeave : QueueState → ℕ → Type 0
  MayLeave s x = u ≡ x → entry_of s t ≡ Some first → ⊥

  follows_gone : (s : QueueState) (x : ℕ) → MayLeave s x → Follows s → Follows (without_task s x)
  follows_gone s x may h = (h.0, λ is. let had = left_had s x t first is in without_other s x u (λ y. may y had) ∙ h.1 had)

  -- an entry of another queue is another one
  of_other : (s : QueueState) (q x : ℕ) → policy_end ≤ q → queue_of s x ≡ Some q → Follows s → MayLeave s x
  of_other s q x own at h same is = go (ap (λ (o : Option Entry). option_map (λ (e : Entry). e.queue) o) (ap (λ k. entry_of s k) (sym same) ∙ h.1 is))
    where
      go : queue_of s x ≡ Some second.queue → ⊥
      go y = let low : q ≡ 0 = same_Some q second.queue (sym at ∙ y) ∙ there in omega (arith, own, low)

  follows_pushed : (s : QueueState) (q x : ℕ) → Follows s → Follows (after_push s q x Fifo)
  follows_pushed s q x h = go (push_refusal s q x Fifo) refl
    where
      later : first.stamp < s.pushes + 1
      later = omega (arith, h.0)

      stamp : (a b : Entry) → Some a ≡ Some b → a.stamp ≡ b.stamp
      stamp a b e = ap (λ (k : Option Entry). stamp_of k) e
        where
          stamp_of : Option Entry → ℕ
          stamp_of None = 0
          stamp_of (Some y) = y.stamp

      -- the first task isn't the one that came
      had : entry_of (with_place s q x Fifo) t ≡ Some first → (t ≡ x) ⊎ (t ≡ x → ⊥) → (x < length s.entries) ⊎ (length s.entries ≤ x) → entry_of s t ≡ Some first
      had is (inl y) (inl l) =
          let new : entry_of (with_place s q x Fifo) t ≡ Some (next_entry s q Fifo) = ap (λ k. entry_of (with_place s q x Fifo) k) y ∙ get_or-set_same {A = Option Entry} s.entries x (Some (next_entry s q Fifo)) None l in
          absurd (omega (arith, h.0, stamp (next_entry s q Fifo) first (sym new ∙ is)))
      had is (inl y) (inr past) = sym (ap (λ xs. get_or {A = Option Entry} xs t None) (set_past {X = Option Entry} s.entries x (Some (next_entry s q Fifo)) past)) ∙ is
      had is (inr d) l = sym (get_or-set_other {A = Option Entry} s.entries x t (Some (next_entry s q Fifo)) None d) ∙ is

      -- nor is the second one
      stays : push_refusal s q x Fifo ≡ None → entry_of s u ≡ Some second → entry_of (with_place s q x Fifo) u ≡ Some second
      stays ok e = get_or-set_other {A = Option Entry} s.entries x u (Some (next_entry s q Fifo)) None (λ y. taken (ap (λ k. entry_of s k) y)) ∙ e
        where
          taken : entry_of s u ≡ entry_of s x → ⊥
          taken y = let bad : Some second ≡ None = sym e ∙ (y ∙ free_from s q x Fifo ok) in absurd (cc)

      go : (o : Option QueueError) → push_refusal s q x Fifo ≡ o → Follows (if is_none o then with_place s q x Fifo else s)
      go None ok = (later, λ is. stays ok (h.1 (had is (cases_eq t x) (cases_lt x (length s.entries)))))
      go (Some y) ok = h

  -- the front of the line may leave
  front_leaves : (s : QueueState) (x : ℕ) → front_of s 0 ≡ Some x → Follows s → MayLeave s x
  unfolding front_of
  front_leaves s x e h same is = go (entry_of s x) (sym (ap (λ k. entry_of s k) same) ∙ h.1 is) (position-Some (is_first s.entries 0) s.entries x None e).1
    where
      ahead : is_ahead 0 second (Some first) ≡ true
      ahead = rw (eq-eqb first.queue 0 here, before) refl

      none_ahead : list_all (λ other. not (is_ahead 0 second other)) s.entries ≡ false
      none_ahead = list_all_at (λ other. not (is_ahead 0 second other)) s.entries t None (known_there s t first is) (ap (λ o. not (is_ahead 0 second o)) is ∙ ap (λ b. not b) ahead)

      go : (o : Option Entry) → o ≡ Some second → is_first s.entries 0 o ≡ true → ⊥
      go None y z = absurd (cc)
      go (Some p) y z = let all : is_first s.entries 0 (Some second) ≡ true = sym (ap (λ k. is_first s.entries 0 k) y) ∙ z in let parts = and_parts (second.queue == 0) _ all in let bad : false ≡ true = sym none_ahead ∙ parts.1 in absurd (cc)

  -- no other task than the second one is held back
  abbrev pub IsOther : ℕ → Type 0
  IsOther x = u ≡ x → ⊥

  pub keeps_following : KeepsQueue IsOther Follows
  keeps_following = record {
    pushed = follows_pushed;
    own = λ s q x own at h. follows_gone s x (of_other s q x own at h) h;
    asleep = λ s x may h. follows_gone s x (λ same is. may same) h;
    front = λ s x e h. follows_gone s x (front_leaves s x e h) h;
  }

-- ---- no task cuts in

module _ (before : QueueState) (mine : Entry) (fifo : same_sort mine.rank Fifo ≡ true) where
  -- who is in the line before that entry was there before
  abbrev pub WereThere : QueueState → Type 0
  WereThere s = (mine.stamp < s.pushes) × ((u : ℕ) (other : Entry) → entry_of s u ≡ Some other → is_before other mine ≡ true → entry_of before u ≡ Some other)

  pub there_gone : (s : QueueState) (x : ℕ) → WereThere s → WereThere (without_task s x)
  there_gone s x h = (h.0, λ u other is ahead. h.1 u other (left_had s x u other is) ahead)

  -- a new entry comes after it
  comes_after : (s : QueueState) (q : ℕ) → mine.stamp < s.pushes → is_before (next_entry s q Fifo) mine ≡ false
  comes_after s q l = before-asym mine (next_entry s q Fifo) (before_turns mine (next_entry s q Fifo) fifo refl (later_turn mine.rank Fifo mine.stamp s.pushes refl l))

  pub there_pushed : (s : QueueState) (q x : ℕ) → WereThere s → WereThere (after_push s q x Fifo)
  there_pushed s q x h = keeps_if WereThere (is_none (push_refusal s q x Fifo)) (with_place s q x Fifo) s (omega (arith, h.0), new) h
    where
      new : (u : ℕ) (other : Entry) → entry_of (with_place s q x Fifo) u ≡ Some other → is_before other mine ≡ true → entry_of before u ≡ Some other
      new u other is ahead = go (cases_eq u x) (cases_lt x (length s.entries))
        where
          go : (u ≡ x) ⊎ (u ≡ x → ⊥) → (x < length s.entries) ⊎ (length s.entries ≤ x) → entry_of before u ≡ Some other
          go (inl y) (inl l) =
              let e : Some (next_entry s q Fifo) ≡ Some other = sym (ap (λ k. entry_of (with_place s q x Fifo) k) y ∙ get_or-set_same {A = Option Entry} s.entries x (Some (next_entry s q Fifo)) None l) ∙ is in
              let bad : true ≡ false = sym ahead ∙ (ap (λ k. is_before k mine) (sym (same_Some (next_entry s q Fifo) other e)) ∙ comes_after s q h.0) in
              absurd (cc)
          go (inl y) (inr past) = h.1 u other (sym (ap (λ xs. get_or {A = Option Entry} xs u None) (set_past {X = Option Entry} s.entries x (Some (next_entry s q Fifo)) past)) ∙ is) ahead
          go (inr d) l = h.1 u other (sym (get_or-set_other {A = Option Entry} s.entries x u (Some (next_entry s q Fifo)) None d) ∙ is) ahead

  pub keeps_there : KeepsQueue (λ x. Unit {0}) WereThere
  keeps_there = record { pushed = there_pushed; own = λ s q x own at h. there_gone s x h; asleep = λ s x may h. there_gone s x h; front = λ s x e h. there_gone s x h }

-- ---- how many are ahead

-- where each entry that passes the one test, passes the other one there, no more pass it
pub fewer : (f g : Option Entry → Bool) → f None ≡ false → (ys xs : Entries) → ((i : ℕ) → g (get_or ys i None) ≡ true → f (get_or xs i None) ≡ true) → count_by g ys ≤ count_by f xs
fewer f g none [] xs h = omega arith
fewer f g none (y ∷ ys) [] h = go (g y) refl (fewer f g none ys [] (λ i e. h (suc i) e))
  where
    go : (b : Bool) → g y ≡ b → count_by g ys ≤ 0 → count_by g (y ∷ ys) ≤ 0
    go true e rest = let bad : false ≡ true = sym none ∙ h 0 e in absurd (cc)
    go false e rest = omega (arith, sum_by-cons (λ o. one_if (g o)) y ys, rest, ap one_if e)
fewer f g none (y ∷ ys) (x ∷ xs) h = go (g y) refl (fewer f g none ys xs (λ i e. h (suc i) e))
  where
    go : (b : Bool) → g y ≡ b → count_by g ys ≤ count_by f xs → count_by g (y ∷ ys) ≤ count_by f (x ∷ xs)
    go true e rest = omega (arith, sum_by-cons (λ o. one_if (g o)) y ys, sum_by-cons (λ o. one_if (f o)) x xs, rest, ap one_if e, ap one_if (h 0 e))
    go false e rest = omega (arith, sum_by-cons (λ o. one_if (g o)) y ys, sum_by-cons (λ o. one_if (f o)) x xs, rest, ap one_if e)
