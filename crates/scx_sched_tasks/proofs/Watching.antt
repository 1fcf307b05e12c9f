-- That nobody is late where the clocks that are kept for that say so.
use Rattle.std.proofs.Common.{◌≡◌, ℕ, ◌+◌, ◌-◌, ◌*◌, ◌/◌, ◌<◌, ◌≤◌, min, ◌⊎◌, inl, inr, Bool, true, false, nat_lt, List, length, get_or, set, take, drop, replicate, Option, Some, None, refl, sym, ap, ◌∙◌, subst, arith}
use Rattle.std.specs.List.{position}
use Rattle.std.proofs.lemmas.Bool.{cases_eq, cases_lt}
use Rattle.std.proofs.lemmas.Bool.Decides.{nat_tests}
use Rattle.std.proofs.lemmas.List.{get_or-set_same, get_or-set_other, set-get_or, set_past, get_or-replicate, get_or-take, get_or-drop, get_or_past, length-set, length-replicate}
use Rattle.std.proofs.lemmas.List.Quantifiers.{position-Some}
use Rattle.scx_sched_tasks.specs.declared.task.Task.{Task}
use Rattle.scx_sched_tasks.specs.declared.watch.Watch.{Watch}
use Rattle.scx_sched_tasks.specs.Tasks.{no_task, new_task}
use Rattle.scx_sched_tasks.specs.Waits.{is_late, is_overdue}
use Rattle.scx_sched_tasks.specs.Kept.{AreWatched, with_earlier}

-- ---- the first watch

none_waits : (n t : ℕ) → (get_or (replicate n new_task) t no_task).since ≡ None
none_waits n t = go (cases_lt t n)
  where
    go : (t < n) ⊎ (n ≤ t) → (get_or (replicate n new_task) t no_task).since ≡ None
    go (inl l) = rw (get_or-replicate n t new_task no_task l) refl
    go (inr l) = rw (get_or_past (replicate n new_task) t no_task (rw (length-replicate n new_task) l)) refl

-- a watch whose clocks are all the same is right of new tasks, of whom nobody waits
pub none_watched : (w : Watch) (k n : ℕ) → w.oldest ≤ k → w.blocks ≡ replicate 32 k → AreWatched w (replicate n new_task)
none_watched w k n l e = record {
  count = rw (e, length-replicate 32 k) refl;
  least = λ b few. rw (e, get_or-replicate 32 b k 0 few) l;
  each = λ b t x is since. absurd (none_is (none_waits n t) since);
}
  where
    none_is : {o : Option ℕ} {x : ℕ} → o ≡ None → o ≡ Some x → ⊥
    none_is e f = cc

-- ---- records

-- what is so of a record, where one is changed for which it is so
in_set : (P : Task → Type 0) (tasks : List Task) (t u : ℕ) (x : Task) → (u ≡ t → P x) → P (get_or tasks u no_task) → P (get_or (set tasks t x) u no_task)
in_set P tasks t u x new old = go (cases_eq u t) (cases_lt t (length tasks))
  where
    go : (u ≡ t) ⊎ (u ≡ t → ⊥) → (t < length tasks) ⊎ (length tasks ≤ t) → P (get_or (set tasks t x) u no_task)
    go (inl e) (inl within) = rw (e, get_or-set_same tasks t x no_task within) (new e)
    go (inl e) (inr past) = rw (set_past tasks t x past) old
    go (inr d) l = rw (get_or-set_other tasks t u x no_task d) old

-- a clock that is set is at most that one, and a lower one makes none higher
set_most : (xs : List ℕ) (k v : ℕ) → get_or (set xs k v) k 0 ≤ v
set_most xs k v = go (cases_lt k (length xs))
  where
    go : (k < length xs) ⊎ (length xs ≤ k) → get_or (set xs k v) k 0 ≤ v
    go (inl within) = rw (get_or-set_same xs k v 0 within) (omega arith)
    go (inr past) = rw (get_or_past (set xs k v) k 0 (rw (length-set xs k v) past)) (omega arith)

set_lower : (xs : List ℕ) (k v b : ℕ) → v ≤ get_or xs k 0 → get_or (set xs k v) b 0 ≤ get_or xs b 0
set_lower xs k v b l = go (cases_eq b k)
  where
    go : (b ≡ k) ⊎ (b ≡ k → ⊥) → get_or (set xs k v) b 0 ≤ get_or xs b 0
    go (inl e) = rw e (omega (arith, set_most xs k v, l))
    go (inr d) = rw (get_or-set_other xs k b v 0 d) (omega arith)

least_set : (xs : List ℕ) (k v b oldest : ℕ) → b < length xs → (b ≡ k → oldest ≤ v) → oldest ≤ get_or xs b 0 → oldest ≤ get_or (set xs k v) b 0
least_set xs k v b oldest within new old = go (cases_eq b k)
  where
    go : (b ≡ k) ⊎ (b ≡ k → ⊥) → oldest ≤ get_or (set xs k v) b 0
    go (inl e) = rw (e, get_or-set_same xs k v 0 (rw (← e) within)) (new e)
    go (inr d) = rw (get_or-set_other xs k b v 0 d) old

never : {A : Type 0} {o : Option ℕ} {n : ℕ} → o ≡ None → o ≡ Some n → A
never e f = absurd (cc)

same_some : {o : Option ℕ} {m n : ℕ} → o ≡ Some m → o ≡ Some n → m ≡ n
same_some e f = cc

watched_since : (w : Watch) (tasks : List Task) (t : ℕ) (x : Task) (o : Option ℕ) → x.since ≡ o → AreWatched w tasks → AreWatched (with_earlier w t o) (set tasks t x)
watched_since w tasks t x None e h = record {
  count = h.count;
  least = h.least;
  each = λ b u n of is. in_set (λ y. y.since ≡ Some n → get_or w.blocks b 0 ≤ n) tasks t u x (λ _ f. never e f) (h.each b u n of) is;
}
watched_since w tasks t x (Some m) e h =
    let k = t / 32 in
    let v = min (get_or w.blocks k 0) m in
    record {
      count = length-set w.blocks k v ∙ h.count;
      least = λ b few. least_set w.blocks k v b (min w.oldest m) (rw h.count few) (λ same. let x : w.oldest ≤ get_or w.blocks k 0 = rw (← same) (h.least b few) in omega arith) (omega (arith, h.least b few));
      each = λ b u n of is. in_set (λ y. y.since ≡ Some n → get_or (set w.blocks k v) b 0 ≤ n) tasks t u x (λ same f. let here : get_or (set w.blocks k v) b 0 ≤ v = rw (← of, same) (set_most w.blocks k v) in omega (arith, same_some e f)) (λ f. omega (arith, h.each b u n of f, set_lower w.blocks k v b (omega arith))) is;
    }

-- a task has another record
pub watched_set : (w : Watch) (tasks : List Task) (t : ℕ) (x : Task) → AreWatched w tasks → AreWatched (with_earlier w t x.since) (set tasks t x)
watched_set w tasks t x h = watched_since w tasks t x x.since refl h

-- a task has another record, and waits as before
pub watched_same : (w : Watch) (tasks : List Task) (t : ℕ) (x : Task) → x.since ≡ (get_or tasks t no_task).since → AreWatched w tasks → AreWatched w (set tasks t x)
watched_same w tasks t x same h = record {
  count = h.count;
  least = h.least;
  each = λ b u n of is. in_set (λ y. y.since ≡ Some n → get_or w.blocks b 0 ≤ n) tasks t u x (λ here e. h.each b t n (subst (λ k. k / 32 ≡ b) here of) (sym same ∙ e)) (λ e. h.each b u n of e) is;
}

-- a task waits from a clock on
pub watched_begun : (w : Watch) (tasks : List Task) (t n : ℕ) (x : Task) → x.since ≡ Some n → AreWatched w tasks → AreWatched (with_earlier w t (Some n)) (set tasks t x)
watched_begun w tasks t n x e h = watched_since w tasks t x (Some n) e h

-- a task waits no more
pub watched_ended : (w : Watch) (tasks : List Task) (t : ℕ) (x : Task) → x.since ≡ None → AreWatched w tasks → AreWatched w (set tasks t x)
watched_ended w tasks t x e h = watched_since w tasks t x None e h

-- who begins to wait no earlier than the clock of the block changes no clock
pub as_before : (w : Watch) (t n : ℕ) → w.oldest ≤ get_or w.blocks (t / 32) 0 → get_or w.blocks (t / 32) 0 ≤ n → with_earlier w t (Some n) ≡ w
as_before w t n least late =
    let oldest : min w.oldest n ≡ w.oldest = omega (arith, least, late) in
    let here : min (get_or w.blocks (t / 32) 0) n ≡ get_or w.blocks (t / 32) 0 = omega (arith, late) in
    rw (oldest, here, set-get_or w.blocks (t / 32) 0) refl

-- ---- nobody

-- who waits is a task that there is
pub some_known : (tasks : List Task) (t n : ℕ) → (get_or tasks t no_task).since ≡ Some n → t < length tasks
some_known tasks t n is = go (cases_lt t (length tasks))
  where
    go : (t < length tasks) ⊎ (length tasks ≤ t) → t < length tasks
    go (inl l) = l
    go (inr l) = never (ap (λ (y : Task). y.since) (get_or_past tasks t no_task l)) is

in_time : (now limit oldest : ℕ) (o : Option ℕ) → nat_lt limit (now - oldest) ≡ false → ((n : ℕ) → o ≡ Some n → oldest ≤ n) → is_late now limit o ≡ false
in_time now limit oldest None e h = refl
in_time now limit oldest (Some n) e h = grind (arith, nat_tests, h n refl)

-- nobody waits since before the clock that is kept for all
pub waits_since : (w : Watch) (tasks : List Task) → length tasks ≤ 1024 → AreWatched w tasks → (t n : ℕ) → (get_or tasks t no_task).since ≡ Some n → w.oldest ≤ n
waits_since w tasks few h t n is = omega (arith, h.least (t / 32) (omega (arith, some_known tasks t n is, few)), h.each (t / 32) t n refl is)

-- where the clock that is kept for all isn't too long ago
pub nobody_late : (w : Watch) (tasks : List Task) (now limit : ℕ) → length tasks ≤ 1024 → AreWatched w tasks → nat_lt limit (now - w.oldest) ≡ false → position (is_overdue now limit) tasks ≡ None
nobody_late w tasks now limit few h e = go (position (is_overdue now limit) tasks) refl
  where
    timely : (t : ℕ) → t < length tasks → is_overdue now limit (get_or tasks t no_task) ≡ false
    timely t l = in_time now limit w.oldest (get_or tasks t no_task).since e (λ n is. omega (arith, h.least (t / 32) (omega (arith, l, few)), h.each (t / 32) t n refl is))

    go : (o : Option ℕ) → position (is_overdue now limit) tasks ≡ o → o ≡ None
    go None is = refl
    go (Some t) is =
        let x = position-Some (is_overdue now limit) tasks t no_task is in
        absurd (both (timely t x.0) x.1)
      where
        both : {b : Bool} → b ≡ false → b ≡ true → ⊥
        both f g = cc

-- ---- blocks

-- whom a part of the records shows, the whole shows there
pub in_part : (tasks : List Task) (first end b t n since : ℕ) → first ≡ min (b * 32) (length tasks) → end ≡ min (first + 32) (length tasks) → ((i m : ℕ) → (get_or (take (end - first) (drop first tasks)) i no_task).since ≡ Some m → since ≤ m) → t / 32 ≡ b → (get_or tasks t no_task).since ≡ Some n → since ≤ n
in_part tasks first end b t n since f e h of is =
    let known = some_known tasks t n is in
    let after : first ≤ t = omega (arith, of) in
    let before : t - first < end - first = omega (arith, of) in
    let back : first + (t - first) ≡ t = omega arith in
    h (t - first) n (rw (get_or-take (end - first) (drop first tasks) (t - first) no_task before, get_or-drop first tasks (t - first) no_task, back) is)
