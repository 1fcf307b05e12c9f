-- Whom the watchdog finds is the first who has waited for too long.
use Rattle.std.proofs.Common.{◌≡◌, ℕ, ◌<◌, ◌≤◌, ◌⊎◌, inl, inr, Bool, true, false, nat_lt, length, List, Option, Some, None, cond, refl, ◌∙◌, ap, arith}
use Rattle.scx_sched.proofs.Timely.{not_late}
use Rattle.std.specs.List.{position, position_or_len}
use Rattle.std.proofs.lemmas.Bool.{cases_lt}
use Rattle.std.proofs.lemmas.Bool.Decides.{nat_tests}
use Rattle.std.proofs.lemmas.List.Quantifiers.{position-Some}
use Rattle.std.proofs.lemmas.List.Sums.{position_or_len_is, fails_before_first}
use Rattle.scx_sched_tasks.specs.declared.task.Task.{Task}
use Rattle.scx_sched_tasks.specs.Tasks.{no_task}
use Rattle.scx_sched_tasks.specs.Waits.{time_since, is_late, is_overdue}
use Rattle.scx_sched_world.specs.World.{WorldState, task_at, wait}
use Rattle.scx_sched_world.specs.Waits.{first_overdue, IsFirstOverdue}

-- ---- who is late

late : (now limit : ℕ) (o : Option ℕ) → is_late now limit o ≡ true → limit < time_since now o
late now limit None e = absurd (cc)
late now limit (Some n) e = grind (arith, nat_tests, e)

late_of : (now limit : ℕ) (o : Option ℕ) → limit < time_since now o → is_late now limit o ≡ true
late_of now limit None l = absurd (omega (arith, l))
late_of now limit (Some n) l = grind (arith, nat_tests, l)

pub in_time_of : (now limit : ℕ) (o : Option ℕ) → time_since now o ≤ limit → is_late now limit o ≡ false
in_time_of now limit None l = refl
in_time_of now limit (Some n) l = grind (arith, nat_tests, l)

-- ---- the first place at which a test passes

none_at : (p : Task → Bool) (xs : List Task) → position_or_len p xs ≡ length xs → position p xs ≡ None
none_at p xs e = let b : nat_lt (position_or_len p xs) (length xs) ≡ false = grind (arith, nat_tests, e) in ap (λ x. cond x (Some (position_or_len p xs)) None) b

some_at : (p : Task → Bool) (xs : List Task) (t : ℕ) → position_or_len p xs ≡ t → t < length xs → position p xs ≡ Some t
some_at p xs t e l = let b : nat_lt (position_or_len p xs) (length xs) ≡ true = grind (arith, nat_tests, e, l) in ap (λ x. cond x (Some (position_or_len p xs)) None) b ∙ ap Some e

past_end : (p : Task → Bool) (xs : List Task) → position p xs ≡ None → length xs ≤ position_or_len p xs
past_end p xs = go (cases_lt (position_or_len p xs) (length xs))
  where
    some : Some (position_or_len p xs) ≡ None → ⊥
    some x = absurd (cc)

    go : (position_or_len p xs < length xs) ⊎ (length xs ≤ position_or_len p xs) → cond (nat_lt (position_or_len p xs) (length xs)) (Some (position_or_len p xs)) None ≡ None → length xs ≤ position_or_len p xs
    go (inl l) = let b : nat_lt (position_or_len p xs) (length xs) ≡ true = grind (arith, nat_tests, l) in rw b (λ e. absurd (some e))
    go (inr l) = λ e. l

-- ---- the watchdog

-- whom it finds is overdue, and nobody of a lesser number is
pub is_first : (w : WorldState) (limit t : ℕ) → first_overdue w limit ≡ Some t → IsFirstOverdue w limit t
is_first w limit t e =
    let f = position-Some (is_overdue w.clock limit) w.tasks t no_task e in
    record { known = f.0; over = late w.clock limit (task_at w t).since f.1; least = λ u l. not_late w.clock limit (task_at w u).since (f.2 u l) }

-- where it finds nobody, nobody is
pub nobody_late : (w : WorldState) (limit : ℕ) → first_overdue w limit ≡ None → (t : ℕ) → t < length w.tasks → wait w t ≤ limit
nobody_late w limit e t l =
    let end = past_end (is_overdue w.clock limit) w.tasks e in
    not_late w.clock limit (task_at w t).since (fails_before_first (is_overdue w.clock limit) w.tasks t no_task (omega (arith, l, end)))

-- and so it finds the first one
pub only_first : (w : WorldState) (limit t : ℕ) → IsFirstOverdue w limit t → first_overdue w limit ≡ Some t
only_first w limit t h =
    let l : t ≤ length w.tasks = let k = h.known in omega (arith, k) in
    some_at (is_overdue w.clock limit) w.tasks t
    (position_or_len_is (is_overdue w.clock limit) w.tasks t no_task l (λ u m. in_time_of w.clock limit (task_at w u).since (h.least u m)) (λ m. late_of w.clock limit (task_at w t).since h.over)) h.known

-- or nobody
pub only_nobody : (w : WorldState) (limit : ℕ) → ((t : ℕ) → t < length w.tasks → wait w t ≤ limit) → first_overdue w limit ≡ None
only_nobody w limit h =
    none_at (is_overdue w.clock limit) w.tasks
    (position_or_len_is (is_overdue w.clock limit) w.tasks (length w.tasks) no_task (omega arith) (λ u m. in_time_of w.clock limit (task_at w u).since (h u m)) (λ m. absurd (omega (arith, m))))
