-- What holds between two events is kept by each small step of a world.
use Rattle.std.proofs.Common.{◌≡◌, ℕ, ◌+◌, ◌*◌, ◌≤◌, arith, nat_lt, ◌==◌, List, length, set, get_or, Option, Some, None, refl, ◌∙◌, ap}
use Rattle.scx_sched_tasks.specs.declared.task.Task.{Task}
use Rattle.scx_sched_tasks.specs.Tasks.{no_task}
use Rattle.scx_weights.specs.Limits.{usage_of}
use Rattle.scx_sched_world.specs.World.{WorldState, with_task, task_at}
use Rattle.scx_sched_world.specs.Tasks.{with_home, with_slice, fill_front, with_new_slice}
use Rattle.scx_sched_machine.proofs.Choices.{keeps_if}
use Rattle.scx_sched.specs.Once.{IsSound}
use Rattle.scx_sched_world.specs.Ejecting.{put_builtin, used_vtime, after_charge}
use Rattle.scx_sched.specs.Ranges.{IsFresh, IsFine}
use Rattle.scx_sched.specs.Kept.{IsKeptBySteps}
use Rattle.scx_sched.specs.Usages.{AreWithin}
use Rattle.scx_sched.proofs.Marks.{kept_cycling}
use Rattle.scx_sched.proofs.Bounded.{within_begun, within_ended}
use Rattle.scx_sched.proofs.Parking.{sound_put_parked, sound_leaves}
use Rattle.scx_sched.proofs.Sound.{sound_query, sound_begun, sound_quiet, sound_cycling, sound_ended, sound_entered, sound_filled, sound_stopped, sound_started, sound_ran, sound_marks, sound_sets, sound_waker, sound_moves, sound_timed, sound_wants, sound_kept, sound_asleep, sound_put_out, sound_evict, sound_cut, sound_put_builtin, sound_overtaken, sound_charged, given_home, renewed_home}
use Rattle.scx_sched.specs.Allowed.{IsAllowedIn}
use Rattle.scx_sched.proofs.Allowing.{allowed_query, allowed_begun, allowed_task, allowed_same, allowed_wants, allowed_entered, allowed_filled, allowed_stopped, allowed_started, allowed_ran, allowed_parked, allowed_left, allowed_asleep, allowed_out, allowed_evict, allowed_put_builtin}
use Rattle.scx_sched.proofs.Queries.{KeepsBuiltin, KeepsQueries, off_queues, kept_enter, kept_brought, kept_query, kept_put_builtin, kept_evict}
use Rattle.scx_sched.proofs.Written.{each_written}

-- ---- each task

-- what is so of each task is so of each where one is changed for which it is so
each_set : (P : Task → Type 0) (tasks : List Task) (t : ℕ) (x : Task) → P x → ((u : ℕ) → P (get_or tasks u no_task)) → (u : ℕ) → P (get_or (set tasks t x) u no_task)
each_set P tasks t x new old u = each_written (λ k (y : Task). P y) tasks t x no_task new old u

-- ---- how long a task has run

-- a new slice leaves it how long the task has run
pub renewed_run : (x : Task) → (with_new_slice x).run_ns ≡ x.run_ns
renewed_run x = keeps_if (λ (y : Task). y.run_ns ≡ x.run_ns) (x.slice == 0) _ x refl refl

-- ---- ranges

-- the clock, run times, built-in times and usages are in range
abbrev pub IsRange : ℕ → ℕ → List (Option ℕ) → WorldState → Type 0
IsRange e m on w =
    (w.clock ≤ e) × ((t : ℕ) → (task_at w t).run_ns ≤ 1000000 * e) × ((t : ℕ) → (task_at w t).builtin ≤ 2000000000 * m) × (w.builtin_clock ≤ 2000000000 * m) × (w.ejected ≡ None → IsFresh w) × ((g : ℕ) → usage_of w.tree g ≤ e) × AreWithin w.tree on

-- how far numbers have grown is part of it
pub range_of : (n e m : ℕ) (hand : Option ℕ) (on : List (Option ℕ)) (w : WorldState) → IsFine n e m hand on w → IsRange e m on w
range_of n e m hand on w h = (h.clock, h.runs, h.times, h.builtin_clock, h.not_yet, h.used, h.within)

-- and with what is sound it is all of it
pub fine_of : (n e m : ℕ) (hand : Option ℕ) (on : List (Option ℕ)) (w : WorldState) → IsSound hand on n w → IsAllowedIn on n w → IsRange e m on w → IsFine n e m hand on w
fine_of n e m hand on w s a r = record { sound = s; allowed = a; clock = r.0; runs = r.1; times = r.2; builtin_clock = r.3; not_yet = r.4; used = r.5; within = r.6 }

-- others run, and usages are within their bounds still
pub range_on : (e m : ℕ) (on on' : List (Option ℕ)) (w : WorldState) → AreWithin w.tree on' → IsRange e m on w → IsRange e m on' w
range_on e m on on' w within r = (r.0, r.1, r.2, r.3, r.4, r.5, within)

module _ (e m : ℕ) (on : List (Option ℕ)) where
  -- another record of a task: how long it has run, and its built-in time, which is 0 up to an ejection
  range_set : (w : WorldState) (t : ℕ) (x : Task) → x.run_ns ≤ 1000000 * e → x.builtin ≤ 2000000000 * m → (w.ejected ≡ None → x.builtin ≡ 0) → IsRange e m on w → IsRange e m on (with_task w t x)
  range_set w t x run time none r = (
    r.0,
    each_set (λ y. y.run_ns ≤ 1000000 * e) w.tasks t x run r.1,
    each_set (λ y. y.builtin ≤ 2000000000 * m) w.tasks t x time r.2,
    r.3,
    λ force. let f = r.4 force in (f.0, each_set (λ y. y.builtin ≡ 0) w.tasks t x (none force) f.1),
    r.5,
    r.6,
  )

  -- a task whose built-in time stays
  pub range_task : (w : WorldState) (t : ℕ) (x : Task) → x.run_ns ≤ 1000000 * e → x.builtin ≡ (task_at w t).builtin → IsRange e m on w → IsRange e m on (with_task w t x)
  range_task w t x new same r = range_set w t x new (rw same (r.2 t)) (λ force. same ∙ (r.4 force).1 t) r

  -- and that has run as long
  pub range_same : (w : WorldState) (t : ℕ) (x : Task) → x.run_ns ≡ (task_at w t).run_ns → x.builtin ≡ (task_at w t).builtin → IsRange e m on w → IsRange e m on (with_task w t x)
  range_same w t x run same r = range_task w t x (rw run (r.1 t)) same r

  -- as a query makes one of its small changes, no number grows
  range_kept : KeepsQueries (IsRange e m on)
  range_kept = off_queues (IsRange e m on) (λ w x other r. r) (λ w n o later r. r) (λ w t s k c r. range_same w t _ refl refl r) (λ w q i v a b c d n ns r. r)

  renewed_time : (x : Task) → (with_new_slice x).builtin ≡ x.builtin
  renewed_time x = keeps_if (λ (y : Task). y.builtin ≡ x.builtin) (x.slice == 0) _ x refl refl

  -- ---- the built-in scheduler

  range_builtin : KeepsBuiltin (IsRange e m on)
  range_builtin w t r = range_set w t _ (r.1 t) (omega (arith, r.2 t, r.3)) (λ force. let f = r.4 force in rw (f.0, f.1 t) refl) r

  -- nobody uses more than a whole slice at the least weight
  used_most : (w : WorldState) (t : ℕ) → used_vtime w t ≤ 2000000000
  used_most w t = omega arith

  -- an ejected scheduler's times may grow
  range_charged : (w : WorldState) (t : ℕ) → used_vtime w t ≤ 2000000000 → (w.ejected ≡ None → ⊥) → IsRange e m on w → IsRange e (m + 1) on (after_charge w t)
  range_charged w t most out r = (
    r.0,
    each_set (λ y. y.run_ns ≤ 1000000 * e) w.tasks t _ (r.1 t) r.1,
    each_set (λ y. y.builtin ≤ 2000000000 * (m + 1)) w.tasks t _ (omega (arith, r.2 t, most)) (λ u. omega (arith, r.2 u)),
    omega (arith, r.3),
    λ force. absurd (out force),
    r.5,
    r.6,
  )

-- the law of steps
pub fine_steps : (n e : ℕ) → IsKeptBySteps n (IsFine n e)
fine_steps n e = record {
  more = λ m hand on w h. fine_of n e (m + 1) hand on w h.sound h.allowed (h.clock, h.runs, λ t. omega (arith, h.times t), omega (arith, h.builtin_clock), h.not_yet, h.used, h.within);
  known = λ m hand on w h. h.sound.tasks;
  query = λ m hand on w q h. fine_of n e m hand on _ (sound_query hand on n w q h.sound) (allowed_query on n w q (ap (λ (xs : List (Option ℕ)). length xs) h.sound.cpus) h.allowed) (kept_query (IsRange e m on) (range_kept e m on) w q (range_of n e m hand on w h));
  begun = λ m hand on w b t c l h. fine_of n e m hand on _ (sound_begun hand on n w b t c l h.sound) (allowed_begun on n w b t c h.allowed) (range_of n e m hand on w h);
  quiet = λ m hand on w h. fine_of n e m hand on _ (sound_quiet hand on n w h.sound) (record { runs = h.allowed.runs; local = h.allowed.local; home = h.allowed.home; asks = h.allowed.asks }) (range_of n e m hand on w h);
  moved = λ m hand on w b h. fine_of n e m hand on _ (sound_moves hand on n w b h.sound) (record { runs = h.allowed.runs; local = h.allowed.local; home = h.allowed.home; asks = h.allowed.asks }) (range_of n e m hand on w h);
  cancelled = λ m hand on w t h. fine_of n e m hand on _ (sound_timed hand on n w t None (λ a e. absurd (cc)) h.sound) (record { runs = h.allowed.runs; local = h.allowed.local; home = h.allowed.home; asks = h.allowed.asks }) (range_of n e m hand on w h);
  cycling = λ m hand on w o h. fine_of n e m hand on _ (sound_cycling hand on n w o h.sound) (kept_cycling (IsAllowedIn on n) (λ v p a x waker r. record { runs = r.runs; local = r.local; home = r.home; asks = r.asks }) w o h.allowed) (kept_cycling (IsRange e m on) (λ v p a x waker r. r) w o (range_of n e m hand on w h));
  ended = λ m hand on w h. fine_of n e m hand on _ (sound_ended hand on n w h.sound) (record { runs = h.allowed.runs; local = h.allowed.local; home = h.allowed.home; asks = h.allowed.asks }) (range_of n e m hand on w h);
  sets = λ m hand on w a b c d o waker h. fine_of n e m hand on _ (sound_sets hand on n w a b c d o waker h.sound) (record { runs = h.allowed.runs; local = h.allowed.local; home = h.allowed.home; asks = h.allowed.asks }) (range_of n e m hand on w h);
  wakes = λ m hand on w o l h. fine_of n e m hand on _ (sound_waker hand on n w o l h.sound) (record { runs = h.allowed.runs; local = h.allowed.local; home = h.allowed.home; asks = h.allowed.asks }) (range_of n e m hand on w h);
  homed = λ m hand on w t c l may h. fine_of n e m hand on _ ((sound_marks hand on n).homed w t c l h.sound) (allowed_task on n w t (with_home (task_at w t) c) (λ l. may) h.allowed) (range_same e m on w t _ refl refl (range_of n e m hand on w h));
  sliced = λ m hand on w t k h. fine_of n e m hand on _ ((sound_marks hand on n).sliced w t k h.sound) (allowed_same on n w t (with_slice (task_at w t) k) refl h.allowed) (range_same e m on w t _ refl refl (range_of n e m hand on w h));
  wants = λ m hand on w c l calm may h. fine_of n e m hand on _ (sound_wants hand on n w c l calm h.sound) (allowed_wants on n w c may h.allowed) (range_of n e m hand on w h);
  entered = λ m on w t i l x may h. fine_of n e m None on _ (sound_entered on n w t i l x h.sound) (allowed_entered on n w t i (given_home (task_at w t) i) (ap (λ (xs : List (Option ℕ)). length xs) h.sound.cpus) may h.allowed) (kept_enter (IsRange e m on) (range_kept e m on) w t i (range_of n e m (Some t) on w h));
  filled = λ m on w q c apart l h. fine_of n e m None on _ (sound_filled on n w q c apart l h.sound) (allowed_filled on n w q c h.allowed) (kept_brought (IsRange e m on) (range_kept e m on) (fill_front w q c) w c (range_of n e m None on w h));
  stopped = λ m on w c t l within runs h. fine_of n e m (Some t) (set on c None) _ (sound_stopped on n w c t l within runs h.sound) (allowed_stopped on n w c t h.allowed) (range_same e m (set on c None) w t _ refl refl (range_on e m on (set on c None) w (within_ended w.tree on c l h.within) (range_of n e m None on w h)));
  started = λ m on w c t l free front may h. fine_of n e m None (set on c (Some t)) _ (sound_started on n w c t l free front h.sound) (allowed_started on n w c t l front h.allowed) (range_same e m (set on c (Some t)) w t _ refl refl (range_on e m on (set on c (Some t)) w (within_begun w.tree on c t l free may h.within) (range_of n e m None on w h)));
  ran = λ m on w c t l free here may h. fine_of n e m None (set on c (Some t)) _ (sound_ran on n w c t l free here h.sound) (allowed_ran on n w c t l here h.allowed) (range_same e m (set on c (Some t)) w t _ refl refl (range_on e m on (set on c (Some t)) w (within_begun w.tree on c t l free may h.within) (range_of n e m None on w h)));
  put_parked = λ m on w t l may-not h. let r = range_of n e m (Some t) on w h in fine_of n e m None on _ (sound_put_parked on n w t l h.sound) (allowed_parked on n w t h.allowed) (keeps_if (IsRange e m on) (nat_lt t (length w.tasks)) _ w (range_same e m on w t _ refl refl r) r);
  left = λ m on w q t apart there h. fine_of n e m (Some t) on _ (sound_leaves on n w q t there apart h.sound) (allowed_left on n w t h.allowed) (range_of n e m None on w h);
  kept = λ m on w t h. fine_of n e m None on _ (sound_kept on n w t h.sound) (allowed_same on n w t (with_new_slice (task_at w t)) (renewed_home (task_at w t)) h.allowed) (range_same e m on w t (with_new_slice (task_at w t)) (renewed_run (task_at w t)) (renewed_time e m on (task_at w t)) (range_of n e m None on w h));
  asleep = λ m on w t l h. let r = range_of n e m (Some t) on w h in fine_of n e m None on _ (sound_asleep on n w t l h.sound) (allowed_asleep on n w t h.allowed) (keeps_if (IsRange e m on) (nat_lt t (length w.tasks)) _ w (range_same e m on w t _ refl refl r) r);
  put_out = λ m hand on w x h. fine_of n e m hand on _ (sound_put_out hand on n w x h.sound) (allowed_out on n w x h.allowed) (h.clock, h.runs, h.times, h.builtin_clock, (λ force. absurd (cc)), h.used, h.within);
  evict = λ m hand on w t l h. fine_of n e m hand on _ (sound_evict hand on n w t l h.sound) (allowed_evict on n w t h.allowed) (kept_evict (IsRange e m on) (range_kept e m on) (range_builtin e m on) w t (range_of n e m hand on w h));
  cut = λ m hand on w t h. fine_of n e m hand on _ (sound_cut hand on n w t h.sound) (allowed_same on n w t _ refl h.allowed) (range_same e m on w t _ refl refl (range_of n e m hand on w h));
  put_builtin = λ m on w t l h. fine_of n e m None on _ (sound_put_builtin on n w t l h.sound) (allowed_put_builtin on n w t h.allowed) (kept_put_builtin (IsRange e m on) (range_kept e m on) (range_builtin e m on) w t (range_of n e m (Some t) on w h));
  overtaken = λ m hand on w t h. fine_of n e m hand on _ (sound_overtaken hand on n w t h.sound) (record { runs = h.allowed.runs; local = h.allowed.local; home = h.allowed.home; asks = h.allowed.asks }) (h.clock, h.runs, h.times, omega (arith, h.builtin_clock, h.times t), (λ force. let f = h.not_yet force in (rw (f.0, f.1 t) refl, f.1)), h.used, h.within);
  charged = λ m hand on w t out h. fine_of n e (m + 1) hand on _ (sound_charged hand on n w t h.sound) (allowed_same on n w t _ refl h.allowed) (range_charged e m on w t (used_most e m on w t) (λ force. absurd (cc)) (range_of n e m hand on w h));
}
