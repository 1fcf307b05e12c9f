-- The words of a state don't depend on what is left out, where a form leaves it out of them.
use Rattle.std.proofs.Common.{◌≡◌, ℕ, zero, suc, ◌+◌, ◌*◌, ◌%◌, ◌&&◌, ◌||◌, if◌then◌else◌, not, min, Bool, true, false, cond, nat_lt, List, [], ◌∷◌, ◌++◌, length, Option, Some, None, refl, sym, ap, ◌∙◌, subst, inl, inr}
use Rattle.scx_dsq.specs.declared.entries.Entry.{Entry}
use Rattle.scx_dsq.specs.Queues.{entry_of}
use Rattle.scx_weights.specs.Hierarchy as tree
use Rattle.scx_sched_tasks.specs.declared.task.Task.{Task}
use Rattle.scx_sched_tasks.specs.Waits.{time_since}
use Rattle.scx_sched_world.specs.World.{WorldState, are_linux, marks_of, task_at, cpu_of}
use Rattle.scx_sched_world.specs.Helpers.{cpus_of, alarm_at}
use Rattle.scx_sched.specs.Sim.{SimState}
use Rattle.scx_explore_states.specs.declared.form.Form.{Form}
use Rattle.scx_explore_states.specs.Rows.{kept, slice_kept, is_by_vtime, ahead_of, entries_of, place_of, is_idle, spot_of, bit_of, row_of, no_row, task_row, rows_of}
use Rattle.scx_explore_states.specs.NotZero.{kept_words}
use Rattle.scx_explore_states.specs.Written.{home_at, task_words, time_words, usage_words, marks_words, alarm_words, timer_words, past_tick, map_words, state_words, IsWritten, AreKnown}
use Rattle.scx_explore_findings.specs.HiddenLaws.{LeavesOut, WordsDontDepend}
use Rattle.scx_explore_findings.specs.Hidden.{unless, since_unless, with_tasks}
use Rattle.scx_explore_findings.specs.IdleSlices as idle
use Rattle.scx_explore_findings.specs.IdleSlices.{runs_on, is_put_nowhere, is_idle_of, any_task, AreSame as IdleAreSame}
use Rattle.scx_explore_findings.proofs.IdleRecords.{bits}
use Rattle.scx_explore_findings.proofs.Omitting.{Omitted, omit, length_same, IfAny}
use Rattle.scx_explore_findings.proofs.IdleTasks.{out_busy, off_cpus}
use Rattle.scx_explore_findings.proofs.Worlds.{read, read_busy}
use Rattle.scx_explore_findings.proofs.LeftOut.{omit_machine, parts_alone, parts_same, slices_alone, slices_same}

-- a number that is left out is the same where it is hidden
left_out : (b c : Bool) (n : ℕ) → (b ≡ true → c ≡ false) → kept c n ≡ kept c (unless b n)
left_out false c n e = refl
left_out true c n e = ap (λ (d : Bool). kept d n) (e refl) ∙ sym (ap (λ (d : Bool). kept d 0) (e refl))

-- so is a wait
wait_out : (b c : Bool) (now : ℕ) (o : Option ℕ) → (b ≡ true → c ≡ false) → kept c (time_since now o) ≡ kept c (time_since now (since_unless b o))
wait_out false c now o e = refl
wait_out true c now o e = ap (λ (d : Bool). kept d (time_since now o)) (e refl) ∙ sym (ap (λ (d : Bool). kept d 0) (e refl))

same_if : {A : Type 0} (b c : Bool) (x x' y : A) → b ≡ c → x ≡ x' → cond b x y ≡ cond c x' y
same_if b c x x' y e k = ap (λ (d : Bool). cond d x y) e ∙ ap (λ z. cond c z y) k

none_kept : (b : Bool) (n m : ℕ) → b ≡ false → kept b n ≡ kept b m
none_kept b n m e = ap (λ (c : Bool). kept c n) e ∙ sym (ap (λ (c : Bool). kept c m) e)

-- ---- who is idle by its place

second : (a b : Bool) → (a && b) ≡ true → b ≡ true
second true b e = e
second false b e = absurd (bits false e refl)

both_so : (a b : Bool) → (not a && b) ≡ true → (a ≡ false) × (b ≡ true)
both_so true b e = absurd (bits false e refl)
both_so false b e = (refl, e)

-- a task that is idle counts as idle in its row
idle_by_place : (ids : List ℕ) (w : WorldState) (t : ℕ) (e : Option Entry) → entry_of w.queues t ≡ e → idle.is_idle w t ≡ true → is_idle (place_of ids (cpu_of w t) e) e ≡ true
idle_by_place ids w t e at idle =
    let two = both_so (runs_on t w.cpus) (is_put_nowhere (entry_of w.queues t)) idle in
    ap (λ (o : Option ℕ). is_idle (place_of ids o e) e) (off_cpus t w.cpus two.0) ∙ go e (sym (ap is_put_nowhere at) ∙ two.1)
  where
    go : (o : Option Entry) → is_put_nowhere o ≡ true → is_idle (place_of ids None o) o ≡ true
    go None k = refl
    go (Some x) k = k

-- ---- a state with other records

-- from one state to another with the same homes, masks, entries and words
carried : (f : Form) (ids xs : List ℕ) (s t : SimState) → ((u : ℕ) → home_at s.state.world u ≡ home_at t.state.world u) → ((u : ℕ) → cpus_of s.state.world u ≡ cpus_of t.state.world u) → entries_of s.state.world ≡ entries_of t.state.world
    → ((order : List ℕ) → state_words f (rows_of f s.state.world ids) order s ≡ state_words f (rows_of f t.state.world ids) order t) → IsWritten f ids xs s → IsWritten f ids xs t
carried f ids xs s t homes masks entries words is = record {
  began = is.began;
  order = is.order;
  fair = record { names = is.fair.names; whole = is.fair.whole; alike = λ p l. (sym (homes _) ∙ (is.fair.alike p l).0 ∙ homes p, sym (masks _) ∙ (is.fair.alike p l).1 ∙ masks p) };
  known = subst (AreKnown ids) entries is.known;
  words = is.words ∙ ap (λ (ys : List ℕ). is.began ∷ ys) (words is.order);
}

-- the same is kept of a task in both worlds
abbrev pub IsKeptAlike : Form → List ℕ → WorldState → WorldState → ℕ → Type 0
IsKeptAlike f ids v w t =
    row_of f v t (entry_of v.queues t) (spot_of f v ids (entries_of v) t (entry_of v.queues t))
    ≡ row_of f w t (entry_of w.queues t) (spot_of f w ids (entries_of w) t (entry_of w.queues t))

-- a machine with these records of as many tasks, of each of which the same is kept
module _ (f : Form) (ids : List ℕ) (s : SimState) (xs : List Task) (n : ℕ) (as_many : length s.state.world.tasks ≡ length xs) (row_same : (t : ℕ) → IsKeptAlike f ids s.state.world (with_tasks s.state.world xs) t) where
  abbrev w : WorldState
  w = s.state.world

  abbrev other : WorldState
  other = with_tasks w xs

  abbrev changed : SimState
  changed = record { state = record s.state { world = other }; events = n }

  there_same : (t : ℕ) → nat_lt t (length w.tasks) ≡ nat_lt t (length xs)
  there_same t = ap (λ (m : ℕ). nat_lt t m) as_many

  task_row_same : (t : ℕ) → task_row f w ids t ≡ task_row f other ids t
  task_row_same t = same_if (nat_lt t (length w.tasks)) (nat_lt t (length xs)) _ _ no_row (there_same t) (row_same t)

  rows_same : rows_of f w ids ≡ rows_of f other ids
  rows_same =
      λ i. task_row_same 0 i ∷ task_row_same 1 i ∷ task_row_same 2 i ∷ task_row_same 3 i ∷ task_row_same 4 i ∷ task_row_same 5 i ∷ task_row_same 6 i ∷ task_row_same 7 i ∷ []

  home_same : (t : ℕ) → home_at w t ≡ home_at other t
  home_same t = ap (λ (b : Bool). cond b (cond b (tree.home_of w.tree t) 0) 18446744073709551615) (there_same t)

  timers_same : (m : ℕ) → timer_words w m ≡ timer_words other m
  timers_same zero = refl
  timers_same (suc m) = ap (λ (l : List ℕ). l ++ alarm_words w.clock (alarm_at w m)) (timers_same m)

  words_same : (order : List ℕ) → state_words f (rows_of f w ids) order s ≡ state_words f (rows_of f other ids) order changed
  words_same order =
      let marks = marks_words (marks_of w) in
      let rules : List ℕ → List ℕ = λ ts. if are_linux w.rules then past_tick s.state.policy.tick_ms w.clock ∷ (marks ++ ts) else [] in
      let rest : List ℕ → List ℕ = λ ts. time_words f w ++ (usage_words w ++ (rules ts ++ kept_words f.map_words (map_words s.state.maps))) in
      let timers = timer_words w (length w.timers) in
      ap (λ rows. task_words f rows order (min (length w.tasks) 8) ++ rest timers) rows_same
      ∙ ap (λ (m : ℕ). task_words f (rows_of f other ids) order (min m 8) ++ rest timers) as_many
      ∙ ap (λ (ts : List ℕ). task_words f (rows_of f other ids) order (min (length xs) 8) ++ rest ts) (timers_same (length w.timers))

  -- is written as the same words
  pub shown : (ys : List ℕ) → IsWritten f ids ys s → IsWritten f ids ys changed
  shown ys = carried f ids ys s changed home_same (λ u. refl) refl words_same

  pub found : (ys : List ℕ) → IsWritten f ids ys changed → IsWritten f ids ys s
  found ys = carried f ids ys changed s (λ u. sym (home_same u)) (λ u. refl) refl (λ order. sym (words_same order))

-- ---- what is left out

module _ (h : Omitted) (f : Form) (out : LeavesOut f h.parts) (slices : IfAny h.idle (f.idle_slices ≡ false)) (ids : List ℕ) where
  -- ---- what is kept of a task

  -- the number of the place where it is, by its record
  abbrev number_by : WorldState → List (Option Entry) → ℕ → Option Entry → Task → ℕ
  number_by w es t e x =
      min (kept f.waits (time_since w.clock x.since)) 65535 * 65536 + place_of ids (cpu_of w t) e * 256 + x.prev_cpu % 16 * 16 + ahead_of es e * 2 + bit_of (is_by_vtime e)

  row_same : (w : WorldState) (es : List (Option Entry)) (t : ℕ) (e : Option Entry) → entry_of w.queues t ≡ e → row_of f w t e (spot_of f w ids es t e) ≡ row_of f (omit h w) t e (spot_of f (omit h w) ids es t e)
  row_same w es t e at = λ i. record (row_of f w t e (spot_of f w ids es t e)) { spot = spot i; slice = slice i; vtime = vtime i; run_ns = run_ns i }
    where
      there : Task
      there = task_at (omit h w) t

      spot : number_by w es t e (task_at w t) ≡ number_by w es t e there
      spot = read h (number_by w es t e) (λ x. ap (λ (n : ℕ). min n 65535 * 65536 + place_of ids (cpu_of w t) e * 256 + x.prev_cpu % 16 * 16 + ahead_of es e * 2 + bit_of (is_by_vtime e)) (wait_out h.parts.waits f.waits w.clock x.since out.waits)) (λ x. refl) w t

      sliced : Task → ℕ
      sliced x = kept (f.idle_slices || not (is_idle (place_of ids (cpu_of w t) e) e)) (slice_kept f.slices x.slice)

      slice : sliced (task_at w t) ≡ sliced there
      slice = go (is_idle_of h.idle w t) refl slices
        where
          go : (b : Bool) → is_idle_of h.idle w t ≡ b → IfAny h.idle (f.idle_slices ≡ false) → sliced (task_at w t) ≡ sliced there
          go false busy any = read_busy h sliced (λ x. refl) w t busy
          go true resting (inl none) = absurd (bits (is_idle_of h.idle w t) resting (out_busy h.idle w t (none t)))
          go true resting (inr less) =
              none_kept (f.idle_slices || not (is_idle (place_of ids (cpu_of w t) e) e)) (slice_kept f.slices (task_at w t).slice) (slice_kept f.slices there.slice)
              (ap (λ (a : Bool). a || not (is_idle (place_of ids (cpu_of w t) e) e)) less ∙ ap not (idle_by_place ids w t e at (second (h.idle t) (idle.is_idle w t) resting)))

      vtime : kept f.vtime (task_at w t).vtime ≡ kept f.vtime there.vtime
      vtime = read h (λ x. kept f.vtime x.vtime) (λ x. left_out h.parts.vtime f.vtime x.vtime out.vtime) (λ x. refl) w t

      run_ns : kept f.run_ns (task_at w t).run_ns ≡ kept f.run_ns there.run_ns
      run_ns = read h (λ x. kept f.run_ns x.run_ns) (λ x. left_out h.parts.run_ns f.run_ns x.run_ns out.run_ns) (λ x. refl) w t

  many_same : (w : WorldState) → length w.tasks ≡ length (omit h w).tasks
  many_same w = length_same h.parts (is_idle_of h.idle w) w.tasks

  shown_less : (xs : List ℕ) (s : SimState) → IsWritten f ids xs s → IsWritten f ids xs (omit_machine h s)
  shown_less xs s = shown f ids s (omit h s.state.world).tasks s.events (many_same s.state.world) (λ t. row_same s.state.world (entries_of s.state.world) t (entry_of s.state.world.queues t) refl) xs

  found_less : (xs : List ℕ) (s : SimState) → IsWritten f ids xs (omit_machine h s) → IsWritten f ids xs s
  found_less xs s = found f ids s (omit h s.state.world).tasks s.events (many_same s.state.world) (λ t. row_same s.state.world (entries_of s.state.world) t (entry_of s.state.world.queues t) refl) xs

-- machines that are the same but for what is hidden are written as the same words
pub words_dont_depend : WordsDontDepend
words_dont_depend h f ids xs s t out same is =
    let alike = parts_same h s t same in
    found_less (parts_alone h) f out (inl (λ u. refl)) ids xs t (subst (IsWritten f ids xs) alike (shown_less (parts_alone h) f out (inl (λ u. refl)) ids xs s is))

-- and those that are the same but for slices of idle tasks, where a form leaves these out
pub idle_written : (f : Form) (ids xs : List ℕ) (s t : SimState) → f.idle_slices ≡ false → IdleAreSame s t → IsWritten f ids xs s → IsWritten f ids xs t
idle_written f ids xs s t less same is =
    let h = slices_alone any_task in
    let alike = slices_same any_task s t same in
    found_less h f (keeps f) (inr less) ids xs t (subst (IsWritten f ids xs) alike (shown_less h f (keeps f) (inr less) ids xs s is))
  where
    keeps : (f : Form) → LeavesOut f (slices_alone any_task).parts
    keeps f = record { run_ns = λ e. absurd (bits false e refl); vtime = λ e. absurd (bits false e refl); waits = λ e. absurd (bits false e refl) }
