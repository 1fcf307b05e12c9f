-- Two machines that are written as the same words, by a form that keeps everything, are the same but for unread parts, once one is as late as the other.
use Rattle.std.proofs.Common.{◌≡◌, ℕ, zero, suc, ◌+◌, ◌%◌, ◌<◌, ◌≤◌, ◌==◌, ◌&&◌, ◌||◌, if◌then◌else◌, Bool, true, false, not, List, [], ◌∷◌, length, map, drop, get_or, Option, Some, None, is_some, is_none, refl, sym, ap, ◌∙◌, subst, arith, ⊎_elim}
use Rattle.std.specs.Prelude.{min, IfSome, option_map}
use Rattle.std.proofs.lemmas.Bool.{cases_lt, eqb-true}
use Rattle.std.proofs.lemmas.List.{length-append, ext_get_or}
use Rattle.std.proofs.lemmas.List.Elements.{All-get_or}
use Rattle.scx_dsq.specs.declared.entries.Entry.{Entry}
use Rattle.scx_dsq.specs.Laws as queues
use Rattle.scx_dsq.specs.Queues.{entry_of}
use Rattle.scx_isa_semantics.specs.Effects.{Query}
use Rattle.scx_maps.specs.declared.shape.Shape.{Shape}
use Rattle.scx_weights.specs.declared.group.Group.{Group}
use Rattle.scx_weights.specs.Hierarchy.{Hierarchy}
use Rattle.scx_weights.specs.Limits.{has_quota, usage_of}
use Rattle.scx_sched_tasks.specs.declared.task.Task.{Task}
use Rattle.scx_sched_tasks.specs.Tasks.{no_task}
use Rattle.scx_sched_tasks.specs.Waits.{time_since}
use Rattle.scx_sched_world.specs.declared.notes.Note.{Note}
use Rattle.scx_sched_world.specs.declared.timers.Alarm.{Alarm}
use Rattle.scx_sched_world.specs.World.{WorldState, are_linux, is_by_linux, nothing_passes, task_at, waits_in, wait, is_this, cpu_of}
use Rattle.scx_sched_world.specs.Tasks.{with_slice}
use Rattle.scx_sched_policy.specs.Policy.{PolicyState}
use Rattle.scx_sched.specs.Once.{IsOnce, IsSound}
use Rattle.scx_sched.specs.Ranges.{IsFresh}
use Rattle.scx_sched.specs.Sim.{SimState}
use Rattle.scx_sched.specs.Timers.{AreTimersLater}
use Rattle.scx_explore_states.specs.declared.form.Form.{Form}
use Rattle.scx_explore_states.specs.Rows.{kept, bit_of, is_endless, slice_kept, waiting_key, ahead_of, entries_of, place_of, is_idle}
use Rattle.scx_explore_states.specs.Telling.{AreOfOneShape, IsKeptAlike, KeepTheSame, place_at}
use Rattle.scx_explore_states.specs.Words.{most_queues, number_in}
use Rattle.scx_explore_states.specs.Written.{used_words, AreKnown, IsWritten}
use Rattle.scx_explore_states.proofs.Telling.{words_tell}
use Rattle.scx_explore_findings.specs.Between.{IsQuiet}
use Rattle.scx_explore_findings.specs.Delayed.{IsWholeTicks, later_by, delayed_task, delayed_alarm, delayed_eject, delayed_note, delay_machine}
use Rattle.scx_explore_findings.specs.QueueOrder.{place_in, leads, unnumbered, AreAsQueues}
use Rattle.scx_explore_findings.specs.Hidden.{Hidden, unless, since_unless, hidden_in, all_hidden, with_tasks}
use Rattle.scx_explore_findings.specs.HiddenMachines.{hide_machine}
use Rattle.scx_explore_findings.specs.UnreadParts.{AreSame}
use Rattle.scx_explore_findings.specs.FifoOnly.{InsertInOrder}
use Rattle.scx_explore_findings.specs.WholeForms.{DrawNone, IsWholeBy, HasFew, IsSince, IsTidy, AreMapsOf}
use Rattle.scx_explore_findings.specs.IdleSlices as idle
use Rattle.scx_explore_findings.specs.IdleSlices.{runs_on, is_put_nowhere, is_idle_of, sliceless_if, without_slices, any_task}
use Rattle.scx_explore_findings.proofs.IdleRecords.{read_at, length_same}
use Rattle.scx_explore_findings.proofs.IdleTasks.{on_one, none_on}
use Rattle.scx_explore_findings.proofs.DelayedTasks.{as_long, found_at, as_late}
use Rattle.scx_explore_findings.proofs.SameQueues.{queue_same}
use Rattle.scx_explore_findings.proofs.OrderTold.{order_told, at_eight}
use Rattle.scx_explore_findings.proofs.PlacesTold.{IsSmall, IsKnown, place_tells_cpu, place_tells_entry}
use Rattle.scx_explore_findings.proofs.CpusTold.{cpus_told}
use Rattle.scx_explore_findings.proofs.TasksTold.{since_told, task_told}
use Rattle.scx_explore_findings.proofs.MapsTold.{last_two}
use Rattle.scx_explore_findings.proofs.LinuxTold.{AreToldAlike, kept_both, linux_told, timers_told}
use Rattle.scx_explore_findings.proofs.TicksTold.{ticks_told}
use Rattle.scx_explore_findings.proofs.Lent.{lent_slice, lent_is, lent_at, lent, lent_task, lent_long}
use Rattle.scx_explore_findings.proofs.KeysTold.{maps_told}
use Rattle.scx_explore_findings.proofs.RunsTold.{cpu_there, run_once, runner_waits_not, runnable_told}
use Rattle.scx_explore_findings.proofs.WorldSizes.{HasSize}

-- what is known of a machine that events have led to from that one, while the policy is in force
pub record IsSuited (shapes : List Shape) (root s : SimState) : Type 0 where
  pub policy : s.state.policy ≡ root.state.policy
  pub size : HasSize root.state.world s.state.world
  pub sound : IsSound None s.state.world.cpus (length root.state.world.tasks) s.state.world
  pub fresh : IsFresh s.state.world
  pub timely : (t : ℕ) → wait s.state.world t ≤ 30000
  pub still : s.state.world.cycling ≡ None
  pub settled : s.state.world.passing ≡ nothing_passes
  pub rules : s.state.world.rules ≡ root.state.world.rules
  pub quiet : IsQuiet root.state.world.tracks_idle s.state.world
  pub force : s.state.world.ejected ≡ None
  pub tidy : IsTidy root.state.world.tree s.state.world
  pub queues : queues.IsSound s.state.world.queues
  pub maps : AreMapsOf shapes s.state.maps
  pub timers : AreTimersLater s.state.world
  pub random : DrawNone root.state.policy → s.state.world.random ≡ root.state.world.random
  pub order : InsertInOrder root.state.policy → (k : ℕ) → waiting_key (entry_of s.state.world.queues k) ≡ 0

-- ---- numbers

-- true is so
abbrev IsSo : Bool → Type 0
IsSo true = Unit {0}
IsSo false = ⊥

false_isnt_so : false ≡ true → ⊥
false_isnt_so e = subst IsSo (sym e) tt

kept_is : (a b : Bool) (x y : ℕ) → a ≡ true → b ≡ true → kept a x ≡ kept b y → x ≡ y
kept_is true true x y e f same = same
kept_is true false x y e f same = absurd (false_isnt_so f)
kept_is false b x y e f same = absurd (false_isnt_so e)

unless_same : (b : Bool) (x y : ℕ) → (b ≡ false → x ≡ y) → unless b x ≡ unless b y
unless_same true x y k = refl
unless_same false x y k = k refl

or_true : (a b : Bool) → a ≡ true → (a || b) ≡ true
or_true true b e = refl
or_true false b e = absurd (false_isnt_so e)

min_is : (x y : ℕ) → x ≤ 30000 → y ≤ 30000 → min x 65535 ≡ min y 65535 → x ≡ y
min_is x y l m e = omega (arith, l, m, e)

home_is : (x y c d : ℕ) → x < c → c ≤ 16 → y < d → d ≤ 16 → x % 16 ≡ y % 16 → x ≡ y
home_is x y c d l m k n e = omega (arith, l, m, k, n, e)

since_unless_same : (b : Bool) (x y : Option ℕ) → (b ≡ false → x ≡ y) → since_unless b x ≡ since_unless b y
since_unless_same true x y k = refl
since_unless_same false x y k = k refl

below_eight : (u m : ℕ) → u < m → m ≤ 8 → u < 8
below_eight u m l k = omega (arith, l, k)

past : (u m : ℕ) → 8 ≤ u → m ≤ 8 → m ≤ u
past u m l k = omega (arith, l, k)

-- ---- lists

-- the records of as many tasks that are the same one by one, without what is hidden
hidden_told : (h : Hidden) (d : Task) (xs ys : List Task) → length xs ≡ length ys → ((t : ℕ) → t < length xs → hidden_in h (get_or xs t d) ≡ hidden_in h (get_or ys t d)) → all_hidden h xs ≡ all_hidden h ys
hidden_told h d [] [] n e = refl
hidden_told h d [] (y ∷ ys) n e = absurd (omega (arith, n))
hidden_told h d (x ∷ xs) [] n e = absurd (omega (arith, n))
hidden_told h d (x ∷ xs) (y ∷ ys) n e =
    ap (λ (o : Task). o ∷ all_hidden h xs) (e 0 (omega arith)) ∙ ap (λ (l : List Task). hidden_in h y ∷ l) (hidden_told h d xs ys (omega (arith, n)) (λ t l. e (suc t) (omega (arith, l))))

past_none : (es : List (Option Entry)) (u : ℕ) → length es ≤ u → get_or es u None ≡ None
past_none [] u l = refl
past_none (e ∷ es) zero l = absurd (omega (arith, l))
past_none (e ∷ es) (suc u) l = past_none es u (omega (arith, l))

no_timers : (xs ys : List (Option Alarm)) → length xs ≡ 0 → length ys ≡ 0 → xs ≡ ys
no_timers [] [] n m = refl
no_timers [] (y ∷ ys) n m = absurd (omega (arith, m))
no_timers (x ∷ xs) ys n m = absurd (omega (arith, n))

-- the policy is in force under Linux rules
in_force : (w : WorldState) → are_linux w.rules ≡ true → w.ejected ≡ None → is_by_linux w ≡ true
in_force w linux none = λ i. linux i && is_none (none i)

leads_past : (o : Option Entry) → leads o None ≡ false
leads_past None = refl
leads_past (Some p) = refl

known_is : (ids : List ℕ) (o : Option Entry) → IfSome o (λ e. number_in ids e.queue < length ids) → IsKnown ids o
known_is ids None k = tt
known_is ids (Some e) k = k

known_at : (ids : List ℕ) (w : WorldState) → AreKnown ids (entries_of w) → (k : ℕ) → k < 8 → IsKnown ids (entry_of w.queues k)
known_at ids w known k l =
    subst (IsKnown ids) (at_eight w.queues k l)
    (known_is ids (get_or (entries_of w) k None) (All-get_or (λ o. IfSome o (λ e. number_in ids e.queue < length ids)) (entries_of w) k None l known))

usages_long : (x y : Hierarchy) (n : ℕ) → length (used_words x n) ≡ length (used_words y n)
usages_long x y zero = refl
usages_long x y (suc n) =
    omega (arith, usages_long x y n, length-append (used_words x n) (usage_of x n ∷ []), length-append (used_words y n) (usage_of y n ∷ []))

usages_told : (x y : Hierarchy) (n : ℕ) → used_words x n ≡ used_words y n → (k : ℕ) → k < n → usage_of x k ≡ usage_of y k
usages_told x y zero e k l = absurd (omega (arith, l))
usages_told x y (suc n) e k l =
    let two = last_two (used_words x n) (used_words y n) (usage_of x n) (usage_of y n) (usages_long x y n) e in
    ⊎_elim (λ (less : k < n). usages_told x y n two.0 k less)
    (λ (more : n ≤ k).
    let is : n ≡ k = omega (arith, more, l) in
    subst (λ (j : ℕ). usage_of x j ≡ usage_of y j) is two.1)
    (cases_lt k n)

still_since : (now d : ℕ) (o : Option ℕ) → IsSince now o → IsSince (now + d) (later_by d o)
still_since now d None l = tt
still_since now d (Some n) l = let k : n ≤ now = l in omega (arith, k)

some_later : (d : ℕ) (o : Option ℕ) → is_some (later_by d o) ≡ is_some o
some_later d None = refl
some_later d (Some n) = refl

-- ---- slices of tasks that sleep or are held

-- the records of tasks, without such slices where that is so wanted
abbrev pub rested : Bool → WorldState → List Task
rested less w = if less then without_slices (is_idle_of any_task w) w.tasks else w.tasks

-- a machine with these records
abbrev pub resting : Bool → SimState → SimState
resting less s = record s { state = record s.state { world = with_tasks s.state.world (rested less s.state.world) } }

rested_at : (less : Bool) (w : WorldState) (k : ℕ) → get_or (rested less w) k no_task ≡ sliceless_if (less && idle.is_idle w k) (task_at w k)
rested_at true w k = read_at (is_idle_of any_task w) w.tasks k
rested_at false w k = refl

rested_long : (less : Bool) (w : WorldState) → length w.tasks ≡ length (rested less w)
rested_long true w = length_same (is_idle_of any_task w) w.tasks
rested_long false w = refl

or_so : (a b : Bool) → b ≡ true → (a || b) ≡ true
or_so true b e = refl
or_so false b e = e

nowhere_told : (x y : Option Entry) → option_map unnumbered x ≡ option_map unnumbered y → is_put_nowhere x ≡ is_put_nowhere y
nowhere_told None None e = refl
nowhere_told None (Some q) e = absurd (false_isnt_so (ap is_some e))
nowhere_told (Some p) None e = absurd (false_isnt_so (sym (ap is_some e)))
nowhere_told (Some p) (Some q) e = ap is_put_nowhere e

-- the record of a task, whose slice is told unless it is left out
told_if : (b : Bool) (h : Hidden) (d : ℕ) (x y : Task) → since_unless h.waits (later_by d x.since) ≡ since_unless h.waits y.since → (b ≡ false → x.slice ≡ y.slice) → unless h.vtime x.vtime ≡ unless h.vtime y.vtime → x.prev_cpu ≡ y.prev_cpu
    → unless h.run_ns x.run_ns ≡ unless h.run_ns y.run_ns → x.builtin ≡ y.builtin → hidden_in h (delayed_task d (sliceless_if b x)) ≡ hidden_in h (sliceless_if b y)
told_if true h d x y since slice vtime home run builtin = task_told (hidden_in h (delayed_task d (with_slice x 0))) (hidden_in h (with_slice y 0)) since refl vtime home run builtin
told_if false h d x y since slice vtime home run builtin = task_told (hidden_in h (delayed_task d x)) (hidden_in h y) since (slice refl) vtime home run builtin

past_zero : (n : ℕ) → (1 + n == 0) ≡ false
past_zero n = go (1 + n == 0) refl
  where
    go : (b : Bool) → (1 + n == 0) ≡ b → b ≡ false
    go true e = let is = eqb-true (1 + n) 0 e in absurd (omega (arith, is))
    go false e = refl

-- a task counts as idle in its row just if it is
row_is : (ids : List ℕ) (w : WorldState) → IsOnce None w → (k : ℕ) → is_idle (place_at w ids k) (entry_of w.queues k) ≡ idle.is_idle w k
row_is ids w once k = go (cpu_of w k) refl
  where
    by : (o : Option Entry) → is_idle (place_of ids None o) o ≡ is_put_nowhere o
    by None = refl
    by (Some e) = refl

    go : (o : Option ℕ) → cpu_of w k ≡ o → is_idle (place_at w ids k) (entry_of w.queues k) ≡ idle.is_idle w k
    go (Some c) e =
        let none = runner_waits_not w once k c e in
        ap (λ (o : Option Entry). is_idle (place_of ids (cpu_of w k) o) o) none
        ∙ (ap (λ (o : Option ℕ). is_idle (place_of ids o None) None) e ∙ (past_zero (c % 16) ∙ sym (ap (λ (b : Bool). not b && is_put_nowhere (entry_of w.queues k)) (on_one w.cpus k c e))))
    go None e =
        ap (λ (o : Option ℕ). is_idle (place_of ids o (entry_of w.queues k)) (entry_of w.queues k)) e
        ∙ (by (entry_of w.queues k) ∙ sym (ap (λ (b : Bool). not b && is_put_nowhere (entry_of w.queues k)) (none_on w.cpus k e)))

bits_same : (a b : Bool) → bit_of a ≡ bit_of b → a ≡ b
bits_same true true e = refl
bits_same false false e = refl
bits_same true false e = absurd (cc)
bits_same false true e = absurd (cc)

-- where slices are kept what is kept of two tells both
whole_slice : (b : Bool) (x y : ℕ) → b ≡ true → slice_kept b x ≡ slice_kept b y → x ≡ y
whole_slice true x y e same = same
whole_slice false x y e same = absurd (false_isnt_so e)

kept_ends : (c : Bool) (x y : ℕ) → slice_kept c x ≡ slice_kept c y → is_endless x ≡ is_endless y
kept_ends true x y is = ap is_endless is
kept_ends false x y is = bits_same (is_endless x) (is_endless y) is

-- what is kept of a slice and of another one is the same of the other one and the one that is lent
lent_kept : (c b d : Bool) (x y : ℕ) → b ≡ d → kept b (slice_kept c x) ≡ kept d (slice_kept c y) → kept b (lent_slice x y) ≡ kept d y
lent_kept c b d x y e same = subst (λ (o : Bool). kept b (lent_slice x y) ≡ kept o y) e (go b (same ∙ ap (λ (o : Bool). kept o (slice_kept c y)) (sym e)))
  where
    go : (o : Bool) → kept o (slice_kept c x) ≡ kept o (slice_kept c y) → kept o (lent_slice x y) ≡ kept o y
    go true is = lent_is x y (kept_ends c x y is)
    go false is = refl

-- ---- two machines

of_one_shape : (shapes : List Shape) (root s t : SimState) → IsSuited shapes root s → IsSuited shapes root t → AreOfOneShape s.state.world t.state.world
of_one_shape shapes root s t hs ht = record {
  tasks = sym hs.size.0 ∙ ht.size.0;
  cpus = sym hs.size.1 ∙ ht.size.1;
  timers = sym hs.size.5 ∙ ht.size.5;
  groups = sym hs.tidy.1.0.0 ∙ ht.tidy.1.0.0;
  rules = hs.rules ∙ sym ht.rules;
}

-- the same words keep the same, by a form that tells tasks apart
pub words_keep : (shapes : List Shape) (root : SimState) (f : Form) (ids xs : List ℕ) → f.names ≡ true → length ids ≤ most_queues → (s t : SimState) → IsSuited shapes root s → IsSuited shapes root t → IsWritten f ids xs s → IsWritten f ids xs t → KeepTheSame f ids s t
words_keep shapes root f ids xs names few s t hs ht is it = words_tell f ids xs s t names few (of_one_shape shapes root s t hs ht) is it

module _ (Ask : (Query → Type 0) → PolicyState → Type 0) (Tell : PolicyState → Type 0) (shapes : List Shape) (root : SimState) (counts : HasFew root) (f : Form) (ids : List ℕ) (whole : IsWholeBy Ask Tell root.state.policy f) (s t : SimState) (hs : IsSuited shapes root s) (ht : IsSuited shapes root t) (known : AreKnown ids (entries_of s.state.world)) (known_there : AreKnown ids (entries_of t.state.world)) (told : KeepTheSame f ids s t) where
  abbrev v : WorldState
  v = s.state.world

  abbrev w : WorldState
  w = t.state.world

  abbrev m : ℕ
  m = length root.state.world.tasks

  shape : AreOfOneShape v w
  shape = of_one_shape shapes root s t hs ht

  each : (k : ℕ) → k < m → IsKeptAlike f ids v w k
  each k l = told.tasks k (below_eight k m l counts.tasks) (subst (λ (j : ℕ). k < j) hs.size.0 l)

  few_cpus : length v.cpus ≤ 16
  few_cpus = subst (λ (j : ℕ). j ≤ 16) hs.size.1 counts.cpus

  few_there : length w.cpus ≤ 16
  few_there = subst (λ (j : ℕ). j ≤ 16) ht.size.1 counts.cpus

  small : (x : WorldState) → length x.cpus ≤ 16 → (k : ℕ) → IsSmall (cpu_of x k)
  small x most k = go (cpu_of x k) refl
    where
      go : (o : Option ℕ) → cpu_of x k ≡ o → IsSmall o
      go None e = tt
      go (Some c) e = let there = cpu_there k x.cpus c e in let l : c < 16 = omega (arith, there, most) in l

  cpu_same : (k : ℕ) → k < m → cpu_of v k ≡ cpu_of w k
  cpu_same k l = place_tells_cpu ids (cpu_of v k) (cpu_of w k) (entry_of v.queues k) (entry_of w.queues k) (small v few_cpus k) (small w few_there k) (each k l).place

  pub cpus_same : v.cpus ≡ w.cpus
  cpus_same = cpus_told m v.cpus w.cpus shape.cpus (run_once v hs.sound.once m hs.sound.flags) (run_once w ht.sound.once m ht.sound.flags) cpu_same

  -- ---- queues

  key_same : (k : ℕ) → k < m → waiting_key (entry_of v.queues k) ≡ waiting_key (entry_of w.queues k)
  key_same k l =
      ⊎_elim (λ (e : f.keys ≡ true). kept_is f.keys f.keys (waiting_key (entry_of v.queues k)) (waiting_key (entry_of w.queues k)) e e (each k l).key)
      (λ (may : InsertInOrder root.state.policy). hs.order may k ∙ sym (ht.order may k)) whole.keys

  place_same : (k : ℕ) → k < m → place_in v.queues k ≡ place_in w.queues k
  place_same k l = go (cpu_of v k) refl
    where
      go : (o : Option ℕ) → cpu_of v k ≡ o → place_in v.queues k ≡ place_in w.queues k
      go (Some c) e =
          ap (λ (x : Option Entry). option_map unnumbered x) (runner_waits_not v hs.sound.once k c e)
          ∙ sym (ap (λ (x : Option Entry). option_map unnumbered x) (runner_waits_not w ht.sound.once k c (sym (cpu_same k l) ∙ e)))
      go None e =
          let here = entry_of v.queues k in
          let there = entry_of w.queues k in
          let place : place_of ids None here ≡ place_of ids None there =
          ap (λ (c : Option ℕ). place_of ids c here) (sym e) ∙ ((each k l).place ∙ ap (λ (c : Option ℕ). place_of ids c there) (sym (cpu_same k l) ∙ e)) in
          place_tells_entry ids here there (known_at ids v known k (below_eight k m l counts.tasks)) (known_at ids w known_there k (below_eight k m l counts.tasks)) place (each k l).by_vtime
          (key_same k l)

  none_past : (u : ℕ) → m ≤ u → entry_of v.queues u ≡ None
  none_past u l = past_none v.queues.entries u (omega (arith, l, hs.sound.even))

  none_past_there : (u : ℕ) → m ≤ u → entry_of w.queues u ≡ None
  none_past_there u l = past_none w.queues.entries u (omega (arith, l, ht.sound.even))

  places : (u : ℕ) → place_in v.queues u ≡ place_in w.queues u
  places u =
      ⊎_elim (place_same u)
      (λ (l : m ≤ u). ap (λ (x : Option Entry). option_map unnumbered x) (none_past u l) ∙ sym (ap (λ (x : Option Entry). option_map unnumbered x) (none_past_there u l)))
      (cases_lt u m)

  ahead : (u : ℕ) → u < 8 → ahead_of (entries_of v) (entry_of v.queues u) ≡ ahead_of (entries_of w) (entry_of w.queues u)
  ahead u l =
      ⊎_elim (λ (k : u < m). (each u k).ahead)
      (λ (k : m ≤ u). ap (ahead_of (entries_of v)) (none_past u k) ∙ sym (ap (ahead_of (entries_of w)) (none_past_there u k)))
      (cases_lt u m)

  order : (a b : ℕ) → leads (entry_of v.queues a) (entry_of v.queues b) ≡ leads (entry_of w.queues a) (entry_of w.queues b)
  order a b =
      ⊎_elim (λ (l : a < 8).
      ⊎_elim (λ (k : b < 8). order_told v.queues w.queues hs.queues.stamps ht.queues.stamps places ahead a b l k)
      (λ (k : 8 ≤ b).
      ap (leads (entry_of v.queues a)) (none_past b (past b m k counts.tasks)) ∙ (leads_past (entry_of v.queues a)
      ∙ sym (ap (leads (entry_of w.queues a)) (none_past_there b (past b m k counts.tasks)) ∙ leads_past (entry_of w.queues a))))
      (cases_lt b 8))
      (λ (l : 8 ≤ a).
      ap (λ (x : Option Entry). leads x (entry_of v.queues b)) (none_past a (past a m l counts.tasks))
      ∙ sym (ap (λ (x : Option Entry). leads x (entry_of w.queues b)) (none_past_there a (past a m l counts.tasks))))
      (cases_lt a 8)

  queues_same : AreAsQueues v.queues w.queues
  queues_same = record {
    room = sym hs.size.2 ∙ ht.size.2;
    ids = sym hs.size.3 ∙ ht.size.3;
    tasks = hs.sound.even ∙ sym ht.sound.even;
    places = places;
    order = order;
    stamped = hs.sound.stamped;
    stamped_there = ht.sound.stamped;
  }

  -- ---- groups

  waits_alike : (x y : Option Entry) → option_map unnumbered x ≡ option_map unnumbered y → is_some x ≡ is_some y
  waits_alike None None e = refl
  waits_alike (Some p) (Some q) e = refl
  waits_alike None (Some q) e = ap is_some e
  waits_alike (Some p) None e = ap is_some e

  active_same : v.tree.active ≡ w.tree.active
  active_same =
      ext_get_or false v.tree.active w.tree.active (hs.sound.flags ∙ sym ht.sound.flags)
      (λ k l. runnable_told v w hs.sound.once ht.sound.once cpus_same k (waits_alike (entry_of v.queues k) (entry_of w.queues k) (places k)))

  usages_kept : has_quota v.tree.groups ≡ true → v.clock ∷ used_words v.tree (length v.tree.groups) ≡ w.clock ∷ used_words w.tree (length w.tree.groups)
  usages_kept e =
      kept_both (has_quota v.tree.groups) (has_quota w.tree.groups) (v.clock ∷ used_words v.tree (length v.tree.groups)) (w.clock ∷ used_words w.tree (length w.tree.groups)) e (ap has_quota (sym shape.groups) ∙ e) told.usages

  usages_same : has_quota v.tree.groups ≡ true → v.tree.usages ≡ w.tree.usages
  usages_same e =
      let groups = length v.tree.groups in
      let words : used_words v.tree groups ≡ used_words w.tree (length w.tree.groups) = ap (λ (l : List ℕ). drop 1 l) (usages_kept e) in
      let same : used_words v.tree groups ≡ used_words w.tree groups = words ∙ ap (λ (gs : List Group). used_words w.tree (length gs)) (sym shape.groups) in
      let long : length v.tree.usages ≡ length w.tree.usages = hs.tidy.1.1 ∙ (ap (λ (gs : List Group). length gs) shape.groups ∙ sym ht.tidy.1.1) in
      ext_get_or 0 v.tree.usages w.tree.usages long (λ k l. usages_told v.tree w.tree groups same k (subst (λ (j : ℕ). k < j) hs.tidy.1.1 l))

  -- ---- all of it

  -- by Linux rules words tell what these keep
  by_words : are_linux v.rules ≡ true → AreToldAlike s.state t.state
  by_words linux = linux_told s.state t.state linux shape.rules told.rules

  claimed_same : v.claimed ≡ w.claimed
  claimed_same = go (are_linux v.rules) refl
    where
      go : (b : Bool) → are_linux v.rules ≡ b → v.claimed ≡ w.claimed
      go true linux = (by_words linux).claimed
      go false plain = hs.tidy.1.2 plain ∙ sym (ht.tidy.1.2 (sym (ap are_linux shape.rules) ∙ plain))

  -- the time between the machines is made of whole ticks
  pub ticks_between : (d : ℕ) → v.clock + d ≡ w.clock → IsWholeTicks d s.state
  ticks_between d later = ticks_told d s.state t.state (hs.policy ∙ sym ht.policy) shape.rules told.rules later

  -- the clock is told where the form keeps it, and where a group has a quota
  pub clock_kept : f.clock ≡ true → v.clock ≡ w.clock
  clock_kept = told.clock

  pub clock_told : has_quota v.tree.groups ≡ true → v.clock ≡ w.clock
  clock_told e = ap (λ (l : List ℕ). get_or l 0 0) (usages_kept e)

  idle_same : (k : ℕ) → k < m → idle.is_idle v k ≡ idle.is_idle w k
  idle_same k l =
      ap (λ (cpus : List (Option ℕ)). not (runs_on k cpus) && is_put_nowhere (entry_of v.queues k)) cpus_same
      ∙ ap (λ (b : Bool). not (runs_on k w.cpus) && b) (nowhere_told (entry_of v.queues k) (entry_of w.queues k) (place_same k l))

  -- ---- slices of the other one

  -- with its slices, as far as both end, the first one keeps the same by a form with slices
  kept_same : (k : ℕ) → k < m → (f.idle_slices || not (is_idle (place_at v ids k) (entry_of v.queues k))) ≡ (f.idle_slices || not (is_idle (place_at w ids k) (entry_of w.queues k)))
  kept_same k l = ap (λ (b : Bool). f.idle_slices || not b) (row_is ids v hs.sound.once k ∙ (idle_same k l ∙ sym (row_is ids w ht.sound.once k)))

  retold_task : (k : ℕ) → k < 8 → k < length v.tasks → IsKeptAlike (record f { slices = true }) ids (lent s t).state.world w k
  retold_task k few l =
      let h = told.tasks k few l in
      let there : k < m = subst (λ (j : ℕ). k < j) (sym hs.size.0) l in
      let same = lent_task s t k in
      record {
        wait = ap (λ (x : Task). min (kept f.waits (time_since v.clock x.since)) 65535) same ∙ h.wait;
        place = h.place;
        prev_cpu = ap (λ (x : Task). x.prev_cpu % 16) same ∙ h.prev_cpu;
        ahead = h.ahead;
        by_vtime = h.by_vtime;
        slice =
            ap (kept (f.idle_slices || not (is_idle (place_at v ids k) (entry_of v.queues k)))) (lent_at v.tasks w.tasks k l shape.tasks)
            ∙ lent_kept f.slices (f.idle_slices || not (is_idle (place_at v ids k) (entry_of v.queues k))) (f.idle_slices || not (is_idle (place_at w ids k) (entry_of w.queues k))) (task_at v k).slice (task_at w k).slice (kept_same k there) h.slice;
        key = h.key;
        vtime = ap (λ (x : Task). kept f.vtime x.vtime) same ∙ h.vtime;
        run_ns = ap (λ (x : Task). kept f.run_ns x.run_ns) same ∙ h.run_ns;
      }

  -- of a task that isn't idle it is told whether its slice ends
  pub ends_same : (k : ℕ) → k < m → idle.is_idle v k ≡ false → is_endless (task_at v k).slice ≡ is_endless (task_at w k).slice
  ends_same k l busy =
      let here = (f.idle_slices || not (is_idle (place_at v ids k) (entry_of v.queues k))) in
      let there = (f.idle_slices || not (is_idle (place_at w ids k) (entry_of w.queues k))) in
      let shown : here ≡ true = or_so f.idle_slices (not (is_idle (place_at v ids k) (entry_of v.queues k))) (ap not (row_is ids v hs.sound.once k ∙ busy)) in
      kept_ends f.slices (task_at v k).slice (task_at w k).slice
      (kept_is here there (slice_kept f.slices (task_at v k).slice) (slice_kept f.slices (task_at w k).slice) shown (sym (kept_same k l) ∙ shown) (each k l).slice)

  pub retold : KeepTheSame (record f { slices = true }) ids (lent s t) t
  retold = record {
    tasks = λ k few l. retold_task k few (subst (λ (n : ℕ). k < n) (lent_long s t) l);
    clock = told.clock;
    random = told.random;
    usages = told.usages;
    rules = told.rules;
    maps = told.maps;
  }

  -- ---- once the first one is as late as the second one

  -- and without slices of tasks that sleep or are held, where the form leaves these out
  module _ (less : Bool) (keeps : less ≡ false → f.idle_slices ≡ true) (slices : f.slices ≡ true) (d : ℕ) (later : v.clock + d ≡ w.clock) where
    -- where waits aren't hidden
    since_same : whole.hidden.waits ≡ false → (k : ℕ) → k < m → later_by d (task_at v k).since ≡ (task_at w k).since
    since_same stay k l =
        let a = (task_at v k).since in
        let b = (task_at w k).since in
        let some : is_some a ≡ is_some b =
        hs.sound.waiting k ∙ (ap (λ (o : Option ℕ). waits_in o || is_this k None) (queue_same v.queues w.queues queues_same k) ∙ sym (ht.sound.waiting k)) in
        let waited : wait v k ≡ wait w k =
        min_is (wait v k) (wait w k) (hs.timely k) (ht.timely k)
        (ap (λ (c : Bool). min (kept c (wait v k)) 65535) (sym (whole.waits stay)) ∙ ((each k l).wait ∙ ap (λ (c : Bool). min (kept c (wait w k)) 65535) (whole.waits stay))) in
        since_told w.clock (later_by d a) b (subst (λ (c : ℕ). IsSince c (later_by d a)) later (still_since v.clock d a (hs.tidy.0 k))) (ht.tidy.0 k) (some_later d a ∙ some)
        (sym (as_late d v.clock a ∙ ap (λ (c : ℕ). time_since c (later_by d a)) later) ∙ waited)

    -- a task that isn't idle counts as one that runs or waits, so its slice is told
    kept_here : (x : WorldState) → IsOnce None x → (k : ℕ) → (less && idle.is_idle x k) ≡ false → (f.idle_slices || not (is_idle (place_at x ids k) (entry_of x.queues k))) ≡ true
    kept_here x once k e = go less refl
      where
        go : (b : Bool) → less ≡ b → (f.idle_slices || not (is_idle (place_at x ids k) (entry_of x.queues k))) ≡ true
        go false is = or_true f.idle_slices (not (is_idle (place_at x ids k) (entry_of x.queues k))) (keeps is)
        go true is = or_so f.idle_slices (not (is_idle (place_at x ids k) (entry_of x.queues k))) (ap not (row_is ids x once k ∙ sym (ap (λ (b : Bool). b && idle.is_idle x k) is) ∙ e))

    slice_same : (k : ℕ) → k < m → (less && idle.is_idle v k) ≡ false → (task_at v k).slice ≡ (task_at w k).slice
    slice_same k l e =
        whole_slice f.slices (task_at v k).slice (task_at w k).slice slices
        (kept_is (f.idle_slices || not (is_idle (place_at v ids k) (entry_of v.queues k))) (f.idle_slices || not (is_idle (place_at w ids k) (entry_of w.queues k))) (slice_kept f.slices (task_at v k).slice) (slice_kept f.slices (task_at w k).slice)
        (kept_here v hs.sound.once k e) (kept_here w ht.sound.once k (sym (ap (λ (b : Bool). less && b) (idle_same k l)) ∙ e)) (each k l).slice)

    -- the record of a task without what is hidden
    task_same : (k : ℕ) → k < m → hidden_in whole.hidden (delayed_task d (sliceless_if (less && idle.is_idle v k) (task_at v k))) ≡ hidden_in whole.hidden (sliceless_if (less && idle.is_idle w k) (task_at w k))
    task_same k l =
        let h = each k l in
        told_if (less && idle.is_idle v k) whole.hidden d (task_at v k) (task_at w k) (since_unless_same whole.hidden.waits (later_by d (task_at v k).since) (task_at w k).since (λ stay. since_same stay k l)) (slice_same k l)
        (unless_same whole.hidden.vtime (task_at v k).vtime (task_at w k).vtime (λ e. kept_is f.vtime f.vtime (task_at v k).vtime (task_at w k).vtime (whole.vtime e) (whole.vtime e) h.vtime))
        (home_is (task_at v k).prev_cpu (task_at w k).prev_cpu (length v.cpus) (length w.cpus) (hs.sound.homes k) few_cpus (ht.sound.homes k) few_there h.prev_cpu)
        (unless_same whole.hidden.run_ns (task_at v k).run_ns (task_at w k).run_ns (λ e. kept_is f.run_ns f.run_ns (task_at v k).run_ns (task_at w k).run_ns (whole.run_ns e) (whole.run_ns e) h.run_ns))
        (hs.fresh.1 k ∙ sym (ht.fresh.1 k))
        ∙ ap (λ (b : Bool). hidden_in whole.hidden (sliceless_if (less && b) (task_at w k))) (idle_same k l)

    tasks_same : all_hidden whole.hidden (map (delayed_task d) (rested less v)) ≡ all_hidden whole.hidden (rested less w)
    tasks_same =
        let many : length (map (delayed_task d) (rested less v)) ≡ length (rested less w) = sym (as_long (delayed_task d) (rested less v)) ∙ (sym (rested_long less v) ∙ (shape.tasks ∙ rested_long less w)) in
        hidden_told whole.hidden no_task (map (delayed_task d) (rested less v)) (rested less w) many
        (λ k l. ap (hidden_in whole.hidden) (sym (found_at (delayed_task d) (rested less v) k no_task) ∙ ap (delayed_task d) (rested_at less v k))
        ∙ (task_same k (subst (λ (j : ℕ). k < j) (many ∙ (sym (rested_long less w) ∙ sym ht.size.0)) l) ∙ sym (ap (hidden_in whole.hidden) (rested_at less w k))))

    timers_same : map (delayed_alarm d) v.timers ≡ w.timers
    timers_same = go (are_linux v.rules) refl
      where
        go : (b : Bool) → are_linux v.rules ≡ b → map (delayed_alarm d) v.timers ≡ w.timers
        go true linux =
            timers_told d v w shape.timers later (hs.timers (in_force v linux hs.force)) (ht.timers (in_force w (sym (ap are_linux shape.rules) ∙ linux) ht.force)) (by_words linux).timers
        go false plain =
            let none = counts.timers (sym (ap are_linux hs.rules) ∙ plain) in
            no_timers (map (delayed_alarm d) v.timers) w.timers (sym (as_long (delayed_alarm d) v.timers) ∙ (sym hs.size.5 ∙ none)) (sym ht.size.5 ∙ none)

    -- without what is hidden the machines are the same but for unread parts, once the first one is as late
    pub whole_told : AreSame (hide_machine whole.hidden (delay_machine d (resting less s))) (hide_machine whole.hidden (resting less t))
    whole_told =
        let policy = hs.policy ∙ sym ht.policy in
        let maps = maps_told shapes s.state.maps t.state.maps hs.maps ht.maps told.maps in
        let clock = later in
        let tasks = tasks_same in
        let cpus = cpus_same in
        let cycling = hs.still ∙ sym ht.still in
        let passing = hs.settled ∙ sym ht.settled in
        let rules = shape.rules in
        let claimed = claimed_same in
        let tracks = hs.quiet.1 hs.force ∙ sym (ht.quiet.1 ht.force) in
        let timers = timers_same in
        let random = ⊎_elim told.random (λ (may : DrawNone root.state.policy). hs.random may ∙ sym (ht.random may)) whole.random in
        let groups = shape.groups in
        let homes = sym hs.tidy.1.0.1 ∙ ht.tidy.1.0.1 in
        let weights = sym hs.tidy.1.0.2 ∙ ht.tidy.1.0.2 in
        let masks = sym hs.tidy.1.0.3 ∙ ht.tidy.1.0.3 in
        let active = active_same in
        let builtin = hs.fresh.0 ∙ sym ht.fresh.0 in
        let force = ap (delayed_eject d) hs.force ∙ sym ht.force in
        let notes = ap (λ (ns : List Note). map (delayed_note d) ns) hs.quiet.0 ∙ sym ht.quiet.0 in
        record {
          parts = record {
            queues = queues_same;
            call = λ e. absurd (false_isnt_so e);
            kicked = λ linux. (by_words linux).kicked;
            preempted = λ linux. (by_words linux).preempted;
            usages = usages_same;
          };
          rest = λ i. record {
            policy = policy i;
            maps = maps i;
            world = record {
              clock = clock i;
              tasks = tasks i;
              cpus = cpus i;
              cycling = cycling i;
              passing = passing i;
              rules = rules i;
              claimed = claimed i;
              kicked = w.kicked;
              preempted = w.preempted;
              tracks_idle = tracks i;
              timers = timers i;
              random = random i;
              queues = w.queues;
              tree = record { groups = groups i; homes = homes i; own_weights = weights i; masks = masks i; active = active i; usages = w.tree.usages };
              call = w.call;
              builtin_clock = builtin i;
              ejected = force i;
              notes = notes i;
            };
          };
        }
