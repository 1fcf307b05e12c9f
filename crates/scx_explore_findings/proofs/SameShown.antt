-- Two machines that are the same but for unread parts show the same: the cause of an ejection, idle processors, and words.
use Rattle.std.proofs.Common.{◌≡◌, ℕ, zero, suc, ◌+◌, ◌*◌, ◌%◌, ◌<◌, ◌&&◌, ◌||◌, not, min, Bool, true, false, cond, nat_lt, List, [], ◌∷◌, ◌++◌, length, map, All, count_by, Option, Some, None, IfSome, option_map, refl, sym, ap, ◌∙◌, subst}
use Rattle.std.proofs.lemmas.List.Elements.{All-nil, All-cons, All-head, All-tail}
use Rattle.scx_dsq.specs.declared.entries.Entry.{Entry}
use Rattle.scx_dsq.specs.declared.entries.Rank.{Rank}
use Rattle.scx_dsq.specs.declared.entries.Rank.TheVariants.{Fifo, Front, Vtime}
use Rattle.scx_dsq.specs.Entries.{key_of}
use Rattle.scx_dsq.specs.Queues.{entry_of}
use Rattle.scx_weights.specs.Limits.{has_quota}
use Rattle.scx_sched_world.specs.declared.cpu_set.CpuSet.{CpuSet}
use Rattle.scx_sched_world.specs.World.{WorldState, are_linux, running, task_at, cpu_of, wait, may_run}
use Rattle.scx_sched_world.specs.Helpers.{alarm_at}
use Rattle.scx_sched_machine.specs.declared.events.Event.{Event}
use Rattle.scx_sched_machine.specs.Steps.{State}
use Rattle.scx_sched.specs.Sim.{SimState}
use Rattle.scx_explore_states.specs.declared.form.Form.{Form}
use Rattle.scx_explore_states.specs.Rows.{bit_of, kept, slice_kept, waiting_key, by_vtime_in, is_by_vtime, is_ahead, ahead_of, entries_of, place_of, is_idle, spot_of, row_of, no_row, task_row, rows_of}
use Rattle.scx_explore_states.specs.Words.{number_in}
use Rattle.scx_explore_states.specs.NotZero.{kept_words}
use Rattle.scx_explore_states.specs.Written.{kept_word, task_words, used_words, usage_words, alarm_words, timer_words, linux_words, past_tick, map_words, state_words, AreKnown, IsWritten}
use Rattle.scx_explore_findings.specs.Findings.{is_left, leaves_global, waits_left, IsIdleBehind}
use Rattle.scx_explore_findings.specs.declared.finding.Finding.{Finding}
use Rattle.scx_explore_findings.specs.QueueOrder.{rank_left, unnumbered, leads}
use Rattle.scx_explore_findings.specs.UnreadParts.{Parts, Fits, AreSame, SuchPartsShowNothing, parts_of, with_parts}
use Rattle.scx_explore_findings.proofs.SameQueues.{queue_same}
use Rattle.scx_explore_findings.proofs.SameSteps.{re}
use Rattle.scx_explore_findings.proofs.Shown.{idle_there}

-- ---- processors that are idle

module _ (s t : SimState) (same : AreSame s t) where
  as_many : length s.state.world.tasks ≡ length t.state.world.tasks
  as_many = ap (λ (x : State). length x.world.tasks) same.rest

  left_same : (c u : ℕ) → waits_left t.state.world c u ≡ waits_left s.state.world c u
  left_same c u =
      let w = s.state.world in
      sym (ap (λ (o : Option ℕ). is_left (leaves_global w) o && may_run w u c) (queue_same w.queues t.state.world.queues same.parts.queues u)
      ∙ ap (λ (x : State). waits_left x.world c u) same.rest)

  idle_same : (c : ℕ) → running t.state.world c ≡ running s.state.world c
  idle_same c = sym (ap (λ (x : State). running x.world c) same.rest)

  idle_alike : (e : Event) (o : Option Finding) → IsIdleBehind s e o → IsIdleBehind t e o
  idle_alike = idle_there s t as_many left_same idle_same

-- ---- rows of tasks

key_told : (o : Option Entry) → waiting_key o ≡ waiting_key (option_map unnumbered o)
key_told None = refl
key_told (Some p) = go p.rank
  where
    go : (r : Rank) → key_of r ≡ key_of (rank_left r)
    go Fifo = refl
    go Front = refl
    go (Vtime k) = refl

vtime_told : (o : Option Entry) → is_by_vtime o ≡ is_by_vtime (option_map unnumbered o)
vtime_told None = refl
vtime_told (Some p) = go p.rank
  where
    go : (r : Rank) → by_vtime_in r ≡ by_vtime_in (rank_left r)
    go Fifo = refl
    go Front = refl
    go (Vtime k) = refl

place_told : (ids : List ℕ) (c : Option ℕ) (o : Option Entry) → place_of ids c o ≡ place_of ids c (option_map unnumbered o)
place_told ids (Some c) o = refl
place_told ids None None = refl
place_told ids None (Some p) = refl

idle_told : (n : ℕ) (o : Option Entry) → is_idle n o ≡ is_idle n (option_map unnumbered o)
idle_told n None = refl
idle_told n (Some p) = refl

none_led : (o : Option Entry) → leads o None ≡ false
none_led None = refl
none_led (Some p) = refl

ahead_leads : (p : Entry) (o : Option Entry) → is_ahead o p ≡ leads o (Some p)
ahead_leads p None = refl
ahead_leads p (Some q) = refl

-- the count of eight tests that hold
abbrev eight : (a b c d e f g h : Bool) → ℕ
eight a b c d e f g h = min (count_by (λ (x : Bool). x) (a ∷ b ∷ c ∷ d ∷ e ∷ f ∷ g ∷ h ∷ [])) 7

ahead_by_order : (a b c d e f g h o : Option Entry) → ahead_of (a ∷ b ∷ c ∷ d ∷ e ∷ f ∷ g ∷ h ∷ []) o ≡ eight (leads a o) (leads b o) (leads c o) (leads d o) (leads e o) (leads f o) (leads g o) (leads h o)
ahead_by_order a b c d e f g h None = λ i. eight (sym (none_led a) i) (sym (none_led b) i) (sym (none_led c) i) (sym (none_led d) i) (sym (none_led e) i) (sym (none_led f) i) (sym (none_led g) i) (sym (none_led h) i)
ahead_by_order a b c d e f g h (Some p) = λ i. eight (ahead_leads p a i) (ahead_leads p b i) (ahead_leads p c i) (ahead_leads p d i) (ahead_leads p e i) (ahead_leads p f i) (ahead_leads p g i) (ahead_leads p h i)

-- a number that isn't kept
not_kept : (b : Bool) (n k : ℕ) → b ≡ false → kept_word b n ≡ kept_word b k
not_kept b n k e = ap (λ c. kept_word c n) e ∙ sym (ap (λ c. kept_word c k) e)

same_if : {A : Type 0} (b : Bool) (x x' y : A) → x ≡ x' → cond b x y ≡ cond b x' y
same_if b x x' y e = ap (λ z. cond b z y) e

-- words that are kept where a test says so
words_where : (b : Bool) (xs ys : List ℕ) → (b ≡ true → xs ≡ ys) → cond b xs [] ≡ cond b ys []
words_where true xs ys e = e refl
words_where false xs ys e = refl

-- ---- words

module _ (f : Form) (no_pushes : f.pushes ≡ false) (ids : List ℕ) (w : WorldState) (z : Parts) (m : Fits false w z) where
  place_same : (t : ℕ) → place_of ids (cpu_of w t) (entry_of w.queues t) ≡ place_of ids (cpu_of w t) (entry_of z.queues t)
  place_same t = place_told ids (cpu_of w t) (entry_of w.queues t) ∙ (ap (place_of ids (cpu_of w t)) (m.queues.places t) ∙ sym (place_told ids (cpu_of w t) (entry_of z.queues t)))

  vtime_same : (t : ℕ) → is_by_vtime (entry_of w.queues t) ≡ is_by_vtime (entry_of z.queues t)
  vtime_same t = vtime_told (entry_of w.queues t) ∙ (ap is_by_vtime (m.queues.places t) ∙ sym (vtime_told (entry_of z.queues t)))

  key_same : (t : ℕ) → waiting_key (entry_of w.queues t) ≡ waiting_key (entry_of z.queues t)
  key_same t = key_told (entry_of w.queues t) ∙ (ap waiting_key (m.queues.places t) ∙ sym (key_told (entry_of z.queues t)))

  held_same : (n t : ℕ) → is_idle n (entry_of w.queues t) ≡ is_idle n (entry_of z.queues t)
  held_same n t = idle_told n (entry_of w.queues t) ∙ (ap (is_idle n) (m.queues.places t) ∙ sym (idle_told n (entry_of z.queues t)))

  ahead_same : (t : ℕ) → ahead_of (entries_of w) (entry_of w.queues t) ≡ ahead_of (entries_of (with_parts w z)) (entry_of z.queues t)
  ahead_same t =
      let x = w.queues in
      ahead_by_order (entry_of x 0) (entry_of x 1) (entry_of x 2) (entry_of x 3) (entry_of x 4) (entry_of x 5) (entry_of x 6) (entry_of x 7) (entry_of x t)
      ∙ ((λ i. eight (m.queues.order 0 t i) (m.queues.order 1 t i) (m.queues.order 2 t i) (m.queues.order 3 t i) (m.queues.order 4 t i) (m.queues.order 5 t i) (m.queues.order 6 t i) (m.queues.order 7 t i))
      ∙ sym (ahead_by_order (entry_of z.queues 0) (entry_of z.queues 1) (entry_of z.queues 2) (entry_of z.queues 3) (entry_of z.queues 4) (entry_of z.queues 5) (entry_of z.queues 6) (entry_of z.queues 7) (entry_of z.queues t)))

  idle_same_at : (t : ℕ) → is_idle (place_of ids (cpu_of w t) (entry_of w.queues t)) (entry_of w.queues t) ≡ is_idle (place_of ids (cpu_of w t) (entry_of z.queues t)) (entry_of z.queues t)
  idle_same_at t = held_same (place_of ids (cpu_of w t) (entry_of w.queues t)) t ∙ ap (λ n. is_idle n (entry_of z.queues t)) (place_same t)

  row_same : (t : ℕ) → row_of f w t (entry_of w.queues t) (spot_of f w ids (entries_of w) t (entry_of w.queues t)) ≡ row_of f (with_parts w z) t (entry_of z.queues t) (spot_of f (with_parts w z) ids (entries_of (with_parts w z)) t (entry_of z.queues t))
  row_same t = λ i. record (row_of f w t (entry_of w.queues t) (spot_of f w ids (entries_of w) t (entry_of w.queues t))) {
    spot = min (kept f.waits (wait w t)) 65535 * 65536 + place_same t i * 256 + (task_at w t).prev_cpu % 16 * 16 + ahead_same t i * 2 + bit_of (vtime_same t i);
    slice = kept (f.idle_slices || not (idle_same_at t i)) (slice_kept f.slices (task_at w t).slice);
    key = kept f.keys (key_same t i);
  }

  task_row_same : (t : ℕ) → task_row f w ids t ≡ task_row f (with_parts w z) ids t
  task_row_same t = same_if (nat_lt t (length w.tasks)) _ _ no_row (row_same t)

  rows_same : rows_of f w ids ≡ rows_of f (with_parts w z) ids
  rows_same = λ i. task_row_same 0 i ∷ task_row_same 1 i ∷ task_row_same 2 i ∷ task_row_same 3 i ∷ task_row_same 4 i ∷ task_row_same 5 i ∷ task_row_same 6 i ∷ task_row_same 7 i ∷ []

  -- the usages of groups, if one has a quota
  usages_same : usage_words w ≡ usage_words (with_parts w z)
  usages_same = words_where (has_quota w.tree.groups) _ _ (λ e. ap (λ (us : List ℕ). w.clock ∷ used_words (record w.tree { usages = us }) (length w.tree.groups)) (m.usages e))

  timers_same : (n : ℕ) → timer_words w n ≡ timer_words (with_parts w z) n
  timers_same zero = refl
  timers_same (suc n) = ap (λ (l : List ℕ). l ++ alarm_words w.clock (alarm_at w n)) (timers_same n)

  -- the words of Linux rules
  linux_same : (past : ℕ) → cond (are_linux w.rules) (past ∷ linux_words w) [] ≡ cond (are_linux w.rules) (past ∷ linux_words (with_parts w z)) []
  linux_same past =
      words_where (are_linux w.rules) _ _
      (λ e. ap (λ (x : CpuSet). past ∷ (w.claimed.0 ∷ x.0 ∷ w.preempted.0 ∷ timer_words w (length w.timers))) (m.kicked e)
      ∙ (ap (λ (x : CpuSet). past ∷ (w.claimed.0 ∷ z.kicked.0 ∷ x.0 ∷ timer_words w (length w.timers))) (m.preempted e)
      ∙ ap (λ (l : List ℕ). past ∷ (w.claimed.0 ∷ z.kicked.0 ∷ z.preempted.0 ∷ l)) (timers_same (length w.timers))))

  -- an entry that is known is known without its order number, and the other way round
  abbrev Known : Option Entry → Type 0
  Known o = IfSome o (λ p. number_in ids p.queue < length ids)

  known_told : (o : Option Entry) → Known o → Known (option_map unnumbered o)
  known_told None k = k
  known_told (Some p) k = k

  known_back : (o : Option Entry) → Known (option_map unnumbered o) → Known o
  known_back None k = k
  known_back (Some p) k = k

  all_told : (es : List (Option Entry)) → All Known es → All Known (map (option_map unnumbered) es)
  all_told [] k = All-nil Known
  all_told (o ∷ es) k = All-cons Known (option_map unnumbered o) (map (option_map unnumbered) es) (known_told o (All-head Known o es k)) (all_told es (All-tail Known o es k))

  all_back : (es : List (Option Entry)) → All Known (map (option_map unnumbered) es) → All Known es
  all_back [] k = All-nil Known
  all_back (o ∷ es) k =
      let rest = map (option_map unnumbered) es in
      All-cons Known o es (known_back o (All-head Known (option_map unnumbered o) rest k)) (all_back es (All-tail Known (option_map unnumbered o) rest k))

  places_same : map (option_map unnumbered) (entries_of w) ≡ map (option_map unnumbered) (entries_of (with_parts w z))
  places_same = λ i. m.queues.places 0 i ∷ m.queues.places 1 i ∷ m.queues.places 2 i ∷ m.queues.places 3 i ∷ m.queues.places 4 i ∷ m.queues.places 5 i ∷ m.queues.places 6 i ∷ m.queues.places 7 i ∷ []

  known_there : AreKnown ids (entries_of w) → AreKnown ids (entries_of (with_parts w z))
  known_there k = all_back (entries_of (with_parts w z)) (subst (All Known) places_same (all_told (entries_of w) k))

-- from one machine to the other
module _ (f : Form) (no_pushes : f.pushes ≡ false) (ids : List ℕ) (s : SimState) (z : Parts) (m : Fits false s.state.world z) where
  -- the machine with the other queues
  abbrev other : SimState
  other = record s { state = re s.state z }

  words_same : (order : List ℕ) → state_words f (rows_of f s.state.world ids) order s ≡ state_words f (rows_of f other.state.world ids) order other
  words_same order =
      let w = s.state.world in
      let no = not_kept f.pushes w.queues.pushes z.queues.pushes no_pushes in
      let rows = rows_same f no_pushes ids w z m in
      let used = usages_same f no_pushes ids w z m in
      let linux = linux_same f no_pushes ids w z m (past_tick s.state.policy.tick_ms w.clock) in
      λ i. task_words f (rows i) order (min (length w.tasks) 8) ++ ((kept_word f.clock w.clock ++ (no i ++ kept_word f.random w.random)) ++ (used i ++ (linux i ++ kept_words f.map_words (map_words s.state.maps))))

  written_there : (xs : List ℕ) → IsWritten f ids xs s → IsWritten f ids xs other
  written_there xs is = record {
    began = is.began;
    order = is.order;
    fair = record { names = is.fair.names; whole = is.fair.whole; alike = is.fair.alike };
    known = known_there f no_pushes ids s.state.world z m is.known;
    words = is.words ∙ ap (λ (ys : List ℕ). is.began ∷ ys) (words_same is.order);
  }

-- the count of accepted events isn't written
uncounted : (f : Form) (ids xs : List ℕ) (x : State) (n k : ℕ) → IsWritten f ids xs (record { state = x; events = n }) → IsWritten f ids xs (record { state = x; events = k })
uncounted f ids xs x n k is = record {
  began = is.began;
  order = is.order;
  fair = record { names = is.fair.names; whole = is.fair.whole; alike = is.fair.alike };
  known = is.known;
  words = is.words;
}

-- two machines that are the same but for such parts show the same
pub such_parts_show_nothing : SuchPartsShowNothing
such_parts_show_nothing s t same = record {
  ejected = ap (λ (x : State). x.world.ejected) same.rest;
  idle = idle_alike s t same;
  written = λ f ids xs none is.
      uncounted f ids xs t.state s.events t.events
      (subst (λ (x : State). IsWritten f ids xs (record { state = x; events = s.events })) same.rest (written_there f none ids s (parts_of t.state.world) same.parts xs is));
}
