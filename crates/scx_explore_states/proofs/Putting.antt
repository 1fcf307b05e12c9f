-- Words of a state, one part after another.
use Rattle.std.proofs.Common.{◌≡◌, ℕ, zero, suc, ◌+◌, ◌*◌, ◌<◌, ◌≤◌, List, [], ◌∷◌, ◌++◌, length, take, drop, get_or, Option, refl, sym, ap, ◌∙◌, append_assoc, arith}
use Rattle.std.proofs.lemmas.List.{drop_all, drop_more, take_all, take_more, append-nil}
use Rattle.std.specs.Prelude.{min}
use Rattle.scx_isa_semantics.specs.Directories.{Directory, Array}
use Rattle.scx_maps.specs.Words.{part_words, parts_words}
use Rattle.scx_weights.specs.Hierarchy.{Hierarchy}
use Rattle.scx_weights.specs.Limits.{usage_of}
use Rattle.scx_sched_world.specs.declared.timers.Alarm.{Alarm}
use Rattle.scx_sched_world.specs.declared.cpu_set.Marks.{Marks}
use Rattle.scx_sched_world.specs.World.{WorldState, marks_of}
use Rattle.scx_sched_world.specs.Helpers.{alarm_at}
use Rattle.scx_sched.specs.Sim.{SimState}
use Rattle.scx_explore_states.specs.declared.form.Form.{Form}
use Rattle.scx_explore_states.specs.declared.rows.Row.{Row}
use Rattle.scx_explore_states.specs.Rows.{entries_of, rows_of}
use Rattle.scx_explore_states.specs.NotZero.{kept_words}
use Rattle.scx_explore_states.specs.Written.{AreKnown, IsFair, IsWritten, byte_words, map_words, eight_at, joined, kept_word, row_in, marks_words, until_due, cpu_of_alarm, alarm_words, timer_words, linux_words, past_tick, row_words, rows_words, rules_words, spot_words, state_words, task_words, time_words, usage_words, used_words, word_from, word_of}

-- a part behind others
pub behind : (xs ys zs ps qs : List ℕ) → zs ≡ ys ++ qs → ys ≡ xs ++ ps → zs ≡ xs ++ (ps ++ qs)
behind xs ys zs ps qs new old = new ∙ (ap (λ (l : List ℕ). l ++ qs) old ∙ append_assoc xs ps qs)

-- four parts behind others
four : (o ps qs rs ts : List ℕ) → (((o ++ ps) ++ qs) ++ rs) ++ ts ≡ o ++ (ps ++ (qs ++ (rs ++ ts)))
four o ps qs rs ts = append_assoc ((o ++ ps) ++ qs) rs ts ∙ (append_assoc (o ++ ps) qs (rs ++ ts) ∙ append_assoc o ps (qs ++ (rs ++ ts)))

-- one more byte of a word
pub word_more : (bytes : List ℕ) (n w v d : ℕ) → n < length bytes → v ≡ joined 8 w (get_or bytes n d) → word_from w (drop n bytes) ≡ word_of bytes → word_from v (drop (n + 1) bytes) ≡ word_of bytes
word_more bytes n w v d l is before =
    ap (λ (x : ℕ). word_from x (drop (n + 1) bytes)) is
    ∙ (ap (λ (bs : List ℕ). word_from w bs) (sym (drop_more bytes n d l)) ∙ before)

-- all of them
pub word_all : (bytes : List ℕ) (n w : ℕ) → length bytes ≤ n → word_from w (drop n bytes) ≡ word_of bytes → w ≡ word_of bytes
word_all bytes n w past is = ap (λ (bs : List ℕ). word_from w bs) (sym (drop_all n bytes past)) ∙ is

-- half a word each of one more pair
pub spots_more : (rows : List Row) (order : List ℕ) (n : ℕ) (a b : Row) (w : ℕ) (xs ys zs : List ℕ) → zs ≡ ys ++ w ∷ [] → ys ≡ xs ++ spot_words rows order n → w ≡ joined 32 a.spot b.spot → a ≡ row_in rows order (2 * n) → b ≡ row_in rows order (2 * n + 1) → zs ≡ xs ++ spot_words rows order (n + 1)
spots_more rows order n a b w xs ys zs new old is first second =
    let on : n + 1 ≡ suc n = omega arith in
    let word : w ≡ joined 32 (row_in rows order (2 * n)).spot (row_in rows order (2 * n + 1)).spot =
    is ∙ ap (λ (r : Row). joined 32 r.spot b.spot) first ∙ ap (λ (r : Row). joined 32 (row_in rows order (2 * n)).spot r.spot) second in
    behind xs ys zs (spot_words rows order n) (w ∷ []) new old
    ∙ ap (λ (x : ℕ). xs ++ (spot_words rows order n ++ x ∷ [])) word
    ∙ ap (λ (k : ℕ). xs ++ spot_words rows order k) (sym on)

-- what is kept of the task at one more place
pub rows_more : (f : Form) (rows : List Row) (order : List ℕ) (n : ℕ) (a : Row) (xs ys zs : List ℕ) → zs ≡ ys ++ row_words f a → ys ≡ xs ++ rows_words f rows order n → a ≡ row_in rows order n → zs ≡ xs ++ rows_words f rows order (n + 1)
rows_more f rows order n a xs ys zs new old is =
    let on : n + 1 ≡ suc n = omega arith in
    behind xs ys zs (rows_words f rows order n) (row_words f a) new old
    ∙ ap (λ (r : Row). xs ++ (rows_words f rows order n ++ row_words f r)) is
    ∙ ap (λ (k : ℕ). xs ++ rows_words f rows order k) (sym on)

-- what one more group has used
pub used_more : (t : Hierarchy) (n w : ℕ) (xs ys zs : List ℕ) → zs ≡ ys ++ w ∷ [] → ys ≡ xs ++ used_words t n → w ≡ usage_of t n → zs ≡ xs ++ used_words t (n + 1)
used_more t n w xs ys zs new old is =
    let on : n + 1 ≡ suc n = omega arith in
    behind xs ys zs (used_words t n) (w ∷ []) new old
    ∙ ap (λ (x : ℕ). xs ++ (used_words t n ++ x ∷ [])) is
    ∙ ap (λ (k : ℕ). xs ++ used_words t k) (sym on)

-- eight bytes more
pub bytes_more : (bytes : List ℕ) (n w : ℕ) (eight xs ys zs : List ℕ) → zs ≡ ys ++ w ∷ [] → ys ≡ xs ++ byte_words bytes n → w ≡ word_of eight → eight ≡ eight_at bytes n → zs ≡ xs ++ byte_words bytes (n + 1)
bytes_more bytes n w eight xs ys zs new old is there =
    let on : n + 1 ≡ suc n = omega arith in
    behind xs ys zs (byte_words bytes n) (w ∷ []) new old
    ∙ ap (λ (x : ℕ). xs ++ (byte_words bytes n ++ x ∷ [])) (is ∙ ap word_of there)
    ∙ ap (λ (k : ℕ). xs ++ byte_words bytes k) (sym on)

-- ---- parts of a state

-- what is kept of a task
pub row_parts : (f : Form) (r : Row) (old xs ys zs new : List ℕ) → xs ≡ old ++ r.slice ∷ [] → ys ≡ xs ++ kept_word f.keys r.key → zs ≡ ys ++ kept_word f.vtime r.vtime → new ≡ zs ++ kept_word f.run_ns r.run_ns → new ≡ old ++ row_words f r
row_parts f r old xs ys zs new first second third last =
    last
    ∙ (ap (λ (l : List ℕ). l ++ kept_word f.run_ns r.run_ns) (third ∙ (ap (λ (l : List ℕ). l ++ kept_word f.vtime r.vtime) (second ∙ ap (λ (l : List ℕ). l ++ kept_word f.keys r.key) first)))
    ∙ four old (r.slice ∷ []) (kept_word f.keys r.key) (kept_word f.vtime r.vtime) (kept_word f.run_ns r.run_ns))

-- the clock, how many pushes there were, and the random number
pub time_parts : (f : Form) (w : WorldState) (c p r : ℕ) (old xs ys new : List ℕ) → c ≡ w.clock → p ≡ w.queues.pushes → r ≡ w.random → xs ≡ old ++ kept_word f.clock c → ys ≡ xs ++ kept_word f.pushes p → new ≡ ys ++ kept_word f.random r → new ≡ old ++ time_words f w
time_parts f w c p r old xs ys new now many drawn first second last =
    behind xs ys new (kept_word f.pushes p) (kept_word f.random r) last second
    ∙ behind old xs (xs ++ (kept_word f.pushes p ++ kept_word f.random r)) (kept_word f.clock c) (kept_word f.pushes p ++ kept_word f.random r) (λ i. xs ++ (kept_word f.pushes p ++ kept_word f.random r)) first
    ∙ (ap (λ (k : ℕ). old ++ (kept_word f.clock k ++ (kept_word f.pushes p ++ kept_word f.random r))) now
    ∙ (ap (λ (k : ℕ). old ++ (kept_word f.clock w.clock ++ (kept_word f.pushes k ++ kept_word f.random r))) many
    ∙ ap (λ (k : ℕ). old ++ (kept_word f.clock w.clock ++ (kept_word f.pushes w.queues.pushes ++ kept_word f.random k))) drawn))

-- five parts behind others
five : (o ps qs rs ts us : List ℕ) → ((((o ++ ps) ++ qs) ++ rs) ++ ts) ++ us ≡ o ++ (ps ++ (qs ++ (rs ++ (ts ++ us))))
five o ps qs rs ts us = append_assoc (((o ++ ps) ++ qs) ++ rs) ts us ∙ four o ps qs rs (ts ++ us)

-- all of them but the first word
pub state_parts : (f : Form) (rows : List Row) (order : List ℕ) (s : SimState) (n : ℕ) (old xs ys zs us new : List ℕ) → n ≡ min (length s.state.world.tasks) 8 → xs ≡ old ++ task_words f rows order n → ys ≡ xs ++ time_words f s.state.world → zs ≡ ys ++ usage_words s.state.world → us ≡ zs ++ rules_words s.state → new ≡ us ++ kept_words f.map_words (map_words s.state.maps) → new ≡ old ++ state_words f rows order s
state_parts f rows order s n old xs ys zs us new many first second third fourth last =
    let w = s.state.world in
    let held : List ℕ = kept_words f.map_words (map_words s.state.maps) in
    let rest : List ℕ = time_words f w ++ (usage_words w ++ (rules_words s.state ++ held)) in
    last
    ∙ (ap (λ (l : List ℕ). l ++ held) (fourth ∙ (ap (λ (l : List ℕ). l ++ rules_words s.state) (third ∙ (ap (λ (l : List ℕ). l ++ usage_words w) (second ∙ ap (λ (l : List ℕ). l ++ time_words f w) first)))))
    ∙ (five old (task_words f rows order n) (time_words f w) (usage_words w) (rules_words s.state) held
    ∙ ap (λ (k : ℕ). old ++ (task_words f rows order k ++ rest)) many))

-- which processors are claimed, kicked and preempted
pub marks_parts : (m : Marks) (a b c : ℕ) (old xs ys new : List ℕ) → a ≡ m.claimed.0 → b ≡ m.kicked.0 → c ≡ m.preempted.0 → xs ≡ old ++ a ∷ [] → ys ≡ xs ++ b ∷ [] → new ≡ ys ++ c ∷ [] → new ≡ old ++ marks_words m
marks_parts m a b c old xs ys new claimed kicked preempted first second last =
    behind xs ys new (b ∷ []) (c ∷ []) last second
    ∙ behind old xs (xs ++ b ∷ c ∷ []) (a ∷ []) (b ∷ c ∷ []) refl first
    ∙ (λ i. old ++ claimed i ∷ kicked i ∷ preempted i ∷ [])

-- a timer: how long it is until it is due, and its processor
pub alarm_parts : (clock c : ℕ) (o a : Option Alarm) (old xs new : List ℕ) → c ≡ clock → a ≡ o → xs ≡ old ++ until_due c a ∷ [] → new ≡ xs ++ cpu_of_alarm a ∷ [] → new ≡ old ++ alarm_words clock o
alarm_parts clock c o a old xs new now is first last =
    behind old xs new (until_due c a ∷ []) (cpu_of_alarm a ∷ []) last first
    ∙ (ap (λ (x : ℕ). old ++ alarm_words x a) now ∙ ap (λ (x : Option Alarm). old ++ alarm_words clock x) is)

-- one more timer
pub timers_more : (w : WorldState) (n : ℕ) (xs ys zs : List ℕ) → zs ≡ ys ++ alarm_words w.clock (alarm_at w n) → ys ≡ xs ++ timer_words w n → zs ≡ xs ++ timer_words w (n + 1)
timers_more w n xs ys zs new old =
    let on : n + 1 ≡ suc n = omega arith in
    behind xs ys zs (timer_words w n) (alarm_words w.clock (alarm_at w n)) new old ∙ ap (λ (x : ℕ). xs ++ timer_words w x) (sym on)

-- all of these, and timers
pub rules_parts : (w : WorldState) (m : Marks) (n : ℕ) (old xs new : List ℕ) → m ≡ marks_of w → n ≡ length w.timers → xs ≡ old ++ marks_words m → new ≡ xs ++ timer_words w n → new ≡ old ++ linux_words w
rules_parts w m n old xs new marked all first last =
    behind old xs new (marks_words m) (timer_words w n) last first
    ∙ (ap (λ (x : Marks). old ++ (marks_words x ++ timer_words w n)) marked ∙ ap (λ (k : ℕ). old ++ (marks_words (marks_of w) ++ timer_words w k)) all)

-- the clock from tick to tick behind others, and what is kept of processors and timers
pub linux_parts : (w : WorldState) (tick clock t c k : ℕ) (old xs new : List ℕ) → k ≡ past_tick t c → t ≡ tick → c ≡ clock → xs ≡ old ++ k ∷ [] → new ≡ xs ++ linux_words w → new ≡ old ++ past_tick tick clock ∷ linux_words w
linux_parts w tick clock t c k old xs new past ticks now first last =
    behind old xs new (k ∷ []) (linux_words w) last first
    ∙ ap (λ (x : ℕ). old ++ x ∷ linux_words w) (past ∙ (ap (λ (x : ℕ). past_tick x c) ticks ∙ ap (λ (x : ℕ). past_tick tick x) now))

-- the clock behind others, and what groups have used
pub limited_parts : (t : Hierarchy) (clock n m w : ℕ) (old xs new : List ℕ) → w ≡ clock → n ≡ m → xs ≡ old ++ w ∷ [] → new ≡ xs ++ used_words t n → new ≡ old ++ clock ∷ used_words t m
limited_parts t clock n m w old xs new now many first last =
    behind old xs new (w ∷ []) (used_words t n) last first
    ∙ (ap (λ (k : ℕ). old ++ k ∷ used_words t n) now ∙ ap (λ (k : ℕ). old ++ clock ∷ used_words t k) many)

-- and all of them
pub words_written : (f : Form) (rows : List Row) (order : List ℕ) (s : SimState) (b : ℕ) (none first new : List ℕ) → none ≡ [] → first ≡ none ++ b ∷ [] → new ≡ first ++ state_words f rows order s → new ≡ b ∷ state_words f rows order s
words_written f rows order s b none first new clear one all =
    all ∙ ap (λ (l : List ℕ). l ++ state_words f rows order s) (one ∙ ap (λ (l : List ℕ). l ++ b ∷ []) clear)

-- a state
pub state_written : (f : Form) (ids : List ℕ) (s : SimState) (rows : List Row) (order : List ℕ) (b : ℕ) (new : List ℕ) → rows ≡ rows_of f s.state.world ids → new ≡ b ∷ state_words f rows order s → IsFair f s.state.world order → AreKnown ids (entries_of s.state.world) → IsWritten f ids new s
state_written f ids s rows order b new kept all fair known = record {
  began = b;
  order = order;
  fair = fair;
  known = known;
  words = all ∙ ap (λ (rs : List Row). b ∷ state_words f rs order s) kept;
}

-- ---- what maps have beside their elements

parts_words-suc : (parts : List Directory) (n : ℕ) → n < length parts → parts_words (take (suc n) parts) ≡ parts_words (take n parts) ++ part_words (get_or parts n Array)
parts_words-suc [] n h = absurd (omega (arith, h))
parts_words-suc (d ∷ parts) zero h = append-nil (part_words d)
parts_words-suc (d ∷ parts) (suc n) h =
    ap (λ (l : List ℕ). part_words d ++ l) (parts_words-suc parts n (omega (arith, h))) ∙ sym (append_assoc (part_words d) (parts_words (take n parts)) (part_words (get_or parts n Array)))

-- one more map
pub parts_more : (parts : List Directory) (n : ℕ) (xs ys zs : List ℕ) → n < length parts → zs ≡ ys ++ part_words (get_or parts n Array) → ys ≡ xs ++ parts_words (take n parts) → zs ≡ xs ++ parts_words (take (n + 1) parts)
parts_more parts n xs ys zs h new old =
    let on : n + 1 ≡ suc n = omega arith in
    behind xs ys zs (parts_words (take n parts)) (part_words (get_or parts n Array)) new old
    ∙ ap (λ (l : List ℕ). xs ++ l) (sym (parts_words-suc parts n h))
    ∙ ap (λ (k : ℕ). xs ++ parts_words (take k parts)) (sym on)

-- one more word of a map
pub part_more : (ws : List ℕ) (n w : ℕ) (xs ys zs : List ℕ) → n < length ws → zs ≡ ys ++ w ∷ [] → ys ≡ xs ++ take n ws → w ≡ get_or ws n 0 → zs ≡ xs ++ take (n + 1) ws
part_more ws n w xs ys zs h new old is =
    behind xs ys zs (take n ws) (w ∷ []) new old
    ∙ ap (λ (x : ℕ). xs ++ (take n ws ++ x ∷ [])) is
    ∙ ap (λ (l : List ℕ). xs ++ l) (sym (take_more ws n 0 h))

-- all words of a map
pub part_all : (ws : List ℕ) (xs ys : List ℕ) (n : ℕ) → length ws ≤ n → ys ≡ xs ++ take n ws → ys ≡ xs ++ ws
part_all ws xs ys n past is = is ∙ ap (λ (l : List ℕ). xs ++ l) (take_all n ws past)
