-- The words of a state, as a function of the machine's state.
use Rattle.std.specs.Prelude.{◌≡◌, ℕ, zero, suc, ◌+◌, ◌-◌, ◌*◌, ◌/◌, ◌%◌, ◌^◌, ◌<◌, ◌≤◌, ◌==◌, ◌||◌, min, Bool, true, List, [], ◌∷◌, ◌++◌, length, take, drop, bit_or, nat_lt, Contains, slice_index, slice_index_or, All, Option, Some, None, IfSome, if◌then◌else◌}
use Rattle.scx_dsq.specs.declared.entries.Entry.{Entry}
use Rattle.scx_isa_semantics.specs.Elements.{Maps}
use Rattle.scx_maps.specs.Lending.{all_bytes}
use Rattle.scx_maps.specs.Words.{parts_words}
use Rattle.scx_weights.specs.Hierarchy.{Hierarchy}
use Rattle.scx_weights.specs.Limits.{usage_of, has_quota}
use Rattle.scx_sched_world.specs.declared.cpu_set.Marks.{Marks}
use Rattle.scx_sched_world.specs.World.{WorldState, are_linux, marks_of}
use Rattle.scx_sched_world.specs.Helpers.{group_at, cpus_of, alarm_at}
use Rattle.scx_sched_world.specs.declared.timers.Alarm.{Alarm}
use Rattle.scx_sched_machine.specs.Steps.{State}
use Rattle.scx_sched.specs.Sim.{SimState}
use Rattle.scx_explore_states.specs.declared.form.Form.{Form}
use Rattle.scx_explore_states.specs.declared.rows.Row.{Row}
use Rattle.scx_explore_states.specs.Rows.{entries_of, no_row, rows_of}
use Rattle.scx_explore_states.specs.declared.map_words.MapWords.TheVariants.{Whole}
use Rattle.scx_explore_states.specs.NotZero.{kept_words}
use Rattle.scx_explore_states.specs.Words.{number_in}

-- ---- words

-- one number, shifted up by n bits, and the other one below it
abbrev pub joined : ℕ → ℕ → ℕ → ℕ
joined n a b = bit_or (a * 2 ^ n % 2 ^ 64) b

-- that number, and below it the bytes, each of them below the last one
abbrev pub word_from : ℕ → List ℕ → ℕ
word_from n [] = n
word_from n (b ∷ bs) = word_from (joined 8 n b) bs

-- at most eight bytes as a number
abbrev pub word_of : List ℕ → ℕ
word_of bytes = word_from 0 bytes

-- the word, where it is kept
abbrev pub kept_word : Bool → ℕ → List ℕ
kept_word b n = if b then n ∷ [] else []

-- ---- the order in which tasks are written

-- each task at its own place
abbrev pub own_order : List ℕ
own_order = 0 ∷ 1 ∷ 2 ∷ 3 ∷ 4 ∷ 5 ∷ 6 ∷ 7 ∷ []

-- the task at that place
abbrev pub task_in : List ℕ → ℕ → ℕ
task_in order p = slice_index order (p % 8) % 8

-- what is kept of the task at that place
abbrev pub row_in : List Row → List ℕ → ℕ → Row
row_in rows order p = slice_index_or rows (task_in order p) no_row

-- the group of a task; a number that no group has where there is no such task
abbrev pub home_at : WorldState → ℕ → ℕ
home_at w t = if nat_lt t (length w.tasks) then group_at w t else 18446744073709551615

-- two tasks are of one group, and may run on the same processors
abbrev pub AreAlike : WorldState → ℕ → ℕ → Type 0
AreAlike w t u = (home_at w t ≡ home_at w u) × (cpus_of w t ≡ cpus_of w u)

-- each of the first eight tasks is at some place, and tasks of a group that may run on the same
-- processors may have changed places; they haven't where the form tells them apart
pub record IsFair (f : Form) (w : WorldState) (order : List ℕ) : Type 0 where
  pub names : f.names ≡ true → order ≡ own_order
  pub whole : (t : ℕ) → t < 8 → Contains order t
  pub alike : (p : ℕ) → p < 8 → AreAlike w (task_in order p) p

-- ---- the parts of a state

-- a word for each of the first n pairs of tasks
abbrev pub spot_words : List Row → List ℕ → ℕ → List ℕ
spot_words rows order zero = []
spot_words rows order (suc n) =
    spot_words rows order n
    ++ joined 32 (row_in rows order (2 * n)).spot (row_in rows order (2 * n + 1)).spot ∷ []

-- what is kept of a task beside it
abbrev pub row_words : Form → Row → List ℕ
row_words f r =
    r.slice ∷ (kept_word f.keys r.key ++ (kept_word f.vtime r.vtime ++ kept_word f.run_ns r.run_ns))

-- what is kept beside it of the tasks at the first n places
abbrev pub rows_words : Form → List Row → List ℕ → ℕ → List ℕ
rows_words f rows order zero = []
rows_words f rows order (suc n) = rows_words f rows order n ++ row_words f (row_in rows order n)

-- the clock, how many pushes there were, and from which number the next random one is made
abbrev pub time_words : Form → WorldState → List ℕ
time_words f w =
    kept_word f.clock w.clock
    ++ (kept_word f.pushes w.queues.pushes ++ kept_word f.random w.random)

-- what the first n groups have used
abbrev pub used_words : Hierarchy → ℕ → List ℕ
used_words t zero = []
used_words t (suc n) = used_words t n ++ usage_of t n ∷ []

-- what all groups have used, after the clock, where a group has a quota
abbrev pub usage_words : WorldState → List ℕ
usage_words w =
    if has_quota w.tree.groups then w.clock ∷ used_words w.tree (length w.tree.groups) else []

-- which processors are claimed, kicked and preempted
abbrev pub marks_words : Marks → List ℕ
marks_words m = m.claimed.0 ∷ m.kicked.0 ∷ m.preempted.0 ∷ []

-- how far the clock is past a tick, in milliseconds; 0 where slices end exactly
abbrev pub past_tick : ℕ → ℕ → ℕ
past_tick tick clock = if tick == 0 then 0 else clock % tick

-- how many milliseconds are left until a timer is due; 0 where it isn't started
abbrev pub until_due : ℕ → Option Alarm → ℕ
until_due clock None = 0
until_due clock (Some a) = a.due - clock

-- the processor of a timer's callback; 0 where it isn't started
abbrev pub cpu_of_alarm : Option Alarm → ℕ
cpu_of_alarm None = 0
cpu_of_alarm (Some a) = a.cpu

-- what is kept of a timer: how long it is until it is due, and on which processor its callback runs
abbrev pub alarm_words : ℕ → Option Alarm → List ℕ
alarm_words clock o = until_due clock o ∷ cpu_of_alarm o ∷ []

-- of each of the first n timers
abbrev pub timer_words : WorldState → ℕ → List ℕ
timer_words w zero = []
timer_words w (suc n) = timer_words w n ++ alarm_words w.clock (alarm_at w n)

-- what is kept of all processors, and of each timer
abbrev pub linux_words : WorldState → List ℕ
linux_words w = marks_words (marks_of w) ++ timer_words w (length w.timers)

-- under Linux rules the clock from tick to tick, and what is kept of all processors and each timer
abbrev pub rules_words : State → List ℕ
rules_words s =
    if are_linux s.world.rules
    then past_tick s.policy.tick_ms s.world.clock ∷ linux_words s.world
    else []

-- eight of the bytes
abbrev pub eight_at : List ℕ → ℕ → List ℕ
eight_at bytes n = take 8 (drop (8 * n) bytes)

-- n words of eight bytes
abbrev pub byte_words : List ℕ → ℕ → List ℕ
byte_words bytes zero = []
byte_words bytes (suc n) = byte_words bytes n ++ word_of (eight_at bytes n) ∷ []

-- the bytes of all maps, and what maps have beside their elements
abbrev pub map_words : Maps → List ℕ
map_words maps =
    byte_words (all_bytes maps) ((length (all_bytes maps) + 7) / 8) ++ parts_words maps.directories

-- ---- all of a state

-- what is kept of the tasks, in that order
abbrev pub task_words : Form → List Row → List ℕ → ℕ → List ℕ
task_words f rows order n = spot_words rows order ((n + 1) / 2) ++ rows_words f rows order n

-- the state of a machine, of whose tasks that is kept, in that order
abbrev pub state_words : Form → List Row → List ℕ → SimState → List ℕ
state_words f rows order s =
    task_words f rows order (min (length s.state.world.tasks) 8)
    ++ (time_words f s.state.world ++ (usage_words s.state.world ++ (rules_words s.state
    ++ kept_words f.map_words (map_words s.state.maps))))

-- each task that waits does so in a queue that has a number
abbrev pub AreKnown : List ℕ → List (Option Entry) → Type 0
AreKnown ids es = All (λ o. IfSome o (λ e. number_in ids e.queue < length ids)) es

-- the words are those of the state, after one that says who began to run while another waits, with
-- tasks of a group in any order where the form doesn't tell them apart
pub record IsWritten (f : Form) (ids : List ℕ) (xs : List ℕ) (s : SimState) : Type 0 where
  pub began : ℕ
  pub order : List ℕ
  pub fair : IsFair f s.state.world order
  pub known : AreKnown ids (entries_of s.state.world)
  pub words : xs ≡ began ∷ state_words f (rows_of f s.state.world ids) order s

-- ---- forms of a search

-- slices are kept by Linux rules, and where a group has a quota
abbrev pub needs_slices : WorldState → Bool
needs_slices w = are_linux w.rules || has_quota w.tree.groups

-- the second form is the first one with slices, where that machine needs them, and with other words
-- of maps: with all of them where its maps have at most 4,096 bytes
pub record IsSuited (f : Form) (s : SimState) (g : Form) : Type 0 where
  pub rest : g ≡ record f { slices = g.slices; map_words = g.map_words }
  pub slices : g.slices ≡ (f.slices || needs_slices s.state.world)
  pub few : length (all_bytes s.state.maps) ≤ 4096 → g.map_words ≡ Whole
