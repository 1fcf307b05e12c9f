-- The lines of a file of events: `MS wake TASK`, `MS sleep TASK`, `MS weight GROUP W`, or, under
-- Linux rules, `MS task_weight TASK W`, with one space between words. An empty line says nothing.
use Rattle.std.specs.Prelude.{ℕ, ◌+◌, ◌-◌, ◌==◌, ◌&&◌, nat_le, Bool, List, [], ◌∷◌, ◌++◌, length, take, drop, Option, Some, None, codes, Result, Ok, Err, if◌then◌else◌}
use Rattle.std.specs.List.{position}
use Rattle.std.specs.Str.{bytes_eq}
use Rattle.std.specs.Str.Parse.{digits_value}
use Rattle.scx_isa_semantics.specs.Results.{◌>>=◌}
use Rattle.scx_isa_semantics.specs.declared.rules.Rules.{Rules}
use Rattle.scx_isa_semantics.specs.declared.rules.Rules.TheVariants.{Plain, Linux}
use Rattle.scx_sched_machine.specs.declared.events.Event.{Event}
use Rattle.scx_sched_machine.specs.declared.events.Event.TheVariants as event
use Rattle.scx_load_workloads.specs.Limit.{is_numeral}
use Rattle.scx_load_workloads.specs.Workload.{WorkloadState}
use Rattle.scx_load_workloads.specs.Reading.{index_of}
use Rattle.scx_load_replay.specs.declared.lines.Line.{Line}
use Rattle.scx_load_files.specs.declared.event_fault.EventFault.{EventFault}
use Rattle.scx_load_files.specs.declared.event_fault.EventFault.TheVariants as fault
use Rattle.scx_load_replay.specs.Replay.{max_lines, block_of, comes_before, is_awake, awake_after, all_asleep}

-- the reading of a line, or its first fault
abbrev pub Told : Type 0 → Type 0
Told A = Result A EventFault

-- the value, if there is one, or else that fault
abbrev pub or_fault : {A : Type 0} → EventFault → Option A → Told A
or_fault f None = Err f
or_fault f (Some x) = Ok x

-- ---- words

-- the parts of a text before and after its first space
pub record Cut : Type 0 where
  pub word : List ℕ
  pub rest : List ℕ

-- a text that is cut at that space
abbrev pub cut_at : List ℕ → Option ℕ → Option Cut
cut_at text None = None
cut_at text (Some space) = Some (record { word = take space text; rest = drop (space + 1) text })

-- a text that is cut at its first space, if it has one
abbrev pub cut : List ℕ → Option Cut
cut text = cut_at text (position (λ b. b == 32) text)

-- a number, if it is one from the least to the greatest
abbrev pub within : ℕ → ℕ → ℕ → Option ℕ
within least most n = if nat_le least n && nat_le n most then Some n else None

-- the number from the least to the greatest that digits say, as many as one likes
abbrev pub number_in : ℕ → ℕ → List ℕ → Option ℕ
number_in least most text =
    if is_numeral text then within least most (digits_value 10 text) else None

-- ---- events

-- the number of the task of that name
abbrev pub task_in : WorkloadState → List ℕ → Told ℕ
task_in w name = or_fault fault.NoSuchTask (index_of w.task_names name)

-- a group and its weight from then on
abbrev pub weight_in : WorkloadState → List ℕ → Told Event
weight_in w text = do
  words ← or_fault fault.Syntax (cut text)
  g ← or_fault fault.NoSuchGroup (index_of w.group_names words.word)
  x ← or_fault fault.BadWeight (number_in 1 10000 words.rest)
  Ok (event.SetWeight g x)

-- a task and its own weight from then on
abbrev pub own_weight_in : WorkloadState → List ℕ → Told Event
own_weight_in w text = do
  words ← or_fault fault.Syntax (cut text)
  t ← task_in w words.word
  x ← or_fault fault.BadWeight (number_in 1 10000 words.rest)
  Ok (event.SetTaskWeight t x)

-- the same, where those rules know of it
abbrev pub own_weight_by : Rules → WorkloadState → List ℕ → Told Event
own_weight_by Plain w text = Err fault.Syntax
own_weight_by Linux w text = own_weight_in w text

-- the event that a verb and the text after it say
abbrev pub event_in : Rules → WorkloadState → List ℕ → List ℕ → Told Event
event_in rules w verb rest =
    if bytes_eq verb (codes "wake") then (task_in w rest >>= λ t. Ok (event.Wake t))
    else if bytes_eq verb (codes "sleep") then (task_in w rest >>= λ t. Ok (event.Sleep t))
    else if bytes_eq verb (codes "weight") then weight_in w rest
    else if bytes_eq verb (codes "task_weight") then own_weight_by rules w rest
    else Err fault.Syntax

-- the line of that millisecond whose text after it says the event
abbrev pub line_at : Rules → WorkloadState → ℕ → List ℕ → Told Line
line_at rules w at text = do
  verb ← or_fault fault.Syntax (cut text)
  e ← event_in rules w verb.word verb.rest
  Ok (record { at = at; event = e })

-- the millisecond and the event that a line says
abbrev pub line_in : Rules → WorkloadState → List ℕ → Told Line
line_in rules w text = do
  time ← or_fault fault.Syntax (cut text)
  at ← or_fault fault.BadTime (number_in 0 (w.ms - 1) time.word)
  line_at rules w at time.rest

-- ---- one line after another

-- the lines so far, the tasks awake after them, and the millisecond and the block of the last one
pub record ProgressState : Type 0 where
  pub lines : List Line
  pub awake : List Bool
  pub at : ℕ
  pub block : ℕ

-- before the first line
abbrev pub no_lines : WorkloadState → ProgressState
no_lines w = record { lines = []; awake = all_asleep w; at = 0; block = 0 }

-- with one line more
abbrev pub with_line : ProgressState → Line → ProgressState
with_line p l = record {
  lines = p.lines ++ l ∷ [];
  awake = awake_after p.awake l.event;
  at = l.at;
  block = block_of l.event;
}

-- a task that is awake can't wake, and one that sleeps can't go to sleep
abbrev pub state_fault : List Bool → Event → Option EventFault
state_fault awake (event.Wake t) = if is_awake awake t then Some fault.AlreadyRunnable else None
state_fault awake (event.Sleep t) = if is_awake awake t then None else Some fault.NotRunnable
state_fault awake (event.SetWeight g x) = None
state_fault awake (event.SetTaskWeight t x) = None
state_fault awake (event.Tick c) = None
state_fault awake event.Clock = None

-- the fault of a line that can't come after these
abbrev pub place_fault : ProgressState → Line → Option EventFault
place_fault p l =
    if nat_le max_lines (length p.lines) then Some fault.TooMany
    else if comes_before l.at (block_of l.event) p.at p.block then Some fault.OutOfOrder
    else state_fault p.awake l.event

-- the value, unless it has a fault
abbrev pub unless : {A : Type 0} → Option EventFault → A → Told A
unless (Some f) x = Err f
unless None x = Ok x

-- a line that says something, after these
abbrev pub line_behind : ProgressState → Line → Told ProgressState
line_behind p l = unless (place_fault p l) (with_line p l)

-- a line of the text after these; an empty one says nothing
abbrev pub text_behind : Rules → WorkloadState → ProgressState → List ℕ → Told ProgressState
text_behind rules w p text =
    if length text == 0 then Ok p else (line_in rules w text >>= λ l. line_behind p l)
