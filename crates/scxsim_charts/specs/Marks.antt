-- The marks of a chart: the main activity in the time of a character.
use Rattle.std.specs.Prelude.{ℕ, zero, suc, ◌≡◌, ◌+◌, ◌-◌, ◌*◌, ◌/◌, ◌^◌, ◌<◌, ◌≤◌, ◌⊎◌, min}
use Rattle.scxsim_charts.specs.declared.marks.Times.{Times}
use Rattle.scxsim_charts.specs.declared.marks.TaskMark.{TaskMark}
use Rattle.scxsim_charts.specs.declared.marks.TaskMark.TheVariants.{Ran, PartlyRan, Waited, WasHeld, PartlyWaited, WasParked, Slept}
use Rattle.scxsim_charts.specs.declared.marks.Idleness.{Idleness}
use Rattle.scxsim_charts.specs.declared.marks.Idleness.TheVariants.{Unneeded, Lost, PartlyLost}
use Rattle.scxsim_charts.specs.declared.marks.CpuMark.{CpuMark}
use Rattle.scxsim_charts.specs.declared.marks.CpuMark.TheVariants as cpu
use Rattle.scxsim_charts.specs.declared.marks.GroupMark.{GroupMark}
use Rattle.scxsim_charts.specs.declared.marks.GroupMark.TheVariants as group
use Rattle.scxsim_charts.specs.declared.due_times.TheConstants.{DUE_PARTS}

-- the time that all tasks below that number ran, at most 64 bits
abbrev pub all_ran : ℕ → (ℕ → ℕ) → ℕ
all_ran zero ran = 0
all_ran (suc t) ran = min (all_ran t ran + ran t) (2 ^ 64 - 1)

-- a time is at least half of another, and not none
abbrev pub IsHalf : ℕ → ℕ → Type 0
IsHalf part whole = (0 < part) × (whole ≤ 2 * part)

-- the time that tasks waited for a CPU, in a queue or held
abbrev pub all_waited : Times → ℕ
all_waited t = t.waited + t.held

-- the rest of the time of a character
abbrev pub slept : Times → ℕ → ℕ
slept t length = length - (t.ran + all_waited t + t.parked)

-- tasks were parked for longer than they ran or waited, and at least as long as they slept
abbrev pub IsMostlyParked : Times → ℕ → Type 0
IsMostlyParked t length =
    (t.ran < t.parked) × (all_waited t < t.parked) × (slept t length ≤ t.parked)

-- a mark says what a task did for most of the time of a character, or that this was less than half
abbrev pub TellsTask : TaskMark → Times → ℕ → Type 0
TellsTask Ran t length = (all_waited t ≤ t.ran) × IsHalf t.ran length
TellsTask PartlyRan t length = (all_waited t ≤ t.ran) × (0 < t.ran) × (2 * t.ran < length)
TellsTask Waited t length =
    (t.ran < all_waited t) × IsHalf (all_waited t) length × (t.held ≤ t.waited)
TellsTask WasHeld t length =
    (t.ran < all_waited t) × IsHalf (all_waited t) length × (t.waited < t.held)
TellsTask PartlyWaited t length = (t.ran < all_waited t) × (2 * all_waited t < length)
TellsTask WasParked t length = IsMostlyParked t length
TellsTask Slept t length = (t.ran ≡ 0) × (all_waited t ≡ 0) × (t.parked ≤ slept t length)

-- a reason says for how much of the time in which CPUs were idle a task waited
abbrev pub TellsIdle : Idleness → ℕ → ℕ → Type 0
TellsIdle Unneeded lost idle = lost ≡ 0
TellsIdle Lost lost idle = IsHalf lost idle
TellsIdle PartlyLost lost idle = (0 < lost) × (2 * lost < idle)

-- a mark says the tenths of all CPUs' time that tasks ran, and below a tenth why CPUs were idle
abbrev pub TellsBusy : CpuMark → ℕ → ℕ → ℕ → Type 0
TellsBusy cpu.All ran whole lost = whole ≤ ran
TellsBusy (cpu.Tenths n) ran whole lost = (ran < whole) × (n ≡ ran * 10 / whole) × (0 < n)
TellsBusy (cpu.Idle i) ran whole lost =
    (ran < whole) × (ran * 10 / whole ≡ 0) × TellsIdle i lost (whole - ran)
TellsBusy (cpu.Task t) ran whole lost = ⊥
TellsBusy cpu.Several ran whole lost = ⊥

-- no task ran for at least half of the time of a character
abbrev pub NoneAtHalf : ℕ → (ℕ → ℕ) → ℕ → Type 0
NoneAtHalf tasks ran length = (t : ℕ) → t < tasks → ¬ IsHalf (ran t) length

-- a mark says which task ran on a CPU for at least half of the time of a character, or that several
-- did together, or why it was idle
abbrev pub TellsCpu : CpuMark → ℕ → (ℕ → ℕ) → ℕ → ℕ → Type 0
TellsCpu (cpu.Task t) tasks ran length lost = (t < tasks) × IsHalf (ran t) length
TellsCpu cpu.Several tasks ran length lost =
    NoneAtHalf tasks ran length × IsHalf (all_ran tasks ran) length
TellsCpu (cpu.Idle i) tasks ran length lost =
    (¬ IsHalf (all_ran tasks ran) length) × TellsIdle i lost (length - all_ran tasks ran)
TellsCpu (cpu.Tenths n) tasks ran length lost = ⊥
TellsCpu cpu.All tasks ran length lost = ⊥

-- a mark says what the tasks of a group did of which none ran
abbrev pub TellsPause : GroupMark → Times → Type 0
TellsPause group.Waited t = 0 < all_waited t
TellsPause group.WereParked t = (all_waited t ≡ 0) × (0 < t.parked)
TellsPause group.Slept t = (all_waited t ≡ 0) × (t.parked ≡ 0)
TellsPause group.All t = ⊥
TellsPause (group.Tenths n) t = ⊥

-- a mark says the tenths of what was due to a group that its tasks ran, or why none did
abbrev pub TellsGroup : GroupMark → Times → ℕ → Type 0
TellsGroup group.All t due = (0 < t.ran) × (due ≤ t.ran * DUE_PARTS)
TellsGroup (group.Tenths n) t due =
    (0 < t.ran) × (t.ran * DUE_PARTS < due) × (n ≡ t.ran * DUE_PARTS * 10 / due)
    × (t.parked ≤ all_waited t)
TellsGroup group.Waited t due = (t.ran ≡ 0) × TellsPause group.Waited t
TellsGroup group.WereParked t due =
    (t.ran * DUE_PARTS < due ⊎ t.ran ≡ 0) × (all_waited t < t.parked)
TellsGroup group.Slept t due = (t.ran ≡ 0) × TellsPause group.Slept t
