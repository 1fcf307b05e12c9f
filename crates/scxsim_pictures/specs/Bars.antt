-- The time that a timeline shows of what a task did.
use Rattle.std.specs.Prelude.{ℕ, ◌≡◌, ◌<◌, ◌≤◌, max, min}
use Rattle.scxsim_commands.specs.declared.windows.Window.{Window}
use Rattle.scxsim_pictures.specs.declared.objects.Bar.{Bar}

-- a bar shows the time between two moments that lies in a part of a run, and that is some
abbrev pub IsPartOf : Window → ℕ → ℕ → Bar → Type 0
IsPartOf part since until bar =
    (bar.since ≡ max since part.from) × (bar.until ≡ min until part.to) × (bar.since < bar.until)

-- none of the time between two moments lies in a part of a run
abbrev pub HasNoTime : Window → ℕ → ℕ → Type 0
HasNoTime part since until = min until part.to ≤ max since part.from
