-- The texts of two files determine their run, its trace and its report.
use Rattle.std.specs.Prelude.{◌≡◌, List, ℕ, Option, Some}
use Rattle.std.specs.Io.KnownBytes.{Appends}
use Rattle.scx_sched.specs.Sim.{SimState}
use Rattle.scx_load_workloads.specs.Workload.{WorkloadState}
use Rattle.scx_load_replay.specs.Replay.{ReplayState}
use Rattle.scxsim_runs.specs.Runs.{IsRun}
use Rattle.scxsim_simulation.specs.Traces.{trace_text, report_text}
use Rattle.scxsim_runs.specs.Replays.{IsReplayRun}
use Rattle.scxsim_simulation.specs.Traces.{replay_text}

-- ---- a workload

-- two runs of the same texts are of the same workload, from the same first state on
abbrev pub TextsDetermineRuns : Type 0
TextsDetermineRuns =
    (policy workload : List ℕ) (v w : WorkloadState) (s t : SimState)
    → IsRun policy workload v s → IsRun policy workload w t → (v ≡ w) × (s ≡ t)

-- an output changes from one content to the other as `simulate` may leave it
pub record IsTraced (policy workload : List ℕ) (old new : Option (List ℕ)) : Type 0 where
  pub w : WorkloadState
  pub s : SimState
  pub run : IsRun policy workload w s
  pub written : Appends old new (trace_text w s)

-- an output changes from one content to the other as `report` may leave it
pub record IsReported (policy workload : List ℕ) (old new : Option (List ℕ)) : Type 0 where
  pub w : WorkloadState
  pub s : SimState
  pub run : IsRun policy workload w s
  pub written : Appends old new (report_text w s)

-- whatever was written before, two traces of the same texts are the same bytes
abbrev pub TextsDetermineTraces : Type 0
TextsDetermineTraces =
    (policy workload before one other : List ℕ)
    → IsTraced policy workload (Some before) (Some one)
    → IsTraced policy workload (Some before) (Some other)
    → one ≡ other

-- and so are two reports
abbrev pub TextsDetermineReports : Type 0
TextsDetermineReports =
    (policy workload before one other : List ℕ)
    → IsReported policy workload (Some before) (Some one)
    → IsReported policy workload (Some before) (Some other)
    → one ≡ other

-- ---- a file of events

-- two runs of the same texts are of the same events, from the same first state on
abbrev pub TextsDetermineReplays : Type 0
TextsDetermineReplays =
    (policy events : List ℕ) (q r : ReplayState) (s t : SimState)
    → IsReplayRun policy events q s → IsReplayRun policy events r t → (q ≡ r) × (s ≡ t)

-- an output changes from one content to the other as `replay` may leave it
pub record IsReplayed (policy events : List ℕ) (old new : Option (List ℕ)) : Type 0 where
  pub r : ReplayState
  pub s : SimState
  pub run : IsReplayRun policy events r s
  pub written : Appends old new (replay_text r s)

-- two traces of the same texts are the same bytes
abbrev pub TextsDetermineReplayTraces : Type 0
TextsDetermineReplayTraces =
    (policy events before one other : List ℕ)
    → IsReplayed policy events (Some before) (Some one)
    → IsReplayed policy events (Some before) (Some other)
    → one ≡ other
