-- The count of a pair: the runs of one task that began since the other one waits.
use Rattle.std.specs.Prelude.{◌≡◌, false, true}
use Rattle.scx_sched_world.specs.declared.notes.Note.{Note}
use Rattle.scx_explore_findings.specs.declared.count.Count.{Count}
use Rattle.scx_explore_findings.specs.Findings.{begun_after}

-- the second count is the first one after that note
abbrev pub Counts : Count → Note → Count → Type 0
Counts a n b =
    (false ≡ true → b ≡ a) × (b.pair ≡ a.pair) × (b.begun ≡ begun_after a.pair a.begun n.what)
