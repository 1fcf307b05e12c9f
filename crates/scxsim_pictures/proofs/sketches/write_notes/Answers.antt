use Rattle.std.proofs.Common.{rules, true, false}
use Rattle.scxsim_pictures.proofs.Sketched.{run_is_sketched}
use Rattle.scxsim_pictures.proofs.sketches.write_notes.Goals as goal

pub returns-then-sketching-clause-failures : goal.returns-then-sketching-clause-failures
returns-then-sketching-clause-failures g c =
    let sketched = run_is_sketched (λ s. s.out.ghost_name)
    (λ s. record { contents = g.W.Out.contents s.out.now; failures = g.W.Out.failure_count s.out.now; failed = s.failed })
    (λ s. g.S.Sketch.writes s.sketch.now (g.N.Names.lists s.names.now))
    true _ _ _ _ _ (search rules) (search rules) c.go_through.ensures in
    let same = sketched.0 in
    let failures = sketched.1 in
    search rules

pub returns-clause-ok : goal.returns-clause-ok
returns-clause-ok g c =
    let sketched = run_is_sketched (λ s. s.out.ghost_name)
    (λ s. record { contents = g.W.Out.contents s.out.now; failures = g.W.Out.failure_count s.out.now; failed = s.failed })
    (λ s. g.S.Sketch.writes s.sketch.now (g.N.Names.lists s.names.now))
    false _ _ _ _ _ (search rules) (search rules) c.go_through.ensures in
    let same = sketched.0 in
    let text = sketched.1.0 in
    search rules

pub returns-clause-failures : goal.returns-clause-failures
returns-clause-failures g c =
    let sketched = run_is_sketched (λ s. s.out.ghost_name)
    (λ s. record { contents = g.W.Out.contents s.out.now; failures = g.W.Out.failure_count s.out.now; failed = s.failed })
    (λ s. g.S.Sketch.writes s.sketch.now (g.N.Names.lists s.names.now))
    false _ _ _ _ _ (search rules) (search rules) c.go_through.ensures in
    let same = sketched.0 in
    let failures = sketched.1.1 in
    search rules
