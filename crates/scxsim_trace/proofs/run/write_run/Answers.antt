use Rattle.std.proofs.Common.{rules, true, false}
use Rattle.scxsim_trace.proofs.Tracing.{run_is_written, run_is_done, run_stops}
use Rattle.scxsim_trace.proofs.run.write_run.Goals as goal
use Rattle.scxsim_trace.proofs.Going.{unmoved}

pub returns-then-failed-clause-err : goal.returns-then-failed-clause-err
returns-then-failed-clause-err g c =
    let written = run_is_written (λ s. s.out.ghost_name) (λ s. g.N.Names.lists s.names.now)
    (λ s. record { contents = g.W.Out.contents s.out.now; failures = g.W.Out.failure_count s.out.now; failed = s.failed })
    true _ _ _ _ _ c.new-trace.ensures.failed (search rules) (unmoved _ _ _ _ _ _ _ c.go_through.ensures) in
    let same = written.0 in
    let text = written.1.0 in
    let failures = written.1.1 in
    search rules

pub returns-then-failed-clause-failures : goal.returns-then-failed-clause-failures
returns-then-failed-clause-failures g c =
    let written = run_is_written (λ s. s.out.ghost_name) (λ s. g.N.Names.lists s.names.now)
    (λ s. record { contents = g.W.Out.contents s.out.now; failures = g.W.Out.failure_count s.out.now; failed = s.failed })
    true _ _ _ _ _ c.new-trace.ensures.failed (search rules) (unmoved _ _ _ _ _ _ _ c.go_through.ensures) in
    let same = written.0 in
    let text = written.1.0 in
    let failures = written.1.1 in
    search rules

pub returns-clause-ok : goal.returns-clause-ok
returns-clause-ok g c =
    let written = run_is_written (λ s. s.out.ghost_name) (λ s. g.N.Names.lists s.names.now)
    (λ s. record { contents = g.W.Out.contents s.out.now; failures = g.W.Out.failure_count s.out.now; failed = s.failed })
    false _ _ _ _ _ c.new-trace.ensures.failed (search rules) (unmoved _ _ _ _ _ _ _ c.go_through.ensures) in
    let same = written.0 in
    let text = written.1.0 in
    let failures = written.1.1 in
    search rules

pub returns-clause-failures : goal.returns-clause-failures
returns-clause-failures g c =
    let written = run_is_written (λ s. s.out.ghost_name) (λ s. g.N.Names.lists s.names.now)
    (λ s. record { contents = g.W.Out.contents s.out.now; failures = g.W.Out.failure_count s.out.now; failed = s.failed })
    false _ _ _ _ _ c.new-trace.ensures.failed (search rules) (unmoved _ _ _ _ _ _ _ c.go_through.ensures) in
    let same = written.0 in
    let text = written.1.0 in
    let failures = written.1.1 in
    search rules

pub returns-then-failed-clause-err_stopped : goal.returns-then-failed-clause-err_stopped
returns-then-failed-clause-err_stopped g c =
    let stops = run_stops (λ s. s.out.ghost_name) (λ s. g.N.Names.lists s.names.now)
    (λ s. record { contents = g.W.Out.contents s.out.now; failures = g.W.Out.failure_count s.out.now; failed = s.failed })
    _ _ _ _ _ c.new-trace.ensures.failed (search rules) (unmoved _ _ _ _ _ _ _ c.go_through.ensures) in
    let written = run_is_written (λ s. s.out.ghost_name) (λ s. g.N.Names.lists s.names.now)
    (λ s. record { contents = g.W.Out.contents s.out.now; failures = g.W.Out.failure_count s.out.now; failed = s.failed })
    true _ _ _ _ _ c.new-trace.ensures.failed (search rules) (unmoved _ _ _ _ _ _ _ c.go_through.ensures) in
    let same = written.0 in
    search rules

pub returns-clause-ok_state : goal.returns-clause-ok_state
returns-clause-ok_state g c =
    let done = run_is_done (λ s. s.out.ghost_name) (λ s. g.N.Names.lists s.names.now)
    (λ s. record { contents = g.W.Out.contents s.out.now; failures = g.W.Out.failure_count s.out.now; failed = s.failed })
    _ _ _ _ _ (search rules) (unmoved _ _ _ _ _ _ _ c.go_through.ensures) in
    let state = done.0 in
    search rules

pub returns-clause-ok_in_order : goal.returns-clause-ok_in_order
returns-clause-ok_in_order g c =
    let done = run_is_done (λ s. s.out.ghost_name) (λ s. g.N.Names.lists s.names.now)
    (λ s. record { contents = g.W.Out.contents s.out.now; failures = g.W.Out.failure_count s.out.now; failed = s.failed })
    _ _ _ _ _ (search rules) (unmoved _ _ _ _ _ _ _ c.go_through.ensures) in
    let in_order = done.1 in
    search rules
