use Rattle.std.proofs.Common.{rules}
use Rattle.scxsim_trace.proofs.Showing.{watched}
use Rattle.scxsim_trace.proofs.observer.observe.Goals as goal

pub returns : goal.returns
returns g c =
    let both = watched (λ s. s.observer.ghost_name) (λ s. s.is_at_end) (λ s. s.observer.now) g.O.Observer.expects g.O.Observer.has_failed g.O.Observer.shows _ _ _ _ _ c.go_through.ensures in
    let same = both.0 in
    let watches = both.1 in
    search rules
