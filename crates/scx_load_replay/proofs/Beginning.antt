-- How a list of events is gone through, event by event, and what comes next.
use Rattle.std.proofs.Common.{◌≡◌, ℕ, ◌+◌, ◌<◌, ◌≤◌, List, [], ◌∷◌, ◌++◌, length, take, get_or, sym, ap, ◌∙◌, append_assoc}
use Rattle.std.proofs.lemmas.List.{take_more, take_all}
use Rattle.scx_sched_machine.specs.declared.events.Event.{Event}
use Rattle.scx_sched.specs.Sim.{SimState, after_event}
use Rattle.scx_load_driver.specs.Driver.{DriverState, remaining}
use Rattle.scx_load_replay.specs.WorkloadFiles.{BeginsWith}

-- one event further
pub next_more : (events : List Event) (n : ℕ) (d : Event) (all rest more : List Event) → n < length events → all ≡ take n events ++ rest → rest ≡ get_or events n d ∷ more → all ≡ take (n + 1) events ++ more
next_more events n d all rest more l h next =
    h ∙ (ap (λ (es : List Event). take n events ++ es) next
    ∙ (sym (append_assoc (take n events) (get_or events n d ∷ []) more) ∙ ap (λ (es : List Event). es ++ more) (sym (take_more events n d l))))

-- all of them
pub all_came : (events : List Event) (n : ℕ) (all rest : List Event) → length events ≤ n → all ≡ take n events ++ rest → BeginsWith all events
all_came events n all rest past h = record { rest = rest; list = h ∙ ap (λ (es : List Event). es ++ rest) (take_all n events past) }

-- the event that comes next is that one, and the machine has it
pub came : (d e : DriverState) (s t : SimState) (next event : Event) → remaining d s ≡ next ∷ remaining e (after_event s next) → next ≡ event → t ≡ after_event s next → remaining d s ≡ event ∷ remaining e t
came d e s t next event h same after =
    h ∙ (ap (λ (x : SimState). next ∷ remaining e x) (sym after) ∙ ap (λ (x : Event). x ∷ remaining e t) same)

-- lists that are the same begin with the same events
pub begins_as : (all some events : List Event) → all ≡ some → BeginsWith all events → BeginsWith some events
begins_as all some events same h = record { rest = h.rest; list = sym same ∙ h.list }
