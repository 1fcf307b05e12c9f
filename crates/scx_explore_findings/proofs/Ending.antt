-- The finding in which a list of events ends.
use Rattle.std.proofs.Common.{◌≡◌, ℕ, ℤ, zero, suc, ◌+◌, ◌-◌, ◌<◌, arith, slice_index_or, List, [], ◌∷◌, ◌++◌, true, length, take, Option, Some, None, ap, sym, ◌∙◌, subst, refl}
use Rattle.std.specs.Prelude.{is_none}
use Rattle.scx_isa_semantics.specs.declared.callbacks.Callback.{Callback}
use Rattle.scx_sched_world.specs.World.{running, waits, wait}
use Rattle.scx_sched_world.specs.declared.eject.Eject.TheVariants as cause
use Rattle.scx_sched_world.specs.declared.faults.Fault as faults
use Rattle.scx_sched_world.specs.declared.notes.Note.{Note}
use Rattle.scx_sched_machine.specs.declared.events.Event.{Event}
use Rattle.scx_sched_machine.specs.declared.events.Event.TheVariants.{Tick}
use Rattle.scx_sched_machine.specs.Notes.{Takes}
use Rattle.scx_sched.specs.Sim.{SimState, refusal, calls_of, after_event}
use Rattle.scx_load_driver.specs.Runs.{stepped_all, notes_of_all}
use Rattle.scx_explore_findings.specs.declared.outcome.Outcome.{Outcome}
use Rattle.scx_explore_findings.specs.declared.outcome.Outcome.TheVariants as outcome
use Rattle.scx_explore_findings.specs.Outcomes.{Happens, done_of, after_first, IsInForceFor, IsEjectedAt}
use Rattle.scx_explore_findings.proofs.ListMachines.{stepped_push}
use Rattle.scx_explore_findings.specs.declared.finding.Pair.{Pair}
use Rattle.scx_explore_findings.specs.declared.count.Count.{Count}
use Rattle.scx_explore_findings.specs.Counting.{Counts}
use Rattle.scx_explore_findings.specs.Running.{IsRunAmong}
use Rattle.scx_explore_findings.specs.Findings.{IsFaultAtEnd, IsStallAtEnd, IsExitAtEnd, EndsInFault, EndsInStall, EndsInExit, EndsIdle, EndsWaiting, EndsTaking, EndsOvertaken, AreTogether, IsTwice, IsLast, waits_left, begun_over}

-- a list is its first N elements, if N is its length
take_all : {A : Type 0} (xs : List A) → take (length xs) xs ≡ xs
take_all [] = refl
take_all (x ∷ xs) = ap (λ ys. x ∷ ys) (take_all xs)

-- an ejection for that fault by the last event
pub fault_at_end : (s : SimState) (events : List Event) (f : faults.Fault) (o : Outcome) → Happens s events o → IsFaultAtEnd o (length events) f → EndsInFault s events f
fault_at_end s events f (outcome.Ejected at (cause.Fault g clock)) h x = record {
  at = at;
  clock = clock;
  ejected = subst (λ (e : faults.Fault). IsEjectedAt s events at (cause.Fault e clock)) x.0 h;
  last = x.1;
}
fault_at_end s events f (outcome.Ejected at (cause.Stall t clock)) h x = absurd x
fault_at_end s events f (outcome.Ejected at (cause.Exit n clock)) h x = absurd x
fault_at_end s events f outcome.InForce h x = absurd x
fault_at_end s events f (outcome.Refused at r) h x = absurd x

-- an ejection by the last event, because that task waited too long
pub stall_at_end : (s : SimState) (events : List Event) (t : ℕ) (o : Outcome) → Happens s events o → IsStallAtEnd o (length events) t → EndsInStall s events t
stall_at_end s events t (outcome.Ejected at (cause.Stall u clock)) h x = record {
  at = at;
  clock = clock;
  ejected = subst (λ (v : ℕ). IsEjectedAt s events at (cause.Stall v clock)) x.0 h;
  last = x.1;
}
stall_at_end s events t (outcome.Ejected at (cause.Fault f clock)) h x = absurd x
stall_at_end s events t (outcome.Ejected at (cause.Exit n clock)) h x = absurd x
stall_at_end s events t outcome.InForce h x = absurd x
stall_at_end s events t (outcome.Refused at r) h x = absurd x

-- an ejection by the last event, in which a callback ended the policy with that code
pub exit_at_end : (s : SimState) (events : List Event) (n : ℤ) (o : Outcome) → Happens s events o → IsExitAtEnd o (length events) n → EndsInExit s events n
exit_at_end s events n (outcome.Ejected at (cause.Exit m clock)) h x = record {
  at = at;
  clock = clock;
  ejected = subst (λ (k : ℤ). IsEjectedAt s events at (cause.Exit k clock)) x.0 h;
  last = x.1;
}
exit_at_end s events n (outcome.Ejected at (cause.Fault f clock)) h x = absurd x
exit_at_end s events n (outcome.Ejected at (cause.Stall t clock)) h x = absurd x
exit_at_end s events n outcome.InForce h x = absurd x
exit_at_end s events n (outcome.Refused at r) h x = absurd x

in_force : (s : SimState) (events : List Event) (o : Outcome) → Happens s events o → o ≡ outcome.InForce → IsInForceFor s events (length events)
in_force s events o h e = subst (λ (x : Outcome). Happens s events x) e h

none_is : {A : Type 0} (o : Option A) → is_none o ≡ true → o ≡ None
none_is None e = refl
none_is (Some x) e = absurd (cc)

-- the machine after all events
pub all_done : (s t : SimState) (events : List Event) (o : Outcome) → o ≡ outcome.InForce → t ≡ after_first s events (done_of o events) → t ≡ stepped_all s events
all_done s t events o e at =
    at ∙ (ap (λ (x : Outcome). after_first s events (done_of x events)) e ∙ ap (λ (es : List Event). stepped_all s es) (take_all events))

-- a list ends in an ejection that its last event causes
done_at_end : (s t : SimState) (events : List Event) (at : ℕ) → t ≡ after_first s events (at + 1) → at + 1 ≡ length events → t ≡ stepped_all s events
done_at_end s t events at here last =
    here ∙ (ap (λ (n : ℕ). after_first s events n) last ∙ ap (λ (es : List Event). stepped_all s es) (take_all events))

-- for a fault
pub fault_there : (s t : SimState) (events : List Event) (f : faults.Fault) (o : Outcome) → t ≡ after_first s events (done_of o events) → IsFaultAtEnd o (length events) f → t ≡ stepped_all s events
fault_there s t events f (outcome.Ejected at (cause.Fault g clock)) here x = done_at_end s t events at here x.1
fault_there s t events f (outcome.Ejected at (cause.Stall u clock)) here x = absurd x
fault_there s t events f (outcome.Ejected at (cause.Exit n clock)) here x = absurd x
fault_there s t events f outcome.InForce here x = absurd x
fault_there s t events f (outcome.Refused at r) here x = absurd x

-- or for a wait
pub stall_there : (s t : SimState) (events : List Event) (u : ℕ) (o : Outcome) → t ≡ after_first s events (done_of o events) → IsStallAtEnd o (length events) u → t ≡ stepped_all s events
stall_there s t events u (outcome.Ejected at (cause.Stall v clock)) here x = done_at_end s t events at here x.1
stall_there s t events u (outcome.Ejected at (cause.Fault f clock)) here x = absurd x
stall_there s t events u (outcome.Ejected at (cause.Exit n clock)) here x = absurd x
stall_there s t events u outcome.InForce here x = absurd x
stall_there s t events u (outcome.Refused at r) here x = absurd x

-- or by a callback
pub exit_there : (s t : SimState) (events : List Event) (n : ℤ) (o : Outcome) → t ≡ after_first s events (done_of o events) → IsExitAtEnd o (length events) n → t ≡ stepped_all s events
exit_there s t events n (outcome.Ejected at (cause.Exit m clock)) here x = done_at_end s t events at here x.1
exit_there s t events n (outcome.Ejected at (cause.Fault f clock)) here x = absurd x
exit_there s t events n (outcome.Ejected at (cause.Stall u clock)) here x = absurd x
exit_there s t events n outcome.InForce here x = absurd x
exit_there s t events n (outcome.Refused at r) here x = absurd x

-- a list with one more event
pub taken_there : (s t u : SimState) (before : List Event) (e : Event) (o : Outcome) → o ≡ outcome.InForce → t ≡ after_first s before (done_of o before) → u ≡ after_event t e → u ≡ stepped_all s (before ++ e ∷ [])
taken_there s t u before e o force here next =
    next ∙ (ap (λ (x : SimState). after_event x e) (all_done s t before o force here) ∙ sym (stepped_push s before e))

-- a tick that leaves its processor idle
pub idle_at_end : (s t : SimState) (events : List Event) (c task : ℕ) (o : Outcome) → Happens s events o → o ≡ outcome.InForce → t ≡ after_first s events (done_of o events) → IsLast events (Tick c) → is_none (running t.state.world c) ≡ true → waits_left t.state.world c task ≡ true → EndsIdle s events c task
idle_at_end s t events c task o h e at last idle left =
    let here : t ≡ stepped_all s events = all_done s t events o e at in
    record {
      force = in_force s events o h e;
      last = last;
      idle = subst (λ (x : SimState). running x.state.world c ≡ None) here (none_is (running t.state.world c) idle);
      left = subst (λ (x : SimState). waits_left x.state.world c task ≡ true) here left;
    }

-- a task that waits, and has waited so long
pub waiting_at_end : (s t : SimState) (events : List Event) (task ms : ℕ) (o : Outcome) → Happens s events o → o ≡ outcome.InForce → t ≡ after_first s events (done_of o events) → waits t.state.world task ≡ true → wait t.state.world task ≡ ms → EndsWaiting s events task ms
waiting_at_end s t events task ms o h e at waiting long =
    let here : t ≡ stepped_all s events = all_done s t events o e at in
    record {
      force = in_force s events o h e;
      waits = subst (λ (x : SimState). waits x.state.world task ≡ true) here waiting;
      long = subst (λ (x : SimState). wait x.state.world task ≡ ms) here long;
    }

to_last_at : {A : Type 0} (xs : List A) (d : A) (n : ℕ) → length xs ≡ suc n → xs ≡ take n xs ++ slice_index_or xs n d ∷ []
to_last_at [] d n e = absurd (omega (arith, e))
to_last_at (x ∷ []) d zero e = refl
to_last_at (x ∷ []) d (suc n) e = absurd (omega (arith, e))
to_last_at (x ∷ y ∷ ys) d zero e = absurd (omega (arith, e))
to_last_at (x ∷ y ∷ ys) d (suc n) e = ap (λ zs. x ∷ zs) (to_last_at (y ∷ ys) d n (omega (arith, e)))

-- a list is its last element, after those before it
to_last : {A : Type 0} (xs : List A) (d : A) → 0 < length xs → xs ≡ take (length xs - 1) xs ++ slice_index_or xs (length xs - 1) d ∷ []
to_last xs d l = to_last_at xs d (length xs - 1) (omega (arith, l))

-- a run of that many instructions, if the event after a list is accepted
pub taking_at_end : (s t : SimState) (before : List Event) (e : Event) (b : Callback) (n : ℕ) (o : Outcome) → Happens s before o → o ≡ outcome.InForce → t ≡ after_first s before (done_of o before) → refusal t e ≡ None → IsRunAmong (calls_of t e) b n → EndsTaking s (before ++ e ∷ []) b n
taking_at_end s t before e b n o h force at accepted called =
    let here : t ≡ stepped_all s before = all_done s t before o force at in
    record {
      before = before;
      event = e;
      list = refl;
      force = in_force s before o h force;
      accepted = subst (λ (x : SimState). refusal x e ≡ None) here accepted;
      called = subst (λ (x : SimState). IsRunAmong (calls_of x e) b n) here called;
    }

-- the same of the whole list
pub taking_of_list : (s : SimState) (events before : List Event) (e : Event) (b : Callback) (n count : ℕ) → count ≡ length events → 0 < count → before ≡ take (count - 1) events → e ≡ slice_index_or events (count - 1) e → EndsTaking s (before ++ e ∷ []) b n → EndsTaking s events b n
taking_of_list s events before e b n count many some front last h =
    let whole : before ++ e ∷ [] ≡ events =
    ap (λ (es : List Event). es ++ e ∷ []) (front ∙ ap (λ (k : ℕ). take (k - 1) events) many)
    ∙ (ap (λ (x : Event). take (length events - 1) events ++ x ∷ []) (last ∙ ap (λ (k : ℕ). slice_index_or events (k - 1) e) many)
    ∙ sym (to_last events e (omega (arith, many, some)))) in
    subst (λ (es : List Event). EndsTaking s es b n) whole h

-- the machine after it
pub there_of_list : (s t : SimState) (events before : List Event) (e : Event) (count : ℕ) → count ≡ length events → 0 < count → before ≡ take (count - 1) events → e ≡ slice_index_or events (count - 1) e → t ≡ stepped_all s (before ++ e ∷ []) → t ≡ stepped_all s events
there_of_list s t events before e count many some front last h =
    let whole : before ++ e ∷ [] ≡ events =
    ap (λ (es : List Event). es ++ e ∷ []) (front ∙ ap (λ (k : ℕ). take (k - 1) events) many)
    ∙ (ap (λ (x : Event). take (length events - 1) events ++ x ∷ []) (last ∙ ap (λ (k : ℕ). slice_index_or events (k - 1) e) many)
    ∙ sym (to_last events e (omega (arith, many, some)))) in
    h ∙ ap (λ (es : List Event). stepped_all s es) whole

-- what a count comes to over notes
counted : (a b : Count) (ns : List Note) → Takes Counts a ns b → b.begun ≡ begun_over a.pair a.begun ns
counted a b [] p = ap (λ (c : Count). c.begun) p
counted a b (n ∷ ns) (c, q, r) =
    counted c b ns r ∙ (ap (λ (p : Pair). begun_over p c.begun ns) q.1 ∙ ap (λ (x : Option ℕ). begun_over a.pair x ns) q.2)

-- the second task of a pair began to run twice
pub twice_at_end : (s : SimState) (events : List Event) (p : Pair) (o : Outcome) (a b : Count) → Happens s events o → o ≡ outcome.InForce → Takes Counts a (notes_of_all s (take (done_of o events) events)) b → a.pair ≡ p → a.begun ≡ None → b.begun ≡ Some 2 → IsTwice s events p
twice_at_end s events p o a b h e taken pair none twice =
    let all : notes_of_all s (take (done_of o events) events) ≡ notes_of_all s events =
    ap (λ (x : Outcome). notes_of_all s (take (done_of x events) events)) e ∙ ap (λ (es : List Event). notes_of_all s es) (take_all events) in
    let over : b.begun ≡ begun_over a.pair a.begun (notes_of_all s events) =
    counted a b (notes_of_all s (take (done_of o events) events)) taken ∙ ap (λ (ns : List Note). begun_over a.pair a.begun ns) all in
    let from : begun_over a.pair a.begun (notes_of_all s events) ≡ begun_over p None (notes_of_all s events) =
    ap (λ (x : Pair). begun_over x a.begun (notes_of_all s events)) pair ∙ ap (λ (x : Option ℕ). begun_over p x (notes_of_all s events)) none in
    (in_force s events o h e, sym from ∙ (sym over ∙ twice))

-- and is of the group of the first one
pub overtaken_at_end : (homes : List ℕ) (s : SimState) (events : List Event) (p : Pair) → AreTogether homes p → IsTwice s events p → EndsOvertaken homes s events p
overtaken_at_end homes s events p together twice = record { together = together; twice = twice }

any_default : (xs : List Event) (i : ℕ) (c d : Event) → i < length xs → slice_index_or xs i c ≡ slice_index_or xs i d
any_default [] i c d l = absurd (omega (arith, l))
any_default (x ∷ xs) zero c d l = refl
any_default (x ∷ xs) (suc i) c d l = any_default xs i c d (omega (arith, l))

-- the last event, whatever is read past the end
pub last_is : (events : List Event) (e d : Event) → 0 < length events → slice_index_or events (length events - 1) d ≡ e → IsLast events e
last_is events e d l h c = any_default events (length events - 1) c d (omega (arith, l)) ∙ h
