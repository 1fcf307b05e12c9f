-- Helpers that start and cancel a timer: what they answer and leave is allowed, and nothing else is.
use Rattle.std.proofs.Common.{◌≡◌, ℕ, ◌+◌, Bool, true, false, nat_lt, if◌then◌else◌, List, length, Option, Some, None, refl, sym, ◌∙◌, ap, arith}
use Rattle.scx_sched.proofs.Events.{is_task}
use Rattle.std.proofs.lemmas.Bool.{false_from_ne_true}
use Rattle.std.proofs.lemmas.Bool.Decides.{nat_tests}
use Rattle.scx_isa_semantics.specs.declared.host_tables.Helper.TheVariants.{TimerStart, TimerCancel}
use Rattle.scx_vm.specs.declared.arguments.Arg.{Arg}
use Rattle.scx_vm.specs.declared.arguments.Answer.{Answer}
use Rattle.scx_vm.specs.declared.arguments.Answer.TheVariants.{Num}
use Rattle.scx_sched_world.specs.declared.eject.Cause.TheVariants as reason
use Rattle.scx_sched_world.specs.declared.faults.Fault.{Fault}
use Rattle.scx_sched_world.specs.declared.faults.Fault.TheVariants.{UnknownFlag}
use Rattle.scx_sched_world.specs.declared.timers.Alarm.{Alarm}
use Rattle.scx_sched_world.specs.World.{WorldState, is_this, here}
use Rattle.scx_sched_world.specs.Helpers.{given_number, invalid_if, unless_fault, fault_or, timer_fault, delay_ms, with_timer, alarm_in, alarm_at, cancelled_answer}
use Rattle.scx_laws.specs.Helpers.{JudgesTimer, IsDelay, StartsTimer, CancelsTimer, OfItself, WasStarted, NotStarted, IsEffect, Done, NamesTask, Wrong}
use Rattle.scx_laws.proofs.Differing.{not_so, is_here, only_here}
use Rattle.scx_laws.proofs.Ejecting.{blames, only_blames}
use Rattle.scx_laws.proofs.Readers.{Is-effect, Is-this, this_of}

-- ---- faults

abbrev missed_as : Bool → Option Fault
missed_as b = if b then None else Some UnknownFlag

timer_judged : (w : WorldState) (t : ℕ) → JudgesTimer w t (timer_fault w t)
timer_judged w t = go (nat_lt t (length w.timers)) refl
  where
    go : (b : Bool) → nat_lt t (length w.timers) ≡ b → JudgesTimer w t (missed_as b)
    go true e = grind (arith, nat_tests, e)
    go false e = grind (arith, nat_tests, e)

timer_from : (w : WorldState) (t : ℕ) (o : Option Fault) → JudgesTimer w t o → timer_fault w t ≡ o
timer_from w t None j = let l : nat_lt t (length w.timers) ≡ true = grind (arith, nat_tests, j) in ap (λ b. missed_as b) l
timer_from w t (Some UnknownFlag) j = let l : nat_lt t (length w.timers) ≡ false = grind (arith, nat_tests, j) in ap (λ b. missed_as b) l
timer_from w t (Some f) j = absurd j

-- ---- start

is_delay : (ns : ℕ) → IsDelay ns (delay_ms ns)
is_delay ns = record { some = omega arith; long = omega arith; least = λ n l h. omega (arith, l, h) }

only_delay : (ns delay : ℕ) → IsDelay ns delay → delay ≡ delay_ms ns
only_delay ns delay h =
    let d = is_delay ns in
    let low = h.least (delay_ms ns) d.some d.long in
    let high = d.least delay h.some h.long in
    omega (arith, low, high)

abbrev alarm_of : WorldState → ℕ → ℕ → Alarm
alarm_of w delay cpu = record { due = w.clock + delay; cpu = cpu }

starts : (w : WorldState) (t ns : ℕ) → StartsTimer w t ns (with_timer w t (Some (alarm_in w ns)))
starts w t ns = record { delay = delay_ms ns; delays = is_delay ns; cpu = here w; here = is_here w; all = refl }

only_starts : (w : WorldState) (t ns : ℕ) (v : WorldState) → StartsTimer w t ns v → v ≡ with_timer w t (Some (alarm_in w ns))
only_starts w t ns v h =
    h.all ∙ ap (λ d. with_timer w t (Some (alarm_of w d h.cpu))) (only_delay ns h.delay h.delays) ∙ ap (λ c. with_timer w t (Some (alarm_of w (delay_ms ns) c))) (only_here w h.cpu h.here)

pub start_allowed : (w : WorldState) (a : List Arg) → Is-effect w TimerStart a
start_allowed w a = go (timer_fault w t) (timer_judged w t)
  where
    t : ℕ
    t = given_number a 0

    ns : ℕ
    ns = given_number a 1

    go : (o : Option Fault) → JudgesTimer w t o → IsEffect w TimerStart a (Num (invalid_if o)) (fault_or w o (with_timer w t (Some (alarm_in w ns))))
    go None j = Done 0 j (refl, starts w t ns) refl
    go (Some f) j = Wrong f j refl (blames w (reason.Fault f))

pub only_start : (w : WorldState) (a : List Arg) (x : Answer) (v : WorldState) → IsEffect w TimerStart a x v → Is-this w TimerStart a x v
only_start w a x v (Done n j d e) =
    let y = timer_from w (given_number a 0) None j in
    (e ∙ ap Num d.0 ∙ ap (λ o. Num (invalid_if o)) (sym y), only_starts w (given_number a 0) (given_number a 1) v d.1 ∙ ap (λ o. fault_or w o (with_timer w (given_number a 0) (Some (alarm_in w (given_number a 1))))) (sym y))
only_start w a x v (NamesTask o j m e k) = absurd m
only_start w a x v (Wrong f j e k) =
    let y = timer_from w (given_number a 0) (Some f) j in
    (e ∙ ap (λ o. Num (invalid_if o)) (sym y), only_blames w (reason.Fault f) v k ∙ ap (λ o. fault_or w o (with_timer w (given_number a 0) (Some (alarm_in w (given_number a 1))))) (sym y))

-- ---- cancel

abbrev cancelled_if : WorldState → ℕ → Bool → WorldState
cancelled_if w t b = if b then w else with_timer w t None

cancels : (w : WorldState) (t : ℕ) → CancelsTimer w t (cancelled_answer (is_this t w.passing.timer) (alarm_at w t)) (cancelled_if w t (is_this t w.passing.timer))
cancels w t = go (is_this t w.passing.timer) refl (alarm_at w t) refl
  where
    go : (b : Bool) → is_this t w.passing.timer ≡ b → (o : Option Alarm) → alarm_at w t ≡ o → CancelsTimer w t (cancelled_answer b o) (cancelled_if w t b)
    go true e o k = OfItself (is_task t w.passing.timer e) refl refl
    go false e (Some a) k = WasStarted a (λ y. not_so (is_this t w.passing.timer) e (this_of t w.passing.timer y)) k refl refl
    go false e None k = NotStarted (λ y. not_so (is_this t w.passing.timer) e (this_of t w.passing.timer y)) k refl refl

abbrev Cancelled-so : WorldState → ℕ → ℕ → WorldState → Type 0
Cancelled-so w t n v = (n ≡ cancelled_answer (is_this t w.passing.timer) (alarm_at w t)) × (v ≡ cancelled_if w t (is_this t w.passing.timer))

only_cancels : (w : WorldState) (t n : ℕ) (v : WorldState) → CancelsTimer w t n v → Cancelled-so w t n v
only_cancels w t n v (OfItself e k z) =
    let b = this_of t w.passing.timer e in
    (k ∙ ap (λ x. cancelled_answer x (alarm_at w t)) (sym b), z ∙ ap (λ x. cancelled_if w t x) (sym b))
only_cancels w t n v (WasStarted a d x k z) =
    let b = false_from_ne_true (is_this t w.passing.timer) (λ y. d (is_task t w.passing.timer y)) in
    (k ∙ ap (λ o. cancelled_answer false o) (sym x) ∙ ap (λ y. cancelled_answer y (alarm_at w t)) (sym b), z ∙ ap (λ y. cancelled_if w t y) (sym b))
only_cancels w t n v (NotStarted d x k z) =
    let b = false_from_ne_true (is_this t w.passing.timer) (λ y. d (is_task t w.passing.timer y)) in
    (k ∙ ap (λ o. cancelled_answer false o) (sym x) ∙ ap (λ y. cancelled_answer y (alarm_at w t)) (sym b), z ∙ ap (λ y. cancelled_if w t y) (sym b))

abbrev cancel_answer : WorldState → ℕ → ℕ
cancel_answer w t = cancelled_answer (is_this t w.passing.timer) (alarm_at w t)

abbrev cancel_done : WorldState → ℕ → WorldState
cancel_done w t = cancelled_if w t (is_this t w.passing.timer)

pub cancel_allowed : (w : WorldState) (a : List Arg) → Is-effect w TimerCancel a
cancel_allowed w a = go (timer_fault w t) (timer_judged w t)
  where
    t : ℕ
    t = given_number a 0

    go : (o : Option Fault) → JudgesTimer w t o → IsEffect w TimerCancel a (Num (unless_fault o (cancel_answer w t))) (fault_or w o (cancel_done w t))
    go None j = Done (cancel_answer w t) j (cancels w t) refl
    go (Some f) j = Wrong f j refl (blames w (reason.Fault f))

pub only_cancel : (w : WorldState) (a : List Arg) (x : Answer) (v : WorldState) → IsEffect w TimerCancel a x v → Is-this w TimerCancel a x v
only_cancel w a x v (Done n j d e) =
    let y = timer_from w (given_number a 0) None j in
    let h = only_cancels w (given_number a 0) n v d in
    (e ∙ ap Num h.0 ∙ ap (λ o. Num (unless_fault o (cancel_answer w (given_number a 0)))) (sym y), h.1 ∙ ap (λ o. fault_or w o (cancel_done w (given_number a 0))) (sym y))
only_cancel w a x v (NamesTask o j m e k) = absurd m
only_cancel w a x v (Wrong f j e k) =
    let y = timer_from w (given_number a 0) (Some f) j in
    (e ∙ ap (λ o. Num (unless_fault o (cancel_answer w (given_number a 0)))) (sym y), only_blames w (reason.Fault f) v k ∙ ap (λ o. fault_or w o (cancel_done w (given_number a 0))) (sym y))
