-- Nothing is presumed of what is said after an audit, where tasks are told apart.
use Rattle.std.proofs.Common.{◌≡◌, ℕ, zero, suc, ◌+◌, ◌*◌, ◌-◌, ◌^◌, ◌≤◌, min, if◌then◌else◌, Bool, true, false, List, [], ◌∷◌, ◌++◌, length, length-append, Option, Some, None, refl, sym, ap, ◌∙◌, subst, arith, inl, inr, ⊎_elim, All}
use Rattle.std.proofs.Math.Nat.{mul-le-mul}
use Rattle.std.proofs.lemmas.List.{length-replicate}
use Rattle.std.specs.Prelude.{◌≢◌, IfSome}
use Rattle.scx_load_workloads.specs.Workload.{WorkloadState, IsWorkload, first_tree}
use Rattle.scx_sched_policy.specs.Policy.{PolicyState, IsTimeout}
use Rattle.scx_sched_machine.specs.declared.events.Event.{Event}
use Rattle.scx_sched_machine.specs.declared.events.Event.TheVariants.{Wake, Sleep, Clock}
use Rattle.scx_sched.specs.Sim.{SimState, max_events}
use Rattle.scx_explore_findings.specs.declared.finding.Sort.TheVariants as sort
use Rattle.scx_explore_findings.specs.WholeForms.{HasFew}
use Rattle.scx_explore_findings.proofs.FirstLed.{first_policy}
use Rattle.scx_explore_states.specs.declared.form.Form.{Form}
use Rattle.scx_explore_bounds.specs.declared.bounds.Bounds.{Bounds}
use Rattle.scx_explore_bounds.specs.declared.bounds.Mode.{Mode}
use Rattle.scx_explore_bounds.specs.declared.bounds.Mode.TheVariants as mode
use Rattle.scx_explore_bounds.specs.Events.{most_of_step, most_events}
use Rattle.scx_explore_bounds.specs.Forms.{IsFormFrom}
use Rattle.scx_explore_bounds.specs.Repeats.{most_in_rows, most_ticks}
use Rattle.scx_explore_audit.specs.declared.table.Moves.{Moves}
use Rattle.scx_explore_audit.specs.declared.table.Moves.TheVariants.{Events, Milliseconds}
use Rattle.scx_explore_audit.specs.Claims.{TaskSet, of_tasks, ticks, millisecond}
use Rattle.scx_explore_audit.specs.Laws.{NoneIn}
use Rattle.scx_explore_audit.specs.Whole.{HasRoom, AsksNoStalls}
use Rattle.scxsim_runs.specs.Runs.{IsRun}
use Rattle.scxsim_runs.proofs.Shapes.{shape_is_right}
use Rattle.scxsim_explore_lines.specs.Summary.{Nones}
use Rattle.scxsim_explore.specs.declared.limits.Lists.{Lists}
use Rattle.scxsim_explore.specs.Words.{IsBoundsOf, IsSmall, IsWithin, most_depth}
use Rattle.scxsim_explore.specs.Telling.{IsGoneThrough, IsSure, NeedsNothing, moves_of}
use Rattle.scxsim_explore.proofs.PlainTimers.{plain_machines_have_no_timers}
use Rattle.scxsim_explore.proofs.KeptWhole.{keeps_waits, leaves_slices, may_leave_slices, keeps_all_read}

-- ---- the length of a millisecond

one_long : (b : Bool) (e : Event) → length (if b then e ∷ [] else []) ≤ 1
one_long true e = omega arith
one_long false e = omega arith

one_more : (k n i j : ℕ) → k ≡ i + j → i ≤ 1 → j ≤ n → k ≤ suc n
one_more k n i j e a b = omega (arith, e, a, b)

tasks_long : (event : ℕ → Event) (set : TaskSet) (t n : ℕ) → length (of_tasks event set t n) ≤ n
tasks_long event set t zero = omega arith
tasks_long event set t (suc n) =
    let first : List Event = if set t then event t ∷ [] else [] in
    let rest = of_tasks event set (suc t) n in
    one_more (length (first ++ rest)) n (length first) (length rest) (length-append first rest) (one_long (set t) (event t)) (tasks_long event set (suc t) n)

ticks_long : (c n : ℕ) → length (ticks c n) ≡ n
ticks_long c zero = refl
ticks_long c (suc n) = ap suc (ticks_long (suc c) n)

added : (k a b c r s n : ℕ) → k ≡ a + r → r ≡ b + s → s ≡ c + 1 → a ≤ n → c ≤ n → k ≤ 2 * n + b + 1
added k a b c r s n x y z i j = omega (arith, x, y, z, i, j)

millisecond_long : (n c : ℕ) (wakes sleeps : TaskSet) → length (millisecond n c wakes sleeps) ≤ 2 * n + c + 1
millisecond_long n c wakes sleeps =
    let first = of_tasks (λ t. Wake t) wakes 0 n in
    let last = of_tasks (λ t. Sleep t) sleeps 0 n in
    let end = last ++ Clock ∷ [] in
    let rest = ticks 0 c ++ end in
    added (length (first ++ rest)) (length first) c (length last) (length rest) (length end) n (length-append first rest)
    (length-append (ticks 0 c) end ∙ ap (λ (k : ℕ). k + length end) (ticks_long 0 c)) (length-append last (Clock ∷ []))
    (tasks_long (λ t. Wake t) wakes 0 n) (tasks_long (λ t. Sleep t) sleeps 0 n)

-- ---- room

few_steps : (n c : ℕ) → n ≤ 8 → c ≤ 4 → 2 * n + c + 1 ≤ 21
few_steps n c few cpus = omega (arith, few, cpus)

all_fit : (all e room k most step : ℕ) → e ≡ 0 → room ≤ min all (2 ^ 64 - 1) → all ≤ 65535 * 21 → k ≤ step → step ≤ 21 → e + room + k ≤ max_events
all_fit all e room k most step none few up short steps = omega (arith, none, few, up, short, steps)

deepest : (m : Mode) (d : ℕ) → d ≤ most_depth m → d ≤ 65535
deepest mode.Events d few = omega (arith, few)
deepest mode.Milliseconds d few = few
deepest mode.Workloads d few = few

-- after lists within the bounds there is room for an event or a millisecond more
has_room : (m : Mode) (moves : Moves) (b : Bounds) (s : SimState) (room : ℕ) → moves_of m ≡ Some moves → b.depth ≤ 65535 → IsSmall s → s.events ≡ 0
    → room ≤ min (b.depth * most_of_step m (length s.state.world.tasks) (length s.state.world.cpus)) (2 ^ 64 - 1) → HasRoom moves s room
has_room mode.Events Events b s room of_mode deep small none few = λ es move.
    let short : length es ≤ 1 = subst (λ (xs : List Event). length xs ≤ 1) (sym move.2) (omega arith) in
    let one : 1 ≤ 21 = omega arith in
    all_fit (b.depth * 1) s.events room (length es) 21 1 none few (mul-le-mul deep one) short one
has_room mode.Events Milliseconds b s room of_mode deep small none few = absurd (cc)
has_room mode.Milliseconds Events b s room of_mode deep small none few = absurd (cc)
has_room mode.Milliseconds Milliseconds b s room of_mode deep small none few = λ es move.
    let n = length s.state.world.tasks in
    let c = length s.state.world.cpus in
    let step = 2 * n + c + 1 in
    let steps : step ≤ 21 = few_steps n c small.tasks small.cpus in
    let short : length es ≤ step = subst (λ (xs : List Event). length xs ≤ step) (sym move.list) (millisecond_long n c move.wakes move.sleeps) in
    all_fit (b.depth * step) s.events room (length es) 21 step none few (mul-le-mul deep steps) short steps
has_room mode.Workloads moves b s room of_mode deep small none few = absurd (cc)

-- where states keep slices, each event comes once
once_each : (form : Form) (b : Bounds) (t c room : ℕ) → form.slices ≡ true → room ≤ most_in_rows form.slices b t c → room ≤ most_events b t c
once_each form b t c room kept few =
    at_most (b.depth * most_of_step b.mode t c) room (subst (λ (k : Bool). room ≤ min (most_events b t c * most_ticks k) (2 ^ 64 - 1)) kept few)
  where
    at_most : (n k : ℕ) → k ≤ min (min n (2 ^ 64 - 1) * 1) (2 ^ 64 - 1) → k ≤ min n (2 ^ 64 - 1)
    at_most n k less = omega (arith, less)

-- where they don't, lists are of events, and each comes 8,192 times at most
rows_fit : (b : Bounds) (s : SimState) (t c room : ℕ) → b.mode ≡ mode.Events → b.depth ≤ 64 → s.events ≡ 0 → room ≤ most_in_rows false b t c → HasRoom Events s room
rows_fit b s t c room of_events deep none few = λ es move.
    let short : length es ≤ 1 = subst (λ (xs : List Event). length xs ≤ 1) (sym move.2) (omega arith) in
    let step : most_of_step b.mode t c ≡ 1 = ap (λ (m : Mode). most_of_step m t c) of_events in
    at_most s.events b.depth room (length es) none deep (subst (λ (n : ℕ). room ≤ min (min (b.depth * n) (2 ^ 64 - 1) * 8192) (2 ^ 64 - 1)) step few) short
  where
    at_most : (e d n k : ℕ) → e ≡ 0 → d ≤ 64 → n ≤ min (min (d * 1) (2 ^ 64 - 1) * 8192) (2 ^ 64 - 1) → k ≤ 1 → e + n + k ≤ max_events
    at_most e d n k none deep few short = omega (arith, none, deep, few, short)

-- ---- what is sure

events_alone : (moves : Moves) → moves_of mode.Events ≡ Some moves → moves ≡ Events
events_alone Events is = refl
events_alone Milliseconds is = absurd (cc)

pub needs_nothing : (policy workload : List ℕ) (l : Lists) (b : Bounds) (w : WorkloadState) (s : SimState) (form : Form) (n : Nones) → IsBoundsOf l b → IsRun policy workload w s → IsWithin b w s → IsFormFrom policy b s form
    → IsWorkload w → IsTimeout s.state.policy.timeout_ms → n.bounds ≡ b → (n.bounds.mode ≡ mode.Events → All (λ x. x ≢ sort.Stall) n.sorts) → IfSome n.again (IsGoneThrough form w s n) → NeedsNothing b s form n
needs_nothing policy workload l b w s form n named run within f sound limit same stalls again told_apart = go n.again again
  where
    p : PolicyState
    p = run.begun.machine

    policy_is : s.state.policy ≡ p
    policy_is = first_policy p (first_tree w) w.cpus s run.begun.first

    deep : b.depth ≤ 65535
    deep = deepest b.mode b.depth named.depth.most

    flags : length (first_tree w).active ≡ length (first_tree w).homes
    flags = length-replicate (length w.homes) false

    few : HasFew s
    few = record {
      tasks = within.small.tasks;
      cpus = omega (arith, within.small.cpus);
      timers = λ plain. plain_machines_have_no_timers policy workload w s run sound plain;
    }

    moves_are : (moves : Moves) → moves_of b.mode ≡ Some moves → b.mode ≡ mode.Events → moves ≡ Events
    moves_are moves of_mode of_events = events_alone moves (sym (ap moves_of of_events) ∙ of_mode)

    -- waits are kept, or lists are of events that aren't asked about stalls
    asks_none : (moves : Moves) → moves_of b.mode ≡ Some moves → AsksNoStalls form moves n.sorts
    asks_none moves of_mode =
        ⊎_elim (λ (kept : form.waits ≡ true). inl kept)
        (λ (of_events : b.mode ≡ mode.Events).
        inr (moves_are moves of_mode of_events, stalls (ap (λ (c : Bounds). c.mode) same ∙ of_events)))
        (keeps_waits policy workload b w s form run f)

    -- with slices or without, there is room
    room_in : (moves : Moves) (room : ℕ) (kept : Bool) → moves_of b.mode ≡ Some moves → room ≤ most_in_rows form.slices b (length s.state.world.tasks) (length s.state.world.cpus) → form.slices ≡ kept → HasRoom moves s room
    room_in moves room true of_mode few e = has_room b.mode moves b s room of_mode deep within.small run.begun.first.1 (once_each form b (length s.state.world.tasks) (length s.state.world.cpus) room e few)
    room_in moves room false of_mode few e =
        let of_events = leaves_slices policy workload b w s form run f e in
        subst (λ (m : Moves). HasRoom m s room) (sym (moves_are moves of_mode of_events))
        (rows_fit b s (length s.state.world.tasks) (length s.state.world.cpus) room of_events (subst (λ (m : Mode). b.depth ≤ most_depth m) of_events named.depth.most) run.begun.first.1
        (subst (λ (k : Bool). room ≤ most_in_rows k b (length s.state.world.tasks) (length s.state.world.cpus)) e few))

    none_in : (moves : Moves) → IsGoneThrough form w s n moves → NoneIn moves n.reach n.sorts s
    none_in moves gone =
        let sure : IsSure form b moves n.reach n.sorts s = subst (λ (c : Bounds). IsSure form c moves n.reach n.sorts s) same gone.sure in
        let of_mode : moves_of b.mode ≡ Some moves = sym (ap (λ (c : Bounds). moves_of c.mode) same) ∙ gone.of_mode in
        sure.whole p (first_tree w) w.cpus run.begun.first (shape_is_right w sound) flags (subst (λ (q : PolicyState). IsTimeout q.timeout_ms) policy_is limit)
        (keeps_all_read policy workload b w s form run f told_apart) (asks_none moves of_mode)
        (may_leave_slices policy workload b w s form run f moves (moves_are moves of_mode) told_apart) few (room_in moves sure.room form.slices of_mode sure.few refl)

    go : (o : Option Moves) → IfSome o (IsGoneThrough form w s n) → IfSome o (λ moves. NoneIn moves n.reach n.sorts s)
    go None h = h
    go (Some moves) h = none_in moves h
