-- Milliseconds in which nothing happens but that tasks run, as a driver goes through them.
use Rattle.std.proofs.Common.{◌≡◌, ℕ, zero, suc, ◌+◌, ◌-◌, ◌*◌, ◌<◌, ◌≤◌, Bool, true, false, ◌&&◌, nat_lt, nat_le, cond, List, [], ◌∷◌, ◌++◌, get_or, set, Option, Some, None, refl, sym, ap, ◌∙◌, subst, arith, append_assoc}
use Rattle.std.proofs.lemmas.Bool.{lt-ltb}
use Rattle.std.proofs.lemmas.Bool.Decides.{nat_tests}
use Rattle.scx_sched_world.specs.World.{WorldState, task_at, running}
use Rattle.scx_sched_world.specs.Tasks.{tick_ns}
use Rattle.scx_sched_machine.specs.declared.events.Event.{Event}
use Rattle.scx_sched_machine.specs.declared.events.Event.TheVariants.{Wake, Sleep, Tick, Clock, SetWeight, SetTaskWeight}
use Rattle.scx_sched.specs.Sim.{SimState, after_event}
use Rattle.scx_sched.specs.Quiet.{ticks_below, quiet_ms, quiet_events, after_all, GoQuietly, TicksWithin, AllWithin}
use Rattle.scx_sched.proofs.Quiet.{after_both}
use Rattle.scx_load_workloads.specs.declared.workload.Change.{Change}
use Rattle.scx_load_driver.specs.declared.driver.Phase.TheVariants as phase
use Rattle.scx_load_driver.specs.declared.calendar.Calendar.{Calendar}
use Rattle.scx_load_driver.specs.Blocks.{Block, ticks_of}
use Rattle.scx_load_driver.specs.Calendar.{soonest_of, AreNoted}
use Rattle.scx_load_driver.specs.Changes.{AreLater}
use Rattle.scx_load_driver.specs.Runs.{stepped_all, Skips}
use Rattle.scx_load_driver.specs.Watch.{last_ticks_of, watched_if, watched_at_tick, watched_after, watched_after_all, events_seen}
use Rattle.scx_load_driver.specs.Driver.{DriverState, remaining, blocks_left, AreUnwatched}
use Rattle.scx_load_driver.specs.Passing.{RunsLast, IsCalm}
use Rattle.scx_load_driver.proofs.Calm.{clock_next, ticks_next}

-- ---- words for the same

-- the ticks of all processors
pub ticks_same : (n : ℕ) → ticks_of n ≡ ticks_below n
ticks_same zero = refl
ticks_same (suc n) = ap (λ es. es ++ Tick n ∷ []) (ticks_same n)

-- the state after some events
pub after_same : (es : List Event) (s : SimState) → after_all s es ≡ stepped_all s es
after_same [] s = refl
after_same (e ∷ es) s = after_same es (after_event s e)

-- ---- no task is watched

-- no task that runs on a processor has reached its last tick as that one ticks
abbrev pub IsUnseen : List ℕ → SimState → Event → Type 0
IsUnseen last s e = (xs : List Bool) → watched_after last s.state.world e xs ≡ xs

abbrev pub AreUnseen : List ℕ → SimState → List Event → Type 0
AreUnseen last s [] = Unit {0}
AreUnseen last s (e ∷ es) = IsUnseen last s e × AreUnseen last (after_event s e) es

-- so none is watched
unseen_all : (last : List ℕ) (s : SimState) (es : List Event) (xs : List Bool) → AreUnseen last s es → watched_after_all last s es xs ≡ xs
unseen_all last s [] xs h = refl
unseen_all last s (e ∷ es) xs h =
    ap (λ ys. watched_after_all last (after_event s e) es ys) (h.0 xs) ∙ unseen_all last (after_event s e) es xs h.1

unseen_first : (last : List ℕ) (s : SimState) (es fs : List Event) → AreUnseen last s (es ++ fs) → AreUnseen last s es
unseen_first last s [] fs h = tt
unseen_first last s (e ∷ es) fs h = (h.0, unseen_first last (after_event s e) es fs h.1)

unseen_second : (last : List ℕ) (s : SimState) (es fs : List Event) → AreUnseen last s (es ++ fs) → AreUnseen last (after_all s es) fs
unseen_second last s [] fs h = h
unseen_second last s (e ∷ es) fs h = unseen_second last (after_event s e) es fs h.1

unwatched_if : (last : List ℕ) (w : WorldState) (t : ℕ) (xs : List Bool) → (task_at w t).run_ns < get_or last t 0 → watched_if last w t xs ≡ xs
unwatched_if last w t xs lt = let late : nat_le (get_or last t 0) (task_at w t).run_ns ≡ false = grind (arith, nat_tests, lt) in ap (λ b. cond b (set xs t true) xs) late

-- a task that runs up to its last tick at most isn't watched as its processor ticks
pub unseen_one : (ns : ℕ) (last : List ℕ) (first s : SimState) (e : Event) → RunsLast ns last first.state.world → TicksWithin ns first s e → IsUnseen last s e
unseen_one ns last first s (Tick c) h within xs = go (running s.state.world c) refl
  where
    go : (o : Option ℕ) → running s.state.world c ≡ o → watched_at_tick last s.state.world o xs ≡ xs
    go None e = refl
    go (Some t) e = let x = within t e in unwatched_if last s.state.world t xs (omega (arith, x.1, h c t x.0))
unseen_one ns last first s Clock h within xs = refl
unseen_one ns last first s (Wake t) h within xs = refl
unseen_one ns last first s (Sleep t) h within xs = refl
unseen_one ns last first s (SetWeight g x) h within xs = refl
unseen_one ns last first s (SetTaskWeight t x) h within xs = refl

-- nor is any during such events
pub unseen_within : (ns : ℕ) (last : List ℕ) (first s : SimState) (es : List Event) → RunsLast ns last first.state.world → AllWithin ns first s es → AreUnseen last s es
unseen_within ns last first s [] h within = tt
unseen_within ns last first s (e ∷ es) h within = (unseen_one ns last first s e h within.0, unseen_within ns last first (after_event s e) es h within.1)

-- ---- one millisecond

-- the driver as the ticks of millisecond m begin, where n milliseconds aren't over
abbrev pub ticking : DriverState → ℕ → ℕ → DriverState
ticking d m n = record d { pending = ticks_of d.plan.cpus; blocks = blocks_left phase.Sleeps m n }

-- and as that millisecond begins, before weights change and tasks wake
abbrev pub beginning : DriverState → ℕ → ℕ → DriverState
beginning d m n = record d { pending = []; blocks = blocks_left phase.Changes m n }

-- up to the next one
ms_ends : (d : DriverState) (m n : ℕ) (s : SimState) → 0 < n → AreUnwatched false d.watched → AreUnseen (last_ticks_of d.plan.timings d.memory.ran) s (quiet_ms d.plan.cpus)
    → remaining (ticking d m n) s ≡ quiet_ms d.plan.cpus ++ remaining (beginning d (m + 1) (n - 1)) (after_all s (quiet_ms d.plan.cpus))
ms_ends d m n s some unwatched unseen =
    ap (λ es. remaining (record d { pending = es; blocks = blocks }) s) (ticks_same cpus)
    ∙ ap (λ xs. ticks ++ events_seen d.plan blocks d.memory xs (stepped_all s ticks)) (unseen_all last s ticks d.watched (unseen_first last s ticks (Clock ∷ []) unseen))
    ∙ ap (λ es. ticks ++ es) (clock_next spent phase.Sleeps false m n t some refl refl refl unwatched)
    ∙ sym (append_assoc ticks (Clock ∷ []) (remaining (beginning d (m + 1) (n - 1)) u))
    ∙ ap (λ x. (ticks ++ Clock ∷ []) ++ remaining (beginning d (m + 1) (n - 1)) x) same
  where
    cpus : ℕ
    cpus = d.plan.cpus

    last : List ℕ
    last = last_ticks_of d.plan.timings d.memory.ran

    ticks : List Event
    ticks = ticks_below cpus

    blocks : List Block
    blocks = blocks_left phase.Sleeps m n

    t : SimState
    t = stepped_all s ticks

    u : SimState
    u = after_event t Clock

    spent : DriverState
    spent = record d { pending = []; blocks = blocks }

    same : u ≡ after_all s (quiet_ms cpus)
    same = ap (λ x. after_event x Clock) (sym (after_same ticks s)) ∙ sym (after_both s ticks (Clock ∷ []))

-- where no weight changes and no task wakes the ticks come next
begin_ticks : (d : DriverState) (m n change : ℕ) (calendar : Calendar) (s : SimState) → 0 < n → IsCalm d m change calendar → remaining (beginning d m n) s ≡ remaining (ticking d m n) s
begin_ticks d m n change calendar s some calm =
    sym (ticks_next (beginning d m n) phase.Changes m n change calendar (ticks_of d.plan.cpus) s some both calm.later calm.noted refl refl refl)
  where
    both : nat_lt m change && nat_lt m (soonest_of calendar m) ≡ true
    both = ap (λ b. b && nat_lt m (soonest_of calendar m)) (lt-ltb m change calm.change) ∙ lt-ltb m (soonest_of calendar m) calm.wake

ms_passes : (d : DriverState) (m n change : ℕ) (calendar : Calendar) (s : SimState) → 1 < n → AreUnwatched false d.watched → AreUnseen (last_ticks_of d.plan.timings d.memory.ran) s (quiet_ms d.plan.cpus) → IsCalm d (m + 1) change calendar
    → remaining (ticking d m n) s ≡ quiet_ms d.plan.cpus ++ remaining (ticking d (m + 1) (n - 1)) (after_all s (quiet_ms d.plan.cpus))
ms_passes d m n change calendar s some unwatched unseen calm =
    ms_ends d m n s (omega (arith, some)) unwatched unseen
    ∙ ap (λ es. quiet_ms d.plan.cpus ++ es) (begin_ticks d (m + 1) (n - 1) change calendar (after_all s (quiet_ms d.plan.cpus)) (omega (arith, some)) calm)

-- ---- any number of them

-- the driver goes through i of these milliseconds
pub all_pass : (d : DriverState) (m n i change : ℕ) (calendar : Calendar) (s : SimState) → i < n → AreUnwatched false d.watched → AreUnseen (last_ticks_of d.plan.timings d.memory.ran) s (quiet_events i d.plan.cpus)
    → ((k : ℕ) → m < k → k ≤ m + i → IsCalm d k change calendar)
    → remaining (ticking d m n) s ≡ quiet_events i d.plan.cpus ++ remaining (ticking d (m + i) (n - i)) (after_all s (quiet_events i d.plan.cpus))
all_pass d m n zero change calendar s lt unwatched unseen calm =
    let here : m ≡ m + 0 = omega arith in
    let left : n ≡ n - 0 = omega arith in
    λ k. remaining (ticking d (here k) (left k)) s
all_pass d m n (suc i) change calendar s lt unwatched unseen calm =
    all_pass d m n i change calendar s (omega (arith, lt)) unwatched (unseen_first last s before one unseen) (λ k after until. calm k after (omega (arith, until)))
    ∙ ap (λ es. before ++ es) step
    ∙ sym (append_assoc before one rest)
    ∙ ap (λ x. (before ++ one) ++ remaining (ticking d (m + suc i) (n - suc i)) x) (sym (after_both s before one))
  where
    last : List ℕ
    last = last_ticks_of d.plan.timings d.memory.ran

    before : List Event
    before = quiet_events i d.plan.cpus

    one : List Event
    one = quiet_ms d.plan.cpus

    t : SimState
    t = after_all s before

    rest : List Event
    rest = remaining (ticking d (m + suc i) (n - suc i)) (after_all t one)

    clock : m + i + 1 ≡ m + suc i
    clock = omega arith

    left : n - i - 1 ≡ n - suc i
    left = omega arith

    step : remaining (ticking d (m + i) (n - i)) t ≡ one ++ rest
    step =
        ms_passes d (m + i) (n - i) change calendar t (omega (arith, lt)) unwatched (unseen_second last s before one unseen) (calm (m + i + 1) (omega arith) (omega arith))
        ∙ (λ k. one ++ remaining (ticking d (clock k) (left k)) (after_all t one))

-- and one more, at whose end weights may change and tasks wake
pub all_end : (d : DriverState) (m n j change : ℕ) (calendar : Calendar) (s : SimState) → j < n → AreUnwatched false d.watched → AreUnseen (last_ticks_of d.plan.timings d.memory.ran) s (quiet_events (suc j) d.plan.cpus)
    → ((k : ℕ) → m < k → k < m + suc j → IsCalm d k change calendar)
    → remaining (ticking d m n) s ≡ quiet_events (suc j) d.plan.cpus ++ remaining (beginning d (m + suc j) (n - suc j)) (after_all s (quiet_events (suc j) d.plan.cpus))
all_end d m n j change calendar s lt unwatched unseen calm =
    all_pass d m n j change calendar s lt unwatched (unseen_first last s before one unseen) (λ k after until. calm k after (omega (arith, until)))
    ∙ ap (λ es. before ++ es) step
    ∙ sym (append_assoc before one rest)
    ∙ ap (λ x. (before ++ one) ++ remaining (beginning d (m + suc j) (n - suc j)) x) (sym (after_both s before one))
  where
    last : List ℕ
    last = last_ticks_of d.plan.timings d.memory.ran

    before : List Event
    before = quiet_events j d.plan.cpus

    one : List Event
    one = quiet_ms d.plan.cpus

    t : SimState
    t = after_all s before

    rest : List Event
    rest = remaining (beginning d (m + suc j) (n - suc j)) (after_all t one)

    clock : m + j + 1 ≡ m + suc j
    clock = omega arith

    left : n - j - 1 ≡ n - suc j
    left = omega arith

    step : remaining (ticking d (m + j) (n - j)) t ≡ one ++ rest
    step = ms_ends d (m + j) (n - j) t (omega (arith, lt)) unwatched (unseen_second last s before one unseen) ∙ (λ k. one ++ remaining (beginning d (clock k) (left k)) (after_all t one))

-- so it skips them
pub skips_all : (d : DriverState) (m n j change : ℕ) (calendar : Calendar) (s t : SimState) → j < n → AreUnwatched false d.watched
    → GoQuietly s (quiet_events (suc j) d.plan.cpus) → AllWithin (suc j * tick_ns) s s (quiet_events (suc j) d.plan.cpus) → RunsLast (suc j * tick_ns) (last_ticks_of d.plan.timings d.memory.ran) s.state.world
    → ((k : ℕ) → m < k → k < m + suc j → IsCalm d k change calendar) → t ≡ after_all s (quiet_events (suc j) d.plan.cpus)
    → Skips (remaining (ticking d m n) s) s (remaining (beginning d (m + suc j) (n - suc j)) t) t
skips_all d m n j change calendar s t lt unwatched quietly within lasts calm is = record {
  done = quiet_events (suc j) d.plan.cpus;
  whole =
      all_end d m n j change calendar s lt unwatched (unseen_within (suc j * tick_ns) (last_ticks_of d.plan.timings d.memory.ran) s s (quiet_events (suc j) d.plan.cpus) lasts within) calm
      ∙ ap (λ x. quiet_events (suc j) d.plan.cpus ++ remaining (beginning d (m + suc j) (n - suc j)) x) (sym is);
  state = is ∙ after_same (quiet_events (suc j) d.plan.cpus) s;
  quietly = quietly;
}

-- fewer milliseconds last too
pub runs_less : (ns more : ℕ) (last : List ℕ) (w : WorldState) → ns ≤ more → RunsLast more last w → RunsLast ns last w
runs_less ns more last w le h = λ c t is. omega (arith, le, h c t is)

-- from a later millisecond on no more weights change
pub later_more : (changes : List Change) (from more next : ℕ) → from ≤ more → AreLater changes from next → AreLater changes more next
later_more changes from more next le h = λ i within due. h i within (omega (arith, le, due))

-- and no more tasks wake
pub noted_more : (due : List ℕ) (from more : ℕ) (calendar : Calendar) → from ≤ more → AreNoted due from calendar → AreNoted due more calendar
noted_more due from more calendar le h = λ t within wakes. h t within (omega (arith, le, wakes))

-- milliseconds before the next change and the next wake are calm
pub calm_between : (d : DriverState) (m n change : ℕ) (calendar : Calendar) → AreLater d.plan.changes (m + 1) change → AreNoted d.memory.due (m + 1) calendar
    → ((k : ℕ) → m < k → k < m + n → k < change) → ((k : ℕ) → m < k → k < m + n → k < soonest_of calendar k) → (k : ℕ) → m < k → k < m + n → IsCalm d k change calendar
calm_between d m n change calendar later noted changes wakes k after until = record {
  later = later_more d.plan.changes (m + 1) k change (omega (arith, after)) later;
  change = changes k after until;
  noted = noted_more d.memory.due (m + 1) k calendar (omega (arith, after)) noted;
  wake = wakes k after until;
}

-- as many as there are, at least one
pub skips_some : (d : DriverState) (m n ms change : ℕ) (calendar : Calendar) (s t : SimState) → 0 < ms → ms ≤ n → AreUnwatched false d.watched
    → GoQuietly s (quiet_events ms d.plan.cpus) → AllWithin (ms * tick_ns) s s (quiet_events ms d.plan.cpus) → RunsLast (ms * tick_ns) (last_ticks_of d.plan.timings d.memory.ran) s.state.world
    → ((k : ℕ) → m < k → k < m + ms → IsCalm d k change calendar) → t ≡ after_all s (quiet_events ms d.plan.cpus)
    → Skips (remaining (ticking d m n) s) s (remaining (beginning d (m + ms) (n - ms)) t) t
skips_some d m n zero change calendar s t some le unwatched quietly within lasts calm is = absurd (omega (arith, some))
skips_some d m n (suc j) change calendar s t some le unwatched quietly within lasts calm is = skips_all d m n j change calendar s t (omega (arith, le)) unwatched quietly within lasts calm is

-- nothing is skipped
pub skips_none : (events : List Event) (s : SimState) → Skips events s events s
skips_none events s = record { done = []; whole = refl; state = refl; quietly = tt }

-- nor where the rest is known by another name
pub skips_same : (events rest : List Event) (s : SimState) → rest ≡ events → Skips events s rest s
skips_same events rest s is = record { done = []; whole = sym is; state = refl; quietly = tt }

stepped_both : (s : SimState) (es fs : List Event) → stepped_all s (es ++ fs) ≡ stepped_all (stepped_all s es) fs
stepped_both s [] fs = refl
stepped_both s (e ∷ es) fs = stepped_both (after_event s e) es fs

quietly_then : (s : SimState) (es fs : List Event) → GoQuietly s es → GoQuietly (stepped_all s es) fs → GoQuietly s (es ++ fs)
quietly_then s [] fs first second = second
quietly_then s (e ∷ es) fs first second = (first.0, quietly_then (after_event s e) es fs first.1 second)

-- some events, and then more of them
pub skips_both : (events between rest : List Event) (s t u : SimState) → Skips events s between t → Skips between t rest u → Skips events s rest u
skips_both events between rest s t u first second = record {
  done = first.done ++ second.done;
  whole = first.whole ∙ ap (λ es. first.done ++ es) second.whole ∙ sym (append_assoc first.done second.done rest);
  state = second.state ∙ ap (λ x. stepped_all x second.done) first.state ∙ sym (stepped_both s first.done second.done);
  quietly = quietly_then s first.done second.done first.quietly (subst (λ x. GoQuietly x second.done) first.state second.quietly);
}
