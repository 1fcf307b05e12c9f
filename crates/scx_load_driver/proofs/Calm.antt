-- Where nothing comes before them the clock's turn, and that of the ticks, comes at once.
use Rattle.std.proofs.Common.{◌≡◌, ℕ, ◌+◌, ◌-◌, ◌<◌, Bool, true, false, ◌&&◌, nat_lt, List, [], ◌∷◌, ◌++◌, length, refl, sym, ap, ◌∙◌, arith}
use Rattle.std.proofs.lemmas.Bool.{ne_eqb}
use Rattle.std.proofs.lemmas.Bool.Decides.{nat_tests}
use Rattle.scx_sched_machine.specs.declared.events.Event.{Event}
use Rattle.scx_sched_machine.specs.declared.events.Event.TheVariants as event
use Rattle.scx_sched.specs.Sim.{SimState, after_event}
use Rattle.scx_load_workloads.specs.declared.workload.Change.{Change}
use Rattle.scx_load_workloads.specs.Workload.{change_at}
use Rattle.scx_load_driver.specs.declared.driver.Phase.{Phase}
use Rattle.scx_load_driver.specs.declared.driver.Phase.TheVariants as phase
use Rattle.scx_load_driver.specs.Blocks.{is_at, change_event, changes_at, wakes_at, ticks_of, ran_after}
use Rattle.scx_load_driver.specs.declared.calendar.Calendar.{Calendar}
use Rattle.scx_load_driver.specs.Calendar.{soonest_of, AreNoted}
use Rattle.scx_load_driver.specs.Watch.{sleeps_seen}
use Rattle.scx_load_driver.specs.Changes.{AreLater}
use Rattle.scx_load_driver.specs.Driver.{DriverState, remaining, is_empty, at_next_block, blocks_left, woken_before, changed_before, is_clock_next, are_ticks_next, AreUnwatched}
use Rattle.scx_load_driver.proofs.Remaining.{begun_changes, begun_wakes, begun_ticks, begun_sleeps, begun_clock, remaining_begun, remaining_taken}
use Rattle.scx_load_driver.proofs.Below.{no_events}
use Rattle.scx_load_driver.proofs.Days.{noted_later}
use Rattle.scx_load_driver.proofs.Waking.{no_wakes, same_ran}
use Rattle.scx_load_driver.proofs.Quiet.{no_sleeps, same_due, same_watched}

empty_is : (es : List Event) → is_empty es ≡ true → es ≡ []
empty_is [] e = refl
empty_is (x ∷ es) e = absurd (cc)

-- the end of a list without items has none
pub none_behind : (es fs : List Event) → is_empty (es ++ fs) ≡ true → fs ≡ []
none_behind [] fs e = empty_is fs e
none_behind (x ∷ es) fs e = absurd (cc)

-- no weight changes before the millisecond that is known
pub no_changes : (changes : List Change) (now next : ℕ) → AreLater changes now next → now < next → changes_at changes now ≡ []
no_changes changes now next h l =
    no_events (length changes) (is_at changes now) (λ i. change_event (change_at changes i))
    (λ i within. ne_eqb (change_at changes i).at now (λ e. absurd (omega (arith, e, l, h i within (omega (arith, e))))))

-- the clock comes behind those who went to sleep, and the next millisecond behind it
clock_grows : (d : DriverState) (m n : ℕ) (s : SimState) → 0 < n → d.blocks ≡ blocks_left phase.Clock m n → is_empty d.pending ≡ true
    → remaining d s ≡ event.Clock ∷ remaining (record d { blocks = blocks_left phase.Changes (m + 1) (n - 1) }) (after_event s event.Clock)
clock_grows d m n s some blocks none =
    let later = blocks_left phase.Changes (m + 1) (n - 1) in
    let grows : DriverState = record d { pending = event.Clock ∷ []; blocks = later } in
    let begun : grows ≡ at_next_block d s = begun_clock d m n s (event.Clock ∷ []) some blocks refl in
    sym (remaining_begun d s none)
    ∙ ap (λ x. remaining x s) (sym begun)
    ∙ remaining_taken grows (record d { pending = []; blocks = later }) event.Clock s refl refl
    ∙ ap (λ es. event.Clock ∷ remaining (record d { pending = es; blocks = later }) (after_event s event.Clock)) (sym (empty_is d.pending none))

-- where nobody is watched it comes behind the ticks
nobody_sleeps : (d : DriverState) (m n : ℕ) (s : SimState) → 0 < n → d.blocks ≡ blocks_left phase.Sleeps m n → is_empty d.pending ≡ true → AreUnwatched false d.watched
    → remaining (record d { blocks = blocks_left phase.Clock m n }) s ≡ remaining d s
nobody_sleeps d m n s some blocks none unwatched =
    let w = s.state.world in
    let still : sleeps_seen d.plan.timings d.memory.ran d.watched w ≡ [] = no_sleeps d.plan.timings d.memory.ran d.watched w unwatched in
    let begun : record d { pending = []; blocks = blocks_left phase.Clock m n } ≡ at_next_block d s =
    begun_sleeps d m n s [] d.memory.due d.watched some blocks (sym still)
    (sym (same_due d.plan.timings d.memory.ran d.watched w unwatched d.memory.due m)) (sym (same_watched d.plan.timings d.memory.ran d.watched w unwatched)) in
    ap (λ es. remaining (record d { pending = es; blocks = blocks_left phase.Clock m n }) s) (empty_is d.pending none)
    ∙ ap (λ x. remaining x s) begun
    ∙ remaining_begun d s none

-- so the clock comes next
pub clock_next : (d : DriverState) (q : Phase) (some : Bool) (m n : ℕ) (s : SimState) → 0 < n → is_clock_next q some ≡ true → blocks_left q m n ≡ d.blocks → is_empty d.pending ≡ true → AreUnwatched some d.watched
    → remaining d s ≡ event.Clock ∷ remaining (record d { blocks = blocks_left phase.Changes (m + 1) (n - 1) }) (after_event s event.Clock)
clock_next d phase.Changes some m n s left next blocks none unwatched = absurd (cc)
clock_next d phase.Wakes some m n s left next blocks none unwatched = absurd (cc)
clock_next d phase.Ticks some m n s left next blocks none unwatched = absurd (cc)
clock_next d phase.Sleeps true m n s left next blocks none unwatched = absurd (cc)
clock_next d phase.Sleeps false m n s left next blocks none unwatched =
    sym (nobody_sleeps d m n s left (sym blocks) none unwatched) ∙ clock_grows (record d { blocks = blocks_left phase.Clock m n }) m n s left refl none
clock_next d phase.Clock some m n s left next blocks none unwatched = clock_grows d m n s left (sym blocks) none

-- ---- the ticks

-- both tests hold
pub record AreBefore (m i j : ℕ) : Type 0 where
  pub change : m < i
  pub wake : m < j

-- where both are, each is
pub before : (m i j : ℕ) → (nat_lt m i && nat_lt m j) ≡ true → AreBefore m i j
before m i j e = go (nat_lt m i) (nat_lt m j) refl refl e
  where
    go : (a b : Bool) → nat_lt m i ≡ a → nat_lt m j ≡ b → (a && b) ≡ true → AreBefore m i j
    go true true x y e = record { change = grind (arith, nat_tests, x); wake = grind (arith, nat_tests, y) }
    go true false x y e = absurd (cc)
    go false b x y e = absurd (cc)

-- behind those who woke the ticks begin
ticks_begin : (d : DriverState) (m n : ℕ) (es : List Event) (s : SimState) → 0 < n → d.blocks ≡ blocks_left phase.Ticks m n → is_empty d.pending ≡ true → es ≡ ticks_of d.plan.cpus
    → remaining (record d { pending = es; blocks = blocks_left phase.Sleeps m n }) s ≡ remaining d s
ticks_begin d m n es s some blocks none ticks = ap (λ x. remaining x s) (begun_ticks d m n s es some blocks ticks) ∙ remaining_begun d s none

-- where no weight changes and nobody wakes they come first
nobody_wakes : (d : DriverState) (m n : ℕ) (s : SimState) → 0 < n → d.blocks ≡ blocks_left phase.Changes m n → is_empty d.pending ≡ true
    → changes_at d.plan.changes m ≡ [] → wakes_at d.memory.due m s.state.world ≡ [] → ran_after d.memory.due d.memory.ran m s.state.world ≡ d.memory.ran
    → remaining (record d { pending = []; blocks = blocks_left phase.Ticks m n }) s ≡ remaining d s
nobody_wakes d m n s some blocks none changes wakes ran =
    let changed : DriverState = record d { pending = []; blocks = blocks_left phase.Wakes m n } in
    let woken : DriverState = record d { pending = []; blocks = blocks_left phase.Ticks m n } in
    let first : changed ≡ at_next_block d s = begun_changes d m n s [] some blocks (sym changes) in
    let second : woken ≡ at_next_block changed s = begun_wakes changed m n s [] d.memory.ran some refl (sym wakes) (sym ran) in
    ap (λ x. remaining x s) second ∙ remaining_begun changed s refl ∙ ap (λ x. remaining x s) first ∙ remaining_begun d s none

-- as they begin nobody is to wake any more in that millisecond
pub noted_for_ticks : (due : List ℕ) (q : Phase) (m : ℕ) (calendar : Calendar) → AreNoted due (woken_before q m) calendar → AreNoted due (m + 1) calendar
noted_for_ticks due phase.Changes m calendar h = noted_later due m calendar h
noted_for_ticks due phase.Wakes m calendar h = noted_later due m calendar h
noted_for_ticks due phase.Ticks m calendar h = h
noted_for_ticks due phase.Sleeps m calendar h = h
noted_for_ticks due phase.Clock m calendar h = h

-- and no weight changes any more before the millisecond that is known
pub later_for_ticks : (changes : List Change) (q : Phase) (m next : ℕ) → AreLater changes (changed_before q m) next → AreLater changes (m + 1) next
later_for_ticks changes phase.Changes m next h = λ i l x. h i l (omega (arith, x))
later_for_ticks changes phase.Wakes m next h = h
later_for_ticks changes phase.Ticks m next h = h
later_for_ticks changes phase.Sleeps m next h = h
later_for_ticks changes phase.Clock m next h = h

-- so they come next
pub ticks_next : (d : DriverState) (q : Phase) (m n change : ℕ) (calendar : Calendar) (es : List Event) (s : SimState) → 0 < n → are_ticks_next q m change (soonest_of calendar m) ≡ true
    → AreLater d.plan.changes (changed_before q m) change → AreNoted d.memory.due (woken_before q m) calendar → blocks_left q m n ≡ d.blocks → is_empty d.pending ≡ true → es ≡ ticks_of d.plan.cpus
    → remaining (record d { pending = es; blocks = blocks_left phase.Sleeps m n }) s ≡ remaining d s
ticks_next d phase.Changes m n change calendar es s left next later calm blocks none ticks =
    let x = before m change (soonest_of calendar m) next in
    ticks_begin (record d { pending = []; blocks = blocks_left phase.Ticks m n }) m n es s left refl refl ticks
    ∙ nobody_wakes d m n s left (sym blocks) none (no_changes d.plan.changes m change later x.change)
    (no_wakes d.memory.due m calendar s.state.world calm x.wake) (same_ran d.memory.due m calendar s.state.world calm x.wake d.memory.ran)
ticks_next d phase.Wakes m n change calendar es s left next later calm blocks none ticks = absurd (cc)
ticks_next d phase.Ticks m n change calendar es s left next later calm blocks none ticks = ticks_begin d m n es s left (sym blocks) none ticks
ticks_next d phase.Sleeps m n change calendar es s left next later calm blocks none ticks = absurd (cc)
ticks_next d phase.Clock m n change calendar es s left next later calm blocks none ticks = absurd (cc)
