-- What is left of the events of a file, as one after another is taken.
use Rattle.std.proofs.Common.{◌≡◌, ℕ, zero, suc, ◌+◌, ◌-◌, ◌<◌, ◌≤◌, Bool, true, false, cond, List, [], ◌∷◌, ◌++◌, Some, None, refl, sym, ap, ◌∙◌, subst, arith}
use Rattle.scx_sched_machine.specs.declared.events.Event.{Event}
use Rattle.scx_sched_machine.specs.declared.events.Event.TheVariants as event
use Rattle.scx_load_replay.specs.declared.lines.Line.{Line}
use Rattle.scx_load_replay.specs.Events.{is_before_ticks, is_behind_ticks, first_events, lines_behind, ticks_from, events_from}
use Rattle.scx_load_replay.specs.Replayer.{ReplayerState, behind_ticks, remaining_of, remaining, is_due, due_event, lines_left}

-- as a millisecond begins all of its events are left
pub begun : (cpus n m : ℕ) (ls : List Line) → remaining_of cpus n m 0 ls ≡ events_from cpus n m ls
begun cpus zero m ls = refl
begun cpus (suc n) m ls =
    let all : cpus - 0 ≡ cpus = omega arith in
    ap (λ k. first_events (is_before_ticks m) ls ++ (ticks_from k 0 ++ behind_ticks cpus n m (lines_behind (is_before_ticks m) ls))) all

-- ---- lines

-- a line that comes now is the first of those that pass, and the others are behind it
first_due : (behind : Bool) (m : ℕ) (ls : List Line) (e : Event) → due_event behind m ls ≡ Some e
    → (first_events (is_due behind m) ls ≡ e ∷ first_events (is_due behind m) (lines_left behind m ls)) × (lines_behind (is_due behind m) ls ≡ lines_behind (is_due behind m) (lines_left behind m ls))
first_due behind m [] e is = absurd (cc)
first_due behind m (l ∷ ls) e is = go (is_due behind m l) is
  where
    go : (b : Bool) → cond b (Some l.event) None ≡ Some e
        → (cond b (l.event ∷ first_events (is_due behind m) ls) [] ≡ e ∷ first_events (is_due behind m) (cond b ls (l ∷ ls))) × (cond b (lines_behind (is_due behind m) ls) (l ∷ ls) ≡ lines_behind (is_due behind m) (cond b ls (l ∷ ls)))
    go true same = let one : l.event ≡ e = cc in (ap (λ x. x ∷ first_events (is_due behind m) ls) one, refl)
    go false same = absurd (cc)

-- where no line comes now none passes
none_due : (behind : Bool) (m : ℕ) (ls : List Line) → due_event behind m ls ≡ None → (first_events (is_due behind m) ls ≡ []) × (lines_behind (is_due behind m) ls ≡ ls)
none_due behind m [] is = (refl, refl)
none_due behind m (l ∷ ls) is = go (is_due behind m l) is
  where
    go : (b : Bool) → cond b (Some l.event) None ≡ None → (cond b (l.event ∷ first_events (is_due behind m) ls) [] ≡ []) × (cond b (lines_behind (is_due behind m) ls) (l ∷ ls) ≡ l ∷ ls)
    go true same = absurd (cc)
    go false same = (refl, refl)

-- ---- one event

-- a line that comes before the ticks
taken_before : (cpus n m : ℕ) (ls : List Line) (e : Event) → 0 < n → due_event false m ls ≡ Some e → remaining_of cpus n m 0 ls ≡ e ∷ remaining_of cpus n m 0 (lines_left false m ls)
taken_before cpus zero m ls e some due = absurd (omega (arith, some))
taken_before cpus (suc n) m ls e some due =
    let both = first_due false m ls e due in
    ap (λ es. es ++ (ticks_from (cpus - 0) 0 ++ behind_ticks cpus n m (lines_behind (is_before_ticks m) ls))) both.0
    ∙ ap (λ rest. e ∷ (first_events (is_before_ticks m) (lines_left false m ls) ++ (ticks_from (cpus - 0) 0 ++ behind_ticks cpus n m rest))) both.1

tick_next : (cpus c : ℕ) → c < cpus → ticks_from (cpus - c) c ≡ event.Tick c ∷ ticks_from (cpus - (c + 1)) (c + 1)
tick_next cpus c less = ap (λ k. ticks_from k c) (one_more cpus c less)
  where
    one_more : (a b : ℕ) → b < a → a - b ≡ suc (a - (b + 1))
    one_more a b l = omega (arith, l)

-- once a processor has ticked no line comes before the ticks
left_after : (cpus n m k : ℕ) (ls : List Line) → 0 < k → remaining_of cpus (suc n) m k ls ≡ ticks_from (cpus - k) k ++ behind_ticks cpus n m ls
left_after cpus n m zero ls some = absurd (omega (arith, some))
left_after cpus n m (suc k) ls some = refl

-- where no line comes before the ticks, they begin, and go on
taken_tick : (cpus n m c : ℕ) (ls : List Line) → 0 < n → c < cpus → (c ≡ 0 → due_event false m ls ≡ None) → remaining_of cpus n m c ls ≡ event.Tick c ∷ remaining_of cpus n m (c + 1) ls
taken_tick cpus zero m c ls some less none = absurd (omega (arith, some))
taken_tick cpus (suc n) m zero ls some less none =
    let both = none_due false m ls (none refl) in
    ap (λ es. es ++ (ticks_from (cpus - 0) 0 ++ behind_ticks cpus n m (lines_behind (is_before_ticks m) ls))) both.0
    ∙ ap (λ rest. ticks_from (cpus - 0) 0 ++ behind_ticks cpus n m rest) both.1
    ∙ ap (λ ts. ts ++ behind_ticks cpus n m ls) (tick_next cpus 0 less)
    ∙ ap (λ es. event.Tick 0 ∷ es) (sym (left_after cpus n m (0 + 1) ls (omega arith)))
taken_tick cpus (suc n) m (suc c) ls some less none =
    ap (λ ts. ts ++ behind_ticks cpus n m ls) (tick_next cpus (suc c) less)
    ∙ ap (λ es. event.Tick (suc c) ∷ es) (sym (left_after cpus n m (suc c + 1) ls (omega arith)))

over : (cpus : ℕ) → ticks_from (cpus - cpus) cpus ≡ []
over cpus = let none : cpus - cpus ≡ 0 = omega arith in ap (λ k. ticks_from k cpus) none

-- behind the ticks come the lines of sleeps
taken_behind : (cpus n m : ℕ) (ls : List Line) (e : Event) → 0 < n → 0 < cpus → due_event true m ls ≡ Some e → remaining_of cpus n m cpus ls ≡ e ∷ remaining_of cpus n m cpus (lines_left true m ls)
taken_behind cpus zero m ls e some many due = absurd (omega (arith, some))
taken_behind zero (suc n) m ls e some many due = absurd (omega (arith, many))
taken_behind (suc c) (suc n) m ls e some many due =
    let cpus = suc c in
    let both = first_due true m ls e due in
    ap (λ ts. ts ++ behind_ticks cpus n m ls) (over cpus)
    ∙ ap (λ es. es ++ event.Clock ∷ events_from cpus n (m + 1) (lines_behind (is_behind_ticks m) ls)) both.0
    ∙ ap (λ rest. e ∷ (first_events (is_behind_ticks m) (lines_left true m ls) ++ event.Clock ∷ events_from cpus n (m + 1) rest)) both.1
    ∙ sym (ap (λ ts. e ∷ (ts ++ behind_ticks cpus n m (lines_left true m ls))) (over cpus))

-- and then the clock, with the next millisecond behind it
taken_clock : (cpus n m : ℕ) (ls : List Line) → 0 < n → 0 < cpus → due_event true m ls ≡ None → remaining_of cpus n m cpus ls ≡ event.Clock ∷ remaining_of cpus (n - 1) (m + 1) 0 ls
taken_clock cpus zero m ls some many none = absurd (omega (arith, some))
taken_clock zero (suc n) m ls some many none = absurd (omega (arith, many))
taken_clock (suc c) (suc n) m ls some many none =
    let cpus = suc c in
    let both = none_due true m ls none in
    let same : suc n - 1 ≡ n = omega arith in
    ap (λ ts. ts ++ behind_ticks cpus n m ls) (over cpus)
    ∙ ap (λ es. es ++ event.Clock ∷ events_from cpus n (m + 1) (lines_behind (is_behind_ticks m) ls)) both.0
    ∙ ap (λ rest. event.Clock ∷ events_from cpus n (m + 1) rest) both.1
    ∙ ap (λ es. event.Clock ∷ es) (sym (begun cpus n (m + 1) ls))
    ∙ ap (λ k. event.Clock ∷ remaining_of cpus k (m + 1) 0 ls) (sym same)

-- ---- of a replayer

-- where no line comes now all are left
pub all_left : (behind : Bool) (m : ℕ) (ls : List Line) → due_event behind m ls ≡ None → lines_left behind m ls ≡ ls
all_left behind m [] none = refl
all_left behind m (l ∷ ls) none = go (is_due behind m l) none
  where
    go : (b : Bool) → cond b (Some l.event) None ≡ None → cond b ls (l ∷ ls) ≡ l ∷ ls
    go true same = absurd (cc)
    go false same = refl

-- a line that comes before the ticks
pub is_line_before : (r : ReplayerState) (e : Event) → 0 < r.left → r.ticked ≡ 0 → due_event false r.m r.lines ≡ Some e
    → remaining r ≡ e ∷ remaining (record r { lines = lines_left false r.m r.lines })
is_line_before r e some none due =
    subst (λ t. remaining_of r.cpus r.left r.m t r.lines ≡ e ∷ remaining_of r.cpus r.left r.m t (lines_left false r.m r.lines)) (sym none)
    (taken_before r.cpus r.left r.m r.lines e some due)

-- the next processor ticks
pub is_tick : (r : ReplayerState) → 0 < r.left → r.ticked < r.cpus → (r.ticked ≡ 0 → due_event false r.m r.lines ≡ None)
    → remaining r ≡ event.Tick r.ticked ∷ remaining (record r { ticked = r.ticked + 1 })
is_tick r some less none = taken_tick r.cpus r.left r.m r.ticked r.lines some less none

-- a line that comes behind the ticks
pub is_line_behind : (r : ReplayerState) (e : Event) → 0 < r.left → 1 ≤ r.cpus → r.cpus ≤ r.ticked → r.ticked ≤ r.cpus → due_event true r.m r.lines ≡ Some e
    → remaining r ≡ e ∷ remaining (record r { lines = lines_left true r.m r.lines })
is_line_behind r e some many least most due =
    let all : r.cpus ≡ r.ticked = omega (arith, least, most) in
    subst (λ t. remaining_of r.cpus r.left r.m t r.lines ≡ e ∷ remaining_of r.cpus r.left r.m t (lines_left true r.m r.lines)) all
    (taken_behind r.cpus r.left r.m r.lines e some many due)

-- the clock grows
pub is_clock : (r : ReplayerState) → 0 < r.left → 1 ≤ r.cpus → r.cpus ≤ r.ticked → r.ticked ≤ r.cpus → due_event true r.m r.lines ≡ None
    → remaining r ≡ event.Clock ∷ remaining (record r { m = r.m + 1; left = r.left - 1; ticked = 0; lines = lines_left true r.m r.lines })
is_clock r some many least most none =
    let all : r.cpus ≡ r.ticked = omega (arith, least, most) in
    subst (λ t. remaining_of r.cpus r.left r.m t r.lines ≡ event.Clock ∷ remaining_of r.cpus (r.left - 1) (r.m + 1) 0 (lines_left true r.m r.lines)) all
    (taken_clock r.cpus r.left r.m r.lines some many none ∙ ap (λ ls. event.Clock ∷ remaining_of r.cpus (r.left - 1) (r.m + 1) 0 ls) (sym (all_left true r.m r.lines none)))
