-- Of the events of a file those that stand in lines are its lines, each once and in order.
use Rattle.std.proofs.Common.{◌≡◌, ◌≢◌, ℕ, zero, suc, ◌+◌, ◌<◌, ◌≤◌, ◌==◌, ◌&&◌, ◌||◌, nat_lt, not, Bool, true, false, cond, List, [], ◌∷◌, ◌++◌, map, refl, ap, ◌∙◌, arith}
use Rattle.std.specs.Prelude.{filter}
use Rattle.std.proofs.lemmas.Bool.Decides.{nat_tests}
use Rattle.std.proofs.lemmas.List.Elements.{filter-append}
use Rattle.scx_sched_machine.specs.declared.events.Event.{Event}
use Rattle.scx_sched_machine.specs.declared.events.Event.TheVariants as event
use Rattle.scx_load_workloads.specs.Workload.{WorkloadState}
use Rattle.scx_load_replay.specs.declared.lines.Line.{Line}
use Rattle.scx_load_replay.specs.Replay.{ReplayState, block_of, comes_before, awake_after, Fits, Follow, all_asleep, IsReplay}
use Rattle.scx_load_replay.specs.Events.{is_sleep, is_before_ticks, is_behind_ticks, first_events, lines_behind, ticks_from, events_from, replay_events}
use Rattle.scx_load_replay.specs.Laws.{is_listed}

-- lines that come one behind another, from that millisecond and block on and before that end
abbrev Sorted : ℕ → ℕ → ℕ → List Line → Type 0
Sorted end at block [] = Unit {0}
Sorted end at block (l ∷ ls) =
    (at ≤ l.at) × (l.at ≡ at → block ≤ block_of l.event) × (block_of l.event ≤ 2) × (l.at < end) × Sorted end l.at (block_of l.event) ls

not_before : (at block other other_block : ℕ) → comes_before at block other other_block ≡ false → (other ≤ at) × (at ≡ other → other_block ≤ block)
not_before at block other other_block e = go (nat_lt at other) (at == other) (nat_lt block other_block) refl refl refl e
  where
    go : (a b c : Bool) → nat_lt at other ≡ a → (at == other) ≡ b → nat_lt block other_block ≡ c → (a || (b && c)) ≡ false → (other ≤ at) × (at ≡ other → other_block ≤ block)
    go true b c x y z f = absurd (cc)
    go false true true x y z f = absurd (cc)
    go false true false x y z f = (grind (arith, nat_tests, x), λ same. grind (arith, nat_tests, z))
    go false false c x y z f = (grind (arith, nat_tests, x), λ same. absurd (grind (arith, nat_tests, y, same)))

small : (w : WorkloadState) (awake : List Bool) (e : Event) → Fits w awake e → block_of e ≤ 2
small w awake (event.Wake t) fits = omega arith
small w awake (event.Sleep t) fits = omega arith
small w awake (event.SetWeight g x) fits = omega arith
small w awake (event.SetTaskWeight t x) fits = omega arith
small w awake (event.Tick c) fits = absurd fits
small w awake event.Clock fits = absurd fits

sorted : (w : WorkloadState) (at block : ℕ) (awake : List Bool) (ls : List Line) → Follow w at block awake ls → Sorted w.ms at block ls
sorted w at block awake [] follow = tt
sorted w at block awake (l ∷ ls) follow =
    let order = not_before l.at (block_of l.event) at block follow.1 in
    (order.0, order.1, small w awake l.event follow.2, follow.0, sorted w l.at (block_of l.event) (awake_after awake l.event) ls follow.3)

earlier : (end at block at' block' : ℕ) (ls : List Line) → at' ≤ at → (at' ≡ at → block' ≤ block) → Sorted end at block ls → Sorted end at' block' ls
earlier end at block at' block' [] before lesser s = tt
earlier end at block at' block' (l ∷ ls) before lesser s =
    (omega (arith, before, s.0), λ same. (let x : at' ≡ at = omega (arith, before, s.0, same) in let y : l.at ≡ at = omega (arith, x, same) in omega (arith, lesser x, s.1 y)), s.2, s.3, s.4)

-- ---- the lines of a millisecond

-- a list is its first lines that pass, and then the others
parts : (test : Line → Bool) (ls : List Line) → first_events test ls ++ map (λ l. l.event) (lines_behind test ls) ≡ map (λ l. l.event) ls
parts test [] = refl
parts test (l ∷ ls) = go (test l) (parts test ls)
  where
    go : (b : Bool) → first_events test ls ++ map (λ l. l.event) (lines_behind test ls) ≡ map (λ l. l.event) ls
        → cond b (l.event ∷ first_events test ls) [] ++ map (λ l. l.event) (cond b (lines_behind test ls) (l ∷ ls)) ≡ l.event ∷ map (λ l. l.event) ls
    go true later = ap (λ es. l.event ∷ es) later
    go false later = refl

behind_before : (end m : ℕ) (ls : List Line) → Sorted end m 0 ls → Sorted end m 2 (lines_behind (is_before_ticks m) ls)
behind_before end m [] s = tt
behind_before end m (l ∷ ls) s =
    go (l.at == m) (is_sleep l.event) refl refl
    (λ same. behind_before end m ls (earlier end l.at (block_of l.event) m 0 ls (omega (arith, same)) (λ x. omega arith) s.4))
  where
    go : (a b : Bool) → (l.at == m) ≡ a → is_sleep l.event ≡ b → (l.at ≡ m → Sorted end m 2 (lines_behind (is_before_ticks m) ls)) → Sorted end m 2 (cond (a && not b) (lines_behind (is_before_ticks m) ls) (l ∷ ls))
    go true false x y later = later (grind (arith, nat_tests, x))
    go true true x y later = (s.0, λ same. grind (arith, nat_tests, y), s.2, s.3, s.4)
    go false b x y later = (s.0, λ same. absurd (grind (arith, nat_tests, x, same)), s.2, s.3, s.4)

behind_behind : (end m : ℕ) (ls : List Line) → Sorted end m 2 ls → Sorted end (m + 1) 0 (lines_behind (is_behind_ticks m) ls)
behind_behind end m [] s = tt
behind_behind end m (l ∷ ls) s =
    go (l.at == m) (is_sleep l.event) refl refl
    (λ same two. behind_behind end m ls (earlier end l.at (block_of l.event) m 2 ls (omega (arith, same)) (λ x. omega (arith, two)) s.4))
  where
    go : (a b : Bool) → (l.at == m) ≡ a → is_sleep l.event ≡ b → (l.at ≡ m → block_of l.event ≡ 2 → Sorted end (m + 1) 0 (lines_behind (is_behind_ticks m) ls)) → Sorted end (m + 1) 0 (cond (a && b) (lines_behind (is_behind_ticks m) ls) (l ∷ ls))
    go true true x y later = later (grind (arith, nat_tests, x)) (grind (arith, nat_tests, y))
    go true false x y later =
        let now : l.at ≡ m = grind (arith, nat_tests, x) in
        let other : block_of l.event ≢ 2 = grind (arith, nat_tests, y) in
        absurd (omega (arith, s.1 now, s.2, other))
    go false b x y later =
        let other : l.at ≢ m = grind (arith, nat_tests, x) in
        (omega (arith, s.0, other), λ same. omega arith, s.2, s.3, s.4)

-- ---- which events stand in lines

line_is_listed : (e : Event) → block_of e ≤ 2 → is_listed e ≡ true
line_is_listed e less = grind (arith, nat_tests, less)

all_listed : (end at block : ℕ) (test : Line → Bool) (ls : List Line) → Sorted end at block ls → filter is_listed (first_events test ls) ≡ first_events test ls
all_listed end at block test [] s = refl
all_listed end at block test (l ∷ ls) s = go (test l) (all_listed end l.at (block_of l.event) test ls s.4)
  where
    go : (b : Bool) → filter is_listed (first_events test ls) ≡ first_events test ls → filter is_listed (cond b (l.event ∷ first_events test ls) []) ≡ cond b (l.event ∷ first_events test ls) []
    go true later = rw (line_is_listed l.event s.2) (ap (λ es. l.event ∷ es) later)
    go false later = refl

no_tick : (k c : ℕ) → filter is_listed (ticks_from k c) ≡ []
no_tick zero c = refl
no_tick (suc k) c = no_tick k (c + 1)

each_comes : (cpus n m end : ℕ) (ls : List Line) → end ≤ m + n → Sorted end m 0 ls → filter is_listed (events_from cpus n m ls) ≡ map (λ l. l.event) ls
each_comes cpus zero m end [] over s = refl
each_comes cpus zero m end (l ∷ ls) over s = absurd (omega (arith, over, s.0, s.3))
each_comes cpus (suc n) m end ls over s =
    let ls1 = lines_behind (is_before_ticks m) ls in
    let ls2 = lines_behind (is_behind_ticks m) ls1 in
    let s1 : Sorted end m 2 ls1 = behind_before end m ls s in
    let s2 : Sorted end (m + 1) 0 ls2 = behind_behind end m ls1 s1 in
    let before = first_events (is_before_ticks m) ls in
    let behind = first_events (is_behind_ticks m) ls1 in
    let rest = event.Clock ∷ events_from cpus n (m + 1) ls2 in
    filter-append is_listed before (ticks_from cpus 0 ++ (behind ++ rest))
    ∙ ap (λ es. es ++ filter is_listed (ticks_from cpus 0 ++ (behind ++ rest))) (all_listed end m 0 (is_before_ticks m) ls s)
    ∙ ap (λ es. before ++ es)
    (filter-append is_listed (ticks_from cpus 0) (behind ++ rest)
    ∙ ap (λ es. es ++ filter is_listed (behind ++ rest)) (no_tick cpus 0)
    ∙ filter-append is_listed behind rest
    ∙ ap (λ es. es ++ filter is_listed rest) (all_listed end m 2 (is_behind_ticks m) ls1 s1)
    ∙ ap (λ es. behind ++ es) (each_comes cpus n (m + 1) end ls2 (omega (arith, over)) s2)
    ∙ parts (is_behind_ticks m) ls1)
    ∙ parts (is_before_ticks m) ls

-- the law
pub each_line_comes : (r : ReplayState) → IsReplay r → filter is_listed (replay_events r) ≡ map (λ l. l.event) r.lines
each_line_comes r whole =
    each_comes r.workload.cpus r.workload.ms 0 r.workload.ms r.lines (omega arith)
    (sorted r.workload 0 0 (all_asleep r.workload) r.lines whole.follow)
