-- What is still to come, as blocks begin and events are taken.
use Rattle.std.proofs.Common.{◌≡◌, ℕ, zero, suc, ◌+◌, ◌-◌, ◌<◌, true, false, not, nat_lt, List, [], ◌∷◌, ◌++◌, length, drop, get_or, Bool, eqb, ◌≤◌, ◌⊎◌, inl, inr, refl, sym, ap, ◌∙◌, subst, arith}
use denote.Enum.Bare.{sameb, same_false}
use Rattle.std.proofs.lemmas.Bool.{cases_eq, cases_lt, lt-ltb, eq-eqb, ne_eqb}
use Rattle.std.proofs.lemmas.List.{append-nil, length_push, get_or_append_left, get_or_push, drop_all, drop_more}
use Rattle.scx_sched_machine.specs.declared.events.Event.{Event}
use Rattle.scx_sched_machine.specs.declared.events.Event.TheVariants as event
use Rattle.scx_sched.specs.Sim.{SimState, after_event}
use Rattle.scx_load_driver.specs.contracts.driver.Phase.{the_type}
use Rattle.scx_load_driver.specs.declared.driver.Phase.{Phase}
use Rattle.scx_load_driver.specs.declared.driver.Phase.TheVariants as phase
use Rattle.scx_load_driver.specs.Runs.{stepped_all}
use Rattle.scx_load_driver.specs.Blocks.{Block, Changes, Wakes, Ticks, Sleeps, Clock, changes_at, wakes_at, ticks_of, ran_after}
use Rattle.scx_load_driver.specs.Watch.{last_ticks_of, sleeps_seen, due_seen, watched_still, events_seen, watched_after_all}
use Rattle.scx_load_driver.specs.Driver.{DriverState, remaining, is_empty, after_answer, at_first_block, at_next_block, blocks_left, phase_number, next_number}

-- there are blocks where milliseconds are left
pub some_blocks : (q : Phase) (n m : ℕ) → not (is_empty (blocks_left q m n)) ≡ nat_lt 0 n
some_blocks phase.Changes zero m = refl
some_blocks phase.Wakes zero m = refl
some_blocks phase.Ticks zero m = refl
some_blocks phase.Sleeps zero m = refl
some_blocks phase.Clock zero m = refl
some_blocks phase.Changes (suc n) m = sym (lt-ltb 0 (suc n) (omega arith))
some_blocks phase.Wakes (suc n) m = sym (lt-ltb 0 (suc n) (omega arith))
some_blocks phase.Ticks (suc n) m = sym (lt-ltb 0 (suc n) (omega arith))
some_blocks phase.Sleeps (suc n) m = sym (lt-ltb 0 (suc n) (omega arith))
some_blocks phase.Clock (suc n) m = sym (lt-ltb 0 (suc n) (omega arith))

-- where there are blocks, milliseconds are left
pub some_left : (q : Phase) (n m : ℕ) → not (is_empty (blocks_left q m n)) ≡ true → 0 < n
some_left q zero m some = let e = sym (some_blocks q zero m) ∙ some in absurd (cc)
some_left q (suc n) m some = omega arith

-- ---- ticks

pub length_ticks : (n : ℕ) → length (ticks_of n) ≡ n
length_ticks zero = refl
length_ticks (suc n) = omega (arith, length_push (ticks_of n) (event.Tick n), length_ticks n)

tick_at : (n c : ℕ) (d : Event) → c < n → get_or (ticks_of n) c d ≡ event.Tick c
tick_at zero c d l = absurd (omega (arith, l))
tick_at (suc n) c d l = go (λ m. tick_at n c d m) (cases_eq c n)
  where
    go : (c < n → get_or (ticks_of n) c d ≡ event.Tick c) → (c ≡ n) ⊎ (c ≡ n → ⊥) → get_or (ticks_of n ++ event.Tick n ∷ []) c d ≡ event.Tick c
    go before (inl e) = get_or_push (ticks_of n) (event.Tick n) d c (omega (arith, e, length_ticks n)) ∙ ap event.Tick (sym e)
    go before (inr o) = get_or_append_left (ticks_of n) (event.Tick n ∷ []) d c (omega (arith, l, o, length_ticks n)) ∙ before (omega (arith, l, o))

-- behind the last processor none ticks
pub no_ticks : (n c : ℕ) → n ≤ c → drop c (ticks_of n) ≡ []
no_ticks n c l = drop_all c (ticks_of n) (omega (arith, l, length_ticks n))

-- so what comes then is all
pub none_ticks : (n c : ℕ) (es fs : List Event) → n ≤ c → es ≡ fs → drop c (ticks_of n) ++ es ≡ fs
none_ticks n c es fs l e = ap (λ ts. ts ++ es) (no_ticks n c l) ∙ e

-- where nothing else comes, ticks are all
pub only_ticks : (n : ℕ) (es : List Event) → es ≡ [] → ticks_of n ++ es ≡ ticks_of n
only_ticks n es e = ap (λ fs. ticks_of n ++ fs) e ∙ append-nil (ticks_of n)

-- before it the next one does
pub next_tick : (n c : ℕ) → c < n → drop c (ticks_of n) ≡ event.Tick c ∷ drop (c + 1) (ticks_of n)
next_tick n c l = drop_more (ticks_of n) c event.Clock (omega (arith, l, length_ticks n)) ∙ ap (λ e. e ∷ drop (c + 1) (ticks_of n)) (tick_at n c event.Clock l)

-- ---- blocks that begin

-- as the changes begin
pub begun_changes : (d : DriverState) (m n : ℕ) (s : SimState) (es : List Event) → 0 < n → d.blocks ≡ blocks_left phase.Changes m n
    → es ≡ changes_at d.plan.changes m → record d { pending = es; blocks = blocks_left phase.Wakes m n } ≡ at_next_block d s
begun_changes d m zero s es some blocks events = absurd (omega (arith, some))
begun_changes d m (suc n) s es some blocks events = rw (events, blocks) refl

-- as tasks wake: these events, and how long each had run then
pub begun_wakes : (d : DriverState) (m n : ℕ) (s : SimState) (es : List Event) (ran : List ℕ) → 0 < n → d.blocks ≡ blocks_left phase.Wakes m n
    → es ≡ wakes_at d.memory.due m s.state.world → ran ≡ ran_after d.memory.due d.memory.ran m s.state.world
    → record d { pending = es; blocks = blocks_left phase.Ticks m n; memory = record { due = d.memory.due; ran = ran } } ≡ at_next_block d s
begun_wakes d m zero s es ran some blocks events kept = absurd (omega (arith, some))
begun_wakes d m (suc n) s es ran some blocks events kept = rw (events, kept, blocks) refl

-- as the ticks begin
pub begun_ticks : (d : DriverState) (m n : ℕ) (s : SimState) (es : List Event) → 0 < n → d.blocks ≡ blocks_left phase.Ticks m n
    → es ≡ ticks_of d.plan.cpus → record d { pending = es; blocks = blocks_left phase.Sleeps m n } ≡ at_next_block d s
begun_ticks d m zero s es some blocks events = absurd (omega (arith, some))
begun_ticks d m (suc n) s es some blocks events = rw (events, blocks) refl

-- as tasks go to sleep: these events, when each wakes, and who is watched
pub begun_sleeps : (d : DriverState) (m n : ℕ) (s : SimState) (es : List Event) (due : List ℕ) (watched : List Bool) → 0 < n → d.blocks ≡ blocks_left phase.Sleeps m n
    → es ≡ sleeps_seen d.plan.timings d.memory.ran d.watched s.state.world → due ≡ due_seen d.plan.timings d.memory.due d.memory.ran d.watched m s.state.world
    → watched ≡ watched_still d.plan.timings d.memory.ran d.watched s.state.world
    → record d { pending = es; blocks = blocks_left phase.Clock m n; memory = record { due = due; ran = d.memory.ran }; watched = watched } ≡ at_next_block d s
begun_sleeps d m zero s es due watched some blocks events kept still = absurd (omega (arith, some))
begun_sleeps d m (suc n) s es due watched some blocks events kept still = rw (events, kept, still, blocks) refl

-- as the clock's block begins, the millisecond behind it comes next
pub begun_clock : (d : DriverState) (m n : ℕ) (s : SimState) (es : List Event) → 0 < n → d.blocks ≡ blocks_left phase.Clock m n
    → es ≡ event.Clock ∷ [] → record d { pending = es; blocks = blocks_left phase.Changes (m + 1) (n - 1) } ≡ at_next_block d s
begun_clock d m zero s es some blocks events = absurd (omega (arith, some))
begun_clock d m (suc n) s es some blocks events = let e : suc n - 1 ≡ n = omega arith in rw (events, blocks, e) refl

-- a block that begins leaves what is still to come
pub remaining_begun : (d : DriverState) (s : SimState) → is_empty d.pending ≡ true → remaining (at_next_block d s) s ≡ remaining d s
remaining_begun d s none = go d.pending d.blocks refl refl none
  where
    go : (es : List Event) (bs : List Block) → d.pending ≡ es → d.blocks ≡ bs → is_empty es ≡ true → remaining (at_first_block bs d s) s ≡ es ++ events_seen d.plan bs d.memory (watched_after_all (last_ticks_of d.plan.timings d.memory.ran) s es d.watched) (stepped_all s es)
    go [] [] p q e = rw (p, q) refl
    go [] (b ∷ bs) p q e = refl
    go (x ∷ es) bs p q e = absurd (cc)

-- an event that is answered comes first
pub remaining_taken : (d after : DriverState) (e : Event) (s : SimState) → d.pending ≡ e ∷ after.pending → after ≡ after_answer d s e after.pending → remaining d s ≡ e ∷ remaining after (after_event s e)
remaining_taken d after e s first is = go after.pending first ∙ ap (λ x. e ∷ remaining x (after_event s e)) (sym is)
  where
    go : (es : List Event) → d.pending ≡ e ∷ es → remaining d s ≡ e ∷ remaining (after_answer d s e es) (after_event s e)
    go es p = rw p refl

-- past the last block nothing comes
pub remaining_end : (d : DriverState) (s : SimState) → is_empty d.pending ≡ true → is_empty d.blocks ≡ true → remaining d s ≡ []
remaining_end d s none over = go d.pending d.blocks none over
  where
    go : (es : List Event) (bs : List Block) → is_empty es ≡ true → is_empty bs ≡ true → es ++ events_seen d.plan bs d.memory (watched_after_all (last_ticks_of d.plan.timings d.memory.ran) s es d.watched) (stepped_all s es) ≡ []
    go [] [] e f = refl
    go [] (b ∷ bs) e f = absurd (cc)
    go (x ∷ es) bs e f = absurd (cc)

-- where no block is left its number is past all
pub none_left : (p : Phase) (bs : List Block) → not (is_empty bs) ≡ false → phase_number p < next_number bs
none_left phase.Changes [] e = omega arith
none_left phase.Wakes [] e = omega arith
none_left phase.Ticks [] e = omega arith
none_left phase.Sleeps [] e = omega arith
none_left phase.Clock [] e = omega arith
none_left p (b ∷ bs) e = absurd (cc)

-- a block that begins and has no event has the next one behind it
next_begun : (q : Phase) (m n : ℕ) (d : DriverState) (s : SimState) → 0 < n
    → is_empty (at_first_block (blocks_left q m n) d s).pending ≡ true → phase_number q < next_number (at_first_block (blocks_left q m n) d s).blocks
next_begun q m zero d s some none = absurd (omega (arith, some))
next_begun phase.Changes m (suc n) d s some none = omega arith
next_begun phase.Wakes m (suc n) d s some none = omega arith
next_begun phase.Ticks m (suc n) d s some none = omega arith
next_begun phase.Sleeps m (suc n) d s some none = omega arith
next_begun phase.Clock m (suc n) d s some none = absurd (cc)

-- behind a block that has no event comes a later one of its millisecond, if any block is left
pub begun_past : (p q : Phase) (m n : ℕ) (d after : DriverState) (s : SimState) → blocks_left q m n ≡ d.blocks → q ≡ p → not (is_empty d.blocks) ≡ true → after ≡ at_next_block d s
    → is_empty after.pending ≡ true → phase_number p < next_number after.blocks
begun_past p q m n d after s blocks is some new none =
    subst (λ x. phase_number x < next_number after.blocks) is
    (subst (λ (x : DriverState). phase_number q < next_number x.blocks) (sym new)
    (subst (λ (bs : List Block). not (is_empty bs) ≡ true → is_empty (at_first_block bs d s).pending ≡ true → phase_number q < next_number (at_first_block bs d s).blocks) blocks
    (λ left. next_begun q m n d s (some_left q n m left)) some (subst (λ (x : DriverState). is_empty x.pending ≡ true) new none)))

-- the block of that number
phase_at : ℕ → Phase
phase_at zero = phase.Changes
phase_at (suc zero) = phase.Wakes
phase_at (suc (suc zero)) = phase.Ticks
phase_at (suc (suc (suc zero))) = phase.Sleeps
phase_at (suc (suc (suc (suc n)))) = phase.Clock

number_once : (p : Phase) → phase_at (phase_number p) ≡ p
unfolding phase_at
number_once phase.Changes = refl
number_once phase.Wakes = refl
number_once phase.Ticks = refl
number_once phase.Sleeps = refl
number_once phase.Clock = refl

-- the number of what is left
number_left : (q : Phase) (m n : ℕ) → (next_number (blocks_left q m n) ≡ phase_number q) ⊎ (next_number (blocks_left q m n) ≡ 5)
number_left phase.Changes m zero = inr refl
number_left phase.Wakes m zero = inr refl
number_left phase.Ticks m zero = inr refl
number_left phase.Sleeps m zero = inr refl
number_left phase.Clock m zero = inr refl
number_left phase.Changes m (suc n) = inl refl
number_left phase.Wakes m (suc n) = inl refl
number_left phase.Ticks m (suc n) = inl refl
number_left phase.Sleeps m (suc n) = inl refl
number_left phase.Clock m (suc n) = inl refl

few_phases : (p : Phase) → phase_number p < 5
few_phases phase.Changes = omega arith
few_phases phase.Wakes = omega arith
few_phases phase.Ticks = omega arith
few_phases phase.Sleeps = omega arith
few_phases phase.Clock = omega arith

-- other blocks have other numbers
other_number : (p q : Phase) → sameb the_type q p ≡ false → (phase_number q ≡ phase_number p → ⊥)
other_number p q other e = same_false the_type q p other (sym (number_once q) ∙ ap phase_at e ∙ number_once p)

-- where another block comes next it comes later
pub other_past : (p q : Phase) (m n : ℕ) (bs : List Block) → blocks_left q m n ≡ bs → sameb the_type q p ≡ false → phase_number p ≤ next_number bs → phase_number p < next_number bs
other_past p q m n bs blocks other turn = go (number_left q m n)
  where
    is : next_number (blocks_left q m n) ≡ next_number bs
    is = ap next_number blocks

    go : (next_number (blocks_left q m n) ≡ phase_number q) ⊎ (next_number (blocks_left q m n) ≡ 5) → phase_number p < next_number bs
    go (inr e) = omega (arith, e, is, few_phases p)
    go (inl e) = omega (arith, e, is, turn, other_number p q other)

-- past the last block there is none
pub past_last : (bs : List Block) → phase_number phase.Clock < next_number bs → is_empty bs ≡ true
past_last [] l = refl
past_last (Changes k ∷ bs) l = absurd (omega (arith, l))
past_last (Wakes k ∷ bs) l = absurd (omega (arith, l))
past_last (Ticks ∷ bs) l = absurd (omega (arith, l))
past_last (Sleeps k ∷ bs) l = absurd (omega (arith, l))
past_last (Clock ∷ bs) l = absurd (omega (arith, l))

-- all were taken
spent_events : (i : ℕ) (es : List Event) → i ≤ length es → eqb i (length es) ≡ is_empty (drop i es)
spent_events i es l = go (cases_eq i (length es))
  where
    go : (i ≡ length es) ⊎ (i ≡ length es → ⊥) → eqb i (length es) ≡ is_empty (drop i es)
    go (inl e) = rw (eq-eqb i (length es) e, drop_all i es (omega (arith, e))) refl
    go (inr d) = rw (ne_eqb i (length es) d, drop_more es i event.Clock (omega (arith, l, d))) refl

-- and no processor ticks any more
pub spent : (c n i : ℕ) (es : List Event) → c ≡ n → i ≤ length es → eqb i (length es) ≡ is_empty (drop c (ticks_of n) ++ drop i es)
spent c n i es last l = spent_events i es l ∙ ap (λ ts. is_empty (ts ++ drop i es)) (sym (no_ticks n c (omega (arith, last))))

-- unless one has to
pub not_spent : (c n : ℕ) (es : List Event) → c < n → is_empty (drop c (ticks_of n) ++ es) ≡ false
not_spent c n es l = rw (next_tick n c l) refl

-- where no processor ticks and something is left it is an event
pub some_event : (c n i : ℕ) (es : List Event) → n ≤ c → is_empty (drop c (ticks_of n) ++ drop i es) ≡ false → i < length es
some_event c n i es l some = go (cases_lt i (length es))
  where
    go : (i < length es) ⊎ (length es ≤ i) → i < length es
    go (inl l) = l
    go (inr past) =
        let none : is_empty (drop c (ticks_of n) ++ drop i es) ≡ true = rw (no_ticks n c l, drop_all i es past) refl in
        absurd (cc)

-- which comes next
pub next_event : (c n i : ℕ) (es : List Event) (e : Event) → n ≤ c → i < length es → get_or es i e ≡ e → drop c (ticks_of n) ++ drop i es ≡ e ∷ (drop c (ticks_of n) ++ drop (i + 1) es)
next_event c n i es e l within is =
    ap (λ ts. ts ++ drop i es) (no_ticks n c l) ∙ drop_more es i e within ∙ ap (λ x. x ∷ drop (i + 1) es) is
    ∙ ap (λ ts. e ∷ (ts ++ drop (i + 1) es)) (sym (no_ticks n c l))

-- the end of an empty list is empty
empty_end : (es fs : List Event) → is_empty (es ++ fs) ≡ true → is_empty fs ≡ true
empty_end [] fs e = e
empty_end (x ∷ es) fs e = absurd (cc)

-- where nothing is left all were taken
pub all_taken : (c n i : ℕ) (es : List Event) → i ≤ length es → is_empty (drop c (ticks_of n) ++ drop i es) ≡ true → i ≡ length es
all_taken c n i es l none = go (cases_lt i (length es))
  where
    go : (i < length es) ⊎ (length es ≤ i) → i ≡ length es
    go (inr past) = omega (arith, l, past)
    go (inl some) =
        let rest : is_empty (drop i es) ≡ true = empty_end (drop c (ticks_of n)) (drop i es) none in
        let more : is_empty (drop i es) ≡ false = rw (drop_more es i event.Clock some) refl in
        absurd (cc)
