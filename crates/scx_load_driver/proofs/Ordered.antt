-- Changes of weights sorted by their times are those of the file in each millisecond.
use Rattle.std.proofs.Common.{◌≡◌, ℕ, zero, suc, ◌<◌, ◌≤◌, ◌⊎◌, inl, inr, Bool, true, false, not, ◌&&◌, eqb, ltb, cond, List, [], ◌∷◌, ◌++◌, length, take, map, refl, sym, ap, ◌∙◌, add-one, arith}
use Rattle.std.specs.List.{filter}
use Rattle.std.specs.List.Sorted.{ties, IsStableByKey}
use Rattle.std.specs.Ordering.{is_lt, nat_cmp}
use Rattle.std.specs.declared.cmp.Ordering.TheVariants.{Less, Equal, Greater}
use Rattle.std.proofs.lemmas.Bool.{cases_lt, lt-ltb, le-ltb, eq-eqb, ne_eqb}
use Rattle.std.proofs.lemmas.List.{map-append, take_all}
use Rattle.std.proofs.lemmas.List.Elements.{filter_more}
use Rattle.scx_sched.specs.Sim.{SimState}
use Rattle.scx_load_workloads.specs.declared.workload.Weighed.TheVariants as which
use Rattle.scx_load_workloads.specs.declared.workload.Change.{Change}
use Rattle.scx_load_workloads.specs.Workload.{WorkloadState, change_at}
use Rattle.scx_load_driver.specs.Runs.{stepped_all}
use Rattle.scx_load_driver.specs.Blocks.{Plan, Memory, Block, Changes, Wakes, Ticks, Sleeps, Clock, is_at, events_below, change_event, changes_at, block_events, memory_after}
use Rattle.scx_load_driver.specs.Changes.{AreAlike}
use Rattle.scx_load_driver.specs.Events.{blocks_from, events_from, plan_of, first_memory, workload_events}

-- ---- the changes of a millisecond as a part of the list

one_event : (b : Bool) (c : Change) → cond b (change_event c ∷ []) [] ≡ map change_event (cond b (c ∷ []) [])
one_event true c = refl
one_event false c = refl

below_filtered : (changes : List Change) (m n : ℕ) → n ≤ length changes
    → events_below n (is_at changes m) (λ i. change_event (change_at changes i)) ≡ map change_event (filter (λ c. eqb c.at m) (take n changes))
below_filtered changes m zero l = refl
below_filtered changes m (suc n) l =
    let p : Change → Bool = λ c. eqb c.at m in
    let c = change_at changes n in
    let more : filter p (take (suc n) changes) ≡ filter p (take n changes) ++ cond (p c) (c ∷ []) [] =
    ap (λ k. filter p (take k changes)) (sym (add-one n)) ∙ filter_more p changes n (record { at = 0; weighed = which.Group 0; weight = 0 }) (omega (arith, l)) in
    ap (λ es. es ++ cond (p c) (change_event c ∷ []) []) (below_filtered changes m n (omega (arith, l)))
    ∙ ap (λ es. map change_event (filter p (take n changes)) ++ es) (one_event (p c) c)
    ∙ sym (map-append change_event (filter p (take n changes)) (cond (p c) (c ∷ []) []))
    ∙ ap (λ cs. map change_event cs) (sym more)

at_filtered : (changes : List Change) (m : ℕ) → changes_at changes m ≡ map change_event (filter (λ c. eqb c.at m) changes)
at_filtered changes m =
    below_filtered changes m (length changes) (omega arith)
    ∙ ap (λ cs. map change_event (filter (λ c. eqb c.at m) cs)) (take_all (length changes) changes (omega arith))

-- ---- the sort

filter_alike : (p q : Change → Bool) → ((c : Change) → p c ≡ q c) → (cs : List Change) → filter p cs ≡ filter q cs
filter_alike p q h [] = refl
filter_alike p q h (c ∷ cs) = ap (λ b. cond b (c ∷ filter p cs) (filter p cs)) (h c) ∙ ap (λ ds. cond (q c) (c ∷ ds) ds) (filter_alike p q h cs)

less : (m n : ℕ) → is_lt (nat_cmp m n) ≡ ltb m n
less m n = go (ltb m n) (eqb m n)
  where
    go : (a b : Bool) → is_lt (cond a Less (cond b Equal Greater)) ≡ a
    go true b = refl
    go false true = refl
    go false false = refl

-- two times tie if they are the same
tie : (m n : ℕ) → (not (is_lt (nat_cmp m n)) && not (is_lt (nat_cmp n m))) ≡ eqb n m
tie m n = ap (λ b. not b && not (is_lt (nat_cmp n m))) (less m n) ∙ ap (λ b. not (ltb m n) && not b) (less n m) ∙ go (cases_lt m n) (cases_lt n m)
  where
    go : (m < n) ⊎ (n ≤ m) → (n < m) ⊎ (m ≤ n) → (not (ltb m n) && not (ltb n m)) ≡ eqb n m
    go (inl l) k = rw (lt-ltb m n l) (sym (ne_eqb n m (λ e. absurd (omega (arith, e, l)))))
    go (inr k) (inl l) = rw (le-ltb m n k, lt-ltb n m l) (sym (ne_eqb n m (λ e. absurd (omega (arith, e, l)))))
    go (inr k) (inr l) = rw (le-ltb m n k, le-ltb n m l) (sym (eq-eqb n m (omega (arith, k, l))))

-- a stable sort by time leaves the changes of each millisecond as they are
pub sorted_alike : (xs ys zs : List Change) → xs ≡ zs → IsStableByKey (λ (c : Change). c.at) nat_cmp xs ys → AreAlike ys zs
sorted_alike xs ys zs is stable = λ m.
    let one : Change = record { at = m; weighed = which.Group 0; weight = 0 } in
    let lt : Change → Change → Bool = λ x y. is_lt (nat_cmp x.at y.at) in
    let p : Change → Bool = λ c. eqb c.at m in
    let same : (cs : List Change) → filter (ties lt one) cs ≡ filter p cs = filter_alike (ties lt one) p (λ c. tie m c.at) in
    at_filtered ys m
    ∙ ap (λ cs. map change_event cs) (sym (same ys) ∙ stable one ∙ same xs)
    ∙ sym (at_filtered xs m)
    ∙ ap (λ cs. changes_at cs m) is

-- ---- the events of a workload

-- with other changes
abbrev replanned : Plan → List Change → Plan
replanned p changes = record p { changes = changes }

same_block : (p : Plan) (changes : List Change) → AreAlike changes p.changes → (b : Block) (k : Memory) (s : SimState) → block_events (replanned p changes) b k s.state.world ≡ block_events p b k s.state.world
same_block p changes alike (Changes m) k s = alike m
same_block p changes alike (Wakes m) k s = refl
same_block p changes alike Ticks k s = refl
same_block p changes alike (Sleeps m) k s = refl
same_block p changes alike Clock k s = refl

same_memory : (p : Plan) (changes : List Change) (b : Block) (k : Memory) (s : SimState) → memory_after (replanned p changes) b k s.state.world ≡ memory_after p b k s.state.world
same_memory p changes (Changes m) k s = refl
same_memory p changes (Wakes m) k s = refl
same_memory p changes Ticks k s = refl
same_memory p changes (Sleeps m) k s = refl
same_memory p changes Clock k s = refl

same_events : (p : Plan) (changes : List Change) → AreAlike changes p.changes → (bs : List Block) (k : Memory) (s : SimState) → events_from (replanned p changes) bs k s ≡ events_from p bs k s
same_events p changes alike [] k s = refl
same_events p changes alike (b ∷ bs) k s =
    ap (λ es. es ++ events_from (replanned p changes) bs (memory_after (replanned p changes) b k s.state.world) (stepped_all s es)) (same_block p changes alike b k s)
    ∙ ap (λ (x : Memory). block_events p b k s.state.world ++ events_from (replanned p changes) bs x (stepped_all s (block_events p b k s.state.world))) (same_memory p changes b k s)
    ∙ ap (λ es. block_events p b k s.state.world ++ es) (same_events p changes alike bs (memory_after p b k s.state.world) (stepped_all s (block_events p b k s.state.world)))

-- a workload with changes that are the same in each millisecond has the same events
pub alike_events : (w : WorkloadState) (changes : List Change) (s : SimState) → AreAlike changes w.changes → workload_events (record w { changes = changes }) s ≡ workload_events w s
alike_events w changes s alike = same_events (plan_of w) changes alike (blocks_from w.ms 0) (first_memory w.timings) s
