-- Which processors may be idle with a task in their local queue, and which of them looks for work
-- first.
use Rattle.std.proofs.Common.{◌≡◌, ◌≢◌, ℕ, zero, suc, Bool, true, false, ◌==◌, ◌&&◌, not, nat_lt, max, ◌+◌, ◌-◌, ◌*◌, ◌%◌, ◌<◌, ◌≤◌, ◌^◌, ◌⊎◌, inl, inr, cond, [], ◌∷◌, length, get_or, set, count_by, Option, Some, None, is_some, is_none, IfNone, option_map, refl, sym, ◌∙◌, ap, subst, arith}
use Rattle.std.specs.Int.{w64, bit_at, bit_not, trailing_zeros}
use Rattle.std.specs.Int.Bits.{bit_or, bit_and}
use Rattle.std.proofs.lemmas.Bool.{cases_eq, cases_lt, eq-eqb, ne_eqb, lt-ltb, ltb-true, ltb-false, or_parts, or_from, cond-true, cond-false}
use Rattle.std.proofs.lemmas.List.{get_or-set_same, get_or-set_other, length-set, set_past}
use Rattle.std.proofs.lemmas.List.Sums.{sum_by-cons}
use Rattle.std.proofs.lemmas.Nat.{and_le_l}
use Rattle.std.proofs.lemmas.Nat.Bits.{bit_at-zero, bit_at_ones, bit_at-trailing_zeros, bit_at_above, bit_at_or, bit_at_clear_same}
use Rattle.scx_dsq.specs.declared.entries.Entry.{Entry}
use Rattle.scx_dsq.specs.declared.entries.Rank.{Rank}
use Rattle.scx_dsq.specs.Laws.{one_if}
use Rattle.scx_dsq.specs.Queues.{QueueState, Entries, Waits, queue_of, entry_of, is_in, len_of, front_of}
use Rattle.scx_dsq.specs.Calls.{create_refusal, with_queue, after_create, push_refusal, next_entry, with_task, after_push, without_task, after_remove, without, after_pop}
use Rattle.scx_sched_world.specs.declared.world.World.TheInside.{Inside}
use Rattle.scx_sched_world.specs.Ids.{local_on}
use Rattle.scx_sched_world.specs.CpuSets.{is_in_set}
use Rattle.scx_sched_world.specs.World.{WorldState, running, is_this, is_idle}
use Rattle.scx_sched_world.specs.Pending.{has_local, is_pending, first_pending}
use Rattle.scx_sched_world.specs.Kept.{IsKept, lowest_bit, IsEmpty, AreSettled, HoldPending}
use Rattle.scx_sched_world.proofs.Fronts.{front_in}
use Rattle.scx_sched_world.proofs.Scans.{none_pending, one_pending}

-- ---- who waits in a queue

-- once one entry was set, another's is as before, or it is that one
set_either : (xs : Entries) (t u : ℕ) (x : Option Entry) → (get_or (set xs t x) u None ≡ x) ⊎ (get_or (set xs t x) u None ≡ get_or xs u None)
set_either xs t u x = go (cases_eq u t) (cases_lt t (length xs))
  where
    go : (u ≡ t) ⊎ (u ≡ t → ⊥) → (t < length xs) ⊎ (length xs ≤ t) → (get_or (set xs t x) u None ≡ x) ⊎ (get_or (set xs t x) u None ≡ get_or xs u None)
    go (inl e) (inl l) = inl (ap (λ k. get_or (set xs t x) k None) e ∙ get_or-set_same xs t x None l)
    go (inl e) (inr past) = inr (ap (λ (ys : Entries). get_or ys u None) (set_past xs t x past))
    go (inr d) l = inr (get_or-set_other xs t u x None d)

same_some : (a b : ℕ) → Some a ≡ Some b → a ≡ b
same_some a b e = cc

-- who waits in a queue after a push to another did so before
waited_pushed : (s : QueueState) (p t u q : ℕ) (r : Rank) → p ≢ q → queue_of (after_push s p t r) u ≡ Some q → queue_of s u ≡ Some q
waited_pushed s p t u q r apart e = go (is_none (push_refusal s p t r)) e
  where
    new : Option Entry
    new = Some (next_entry s p r)

    either : (get_or (set s.entries t new) u None ≡ new) ⊎ (get_or (set s.entries t new) u None ≡ get_or s.entries u None) → queue_of (with_task s p t r) u ≡ Some q → queue_of s u ≡ Some q
    either (inl x) y = absurd (apart (same_some p q (sym (ap (λ (o : Option Entry). option_map (λ i. i.queue) o) x) ∙ y)))
    either (inr x) y = sym (ap (λ (o : Option Entry). option_map (λ i. i.queue) o) x) ∙ y

    go : (b : Bool) → queue_of (cond b (with_task s p t r) s) u ≡ Some q → queue_of s u ≡ Some q
    go true y = either (set_either s.entries t u new) y
    go false y = y

-- after a task has left
waited_without : (s : QueueState) (t u q : ℕ) → queue_of (without_task s t) u ≡ Some q → queue_of s u ≡ Some q
waited_without s t u q e = go (set_either s.entries t u None) e
  where
    go : (get_or (set s.entries t None) u None ≡ None) ⊎ (get_or (set s.entries t None) u None ≡ get_or s.entries u None) → queue_of (without_task s t) u ≡ Some q → queue_of s u ≡ Some q
    go (inl x) y = let bad : None ≡ Some q = sym (ap (λ (o : Option Entry). option_map (λ p. p.queue) o) x) ∙ y in absurd (cc)
    go (inr x) y = sym (ap (λ (o : Option Entry). option_map (λ p. p.queue) o) x) ∙ y

-- a queue in which nobody waits is empty
queue_in : (o : Option Entry) (q : ℕ) → is_in q o ≡ false → option_map (λ p. p.queue) o ≢ Some q
queue_in None q e y = let bad : None ≡ Some q = y in absurd (cc)
queue_in (Some p) q e y = let bad : true ≡ false = sym (eq-eqb p.queue q (same_some p.queue q y)) ∙ e in absurd (cc)

in_queue : (o : Option Entry) (q : ℕ) → option_map (λ p. p.queue) o ≢ Some q → is_in q o ≡ false
in_queue None q d = refl
in_queue (Some p) q d = ne_eqb p.queue q (λ e. d (ap (λ n. Some n) e))

count_cons : (q : ℕ) (x : Option Entry) (xs : Entries) → count_by (is_in q) (x ∷ xs) ≡ one_if (is_in q x) + count_by (is_in q) xs
count_cons q x xs = sum_by-cons (λ o. one_if (is_in q o)) x xs

none_in : (q : ℕ) (xs : Entries) (t : ℕ) → count_by (is_in q) xs ≡ 0 → is_in q (get_or xs t None) ≡ false
none_in q [] t e = refl
none_in q (x ∷ xs) zero e = go (is_in q x) refl
  where
    go : (b : Bool) → is_in q x ≡ b → is_in q x ≡ false
    go true y = absurd (omega (arith, count_cons q x xs, e, ap one_if y))
    go false y = y
none_in q (x ∷ xs) (suc t) e = none_in q xs t (omega (arith, count_cons q x xs, e))

count_none : (q : ℕ) (xs : Entries) → ((t : ℕ) → is_in q (get_or xs t None) ≡ false) → count_by (is_in q) xs ≡ 0
count_none q [] all = refl
count_none q (x ∷ xs) all = count_cons q x xs ∙ rw (all zero, count_none q xs (λ t. all (suc t))) refl

empty_by : (s : QueueState) (q : ℕ) → len_of s q ≡ 0 → IsEmpty s q
empty_by s q e t = queue_in (entry_of s t) q (none_in q s.entries t e)

len_by : (s : QueueState) (q : ℕ) → IsEmpty s q → len_of s q ≡ 0
len_by s q h = count_none q s.entries (λ t. in_queue (entry_of s t) q (h t))

-- where nobody waits none is counted
pub len_none : (s : QueueState) (q : ℕ) → ((t : ℕ) (p : Entry) → Waits s q t p → ⊥) → len_of s q ≡ 0
len_none s q none = len_by s q (λ t x. nobody (entry_of s t) (λ p y z. none t p (y, z)) x)
  where
    is : (a b : ℕ) → Some a ≡ Some b → a ≡ b
    is a b y = cc

    nobody : (o : Option Entry) → ((p : Entry) → o ≡ Some p → p.queue ≡ q → ⊥) → option_map (λ p. p.queue) o ≡ Some q → ⊥
    nobody None h y = absurd (cc)
    nobody (Some p) h y = h p refl (is p.queue q y)

-- what is not untrue is true
pub twice_not : (b : Bool) → not (not b) ≡ b
twice_not true = refl
twice_not false = refl

-- someone waits in a queue where it has a front
pub local_by_front : (s : QueueState) (q : ℕ) (o : Option ℕ) → o ≡ front_of s q → IfNone o ((t : ℕ) (p : Entry) → Waits s q t p → ⊥) → is_some o ≡ nat_lt 0 (len_of s q)
local_by_front s q None e none = sym (ap (λ n. nat_lt 0 n) (len_none s q none))
local_by_front s q (Some t) e none = sym (lt-ltb 0 (len_of s q) (some (cases_eq (len_of s q) 0)))
  where
    some : (len_of s q ≡ 0) ⊎ (len_of s q ≡ 0 → ⊥) → 0 < len_of s q
    some (inl z) = absurd (empty_by s q z t (front_in s q t (sym e)))
    some (inr d) = omega (arith, d)

-- ---- what is known of idle processors

-- a bit that is clear was clear before, and isn't that of the queue's processor
abbrev pub AreMarked : ℕ → ℕ → ℕ → Type 0
AreMarked bits marked q = (c : ℕ) → c < 64 → bit_at marked c ≡ 0 → (bit_at bits c ≡ 0) × (q ≢ local_on c)

-- after a push, where the processor of its queue is known no more
pub settled_pushed : (w : Inside) (marked q t : ℕ) (r : Rank) → IsKept w → (w.by_linux ≡ true → AreMarked w.unsettled marked q)
    → w.by_linux ≡ true → AreSettled marked w.cpus.items w.cycling (after_push w.queues.state q t r)
settled_pushed w marked q t r is marks on c l clear none off u e =
    let mark = marks on c (omega (arith, l, is.few_cpus)) clear in
    is.settled on c l mark.0 none off u (waited_pushed w.queues.state q t u (local_on c) r mark.1 e)

-- a queue that is no local one is that of no processor
pub marked_apart : (bits q : ℕ) → q < local_on 0 → AreMarked bits bits q
marked_apart bits q low c l clear = (clear, λ x. omega (arith, x, low))

-- after a task has left its queue
pub settled_removed : (w : Inside) (t : ℕ) → IsKept w → w.by_linux ≡ true → AreSettled w.unsettled w.cpus.items w.cycling (after_remove w.queues.state t)
settled_removed w t is on c l clear none off u e = is.settled on c l clear none off u (go (is_some (entry_of w.queues.state t)) e)
  where
    go : (b : Bool) → queue_of (cond b (without_task w.queues.state t) w.queues.state) u ≡ Some (local_on c) → queue_of w.queues.state u ≡ Some (local_on c)
    go true y = waited_without w.queues.state t u (local_on c) y
    go false y = y

-- after a front has left its queue
pub settled_popped : (w : Inside) (q : ℕ) → IsKept w → w.by_linux ≡ true → AreSettled w.unsettled w.cpus.items w.cycling (after_pop w.queues.state q)
settled_popped w q is on c l clear none off u e = is.settled on c l clear none off u (go (front_of w.queues.state q) e)
  where
    go : (o : Option ℕ) → queue_of (without w.queues.state o) u ≡ Some (local_on c) → queue_of w.queues.state u ≡ Some (local_on c)
    go None y = y
    go (Some t) y = waited_without w.queues.state t u (local_on c) y

-- after a queue was created
pub settled_created : (w : Inside) (q : ℕ) → IsKept w → w.by_linux ≡ true → AreSettled w.unsettled w.cpus.items w.cycling (after_create w.queues.state q)
settled_created w q is on c l clear none off u e = is.settled on c l clear none off u (go (is_none (create_refusal w.queues.state q)) e)
  where
    go : (b : Bool) → queue_of (cond b (with_queue w.queues.state q) w.queues.state) u ≡ Some (local_on c) → queue_of w.queues.state u ≡ Some (local_on c)
    go true y = y
    go false y = y

-- once another task runs on a processor, or none, which is known no more
pub settled_cpu : (w : Inside) (marked k : ℕ) (o : Option ℕ) → IsKept w
    → (w.by_linux ≡ true → (c : ℕ) → c < 64 → bit_at marked c ≡ 0 → (bit_at w.unsettled c ≡ 0) × (Some k ≢ Some c))
    → w.by_linux ≡ true → AreSettled marked (set w.cpus.items k o) w.cycling w.queues.state
settled_cpu w marked k o is marks on c l clear none off =
    let known : c < length w.cpus.items = subst (λ n. c < n) (length-set w.cpus.items k o) l in
    let mark = marks on c (omega (arith, known, is.few_cpus)) clear in
    is.settled on c known mark.0 (sym (get_or-set_other w.cpus.items k c o None (λ e. mark.1 (ap (λ n. Some n) (sym e)))) ∙ none) off

-- once a cycle begins or ends, where the processor of the one before is known no more
pub settled_cycling : (w : Inside) (marked : ℕ) (now : Option ℕ) → IsKept w
    → (w.by_linux ≡ true → (c : ℕ) → c < 64 → bit_at marked c ≡ 0 → (bit_at w.unsettled c ≡ 0) × (w.cycling ≢ Some c))
    → w.by_linux ≡ true → AreSettled marked w.cpus.items now w.queues.state
settled_cycling w marked now is marks on c l clear none off =
    let mark = marks on c (omega (arith, l, is.few_cpus)) clear in
    is.settled on c l mark.0 none mark.1

-- where nothing is known of any processor
pub unsettled : (w : Inside) → IsKept w → AreSettled (2 ^ 64 - 1) w.cpus.items w.cycling w.queues.state
unsettled w is c l clear = absurd (omega (arith, clear, bit_at_ones 64 c (omega (arith, l, is.few_cpus))))

-- ---- bits

-- a bit that was set alone changes
pub marked_one : (bits new k : ℕ) → bit_at new k ≡ 1 → ((i : ℕ) → i < 64 → i ≢ k → bit_at new i ≡ bit_at bits i) → (c : ℕ) → c < 64 → bit_at new c ≡ 0 → (bit_at bits c ≡ 0) × (Some k ≢ Some c)
marked_one bits new k here others c l clear = go (cases_eq c k)
  where
    go : (c ≡ k) ⊎ (c ≡ k → ⊥) → (bit_at bits c ≡ 0) × (Some k ≢ Some c)
    go (inl e) = absurd (omega (arith, here, sym (ap (λ i. bit_at new i) e) ∙ clear))
    go (inr d) = (sym (others c l d) ∙ clear, λ e. d (sym (same_some k c e)))

-- no bit has to change for none
pub marked_none : (bits c : ℕ) → bit_at bits c ≡ 0 → (bit_at bits c ≡ 0) × (None ≢ Some c)
marked_none bits c clear = (clear, λ e. let bad : None ≡ Some c = e in absurd (cc))

-- the bit of its lowest digits is that of a processor
pub marked_low : (bits new k : ℕ) → bit_at new (k % 64) ≡ 1 → ((i : ℕ) → i < 64 → i ≢ k % 64 → bit_at new i ≡ bit_at bits i) → (c : ℕ) → c < 64 → bit_at new c ≡ 0 → (bit_at bits c ≡ 0) × (Some k ≢ Some c)
marked_low bits new k here others c l clear =
    let mark = marked_one bits new (k % 64) here others c l clear in
    (mark.0, λ e. mark.1 (ap (λ n. Some n) (low (same_some k c e))))
  where
    low : k ≡ c → k % 64 ≡ c
    low e = omega (arith, e, l)

-- that of a local queue is that of its processor
pub marked_queue : (bits marked q : ℕ) → local_on 0 ≤ q
    → ((c : ℕ) → c < 64 → bit_at marked c ≡ 0 → (bit_at bits c ≡ 0) × (Some ((q - local_on 0) % 64) ≢ Some c)) → AreMarked bits marked q
marked_queue bits marked q local marks c l clear =
    let mark = marks c l clear in
    (mark.0, λ e. mark.1 (ap (λ n. Some n) (omega (arith, e, l))))

-- a number without one of its bits is less
pub cleared_less : (bits k : ℕ) → k < 64 → bit_at bits k ≡ 1 → bit_and bits (bit_not w64 (1 * 2 ^ k % 2 ^ 64)) < bits
cleared_less bits k l one = go (cases_eq (bit_and bits rest) bits)
  where
    rest : ℕ
    rest = bit_not w64 (1 * 2 ^ k % 2 ^ 64)

    go : (bit_and bits rest ≡ bits) ⊎ (bit_and bits rest ≡ bits → ⊥) → bit_and bits rest < bits
    go (inl e) = absurd (omega (arith, one, sym (ap (λ n. bit_at n k) e) ∙ bit_at_clear_same w64 bits k l))
    go (inr d) = omega (arith, d, and_le_l bits rest)

-- ---- the lowest one that is to look for work

-- among no processors none is
pub none_asked : (bits : ℕ) (w : WorldState) → bits ≡ 0 → HoldPending bits w → first_pending w ≡ None
none_asked bits w e h = none_pending (length w.cpus) w (λ c l. h c l (ap (λ n. bit_at n c) e ∙ bit_at-zero c))

-- nor among those that there aren't
pub past_asked : (bits : ℕ) (w : WorldState) → 0 < bits → bits < 2 ^ 64 → length w.cpus ≤ trailing_zeros w64 bits → HoldPending bits w → first_pending w ≡ None
past_asked bits w some fits past h =
    let low = bit_at-trailing_zeros w64 bits some fits in
    none_pending (length w.cpus) w (λ c l. h c l (low.2 c (omega (arith, l, past))))

-- the lowest of them, if it is
pub here_asked : (bits : ℕ) (w : WorldState) → 0 < bits → bits < 2 ^ 64 → trailing_zeros w64 bits < length w.cpus → is_pending w (trailing_zeros w64 bits) ≡ true → HoldPending bits w → first_pending w ≡ Some (trailing_zeros w64 bits)
here_asked bits w some fits l here h =
    let low = bit_at-trailing_zeros w64 bits some fits in
    one_pending (length w.cpus) (trailing_zeros w64 bits) w l here (λ c m. h c (omega (arith, l, m)) (low.2 c m))

-- the lowest bit that is set is set
pub lowest_set : (bits k : ℕ) → bits < 2 ^ 64 → lowest_bit bits ≡ Some k → (0 < bits) × ((k < 64) × ((k ≡ trailing_zeros w64 bits) × (bit_at bits k ≡ 1)))
lowest_set bits k fits e = go (cases_eq bits 0) e
  where
    go : (bits ≡ 0) ⊎ (bits ≡ 0 → ⊥) → lowest_bit bits ≡ Some k → (0 < bits) × ((k < 64) × ((k ≡ trailing_zeros w64 bits) × (bit_at bits k ≡ 1)))
    go (inl none) is = let bad : None ≡ Some k = sym (cond-true {A = Option ℕ} (bits == 0) None (Some (trailing_zeros w64 bits)) (eq-eqb bits 0 none)) ∙ is in absurd (cc)
    go (inr some) is =
        let k_is : trailing_zeros w64 bits ≡ k = same_some (trailing_zeros w64 bits) k (sym (cond-false {A = Option ℕ} (bits == 0) None (Some (trailing_zeros w64 bits)) (ne_eqb bits 0 some)) ∙ is) in
        let low = bit_at-trailing_zeros w64 bits (omega (arith, some)) fits in
        (omega (arith, some), (omega (arith, low.0, k_is), (sym k_is, ap (λ n. bit_at bits n) (sym k_is) ∙ low.1)))

-- who is found so is the first
pub found : (bits k : ℕ) (w : WorldState) → bits < 2 ^ 64 → lowest_bit bits ≡ Some k → nat_lt k (length w.cpus) ≡ true → is_pending w k ≡ true → HoldPending bits w → Some k ≡ first_pending w
found bits k w fits low l here h =
    let is = lowest_set bits k fits low in
    let same = is.1.1.0 in
    ap (λ n. Some n) same ∙ sym (here_asked bits w is.0 fits (omega (arith, ltb-true k (length w.cpus) l, same)) (ap (λ n. is_pending w n) (sym same) ∙ here) h)

-- and where it isn't, the others
pub rest_asked : (bits new k : ℕ) (w : WorldState) → bits < 2 ^ 64 → is_pending w k ≡ false → ((i : ℕ) → i < 64 → i ≢ k → bit_at new i ≡ bit_at bits i) → HoldPending bits w → HoldPending new w
rest_asked bits new k w fits not_it others h c l clear = go (cases_lt c 64) (cases_eq c k)
  where
    go : (c < 64) ⊎ (64 ≤ c) → (c ≡ k) ⊎ (c ≡ k → ⊥) → is_pending w c ≡ false
    go (inr past) e = h c l (bit_at_above bits 64 c fits past)
    go (inl low) (inl e) = ap (λ i. is_pending w i) e ∙ not_it
    go (inl low) (inr d) = h c l (sym (others c low d) ∙ clear)

-- ---- who is asked

no_task : (o : Option ℕ) → is_none o ≡ true → o ≡ None
no_task None e = refl
no_task (Some t) e = absurd (cc)

parts : (a b d : Bool) → (a && b && d) ≡ true → (b ≡ true) × (d ≡ true)
parts true true true e = (refl, refl)
parts true true false e = absurd (cc)
parts true false d e = absurd (cc)
parts false b d e = absurd (cc)

not_this : (c : ℕ) (o : Option ℕ) → not (is_this c o) ≡ true → o ≢ Some c
not_this c None e y = let bad : None ≡ Some c = y in absurd (cc)
not_this c (Some k) e y = let bad : true ≡ false = sym (eq-eqb c k (sym (same_some k c y))) ∙ (not_true (c == k) e) in absurd (cc)
  where
    not_true : (b : Bool) → not b ≡ true → b ≡ false
    not_true true e = absurd (cc)
    not_true false e = refl

idle_parts : (w : WorldState) (c : ℕ) → is_idle w c ≡ true → (running w c ≡ None) × (w.cycling ≢ Some c)
idle_parts w c e =
    let both = parts (nat_lt c (length w.cpus)) (is_none (running w c)) (not (is_this c w.cycling)) e in
    (no_task (running w c) both.0, not_this c w.cycling both.1)

no_local : (w : WorldState) (c : ℕ) → len_of w.queues (local_on c) ≡ 0 → has_local w c ≡ false
no_local w c e = rw e refl

-- who isn't known to have nobody in the local queue, and who was kicked
pub all_asked : (bits : ℕ) (w : WorldState) → AreSettled bits w.cpus w.cycling w.queues → HoldPending (bit_or bits w.kicked.0) w
all_asked bits w h c l clear = or_from (is_in_set w.kicked c) (is_idle w c && has_local w c) (ap (λ n. n == 1) kicked) (go (is_idle w c) refl)
  where
    both : max (bit_at bits c) (bit_at w.kicked.0 c) ≡ 0
    both = sym (bit_at_or bits w.kicked.0 c) ∙ clear

    kicked : bit_at w.kicked.0 c ≡ 0
    kicked = omega (arith, both)

    settled : bit_at bits c ≡ 0
    settled = omega (arith, both)

    go : (b : Bool) → is_idle w c ≡ b → (b && has_local w c) ≡ false
    go false is = refl
    go true is = let idle = idle_parts w c is in no_local w c (len_by w.queues (local_on c) (h c l settled idle.0 idle.1))

-- where nothing is known, each one
pub each_asked : (w : WorldState) → length w.cpus ≤ 64 → HoldPending (2 ^ 64 - 1) w
each_asked w few c l clear = absurd (omega (arith, clear, bit_at_ones 64 c (omega (arith, l, few))))

-- ---- who was asked

is_idle_by : (w : WorldState) (c : ℕ) → c < length w.cpus → running w c ≡ None → w.cycling ≢ Some c → is_idle w c ≡ true
is_idle_by w c l none off = rw (lt-ltb c (length w.cpus) l, none, other w.cycling off) refl
  where
    other : (o : Option ℕ) → o ≢ Some c → is_this c o ≡ false
    other None d = refl
    other (Some k) d = ne_eqb c k (λ e. d (ap (λ n. Some n) (sym e)))

empty_local : (w : WorldState) (c : ℕ) → has_local w c ≡ false → IsEmpty w.queues (local_on c)
empty_local w c e = empty_by w.queues (local_on c) (go (cases_eq (len_of w.queues (local_on c)) 0))
  where
    go : (len_of w.queues (local_on c) ≡ 0) ⊎ (len_of w.queues (local_on c) ≡ 0 → ⊥) → len_of w.queues (local_on c) ≡ 0
    go (inl is) = is
    go (inr d) = let bad : true ≡ false = sym (ap (λ b. not b) (ne_eqb (len_of w.queues (local_on c)) 0 d)) ∙ e in absurd (cc)

idle_only : (a b : Bool) → (a && b) ≡ false → a ≡ true → b ≡ false
idle_only true b e is = e
idle_only false b e is = absurd (cc)

-- a processor that is idle and isn't to look for work has nobody in its local queue
not_pending : (w : WorldState) (c : ℕ) → c < length w.cpus → is_pending w c ≡ false → running w c ≡ None → w.cycling ≢ Some c → IsEmpty w.queues (local_on c)
not_pending w c l not_it none off =
    empty_local w c (idle_only (is_idle w c) (has_local w c) (or_parts (is_in_set w.kicked c) (is_idle w c && has_local w c) not_it).1 (is_idle_by w c l none off))

-- a processor that isn't to look for work is known not to be idle with a task in its local queue
pub settled_one : (linux : Bool) (bits new k : ℕ) (w : WorldState) → length w.cpus ≤ 64 → is_pending w k ≡ false
    → ((i : ℕ) → i < 64 → i ≢ k → bit_at new i ≡ bit_at bits i)
    → (linux ≡ true → AreSettled bits w.cpus w.cycling w.queues) → linux ≡ true → AreSettled new w.cpus w.cycling w.queues
settled_one linux bits new k w few not_it others h on c l clear none off = go (cases_eq c k)
  where
    go : (c ≡ k) ⊎ (c ≡ k → ⊥) → IsEmpty w.queues (local_on c)
    go (inl e) = not_pending w c l (ap (λ i. is_pending w i) e ∙ not_it) none off
    go (inr d) = h on c l (sym (others c (omega (arith, l, few)) d) ∙ clear) none off

-- where none is to look for work all are
pub settled_all : (linux : Bool) (w : WorldState) → ((c : ℕ) → c < length w.cpus → is_pending w c ≡ false)
    → linux ≡ true → AreSettled 0 w.cpus w.cycling w.queues
settled_all linux w none_is on c l clear none off = not_pending w c l (none_is c l) none off

-- among these bits is none of a processor
pub past_each : (bits k : ℕ) (w : WorldState) → bits < 2 ^ 64 → lowest_bit bits ≡ Some k → nat_lt k (length w.cpus) ≡ false → HoldPending bits w
    → (c : ℕ) → c < length w.cpus → is_pending w c ≡ false
past_each bits k w fits low past h c l =
    let is = lowest_set bits k fits low in
    let same = is.1.1.0 in
    h c l ((bit_at-trailing_zeros w64 bits is.0 fits).2 c (omega (arith, l, same, ltb-false k (length w.cpus) past)))
