-- A task comes into a queue as the rules allow, and in no other way; keys compare by sign, and claims end.
use Rattle.std.proofs.Common.{◌≡◌, ◌≢◌, ℕ, ℤ, pos, negsuc, suc, ◌+◌, ◌-◌, ◌%◌, ◌^◌, ◌<◌, ◌≤◌, Bool, true, false, ◌==◌, ◌&&◌, nat_lt, nat_le, int_lt, ◌⊎◌, inl, inr, if◌then◌else◌, length, Option, Some, None, refl, sym, ◌∙◌, ap, subst, arith}
use Rattle.scx_sched.proofs.Events.{is_task}
use Rattle.std.proofs.lemmas.Option.{same_Some}
use Rattle.std.specs.Int.{w64, cast_signed}
use Rattle.std.proofs.Math.Facts.{to_z-neg}
use Rattle.std.proofs.lemmas.Int.{to_z_pos}
use Rattle.std.proofs.lemmas.Nat.Bits.{bit_at_clear_same, bit_at_clear_other}
use Rattle.std.proofs.lemmas.Bool.{cases_eq, cases_lt, eq-eqb, ne_eqb, and_from, and_right, and_left, false_from_ne_true}
use Rattle.std.proofs.lemmas.Bool.Decides.{nat_tests}
use Rattle.scx_dsq.specs.Calls.{after_push}
use Rattle.scx_dsq.specs.declared.entries.Rank.{Rank}
use Rattle.scx_dsq.specs.declared.entries.Rank.TheVariants.{Fifo, Front, Vtime}
use Rattle.scx_sched_tasks.specs.declared.task.Task.{Task}
use Rattle.scx_sched_world.specs.declared.call.Insert.{Insert}
use Rattle.scx_sched_world.specs.CpuSets.{is_in_set, but_cpu}
use Rattle.scx_sched_world.specs.Ids.{local_on}
use Rattle.scx_sched_world.specs.World.{WorldState, with_switch, cycling_by_linux, with_cycling, is_claimed, with_queues, with_kick, is_by_linux, task_at, with_task, running, is_this}
use Rattle.scx_sched_world.specs.Tasks.{with_slice, local_cpu, homed_at, given_slice, given_vtime, rank_by, after_preempt_of, after_preempt_at, after_preempt}
use Rattle.scx_laws.specs.Entries.{GetsSlice, IsGiven, HasSome, HasNone, GetsOne, GetsVtime, AsLast, AsFirst, AtTime, HasPlace, IsLast, IsFirst, ByTime, BySign, IsNotLocal, HomesThere, InLocal, InOther, PreemptsThere, HasNoFlag, IntoOther, OfNobody, InItsCycle, TakesSlice, EntersQueue}
use Rattle.scx_laws.specs.Allowing.{RulesAllowEntries, RulesAllowEntriesOnly, KeysCompareBySign, CyclesEndClaims}
use Rattle.scx_laws.proofs.Readers.{this_of}
use Rattle.scx_laws.proofs.Differing.{none_if_never, not_so, homes, only_homes, below, past}

-- ---- slices

abbrev sliced_as : Task → Insert → Bool → Bool → Bool → Task
sliced_as x i a b c = if a then (if b && c then with_slice x 1 else x) else with_slice x i.slice

gets_slice : (x : Task) (i : Insert) → GetsSlice x i (given_slice x i)
gets_slice x i = go (cases_eq i.slice 0) i.refills refl (cases_eq x.slice 0)
  where
    go : (i.slice ≡ 0) ⊎ (i.slice ≡ 0 → ⊥) → (b : Bool) → i.refills ≡ b → (x.slice ≡ 0) ⊎ (x.slice ≡ 0 → ⊥) → GetsSlice x i (sliced_as x i (i.slice == 0) b (x.slice == 0))
    go (inr d) b e any = rw (ne_eqb i.slice 0 d) (IsGiven (omega (arith, d)) refl)
    go (inl z) false e any = rw (eq-eqb i.slice 0 z) (HasNone z e refl)
    go (inl z) true e (inl y) = rw (eq-eqb i.slice 0 z, eq-eqb x.slice 0 y) (GetsOne z e y refl)
    go (inl z) true e (inr d) = rw (eq-eqb i.slice 0 z, ne_eqb x.slice 0 d) (HasSome z (omega (arith, d)) refl)

sliced_is : (x : Task) (i : Insert) (a b c : Bool) → (i.slice == 0) ≡ a → i.refills ≡ b → (x.slice == 0) ≡ c → sliced_as x i a b c ≡ given_slice x i
sliced_is x i a b c p q r = ap (λ k. sliced_as x i a b k) (sym r) ∙ ap (λ k. sliced_as x i a k (x.slice == 0)) (sym q) ∙ ap (λ k. sliced_as x i k i.refills (x.slice == 0)) (sym p)

stays_sliced : (x : Task) (i : Insert) (b c : Bool) → (b && c) ≡ false → x ≡ sliced_as x i true b c
stays_sliced x i b c e = ap (λ k. if k then with_slice x 1 else x) (sym e)

only_gets_slice : (x : Task) (i : Insert) (y : Task) → GetsSlice x i y → y ≡ given_slice x i
only_gets_slice x i y (IsGiven l k) = k ∙ sliced_is x i false i.refills (x.slice == 0) (ne_eqb i.slice 0 (λ z. omega (arith, z, l))) refl refl
only_gets_slice x i y (HasSome z l k) =
    k ∙ stays_sliced x i i.refills false (and_right i.refills false refl) ∙ sliced_is x i true i.refills false (eq-eqb i.slice 0 z) refl (ne_eqb x.slice 0 (λ e. omega (arith, e, l)))
only_gets_slice x i y (HasNone z e k) = k ∙ stays_sliced x i false (x.slice == 0) refl ∙ sliced_is x i true false (x.slice == 0) (eq-eqb i.slice 0 z) e refl
only_gets_slice x i y (GetsOne z e s k) = k ∙ sliced_is x i true true true (eq-eqb i.slice 0 z) e (eq-eqb x.slice 0 s)

-- ---- virtual times and places

gets_vtime : (x : Task) (r : Rank) → GetsVtime x r (given_vtime x r)
gets_vtime x Fifo = AsLast refl refl
gets_vtime x Front = AsFirst refl refl
gets_vtime x (Vtime n) = AtTime n refl refl

only_gets_vtime : (x : Task) (r : Rank) (y : Task) → GetsVtime x r y → y ≡ given_vtime x r
only_gets_vtime x r y (AsLast e k) = k ∙ ap (λ o. given_vtime x o) (sym e)
only_gets_vtime x r y (AsFirst e k) = k ∙ ap (λ o. given_vtime x o) (sym e)
only_gets_vtime x r y (AtTime n e k) = k ∙ ap (λ o. given_vtime x o) (sym e)

abbrev key_as : ℕ → Bool → ℕ
key_as n b = if b then (n + 2 ^ 63) % 2 ^ 64 else n

has_place : (w : WorldState) (r : Rank) → HasPlace w r (rank_by w r)
has_place w Fifo = IsLast refl refl
has_place w Front = IsFirst refl refl
has_place w (Vtime n) = go (is_by_linux w) refl
  where
    go : (b : Bool) → is_by_linux w ≡ b → HasPlace w (Vtime n) (Vtime (key_as n b))
    go true e = BySign n e refl refl
    go false e = ByTime n e refl refl

only_has_place : (w : WorldState) (r place : Rank) → HasPlace w r place → place ≡ rank_by w r
only_has_place w r place (IsLast e k) = k ∙ ap (λ o. rank_by w o) (sym e)
only_has_place w r place (IsFirst e k) = k ∙ ap (λ o. rank_by w o) (sym e)
only_has_place w r place (ByTime n e f k) = k ∙ ap (λ b. Vtime (key_as n b)) (sym e) ∙ ap (λ o. rank_by w o) (sym f)
only_has_place w r place (BySign n e f k) = k ∙ ap (λ b. Vtime (key_as n b)) (sym e) ∙ ap (λ o. rank_by w o) (sym f)

-- ---- local queues

record IsLocal (w : WorldState) (q c : ℕ) : Type 0 where
  within : c < length w.cpus
  queue : q ≡ local_on c

abbrev cpu_as : ℕ → Bool → Option ℕ
cpu_as q b = if b then Some (q - local_on 0) else None

local_is : (w : WorldState) (q c : ℕ) → local_cpu w q ≡ Some c → IsLocal w q c
local_is w q c e = go (nat_le (local_on 0) q) (nat_lt q (local_on (length w.cpus))) refl refl e
  where
    go : (a b : Bool) → nat_le (local_on 0) q ≡ a → nat_lt q (local_on (length w.cpus)) ≡ b → cpu_as q (a && b) ≡ Some c → IsLocal w q c
    go true true x y z =
        let is : q - local_on 0 ≡ c = same_Some (q - local_on 0) c z in
        let low : local_on 0 ≤ q = grind (arith, nat_tests, x) in
        let high : q < local_on (length w.cpus) = grind (arith, nat_tests, y) in
        record { within = omega (arith, is, low, high); queue = omega (arith, is, low) }
    go true false x y z = absurd (cc)
    go false b x y z = absurd (cc)

local_of : (w : WorldState) (q c : ℕ) → c < length w.cpus → q ≡ local_on c → local_cpu w q ≡ Some c
local_of w q c l e =
    let low : nat_le (local_on 0) q ≡ true = grind (arith, nat_tests, e) in
    let high : nat_lt q (local_on (length w.cpus)) ≡ true = grind (arith, nat_tests, e, l) in
    let is : q - local_on 0 ≡ c = omega (arith, e) in
    ap (λ b. cpu_as q b) (and_from (nat_le (local_on 0) q) (nat_lt q (local_on (length w.cpus))) low high) ∙ ap (λ x. Some x) is

local_none : (w : WorldState) (q : ℕ) → local_cpu w q ≡ None → IsNotLocal w q
local_none w q e c l k = let bad : None ≡ Some c = sym e ∙ local_of w q c l k in absurd (cc)

local_no : (w : WorldState) (q : ℕ) → IsNotLocal w q → local_cpu w q ≡ None
local_no w q n = none_if_never (local_cpu w q) (λ c e. let h = local_is w q c e in n c h.within h.queue)

homes_there : (w : WorldState) (t q : ℕ) → HomesThere w t q (homed_at w t (local_cpu w q))
homes_there w t q = go (local_cpu w q) refl
  where
    go : (o : Option ℕ) → local_cpu w q ≡ o → HomesThere w t q (homed_at w t o)
    go None e = InOther (local_none w q e) refl
    go (Some c) e = let h = local_is w q c e in InLocal c h.within h.queue (homes w t c)

only_homes_there : (w : WorldState) (t q : ℕ) (v : WorldState) → HomesThere w t q v → v ≡ homed_at w t (local_cpu w q)
only_homes_there w t q v (InLocal c l e h) = only_homes w t c v h ∙ ap (λ o. homed_at w t o) (sym (local_of w q c l e))
only_homes_there w t q v (InOther n k) = k ∙ ap (λ o. homed_at w t o) (sym (local_no w q n))

-- ---- PREEMPT

abbrev taken_as : WorldState → ℕ → ℕ → Bool → WorldState
taken_as w c t b = if b then w else with_kick (with_task w t (with_slice (task_at w t) 0)) c

abbrev preempted_as : WorldState → Insert → Bool → WorldState
preempted_as w i b = if b then after_preempt_at w (local_cpu w i.queue) else w

preempts_there : (w : WorldState) (i : Insert) → PreemptsThere w i (after_preempt w i)
preempts_there w i = go i.preempts refl
  where
    taken : i.preempts ≡ true → (c : ℕ) → c < length w.cpus → i.queue ≡ local_on c → (t : ℕ) → running w c ≡ Some t → (b : Bool) → is_this c w.cycling ≡ b → PreemptsThere w i (taken_as w c t b)
    taken e c l q t r true x = InItsCycle c l q (is_task c w.cycling x) refl
    taken e c l q t r false x = TakesSlice c t e l q r (λ y. not_so (is_this c w.cycling) x (this_of c w.cycling y)) refl

    of : i.preempts ≡ true → (c : ℕ) → c < length w.cpus → i.queue ≡ local_on c → (o : Option ℕ) → running w c ≡ o → PreemptsThere w i (after_preempt_of w c o)
    of e c l q None r = OfNobody c l q r refl
    of e c l q (Some t) r = taken e c l q t r (is_this c w.cycling) refl

    at : i.preempts ≡ true → (o : Option ℕ) → local_cpu w i.queue ≡ o → PreemptsThere w i (after_preempt_at w o)
    at e None x = IntoOther (local_none w i.queue x) refl
    at e (Some c) x = let h = local_is w i.queue c x in of e c h.within h.queue (running w c) refl

    go : (b : Bool) → i.preempts ≡ b → PreemptsThere w i (preempted_as w i b)
    go false e = HasNoFlag e refl
    go true e = at e (local_cpu w i.queue) refl

-- an insert that changes nothing more
no_preempt : (w : WorldState) (i : Insert) (b : Bool) → after_preempt_at w (local_cpu w i.queue) ≡ w → w ≡ preempted_as w i b
no_preempt w i true e = sym e
no_preempt w i false e = refl

preempt_at : (w : WorldState) (i : Insert) (c : ℕ) (o : Option ℕ) → c < length w.cpus → i.queue ≡ local_on c → running w c ≡ o → after_preempt_at w (local_cpu w i.queue) ≡ after_preempt_of w c o
preempt_at w i c o l q r = ap (λ x. after_preempt_at w x) (local_of w i.queue c l q) ∙ ap (λ x. after_preempt_of w c x) r

in_cycle : (w : WorldState) (c : ℕ) (o : Option ℕ) → w.cycling ≡ Some c → after_preempt_of w c o ≡ w
in_cycle w c None e = refl
in_cycle w c (Some t) e = ap (λ b. taken_as w c t b) (this_of c w.cycling e)

only_preempts_there : (w : WorldState) (i : Insert) (v : WorldState) → PreemptsThere w i v → v ≡ after_preempt w i
only_preempts_there w i v (HasNoFlag e k) = k ∙ ap (λ b. preempted_as w i b) (sym e)
only_preempts_there w i v (IntoOther n k) = k ∙ no_preempt w i i.preempts (ap (λ o. after_preempt_at w o) (local_no w i.queue n))
only_preempts_there w i v (OfNobody c l q r k) = k ∙ no_preempt w i i.preempts (preempt_at w i c None l q r)
only_preempts_there w i v (InItsCycle c l q e k) = k ∙ no_preempt w i i.preempts (preempt_at w i c (running w c) l q refl ∙ in_cycle w c (running w c) e)
only_preempts_there w i v (TakesSlice c t e l q r n k) =
    k ∙ ap (λ b. taken_as w c t b) (sym (false_from_ne_true (is_this c w.cycling) (λ x. n (is_task c w.cycling x)))) ∙ sym (preempt_at w i c (Some t) l q r) ∙ ap (λ b. preempted_as w i b) (sym e)

-- ---- all of it

abbrev pushed : WorldState → ℕ → Insert → Task → Rank → WorldState
pushed w t i x r = with_queues (with_task w t x) (after_push w.queues i.queue t r)

abbrev entered : WorldState → ℕ → Insert → Task → Rank → WorldState
entered w t i x r = after_preempt (homed_at (pushed w t i x r) t (local_cpu w i.queue)) i

abbrev entered_as : WorldState → ℕ → Insert → Bool → WorldState
entered_as w t i b = if b then entered w t i (given_vtime (given_slice (task_at w t) i) i.rank) (rank_by w i.rank) else w

known : (w : WorldState) (t : ℕ) → t < length w.tasks → nat_lt t (length w.tasks) ≡ true
known w t l = grind (arith, nat_tests, l)

-- a task comes into a queue as it is computed
pub enters_queue : RulesAllowEntries
enters_queue w t i l = subst (λ v. EntersQueue w t i v) (ap (λ b. entered_as w t i b) (sym (known w t l))) (record {
  sliced = given_slice (task_at w t) i;
  gets_slice = gets_slice (task_at w t) i;
  timed = x;
  gets_vtime = gets_vtime (given_slice (task_at w t) i) i.rank;
  place = rank_by w i.rank;
  has_place = has_place w i.rank;
  home = homed_at v t (local_cpu v i.queue);
  homes = homes_there v t i.queue;
  preempts = preempts_there (homed_at v t (local_cpu v i.queue)) i;
})
  where
    x : Task
    x = given_vtime (given_slice (task_at w t) i) i.rank

    v : WorldState
    v = pushed w t i x (rank_by w i.rank)

-- and in no other way
pub only_enters_queue : RulesAllowEntriesOnly
only_enters_queue w t i v l h =
    only_preempts_there h.home i v h.preempts
    ∙ ap (λ u. after_preempt u i) (only_homes_there (pushed w t i h.timed h.place) t i.queue h.home h.homes)
    ∙ ap (λ r. entered w t i h.timed r) (only_has_place w i.rank h.place h.has_place)
    ∙ ap (λ x. entered w t i x (rank_by w i.rank)) (only_gets_vtime h.sliced i.rank h.timed h.gets_vtime ∙ ap (λ x. given_vtime x i.rank) (only_gets_slice (task_at w t) i h.sliced h.gets_slice))
    ∙ ap (λ b. entered_as w t i b) (sym (known w t l))

-- ---- keys by sign

-- a number of 64 bits by its sign
data BySignOf (n : ℕ) : Type 0 where
  Above : n < 2 ^ 63 → cast_signed w64 n ≡ pos n → (n + 2 ^ 63) % 2 ^ 64 ≡ n + 2 ^ 63 → BySignOf n
  Below : 2 ^ 63 ≤ n → cast_signed w64 n ≡ negsuc (2 ^ 64 - 1 - n) → (n + 2 ^ 63) % 2 ^ 64 ≡ n - 2 ^ 63 → BySignOf n

by_sign_of : (n : ℕ) → n < 2 ^ 64 → BySignOf n
by_sign_of n l = go (cases_lt n (2 ^ 63))
  where
    go : (n < 2 ^ 63) ⊎ (2 ^ 63 ≤ n) → BySignOf n
    go (inl x) = Above x (to_z_pos w64 n x) (omega (arith, x))
    go (inr x) =
        let k : 2 ^ 64 - 1 - n < 2 ^ 63 = omega (arith, x, l) in
        let is : 2 ^ 64 - suc (2 ^ 64 - 1 - n) ≡ n = omega (arith, x, l) in
        Below x (ap (λ m. cast_signed w64 m) (sym is) ∙ to_z-neg w64 (2 ^ 64 - 1 - n) k) (omega (arith, x, l))

compare : (m n a b : ℕ) (x y : ℤ) → cast_signed w64 m ≡ x → cast_signed w64 n ≡ y → (m + 2 ^ 63) % 2 ^ 64 ≡ a → (n + 2 ^ 63) % 2 ^ 64 ≡ b → nat_lt a b ≡ int_lt x y
    → nat_lt ((m + 2 ^ 63) % 2 ^ 64) ((n + 2 ^ 63) % 2 ^ 64) ≡ int_lt (cast_signed w64 m) (cast_signed w64 n)
compare m n a b x y p q r s e = ap (λ k. nat_lt k ((n + 2 ^ 63) % 2 ^ 64)) r ∙ ap (λ k. nat_lt a k) s ∙ e ∙ ap (λ k. int_lt k y) (sym p) ∙ ap (λ k. int_lt (cast_signed w64 m) k) (sym q)

-- two comparisons that say the same
same_lt : (a b c d : ℕ) → (a < b → c < d) → (c < d → a < b) → nat_lt a b ≡ nat_lt c d
same_lt a b c d f g = go (cases_lt a b) (cases_lt c d)
  where
    go : (a < b) ⊎ (b ≤ a) → (c < d) ⊎ (d ≤ c) → nat_lt a b ≡ nat_lt c d
    go (inl x) (inl y) = below a b x ∙ sym (below c d y)
    go (inr x) (inr y) = past a b x ∙ sym (past c d y)
    go (inl x) (inr y) = absurd (omega (arith, f x, y))
    go (inr x) (inl y) = absurd (omega (arith, g y, x))

signs_compare : (m n : ℕ) → m < 2 ^ 64 → n < 2 ^ 64 → BySignOf m → BySignOf n → nat_lt ((m + 2 ^ 63) % 2 ^ 64) ((n + 2 ^ 63) % 2 ^ 64) ≡ int_lt (cast_signed w64 m) (cast_signed w64 n)
signs_compare m n u v (Above a b c) (Above d e f) = compare m n (m + 2 ^ 63) (n + 2 ^ 63) (pos m) (pos n) b e c f (same_lt (m + 2 ^ 63) (n + 2 ^ 63) m n (λ l. omega (arith, l)) (λ l. omega (arith, l)))
signs_compare m n u v (Above a b c) (Below d e f) =
    compare m n (m + 2 ^ 63) (n - 2 ^ 63) (pos m) (negsuc (2 ^ 64 - 1 - n)) b e c f (past (m + 2 ^ 63) (n - 2 ^ 63) (omega (arith, v, d)))
signs_compare m n u v (Below a b c) (Above d e f) =
    compare m n (m - 2 ^ 63) (n + 2 ^ 63) (negsuc (2 ^ 64 - 1 - m)) (pos n) b e c f (below (m - 2 ^ 63) (n + 2 ^ 63) (omega (arith, u, a)))
signs_compare m n u v (Below a b c) (Below d e f) =
    compare m n (m - 2 ^ 63) (n - 2 ^ 63) (negsuc (2 ^ 64 - 1 - m)) (negsuc (2 ^ 64 - 1 - n)) b e c f
    (same_lt (m - 2 ^ 63) (n - 2 ^ 63) (2 ^ 64 - 1 - n) (2 ^ 64 - 1 - m) (λ l. omega (arith, l, a, d, u, v)) (λ l. omega (arith, l, a, d, u, v)))

pub keys_compare : KeysCompareBySign
keys_compare w m n lin u v = ap (λ b. nat_lt (key_as m b) (key_as n b)) lin ∙ signs_compare m n u v (by_sign_of m u) (by_sign_of n v)

-- ---- claims

linux_if : (b : Bool) (u v : WorldState) (x : Bool) → is_by_linux u ≡ x → is_by_linux v ≡ x → is_by_linux (if b then u else v) ≡ x
linux_if true u v x e f = e
linux_if false u v x e f = f

switching_linux : (w : WorldState) (c : ℕ) → is_by_linux (with_switch w c) ≡ is_by_linux w
switching_linux w c = linux_if (is_by_linux w) _ w (is_by_linux w) refl refl

cycling_linux : (w : WorldState) (c : ℕ) → is_by_linux (with_cycling w (Some c)) ≡ is_by_linux w
cycling_linux w c = linux_if (is_by_linux w) (cycling_by_linux w (Some c)) (record w { cycling = Some c }) (is_by_linux w) (switching_linux w c) refl

cycling_claimed : (w : WorldState) (c : ℕ) → is_by_linux w ≡ true → (with_cycling w (Some c)).claimed ≡ but_cpu w.claimed c
cycling_claimed w c e = ap (λ b. (if b then cycling_by_linux w (Some c) else record w { cycling = Some c }).claimed) e

pub claims_end : CyclesEndClaims
claims_end w c l = (go (is_by_linux w) refl, λ d m n. other d m n (is_by_linux w) refl)
  where
    v : WorldState
    v = with_cycling w (Some c)

    go : (b : Bool) → is_by_linux w ≡ b → is_claimed v c ≡ false
    go false e = and_left (is_by_linux v) (is_in_set v.claimed c) (cycling_linux w c ∙ e)
    go true e = and_right (is_by_linux v) (is_in_set v.claimed c) (ap (λ s. is_in_set s c) (cycling_claimed w c e) ∙ ap (λ b. b == 1) (bit_at_clear_same w64 w.claimed.0 c l))

    other : (d : ℕ) → d < 64 → d ≢ c → (b : Bool) → is_by_linux w ≡ b → is_claimed v d ≡ is_claimed w d
    other d m n false e = and_left (is_by_linux v) (is_in_set v.claimed d) (cycling_linux w c ∙ e) ∙ sym (and_left (is_by_linux w) (is_in_set w.claimed d) e)
    other d m n true e =
        ap (λ b. b && is_in_set v.claimed d) (cycling_linux w c)
        ∙ ap (λ b. is_by_linux w && b) (ap (λ s. is_in_set s d) (cycling_claimed w c e) ∙ ap (λ b. b == 1) (bit_at_clear_other w64 w.claimed.0 c l d m n))
