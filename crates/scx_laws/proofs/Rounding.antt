-- The rounds of an event go as the rules allow, and in no other way.
use Rattle.std.proofs.Common.{unwrap_or, ◌≡◌, ℕ, zero, suc, ◌<◌, ◌≤◌, Bool, true, false, ◌==◌, ◌&&◌, ◌||◌, ◌⊎◌, inl, inr, if◌then◌else◌, length, Option, Some, None, refl, sym, ◌∙◌, ap, subst, arith}
use Rattle.std.proofs.lemmas.Bool.{cases_eq, cases_lt, eq-eqb, ne_eqb, and_parts, and_from, or_right}
use Rattle.scx_sched_world.specs.CpuSets.{is_in_set}
use Rattle.scx_sched_world.specs.World.{WorldState, task_at, running, is_idle, this_if, or_this}
use Rattle.scx_sched_world.specs.Pending.{has_local, is_pending, pending_below, first_pending}
use Rattle.scx_sched_world.specs.Tasks.{local_len}
use Rattle.scx_sched_machine.specs.Steps.{State, Stepped, stays, one_after_other, is_by_linux}
use Rattle.scx_sched_machine.specs.Cycle.{cycle}
use Rattle.scx_sched_machine.specs.Rounds.{most_rounds, next_to_look, cut_off_if, look_past, look_from, round, round_then, rounds, with_rounds}
use Rattle.scx_laws.specs.Rounds.{IsPending, WasKicked, HasWork, IsNext, looking, Preempts, Is_cut, Is_left, LooksForWork, Wakes_up, Runs_on, Runs_out, Rounds, Enough, NoneNext, OneMore, IsFollowed, No_rounds, Has_rounds}
use Rattle.scx_laws.proofs.Differing.{none_if_never, not_so, not_zero, is_some_left}
use Rattle.scx_laws.proofs.Cycling.{cycles, only_cycles}

-- ---- who is pending

pends_is : (s : State) (c : ℕ) → is_pending s.world c ≡ true → IsPending s c
pends_is s c e = go (is_in_set s.world.kicked c) refl e
  where
    go : (b : Bool) → is_in_set s.world.kicked c ≡ b → (b || (is_idle s.world c && has_local s.world c)) ≡ true → IsPending s c
    go true x y = WasKicked x
    go false x y = let h = and_parts (is_idle s.world c) (has_local s.world c) y in HasWork h.0 (is_some_left (local_len s.world c) h.1)

pends_of : (s : State) (c : ℕ) → IsPending s c → is_pending s.world c ≡ true
pends_of s c (WasKicked e) = ap (λ b. b || (is_idle s.world c && has_local s.world c)) e
pends_of s c (HasWork i l) = or_right (is_in_set s.world.kicked c) (is_idle s.world c && has_local s.world c) (and_from (is_idle s.world c) (has_local s.world c) i (not_zero (local_len s.world c) l))

rests : (s : State) (c : ℕ) → is_pending s.world c ≡ false → ¬ IsPending s c
rests s c e h = not_so (is_pending s.world c) e (pends_of s c h)

record IsLeast (n : ℕ) (w : WorldState) (c : ℕ) : Type 0 where
  within : c < n
  pending : is_pending w c ≡ true
  below : (d : ℕ) → d < c → is_pending w d ≡ false

none_pending : (n : ℕ) (w : WorldState) → pending_below n w ≡ None → (d : ℕ) → d < n → is_pending w d ≡ false
unfolding pending_below
none_pending zero w e d l = absurd (omega (arith, l))
none_pending (suc n) w e d l = go (pending_below n w) (is_pending w n) refl refl e (λ x m. none_pending n w x d m) (cases_eq d n)
  where
    go : (o : Option ℕ) (b : Bool) → pending_below n w ≡ o → is_pending w n ≡ b → or_this o (this_if b n) ≡ None → (pending_below n w ≡ None → d < n → is_pending w d ≡ false) → (d ≡ n) ⊎ (d ≡ n → ⊥) → is_pending w d ≡ false
    go (Some c) b x y z f h = absurd (cc)
    go None true x y z f h = absurd (cc)
    go None false x y z f (inl k) = ap (λ m. is_pending w m) k ∙ y
    go None false x y z f (inr k) = f x (omega (arith, l, k))

is_least : (n : ℕ) (w : WorldState) (c : ℕ) → pending_below n w ≡ Some c → IsLeast n w c
unfolding pending_below
is_least zero w c e = absurd (cc)
is_least (suc n) w c e = go (pending_below n w) (is_pending w n) refl refl e (λ x. is_least n w c x)
  where
    go : (o : Option ℕ) (b : Bool) → pending_below n w ≡ o → is_pending w n ≡ b → or_this o (this_if b n) ≡ Some c → (pending_below n w ≡ Some c → IsLeast n w c) → IsLeast (suc n) w c
    go (Some d) b x y z f = let h = f (x ∙ z) in record { within = omega (arith, h.within); pending = h.pending; below = h.below }
    go None true x y z f =
        let is : n ≡ c = ap (λ o. unwrap_or o n) z in
        record { within = omega (arith, is); pending = ap (λ m. is_pending w m) (sym is) ∙ y; below = λ d l. none_pending n w x d (omega (arith, l, is)) }
    go None false x y z f = absurd (cc)

-- ---- who looks next

abbrev next_as : State → Bool → Option ℕ → Option ℕ
next_as s b o = if b then o else None

next_is : (s : State) (c : ℕ) → next_to_look s ≡ Some c → IsNext s c
unfolding next_to_look
next_is s c e = go (is_by_linux s) refl e
  where
    go : (b : Bool) → is_by_linux s ≡ b → next_as s b (first_pending s.world) ≡ Some c → IsNext s c
    go true x y = let h = is_least (length s.world.cpus) s.world c y in record { by_linux = x; within = h.within; pending = pends_is s c h.pending; lowest = λ d l. rests s d (h.below d l) }
    go false x y = absurd (cc)

next_none : (s : State) → next_to_look s ≡ None → (c : ℕ) → ¬ IsNext s c
unfolding next_to_look
next_none s e c h = rests s c (none_pending (length s.world.cpus) s.world (sym (ap (λ b. next_as s b (first_pending s.world)) h.by_linux) ∙ e) c h.within) h.pending

only_next : (s : State) (c : ℕ) → IsNext s c → next_to_look s ≡ Some c
only_next s c h = go (next_to_look s) refl
  where
    one : (d : ℕ) → IsNext s d → (c < d) ⊎ (d ≤ c) → (d < c) ⊎ (c ≤ d) → d ≡ c
    one d k (inl l) m = absurd (k.lowest c l h.pending)
    one d k (inr l) (inl m) = absurd (h.lowest d m k.pending)
    one d k (inr l) (inr m) = omega (arith, l, m)

    go : (o : Option ℕ) → next_to_look s ≡ o → next_to_look s ≡ Some c
    go None e = absurd (next_none s e c h)
    go (Some d) e = e ∙ ap (λ x. Some x) (one d (next_is s d e) (cases_lt c d) (cases_lt d c))

no_next : (s : State) → ((c : ℕ) → ¬ IsNext s c) → next_to_look s ≡ None
no_next s n = none_if_never (next_to_look s) (λ c e. n c (next_is s c e))

-- ---- one round

abbrev cut_as : State → ℕ → ℕ → Bool → State
cut_as s c t b = cut_off_if b (looking s c) t

preempts : (s : State) (c t : ℕ) (b : Bool) → is_in_set s.world.preempted c ≡ b → Preempts s c t (cut_as s c t b)
preempts s c t true e = Is_cut e refl
preempts s c t false e = Is_left e refl

only_preempts : (s : State) (c t : ℕ) (v : State) → Preempts s c t v → v ≡ cut_as s c t (is_in_set s.world.preempted c)
only_preempts s c t v (Is_cut e k) = k ∙ ap (λ b. cut_as s c t b) (sym e)
only_preempts s c t v (Is_left e k) = k ∙ ap (λ b. cut_as s c t b) (sym e)

abbrev past_as : State → ℕ → ℕ → Bool → Stepped
past_as v c t b = if b then cycle v c (Some t) true else stays v

past_is : (v : State) (c t : ℕ) (b : Bool) → ((task_at v.world t).slice == 0) ≡ b → past_as v c t b ≡ look_past v c t
unfolding look_past
past_is v c t b e = ap (λ x. past_as v c t x) (sym e)

looks_for_work : (s : State) (c : ℕ) → LooksForWork s c (round s c)
unfolding round
looks_for_work s c = go (running s.world c) refl
  where
    at : (t : ℕ) (v : State) → running s.world c ≡ Some t → Preempts s c t v → ((task_at v.world t).slice ≡ 0) ⊎ ((task_at v.world t).slice ≡ 0 → ⊥) → LooksForWork s c (look_past v c t)
    at t v e h (inl z) = subst (λ r. LooksForWork s c r) (past_is v c t true (eq-eqb (task_at v.world t).slice 0 z)) (Runs_out t v e h z (cycles v c (Some t) true))
    at t v e h (inr d) = subst (λ r. LooksForWork s c r) (past_is v c t false (ne_eqb (task_at v.world t).slice 0 d)) (Runs_on t v e h (omega (arith, d)) refl)

    go : (o : Option ℕ) → running s.world c ≡ o → LooksForWork s c (look_from o (is_in_set s.world.preempted c) (looking s c) c)
    go None e = Wakes_up e (cycles (looking s c) c None false)
    go (Some t) e = let v = cut_as s c t (is_in_set s.world.preempted c) in at t v e (preempts s c t (is_in_set s.world.preempted c) refl) (cases_eq (task_at v.world t).slice 0)

round_at : (s : State) (c : ℕ) (o : Option ℕ) → running s.world c ≡ o → look_from o (is_in_set s.world.preempted c) (looking s c) c ≡ round s c
unfolding round
round_at s c o e = ap (λ x. look_from x (is_in_set s.world.preempted c) (looking s c) c) (sym e)

only_looks_for_work : (s : State) (c : ℕ) (r : Stepped) → LooksForWork s c r → r ≡ round s c
only_looks_for_work s c r (Wakes_up e h) = only_cycles (looking s c) c None false r h ∙ round_at s c None e
only_looks_for_work s c r (Runs_on t v e h l k) =
    k ∙ past_is v c t false (ne_eqb (task_at v.world t).slice 0 (λ z. omega (arith, z, l))) ∙ ap (λ x. look_past x c t) (only_preempts s c t v h) ∙ round_at s c (Some t) e
only_looks_for_work s c r (Runs_out t v e h z y) =
    only_cycles v c (Some t) true r y ∙ past_is v c t true (eq-eqb (task_at v.world t).slice 0 z) ∙ ap (λ x. look_past x c t) (only_preempts s c t v h) ∙ round_at s c (Some t) e

-- ---- all rounds

abbrev rounds_as : ℕ → State → Option ℕ → Stepped
rounds_as n s o = round_then (λ r. rounds n r) s o

goes_round : (n : ℕ) (s : State) → Rounds n s (rounds n s)
unfolding rounds
goes_round zero s = Enough s _ refl
goes_round (suc n) s = go (next_to_look s) refl (λ c. goes_round n (round s c).state)
  where
    go : (o : Option ℕ) → next_to_look s ≡ o → ((c : ℕ) → Rounds n (round s c).state (rounds n (round s c).state)) → Rounds (suc n) s (rounds_as n s o)
    go None e more = NoneNext n s _ (next_none s e) refl
    go (Some c) e more = OneMore n s c (round s c) _ _ (next_is s c e) (looks_for_work s c) (more c) refl

only_goes_round : (n : ℕ) (s : State) (r : Stepped) → Rounds n s r → r ≡ rounds n s
unfolding rounds
only_goes_round zero s r (Enough _ _ k) = k
only_goes_round (suc n) s r (NoneNext _ _ _ none k) = k ∙ ap (λ o. rounds_as n s o) (sym (no_next s none))
only_goes_round (suc n) s r (OneMore _ _ c looked more _ next h y k) =
    k ∙ ap (λ x. one_after_other looked x) (only_goes_round n looked.state more y) ∙ ap (λ (x : Stepped). one_after_other x (rounds n x.state)) (only_looks_for_work s c looked h)
    ∙ ap (λ o. rounds_as n s o) (sym (only_next s c next))

abbrev followed_as : Stepped → Bool → Stepped
followed_as r b = if b then one_after_other r (rounds most_rounds r.state) else r

-- the rounds of an event go as they are computed
pub is_followed : (own : Stepped) → IsFollowed own (with_rounds own)
unfolding with_rounds
is_followed own = go (is_by_linux own.state) refl
  where
    go : (b : Bool) → is_by_linux own.state ≡ b → IsFollowed own (followed_as own b)
    go false e = No_rounds e refl
    go true e = Has_rounds (rounds most_rounds own.state) e (goes_round 256 own.state) refl

-- and in no other way
pub only_followed : (own : Stepped) (r : Stepped) → IsFollowed own r → r ≡ with_rounds own
unfolding with_rounds
only_followed own r (No_rounds e k) = k ∙ ap (λ b. followed_as own b) (sym e)
only_followed own r (Has_rounds x e h k) = k ∙ ap (λ y. one_after_other own y) (only_goes_round 256 own.state x h) ∙ ap (λ b. followed_as own b) (sym e)
