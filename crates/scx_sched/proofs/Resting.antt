-- By Linux rules no processor is to look for work, once the rounds of an event are over.
use Rattle.std.proofs.Common.{◌≡◌, ℕ, zero, suc, ◌<◌, ◌==◌, ◌⊎◌, inl, inr, Bool, true, false, ◌&&◌, ◌||◌, if◌then◌else◌, length, Option, Some, None, refl, sym, ap, ◌∙◌, subst, arith}
use Rattle.std.proofs.lemmas.Bool.{cases_eq}
use Rattle.scx_sched_world.specs.CpuSets.{is_in_set}
use Rattle.scx_sched_world.specs.World.{WorldState, is_idle, this_if, or_this}
use Rattle.scx_sched_world.specs.Pending.{has_local, is_pending, pending_below, first_pending}
use Rattle.scx_sched_world.specs.Tasks.{local_len}
use Rattle.scx_sched_machine.specs.Steps.{State, one_after_other, is_by_linux}
use Rattle.scx_sched_machine.specs.Rounds.{most_rounds, next_to_look, round, round_then, rounds, with_rounds}
use Rattle.scx_sched.specs.Left.{made_then, rounds_made, NobodyLooks, RoundsLeaveNothing}
use Rattle.scx_sched.proofs.Cycles.{no_local}
use Rattle.scx_sched.proofs.Events.{idle_there}

-- where fewer rounds are made than may be, nobody is to look any more
rounds_end : (j : ℕ) (s : State) → rounds_made j s < j → next_to_look (rounds j s).state ≡ None
unfolding rounds rounds_made
rounds_end zero s l = absurd (omega (arith, l))
rounds_end (suc j) s l = go (next_to_look s) refl (λ c m. rounds_end j (round s c).state m) l
  where
    go : (o : Option ℕ) → next_to_look s ≡ o
        → ((c : ℕ) → rounds_made j (round s c).state < j → next_to_look (rounds j (round s c).state).state ≡ None)
        → made_then (λ r. rounds_made j r) s o < suc j → next_to_look (round_then (λ r. rounds j r) s o).state ≡ None
    go None e more m = e
    go (Some c) e more m = more c (omega (arith, m))

-- where none of the first so many is to look, each isn't
none_is : (n c : ℕ) (w : WorldState) → pending_below n w ≡ None → c < n → is_pending w c ≡ false
unfolding pending_below
none_is zero c w e l = absurd (omega (arith, l))
none_is (suc n) c w e l = go (pending_below n w) refl (is_pending w n) refl e (λ x m. none_is n c w x m)
  where
    go : (o : Option ℕ) → pending_below n w ≡ o → (b : Bool) → is_pending w n ≡ b → or_this o (this_if b n) ≡ None → (pending_below n w ≡ None → c < n → is_pending w c ≡ false) → is_pending w c ≡ false
    go (Some d) x b y z more = absurd (cc)
    go None x true y z more = absurd (cc)
    go None x false y z more = at (cases_eq c n)
      where
        at : (c ≡ n) ⊎ (c ≡ n → ⊥) → is_pending w c ≡ false
        at (inl is) = ap (λ d. is_pending w d) is ∙ y
        at (inr d) = more x (omega (arith, l, d))

nobody_looks : (s : State) → is_by_linux s ≡ true → next_to_look s ≡ None → NobodyLooks s.world
unfolding next_to_look
nobody_looks s linux e = record {
  kicked = λ c l. first (is_in_set s.world.kicked c) _ (none_is (length s.world.cpus) c s.world none l);
  local = λ c idle. no_local (local_len s.world c) (local_len s.world c == 0) refl (last (is_in_set s.world.kicked c) (is_idle s.world c) (has_local s.world c) idle (none_is (length s.world.cpus) c s.world none (idle_there s.world c idle)));
}
  where
    none : first_pending s.world ≡ None
    none = subst (λ b. (if b then first_pending s.world else None) ≡ None) linux e

    first : (a b : Bool) → (a || b) ≡ false → a ≡ false
    first true b x = absurd (cc)
    first false b x = refl

    last : (a b d : Bool) → b ≡ true → (a || (b && d)) ≡ false → d ≡ false
    last true b d x y = absurd (cc)
    last false true d x y = y
    last false false d x y = absurd (cc)

-- the law
pub rounds_leave_nothing : RoundsLeaveNothing
unfolding with_rounds
rounds_leave_nothing r linux few = go (is_by_linux r.state) refl linux
  where
    go : (b : Bool) → is_by_linux r.state ≡ b → is_by_linux (if b then one_after_other r (rounds most_rounds r.state) else r).state ≡ true → NobodyLooks (if b then one_after_other r (rounds most_rounds r.state) else r).state.world
    go true x y = nobody_looks (rounds most_rounds r.state).state y (rounds_end most_rounds r.state few)
    go false x y = let bad : false ≡ true = sym x ∙ y in absurd (cc)
