-- Where tasks may run, and whom a processor sees, are as the cases allow, and not otherwise.
use Rattle.std.proofs.Common.{unwrap_or, ◌≡◌, ℕ, zero, suc, ◌<◌, ◌≤◌, Bool, true, false, not, ◌==◌, ◌||◌, nat_lt, ◌⊎◌, inl, inr, if◌then◌else◌, length, Option, Some, None, is_none, refl, sym, ap, ◌∙◌, arith}
use Rattle.std.specs.Int.{bit_at}
use Rattle.std.proofs.lemmas.Bool.{cases_eq, cases_lt, eq-eqb, ne_eqb, and_parts, and_from, false_from_ne_true}
use Rattle.std.proofs.lemmas.Bool.Decides.{nat_tests}
use Rattle.scx_dsq.specs.Queues.{QueueState, only, entry_of}
use Rattle.scx_dsq.proofs.Among.{entries_long}
use Rattle.scx_weights.specs.Hierarchy.{mask_of, is_in_mask}
use Rattle.scx_isa_semantics.specs.declared.rules.Rules.{Rules}
use Rattle.scx_isa_semantics.specs.declared.rules.Rules.TheVariants.{Plain, Linux}
use Rattle.scx_sched_world.specs.World.{WorldState, are_linux, this_if, or_this, binds, may_run, lowest_below, lowest_cpu, first_home, is_in_mask_but, has_one_cpu}
use Rattle.scx_sched_world.specs.Tasks.{seen_from, next_for}
use Rattle.scx_sched.proofs.Fronts.{Equal, front_same}
use Rattle.scx_sched.proofs.Seen.{entry_seen}
use Rattle.scx_laws.specs.BoundTasks.{AreBound, IsAllowed, IsUnbound, IsInMask, IsFirstHome, LowestHome, NoHome, HasOneCpu, IsBoundToOne, IsOnlyCpu, AreSeenFrom, IsNextFor}
use Rattle.scx_laws.proofs.Differing.{none_if_never, not_so}

-- ---- the lowest number for which a test holds

pub record IsLowest (n : ℕ) (p : ℕ → Bool) (c : ℕ) : Type 0 where
  pub within : c < n
  pub passes : p c ≡ true
  pub below : (d : ℕ) → d < c → p d ≡ false

pub none_below : (n : ℕ) (p : ℕ → Bool) → lowest_below n p ≡ None → (d : ℕ) → d < n → p d ≡ false
none_below zero p e d l = absurd (omega (arith, l))
none_below (suc n) p e d l = go (lowest_below n p) (p n) refl refl e (λ x m. none_below n p x d m) (cases_eq d n)
  where
    go : (o : Option ℕ) (b : Bool) → lowest_below n p ≡ o → p n ≡ b → or_this o (this_if b n) ≡ None → (lowest_below n p ≡ None → d < n → p d ≡ false) → (d ≡ n) ⊎ (d ≡ n → ⊥) → p d ≡ false
    go (Some c) b x y z f h = absurd (cc)
    go None true x y z f h = absurd (cc)
    go None false x y z f (inl k) = ap (λ m. p m) k ∙ y
    go None false x y z f (inr k) = f x (omega (arith, l, k))

pub is_lowest : (n : ℕ) (p : ℕ → Bool) (c : ℕ) → lowest_below n p ≡ Some c → IsLowest n p c
is_lowest zero p c e = absurd (cc)
is_lowest (suc n) p c e = go (lowest_below n p) (p n) refl refl e (λ x. is_lowest n p c x)
  where
    go : (o : Option ℕ) (b : Bool) → lowest_below n p ≡ o → p n ≡ b → or_this o (this_if b n) ≡ Some c → (lowest_below n p ≡ Some c → IsLowest n p c) → IsLowest (suc n) p c
    go (Some d) b x y z f = let h = f (x ∙ z) in record { within = omega (arith, h.within); passes = h.passes; below = h.below }
    go None true x y z f =
        let is : n ≡ c = ap (λ o. unwrap_or o n) z in
        record { within = omega (arith, is); passes = ap (λ m. p m) (sym is) ∙ y; below = λ d l. none_below n p x d (omega (arith, l, is)) }
    go None false x y z f = absurd (cc)

-- that one is found
pub lowest_from : (n : ℕ) (p : ℕ → Bool) (c : ℕ) → IsLowest n p c → lowest_below n p ≡ Some c
lowest_from n p c h = go (lowest_below n p) refl
  where
    one : (d : ℕ) → IsLowest n p d → (c < d) ⊎ (d ≤ c) → (d < c) ⊎ (c ≤ d) → d ≡ c
    one d g (inl l) m = absurd (not_so (p c) (g.below c l) h.passes)
    one d g (inr l) (inl m) = absurd (not_so (p d) (h.below d m) g.passes)
    one d g (inr l) (inr m) = omega (arith, l, m)

    go : (o : Option ℕ) → lowest_below n p ≡ o → lowest_below n p ≡ Some c
    go (Some d) x = x ∙ ap (λ y. Some y) (one d (is_lowest n p d x) (cases_lt c d) (cases_lt d c))
    go None x = absurd (not_so (p c) (none_below n p x c h.within) h.passes)

-- or none is
pub none_from : (n : ℕ) (p : ℕ → Bool) → ((d : ℕ) → d < n → p d ≡ false) → lowest_below n p ≡ None
none_from n p all = none_if_never (lowest_below n p) (λ d x. let h = is_lowest n p d x in not_so (p d) (all d h.within) h.passes)

-- ---- where a task may run

rules_are : (r : Rules) → are_linux r ≡ true → r ≡ Linux
rules_are Plain e = absurd (cc)
rules_are Linux e = refl

bound_is : (w : WorldState) → binds w ≡ true → AreBound w
bound_is w e = let x = and_parts (are_linux w.rules) (nat_lt 0 (length w.tree.masks)) e in record { by_linux = rules_are w.rules x.0; some = grind (arith, nat_tests, x.1) }

bound_of : (w : WorldState) → AreBound w → binds w ≡ true
bound_of w h = let l : nat_lt 0 (length w.tree.masks) ≡ true = grind (arith, nat_tests, h.some) in and_from (are_linux w.rules) (nat_lt 0 (length w.tree.masks)) (ap (λ r. are_linux r) h.by_linux) l

unbound_is : (w : WorldState) → binds w ≡ false → ¬ AreBound w
unbound_is w e h = not_so (binds w) e (bound_of w h)

unbound_of : (w : WorldState) → ¬ AreBound w → binds w ≡ false
unbound_of w n = false_from_ne_true (binds w) (λ e. n (bound_is w e))

in_mask : (w : WorldState) (t c : ℕ) → is_in_mask w.tree t c ≡ true → IsAllowed w t c
in_mask w t c e = let h : bit_at (mask_of w.tree t) c ≡ 1 = grind (arith, nat_tests, e) in IsInMask h

in_mask_from : (w : WorldState) (t c : ℕ) → binds w ≡ true → IsAllowed w t c → is_in_mask w.tree t c ≡ true
in_mask_from w t c e (IsUnbound n) = absurd (n (bound_is w e))
in_mask_from w t c e (IsInMask h) = eq-eqb (bit_at (mask_of w.tree t) c) 1 h

abbrev may_as : WorldState → ℕ → ℕ → Bool → Bool
may_as w t c b = not b || is_in_mask w.tree t c

pub allowed_is : (w : WorldState) (t c : ℕ) → may_run w t c ≡ true → IsAllowed w t c
allowed_is w t c = go (binds w) refl
  where
    go : (b : Bool) → binds w ≡ b → may_as w t c b ≡ true → IsAllowed w t c
    go false x e = IsUnbound (unbound_is w x)
    go true x e = in_mask w t c e

pub allowed_of : (w : WorldState) (t c : ℕ) → IsAllowed w t c → may_run w t c ≡ true
allowed_of w t c h = go (binds w) refl
  where
    go : (b : Bool) → binds w ≡ b → may_as w t c b ≡ true
    go false x = refl
    go true x = in_mask_from w t c x h

pub outside_is : (w : WorldState) (t c : ℕ) → may_run w t c ≡ false → ¬ IsAllowed w t c
outside_is w t c e h = not_so (may_run w t c) e (allowed_of w t c h)

pub outside_of : (w : WorldState) (t c : ℕ) → ¬ IsAllowed w t c → may_run w t c ≡ false
outside_of w t c n = false_from_ne_true (may_run w t c) (λ e. n (allowed_is w t c e))

-- ---- the first home of a task

abbrev pub home_as : Bool → Option ℕ → ℕ
home_as b o = if b then unwrap_or o 0 else 0

pub is_home : (w : WorldState) (t : ℕ) → IsFirstHome w t (first_home w t)
is_home w t = go (binds w) refl (lowest_cpu w (is_in_mask w.tree t)) refl (cases_eq (length w.cpus) 0)
  where
    masked : ℕ → Bool
    masked c = is_in_mask w.tree t c

    go : (b : Bool) → binds w ≡ b → (o : Option ℕ) → lowest_cpu w (is_in_mask w.tree t) ≡ o → (length w.cpus ≡ 0) ⊎ (length w.cpus ≡ 0 → ⊥) → IsFirstHome w t (home_as b o)
    go true e (Some c) x any =
        let h = is_lowest (length w.cpus) (is_in_mask w.tree t) c x in
        LowestHome h.within (in_mask w t c h.passes) (λ d l a. not_so (is_in_mask w.tree t d) (h.below d l) (in_mask_from w t d e a))
    go true e None x any = NoHome (λ d l a. not_so (is_in_mask w.tree t d) (none_below (length w.cpus) (is_in_mask w.tree t) x d l) (in_mask_from w t d e a)) refl
    go false e o x (inl z) = NoHome (λ d l a. omega (arith, l, z)) refl
    go false e o x (inr n) = LowestHome (omega (arith, n)) (IsUnbound (unbound_is w e)) (λ d l a. omega (arith, l))

pub only_home_of : (w : WorldState) (t c : ℕ) → IsFirstHome w t c → c ≡ first_home w t
only_home_of w t c (LowestHome l a below) = go (binds w) refl (cases_lt 0 c)
  where
    go : (b : Bool) → binds w ≡ b → (0 < c) ⊎ (c ≤ 0) → c ≡ home_as b (lowest_cpu w (is_in_mask w.tree t))
    go true e any = ap (λ o. home_as true o) (sym (lowest_from (length w.cpus) (is_in_mask w.tree t) c (record { within = l; passes = in_mask_from w t c e a; below = λ d m. false_from_ne_true (is_in_mask w.tree t d) (λ y. below d m (in_mask w t d y)) })))
    go false e (inl m) = absurd (below 0 m (IsUnbound (unbound_is w e)))
    go false e (inr m) = omega (arith, m)
only_home_of w t c (NoHome none z) = z ∙ go (binds w)
  where
    go : (b : Bool) → 0 ≡ home_as b (lowest_cpu w (is_in_mask w.tree t))
    go true = ap (λ o. home_as true o) (sym (none_from (length w.cpus) (is_in_mask w.tree t) (λ d l. false_from_ne_true (is_in_mask w.tree t d) (λ y. none d l (in_mask w t d y)))))
    go false = refl

-- ---- one processor alone

abbrev one_as : WorldState → ℕ → Bool → Bool
one_as w t b = if b then is_none (lowest_cpu w (is_in_mask_but w t (first_home w t))) else length w.cpus == 1

pub nobody_is : (o : Option ℕ) → is_none o ≡ true → o ≡ None
nobody_is None e = refl
nobody_is (Some c) e = absurd (cc)

pub one_is : (w : WorldState) (t : ℕ) → has_one_cpu w t ≡ true → HasOneCpu w t
one_is w t = go (binds w) refl
  where
    home : ℕ
    home = first_home w t

    go : (b : Bool) → binds w ≡ b → one_as w t b ≡ true → HasOneCpu w t
    go false e x = IsOnlyCpu (unbound_is w e) (grind (arith, nat_tests, x))
    go true e x = IsBoundToOne (bound_is w e) (λ c d l m a b. same c l a ∙ sym (same d m b))
      where
        same : (c : ℕ) → c < length w.cpus → IsAllowed w t c → c ≡ home
        same c l a = at (cases_eq c home)
          where
            at : (c ≡ home) ⊎ (c ≡ home → ⊥) → c ≡ home
            at (inl k) = k
            at (inr k) =
                absurd (not_so (is_in_mask_but w t home c) (none_below (length w.cpus) (is_in_mask_but w t home) (nobody_is (lowest_cpu w (is_in_mask_but w t home)) x) c l)
                (and_from (is_in_mask w.tree t c) (not (c == home)) (in_mask_from w t c e a) (ap (λ b. not b) (ne_eqb c home k))))

pub one_of : (w : WorldState) (t : ℕ) → HasOneCpu w t → has_one_cpu w t ≡ true
one_of w t (IsOnlyCpu n k) = ap (λ b. one_as w t b) (unbound_of w n) ∙ eq-eqb (length w.cpus) 1 k
one_of w t (IsBoundToOne h same) = ap (λ b. one_as w t b) (bound_of w h) ∙ ap (λ o. is_none o) (none_from (length w.cpus) (is_in_mask_but w t (first_home w t)) (λ d l. false_from_ne_true (is_in_mask_but w t (first_home w t) d) (λ y. other d l y (is_home w t))))
  where
    other : (d : ℕ) → d < length w.cpus → is_in_mask_but w t (first_home w t) d ≡ true → IsFirstHome w t (first_home w t) → ⊥
    other d l y (NoHome none z) = let x = and_parts (is_in_mask w.tree t d) (not (d == first_home w t)) y in none d l (in_mask w t d x.0)
    other d l y (LowestHome m a below) =
        let x = and_parts (is_in_mask w.tree t d) (not (d == first_home w t)) y in
        let is : (d == first_home w t) ≡ true = eq-eqb d (first_home w t) (same d (first_home w t) l m (in_mask w t d x.0) a) in
        not_so (not (d == first_home w t)) (ap (λ b. not b) is) x.1

-- ---- whom a processor sees

abbrev seen_as : WorldState → ℕ → Bool → QueueState
seen_as w c b = if b then only (λ t. is_in_mask w.tree t c) w.queues else w.queues

are_seen : (w : WorldState) (c : ℕ) → AreSeenFrom w c (seen_from w c)
are_seen w c = go (binds w) refl
  where
    go : (b : Bool) → binds w ≡ b → AreSeenFrom w c (seen_as w c b)
    go true e = record {
      tasks = entries_long (λ t. is_in_mask w.tree t c) 0 w.queues.entries;
      seen = λ t a. entry_seen (λ t. is_in_mask w.tree t c) w.queues t ∙ ap (λ b. if b then entry_of w.queues t else None) (in_mask_from w t c e a);
      passed = λ t n. entry_seen (λ t. is_in_mask w.tree t c) w.queues t ∙ ap (λ b. if b then entry_of w.queues t else None) (false_from_ne_true (is_in_mask w.tree t c) (λ y. n (in_mask w t c y)));
    }
    go false e = record { tasks = refl; seen = λ t a. refl; passed = λ t n. absurd (n (IsUnbound (unbound_is w e))) }

-- the first task that may run is the one that is computed
pub next_is : (w : WorldState) (q c : ℕ) (o : Option ℕ) → next_for w q c ≡ o → IsNextFor w q c o
next_is w q c o e = record { queues = seen_from w c; are_seen = are_seen w c; first = sym e }

-- and no other
pub only_next : (w : WorldState) (q c : ℕ) (o : Option ℕ) → IsNextFor w q c o → o ≡ next_for w q c
only_next w q c o h = h.first ∙ front_same (seen_from w c) h.queues q (record { count = h.are_seen.tasks ∙ sym mine.tasks; same = λ t. Equal (agree t (may_run w t c) refl) })
  where
    mine : AreSeenFrom w c (seen_from w c)
    mine = are_seen w c

    agree : (t : ℕ) (b : Bool) → may_run w t c ≡ b → entry_of h.queues t ≡ entry_of (seen_from w c) t
    agree t true x = let a = allowed_is w t c x in h.are_seen.seen t a ∙ sym (mine.seen t a)
    agree t false x = let n = outside_is w t c x in h.are_seen.passed t n ∙ sym (mine.passed t n)
