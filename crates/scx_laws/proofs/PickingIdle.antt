-- The processor that is chosen for a task is the one that the rules allow.
use Rattle.std.proofs.Common.{unwrap_or, ◌≡◌, ℕ, ◌<◌, ◌≤◌, Bool, true, false, not, nat_lt, ◌⊎◌, inl, inr, if◌then◌else◌, length, Option, Some, None, refl, sym, ap, subst, ◌∙◌, arith}
use Rattle.std.proofs.lemmas.Bool.{cases_lt, and_parts, and_from, and_right, false_from_ne_true, not-true}
use Rattle.std.proofs.lemmas.Bool.Decides.{nat_tests}
use Rattle.scx_sched_world.specs.World.{WorldState, is_by_linux, task_at, is_idle, is_claimed, is_free, may_run, lowest_cpu, is_free_for, free_choice, choice, default_choice, after_claim}
use Rattle.scx_laws.specs.Helpers.{IsFree, IsFreeFor, IsChoice, ItsOwn, Lowest, NoneFree, NoneTracked, IsDefault, Chosen, NotChosen, with_claim, Claims, NoClaim, MakesClaim}
use Rattle.scx_laws.proofs.Differing.{not_so}
use Rattle.scx_laws.proofs.BindingTasks.{none_below, is_lowest, lowest_from, none_from, allowed_is, allowed_of}

-- ---- free processors

pub free_is : (w : WorldState) (c : ℕ) → is_free w c ≡ true → IsFree w c
free_is w c e = let x = and_parts (is_idle w c) (not (is_claimed w c)) e in record { idle = x.0; unclaimed = not-true (is_claimed w c) x.1 }

pub free_of : (w : WorldState) (c : ℕ) → IsFree w c → is_free w c ≡ true
free_of w c h = and_from (is_idle w c) (not (is_claimed w c)) h.idle (ap (λ b. not b) h.unclaimed)

free_for_is : (w : WorldState) (t c : ℕ) → is_free_for w t c ≡ true → IsFreeFor w t c
free_for_is w t c e = let x = and_parts (may_run w t c) (is_free w c) e in record { allowed = allowed_is w t c x.0; free = free_is w c x.1 }

free_for_of : (w : WorldState) (t c : ℕ) → IsFreeFor w t c → is_free_for w t c ≡ true
free_for_of w t c h = and_from (may_run w t c) (is_free w c) (allowed_of w t c h.allowed) (free_of w c h.free)

taken : (w : WorldState) (t c : ℕ) → is_free_for w t c ≡ false → ¬ IsFreeFor w t c
taken w t c e h = not_so (is_free_for w t c) e (free_for_of w t c h)

taken_of : (w : WorldState) (t c : ℕ) → ¬ IsFreeFor w t c → is_free_for w t c ≡ false
taken_of w t c n = false_from_ne_true (is_free_for w t c) (λ e. n (free_for_is w t c e))

-- a processor that isn't there isn't free
pub past_end : (w : WorldState) (c : ℕ) → length w.cpus ≤ c → is_free w c ≡ false
past_end w c past = let x : nat_lt c (length w.cpus) ≡ false = grind (arith, nat_tests, past) in rw x refl

-- one that is free is there
pub free_within : (w : WorldState) (c : ℕ) → is_free w c ≡ true → c < length w.cpus
free_within w c e = go (cases_lt c (length w.cpus))
  where
    go : (c < length w.cpus) ⊎ (length w.cpus ≤ c) → c < length w.cpus
    go (inl l) = l
    go (inr past) = absurd (not_so (is_free w c) (past_end w c past) e)

abbrev first_free : WorldState → ℕ → Option ℕ
first_free w t = lowest_cpu w (is_free_for w t)

all_taken : (w : WorldState) (t : ℕ) → first_free w t ≡ None → (c : ℕ) → is_free_for w t c ≡ false
all_taken w t e c = go (cases_lt c (length w.cpus))
  where
    go : (c < length w.cpus) ⊎ (length w.cpus ≤ c) → is_free_for w t c ≡ false
    go (inl l) = none_below (length w.cpus) (is_free_for w t) e c l
    go (inr past) = and_right (may_run w t c) (is_free w c) (past_end w c past)

-- ---- the choice

abbrev tracked_as : WorldState → ℕ → Bool → Option ℕ
tracked_as w t b = if b then free_choice w t else None

abbrev chosen_as : WorldState → ℕ → Bool → Option ℕ → Option ℕ
chosen_as w t b o = if b then Some (task_at w t).prev_cpu else o

-- what is computed is a choice
pub is_choice : (w : WorldState) (t : ℕ) → IsChoice w t (choice w t)
is_choice w t = top w.tracks_idle refl
  where
    prev : ℕ
    prev = (task_at w t).prev_cpu

    go : w.tracks_idle ≡ true → (b : Bool) → is_free_for w t (task_at w t).prev_cpu ≡ b → (o : Option ℕ) → first_free w t ≡ o → IsChoice w t (chosen_as w t b o)
    go k true e o x = ItsOwn prev k refl (free_for_is w t prev e)
    go k false e (Some c) x = let h = is_lowest (length w.cpus) (is_free_for w t) c x in Lowest c k (taken w t prev e) (free_for_is w t c h.passes) (λ d l. taken w t d (h.below d l))
    go k false e None x = NoneFree (λ d. taken w t d (all_taken w t x d))

    top : (b : Bool) → w.tracks_idle ≡ b → IsChoice w t (tracked_as w t b)
    top true k = go k (is_free_for w t prev) refl (first_free w t) refl
    top false k = NoneTracked k

-- and the only one
pub only_choice : (w : WorldState) (t : ℕ) (o : Option ℕ) → IsChoice w t o → o ≡ choice w t
only_choice w t (Some c) (ItsOwn _ tracks k f) =
    ap (λ x. Some x) k ∙ ap (λ b. chosen_as w t b (first_free w t)) (sym (free_for_of w t (task_at w t).prev_cpu (subst (λ x. IsFreeFor w t x) k f))) ∙ ap (λ b. tracked_as w t b) (sym tracks)
only_choice w t (Some c) (Lowest _ tracks n f below) =
    sym (lowest_from (length w.cpus) (is_free_for w t) c (record { within = free_within w c (free_of w c f.free); passes = free_for_of w t c f; below = λ d l. taken_of w t d (below d l) }))
    ∙ ap (λ b. chosen_as w t b (first_free w t)) (sym (taken_of w t (task_at w t).prev_cpu n)) ∙ ap (λ b. tracked_as w t b) (sym tracks)
only_choice w t None (NoneTracked e) = ap (λ b. tracked_as w t b) (sym e)
only_choice w t None (NoneFree all) =
    top w.tracks_idle (sym (none_from (length w.cpus) (is_free_for w t) (λ d l. taken_of w t d (all d))) ∙ ap (λ b. chosen_as w t b (first_free w t)) (sym (taken_of w t (task_at w t).prev_cpu (all (task_at w t).prev_cpu))))
  where
    top : (b : Bool) → None ≡ free_choice w t → None ≡ tracked_as w t b
    top true e = e
    top false e = refl

-- ---- the default

abbrev default_as : WorldState → ℕ → Option ℕ → ℕ
default_as w t o = unwrap_or o (task_at w t).prev_cpu

pub is_default : (w : WorldState) (t : ℕ) → IsDefault w t (default_choice w t)
is_default w t = go (choice w t) (is_choice w t)
  where
    go : (o : Option ℕ) → IsChoice w t o → IsDefault w t (default_as w t o)
    go (Some c) h = Chosen h
    go None h = NotChosen h refl

pub only_default : (w : WorldState) (t c : ℕ) → IsDefault w t c → c ≡ default_choice w t
only_default w t c (Chosen h) = ap (λ o. default_as w t o) (only_choice w t (Some c) h)
only_default w t c (NotChosen h k) = k ∙ ap (λ o. default_as w t o) (only_choice w t None h)

-- ---- claims

abbrev claimed_as : WorldState → ℕ → Bool → WorldState
claimed_as w c b = if b then with_claim w c else w

pub claims : (w : WorldState) (c : ℕ) → Claims w c (after_claim w (Some c))
claims w c = go (is_by_linux w) refl
  where
    go : (b : Bool) → is_by_linux w ≡ b → Claims w c (claimed_as w c b)
    go true e = MakesClaim e refl
    go false e = NoClaim e refl

pub only_claims : (w : WorldState) (c : ℕ) (v : WorldState) → Claims w c v → v ≡ after_claim w (Some c)
only_claims w c v (NoClaim e k) = k ∙ ap (λ b. claimed_as w c b) (sym e)
only_claims w c v (MakesClaim e k) = k ∙ ap (λ b. claimed_as w c b) (sym e)
