-- What holds before any callback, and each callback keeps, holds once a machine is made.
use Rattle.std.proofs.Common.{◌≡◌, ℕ, zero, suc, ◌<◌, ◌≤◌, Bool, true, false, if◌then◌else◌, ◌⊎◌, inl, inr, List, length, Option, Some, None, Result, Ok, Err, ℤ, subst, refl, ap, ◌∙◌, arith}
use Rattle.std.proofs.lemmas.List.{length-replicate}
use Rattle.scx_isa_semantics.specs.declared.callbacks.Callback.{Callback}
use Rattle.scx_isa_semantics.specs.declared.callbacks.Callback.TheVariants as callback
use Rattle.scx_isa_semantics.specs.Elements.{Maps}
use Rattle.scx_vm.specs.declared.arguments.Args.{Args}
use Rattle.scx_vm.specs.Programs.{VerifiedProgram}
use Rattle.scx_weights.specs.Hierarchy.{Hierarchy, own_weight}
use Rattle.scx_sched_world.specs.World.{WorldState, without_marks, at_callback}
use Rattle.scx_sched_world.specs.Tasks.{begun_periods}
use Rattle.scx_sched_policy.specs.Policy.{PolicyState}
use Rattle.scx_sched_machine.specs.Steps.{State, with_world}
use Rattle.scx_sched_machine.specs.Callbacks.{call_ending, acting, after_callback, no_arguments, one_task, task_and_number, two_numbers}
use Rattle.scx_sched_machine.specs.Start.{blank, init_ending, bad_answer, ok_unless, after_init, begin_ending, failure, begin_with, has_by_linux, begin_by_linux, enable, then_weigh, then_enable, after_enables, then_idle, after_idles, unmarked, all_idle, then_all_idle, all_enabled, first_state, by_policy}
use Rattle.scx_sched.proofs.Homes.{keeps_homes}
use Rattle.scx_sched_world.specs.First.{first_world}
use Rattle.scx_sched.proofs.Queries.{KeepsQueries, off_queues, kept_called, kept_query}

-- ---- who runs where

-- from the first world to the second
abbrev RunTheSame : WorldState → WorldState → Type 0
RunTheSame v w = w.cpus ≡ v.cpus

run_kept : (v : WorldState) → KeepsQueries (RunTheSame v)
run_kept v = off_queues (RunTheSame v) (λ w x other h. h) (λ w n o later h. h) (λ w t s k c h. h) (λ w q i m a b c d n ns h. h)

-- no callback changes that
run_called : (p : Option VerifiedProgram) (b : Callback) (a : Args) (maps : Maps) (w : WorldState) → RunTheSame w (call_ending p b a maps w).outside
run_called p b a maps w = kept_called (RunTheSame w) (kept_query (RunTheSame w) (run_kept w)) p b a maps w refl

-- ---- the first callbacks

-- what a callback leaves, with that task and that processor at hand
abbrev pub left_by : State → Callback → Args → ℕ → ℕ → State
left_by s b a t c = after_callback s.policy (call_ending (acting s b) b a s.maps (at_callback s.world b t c))

same_ok : (a b : State) → ◌≡◌ {A = Result State ℤ} (Ok a) (Ok b) → a ≡ b
same_ok a b e = cc

-- processor 0, or one below that number
abbrev pub IsAnyOf : ℕ → ℕ → Type 0
IsAnyOf cpus c = (c ≡ 0) ⊎ (c < cpus)

module _ (cpus : ℕ) (I : State → Type 0) (keeps : (s : State) (b : Callback) (a : Args) (t c : ℕ) → IsAnyOf cpus c → I s → I (left_by s b a t c)) (forgets : (s : State) → I s → I (with_world s (without_marks s.world))) where
  -- and there are that many processors
  abbrev J : State → Type 0
  J s = I s × (length s.world.cpus ≡ cpus)

  keeps_left : (s : State) (b : Callback) (a : Args) (t c : ℕ) → IsAnyOf cpus c → J s → J (left_by s b a t c)
  keeps_left s b a t c any h = (keeps s b a t c any h.0, ap (λ (xs : List (Option ℕ)). length xs) (run_called (acting s b) b a s.maps (at_callback s.world b t c)) ∙ h.1)

  keeps_initialized : (s t : State) → after_init s ≡ Ok t → J s → J t
  unfolding after_init
  keeps_initialized s t e h = go (bad_answer (init_ending s).outside.call.cause (init_ending s).answer) e
    where
      go : (o : Option ℤ) → ok_unless o (left_by s callback.Init no_arguments 0 0) ≡ Ok t → J t
      go None e = subst J (same_ok _ _ e) (keeps_left s callback.Init no_arguments 0 0 (inl refl) h)
      go (Some j) e = absurd (cc)

  keeps_begun : (s t : State) (b : Callback) (a : Args) (u c : ℕ) → IsAnyOf cpus c → begin_with s b a u c ≡ Ok t → J s → J t
  unfolding begin_with
  keeps_begun s t b a u c any e h = go (failure (begin_ending s b a u c).outside.call.cause (begin_ending s b a u c).answer) e
    where
      go : (o : Option ℤ) → ok_unless o (left_by s b a u c) ≡ Ok t → J t
      go None e = subst J (same_ok _ _ e) (keeps_left s b a u c any h)
      go (Some x) e = absurd (cc)

  keeps_begun_by_linux : (s t : State) (b : Callback) (a : Args) (u c : ℕ) → IsAnyOf cpus c → begin_by_linux s b a u c ≡ Ok t → J s → J t
  unfolding begin_by_linux
  keeps_begun_by_linux s t b a u c any e h = go (has_by_linux s b) e
    where
      go : (d : Bool) → (if d then begin_with s b a u c else Ok s) ≡ Ok t → J t
      go true e = keeps_begun s t b a u c any e h
      go false e = subst J (same_ok s t e) h

  keeps_weighed : (r : Result State ℤ) (t : State) (j : ℕ) → then_weigh r j ≡ Ok t → ((u : State) → r ≡ Ok u → J u) → J t
  keeps_weighed (Err x) t j e f = absurd (cc)
  keeps_weighed (Ok u) t j e f = keeps_begun_by_linux u t callback.SetWeight (task_and_number j (own_weight u.world.tree j)) j 0 (inl refl) e (f u refl)

  keeps_enabled : (m : ℕ) (s t : State) → after_enables m s ≡ Ok t → J s → J t
  keeps_enabled zero s t e h = subst J (same_ok _ _ e) h
  keeps_enabled (suc m) s t e h = go (after_enables m s) (λ u x. keeps_enabled m s u x h) refl e
    where
      go : (o : Result State ℤ) → ((u : State) → after_enables m s ≡ Ok u → J u) → after_enables m s ≡ o → then_enable o m ≡ Ok t → J t
      go (Err j) f x e = absurd (cc)
      go (Ok u) f x e = keeps_weighed (enable u m) t m e (λ v y. keeps_begun u v callback.Enable (one_task m) m 0 (inl refl) y (f u x))

  keeps_idles : (m : ℕ) (s t : State) → m ≤ cpus → after_idles m s ≡ Ok t → J s → J t
  keeps_idles zero s t l e h = subst J (same_ok _ _ e) h
  keeps_idles (suc m) s t l e h = go (after_idles m s) (λ u x. keeps_idles m s u (omega (arith, l)) x h) refl e
    where
      go : (o : Result State ℤ) → ((u : State) → after_idles m s ≡ Ok u → J u) → after_idles m s ≡ o → then_idle o m ≡ Ok t → J t
      go (Err j) f x e = absurd (cc)
      go (Ok u) f x e = keeps_begun_by_linux u t callback.UpdateIdle (two_numbers m 1) 0 m (inr (omega (arith, l))) e (f u x)

  keeps_unmarked : (r : Result State ℤ) (t : State) → unmarked r ≡ Ok t → ((u : State) → r ≡ Ok u → J u) → J t
  keeps_unmarked (Err x) t e f = absurd (cc)
  keeps_unmarked (Ok u) t e f = let h = f u refl in subst J (same_ok (with_world u (without_marks u.world)) t e) (forgets u h.0, h.1)

  keeps_all_idle : (s t : State) → all_idle s ≡ Ok t → J s → J t
  keeps_all_idle s t e h = go (has_by_linux s callback.UpdateIdle) e
    where
      go : (d : Bool) → (if d then unmarked (after_idles (length s.world.cpus) s) else Ok s) ≡ Ok t → J t
      go true e = keeps_unmarked (after_idles (length s.world.cpus) s) t e (λ u x. keeps_idles (length s.world.cpus) s u (omega (arith, h.1)) x h)
      go false e = subst J (same_ok s t e) h

  keeps_then_all_idle : (r : Result State ℤ) (t : State) → then_all_idle r ≡ Ok t → ((s : State) → r ≡ Ok s → J s) → J t
  keeps_then_all_idle (Err j) t e f = absurd (cc)
  keeps_then_all_idle (Ok s) t e f = keeps_all_idle s t e (f s refl)

  keeps_all : (r : Result State ℤ) (t : State) → all_enabled r ≡ Ok t → ((s : State) → r ≡ Ok s → J s) → J t
  keeps_all (Err j) t e f = absurd (cc)
  keeps_all (Ok s) t e f = keeps_then_all_idle (after_enables (length s.world.tasks) s) t e (λ u x. keeps_enabled (length s.world.tasks) s u x (f s refl))

  -- a machine that is made
  pub keeps_started : (p : PolicyState) (tree : Hierarchy) (t : State) → first_state p tree cpus ≡ Ok t → I (blank p tree cpus) → I t
  keeps_started p tree t e h = let x = keeps_all (after_init (blank p tree cpus)) t e (λ s y. keeps_initialized (blank p tree cpus) s y (h, keeps_homes (λ v. length v.cpus ≡ cpus) (λ v t c l same. same) (begun_periods (by_policy p (first_world tree cpus))) (length-replicate {A = Option ℕ} cpus None))) in x.0
