-- Worlds without some parts: parts of the record of each task, and slices of tasks that sleep or are held.
use Rattle.std.proofs.Common.{◌≡◌, ℕ, suc, ◌==◌, ◌&&◌, ◌||◌, not, Bool, true, false, List, [], ◌∷◌, length, map, set, get_or, position, refl, sym, ap, ◌∙◌, subst, ◌⊎◌, inl, inr}
use Rattle.std.proofs.lemmas.Bool.{eqb-true}
use Rattle.scx_isa_semantics.specs.declared.callbacks.Callback.{Callback}
use Rattle.scx_vm.specs.declared.arguments.Arg.{Arg}
use Rattle.scx_vm.specs.declared.arguments.Arg.TheVariants as argument
use Rattle.scx_vm.specs.declared.arguments.Args.{Args}
use Rattle.scx_sched_tasks.specs.declared.task.Task.{Task}
use Rattle.scx_sched_tasks.specs.Tasks.{no_task}
use Rattle.scx_sched_world.specs.Tasks.{with_slice}
use Rattle.scx_sched_world.specs.World.{WorldState}
use Rattle.scx_sched_machine.specs.Steps.{State, CallMade, Stepped}
use Rattle.scx_explore_states.specs.Asking.{is_early}
use Rattle.scx_explore_findings.specs.Hidden.{Hidden, hidden_in, all_hidden, with_tasks, hide}
use Rattle.scx_explore_findings.specs.IdleSlices.{is_idle, is_idle_of, sliceless_if, without_slices, erase}
use Rattle.scx_explore_findings.proofs.Records as hidden
use Rattle.scx_explore_findings.proofs.IdleRecords as idle

-- what is hidden of each record, and which tasks have no slice while they sleep or are held
pub record Omitted : Type 0 where
  pub parts : Hidden
  pub idle : ℕ → Bool

-- the world without all that
abbrev pub omit : Omitted → WorldState → WorldState
omit h w = hide h.parts (erase h.idle w)

-- the argument is that task
abbrev pub is_that : Arg → ℕ → Bool
is_that (argument.Task t) u = t.0 == u
is_that a u = false

-- it is a task
abbrev pub is_some_task : Arg → Bool
is_some_task (argument.Task t) = true
is_some_task a = false

-- the task is at hand in a callback that is given a task that runs: it is the first argument; if there is another task,
-- any one counts as such
abbrev pub is_at_hand : Callback → Args → ℕ → Bool
is_at_hand b a u = not (is_early b true) && (is_that a.first u || (is_some_task a.second || is_some_task a.third))

-- what is left out but for the slice of the task at hand
abbrev pub but_at_hand : Omitted → Callback → Args → Omitted
but_at_hand h b a = record { parts = h.parts; idle = λ u. not (is_at_hand b a u) && h.idle u }

-- that is left out in the world of a call
abbrev pub in_call : Omitted → CallMade → Omitted
in_call h c = but_at_hand h c.callback c.arguments

-- a state, a call and a step without it
abbrev pub omit_state : Omitted → State → State
omit_state h s = record s { world = omit h s.world }

abbrev pub omit_call : Omitted → CallMade → CallMade
omit_call h c = record c { world = omit (in_call h c) c.world }

abbrev pub omit_step : Omitted → Stepped → Stepped
omit_step h r = record { state = omit_state h r.state; notes = r.notes; calls = map (omit_call h) r.calls }

-- of none of those tasks is the slice left out
abbrev pub IsNone : (ℕ → Bool) → Type 0
IsNone d = (t : ℕ) → d t ≡ false

-- it holds, or of no task is the slice left out
abbrev pub IfAny : (ℕ → Bool) → Type 0 → Type 0
IfAny d X = IsNone d ⊎ X

pub if_any : {X Y : Type 0} (d : ℕ → Bool) → (X → Y) → IfAny d X → IfAny d Y
if_any d f (inl none) = inl none
if_any d f (inr x) = inr (f x)

pub if_both : {X Y Z : Type 0} (d : ℕ → Bool) → (X → Y → Z) → IfAny d X → IfAny d Y → IfAny d Z
if_both d f (inl none) y = inl none
if_both d f (inr x) y = if_any d (f x) y

module _ (h : Hidden) where
  -- ---- records

  -- records with parts hidden, and no slice for those tasks
  abbrev pub less : (ℕ → Bool) → List Task → List Task
  less p xs = all_hidden h (without_slices p xs)

  apart : (b : Bool) (x : Task) → sliceless_if b (hidden_in h x) ≡ hidden_in h (sliceless_if b x)
  apart true x = refl
  apart false x = refl

  all_apart : (p : ℕ → Bool) (xs : List Task) → without_slices p (all_hidden h xs) ≡ less p xs
  all_apart p [] = refl
  all_apart p (x ∷ xs) =
      ap (λ (y : Task). y ∷ without_slices (λ t. p (suc t)) (all_hidden h xs)) (apart (p 0) x)
      ∙ ap (λ (ys : List Task). hidden_in h (sliceless_if (p 0) x) ∷ ys) (all_apart (λ t. p (suc t)) xs)

  -- once that is left out leaving it out changes nothing
  pub twice : (p q : ℕ → Bool) (xs : List Task) → ((t : ℕ) → p t ≡ true → q t ≡ true) → less q xs ≡ less q (less p xs)
  twice p q xs e =
      ap (all_hidden h) (idle.twice p q xs e) ∙ hidden.all_again h (without_slices q (without_slices p xs)) ∙ ap (all_hidden h) (sym (all_apart q (without_slices p xs)))

  -- a task's record is changed, and others lose their slices with it
  pub set_alike : (p q : ℕ → Bool) (g : Task → Task) → hidden.Keeps h g → (xs : List Task) (t : ℕ) → ((u : ℕ) → (u ≡ t → ⊥) → p u ≡ true → q u ≡ true)
      → ((x : Task) → sliceless_if (q t) (g x) ≡ sliceless_if (q t) (g (sliceless_if (p t) x)))
      → less q (set xs t (g (get_or xs t no_task))) ≡ less q (set (less p xs) t (g (get_or (less p xs) t no_task)))
  set_alike p q g keeps xs t e k =
      let ys = without_slices p xs in
      ap (all_hidden h) (idle.set_alike p q g xs t e k)
      ∙ sym (all_apart q (set ys t (g (get_or ys t no_task))))
      ∙ ap (without_slices q) (hidden.keeps_set h g keeps ys t)
      ∙ all_apart q (set (less p xs) t (g (get_or (less p xs) t no_task)))

  -- what is the same of a record without all that
  pub read_at : {A : Type 0} (f : Task → A) → ((x : Task) → f x ≡ f (hidden_in h x)) → (p : ℕ → Bool) (xs : List Task) (t : ℕ) → f (sliceless_if (p t) (get_or xs t no_task)) ≡ f (get_or (less p xs) t no_task)
  read_at f k p xs t = sym (ap f (idle.read_at p xs t)) ∙ hidden.read_same h f k (without_slices p xs) t

  -- there are as many records
  pub length_same : (p : ℕ → Bool) (xs : List Task) → length xs ≡ length (less p xs)
  length_same p xs = idle.length_same p xs ∙ hidden.length_same h (without_slices p xs)

  -- the first one that passes a test of other parts
  pub first_same : (f : Task → Bool) → ((x : Task) → f x ≡ f (hidden_in h x)) → ((x : Task) → f x ≡ f (with_slice x 0)) → (p : ℕ → Bool) (xs : List Task) → position f xs ≡ position f (less p xs)
  first_same f k l p xs = idle.first_same f l p xs ∙ hidden.first_same h f k (without_slices p xs)

-- ---- worlds without more

-- those tasks are some of the others
abbrev pub AreAmong : (ℕ → Bool) → (ℕ → Bool) → Type 0
AreAmong d e = (t : ℕ) → d t ≡ true → e t ≡ true

both_so : (a b c : Bool) → (a ≡ true → b ≡ true) → (a && c) ≡ true → (b && c) ≡ true
both_so true b c is e = ap (λ (x : Bool). x && c) (is refl) ∙ e
both_so false b c is e = absurd (idle.bits false e refl)

pub second_so : (a b : Bool) → (a && b) ≡ true → b ≡ true
second_so true b e = e
second_so false b e = absurd (idle.bits false e refl)

-- leaving out more leaves that out too
pub omit_more : (h : Omitted) (d : ℕ → Bool) → AreAmong d h.idle → (w : WorldState) → omit h (omit (record { parts = h.parts; idle = d }) w) ≡ omit h w
omit_more h d among w =
    ap (λ (xs : List Task). with_tasks w xs) (sym (twice h.parts (is_idle_of d w) (is_idle_of h.idle w) w.tasks (λ u. both_so (d u) (h.idle u) (is_idle w u) (among u))))

-- of the same tasks it is the same
pub omit_as : (h : Omitted) (d : ℕ → Bool) (w : WorldState) → ((u : ℕ) → is_idle_of d w u ≡ is_idle_of h.idle w u) → omit (record { parts = h.parts; idle = d }) w ≡ omit h w
omit_as h d w same =
    ap (λ (xs : List Task). with_tasks w (all_hidden h.parts xs)) (idle.of_same (is_idle_of d w) (is_idle_of h.idle w) w.tasks same)

-- ---- tasks at hand

-- no slice of a task at hand is left out
abbrev pub IsOutAt : Omitted → Callback → Args → Type 0
IsOutAt h b a = (u : ℕ) → is_at_hand b a u ≡ true → h.idle u ≡ false

-- so it is in a callback that is given no task that runs
pub early_out : (h : Omitted) (b : Callback) (a : Args) → is_early b true ≡ true → IsOutAt h b a
early_out h b a early u e =
    absurd (idle.bits (is_at_hand b a u) e (ap (λ (x : Bool). not x && (is_that a.first u || (is_some_task a.second || is_some_task a.third))) early))

-- and in one that is given such a task, and no other one
pub given_out : (h : Omitted) (b : Callback) (a : Args) (t : ℕ) → ((u : ℕ) → (is_that a.first u || (is_some_task a.second || is_some_task a.third)) ≡ (t == u)) → h.idle t ≡ false → IsOutAt h b a
given_out h b a t one out u e =
    let there : (t == u) ≡ true = sym (one u) ∙ second_so (not (is_early b true)) (is_that a.first u || (is_some_task a.second || is_some_task a.third)) e in
    subst (λ (k : ℕ). h.idle k ≡ false) (eqb-true t u there) out

-- then the same is left out in its world
pub out_same : (h : Omitted) (b : Callback) (a : Args) → IsOutAt h b a → (u : ℕ) → (but_at_hand h b a).idle u ≡ h.idle u
out_same h b a out u = go (is_at_hand b a u) refl
  where
    go : (c : Bool) → is_at_hand b a u ≡ c → (not c && h.idle u) ≡ h.idle u
    go true e = sym (out u e)
    go false e = refl

-- what is left out in the world of a call is left out anyway
pub among_call : (h : Omitted) (b : Callback) (a : Args) → AreAmong (but_at_hand h b a).idle h.idle
among_call h b a u = second_so (not (is_at_hand b a u)) (h.idle u)
