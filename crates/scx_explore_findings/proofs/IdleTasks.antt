-- Tasks that sleep or are held: what a step on queues and CPUs makes of them, and that a task of a CPU isn't one.
use Rattle.std.proofs.Common.{◌≡◌, ℕ, zero, suc, ◌+◌, ◌==◌, ◌&&◌, ◌||◌, ◌<◌, not, Bool, true, false, cond, is_none, is_some, List, [], ◌∷◌, length, set, get_or, position, Option, Some, None, option_map, refl, sym, ap, ◌∙◌, subst, arith, inl, inr}
use Rattle.std.specs.List.{position_or_len}
use Rattle.std.proofs.lemmas.Bool.{eqb-true, eq-eqb, lt-ltb}
use Rattle.std.proofs.lemmas.List.Quantifiers.{position-Some}
use Rattle.scx_dsq.specs.Calls.{create_refusal, with_queue, after_create, push_refusal, next_entry, with_task as with_entry, after_push, without_task, after_remove, without, after_pop}
use Rattle.scx_dsq.specs.Queues.{QueueState, Entries, entry_of, queue_of, front_of}
use Rattle.scx_dsq.specs.declared.entries.Entry.{Entry}
use Rattle.scx_dsq.specs.declared.entries.Rank.{Rank}
use Rattle.scx_sched_world.specs.declared.call.Insert.{Insert}
use Rattle.scx_sched_world.specs.Ids.{held_queue}
use Rattle.scx_sched_world.specs.World.{WorldState, is_this}
use Rattle.scx_sched_world.specs.Tasks.{to_held}
use Rattle.scx_sched_machine.proofs.Choices.{keeps_if}
use Rattle.scx_explore_findings.specs.IdleSlices.{runs_on, is_put_nowhere, is_idle, is_idle_of}
use Rattle.scx_explore_findings.proofs.IdleRecords.{bits}
use Rattle.scx_explore_findings.proofs.Omitting.{IfAny}

-- ---- queues

nowhere_set : (es : Entries) (t : ℕ) (o : Option Entry) (u : ℕ) → is_put_nowhere o ≡ true → is_put_nowhere (get_or es u None) ≡ true → is_put_nowhere (get_or (set es t o) u None) ≡ true
nowhere_set [] t o u h k = k
nowhere_set (e ∷ es) zero o zero h k = h
nowhere_set (e ∷ es) zero o (suc u) h k = k
nowhere_set (e ∷ es) (suc t) o zero h k = k
nowhere_set (e ∷ es) (suc t) o (suc u) h k = nowhere_set es t o u h k

apart_set : (es : Entries) (t : ℕ) (o : Option Entry) (u : ℕ) → (u ≡ t → ⊥) → get_or (set es t o) u None ≡ get_or es u None
apart_set [] t o u n = refl
apart_set (e ∷ es) zero o zero n = absurd (n refl)
apart_set (e ∷ es) zero o (suc u) n = refl
apart_set (e ∷ es) (suc t) o zero n = refl
apart_set (e ∷ es) (suc t) o (suc u) n = apart_set es t o u (λ is. n (ap suc is))

-- who waits nowhere waits nowhere still once a task has left its queue
pub removed_still : (s : QueueState) (t u : ℕ) → is_put_nowhere (entry_of s u) ≡ true → is_put_nowhere (entry_of (after_remove s t) u) ≡ true
removed_still s t u h = keeps_if (λ (q : QueueState). is_put_nowhere (entry_of q u) ≡ true) (is_some (entry_of s t)) (without_task s t) s (nowhere_set s.entries t None u refl h) h

without_still : (s : QueueState) (o : Option ℕ) (u : ℕ) → is_put_nowhere (entry_of s u) ≡ true → is_put_nowhere (entry_of (without s o) u) ≡ true
without_still s None u h = h
without_still s (Some t) u h = nowhere_set s.entries t None u refl h

pub popped_still : (s : QueueState) (id u : ℕ) → is_put_nowhere (entry_of s u) ≡ true → is_put_nowhere (entry_of (after_pop s id) u) ≡ true
popped_still s id u h = without_still s (front_of s id) u h

-- or a queue was created
pub created_still : (s : QueueState) (id u : ℕ) → is_put_nowhere (entry_of s u) ≡ true → is_put_nowhere (entry_of (after_create s id) u) ≡ true
created_still s id u h = keeps_if (λ (q : QueueState). is_put_nowhere (entry_of q u) ≡ true) (is_none (create_refusal s id)) (with_queue s id) s h h

-- once a task was pushed another one waits where it did
pub pushed_apart : (s : QueueState) (id t : ℕ) (r : Rank) (u : ℕ) → (u ≡ t → ⊥) → is_put_nowhere (entry_of s u) ≡ true → is_put_nowhere (entry_of (after_push s id t r) u) ≡ true
pushed_apart s id t r u n h =
    keeps_if (λ (q : QueueState). is_put_nowhere (entry_of q u) ≡ true) (is_none (push_refusal s id t r)) (with_entry s id t r) s
    (ap is_put_nowhere (apart_set s.entries t (Some (next_entry s id r)) u n) ∙ h) h

-- and who is held counts as put nowhere
pub pushed_held : (s : QueueState) (t : ℕ) (r : Rank) (u : ℕ) → is_put_nowhere (entry_of s u) ≡ true → is_put_nowhere (entry_of (after_push s held_queue t r) u) ≡ true
pushed_held s t r u h =
    keeps_if (λ (q : QueueState). is_put_nowhere (entry_of q u) ≡ true) (is_none (push_refusal s held_queue t r)) (with_entry s held_queue t r) s
    (nowhere_set s.entries t (Some (next_entry s held_queue r)) u refl h) h

-- ---- CPUs

-- neither of two is so
pub or_parts : (a b : Bool) → (a || b) ≡ false → (a ≡ false) × (b ≡ false)
or_parts true b e = absurd (bits true refl e)
or_parts false b e = (refl, e)

either_false : (a b : Bool) → a ≡ false → b ≡ false → (a || b) ≡ false
either_false a b e f = ap (λ (x : Bool). x || b) e ∙ f

-- who runs nowhere runs nowhere still once another task runs on a CPU, or none does
pub off_still : (u : ℕ) (cpus : List (Option ℕ)) (c : ℕ) (o : Option ℕ) → is_this u o ≡ false → runs_on u cpus ≡ false → runs_on u (set cpus c o) ≡ false
off_still u [] c o e h = h
off_still u (x ∷ xs) zero o e h = either_false (is_this u o) (runs_on u xs) e (or_parts (is_this u x) (runs_on u xs) h).1
off_still u (x ∷ xs) (suc c) o e h =
    let two = or_parts (is_this u x) (runs_on u xs) h in
    either_false (is_this u x) (runs_on u (set xs c o)) two.0 (off_still u xs c o e two.1)

pub another : (u t : ℕ) → (u ≡ t → ⊥) → is_this u (Some t) ≡ false
another u t n = go (u == t) refl
  where
    go : (b : Bool) → (u == t) ≡ b → b ≡ false
    go true e = absurd (n (eqb-true u t e))
    go false e = refl

-- ---- who is idle

idle_still : (a b b' c c' : Bool) → (b ≡ false → b' ≡ false) → (c ≡ true → c' ≡ true) → (a && (not b && c)) ≡ true → (a && (not b' && c')) ≡ true
idle_still true false b' true c' f g e = ap (λ (x : Bool). not x && c') (f refl) ∙ g refl
idle_still true false b' false c' f g e = absurd (bits false e refl)
idle_still true true b' c c' f g e = absurd (bits false e refl)
idle_still false b b' c c' f g e = absurd (bits false e refl)

-- who was idle is idle still where it runs nowhere still and is put nowhere still
pub still : (d : ℕ → Bool) (w : WorldState) (cpus : List (Option ℕ)) (s : QueueState) (u : ℕ) → (runs_on u w.cpus ≡ false → runs_on u cpus ≡ false)
    → (is_put_nowhere (entry_of w.queues u) ≡ true → is_put_nowhere (entry_of s u) ≡ true) → is_idle_of d w u ≡ true → is_idle_of d (record w { cpus = cpus; queues = s }) u ≡ true
still d w cpus s u off out e = idle_still (d u) (runs_on u w.cpus) (runs_on u cpus) (is_put_nowhere (entry_of w.queues u)) (is_put_nowhere (entry_of s u)) off out e

none_of : (a b c : Bool) → c ≡ false → (a && (b && c)) ≡ false
none_of true true c e = e
none_of true false c e = refl
none_of false b c e = refl

-- a task that waits in another queue than that of held tasks isn't idle
pub queued_busy : (d : ℕ → Bool) (w : WorldState) (t q : ℕ) → (q == held_queue) ≡ false → queue_of w.queues t ≡ Some q → is_idle_of d w t ≡ false
queued_busy d w t q other is = none_of (d t) (not (runs_on t w.cpus)) (is_put_nowhere (entry_of w.queues t)) (go (entry_of w.queues t) is)
  where
    same : {a b : ℕ} → Some a ≡ Some b → a ≡ b
    same e = cc

    go : (o : Option Entry) → option_map (λ (e : Entry). e.queue) o ≡ Some q → is_put_nowhere o ≡ false
    go None e = absurd (cc)
    go (Some x) e = ap (λ (n : ℕ). n == held_queue) (same e) ∙ other

-- nor is one that isn't one of those
pub out_busy : (d : ℕ → Bool) (w : WorldState) (t : ℕ) → d t ≡ false → is_idle_of d w t ≡ false
out_busy d w t e = ap (λ (b : Bool). b && is_idle w t) e

-- nor is it where it isn't idle at all
pub no_idler : (d : ℕ → Bool) (w : WorldState) (t : ℕ) → is_idle w t ≡ false → is_idle_of d w t ≡ false
no_idler d w t e = go (d t)
  where
    go : (b : Bool) → (b && is_idle w t) ≡ false
    go true = e
    go false = refl

-- a busy task isn't one that is idle
pub not_that : (d : ℕ → Bool) (w : WorldState) (t u : ℕ) → is_idle_of d w t ≡ false → is_idle_of d w u ≡ true → u ≡ t → ⊥
not_that d w t u busy idle is = bits (is_idle_of d w t) (subst (λ (k : ℕ). is_idle_of d w k ≡ true) is idle) busy

-- an insert gives a task a slice, or holds it, or the task isn't one of those
pub data MayEnter (d : ℕ → Bool) (t : ℕ) (i : Insert) : Type 0 where
  Given : (i.slice == 0) ≡ false → MayEnter d t i
  Held : i ≡ to_held → MayEnter d t i
  Out : d t ≡ false → MayEnter d t i

-- where no slice is left out, or the insert gives one
pub may_enter : (d : ℕ → Bool) (t : ℕ) (i : Insert) → IfAny d ((i.slice == 0) ≡ false) → MayEnter d t i
may_enter d t i (inl none) = Out (none t)
may_enter d t i (inr e) = Given e

-- ---- tasks of CPUs

this_one : (t : ℕ) (o : Option ℕ) → o ≡ Some t → is_this t o ≡ true
this_one t None e = absurd (cc)
this_one t (Some u) e = eq-eqb t u (sym (same e))
  where
    same : {a b : ℕ} → Some a ≡ Some b → a ≡ b
    same e = cc

either : (a b : Bool) → b ≡ true → (a || b) ≡ true
either true b e = refl
either false b e = e

first_or : (a b : Bool) → a ≡ true → (a || b) ≡ true
first_or a b e = ap (λ (x : Bool). x || b) e

-- the task of a CPU runs
pub on_that : (cpus : List (Option ℕ)) (c t : ℕ) → get_or cpus c None ≡ Some t → runs_on t cpus ≡ true
on_that [] c t e = absurd (cc)
on_that (o ∷ cpus) zero t e = first_or (is_this t o) (runs_on t cpus) (this_one t o e)
on_that (o ∷ cpus) (suc c) t e = either (is_this t o) (runs_on t cpus) (on_that cpus c t e)

at_that : (cpus : List (Option ℕ)) (c t : ℕ) → is_this t (get_or cpus c None) ≡ true → runs_on t cpus ≡ true
at_that [] c t e = absurd (cc)
at_that (o ∷ cpus) zero t e = first_or (is_this t o) (runs_on t cpus) e
at_that (o ∷ cpus) (suc c) t e = either (is_this t o) (runs_on t cpus) (at_that cpus c t e)

-- and so does one that has a CPU
pub on_one : (cpus : List (Option ℕ)) (t c : ℕ) → position (is_this t) cpus ≡ Some c → runs_on t cpus ≡ true
on_one cpus t c e = at_that cpus c t (position-Some (is_this t) cpus c None e).1

there : (cpus : List (Option ℕ)) (t : ℕ) → runs_on t cpus ≡ true → position_or_len (is_this t) cpus < length cpus
there [] t e = absurd (bits false e refl)
there (o ∷ cpus) t e = go (is_this t o) e (there cpus t)
  where
    go : (b : Bool) → (b || runs_on t cpus) ≡ true → (runs_on t cpus ≡ true → position_or_len (is_this t) cpus < length cpus) → cond (not b) (1 + position_or_len (is_this t) cpus) 0 < length (o ∷ cpus)
    go true is rest = omega arith
    go false is rest = let l = rest is in omega (arith, l)

found_on : (cpus : List (Option ℕ)) (t : ℕ) → runs_on t cpus ≡ true → position (is_this t) cpus ≡ None → ⊥
found_on cpus t e none = some_apart (position_or_len (is_this t) cpus) (sym (ap (λ (b : Bool). cond b (Some (position_or_len (is_this t) cpus)) None) (lt-ltb (position_or_len (is_this t) cpus) (length cpus) (there cpus t e))) ∙ none)
  where
    some_apart : (n : ℕ) → Some n ≡ None → ⊥
    some_apart n is = absurd (cc)

-- one that runs on none has none
pub none_on : (cpus : List (Option ℕ)) (t : ℕ) → position (is_this t) cpus ≡ None → runs_on t cpus ≡ false
none_on cpus t e = go (runs_on t cpus) refl
  where
    go : (b : Bool) → runs_on t cpus ≡ b → b ≡ false
    go false is = refl
    go true is = absurd (found_on cpus t is e)

-- of CPUs on none of which a task runs none is its own
none_there : (t : ℕ) (cpus : List (Option ℕ)) (c : ℕ) → runs_on t cpus ≡ false → is_this t (get_or cpus c None) ≡ false
none_there t [] c e = refl
none_there t (o ∷ cpus) zero e = (or_parts (is_this t o) (runs_on t cpus) e).0
none_there t (o ∷ cpus) (suc c) e = none_there t cpus c (or_parts (is_this t o) (runs_on t cpus) e).1

-- so a task that is idle has no CPU
pub off_cpus : (t : ℕ) (cpus : List (Option ℕ)) → runs_on t cpus ≡ false → position (is_this t) cpus ≡ None
off_cpus t cpus e = go (position (is_this t) cpus) refl
  where
    go : (o : Option ℕ) → position (is_this t) cpus ≡ o → o ≡ None
    go None is = refl
    go (Some c) is = absurd (bits (is_this t (get_or cpus c None)) (position-Some (is_this t) cpus c None is).1 (none_there t cpus c e))
