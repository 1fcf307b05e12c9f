-- An event is refused where the rules refuse it, and nowhere else.
use Rattle.std.proofs.Common.{◌≡◌, ℕ, ◌<◌, ◌≤◌, Bool, true, false, ◌||◌, nat_lt, ◌⊎◌, inl, inr, if◌then◌else◌, length, Option, Some, None, refl, sym, ap, arith}
use Rattle.std.proofs.lemmas.Bool.{cases_lt}
use Rattle.scx_sched_world.specs.World.{is_runnable}
use Rattle.scx_sched_machine.specs.declared.events.Event.TheVariants.{Wake, Sleep, Tick, Clock, SetWeight, SetTaskWeight}
use Rattle.scx_sched_machine.specs.declared.events.Refused.{Refused}
use Rattle.scx_sched_machine.specs.declared.events.Refused.TheVariants.{AlreadyRunnable, NotRunnable, UnknownTask, UnknownCpu, UnknownGroup, BadWeight}
use Rattle.scx_sched_machine.specs.Steps.{State}
use Rattle.scx_weights.specs.Refusals.{max_weight, is_outside}
use Rattle.scx_sched_machine.specs.Events.{refusal}
use Rattle.scx_laws.specs.Refusals.{RefusesTask, NoTask, Already, IsWeight, RefusesWeight, NoGroup, NoWeight, RefusesTaskWeight, OfNoTask, OfNoWeight}
use Rattle.scx_laws.specs.Allowing.{RulesRefuseEvents, RulesRefuseEventsOnly}
use Rattle.scx_laws.proofs.Differing.{below, past}

abbrev or_else : Refused → Option Refused → Refused
or_else d None = d
or_else d (Some r) = r

is : (a b : Refused) → Some a ≡ Some b → b ≡ a
is a b e = sym (ap (λ o. or_else a o) e)

both : (b : Bool) → b ≡ true → b ≡ false → ⊥
both true x y = absurd (cc)
both false x y = absurd (cc)

-- ---- weights

pub good : (x : ℕ) → IsWeight x → is_outside max_weight x ≡ false
good x (low, high) = rw (past x 1 low, past 10000 x high) refl

pub bad : (x : ℕ) → (IsWeight x → ⊥) → is_outside max_weight x ≡ true
bad x n = go (cases_lt x 1) (cases_lt 10000 x)
  where
    go : (x < 1) ⊎ (1 ≤ x) → (10000 < x) ⊎ (x ≤ 10000) → (nat_lt x 1 || nat_lt 10000 x) ≡ true
    go (inl l) h = rw (below x 1 l) refl
    go (inr l) (inl h) = rw (past x 1 l, below 10000 x h) refl
    go (inr l) (inr h) = absurd (n (l, h))

-- one that isn't outside is a weight
pub is_weight : (x : ℕ) → is_outside max_weight x ≡ false → IsWeight x
is_weight x e = go (cases_lt x 1) (cases_lt 10000 x)
  where
    go : (x < 1) ⊎ (1 ≤ x) → (10000 < x) ⊎ (x ≤ 10000) → IsWeight x
    go (inr l) (inr h) = (l, h)
    go (inl l) h = absurd (both (is_outside max_weight x) (bad x (λ w. omega (arith, l, w.0))) e)
    go (inr l) (inl h) = absurd (both (is_outside max_weight x) (bad x (λ w. omega (arith, h, w.1))) e)

-- ---- what is refused is refused by the rules

none_is : (r : Refused) → None ≡ Some r → ⊥
none_is r e = absurd (cc)

wake : (s : State) (t : ℕ) (r : Refused) → refusal s (Wake t) ≡ Some r → RefusesTask s t true AlreadyRunnable r
wake s t r = go (cases_lt t (length s.world.tasks)) (is_runnable s.world t) refl
  where
    go : (t < length s.world.tasks) ⊎ (length s.world.tasks ≤ t) → (b : Bool) → is_runnable s.world t ≡ b
        → (if nat_lt t (length s.world.tasks) then (if b then Some AlreadyRunnable else None) else Some UnknownTask) ≡ Some r → RefusesTask s t true AlreadyRunnable r
    go (inl l) true k = rw (below t (length s.world.tasks) l) (λ e. Already l k (is AlreadyRunnable r e))
    go (inl l) false k = rw (below t (length s.world.tasks) l) (λ e. absurd (none_is r e))
    go (inr l) b k = rw (past t (length s.world.tasks) l) (λ e. NoTask l (is UnknownTask r e))

sleep : (s : State) (t : ℕ) (r : Refused) → refusal s (Sleep t) ≡ Some r → RefusesTask s t false NotRunnable r
sleep s t r = go (cases_lt t (length s.world.tasks)) (is_runnable s.world t) refl
  where
    go : (t < length s.world.tasks) ⊎ (length s.world.tasks ≤ t) → (b : Bool) → is_runnable s.world t ≡ b
        → (if nat_lt t (length s.world.tasks) then (if b then None else Some NotRunnable) else Some UnknownTask) ≡ Some r → RefusesTask s t false NotRunnable r
    go (inl l) true k = rw (below t (length s.world.tasks) l) (λ e. absurd (none_is r e))
    go (inl l) false k = rw (below t (length s.world.tasks) l) (λ e. Already l k (is NotRunnable r e))
    go (inr l) b k = rw (past t (length s.world.tasks) l) (λ e. NoTask l (is UnknownTask r e))

tick : (s : State) (c : ℕ) (r : Refused) → refusal s (Tick c) ≡ Some r → (length s.world.cpus ≤ c) × (r ≡ UnknownCpu)
tick s c r = go (cases_lt c (length s.world.cpus))
  where
    go : (c < length s.world.cpus) ⊎ (length s.world.cpus ≤ c) → (if nat_lt c (length s.world.cpus) then None else Some UnknownCpu) ≡ Some r → (length s.world.cpus ≤ c) × (r ≡ UnknownCpu)
    go (inl l) = rw (below c (length s.world.cpus) l) (λ e. absurd (none_is r e))
    go (inr l) = rw (past c (length s.world.cpus) l) (λ e. (l, is UnknownCpu r e))

weight : (s : State) (g x : ℕ) (r : Refused) → refusal s (SetWeight g x) ≡ Some r → RefusesWeight s g x r
weight s g x r = go (cases_lt g (length s.world.tree.groups)) (is_outside max_weight x) refl
  where
    go : (g < length s.world.tree.groups) ⊎ (length s.world.tree.groups ≤ g) → (b : Bool) → is_outside max_weight x ≡ b
        → (if nat_lt g (length s.world.tree.groups) then (if b then Some BadWeight else None) else Some UnknownGroup) ≡ Some r → RefusesWeight s g x r
    go (inl l) true k = rw (below g (length s.world.tree.groups) l) (λ e. NoWeight l (λ w. both (is_outside max_weight x) k (good x w)) (is BadWeight r e))
    go (inl l) false k = rw (below g (length s.world.tree.groups) l) (λ e. absurd (none_is r e))
    go (inr l) b k = rw (past g (length s.world.tree.groups) l) (λ e. NoGroup l (is UnknownGroup r e))

task_weight : (s : State) (t x : ℕ) (r : Refused) → refusal s (SetTaskWeight t x) ≡ Some r → RefusesTaskWeight s t x r
task_weight s t x r = go (cases_lt t (length s.world.tasks)) (is_outside max_weight x) refl
  where
    go : (t < length s.world.tasks) ⊎ (length s.world.tasks ≤ t) → (b : Bool) → is_outside max_weight x ≡ b
        → (if nat_lt t (length s.world.tasks) then (if b then Some BadWeight else None) else Some UnknownTask) ≡ Some r → RefusesTaskWeight s t x r
    go (inl l) true k = rw (below t (length s.world.tasks) l) (λ e. OfNoWeight l (λ w. both (is_outside max_weight x) k (good x w)) (is BadWeight r e))
    go (inl l) false k = rw (below t (length s.world.tasks) l) (λ e. absurd (none_is r e))
    go (inr l) b k = rw (past t (length s.world.tasks) l) (λ e. OfNoTask l (is UnknownTask r e))

-- where it is refused the rules refuse it
pub refuses : RulesRefuseEvents
refuses s (Wake t) r e = wake s t r e
refuses s (Sleep t) r e = sleep s t r e
refuses s (Tick c) r e = tick s c r e
refuses s Clock r e = none_is r e
refuses s (SetWeight g x) r e = weight s g x r e
refuses s (SetTaskWeight t x) r e = task_weight s t x r e

-- ---- and nothing else is

only_wake : (s : State) (t : ℕ) (r : Refused) → RefusesTask s t true AlreadyRunnable r → refusal s (Wake t) ≡ Some r
only_wake s t r (NoTask l k) = rw (past t (length s.world.tasks) l, k) refl
only_wake s t r (Already l x k) = rw (below t (length s.world.tasks) l, x, k) refl

only_sleep : (s : State) (t : ℕ) (r : Refused) → RefusesTask s t false NotRunnable r → refusal s (Sleep t) ≡ Some r
only_sleep s t r (NoTask l k) = rw (past t (length s.world.tasks) l, k) refl
only_sleep s t r (Already l x k) = rw (below t (length s.world.tasks) l, x, k) refl

only_weight : (s : State) (g x : ℕ) (r : Refused) → RefusesWeight s g x r → refusal s (SetWeight g x) ≡ Some r
only_weight s g x r (NoGroup l k) = rw (past g (length s.world.tree.groups) l, k) refl
only_weight s g x r (NoWeight l n k) = rw (below g (length s.world.tree.groups) l, bad x n, k) refl

only_task_weight : (s : State) (t x : ℕ) (r : Refused) → RefusesTaskWeight s t x r → refusal s (SetTaskWeight t x) ≡ Some r
only_task_weight s t x r (OfNoTask l k) = rw (past t (length s.world.tasks) l, k) refl
only_task_weight s t x r (OfNoWeight l n k) = rw (below t (length s.world.tasks) l, bad x n, k) refl

-- and where they do it is
pub only_refuses : RulesRefuseEventsOnly
only_refuses s (Wake t) r h = only_wake s t r h
only_refuses s (Sleep t) r h = only_sleep s t r h
only_refuses s (Tick c) r (l, k) = rw (past c (length s.world.cpus) l, k) refl
only_refuses s Clock r h = absurd h
only_refuses s (SetWeight g x) r h = only_weight s g x r h
only_refuses s (SetTaskWeight t x) r h = only_task_weight s t x r h
