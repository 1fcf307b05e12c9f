-- Room for rows of ticks.
use Rattle.std.proofs.Common.{◌≡◌, ℕ, ◌+◌, ◌<◌, ◌≤◌, max, Bool, true, false, Option, Some, None, length, if◌then◌else◌, sym, subst, arith, ⊎_elim}
use Rattle.std.proofs.lemmas.Bool.{cases_eq}
use Rattle.scx_sched_world.specs.World.{WorldState, running, task_at}
use Rattle.scx_sched_machine.specs.declared.events.Event.{Event}
use Rattle.scx_sched_machine.specs.declared.events.Event.TheVariants.{Wake, Sleep, Tick, Clock, SetWeight, SetTaskWeight}
use Rattle.scx_sched.specs.Sim.{SimState}
use Rattle.scx_explore_states.specs.Rows.{is_endless}
use Rattle.scx_explore_states.specs.Ticks.{ticks_of, times}
use Rattle.scx_explore_bounds.specs.Repeats.{times_in}
use Rattle.scx_explore_states.specs.declared.form.Form.{Form}
use Rattle.scx_explore_findings.specs.Path.{PathState, machine_of}
use Rattle.scx_explore_audit.specs.declared.table.Moves.{Moves}
use Rattle.scx_explore_audit.specs.Closed.{HasRoomForRows}

-- ---- how often

-- a slice lasts a tick at least
lasts_one : (b : Bool) (n : ℕ) → 1 ≤ (if b then 1 else max n 1)
lasts_one true n = omega arith
lasts_one false n = omega arith

-- one comes at least on a CPU
on_one : (w : WorldState) (o : Option ℕ) → 1 ≤ ticks_of w o
on_one w None = omega arith
on_one w (Some t) = lasts_one (is_endless (task_at w t).slice) _

-- each event comes at least once
comes_once : (s : SimState) (e : Event) → 1 ≤ times s e
comes_once s (Wake t) = omega arith
comes_once s (Sleep t) = omega arith
comes_once s (Tick c) = on_one s.state.world (running s.state.world c)
comes_once s Clock = omega arith
comes_once s (SetWeight g w) = omega arith
comes_once s (SetTaskWeight t w) = omega arith

pub one_at_least : {n : ℕ} (b : Bool) (s : SimState) (e : Event) → n ≡ times_in b s e → 1 ≤ n
one_at_least {n} b s e is = subst (λ (k : ℕ). 1 ≤ k) (sym is) (go b)
  where
    go : (b : Bool) → 1 ≤ times_in b s e
    go true = omega arith
    go false = comes_once s e

-- ---- room

-- the ticks of CPUs so far fit
abbrev pub TicksFit : PathState → ℕ → Type 0
TicksFit p n = (k : ℕ) → k < n → length p.events + times (machine_of p) (Tick k) ≤ p.room

-- before the first CPU
pub none_fit : (p : PathState) → TicksFit p 0
none_fit p k few = absurd (omega (arith, few))

-- and one more
pub one_fits : (p : PathState) (n : ℕ) → TicksFit p n → length p.events + times (machine_of p) (Tick n) ≤ p.room → TicksFit p (n + 1)
one_fits p n before here k few =
    ⊎_elim (λ (e : k ≡ n). subst (λ (j : ℕ). length p.events + times (machine_of p) (Tick j) ≤ p.room) (sym e) here)
    (λ (e : k ≡ n → ⊥). before k (omega (arith, e, few)))
    (cases_eq k n)

-- where slices are kept there is nothing to fit
pub kept_fit : (f : Form) (moves : Moves) (root : SimState) (room n : ℕ) (s : SimState) → f.slices ≡ true → HasRoomForRows f moves root room n s
kept_fit f moves root room n s kept left events e tried = absurd (never f.slices kept left)
  where
    never : (b : Bool) → b ≡ true → b ≡ false → ⊥
    never b x y = absurd (cc)

-- where those of all CPUs fit, each row does
pub all_fit : (f : Form) (moves : Moves) (p : PathState) (cpus : ℕ) → cpus ≡ length p.root.state.world.cpus → length p.events < p.room → TicksFit p cpus → HasRoomForRows f moves p.root p.room (length p.events) (machine_of p)
all_fit f moves p cpus all few ticks left events (Wake t) tried = omega (arith, few)
all_fit f moves p cpus all few ticks left events (Sleep t) tried = omega (arith, few)
all_fit f moves p cpus all few ticks left events (Tick k) tried = ticks k (omega (arith, tried, all))
all_fit f moves p cpus all few ticks left events Clock tried = omega (arith, few)
all_fit f moves p cpus all few ticks left events (SetWeight g w) tried = absurd tried
all_fit f moves p cpus all few ticks left events (SetTaskWeight t w) tried = absurd tried
