-- How long each task has run once it lacks one tick at most, by what is remembered of it.
use Rattle.std.proofs.Common.{◌≡◌, ℕ, zero, suc, ◌+◌, ◌-◌, ◌*◌, ◌^◌, ◌<◌, ◌≤◌, min, ◌==◌, nat_le, true, false, List, [], ◌∷◌, length, set, get_or, map, replicate, refl, ap, arith}
use Rattle.std.proofs.lemmas.Bool.{ne_eqb, le-leb}
use Rattle.scx_sched_world.specs.Tasks.{tick_ns}
use Rattle.scx_load_workloads.specs.declared.workload.Timing.{Timing}
use Rattle.scx_load_workloads.specs.Workload.{timing_at}
use Rattle.scx_load_driver.specs.Watch.{last_tick, last_ticks_of}

-- as many as there are tasks
pub length_last : (ts : List Timing) (rs : List ℕ) → length (last_ticks_of ts rs) ≡ length ts
length_last [] rs = refl
length_last (t ∷ ts) [] = ap suc (length_last ts [])
length_last (t ∷ ts) (r ∷ rs) = ap suc (length_last ts rs)

-- each by its task
pub last_at : (ts : List Timing) (rs : List ℕ) (k : ℕ) → k < length ts → get_or (last_ticks_of ts rs) k 0 ≡ last_tick (timing_at ts k).run (get_or rs k 0)
last_at [] rs k l = absurd (omega (arith, l))
last_at (t ∷ ts) [] zero l = refl
last_at (t ∷ ts) (r ∷ rs) zero l = refl
last_at (t ∷ ts) [] (suc k) l = last_at ts [] k (omega (arith, l))
last_at (t ∷ ts) (r ∷ rs) (suc k) l = last_at ts rs k (omega (arith, l))

-- a task of which another time is remembered
pub last_set : (ts : List Timing) (rs : List ℕ) (k x : ℕ) → k < length ts → k < length rs → set (last_ticks_of ts rs) k (last_tick (timing_at ts k).run x) ≡ last_ticks_of ts (set rs k x)
last_set [] rs k x l m = absurd (omega (arith, l))
last_set (t ∷ ts) [] k x l m = absurd (omega (arith, m))
last_set (t ∷ ts) (r ∷ rs) zero x l m = refl
last_set (t ∷ ts) (r ∷ rs) (suc k) x l m = ap (λ xs. last_tick t.run r ∷ xs) (last_set ts rs k x (omega (arith, l)) (omega (arith, m)))

-- while none has run
pub first_last : (ts : List Timing) → map (λ (t : Timing). last_tick t.run 0) ts ≡ last_ticks_of ts (replicate (length ts) 0)
first_last [] = refl
first_last (t ∷ ts) = ap (λ xs. last_tick t.run 0 ∷ xs) (first_last ts)

least_within : (most run long before after : ℕ) → 0 < run → tick_ns * run ≤ after - long → after ≤ before + tick_ns → min most (long + tick_ns * (run - 1)) ≤ before
least_within most run long before after some much grown = omega (arith, some, much, grown)

-- whoever has run enough after one tick more had run so long
pub lacking : (run long before after : ℕ) → 0 < run → tick_ns * run ≤ after - long → after ≤ before + tick_ns → nat_le (last_tick run long) before ≡ true
lacking run long before after some much grown =
    let off : (run == 0) ≡ false = ne_eqb run 0 (λ e. absurd (omega (arith, e, some))) in
    rw off (le-leb (min (2 ^ 64 - 1) (long + tick_ns * (run - 1))) before (least_within (2 ^ 64 - 1) run long before after some much grown))
