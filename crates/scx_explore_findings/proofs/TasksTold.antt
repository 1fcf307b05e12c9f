-- The parts of the record of a task that are kept tell the record.
use Rattle.std.proofs.Common.{◌≡◌, ℕ, suc, ◌-◌, ◌<◌, ◌≤◌, Bool, true, false, List, [], ◌∷◌, length, get_or, Option, Some, None, is_some, refl, sym, ap, ◌∙◌, subst, arith}
use Rattle.scx_sched_tasks.specs.declared.task.Task.{Task}
use Rattle.scx_sched_tasks.specs.Waits.{time_since}
use Rattle.scx_explore_findings.specs.WholeForms.{IsSince}

-- true is so
abbrev IsSo : Bool → Type 0
IsSo true = Unit {0}
IsSo false = ⊥

false_isnt_so : false ≡ true → ⊥
false_isnt_so e = subst IsSo (sym e) tt

-- since when it waits
pub since_told : (now : ℕ) (a b : Option ℕ) → IsSince now a → IsSince now b → is_some a ≡ is_some b → time_since now a ≡ time_since now b → a ≡ b
since_told now None None la lb e w = refl
since_told now None (Some n) la lb e w = absurd (false_isnt_so e)
since_told now (Some n) None la lb e w = absurd (false_isnt_so (sym e))
since_told now (Some n) (Some m) la lb e w =
    let first : n ≤ now = la in
    let second : m ≤ now = lb in
    let waits : now - n ≡ now - m = w in
    let is : n ≡ m = omega (arith, first, second, waits) in
    ap (λ (x : ℕ). Some x) is

-- all of its record
pub task_told : (x y : Task) → x.since ≡ y.since → x.slice ≡ y.slice → x.vtime ≡ y.vtime → x.prev_cpu ≡ y.prev_cpu → x.run_ns ≡ y.run_ns → x.builtin ≡ y.builtin → x ≡ y
task_told x y since slice vtime home run builtin =
    λ i. record { since = since i; slice = slice i; vtime = vtime i; prev_cpu = home i; run_ns = run i; builtin = builtin i }

-- the records of as many tasks that are the same one by one
pub tasks_told : (d : Task) (xs ys : List Task) → length xs ≡ length ys → ((t : ℕ) → t < length xs → get_or xs t d ≡ get_or ys t d) → xs ≡ ys
tasks_told d [] [] n e = refl
tasks_told d [] (y ∷ ys) n e = absurd (omega (arith, n))
tasks_told d (x ∷ xs) [] n e = absurd (omega (arith, n))
tasks_told d (x ∷ xs) (y ∷ ys) n e =
    ap (λ (o : Task). o ∷ xs) (e 0 (omega arith)) ∙ ap (λ (l : List Task). y ∷ l) (tasks_told d xs ys (omega (arith, n)) (λ t l. e (suc t) (omega (arith, l))))
