-- The record of a task that has run for some milliseconds.
use Rattle.std.proofs.Common.{◌≡◌, ℕ, zero, suc, ◌+◌, ◌-◌, ◌*◌, ◌<◌, ◌≤◌, ◌^◌, Bool, true, false, ◌==◌, if◌then◌else◌, Option, refl, sym, ap, ◌∙◌, arith}
use Rattle.std.proofs.lemmas.Bool.Decides.{nat_tests}
use Rattle.scx_sched_tasks.specs.declared.task.Task.{Task}
use Rattle.scx_sched_tasks.specs.Tasks.{after_ms, after_many}

-- it waits as before
pub many_waits : (n : ℕ) (x : Task) → (after_many n x).since ≡ x.since
many_waits zero x = refl
many_waits (suc n) x = many_waits n x

-- for one number of milliseconds and then for another
pub many_more : (n m : ℕ) (x : Task) → after_many m (after_many n x) ≡ after_many (m + n) x
many_more n zero x = let none : n ≡ 0 + n = omega arith in ap (λ k. after_many k x) none
many_more n (suc m) x = let one : suc (m + n) ≡ suc m + n = omega arith in ap after_ms (many_more n m x) ∙ ap (λ k. after_many k x) one

-- how long it has run
pub many_ran : (n : ℕ) (x : Task) → (after_many n x).run_ns ≡ x.run_ns + n * 1000000
many_ran zero x = omega arith
many_ran (suc n) x = omega (arith, many_ran n x)

-- no less is left of its slice than the slice less that time
pub many_left : (n : ℕ) (x : Task) → x.slice ≤ (after_many n x).slice + n * 1000000
many_left zero x = omega arith
many_left (suc n) x = omega (arith, many_left n x, one (after_many n x).slice)
  where
    one : (s : ℕ) → s ≤ (if s == 0xffff_ffff_ffff_ffff then s else s - 1000000) + 1000000
    one s = go (s == 0xffff_ffff_ffff_ffff)
      where
        go : (b : Bool) → s ≤ (if b then s else s - 1000000) + 1000000
        go true = omega arith
        go false = omega arith

-- all at once: a slice of 2^64 - 1 stays as it is
pub many_endless : (n : ℕ) (x : Task) → x.slice ≡ 2 ^ 64 - 1 → record x { run_ns = x.run_ns + n * 1000000 } ≡ after_many n x
many_endless n x e = sym (go n)
  where
    full : (x.slice == 0xffff_ffff_ffff_ffff) ≡ true
    full = grind (arith, nat_tests, e)

    go : (n : ℕ) → after_many n x ≡ record x { run_ns = x.run_ns + n * 1000000 }
    go zero = let none : x.run_ns ≡ x.run_ns + 0 * 1000000 = omega arith in λ i. record x { run_ns = none i }
    go (suc n) =
        let more : x.run_ns + n * 1000000 + 1000000 ≡ x.run_ns + suc n * 1000000 = omega arith in
        ap after_ms (go n)
        ∙ ap (λ b. record x { slice = if b then x.slice else x.slice - 1000000; run_ns = x.run_ns + n * 1000000 + 1000000 }) full
        ∙ (λ i. record x { run_ns = more i })

-- and another one gets shorter
pub many_shorter : (n : ℕ) (x : Task) → x.slice < 2 ^ 64 - 1 → record x { slice = x.slice - n * 1000000; run_ns = x.run_ns + n * 1000000 } ≡ after_many n x
many_shorter n x lt = sym (go n)
  where
    less : (n : ℕ) → ((x.slice - n * 1000000) == 0xffff_ffff_ffff_ffff) ≡ false
    less n = grind (arith, nat_tests, lt)

    go : (n : ℕ) → after_many n x ≡ record x { slice = x.slice - n * 1000000; run_ns = x.run_ns + n * 1000000 }
    go zero =
        let slice : x.slice ≡ x.slice - 0 * 1000000 = omega arith in
        let none : x.run_ns ≡ x.run_ns + 0 * 1000000 = omega arith in
        λ i. record x { slice = slice i; run_ns = none i }
    go (suc n) =
        let slice : x.slice - n * 1000000 - 1000000 ≡ x.slice - suc n * 1000000 = omega arith in
        let more : x.run_ns + n * 1000000 + 1000000 ≡ x.run_ns + suc n * 1000000 = omega arith in
        ap after_ms (go n)
        ∙ ap (λ b. record x { slice = if b then x.slice - n * 1000000 else x.slice - n * 1000000 - 1000000; run_ns = x.run_ns + n * 1000000 + 1000000 }) (less n)
        ∙ (λ i. record x { slice = slice i; run_ns = more i })
