-- Ticks that end a slice, and those that only count it down.
use Rattle.std.proofs.Common.{◌≡◌, ℕ, zero, suc, Bool, true, false, cond, ◌==◌, List, [], ◌∷◌, length, set, get_or, refl, sym, ap, ◌∙◌, inl, inr}
use Rattle.scx_sched_tasks.specs.declared.task.Task.{Task}
use Rattle.scx_sched_tasks.specs.Tasks.{no_task}
use Rattle.scx_sched_world.specs.World.{WorldState, task_at}
use Rattle.scx_sched_world.specs.Tasks.{ran_a_tick, after_tick}
use Rattle.scx_explore_states.specs.Rows.{is_endless}
use Rattle.scx_explore_findings.specs.Counted.{uncounted_slice, uncounted, is_last, EndAlike}
use Rattle.scx_explore_findings.proofs.CountedRecords.{again, ran_same, endless_goes_on, length_same}
use Rattle.scx_explore_findings.proofs.CountedWorlds.{Same, read, ticked_same}

apart : (b : Bool) → b ≡ true → b ≡ false → ⊥
apart b x y = absurd (cc)

no : false ≡ true → ⊥
no e = absurd (cc)

-- ---- slices

-- of two slices that are the same but for that one never ends if the other one doesn't
endless_there : (m n : ℕ) → uncounted_slice m ≡ uncounted_slice n → is_endless m ≡ true → is_endless n ≡ true
endless_there m n same e = go (is_endless n) refl
  where
    go : (b : Bool) → is_endless n ≡ b → b ≡ true
    go true is = refl
    go false is =
        let here : uncounted_slice m ≡ 0xffff_ffff_ffff_ffff = ap (λ (c : Bool). cond c 0xffff_ffff_ffff_ffff 0) e in
        let there : uncounted_slice n ≡ 0 = ap (λ (c : Bool). cond c 0xffff_ffff_ffff_ffff 0) is in
        let never : false ≡ true = ap (λ (k : ℕ). k == 0xffff_ffff_ffff_ffff) (sym there ∙ sym same ∙ here) in
        absurd (no never)

-- ---- worlds

-- the records of a task are the same but for that
record_there : (v w : WorldState) (t : ℕ) → Same v w → uncounted (task_at v t) ≡ uncounted (task_at w t)
record_there v w t same = read uncounted again v t ∙ ap (λ (u : WorldState). uncounted (task_at u t)) same ∙ sym (read uncounted again w t)

lengths : (v w : WorldState) → Same v w → length v.tasks ≡ length w.tasks
lengths v w same = length_same v.tasks ∙ ap (λ (u : WorldState). length u.tasks) same ∙ sym (length_same w.tasks)

-- whether a slice has run out is said alike of two lists in which a record is changed
over_alike : (xs ys : List Task) (t : ℕ) (x y : Task) → length xs ≡ length ys → (x.slice == 0) ≡ (y.slice == 0) → ((get_or (set xs t x) t no_task).slice == 0) ≡ ((get_or (set ys t y) t no_task).slice == 0)
over_alike [] [] t x y l e = refl
over_alike [] (z ∷ ys) t x y l e = absurd (cc)
over_alike (z ∷ xs) [] t x y l e = absurd (cc)
over_alike (a ∷ xs) (b ∷ ys) zero x y l e = e
over_alike (a ∷ xs) (b ∷ ys) (suc t) x y l e = over_alike xs ys t x y (less l) e
  where
    less : suc (length xs) ≡ suc (length ys) → length xs ≡ length ys
    less is = cc

-- the tick only counts, as far as anything is left in
pub only_counted : (w : WorldState) (t : ℕ) → Same (after_tick w t) w
only_counted w t = ticked_same w t (ran_same (task_at w t))

-- where the next tick uses the slice of the task up in both worlds, or it never ends, it has run out after it in both, or in none
pub over_there : (v w : WorldState) (t : ℕ) → Same v w → EndAlike v w t → ((task_at (after_tick v t) t).slice == 0) ≡ ((task_at (after_tick w t) t).slice == 0)
over_there v w t same alike = over_alike v.tasks w.tasks t (ran_a_tick (task_at v t)) (ran_a_tick (task_at w t)) (lengths v w same) (go alike)
  where
    endless_too : is_endless (task_at v t).slice ≡ true → is_endless (task_at w t).slice ≡ true
    endless_too e = endless_there (task_at v t).slice (task_at w t).slice (ap (λ (x : Task). x.slice) (record_there v w t same)) e

    go : EndAlike v w t → is_last (task_at v t).slice ≡ is_last (task_at w t).slice
    go (inl e) = endless_goes_on (task_at v t).slice e ∙ sym (endless_goes_on (task_at w t).slice (endless_too e))
    go (inr e) = e.0 ∙ sym e.1

-- ---- a tick after which the task goes on

-- a task whose slice doesn't run out is there
pub changed : (xs : List Task) (t : ℕ) (y : Task) → is_last (get_or xs t no_task).slice ≡ false → get_or (set xs t y) t no_task ≡ y
changed [] t y e = absurd (apart true refl e)
changed (x ∷ xs) zero y e = refl
changed (x ∷ xs) (suc t) y e = changed xs t y e

-- its slice has not run out after the tick
pub goes_on : (w : WorldState) (t : ℕ) → is_last (task_at w t).slice ≡ false → ((task_at (after_tick w t) t).slice == 0) ≡ false
goes_on w t e = ap (λ (x : Task). x.slice == 0) (changed w.tasks t (ran_a_tick (task_at w t)) e) ∙ e
