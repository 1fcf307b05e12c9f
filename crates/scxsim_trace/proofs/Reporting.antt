-- How much of a report was written.
use Rattle.std.proofs.Common.{◌≡◌, ℕ, ◌+◌, ◌<◌, ◌≤◌, List, [], ◌∷◌, ◌++◌, length, take, drop, get_or, sum, sym, ap, ◌∙◌, append_assoc, subst, Option, Result, Ok, Err, arith}
use Rattle.std.proofs.lemmas.List.{take_more, take-append-drop, append-nil, length-take-le, take_all}
use Rattle.std.specs.Prelude.{OnErr}
use Rattle.std.specs.Io.KnownBytes.{Appends}
use Rattle.scxsim_output.specs.Output.{AppendsBeginning}
use Rattle.scxsim_output.proofs.Growth.{grows_twice}
use Rattle.scxsim_trace.specs.Lines.{NameLists, task_name}
use Rattle.scx_sched_world.specs.declared.eject.Eject.{Eject}
use Rattle.scxsim_trace.specs.Report.{task_line, task_lines, total_line, policy_line, report}
use Rattle.scxsim_output.proofs.Beginnings.{beginning_of_more, beginning_behind}

task_lines-append : (x : NameLists) (total t : ℕ) (xs ys : List ℕ) → task_lines x total t (xs ++ ys) ≡ task_lines x total t xs ++ task_lines x total (t + length xs) ys
task_lines-append x total t [] ys = ap (λ n. task_lines x total n ys) (omega arith)
task_lines-append x total t (m ∷ ms) ys =
    ap (λ text. task_line (task_name x t) m total ++ text) (task_lines-append x total (t + 1) ms ys ∙ ap (λ n. task_lines x total (t + 1) ms ++ task_lines x total n ys) (omega arith))
    ∙ sym (append_assoc (task_line (task_name x t) m total) (task_lines x total (t + 1) ms) (task_lines x total (t + length (m ∷ ms)) ys))

-- one line more
pub one_line_more : (x : NameLists) (total : ℕ) (all : List ℕ) (k : ℕ) → k < length all
    → task_lines x total 0 (take (k + 1) all) ≡ task_lines x total 0 (take k all) ++ task_line (task_name x k) (get_or all k 0) total
one_line_more x total all k within =
    let long : 0 + length (take k all) ≡ k = omega (arith, length-take-le k all (omega (arith, within))) in
    ap (task_lines x total 0) (take_more all k 0 within) ∙ task_lines-append x total 0 (take k all) (get_or all k 0 ∷ [])
    ∙ ap (λ n. task_lines x total 0 (take k all) ++ task_lines x total n (get_or all k 0 ∷ [])) long
    ∙ ap (λ text. task_lines x total 0 (take k all) ++ text) (append-nil (task_line (task_name x k) (get_or all k 0) total))

-- the text after the first lines
pub lines_and_rest : (x : NameLists) (total : ℕ) (all : List ℕ) (k : ℕ)
    → task_lines x total 0 all ≡ task_lines x total 0 (take k all) ++ task_lines x total (0 + length (take k all)) (drop k all)
lines_and_rest x total all k =
    ap (task_lines x total 0) (sym (take-append-drop k all)) ∙ task_lines-append x total 0 (take k all) (drop k all)

-- the lines of the first tasks, and one more
pub written_more : (x : NameLists) (total : ℕ) (all : List ℕ) (k ms : ℕ) (a b c : Option (List ℕ)) → k < length all → ms ≡ get_or all k 0
    → Appends a b (task_lines x total 0 (take k all)) → Appends b c (task_line (task_name x k) ms total) → Appends a c (task_lines x total 0 (take (k + 1) all))
written_more x total all k ms a b c within is first next =
    let P : List ℕ → Type 0 = λ text. Appends a c text in
    let Q : ℕ → Type 0 = λ m. Appends b c (task_line (task_name x k) m total) in
    subst P (sym (one_line_more x total all k within)) (grows_twice a b c _ _ first (subst Q is next))

-- the lines of all tasks
all_lines : (x : NameLists) (all : List ℕ) (k : ℕ) (a b : Option (List ℕ)) → length all ≤ k → Appends a b (task_lines x (sum all) 0 (take k all)) → Appends a b (task_lines x (sum all) 0 all)
all_lines x all k a b past first =
    let P : List ℕ → Type 0 = λ ms. Appends a b (task_lines x (sum all) 0 ms) in
    subst P (take_all k all past) first

-- and the line after them
lines_and_total : (x : NameLists) (all : List ℕ) (k : ℕ) (a b c : Option (List ℕ)) → length all ≤ k
    → Appends a b (task_lines x (sum all) 0 (take k all)) → Appends b c (total_line (sum all)) → Appends a c (task_lines x (sum all) 0 all ++ total_line (sum all))
lines_and_total x all k a b c past first next = grows_twice a b c (task_lines x (sum all) 0 all) (total_line (sum all)) (all_lines x all k a b past first) next

-- a report that is cut off in its last line
pub cut_at_end : (x : NameLists) (all : List ℕ) (k : ℕ) (o : Option Eject) (a b c d : Option (List ℕ)) → length all ≤ k
    → Appends a b (task_lines x (sum all) 0 (take k all)) → Appends b c (total_line (sum all)) → AppendsBeginning c d (policy_line x o) → AppendsBeginning a d (report x all o)
cut_at_end x all k o a b c d past first next last =
    beginning_behind a c d (task_lines x (sum all) 0 all ++ total_line (sum all)) (policy_line x o) (lines_and_total x all k a b c past first next) last

-- what follows in the case of an error
pub on_err : {A E P Q : Type 0} (r : Result A E) → (P → Q) → OnErr r P → OnErr r Q
on_err (Ok x) f h = h
on_err (Err e) f h = f h

-- a report that is cut off in the line before
pub cut_in_total : (x : NameLists) (all : List ℕ) (k : ℕ) (o : Option Eject) (a b c : Option (List ℕ)) → length all ≤ k
    → Appends a b (task_lines x (sum all) 0 (take k all)) → AppendsBeginning b c (total_line (sum all)) → AppendsBeginning a c (report x all o)
cut_in_total x all k o a b c past first next =
    beginning_of_more a c (task_lines x (sum all) 0 all ++ total_line (sum all)) (policy_line x o)
    (beginning_behind a b c (task_lines x (sum all) 0 all) (total_line (sum all)) (all_lines x all k a b past first) next)

-- a report that is cut off in the line of a task
pub cut_in_line : (x : NameLists) (all : List ℕ) (k ms : ℕ) (o : Option Eject) (a b c : Option (List ℕ)) → k < length all → ms ≡ get_or all k 0
    → Appends a b (task_lines x (sum all) 0 (take k all)) → AppendsBeginning b c (task_line (task_name x k) ms (sum all)) → AppendsBeginning a c (report x all o)
cut_in_line x all k ms o a b c within is first next =
    let P : List ℕ → Type 0 = λ text. AppendsBeginning a c text in
    let Q : ℕ → Type 0 = λ m. AppendsBeginning b c (task_line (task_name x k) m (sum all)) in
    let more = take (k + 1) all in
    let behind = beginning_behind a b c _ _ first (subst Q is next) in
    let lines = subst P (sym (one_line_more x (sum all) all k within)) behind in
    let with_rest = beginning_of_more a c (task_lines x (sum all) 0 more) _ lines in
    let tasks = subst P (sym (lines_and_rest x (sum all) all (k + 1))) with_rest in
    beginning_of_more a c (task_lines x (sum all) 0 all ++ total_line (sum all)) (policy_line x o) (beginning_of_more a c (task_lines x (sum all) 0 all) (total_line (sum all)) tasks)
