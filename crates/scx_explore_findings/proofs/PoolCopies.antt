-- Machines that take over from one another.
use Rattle.std.proofs.Common.{◌≡◌, ℕ, zero, suc, ◌+◌, ◌<◌, List, [], ◌∷◌, ◌++◌, length, take, drop, set, get_or, All, refl, sym, ap, ◌∙◌, subst, arith}
use Rattle.std.proofs.lemmas.List.{get_or-take, get_or-drop, get_or_default, take-append-drop}
use Rattle.std.proofs.lemmas.List.Elements.{All-get_or, All-set}
use Rattle.scx_sched.specs.Sim.{SimState}
use Rattle.scx_explore_findings.specs.Path.{IsAs, last_of}
use Rattle.scx_explore_findings.proofs.ListMachines.{put_in}

-- the part before with another machine in it, and the part from there on
pub put_before : (xs : List SimState) (n k : ℕ) (x : SimState) → k < n → set (take n xs) k x ++ drop n xs ≡ set xs k x
put_before xs zero k x l = absurd (omega (arith, l))
put_before [] (suc n) zero x l = refl
put_before [] (suc n) (suc k) x l = refl
put_before (y ∷ ys) (suc n) zero x l = ap (λ (zs : List SimState). x ∷ zs) (take-append-drop n ys)
put_before (y ∷ ys) (suc n) (suc k) x l = ap (λ (zs : List SimState). y ∷ zs) (put_before ys n k x (omega (arith, l)))

-- the first machine of the part from there on is the one there
pub first_behind : (xs : List SimState) (n : ℕ) (d e : SimState) → n < length xs → get_or (drop n xs) 0 d ≡ get_or xs n e
first_behind xs n d e l =
    let at : n + 0 ≡ n = omega arith in
    get_or-drop n xs 0 d ∙ (ap (λ (k : ℕ). get_or xs k d) at ∙ get_or_default xs n d e l)

-- a machine of the part before is that one
pub one_before : (xs : List SimState) (n k : ℕ) (d e : SimState) → k < n → n < length xs → get_or (take n xs) k d ≡ get_or xs k e
one_before xs n k d e l m = get_or-take n xs k d l ∙ get_or_default xs k d e (omega (arith, l, m))

-- a machine that is put at the first place of the part from there on
pub put_up : (xs front rest : List SimState) (n : ℕ) (x : SimState) → front ≡ take n xs → rest ≡ drop n xs → front ++ set rest 0 x ≡ set xs n x
put_up xs front rest n x first second =
    ap (λ (ts : List SimState). ts ++ set rest 0 x) first ∙ (ap (λ (ts : List SimState). take n xs ++ set ts 0 x) second ∙ put_in xs n x)

-- or into the part before
pub put_down : (xs front rest : List SimState) (n k : ℕ) (x : SimState) → front ≡ take n xs → rest ≡ drop n xs → k < n → set front k x ++ rest ≡ set xs k x
put_down xs front rest n k x first second l =
    ap (λ (ts : List SimState). set ts k x ++ rest) first ∙ (ap (λ (ts : List SimState). set (take n xs) k x ++ ts) second ∙ put_before xs n k x l)

-- a machine that is taken over from the part before
pub taken_before : (xs front : List SimState) (n k : ℕ) (x d e : SimState) → front ≡ take n xs → k < n → n < length xs → x ≡ get_or front k d → x ≡ get_or xs k e
taken_before xs front n k x d e first l m is = is ∙ (ap (λ (ts : List SimState). get_or ts k d) first ∙ one_before xs n k d e l m)

-- or the first one of the part from there on
pub taken_behind : (xs rest : List SimState) (n : ℕ) (x d e : SimState) → rest ≡ drop n xs → n < length xs → x ≡ get_or rest 0 d → x ≡ get_or xs n e
taken_behind xs rest n x d e second l is = is ∙ (ap (λ (ts : List SimState). get_or ts 0 d) second ∙ first_behind xs n d e l)

-- where a machine becomes one of them, all are alike still
pub copied_all : (root : SimState) (sims xs : List SimState) (from to : ℕ) (x : SimState) → from < length sims → x ≡ get_or sims from root → xs ≡ set sims to x → All (IsAs root) sims → All (IsAs root) xs
copied_all root sims xs from to x l is made all =
    subst (λ (ts : List SimState). All (IsAs root) ts) (sym made)
    (All-set (IsAs root) sims to x (subst (λ (s : SimState). IsAs root s) (sym is) (All-get_or (IsAs root) sims from root l all)) all)

-- the last machine of the part before
pub last_there : (root : SimState) (xs front : List SimState) (n : ℕ) (s : SimState) → front ≡ take n xs → s ≡ last_of root front → s ≡ last_of root (take n xs)
last_there root xs front n s first is = is ∙ ap (λ (ts : List SimState). last_of root ts) first
