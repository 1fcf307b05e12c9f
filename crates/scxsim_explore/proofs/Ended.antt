-- The end of a search.
use Rattle.std.proofs.Common.{◌≡◌, ℕ, ◌+◌, ◌-◌, ◌^◌, ◌≤◌, min, List, [], ◌∷◌, ◌++◌, Bool, true, false, Option, Some, None, Result, Ok, Err, inl, inr, ◌⊎◌, refl, ap, sym, ◌∙◌, subst}
use Rattle.std.proofs.lemmas.List.Elements.{All-push}
use Rattle.std.proofs.KnownBytes.{Appends-trans}
use Rattle.std.specs.Prelude.{All, IfOk, IfSome, IsSome, unwrap_or}
use Rattle.std.specs.Io.KnownBytes.{Appends}
use Rattle.scx_load_workloads.specs.Workload.{WorkloadState}
use Rattle.scx_sched.specs.Sim.{SimState}
use Rattle.scx_explore_findings.specs.declared.finding.Sort.{Sort}
use Rattle.scx_explore_bounds.specs.declared.bounds.Bounds.{Bounds}
use Rattle.scx_explore_states.specs.declared.form.Form.{Form}
use Rattle.scx_explore_audit.specs.declared.table.Moves.{Moves}
use Rattle.scx_explore.specs.declared.course.End.{End}
use Rattle.scx_explore.specs.declared.course.End.TheVariants.{Ended, At, Full}
use Rattle.scx_explore.specs.declared.progress.Level.{Level}
use Rattle.scx_explore.specs.declared.starts.Starts.{Starts}
use Rattle.scx_explore.specs.Ends.{HasNoNew, IsEndOf, done_of}
use Rattle.scxsim_explore_lines.specs.Found.{ToldList}
use Rattle.scxsim_explore_lines.specs.Summary.{Depths, Nones, memory_line, search_text}
use Rattle.scxsim_explore.specs.Telling.{AreApart, CantBeLooked, HasNoChanges, IsGoneThrough, IsReach, IsShown, IsSure, IsThrough, IsTold, MayBeLooked, moves_of}
use Rattle.scxsim_explore.specs.Lists.{HasLists, IsKept}
use Rattle.scxsim_explore.specs.Unfound.{concluded, misfit_of, reach_of}

-- ---- of which lists it is said

at_end : (b : Bounds) (last : Option Level) (end : End) → reach_of end ≡ None → IsEndOf b last end → HasNoNew last
at_end b last Ended none is = is
at_end b last (At depth) none is = absurd (cc)
at_end b last (Full depth) none is = absurd (cc)

at_depth : (b : Bounds) (c : Depths) (end : End) (depth : ℕ) → c.misfit ≡ misfit_of end → IsEndOf b c.last end → reach_of end ≡ Some depth → (depth ≡ done_of c.last) × IsThrough b c depth
at_depth b c Ended depth misfit is some = absurd (cc)
at_depth b c (At deep) depth misfit (done, far) some =
    let same : deep ≡ depth = ap (λ (o : Option ℕ). unwrap_or o 0) some in
    (sym same ∙ done, inl (subst (λ n. b.depth ≤ n) same far))
at_depth b c (Full deep) depth misfit done some =
    let same : deep ≡ depth = ap (λ (o : Option ℕ). unwrap_or o 0) some in
    (sym same ∙ done, inr (inl (subst IsSome (sym misfit) refl)))

misfit_at : (b : Bounds) (c : Depths) (end : End) → c.misfit ≡ misfit_of end → IsEndOf b c.last end → IfSome c.misfit (λ depth. depth ≡ min (done_of c.last + 1) (2 ^ 64 - 1))
misfit_at b c Ended misfit is = subst (λ (o : Option ℕ). IfSome o (λ depth. depth ≡ min (done_of c.last + 1) (2 ^ 64 - 1))) (sym misfit) tt
misfit_at b c (At deep) misfit is = subst (λ (o : Option ℕ). IfSome o (λ depth. depth ≡ min (done_of c.last + 1) (2 ^ 64 - 1))) (sym misfit) tt
misfit_at b c (Full deep) misfit is =
    subst (λ (o : Option ℕ). IfSome o (λ depth. depth ≡ min (done_of c.last + 1) (2 ^ 64 - 1))) (sym misfit) (ap (λ n. min (n + 1) (2 ^ 64 - 1)) is)

if_some : (o : Option ℕ) (P Q : ℕ → Type 0) → ((n : ℕ) → P n → Q n) → IfSome o P → IfSome o Q
if_some None P Q f h = h
if_some (Some n) P Q f h = f n h

reach_is : (b : Bounds) (w : WorkloadState) (c : Depths) (n : Nones) (end : End) → c.misfit ≡ misfit_of end → IsEndOf b c.last end
    → (n.reach ≡ None → reach_of end ≡ None) → (n.reach ≡ None → IsSome n.again ⊎ CantBeLooked b w)
    → IfSome n.reach (λ depth. (reach_of end ≡ Some depth) ⊎ ((reach_of end ≡ None) × (depth ≡ done_of c.last))) → IsReach b w c n
reach_is b w c n end misfit is any looked some = record {
  any = λ none. of_any none (looked none);
  some = if_some n.reach _ _ of_some some;
  misfit = misfit_at b c end misfit is;
}
  where
    of_any : n.reach ≡ None → IsSome n.again ⊎ CantBeLooked b w → IsSome n.again ⊎ (CantBeLooked b w × HasNoNew c.last)
    of_any none (inl looked) = inl looked
    of_any none (inr cant) = inr (cant, at_end b c.last end (any none) is)

    of_some : (depth : ℕ) → (reach_of end ≡ Some depth) ⊎ ((reach_of end ≡ None) × (depth ≡ done_of c.last)) → (depth ≡ done_of c.last) × IsThrough b c depth
    of_some depth (inl at) = at_depth b c end depth misfit is at
    of_some depth (inr (none, done)) = (done, inr (inr (at_end b c.last end none is)))

-- what is written at the end
pub ended : {E : Type 0} (r : Result Bool E) (form : Form) (w : WorkloadState) (s : SimState) (bounds : Bounds) (starts : Starts) (d : Depths) (n : Nones) (found : List ToldList) (end : End) (a b c e : Option (List ℕ))
    → IsEndOf bounds d.last end → d.misfit ≡ misfit_of end → n.bounds ≡ bounds → AreApart starts s found n → IfSome n.again (IsGoneThrough form w s n)
    → (n.reach ≡ None → reach_of end ≡ None) → (n.reach ≡ None → IsSome n.again ⊎ CantBeLooked bounds w)
    → IfSome n.reach (λ depth. (reach_of end ≡ Some depth) ⊎ ((reach_of end ≡ None) × (depth ≡ done_of d.last)))
    → All (IsKept bounds.mode w s) found → HasLists w s found n a b → Appends b c (search_text starts bounds.mode d) → IfOk r (λ (whole : Bool). Appends c e (memory_line whole))
    → IfOk r (λ (whole : Bool). IsTold form w s bounds whole a e)
ended (Ok whole) form w s bounds starts d n found end a b c e is misfit within apart again any looked some kept (most, others, lists) search memory = record {
  found = found;
  nones = n;
  most = most;
  starts = starts;
  depths = d;
  text = Appends-trans a b e _ _ lists (Appends-trans b c e _ _ search memory);
  shown = λ k t l. (kept k t l).shown;
  others = subst (λ (b : Bounds). All (IsShown b.mode w s) most) within others;
  bounds = within;
  apart = apart;
  reach = reach_is bounds w d n end misfit is any looked some;
  again = again;
}
ended (Err x) form w s bounds starts d n found end a b c e is misfit within apart again any looked some kept lists search memory = memory

-- ---- sorts of which nothing was found

-- some, and one more if there is room for it
pub none_more : (P : Sort → Type 0) (old new : List Sort) (x : Sort) → All P old → P x → ((new ≡ old) ⊎ (new ≡ old ++ x ∷ [])) → All P new
none_more P old new x all one (inl same) = subst (All P) (sym same) all
none_more P old new x all one (inr more) = subst (All P) (sym more) (All-push P old x all one)

-- ---- what is said after an audit

-- bounds stay
pub concluded_bounds : {E : Type 0} (r : Result Bool E) (done : ℕ) (moves : Moves) (n m : Nones) → m ≡ concluded r done moves n → m.bounds ≡ n.bounds
concluded_bounds (Ok true) done moves n m is = ap (λ (x : Nones). x.bounds) is
concluded_bounds (Ok false) done moves n m is = ap (λ (x : Nones). x.bounds) is
concluded_bounds (Err e) done moves n m is = ap (λ (x : Nones). x.bounds) is

no_reach : (o : Option ℕ) (depth : ℕ) → o ≡ Some depth → o ≡ None → ⊥
no_reach o depth some none = absurd (cc)

-- any list is only spoken of where the search did
pub concluded_any : {E : Type 0} (r : Result Bool E) (done : ℕ) (moves : Moves) (n m : Nones) → m ≡ concluded r done moves n → m.reach ≡ None → n.reach ≡ None
concluded_any (Ok true) done moves n m is none = sym (ap (λ (x : Nones). x.reach) is) ∙ none
concluded_any (Ok false) done moves n m is none = absurd (no_reach m.reach _ (ap (λ (x : Nones). x.reach) is) none)
concluded_any (Err e) done moves n m is none = absurd (no_reach m.reach _ (ap (λ (x : Nones). x.reach) is) none)

-- and where states were audited
pub concluded_looked : {E : Type 0} (r : Result Bool E) (done : ℕ) (moves : Moves) (n m : Nones) → m ≡ concluded r done moves n → m.reach ≡ None → IsSome m.again
concluded_looked (Ok true) done moves n m is none = subst IsSome (sym (ap (λ (x : Nones). x.again) is)) refl
concluded_looked (Ok false) done moves n m is none = absurd (no_reach m.reach _ (ap (λ (x : Nones). x.reach) is) none)
concluded_looked (Err e) done moves n m is none = absurd (no_reach m.reach _ (ap (λ (x : Nones). x.reach) is) none)

of_searched : (done : ℕ) (o : Option ℕ) → IfSome o (λ depth. (o ≡ Some depth) ⊎ ((o ≡ None) × (depth ≡ done)))
of_searched done None = tt
of_searched done (Some depth) = inl refl

of_done : (done : ℕ) (o : Option ℕ) → (o ≡ Some (unwrap_or o done)) ⊎ ((o ≡ None) × (unwrap_or o done ≡ done))
of_done done None = inr (refl, refl)
of_done done (Some depth) = inl refl

-- otherwise it is of the lists that were searched
pub concluded_some : {E : Type 0} (r : Result Bool E) (done : ℕ) (moves : Moves) (n m : Nones) → m ≡ concluded r done moves n
    → IfSome m.reach (λ depth. (n.reach ≡ Some depth) ⊎ ((n.reach ≡ None) × (depth ≡ done)))
concluded_some (Ok true) done moves n m is =
    subst (λ (x : Nones). IfSome x.reach (λ depth. (n.reach ≡ Some depth) ⊎ ((n.reach ≡ None) × (depth ≡ done)))) (sym is) (of_searched done n.reach)
concluded_some (Ok false) done moves n m is =
    subst (λ (x : Nones). IfSome x.reach (λ depth. (n.reach ≡ Some depth) ⊎ ((n.reach ≡ None) × (depth ≡ done)))) (sym is) (of_done done n.reach)
concluded_some (Err e) done moves n m is =
    subst (λ (x : Nones). IfSome x.reach (λ depth. (n.reach ≡ Some depth) ⊎ ((n.reach ≡ None) × (depth ≡ done)))) (sym is) (of_done done n.reach)

-- sorts stay
pub concluded_apart : {E : Type 0} (r : Result Bool E) (done : ℕ) (moves : Moves) (starts : Starts) (first : SimState) (found : List ToldList) (n m : Nones) → m ≡ concluded r done moves n → AreApart starts first found n → AreApart starts first found m
concluded_apart (Ok true) done moves starts first found n m is h = subst (AreApart starts first found) (sym is) (record { sorts = h.sorts; overtaken = h.overtaken; stalls = h.stalls; faults = h.faults })
concluded_apart (Ok false) done moves starts first found n m is h = subst (AreApart starts first found) (sym is) (record { sorts = h.sorts; overtaken = h.overtaken; stalls = h.stalls; faults = h.faults })
concluded_apart (Err e) done moves starts first found n m is h = subst (AreApart starts first found) (sym is) (record { sorts = h.sorts; overtaken = h.overtaken; stalls = h.stalls; faults = h.faults })

-- and what is said of the audit is so
pub concluded_again : {E : Type 0} (r : Result Bool E) (done : ℕ) (moves : Moves) (form : Form) (w : WorkloadState) (s : SimState) (n m : Nones) → m ≡ concluded r done moves n
    → MayBeLooked n.bounds w moves → (r ≡ Ok true → IsSure form n.bounds moves n.reach n.sorts s) → IfSome m.again (IsGoneThrough form w s m)
concluded_again (Ok true) done moves form w s n m is may sure =
    let through : IsGoneThrough form w s (record n { again = Some moves }) moves = record { of_mode = may.of_mode; all = may.all; changes = may.changes; sure = sure refl } in
    subst (λ (x : Nones). IfSome x.again (IsGoneThrough form w s x)) (sym is) through
concluded_again (Ok false) done moves form w s n m is may sure = subst (λ (x : Nones). IfSome x.again (IsGoneThrough form w s x)) (sym is) tt
concluded_again (Err e) done moves form w s n m is may sure = subst (λ (x : Nones). IfSome x.again (IsGoneThrough form w s x)) (sym is) tt

-- states were not audited
pub not_looked : (form : Form) (w : WorkloadState) (s : SimState) (n m : Nones) (reach : Option ℕ) → m ≡ record n { again = None; reach = reach } → IfSome m.again (IsGoneThrough form w s m)
not_looked form w s n m reach is = subst (λ (x : Nones). IfSome x.again (IsGoneThrough form w s x)) (sym is) tt

-- and sorts stay
pub unlooked_apart : (starts : Starts) (first : SimState) (found : List ToldList) (n m : Nones) (reach : Option ℕ) → m ≡ record n { again = None; reach = reach } → AreApart starts first found n → AreApart starts first found m
unlooked_apart starts first found n m reach is h = subst (AreApart starts first found) (sym is) (record { sorts = h.sorts; overtaken = h.overtaken; stalls = h.stalls; faults = h.faults })

-- nor is more said of lists then than the search did
pub unlooked_some : (done : ℕ) (n m : Nones) → m ≡ record n { again = None; reach = n.reach } → IfSome m.reach (λ depth. (n.reach ≡ Some depth) ⊎ ((n.reach ≡ None) × (depth ≡ done)))
unlooked_some done n m is = subst (λ (x : Nones). IfSome x.reach (λ depth. (n.reach ≡ Some depth) ⊎ ((n.reach ≡ None) × (depth ≡ done)))) (sym is) (of_searched done n.reach)

-- lists of a mode that aren't bounded otherwise, and in which no weight changes
pub may_be_looked : (b : Bounds) (w : WorkloadState) (r : Option Moves) → b.few ≡ None → IfSome r (λ (moves : Moves). moves_of b.mode ≡ Some moves) → IfSome r (λ (moves : Moves). HasNoChanges b.mode w)
    → IfSome r (MayBeLooked b w)
may_be_looked b w None all of_mode changes = tt
may_be_looked b w (Some moves) all of_mode changes = record { of_mode = of_mode; all = all; changes = changes }

-- lists with few wakes and sleeps
pub few_cant_be : (b : Bounds) (w : WorkloadState) (few : ℕ) → b.few ≡ Some few → CantBeLooked b w
few_cant_be b w few is moves may = go b.few is may.all
  where
    go : (o : Option ℕ) → o ≡ Some few → o ≡ None → ⊥
    go o some none = absurd (cc)

-- lists of a mode in which weights change, or that isn't one of such moves
pub mode_cant_be : (b : Bounds) (w : WorkloadState) (r : Option Moves) → (r ≡ None → IsSome (moves_of b.mode) → ¬ HasNoChanges b.mode w) → r ≡ None → CantBeLooked b w
mode_cant_be b w r none is moves may = none is (subst IsSome (sym may.of_mode) refl) may.changes

-- an answer that is yes
pub is_yes : {E : Type 0} (P : Type 0) (r : Result Bool E) → r ≡ Ok true → IfOk r (λ (closed : Bool). closed ≡ true → P) → P
is_yes P (Ok true) is h = h refl
is_yes P (Ok false) is h = absurd (cc)
is_yes P (Err e) is h = absurd (cc)
