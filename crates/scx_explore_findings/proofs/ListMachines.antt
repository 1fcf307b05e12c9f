-- Machines along a list of events.
use Rattle.std.proofs.Common.{◌≡◌, ℕ, zero, suc, ◌<◌, ◌≤◌, List, [], ◌∷◌, ◌++◌, length, take, drop, set, get_or, All, ◌-◌, ◌==◌, Bool, true, false, None, refl, sym, ap, ◌∙◌, subst, arith}
use Rattle.std.proofs.lemmas.List.{drop_more}
use Rattle.std.proofs.lemmas.List.Elements.{All-head, All-tail, All-take, All-drop, All-get_or, All-set}
use Rattle.scx_sched_machine.specs.declared.events.Event.{Event}
use Rattle.scx_sched.specs.Sim.{SimState, refusal, after_event}
use Rattle.scx_load_driver.specs.Runs.{stepped_all, AreAccepted}
use Rattle.scx_explore_findings.specs.Path.{IsAs, IsAlong, last_of}
use Rattle.scx_explore_findings.proofs.SamePolicy.{as_itself, as_one_another, as_another}

-- ---- runs of lists

-- one event after others
pub stepped_push : (s : SimState) (es : List Event) (e : Event) → stepped_all s (es ++ e ∷ []) ≡ after_event (stepped_all s es) e
stepped_push s [] e = refl
stepped_push s (x ∷ es) e = stepped_push (after_event s x) es e

-- ---- machines along a list

-- there is a machine for each event
pub along_room : (s : SimState) (es : List Event) (sims : List SimState) → IsAlong s es sims → length es ≤ length sims
along_room s [] sims h = omega arith
along_room s (e ∷ es) [] h = absurd h
along_room s (e ∷ es) (t ∷ ts) h = omega (arith, along_room t es ts h.2)

-- the machine at depth N is the one after N events
pub along_at : (s : SimState) (es : List Event) (sims : List SimState) (k : ℕ) (d : SimState) → IsAlong s es sims → k < length es → get_or sims k d ≡ stepped_all s (take (suc k) es)
along_at s [] sims k d h l = absurd (omega (arith, l))
along_at s (e ∷ es) [] k d h l = absurd h
along_at s (e ∷ es) (t ∷ ts) zero d h l = h.1
along_at s (e ∷ es) (t ∷ ts) (suc k) d h l = along_at t es ts k d h.2 (omega (arith, l)) ∙ ap (λ (x : SimState). stepped_all x (take (suc k) es)) h.1

-- each event is accepted
pub along_accepted : (s : SimState) (es : List Event) (sims : List SimState) → IsAlong s es sims → AreAccepted s es
along_accepted s [] sims h = tt
along_accepted s (e ∷ es) [] h = absurd h
along_accepted s (e ∷ es) (t ∷ ts) h = (h.0, subst (λ (x : SimState). AreAccepted x es) h.1 (along_accepted t es ts h.2))

-- the machines along a beginning are among these
pub along_take : (n : ℕ) (s : SimState) (es : List Event) (sims : List SimState) → IsAlong s es sims → IsAlong s (take n es) sims
along_take zero s es sims h = tt
along_take (suc n) s [] sims h = tt
along_take (suc n) s (e ∷ es) [] h = absurd h
along_take (suc n) s (e ∷ es) (t ∷ ts) h = (h.0, h.1, along_take n t es ts h.2)

-- a machine past the end of the list may be any
pub along_set : (s : SimState) (es : List Event) (sims : List SimState) (k : ℕ) (x : SimState) → length es ≤ k → IsAlong s es sims → IsAlong s es (set sims k x)
along_set s [] sims k x l h = tt
along_set s (e ∷ es) [] k x l h = absurd h
along_set s (e ∷ es) (t ∷ ts) zero x l h = absurd (omega (arith, l))
along_set s (e ∷ es) (t ∷ ts) (suc k) x l h = (h.0, h.1, along_set t es ts k x (omega (arith, l)) h.2)

-- with one more event, whose machine comes at the end
pub along_push : (s : SimState) (es : List Event) (sims : List SimState) (e : Event) (x : SimState) → length es < length sims → refusal (stepped_all s es) e ≡ None → x ≡ after_event (stepped_all s es) e → IsAlong s es sims → IsAlong s (es ++ e ∷ []) (set sims (length es) x)
along_push s [] [] e x l fine is h = absurd (omega (arith, l))
along_push s [] (t ∷ ts) e x l fine is h = (fine, is, tt)
along_push s (f ∷ es) [] e x l fine is h = absurd h
along_push s (f ∷ es) (t ∷ ts) e x l fine is h =
    let at : stepped_all (after_event s f) es ≡ stepped_all t es = ap (λ (y : SimState). stepped_all y es) (sym h.1) in
    (h.0, h.1, along_push t es ts e x (omega (arith, l)) (subst (λ (y : SimState). refusal y e ≡ None) at fine) (is ∙ ap (λ (y : SimState). after_event y e) at) h.2)

-- the last of the machines along a list is the run of it
pub along_last : (s : SimState) (es : List Event) (sims : List SimState) → IsAlong s es sims → last_of s (take (length es) sims) ≡ stepped_all s es
along_last s [] sims h = refl
along_last s (e ∷ es) [] h = absurd h
along_last s (e ∷ es) (t ∷ ts) h = along_last t es ts h.2 ∙ ap (λ (x : SimState). stepped_all x es) h.1

last_at : (s t : SimState) (ts : List SimState) (d : SimState) → get_or (t ∷ ts) (length ts) d ≡ last_of s (t ∷ ts)
last_at s t [] d = refl
last_at s t (u ∷ us) d = last_at t u us d

not_both : (b : Bool) → b ≡ true → b ≡ false → ⊥
not_both b x y = absurd (cc)

-- the last one is at the end
pub last_of_some : (s : SimState) (ts : List SimState) (d : SimState) → (length ts == 0) ≡ false → get_or ts (length ts - 1) d ≡ last_of s ts
last_of_some s [] d some = absurd (not_both (0 == 0) refl some)
last_of_some s (t ∷ ts) d some =
    let end : length (t ∷ ts) - 1 ≡ length ts = omega arith in
    ap (λ (k : ℕ). get_or (t ∷ ts) k d) end ∙ last_at s t ts d

-- what holds of all holds of the last one
pub last_of_all : (P : SimState → Type 0) (s : SimState) (ts : List SimState) → P s → All P ts → P (last_of s ts)
last_of_all P s [] h all = h
last_of_all P s (t ∷ ts) h all = last_of_all P t ts (All-head P t ts all) (All-tail P t ts all)

-- ---- a machine put in its place

-- the part from there on with another machine in front
pub put_in : (xs : List SimState) (n : ℕ) (x : SimState) → take n xs ++ set (drop n xs) 0 x ≡ set xs n x
put_in [] zero x = refl
put_in [] (suc n) x = refl
put_in (y ∷ ys) zero x = refl
put_in (y ∷ ys) (suc n) x = ap (λ (zs : List SimState). y ∷ zs) (put_in ys n x)

-- the machine in that place fits the one before it
pub fits_last : (root : SimState) (sims : List SimState) (n : ℕ) (d : SimState) → n < length sims → All (IsAs root) sims → IsAs (get_or (drop n sims) 0 d) (last_of root (take n sims))
fits_last root sims n d l all =
    as_one_another root (get_or (drop n sims) 0 d) (last_of root (take n sims)) here (last_of_all (IsAs root) root (take n sims) (as_itself root) (All-take (IsAs root) n sims all))
  where
    inside : 0 < length (drop n sims)
    inside = rw (drop_more sims n d l) (omega arith)

    here : IsAs root (get_or (drop n sims) 0 d)
    here = All-get_or (IsAs root) (drop n sims) 0 d inside (All-drop (IsAs root) n sims all)

-- with one after an event there all are alike still
pub fits_all : (root : SimState) (sims : List SimState) (n : ℕ) (x : SimState) → All (IsAs root) sims → IsAs (last_of root (take n sims)) x → All (IsAs root) (set sims n x)
fits_all root sims n x all h =
    All-set (IsAs root) sims n x (as_another root (last_of root (take n sims)) x (last_of_all (IsAs root) root (take n sims) (as_itself root) (All-take (IsAs root) n sims all)) h) all
