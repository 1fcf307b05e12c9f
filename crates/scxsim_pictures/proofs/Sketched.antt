-- What a sketch has written of a run.
use Rattle.std.proofs.Common.{◌≡◌, ℕ, Bool, true, false, List, [], ◌∷◌, refl, sym, ap, subst, ◌∙◌}
use Rattle.scxsim_output.specs.Output.{HasFailed}
use Rattle.scx_sched_world.specs.declared.notes.Note.{Note}
use Rattle.scx_sched_machine.specs.declared.events.Event.{Event}
use Rattle.scx_sched_machine.specs.Notes.{Takes}
use Rattle.scx_sched.specs.Sim.{SimState, after_event, notes_of}
use Rattle.scxsim_trace.specs.Writing.{Seen}
use Rattle.scxsim_trace.specs.Runs.{Observed}
use Rattle.scxsim_pictures.specs.Sketching.{Grows, IsWholeOr, IsWholeUnless, KeepsOutput, TakesSketch}
use Rattle.scxsim_pictures.proofs.Growing.{grown_by, grown_by_none, grown_twice}

-- ---- growth, or a failure

-- the known bytes have grown, or a write has failed
abbrev pub HasGrownOr : Bool → Seen → Seen → Type 0
HasGrownOr false s t = Grows s.contents t.contents × (t.failures ≡ s.failures)
HasGrownOr true s t = HasFailed s.failures t.failures

-- after a failure nothing is written
abbrev HasGrownUnless : Bool → Seen → Seen → Type 0
HasGrownUnless true s t = t ≡ s
HasGrownUnless false s t = HasGrownOr t.failed s t

-- something is written, or nothing, or a write fails
abbrev Draws : {S G : Type 0} → (S → G) → (S → Seen) → S → S → Type 0
Draws output seen s t = (output t ≡ output s) × HasGrownUnless (seen s).failed (seen s) (seen t)

-- one of some texts is a growth
grown_or : (f : Bool) (texts : List ℕ → Type 0) (s t : Seen) → IsWholeOr f texts s t → HasGrownOr f s t
grown_or false texts s t (grown, same) = (grown_by texts s.contents t.contents grown, same)
grown_or true texts s t failed = failed

grown_unless : (f : Bool) (texts : List ℕ → Type 0) (s t : Seen) → IsWholeUnless f texts s t → HasGrownUnless f s t
grown_unless true texts s t same = same
grown_unless false texts s t written = grown_or t.failed texts s t written

-- ---- one state, and then another

both_grown : (f : Bool) (s t u : Seen) → HasGrownOr false s t → HasGrownOr f t u → HasGrownOr f s u
both_grown false s t u (grown, same) (then_grown, then_same) =
    (grown_twice s.contents t.contents u.contents grown then_grown, then_same ∙ same)
both_grown true s t u (grown, same) then_failed =
    let P : ℕ → Type 0 = λ n. HasFailed n u.failures in
    subst P same then_failed

or_twice : (f : Bool) (s t u : Seen) → t.failed ≡ f → HasGrownOr f s t → HasGrownUnless t.failed t u → HasGrownOr u.failed s u
or_twice false s t u e first next =
    let P : Bool → Type 0 = λ g. HasGrownUnless g t u in
    both_grown u.failed s t u first (subst P e next)
or_twice true s t u e failed next =
    let P : Bool → Type 0 = λ g. HasGrownUnless g t u in
    let stays : u ≡ t = subst P e next in
    let Q : Seen → Type 0 = λ x. HasGrownOr x.failed s x in
    let R : Bool → Type 0 = λ g. HasGrownOr g s t in
    subst Q (sym stays) (subst R (sym e) failed)

unless_twice : (f : Bool) (s t u : Seen) → s.failed ≡ f → HasGrownUnless f s t → HasGrownUnless t.failed t u → HasGrownUnless f s u
unless_twice true s t u e stays next =
    let P : Bool → Type 0 = λ g. HasGrownUnless g t u in
    let still : u ≡ t = subst P (ap (λ x. x.failed) stays ∙ e) next in
    still ∙ stays
unless_twice false s t u e first next = or_twice t.failed s t u refl first next

nothing_after : (f : Bool) (s : Seen) → s.failed ≡ f → HasGrownUnless f s s
nothing_after true s e = refl
nothing_after false s e =
    let P : Bool → Type 0 = λ g. HasGrownOr g s s in
    subst P (sym e) (grown_by_none s.contents, refl)

-- ---- the states of a view

draws_none : {S G : Type 0} (output : S → G) (seen : S → Seen) (s t : S) → KeepsOutput output seen s t → Draws output seen s t
draws_none output seen s t (same_output, same) =
    let P : Seen → Type 0 = λ x. HasGrownUnless (seen s).failed (seen s) x in
    (same_output, subst P (sym same) (nothing_after (seen s).failed (seen s) refl))

stays : {S G : Type 0} (output : S → G) (seen : S → Seen) (s t : S) → t ≡ s → Draws output seen s t
stays output seen s t same = draws_none output seen s t (ap output same, ap seen same)

draws_twice : {S G : Type 0} (output : S → G) (seen : S → Seen) (s t u : S) → Draws output seen s t → Draws output seen t u → Draws output seen s u
draws_twice output seen s t u (one_output, first) (next_output, next) =
    (next_output ∙ one_output, unless_twice (seen s).failed (seen s) (seen t) (seen u) refl first next)

draws_all : {S G : Type 0} (output : S → G) (seen : S → Seen) (texts : S → List ℕ → Type 0) (notes : List Note) (s t : S)
    → Takes (λ x _ y. TakesSketch output seen texts x y) s notes t → Draws output seen s t
draws_all output seen texts [] s t same = stays output seen s t same
draws_all output seen texts (n ∷ ns) s t (u, (left, same_output, written), rest) =
    draws_twice output seen s u t (same_output, grown_unless (seen s).failed (texts u) (seen s) (seen u) written) (draws_all output seen texts ns u t rest)

-- after a failure nothing more comes
draws_on : {S G : Type 0} (output : S → G) (seen : S → Seen) (f : Bool) (s t : S) → (seen s).failed ≡ f
    → ((seen s).failed ≡ true → t ≡ s) → ((seen s).failed ≡ false → Draws output seen s t) → Draws output seen s t
draws_on output seen true s t is ends goes = stays output seen s t (ends is)
draws_on output seen false s t is ends goes = goes is

draws_observed : {S G : Type 0} (output : S → G) (seen : S → Seen) (texts : S → List ℕ → Type 0) (events : List Event) (m : SimState) (s : S) (n : SimState) (t : S)
    → Observed (λ x _ _ y. KeepsOutput output seen x y) (λ x _ y. TakesSketch output seen texts x y) (λ x. (seen x).failed) events m s n t → Draws output seen s t
draws_observed output seen texts [] m s n t (state, same, now) = stays output seen s t same
draws_observed output seen texts (e ∷ es) m s n t (d, c, came, taken, now, well, ends, goes) =
    draws_twice output seen s c t
    (draws_twice output seen s d c (draws_none output seen s d came) (draws_all output seen texts (notes_of m e) d c taken))
    (draws_on output seen (seen c).failed c t refl (λ f. (ends f).1) (λ f. draws_observed output seen texts es (after_event m e) c n t (goes f)))

-- after a run that was sketched the output's known bytes have grown, or a write has failed
pub run_is_sketched : {S G : Type 0} (output : S → G) (seen : S → Seen) (texts : S → List ℕ → Type 0) (f : Bool) (events : List Event) (m n : SimState) (s t : S)
    → (seen s).failed ≡ false → (seen t).failed ≡ f
    → Observed (λ x _ _ y. KeepsOutput output seen x y) (λ x _ y. TakesSketch output seen texts x y) (λ x. (seen x).failed) events m s n t
    → (output t ≡ output s) × HasGrownOr f (seen s) (seen t)
run_is_sketched output seen texts f events m n s t fresh is observed =
    let all = draws_observed output seen texts events m s n t observed in
    let P : Bool → Type 0 = λ g. HasGrownUnless g (seen s) (seen t) in
    let Q : Bool → Type 0 = λ g. HasGrownOr g (seen s) (seen t) in
    (all.0, subst Q is (subst P fresh all.1))
