-- An output after many lines.
use Rattle.std.proofs.Common.{◌≡◌, ℕ, Bool, true, false, List, [], ◌∷◌, ◌++◌, Option, refl, sym, ap, subst, ◌∙◌, append_assoc}
use Rattle.std.proofs.lemmas.List.{append-nil}
use Rattle.std.specs.Io.KnownBytes.{Appends}
use Rattle.scxsim_output.specs.Output.{HasFailed, AppendsBeginning}
use Rattle.scxsim_output.proofs.Growth.{grows_by_none, grows_twice}
use Rattle.scxsim_output.proofs.Beginnings.{beginning_of_more, beginning_behind}
use Rattle.scx_sched_world.specs.declared.notes.Note.{Note}
use Rattle.scx_sched_machine.specs.Notes.{Takes}
use Rattle.scxsim_trace.specs.Lines.{NameLists, note_line, note_lines}
use Rattle.scxsim_trace.specs.Writing.{Seen, Written, WrittenAfter, WrittenUpTo}
use Rattle.scx_sched_machine.specs.declared.events.Event.{Event}
use Rattle.scx_sched.specs.Sim.{SimState, after_event, notes_of}
use Rattle.scx_load_driver.specs.Runs.{stepped_all, notes_of_all}
use Rattle.scxsim_trace.specs.Runs.{IsInOrder, GoesWell, StaysInOrder, GoesThrough, StopsAtFailure}
use Rattle.scxsim_trace.specs.Tracing.{TakesLine}
use Rattle.scxsim_trace.proofs.Going.{notes_of_all-append, differ, what_is_done, done_all}

nothing_after : (f : Bool) (s : Seen) → s.failed ≡ f → WrittenAfter f s [] s
nothing_after true s e = refl
nothing_after false s e =
    let P : Bool → Type 0 = λ g. WrittenUpTo g s [] s in
    subst P (sym e) (grows_by_none s.contents [], refl)

-- no text at all
written_nothing : (s : Seen) → Written s [] s
written_nothing s = nothing_after s.failed s refl

both_whole : (f : Bool) (s t u : Seen) (a b : List ℕ) → WrittenUpTo false s a t → WrittenUpTo f t b u → WrittenUpTo f s (a ++ b) u
both_whole false s t u a b (grown, same) (then_grown, then_same) =
    (grows_twice s.contents t.contents u.contents a b grown then_grown, then_same ∙ same)
both_whole true s t u a b (grown, same) (then_cut, then_failed) =
    let P : ℕ → Type 0 = λ n. HasFailed n u.failures in
    (beginning_behind s.contents t.contents u.contents a b grown then_cut, subst P same then_failed)

up_to_twice : (f : Bool) (s t u : Seen) (a b : List ℕ) → t.failed ≡ f → WrittenUpTo f s a t → Written t b u → WrittenUpTo u.failed s (a ++ b) u
up_to_twice false s t u a b e first next =
    let P : Bool → Type 0 = λ g. WrittenAfter g t b u in
    both_whole u.failed s t u a b first (subst P e next)
up_to_twice true s t u a b e (cut, failed) next =
    let P : Bool → Type 0 = λ g. WrittenAfter g t b u in
    let stays : u ≡ t = subst P e next in
    let Q : Seen → Type 0 = λ x. WrittenUpTo x.failed s (a ++ b) x in
    let R : Bool → Type 0 = λ g. WrittenUpTo g s (a ++ b) t in
    subst Q (sym stays) (subst R (sym e) (beginning_of_more s.contents t.contents a b cut, failed))

after_twice : (f : Bool) (s t u : Seen) (a b : List ℕ) → s.failed ≡ f → WrittenAfter f s a t → Written t b u → WrittenAfter f s (a ++ b) u
after_twice true s t u a b e stays next =
    let P : Bool → Type 0 = λ g. WrittenAfter g t b u in
    let still : u ≡ t = subst P (ap (λ x. x.failed) stays ∙ e) next in
    still ∙ stays
after_twice false s t u a b e first next = up_to_twice t.failed s t u a b refl first next

-- one text after another
pub written_twice : (s t u : Seen) (a b : List ℕ) → Written s a t → Written t b u → Written s (a ++ b) u
written_twice s t u a b first next = after_twice s.failed s t u a b refl first next

-- the lines of many notes
pub takes_lines : {S G : Type 0} (output : S → G) (names : S → NameLists) (seen : S → Seen) (notes : List Note) (s t : S)
    → Takes (TakesLine output names seen) s notes t
    → (output t ≡ output s) × (names t ≡ names s) × Written (seen s) (note_lines (names s) notes) (seen t)
takes_lines output names seen [] s t same =
    let P : Seen → Type 0 = λ x. Written (seen s) [] x in
    (ap output same, ap names same, subst P (sym (ap seen same)) (written_nothing (seen s)))
takes_lines output names seen (n ∷ ns) s t (u, (stays, one_output, one_names, line), rest) =
    let behind = takes_lines output names seen ns u t rest in
    let P : NameLists → Type 0 = λ x. Written (seen u) (note_lines x ns) (seen t) in (
      behind.0 ∙ one_output,
      behind.1 ∙ one_names,
      written_twice (seen s) (seen u) (seen t) (note_line (names s) n) (note_lines (names s) ns) line (subst P one_names behind.2),
    )

note_lines-append : (x : NameLists) (ns ms : List Note) → note_lines x (ns ++ ms) ≡ note_lines x ns ++ note_lines x ms
note_lines-append x [] ms = refl
note_lines-append x (n ∷ ns) ms =
    ap (λ text. note_line x n ++ text) (note_lines-append x ns ms) ∙ sym (append_assoc (note_line x n) (note_lines x ns) (note_lines x ms))

whole_or_cut : (f : Bool) (s t : Seen) (a b : List ℕ) → (f ≡ false → b ≡ []) → WrittenUpTo f s a t → WrittenUpTo f s (a ++ b) t
whole_or_cut false s t a b nothing written =
    let P : List ℕ → Type 0 = λ text. WrittenUpTo false s text t in
    subst P (sym (ap (λ z. a ++ z) (nothing refl) ∙ append-nil a)) written
whole_or_cut true s t a b nothing (cut, failed) = (beginning_of_more s.contents t.contents a b cut, failed)

-- a run that writes a line for each note
pub run_is_written : {S G : Type 0} (output : S → G) (names : S → NameLists) (seen : S → Seen) (f : Bool) (events : List Event) (s t : SimState) (a b : S)
    → (seen a).failed ≡ false → (seen b).failed ≡ f → GoesThrough (TakesLine output names seen) (λ x. (seen x).failed) events s a t b
    → (output b ≡ output a) × WrittenUpTo f (seen a) (note_lines (names a) (notes_of_all s events)) (seen b)
run_is_written output names seen f events s t a b fresh is went =
    let ran = what_is_done (TakesLine output names seen) (λ x. (seen x).failed) events s a t b went in
    let x = names a in
    let lines = takes_lines output names seen (notes_of_all s ran.done) a b ran.notes in
    let later = notes_of_all (stepped_all s ran.done) ran.rest in
    let text : note_lines x (notes_of_all s events) ≡ note_lines x (notes_of_all s ran.done) ++ note_lines x later =
    ap (λ es. note_lines x (notes_of_all s es)) ran.whole ∙ ap (note_lines x) (notes_of_all-append s ran.done ran.rest) ∙ note_lines-append x (notes_of_all s ran.done) later in
    let P : Bool → Type 0 = λ f. WrittenAfter f (seen a) (note_lines x (notes_of_all s ran.done)) (seen b) in
    let Q : Bool → Type 0 = λ f. WrittenUpTo f (seen a) (note_lines x (notes_of_all s ran.done)) (seen b) in
    let R : List ℕ → Type 0 = λ text. WrittenUpTo f (seen a) text (seen b) in (
      lines.0,
      subst R (sym text) (whole_or_cut f (seen a) (seen b) (note_lines x (notes_of_all s ran.done)) (note_lines x later)
          (λ going. ap (λ es. note_lines x (notes_of_all (stepped_all s ran.done) es)) (ran.all (is ∙ going))) (subst Q is (subst P fresh lines.2))),
    )

-- where no write failed, all events were given to the machine
pub run_is_done : {S G : Type 0} (output : S → G) (names : S → NameLists) (seen : S → Seen) (events : List Event) (s t : SimState) (a b : S)
    → (seen b).failed ≡ false → GoesThrough (TakesLine output names seen) (λ x. (seen x).failed) events s a t b
    → (t ≡ stepped_all s events) × StaysInOrder s events
run_is_done output names seen events s t a b fine went =
    done_all (TakesLine output names seen) (λ x. (seen x).failed) events s a t b went fine

-- one event in front of others
with_event : (x : NameLists) (e : Event) (es : List Event) (s t : SimState) (old between new : Option (List ℕ))
    → IsInOrder s → GoesWell s e → Appends old between (note_lines x (notes_of s e)) → StopsAtFailure x es (after_event s e) t between new
    → StopsAtFailure x (e ∷ es) s t old new
with_event x e es s t old between new now well line h =
    let P : List ℕ → Type 0 = λ text. Appends old h.lines.between text in
    let first = note_lines x (notes_of s e) in
    let behind = note_lines x (notes_of_all (after_event s e) h.done) in
    let text : note_lines x (notes_of s e ++ notes_of_all (after_event s e) h.done) ≡ first ++ behind = note_lines-append x (notes_of s e) (notes_of_all (after_event s e) h.done) in
    record {
      done = e ∷ h.done;
      event = h.event;
      rest = h.rest;
      whole = ap (λ fs. e ∷ fs) h.whole;
      state = h.state;
      in_order = (now, well, h.in_order);
      lines = record {
        between = h.lines.between;
        whole = subst P (sym text) (grows_twice old between h.lines.between first behind line h.lines.whole);
        cut = h.lines.cut;
      };
    }

-- where one failed, the events up to the one whose line it was
pub run_stops : {S G : Type 0} (output : S → G) (names : S → NameLists) (seen : S → Seen) (events : List Event) (s t : SimState) (a b : S)
    → (seen a).failed ≡ false → (seen b).failed ≡ true → GoesThrough (TakesLine output names seen) (λ x. (seen x).failed) events s a t b
    → StopsAtFailure (names a) events s t (seen a).contents (seen b).contents
run_stops output names seen [] s t a b fresh failed (state, same, now) =
    absurd (differ (seen b).failed failed (ap (λ x. (seen x).failed) same ∙ fresh))
run_stops {S} output names seen (e ∷ es) s t a b fresh failed (c, notes, now, well, ends, goes) =
    by_failure (seen c).failed refl (λ x. run_stops output names seen es (after_event s e) t c b x failed (goes x))
  where
    text : List ℕ
    text = note_lines (names a) (notes_of s e)

    lines : (output c ≡ output a) × (names c ≡ names a) × Written (seen a) text (seen c)
    lines = takes_lines output names seen (notes_of s e) a c notes

    written : (f : Bool) → (seen c).failed ≡ f → WrittenUpTo f (seen a) text (seen c)
    written f is =
        let P : Bool → Type 0 = λ g. WrittenAfter g (seen a) text (seen c) in
        let Q : Bool → Type 0 = λ g. WrittenUpTo g (seen a) text (seen c) in
        subst Q is (subst P fresh lines.2)

    by_failure : (f : Bool) → (seen c).failed ≡ f → ((seen c).failed ≡ false → StopsAtFailure (names c) es (after_event s e) t (seen c).contents (seen b).contents)
        → StopsAtFailure (names a) (e ∷ es) s t (seen a).contents (seen b).contents
    by_failure true is further =
        let end = ends is in
        let P : S → Type 0 = λ y. AppendsBeginning (seen a).contents (seen y).contents text in
        record {
          done = [];
          event = e;
          rest = es;
          whole = refl;
          state = end.0;
          in_order = (now, well, end.2);
          lines = record { between = (seen a).contents; whole = grows_by_none (seen a).contents []; cut = subst P (sym end.1) (written true is).0 };
        }
    by_failure false is further =
        let P : NameLists → Type 0 = λ x. StopsAtFailure x es (after_event s e) t (seen c).contents (seen b).contents in
        with_event (names a) e es s t (seen a).contents (seen c).contents (seen b).contents now well (written false is).0 (subst P lines.1 (further is))
