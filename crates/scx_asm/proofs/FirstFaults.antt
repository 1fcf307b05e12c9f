-- A refusal names the first fault of the text: where a pass stops, all before is fine.
use Rattle.std.proofs.Common.{◌≡◌, ℕ, suc, ◌+◌, ◌<◌, ◌≤◌, Bool, true, false, nat_eq, nat_lt, is_some, List, [], ◌∷◌, ◌++◌, length, map, Option, Some, None, Result, Ok, Err, refl, sym, ap, subst, ◌∙◌, append_assoc, length-append, arith}
use Rattle.std.proofs.lemmas.Bool.{ltb-true, ltb-false, eqb-true}
use Rattle.std.proofs.lemmas.List.{append-nil, map-append}
use Rattle.std.specs.List.{Contains, IsDistinct, AllByRecursion}
use Rattle.std.specs.Str.{bytes_eq}
use Rattle.std.specs.Str.Lines.{lines}
use Rattle.scx_isa_semantics.specs.declared.instructions.Insn.{Insn}
use Rattle.scx_isa_semantics.specs.Code.{Code}
use Rattle.scx_isa.specs.declared.program.TheConstants.{MAX_SLOTS}
use Rattle.scx_asm_text.specs.Options.{either}
use Rattle.scx_asm_text.specs.Items.{Label, Distance, ItemValue, Blank, DefinesLabel, Says, Jumps, read_line}
use Rattle.scx_asm.specs.declared.faults.AsmFault.{AsmFault}
use Rattle.scx_asm.specs.declared.faults.AsmFault.TheVariants.{Syntax, UnknownLabel, TwiceLabel, OutOfRange, TooLong}
use Rattle.scx_asm.specs.declared.faults.AsmError.{AsmError}
use Rattle.scx_asm.specs.declared.faults.AsmError.TheVariants.{Refused, OutOfMemory}
use Rattle.scx_asm.specs.Resolving.{insn_of, jump_of, distant, distance, fits, slots, or_out_of_range, Labels, find, insn_for}
use Rattle.scx_asm.specs.FirstPass.{UnresolvedLine, FirstPassState, nothing_read, at_line, with_label, with_unresolved, with_line, with_text, first_pass, Gives}
use Rattle.scx_asm.specs.Reading.{second_pass, insns_of, read_insns, read_text, code_of}
use Rattle.scx_asm.specs.Standing.{label_at, definitions, names, AreSaid}
use Rattle.scx_asm.specs.FirstFault.{slots_of, AreFine, IsWrong, FailsAt, IsLost, IsFirstFault, AtLine, NoInsn, AtJump, Answers}
use Rattle.scx_asm.proofs.Fitting.{bind_ok, located_ok}
use Rattle.scx_asm.proofs.Standing.{there, found, unresolved_lines, after, plus_none, line_was, text_was, first_pass_was, nothing_less, resolved_was, jump_to, read_as, read_was}

-- ---- faults at lines

abbrev fails : (X : Type 0) → AsmFault → ℕ → Result X (AsmFault × ℕ)
fails X f m = Err (f, m)

same_fault : (X : Type 0) (g f : AsmFault) (k m : ℕ) → fails X g k ≡ fails X f m → (g ≡ f) × (k ≡ m)
same_fault X g f k m e =
    let same : (g, k) ≡ (f, m) = cc in
    (ap (λ (x : AsmFault × ℕ). x.0) same, ap (λ (x : AsmFault × ℕ). x.1) same)

-- ---- one line more

slots_more : (ls : List ItemValue) (l : ItemValue) → slots_of (ls ++ l ∷ []) ≡ slots_of ls + slots l
slots_more [] l = omega arith
slots_more (x ∷ xs) l = omega (arith, slots_more xs l)

definitions_more : (s : ℕ) (ls : List ItemValue) (l : ItemValue) → definitions s (ls ++ l ∷ []) ≡ definitions s ls ++ label_at (s + slots_of ls) l
definitions_more s [] l = append-nil (label_at s l) ∙ ap (λ (k : ℕ). label_at k l) (sym (plus_none s))
definitions_more s (x ∷ xs) l =
    let sum : (s + slots x) + slots_of xs ≡ s + (slots x + slots_of xs) = omega arith in
    ap (λ (es : Labels). label_at s x ++ es) (definitions_more (s + slots x) xs l)
    ∙ (sym (append_assoc (label_at s x) (definitions (s + slots x) xs) (label_at ((s + slots x) + slots_of xs) l))
    ∙ ap (λ (k : ℕ). (label_at s x ++ definitions (s + slots x) xs) ++ label_at k l) sum)

all_more : (ls : List ItemValue) (l : ItemValue) → AllByRecursion (λ l. fits l ≡ true) ls → fits l ≡ true → AllByRecursion (λ l. fits l ≡ true) (ls ++ l ∷ [])
all_more [] l h e = (e, tt)
all_more (x ∷ xs) l h e = (h.0, all_more xs l h.1 e)

-- ---- the first pass

abbrev pass_is : FirstPassState → Result FirstPassState AsmFault
pass_is p = Ok p

abbrev refused : AsmFault → Result FirstPassState AsmFault
refused f = Err f

-- a line that was added fits, and so does what it takes
record Room (p : FirstPassState) (l : ItemValue) : Type 0 where
  pub fit : fits l ≡ true
  pub within : p.slots + slots l ≤ MAX_SLOTS

unresolved_room : (n : ℕ) (p q : FirstPassState) (l : ItemValue) → with_unresolved n p l ≡ pass_is q → Room p l
unresolved_room n p q l e = go (fits l) (nat_lt MAX_SLOTS (p.slots + slots l)) refl refl
  where
    go : (a b : Bool) → fits l ≡ a → nat_lt MAX_SLOTS (p.slots + slots l) ≡ b → Room p l
    go false b x y = let bad : refused OutOfRange ≡ pass_is q = rw x at e in absurd (cc)
    go true true x y = let bad : refused TooLong ≡ pass_is q = rw (x, y) at e in absurd (cc)
    go true false x y = record { fit = x; within = ltb-false _ _ y }

line_room : (n : ℕ) (p q : FirstPassState) (l : ItemValue) → with_line n p l ≡ pass_is q → p.slots ≤ MAX_SLOTS → Room p l
line_room n p q Blank e le = record { fit = refl; within = omega arith }
line_room n p q (DefinesLabel l) e le = record { fit = refl; within = omega arith }
line_room n p q (Says x) e le = unresolved_room n p q (Says x) e
line_room n p q (Jumps j t) e le = unresolved_room n p q (Jumps j t) e

-- the state of the first pass is that of the lines so far, which are fine
record Before (p : FirstPassState) (n : ℕ) (before : List (List ℕ)) (earlier : List ItemValue) : Type 0 where
  pub slots : p.slots ≡ slots_of earlier
  pub labels : p.labels ≡ definitions 0 earlier
  pub number : n ≡ suc (length before)
  pub read : map read_line before ≡ map Some earlier
  pub fine : AreFine earlier

one_more : (n : ℕ) (p q : FirstPassState) (before : List (List ℕ)) (earlier : List ItemValue) (text : List ℕ) (l : ItemValue) → Before p n before earlier → read_line text ≡ Some l → with_line n p l ≡ pass_is q → Before q (suc n) (before ++ text ∷ []) (earlier ++ l ∷ [])
one_more n p q before earlier text l b e w =
    let distinct = subst (λ (es : Labels). IsDistinct bytes_eq (names es)) (sym b.labels) b.fine.once in
    let added = line_was n p q l w distinct in
    let count : p.slots + slots l ≡ q.slots = ap (λ (p : FirstPassState). p.slots) added.is in
    let table : p.labels ++ label_at p.slots l ≡ q.labels = ap (λ (p : FirstPassState). p.labels) added.is in
    let room = line_room n p q l w (omega (arith, b.slots, b.fine.within)) in
    let start : p.slots ≡ 0 + slots_of earlier = omega (arith, b.slots) in
    let labels : q.labels ≡ definitions 0 (earlier ++ l ∷ []) =
    sym table ∙ (ap (λ (es : Labels). es ++ label_at p.slots l) b.labels ∙ (ap (λ (k : ℕ). definitions 0 earlier ++ label_at k l) start ∙ sym (definitions_more 0 earlier l))) in
    record {
      slots = omega (arith, count, b.slots, slots_more earlier l);
      labels = labels;
      number = omega (arith, b.number, length-append before (text ∷ []));
      read = map-append read_line before (text ∷ []) ∙ (ap (λ (xs : List (Option ItemValue)). xs ++ read_line text ∷ []) b.read ∙ (ap (λ (x : Option ItemValue). map Some earlier ++ x ∷ []) e ∙ sym (map-append Some earlier (l ∷ []))));
      fine = record {
        once = subst (λ (es : Labels). IsDistinct bytes_eq (names es)) labels added.once;
        fit = all_more earlier l b.fine.fit room.fit;
        within = omega (arith, slots_more earlier l, b.slots, room.within);
      };
    }

label_wrong : (p : FirstPassState) (earlier : List ItemValue) (l : List ℕ) (f : AsmFault) → p.labels ≡ definitions 0 earlier → with_label p l ≡ refused f → IsWrong earlier (Some (DefinesLabel l)) f
label_wrong p earlier l f labels e = go (find l p.labels) refl
  where
    go : (r : Option ℕ) → find l p.labels ≡ r → IsWrong earlier (Some (DefinesLabel l)) f
    go None h =
        let bad : pass_is (record { slots = p.slots; labels = p.labels ++ (l, p.slots) ∷ []; unresolved = p.unresolved }) ≡ refused f = rw h at e in
        absurd (cc)
    go (Some t) h =
        let one : refused TwiceLabel ≡ refused f = rw h at e in
        let same : TwiceLabel ≡ f = cc in
        subst (λ (f : AsmFault). IsWrong earlier (Some (DefinesLabel l)) f) same (t, subst (λ (es : Labels). Contains es (l, t)) labels (there l t p.labels h))

-- what is wrong with an instruction
unresolved_wrong : (n : ℕ) (p : FirstPassState) (l : ItemValue) (f : AsmFault) (P : AsmFault → Type 0) → with_unresolved n p l ≡ refused f → (fits l ≡ false → P OutOfRange) → (fits l ≡ true → MAX_SLOTS < p.slots + slots l → P TooLong) → P f
unresolved_wrong n p l f P e out long = go (fits l) (nat_lt MAX_SLOTS (p.slots + slots l)) refl refl
  where
    go : (a b : Bool) → fits l ≡ a → nat_lt MAX_SLOTS (p.slots + slots l) ≡ b → P f
    go false b x y = let one : refused OutOfRange ≡ refused f = rw x at e in let same : OutOfRange ≡ f = cc in subst P same (out x)
    go true true x y = let one : refused TooLong ≡ refused f = rw (x, y) at e in let same : TooLong ≡ f = cc in subst P same (long x (ltb-true _ _ y))
    go true false x y =
        let bad : pass_is (record { slots = p.slots + slots l; labels = p.labels; unresolved = p.unresolved ++ record { line = n; slot = p.slots; says = l } ∷ [] }) ≡ refused f = rw (x, y) at e in
        absurd (cc)

line_wrong : (n : ℕ) (p : FirstPassState) (before : List (List ℕ)) (earlier : List ItemValue) (l : ItemValue) (f : AsmFault) → Before p n before earlier → with_line n p l ≡ refused f → IsWrong earlier (Some l) f
line_wrong n p before earlier Blank f b e = absurd (cc)
line_wrong n p before earlier (DefinesLabel l) f b e = label_wrong p earlier l f b.labels e
line_wrong n p before earlier (Says x) f b e = unresolved_wrong n p (Says x) f (λ f. IsWrong earlier (Some (Says x)) f) e (λ h. h) (λ h long. (h, omega (arith, b.slots)))
line_wrong n p before earlier (Jumps j t) f b e = unresolved_wrong n p (Jumps j t) f (λ f. IsWrong earlier (Some (Jumps j t)) f) e (λ h. h) (λ h long. (h, omega (arith, b.slots)))

abbrev first_pass_is : FirstPassState → Result FirstPassState (AsmFault × ℕ)
first_pass_is p = Ok p

-- the lines passed the first pass, or the first of them is at fault
first_pass_fails : (before : List (List ℕ)) (earlier : List ItemValue) (p : FirstPassState) (n : ℕ) (texts : List (List ℕ)) (f : AsmFault) (m : ℕ) → Before p n before earlier → first_pass n p texts ≡ fails FirstPassState f m → FailsAt (before ++ texts) f m
unfolding first_pass
first_pass_fails before earlier p n [] f m b e = absurd (cc)
first_pass_fails before earlier p n (text ∷ texts) f m b e = go (read_line text) refl (λ l q more rest. first_pass_fails (before ++ text ∷ []) (earlier ++ l ∷ []) q (suc n) texts f m more rest)
  where
    faulty : (g : AsmFault) → IsWrong earlier (read_line text) g → fails FirstPassState g n ≡ fails FirstPassState f m → FailsAt (before ++ text ∷ texts) f m
    faulty g w e =
        let both = same_fault FirstPassState g f n m e in
        record {
          before = before;
          text = text;
          following = texts;
          split = refl;
          number = sym both.1 ∙ b.number;
          earlier = earlier;
          read = b.read;
          fine = b.fine;
          wrong = subst (λ (g : AsmFault). IsWrong earlier (read_line text) g) both.0 w;
        }

    go : (r : Option ItemValue) → read_line text ≡ r → ((l : ItemValue) (q : FirstPassState) → Before q (suc n) (before ++ text ∷ []) (earlier ++ l ∷ []) → first_pass (suc n) q texts ≡ fails FirstPassState f m → FailsAt ((before ++ text ∷ []) ++ texts) f m) → FailsAt (before ++ text ∷ texts) f m
    go None h later =
        let one : fails FirstPassState Syntax n ≡ fails FirstPassState f m = rw h at e in
        faulty Syntax (subst (λ (r : Option ItemValue). IsWrong earlier r Syntax) (sym h) tt) one
    go (Some l) h later = by (with_line n p l) refl
      where
        by : (r : Result FirstPassState AsmFault) → with_line n p l ≡ r → FailsAt (before ++ text ∷ texts) f m
        by (Err g) w =
            let one : fails FirstPassState g n ≡ fails FirstPassState f m = rw (h, w) at e in
            faulty g (subst (λ (r : Option ItemValue). IsWrong earlier r g) (sym h) (line_wrong n p before earlier l g b w)) one
        by (Ok q) w =
            let rest : first_pass (suc n) q texts ≡ fails FirstPassState f m = rw (h, w) at e in
            subst (λ (texts : List (List ℕ)). FailsAt texts f m) (append_assoc before (text ∷ []) texts) (later l q (one_more n p q before earlier text l b h w) rest)

-- the lines that passed the first pass fit
record Planned (p : FirstPassState) (ls : List ItemValue) : Type 0 where
  pub fit : AllByRecursion (λ l. fits l ≡ true) ls
  pub within : p.slots + slots_of ls ≤ MAX_SLOTS

first_pass_fit : (n : ℕ) (p q : FirstPassState) (texts : List (List ℕ)) (ls : List ItemValue) → map read_line texts ≡ map Some ls → first_pass n p texts ≡ first_pass_is q → IsDistinct bytes_eq (names p.labels) → p.slots ≤ MAX_SLOTS → Planned p ls
unfolding first_pass
first_pass_fit n p q [] [] read e d le = record { fit = tt; within = omega arith }
first_pass_fit n p q [] (l ∷ ls) read e d le = absurd (cc)
first_pass_fit n p q (text ∷ texts) [] read e d le = absurd (cc)
first_pass_fit n p q (text ∷ texts) (l ∷ ls) read e d le =
    let next = bind_ok (at_line n (with_text n p text)) _ q e in
    let line = text_was n p next.0 (read_line text) (located_ok n _ next.0 next.1) in
    let first : read_line text ≡ Some l = cc in
    let others : map read_line texts ≡ map Some ls = cc in
    let both : Some line.0 ≡ Some l = sym line.1 ∙ first in
    let same : line.0 ≡ l = cc in
    let w : with_line n p l ≡ pass_is next.0 = subst (λ (l : ItemValue). with_line n p l ≡ pass_is next.0) same line.2 in
    let added = line_was n p next.0 l w d in
    let room = line_room n p next.0 l w le in
    let count : p.slots + slots l ≡ next.0.slots = ap (λ (p : FirstPassState). p.slots) added.is in
    let rest = first_pass_fit (suc n) next.0 q texts ls others next.2 added.once (omega (arith, count, room.within)) in
    record { fit = (room.fit, rest.fit); within = omega (arith, count, rest.within) }

-- ---- the second pass

record Lost (labels : Labels) (n s : ℕ) (ls : List ItemValue) (f : AsmFault) (m : ℕ) : Type 0 where
  pub before : List ItemValue
  pub line : ItemValue
  pub following : List ItemValue
  pub split : ls ≡ before ++ line ∷ following
  pub number : m ≡ n + length before
  pub insns : List Insn
  pub said : AreSaid labels s before insns
  pub lost : IsLost labels (s + slots_of before) line f

one_before : (labels : Labels) (n s : ℕ) (l : ItemValue) (ls : List ItemValue) (f : AsmFault) (m : ℕ) (front : List Insn → List Insn) → ((before : List ItemValue) (is : List Insn) → AreSaid labels (s + slots l) before is → AreSaid labels s (l ∷ before) (front is)) → Lost labels (suc n) (s + slots l) ls f m → Lost labels n s (l ∷ ls) f m
one_before labels n s l ls f m front says x =
    let sum : (s + slots l) + slots_of x.before ≡ s + (slots l + slots_of x.before) = omega arith in
    record {
      before = l ∷ x.before;
      line = x.line;
      following = x.following;
      split = ap (λ (ls : List ItemValue). l ∷ ls) x.split;
      number = omega (arith, x.number);
      insns = front x.insns;
      said = says x.before x.insns x.said;
      lost = subst (λ (k : ℕ). IsLost labels k x.line f) sum x.lost;
    }

abbrev insn_is : Insn → Result Insn AsmFault
insn_is i = Ok i

abbrev no_insn : AsmFault → Result Insn AsmFault
no_insn f = Err f

abbrev none : Option Insn
none = None

in_range_err : (r : Option Insn) (f : AsmFault) → or_out_of_range r ≡ no_insn f → (r ≡ None) × (OutOfRange ≡ f)
in_range_err None f e = let same : OutOfRange ≡ f = cc in (refl, same)
in_range_err (Some i) f e = absurd (cc)

not_some : (r : Option Insn) → is_some r ≡ true → r ≡ None → ⊥
not_some None x e = cc
not_some (Some i) x e = cc

-- only a jump to a label can fail
lost_line : (labels : Labels) (s : ℕ) (l : ItemValue) (f : AsmFault) → IsDistinct bytes_eq (names labels) → fits l ≡ true → (l ≡ Blank → ⊥) → ((n : List ℕ) → l ≡ DefinesLabel n → ⊥) → insn_for labels s l ≡ no_insn f → IsLost labels s l f
lost_line labels s Blank f d fit blank place e = absurd (blank refl)
lost_line labels s (DefinesLabel n) f d fit blank place e = absurd (place n refl)
lost_line labels s (Says x) f d fit blank place e = absurd (not_some (insn_of x) fit (in_range_err (insn_of x) f e).0)
lost_line labels s (Jumps j (Distance n)) f d fit blank place e = absurd (not_some (distant j n) fit (in_range_err (distant j n) f e).0)
lost_line labels s (Jumps j (Label l)) f d fit blank place e = go (find l labels) refl e
  where
    go : (r : Option ℕ) → find l labels ≡ r → either r (λ target. or_out_of_range (jump_of j (distance s target))) (Err UnknownLabel) ≡ no_insn f → IsLost labels s (Jumps j (Label l)) f
    go None h e =
        let same : UnknownLabel ≡ f = cc in
        subst (λ (f : AsmFault). IsLost labels s (Jumps j (Label l)) f) same (λ t c. differs (sym h ∙ found l t labels d c))
      where
        differs : {t : ℕ} → None ≡ Some t → ⊥
        differs e = cc
    go (Some t) h e =
        let r = in_range_err (jump_of j (distance s t)) f e in
        subst (λ (f : AsmFault). IsLost labels s (Jumps j (Label l)) f) r.1 (t, there l t labels h, λ i is lands. differs (sym r.0 ∙ jump_to s t j i lands is))
      where
        differs : {i : Insn} → None ≡ Some i → ⊥
        differs e = cc

-- an unresolved line has no instruction, or a later one has none
build_fails : (labels : Labels) (d : UnresolvedLine) (ds : List UnresolvedLine) (f : AsmFault) (m : ℕ) → second_pass labels (d ∷ ds) ≡ fails (List Insn) f m → {P : Type 0} → (insn_for labels d.slot d.says ≡ no_insn f → m ≡ d.line → P) → ((i : Insn) → insn_for labels d.slot d.says ≡ insn_is i → second_pass labels ds ≡ fails (List Insn) f m → P) → P
unfolding second_pass
build_fails labels d ds f m e {P} first later = go (insn_for labels d.slot d.says) refl
  where
    go : (r : Result Insn AsmFault) → insn_for labels d.slot d.says ≡ r → P
    go (Err g) h =
        let one : fails (List Insn) g d.line ≡ fails (List Insn) f m = rw h at e in
        let both = same_fault (List Insn) g f d.line m one in
        first (h ∙ ap no_insn both.0) (sym both.1)
    go (Ok i) h = by (second_pass labels ds) refl
      where
        by : (r : Result (List Insn) (AsmFault × ℕ)) → second_pass labels ds ≡ r → P
        by (Err g) k =
            let one : Err g ≡ fails (List Insn) f m = rw (h, k) at e in
            later i h (k ∙ one)
        by (Ok is) k = let bad : Ok (i ∷ is) ≡ fails (List Insn) f m = rw (h, k) at e in absurd (cc)

here : (labels : Labels) (n s : ℕ) (l : ItemValue) (ls : List ItemValue) (f : AsmFault) (m : ℕ) → m ≡ n → IsLost labels s l f → Lost labels n s (l ∷ ls) f m
here labels n s l ls f m e lost = record {
  before = [];
  line = l;
  following = ls;
  split = refl;
  number = omega (arith, e);
  insns = [];
  said = tt;
  lost = subst (λ (k : ℕ). IsLost labels k l f) (sym (plus_none s)) lost;
}

built_fails : (labels : Labels) (n s : ℕ) (ls : List ItemValue) (f : AsmFault) (m : ℕ) → IsDistinct bytes_eq (names labels) → AllByRecursion (λ l. fits l ≡ true) ls → second_pass labels (unresolved_lines n s ls) ≡ fails (List Insn) f m → Lost labels n s ls f m
unfolding second_pass
built_fails labels n s [] f m d fit e = absurd (cc)
built_fails labels n s (Blank ∷ ls) f m d fit e = one_before labels n s Blank ls f m (λ is. is) (λ before is h. nothing_less labels s before is h) (built_fails labels (suc n) (s + 0) ls f m d fit.1 e)
built_fails labels n s (DefinesLabel l ∷ ls) f m d fit e = one_before labels n s (DefinesLabel l) ls f m (λ is. is) (λ before is h. nothing_less labels s before is h) (built_fails labels (suc n) (s + 0) ls f m d fit.1 e)
built_fails labels n s (Says x ∷ ls) f m d fit e =
    build_fails labels (record { line = n; slot = s; says = Says x }) (unresolved_lines (suc n) (s + slots (Says x)) ls) f m e
    (λ h line. here labels n s (Says x) ls f m line (lost_line labels s (Says x) f d fit.0 (λ e. cc) (λ n e. cc) h))
    (λ i h rest. one_before labels n s (Says x) ls f m (λ is. i ∷ is) (λ before is said. (resolved_was labels s (Says x) i h, said)) (built_fails labels (suc n) (s + slots (Says x)) ls f m d fit.1 rest))
built_fails labels n s (Jumps j t ∷ ls) f m d fit e =
    build_fails labels (record { line = n; slot = s; says = Jumps j t }) (unresolved_lines (suc n) (s + slots (Jumps j t)) ls) f m e
    (λ h line. here labels n s (Jumps j t) ls f m line (lost_line labels s (Jumps j t) f d fit.0 (λ e. cc) (λ n e. cc) h))
    (λ i h rest. one_before labels n s (Jumps j t) ls f m (λ is. i ∷ is) (λ before is said. (resolved_was labels s (Jumps j t) i h, said)) (built_fails labels (suc n) (s + slots (Jumps j t)) ls f m d fit.1 rest))

-- ---- both passes

-- where nothing was resolved, or not all
finish_fails : (text : List ℕ) (ls : List ItemValue) (f : AsmFault) (m : ℕ) → map read_line (lines text) ≡ map Some ls → AreFine ls → insns_of (after 1 nothing_read ls) ≡ fails (List Insn) f m → IsFirstFault text f m
finish_fails text ls f m read fine e = go (nat_eq (0 + slots_of ls) 0) refl
  where
    go : (b : Bool) → nat_eq (0 + slots_of ls) 0 ≡ b → IsFirstFault text f m
    go true h =
        let one : fails (List Insn) Syntax 1 ≡ fails (List Insn) f m = rw h at e in
        let both = same_fault (List Insn) Syntax f 1 m one in
        let zero_slots = eqb-true _ _ h in
        subst (λ (f : AsmFault). IsFirstFault text f m) both.0 (subst (λ (m : ℕ). IsFirstFault text Syntax m) both.1 (NoInsn (record { says = ls; read = read; fine = fine; none = omega (arith, zero_slots) })))
    go false h =
        let rest : second_pass (definitions 0 ls) (unresolved_lines 1 0 ls) ≡ fails (List Insn) f m = rw h at e in
        lost (built_fails (definitions 0 ls) 1 0 ls f m fine.once fine.fit rest)
      where
        lost : Lost (definitions 0 ls) 1 0 ls f m → IsFirstFault text f m
        lost x =
            let labels : definitions 0 ls ≡ definitions 0 (x.before ++ x.line ∷ x.following) = ap (λ (ls : List ItemValue). definitions 0 ls) x.split in
            let slot : 0 + slots_of x.before ≡ slots_of x.before = omega arith in
            AtJump f m (record {
              before = x.before;
              line = x.line;
              following = x.following;
              read = read ∙ ap (λ (ls : List ItemValue). map Some ls) x.split;
              number = omega (arith, x.number);
              fine = subst AreFine x.split fine;
              insns = x.insns;
              said = subst (λ (es : Labels). AreSaid es 0 x.before x.insns) labels x.said;
              lost = subst (λ (es : Labels). IsLost es (slots_of x.before) x.line f) labels (subst (λ (k : ℕ). IsLost (definitions 0 ls) k x.line f) slot x.lost);
            })

first_pass_fine : (text : List ℕ) (q : FirstPassState) (ls : List ItemValue) → map read_line (lines text) ≡ map Some ls → first_pass 1 nothing_read (lines text) ≡ first_pass_is q → after 1 nothing_read ls ≡ q → IsDistinct bytes_eq (names q.labels) → AreFine ls
unfolding IsDistinct
first_pass_fine text q ls read e is once =
    let fit = first_pass_fit 1 nothing_read q (lines text) ls read e tt (omega arith) in
    record {
      once = subst (λ (p : FirstPassState). IsDistinct bytes_eq (names p.labels)) (sym is) once;
      fit = fit.fit;
      within = omega (arith, fit.within);
    }

start : Before nothing_read 1 [] []
unfolding IsDistinct
start = record { slots = refl; labels = refl; number = refl; read = refl; fine = record { once = tt; fit = tt; within = omega arith } }

insns_fault : (text : List ℕ) (f : AsmFault) (m : ℕ) → read_insns text ≡ fails (List Insn) f m → IsFirstFault text f m
unfolding IsDistinct
insns_fault text f m e = go (first_pass 1 nothing_read (lines text)) refl
  where
    go : (r : Result FirstPassState (AsmFault × ℕ)) → first_pass 1 nothing_read (lines text) ≡ r → IsFirstFault text f m
    go (Err (g, k)) h =
        let one : fails (List Insn) g k ≡ fails (List Insn) f m = rw h at e in
        let both = same_fault (List Insn) g f k m one in
        AtLine f m (subst (λ (f : AsmFault). FailsAt (lines text) f m) both.0 (subst (λ (m : ℕ). FailsAt (lines text) g m) both.1 (first_pass_fails [] [] nothing_read 1 (lines text) g k start h)))
    go (Ok q) h =
        let laid = first_pass_was 1 nothing_read q (lines text) h tt in
        let rest : insns_of q ≡ fails (List Insn) f m = rw h at e in
        let fine = first_pass_fine text q laid.says laid.read h laid.is laid.once in
        finish_fails text laid.says f m laid.read fine (subst (λ (p : FirstPassState). insns_of p ≡ fails (List Insn) f m) (sym laid.is) rest)

-- the fault that reading gives
pub first_fault : (text : List ℕ) (f : AsmFault) (m : ℕ) → read_text text ≡ Err (f, m) → IsFirstFault text f m
first_fault text f m e = go (read_insns text) refl
  where
    go : (r : Result (List Insn) (AsmFault × ℕ)) → read_insns text ≡ r → IsFirstFault text f m
    go (Err (g, k)) h =
        let one : fails Code g k ≡ fails Code f m = rw h at e in
        let both = same_fault Code g f k m one in
        subst (λ (f : AsmFault). IsFirstFault text f m) both.0 (subst (λ (m : ℕ). IsFirstFault text g m) both.1 (insns_fault text g k h))
    go (Ok is) h = let bad : Ok (code_of is) ≡ fails Code f m = rw h at e in absurd (cc)

abbrev code_is : Code → Result Code (AsmFault × ℕ)
code_is code = Ok code

-- what gives what was read answers for the text
pub answers : (text : List ℕ) (answer : Result Code AsmError) → Gives (λ program. program) answer (read_text text) → Answers text answer
answers text (Ok code) e = read_was text code e
answers text (Err (Refused fault line)) e = (first_fault text fault line e, λ code h. differs (sym e ∙ read_as text code h))
  where
    differs : {f : AsmFault × ℕ} {c : Code} → Err f ≡ code_is c → ⊥
    differs e = cc
answers text (Err OutOfMemory) e = tt
