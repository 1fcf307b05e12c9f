-- A text is read as the program that it stands for, and stands for the program that it is read as.
use Rattle.std.proofs.Common.{◌≡◌, ℕ, zero, suc, ◌+◌, ◌<◌, ◌≤◌, ℤ, pos, negsuc, ◌-ℤ◌, ◌^◌, ◌-◌, Bool, true, false, nat_eq, nat_lt, is_some, List, [], ◌∷◌, ◌++◌, length, map, slice_index_or, Option, Some, None, Result, Ok, Err, ◌⊎◌, inl, inr, refl, sym, ap, subst, ◌∙◌, append_assoc, arith}
use Rattle.std.proofs.lemmas.Bool.{ltb-true, lt-ltb, le-ltb, ne_eqb}
use Rattle.std.proofs.lemmas.Int.{ints}
use Rattle.std.proofs.lemmas.List.{append-nil}
use Rattle.std.proofs.lemmas.List.Elements.{Contains-append_cases, Contains-append_left, Contains-append_right}
use Rattle.std.proofs.lemmas.Slice.Eq.{bytes_eq-Decides}
use Rattle.std.specs.List.{Contains, IsDistinct, AllByRecursion}
use Rattle.std.specs.Str.{bytes_eq}
use Rattle.std.specs.Str.Lines.{lines}
use Rattle.scx_isa_semantics.specs.declared.instructions.Insn.{Insn}
use Rattle.scx_isa_semantics.specs.declared.instructions.Insn.TheVariants as insn
use Rattle.scx_isa_semantics.specs.Arithmetic.{at_distance}
use Rattle.scx_isa_semantics.specs.Code.{Code, is_wide, size}
use Rattle.scx_isa_semantics.specs.Steps.{target}
use Rattle.scx_isa.specs.declared.program.TheConstants.{MAX_SLOTS}
use Rattle.scx_asm_text.specs.declared.items.Jump.{Jump}
use Rattle.scx_asm_text.specs.declared.items.Jump.TheVariants as jump
use Rattle.scx_asm_text.specs.Options.{either}
use Rattle.scx_asm_text.specs.Items.{Label, Distance, ItemValue, Blank, DefinesLabel, Says, Jumps, read_line}
use Rattle.scx_asm.specs.declared.faults.AsmFault.{AsmFault}
use Rattle.scx_asm.specs.declared.faults.AsmFault.TheVariants.{Syntax, UnknownLabel, TwiceLabel, OutOfRange, TooLong}
use Rattle.scx_asm.specs.Resolving.{operand_of, short, wide, jump_of, distant, distance, fits, slots, or_out_of_range, Labels, find, insn_for}
use Rattle.scx_isa_semantics.specs.Results.{◌>>=◌}
use Rattle.scx_asm.specs.FirstPass.{UnresolvedLine, FirstPassState, nothing_read, at_line, with_label, with_unresolved, with_line, with_text, first_pass}
use Rattle.scx_asm.specs.Reading.{second_pass, insns_of, read_insns, read_text, code_of}
use Rattle.scx_asm.specs.FirstFault.{slots_of}
use Rattle.scx_asm.specs.Standing.{label_at, definitions, names, IsJump, IsSaid, AreSaid, StandsFor}
use Rattle.scx_asm.proofs.Fitting.{bind_some, bind_ok, located_ok, in_range_ok, line_fits, assembled}

-- ---- labels

same_bytes : (l : List ℕ) → bytes_eq l l ≡ true
same_bytes l = (bytes_eq-Decides l l).1 refl

-- what is found is defined
pub there : (l : List ℕ) (t : ℕ) (es : Labels) → find l es ≡ Some t → Contains es (l, t)
unfolding find
there l t [] e = absurd (cc)
there l t (x ∷ es) e = go (bytes_eq l x.0) refl (λ h. there l t es h)
  where
    go : (b : Bool) → bytes_eq l x.0 ≡ b → (find l es ≡ Some t → Contains es (l, t)) → Contains (x ∷ es) (l, t)
    go true h behind =
        let one : Some x.1 ≡ Some t = rw h at e in
        let slot : x.1 ≡ t = cc in
        let name : l ≡ x.0 = (bytes_eq-Decides l x.0).0 h in
        let same : x ≡ (l, t) = ap (λ (s : ℕ). (x.0, s)) slot ∙ ap (λ (n : List ℕ). (n, t)) (sym name) in
        Contains-append_left (x ∷ []) es (l, t) (0, omega arith, same)
    go false h behind = Contains-append_right (x ∷ []) es (l, t) (behind (rw h at e))

alone : (x y : List ℕ × ℕ) → Contains (x ∷ []) y → x ≡ y
alone x y c = go c.0 c.1 c.2
  where
    go : (k : ℕ) → k < 1 → slice_index_or (x ∷ []) k y ≡ y → x ≡ y
    go zero lt e = e
    go (suc k) lt e = absurd (omega arith)

apart : (l m : List ℕ) → bytes_eq m l ≡ false → bytes_eq l m ≡ false
apart l m h = go (bytes_eq l m) refl
  where
    go : (b : Bool) → bytes_eq l m ≡ b → bytes_eq l m ≡ false
    go false e = e
    go true e =
        let same : l ≡ m = (bytes_eq-Decides l m).0 e in
        let bad : true ≡ false = sym ((bytes_eq-Decides m l).1 (sym same)) ∙ h in
        absurd (cc)

-- a name that differs from all differs from each
apart_from : (m : List ℕ) (es : Labels) (x : List ℕ × ℕ) → AllByRecursion (λ y. bytes_eq m y ≡ false) (names es) → Contains es x → bytes_eq m x.0 ≡ false
apart_from m [] x h c = absurd (omega (arith, c.1))
apart_from m (e ∷ es) x h c = go (Contains-append_cases (e ∷ []) es x c) (λ w. apart_from m es x h.1 w)
  where
    go : Contains (e ∷ []) x ⊎ Contains es x → (Contains es x → bytes_eq m x.0 ≡ false) → bytes_eq m x.0 ≡ false
    go (inl w) behind = subst (λ (y : List ℕ × ℕ). bytes_eq m y.0 ≡ false) (alone e x w) h.0
    go (inr w) behind = behind w

-- a label that is defined once is found
pub found : (l : List ℕ) (t : ℕ) (es : Labels) → IsDistinct bytes_eq (names es) → Contains es (l, t) → find l es ≡ Some t
unfolding find IsDistinct
found l t [] d c = absurd (omega (arith, c.1))
found l t (x ∷ es) d c = go (Contains-append_cases (x ∷ []) es (l, t) c) (λ w. found l t es d.1 w)
  where
    here : find l ((l, t) ∷ es) ≡ Some t
    here = rw (same_bytes l) refl

    go : Contains (x ∷ []) (l, t) ⊎ Contains es (l, t) → (Contains es (l, t) → find l es ≡ Some t) → find l (x ∷ es) ≡ Some t
    go (inl w) behind = subst (λ (y : List ℕ × ℕ). find l (y ∷ es) ≡ Some t) (sym (alone x (l, t) w)) here
    go (inr w) behind = rw (apart l x.0 (apart_from x.0 es (l, t) d.0 w)) (behind w)

apart_later : (m : List ℕ) (es rest : Labels) (x : List ℕ × ℕ) → AllByRecursion (λ y. bytes_eq m y ≡ false) (names (es ++ x ∷ rest)) → bytes_eq m x.0 ≡ false
apart_later m [] rest x h = h.0
apart_later m (y ∷ es) rest x h = apart_later m es rest x h.1

-- a label that is defined once isn't found among those before it
new : (es rest : Labels) (x : List ℕ × ℕ) → IsDistinct bytes_eq (names (es ++ x ∷ rest)) → find x.0 es ≡ None
unfolding find IsDistinct
new [] rest x d = refl
new (y ∷ es) rest x d = rw (apart x.0 y.0 (apart_later y.0 es rest x d.0)) (new es rest x d.1)

apart_more : (m : List ℕ) (es : Labels) (x : List ℕ × ℕ) → AllByRecursion (λ y. bytes_eq m y ≡ false) (names es) → bytes_eq m x.0 ≡ false → AllByRecursion (λ y. bytes_eq m y ≡ false) (names (es ++ x ∷ []))
apart_more m [] x h e = (e, tt)
apart_more m (y ∷ es) x h e = (h.0, apart_more m es x h.1 e)

abbrev no_slot : Option ℕ
no_slot = None

-- with a label that isn't found they stay distinct
once_more : (es : Labels) (x : List ℕ × ℕ) → IsDistinct bytes_eq (names es) → find x.0 es ≡ None → IsDistinct bytes_eq (names (es ++ x ∷ []))
unfolding find IsDistinct
once_more [] x d e = (tt, tt)
once_more (y ∷ es) x d e = go (bytes_eq x.0 y.0) refl (λ h. once_more es x d.1 h)
  where
    go : (b : Bool) → bytes_eq x.0 y.0 ≡ b → (find x.0 es ≡ None → IsDistinct bytes_eq (names (es ++ x ∷ []))) → IsDistinct bytes_eq (names (y ∷ (es ++ x ∷ [])))
    go true h behind = let bad : Some y.1 ≡ no_slot = rw h at e in absurd (cc)
    go false h behind = (apart_more y.0 es x d.0 (apart y.0 x.0 h), behind (rw h at e))

-- ---- states of the first pass

abbrev unresolved_line : ℕ → ℕ → ItemValue → List UnresolvedLine
unresolved_line n s Blank = []
unresolved_line n s (DefinesLabel l) = []
unresolved_line n s l = record { line = n; slot = s; says = l } ∷ []

abbrev pub unresolved_lines : ℕ → ℕ → List ItemValue → List UnresolvedLine
unresolved_lines n s [] = []
unresolved_lines n s (l ∷ ls) = unresolved_line n s l ++ unresolved_lines (suc n) (s + slots l) ls

-- the state with one line more, and with lines more from the n-th on
abbrev pub after_one : ℕ → FirstPassState → ItemValue → FirstPassState
after_one n p l = record { slots = p.slots + slots l; labels = p.labels ++ label_at p.slots l; unresolved = p.unresolved ++ unresolved_line n p.slots l }

abbrev pub after : ℕ → FirstPassState → List ItemValue → FirstPassState
after n p ls = record { slots = p.slots + slots_of ls; labels = p.labels ++ definitions p.slots ls; unresolved = p.unresolved ++ unresolved_lines n p.slots ls }

abbrev pass : ℕ → Labels → List UnresolvedLine → FirstPassState
pass s a d = record { slots = s; labels = a; unresolved = d }

same_pass : (s t : ℕ) (a b : Labels) (c d : List UnresolvedLine) → s ≡ t → a ≡ b → c ≡ d → pass s a c ≡ pass t b d
same_pass s t a b c d x y z = ap (λ (s : ℕ). pass s a c) x ∙ (ap (λ (a : Labels). pass t a c) y ∙ ap (λ (c : List UnresolvedLine). pass t b c) z)

-- no slots more are none
pub plus_none : (s : ℕ) → s + 0 ≡ s
plus_none s = omega arith

unchanged : (p : FirstPassState) → pass (p.slots + 0) (p.labels ++ []) (p.unresolved ++ []) ≡ p
unchanged p = same_pass _ _ _ _ _ _ (plus_none p.slots) (append-nil p.labels) (append-nil p.unresolved)

after_more : (n : ℕ) (p : FirstPassState) (l : ItemValue) (ls : List ItemValue) → after (suc n) (after_one n p l) ls ≡ after n p (l ∷ ls)
after_more n p l ls = same_pass _ _ _ _ _ _ (omega arith) (append_assoc p.labels (label_at p.slots l) (definitions (p.slots + slots l) ls)) (append_assoc p.unresolved (unresolved_line n p.slots l) (unresolved_lines (suc n) (p.slots + slots l) ls))

-- ---- the first pass over one line

abbrev done : FirstPassState → Result FirstPassState AsmFault
done p = Ok p

abbrev refused : AsmFault → Result FirstPassState AsmFault
refused f = Err f

line_as : (n : ℕ) (p : FirstPassState) (rest : Labels) (l : ItemValue) → IsDistinct bytes_eq (names (p.labels ++ (label_at p.slots l ++ rest))) → fits l ≡ true → p.slots + slots l ≤ MAX_SLOTS → with_line n p l ≡ done (after_one n p l)
line_as n p rest Blank d fit le = ap done (sym (unchanged p))
line_as n p rest (DefinesLabel l) d fit le = rw (new p.labels rest (l, p.slots) d) (ap done (same_pass _ _ _ _ _ _ (sym (plus_none p.slots)) refl (sym (append-nil p.unresolved))))
line_as n p rest (Says s) d fit le = rw (fit, le-ltb _ _ le) (ap done (same_pass _ _ _ _ _ _ refl (sym (append-nil p.labels)) refl))
line_as n p rest (Jumps j t) d fit le = rw (fit, le-ltb _ _ le) (ap done (same_pass _ _ _ _ _ _ refl (sym (append-nil p.labels)) refl))

pub record Added (n : ℕ) (p q : FirstPassState) (l : ItemValue) : Type 0 where
  pub is : after_one n p l ≡ q
  pub once : IsDistinct bytes_eq (names q.labels)

label_was : (n : ℕ) (p q : FirstPassState) (l : List ℕ) → with_label p l ≡ Ok q → IsDistinct bytes_eq (names p.labels) → Added n p q (DefinesLabel l)
label_was n p q l e d = go (find l p.labels) refl
  where
    go : (r : Option ℕ) → find l p.labels ≡ r → Added n p q (DefinesLabel l)
    go (Some t) h = let bad : refused TwiceLabel ≡ Ok q = rw h at e in absurd (cc)
    go None h =
        let more : FirstPassState = pass p.slots (p.labels ++ (l, p.slots) ∷ []) p.unresolved in
        let one : done more ≡ Ok q = rw h at e in
        let same : more ≡ q = cc in
        record {
          is = same_pass _ _ _ _ _ _ (plus_none p.slots) refl (append-nil p.unresolved) ∙ same;
          once = subst (λ (q : FirstPassState). IsDistinct bytes_eq (names q.labels)) same (once_more p.labels (l, p.slots) d h);
        }

unresolved_was : (n : ℕ) (p q : FirstPassState) (l : ItemValue) → with_unresolved n p l ≡ Ok q → pass (p.slots + slots l) p.labels (p.unresolved ++ record { line = n; slot = p.slots; says = l } ∷ []) ≡ q
unresolved_was n p q l e = go (fits l) (nat_lt MAX_SLOTS (p.slots + slots l)) refl refl
  where
    go : (a b : Bool) → fits l ≡ a → nat_lt MAX_SLOTS (p.slots + slots l) ≡ b → pass (p.slots + slots l) p.labels (p.unresolved ++ record { line = n; slot = p.slots; says = l } ∷ []) ≡ q
    go false b x y = let bad : refused OutOfRange ≡ Ok q = rw x at e in absurd (cc)
    go true true x y = let bad : refused TooLong ≡ Ok q = rw (x, y) at e in absurd (cc)
    go true false x y =
        let one : done (pass (p.slots + slots l) p.labels (p.unresolved ++ record { line = n; slot = p.slots; says = l } ∷ [])) ≡ Ok q = rw (x, y) at e in
        cc

-- an instruction changes no label
unresolved_line_was : (n : ℕ) (p q : FirstPassState) (l : ItemValue) (k : ℕ) (ds : List UnresolvedLine) → pass k p.labels ds ≡ q → after_one n p l ≡ pass k (p.labels ++ []) ds → IsDistinct bytes_eq (names p.labels) → Added n p q l
unresolved_line_was n p q l k ds e a d = record {
  is = a ∙ (same_pass _ _ _ _ _ _ refl (append-nil p.labels) refl ∙ e);
  once = subst (λ (q : FirstPassState). IsDistinct bytes_eq (names q.labels)) e d;
}

-- what a line adds to the state
pub line_was : (n : ℕ) (p q : FirstPassState) (l : ItemValue) → with_line n p l ≡ Ok q → IsDistinct bytes_eq (names p.labels) → Added n p q l
line_was n p q Blank e d =
    let same : p ≡ q = cc in
    record { is = unchanged p ∙ same; once = subst (λ (q : FirstPassState). IsDistinct bytes_eq (names q.labels)) same d }
line_was n p q (DefinesLabel l) e d = label_was n p q l e d
line_was n p q (Says s) e d = unresolved_line_was n p q (Says s) _ _ (unresolved_was n p q (Says s) e) refl d
line_was n p q (Jumps j t) e d = unresolved_line_was n p q (Jumps j t) _ _ (unresolved_was n p q (Jumps j t) e) refl d

-- a line that passed was of the language
pub text_was : (n : ℕ) (p q : FirstPassState) (r : Option ItemValue) → either r (with_line n p) (Err Syntax) ≡ Ok q → (l : ItemValue) × (r ≡ Some l) × (with_line n p l ≡ Ok q)
text_was n p q None e = absurd (cc)
text_was n p q (Some l) e = (l, refl, e)

-- ---- the first pass over lines

abbrev first_pass_is : FirstPassState → Result FirstPassState (AsmFault × ℕ)
first_pass_is p = Ok p

pub record Planned (n : ℕ) (p q : FirstPassState) (texts : List (List ℕ)) : Type 0 where
  pub says : List ItemValue
  pub read : map read_line texts ≡ map Some says
  pub is : after n p says ≡ q
  pub once : IsDistinct bytes_eq (names q.labels)

-- what all lines add
pub first_pass_was : (n : ℕ) (p q : FirstPassState) (texts : List (List ℕ)) → first_pass n p texts ≡ Ok q → IsDistinct bytes_eq (names p.labels) → Planned n p q texts
unfolding first_pass
first_pass_was n p q [] e d =
    let same : p ≡ q = cc in
    record { says = []; read = refl; is = unchanged p ∙ same; once = subst (λ (q : FirstPassState). IsDistinct bytes_eq (names q.labels)) same d }
first_pass_was n p q (text ∷ texts) e d =
    let next = bind_ok (at_line n (with_text n p text)) _ q e in
    let line = text_was n p next.0 (read_line text) (located_ok n _ next.0 next.1) in
    let one = line_was n p next.0 line.0 line.2 d in
    let rest = first_pass_was (suc n) next.0 q texts next.2 one.once in
    record {
      says = line.0 ∷ rest.says;
      read = ap (λ (x : Option ItemValue). x ∷ map read_line texts) line.1 ∙ ap (λ (xs : List (Option ItemValue)). Some line.0 ∷ xs) rest.read;
      is = sym (after_more n p line.0 rest.says) ∙ (ap (λ (p : FirstPassState). after (suc n) p rest.says) one.is ∙ rest.is);
      once = rest.once;
    }

-- ---- what lines say

abbrev no_number : Option ℤ
no_number = None

short_is : (z o : ℤ) → short z ≡ Some o → o ≡ z
short_is (pos n) o e = go (nat_lt n (2 ^ 15)) refl
  where
    go : (b : Bool) → nat_lt n (2 ^ 15) ≡ b → o ≡ pos n
    go true t = let one : Some (pos n) ≡ Some o = rw t at e in let same : pos n ≡ o = cc in sym same
    go false t = let bad : no_number ≡ Some o = rw t at e in absurd (cc)
short_is (negsuc n) o e = go (nat_lt n (2 ^ 15)) refl
  where
    go : (b : Bool) → nat_lt n (2 ^ 15) ≡ b → o ≡ negsuc n
    go true t = let one : Some (negsuc n) ≡ Some o = rw t at e in let same : negsuc n ≡ o = cc in sym same
    go false t = let bad : no_number ≡ Some o = rw t at e in absurd (cc)

long_is : (z o : ℤ) → wide z ≡ Some o → o ≡ z
long_is (pos n) o e = go (nat_lt n (2 ^ 31)) refl
  where
    go : (b : Bool) → nat_lt n (2 ^ 31) ≡ b → o ≡ pos n
    go true t = let one : Some (pos n) ≡ Some o = rw t at e in let same : pos n ≡ o = cc in sym same
    go false t = let bad : no_number ≡ Some o = rw t at e in absurd (cc)
long_is (negsuc n) o e = go (nat_lt n (2 ^ 31)) refl
  where
    go : (b : Bool) → nat_lt n (2 ^ 31) ≡ b → o ≡ negsuc n
    go true t = let one : Some (negsuc n) ≡ Some o = rw t at e in let same : negsuc n ≡ o = cc in sym same
    go false t = let bad : no_number ≡ Some o = rw t at e in absurd (cc)

-- the slot behind a jump is the next, and the target lies its distance from there
abbrev Lands : ℕ → ℤ → Insn → Type 0
Lands s z i = target s i ≡ at_distance (s + 1) z

lands : (s : ℕ) (j : Jump) (z : ℤ) (i : Insn) → jump_of j z ≡ Some i → Lands s z i
lands s (jump.If w c r x) z i e =
    let o = bind_some (short z) _ i e in
    let y = bind_some (operand_of x) _ i o.2 in
    let same : insn.JumpIf w c r y.0 o.0 ≡ i = cc in
    subst (λ (i : Insn). Lands s z i) same (ap (λ (z : ℤ). at_distance (s + 1) z) (short_is z o.0 o.1))
lands s jump.Goto z i e =
    let o = bind_some (short z) _ i e in
    let same : insn.Goto o.0 ≡ i = cc in
    subst (λ (i : Insn). Lands s z i) same (ap (λ (z : ℤ). at_distance (s + 1) z) (short_is z o.0 o.1))
lands s jump.GotoLong z i e =
    let o = bind_some (wide z) _ i e in
    let same : insn.GotoLong o.0 ≡ i = cc in
    subst (λ (i : Insn). Lands s z i) same (ap (λ (z : ℤ). at_distance (s + 1) z) (long_is z o.0 o.1))

shifted_from : (n t : ℕ) (z : ℤ) → at_distance n z ≡ Some t → z ≡ pos t -ℤ pos n
shifted_from n t (pos k) e =
    let sum : n + k ≡ t = cc in
    omega (arith, ints)
shifted_from n t (negsuc k) e = go (nat_lt k n) refl
  where
    go : (b : Bool) → nat_lt k n ≡ b → negsuc k ≡ pos t -ℤ pos n
    go true h =
        let one : Some (n - suc k) ≡ Some t = rw h at e in
        let difference : n - suc k ≡ t = cc in
        let below = ltb-true _ _ h in
        omega (arith, ints)
    go false h = let bad : no_slot ≡ Some t = rw h at e in absurd (cc)

shifted_to : (n t : ℕ) (z : ℤ) → z ≡ pos t -ℤ pos n → at_distance n z ≡ Some t
shifted_to n t (pos k) e =
    let sum : n + k ≡ t = omega (arith, ints) in
    ap (λ (t : ℕ). Some t) sum
shifted_to n t (negsuc k) e =
    let below : k < n = omega (arith, ints) in
    let difference : n - suc k ≡ t = omega (arith, ints) in
    rw (lt-ltb _ _ below) (ap (λ (t : ℕ). Some t) difference)

-- a jump has a slot as its target exactly if its distance is that to the slot
pub jump_to : (s t : ℕ) (j : Jump) (i : Insn) → target s i ≡ Some t → IsJump j i → jump_of j (distance s t) ≡ Some i
jump_to s t j i there h =
    let same : h.0 ≡ distance s t = shifted_from (s + 1) t h.0 (sym (lands s j h.0 i h.1) ∙ there) in
    subst (λ (z : ℤ). jump_of j z ≡ Some i) same h.1

goes_to : (s t : ℕ) (j : Jump) (i : Insn) → jump_of j (distance s t) ≡ Some i → target s i ≡ Some t
goes_to s t j i e = lands s j (distance s t) i e ∙ shifted_to (s + 1) t (distance s t) refl

-- numbers that fit beside one distance fit beside none
jump_placed : (j : Jump) (z : ℤ) (i : Insn) → jump_of j z ≡ Some i → is_some (jump_of j (pos 0)) ≡ true
jump_placed (jump.If w c r x) z i e =
    let o = bind_some (short z) _ i e in
    let y = bind_some (operand_of x) _ i o.2 in
    rw y.1 refl
jump_placed jump.Goto z i e = refl
jump_placed jump.GotoLong z i e = refl

said_fits : (labels : Labels) (s : ℕ) (l : ItemValue) (i : Insn) → IsSaid labels s l i → fits l ≡ true
said_fits labels s (Says x) i h = ap (λ (r : Option Insn). is_some r) h
said_fits labels s (Jumps j (Distance n)) i h = ap (λ (r : Option Insn). is_some r) h
said_fits labels s (Jumps j (Label l)) i h = jump_placed j h.3.0 i h.3.1
said_fits labels s Blank i h = refl
said_fits labels s (DefinesLabel l) i h = refl

resolved_as : (labels : Labels) (s : ℕ) (l : ItemValue) (i : Insn) → IsDistinct bytes_eq (names labels) → IsSaid labels s l i → insn_for labels s l ≡ Ok i
resolved_as labels s (Says x) i d h = ap (λ (r : Option Insn). or_out_of_range r) h
resolved_as labels s (Jumps j (Distance n)) i d h = ap (λ (r : Option Insn). or_out_of_range r) h
resolved_as labels s (Jumps j (Label l)) i d h = rw (found l h.0 labels d h.1) (ap (λ (r : Option Insn). or_out_of_range r) (jump_to s h.0 j i h.2 h.3))
resolved_as labels s Blank i d h = absurd h
resolved_as labels s (DefinesLabel l) i d h = absurd h

-- an instruction that is resolved is what its line says
pub resolved_was : (labels : Labels) (s : ℕ) (l : ItemValue) (i : Insn) → insn_for labels s l ≡ Ok i → IsSaid labels s l i
resolved_was labels s (Says x) i e = in_range_ok _ i e
resolved_was labels s (Jumps j (Distance n)) i e = in_range_ok (distant j n) i e
resolved_was labels s (Jumps j (Label l)) i e = go (find l labels) refl e
  where
    go : (r : Option ℕ) → find l labels ≡ r → either r (λ target. or_out_of_range (jump_of j (distance s target))) (Err UnknownLabel) ≡ Ok i → IsSaid labels s (Jumps j (Label l)) i
    go None f e = absurd (cc)
    go (Some t) f e =
        let jump = in_range_ok (jump_of j (distance s t)) i e in
        (t, there l t labels f, goes_to s t j i jump, (distance s t, jump))
resolved_was labels s Blank i e = absurd (cc)
resolved_was labels s (DefinesLabel l) i e = absurd (cc)

record Left (labels : Labels) (s : ℕ) (l : ItemValue) (ls : List ItemValue) : Type 0 where
  pub fit : fits l ≡ true
  pub insns : List Insn
  pub rest : AreSaid labels (s + slots l) ls insns

nothing_more : (labels : Labels) (s : ℕ) (ls : List ItemValue) (is : List Insn) → AreSaid labels s ls is → AreSaid labels (s + 0) ls is
nothing_more labels s ls is h = subst (λ (k : ℕ). AreSaid labels k ls is) (sym (plus_none s)) h

left : (labels : Labels) (s : ℕ) (l : ItemValue) (ls : List ItemValue) (is : List Insn) → AreSaid labels s (l ∷ ls) is → Left labels s l ls
left labels s Blank ls is h = record { fit = refl; insns = is; rest = nothing_more labels s ls is h }
left labels s (DefinesLabel l) ls is h = record { fit = refl; insns = is; rest = nothing_more labels s ls is h }
left labels s (Says x) ls [] h = absurd h
left labels s (Says x) ls (i ∷ is) h = record { fit = said_fits labels s (Says x) i h.0; insns = is; rest = h.1 }
left labels s (Jumps j t) ls [] h = absurd h
left labels s (Jumps j t) ls (i ∷ is) h = record { fit = said_fits labels s (Jumps j t) i h.0; insns = is; rest = h.1 }

first_pass_as : (n : ℕ) (p : FirstPassState) (texts : List (List ℕ)) (ls : List ItemValue) (labels : Labels) (is : List Insn) → map read_line texts ≡ map Some ls → IsDistinct bytes_eq (names (p.labels ++ definitions p.slots ls)) → AreSaid labels p.slots ls is → p.slots + slots_of ls ≤ MAX_SLOTS
    → first_pass n p texts ≡ first_pass_is (after n p ls)
unfolding first_pass
first_pass_as n p [] [] labels is e d h le = ap first_pass_is (sym (unchanged p))
first_pass_as n p [] (l ∷ ls) labels is e d h le = absurd (cc)
first_pass_as n p (text ∷ texts) [] labels is e d h le = absurd (cc)
first_pass_as n p (text ∷ texts) (l ∷ ls) labels is e d h le =
    let first : read_line text ≡ Some l = cc in
    let others : map read_line texts ≡ map Some ls = cc in
    let k = left labels p.slots l ls is h in
    let one : with_line n p l ≡ done (after_one n p l) = line_as n p (definitions (p.slots + slots l) ls) l d k.fit (omega arith) in
    let once = subst (λ (es : Labels). IsDistinct bytes_eq (names es)) (sym (append_assoc p.labels (label_at p.slots l) (definitions (p.slots + slots l) ls))) d in
    let more = first_pass_as (suc n) (after_one n p l) texts ls labels k.insns others once k.rest (omega arith) in
    go first one more
  where
    go : read_line text ≡ Some l → with_line n p l ≡ done (after_one n p l) → first_pass (suc n) (after_one n p l) texts ≡ first_pass_is (after (suc n) (after_one n p l) ls) → (at_line n (with_text n p text) >>= λ q. first_pass (suc n) q texts) ≡ first_pass_is (after n p (l ∷ ls))
    go first one more = rw (first, one) (more ∙ ap first_pass_is (after_more n p l ls))

-- ---- the second pass

build : (labels : Labels) (d : UnresolvedLine) (ds : List UnresolvedLine) (i : Insn) (is : List Insn) → insn_for labels d.slot d.says ≡ Ok i → second_pass labels ds ≡ Ok is → second_pass labels (d ∷ ds) ≡ Ok (i ∷ is)
unfolding second_pass
build labels d ds i is e f = rw (e, f) refl

built_as : (labels : Labels) (n s : ℕ) (ls : List ItemValue) (is : List Insn) → IsDistinct bytes_eq (names labels) → AreSaid labels s ls is → second_pass labels (unresolved_lines n s ls) ≡ Ok is
unfolding second_pass
built_as labels n s [] [] d h = refl
built_as labels n s [] (i ∷ is) d h = absurd h
built_as labels n s (Blank ∷ ls) is d h = built_as labels (suc n) (s + 0) ls is d (nothing_more labels s ls is h)
built_as labels n s (DefinesLabel l ∷ ls) is d h = built_as labels (suc n) (s + 0) ls is d (nothing_more labels s ls is h)
built_as labels n s (Says x ∷ ls) [] d h = absurd h
built_as labels n s (Says x ∷ ls) (i ∷ is) d h = build labels (record { line = n; slot = s; says = Says x }) (unresolved_lines (suc n) (s + slots (Says x)) ls) i is (resolved_as labels s (Says x) i d h.0) (built_as labels (suc n) (s + slots (Says x)) ls is d h.1)
built_as labels n s (Jumps j t ∷ ls) [] d h = absurd h
built_as labels n s (Jumps j t ∷ ls) (i ∷ is) d h = build labels (record { line = n; slot = s; says = Jumps j t }) (unresolved_lines (suc n) (s + slots (Jumps j t)) ls) i is (resolved_as labels s (Jumps j t) i d h.0) (built_as labels (suc n) (s + slots (Jumps j t)) ls is d h.1)

record Built (labels : Labels) (d : UnresolvedLine) (ds : List UnresolvedLine) (is : List Insn) : Type 0 where
  pub first : Insn
  pub others : List Insn
  pub one : insn_for labels d.slot d.says ≡ Ok first
  pub rest : second_pass labels ds ≡ Ok others
  pub both : first ∷ others ≡ is

build_was : (labels : Labels) (d : UnresolvedLine) (ds : List UnresolvedLine) (is : List Insn) → second_pass labels (d ∷ ds) ≡ Ok is → Built labels d ds is
unfolding second_pass
build_was labels d ds is e =
    let i = bind_ok (at_line d.line (insn_for labels d.slot d.says)) _ is e in
    let rest = bind_ok (second_pass labels ds) _ is i.2 in
    let same : i.0 ∷ rest.0 ≡ is = cc in
    record { first = i.0; others = rest.0; one = located_ok d.line _ i.0 i.1; rest = rest.1; both = same }

-- from no slots more on is from there on
pub nothing_less : (labels : Labels) (s : ℕ) (ls : List ItemValue) (is : List Insn) → AreSaid labels (s + 0) ls is → AreSaid labels s ls is
nothing_less labels s ls is h = subst (λ (k : ℕ). AreSaid labels k ls is) (plus_none s) h

built_was : (labels : Labels) (n s : ℕ) (ls : List ItemValue) (is : List Insn) → second_pass labels (unresolved_lines n s ls) ≡ Ok is → AreSaid labels s ls is
unfolding second_pass
built_was labels n s [] is e = let same : [] ≡ is = cc in subst (λ (is : List Insn). AreSaid labels s [] is) same tt
built_was labels n s (Blank ∷ ls) is e = nothing_less labels s ls is (built_was labels (suc n) (s + 0) ls is e)
built_was labels n s (DefinesLabel l ∷ ls) is e = nothing_less labels s ls is (built_was labels (suc n) (s + 0) ls is e)
built_was labels n s (Says x ∷ ls) is e =
    let b = build_was labels (record { line = n; slot = s; says = Says x }) (unresolved_lines (suc n) (s + slots (Says x)) ls) is e in
    subst (λ (is : List Insn). AreSaid labels s (Says x ∷ ls) is) b.both (resolved_was labels s (Says x) b.first b.one, built_was labels (suc n) (s + slots (Says x)) ls b.others b.rest)
built_was labels n s (Jumps j t ∷ ls) is e =
    let b = build_was labels (record { line = n; slot = s; says = Jumps j t }) (unresolved_lines (suc n) (s + slots (Jumps j t)) ls) is e in
    subst (λ (is : List Insn). AreSaid labels s (Jumps j t ∷ ls) is) b.both (resolved_was labels s (Jumps j t) b.first b.one, built_was labels (suc n) (s + slots (Jumps j t)) ls b.others b.rest)

-- ---- how long the program is

more_places : (i : Insn) (is : List Insn) → length (code_of (i ∷ is)) ≡ size i + length (code_of is)
more_places i is = go (is_wide i) refl
  where
    go : (b : Bool) → is_wide i ≡ b → length (code_of (i ∷ is)) ≡ size i + length (code_of is)
    go true w = rw w (omega arith)
    go false w = rw w (omega arith)

slots_are : (labels : Labels) (s : ℕ) (ls : List ItemValue) (is : List Insn) → IsDistinct bytes_eq (names labels) → AreSaid labels s ls is → length (code_of is) ≡ slots_of ls
slots_are labels s [] [] d h = refl
slots_are labels s [] (i ∷ is) d h = absurd h
slots_are labels s (Blank ∷ ls) is d h = omega (arith, slots_are labels s ls is d h)
slots_are labels s (DefinesLabel l ∷ ls) is d h = omega (arith, slots_are labels s ls is d h)
slots_are labels s (Says x ∷ ls) [] d h = absurd h
slots_are labels s (Says x ∷ ls) (i ∷ is) d h =
    let one = (line_fits labels s (Says x) i (resolved_as labels s (Says x) i d h.0)).1 in
    omega (arith, more_places i is, one, slots_are labels (s + slots (Says x)) ls is d h.1)
slots_are labels s (Jumps j t ∷ ls) [] d h = absurd h
slots_are labels s (Jumps j t ∷ ls) (i ∷ is) d h =
    let one = (line_fits labels s (Jumps j t) i (resolved_as labels s (Jumps j t) i d h.0)).1 in
    omega (arith, more_places i is, one, slots_are labels (s + slots (Jumps j t)) ls is d h.1)

-- ---- both passes

abbrev insns_are : List Insn → Result (List Insn) (AsmFault × ℕ)
insns_are is = Ok is

abbrev code_is : Code → Result Code (AsmFault × ℕ)
code_is code = Ok code

finish : (p : FirstPassState) (is : List Insn) → 0 < p.slots → second_pass p.labels p.unresolved ≡ Ok is → insns_of p ≡ Ok is
finish p is some e =
    let nonzero : nat_eq p.slots 0 ≡ false = ne_eqb p.slots 0 (λ e. omega arith) in
    rw nonzero e

finish_was : (p : FirstPassState) (is : List Insn) → insns_of p ≡ Ok is → second_pass p.labels p.unresolved ≡ Ok is
finish_was p is e = go (nat_eq p.slots 0) refl
  where
    empty : Result (List Insn) (AsmFault × ℕ)
    empty = Err (Syntax, 1)

    go : (b : Bool) → nat_eq p.slots 0 ≡ b → second_pass p.labels p.unresolved ≡ Ok is
    go true t = let bad : Err (Syntax, 1) ≡ insns_are is = rw t at e in absurd (cc)
    go false t = rw t at e

-- a text is read as the program that it stands for
pub read_as : (text : List ℕ) (code : Code) → StandsFor text code → read_text text ≡ Ok code
read_as text code h =
    let labels = definitions 0 h.says in
    let total : length code ≡ slots_of h.says = ap length h.program ∙ slots_are labels 0 h.says h.insns h.once h.said in
    let laid = first_pass_as 1 nothing_read (lines text) h.says labels h.insns h.read h.once h.said (omega (arith, total, h.fits)) in
    let insns = finish (after 1 nothing_read h.says) h.insns (omega (arith, total, h.some)) (built_as labels 1 0 h.says h.insns h.once h.said) in
    rw (laid, insns) (ap code_is (sym h.program))

-- and stands for the one that it is read as
pub read_was : (text : List ℕ) (code : Code) → read_text text ≡ Ok code → StandsFor text code
unfolding IsDistinct
read_was text code e =
    let insns = bind_ok (read_insns text) _ code e in
    let plans = bind_ok (first_pass 1 nothing_read (lines text)) _ insns.0 insns.1 in
    let same : code_of insns.0 ≡ code = cc in
    let laid = first_pass_was 1 nothing_read plans.0 (lines text) plans.1 tt in
    let fine = assembled text insns.0 insns.1 in
    let once : IsDistinct bytes_eq (names (definitions 0 laid.says)) = subst (λ (p : FirstPassState). IsDistinct bytes_eq (names p.labels)) (sym laid.is) laid.once in
    let one : second_pass (definitions 0 laid.says) (unresolved_lines 1 0 laid.says) ≡ Ok insns.0 = finish_was (after 1 nothing_read laid.says) insns.0 (subst (λ (p : FirstPassState). insns_of p ≡ Ok insns.0) (sym laid.is) plans.2) in
    record {
      says = laid.says;
      insns = insns.0;
      read = laid.read;
      once = once;
      said = built_was (definitions 0 laid.says) 1 0 laid.says insns.0 one;
      program = sym same;
      some = subst (λ (code : Code). 0 < length code) same fine.some;
      fits = subst (λ (code : Code). length code ≤ MAX_SLOTS) same fine.fits;
    }
