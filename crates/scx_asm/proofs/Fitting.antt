-- What the passes give is a program: its instructions fit their fields, and take as many slots as were
-- passed.
use Rattle.std.proofs.Common.{◌≡◌, ℕ, zero, suc, ◌+◌, ◌-◌, ◌/◌, ◌%◌, ◌^◌, ◌<◌, ◌≤◌, ℤ, pos, negsuc, neg_ℤ, Bool, true, false, nat_eq, nat_lt, is_some, List, [], ◌∷◌, ◌++◌, length, Option, Some, None, Result, Ok, Err, FitsSigned, refl, ap, subst, arith}
use Rattle.std.proofs.lemmas.Bool.{ltb-true, ltb-false, lt-ltb, eqb-false}
use Rattle.std.proofs.lemmas.Int.{ints}
use Rattle.std.proofs.Math.Facts.{sfits_to_z}
use Rattle.std.specs.Int.{w16, w32, cast_signed}
use Rattle.std.specs.Str.Lines.{lines}
use Rattle.scx_isa_semantics.specs.declared.instructions.Insn.{Insn}
use Rattle.scx_isa_semantics.specs.declared.instructions.Operand.{Operand}
use Rattle.scx_isa_semantics.specs.declared.instructions.Operand.TheVariants as operand
use Rattle.scx_isa_semantics.specs.Code.{Code, is_wide, size}
use Rattle.scx_isa_encoding.specs.Spelling.{IsOperand, IsInsn}
use Rattle.scx_isa.specs.Spelling.{IsCode, IsProgram}
use Rattle.scx_isa.specs.declared.program.TheConstants.{MAX_SLOTS}
use Rattle.scx_asm_text.specs.declared.items.Literal.{Literal}
use Rattle.scx_asm_text.specs.declared.items.WrittenOperand.{WrittenOperand}
use Rattle.scx_asm_text.specs.declared.items.WrittenOperand.TheVariants as argument
use Rattle.scx_asm_text.specs.declared.items.Statement.{Statement}
use Rattle.scx_asm_text.specs.declared.items.Statement.TheVariants as statement
use Rattle.scx_asm_text.specs.declared.items.Jump.{Jump}
use Rattle.scx_asm_text.specs.declared.items.Jump.TheVariants as jump
use Rattle.scx_asm_text.specs.Options.{either, ◌>>=◌ as ◌>>-◌}
use Rattle.scx_asm_text.specs.Items.{Label, Distance, ItemValue, Blank, DefinesLabel, Says, Jumps, read_line}
use Rattle.scx_asm.specs.declared.faults.AsmFault.{AsmFault}
use Rattle.scx_asm.specs.declared.faults.AsmFault.TheVariants.{Syntax, UnknownLabel, TwiceLabel, OutOfRange, TooLong}
use Rattle.scx_asm.specs.Resolving.{immediate, short, wide, long, operand_of, insn_of, jump_of, distant, fits, slots, Labels, find, distance, or_out_of_range, insn_for}
use Rattle.scx_isa_semantics.specs.Results.{◌>>=◌}
use Rattle.scx_asm.specs.FirstPass.{UnresolvedLine, FirstPassState, nothing_read, at_line, with_label, with_unresolved, with_line, with_text, first_pass}
use Rattle.scx_asm.specs.Reading.{second_pass, insns_of, read_insns, read_text, code_of}

-- ---- what follows a value

-- an option behind another had the other
pub bind_some : {A B : Type 0} (m : Option A) (f : A → Option B) (y : B) → (m >>- f) ≡ Some y → (x : A) × (m ≡ Some x) × (f x ≡ Some y)
bind_some (Some x) f y e = (x, refl, e)
bind_some None f y e = absurd (cc)

-- a result behind another had the other
pub bind_ok : {A B E : Type 0} (m : Result A E) (f : A → Result B E) (y : B) → (m >>= f) ≡ Ok y → (x : A) × (m ≡ Ok x) × (f x ≡ Ok y)
bind_ok (Ok x) f y e = (x, refl, e)
bind_ok (Err d) f y e = absurd (cc)

-- a result at a line was one
pub located_ok : {A : Type 0} (n : ℕ) (r : Result A AsmFault) (x : A) → at_line n r ≡ Ok x → r ≡ Ok x
located_ok n (Ok y) x e = let same : y ≡ x = cc in ap (λ z. Ok z) same
located_ok n (Err d) x e = absurd (cc)

-- what is in range was there
pub in_range_ok : (m : Option Insn) (i : Insn) → or_out_of_range m ≡ Ok i → m ≡ Some i
in_range_ok (Some j) i e = let same : j ≡ i = cc in ap (λ z. Some z) same
in_range_ok None i e = absurd (cc)

abbrev no_number : Option ℤ
no_number = None

-- ---- numbers that fit

neg_fits : (m : ℕ) → m ≤ 2 ^ 31 → FitsSigned w32 (neg_ℤ (pos m))
neg_fits zero le = omega (arith, ints)
neg_fits (suc m) le = omega (arith, ints)

immediate_fits : (n : Literal) (k : ℤ) → immediate n ≡ Some k → FitsSigned w32 k
immediate_fits n k e = go n.is_negative n.magnitude e
  where
    go : (b : Bool) (m : Option ℕ) → immediate (record { is_negative = b; magnitude = m }) ≡ Some k → FitsSigned w32 k
    go b None e = absurd (cc)
    go true (Some m) e = by (nat_lt (2 ^ 31) m) refl
      where
        by : (t : Bool) → nat_lt (2 ^ 31) m ≡ t → FitsSigned w32 k
        by true t = let bad : no_number ≡ Some k = rw t at e in absurd (cc)
        by false t = let one : Some (neg_ℤ (pos m)) ≡ Some k = rw t at e in let same : neg_ℤ (pos m) ≡ k = cc in subst (FitsSigned w32) same (neg_fits m (ltb-false _ _ t))
    go false (Some m) e = by (nat_lt m (2 ^ 31)) refl
      where
        by : (t : Bool) → nat_lt m (2 ^ 31) ≡ t → FitsSigned w32 k
        by true t = let one : Some (pos m) ≡ Some k = rw t at e in let same : pos m ≡ k = cc in let small = ltb-true _ _ t in let fit : FitsSigned w32 (pos m) = omega (arith, ints) in subst (FitsSigned w32) same fit
        by false t = let bad : no_number ≡ Some k = rw t at e in absurd (cc)

short_fits : (z o : ℤ) → short z ≡ Some o → FitsSigned w16 o
short_fits (pos n) o e = by (nat_lt n (2 ^ 15)) refl
  where
    by : (t : Bool) → nat_lt n (2 ^ 15) ≡ t → FitsSigned w16 o
    by true t = let one : Some (pos n) ≡ Some o = rw t at e in let same : pos n ≡ o = cc in let small = ltb-true _ _ t in let fit : FitsSigned w16 (pos n) = omega (arith, ints) in subst (FitsSigned w16) same fit
    by false t = let bad : no_number ≡ Some o = rw t at e in absurd (cc)
short_fits (negsuc n) o e = by (nat_lt n (2 ^ 15)) refl
  where
    by : (t : Bool) → nat_lt n (2 ^ 15) ≡ t → FitsSigned w16 o
    by true t = let one : Some (negsuc n) ≡ Some o = rw t at e in let same : negsuc n ≡ o = cc in let small = ltb-true _ _ t in let fit : FitsSigned w16 (negsuc n) = omega (arith, ints) in subst (FitsSigned w16) same fit
    by false t = let bad : no_number ≡ Some o = rw t at e in absurd (cc)

half_fits : (b : ℕ) → b < 2 ^ 32 → FitsSigned w32 (cast_signed w32 b)
half_fits b h = sfits_to_z {w = w32} {n = b} (record { fits = h })

wide_fits : (z o : ℤ) → wide z ≡ Some o → FitsSigned w32 o
wide_fits (pos n) o e = by (nat_lt n (2 ^ 31)) refl
  where
    by : (t : Bool) → nat_lt n (2 ^ 31) ≡ t → FitsSigned w32 o
    by true t = let one : Some (pos n) ≡ Some o = rw t at e in let same : pos n ≡ o = cc in let small = ltb-true _ _ t in let fit : FitsSigned w32 (pos n) = omega (arith, ints) in subst (FitsSigned w32) same fit
    by false t = let bad : no_number ≡ Some o = rw t at e in absurd (cc)
wide_fits (negsuc n) o e = by (nat_lt n (2 ^ 31)) refl
  where
    by : (t : Bool) → nat_lt n (2 ^ 31) ≡ t → FitsSigned w32 o
    by true t = let one : Some (negsuc n) ≡ Some o = rw t at e in let same : negsuc n ≡ o = cc in let small = ltb-true _ _ t in let fit : FitsSigned w32 (negsuc n) = omega (arith, ints) in subst (FitsSigned w32) same fit
    by false t = let bad : no_number ≡ Some o = rw t at e in absurd (cc)

-- a number of 32 bits is one
pub wide_is : (z : ℤ) → FitsSigned w32 z → wide z ≡ Some z
wide_is (pos n) f = let small : n < 2 ^ 31 = omega (arith, ints) in rw (lt-ltb _ _ small) refl
wide_is (negsuc n) f = let small : n < 2 ^ 31 = omega (arith, ints) in rw (lt-ltb _ _ small) refl

-- and one of 64 bits is one
pub long_is : (m : ℕ) → m < 2 ^ 64 → nat_lt m (2 ^ 64) ≡ true
long_is m h = lt-ltb _ _ h

abbrev no_bits : Option ℕ
no_bits = None

long_fits : (n : Literal) (b : ℕ) → long n ≡ Some b → b < 2 ^ 64
long_fits n b e = go n.is_negative n.magnitude e
  where
    go : (s : Bool) (m : Option ℕ) → long (record { is_negative = s; magnitude = m }) ≡ Some b → b < 2 ^ 64
    go s None e = absurd (cc)
    go true (Some m) e = by (nat_lt (2 ^ 63) m) refl
      where
        by : (t : Bool) → nat_lt (2 ^ 63) m ≡ t → b < 2 ^ 64
        by true t = let bad : no_bits ≡ Some b = rw t at e in absurd (cc)
        by false t = let one : Some ((2 ^ 64 - m) % 2 ^ 64) ≡ Some b = rw t at e in let same : (2 ^ 64 - m) % 2 ^ 64 ≡ b = cc in omega arith
    go false (Some m) e = by (nat_lt m (2 ^ 64)) refl
      where
        by : (t : Bool) → nat_lt m (2 ^ 64) ≡ t → b < 2 ^ 64
        by true t = let one : Some m ≡ Some b = rw t at e in let same : m ≡ b = cc in omega (arith, ltb-true _ _ t)
        by false t = let bad : no_bits ≡ Some b = rw t at e in absurd (cc)

operand_fits : (x : WrittenOperand) (y : Operand) → operand_of x ≡ Some y → IsOperand y
operand_fits (argument.Register r) y e = let same : operand.Register r ≡ y = cc in subst IsOperand same tt
operand_fits (argument.Number n) y e =
    let k = bind_some (immediate n) _ y e in
    let same : operand.Immediate k.0 ≡ y = cc in
    subst IsOperand same (immediate_fits n k.0 k.1)

-- ---- instructions that fit, and their slots

carried : (k : ℕ) (i j : Insn) → Some i ≡ Some j → IsInsn i → size i ≡ k → IsInsn j × (size j ≡ k)
carried k i j e h s = let same : i ≡ j = cc in subst (λ (j : Insn). IsInsn j × (size j ≡ k)) same (h, s)

insn_fits : (s : Statement) (i : Insn) → insn_of s ≡ Some i → IsInsn i × (size i ≡ slots (Says s))
insn_fits (statement.Binary w o d x) i e =
    let y = bind_some (operand_of x) _ i e in
    carried 1 _ i y.2 (operand_fits x y.0 y.1) refl
insn_fits (statement.Negate w d) i e = carried 1 _ i e tt refl
insn_fits (statement.SignExtend x d r) i e = carried 1 _ i e tt refl
insn_fits (statement.ByteSwap o w d) i e = carried 1 _ i e tt refl
insn_fits (statement.LoadImmediate d n) i e =
    let b = bind_some (long n) _ i e in
    carried 2 _ i b.2 (half_fits (b.0 % 2 ^ 32) (omega arith), half_fits (b.0 / 2 ^ 32) (omega (arith, long_fits n b.0 b.1))) refl
insn_fits (statement.LoadMapReference d n) i e =
    let k = bind_some (immediate n) _ i e in
    carried 2 _ i k.2 (immediate_fits n k.0 k.1) refl
insn_fits (statement.Load a d r n) i e =
    let k = bind_some (immediate n) _ i e in
    let o = bind_some (short k.0) _ i k.2 in
    carried 1 _ i o.2 (short_fits k.0 o.0 o.1) refl
insn_fits (statement.Store s r n x) i e =
    let k = bind_some (immediate n) _ i e in
    let o = bind_some (short k.0) _ i k.2 in
    let y = bind_some (operand_of x) _ i o.2 in
    carried 1 _ i y.2 (short_fits k.0 o.0 o.1, operand_fits x y.0 y.1) refl
insn_fits (statement.Call n) i e =
    let k = bind_some (immediate n) _ i e in
    carried 1 _ i k.2 (immediate_fits n k.0 k.1) refl
insn_fits statement.Exit i e = carried 1 _ i e tt refl

jump_fits : (j : Jump) (z : ℤ) (i : Insn) → jump_of j z ≡ Some i → IsInsn i × (size i ≡ 1)
jump_fits (jump.If w c r x) z i e =
    let o = bind_some (short z) _ i e in
    let y = bind_some (operand_of x) _ i o.2 in
    carried 1 _ i y.2 (short_fits z o.0 o.1, operand_fits x y.0 y.1) refl
jump_fits jump.Goto z i e =
    let o = bind_some (short z) _ i e in
    carried 1 _ i o.2 (short_fits z o.0 o.1) refl
jump_fits jump.GotoLong z i e =
    let o = bind_some (wide z) _ i e in
    carried 1 _ i o.2 (wide_fits z o.0 o.1) refl

-- a label that is missing gives no instruction
label_fits : (r : Option ℕ) (slot : ℕ) (j : Jump) (i : Insn) → either r (λ target. or_out_of_range (jump_of j (distance slot target))) (Err UnknownLabel) ≡ Ok i → IsInsn i × (size i ≡ 1)
label_fits None slot j i e = absurd (cc)
label_fits (Some target) slot j i e = jump_fits j (distance slot target) i (in_range_ok _ i e)

-- the instruction of a line fits its fields, and takes its slots
pub line_fits : (labels : Labels) (slot : ℕ) (l : ItemValue) (i : Insn) → insn_for labels slot l ≡ Ok i → IsInsn i × (size i ≡ slots l)
line_fits labels slot (Says s) i e = insn_fits s i (in_range_ok _ i e)
line_fits labels slot (Jumps j (Distance n)) i e =
    let k = bind_some (immediate n) _ i (in_range_ok (distant j n) i e) in
    jump_fits j k.0 i k.2
line_fits labels slot (Jumps j (Label l)) i e = label_fits (find l labels) slot j i e
line_fits labels slot Blank i e = absurd (cc)
line_fits labels slot (DefinesLabel l) i e = absurd (cc)

-- ---- the second pass

-- the slots that unresolved lines take
abbrev total : List UnresolvedLine → ℕ
total [] = 0
total (d ∷ ds) = slots d.says + total ds

record Fit (is : List Insn) (n : ℕ) : Type 0 where
  pub code : IsCode false (code_of is)
  pub length : length (code_of is) ≡ n

one_more : (i : Insn) (is : List Insn) (n k : ℕ) → IsInsn i → size i ≡ k → Fit is n → Fit (i ∷ is) (k + n)
one_more i is n k h s f = go (is_wide i) refl
  where
    go : (b : Bool) → is_wide i ≡ b → Fit (i ∷ is) (k + n)
    go true w =
        let two : size i ≡ 2 = rw w refl in
        record { code = rw (w, w) (h, f.code); length = rw w (omega (arith, f.length, two)) }
    go false w =
        let one : size i ≡ 1 = rw w refl in
        record { code = rw (w, w) (h, f.code); length = rw w (omega (arith, f.length, one)) }

built_fits : (labels : Labels) (ds : List UnresolvedLine) (is : List Insn) → second_pass labels ds ≡ Ok is → Fit is (total ds)
unfolding second_pass
built_fits labels [] is e = let same : [] ≡ is = cc in subst (λ (is : List Insn). Fit is 0) same (record { code = tt; length = refl })
built_fits labels (d ∷ ds) is e =
    let i = bind_ok (at_line d.line (insn_for labels d.slot d.says)) _ is e in
    let rest = bind_ok (second_pass labels ds) _ is i.2 in
    let same : i.0 ∷ rest.0 ≡ is = cc in
    let h = line_fits labels d.slot d.says i.0 (located_ok d.line _ i.0 i.1) in
    subst (λ (is : List Insn). Fit is (slots d.says + total ds)) same (one_more i.0 rest.0 (total ds) (slots d.says) h.0 h.1 (built_fits labels ds rest.0 rest.1))

-- ---- the first pass

record Sound (p : FirstPassState) : Type 0 where
  pub counted : p.slots ≡ total p.unresolved
  pub within : p.slots ≤ MAX_SLOTS

total_more : (ds : List UnresolvedLine) (d : UnresolvedLine) → total (ds ++ d ∷ []) ≡ total ds + slots d.says
total_more [] d = omega arith
total_more (x ∷ ds) d = omega (arith, total_more ds d)

abbrev refused : AsmFault → Result FirstPassState AsmFault
refused f = Err f

label_sound : (p q : FirstPassState) (l : List ℕ) → with_label p l ≡ Ok q → Sound p → Sound q
label_sound p q l e h = go (is_some (find l p.labels)) refl
  where
    go : (b : Bool) → is_some (find l p.labels) ≡ b → Sound q
    go true t = let bad : refused TwiceLabel ≡ Ok q = rw t at e in absurd (cc)
    go false t =
        let more : FirstPassState = record { slots = p.slots; labels = p.labels ++ (l, p.slots) ∷ []; unresolved = p.unresolved } in
        let one : Ok more ≡ Ok q = rw t at e in
        let same : more ≡ q = cc in
        subst Sound same (record { counted = h.counted; within = h.within })

unresolved_sound : (n : ℕ) (p q : FirstPassState) (l : ItemValue) → with_unresolved n p l ≡ Ok q → Sound p → Sound q
unresolved_sound n p q l e h = go (fits l) (nat_lt MAX_SLOTS (p.slots + slots l)) refl refl
  where
    go : (a b : Bool) → fits l ≡ a → nat_lt MAX_SLOTS (p.slots + slots l) ≡ b → Sound q
    go false b x y = let bad : refused OutOfRange ≡ Ok q = rw x at e in absurd (cc)
    go true true x y = let bad : refused TooLong ≡ Ok q = rw (x, y) at e in absurd (cc)
    go true false x y =
        let d : UnresolvedLine = record { line = n; slot = p.slots; says = l } in
        let more : FirstPassState = record { slots = p.slots + slots l; labels = p.labels; unresolved = p.unresolved ++ d ∷ [] } in
        let one : Ok more ≡ Ok q = rw (x, y) at e in
        let same : more ≡ q = cc in
        let count : p.slots + slots l ≡ total (p.unresolved ++ d ∷ []) = omega (arith, h.counted, total_more p.unresolved d) in
        subst Sound same (record { counted = count; within = ltb-false _ _ y })

line_sound : (n : ℕ) (p q : FirstPassState) (l : ItemValue) → with_line n p l ≡ Ok q → Sound p → Sound q
line_sound n p q Blank e h = let same : p ≡ q = cc in subst Sound same h
line_sound n p q (DefinesLabel l) e h = label_sound p q l e h
line_sound n p q (Says s) e h = unresolved_sound n p q (Says s) e h
line_sound n p q (Jumps j t) e h = unresolved_sound n p q (Jumps j t) e h

text_sound : (n : ℕ) (p q : FirstPassState) (r : Option ItemValue) → either r (with_line n p) (Err Syntax) ≡ Ok q → Sound p → Sound q
text_sound n p q None e h = absurd (cc)
text_sound n p q (Some l) e h = line_sound n p q l e h

first_pass_sound : (n : ℕ) (p q : FirstPassState) (texts : List (List ℕ)) → first_pass n p texts ≡ Ok q → Sound p → Sound q
unfolding first_pass
first_pass_sound n p q [] e h = let same : p ≡ q = cc in subst Sound same h
first_pass_sound n p q (text ∷ texts) e h =
    let next = bind_ok (at_line n (with_text n p text)) _ q e in
    first_pass_sound (suc n) next.0 q texts next.2 (text_sound n p next.0 (read_line text) (located_ok n _ next.0 next.1) h)

-- ---- both passes

abbrev no_insns : Result (List Insn) (AsmFault × ℕ)
no_insns = Err (Syntax, 1)

finished_fits : (p : FirstPassState) (is : List Insn) → insns_of p ≡ Ok is → Sound p → IsProgram (code_of is)
finished_fits p is e h = go (nat_eq p.slots 0) refl
  where
    go : (b : Bool) → nat_eq p.slots 0 ≡ b → IsProgram (code_of is)
    go true t = let bad : no_insns ≡ Ok is = rw t at e in absurd (cc)
    go false t =
        let f = built_fits p.labels p.unresolved is (rw t at e) in
        let nonzero = eqb-false _ _ t in
        record { insns = f.code; some = omega (arith, f.length, h.counted); fits = omega (arith, f.length, h.counted, h.within) }

-- instructions that are read are those of a program
pub assembled : (text : List ℕ) (is : List Insn) → read_insns text ≡ Ok is → IsProgram (code_of is)
assembled text is e =
    let p = bind_ok (first_pass 1 nothing_read (lines text)) _ is e in
    finished_fits p.0 is p.2 (first_pass_sound 1 nothing_read p.0 (lines text) p.1 (record { counted = refl; within = omega arith }))

-- what is read is a program
pub program_read : (text : List ℕ) (code : Code) → read_text text ≡ Ok code → IsProgram code
program_read text code e =
    let p = bind_ok (read_insns text) _ code e in
    let same : code_of p.0 ≡ code = cc in
    subst IsProgram same (assembled text p.0 p.1)
