-- The tokens of the canonical text of each instruction.
use Rattle.std.proofs.Common.{◌≡◌, ℕ, suc, ◌^◌, ◌<◌, ℤ, pos, negsuc, Bool, true, false, codes, List, [], ◌∷◌, ◌++◌, Some, FitsSigned, refl, sym, subst, ◌∙◌, append_assoc, arith}
use Rattle.std.proofs.lemmas.List.{append-nil}
use Rattle.std.proofs.lemmas.Int.{ints}
use Rattle.std.proofs.Math.Facts.{Fits-of_z}
use Rattle.std.specs.Fmt.{decimal, signed_decimal}
use Rattle.std.specs.Int.{w16, w32, cast_unsigned}
use Rattle.scx_isa_semantics.specs.declared.operations.Width.{Width}
use Rattle.scx_isa_semantics.specs.declared.operations.Width.TheVariants.{Bits64}
use Rattle.scx_isa_semantics.specs.declared.registers.Register.{Register}
use Rattle.scx_isa_semantics.specs.declared.instructions.Operand.{Operand}
use Rattle.scx_isa_semantics.specs.declared.instructions.Operand.TheVariants as operand
use Rattle.scx_isa_semantics.specs.declared.instructions.Insn.{Insn}
use Rattle.scx_isa_semantics.specs.declared.instructions.Insn.TheVariants as insn
use Rattle.scx_isa_semantics.specs.Arithmetic.{wide_immediate, extension_width}
use Rattle.scx_isa_encoding.specs.Spelling.{IsOperand, IsInsn}
use Rattle.scx_asm_text.specs.declared.symbols.Symbol.{Symbol}
use Rattle.scx_asm_text.specs.declared.symbols.Symbol.TheVariants.{Assign, Compare, Plus, Minus, Star, Opening, Closing}
use Rattle.scx_isa_semantics.specs.declared.operations.Operation.TheVariants.{Move}
use Rattle.scx_asm_text.specs.Symbols.{spelling}
use Rattle.scx_asm_text.specs.Names.{register_text, access_text, stored_access, extension_access, order_text}
use Rattle.scx_asm_text.specs.Tokens.{Lexeme, Word, Number, Mark, followed_by, tokens_from, tokens}
use Rattle.scx_asm_text.specs.Canonical.{operand_text, offset_text, distance_text, memory_operand_text, insn_text}
use Rattle.scx_asm.proofs.TokensBack.{ends_symbol, ends_word, symbol_read, number_read, name_read, digits_end_symbol, IsName}
use Rattle.scx_asm.proofs.NamesBack.{name_if, name_goto, name_gotol, name_call, name_exit, name_map, name_ll, name_register, name_access, name_order}

-- a text whose tokens are these, where the first of them touches what stands before it or not
pub record Gives (near : Bool) (text : List ℕ) (ts : List Lexeme) : Type 0 where
  pub read : tokens_from near 0 text ≡ Some ts

nothing : (near : Bool) → Gives near [] []
unfolding tokens_from
nothing near = record { read = refl }

gap : (near : Bool) (text : List ℕ) (ts : List Lexeme) → Gives false text ts → Gives near (32 ∷ text) ts
unfolding tokens_from
gap near text ts h = record { read = h.read }

followed : (t : Lexeme) (text : List ℕ) (ts : List Lexeme) → Gives true text ts → followed_by t (tokens_from true 0 text) ≡ Some (t ∷ ts)
followed t text ts h = rw h.read refl

mark : (near : Bool) (s : Symbol) (text : List ℕ) (ts : List Lexeme) → ends_symbol text ≡ true → Gives true text ts → Gives near (spelling s ++ text) (Mark s ∷ ts)
mark near s text ts e h = record { read = symbol_read near s text e ∙ followed (Mark s) text ts h }

name : (near : Bool) (w text : List ℕ) (ts : List Lexeme) → IsName w → ends_word text ≡ true → Gives true text ts → Gives near (w ++ text) (Word w ∷ ts)
name near w text ts is e h = record { read = name_read near w text is e ∙ followed (Word w) text ts h }

digits : (near : Bool) (n : ℕ) (text : List ℕ) (ts : List Lexeme) → n < 2 ^ 64 → ends_word text ≡ true → Gives true text ts → Gives near (decimal n ++ text) (Number near (Some n) ∷ ts)
digits near n text ts fits e h = record { read = number_read near n text fits e ∙ followed (Number near (Some n)) text ts h }

same_text : (near : Bool) (text other : List ℕ) (ts : List Lexeme) → text ≡ other → Gives near other ts → Gives near text ts
same_text near text other ts e h = subst (λ (x : List ℕ). Gives near x ts) (sym e) h

-- ---- numbers

-- a number of 32 bits
abbrev pub Small : ℤ → Type 0
Small (pos n) = n < 2 ^ 64
Small (negsuc n) = suc n < 2 ^ 64

-- a number of 32 bits is small
pub small32 : (z : ℤ) → FitsSigned w32 z → Small z
small32 (pos n) f = omega (arith, ints)
small32 (negsuc n) f = omega (arith, ints)

-- and so is one of 16
pub small16 : (z : ℤ) → FitsSigned w16 z → Small z
small16 (pos n) f = omega (arith, ints)
small16 (negsuc n) f = omega (arith, ints)

abbrev pub signed_tokens : Bool → ℤ → List Lexeme → List Lexeme
signed_tokens near (pos n) ts = Number near (Some n) ∷ ts
signed_tokens near (negsuc n) ts = Mark Minus ∷ Number true (Some (suc n)) ∷ ts

signed : (near : Bool) (z : ℤ) (text : List ℕ) (ts : List Lexeme) → Small z → ends_word text ≡ true → Gives true text ts → Gives near (signed_decimal z ++ text) (signed_tokens near z ts)
signed near (pos n) text ts fits e h = digits near n text ts fits e h
signed near (negsuc n) text ts fits e h = mark near Minus (decimal (suc n) ++ text) _ (digits_end_symbol (suc n) text fits) (digits true (suc n) text ts fits e h)

abbrev pub distance_tokens : ℤ → List Lexeme → List Lexeme
distance_tokens (pos n) ts = Mark Plus ∷ Number true (Some n) ∷ ts
distance_tokens (negsuc n) ts = Mark Minus ∷ Number true (Some (suc n)) ∷ ts

distance : (near : Bool) (z : ℤ) → Small z → Gives near (distance_text z ++ []) (distance_tokens z [])
distance near (pos n) fits = same_text near _ (spelling Plus ++ (decimal n ++ [])) _ refl (mark near Plus (decimal n ++ []) _ (digits_end_symbol n [] fits) (digits true n [] [] fits refl (nothing true)))
distance near (negsuc n) fits = same_text near _ (spelling Minus ++ (decimal (suc n) ++ [])) _ refl (mark near Minus (decimal (suc n) ++ []) _ (digits_end_symbol (suc n) [] fits) (digits true (suc n) [] [] fits refl (nothing true)))

abbrev pub offset_tokens : ℤ → List Lexeme → List Lexeme
offset_tokens (pos n) ts = Mark Plus ∷ Number false (Some n) ∷ ts
offset_tokens (negsuc n) ts = Mark Minus ∷ Number false (Some (suc n)) ∷ ts

offset : (near : Bool) (z : ℤ) (text : List ℕ) (ts : List Lexeme) → Small z → ends_word text ≡ true → Gives true text ts → Gives near (offset_text z ++ text) (offset_tokens z ts)
offset near (pos n) text ts fits e h = same_text near _ (spelling Plus ++ (32 ∷ (decimal n ++ text))) _ refl (mark near Plus (32 ∷ (decimal n ++ text)) _ refl (gap true (decimal n ++ text) _ (digits false n text ts fits e h)))
offset near (negsuc n) text ts fits e h = same_text near _ (spelling Minus ++ (32 ∷ (decimal (suc n) ++ text))) _ refl (mark near Minus (32 ∷ (decimal (suc n) ++ text)) _ refl (gap true (decimal (suc n) ++ text) _ (digits false (suc n) text ts fits e h)))

abbrev pub operand_tokens : Bool → Width → Operand → List Lexeme → List Lexeme
operand_tokens near w (operand.Immediate k) ts = signed_tokens near k ts
operand_tokens near w (operand.Register r) ts = Word (register_text w r) ∷ ts

given : (near : Bool) (w : Width) (x : Operand) (text : List ℕ) (ts : List Lexeme) → IsOperand x → ends_word text ≡ true → Gives true text ts → Gives near (operand_text w x ++ text) (operand_tokens near w x ts)
given near w (operand.Immediate k) text ts fits e h = signed near k text ts (small32 k fits) e h
given near w (operand.Register r) text ts fits e h = name near (register_text w r) text ts (name_register w r) e h

-- ---- texts grouped to the right

right4 : (a b c d : List ℕ) → ((a ++ b) ++ c) ++ d ≡ a ++ (b ++ (c ++ d))
right4 a b c d = append_assoc (a ++ b) c d ∙ append_assoc a b (c ++ d)

right5 : (a b c d e : List ℕ) → (((a ++ b) ++ c) ++ d) ++ e ≡ a ++ (b ++ (c ++ (d ++ e)))
right5 a b c d e = append_assoc ((a ++ b) ++ c) d e ∙ right4 a b c (d ++ e)

right6 : (a b c d e f : List ℕ) → ((((a ++ b) ++ c) ++ d) ++ e) ++ f ≡ a ++ (b ++ (c ++ (d ++ (e ++ f))))
right6 a b c d e f = append_assoc (((a ++ b) ++ c) ++ d) e f ∙ right5 a b c d (e ++ f)

right7 : (a b c d e f g : List ℕ) → (((((a ++ b) ++ c) ++ d) ++ e) ++ f) ++ g ≡ a ++ (b ++ (c ++ (d ++ (e ++ (f ++ g)))))
right7 a b c d e f g = append_assoc ((((a ++ b) ++ c) ++ d) ++ e) f g ∙ right6 a b c d e (f ++ g)

right8 : (a b c d e f g h : List ℕ) → ((((((a ++ b) ++ c) ++ d) ++ e) ++ f) ++ g) ++ h ≡ a ++ (b ++ (c ++ (d ++ (e ++ (f ++ (g ++ h))))))
right8 a b c d e f g h = append_assoc (((((a ++ b) ++ c) ++ d) ++ e) ++ f) g h ∙ right7 a b c d e f (g ++ h)

right9 : (a b c d e f g h k : List ℕ) → (((((((a ++ b) ++ c) ++ d) ++ e) ++ f) ++ g) ++ h) ++ k ≡ a ++ (b ++ (c ++ (d ++ (e ++ (f ++ (g ++ (h ++ k)))))))
right9 a b c d e f g h k = append_assoc ((((((a ++ b) ++ c) ++ d) ++ e) ++ f) ++ g) h k ∙ right8 a b c d e f g (h ++ k)

-- ---- memory

abbrev pub memory_operand_tokens : List ℕ → Register → ℤ → List Lexeme → List Lexeme
memory_operand_tokens a r o ts = Mark Star ∷ Mark Opening ∷ Word a ∷ Mark Star ∷ Mark Closing ∷ Mark Opening ∷ Word (register_text Bits64 r) ∷ offset_tokens o (Mark Closing ∷ ts)

memory_operand_grouped : (a r o t : List ℕ) → (codes "*(" ++ a ++ codes " *)(" ++ r ++ codes " " ++ o ++ codes ")") ++ t ≡ spelling Star ++ (spelling Opening ++ (a ++ (32 ∷ (spelling Star ++ (spelling Closing ++ (spelling Opening ++ (r ++ (32 ∷ (o ++ (spelling Closing ++ t))))))))))
memory_operand_grouped a r o t = right8 (codes "*(") a (codes " *)(") r (codes " ") o (codes ")") t

memory_operand : (near : Bool) (a : List ℕ) (r : Register) (o : ℤ) (text : List ℕ) (ts : List Lexeme) → IsName a → Small o → ends_symbol text ≡ true → Gives true text ts → Gives near (memory_operand_text a r o ++ text) (memory_operand_tokens a r o ts)
memory_operand near a r o text ts is fits e h =
    let closed = mark true Closing text ts e h in
    let shifted = offset false o (spelling Closing ++ text) _ fits refl closed in
    let based = name true (register_text Bits64 r) (32 ∷ (offset_text o ++ (spelling Closing ++ text))) _ (name_register Bits64 r) refl (gap true (offset_text o ++ (spelling Closing ++ text)) _ shifted) in
    let address = mark true Opening (register_text Bits64 r ++ (32 ∷ (offset_text o ++ (spelling Closing ++ text)))) _ ((name_register Bits64 r).front (32 ∷ (offset_text o ++ (spelling Closing ++ text)))) based in
    let closing = mark true Closing (spelling Opening ++ (register_text Bits64 r ++ (32 ∷ (offset_text o ++ (spelling Closing ++ text))))) _ refl address in
    let star = mark false Star (spelling Closing ++ (spelling Opening ++ (register_text Bits64 r ++ (32 ∷ (offset_text o ++ (spelling Closing ++ text)))))) _ refl closing in
    let sized = name true a (32 ∷ (spelling Star ++ (spelling Closing ++ (spelling Opening ++ (register_text Bits64 r ++ (32 ∷ (offset_text o ++ (spelling Closing ++ text)))))))) _ is refl (gap true _ _ star) in
    let inner = mark true Opening (a ++ (32 ∷ (spelling Star ++ (spelling Closing ++ (spelling Opening ++ (register_text Bits64 r ++ (32 ∷ (offset_text o ++ (spelling Closing ++ text))))))))) _ (is.front _) sized in
    same_text near _ (spelling Star ++ (spelling Opening ++ (a ++ (32 ∷ (spelling Star ++ (spelling Closing ++ (spelling Opening ++ (register_text Bits64 r ++ (32 ∷ (offset_text o ++ (spelling Closing ++ text))))))))))) _ (memory_operand_grouped a (register_text Bits64 r) (offset_text o) text)
    (mark near Star (spelling Opening ++ (a ++ (32 ∷ (spelling Star ++ (spelling Closing ++ (spelling Opening ++ (register_text Bits64 r ++ (32 ∷ (offset_text o ++ (spelling Closing ++ text)))))))))) _ refl inner)

-- ---- whole lines

abbrev equals : List ℕ
equals = spelling (Assign Move)

by_operator : (a b c : List ℕ) → a ++ codes " " ++ b ++ codes " " ++ c ≡ a ++ (32 ∷ (b ++ (32 ∷ (c ++ []))))
by_operator a b c = sym (append-nil _) ∙ right6 a (codes " ") b (codes " ") c []

by_minus : (a b : List ℕ) → a ++ codes " = -" ++ b ≡ a ++ (32 ∷ (equals ++ (32 ∷ (spelling Minus ++ (b ++ [])))))
by_minus a b = sym (append-nil _) ∙ right4 a (codes " = -") b []

by_extension : (a b c : List ℕ) → a ++ codes " = (" ++ b ++ codes ")" ++ c ≡ a ++ (32 ∷ (equals ++ (32 ∷ (spelling Opening ++ (b ++ (spelling Closing ++ (c ++ [])))))))
by_extension a b c = sym (append-nil _) ∙ right6 a (codes " = (") b (codes ")") c []

by_order : (a b c : List ℕ) → a ++ codes " = " ++ b ++ codes " " ++ c ≡ a ++ (32 ∷ (equals ++ (32 ∷ (b ++ (32 ∷ (c ++ []))))))
by_order a b c = sym (append-nil _) ∙ right6 a (codes " = ") b (codes " ") c []

by_wide_immediate : (a b : List ℕ) → a ++ codes " = " ++ b ++ codes " ll" ≡ a ++ (32 ∷ (equals ++ (32 ∷ (b ++ (32 ∷ (codes "ll" ++ []))))))
by_wide_immediate a b = sym (append-nil _) ∙ right5 a (codes " = ") b (codes " ll") []

by_map : (a b : List ℕ) → a ++ codes " = map " ++ b ≡ a ++ (32 ∷ (equals ++ (32 ∷ (codes "map" ++ (32 ∷ (b ++ []))))))
by_map a b = sym (append-nil _) ∙ right4 a (codes " = map ") b []

by_equals : (a b : List ℕ) → a ++ codes " = " ++ b ≡ a ++ (32 ∷ (equals ++ (32 ∷ (b ++ []))))
by_equals a b = sym (append-nil _) ∙ right4 a (codes " = ") b []

by_condition : (a b c d : List ℕ) → codes "if " ++ a ++ codes " " ++ b ++ codes " " ++ c ++ codes " goto " ++ d ≡ codes "if" ++ (32 ∷ (a ++ (32 ∷ (b ++ (32 ∷ (c ++ (32 ∷ (codes "goto" ++ (32 ∷ (d ++ []))))))))))
by_condition a b c d = sym (append-nil _) ∙ right9 (codes "if ") a (codes " ") b (codes " ") c (codes " goto ") d []

abbrev pub insn_tokens : Insn → List Lexeme
insn_tokens (insn.Binary w o d x) = Word (register_text w d) ∷ Mark (Assign o) ∷ operand_tokens false w x []
insn_tokens (insn.Negate w d) = Word (register_text w d) ∷ Mark (Assign Move) ∷ Mark Minus ∷ Word (register_text w d) ∷ []
insn_tokens (insn.SignExtend e d r) = Word (register_text (extension_width e) d) ∷ Mark (Assign Move) ∷ Mark Opening ∷ Word (access_text (extension_access e)) ∷ Mark Closing ∷ Word (register_text (extension_width e) r) ∷ []
insn_tokens (insn.ByteSwap o w d) = Word (register_text Bits64 d) ∷ Mark (Assign Move) ∷ Word (order_text (o, w)) ∷ Word (register_text Bits64 d) ∷ []
insn_tokens (insn.LoadImmediate d low high) = Word (register_text Bits64 d) ∷ Mark (Assign Move) ∷ Number false (Some (wide_immediate low high)) ∷ Word (codes "ll") ∷ []
insn_tokens (insn.LoadMapReference d k) = Word (register_text Bits64 d) ∷ Mark (Assign Move) ∷ Word (codes "map") ∷ signed_tokens false k []
insn_tokens (insn.Load a d r o) = Word (register_text Bits64 d) ∷ Mark (Assign Move) ∷ memory_operand_tokens (access_text a) r o []
insn_tokens (insn.Store s r o x) = memory_operand_tokens (access_text (stored_access s)) r o (Mark (Assign Move) ∷ operand_tokens false Bits64 x [])
insn_tokens (insn.JumpIf w c r x o) = Word (codes "if") ∷ Word (register_text w r) ∷ Mark (Compare c) ∷ operand_tokens false w x (Word (codes "goto") ∷ distance_tokens o [])
insn_tokens (insn.Goto o) = Word (codes "goto") ∷ distance_tokens o []
insn_tokens (insn.GotoLong o) = Word (codes "gotol") ∷ distance_tokens o []
insn_tokens (insn.Call k) = Word (codes "call") ∷ signed_tokens false k []
insn_tokens insn.Exit = Word (codes "exit") ∷ []

-- what stands behind a register and `=`
assigned : (w : Width) (d : Register) (text : List ℕ) (ts : List Lexeme) → Gives false text ts → Gives false (register_text w d ++ (32 ∷ (equals ++ (32 ∷ text)))) (Word (register_text w d) ∷ Mark (Assign Move) ∷ ts)
assigned w d text ts h = name false (register_text w d) _ _ (name_register w d) refl (gap true _ _ (mark false (Assign Move) (32 ∷ text) _ refl (gap true text ts h)))

half_small : (z : ℤ) → FitsSigned w32 z → cast_unsigned w32 z < 2 ^ 32
half_small z f = (Fits-of_z {w = w32} {z = z} f).fits

-- a 64-bit immediate has 64 bits
pub wide_immediate_small : (low high : ℤ) → FitsSigned w32 low → FitsSigned w32 high → wide_immediate low high < 2 ^ 64
wide_immediate_small low high f g = omega (arith, half_small low f, half_small high g)

-- from left to right
pub insn_gives : (i : Insn) → IsInsn i → Gives false (insn_text i) (insn_tokens i)
insn_gives (insn.Binary w o d x) h = same_text false _ _ _ (by_operator (register_text w d) (spelling (Assign o)) (operand_text w x))
    (name false (register_text w d) _ _ (name_register w d) refl (gap true _ _ (mark false (Assign o) (32 ∷ (operand_text w x ++ [])) _ refl (gap true _ _ (given false w x [] [] h refl (nothing true))))))
insn_gives (insn.Negate w d) h = same_text false _ _ _ (by_minus (register_text w d) (register_text w d))
    (assigned w d _ _ (mark false Minus (register_text w d ++ []) _ ((name_register w d).front []) (name true (register_text w d) [] [] (name_register w d) refl (nothing true))))
insn_gives (insn.SignExtend e d r) h = same_text false _ _ _ (by_extension (register_text (extension_width e) d) (access_text (extension_access e)) (register_text (extension_width e) r))
    (assigned (extension_width e) d _ _ (mark false Opening (access_text (extension_access e) ++ (spelling Closing ++ (register_text (extension_width e) r ++ []))) _ ((name_access (extension_access e)).front _)
    (name true (access_text (extension_access e)) (spelling Closing ++ (register_text (extension_width e) r ++ [])) _ (name_access (extension_access e)) refl
    (mark true Closing (register_text (extension_width e) r ++ []) _ ((name_register (extension_width e) r).front []) (name true (register_text (extension_width e) r) [] [] (name_register (extension_width e) r) refl (nothing true))))))
insn_gives (insn.ByteSwap o w d) h = same_text false _ _ _ (by_order (register_text Bits64 d) (order_text (o, w)) (register_text Bits64 d))
    (assigned Bits64 d _ _ (name false (order_text (o, w)) (32 ∷ (register_text Bits64 d ++ [])) _ (name_order o w) refl (gap true _ _ (name false (register_text Bits64 d) [] [] (name_register Bits64 d) refl (nothing true)))))
insn_gives (insn.LoadImmediate d low high) h = same_text false _ _ _ (by_wide_immediate (register_text Bits64 d) (decimal (wide_immediate low high)))
    (assigned Bits64 d _ _ (digits false (wide_immediate low high) (32 ∷ (codes "ll" ++ [])) _ (wide_immediate_small low high h.0 h.1) refl (gap true _ _ (name false (codes "ll") [] [] name_ll refl (nothing true)))))
insn_gives (insn.LoadMapReference d k) h = same_text false _ _ _ (by_map (register_text Bits64 d) (signed_decimal k))
    (assigned Bits64 d _ _ (name false (codes "map") (32 ∷ (signed_decimal k ++ [])) _ name_map refl (gap true _ _ (signed false k [] [] (small32 k h) refl (nothing true)))))
insn_gives (insn.Load a d r o) h = same_text false _ _ _ (by_equals (register_text Bits64 d) (memory_operand_text (access_text a) r o))
    (assigned Bits64 d _ _ (memory_operand false (access_text a) r o [] [] (name_access a) (small16 o h) refl (nothing true)))
insn_gives (insn.Store s r o x) h = same_text false _ _ _ (by_equals (memory_operand_text (access_text (stored_access s)) r o) (operand_text Bits64 x))
    (memory_operand false (access_text (stored_access s)) r o (32 ∷ (equals ++ (32 ∷ (operand_text Bits64 x ++ [])))) _ (name_access (stored_access s)) (small16 o h.0) refl
    (gap true _ _ (mark false (Assign Move) (32 ∷ (operand_text Bits64 x ++ [])) _ refl (gap true _ _ (given false Bits64 x [] [] h.1 refl (nothing true))))))
insn_gives (insn.JumpIf w c r x o) h = same_text false _ _ _ (by_condition (register_text w r) (spelling (Compare c)) (operand_text w x) (distance_text o))
    (name false (codes "if") _ _ name_if refl (gap true _ _ (name false (register_text w r) _ _ (name_register w r) refl
    (gap true _ _ (mark false (Compare c) (32 ∷ (operand_text w x ++ (32 ∷ (codes "goto" ++ (32 ∷ (distance_text o ++ [])))))) _ refl
    (gap true _ _ (given false w x (32 ∷ (codes "goto" ++ (32 ∷ (distance_text o ++ [])))) _ h.1 refl (gap true _ _ (name false (codes "goto") (32 ∷ (distance_text o ++ [])) _ name_goto refl (gap true _ _ (distance false o (small16 o h.0))))))))))))
insn_gives (insn.Goto o) h = same_text false _ (codes "goto" ++ (32 ∷ (distance_text o ++ []))) _ (sym (append-nil (codes "goto " ++ distance_text o))) (name false (codes "goto") (32 ∷ (distance_text o ++ [])) _ name_goto refl (gap true _ _ (distance false o (small16 o h))))
insn_gives (insn.GotoLong o) h = same_text false _ (codes "gotol" ++ (32 ∷ (distance_text o ++ []))) _ (sym (append-nil (codes "gotol " ++ distance_text o))) (name false (codes "gotol") (32 ∷ (distance_text o ++ [])) _ name_gotol refl (gap true _ _ (distance false o (small32 o h))))
insn_gives (insn.Call k) h = same_text false _ (codes "call" ++ (32 ∷ (signed_decimal k ++ []))) _ (sym (append-nil (codes "call " ++ signed_decimal k))) (name false (codes "call") (32 ∷ (signed_decimal k ++ [])) _ name_call refl (gap true _ _ (signed false k [] [] (small32 k h) refl (nothing true))))
insn_gives insn.Exit h = same_text false _ (codes "exit" ++ []) _ refl (name false (codes "exit") [] [] name_exit refl (nothing true))

-- as a whole line
pub insn_read : (i : Insn) → IsInsn i → tokens (insn_text i) ≡ Some (insn_tokens i)
insn_read i h = (insn_gives i h).read
