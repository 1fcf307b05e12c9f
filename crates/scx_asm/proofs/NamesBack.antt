-- The names that the canonical text uses are read as words, and name what they are printed for.
use Rattle.std.proofs.Common.{◌≡◌, ℕ, codes, List, [], ◌∷◌, ◌++◌, Some, refl, sym, ap, subst, ◌∙◌, lit<, lit≤}
use Rattle.std.proofs.lemmas.Fmt.{decimal_digit, decimal_step}
use Rattle.std.specs.Fmt.{decimal}
use Rattle.scx_isa_semantics.specs.declared.operations.Width.{Width}
use Rattle.scx_isa_semantics.specs.declared.operations.Width.TheVariants.{Bits32, Bits64}
use Rattle.scx_isa_semantics.specs.declared.operations.Access.{Access}
use Rattle.scx_isa_semantics.specs.declared.operations.Access.TheVariants as access
use Rattle.scx_isa_semantics.specs.declared.operations.ByteOrder.{ByteOrder}
use Rattle.scx_isa_semantics.specs.declared.operations.ByteOrder.TheVariants.{Little, Big, Swapped}
use Rattle.scx_isa_semantics.specs.declared.operations.SwapWidth.{SwapWidth}
use Rattle.scx_isa_semantics.specs.declared.operations.SwapWidth.TheVariants as order
use Rattle.scx_isa_semantics.specs.declared.registers.Register.{Register}
use Rattle.scx_isa_semantics.specs.declared.registers.Register.TheVariants.{R0, R1, R2, R3, R4, R5, R6, R7, R8, R9, R10}
use Rattle.scx_isa_semantics.specs.Registers.{number}
use Rattle.scx_asm_text.specs.Symbols.{first_of}
use Rattle.scx_asm_text.specs.Tokens.{class_length}
use Rattle.scx_asm_text.specs.Names.{first_with_name, width_text, register_text, register_named, access_text, access_named, order_text, order_named}
use Rattle.scx_asm.proofs.TokensBack.{IsName}

-- the word if
pub name_if : IsName (codes "if")
unfolding first_of class_length
name_if = record { some = lit< tt; token = λ near rest e. rw e refl; front = λ rest. refl }

-- the word goto
pub name_goto : IsName (codes "goto")
unfolding first_of class_length
name_goto = record { some = lit< tt; token = λ near rest e. rw e refl; front = λ rest. refl }

-- the word gotol
pub name_gotol : IsName (codes "gotol")
unfolding first_of class_length
name_gotol = record { some = lit< tt; token = λ near rest e. rw e refl; front = λ rest. refl }

-- the word call
pub name_call : IsName (codes "call")
unfolding first_of class_length
name_call = record { some = lit< tt; token = λ near rest e. rw e refl; front = λ rest. refl }

-- the word exit
pub name_exit : IsName (codes "exit")
unfolding first_of class_length
name_exit = record { some = lit< tt; token = λ near rest e. rw e refl; front = λ rest. refl }

-- the word map
pub name_map : IsName (codes "map")
unfolding first_of class_length
name_map = record { some = lit< tt; token = λ near rest e. rw e refl; front = λ rest. refl }

-- the word ll
pub name_ll : IsName (codes "ll")
unfolding first_of class_length
name_ll = record { some = lit< tt; token = λ near rest e. rw e refl; front = λ rest. refl }

-- ---- registers

abbrev digits_of : Register → List ℕ
digits_of R0 = codes "0"
digits_of R1 = codes "1"
digits_of R2 = codes "2"
digits_of R3 = codes "3"
digits_of R4 = codes "4"
digits_of R5 = codes "5"
digits_of R6 = codes "6"
digits_of R7 = codes "7"
digits_of R8 = codes "8"
digits_of R9 = codes "9"
digits_of R10 = codes "10"

ten : decimal 10 ≡ codes "10"
ten =
    let step = decimal_step 10 (lit≤ tt) (lit< tt) in
    let one = decimal_digit 1 (lit< tt) in
    step ∙ ap (λ (ds : List ℕ). ds ++ 48 ∷ []) one

digits_are : (r : Register) → decimal (number r) ≡ digits_of r
digits_are R0 = decimal_digit 0 (lit< tt)
digits_are R1 = decimal_digit 1 (lit< tt)
digits_are R2 = decimal_digit 2 (lit< tt)
digits_are R3 = decimal_digit 3 (lit< tt)
digits_are R4 = decimal_digit 4 (lit< tt)
digits_are R5 = decimal_digit 5 (lit< tt)
digits_are R6 = decimal_digit 6 (lit< tt)
digits_are R7 = decimal_digit 7 (lit< tt)
digits_are R8 = decimal_digit 8 (lit< tt)
digits_are R9 = decimal_digit 9 (lit< tt)
digits_are R10 = ten

is_register : (w : Width) (r : Register) → IsName (width_text w ++ digits_of r)
unfolding first_of class_length
is_register Bits32 R0 = record { some = lit< tt; token = λ near rest e. rw e refl; front = λ rest. refl }
is_register Bits32 R1 = record { some = lit< tt; token = λ near rest e. rw e refl; front = λ rest. refl }
is_register Bits32 R2 = record { some = lit< tt; token = λ near rest e. rw e refl; front = λ rest. refl }
is_register Bits32 R3 = record { some = lit< tt; token = λ near rest e. rw e refl; front = λ rest. refl }
is_register Bits32 R4 = record { some = lit< tt; token = λ near rest e. rw e refl; front = λ rest. refl }
is_register Bits32 R5 = record { some = lit< tt; token = λ near rest e. rw e refl; front = λ rest. refl }
is_register Bits32 R6 = record { some = lit< tt; token = λ near rest e. rw e refl; front = λ rest. refl }
is_register Bits32 R7 = record { some = lit< tt; token = λ near rest e. rw e refl; front = λ rest. refl }
is_register Bits32 R8 = record { some = lit< tt; token = λ near rest e. rw e refl; front = λ rest. refl }
is_register Bits32 R9 = record { some = lit< tt; token = λ near rest e. rw e refl; front = λ rest. refl }
is_register Bits32 R10 = record { some = lit< tt; token = λ near rest e. rw e refl; front = λ rest. refl }
is_register Bits64 R0 = record { some = lit< tt; token = λ near rest e. rw e refl; front = λ rest. refl }
is_register Bits64 R1 = record { some = lit< tt; token = λ near rest e. rw e refl; front = λ rest. refl }
is_register Bits64 R2 = record { some = lit< tt; token = λ near rest e. rw e refl; front = λ rest. refl }
is_register Bits64 R3 = record { some = lit< tt; token = λ near rest e. rw e refl; front = λ rest. refl }
is_register Bits64 R4 = record { some = lit< tt; token = λ near rest e. rw e refl; front = λ rest. refl }
is_register Bits64 R5 = record { some = lit< tt; token = λ near rest e. rw e refl; front = λ rest. refl }
is_register Bits64 R6 = record { some = lit< tt; token = λ near rest e. rw e refl; front = λ rest. refl }
is_register Bits64 R7 = record { some = lit< tt; token = λ near rest e. rw e refl; front = λ rest. refl }
is_register Bits64 R8 = record { some = lit< tt; token = λ near rest e. rw e refl; front = λ rest. refl }
is_register Bits64 R9 = record { some = lit< tt; token = λ near rest e. rw e refl; front = λ rest. refl }
is_register Bits64 R10 = record { some = lit< tt; token = λ near rest e. rw e refl; front = λ rest. refl }

-- the names of registers
pub name_register : (w : Width) (r : Register) → IsName (register_text w r)
name_register w r = subst (λ (ds : List ℕ). IsName (width_text w ++ ds)) (sym (digits_are r)) (is_register w r)

named_again : (w : Width) (r : Register) → register_named (width_text w ++ digits_of r) ≡ Some (w, r)
named_again Bits32 R0 = refl
named_again Bits32 R1 = refl
named_again Bits32 R2 = refl
named_again Bits32 R3 = refl
named_again Bits32 R4 = refl
named_again Bits32 R5 = refl
named_again Bits32 R6 = refl
named_again Bits32 R7 = refl
named_again Bits32 R8 = refl
named_again Bits32 R9 = refl
named_again Bits32 R10 = refl
named_again Bits64 R0 = refl
named_again Bits64 R1 = refl
named_again Bits64 R2 = refl
named_again Bits64 R3 = refl
named_again Bits64 R4 = refl
named_again Bits64 R5 = refl
named_again Bits64 R6 = refl
named_again Bits64 R7 = refl
named_again Bits64 R8 = refl
named_again Bits64 R9 = refl
named_again Bits64 R10 = refl

-- name them
pub register_again : (w : Width) (r : Register) → register_named (register_text w r) ≡ Some (w, r)
register_again w r = ap (λ (ds : List ℕ). register_named (width_text w ++ ds)) (digits_are r) ∙ named_again w r

-- ---- memory and byte orders

-- the names of what memory is read as
pub name_access : (a : Access) → IsName (access_text a)
unfolding first_of class_length
name_access access.Byte = record { some = lit< tt; token = λ near rest e. rw e refl; front = λ rest. refl }
name_access access.HalfWord = record { some = lit< tt; token = λ near rest e. rw e refl; front = λ rest. refl }
name_access access.Word = record { some = lit< tt; token = λ near rest e. rw e refl; front = λ rest. refl }
name_access access.DoubleWord = record { some = lit< tt; token = λ near rest e. rw e refl; front = λ rest. refl }
name_access access.SignedByte = record { some = lit< tt; token = λ near rest e. rw e refl; front = λ rest. refl }
name_access access.SignedHalfWord = record { some = lit< tt; token = λ near rest e. rw e refl; front = λ rest. refl }
name_access access.SignedWord = record { some = lit< tt; token = λ near rest e. rw e refl; front = λ rest. refl }

-- name that
pub access_again : (a : Access) → access_named (access_text a) ≡ Some a
unfolding first_with_name
access_again access.Byte = refl
access_again access.HalfWord = refl
access_again access.Word = refl
access_again access.DoubleWord = refl
access_again access.SignedByte = refl
access_again access.SignedHalfWord = refl
access_again access.SignedWord = refl

-- the names of byte orders
pub name_order : (o : ByteOrder) (w : SwapWidth) → IsName (order_text (o, w))
unfolding first_of class_length
name_order Little order.Bits16 = record { some = lit< tt; token = λ near rest e. rw e refl; front = λ rest. refl }
name_order Little order.Bits32 = record { some = lit< tt; token = λ near rest e. rw e refl; front = λ rest. refl }
name_order Little order.Bits64 = record { some = lit< tt; token = λ near rest e. rw e refl; front = λ rest. refl }
name_order Big order.Bits16 = record { some = lit< tt; token = λ near rest e. rw e refl; front = λ rest. refl }
name_order Big order.Bits32 = record { some = lit< tt; token = λ near rest e. rw e refl; front = λ rest. refl }
name_order Big order.Bits64 = record { some = lit< tt; token = λ near rest e. rw e refl; front = λ rest. refl }
name_order Swapped order.Bits16 = record { some = lit< tt; token = λ near rest e. rw e refl; front = λ rest. refl }
name_order Swapped order.Bits32 = record { some = lit< tt; token = λ near rest e. rw e refl; front = λ rest. refl }
name_order Swapped order.Bits64 = record { some = lit< tt; token = λ near rest e. rw e refl; front = λ rest. refl }

-- name them
pub order_again : (o : ByteOrder) (w : SwapWidth) → order_named (order_text (o, w)) ≡ Some (o, w)
unfolding first_with_name
order_again Little order.Bits16 = refl
order_again Little order.Bits32 = refl
order_again Little order.Bits64 = refl
order_again Big order.Bits16 = refl
order_again Big order.Bits32 = refl
order_again Big order.Bits64 = refl
order_again Swapped order.Bits16 = refl
order_again Swapped order.Bits32 = refl
order_again Swapped order.Bits64 = refl
