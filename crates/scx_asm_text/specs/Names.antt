-- The names of registers, of what memory is read as, and of byte orders.
use Rattle.std.specs.Prelude.{ℕ, ◌-◌, nat_eq, ◌&&◌, List, [], ◌∷◌, ◌++◌, codes, Option, Some, None, if◌then◌else◌}
use Rattle.std.specs.Char.{is_ascii_digit}
use Rattle.std.specs.Str.{bytes_eq}
use Rattle.std.specs.Fmt.{decimal}
use Rattle.scx_isa_semantics.specs.declared.operations.Width.{Width}
use Rattle.scx_isa_semantics.specs.declared.operations.Width.TheVariants.{Bits32, Bits64}
use Rattle.scx_isa_semantics.specs.declared.operations.Access.{Access}
use Rattle.scx_isa_semantics.specs.declared.operations.Access.TheVariants as access
use Rattle.scx_isa_semantics.specs.declared.operations.Size.{Size}
use Rattle.scx_isa_semantics.specs.declared.operations.Size.TheVariants as size
use Rattle.scx_isa_semantics.specs.declared.operations.Extension.{Extension}
use Rattle.scx_isa_semantics.specs.declared.operations.Extension.TheVariants.{Low8To32, Low16To32, Low8To64, Low16To64, Low32To64}
use Rattle.scx_isa_semantics.specs.declared.operations.ByteOrder.{ByteOrder}
use Rattle.scx_isa_semantics.specs.declared.operations.ByteOrder.TheVariants.{Little, Big, Swapped}
use Rattle.scx_isa_semantics.specs.declared.operations.SwapWidth.{SwapWidth}
use Rattle.scx_isa_semantics.specs.declared.operations.SwapWidth.TheVariants as order
use Rattle.scx_isa_semantics.specs.declared.registers.Register.{Register}
use Rattle.scx_isa_semantics.specs.declared.registers.Register.TheVariants.{R10}
use Rattle.scx_isa_semantics.specs.Registers.{number, register_at}
use Rattle.scx_asm_text.specs.Options.{◌>>=◌}

-- the item of a list that has that name
unfoldable pub first_with_name : {A : Type 0} → (A → List ℕ) → List A → List ℕ → Option A
first_with_name text [] name = None
first_with_name text (x ∷ xs) name =
    if bytes_eq name (text x) then Some x else first_with_name text xs name

-- ---- registers: r0 to r10, and w0 to w10 for their low halves

-- the letter before a register's number, which tells how much of it is taken
abbrev pub width_text : Width → List ℕ
width_text Bits64 = codes "r"
width_text Bits32 = codes "w"

-- a register as it is written, all 64 bits of it or its low 32
abbrev pub register_text : Width → Register → List ℕ
register_text w r = width_text w ++ decimal (number r)

-- the width of a register's name, by its first byte, `r` or `w`
abbrev pub width_named : ℕ → Option Width
width_named b = if nat_eq b 114 then Some Bits64 else (if nat_eq b 119 then Some Bits32 else None)

-- the register by the decimal digits of its number, without a 0 in front
abbrev pub register_numbered : List ℕ → Option Register
register_numbered (d ∷ []) = if is_ascii_digit d then register_at (d - 48) else None
register_numbered (a ∷ b ∷ []) = if nat_eq a 49 && nat_eq b 48 then Some R10 else None
register_numbered digits = None

-- the register that a word names, with its width; none if it is no register's name
abbrev pub register_named : List ℕ → Option (Width × Register)
register_named [] = None
register_named (b ∷ digits) = do
  w ← width_named b
  r ← register_numbered digits
  Some (w, r)

-- the register of that name, if it has that width
abbrev pub of_width : Width → Width × Register → Option Register
of_width Bits32 (Bits32, r) = Some r
of_width Bits64 (Bits64, r) = Some r
of_width w x = None

-- the register that a word names, if it has that width
abbrev pub register_in : Width → List ℕ → Option Register
register_in w name = register_named name >>= of_width w

-- ---- memory

-- the name of an access: `u` or `s`, which has a sign, and how many bits it takes
abbrev pub access_text : Access → List ℕ
access_text access.Byte = codes "u8"
access_text access.HalfWord = codes "u16"
access_text access.Word = codes "u32"
access_text access.DoubleWord = codes "u64"
access_text access.SignedByte = codes "s8"
access_text access.SignedHalfWord = codes "s16"
access_text access.SignedWord = codes "s32"

-- all ways in which memory is read, each of which has a name
abbrev pub named_accesses : List Access
named_accesses =
    access.Byte ∷ access.HalfWord ∷ access.Word ∷ access.DoubleWord ∷ access.SignedByte
    ∷ access.SignedHalfWord ∷ access.SignedWord ∷ []

-- the access that a word names; none for any other word
abbrev pub access_named : List ℕ → Option Access
access_named name = first_with_name access_text named_accesses name

-- a store has no sign
abbrev pub stored_size : Access → Option Size
stored_size access.Byte = Some size.Byte
stored_size access.HalfWord = Some size.HalfWord
stored_size access.Word = Some size.Word
stored_size access.DoubleWord = Some size.DoubleWord
stored_size a = None

-- the load of as many bytes without a sign, by whose name a store is written
abbrev pub stored_access : Size → Access
stored_access size.Byte = access.Byte
stored_access size.HalfWord = access.HalfWord
stored_access size.Word = access.Word
stored_access size.DoubleWord = access.DoubleWord

-- a move that extends the sign names what it takes as memory is named
abbrev pub extension_of : Width → Access → Option Extension
extension_of Bits32 access.SignedByte = Some Low8To32
extension_of Bits32 access.SignedHalfWord = Some Low16To32
extension_of Bits64 access.SignedByte = Some Low8To64
extension_of Bits64 access.SignedHalfWord = Some Low16To64
extension_of Bits64 access.SignedWord = Some Low32To64
extension_of w a = None

-- the load of as many bits with their sign, by whose name a sign-extending move is written
abbrev pub extension_access : Extension → Access
extension_access Low8To32 = access.SignedByte
extension_access Low16To32 = access.SignedHalfWord
extension_access Low8To64 = access.SignedByte
extension_access Low16To64 = access.SignedHalfWord
extension_access Low32To64 = access.SignedWord

-- ---- byte orders

-- the word for a byte swap: its order, and after that the number of bits that it keeps
abbrev pub order_text : ByteOrder × SwapWidth → List ℕ
order_text (Little, order.Bits16) = codes "le16"
order_text (Little, order.Bits32) = codes "le32"
order_text (Little, order.Bits64) = codes "le64"
order_text (Big, order.Bits16) = codes "be16"
order_text (Big, order.Bits32) = codes "be32"
order_text (Big, order.Bits64) = codes "be64"
order_text (Swapped, order.Bits16) = codes "bswap16"
order_text (Swapped, order.Bits32) = codes "bswap32"
order_text (Swapped, order.Bits64) = codes "bswap64"

-- all byte swaps: each order with each count of bits
abbrev pub orders : List (ByteOrder × SwapWidth)
orders =
    (Little, order.Bits16) ∷ (Little, order.Bits32) ∷ (Little, order.Bits64)
    ∷ (Big, order.Bits16) ∷ (Big, order.Bits32) ∷ (Big, order.Bits64)
    ∷ (Swapped, order.Bits16) ∷ (Swapped, order.Bits32) ∷ (Swapped, order.Bits64)
    ∷ []

-- the byte swap that a word names; none for any other word
abbrev pub order_named : List ℕ → Option (ByteOrder × SwapWidth)
order_named name = first_with_name order_text orders name
