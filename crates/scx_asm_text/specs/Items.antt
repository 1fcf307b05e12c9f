-- The contents of a line: an instruction, a label, or nothing. Numbers are kept as written, so that
-- a line's form is judged before any number's range.
use Rattle.std.specs.Prelude.{ℕ, nat_eq, Bool, true, false, List, [], ◌∷◌, codes, Option, Some, None, if◌then◌else◌}
use Rattle.std.specs.Str.{bytes_eq}
use Rattle.scx_isa_semantics.specs.declared.operations.Width.{Width}
use Rattle.scx_isa_semantics.specs.declared.operations.Width.TheVariants.{Bits32, Bits64}
use Rattle.scx_isa_semantics.specs.declared.operations.Operation.{Operation}
use Rattle.scx_isa_semantics.specs.declared.operations.Operation.TheVariants.{Move}
use Rattle.scx_isa_semantics.specs.declared.operations.Comparison.{Comparison}
use Rattle.scx_isa_semantics.specs.declared.operations.Access.{Access}
use Rattle.scx_isa_semantics.specs.declared.registers.Register.{Register}
use Rattle.scx_isa_semantics.specs.Registers.{number}
use Rattle.scx_asm_text.specs.declared.symbols.Symbol.TheVariants.{Assign, Compare, Plus, Minus, Star, Opening, Closing, Colon}
use Rattle.scx_asm_text.specs.declared.items.Literal.{Literal}
use Rattle.scx_asm_text.specs.declared.items.WrittenOperand.{WrittenOperand}
use Rattle.scx_asm_text.specs.declared.items.WrittenOperand.TheVariants as argument
use Rattle.scx_asm_text.specs.declared.items.Statement.{Statement}
use Rattle.scx_asm_text.specs.declared.items.Statement.TheVariants as statement
use Rattle.scx_asm_text.specs.declared.items.Jump.{Jump}
use Rattle.scx_asm_text.specs.declared.items.Jump.TheVariants as jump
use Rattle.scx_asm_text.specs.declared.items.Target.{Target}
use Rattle.scx_asm_text.specs.declared.items.Target.TheVariants as target
use Rattle.scx_asm_text.specs.declared.items.Item.{Item}
use Rattle.scx_asm_text.specs.declared.items.Item.TheVariants as item
use Rattle.scx_asm_text.specs.declared.items.MemoryOperand.{MemoryOperand}
use Rattle.scx_asm_text.specs.Options.{◌>>=◌, either}
use Rattle.scx_asm_text.specs.Tokens.{Lexeme, Word, Number, Mark, tokens}
use Rattle.scx_asm_text.specs.Names.{register_named, register_in, access_named, stored_size, extension_of, order_named}

-- where a jump goes: to a label, or a number of slots on or back from the next instruction
pub data Destination : Type 0 where
  Label : List ℕ → Destination
  Distance : Literal → Destination

-- the contents of a line, wherever its label lies
pub data ItemValue : Type 0 where
  Blank : ItemValue
  DefinesLabel : List ℕ → ItemValue
  Says : Statement → ItemValue
  Jumps : Jump → Destination → ItemValue

-- where a jump goes, with its label's bytes
abbrev pub destination_of : Target → Destination
destination_of (target.Label l) = Label l.now
destination_of (target.Distance n) = Distance n

-- the contents of a line in memory, with its label's bytes
abbrev pub item_value : Item → ItemValue
item_value item.Blank = Blank
item_value (item.Label l) = DefinesLabel l.now
item_value (item.Statement s) = Says s
item_value (item.Jump j t) = Jumps j (destination_of t)

-- ---- the front of a line, and the tokens after it

-- the value read, with the tokens after it; none where the front is something else
abbrev pub Read : Type 0 → Type 0
Read A = Option (A × List Lexeme)

-- a number by its sign and its magnitude, which is missing from 2^64 on
abbrev pub literal : Bool → Option ℕ → Literal
literal is_negative magnitude = record { is_negative = is_negative; magnitude = magnitude }

-- a number; its sign is directly before it
abbrev pub read_literal : List Lexeme → Read Literal
read_literal (Mark Minus ∷ Number true n ∷ ts) = Some (literal true n, ts)
read_literal (Number touches n ∷ ts) = Some (literal false n, ts)
read_literal ts = None

-- the offset of an address; the sign is a token of its own
abbrev pub read_offset : List Lexeme → Read Literal
read_offset (Mark Plus ∷ Number touches n ∷ ts) = Some (literal false n, ts)
read_offset (Mark Minus ∷ Number touches n ∷ ts) = Some (literal true n, ts)
read_offset ts = None

-- the offset of a jump; the number touches its sign
abbrev pub read_distance : List Lexeme → Read Literal
read_distance (Mark Plus ∷ Number true n ∷ ts) = Some (literal false n, ts)
read_distance (Mark Minus ∷ Number true n ∷ ts) = Some (literal true n, ts)
read_distance ts = None

-- where a jump goes: a word is a label, and a number after its sign an offset
abbrev pub read_destination : List Lexeme → Read Destination
read_destination (Word l ∷ ts) = Some (Label l, ts)
read_destination ts = read_distance ts >>= λ n. Some (Distance n.0, n.1)

-- the word at the front
abbrev pub read_word : List Lexeme → Read (List ℕ)
read_word (Word w ∷ ts) = Some (w, ts)
read_word ts = None

-- a register of that width
abbrev pub read_register : Width → List Lexeme → Read Register
read_register w (Word name ∷ ts) = register_in w name >>= λ r. Some (r, ts)
read_register w ts = None

-- the second operand
abbrev pub read_operand : Width → List Lexeme → Read WrittenOperand
read_operand w (Word name ∷ ts) = register_in w name >>= λ r. Some (argument.Register r, ts)
read_operand w ts = read_literal ts >>= λ n. Some (argument.Number n.0, n.1)

-- the comparison at the front
abbrev pub read_comparison : List Lexeme → Read Comparison
read_comparison (Mark (Compare c) ∷ ts) = Some (c, ts)
read_comparison ts = None

-- the tokens after a star; none if there is none at the front
abbrev pub star : List Lexeme → Option (List Lexeme)
star (Mark Star ∷ ts) = Some ts
star ts = None

-- the tokens after an opening parenthesis; none if there is none at the front
abbrev pub opening : List Lexeme → Option (List Lexeme)
opening (Mark Opening ∷ ts) = Some ts
opening ts = None

-- the tokens after a closing parenthesis; none if there is none at the front
abbrev pub closing : List Lexeme → Option (List Lexeme)
closing (Mark Closing ∷ ts) = Some ts
closing ts = None

-- the word in parentheses that names an access to memory
abbrev pub read_access : List Lexeme → Read Access
read_access (Word name ∷ ts) = access_named name >>= λ a. Some (a, ts)
read_access ts = None

-- the sum of a register and an offset
abbrev pub read_address : List Lexeme → Read (Register × Literal)
read_address ts = do
  inner ← opening ts
  base ← read_register Bits64 inner
  o ← read_offset base.1
  rest ← closing o.1
  Some ((base.0, o.0), rest)

-- memory, after the star that it begins with
abbrev pub read_memory_operand : List Lexeme → Read MemoryOperand
read_memory_operand ts = do
  inner ← opening ts
  a ← read_access inner
  after ← star a.1
  closed ← closing after
  r ← read_address closed
  Some (record { access = a.0; base = r.0.0; offset = r.0.1 }, r.1)

-- ---- whole lines

-- no token remains after it
abbrev pub end : List Lexeme → ItemValue → Option ItemValue
end [] l = Some l
end ts l = None

-- true if two registers are one
abbrev pub same : Register → Register → Bool
same r s = nat_eq (number r) (number s)

-- `rD = rS`
abbrev pub copy : Width → Register → Register → List Lexeme → Option ItemValue
copy w d r ts = end ts (Says (statement.Binary w Move d (argument.Register r)))

-- `rD = -rD`
abbrev pub negation : Width → Register → List ℕ → List Lexeme → Option ItemValue
negation w d name ts = do
  r ← register_in w name
  if same r d then end ts (Says (statement.Negate w d)) else None

-- `rD = (s8)rS`, after the parenthesis
abbrev pub sign_extending_move : Width → Register → List Lexeme → Option ItemValue
sign_extending_move w d ts = do
  a ← read_access ts
  e ← extension_of w a.0
  closed ← closing a.1
  r ← read_register w closed
  end r.1 (Says (statement.SignExtend e d r.0))

-- `rD = *(u8 *)(rS + O)`, after the star
abbrev pub load_line : Width → Register → List Lexeme → Option ItemValue
load_line Bits32 d ts = None
load_line Bits64 d ts = do
  p ← read_memory_operand ts
  end p.1 (Says (statement.Load p.0.access d p.0.base p.0.offset))

-- `rD = N` and `rD = N ll`
abbrev pub load_immediate : Width → Register → Literal → List Lexeme → Option ItemValue
load_immediate Bits64 d n (Word name ∷ ts) =
    if bytes_eq name (codes "ll") then end ts (Says (statement.LoadImmediate d n)) else None
load_immediate w d n ts = end ts (Says (statement.Binary w Move d (argument.Number n)))

-- `rD = le16 rD`
abbrev pub byte_swap : Register → List ℕ → List Lexeme → Option ItemValue
byte_swap d name ts = do
  o ← order_named name
  r ← read_register Bits64 ts
  if same r.0 d then end r.1 (Says (statement.ByteSwap o.0 o.1 d)) else None

-- `rD = map N`
abbrev pub map_load : Register → List Lexeme → Option ItemValue
map_load d ts = read_literal ts >>= λ n. end n.1 (Says (statement.LoadMapReference d n.0))

-- a word after `rD =` that is no register of that width
abbrev pub special : Width → Register → List ℕ → List Lexeme → Option ItemValue
special Bits32 d name ts = None
special Bits64 d name ts =
    if bytes_eq name (codes "map") then map_load d ts else byte_swap d name ts

-- the right side of `rD =`, if it is no word
abbrev pub behind_equals_no_word : Width → Register → List Lexeme → Option ItemValue
behind_equals_no_word w d (Mark Minus ∷ Word name ∷ ts) = negation w d name ts
behind_equals_no_word w d (Mark Opening ∷ ts) = sign_extending_move w d ts
behind_equals_no_word w d (Mark Star ∷ ts) = load_line w d ts
behind_equals_no_word w d ts = read_literal ts >>= λ n. load_immediate w d n.0 n.1

-- the right side of `rD =`
abbrev pub behind_equals : Width → Register → List Lexeme → Option ItemValue
behind_equals w d (Word name ∷ ts) =
    either (register_in w name) (λ r. copy w d r ts) (special w d name ts)
behind_equals w d ts = behind_equals_no_word w d ts

-- `rD op= rS` and `rD op= N`
abbrev pub arithmetic : Width → Operation → Register → List Lexeme → Option ItemValue
arithmetic w o d ts = read_operand w ts >>= λ x. end x.1 (Says (statement.Binary w o d x.0))

-- the rest of a line that begins with a register
abbrev pub behind_register : Width → Register → List Lexeme → Option ItemValue
behind_register w d (Mark (Assign Move) ∷ ts) = behind_equals w d ts
behind_register w d (Mark (Assign o) ∷ ts) = arithmetic w o d ts
behind_register w d ts = None

-- the operand after `=`
abbrev pub read_value : List Lexeme → Read WrittenOperand
read_value (Mark (Assign Move) ∷ ts) = read_operand Bits64 ts
read_value ts = None

-- `*(u8 *)(rD + O) = rS`, after the star
abbrev pub store_line : List Lexeme → Option ItemValue
store_line ts = do
  p ← read_memory_operand ts
  s ← stored_size p.0.access
  x ← read_value p.1
  end x.1 (Says (statement.Store s p.0.base p.0.offset x.0))

-- `goto T` after a condition
abbrev pub read_goto : List Lexeme → Read Destination
read_goto (Word name ∷ ts) = if bytes_eq name (codes "goto") then read_destination ts else None
read_goto ts = None

-- the comparison of a register, after its name
abbrev pub comparison : Width → Register → List Lexeme → Read Jump
comparison w r ts = do
  c ← read_comparison ts
  x ← read_operand w c.1
  Some (jump.If w c.0 r x.0, x.1)

-- `if rD C rS goto T`, after the `if`
abbrev pub condition : List Lexeme → Option ItemValue
condition ts = do
  name ← read_word ts
  r ← register_named name.0
  j ← comparison r.0 r.1 name.1
  t ← read_goto j.1
  end t.1 (Jumps j.0 t.0)

-- a line that is a jump without a condition, after `goto` or `gotol`
abbrev pub jump_to : Jump → List Lexeme → Option ItemValue
jump_to j ts = read_destination ts >>= λ t. end t.1 (Jumps j t.0)

-- `call N`, after the `call`
abbrev pub helper_call : List Lexeme → Option ItemValue
helper_call ts = read_literal ts >>= λ n. end n.1 (Says (statement.Call n.0))

-- a line that begins with another word than a register
abbrev pub keyword : List ℕ → List Lexeme → Option ItemValue
keyword name ts =
    if bytes_eq name (codes "if") then condition ts
    else (if bytes_eq name (codes "goto") then jump_to jump.Goto ts
    else (if bytes_eq name (codes "gotol") then jump_to jump.GotoLong ts
    else (if bytes_eq name (codes "call") then helper_call ts
    else (if bytes_eq name (codes "exit") then end ts (Says statement.Exit) else None))))

-- a line by its first word: the name of a register, or a word of the language
abbrev pub statement_of : List ℕ → List Lexeme → Option ItemValue
statement_of name ts =
    either (register_named name) (λ r. behind_register r.0 r.1 ts) (keyword name ts)

-- the item of a line's tokens, a blank line without any; none where the language has no such line
abbrev pub item_of : List Lexeme → Option ItemValue
item_of [] = Some Blank
item_of (Word l ∷ Mark Colon ∷ ts) = end ts (DefinesLabel l)
item_of (Word name ∷ ts) = statement_of name ts
item_of (Mark Star ∷ ts) = store_line ts
item_of ts = None

-- the item of a line, or none if it isn't of the language
abbrev pub read_line : List ℕ → Option ItemValue
read_line text = tokens text >>= item_of
