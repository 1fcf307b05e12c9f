-- The values at the keys of a table, each read with its first fault.
use Rattle.std.specs.Prelude.{ℕ, suc, ◌+◌, ℤ, pos, negsuc, Bool, ◌&&◌, nat_le, if◌then◌else◌, List, [], ◌∷◌, Option, Some, None, codes, Ok}
use Rattle.toml.specs.Data.{Data, string, integer, float, boolean, datetime, array, table, Items, no_items, item, Members, no_members, member, get_member}
use Rattle.toml.specs.Parse.{parse_document}
use Rattle.scx_load_files.specs.declared.fault.Cause.TheVariants as cause
use Rattle.scx_load_files.specs.declared.section.Limits.{Limits}
use Rattle.scx_isa_semantics.specs.Results.{◌>>=◌}
use Rattle.scx_load_files.specs.Faults.{Reading, refusal}
use Rattle.scx_load_files.specs.Names.{is_name}
use Rattle.scx_load_files.specs.Paths.{below}

-- what is found, or else the other
abbrev pub found_or : {A : Type 0} → {B : Type 0} → (A → B) → B → Option A → B
found_or f none None = none
found_or f none (Some x) = f x

-- the table of a document
abbrev pub document : List ℕ → Reading Members
document text = found_or Ok (refusal (codes "file") cause.NotToml) (parse_document text)

-- ---- readings of a value; its path comes first

-- the table that a value is; a value of another type is refused
abbrev pub table_of : List ℕ → Data → Reading Members
table_of path (table ms) = Ok ms
table_of path _ = refusal path cause.WrongType

-- the text that a value is; a value of another type is refused
abbrev pub text_of : List ℕ → Data → Reading (List ℕ)
text_of path (string s) = Ok s
text_of path _ = refusal path cause.WrongType

-- a text that is a name; any other is refused
abbrev pub if_name : List ℕ → List ℕ → Reading (List ℕ)
if_name path text = if is_name text then Ok text else refusal path cause.BadName

-- the name that a value is; another type is refused, and so is a text that is no name
abbrev pub name_of : List ℕ → Data → Reading (List ℕ)
name_of path d = text_of path d >>= if_name path

-- the number, if it is within limits
abbrev pub within : Limits → ℤ → Option ℕ
within limits (pos n) = if nat_le limits.least n && nat_le n limits.most then Some n else None
within limits (negsuc n) = None

-- the integer that a value is; another type is refused, and so is a number outside its limits
abbrev pub integer_of : Limits → List ℕ → Data → Reading ℕ
integer_of limits path (integer z) = found_or Ok (refusal path cause.OutOfRange) (within limits z)
integer_of limits path _ = refusal path cause.WrongType

-- the number, if it isn't below 0; a file has none above 2 ^ 63 - 1 (TOML 1.1, "Integer")
abbrev pub natural : ℤ → Option ℕ
natural (pos n) = Some n
natural (negsuc n) = None

-- the number from 0 on that a value is; another type is refused, and so is a number below 0
abbrev pub natural_of : List ℕ → Data → Reading ℕ
natural_of path (integer z) = found_or Ok (refusal path cause.OutOfRange) (natural z)
natural_of path _ = refusal path cause.WrongType

-- how many elements an array has
abbrev pub item_count : Items → ℕ
item_count no_items = 0
item_count (item d ds) = suc (item_count ds)

-- the elements of an array that has at most this number of them
abbrev pub elements_of : ℕ → List ℕ → Data → Reading Items
elements_of most path (array ds) =
    if nat_le (item_count ds) most then Ok ds else refusal path cause.TooMany
elements_of most path _ = refusal path cause.WrongType

-- the elements from the n-th on, read one after the other
abbrev pub each_from : {A : Type 0} → (ℕ → Data → Reading A) → ℕ → Items → Reading (List A)
each_from read n no_items = Ok []
each_from read n (item d ds) = read n d >>= λ x. each_from read (n + 1) ds >>= λ xs. Ok (x ∷ xs)

-- ---- readings of the value at a key of the table at a path

-- a key that has to be there
abbrev pub required :
    {A : Type 0} → (List ℕ → Data → Reading A) → List ℕ → List ℕ → Members → Reading A
required of path key ms =
    found_or (of (below path key)) (refusal (below path key) cause.Missing) (get_member key ms)

-- a key that may be absent
abbrev pub optional :
    {A : Type 0} → (List ℕ → Data → Reading A) → A → List ℕ → List ℕ → Members → Reading A
optional of default path key ms = found_or (of (below path key)) (Ok default) (get_member key ms)
