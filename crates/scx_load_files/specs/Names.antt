-- Names of policies, groups and tasks: 1 to 16 characters of `a` to `z`, `0` to `9` and `_`, with a
-- letter first. They are this project's own.
use Rattle.std.specs.Prelude.{ℕ, Bool, true, false, ◌&&◌, ◌||◌, ◌==◌, nat_le, List, [], ◌∷◌, length}

-- the byte is one of `a` to `z`
abbrev pub is_letter : ℕ → Bool
is_letter b = nat_le 97 b && nat_le b 122

-- a byte of a name: one of `a` to `z`, of `0` to `9`, or `_`
abbrev pub is_name_byte : ℕ → Bool
is_name_byte b = is_letter b || (nat_le 48 b && nat_le b 57) || (b == 95)

-- all bytes of a text are bytes of a name; those of an empty text are
abbrev pub are_name_bytes : List ℕ → Bool
are_name_bytes [] = true
are_name_bytes (b ∷ bytes) = is_name_byte b && are_name_bytes bytes

-- the first byte of a text is one of `a` to `z`; an empty text has none
abbrev pub begins_with_letter : List ℕ → Bool
begins_with_letter [] = false
begins_with_letter (b ∷ bytes) = is_letter b

-- the text is a name: 1 to 16 bytes of a name, and the first is a letter
abbrev pub is_name : List ℕ → Bool
is_name text = nat_le (length text) 16 && begins_with_letter text && are_name_bytes text
