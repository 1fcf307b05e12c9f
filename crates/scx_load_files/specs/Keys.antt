-- Unknown keys as paths show them, each in one line: as they are, or where a control character
-- is in them, as a basic string (TOML 1.1, "String").
use Rattle.std.specs.Prelude.{ℕ, ◌/◌, ◌%◌, Bool, false, ◌||◌, ◌==◌, nat_lt, if◌then◌else◌, List, [], ◌∷◌, ◌++◌, codes, chars, encode_utf8, flat_map}
use Rattle.std.specs.Fmt.{digit_glyph}
use Rattle.std.specs.List.{list_any}

-- the control characters of ASCII, of which each is one byte
abbrev pub is_control : ℕ → Bool
is_control c = nat_lt c 32 || c == 127

-- a control character as TOML escapes it: `\u00` and two hexadecimal digits in small letters
abbrev pub control_escape : ℕ → List ℕ
control_escape c = codes "\\u00" ++ digit_glyph false (c / 16) ∷ digit_glyph false (c % 16) ∷ []

-- a character in UTF-8, or the escape of a control character
abbrev pub character : ℕ → List ℕ
character c = if is_control c then control_escape c else encode_utf8 c

-- a character within a basic string
abbrev pub escape : ℕ → List ℕ
escape c =
    if c == 8 then codes "\\b"
    else if c == 9 then codes "\\t"
    else if c == 10 then codes "\\n"
    else if c == 12 then codes "\\f"
    else if c == 13 then codes "\\r"
    else if c == 34 then codes "\\\""
    else if c == 92 then codes "\\\\"
    else character c

-- the content of a basic string whose text in UTF-8 is this one
abbrev pub basic_content : List ℕ → List ℕ
basic_content text = flat_map escape (chars text)

-- a text as a basic string, its two quotation marks included
abbrev pub basic_string : List ℕ → List ℕ
basic_string text = codes "\"" ++ basic_content text ++ codes "\""

-- a key as paths show it: as it is, or as a basic string if it has a control character
abbrev pub key_text : List ℕ → List ℕ
key_text key = if list_any is_control key then basic_string key else key
