-- Texts of programs in the language of policy files, and the instructions that they say.
use Rattle.std.specs.Prelude.{◌≡◌, ℕ, List, ◌++◌, Ok, codes}
use Rattle.scx_isa_semantics.specs.Code.{Code}
use Rattle.scx_asm.specs.Reading.{read_text}

-- the text describes that program
abbrev pub Says : List ℕ → Code → Type 0
Says text code = read_text text ≡ Ok code

-- dispatch of `fifo`
abbrev pub one_text : List ℕ
one_text = codes "r1 = 0\ncall 1004\nexit\n"

-- dispatch of `round_robin`
abbrev pub two_text : List ℕ
two_text =
    codes "r1 = 0\ncall 1004\nif r0 != 0 goto out\nr1 = 1\ncall 1004\nout:\nexit\n"

-- dispatch of `feedback`
abbrev pub three_text : List ℕ
three_text =
    codes
    "r1 = 0\ncall 1004\nif r0 != 0 goto out\nr1 = 1\ncall 1004\nif r0 != 0 goto out\nr1 = 2\ncall 1004\nout:\nexit\n"

-- init of `fifo`, `simple` and `short_slices`
abbrev pub create_text : List ℕ
create_text = codes "r1 = 0\ncall 1001\nexit\n"

-- enqueue of `short_slices`
abbrev pub short_text : List ℕ
short_text = codes "r4 = r2\nr2 = 0\nr3 = 2000000\ncall 1002\nexit\n"

-- enqueue of `fifo` and `simple`
abbrev pub long_text : List ℕ
long_text = codes "r4 = r2\nr2 = 0\nr3 = 20000000\ncall 1002\nexit\n"

-- select_cpu of `simple`
abbrev pub idle_text : List ℕ
idle_text =
    codes "r6 = r1\ncall 1005\nr7 = r0\nr1 = r0\ncall 1006\nif r0 == 0 goto out\nr1 = r6\n"
    ++ codes "r2 = 9223372036854775810 ll\nr3 = 20000000\nr4 = 0\ncall 1002\nout:\nr0 = r7\nexit\n"
