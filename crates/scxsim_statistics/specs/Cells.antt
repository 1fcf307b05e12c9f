-- Words and numbers in tables and in lists of values.
use Rattle.std.specs.Prelude.{ℕ, ◌-◌, ◌/◌, ◌%◌, List, ◌++◌, codes, decimal, length, replicate, slice_index}
use Rattle.scxsim_output.specs.Texts.{all_below}

-- words with spaces after them, up to `width` bytes
unfoldable pub left : ℕ → List ℕ → List ℕ
left width words = words ++ replicate (width - length words) 32

-- words with spaces before them, up to `width` bytes
unfoldable pub right : ℕ → List ℕ → List ℕ
right width words = replicate (width - length words) 32 ++ words

-- the last two digits of a number of hundredths, with a period before them
unfoldable pub fraction : ℕ → List ℕ
fraction n = codes "." ++ decimal (n / 10 % 10) ++ decimal (n % 10)

-- a number of hundredths, with a period before the last two digits
unfoldable pub hundredths : ℕ → List ℕ
hundredths n = decimal (n / 100) ++ fraction n

-- a number of hundredths with spaces before it, up to `width` characters: the period and what
-- follows it are three
unfoldable pub hundredths_right : ℕ → ℕ → List ℕ
hundredths_right width n = right (width - 3) (decimal (n / 100)) ++ fraction n

-- numbers with spaces before them, nine characters each
unfoldable pub numbers_right : List ℕ → List ℕ
numbers_right ns = all_below (λ k. right 9 (decimal (slice_index ns k))) (length ns)
