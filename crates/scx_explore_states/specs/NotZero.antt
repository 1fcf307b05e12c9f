-- Words that aren't 0, with their places.
use Rattle.std.specs.Prelude.{ℕ, ◌+◌, ◌-◌, ◌*◌, ◌==◌, List, [], ◌∷◌, ◌++◌, length, replicate, if◌then◌else◌}
use Rattle.scx_explore_states.specs.declared.map_words.MapWords.{MapWords}
use Rattle.scx_explore_states.specs.declared.map_words.MapWords.TheVariants.{Whole, NotZero}

-- a word after its place, counted from 1, if it isn't 0
abbrev pub pair : ℕ → ℕ → List ℕ
pair place w = if w == 0 then [] else (place + 1) ∷ w ∷ []

-- the words that aren't 0, each after its place, where the first word has that place
abbrev pub pairs_from : ℕ → List ℕ → List ℕ
pairs_from place [] = []
pairs_from place (w ∷ ws) = pair place w ++ pairs_from (place + 1) ws

-- the words, and after them zeros up to n words
abbrev pub filled : ℕ → List ℕ → List ℕ
filled n ws = ws ++ replicate (n - length ws) 0

-- of the words of maps, what a state has: all of them; or how many there are, and those that aren't
-- 0, each after its place, filled up to the width that all states have
abbrev pub kept_words : MapWords → List ℕ → List ℕ
kept_words Whole ws = ws
kept_words (NotZero most) ws = length ws ∷ filled (2 * most) (pairs_from 0 ws)
