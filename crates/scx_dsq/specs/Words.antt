-- A task's number, or none, as one word. No public clause cites it.
use Rattle.std.proofs.Common.{◌≡◌, ℕ, zero, suc, ◌+◌, ◌-◌, ◌<◌, Option, Some, None, refl, arith}

-- the task of a word, one below it; none of 0
abbrev pub task_in : ℕ → Option ℕ
task_in zero = None
task_in (suc t) = Some t

-- the word of a task, one above its number; 0 of none
abbrev pub word_of : Option ℕ → ℕ
word_of None = 0
word_of (Some t) = suc t

-- a word is the word of what it says
pub word_back : (w : ℕ) → word_of (task_in w) ≡ w
word_back zero = refl
word_back (suc t) = refl

-- a word above 0 says the task one below it
pub task_in_more : (t : ℕ) → task_in (t + 1) ≡ Some t
task_in_more t = let e : t + 1 ≡ suc t = omega arith in rw e refl

-- likewise, for a word that is known to be above 0
pub task_in_word : (w : ℕ) → 0 < w → task_in w ≡ Some (w - 1)
task_in_word zero lt = absurd (omega arith)
task_in_word (suc t) lt = let e : suc t - 1 ≡ t = omega arith in rw e refl
