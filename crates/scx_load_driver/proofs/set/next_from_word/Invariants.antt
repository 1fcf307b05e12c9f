use Rattle.std.proofs.Common.{◌≡◌, ℕ, ◌-◌, ◌*◌, ◌^◌, ◌<◌, ◌≤◌, false}
use Rattle.scx_load_driver.specs.Sets.{is_in}
use Rattle.scx_load_driver.proofs.set.next_from_word.Given as goal

-- in the words so far there is none
abbrev pub invariant-loop-word : goal.invariant-loop-word
invariant-loop-word l = record {
  first : l.fn.first ≤ l.word;
  few : l.word ≤ 2 ^ 20;
  none : (n : ℕ) → 64 * l.fn.first ≤ n → n < 64 * l.word → is_in l.words n ≡ false;
}

-- the numbers that are left
abbrev pub decreases-loop-word : goal.decreases-loop-word
decreases-loop-word l = l.end - l.word * 64
