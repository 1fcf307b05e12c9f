use Rattle.std.proofs.Common.{◌≡◌, ◌++◌}
use Rattle.scx_explore_states.specs.Written.{rows_words}
use Rattle.scx_explore_states.proofs.form.Form.put_rows.Given as goal

-- the words of the places so far come after those that were there
abbrev pub invariant-loop-place : goal.invariant-loop-place
invariant-loop-place l =
    l.words.items ≡ l.initial.words.items ++ rows_words l.self l.rows l.order l.place
