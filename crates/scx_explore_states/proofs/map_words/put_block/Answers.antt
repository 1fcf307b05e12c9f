use Rattle.std.proofs.Common.{◌≡◌, ℕ, List, ◌++◌, get_or, ap, ◌∙◌, subst}
use Rattle.scx_explore_states.specs.NotZero.{pairs_from}
use Rattle.scx_explore_states.specs.Written.{byte_words}
use Rattle.scx_explore_states.proofs.Pairs.{pass_block}
use Rattle.scx_explore_states.proofs.map_words.put_block.Goals as goal

pub returns-then-is_zero : goal.returns-then-is_zero
returns-then-is_zero c is before old =
    pass_block c.args.bytes.now c.args.from c.args.count before _ (subst (λ (xs : List ℕ). (k : ℕ) → get_or xs k 0 ≡ 0) c.bytes_at.ensures (c.is_zero.ensures c.if-is_zero.true)) c.requires.from old

pub returns : goal.returns
returns c is before old =
    c.put_words_between.ensures is before old
    ∙ ap (λ (k : ℕ). before ++ pairs_from 0 (byte_words c.args.bytes.now k)) c.min.ensures
