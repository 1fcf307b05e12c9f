use Rattle.std.proofs.Common.{[], ◌∷◌, ◌++◌, codes, decimal}
use Rattle.json.specs.Token.{key, string, number, end_object}
use Rattle.scxsim_explain.proofs.Tokens.{more, more_if_ok}
use Rattle.scxsim_explain.proofs.verdict_objects.write_accepted.Goals as goal

pub returns-clause-tokens : goal.returns-clause-tokens
returns-clause-tokens c =
    let old = c.args.writer.now.tokens in
    let verdict = c.write_text.new.writer.tokens in
    let count = c.write_number.new.writer.tokens in
    let xs = key (codes "verdict") ∷ string (codes "accepted") ∷ [] in
    let ys = key (codes "instructions") ∷ number (decimal c.args.instructions) ∷ [] in
    more_if_ok c.end_object.result old count c.end_object.new.self.tokens (xs ++ ys) (end_object ∷ []) (more old verdict count xs ys c.in_ok-write_text.ensures.tokens c.in_ok-write_number.ensures.tokens) c.end_object.ensures.ok
