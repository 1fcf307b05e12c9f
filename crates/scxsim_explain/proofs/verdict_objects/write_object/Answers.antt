use Rattle.std.proofs.Common.{[], ◌∷◌, ◌++◌, codes}
use Rattle.json.specs.Tree.{members_tokens}
use Rattle.json.specs.Token.{key, string, begin_object}
use Rattle.scx_isa_semantics.specs.Callbacks.{callback_name}
use Rattle.scxsim_explain.specs.VerdictObjects.{verdict_members}
use Rattle.scxsim_explain.proofs.Tokens.{more, more_if_ok}
use Rattle.scxsim_explain.proofs.verdict_objects.write_object.Goals as goal

pub returns-clause-tokens : goal.returns-clause-tokens
returns-clause-tokens c =
    let old = c.args.writer.now.tokens in
    let begun = c.begin_object.new.self.tokens in
    let callback = c.write_text.new.writer.tokens in
    let xs = begin_object ∷ [] in
    let ys = key (codes "callback") ∷ string (callback_name c.args.callback) ∷ [] in
    let named = more old begun callback xs ys c.in_ok-begin_object.ensures.ok (rw (c.name.ensures) at c.in_ok-write_text.ensures.tokens) in
    more_if_ok c.write_verdict.result old callback c.write_verdict.new.writer.tokens (xs ++ ys) (members_tokens (verdict_members c.args.verdict)) named c.write_verdict.ensures.tokens
