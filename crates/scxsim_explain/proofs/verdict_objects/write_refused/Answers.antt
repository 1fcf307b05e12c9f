use Rattle.std.proofs.Common.{[], ◌∷◌, ◌++◌, codes, decimal}
use Rattle.json.specs.Token.{key, string, number, end_object}
use Rattle.scx_verify.specs.Faults.{fault_number, fault_name}
use Rattle.scxsim_explain.proofs.Tokens.{more, more_if_ok}
use Rattle.scxsim_explain.proofs.verdict_objects.write_refused.Goals as goal

pub returns-clause-tokens : goal.returns-clause-tokens
returns-clause-tokens c =
    let old = c.args.writer.now.tokens in
    let verdict = c.write_text.new.writer.tokens in
    let fault = c.write_number.new.writer.tokens in
    let name = c.write_text-2.new.writer.tokens in
    let slot = c.write_number-2.new.writer.tokens in
    let xs = key (codes "verdict") ∷ string (codes "refused") ∷ [] in
    let ys = key (codes "fault") ∷ number (decimal (fault_number c.args.fault)) ∷ [] in
    let zs = key (codes "name") ∷ string (fault_name c.args.fault) ∷ [] in
    let us = key (codes "slot") ∷ number (decimal c.args.slot) ∷ [] in
    let numbered = more old verdict fault xs ys c.in_ok-write_text.ensures.tokens (rw (c.from.ensures, c.number.ensures) at c.in_ok-write_number.ensures.tokens) in
    let named = more old fault name (xs ++ ys) zs numbered (rw (c.name.ensures) at c.in_ok-write_text-2.ensures.tokens) in
    let placed = more old name slot (xs ++ ys ++ zs) us named c.in_ok-write_number-2.ensures.tokens in
    more_if_ok c.end_object.result old slot c.end_object.new.self.tokens (xs ++ ys ++ zs ++ us) (end_object ∷ []) placed c.end_object.ensures.ok
