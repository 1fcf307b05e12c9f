use Rattle.std.proofs.Common.{◌++◌, ◌∷◌, [], ap, ◌∙◌}
use Rattle.std.proofs.lemmas.List.{map-append}
use Rattle.std.specs.Prelude.{string_bytes}
use Rattle.scx_load_workloads.specs.KeptNames.{texts}
use Rattle.scx_load_workloads.proofs.Values.{goes_last}
use Rattle.scx_load_workloads.proofs.names.insert.Goals as goal

pub returns-clause-names : goal.returns-clause-names
returns-clause-names c =
    let names = c.args.names.now.keys in
    let text = c.in_ok-name.name in
    let last = goes_last names c.insert.new.self.keys text c.args.name.now c.in_ok-name.ensures.ok c.requires c.in_ok-insert.ensures.keys in
    ap texts last ∙ map-append (λ n. string_bytes n) names (text ∷ []) ∙ ap (λ n. texts names ++ n ∷ []) c.in_ok-name.ensures.ok
