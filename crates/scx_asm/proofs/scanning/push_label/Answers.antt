use Rattle.std.proofs.Common.{◌≡◌, false, is_some, map, None, Bor, List, ℕ, sym, ◌∙◌}
use Rattle.std.specs.Map.{lookup}
use Rattle.std.specs.Str.{bytes_eq}
use Rattle.indexmap.proofs.CallerLemmas.{insert_entry-new}
use Rattle.scx_asm.specs.Resolving.{find}
use Rattle.scx_asm.specs.FirstPass.{unresolved_of}
use Rattle.scx_asm.specs.Passes.{table}
use Rattle.scx_asm.proofs.Tables.{find_is, not_there, labelled}
use Rattle.scx_asm.proofs.scanning.push_label.Goals as goal

pub returns : goal.returns
returns c =
    let missing : is_some (find c.args.label.now (table c.args.pass.now.labels.entries)) ≡ false = cc in
    let none : lookup (λ (k : Bor (List ℕ)). bytes_eq c.args.label.now k.now) c.args.pass.now.labels.entries ≡ None =
    sym (find_is c.args.label c.args.pass.now.labels.entries) ∙ not_there (find c.args.label.now (table c.args.pass.now.labels.entries)) missing in
    labelled c.args.number c.args.pass.now.slots c.args.label c.args.pass.now.labels.entries c.insert.new.self.entries (map unresolved_of c.args.pass.now.unresolved.items) missing
    (c.in_ok-insert.ensures.entries ∙ insert_entry-new _ c.args.pass.now.labels c.args.label c.args.pass.now.slots none)
