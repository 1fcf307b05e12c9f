use Rattle.std.proofs.Common.{◌≡◌, ℕ, List, subst, sym, ◌∙◌}
use Rattle.toml.specs.View.{table_view}
use Rattle.scx_isa_semantics.specs.declared.rules.Rules.{Rules}
use Rattle.scx_isa_semantics.specs.declared.rules.Rules.TheVariants.{Linux}
use Rattle.scx_load_files.specs.Faults.{Gives}
use Rattle.scx_load_files.specs.Unknown.{known_alone, words}
use Rattle.scx_load_policies.specs.Policies.{callback_keys}
use Rattle.scx_load_policies.specs.Reading.{file_keys, map_keys, rules_meant, unknown_beside}
use Rattle.scx_load_policies.proofs.reading.check_keys.Goals as goal

pub returns-in-Linux : goal.returns-in-Linux
returns-in-Linux c =
    let ms = table_view c.args.file.table.now in
    let r = c.check_beside-in-Linux.result in
    let meant : rules_meant ms ≡ Linux = sym c.rules_meant.ensures ∙ c.in-Linux.is in
    subst (λ (x : Rules). Gives {T = Unit {0}} {A = Unit {0}} (λ t. t) r (known_alone (unknown_beside (file_keys x) (map_keys x) (callback_keys x) ms))) (sym meant)
    (subst (λ (ks : List (List ℕ)). Gives {T = Unit {0}} {A = Unit {0}} (λ t. t) r (known_alone (unknown_beside ks (map_keys Linux) (callback_keys Linux) ms))) c.linux_file_keys.ensures
    (subst (λ (of_maps : List (List ℕ)). Gives {T = Unit {0}} {A = Unit {0}} (λ t. t) r (known_alone (unknown_beside (words c.linux_file_keys.result) of_maps (callback_keys Linux) ms))) c.linux_map_keys.ensures
    (subst (λ (cs : List (List ℕ)). Gives {T = Unit {0}} {A = Unit {0}} (λ t. t) r (known_alone (unknown_beside (words c.linux_file_keys.result) (words c.linux_map_keys.result) cs ms))) c.linux_keys.ensures c.check_beside-in-Linux.ensures)))
