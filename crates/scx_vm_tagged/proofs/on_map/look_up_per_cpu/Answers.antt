use Rattle.std.proofs.Common.{[], ◌∷◌, None, is_some, refl, ap, ◌∙◌}
use Rattle.scx_isa_semantics.specs.declared.host_tables.Helper.TheVariants.{OnMap}
use Rattle.scx_isa_semantics.specs.declared.host_tables.MapHelper.TheVariants.{LookUpPerCpu}
use Rattle.scx_isa_semantics.specs.declared.host_tables.Parameter.TheVariants.{PerCpuMap, Key, Number}
use Rattle.scx_isa_semantics.specs.Calls.{map_effect, after_call}
use Rattle.scx_vm_tagged.specs.State.{seen}
use Rattle.scx_vm_tagged.proofs.MapEffects.{no_map, no_second, no_third, at_hand, key_at_hand, number_missing, looks_up_copy}
use Rattle.scx_vm_tagged.proofs.on_map.look_up_per_cpu.Goals as goal

pub returns-in_default : goal.returns-in_default
returns-in_default c =
    let m = seen c.args.core.now c.args.maps.now in
    (no_map m PerCpuMap (Key ∷ Number ∷ []) (map_effect m (OnMap LookUpPerCpu)) c.in_default.ensures, refl)

pub returns-in_default-key : goal.returns-in_default-key
returns-in_default-key c =
    let m = seen c.args.core.now c.args.maps.now in
    let hand = at_hand m c.in-Some.map c.in-Some.ensures.refers in
    let none = key_at_hand m c.in-Some.map None hand c.in_default-key.ensures in
    (no_second m PerCpuMap Key (Number ∷ []) (map_effect m (OnMap LookUpPerCpu)) (ap (λ o. is_some o) none), refl)

pub returns-in_default-number : goal.returns-in_default-number
returns-in_default-number c =
    let m = seen c.args.core.now c.args.maps.now in
    (no_third m PerCpuMap Key Number [] (map_effect m (OnMap LookUpPerCpu)) (number_missing m (m.registers 3) c.in_default-number.ensures), refl)

pub returns : goal.returns
returns c =
    let m = seen c.args.core.now c.args.maps.now in
    looks_up_copy m c.in-Some.map c.in-Some-key.key c.in-Some-number.cpu (seen c.end_call.new.self c.args.maps.now) c.in-Some.ensures c.in-Some-key.ensures c.in-Some-number.ensures
    (c.end_call.ensures c.args.maps.now ∙ ap (λ v. after_call m v) c.element.ensures)
