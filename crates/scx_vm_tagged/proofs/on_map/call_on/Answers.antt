use Rattle.scx_isa_semantics.specs.declared.host_tables.Helper.TheVariants.{OnMap}
use Rattle.scx_isa_semantics.specs.declared.host_tables.MapHelper.TheVariants.{Delete, Push, Pop, Peek, LookUpPerCpu}
use Rattle.scx_vm.specs.Host.{host}
use Rattle.scx_vm_tagged.specs.MapCalls.{called}
use Rattle.scx_vm_tagged.specs.State.{seen}
use Rattle.scx_vm_tagged.proofs.MapEffects.{does_come}
use Rattle.scx_vm_tagged.proofs.on_map.call_on.Goals as goal

pub returns-in-Update-clause-effect : goal.returns-in-Update-clause-effect
returns-in-Update-clause-effect g c = rw c.in-Update.is c.update.ensures.effect

pub returns-in-Delete-clause-effect : goal.returns-in-Delete-clause-effect
returns-in-Delete-clause-effect g c =
    let a = c.args in
    rw c.in-Delete.is (does_come (host g.E.Env.functions) (called (seen a.core.now a.maps.now) (OnMap Delete)) a.maps.now a.env.now c.delete.result (seen c.delete.new.core c.delete.new.maps) c.delete.ensures.effect)

pub returns-in-Push-clause-effect : goal.returns-in-Push-clause-effect
returns-in-Push-clause-effect g c =
    let a = c.args in
    rw c.in-Push.is (does_come (host g.E.Env.functions) (called (seen a.core.now a.maps.now) (OnMap Push)) a.maps.now a.env.now c.push.result (seen c.push.new.core c.push.new.maps) c.push.ensures.effect)

pub returns-in-Pop-clause-effect : goal.returns-in-Pop-clause-effect
returns-in-Pop-clause-effect g c =
    let a = c.args in
    rw c.in-Pop.is (does_come (host g.E.Env.functions) (called (seen a.core.now a.maps.now) (OnMap Pop)) a.maps.now a.env.now c.pop.result (seen c.pop.new.core c.pop.new.maps) c.pop.ensures.effect)

pub returns-in-Peek-clause-effect : goal.returns-in-Peek-clause-effect
returns-in-Peek-clause-effect g c =
    let a = c.args in
    rw c.in-Peek.is (does_come (host g.E.Env.functions) (called (seen a.core.now a.maps.now) (OnMap Peek)) a.maps.now a.env.now c.peek.result (seen c.peek.new.core c.peek.new.maps) c.peek.ensures.effect)

pub returns-in-LookUpPerCpu-clause-effect : goal.returns-in-LookUpPerCpu-clause-effect
returns-in-LookUpPerCpu-clause-effect g c =
    let a = c.args in
    rw c.in-LookUpPerCpu.is (does_come (host g.E.Env.functions) (called (seen a.core.now a.maps.now) (OnMap LookUpPerCpu)) a.maps.now a.env.now c.look_up_per_cpu.result (seen c.look_up_per_cpu.new.core c.args.maps.now) c.look_up_per_cpu.ensures)
