use Rattle.std.proofs.Common.{◌≡◌, ◌≤◌, ◌+◌, false, None}
use Rattle.std.specs.Prelude.{IfSome}
use Rattle.scx_maps.specs.Contents.{lengths_of}
use Rattle.scx_isa_semantics.specs.Code.{instruction_count, instructions_from}
use Rattle.scx_isa_semantics.specs.Machine.{start}
use Rattle.scx_isa_semantics.specs.Runs.{Leads}
use Rattle.scx_vm.specs.Arguments.{program_arguments}
use Rattle.scx_vm.specs.Host.{host}
use Rattle.scx_vm_tagged.specs.State.{seen}
use Rattle.scx_vm_tagged.specs.Watched.{CameAt}
use Rattle.scx_vm_tagged.proofs.run.walk.Given as goal

abbrev pub invariant-loop-steps : goal.invariant-loop-steps
invariant-loop-steps g l = record {
  leads : Leads (host g.E.Env.functions) l.callback l.program l.steps 0 (start (program_arguments l.fn.arguments) l.fn.maps) l.fn.env l.slot (seen l.core l.maps) l.env;
  left : l.steps + instructions_from l.program l.slot ≤ instruction_count l.program;
  shapes : lengths_of l.maps ≡ lengths_of l.fn.maps;
  room : g.E.Env.room l.fn.env ≤ g.E.Env.room l.env + l.steps;
  spent : g.E.Env.spent l.env ≤ g.E.Env.spent l.fn.env + l.steps;
  came : IfSome l.found (λ site. CameAt (host g.E.Env.functions) g.W.Watch.awaited l.callback l.program (program_arguments l.fn.arguments) l.fn.maps l.fn.env site l.slot (seen l.core l.maps) l.env);
  did_not_come : l.found ≡ None → g.W.Watch.awaited l.fn.env ≡ false → g.W.Watch.awaited l.env ≡ false;
}
