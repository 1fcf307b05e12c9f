-- What the interpreter says of a run is what is computed.
use Rattle.std.specs.Prelude.{◌≡◌, ◌≤◌}
use Rattle.scx_isa_semantics.specs.declared.values.Value.{Value}
use Rattle.scx_isa_semantics.specs.declared.callbacks.Callback.{Callback}
use Rattle.scx_isa_semantics.specs.Code.{Code, instruction_count}
use Rattle.scx_isa_semantics.specs.Elements.{Maps}
use Rattle.scx_isa_semantics.specs.Machine.{Arguments}
use Rattle.scx_isa_semantics.specs.Effects.{Query}
use Rattle.scx_isa_semantics.specs.Runs.{Runs, graph}
use Rattle.scx_isa_semantics.specs.Endings.{run_of}
use Rattle.scx_isa_semantics.proofs.EndedRuns.{run_is, stuck_is}
use Rattle.scx_vm_tagged.specs.declared.run.Ending.{Ending}
use Rattle.scx_vm_tagged.specs.declared.run.Ending.TheVariants as ran
use Rattle.scx_vm_tagged.specs.Run.{IfDone, IfStuck, GetsStuckAt}
use Rattle.scx_vm_tagged.specs.Outcome.{answer_of}

-- to the end, or to where it is stuck
pub ran_is : {W : Type 0} (answer : W → Query → Value) (after : W → Query → W) (c : Callback) (code : Code) (a : Arguments) (maps : Maps) (w : W) (r : Ending) (maps' : Maps) (w' : W)
    → IfDone r (λ done. Runs (graph answer after) c code a maps w done.r0 done.steps maps' w') → IfDone r (λ done. done.steps ≤ instruction_count code)
    → IfStuck r (λ slot. GetsStuckAt (graph answer after) c code a maps w slot maps' w')
    → record { answer = answer_of r; maps = maps'; outside = w' } ≡ run_of answer after c code a maps w
ran_is answer after c code a maps w (ran.Done d) maps' w' runs bound stuck = run_is answer after c code a maps w d.r0 d.steps maps' w' runs bound
ran_is answer after c code a maps w (ran.Stuck s) maps' w' runs bound stuck = stuck_is answer after c code a maps w s stuck.steps maps' w' stuck.stuck stuck.in_bound
