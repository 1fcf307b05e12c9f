-- What a run of a verified program comes to, by what the machine of the definitions says of it.
use Rattle.std.proofs.Common.{◌≡◌, ℕ, ◌≤◌, Some, None, subst}
use Rattle.scx_isa_semantics.specs.Code.{Code, instruction_count}
use Rattle.scx_isa_semantics.specs.Elements.{Maps}
use Rattle.scx_isa_semantics.specs.Machine.{Arguments, start}
use Rattle.scx_isa_semantics.specs.Arguments.{FitsCallback}
use Rattle.scx_isa_semantics.specs.Runs.{Runs}
use Rattle.scx_maps.specs.Contents.{HasShapes}
use Rattle.scx_vm.specs.declared.arguments.Args.{Args}
use Rattle.scx_vm.specs.declared.context.Context.{Context}
use Rattle.scx_vm.specs.Arguments.{program_arguments}
use Rattle.scx_vm.specs.Host.{host, answer_to, after_query}
use Rattle.scx_vm.specs.Programs.{VerifiedProgram}
use Rattle.scx_vm.specs.Safe.{IsSafe}
use Rattle.scx_verify.proofs.Following.{all_lead}
use Rattle.scx_verify.proofs.Underway.{graph_fits}
use Rattle.scx_vm_tagged.specs.declared.run.Ending.{Ending}
use Rattle.scx_vm_tagged.specs.declared.run.Ending.TheVariants as ran
use Rattle.scx_vm_tagged.specs.Outcome.{answer_of}
use Rattle.scx_vm_tagged.specs.Run.{IfDone, IfStuck, GetsStuckAt}
use Rattle.scx_sched_world.specs.World.{WorldState}
use Rattle.scx_sched_world.specs.Helpers.{world_functions}
use Rattle.scx_vm_tagged.specs.Watched.{EndsAt}
use Rattle.scx_sched_machine.specs.Callbacks.{IsAnswered}
use Rattle.scx_sched_machine.specs.Steps.{CallMade}
use Rattle.scx_sched.specs.Causes.{EndsIn}

-- it is never stuck
pub is_not_stuck : (c : Context) (code : Code) (a : Arguments) (maps : Maps) (w : WorldState) (r : Ending) (maps' : Maps) (w' : WorldState) → IsSafe c code → HasShapes c.defs maps → FitsCallback c.callback a
    → IfStuck r (λ slot. GetsStuckAt (host world_functions) c.callback code a maps w slot maps' w') → IfStuck r (λ slot. ⊥)
is_not_stuck c code a maps w (ran.Done d) maps' w' safe shaped fits h = tt
is_not_stuck c code a maps w (ran.Stuck slot) maps' w' safe shaped fits h =
    safe.never_stuck a maps shaped fits h.steps slot h.stuck.state
    (all_lead _ (graph_fits (answer_to world_functions) (after_query world_functions)) c.callback code h.steps 0 (start a maps) w slot h.stuck.state w' h.stuck.leads) h.stuck.stuck

-- its maps keep their shapes
pub keeps_shapes : (c : Context) (code : Code) (a : Arguments) (maps : Maps) (w : WorldState) (r : Ending) (n : ℕ) (maps' : Maps) (w' : WorldState) → IsSafe c code → HasShapes c.defs maps → FitsCallback c.callback a
    → answer_of r ≡ Some n → IfDone r (λ done. Runs (host world_functions) c.callback code a maps w done.r0 done.steps maps' w') → HasShapes c.defs maps'
keeps_shapes c code a maps w (ran.Stuck slot) n maps' w' safe shaped fits e h = let bad : None ≡ Some n = e in absurd (cc)
keeps_shapes c code a maps w (ran.Done d) n maps' w' safe shaped fits e h =
    rw h.left (safe.keeps_shapes a maps shaped fits h.before h.slot h.state
    (all_lead _ (graph_fits (answer_to world_functions) (after_query world_functions)) c.callback code h.before 0 (start a maps) w h.slot h.state w' h.leads))

-- it comes to an answer
pub is_answered : (p : VerifiedProgram) (a : Args) (maps : Maps) (w : WorldState) (r : Ending) (n : ℕ) (maps' : Maps) (w' : WorldState) → answer_of r ≡ Some n
    → IfDone r (λ done. Runs (host world_functions) p.context.callback p.code (program_arguments a) maps w done.r0 done.steps maps' w') → IfDone r (λ done. done.steps ≤ instruction_count p.code)
    → IsAnswered (record { callback = p.context.callback; program = p; arguments = a; maps = maps; world = w })
is_answered p a maps w (ran.Stuck slot) n maps' w' e h bound = let bad : None ≡ Some n = e in absurd (cc)
is_answered p a maps w (ran.Done d) n maps' w' e h bound = record { answer = d.r0; steps = d.steps; maps = maps'; world = w'; run = h; in_bound = bound }

same_answer : (k n : ℕ) → Some k ≡ Some n → k ≡ n
same_answer k n e = cc

-- it ends with that answer in that world
pub ends_in : (p : VerifiedProgram) (a : Args) (maps : Maps) (w : WorldState) (r : Ending) (n : ℕ) (maps' : Maps) (w' : WorldState) → answer_of r ≡ Some n
    → IfDone r (λ done. Runs (host world_functions) p.context.callback p.code (program_arguments a) maps w done.r0 done.steps maps' w') → IfDone r (λ done. done.steps ≤ instruction_count p.code)
    → EndsIn (record { callback = p.context.callback; program = p; arguments = a; maps = maps; world = w }) n w'
ends_in p a maps w (ran.Stuck slot) n maps' w' e h bound = let bad : None ≡ Some n = e in absurd (cc)
ends_in p a maps w (ran.Done d) n maps' w' e h bound =
    let m : CallMade = record { callback = p.context.callback; program = p; arguments = a; maps = maps; world = w } in
    let To : ℕ → Type 0 = λ k. EndsIn m k w' in
    subst To (same_answer d.r0 n e) (record { steps = d.steps; maps = maps'; run = h; in_bound = bound })

-- and at that slot
pub ends_at : (p : VerifiedProgram) (a : Arguments) (maps : Maps) (w : WorldState) (r : Ending) (n : ℕ) (w' : WorldState) (slot : ℕ) → answer_of r ≡ Some n
    → IfDone r (λ done. EndsAt (host world_functions) p.context.callback p.code a maps w done.r0 w' slot) → EndsAt (host world_functions) p.context.callback p.code a maps w n w' slot
ends_at p a maps w (ran.Stuck s) n w' slot e h = let bad : None ≡ Some n = e in absurd (cc)
ends_at p a maps w (ran.Done d) n w' slot e h =
    let To : ℕ → Type 0 = λ k. EndsAt (host world_functions) p.context.callback p.code a maps w k w' slot in
    subst To (same_answer d.r0 n e) h
