-- The programs of the policy, read from their texts and run.
use Rattle.std.proofs.Common.{◌≡◌, ℕ, List, [], Some, Result, Ok, Err, refl, sym, ap, ◌∙◌}
use Rattle.scx_isa_semantics.specs.declared.callbacks.Callback.{Callback}
use Rattle.scx_isa_semantics.specs.declared.callbacks.Callback.TheVariants as callback
use Rattle.scx_isa_semantics.specs.Code.{Code}
use Rattle.scx_isa_semantics.specs.Elements.{Maps}
use Rattle.scx_isa_semantics.specs.Endings.{Ending, run_of}
use Rattle.scx_asm_text.specs.Symbols.{first_of}
use Rattle.scx_asm_text.specs.Tokens.{class_length, tokens_from}
use Rattle.scx_asm.specs.FirstPass.{first_pass}
use Rattle.scx_asm.specs.Reading.{second_pass, read_text}
use Rattle.scx_asm.specs.Resolving.{find}
use Rattle.scx_vm.specs.Programs.{VerifiedProgram}
use Rattle.scx_vm.specs.declared.arguments.Args.{Args}
use Rattle.scx_sched_world.specs.World.{WorldState}
use Rattle.scx_sched_world.specs.Helpers.{after_move, after_insert}
use Rattle.scx_sched_world.specs.Inserts.{insert_in_order}
use Rattle.scx_sched_machine.specs.Callbacks.{call_ending, task_and_number}
use Rattle.scx_laws.specs.Texts.{Says}
use Rattle.scx_laws.proofs.Moving.{runs, called as code_called, answers, last_served}
use Rattle.scx_laws_template.specs.Own.{queue, slice, enqueue_text, dispatch_text, TasksAreQueued, QueueIsServed}

-- the instructions of what was read
abbrev read : {E : Type 0} → Result Code E → Code
read (Ok code) = code
read (Err e) = []

-- the run of a program of that text
called : (text : List ℕ) (p : VerifiedProgram) (b : Callback) (a : Args) (maps : Maps) (w : WorldState) → Says text p.code → call_ending (Some p) b a maps w ≡ runs b (read (read_text text)) a maps w
called text p b a maps w said = code_called b p.code p a maps w refl ∙ ap (λ (k : Code). runs b k a maps w) (sym (ap read said))

-- ---- enqueue

run_enqueue : (t flags : ℕ) (maps : Maps) (w : WorldState) → (runs callback.Enqueue (read (read_text enqueue_text)) (task_and_number t flags) maps w).outside ≡ after_insert w (Some t) (insert_in_order w queue slice flags) flags
unfolding run_of first_pass second_pass find tokens_from first_of class_length
run_enqueue t flags maps w = refl

pub tasks_queued : TasksAreQueued
tasks_queued p t flags maps w said =
    ap (λ (e : Ending WorldState). e.outside) (called enqueue_text p callback.Enqueue (task_and_number t flags) maps w said) ∙ run_enqueue t flags maps w

-- ---- dispatch

run_dispatch : (a : Args) (maps : Maps) (w : WorldState) → runs callback.Dispatch (read (read_text dispatch_text)) a maps w ≡ answers 0 maps (after_move w queue)
unfolding run_of first_pass second_pass find tokens_from first_of class_length
run_dispatch a maps w = refl

pub queue_served : QueueIsServed
queue_served p said a maps w =
    called dispatch_text p callback.Dispatch a maps w said ∙ (run_dispatch a maps w ∙ ap (λ v. answers 0 maps v) (last_served w queue))
