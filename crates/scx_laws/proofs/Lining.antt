-- The runs of programs of init and enqueue, computed from their instructions.
use Rattle.std.proofs.Common.{◌≡◌, ℕ, Bool, true, false, ◌==◌, if◌then◌else◌, Option, Some, None, refl, ◌∙◌}
use Rattle.scx_isa_semantics.specs.declared.callbacks.Callback.TheVariants as callback
use Rattle.scx_isa_semantics.specs.declared.values.Value.TheVariants as value
use Rattle.scx_isa_semantics.specs.declared.values.Pointer.TheVariants as pointer
use Rattle.scx_isa_semantics.specs.Calls.{after_call}
use Rattle.scx_isa_semantics.specs.Elements.{Maps}
use Rattle.scx_isa_semantics.specs.Endings.{Ending, run_within, run_of}
use Rattle.scx_isa_semantics.specs.Machine.{with_register, start}
use Rattle.scx_vm.specs.Arguments.{program_arguments}
use Rattle.scx_vm.specs.Host.{answer_to, after_query}
use Rattle.scx_vm.specs.declared.arguments.Args.{Args}
use Rattle.scx_dsq.specs.Laws.{one_if}
use Rattle.scx_sched_world.specs.declared.faults.Fault.{Fault}
use Rattle.scx_sched_world.specs.World.{WorldState}
use Rattle.scx_sched_world.specs.Helpers.{invalid, after_create_dsq, create_answer, after_insert, choice_answer, after_choice, ask_fault, unless_fault, seems_idle, idle_answer, after_idle, world_functions}
use Rattle.scx_sched_machine.specs.Callbacks.{task_cpu_and_0, task_and_number}
use Rattle.scx_laws.proofs.Moving.{runs, called, answers}
use Rattle.scx_laws.specs.Lines.{to_line, to_idle, one_line, line_with, to_idle_with, EachCreates, EachLinesUp, EachChooses}

run_init : (a : Args) (maps : Maps) (w : WorldState) → runs callback.Init one_line a maps w ≡ answers (create_answer w 0) maps (after_create_dsq w 0)
unfolding run_of
run_init a maps w = refl

-- init of one line
pub line_created : EachCreates one_line
line_created p e a maps w = called callback.Init one_line p a maps w e ∙ run_init a maps w

-- enqueue comes to that with a slice
abbrev RunsInLine : ℕ → Type 0
RunsInLine slice =
    (t flags : ℕ) (maps : Maps) (w : WorldState)
    → runs callback.Enqueue (line_with slice) (task_and_number t flags) maps w ≡ answers 0 maps (after_insert w (Some t) (to_line slice w flags) flags)

lined_up : (slice : ℕ) → RunsInLine slice → EachLinesUp (line_with slice) slice
lined_up slice run p e t flags maps w = called callback.Enqueue (line_with slice) p (task_and_number t flags) maps w e ∙ run t flags maps w

-- that of `short_slices`
pub short_lined : EachLinesUp (line_with 2000000) 2000000
unfolding run_of
short_lined = lined_up 2000000 (λ t flags maps w. refl)

-- that of `fifo`
pub long_lined : EachLinesUp (line_with 20000000) 20000000
unfolding run_of
long_lined = lined_up 20000000 (λ t flags maps w. refl)

-- ---- select_cpu

-- from the test of the second answer on, where the host chose that processor
abbrev from_answer : ℕ → ℕ → ℕ → ℕ → Maps → WorldState → Ending WorldState
from_answer t c d n maps w =
    let begun = with_register (start (program_arguments (task_cpu_and_0 t c)) maps) 6 (value.Pointer (pointer.Task (record { 0 = t }))) in
    let chosen = with_register (with_register (after_call begun (value.Number d)) 7 (value.Number d)) 1 (value.Number d) in
    run_within (answer_to world_functions) (after_query world_functions) callback.SelectCpu (to_idle_with 20000000) 9 5 (after_call chosen (value.Number n)) w

run_choice : (t c : ℕ) (maps : Maps) (w : WorldState)
    → runs callback.SelectCpu (to_idle_with 20000000) (task_cpu_and_0 t c) maps w
    ≡ from_answer t c (choice_answer w (Some t)) (idle_answer (after_choice w (Some t)) (choice_answer w (Some t))) maps (after_idle (after_choice w (Some t)) (choice_answer w (Some t)))
unfolding run_of
run_choice t c maps w = refl

-- a processor that isn't idle gets no task
from_busy : (t c d : ℕ) (maps : Maps) (w : WorldState) → from_answer t c d 0 maps w ≡ answers d maps w
from_busy t c d maps w = refl

-- one that is does, and one that isn't there too, with a fault
from_idle : (t c d : ℕ) (maps : Maps) (w : WorldState) → from_answer t c d 1 maps w ≡ answers d maps (after_insert w (Some t) (to_idle 20000000 w) 0)
from_idle t c d maps w = refl

from_fault : (t c d : ℕ) (maps : Maps) (w : WorldState) → from_answer t c d invalid maps w ≡ answers d maps (after_insert w (Some t) (to_idle 20000000 w) 0)
from_fault t c d maps w = refl

-- select_cpu of `simple`
pub idle_chosen : EachChooses (to_idle_with 20000000) 20000000
idle_chosen p e t c maps w = called callback.SelectCpu (to_idle_with 20000000) p (task_cpu_and_0 t c) maps w e ∙ (run_choice t c maps w ∙ go (ask_fault v d) (seems_idle v d))
  where
    d : ℕ
    d = choice_answer w (Some t)

    v : WorldState
    v = after_choice w (Some t)

    u : WorldState
    u = after_idle v d

    go : (o : Option Fault) (b : Bool) → from_answer t c d (unless_fault o (one_if b)) maps u ≡ answers d maps (if unless_fault o (one_if b) == 0 then u else after_insert u (Some t) (to_idle 20000000 u) 0)
    go None true = from_idle t c d maps u
    go None false = from_busy t c d maps u
    go (Some f) b = from_fault t c d maps u
