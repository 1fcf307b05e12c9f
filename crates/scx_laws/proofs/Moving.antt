-- The runs of programs of dispatch, computed from their instructions.
use Rattle.std.proofs.Common.{◌≡◌, ℕ, Bool, true, false, ◌&&◌, if◌then◌else◌, List, [], ◌∷◌, Option, Some, None, is_none, refl, ap, ◌∙◌}
use Rattle.scx_isa_semantics.specs.declared.callbacks.Callback.{Callback}
use Rattle.scx_isa_semantics.specs.declared.callbacks.Callback.TheVariants as callback
use Rattle.scx_isa_semantics.specs.declared.values.Value.TheVariants.{Number}
use Rattle.scx_isa_semantics.specs.Calls.{after_call}
use Rattle.scx_isa_semantics.specs.Code.{Code}
use Rattle.scx_isa_semantics.specs.Elements.{Maps}
use Rattle.scx_isa_semantics.specs.Endings.{Ending, run_within, run_of}
use Rattle.scx_isa_semantics.specs.Machine.{with_register, start}
use Rattle.scx_vm.specs.Arguments.{program_arguments}
use Rattle.scx_vm.specs.Host.{answer_to, after_query}
use Rattle.scx_vm.specs.Programs.{VerifiedProgram}
use Rattle.scx_vm.specs.declared.arguments.Args.{Args}
use Rattle.scx_sched_world.specs.declared.faults.Fault.TheVariants.{NoSuchQueue}
use Rattle.scx_sched_world.specs.World.{WorldState}
use Rattle.scx_sched_world.specs.Tasks.{next_for}
use Rattle.scx_sched_world.specs.Helpers.{invalid, with_fault, one_if_some, can_move, moved_to_local, after_move, move_answer, world_functions}
use Rattle.scx_sched_machine.specs.Callbacks.{call_ending}
use Rattle.scx_laws.specs.Serving.{after_serving, one_queue, two_queues, three_queues, EachServes}

-- the run of such a program as that callback
abbrev pub runs : Callback → Code → Args → Maps → WorldState → Ending WorldState
runs b code a maps w = run_of (answer_to world_functions) (after_query world_functions) b code (program_arguments a) maps w

-- a program is run as the world's callback
pub called : (b : Callback) (code : Code) (p : VerifiedProgram) (a : Args) (maps : Maps) (w : WorldState) → p.code ≡ code → call_ending (Some p) b a maps w ≡ runs b code a maps w
unfolding call_ending
called b code p a maps w e = ap (λ (k : Code). runs b k a maps w) e

-- what a program comes to that answers that number and leaves that world
abbrev pub answers : ℕ → Maps → WorldState → Ending WorldState
answers n maps w = record { answer = Some n; maps = maps; outside = w }

-- dispatch answers 0
abbrev left_with : Maps → WorldState → Ending WorldState
left_with maps w = answers 0 maps w

-- the last queue is served in any case
pub last_served : (w : WorldState) (q : ℕ) → after_move w q ≡ after_serving (q ∷ []) w
last_served w q = go (can_move w q) (next_for w q w.call.cpu)
  where
    go : (b : Bool) (o : Option ℕ) → (if b then moved_to_local w o else with_fault w NoSuchQueue) ≡ (if b && is_none o then w else (if b then moved_to_local w o else with_fault w NoSuchQueue))
    go true None = refl
    go true (Some t) = refl
    go false o = refl

-- a queue is served before others: where that moved no task the others are tried, else that was all
then_served : (from : ℕ → WorldState → Ending WorldState) (maps : Maps) (w : WorldState) (q : ℕ) (qs : List ℕ) → from 0 w ≡ left_with maps (after_serving qs w) → ((v : WorldState) → from 1 v ≡ left_with maps v) → ((v : WorldState) → from invalid v ≡ left_with maps v) → from (move_answer w q) (after_move w q) ≡ left_with maps (after_serving (q ∷ qs) w)
then_served from maps w q qs none one fault = go (can_move w q) (next_for w q w.call.cpu)
  where
    go : (b : Bool) (o : Option ℕ) → from (if b then one_if_some o else invalid) (if b then moved_to_local w o else with_fault w NoSuchQueue) ≡ left_with maps (if b && is_none o then after_serving qs w else (if b then moved_to_local w o else with_fault w NoSuchQueue))
    go true None = none
    go true (Some t) = one (moved_to_local w (Some t))
    go false o = fault (with_fault w NoSuchQueue)

-- ---- one queue

run_one : (a : Args) (maps : Maps) (w : WorldState) → runs callback.Dispatch one_queue a maps w ≡ left_with maps (after_move w 0)
unfolding run_of
run_one a maps w = refl

-- the law
pub one_served : EachServes one_queue (0 ∷ [])
one_served p e a maps w = called callback.Dispatch one_queue p a maps w e ∙ (run_one a maps w ∙ ap (λ v. left_with maps v) (last_served w 0))

-- ---- two queues

-- from the test of the first answer on
abbrev from_answer : Args → Maps → ℕ → WorldState → Ending WorldState
from_answer a maps n w =
    run_within (answer_to world_functions) (after_query world_functions) callback.Dispatch two_queues 5 2
    (after_call (with_register (start (program_arguments a) maps) 1 (Number 0)) (Number n)) w

run_two : (a : Args) (maps : Maps) (w : WorldState) → runs callback.Dispatch two_queues a maps w ≡ from_answer a maps (move_answer w 0) (after_move w 0)
unfolding run_of
run_two a maps w = refl

-- if no task was moved the second queue is tried
from_none : (a : Args) (maps : Maps) (w : WorldState) → from_answer a maps 0 w ≡ left_with maps (after_move w 1)
from_none a maps w = refl

-- the law
pub two_served : EachServes two_queues (0 ∷ 1 ∷ [])
two_served p e a maps w = called callback.Dispatch two_queues p a maps w e ∙ (run_two a maps w ∙ then_served (from_answer a maps) maps w 0 (1 ∷ []) (from_none a maps w ∙ ap (λ v. left_with maps v) (last_served w 1)) (λ v. refl) (λ v. refl))

-- ---- three queues

-- from the test of the first answer on
abbrev from_first : Args → Maps → ℕ → WorldState → Ending WorldState
from_first a maps n w =
    run_within (answer_to world_functions) (after_query world_functions) callback.Dispatch three_queues 8 2
    (after_call (with_register (start (program_arguments a) maps) 1 (Number 0)) (Number n)) w

-- from that of the second one on, where the first was 0
abbrev from_second : Args → Maps → ℕ → WorldState → Ending WorldState
from_second a maps n w =
    run_within (answer_to world_functions) (after_query world_functions) callback.Dispatch three_queues 5 5
    (after_call (with_register (after_call (with_register (start (program_arguments a) maps) 1 (Number 0)) (Number 0)) 1 (Number 1)) (Number n)) w

run_three : (a : Args) (maps : Maps) (w : WorldState) → runs callback.Dispatch three_queues a maps w ≡ from_first a maps (move_answer w 0) (after_move w 0)
unfolding run_of
run_three a maps w = refl

first_none : (a : Args) (maps : Maps) (w : WorldState) → from_first a maps 0 w ≡ from_second a maps (move_answer w 1) (after_move w 1)
first_none a maps w = refl

second_none : (a : Args) (maps : Maps) (w : WorldState) → from_second a maps 0 w ≡ left_with maps (after_move w 2)
second_none a maps w = refl

-- the second queue and the third one
last_two : (a : Args) (maps : Maps) (w : WorldState) → from_second a maps (move_answer w 1) (after_move w 1) ≡ left_with maps (after_serving (1 ∷ 2 ∷ []) w)
last_two a maps w = then_served (from_second a maps) maps w 1 (2 ∷ []) (second_none a maps w ∙ ap (λ v. left_with maps v) (last_served w 2)) (λ v. refl) (λ v. refl)

-- the law
pub three_served : EachServes three_queues (0 ∷ 1 ∷ 2 ∷ [])
three_served p e a maps w = called callback.Dispatch three_queues p a maps w e ∙ (run_three a maps w ∙ then_served (from_first a maps) maps w 0 (1 ∷ 2 ∷ []) (first_none a maps w ∙ last_two a maps w) (λ v. refl) (λ v. refl))
