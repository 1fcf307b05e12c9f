-- A run that loads nothing of what ticks count doesn't depend on it.
use Rattle.std.proofs.Common.{◌≡◌, ℕ, zero, suc, true, false, cond, List, map, Option, Some, None, refl, ap, ◌∙◌, sym, subst}
use Rattle.scx_isa_semantics.specs.declared.callbacks.Callback.{Callback}
use Rattle.scx_isa_semantics.specs.declared.host_tables.Field.{Field}
use Rattle.scx_isa_semantics.specs.declared.host_tables.Field.TheVariants.{Pid, Weight, Slice, DsqVtime, PrevCpu, Group, RunNs, Cpus}
use Rattle.scx_isa_semantics.specs.declared.host_tables.Helper.{Helper}
use Rattle.scx_isa_semantics.specs.declared.host_tables.Helper.TheVariants.{DsqInsert, DsqInsertVtime}
use Rattle.scx_isa_semantics.specs.declared.host_tables.TaskId.{TaskId}
use Rattle.scx_isa_semantics.specs.declared.instructions.Insn.{Insn}
use Rattle.scx_isa_semantics.specs.declared.instructions.Insn.TheVariants as insn
use Rattle.scx_isa_semantics.specs.declared.values.Value.{Value}
use Rattle.scx_isa_semantics.specs.declared.values.Value.TheVariants.{Number}
use Rattle.scx_isa_semantics.specs.Code.{Code, at, instruction_count}
use Rattle.scx_isa_semantics.specs.Effects.{Query, Call, Load, Store}
use Rattle.scx_isa_semantics.specs.Elements.{Maps}
use Rattle.scx_isa_semantics.specs.Endings.{Ending, ending_of, run_within, run_of}
use Rattle.scx_isa_semantics.specs.Machine.{Machine, Arguments, start}
use Rattle.scx_isa_semantics.specs.Steps.{Outcome, Stuck, Goes, Asks, Ends, step}
use Rattle.scx_vm.specs.Arguments.{argument_of, answer_value}
use Rattle.scx_vm.specs.declared.arguments.Arg.{Arg}
use Rattle.scx_vm.specs.Host.{answer_to, after_query}
use Rattle.scx_weights.specs.Hierarchy.{own_weight}
use Rattle.scx_sched_world.specs.World.{WorldState, is_by_linux}
use Rattle.scx_sched_world.specs.Helpers.{field_of, stored_in, world_functions}
use Rattle.scx_explore_findings.specs.Asked.{StepAnyhow, AnyhowWithin, AsksAnyhow}
use Rattle.scx_explore_findings.specs.Counted.{is_counted, without_counts, LoadsNoCount, SuchProgramsLoadNoCount}
use Rattle.scx_explore_states.proofs.Queries.{MayAskAt}
use Rattle.scx_explore_findings.specs.Unread.{is_some_field, loads_some}
use Rattle.scx_explore_findings.proofs.Helpers.{helper_same, hides_helper, GivenBy}
use Rattle.scx_explore_findings.proofs.Runs.{asks_by_code}
use Rattle.scx_explore_findings.proofs.CountedRecords.{keeps_store}
use Rattle.scx_explore_findings.proofs.CountedWorlds.{Same, Leaves, plain, across, read, prev_same, weight_same, group_same, set_task, records, AnyGiven, leaving}

-- ---- queries

yes_no : true ≡ false → ⊥
yes_no e = absurd (cc)

field_same : (f : Field) (t : TaskId) (w : WorldState) → is_counted f ≡ false → field_of w t.0 f ≡ field_of (without_counts w) t.0 f
field_same Pid t w e = refl
field_same Weight t w e = ap (λ (n : ℕ). cond (is_by_linux w) (own_weight w.tree t.0) n) (weight_same w t.0)
field_same Slice t w e = absurd (yes_no e)
field_same DsqVtime t w e = read (λ x. x.vtime) (λ x. refl) w t.0
field_same PrevCpu t w e = prev_same w t.0
field_same Group t w e = group_same w t.0
field_same Cpus t w e = refl
field_same RunNs t w e = absurd (yes_no e)

-- what a query is answered that loads nothing that ticks count
answer_same : (q : Query) (w : WorldState) → LoadsNoCount q → answer_to world_functions w q ≡ answer_to world_functions (without_counts w) q
answer_same (Call f a) w e = ap answer_value (helper_same records AnyGiven leaving f (map argument_of a) w)
answer_same (Load t f) w e = ap Number (field_same f t w e)
answer_same (Store t f n) w e = refl

any_given : (f : Helper) (a : List Arg) → GivenBy AnyGiven f a
any_given DsqInsert a = tt
any_given DsqInsertVtime a = tt
any_given f a = tt

-- and what it makes of the world
queries : (q : Query) → Leaves (λ w. after_query world_functions w q)
queries (Call f a) w = hides_helper records AnyGiven leaving f (map argument_of a) (any_given f (map argument_of a)) w
queries (Load t f) w = plain w
queries (Store t f n) w = set_task (λ x. stored_in x f n) (keeps_store f n) w t.0

-- ---- programs

counts_by_code : (c : Callback) (o : Option Insn) → loads_some is_counted o ≡ false → MayAskAt LoadsNoCount (λ t f n. tt) c o
counts_by_code c None e = tt
counts_by_code c (Some (insn.Load a d b offset)) e = λ t f is. subst (λ (x : Option Field). is_some_field is_counted x ≡ false) is e
counts_by_code c (Some (insn.Call k)) e = (λ f v is free. tt, λ f is free. tt)
counts_by_code c (Some i) e = tt

-- a program with no load of such a field loads none
pub such_programs_load_no_count : SuchProgramsLoadNoCount
such_programs_load_no_count c code none n a maps = asks_by_code LoadsNoCount (λ t f k. tt) c code (λ slot. counts_by_code c (at code slot) (none slot)) n 0 (start a maps)

-- ---- runs

abbrev ended : Option ℕ → Machine → WorldState → Ending WorldState
ended n m w = record { answer = n; maps = m.maps; outside = w }

abbrev answer : WorldState → Query → Value
answer w q = answer_to world_functions w q

abbrev left : WorldState → Query → WorldState
left w q = after_query world_functions w q

abbrev ran : Callback → Code → ℕ → ℕ → Machine → WorldState → Ending WorldState
ran c code n s m w = run_within (answer_to world_functions) (after_query world_functions) c code n s m w

abbrev goes_on : Callback → Code → ℕ → Outcome → Machine → WorldState → Ending WorldState
goes_on c code n o m w = ending_of (answer_to world_functions) (after_query world_functions) (λ t k v. ran c code n t k v) o m w

-- how a run ends, without what ticks count
abbrev pub uncounted_ending : Ending WorldState → Ending WorldState
uncounted_ending e = record e { outside = without_counts e.outside }

answers_alike : (v w : WorldState) → Same v w → (q : Query) → LoadsNoCount q → answer v q ≡ answer w q
answers_alike v w same q k = answer_same q v k ∙ ap (λ (x : WorldState). answer x q) same ∙ sym (answer_same q w k)

run_same : (c : Callback) (code : Code) (n s : ℕ) (m : Machine) (v w : WorldState) → Same v w → AnyhowWithin LoadsNoCount c code n s m → uncounted_ending (ran c code n s m v) ≡ uncounted_ending (ran c code n s m w)
run_same c code zero s m v w same none = ap (λ (x : WorldState). ended None m x) same
run_same c code (suc n) s m v w same none = go (step c code s m) none (λ t k x y e a. run_same c code n t k x y e a)
  where
    go : (o : Outcome) → StepAnyhow LoadsNoCount (AnyhowWithin LoadsNoCount c code n) o
        → ((t : ℕ) (k : Machine) (x y : WorldState) → Same x y → AnyhowWithin LoadsNoCount c code n t k → uncounted_ending (ran c code n t k x) ≡ uncounted_ending (ran c code n t k y))
        → uncounted_ending (goes_on c code n o m v) ≡ uncounted_ending (goes_on c code n o m w)
    go Stuck a more = ap (λ (x : WorldState). ended None m x) same
    go (Goes t k) a more = more t k v w same a
    go (Asks q t on) a more =
        more t (on (answer v q)) (left v q) (left w q) (across (λ (x : WorldState). left x q) (queries q) v w same) (a.1 (answer v q))
        ∙ ap (λ (x : Value). uncounted_ending (ran c code n t (on x) (left w q))) (answers_alike v w same q a.0)
    go (Ends x) a more = ap (λ (u : WorldState). ended (Some x) m u) same

-- a program that loads nothing of it ends alike in both worlds
pub program_same : (c : Callback) (code : Code) → AsksAnyhow LoadsNoCount c code → (a : Arguments) (maps : Maps) (v w : WorldState) → Same v w
    → uncounted_ending (run_of (answer_to world_functions) (after_query world_functions) c code a maps v) ≡ uncounted_ending (run_of (answer_to world_functions) (after_query world_functions) c code a maps w)
unfolding run_of
program_same c code none a maps v w same = run_same c code (suc (instruction_count code)) 0 (start a maps) v w same (none (suc (instruction_count code)) a maps)
