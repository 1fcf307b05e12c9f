-- A form that is computed keeps what a policy's programs ask in their runs.
use Rattle.std.proofs.Common.{◌≡◌, ℕ, zero, suc, ◌<◌, ◌||◌, ◌&&◌, Bool, true, false, not, List, [], ◌∷◌, length, get_or, Option, Some, None, refl, sym, subst, arith, inl, inr}
use Rattle.std.specs.List.{AllByRecursion}
use Rattle.scx_isa_semantics.specs.declared.callbacks.Callback.{Callback}
use Rattle.scx_isa_semantics.specs.declared.callbacks.Callback.TheVariants as callback
use Rattle.scx_isa_semantics.specs.declared.host_tables.Field.{Field}
use Rattle.scx_isa_semantics.specs.declared.host_tables.Field.TheVariants.{Slice, DsqVtime, RunNs}
use Rattle.scx_isa_semantics.specs.declared.instructions.Insn.{Insn}
use Rattle.scx_isa_semantics.specs.declared.instructions.Insn.TheVariants as insn
use Rattle.scx_isa_semantics.specs.Callbacks.{at, callbacks}
use Rattle.scx_isa_semantics.specs.Arithmetic.{at_distance}
use Rattle.scx_isa_semantics.specs.Code as codes
use Rattle.scx_isa_semantics.specs.Code.{Code}
use Rattle.scx_isa_semantics.specs.Effects.{Query, Call, Load, Store}
use Rattle.scx_isa_semantics.specs.HostTables.{field_at}
use Rattle.scx_isa_semantics.specs.Memory.{access_size, size_bytes}
use Rattle.scx_vm.specs.declared.context.Context.{Context}
use Rattle.scx_vm.specs.Programs.{VerifiedProgram}
use Rattle.scx_sched_policy.specs.Policy.{PolicyState, program_of}
use Rattle.scx_sched_world.specs.World.{WorldState, are_linux}
use Rattle.scx_load_policies.specs.Building.{IsBuilt, IsIn, IsAccepted, code_of, context_of}
use Rattle.scx_load_policies.specs.Policies.{PolicyFile}
use Rattle.scx_weights.specs.Limits.{has_quota}
use Rattle.scx_explore_states.specs.Asking.{LoadsNo, GivesOne, is_early}
use Rattle.scx_explore_states.specs.Written.{needs_slices}
use Rattle.scx_explore_findings.specs.Asked.{IfAsksOnly, AskOnly, IfAsksAnyhow}
use Rattle.scx_explore_findings.specs.Counted.{is_counted, LoadsNoCount}
use Rattle.scx_explore_findings.specs.IdleSlices.{LoadsItsOwn, IfLoadsItsOwn, TellNoIdleSlices}
use Rattle.scx_explore_findings.specs.Unread.{is_some_field, loads_some, ReadsNone}
use Rattle.scx_explore_findings.proofs.CountedRuns.{such_programs_load_no_count}
use Rattle.scx_explore_bounds.specs.declared.uses.Uses.{Uses}
use Rattle.scx_explore_bounds.specs.Forms.{tells_idle_slices, form_of, no_uses, DoAll}
use Rattle.scx_explore_bounds.specs.Told.{DoesNoMore, IfDoesNoMore}
use Rattle.scx_explore_bounds.specs.Uses.{is_field, is_any_load}
use Rattle.scx_explore_bounds.proofs.Done.{left_none, right_none, uses_tell_runs}
use Rattle.scx_explore_audit.specs.Computed.{IfNoMore, DoNoMore, left_out_by, ComputedFormsAreWholeInRuns, ProgramsLoadNoCount}
use Rattle.scx_explore_audit.proofs.Computed.{apart, computed_by}
use Rattle.scx_explore_audit.proofs.NoOtherTasks.{such_runs_ask_for_none}

-- ---- each program of a policy

each : (P : Callback → Type 0) (bs : List Callback) → AllByRecursion P bs → (k : ℕ) (d : Callback) → k < length bs → P (get_or bs k d)
each P [] all k d l = absurd (omega (arith, l))
each P (b ∷ bs) all zero d l = all.0
each P (b ∷ bs) all (suc k) d l = each P bs all.1 k d (omega (arith, l))

at_each : (P : Callback → Type 0) → P callback.Plain → AllByRecursion P callbacks → (b : Callback) → P b
at_each P plain all callback.Plain = plain
at_each P plain all callback.Init = each P callbacks all 0 callback.Plain (omega arith)
at_each P plain all callback.Enable = each P callbacks all 1 callback.Plain (omega arith)
at_each P plain all callback.SelectCpu = each P callbacks all 2 callback.Plain (omega arith)
at_each P plain all callback.Enqueue = each P callbacks all 3 callback.Plain (omega arith)
at_each P plain all callback.Dispatch = each P callbacks all 4 callback.Plain (omega arith)
at_each P plain all callback.Running = each P callbacks all 5 callback.Plain (omega arith)
at_each P plain all callback.Stopping = each P callbacks all 6 callback.Plain (omega arith)
at_each P plain all callback.Tick = each P callbacks all 7 callback.Plain (omega arith)
at_each P plain all callback.Dequeue = each P callbacks all 8 callback.Plain (omega arith)
at_each P plain all callback.Runnable = each P callbacks all 9 callback.Plain (omega arith)
at_each P plain all callback.Quiescent = each P callbacks all 10 callback.Plain (omega arith)
at_each P plain all callback.UpdateIdle = each P callbacks all 11 callback.Plain (omega arith)
at_each P plain all callback.SetWeight = each P callbacks all 12 callback.Plain (omega arith)
at_each P plain all callback.Timer = each P callbacks all 13 callback.Plain (omega arith)

code_is : (x y : Code) → Some x ≡ Some y → x ≡ y
code_is x y e = cc

-- no program of a policy that is built of a file does more than the file's
do_no_more : (file : PolicyFile) (p : PolicyState) (u : Uses) → IsBuilt file p → DoAll file.rules file.shapes file.programs callbacks no_uses u → DoNoMore u p
do_no_more file p u built done b =
    go (program_of p b) (at file.programs b) (built.programs b) (built.contexts b) (built.accepted b)
    (at_each (λ x. IfDoesNoMore u (context_of file x) (at file.programs x)) tt (uses_tell_runs file.rules file.shapes file.programs u done) b)
  where
    go : (o : Option VerifiedProgram) (x : Option Code) → code_of o ≡ x → IsIn (context_of file b) o → IsAccepted (context_of file b) x → IfDoesNoMore u (context_of file b) x → IfNoMore u o
    go None x e i a d = tt
    go (Some q) None e i a d = absurd (cc)
    go (Some q) (Some code) e i a d =
        subst (λ (k : Context). DoesNoMore u k q.code) (sym i) (subst (λ (y : Code). DoesNoMore u (context_of file b) y) (sym (code_is q.code code e)) (d a))

-- ---- queries

none_of_both : (a : Bool) → (a ≡ false → true ≡ false) → not a ≡ false
none_of_both true k = refl
none_of_both false k = k refl

reads_none : (u : Uses) (waits : Bool) (q : Query) → (u.run_ns ≡ false → LoadsNo RunNs q) → (u.vtime ≡ false → LoadsNo DsqVtime q) → ReadsNone (left_out_by (form_of u waits)) q
reads_none u waits (Load t RunNs) x y = none_of_both u.run_ns x
reads_none u waits (Load t DsqVtime) x y = none_of_both u.vtime y
reads_none u waits (Load t f) x y = refl
reads_none u waits (Call f a) x y = tt
reads_none u waits (Store t f n) x y = tt

-- ---- programs

unread : (u : Uses) (waits : Bool) (b : Callback) (o : Option VerifiedProgram) → IfNoMore u o → IfAsksOnly (ReadsNone (left_out_by (form_of u waits))) b o
unread u waits b None d = tt
unread u waits b (Some q) d = λ is args maps steps slot m shaped fits leads query next on asks.
    reads_none u waits query (λ e. d.run_ns e args maps steps slot m shaped fits leads query next on asks) (λ e. d.vtime e args maps steps slot m shaped fits leads query next on asks)

pub none_right : (a b : Bool) → a ≡ true → (a && b) ≡ false → b ≡ false
none_right true b e k = k
none_right false b e k = absurd (apart e)

gives : (u : Uses) (b : Callback) → u.empty_slice ≡ false → (o : Option VerifiedProgram) → IfNoMore u o → IfAsksOnly GivesOne b o
gives u b given None d = tt
gives u b given (Some q) d = λ is. d.empty_slice given

-- what programs do, where none tells a slice of a task that sleeps or is held
record TellsNoneIdle (u : Uses) : Type 0 where
  given : u.empty_slice ≡ false
  early : u.early_slice ≡ false
  by_pid : u.slice ≡ true → u.task_by_pid ≡ false
  others : u.slice ≡ true → u.other_task ≡ false

tells_none_idle : (u : Uses) → tells_idle_slices u ≡ false → TellsNoneIdle u
tells_none_idle u none =
    let asks : Bool = u.task_by_pid || u.other_task in
    let rest = right_none u.empty_slice (u.early_slice || (u.slice && asks)) none in
    let asks_none : u.slice ≡ true → asks ≡ false = λ loads. none_right u.slice asks loads (right_none u.early_slice (u.slice && asks) rest) in
    record {
      given = left_none u.empty_slice (u.early_slice || (u.slice && asks)) none;
      early = left_none u.early_slice (u.slice && asks) rest;
      by_pid = λ loads. left_none u.task_by_pid u.other_task (asks_none loads);
      others = λ loads. right_none u.task_by_pid u.other_task (asks_none loads);
    }

-- so each program loads the slice of its own task at most
loads_own : (u : Uses) (b : Callback) → TellsNoneIdle u → (o : Option VerifiedProgram) → IfNoMore u o → IfLoadsItsOwn b o
loads_own u b none None d = tt
loads_own u b none (Some q) d = λ is. go u.slice (is_early q.context.callback true) refl refl
  where
    go : (x y : Bool) → u.slice ≡ x → is_early q.context.callback true ≡ y → LoadsItsOwn q.context q.code
    go false y loads early = inl (d.slice loads)
    go true true loads early = inl (d.early_slice none.early early)
    go true false loads early = inr (early, such_runs_ask_for_none q.context q.code (d.task_by_pid (none.by_pid loads)) (d.other_task (none.others loads)))

pub computed_forms_are_whole_in_runs : ComputedFormsAreWholeInRuns
computed_forms_are_whole_in_runs file p u waits words built done =
    let none : DoNoMore u p = do_no_more file p u built done in
    computed_by AskOnly TellNoIdleSlices p u waits words none (λ b. unread u waits b (program_of p b) (none b))
    (λ e. let tells = tells_none_idle u e in record {
      given = λ b. gives u b tells.given (program_of p b) (none b);
      loads = λ b. loads_own u b tells (program_of p b) (none b);
    })

-- ---- slices and run times

-- a world whose states need no slices goes by plain rules
pub goes_plainly : (w : WorldState) → needs_slices w ≡ false → are_linux w.rules ≡ false
goes_plainly w = left_none (are_linux w.rules) (has_quota w.tree.groups)

-- and has no quota
pub has_no_quota : (w : WorldState) → needs_slices w ≡ false → has_quota w.tree.groups ≡ false
has_no_quota w = right_none (are_linux w.rules) (has_quota w.tree.groups)

-- a field at neither offset isn't one that ticks count
no_count : (o : Option Field) → is_field Slice o ≡ false → is_field RunNs o ≡ false → is_some_field is_counted o ≡ false
no_count None slice run_ns = refl
no_count (Some Slice) slice run_ns = absurd (apart (sym slice))
no_count (Some RunNs) slice run_ns = absurd (apart (sym run_ns))
no_count (Some f) slice run_ns = refl

-- so no such instruction loads one
none_counted : (o : Option Insn) → is_any_load Slice o ≡ false → is_any_load RunNs o ≡ false → loads_some is_counted o ≡ false
none_counted None slice run_ns = refl
none_counted (Some (insn.Load a d b offset)) slice run_ns = no_count (field_at (size_bytes (access_size a)) (at_distance 0 offset)) slice run_ns
none_counted (Some i) slice run_ns = refl

pub programs_load_no_count : ProgramsLoadNoCount
programs_load_no_count file p u built done none b = go (program_of p b) (do_no_more file p u built done b)
  where
    go : (o : Option VerifiedProgram) → IfNoMore u o → IfAsksAnyhow LoadsNoCount b o
    go None d = tt
    go (Some q) d = such_programs_load_no_count b q.code (λ slot. none_counted (codes.at q.code slot) ((d.has_count_load none).0 slot) ((d.has_count_load none).1 slot))
