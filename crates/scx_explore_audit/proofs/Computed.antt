-- A form that is computed keeps what programs can tell by their calls.
use Rattle.std.proofs.Common.{◌≡◌, Bool, true, false, not, Option, Some, None, ◌⊎◌, inl, inr, refl, sym, ◌∙◌}
use Rattle.scx_isa_semantics.specs.declared.host_tables.Helper.{Helper}
use Rattle.scx_isa_semantics.specs.declared.host_tables.Helper.TheVariants.{KtimeGetNs, DsqInsertVtime, PrandomU32, OnMap}
use Rattle.scx_isa_semantics.specs.declared.host_tables.MapHelper.{MapHelper}
use Rattle.scx_isa_semantics.specs.declared.host_tables.MapHelper.TheVariants as on_map
use Rattle.scx_isa_semantics.specs.declared.instructions.Insn.{Insn}
use Rattle.scx_isa_semantics.specs.declared.instructions.Insn.TheVariants.{Call}
use Rattle.scx_isa_semantics.specs.Code.{at}
use Rattle.scx_isa_semantics.specs.HostTables.{helper_at}
use Rattle.scx_vm.specs.Programs.{VerifiedProgram}
use Rattle.scx_sched_policy.specs.Policy.{PolicyState, program_of}
use Rattle.scx_explore_findings.specs.Delayed.{is_clock, reads_clock, IsClockless}
use Rattle.scx_explore_findings.specs.FifoOnly.{is_by_vtime, inserts_by_vtime, InsertsInOrder}
use Rattle.scx_explore_findings.specs.WholeForms.{is_random, draws, DrawsNone, IsWholeBy}
use Rattle.scx_explore_findings.specs.Asked.{AskAnyhow}
use Rattle.scx_explore_findings.specs.IdleSlices.{TellNoSlices}
use Rattle.scx_explore_findings.specs.Unread.{ReadsNone}
use Rattle.scx_explore_states.specs.declared.map_words.MapWords.{MapWords}
use Rattle.scx_explore_states.specs.declared.map_words.MapWords.TheVariants.{Whole}
use Rattle.scx_isa_semantics.specs.Effects.{Query}
use Rattle.scx_explore_bounds.specs.declared.uses.Uses.{Uses}
use Rattle.scx_explore_bounds.specs.Forms.{tells_idle_slices, form_of}
use Rattle.scx_explore_bounds.specs.Uses.{is_helper, is_call}
use Rattle.scx_explore_audit.specs.Computed.{IfNoMore, DoNoMore, left_out_by, ComputedFormsAreWhole}

-- ---- calls

-- no helper of maps is one of these
of_map : (h : MapHelper) → (is_clock (Some (OnMap h)) ≡ is_helper KtimeGetNs (Some (OnMap h))) × (is_by_vtime (Some (OnMap h)) ≡ is_helper DsqInsertVtime (Some (OnMap h))) × (is_random (Some (OnMap h)) ≡ is_helper PrandomU32 (Some (OnMap h)))
of_map on_map.Update = (refl, refl, refl)
of_map on_map.Delete = (refl, refl, refl)
of_map on_map.Push = (refl, refl, refl)
of_map on_map.Pop = (refl, refl, refl)
of_map on_map.Peek = (refl, refl, refl)
of_map on_map.LookUpPerCpu = (refl, refl, refl)

-- tests of helpers are those of uses
helpers_same : (o : Option Helper) → (is_clock o ≡ is_helper KtimeGetNs o) × (is_by_vtime o ≡ is_helper DsqInsertVtime o) × (is_random o ≡ is_helper PrandomU32 o)
helpers_same None = (refl, refl, refl)
helpers_same (Some KtimeGetNs) = (refl, refl, refl)
helpers_same (Some DsqInsertVtime) = (refl, refl, refl)
helpers_same (Some PrandomU32) = (refl, refl, refl)
helpers_same (Some (OnMap h)) = of_map h
helpers_same (Some h) = (refl, refl, refl)

-- and so are those of calls
calls_same : (o : Option Insn) → (reads_clock o ≡ is_call KtimeGetNs o) × (inserts_by_vtime o ≡ is_call DsqInsertVtime o) × (draws o ≡ is_call PrandomU32 o)
calls_same None = (refl, refl, refl)
calls_same (Some (Call k)) = helpers_same (helper_at k)
calls_same (Some i) = (refl, refl, refl)

-- ---- programs

clockless : (u : Uses) → u.clock ≡ false → (o : Option VerifiedProgram) → IfNoMore u o → IsClockless o
clockless u e None d = tt
clockless u e (Some q) d = λ slot. (calls_same (at q.code slot)).0 ∙ d.clock e slot

-- it is set, or that follows
kept_or : {X : Type 0} (b : Bool) → (b ≡ false → X) → (b ≡ true) ⊎ X
kept_or true f = inl refl
kept_or false f = inr (f refl)

in_order : (u : Uses) → u.vtime_inserts ≡ false → (o : Option VerifiedProgram) → IfNoMore u o → InsertsInOrder o
in_order u e None d = tt
in_order u e (Some q) d = λ slot. (calls_same (at q.code slot)).1 ∙ d.vtime_inserts e slot

pub apart : false ≡ true → ⊥
apart e = absurd (cc)

shown : (b : Bool) → not b ≡ false → b ≡ true
shown true e = refl
shown false e = absurd (apart (sym e))

undrawn : (u : Uses) → u.random ≡ false → (o : Option VerifiedProgram) → IfNoMore u o → DrawsNone o
undrawn u e None d = tt
undrawn u e (Some q) d = λ slot. (calls_same (at q.code slot)).2 ∙ d.random e slot

left_out : (b : Bool) → not b ≡ true → b ≡ false
left_out false e = refl
left_out true e = absurd (apart e)

-- what is asked being said in that way, and with any words of maps
pub computed_by : (Ask : (Query → Type 0) → PolicyState → Type 0) (Tell : PolicyState → Type 0) (p : PolicyState) (u : Uses) (waits : Bool) (words : MapWords) → DoNoMore u p → Ask (ReadsNone (left_out_by (form_of u waits))) p → (tells_idle_slices u ≡ false → Tell p)
    → IsWholeBy Ask Tell p (record (form_of u waits) { map_words = words })
computed_by Ask Tell p u waits words none unread slices = record {
  clock = kept_or u.clock (λ e b. clockless u e (program_of p b) (none b));
  pushes = refl;
  idle_slices = kept_or (tells_idle_slices u) slices;
  keys = kept_or u.vtime_inserts (λ e b. in_order u e (program_of p b) (none b));
  hidden = left_out_by (form_of u waits);
  unread = unread;
  left_out = record { run_ns = left_out u.run_ns; vtime = left_out u.vtime; waits = left_out waits };
  waits = shown waits;
  vtime = shown u.vtime;
  run_ns = shown u.run_ns;
  random = kept_or u.random (λ e b. undrawn u e (program_of p b) (none b));
  names = refl;
}

pub computed_forms_are_whole : ComputedFormsAreWhole
computed_forms_are_whole p u waits none unread slices = computed_by AskAnyhow TellNoSlices p u waits Whole none unread slices
