-- The forms that a search computes: what they leave out by calls is known, and what they leave out
-- by loads and inserts is presumed of runs, or shown of those that fit.
use Rattle.std.specs.Prelude.{◌≡◌, Bool, false, not, Option, Some, None}
use Rattle.scx_isa_semantics.specs.declared.callbacks.Callback.{Callback}
use Rattle.scx_isa_semantics.specs.Callbacks.{callbacks}
use Rattle.scx_vm.specs.Programs.{VerifiedProgram}
use Rattle.scx_load_policies.specs.Building.{IsBuilt}
use Rattle.scx_load_policies.specs.Policies.{PolicyFile}
use Rattle.scx_sched_policy.specs.Policy.{PolicyState, program_of}
use Rattle.scx_explore_states.specs.declared.form.Form.{Form}
use Rattle.scx_explore_states.specs.declared.map_words.MapWords.{MapWords}
use Rattle.scx_explore_findings.specs.Asked.{AskAnyhow}
use Rattle.scx_explore_findings.specs.Counted.{LoadsNoCount}
use Rattle.scx_explore_findings.specs.Hidden.{Hidden}
use Rattle.scx_explore_findings.specs.HiddenMachines.{AreUnread}
use Rattle.scx_explore_findings.specs.IdleSlices.{TellNoSlices}
use Rattle.scx_explore_findings.specs.WholeForms.{IsWhole, IsWholeInRuns}
use Rattle.scx_explore_bounds.specs.declared.uses.Uses.{Uses}
use Rattle.scx_explore_bounds.specs.Forms.{tells_idle_slices, form_of, no_uses, DoAll}
use Rattle.scx_explore_bounds.specs.Told.{DoesNoMore}

-- the program does no more than that, if there is one
abbrev pub IfNoMore : Uses → Option VerifiedProgram → Type 0
IfNoMore u None = Unit {0}
IfNoMore u (Some q) = DoesNoMore u q.context q.code

-- nor does any program of the policy
abbrev pub DoNoMore : Uses → PolicyState → Type 0
DoNoMore u p = (b : Callback) → IfNoMore u (program_of p b)

-- what the form leaves out of the record of each task
abbrev pub left_out_by : Form → Hidden
left_out_by f =
    record { run_ns = not f.run_ns; vtime = not f.vtime; waits = not f.waits }

-- The form that a search computes, with waits or without, is whole, if no program asks for what it
-- leaves out of records, or tells a slice where it leaves slices out.
abbrev pub ComputedFormsAreWhole : Type 0
ComputedFormsAreWhole =
    (p : PolicyState) (u : Uses) (waits : Bool)
    → DoNoMore u p
    → AreUnread (left_out_by (form_of u waits)) p
    → (tells_idle_slices u ≡ false → TellNoSlices p)
    → IsWhole p (form_of u waits)

-- Nothing of that is presumed of the policy of a file: the form that is computed is whole in each
-- run, with any words of maps.
abbrev pub ComputedFormsAreWholeInRuns : Type 0
ComputedFormsAreWholeInRuns =
    (file : PolicyFile) (p : PolicyState) (u : Uses) (waits : Bool) (words : MapWords)
    → IsBuilt file p
    → DoAll file.rules file.shapes file.programs callbacks no_uses u
    → IsWholeInRuns p (record (form_of u waits) { map_words = words })

-- no program of the policy of a file loads a slice or a run time, whatever it is given and
-- answered, if none has a load at such an offset
abbrev pub ProgramsLoadNoCount : Type 0
ProgramsLoadNoCount =
    (file : PolicyFile) (p : PolicyState) (u : Uses)
    → IsBuilt file p
    → DoAll file.rules file.shapes file.programs callbacks no_uses u
    → u.has_count_load ≡ false
    → AskAnyhow LoadsNoCount p
