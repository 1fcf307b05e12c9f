-- A run that is given one task and asks for none loads and stores the fields of no other one: it goes as a run of the program
-- without the calls that ask for a task, which it never makes.
use Rattle.std.proofs.Common.{◌≡◌, ℕ, zero, suc, ◌&&◌, [], ◌∷◌, map, Bool, true, false, if◌then◌else◌, Option, Some, None, refl, sym, ap, ◌∙◌, subst, ◌⊎◌, inl, inr}
use Rattle.scx_isa_semantics.specs.declared.callbacks.Callback.{Callback}
use Rattle.scx_isa_semantics.specs.declared.host_tables.Helper.{Helper}
use Rattle.scx_isa_semantics.specs.declared.host_tables.Helper.TheVariants.{TaskByPid, CpuCurr, DsqPeek}
use Rattle.scx_isa_semantics.specs.declared.host_tables.TaskId.{TaskId}
use Rattle.scx_isa_semantics.specs.declared.instructions.Insn.{Insn}
use Rattle.scx_isa_semantics.specs.declared.instructions.Insn.TheVariants as insn
use Rattle.scx_isa_semantics.specs.declared.values.Value.{Value}
use Rattle.scx_isa_semantics.specs.Calls.{takes_all, arguments, after_call, call_effect, call_helper}
use Rattle.scx_isa_semantics.specs.Code.{Code, at}
use Rattle.scx_isa_semantics.specs.Effects.{Query, Call}
use Rattle.scx_isa_semantics.specs.Effects as effect
use Rattle.scx_isa_semantics.specs.Elements.{Maps}
use Rattle.scx_isa_semantics.specs.HostTables.{helper_at, parameters, is_allowed, answers_task}
use Rattle.scx_isa_semantics.specs.Machine.{Machine, Arguments, start}
use Rattle.scx_isa_semantics.specs.Runs.{LeadsTo, Leads, any_answer}
use Rattle.scx_isa_semantics.specs.Steps.{Outcome, Stuck, Asks, outcome_at, outcome_of, step}
use Rattle.scx_explore_states.specs.Asking.{ArgumentsPointTo, IsOfTask, may_answer_task, asks_for_task}
use Rattle.scx_explore_states.proofs.Pointers.{runs_point_to_their_task}
use Rattle.scx_explore_findings.specs.IdleSlices.{AsksForNone}
use Rattle.scx_explore_findings.proofs.Answered.{leads_on, AsksFrom}
use Rattle.scx_explore_findings.proofs.IdleRecords.{bits}

-- ---- programs without such calls

-- what begins at a slot, if it isn't such a call
abbrev without : Option Insn → Option Insn
without o = if asks_for_task o then None else o

abbrev all_without : Code → Code
all_without code = map without code

without_at : (code : Code) (s : ℕ) → at (all_without code) s ≡ without (at code s)
without_at [] s = refl
without_at (o ∷ code) zero = refl
without_at (o ∷ code) (suc s) = without_at code s

none_asks : (o : Option Insn) → asks_for_task (without o) ≡ false
none_asks o = go (asks_for_task o) refl
  where
    go : (b : Bool) → asks_for_task o ≡ b → asks_for_task (if b then None else o) ≡ false
    go true e = refl
    go false e = e

none_left : (code : Code) (s : ℕ) → asks_for_task (at (all_without code) s) ≡ false
none_left code s = ap asks_for_task (without_at code s) ∙ none_asks (at code s)

-- ---- steps

-- what is asked there is no task
abbrev AsksNone : Outcome → Type 0
AsksNone o = (q : Query) (t : ℕ) (on : Value → Machine) → o ≡ Asks q t on → AsksForNone q

-- a call of a helper that answers a task isn't made there
not_made : (c : Callback) (s : ℕ) (i : Insn) (m : Machine) (f : Helper) → answers_task f ≡ true → AsksNone (outcome_at s i (call_effect m f)) → ⊥
not_made c s i m TaskByPid is none = bits true refl (none (Call TaskByPid (arguments m TaskByPid)) _ (λ v. after_call m v) refl)
not_made c s i m CpuCurr is none = bits true refl (none (Call CpuCurr (arguments m CpuCurr)) _ (λ v. after_call m v) refl)
not_made c s i m DsqPeek is none = bits true refl (none (Call DsqPeek (arguments m DsqPeek)) _ (λ v. after_call m v) refl)
not_made c s i m f is none = absurd (bits false is refl)

-- so a step is the same without such calls, or leads nowhere
abbrev IsAsWithout : Callback → ℕ → Machine → Option Insn → Option Insn → Type 0
IsAsWithout c s m o p = (outcome_of c s p m ≡ outcome_of c s o m) ⊎ (outcome_of c s o m ≡ Stuck)

step_without : (c : Callback) (s : ℕ) (m : Machine) (o : Option Insn) → AsksNone (outcome_of c s o m) → IsAsWithout c s m o (without o)
step_without c s m None none = inl refl
step_without c s m (Some (insn.Call k)) none = go (helper_at k) refl none
  where
    made : (f : Helper) (b : Bool) → answers_task f ≡ true → AsksNone (outcome_at s (insn.Call k) (if b then call_effect m f else effect.Stuck)) → outcome_at s (insn.Call k) (if b then call_effect m f else effect.Stuck) ≡ Stuck
    made f false is asks = refl
    made f true is asks = absurd (not_made c s (insn.Call k) m f is asks)

    there : (f : Helper) (b : Bool) → helper_at k ≡ Some f → answers_task f ≡ b → AsksNone (outcome_at s (insn.Call k) (call_helper c m (Some f))) → IsAsWithout c s m (Some (insn.Call k)) (if b then None else Some (insn.Call k))
    there f false is e asks = inl refl
    there f true is e asks = inr (ap (λ (h : Option Helper). outcome_at s (insn.Call k) (call_helper c m h)) is ∙ made f (is_allowed f c && takes_all m (parameters f) 1) e asks)

    go : (h : Option Helper) → helper_at k ≡ h → AsksNone (outcome_at s (insn.Call k) (call_helper c m h)) → IsAsWithout c s m (Some (insn.Call k)) (if may_answer_task h then None else Some (insn.Call k))
    go None is asks = inl refl
    go (Some f) is asks = there f (answers_task f) is refl asks
step_without c s m (Some i) none = inl refl

-- ---- runs

module _ (c : Callback) (code : Code) (a : Arguments) (maps : Maps) (asks : AsksFrom AsksForNone c code a maps) where
  at_step : (n s : ℕ) (m : Machine) → Leads any_answer c code n 0 (start a maps) tt s m tt → (step c (all_without code) s m ≡ step c code s m) ⊎ (step c code s m ≡ Stuck)
  at_step n s m leads =
      subst (λ (o : Option Insn). IsAsWithout c s m (at code s) o) (sym (without_at code s)) (step_without c s m (at code s) (λ q t on is. asks n s m leads q t on is))

  led_without : (n j s t : ℕ) (m k : Machine) → Leads any_answer c code j 0 (start a maps) tt s m tt → Leads any_answer c code n s m tt t k tt → Leads any_answer c (all_without code) n s m tt t k tt
  led_without zero j s t m k reached leads = leads
  led_without (suc n) j s t m k reached leads = (
    leads.0,
    leads.1,
    leads.2,
    go (at_step j s m reached) leads.3,
    led_without n (suc j) leads.0 t leads.1 k (leads_on c code j 0 s leads.0 (start a maps) m leads.1 reached leads.3) leads.4,
  )
    where
      go : (step c (all_without code) s m ≡ step c code s m) ⊎ (step c code s m ≡ Stuck) → LeadsTo any_answer (step c code s m) tt leads.0 leads.1 tt → LeadsTo any_answer (step c (all_without code) s m) tt leads.0 leads.1 tt
      go (inl same) l = subst (λ (o : Outcome). LeadsTo any_answer o tt leads.0 leads.1 tt) (sym same) l
      go (inr stuck) l = absurd (subst (λ (o : Outcome). LeadsTo any_answer o tt leads.0 leads.1 tt) stuck l)

  -- what it asks is of its own task
  pub asks_of_task : (t : TaskId) → ArgumentsPointTo t a → AsksFrom (IsOfTask t) c code a maps
  asks_of_task t points n s m leads q next on is = go (at_step n s m leads)
    where
      apart : Stuck ≡ Asks q next on → ⊥
      apart e = absurd (cc)

      go : (step c (all_without code) s m ≡ step c code s m) ⊎ (step c code s m ≡ Stuck) → IsOfTask t q
      go (inl same) = runs_point_to_their_task t c (all_without code) a maps n s m q next on (none_left code) points (led_without n 0 0 s (start a maps) m (refl, refl, refl) leads) (same ∙ is)
      go (inr stuck) = absurd (apart (sym stuck ∙ is))
