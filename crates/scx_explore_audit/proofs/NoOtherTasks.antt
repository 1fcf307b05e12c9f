-- No run of a program asks for a task if the program calls no helper that answers one.
use Rattle.std.proofs.Common.{◌≡◌, ℤ, Bool, true, false, Option, Some, None, refl, sym, ap, ◌∙◌, subst}
use Rattle.scx_isa_semantics.specs.declared.callbacks.Callback.{Callback}
use Rattle.scx_isa_semantics.specs.declared.host_tables.Helper.{Helper}
use Rattle.scx_isa_semantics.specs.declared.host_tables.Helper.TheVariants.{TaskByPid, CpuCurr, DsqPeek}
use Rattle.scx_isa_semantics.specs.declared.instructions.Insn.{Insn}
use Rattle.scx_isa_semantics.specs.declared.instructions.Insn.TheVariants as insn
use Rattle.scx_isa_semantics.specs.Code.{Code, at}
use Rattle.scx_isa_semantics.specs.HostTables.{helper_at, answers_task}
use Rattle.scx_vm.specs.declared.context.Context.{Context}
use Rattle.scx_explore_states.specs.Asking.{AsksOnly}
use Rattle.scx_explore_states.proofs.Queries.{StepsOpen, MayAskAt, of_step}
use Rattle.scx_explore_findings.specs.IdleSlices.{AsksForNone}
use Rattle.scx_explore_bounds.specs.Told.{CallsNone}
use Rattle.scx_explore_bounds.specs.Uses.{is_helper, is_call}

not_both : (b : Bool) → b ≡ true → b ≡ false → ⊥
not_both b x y = absurd (cc)

-- an instruction calls none of these helpers
record CallsNoneOf (o : Option Insn) : Type 0 where
  by_pid : is_call TaskByPid o ≡ false
  current : is_call CpuCurr o ≡ false
  front : is_call DsqPeek o ≡ false

-- a helper that is called isn't another one
is_not : (k : ℤ) (f : Helper) → helper_at k ≡ Some f → is_call f (Some (insn.Call k)) ≡ false → is_helper f (Some f) ≡ false
is_not k f is none = ap (λ (o : Option Helper). is_helper f o) (sym is) ∙ none

-- the helper that it calls answers no task
answers_none : (k : ℤ) (f : Helper) → helper_at k ≡ Some f → CallsNoneOf (Some (insn.Call k)) → answers_task f ≡ false
answers_none k TaskByPid is none = absurd (not_both true refl (is_not k TaskByPid is none.by_pid))
answers_none k CpuCurr is none = absurd (not_both true refl (is_not k CpuCurr is none.current))
answers_none k DsqPeek is none = absurd (not_both true refl (is_not k DsqPeek is none.front))
answers_none k f is none = refl

may_ask : (b : Callback) (o : Option Insn) → CallsNoneOf o → MayAskAt AsksForNone (λ t f n. tt) b o
may_ask b None none = tt
may_ask b (Some (insn.Load x d r offset)) none = λ t f is. tt
may_ask b (Some (insn.Call k)) none = (λ f values is free. answers_none k f is none, λ f is free. refl)
may_ask b (Some i) none = tt

pub such_runs_ask_for_none : (c : Context) (code : Code) → CallsNone TaskByPid code → CallsNone CpuCurr code × CallsNone DsqPeek code → AsksOnly AsksForNone c code
such_runs_ask_for_none c code by_pid others a maps n s m shaped fits leads q next on e =
    subst (StepsOpen AsksForNone (λ t f k. tt)) e
    (of_step AsksForNone (λ t f k. tt) c.callback code
    (λ slot. may_ask c.callback (at code slot) (record { by_pid = by_pid slot; current = others.0 slot; front = others.1 slot })) s m)
