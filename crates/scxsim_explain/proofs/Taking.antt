-- The programs of a policy, explained one callback after another.
use Rattle.std.proofs.Common.{◌≡◌, ℕ, ◌+◌, ◌<◌, ◌≤◌, List, [], ◌∷◌, ◌++◌, drop, length, get_or, Option, subst, sym, ◌∙◌, append_assoc}
use Rattle.std.proofs.lemmas.List.{append-nil, at_drop_more, at_drop_all}
use Rattle.scx_isa_semantics.specs.declared.callbacks.Callback.{Callback}
use Rattle.scx_isa_semantics.specs.declared.callbacks.Callback.TheVariants as callback
use Rattle.scx_isa_semantics.specs.Callbacks.{callbacks, at, with_at, none}
use Rattle.scx_load_policies.specs.Policies.{PolicyFile, program_of, without}
use Rattle.scx_load_policies.specs.Building.{context_of}
use Rattle.scxsim_commands.specs.declared.verdict.Verdict.{Verdict}
use Rattle.scxsim_commands.specs.Verdicts.{Verdicts, IsVerdictOf, HasVerdicts}
use Rattle.scxsim_explain.specs.Listed.{line_on, first_lines}

-- lines behind which others are put, time after time
abbrev grown : List (List ℕ) → List (List (List ℕ)) → List (List ℕ)
grown lines [] = lines
grown lines (more ∷ rest) = grown (lines ++ more) rest

-- all of them, one after another
abbrev flat : List (List (List ℕ)) → List (List ℕ)
flat [] = []
flat (more ∷ rest) = more ++ flat rest

-- those that were put behind are all behind those before
grown_by_all : (lines : List (List ℕ)) (all : List (List (List ℕ))) → grown lines all ≡ lines ++ flat all
grown_by_all lines [] = sym (append-nil lines)
grown_by_all lines (more ∷ rest) = grown_by_all (lines ++ more) rest ∙ append_assoc lines more (flat rest)

module _ (policy : PolicyFile) (before : List (List ℕ)) where
  -- Whatever verdicts the programs of these callbacks get, the policy has all its verdicts then, and
  -- their lines are behind those before.
  abbrev pub Leads : List Callback → PolicyFile → Verdicts → List (List ℕ) → Type 0
  Leads [] rest v lines = HasVerdicts policy v × (lines ≡ before ++ first_lines v)
  Leads (b ∷ bs) rest v lines =
      (verdict : Option Verdict) → IsVerdictOf (context_of rest b) (program_of rest b) verdict → Leads bs (without rest b) (with_at v b verdict) (lines ++ line_on b verdict)

  -- the program of that callback has that verdict, if there are any
  abbrev HasVerdict : Verdicts → Callback → Type 0
  HasVerdict v b = IsVerdictOf (context_of policy b) (program_of policy b) (at v b)

  -- where each of them has its own, they all have
  each_has : (v : Verdicts) → HasVerdict v callback.Init → HasVerdict v callback.Enable → HasVerdict v callback.SelectCpu → HasVerdict v callback.Enqueue → HasVerdict v callback.Dispatch → HasVerdict v callback.Running → HasVerdict v callback.Stopping → HasVerdict v callback.Tick → HasVerdict v callback.Dequeue → HasVerdict v callback.Runnable → HasVerdict v callback.Quiescent → HasVerdict v callback.UpdateIdle → HasVerdict v callback.SetWeight → HasVerdict v callback.Timer → HasVerdicts policy v
  each_has v _ _ _ _ _ _ _ _ _ _ _ _ _ _ callback.Plain = tt
  each_has v this _ _ _ _ _ _ _ _ _ _ _ _ _ callback.Init = this
  each_has v _ this _ _ _ _ _ _ _ _ _ _ _ _ callback.Enable = this
  each_has v _ _ this _ _ _ _ _ _ _ _ _ _ _ callback.SelectCpu = this
  each_has v _ _ _ this _ _ _ _ _ _ _ _ _ _ callback.Enqueue = this
  each_has v _ _ _ _ this _ _ _ _ _ _ _ _ _ callback.Dispatch = this
  each_has v _ _ _ _ _ this _ _ _ _ _ _ _ _ callback.Running = this
  each_has v _ _ _ _ _ _ this _ _ _ _ _ _ _ callback.Stopping = this
  each_has v _ _ _ _ _ _ _ this _ _ _ _ _ _ callback.Tick = this
  each_has v _ _ _ _ _ _ _ _ this _ _ _ _ _ callback.Dequeue = this
  each_has v _ _ _ _ _ _ _ _ _ this _ _ _ _ callback.Runnable = this
  each_has v _ _ _ _ _ _ _ _ _ _ this _ _ _ callback.Quiescent = this
  each_has v _ _ _ _ _ _ _ _ _ _ _ this _ _ callback.UpdateIdle = this
  each_has v _ _ _ _ _ _ _ _ _ _ _ _ this _ callback.SetWeight = this
  each_has v _ _ _ _ _ _ _ _ _ _ _ _ _ this callback.Timer = this

  -- so it is where no program is taken yet
  pub begins : (v : Verdicts) → v ≡ none → Leads callbacks policy v before
  begins v e =
      subst (λ (x : Verdicts). Leads callbacks policy x before) (sym e)
      (λ init of_init enable of_enable select_cpu of_select_cpu enqueue of_enqueue dispatch of_dispatch running of_running stopping of_stopping tick of_tick dequeue of_dequeue runnable of_runnable quiescent of_quiescent update_idle of_update_idle set_weight of_set_weight timer of_timer. (
        each_has (record { init = init; enable = enable; select_cpu = select_cpu; enqueue = enqueue; dispatch = dispatch; running = running; stopping = stopping; tick = tick; dequeue = dequeue; runnable = runnable; quiescent = quiescent; update_idle = update_idle; set_weight = set_weight; timer = timer }) of_init of_enable of_select_cpu of_enqueue of_dispatch of_running of_stopping of_tick of_dequeue of_runnable of_quiescent of_update_idle of_set_weight of_timer,
        grown_by_all before (line_on callback.Init init ∷ line_on callback.Enable enable ∷ line_on callback.SelectCpu select_cpu ∷ line_on callback.Enqueue enqueue ∷ line_on callback.Dispatch dispatch ∷ line_on callback.Running running ∷ line_on callback.Stopping stopping ∷ line_on callback.Tick tick ∷ line_on callback.Dequeue dequeue ∷ line_on callback.Runnable runnable ∷ line_on callback.Quiescent quiescent ∷ line_on callback.UpdateIdle update_idle ∷ line_on callback.SetWeight set_weight ∷ line_on callback.Timer timer ∷ []),
      ))

  -- the verdict on one program leaves it to those behind
  pub goes_on : (i : ℕ) (d : Callback) (rest rest_after : PolicyFile) (v v_after : Verdicts) (lines lines_after : List (List ℕ)) (verdict : Option Verdict)
      → i < length callbacks → IsVerdictOf (context_of rest (get_or callbacks i d)) (program_of rest (get_or callbacks i d)) verdict
      → rest_after ≡ without rest (get_or callbacks i d) → v_after ≡ with_at v (get_or callbacks i d) verdict → lines_after ≡ lines ++ line_on (get_or callbacks i d) verdict
      → Leads (drop i callbacks) rest v lines → Leads (drop (i + 1) callbacks) rest_after v_after lines_after
  goes_on i d rest rest_after v v_after lines lines_after verdict lt judged taken put grown so_far =
      let next = subst (λ bs. Leads bs rest v lines) (at_drop_more (λ bs. bs) callbacks i d lt) so_far in
      rw (taken, put, grown) (next verdict judged)

  -- behind the last one all are there
  pub ends : (i : ℕ) (rest : PolicyFile) (v : Verdicts) (lines : List (List ℕ)) → length callbacks ≤ i
      → Leads (drop i callbacks) rest v lines → HasVerdicts policy v × (lines ≡ before ++ first_lines v)
  ends i rest v lines past so_far = subst (λ bs. Leads bs rest v lines) (at_drop_all (λ bs. bs) callbacks i past) so_far
