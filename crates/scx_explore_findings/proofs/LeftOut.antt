-- Parts of records alone, and slices of idle tasks alone, as what is left out.
use Rattle.std.proofs.Common.{◌≡◌, ℕ, suc, ◌&&◌, not, Bool, true, false, List, [], ◌∷◌, map, Option, Some, None, refl, sym, ap, ◌∙◌, inl, inr}
use Rattle.scx_isa_semantics.specs.declared.host_tables.Field.{Field}
use Rattle.scx_isa_semantics.specs.declared.host_tables.Field.TheVariants.{Slice, DsqVtime, RunNs}
use Rattle.scx_isa_semantics.specs.Effects.{Query, Call, Load, Store}
use Rattle.scx_isa_semantics.specs.Machine.{start}
use Rattle.scx_vm.specs.Programs.{VerifiedProgram}
use Rattle.scx_sched_tasks.specs.declared.task.Task.{Task}
use Rattle.scx_sched_world.specs.World.{WorldState}
use Rattle.scx_sched_policy.specs.Policy.{PolicyState, program_of}
use Rattle.scx_sched_machine.specs.Steps.{CallMade, with_world}
use Rattle.scx_sched.specs.Sim.{SimState}
use Rattle.scx_explore_findings.specs.Hidden.{Hidden, all_hidden, hidden_in, with_tasks, hide}
use Rattle.scx_explore_findings.specs.HiddenStates.{hide_call}
use Rattle.scx_explore_findings.specs.HiddenMachines.{hide_machine, AreSame}
use Rattle.scx_explore_findings.specs.IdleSlices.{is_idle, is_idle_of, sliceless_if, without_slices, erase, erase_state, LoadsBusy, TellsNoIdleSlice}
use Rattle.scx_explore_findings.specs.Asked.{IfAsksAnyhow, AskAnyhow, CallsAsk}
use Rattle.scx_explore_findings.specs.Unread.{is_hidden_field, ReadsNone}
use Rattle.scx_explore_findings.proofs.IdleTasks.{no_idler}
use Rattle.scx_explore_findings.proofs.Omitting.{Omitted, omit, is_at_hand, in_call, omit_state, omit_call, IsNone}
use Rattle.scx_explore_findings.proofs.Helpers.{LoadsBusyOf, IsTold}
use Rattle.scx_explore_findings.proofs.Runs.{calls_more, asks_any}

-- a machine without what is left out
abbrev pub omit_machine : Omitted → SimState → SimState
omit_machine h s = record s { state = omit_state h s.state }

-- ---- parts of records

-- parts of records, and no slice
abbrev pub parts_alone : Hidden → Omitted
parts_alone h = record { parts = h; idle = λ t. false }

pub none_less : (p : ℕ → Bool) (xs : List Task) → ((t : ℕ) → p t ≡ false) → without_slices p xs ≡ xs
none_less p [] e = refl
none_less p (x ∷ xs) e =
    ap (λ (b : Bool). sliceless_if b x ∷ without_slices (λ t. p (suc t)) xs) (e 0) ∙ ap (λ (ys : List Task). x ∷ ys) (none_less (λ t. p (suc t)) xs (λ t. e (suc t)))

-- the world is the one in which they are hidden, where slices of none are left out
none_world : (h : Hidden) (d : ℕ → Bool) → IsNone d → (w : WorldState) → omit (record { parts = h; idle = d }) w ≡ hide h w
none_world h d none w = ap (λ (xs : List Task). with_tasks w (all_hidden h xs)) (none_less (is_idle_of d w) w.tasks (λ t. ap (λ (b : Bool). b && is_idle w t) (none t)))

pub parts_world : (h : Hidden) (w : WorldState) → omit (parts_alone h) w ≡ hide h w
parts_world h w = none_world h (λ t. false) (λ t. refl) w

-- so is the machine
pub parts_machine : (h : Hidden) (s : SimState) → omit_machine (parts_alone h) s ≡ hide_machine h s
parts_machine h s = ap (λ (w : WorldState). record s { state = with_world s.state w }) (parts_world h s.state.world)

-- so two are the same but for these parts
pub parts_same : (h : Hidden) (s t : SimState) → AreSame h s t → omit_machine (parts_alone h) s ≡ omit_machine (parts_alone h) t
parts_same h s t same = parts_machine h s ∙ same ∙ sym (parts_machine h t)

-- and calls are those in which they are hidden
pub parts_calls : (h : Hidden) (cs : List CallMade) → map (omit_call (parts_alone h)) cs ≡ map (hide_call h) cs
parts_calls h [] = refl
parts_calls h (c ∷ cs) =
    ap (λ (w : WorldState). record c { world = w } ∷ map (omit_call (parts_alone h)) cs) (none_world h (in_call (parts_alone h) c).idle (λ u. never (not (is_at_hand c.callback c.arguments u))) c.world)
    ∙ ap (λ (ds : List CallMade). hide_call h c ∷ ds) (parts_calls h cs)
  where
    never : (b : Bool) → (b && false) ≡ false
    never true = refl
    never false = refl

-- ---- slices

-- slices of those tasks that are idle, and nothing else
abbrev pub slices_alone : (ℕ → Bool) → Omitted
slices_alone d = record { parts = record { run_ns = false; vtime = false; waits = false }; idle = d }

nothing_less : (d : ℕ → Bool) (xs : List Task) → all_hidden (slices_alone d).parts xs ≡ xs
nothing_less d [] = refl
nothing_less d (x ∷ xs) = ap (λ (ys : List Task). hidden_in (slices_alone d).parts x ∷ ys) (nothing_less d xs)

-- the world is the one in which they are erased
pub slices_world : (d : ℕ → Bool) (w : WorldState) → omit (slices_alone d) w ≡ erase d w
slices_world d w = ap (λ (xs : List Task). with_tasks w xs) (nothing_less d (without_slices (is_idle_of d w) w.tasks))

-- so is the machine
pub slices_machine : (d : ℕ → Bool) (s : SimState) → omit_machine (slices_alone d) s ≡ record s { state = erase_state d s.state }
slices_machine d s = ap (λ (w : WorldState). record s { state = with_world s.state w }) (slices_world d s.state.world)

-- so two are the same but for these slices
pub slices_same : (d : ℕ → Bool) (s t : SimState) → record s { state = erase_state d s.state } ≡ record t { state = erase_state d t.state } → omit_machine (slices_alone d) s ≡ omit_machine (slices_alone d) t
slices_same d s t same = slices_machine d s ∙ same ∙ sym (slices_machine d t)

field_shown : (d : ℕ → Bool) (o : Option Field) → is_hidden_field (slices_alone d).parts o ≡ false
field_shown d None = refl
field_shown d (Some RunNs) = refl
field_shown d (Some DsqVtime) = refl
field_shown d (Some f) = refl

query_shown : (d : ℕ → Bool) (q : Query) → ReadsNone (slices_alone d).parts q
query_shown d (Load t f) = field_shown d (Some f)
query_shown d (Call f a) = tt
query_shown d (Store t f n) = tt

-- no program reads what isn't hidden
pub slices_unread : (d : ℕ → Bool) (p : PolicyState) → AskAnyhow (ReadsNone (slices_alone d).parts) p
slices_unread d p b = go (program_of p b)
  where
    go : (o : Option VerifiedProgram) → IfAsksAnyhow (ReadsNone (slices_alone d).parts) b o
    go None = tt
    go (Some q) = λ n a maps. asks_any (ReadsNone (slices_alone d).parts) (query_shown d) b q.code n 0 (start a maps)

busy_of : (d : ℕ → Bool) (w : WorldState) (q : Query) → LoadsBusy w q → LoadsBusyOf d w q
busy_of d w (Load t Slice) k = no_idler d w t.0 k
busy_of d w (Load t f) k = tt
busy_of d w (Call f a) k = tt
busy_of d w (Store t f n) k = tt

-- calls that tell no slice of an idle task ask for nothing that is left out
pub slices_asked : (d : ℕ → Bool) (cs : List CallMade) → CallsAsk TellsNoIdleSlice cs → CallsAsk (IsTold (slices_alone d)) cs
slices_asked d cs asks = calls_more TellsNoIdleSlice (IsTold (slices_alone d)) (λ w q k. (query_shown d q, inr (busy_of d w q k.0, k.1))) cs asks

-- nor do those that read nothing that is hidden
pub parts_asked : (h : Hidden) (cs : List CallMade) → CallsAsk (λ w. ReadsNone h) cs → CallsAsk (IsTold (parts_alone h)) cs
parts_asked h cs asks = calls_more (λ w. ReadsNone h) (IsTold (parts_alone h)) (λ w q k. (k, inl (λ u. refl))) cs asks
