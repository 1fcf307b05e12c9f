-- A run that asks nothing of what is left out doesn't depend on it, and what one that gives slices wants to insert has one.
use Rattle.std.proofs.Common.{◌≡◌, ℕ, zero, suc, Bool, true, false, List, [], ◌∷◌, map, Option, Some, None, refl, sym, ap, ◌∙◌, subst, inl, inr}
use Rattle.scx_isa_semantics.specs.declared.callbacks.Callback.{Callback}
use Rattle.scx_isa_semantics.specs.declared.host_tables.Field.{Field}
use Rattle.scx_isa_semantics.specs.declared.host_tables.Field.TheVariants.{Slice}
use Rattle.scx_isa_semantics.specs.declared.host_tables.TaskId.{TaskId}
use Rattle.scx_isa_semantics.specs.declared.instructions.Insn.{Insn}
use Rattle.scx_isa_semantics.specs.declared.instructions.Insn.TheVariants as insn
use Rattle.scx_isa_semantics.specs.declared.values.Value.{Value}
use Rattle.scx_isa_semantics.specs.Code.{Code, at, instruction_count}
use Rattle.scx_isa_semantics.specs.Effects.{Query, Call, Load, Store}
use Rattle.scx_isa_semantics.specs.Elements.{Maps}
use Rattle.scx_isa_semantics.specs.Endings.{Ending, ending_of, run_within, run_of}
use Rattle.scx_isa_semantics.specs.Machine.{Machine, Arguments, start}
use Rattle.scx_isa_semantics.specs.Steps.{Outcome, Stuck, Goes, Asks, Ends, step}
use Rattle.scx_vm.specs.Arguments.{program_arguments}
use Rattle.scx_vm.specs.Host.{answer_to, after_query}
use Rattle.scx_vm.specs.Programs.{VerifiedProgram}
use Rattle.scx_sched_world.specs.World.{WorldState}
use Rattle.scx_sched_world.specs.Helpers.{world_functions}
use Rattle.scx_sched_policy.specs.Policy.{PolicyState, program_of}
use Rattle.scx_sched_machine.specs.Steps.{CallMade}
use Rattle.scx_explore_states.specs.Asking.{LoadsNo, GivesOne}
use Rattle.scx_explore_states.proofs.Queries.{StepsOpen, MayAskAt, of_step}
use Rattle.scx_explore_findings.specs.Asked.{StepAnyhow, AnyhowWithin, AsksAnyhow, IfAsksAnyhow, StepAsks, AsksWithin, CallAsks, CallsAsk, OwnCallsAsk}
use Rattle.scx_explore_findings.specs.Hidden.{Hidden}
use Rattle.scx_explore_findings.specs.Unread.{is_some_field, loads_some, is_hidden_field, ReadsNone, may_read, IsUnread, SuchProgramsReadNone}
use Rattle.scx_explore_findings.specs.IdleSlices.{is_idle_of, is_slice, TellsNoSlice, SuchProgramsTellNoSlices}
use Rattle.scx_explore_findings.proofs.Omitting.{Omitted, omit, in_call, omit_call, IfAny, if_any, if_both}
use Rattle.scx_explore_findings.proofs.Helpers.{LoadsBusyOf, IsTold, answer_same, hides_query, Wants, wants_query}

abbrev ended : Option ℕ → Machine → WorldState → Ending WorldState
ended n m w = record { answer = n; maps = m.maps; outside = w }

-- a run of so many steps at most
abbrev ran : Callback → Code → ℕ → ℕ → Machine → WorldState → Ending WorldState
ran c code n s m w = run_within (answer_to world_functions) (after_query world_functions) c code n s m w

-- what a step comes to, and what follows it
abbrev goes_on : Callback → Code → ℕ → Outcome → Machine → WorldState → Ending WorldState
goes_on c code n o m w = ending_of (answer_to world_functions) (after_query world_functions) (λ t k v. ran c code n t k v) o m w

abbrev answer : WorldState → Query → Value
answer w q = answer_to world_functions w q

abbrev left : WorldState → Query → WorldState
left w q = after_query world_functions w q

-- ---- what programs ask

-- what a run asks, whatever is answered, it asks as the world answers
module _ (P : Query → Type 0) (R : WorldState → Query → Type 0) (is : (w : WorldState) (q : Query) → P q → R w q) where
  pub asks_so : (c : Callback) (code : Code) (n s : ℕ) (m : Machine) (w : WorldState) → AnyhowWithin P c code n s m → AsksWithin R c code n s m w
  asks_so c code zero s m w asks = tt
  asks_so c code (suc n) s m w asks = go (step c code s m) asks (λ t k v a. asks_so c code n t k v a)
    where
      go : (o : Outcome) → StepAnyhow P (AnyhowWithin P c code n) o → ((t : ℕ) (k : Machine) (v : WorldState) → AnyhowWithin P c code n t k → AsksWithin R c code n t k v) → StepAsks R (AsksWithin R c code n) o w
      go Stuck a more = tt
      go (Goes t k) a more = more t k w a
      go (Asks q t on) a more = (is w q a.0, more t (on (answer w q)) (left w q) (a.1 (answer w q)))
      go (Ends x) a more = tt

-- what a run asks it asks of a weaker sort too
module _ (P R : WorldState → Query → Type 0) (is : (w : WorldState) (q : Query) → P w q → R w q) where
  pub asks_more : (c : Callback) (code : Code) (n s : ℕ) (m : Machine) (w : WorldState) → AsksWithin P c code n s m w → AsksWithin R c code n s m w
  asks_more c code zero s m w asks = tt
  asks_more c code (suc n) s m w asks = go (step c code s m) asks (λ t k v a. asks_more c code n t k v a)
    where
      go : (o : Outcome) → StepAsks P (AsksWithin P c code n) o w → ((t : ℕ) (k : Machine) (v : WorldState) → AsksWithin P c code n t k v → AsksWithin R c code n t k v) → StepAsks R (AsksWithin R c code n) o w
      go Stuck a more = tt
      go (Goes t k) a more = more t k w a
      go (Asks q t on) a more = (is w q a.0, more t (on (answer w q)) (left w q) a.1)
      go (Ends x) a more = tt

  -- so do callbacks that are called
  pub calls_more : (cs : List CallMade) → CallsAsk P cs → CallsAsk R cs
  calls_more [] a = tt
  calls_more (c ∷ cs) a = (λ n. asks_more c.callback c.program.code n 0 (start (program_arguments c.arguments) c.maps) c.world (a.0 n), calls_more cs a.1)

-- and those of a policy
pub own_calls_more : (P R : CallMade → WorldState → Query → Type 0) → ((c : CallMade) (w : WorldState) (q : Query) → P c w q → R c w q) → (p : PolicyState) (cs : List CallMade) → OwnCallsAsk P p cs → OwnCallsAsk R p cs
own_calls_more P R is p [] a = tt
own_calls_more P R is p (c ∷ cs) a = (
  λ own n. asks_more (P c) (R c) (is c) c.callback c.program.code n 0 (start (program_arguments c.arguments) c.maps) c.world (a.0 own n),
  own_calls_more P R is p cs a.1,
)

-- if all calls ask such queries alone, those of a policy do
pub own_of_all : (P : WorldState → Query → Type 0) (p : PolicyState) (cs : List CallMade) → CallsAsk P cs → OwnCallsAsk (λ c. P) p cs
own_of_all P p [] a = tt
own_of_all P p (c ∷ cs) a = (λ own. a.0, own_of_all P p cs a.1)

-- what holds of each query a run asks alone
module _ (P : Query → Type 0) (all : (q : Query) → P q) where
  pub asks_any : (c : Callback) (code : Code) (n s : ℕ) (m : Machine) → AnyhowWithin P c code n s m
  asks_any c code zero s m = tt
  asks_any c code (suc n) s m = go (step c code s m) (λ t k. asks_any c code n t k)
    where
      go : (o : Outcome) → ((t : ℕ) (k : Machine) → AnyhowWithin P c code n t k) → StepAnyhow P (AnyhowWithin P c code n) o
      go Stuck more = tt
      go (Goes t k) more = more t k
      go (Asks q t on) more = (all q, λ v. more t (on v))
      go (Ends x) more = tt

-- what holds of all that steps of a program ask, a run asks alone, whatever is answered
module _ (P : Query → Type 0) (stores : (t : TaskId) (f : Field) (n : ℕ) → P (Store t f n)) (c : Callback) (code : Code) (may : (slot : ℕ) → MayAskAt P stores c (at code slot)) where
  pub asks_by_code : (n s : ℕ) (m : Machine) → AnyhowWithin P c code n s m
  asks_by_code zero s m = tt
  asks_by_code (suc n) s m = go (step c code s m) (of_step P stores c code may s m) (λ t k. asks_by_code n t k)
    where
      go : (o : Outcome) → StepsOpen P stores o → ((t : ℕ) (k : Machine) → AnyhowWithin P c code n t k) → StepAnyhow P (AnyhowWithin P c code n) o
      go Stuck a more = tt
      go (Goes t k) a more = more t k
      go (Asks q t on) a more = (a, λ v. more t (on v))
      go (Ends x) a more = tt

-- what a run asks of two sorts it asks of both
module _ (P Q : Query → Type 0) (c : Callback) (code : Code) where
  asks_both : (n s : ℕ) (m : Machine) → AnyhowWithin P c code n s m → AnyhowWithin Q c code n s m → AnyhowWithin (λ q. P q × Q q) c code n s m
  asks_both zero s m a b = tt
  asks_both (suc n) s m a b = go (step c code s m) a b (λ t k x y. asks_both n t k x y)
    where
      go : (o : Outcome) → StepAnyhow P (AnyhowWithin P c code n) o → StepAnyhow Q (AnyhowWithin Q c code n) o
          → ((t : ℕ) (k : Machine) → AnyhowWithin P c code n t k → AnyhowWithin Q c code n t k → AnyhowWithin (λ q. P q × Q q) c code n t k)
          → StepAnyhow (λ q. P q × Q q) (AnyhowWithin (λ q. P q × Q q) c code n) o
      go Stuck a b more = tt
      go (Goes t k) a b more = more t k a b
      go (Asks q t on) a b more = ((a.0, b.0), λ v. more t (on v) (a.1 v) (b.1 v))
      go (Ends x) a b more = tt

reads_by_code : (h : Hidden) (c : Callback) (o : Option Insn) → may_read h o ≡ false → MayAskAt (ReadsNone h) (λ t f n. tt) c o
reads_by_code h c None e = tt
reads_by_code h c (Some (insn.Load a d b offset)) e = λ t f is. subst (λ (x : Option Field). is_hidden_field h x ≡ false) is e
reads_by_code h c (Some (insn.Call k)) e = (λ f v is free. tt, λ f is free. tt)
reads_by_code h c (Some i) e = tt

-- programs with no such instruction read nothing of what is hidden
pub such_programs_read_none : SuchProgramsReadNone
such_programs_read_none h p unread b = go (program_of p b) (unread b)
  where
    go : (o : Option VerifiedProgram) → IsUnread h o → IfAsksAnyhow (ReadsNone h) b o
    go None fine = tt
    go (Some q) fine = λ n a maps. asks_by_code (ReadsNone h) (λ t f k. tt) b q.code (λ slot. reads_by_code h b (at q.code slot) (fine slot)) n 0 (start a maps)

apart : true ≡ false → ⊥
apart e = absurd (cc)

no_slice : (f : Field) → is_slice f ≡ false → (t : TaskId) → LoadsNo Slice (Load t f)
no_slice Slice e t = absurd (apart e)
no_slice f e t = refl

slices_by_code : (c : Callback) (o : Option Insn) → loads_some is_slice o ≡ false → MayAskAt (LoadsNo Slice) (λ t f n. tt) c o
slices_by_code c None e = tt
slices_by_code c (Some (insn.Load a d b offset)) e = λ t f is. no_slice f (subst (λ (x : Option Field). is_some_field is_slice x ≡ false) is e) t
slices_by_code c (Some (insn.Call k)) e = (λ f v is free. tt, λ f is free. tt)
slices_by_code c (Some i) e = tt

-- and programs that load none, and give one at each insert, tell no slices
pub such_programs_tell_no_slices : SuchProgramsTellNoSlices
such_programs_tell_no_slices c code none given n a maps =
    asks_both (LoadsNo Slice) GivesOne c code n 0 (start a maps) (asks_by_code (LoadsNo Slice) (λ t f k. tt) c code (λ slot. slices_by_code c (at code slot) (none slot)) n 0 (start a maps)) (given n a maps)

pub busy_load : (d : ℕ → Bool) (w : WorldState) (q : Query) → LoadsNo Slice q → LoadsBusyOf d w q
busy_load d w (Load t Slice) e = absurd (apart e)
busy_load d w (Load t f) e = tt
busy_load d w (Call f a) e = tt
busy_load d w (Store t f n) e = tt

-- ---- what is left out

module _ (h : Omitted) where
  -- what a program asks that tells nothing of what is left out, whatever it is given and answered
  pub program_tells : (c : Callback) (code : Code) → AsksAnyhow (ReadsNone h.parts) c code → IfAny h.idle (AsksAnyhow TellsNoSlice c code) → (n : ℕ) (a : Arguments) (maps : Maps) (w : WorldState) → AsksWithin (IsTold h) c code n 0 (start a maps) w
  program_tells c code reads (inl none) n a maps w = asks_so (ReadsNone h.parts) (IsTold h) (λ v q k. (k, inl none)) c code n 0 (start a maps) w (reads n a maps)
  program_tells c code reads (inr tells) n a maps w =
      asks_so (λ q. ReadsNone h.parts q × TellsNoSlice q) (IsTold h) (λ v q k. (k.0, inr (busy_load h.idle v q k.1.0, k.1.1))) c code n 0 (start a maps) w
      (asks_both (ReadsNone h.parts) TellsNoSlice c code n 0 (start a maps) (reads n a maps) (tells n a maps))

  -- ---- two worlds that are the same but for that

  module _ (v w : WorldState) (same : omit h v ≡ omit h w) where
    busy_there : (q : Query) → LoadsBusyOf h.idle v q → LoadsBusyOf h.idle w q
    busy_there (Load t Slice) k = subst (λ (x : WorldState). is_idle_of h.idle x t.0 ≡ false) same k
    busy_there (Load t f) k = tt
    busy_there (Call f a) k = tt
    busy_there (Store t f n) k = tt

    -- a query is such in both
    told_there : (q : Query) → IsTold h v q → IsTold h w q
    told_there q k = (k.0, if_any h.idle (λ x. (busy_there q x.0, x.1)) k.1)

    -- it is answered alike
    answers_alike : (q : Query) → IsTold h v q → answer v q ≡ answer w q
    answers_alike q k = answer_same h q v k ∙ ap (λ (x : WorldState). answer x q) same ∙ sym (answer_same h q w (told_there q k))

    -- and leaves such worlds
    left_alike : (q : Query) → IsTold h v q → omit h (left v q) ≡ omit h (left w q)
    left_alike q k =
        let gives = if_any h.idle (λ x. x.1) k.1 in
        hides_query h q gives v ∙ ap (λ (x : WorldState). omit h (left x q)) same ∙ sym (hides_query h q gives w)

  -- what a run asks in one it asks in the other one
  asks_there : (c : Callback) (code : Code) (n s : ℕ) (m : Machine) (v w : WorldState) → omit h v ≡ omit h w → AsksWithin (IsTold h) c code n s m v → AsksWithin (IsTold h) c code n s m w
  asks_there c code zero s m v w same asks = tt
  asks_there c code (suc n) s m v w same asks = go (step c code s m) asks (λ t k x y e a. asks_there c code n t k x y e a)
    where
      go : (o : Outcome) → StepAsks (IsTold h) (AsksWithin (IsTold h) c code n) o v
          → ((t : ℕ) (k : Machine) (x y : WorldState) → omit h x ≡ omit h y → AsksWithin (IsTold h) c code n t k x → AsksWithin (IsTold h) c code n t k y)
          → StepAsks (IsTold h) (AsksWithin (IsTold h) c code n) o w
      go Stuck a more = tt
      go (Goes t k) a more = more t k v w same a
      go (Asks q t on) a more = (
        told_there v w same q a.0,
        subst (λ (x : Value). AsksWithin (IsTold h) c code n t (on x) (left w q)) (answers_alike v w same q a.0) (more t (on (answer v q)) (left v q) (left w q) (left_alike v w same q a.0) a.1),
      )
      go (Ends x) a more = tt

-- so do callbacks that are called
call_there : (h : Omitted) (c d : CallMade) → omit_call h c ≡ omit_call h d → CallAsks (IsTold (in_call h c)) c → CallAsks (IsTold (in_call h d)) d
call_there h c d same asks n =
    subst (λ (x : CallMade). AsksWithin (IsTold (in_call h x)) x.callback x.program.code n 0 (started x) d.world) same
    (asks_there (in_call h c) c.callback c.program.code n 0 (started c) c.world d.world worlds (asks n))
  where
    started : CallMade → Machine
    started x = start (program_arguments x.arguments) x.maps

    worlds : omit (in_call h c) c.world ≡ omit (in_call h c) d.world
    worlds = ap (λ (x : CallMade). x.world) same ∙ ap (λ (x : CallMade). omit (in_call h x) d.world) (sym same)

pub calls_there : (h : Omitted) (p : PolicyState) (cs ds : List CallMade) → map (omit_call h) cs ≡ map (omit_call h) ds → OwnCallsAsk (λ c. IsTold (in_call h c)) p cs → OwnCallsAsk (λ c. IsTold (in_call h c)) p ds
calls_there h p [] [] same asks = tt
calls_there h p [] (d ∷ ds) same asks = absurd (cc)
calls_there h p (c ∷ cs) [] same asks = absurd (cc)
calls_there h p (c ∷ cs) (d ∷ ds) same asks = (
  λ own. call_there h c d (first same) (asks.0 (subst (λ (x : CallMade). program_of p x.callback ≡ Some x.program) (sym (first same)) own)),
  calls_there h p cs ds (rest same) asks.1,
)
  where
    first : omit_call h c ∷ map (omit_call h) cs ≡ omit_call h d ∷ map (omit_call h) ds → omit_call h c ≡ omit_call h d
    first e = cc

    rest : omit_call h c ∷ map (omit_call h) cs ≡ omit_call h d ∷ map (omit_call h) ds → map (omit_call h) cs ≡ map (omit_call h) ds
    rest e = cc

-- ---- how a run ends

module _ (h : Omitted) where
  -- but for what is left out
  abbrev pub omit_ending : Ending WorldState → Ending WorldState
  omit_ending e = record e { outside = omit h e.outside }

  run_same : (c : Callback) (code : Code) (n s : ℕ) (m : Machine) (v w : WorldState) → omit h v ≡ omit h w → AsksWithin (IsTold h) c code n s m v → omit_ending (ran c code n s m v) ≡ omit_ending (ran c code n s m w)
  run_same c code zero s m v w same asks = ap (λ (x : WorldState). ended None m x) same
  run_same c code (suc n) s m v w same asks = go (step c code s m) asks (λ t k x y e a. run_same c code n t k x y e a)
    where
      go : (o : Outcome) → StepAsks (IsTold h) (AsksWithin (IsTold h) c code n) o v
          → ((t : ℕ) (k : Machine) (x y : WorldState) → omit h x ≡ omit h y → AsksWithin (IsTold h) c code n t k x → omit_ending (ran c code n t k x) ≡ omit_ending (ran c code n t k y))
          → omit_ending (goes_on c code n o m v) ≡ omit_ending (goes_on c code n o m w)
      go Stuck a more = ap (λ (x : WorldState). ended None m x) same
      go (Goes t k) a more = more t k v w same a
      go (Asks q t on) a more =
          more t (on (answer v q)) (left v q) (left w q) (left_alike h v w same q a.0) a.1
          ∙ ap (λ (x : Value). omit_ending (ran c code n t (on x) (left w q))) (answers_alike h v w same q a.0)
      go (Ends x) a more = ap (λ (u : WorldState). ended (Some x) m u) same

  -- where its run in one of them asks nothing of it, a program ends alike in both
  pub program_same : (c : Callback) (code : Code) (a : Arguments) (maps : Maps) (v w : WorldState) → omit h v ≡ omit h w → ((n : ℕ) → AsksWithin (IsTold h) c code n 0 (start a maps) v)
      → omit_ending (run_of (answer_to world_functions) (after_query world_functions) c code a maps v) ≡ omit_ending (run_of (answer_to world_functions) (after_query world_functions) c code a maps w)
  unfolding run_of
  program_same c code a maps v w same asks = run_same c code (suc (instruction_count code)) 0 (start a maps) v w same (asks (suc (instruction_count code)))

  -- ---- what a run wants to insert

  abbrev Wanted : WorldState → Type 0
  Wanted w = IfAny h.idle (Wants w.call.insert)

  run_wants : (c : Callback) (code : Code) (n s : ℕ) (m : Machine) (w : WorldState) → AsksWithin (IsTold h) c code n s m w → Wanted w → Wanted (ran c code n s m w).outside
  run_wants c code zero s m w asks k = k
  run_wants c code (suc n) s m w asks k = go (step c code s m) asks (λ t x v a y. run_wants c code n t x v a y)
    where
      go : (o : Outcome) → StepAsks (IsTold h) (AsksWithin (IsTold h) c code n) o w
          → ((t : ℕ) (x : Machine) (v : WorldState) → AsksWithin (IsTold h) c code n t x v → Wanted v → Wanted (ran c code n t x v).outside)
          → Wanted (goes_on c code n o m w).outside
      go Stuck a more = k
      go (Goes t x) a more = more t x w a k
      go (Asks q t on) a more = more t (on (answer w q)) (left w q) a.1 (if_both h.idle (λ x y. wants_query w q x.1 y) a.0.1 k)
      go (Ends x) a more = k

  -- what a run wants to insert that asks nothing else has a slice
  pub program_wants : (c : Callback) (code : Code) (a : Arguments) (maps : Maps) (w : WorldState) → ((n : ℕ) → AsksWithin (IsTold h) c code n 0 (start a maps) w) → Wanted w → Wanted (run_of (answer_to world_functions) (after_query world_functions) c code a maps w).outside
  unfolding run_of
  program_wants c code a maps w asks k = run_wants c code (suc (instruction_count code)) 0 (start a maps) w (asks (suc (instruction_count code))) k
