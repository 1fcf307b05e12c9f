-- A program of dispatch that only moves tasks changes nothing where nobody waits.
use Rattle.std.proofs.Common.{arith, ◌≡◌, ℕ, zero, suc, ◌+◌, ◌-◌, ◌<◌, ◌≤◌, ◌^◌, ℤ, pos, negsuc, Bool, true, false, ◌&&◌, if◌then◌else◌, List, [], ◌∷◌, length, map, nat_eq, nat_lt, min, Option, Some, None, is_none, refl, sym, ap, ◌∙◌, subst}
use Rattle.std.specs.Prelude.{⊤, IfSome, option_map}
use Rattle.std.proofs.lemmas.Bool.{and_parts}
use Rattle.std.proofs.lemmas.Bool.Decides.{nat_tests}
use Rattle.scx_isa_semantics.specs.declared.callbacks.Callback.TheVariants as callback
use Rattle.scx_isa_semantics.specs.declared.host_tables.Helper.{Helper}
use Rattle.scx_isa_semantics.specs.declared.host_tables.Helper.TheVariants.{DsqMoveToLocal}
use Rattle.scx_isa_semantics.specs.declared.host_tables.Parameter.TheVariants as parameter
use Rattle.scx_isa_semantics.specs.declared.instructions.Insn.{Insn}
use Rattle.scx_isa_semantics.specs.declared.instructions.Insn.TheVariants as insn
use Rattle.scx_isa_semantics.specs.declared.instructions.Operand.{Operand}
use Rattle.scx_isa_semantics.specs.declared.instructions.Operand.TheVariants as operand
use Rattle.scx_isa_semantics.specs.declared.operations.Width.{Width}
use Rattle.scx_isa_semantics.specs.declared.operations.Width.TheVariants.{Bits32, Bits64}
use Rattle.scx_isa_semantics.specs.declared.operations.Operation.{Operation}
use Rattle.scx_isa_semantics.specs.declared.operations.Operation.TheVariants.{Move}
use Rattle.scx_isa_semantics.specs.declared.operations.Comparison.{Comparison}
use Rattle.scx_isa_semantics.specs.declared.operations.Comparison.TheVariants.{Equal, NotEqual}
use Rattle.scx_isa_semantics.specs.declared.registers.Register.{Register}
use Rattle.scx_isa_semantics.specs.declared.registers.Register.TheVariants.{R0, R1, R10}
use Rattle.scx_isa_semantics.specs.declared.values.Value.{Value}
use Rattle.scx_isa_semantics.specs.declared.values.Value.TheVariants.{Unset, Number}
use Rattle.scx_isa_semantics.specs.Arithmetic.{immediate, low, wide_immediate, at_distance}
use Rattle.scx_isa_semantics.specs.Calls.{takes, arguments, call_effect, call_helper, after_call}
use Rattle.scx_isa_semantics.specs.Code.{Code, at, size, instruction_count}
use Rattle.scx_isa_semantics.specs.Effects.{Effect, Stuck, Next, Jumped, Ask, Ended, Call, set_register, branch}
use Rattle.scx_isa_semantics.specs.Elements.{Maps}
use Rattle.scx_isa_semantics.specs.HostTables.{helper_at}
use Rattle.scx_isa_semantics.specs.Machine.{Machine, Arguments, start, with_register}
use Rattle.scx_isa_semantics.specs.Meaning.{act, comparison_answer, copy_of}
use Rattle.scx_isa_semantics.specs.Registers.{number}
use Rattle.scx_isa_semantics.specs.Runs.{LeadsTo, Leads}
use Rattle.scx_isa_semantics.specs.Steps.{Outcome, distance, goes, outcome_at, outcome_of, step}
use Rattle.scx_isa_semantics.specs.Steps as outcome
use Rattle.scx_vm.specs.Arguments.{argument_of}
use Rattle.scx_vm.specs.Host.{host}
use Rattle.scx_sched_world.specs.World.{WorldState}
use Rattle.scx_sched_world.specs.Tasks.{next_for}
use Rattle.scx_sched_world.specs.Helpers.{number_of, is_there, is_dispatch, can_move, move_answer, after_move, invalid, with_fault, one_if_some, moved_to_local, world_functions}
use Rattle.scx_sched_world.specs.declared.faults.Fault.TheVariants.{NoSuchQueue}
use Rattle.scx_sched_policy.specs.declared.vain.Asked.{Asked}
use Rattle.scx_sched_policy.specs.declared.vain.Known.{Known}
use Rattle.scx_sched_policy.specs.declared.vain.Part.{Part}
use Rattle.scx_sched_policy.specs.declared.vain.Part.TheVariants.{Sets, Jumps, Moves, Ends, Other}
use Rattle.scx_sched_policy.specs.declared.vain.When.{When}
use Rattle.scx_sched_policy.specs.declared.vain.When.TheVariants.{Always, OnZero, OnOther}
use Rattle.scx_sched_policy.specs.Vain.{queues_in, sets, forward, test_of, tested, moved_from, moved, called, part_of, nothing_known, asked_in_vain, known_after, jumped, one_more, both_known, on_from, walk_on, walk_at, walk, vain_queues, nobody_in, RunsInVain, OnlyAsks}

-- ---- what each part of a program does

-- the effect of an instruction by what it is to a walk
abbrev Acts : Insn → Part → Type 0
Acts i (Sets r n) = (m : Machine) → act callback.Dispatch i m ≡ Next (with_register m (number r) (Number n))
Acts i (Jumps Always d) = (size i ≡ 1) × (distance i ≡ pos d) × ((m : Machine) → act callback.Dispatch i m ≡ Jumped m)
Acts i (Jumps OnZero d) = (size i ≡ 1) × (distance i ≡ pos d) × ((m : Machine) → m.registers 0 ≡ Number 0 → act callback.Dispatch i m ≡ Jumped m)
Acts i (Jumps OnOther d) = (size i ≡ 1) × ((m : Machine) → m.registers 0 ≡ Number 0 → act callback.Dispatch i m ≡ Next m)
Acts i Moves = (size i ≡ 1) × ((m : Machine) (q : ℕ) → m.registers 1 ≡ Number q → act callback.Dispatch i m ≡ Ask (Call DsqMoveToLocal (arguments m DsqMoveToLocal)) (λ v. after_call m v))
Acts i Ends = (m : Machine) → act callback.Dispatch i m ≡ Ended 0
Acts i Other = ⊤

acts_set : (i : Insn) (r : Register) (n : ℕ) → ((m : Machine) → act callback.Dispatch i m ≡ set_register m (number r) (Some (Number n))) → Acts i (sets r n)
acts_set i R10 n h = tt
acts_set i r n h = h

copies : (w : Width) (n : ℕ) → copy_of w (Number n) ≡ Some (Number (low w n))
copies Bits32 n = refl
copies Bits64 n = refl

acts_moved : (w : Width) (r : Register) (x : Operand) → Acts (insn.Binary w Move r x) (moved_from w r x)
acts_moved w r (operand.Immediate k) = acts_set (insn.Binary w Move r (operand.Immediate k)) r (low w (immediate w k)) (λ m. ap (λ o. set_register m (number r) o) (copies w (immediate w k)))
acts_moved w r (operand.Register x) = tt

acts_binary : (w : Width) (o : Operation) (r : Register) (x : Operand) → Acts (insn.Binary w o r x) (moved w o r x)
acts_binary w Move r x = acts_moved w r x
acts_binary w o r x = tt

-- a comparison of r0 with 0, where it holds 0
by_zero : (w : Width) (c : Comparison) (b : Bool) (m : Machine) → m.registers 0 ≡ Number 0
    → comparison_answer m w c (Number 0) (operand.Immediate (pos 0)) ≡ Some b
    → comparison_answer m w c (m.registers 0) (operand.Immediate (pos 0)) ≡ Some b
by_zero w c b m e is = ap (λ v. comparison_answer m w c v (operand.Immediate (pos 0))) e ∙ is

equal : (w : Width) (m : Machine) → comparison_answer m w Equal (Number 0) (operand.Immediate (pos 0)) ≡ Some true
equal Bits32 m = refl
equal Bits64 m = refl

differs : (w : Width) (m : Machine) → comparison_answer m w NotEqual (Number 0) (operand.Immediate (pos 0)) ≡ Some false
differs Bits32 m = refl
differs Bits64 m = refl

-- a test of r0 for 0
abbrev zero_test : Width → Comparison → ℤ → Insn
zero_test w c d = insn.JumpIf w c R0 (operand.Immediate (pos 0)) d

acts_test : (w : Width) (c : Comparison) (d : ℤ) → Acts (zero_test w c d) (test_of c d)
acts_test w Equal (pos d) = (refl, refl, λ m e. ap (λ o. branch m o) (by_zero w Equal true m e (equal w m)))
acts_test w NotEqual (pos d) = (refl, λ m e. ap (λ o. branch m o) (by_zero w NotEqual false m e (differs w m)))
acts_test w c d = tt

-- a comparison with another number than 0
no_test : (i : Insn) (n : ℕ) (p : Part) → 0 < n → Acts i (if nat_eq n 0 then p else Other)
no_test i n p some = subst (λ b. Acts i (if b then p else Other)) (sym other) tt
  where
    other : nat_eq n 0 ≡ false
    other = grind (arith, nat_tests, some)

acts_tested : (w : Width) (c : Comparison) (r : Register) (x : Operand) (d : ℤ) → Acts (insn.JumpIf w c r x d) (tested r x c d)
acts_tested w c R0 (operand.Immediate (pos zero)) d = acts_test w c d
acts_tested w c R0 (operand.Immediate (pos (suc k))) d = no_test (insn.JumpIf w c R0 (operand.Immediate (pos (suc k))) d) (suc k) (test_of c d) (omega arith)
acts_tested w c R0 (operand.Immediate (negsuc k)) d = no_test (insn.JumpIf w c R0 (operand.Immediate (negsuc k)) d) (suc k) (test_of c d) (omega arith)
acts_tested w c r x d = tt

acts_goto : (d : ℤ) → Acts (insn.Goto d) (forward Always d)
acts_goto (pos d) = (refl, refl, λ m. refl)
acts_goto (negsuc d) = tt

-- a move whose queue is in r1
moving : (m : Machine) (q : ℕ) → m.registers 1 ≡ Number q → call_helper callback.Dispatch m (Some DsqMoveToLocal) ≡ Ask (Call DsqMoveToLocal (arguments m DsqMoveToLocal)) (λ v. after_call m v)
moving m q e = ap (λ v. if takes m parameter.Number v && true then call_effect m DsqMoveToLocal else Stuck) e

acts_call : (k : ℤ) (o : Option Helper) → helper_at k ≡ o → Acts (insn.Call k) (called o)
acts_call k None is = tt
acts_call k (Some DsqMoveToLocal) is = (refl, λ m q e. ap (λ h. call_helper callback.Dispatch m h) is ∙ moving m q e)
acts_call k (Some h) is = tt

acts : (i : Insn) → Acts i (part_of i)
acts (insn.Binary w o r x) = acts_binary w o r x
acts (insn.Negate w r) = tt
acts (insn.SignExtend e d r) = tt
acts (insn.ByteSwap o w r) = tt
acts (insn.LoadImmediate r low_half high_half) = acts_set (insn.LoadImmediate r low_half high_half) r (wide_immediate low_half high_half) (λ m. refl)
acts (insn.LoadMapReference r k) = tt
acts (insn.Load a d r offset) = tt
acts (insn.Store s r offset x) = tt
acts (insn.JumpIf w c r x d) = acts_tested w c r x d
acts (insn.Goto d) = acts_goto d
acts (insn.GotoLong d) = tt
acts (insn.Call k) = acts_call k (helper_at k) refl
acts insn.Exit = λ m. refl

-- ---- what is known of registers

-- registers hold what is known of them
record Knows (k : Known) (m : Machine) : Type 0 where
  zero : k.is_zero ≡ true → m.registers 0 ≡ Number 0
  first : (q : ℕ) → k.first ≡ Some q → m.registers 1 ≡ Number q

never : {A : Type 0} → false ≡ true → A
never e = absurd (cc)

given : {A : Type 0} {x : A} {P : Type 0} → None ≡ Some x → P
given e = absurd (cc)

some_is : {A : Type 0} (x y : A) → Some x ≡ Some y → x ≡ y
some_is x y e = cc

number_is : (n q : ℕ) → Some n ≡ Some q → Number n ≡ Number q
number_is n q e = cc

knows_after : (k : Known) (m : Machine) (r : Register) (n : ℕ) → Knows k m → Knows (known_after k r n) (with_register m (number r) (Number n))
knows_after k m R0 n h = record { zero = λ e. never e; first = h.first }
knows_after k m R1 n h = record { zero = h.zero; first = λ q e. number_is n q e }
knows_after k m r n h = record { zero = h.zero; first = h.first }

knows_asked : (m : Machine) → Knows asked_in_vain (after_call m (Number 0))
knows_asked m = record { zero = λ e. refl; first = λ q e. given e }

-- ---- a move in vain

-- a queue in which nobody waits answers 0 and stays as it is
none_moved : (w : WorldState) (q : ℕ) → w.call.callback ≡ callback.Dispatch → is_there w q ≡ true → next_for w q w.call.cpu ≡ None → (Number 0 ≡ Number (move_answer w q)) × (w ≡ after_move w q)
none_moved w q now there none = (ap (λ n. Number n) (sym answers), sym stays)
  where
    able : can_move w q ≡ true
    able = ap (λ b. is_dispatch b && is_there w q) now ∙ there

    answers : move_answer w q ≡ 0
    answers = ap (λ b. if b then one_if_some (next_for w q w.call.cpu) else invalid) able ∙ ap (λ o. one_if_some o) none

    stays : after_move w q ≡ w
    stays = ap (λ b. if b then moved_to_local w (next_for w q w.call.cpu) else with_fault w NoSuchQueue) able ∙ ap (λ o. moved_to_local w o) none

-- the world's answer to a move
asks_none : (w : WorldState) (m : Machine) (q : ℕ) → m.registers 1 ≡ Number q → w.call.callback ≡ callback.Dispatch → is_there w q ≡ true → next_for w q w.call.cpu ≡ None → (s : ℕ)
    → LeadsTo (host world_functions) (outcome.Asks (Call DsqMoveToLocal (arguments m DsqMoveToLocal)) s (λ v. after_call m v)) w s (after_call m (Number 0)) w
asks_none w m q e now there none s =
    let is = none_moved w q now there none in
    (Number 0, (subst (λ v. Number 0 ≡ Number (move_answer w (number_of (argument_of v)))) (sym e) is.0, subst (λ v. w ≡ after_move w (number_of (argument_of v))) (sym e) is.1, omega arith), refl, refl)

-- ---- the walk is a run

none_is : {A : Type 0} (o : Option A) → is_none o ≡ true → o ≡ None
none_is None e = refl
none_is (Some x) e = absurd (cc)

-- a run from a slot on to its end that leaves maps and world as they are
record Ran (code : Code) (n s : ℕ) (m : Machine) (w : WorldState) : Type 0 where
  before : ℕ
  slot : ℕ
  state : Machine
  leads : Leads (host world_functions) callback.Dispatch code before s m w slot state w
  ends : step callback.Dispatch code slot state ≡ outcome.Ends 0
  few : before < n
  left : state.maps ≡ m.maps

-- a step before such a run
ran_on : (code : Code) (n s : ℕ) (m : Machine) (w : WorldState) (t : ℕ) (k : Machine) → LeadsTo (host world_functions) (step callback.Dispatch code s m) w t k w → k.maps ≡ m.maps → Ran code n t k w → Ran code (suc n) s m w
ran_on code n s m w t k first same r = record {
  before = suc r.before;
  slot = r.slot;
  state = r.state;
  leads = (t, k, w, first, r.leads);
  ends = r.ends;
  few = omega (arith, r.few);
  left = r.left ∙ same;
}

-- where that instruction begins
steps_as : (code : Code) (s : ℕ) (m : Machine) (i : Insn) (e : Effect) → at code s ≡ Some i → act callback.Dispatch i m ≡ e → step callback.Dispatch code s m ≡ outcome_at s i e
steps_as code s m i e is does = ap (λ o. outcome_of callback.Dispatch s o m) is ∙ ap (λ x. outcome_at s i x) does

-- a jump that goes on
jumps_to : (s d : ℕ) (i : Insn) (m : Machine) → size i ≡ 1 → distance i ≡ pos d → outcome_at s i (Jumped m) ≡ outcome.Goes (s + 1 + d) m
jumps_to s d i m one far =
    ap (λ z. goes (at_distance (s + size i) z) m) far
    ∙ ap (λ n. outcome.Goes (s + n + d) m) one

goes_on : (code : Code) (s t : ℕ) (m k : Machine) (w : WorldState) → step callback.Dispatch code s m ≡ outcome.Goes t k → LeadsTo (host world_functions) (step callback.Dispatch code s m) w t k w
goes_on code s t m k w e = subst (λ o. LeadsTo (host world_functions) o w t k w) (sym e) (refl, refl, refl)

module _ (code : Code) (w : WorldState) (now : w.call.callback ≡ callback.Dispatch) where
  -- what a walk from some slot comes to, a run comes to
  abbrev Walks : ℕ → Type 0
  Walks n = (s : ℕ) (k : Known) (m : Machine) (qs : List ℕ) → Knows k m → walk code n s k ≡ Some qs → nobody_in w w.call.cpu qs ≡ true → Ran code n s m w

  by_jump : (n : ℕ) → Walks n → (s : ℕ) (k : Known) (m : Machine) (qs : List ℕ) (i : Insn) (when : When) (d : ℕ) → at code s ≡ Some i → Acts i (Jumps when d) → Knows k m
      → (b : Bool) → k.is_zero ≡ b → on_from (λ t l. walk code n t l) k (jumped (record k { is_zero = b }) when s d) ≡ Some qs → nobody_in w w.call.cpu qs ≡ true → Ran code (suc n) s m w
  by_jump n more s k m qs i Always d is (one, far, does) h b z e none =
      ran_on code n s m w (s + 1 + d) m (goes_on code s (s + 1 + d) m m w (steps_as code s m i (Jumped m) is (does m) ∙ jumps_to s d i m one far)) refl (more (s + 1 + d) k m qs h e none)
  by_jump n more s k m qs i OnZero d is (one, far, does) h true z e none =
      ran_on code n s m w (s + 1 + d) m (goes_on code s (s + 1 + d) m m w (steps_as code s m i (Jumped m) is (does m (h.zero z)) ∙ jumps_to s d i m one far)) refl (more (s + 1 + d) k m qs h e none)
  by_jump n more s k m qs i OnZero d is does h false z e none = given e
  by_jump n more s k m qs i OnOther d is (one, does) h true z e none =
      ran_on code n s m w (s + 1) m (goes_on code s (s + 1) m m w (steps_as code s m i (Next m) is (does m (h.zero z)) ∙ ap (λ x. outcome.Goes (s + x) m) one)) refl (more (s + 1) k m qs h e none)
  by_jump n more s k m qs i OnOther d is does h false z e none = given e

  -- the walk after a move
  by_move : (n : ℕ) → Walks n → (s : ℕ) (k : Known) (m : Machine) (qs : List ℕ) (i : Insn) → at code s ≡ Some i → Acts i Moves → Knows k m
      → (o : Option ℕ) → k.first ≡ o → (rest : Option (List ℕ)) → walk code n (s + 1) asked_in_vain ≡ rest → both_known o rest ≡ Some qs → nobody_in w w.call.cpu qs ≡ true → Ran code (suc n) s m w
  by_move n more s k m qs i is (one, does) h None f rest r e none = given e
  by_move n more s k m qs i is (one, does) h (Some q) f None r e none = given e
  by_move n more s k m qs i is (one, does) h (Some q) f (Some others) r e none = go (nat_lt (length others) 3) e
    where
      in_one : m.registers 1 ≡ Number q
      in_one = h.first q f

      asks : step callback.Dispatch code s m ≡ outcome.Asks (Call DsqMoveToLocal (arguments m DsqMoveToLocal)) (s + 1) (λ v. after_call m v)
      asks = steps_as code s m i (Ask (Call DsqMoveToLocal (arguments m DsqMoveToLocal)) (λ v. after_call m v)) is (does m q in_one)
          ∙ ap (λ x. outcome.Asks (Call DsqMoveToLocal (arguments m DsqMoveToLocal)) (s + x) (λ v. after_call m v)) one

      of_all : nobody_in w w.call.cpu (q ∷ others) ≡ true → Ran code (suc n) s m w
      of_all all =
          let parts = and_parts (nobody_in w w.call.cpu others) (is_there w q && is_none (next_for w q w.call.cpu)) all in
          let here = and_parts (is_there w q) (is_none (next_for w q w.call.cpu)) parts.1 in
          let leads = asks_none w m q in_one now here.0 (none_is (next_for w q w.call.cpu) here.1) (s + 1) in
          ran_on code n s m w (s + 1) (after_call m (Number 0)) (subst (λ o. LeadsTo (host world_functions) o w (s + 1) (after_call m (Number 0)) w) (sym asks) leads) refl
          (more (s + 1) asked_in_vain (after_call m (Number 0)) others (knows_asked m) r parts.0)

      same : (q ∷ others) ≡ qs → nobody_in w w.call.cpu (q ∷ others) ≡ true
      same e = ap (λ l. nobody_in w w.call.cpu l) e ∙ none

      go : (b : Bool) → (if b then Some (q ∷ others) else None) ≡ Some qs → Ran code (suc n) s m w
      go true e = of_all (same (some_is (q ∷ others) qs e))
      go false e = given e

  by_part : (n : ℕ) → Walks n → (s : ℕ) (k : Known) (m : Machine) (qs : List ℕ) (i : Insn) (p : Part) → at code s ≡ Some i → Acts i p → Knows k m
      → walk_on (λ t l. walk code n t l) s k i p ≡ Some qs → nobody_in w w.call.cpu qs ≡ true → Ran code (suc n) s m w
  by_part n more s k m qs i (Sets r x) is does h e none =
      let after = with_register m (number r) (Number x) in
      ran_on code n s m w (s + size i) after (goes_on code s (s + size i) m after w (steps_as code s m i (Next after) is (does m))) refl (more (s + size i) (known_after k r x) after qs (knows_after k m r x h) e none)
  by_part n more s k m qs i (Jumps when d) is does h e none = by_jump n more s k m qs i when d is does h k.is_zero refl e none
  by_part n more s k m qs i Moves is does h e none = by_move n more s k m qs i is does h k.first refl (walk code n (s + 1) asked_in_vain) refl e none
  by_part n more s k m qs i Ends is does h e none = record {
    before = 0;
    slot = s;
    state = m;
    leads = (refl, refl, refl);
    ends = steps_as code s m i (Ended 0) is (does m);
    few = omega arith;
    left = refl;
  }
  by_part n more s k m qs i Other is does h e none = given e

  walks_at : (n : ℕ) → Walks n → (s : ℕ) (k : Known) (m : Machine) (qs : List ℕ) (o : Option Insn) → at code s ≡ o → Knows k m
      → walk_at (λ t l. walk code n t l) s k o ≡ Some qs → nobody_in w w.call.cpu qs ≡ true → Ran code (suc n) s m w
  walks_at n more s k m qs None is h e none = given e
  walks_at n more s k m qs (Some i) is h e none = by_part n more s k m qs i (part_of i) is (acts i) h e none

  walks : (n : ℕ) → Walks n
  walks zero s k m qs h e none = given e
  walks (suc n) s k m qs h e none = walks_at n (walks n) s k m qs (at code s) refl h e none

-- a step of a walk that is a move
pub walk_moves : (code : Code) (n s : ℕ) (k : Known) (i : Insn) (r t : Option (List ℕ)) → 0 < n → at code s ≡ Some i → part_of i ≡ Moves → r ≡ walk code (n - 1) (s + 1) asked_in_vain → t ≡ both_known k.first r → t ≡ walk code n s k
walk_moves code zero s k i r t some is moves e f = absurd (omega (arith, some))
walk_moves code (suc n) s k i r t some is moves e f = sym (first ∙ second ∙ third)
  where
    same : suc n - 1 ≡ n
    same = omega arith

    first : walk code (suc n) s k ≡ walk_on (λ t l. walk code n t l) s k i (part_of i)
    first = ap (λ o. walk_at (λ t l. walk code n t l) s k o) is

    second : walk_on (λ t l. walk code n t l) s k i (part_of i) ≡ both_known k.first (walk code n (s + 1) asked_in_vain)
    second = ap (λ p. walk_on (λ t l. walk code n t l) s k i p) moves

    third : both_known k.first (walk code n (s + 1) asked_in_vain) ≡ t
    third = sym (f ∙ ap (λ x. both_known k.first x) (e ∙ ap (λ x. walk code x (s + 1) asked_in_vain) same))

-- a program asks these queues and does nothing else
pub only_asks : (code : Code) (qs : List ℕ) → vain_queues code ≡ Some qs → OnlyAsks code qs
unfolding vain_queues
only_asks code qs e a maps w now none =
    let unknown : Knows nothing_known (start a maps) = record { zero = λ z. never z; first = λ q f. given f } in
    let r = walks code w now (min 64 (instruction_count code)) 0 nothing_known (start a maps) qs unknown e none in
    record {
      steps = suc r.before;
      runs = record { before = r.before; slot = r.slot; state = r.state; leads = r.leads; ends = r.ends; length = refl; left = sym r.left };
      in_bound = omega (arith, r.few);
    }

-- as queues that are kept
pub means : (code : Code) (o : Option Asked) → option_map queues_in o ≡ vain_queues code → IfSome o (λ a. OnlyAsks code (queues_in a))
means code None e = tt
means code (Some a) e = only_asks code (queues_in a) (sym e)
