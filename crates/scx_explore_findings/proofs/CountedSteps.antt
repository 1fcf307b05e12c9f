-- Callbacks, puts and local queues under plain rules, as long as the policy is in force: they lead from two states that are the
-- same but for what ticks count to two such states, or eject the policy in both for one cause.
use Rattle.std.proofs.Common.{◌≡◌, ℕ, zero, suc, Bool, true, false, cond, ◌&&◌, is_none, is_some, Option, Some, None, refl, sym, ap, ◌∙◌, subst}
use Rattle.scx_dsq.specs.Queues.{front_of}
use Rattle.scx_isa_semantics.specs.declared.callbacks.Callback.{Callback}
use Rattle.scx_isa_semantics.specs.declared.callbacks.Callback.TheVariants as callback
use Rattle.scx_isa_semantics.specs.Elements.{Maps}
use Rattle.scx_isa_semantics.specs.Endings.{Ending}
use Rattle.scx_vm.specs.Programs.{VerifiedProgram}
use Rattle.scx_vm.specs.Arguments.{program_arguments}
use Rattle.scx_vm.specs.declared.arguments.Args.{Args}
use Rattle.scx_sched_world.specs.declared.call.Insert.{Insert}
use Rattle.scx_sched_world.specs.declared.eject.Cause.{Cause}
use Rattle.scx_sched_world.specs.declared.eject.Eject.{Eject}
use Rattle.scx_sched_world.specs.Ids.{global, local_on}
use Rattle.scx_sched_world.specs.World as world
use Rattle.scx_sched_world.specs.World.{WorldState, are_linux, at_callback}
use Rattle.scx_sched_world.specs.Tasks.{after_enter, fill_front, after_fill, put_parked, after_leave, next_for}
use Rattle.scx_sched_world.specs.Ejecting.{eject_of}
use Rattle.scx_sched_policy.specs.Policy.{PolicyState, program_of}
use Rattle.scx_sched_machine.specs.Steps.{State, Stepped, with_world, is_ejected, is_by_linux, one_after_other}
use Rattle.scx_sched_machine.specs.Ejecting.{eject, ejected_for}
use Rattle.scx_sched_machine.specs.Callbacks.{call_ending, after_callback, cause_of, unless_ejected, acting, call_back, answered_by, task_and_number}
use Rattle.scx_sched_machine.specs.Put.{enters, enqueue_choice, enters_builtin, comes_in, put}
use Rattle.scx_sched_machine.specs.Filling.{fill}
use Rattle.scx_sched_machine.specs.Parking.{park, if_throttled, park_then, park_next, clear, in_reach, supply}
use Rattle.scx_sched_machine.proofs.Choices.{keeps_if}
use Rattle.scx_sched.proofs.Unchanged.{IsAsBefore, same_entered, same_put_builtin, same_put_parked, same_called, eject_sets, same_brought}
use Rattle.scx_sched.proofs.Blaming.{apart, honest_call_back}
use Rattle.scx_explore_findings.specs.Asked.{IfAsksAnyhow, AskAnyhow}
use Rattle.scx_explore_findings.specs.Counted.{without_counts, uncounted_state, LoadsNoCount}
use Rattle.scx_explore_findings.proofs.CountedWorlds.{Same, Leaves, plain, across, throttled_same, leaves_leave, leaves_brought, leaves_parked, leaves_enter}
use Rattle.scx_explore_findings.proofs.CountedRuns.{uncounted_ending, program_same}
use Rattle.scx_explore_findings.proofs.PairedSteps.{cause_same}

-- one of two, by tests that both say no
pub otherwise : {A : Type 0} (P : A → A → Type 0) (b c : Bool) (x x' y y' : A) → b ≡ false → c ≡ false → P y y' → P (cond b x y) (cond c x' y')
otherwise P b c x x' y y' e f q = subst (λ (d : Bool). P (cond d x y) (cond c x' y')) (sym e) (subst (λ (d : Bool). P y (cond d x' y')) (sym f) q)

-- and where both say yes
pub surely : {A : Type 0} (P : A → A → Type 0) (b c : Bool) (x x' y y' : A) → b ≡ true → c ≡ true → P x x' → P (cond b x y) (cond c x' y')
surely P b c x x' y y' e f q = subst (λ (d : Bool). P (cond d x y) (cond c x' y')) (sym e) (subst (λ (d : Bool). P x (cond d x' y')) (sym f) q)

as_it_is : (w : WorldState) → IsAsBefore w w
as_it_is w = (refl, refl, refl, refl, refl, refl)

-- a step leaves the policy out of force that is so
abbrev pub StaysOut : (State → Stepped) → Type 0
StaysOut f = (s : State) (x : Eject) → s.world.ejected ≡ Some x → (f s).state.world.ejected ≡ Some x

pub not_linux : (w : WorldState) → are_linux w.rules ≡ false → world.is_by_linux w ≡ false
not_linux w e = ap (λ (b : Bool). b && is_none w.ejected) e

-- ---- what stays out of force

pub out_call_back : (b : Callback) (a : Args) (u c : ℕ) → (b ≡ callback.SelectCpu → ⊥) → StaysOut (λ s. call_back s b a u c)
out_call_back b a u c other s x out = (honest_call_back s b a u c (λ is. absurd (other is))).stays x out

pub out_enters : (u : ℕ) (i : Insert) → StaysOut (λ s. enters s u i)
unfolding enters
out_enters u i s x out = (same_entered s.world s.world u i (as_it_is s.world)).1 ∙ out

abbrev choice_in : ℕ → State → Insert
choice_in c s = enqueue_choice s.policy.callbacks.enqueue c s.world.call.insert

out_comes_in : (u c : ℕ) → StaysOut (λ s. comes_in s u c)
unfolding comes_in enters_builtin
out_comes_in u c s x out =
    keeps_if (λ (r : Stepped). r.state.world.ejected ≡ Some x) (is_ejected s) (enters_builtin s u) (enters s u (choice_in c s)) ((same_put_builtin s.world s.world u (as_it_is s.world)).1 ∙ out) (out_enters u (choice_in c s) s x out)

no_choice : callback.Enqueue ≡ callback.SelectCpu → ⊥
no_choice e = absurd (cc)

pub out_put : (u c flags : ℕ) → StaysOut (λ s. put s u c flags)
unfolding put
out_put u c flags s x out =
    out_comes_in u c (call_back s callback.Enqueue (task_and_number u flags) u c).state x (out_call_back callback.Enqueue (task_and_number u flags) u c no_choice s x out)

-- ---- two states

-- two states are the same but for what ticks count, by plain rules, under that policy, which is in force
pub record IsEvenUnder (p : PolicyState) (s t : State) : Type 0 where
  pub same : uncounted_state s ≡ uncounted_state t
  pub force : s.world.ejected ≡ None
  pub rules : are_linux s.world.rules ≡ false
  pub policy : s.policy ≡ p

module _ (p : PolicyState) (told : AskAnyhow LoadsNoCount p) where
  abbrev pub IsEven : State → State → Type 0
  IsEven s t = IsEvenUnder p s t

  -- or the policy is out of force in both for one cause
  abbrev pub Ends : State → State → Type 0
  Ends s t = (s.world.ejected ≡ t.world.ejected) × (s.world.ejected ≡ None → IsEven s t)

  abbrev pub Meet : Stepped → Stepped → Type 0
  Meet r q = Ends r.state q.state

  -- a step does so from two such states
  abbrev pub On : (State → Stepped) → Type 0
  On f = (s t : State) → IsEven s t → Ends (f s).state (f t).state

  -- and leaves the policy in force
  abbrev pub Still : (State → Stepped) → Type 0
  Still f = (s t : State) → IsEven s t → IsEven (f s).state (f t).state

  pub even_ends : (s t : State) → IsEven s t → Ends s t
  even_ends s t e = (ap (λ (x : State). x.world.ejected) e.same, λ force. e)

  pub even_back : (s t : State) → IsEven s t → IsEven t s
  even_back s t e = record {
    same = sym e.same;
    force = sym (ap (λ (x : State). x.world.ejected) e.same) ∙ e.force;
    rules = ap (λ (x : State). are_linux x.world.rules) (sym e.same) ∙ e.rules;
    policy = ap (λ (x : State). x.policy) (sym e.same) ∙ e.policy;
  }

  pub worlds_same : (s t : State) → IsEven s t → Same s.world t.world
  worlds_same s t e = ap (λ (x : State). x.world) e.same

  -- by plain rules
  pub plainly : (s t : State) → IsEven s t → is_by_linux s ≡ false
  plainly s t e = not_linux s.world e.rules

  pub plainly_there : (s t : State) → IsEven s t → is_by_linux t ≡ false
  plainly_there s t e = not_linux t.world (even_back s t e).rules

  pub in_force : (s t : State) → IsEven s t → is_ejected s ≡ false
  in_force s t e = ap is_some e.force

  pub in_force_there : (s t : State) → IsEven s t → is_ejected t ≡ false
  in_force_there s t e = ap is_some (even_back s t e).force

  -- ---- how steps are made of others

  calm : (f : State → Stepped) → Still f → On f
  calm f k s t e = even_ends (f s).state (f t).state (k s t e)

  -- after two such states a step that leaves an ejection
  pub after_ends : (g : State → Stepped) → On g → StaysOut g → (s t : State) → Ends s t → Ends (g s).state (g t).state
  after_ends g on out s t h = go s.world.ejected refl
    where
      go : (o : Option Eject) → s.world.ejected ≡ o → Ends (g s).state (g t).state
      go None is = on s t (h.1 is)
      go (Some x) is =
          let here = out s x is in
          let there = out t x (sym h.0 ∙ is) in
          (here ∙ sym there, λ force. absurd (apart (g s).state.world.ejected x force here))

  -- one step after another
  pub chain : (f g : State → Stepped) → On f → On g → StaysOut g → On (λ s. let r = f s in one_after_other r (g r.state))
  chain f g x y out s t e = after_ends g y out (f s).state (f t).state (x s t e)

  -- a world that is changed
  pub even_worlds : (s t : State) → IsEven s t → (v w : WorldState) → Same v w → v.ejected ≡ None → are_linux v.rules ≡ false → IsEven (with_world s v) (with_world t w)
  even_worlds s t e v w same force rules = record {
    same = ap (λ (u : WorldState). with_world s u) same ∙ ap (λ (x : State). with_world x (without_counts w)) e.same;
    force = force;
    rules = rules;
    policy = e.policy;
  }

  pub even_step : (f : WorldState → WorldState) → Leaves f → (s t : State) → IsEven s t → (f s.world).ejected ≡ s.world.ejected → (f s.world).rules ≡ s.world.rules → IsEven (with_world s (f s.world)) (with_world t (f t.world))
  even_step f k s t e out rules = even_worlds s t e (f s.world) (f t.world) (across f k s.world t.world (worlds_same s t e)) (out ∙ e.force) (ap are_linux rules ∙ e.rules)

  -- by a step that keeps clock, ejection, tree and rules
  even_as : (f : WorldState → WorldState) → Leaves f → ((w : WorldState) → IsAsBefore w (f w)) → (s t : State) → IsEven s t → IsEven (with_world s (f s.world)) (with_world t (f t.world))
  even_as f k before s t e = even_step f k s t e (before s.world).1 (before s.world).4

  -- ---- local queues

  leaves_fill : (q c : ℕ) → Leaves (λ w. after_fill w q c)
  leaves_fill q c w = leaves_brought (fill_front w q c) c w

  pub still_fill : (q c : ℕ) → Still (λ s. fill s q c)
  unfolding fill
  still_fill q c = even_as (λ w. after_fill w q c) (leaves_fill q c) (λ w. same_brought (fill_front w q c) w c)

  pub still_park : (u : ℕ) → Still (λ s. park s u)
  unfolding park
  still_park u = even_as (λ w. put_parked w u) (leaves_parked u) (λ w. same_put_parked w w u (as_it_is w))

  pub still_leave_queue : (u : ℕ) (s t : State) → IsEven s t → IsEven (with_world s (after_leave s.world u)) (with_world t (after_leave t.world u))
  still_leave_queue u s t e = even_step (λ w. after_leave w u) (leaves_leave u) s t e refl refl

  still_park_then : (next : State → Stepped) → Still next → (o : Option ℕ) → Still (λ s. park_then next s o)
  still_park_then next more None s t e = e
  still_park_then next more (Some u) s t e =
      let x = with_world s (after_leave s.world u) in
      let y = with_world t (after_leave t.world u) in
      more (park x u).state (park y u).state (still_park u x y (still_leave_queue u s t e))

  if_same : (o : Option ℕ) (w : WorldState) → if_throttled w o ≡ if_throttled (without_counts w) o
  if_same None w = refl
  if_same (Some u) w = ap (λ (b : Bool). cond b (Some u) None) (throttled_same w u)

  throttled_there : (o : Option ℕ) (v w : WorldState) → Same v w → if_throttled v o ≡ if_throttled w o
  throttled_there o v w same = if_same o v ∙ ap (λ (x : WorldState). if_throttled x o) same ∙ sym (if_same o w)

  -- what is parked of that task, if it is throttled
  still_if : (next : State → Stepped) → Still next → (pick : WorldState → Option ℕ) → ((w : WorldState) → pick w ≡ pick (without_counts w)) → Still (λ s. park_then next s (if_throttled s.world (pick s.world)))
  still_if next more pick alike s t e =
      let same = worlds_same s t e in
      let at : pick s.world ≡ pick t.world = alike s.world ∙ ap pick same ∙ sym (alike t.world) in
      subst (λ (o : Option ℕ). IsEven (park_then next s (if_throttled s.world (pick s.world))).state (park_then next t o).state)
      (throttled_there (pick s.world) s.world t.world same ∙ ap (if_throttled t.world) at)
      (still_park_then next more (if_throttled s.world (pick s.world)) s t e)

  pub still_park_next : (n q c : ℕ) → Still (λ s. park_next n s q c)
  unfolding park_next
  still_park_next zero q c s t e = e
  still_park_next (suc n) q c s t e = still_if (λ r. park_next n r q c) (still_park_next n q c) (λ w. next_for w q c) (λ w. refl) s t e

  still_clear : (n c : ℕ) → Still (λ s. clear n s c)
  unfolding clear
  still_clear zero c s t e = e
  still_clear (suc n) c s t e =
      still_if (λ r. clear n r c) (still_clear n c) (λ w. front_of w.queues (local_on c)) (λ w. refl) (fill s global c).state (fill t global c).state (still_fill global c s t e)

  pub still_supply : (c : ℕ) → Still (λ s. supply s c)
  unfolding supply
  still_supply c s t e =
      subst (λ (n : ℕ). IsEven (clear (in_reach s c) s c).state (clear n t c).state) (ap (λ (x : State). in_reach x c) e.same) (still_clear (in_reach s c) c s t e)

  -- ---- callbacks

  called_same : (b : Callback) (o : Option VerifiedProgram) → IfAsksAnyhow LoadsNoCount b o → (a : Args) (maps : Maps) (v w : WorldState) → Same v w → uncounted_ending (call_ending o b a maps v) ≡ uncounted_ending (call_ending o b a maps w)
  unfolding call_ending
  called_same b None none a maps v w same = ap (λ (x : WorldState). record { answer = Some 0; maps = maps; outside = x }) same
  called_same b (Some q) none a maps v w same = program_same b q.code none (program_arguments a) maps v w same

  acts : (s t : State) → IsEven s t → (b : Callback) → acting s b ≡ program_of p b
  acts s t e b = ap (λ (o : Option Eject). unless_ejected o (program_of s.policy b)) e.force ∙ ap (λ (q : PolicyState). program_of q b) e.policy

  module _ (b : Callback) (a : Args) (u c : ℕ) where
    -- how its program ends
    abbrev pub end_of : State → Ending WorldState
    end_of s = call_ending (acting s b) b a s.maps (at_callback s.world b u c)

    pub end_same : (s t : State) → IsEven s t → uncounted_ending (end_of s) ≡ uncounted_ending (end_of t)
    end_same s t e =
        let o = program_of p b in
        let v = at_callback s.world b u c in
        let w = at_callback t.world b u c in
        let same : Same v w = across (λ (x : WorldState). at_callback x b u c) (λ (x : WorldState). plain (at_callback x b u c)) s.world t.world (worlds_same s t e) in
        ap (λ (q : Option VerifiedProgram). uncounted_ending (call_ending q b a s.maps v)) (acts s t e b)
        ∙ called_same b o (told b) a s.maps v w same
        ∙ ap (λ (m : Maps). uncounted_ending (call_ending o b a m w)) (ap (λ (x : State). x.maps) e.same)
        ∙ sym (ap (λ (q : Option VerifiedProgram). uncounted_ending (call_ending q b a t.maps w)) (acts t s (even_back s t e) b))

    -- before its cause is looked at
    called_even : (s t : State) → IsEven s t → IsEven (after_callback s.policy (end_of s)) (after_callback t.policy (end_of t))
    called_even s t e =
        let before = same_called (acting s b) b a s.maps (at_callback s.world b u c) in
        record {
          same =
              ap (λ (x : Ending WorldState). after_callback s.policy x) (end_same s t e)
              ∙ ap (λ (q : PolicyState). after_callback q (uncounted_ending (end_of t))) (ap (λ (x : State). x.policy) e.same);
          force = before.1 ∙ e.force;
          rules = ap are_linux before.4 ∙ e.rules;
          policy = e.policy;
        }

  ejects : (x : Cause) (s t : State) → IsEven s t → Ends (eject s (eject_of x s.world.clock)).state (eject t (eject_of x t.world.clock)).state
  ejects x s t e =
      let here = (eject_sets s (eject_of x s.world.clock)).1 in
      let there = (eject_sets t (eject_of x t.world.clock)).1 in (
        here ∙ ap (λ (y : State). Some (eject_of x y.world.clock)) e.same ∙ sym there,
        λ force. absurd (apart (eject s (eject_of x s.world.clock)).state.world.ejected (eject_of x s.world.clock) force here),
      )

  ejected_ends : (o : Option Cause) (s t : State) → IsEven s t → Ends (ejected_for o s).state (ejected_for o t).state
  ejected_ends None s t e = even_ends s t e
  ejected_ends (Some x) s t e = ejects x s t e

  -- a callback is called, and what follows it
  pub on_call_back : (b : Callback) (a : Args) (u c : ℕ) → On (λ s. call_back s b a u c)
  unfolding call_back
  on_call_back b a u c s t e =
      let v = after_callback s.policy (end_of b a u c s) in
      let w = after_callback t.policy (end_of b a u c t) in
      let ends = end_same b a u c s t e in
      subst (λ (o : Option Cause). Ends (ejected_for (cause_of b (end_of b a u c s)) v).state (ejected_for o w).state) (cause_same b (end_of b a u c s) (end_of b a u c t) (ap (λ (x : Ending WorldState). x.answer) ends) (ap (λ (x : Ending WorldState). x.outside.call.cause) ends) (ap (λ (x : Ending WorldState). x.outside.cpus) ends))
      (ejected_ends (cause_of b (end_of b a u c s)) v w (called_even b a u c s t e))

  -- what it answers
  pub answered_same : (b : Callback) (a : Args) (u c : ℕ) (s t : State) → IsEven s t → answered_by s b a u c ≡ answered_by t b a u c
  unfolding answered_by
  answered_same b a u c s t e = ap (λ (x : Ending WorldState). x.answer) (end_same b a u c s t e)

  -- ---- a task that is put

  pub still_enters : (u : ℕ) (i : Insert) → Still (λ s. enters s u i)
  unfolding enters
  still_enters u i = even_as (λ w. after_enter w u i) (leaves_enter u i) (λ w. same_entered w w u i (as_it_is w))

  still_comes_in : (u c : ℕ) → Still (λ s. comes_in s u c)
  unfolding comes_in
  still_comes_in u c s t e =
      otherwise (λ (r q : Stepped). IsEven r.state q.state) (is_ejected s) (is_ejected t) (enters_builtin s u) (enters_builtin t u) (enters s u (choice_in c s)) (enters t u (choice_in c t)) (in_force s t e) (in_force_there s t e)
      (subst (λ (i : Insert). IsEven (enters s u (choice_in c s)).state (enters t u i).state) (ap (choice_in c) e.same) (still_enters u (choice_in c s) s t e))

  pub on_put : (u c flags : ℕ) → On (λ s. put s u c flags)
  unfolding put
  on_put u c flags =
      chain (λ s. call_back s callback.Enqueue (task_and_number u flags) u c) (λ s. comes_in s u c) (on_call_back callback.Enqueue (task_and_number u flags) u c)
      (calm (λ s. comes_in s u c) (still_comes_in u c)) (out_comes_in u c)
