-- What a step does to the policy: it stays the one that it is, and is put out of force for a fault or an exit of a
-- callback, which is then the last that was called, and for nothing else; once it is out of force none is called, and
-- it stays so for that cause. Nor does a step change the clock, and of the tree only what its event decides. And what
-- Linux rules keep until an event ends is forgotten as the policy is put out of force.
use Rattle.std.proofs.Common.{◌≡◌, ℕ, ◌<◌, Bool, true, false, nat_lt, if◌then◌else◌, List, [], ◌∷◌, ◌++◌, length, Option, Some, None, is_none, refl, sym, ap, ◌∙◌, subst, append_assoc, arith, ◌&&◌, is_some}
use Rattle.std.proofs.lemmas.Bool.Decides.{nat_tests}
use Rattle.std.proofs.lemmas.List.{append-nil}
use Rattle.scx_isa_semantics.specs.declared.callbacks.Callback.{Callback}
use Rattle.scx_isa_semantics.specs.declared.callbacks.Callback.TheVariants as callback
use Rattle.scx_isa_semantics.specs.Endings.{Ending}
use Rattle.scx_vm.specs.Programs.{VerifiedProgram}
use Rattle.scx_vm.specs.declared.arguments.Args.{Args}
use Rattle.scx_weights.specs.Hierarchy.{Hierarchy, with_task, with_weight, with_own_weight}
use Rattle.scx_weights.specs.Limits.{with_use}
use Rattle.scx_weights.specs.declared.error.TreeError.{TreeError}
use Rattle.scx_weights.specs.Refusals.{weight_fault, own_weight_fault}
use Rattle.scx_sched_world.specs.declared.call.Insert.{Insert}
use Rattle.scx_sched_world.specs.declared.eject.Cause.{Cause}
use Rattle.scx_sched_world.specs.declared.eject.Eject.{Eject}
use Rattle.scx_sched_world.specs.declared.faults.Fault.{Fault}
use Rattle.scx_sched_world.specs.declared.notes.Note.{Note}
use Rattle.scx_sched_world.specs.declared.passing.Passing.{Passing}
use Rattle.scx_sched_world.specs.World as world
use Rattle.scx_sched_world.specs.World.{WorldState, are_linux, with_kick, without_kick, with_cycling, with_switch, with_slept, with_waker, choice, after_claim, with_tree, with_task as set_task, task_at, is_throttled, running, cpu_of, at_callback, quiet, out_of_cycle, with_timer_at_hand}
use Rattle.scx_sched_world.specs.Tasks.{to_front, homed, after_run, after_switch, after_cut_off, with_since, after_wake, after_sleep, after_leave, after_enter, fill_front, after_fill, after_stop, started_at, after_keep, put_parked, let_go, after_tick, used_ms, after_reweigh, after_own_weight, later, begun_periods}
use Rattle.scx_sched_world.specs.Helpers.{after_fire}
use Rattle.scx_sched_world.specs.Ejecting.{eject_of, put_builtin, after_charge, after_catch_up}
use Rattle.scx_sched_policy.specs.Policy.{program_of}
use Rattle.scx_sched_machine.specs.Steps.{State, CallMade, Stepped, with_world, stays, after, one_after_other, is_by_linux}
use Rattle.scx_sched_machine.specs.Ejecting.{moves_over, eject, ejected_for}
use Rattle.scx_sched_machine.specs.Callbacks.{call_ending, after_callback, answer_fault, as_cause, cause_of, unless_ejected, acting, call_back, call_by_linux, two_numbers, task_cpu_and_0}
use Rattle.scx_sched_machine.specs.Put.{enters, enters_builtin}
use Rattle.scx_sched_machine.specs.Filling.{fill}
use Rattle.scx_sched_machine.specs.Parking.{park, supply, let_all_go}
use Rattle.scx_sched_machine.specs.Cycle.{tries, leave, builtin_fill, builtin_cycle, look, tells_idle, tells_busy, makes_way}
use Rattle.scx_sched_machine.specs.Firing.{fire_all}
use Rattle.scx_sched_machine.specs.Events.{woken, inserted_by_choice, chosen_by_default, wake, leaves_cpu, sleep, throttle, expire, use_up, tick_heard, count_down, tick_idle, tick_of, tick, leaves_queue, reweigh_at, reweigh_by_linux, reweigh, overdue, eject_if_stalled, clock, timers_and_watchdog, watch, from_waker}
use Rattle.scx_sched_machine.specs.Rounds.{most_rounds, rounds, with_rounds}
use Rattle.scx_sched_machine.proofs.Choices.{keeps_if}
use Rattle.scx_sched_machine.proofs.Leaving.{in_turn}
use Rattle.scx_sched.specs.Kept.{with_moved}
use Rattle.scx_sched.specs.Causes.{IsLast}
use Rattle.scx_sched.specs.Decided.{used_at_tick}
use Rattle.scx_sched.proofs.Marks.{Anywhere, kept_homed, kept_claim}
use Rattle.scx_sched.proofs.Unchanged.{IsAsBefore, as_before, same_marks, same_entered, same_put_builtin, same_put_parked, same_called, eject_sets, same_brought, IsAsRuled, ruled_switch, ruled_cycling, IsTidy, tidy_linux, tidy_same, tidy_switch, tidy_cycling}
use Rattle.scx_sched.proofs.Supplying.{park_left}
use Rattle.scx_sched.proofs.Stepwise.{IsWalked, KeepsCalls, KeepsSupply, KeepsPuts, KeepsCycle, KeepsEvents, told_no_choice, walk_put, walk_arrives, walk_arrives_told, Owns, goes_off, walk_ended, walk_tells_idle, walk_heard, walk_leaves_queue, walk_supply, walk_tries, walk_builtin_fill, walk_goes_off, walk_builtin_cycle, walk_makes_way, walk_look, walk_reweigh_at, walk_rounds_of, walk_lets_go, walk_timers, walk_leaves_cpu, walk_used_up, walk_tick_idle, asleep, walk_wake, walk_sleep}
use Rattle.scx_sched.proofs.Leaving.{run_back}

-- of these calls the last one had that reason, for which the policy was ejected at that time
pub record IsBlamed (now : ℕ) (calls : List CallMade) (x : Eject) : Type 0 where
  pub call : CallMade
  pub why : Cause
  pub last : IsLast call calls
  pub fresh : call.world.call.cause ≡ None
  pub wrong : cause_of call.callback (call_ending (Some call.program) call.callback call.arguments call.maps call.world) ≡ Some why
  pub named : x ≡ eject_of why now

-- a call without a fault or an exit
abbrev pub IsFaultless : CallMade → Type 0
IsFaultless m = cause_of m.callback (call_ending (Some m.program) m.callback m.arguments m.maps m.world) ≡ None

abbrev pub AreFaultless : List CallMade → Type 0
AreFaultless [] = Unit {0}
AreFaultless (m ∷ ms) = IsFaultless m × AreFaultless ms

-- calls without a fault or an exit are so one list behind the other
pub faultless_append : (xs ys : List CallMade) → AreFaultless xs → AreFaultless ys → AreFaultless (xs ++ ys)
faultless_append [] ys h k = k
faultless_append (m ∷ ms) ys h k = (h.0, faultless_append ms ys h.1 k)

-- a step from a state
pub record IsHonest (s : State) (r : Stepped) : Type 0 where
  pub policy : r.state.policy ≡ s.policy
  pub clock : r.state.world.clock ≡ s.world.clock
  pub tree : r.state.world.tree ≡ s.world.tree
  pub rules : r.state.world.rules ≡ s.world.rules
  pub silent : (x : Eject) → s.world.ejected ≡ Some x → r.calls ≡ []
  pub stays : (x : Eject) → s.world.ejected ≡ Some x → r.state.world.ejected ≡ Some x
  pub blamed : (x : Eject) → s.world.ejected ≡ None → r.state.world.ejected ≡ Some x → IsBlamed s.world.clock r.calls x
  pub heard : r.state.world.ejected ≡ None → AreFaultless r.calls
  pub tidy : IsTidy s.world → IsTidy r.state.world

-- a policy is in force or out of it
pub apart : (o : Option Eject) (x : Eject) → o ≡ None → o ≡ Some x → ⊥
apart o x a b = absurd (cc)

-- two causes of one ejection are one
pub same_eject : (o : Option Eject) (x y : Eject) → o ≡ Some x → o ≡ Some y → x ≡ y
same_eject o x y a b = cc

-- ---- one step after another

-- the last of the calls after others is the last of all
pub last_of : (xs ys : List CallMade) (m : CallMade) → IsLast m ys → IsLast m (xs ++ ys)
last_of xs ys m (before, e) = (xs ++ before, ap (λ zs. xs ++ zs) e ∙ sym (append_assoc xs before (m ∷ [])))

-- and where none come after others, the last of these
pub last_alone : (xs ys : List CallMade) (m : CallMade) → ys ≡ [] → IsLast m xs → IsLast m (xs ++ ys)
last_alone xs ys m none (before, e) = (before, ap (λ zs. xs ++ zs) none ∙ (append-nil xs ∙ e))

-- two lists without calls have none one behind the other
pub none_of : (xs ys : List CallMade) → xs ≡ [] → ys ≡ [] → xs ++ ys ≡ []
none_of xs ys e f = rw e f

-- with other calls
blamed_as : (now : ℕ) (xs ys : List CallMade) (x : Eject) → ((m : CallMade) → IsLast m xs → IsLast m ys) → IsBlamed now xs x → IsBlamed now ys x
blamed_as now xs ys x f b = record { call = b.call; why = b.why; last = f b.call b.last; fresh = b.fresh; wrong = b.wrong; named = b.named }

pub honest_joined : (s : State) (a r : Stepped) → IsHonest s a → IsHonest a.state r → IsHonest s (one_after_other a r)
honest_joined s a r h k = record {
  policy = k.policy ∙ h.policy;
  clock = k.clock ∙ h.clock;
  tree = k.tree ∙ h.tree;
  rules = k.rules ∙ h.rules;
  silent = λ x out. none_of a.calls r.calls (h.silent x out) (k.silent x (h.stays x out));
  stays = λ x out. k.stays x (h.stays x out);
  blamed = λ x force out. go x force out a.state.world.ejected refl;
  heard = λ force. hears force a.state.world.ejected refl;
  tidy = λ x. k.tidy (h.tidy x);
}
  where
    hears : r.state.world.ejected ≡ None → (o : Option Eject) → a.state.world.ejected ≡ o → AreFaultless (a.calls ++ r.calls)
    hears force None e = faultless_append a.calls r.calls (h.heard e) (k.heard force)
    hears force (Some y) e = absurd (apart r.state.world.ejected y force (k.stays y e))

    go : (x : Eject) → s.world.ejected ≡ None → r.state.world.ejected ≡ Some x → (o : Option Eject) → a.state.world.ejected ≡ o → IsBlamed s.world.clock (a.calls ++ r.calls) x
    go x force out None e =
        let b = blamed_as a.state.world.clock r.calls (a.calls ++ r.calls) x (λ m l. last_of a.calls r.calls m l) (k.blamed x e out) in
        subst (λ (now : ℕ). IsBlamed now (a.calls ++ r.calls) x) h.clock b
    go x force out (Some y) e =
        let b = blamed_as s.world.clock a.calls (a.calls ++ r.calls) y (λ m l. last_alone a.calls r.calls m (k.silent y e) l) (h.blamed y force e) in
        subst (λ (z : Eject). IsBlamed s.world.clock (a.calls ++ r.calls) z) (same_eject r.state.world.ejected y x (k.stays y e) out) b

honest_noted : (s : State) (ns : List Note) (r : Stepped) → IsHonest s r → IsHonest s (record r { notes = ns })
honest_noted s ns r h = record { policy = h.policy; clock = h.clock; tree = h.tree; rules = h.rules; silent = h.silent; stays = h.stays; blamed = h.blamed; heard = h.heard; tidy = h.tidy }

pub honest_stays : (s : State) → IsHonest s (stays s)
honest_stays s = record { policy = refl; clock = refl; tree = refl; rules = refl; silent = λ x out. refl; stays = λ x out. out; blamed = λ x force out. absurd (apart s.world.ejected x force out); heard = λ force. tt; tidy = λ x. x }

honest_walked : IsWalked IsHonest
honest_walked = record { none = honest_stays; joined = honest_joined; noted = honest_noted }

-- a change of the world of the same clock, policy, tree and rules, in which no callback is called
honest_ruled : (s : State) (w : WorldState) → IsAsRuled s.world w → (IsTidy s.world → IsTidy w) → IsHonest s (stays (with_world s w))
honest_ruled s w same tidy = record { policy = refl; clock = same.0; tree = same.2; rules = same.3; silent = λ x out. refl; stays = λ x out. same.1 ∙ out; blamed = λ x force out. absurd (apart w.ejected x (same.1 ∙ force) out); heard = λ force. tt; tidy = tidy }

-- and of the same cycle, where Linux rules keep the same
honest_changed : (s : State) (w : WorldState) → IsAsBefore s.world w → IsHonest s (stays (with_world s w))
honest_changed s w same = honest_ruled s w (same.0, same.1, same.3, same.4) (λ x. tidy_same s.world w same.4 same.1 same.5 x)

-- once the machine doesn't go by Linux rules, it doesn't any more
pub plain_on : (s : State) (r : Stepped) → IsHonest s r → is_by_linux s ≡ false → is_by_linux r.state ≡ false
plain_on s r h plain = go (are_linux s.world.rules) refl s.world.ejected refl plain
  where
    and_no : (b : Bool) → (b && false) ≡ false
    and_no true = refl
    and_no false = refl

    go : (b : Bool) → are_linux s.world.rules ≡ b → (o : Option Eject) → s.world.ejected ≡ o → (b && is_none o) ≡ false → is_by_linux r.state ≡ false
    go false x o y z = ap (λ k. k && is_none r.state.world.ejected) (ap are_linux h.rules ∙ x)
    go true x None y z = absurd (cc)
    go true x (Some e) y z = ap (λ (k : Option Eject). are_linux r.state.world.rules && is_none k) (h.stays e y) ∙ and_no (are_linux r.state.world.rules)

-- ---- another tree

-- the state with that tree
abbrev pub state_with_tree : State → Hierarchy → State
state_with_tree s tree = with_world s (with_tree s.world tree)

-- a step that ends with that tree
abbrev pub step_with_tree : Stepped → Hierarchy → Stepped
step_with_tree r tree = record { state = state_with_tree r.state tree; notes = r.notes; calls = r.calls }

-- from that tree to it
honest_with_tree : (s : State) (r : Stepped) (tree : Hierarchy) → IsHonest s r → IsHonest (state_with_tree s tree) (step_with_tree r tree)
honest_with_tree s r tree h = record { policy = h.policy; clock = h.clock; tree = refl; rules = h.rules; silent = h.silent; stays = h.stays; blamed = h.blamed; heard = h.heard; tidy = h.tidy }

-- a step that leaves the tree
honest_same_tree : (s : State) (r : Stepped) → IsHonest s r → IsHonest (state_with_tree s s.world.tree) r
honest_same_tree s r h = record { policy = h.policy; clock = h.clock; tree = h.tree; rules = h.rules; silent = h.silent; stays = h.stays; blamed = h.blamed; heard = h.heard; tidy = h.tidy }

-- ---- a callback

-- an ejection leaves the policy the one that it was
pub eject_policy : (s : State) (x : Eject) → (eject s x).state.policy ≡ s.policy
unfolding eject moves_over
eject_policy s x = refl

-- an ejection calls no callback
pub eject_calls : (s : State) (x : Eject) → (eject s x).calls ≡ []
unfolding eject moves_over
eject_calls s x = refl

-- one that is absent answers 0, which is a processor
no_answer : (b : Callback) (w : WorldState) → (b ≡ callback.SelectCpu → 0 < length w.cpus) → answer_fault b w 0 ≡ None
no_answer callback.SelectCpu w some =
    let l : 0 < length w.cpus = some refl in
    let there : nat_lt 0 (length w.cpus) ≡ true = grind (arith, nat_tests, l) in
    rw there refl
no_answer b w some = refl

-- a policy of which a program is called is in force
in_force : (s : State) (b : Callback) (p : VerifiedProgram) → acting s b ≡ Some p → s.world.ejected ≡ None
in_force s b p e = go s.world.ejected refl e
  where
    go : (o : Option Eject) → s.world.ejected ≡ o → unless_ejected o (program_of s.policy b) ≡ Some p → s.world.ejected ≡ None
    go None x y = x
    go (Some z) x y = absurd (cc)

module _ (s : State) (b : Callback) (a : Args) (t c : ℕ) where
  abbrev w : WorldState
  w = at_callback s.world b t c

  honest_absent : (b ≡ callback.SelectCpu → 0 < length s.world.cpus) → IsHonest s (run_back None s b a t c)
  unfolding call_ending
  honest_absent some = go (answer_fault b w 0) (no_answer b w some)
    where
      go : (o : Option Fault) → o ≡ None
          → IsHonest s (one_after_other (record { state = record { policy = s.policy; maps = s.maps; world = quiet w }; notes = []; calls = [] }) (ejected_for (as_cause o) (record { policy = s.policy; maps = s.maps; world = quiet w })))
      go None e = record { policy = refl; clock = refl; tree = refl; rules = refl; silent = λ x out. refl; stays = λ x out. out; blamed = λ x force out. absurd (apart s.world.ejected x force out); heard = λ force. tt; tidy = λ x. x }
      go (Some f) e = absurd (cc)

  honest_run : (p : VerifiedProgram) → s.world.ejected ≡ None → IsHonest s (run_back (Some p) s b a t c)
  honest_run p acts = go (cause_of b e) refl
    where
      e : Ending WorldState
      e = call_ending (Some p) b a s.maps w

      m : CallMade
      m = record { callback = b; program = p; arguments = a; maps = s.maps; world = w }

      v : State
      v = after_callback s.policy e

      same : IsAsBefore w e.outside
      same = same_called (Some p) b a s.maps w

      go : (o : Option Cause) → cause_of b e ≡ o → IsHonest s (one_after_other (record { state = v; notes = e.outside.notes; calls = m ∷ [] }) (ejected_for o v))
      go None x = record {
        policy = refl;
        clock = same.0;
        tree = same.3;
        rules = same.4;
        silent = λ y out. absurd (apart s.world.ejected y acts out);
        stays = λ y out. same.1 ∙ out;
        blamed = λ y force out. absurd (apart e.outside.ejected y (same.1 ∙ force) out);
        heard = λ force. (x, tt);
        tidy = λ y. tidy_same w e.outside same.4 same.1 same.5 y;
      }
      go (Some f) x =
          let y = eject_of f e.outside.clock in
          let sets = eject_sets v y in
          record {
            policy = eject_policy v y;
            clock = sets.0 ∙ same.0;
            tree = sets.3 ∙ same.3;
            rules = sets.4 ∙ same.4;
            silent = λ z out. absurd (apart s.world.ejected z acts out);
            stays = λ z out. absurd (apart s.world.ejected z acts out);
            heard = λ force. absurd (apart (eject v y).state.world.ejected y force sets.1);
            tidy = λ k plain. sets.5;
            blamed = λ z force out. record {
              call = m;
              why = f;
              last = ([], ap (λ (cs : List CallMade). m ∷ cs) (eject_calls v y));
              fresh = refl;
              wrong = x;
              named = same_eject (eject v y).state.world.ejected z y out sets.1 ∙ ap (λ (k : ℕ). eject_of f k) same.0;
            };
          }

-- a callback
pub honest_call_back : (s : State) (b : Callback) (a : Args) (t c : ℕ) → (b ≡ callback.SelectCpu → 0 < length s.world.cpus) → IsHonest s (call_back s b a t c)
unfolding call_back
honest_call_back s b a t c some = go (acting s b) refl
  where
    go : (p : Option VerifiedProgram) → acting s b ≡ p → IsHonest s (run_back p s b a t c)
    go None e = honest_absent s b a t c some
    go (Some p) e = honest_run s b a t c p (in_force s b p e)

honest_calls : (c : ℕ) → KeepsCalls IsHonest c
honest_calls c = record { steps = honest_walked; called = λ s b a t told. honest_call_back s b a t c (λ e. absurd (told_no_choice b told e)) }

-- so does one that Linux rules call more
pub honest_call_by_linux : (s : State) (b : Callback) (a : Args) (t c : ℕ) → (b ≡ callback.SelectCpu → 0 < length s.world.cpus) → IsHonest s (call_by_linux s b a t c)
unfolding call_by_linux
honest_call_by_linux s b a t c some = keeps_if (IsHonest s) (is_by_linux s && is_some (program_of s.policy b)) (call_back s b a t c) (stays s) (honest_call_back s b a t c some) (honest_stays s)

-- the policy hears of a tick, if it does
pub honest_heard : (s : State) (c t : ℕ) → IsHonest s (tick_heard s c t)
honest_heard s c t = walk_heard IsHonest c (honest_calls c) s t

-- a task that leaves its queue, and the policy hears of it
pub honest_leaves_queue : (s : State) (t c flags : ℕ) → IsHonest s (leaves_queue s t c flags)
honest_leaves_queue s t c flags = walk_leaves_queue IsHonest c (honest_calls c) s t flags (honest_changed s (after_leave s.world t) (as_before s.world))

-- the policy hears that a processor is idle, or idle no more
pub honest_tells_idle : (s : State) (c n : ℕ) → IsHonest s (tells_idle s c n)
honest_tells_idle s c n = walk_tells_idle IsHonest c (honest_calls c) s n

-- ---- small steps

honest_enters : (s : State) (t : ℕ) (i : Insert) → IsHonest s (enters s t i)
unfolding enters
honest_enters s t i = let w = after_enter s.world t i in honest_noted s _ (stays (with_world s w)) (honest_changed s w (same_entered s.world s.world t i (as_before s.world)))

honest_enters_builtin : (s : State) (t : ℕ) → IsHonest s (enters_builtin s t)
unfolding enters_builtin
honest_enters_builtin s t = let w = put_builtin s.world t in honest_noted s _ (stays (with_world s w)) (honest_changed s w (same_put_builtin s.world s.world t (as_before s.world)))

honest_fill : (s : State) (q c : ℕ) → IsHonest s (fill s q c)
unfolding fill
honest_fill s q c = let w = after_fill s.world q c in honest_noted s _ (stays (with_world s w)) (honest_changed s w (same_brought (fill_front s.world q c) s.world c))

-- the task at hand is parked
pub honest_park : (s : State) (t : ℕ) → IsHonest s (park s t)
unfolding park
honest_park s t = let w = put_parked s.world t in honest_noted s _ (stays (with_world s w)) (honest_changed s w (same_put_parked s.world s.world t (as_before s.world)))

honest_park_left : (s : State) (t : ℕ) → IsHonest s (park_left s t)
honest_park_left s t = let v = with_world s (after_leave s.world t) in honest_joined s (stays v) (park v t) (honest_changed s v.world (as_before s.world)) (honest_park v t)

-- a processor that is chosen by default changes none of these
pub same_chosen : (w : WorldState) (t : ℕ) → IsAsBefore w (chosen_by_default w t)
same_chosen w t = keeps_if (IsAsBefore w) (world.is_by_linux w) (inserted_by_choice (after_claim w (choice w t)) (choice w t)) w (go (choice w t)) (as_before w)
  where
    go : (o : Option ℕ) → IsAsBefore w (inserted_by_choice (after_claim w o) o)
    go None = (as_before w)
    go (Some c) = let x = kept_claim Anywhere (IsAsBefore w) (same_marks w) w (Some c) (as_before w) in (x.0, x.1, x.2, x.3, x.4, x.5)

honest_supplied : (c : ℕ) → KeepsSupply IsHonest c
honest_supplied c = record {
  calls = honest_calls c;
  filled = λ s q apart. honest_fill s q c;
  parked = λ s q t apart there. honest_park_left s t;
  moved = λ s b. honest_changed s (with_moved s.world b) (as_before s.world);
}

honest_puts : KeepsPuts IsHonest
honest_puts = record { calls = honest_calls; enters = honest_enters; enters_builtin = honest_enters_builtin }

honest_cycles : KeepsCycle IsHonest
honest_cycles = record {
  supply = honest_supplied;
  puts = walk_put IsHonest honest_puts;
  fronts = λ s t c. honest_enters s t (to_front c);
  stopped = λ s c t. honest_changed s (after_stop s.world c t) (as_before s.world);
  charged = λ s t. honest_changed s (after_charge s.world t) (as_before s.world);
  started = λ s c t. honest_changed s (started_at (Some t) s.world c) (as_before s.world);
  ran = λ s c t. honest_changed s (after_run s.world c t) (as_before s.world);
  caught_up = λ s t. honest_changed s (after_catch_up s.world t) (as_before s.world);
  switched = λ s t. honest_changed s (after_switch s.world t) (as_before s.world);
  kept = λ s t. honest_changed s (after_keep s.world (Some t)) (as_before s.world);
  kicked = λ s c. honest_changed s (with_kick s.world c) (as_before s.world);
  cycling = λ s o. honest_ruled s (with_cycling s.world o) (ruled_cycling s.world o) (λ x. tidy_cycling s.world o x);
  ended = λ s. honest_ruled s (out_of_cycle s.world) (refl, refl, refl, refl) (λ x. x);
}

-- there is a processor for select_cpu to answer
abbrev HasCpus : State → Type 0
HasCpus s = 0 < length s.world.cpus

honest_events : KeepsEvents IsHonest HasCpus
honest_events = record {
  cycle = honest_cycles;
  asks = λ s t c some. honest_call_back s callback.SelectCpu (task_cpu_and_0 t c) t c (λ e. some);
  arrives = λ s t c. walk_arrives IsHonest honest_puts s.world.call.insert s t c;
  arrives_told = λ s t c linux. walk_arrives_told IsHonest honest_puts s t c;
  looks = λ s c. honest_changed s (without_kick s.world c) (as_before s.world);
  cut_off = λ s t. honest_changed s (after_cut_off s.world t) (as_before s.world);
  switching = λ s c. honest_ruled s (with_switch s.world c) (ruled_switch s.world c) (λ x. tidy_switch s.world c x);
  left = λ s t. honest_changed s (after_leave s.world t) (as_before s.world);
  parked = honest_park;
  free = λ s t. honest_changed s (let_go s.world t) (as_before s.world);
  homed = λ s t c. honest_changed s (homed s.world t c) (kept_homed Anywhere (IsAsBefore s.world) (same_marks s.world) s.world t c tt (as_before s.world));
  chosen = λ s t. honest_changed s (chosen_by_default s.world t) (same_chosen s.world t);
  asked = λ s t c. honest_changed s (at_callback s.world callback.SelectCpu t c) (as_before s.world);
  woken = λ s. honest_ruled s (with_waker s.world None) (refl, refl, refl, refl) (λ x plain. ap (λ (p : Passing). record p { waker = None }) (x plain));
  fired = λ s. honest_ruled s (with_timer_at_hand s.world None) (refl, refl, refl, refl) (λ x plain. ap (λ (p : Passing). record p { timer = None }) (x plain));
  waker = λ s c linux. let w = with_waker s.world (Some c) in honest_ruled s w (refl, refl, refl, refl) (λ x. tidy_linux w linux);
  slept = λ s t linux. let w = with_slept s.world t in honest_ruled s w (refl, refl, refl, refl) (λ x. tidy_linux w linux);
  due = λ s n linux. let w = after_fire s.world n in honest_ruled s w (refl, refl, refl, refl) (λ x. tidy_linux w linux);
}

-- ---- steps of an event

-- supplying a local queue does no more to the policy than a step may
pub honest_supply : (s : State) (c : ℕ) → IsHonest s (supply s c)
honest_supply s c = walk_supply IsHonest c (honest_supplied c) s

-- dispatch is asked several times
pub honest_tries : (j : ℕ) (s : State) (c : ℕ) (p : Option ℕ) → IsHonest s (tries j s c p)
honest_tries j s c p = walk_tries IsHonest c (honest_supplied c) j s p

-- filling from the built-in queue does no more to the policy than a step may
pub honest_builtin_fill : (s : State) (c : ℕ) → IsHonest s (builtin_fill s c)
honest_builtin_fill s c = walk_builtin_fill IsHonest c (honest_supplied c) s

-- a task leaves its processor, and the policy hears of it
pub honest_goes_off : (s : State) (c t n : ℕ) → IsHonest s (goes_off s c t n)
honest_goes_off s c t n = walk_goes_off IsHonest honest_cycles c s t n

-- a cycle of the built-in scheduler does no more to the policy than a step may
pub honest_builtin_cycle : (s : State) (c : ℕ) (p : Option ℕ) (ran : Bool) → IsHonest s (builtin_cycle s c p ran)
honest_builtin_cycle s c p ran = walk_builtin_cycle IsHonest honest_cycles c s p ran

-- a task leaves a processor, of which the policy has heard
pub honest_makes_way : (s : State) (c : ℕ) (p : Option ℕ) (ran : Bool) → IsHonest s (makes_way s c p ran)
honest_makes_way s c p ran = walk_makes_way IsHonest honest_cycles c s p ran

-- by plain rules the policy hears of no processor
pub way_plain : (s : State) (c : ℕ) (p : Option ℕ) (ran : Bool) → is_by_linux s ≡ false → (makes_way s c p ran).state ≡ (leave s c p).state
unfolding makes_way tells_busy tells_idle call_by_linux
way_plain s c None false plain = go (is_by_linux s) plain
  where
    go : (b : Bool) → b ≡ false → (leave (if b && is_some (program_of s.policy callback.UpdateIdle) then call_back s callback.UpdateIdle (two_numbers c 0) 0 c else stays s).state c None).state ≡ (leave s c None).state
    go true e = absurd (cc)
    go false e = refl
way_plain s c None true plain = refl
way_plain s c (Some t) ran plain = refl

-- looking for a task does no more to the policy than a step may
pub honest_look : (s : State) (c : ℕ) (p : Option ℕ) (ran : Bool) → IsHonest s (look s c p ran)
honest_look s c p ran = walk_look IsHonest honest_cycles c s p ran

-- a task that leaves its processor, and the policy hears of it
pub honest_leaves_cpu : (s : State) (c t n : ℕ) → IsHonest s (leaves_cpu s c t n)
honest_leaves_cpu s c t n = walk_leaves_cpu IsHonest HasCpus honest_events s c t n

-- letting all go who may run again does no more to the policy than a step may
pub honest_let_all_go : (s : State) → IsHonest s (let_all_go s)
honest_let_all_go s = walk_lets_go IsHonest HasCpus honest_events s

-- timers that run do no more to the policy than a step may
pub honest_fire_all : (s : State) → IsHonest s (fire_all s)
honest_fire_all s = walk_timers IsHonest HasCpus honest_events s

-- once the policy is ejected there are none
pub no_rounds : (r : Stepped) (x : Eject) → r.state.world.ejected ≡ Some x → with_rounds r ≡ r
unfolding with_rounds
no_rounds r x e = go (are_linux r.state.world.rules) r.state.world.ejected e
  where
    go : (b : Bool) (o : Option Eject) → o ≡ Some x → (if b && is_none o then one_after_other r (rounds most_rounds r.state) else r) ≡ r
    go b None y = absurd (cc)
    go true (Some z) y = refl
    go false (Some z) y = refl

-- what is honest stays so as rounds follow
pub honest_with_rounds : (s : State) (r : Stepped) → IsHonest s r → IsHonest s (with_rounds r)
honest_with_rounds s r h = walk_rounds_of IsHonest HasCpus honest_events IsHonest honest_joined s r h

-- ---- the clock, before the watchdog looks

-- periods begin
abbrev pub begun_ms : State → State
begun_ms s = with_world s (begun_periods (later s.world))

-- who may run again is let go, and timers that are due run
abbrev pub clocked : State → Stepped
clocked s = let r = let_all_go (begun_ms s) in one_after_other r (fire_all r.state)

-- then the watchdog looks
pub clock_watched : (s : State) → clock s ≡ one_after_other (clocked s) (eject_if_stalled (overdue (clocked s).state) (clocked s).state)
unfolding clock timers_and_watchdog watch
clock_watched s =
    let r = let_all_go (begun_ms s) in
    let f = fire_all r.state in
    sym (in_turn r f (eject_if_stalled (overdue f.state) f.state))

-- until then no more is done to the policy than a step may
pub honest_clocked : (s : State) → IsHonest (begun_ms s) (clocked s)
honest_clocked s = let r = let_all_go (begun_ms s) in honest_joined (begun_ms s) r (fire_all r.state) (honest_let_all_go (begun_ms s)) (honest_fire_all r.state)

-- nor by the rounds where it finds no task
pub honest_unwatched : (s : State) → IsHonest (begun_ms s) (with_rounds (one_after_other (clocked s) (stays (clocked s).state)))
honest_unwatched s = let r = clocked s in honest_with_rounds (begun_ms s) (one_after_other r (stays r.state)) (honest_joined (begun_ms s) r (stays r.state) (honest_clocked s) (honest_stays r.state))

-- ---- a change of the tree, which comes once in an event

-- the tree changes so, where it may
abbrev Turns : (Hierarchy → Hierarchy) → (Hierarchy → Type 0) → State → Stepped → Type 0
Turns f May s r = May s.world.tree → IsHonest (state_with_tree s (f s.world.tree)) r

honest_turns : (f : Hierarchy → Hierarchy) (May : Hierarchy → Type 0) → Owns IsHonest (Turns f May)
honest_turns f May = record {
  before = λ s a r h k may. let tree = f s.world.tree in
      honest_joined (state_with_tree s tree) (step_with_tree a tree) r (honest_with_tree s a tree h) (subst (λ (y : Hierarchy). IsHonest (state_with_tree a.state (f y)) r) h.tree (k (subst May (sym h.tree) may)));
  after = λ s a r h k may. honest_joined (state_with_tree s (f s.world.tree)) a r (h may) k;
  noted = λ s ns r h may. honest_noted (state_with_tree s (f s.world.tree)) ns r (h may);
}

-- to any tree
abbrev AnyTree : Hierarchy → Type 0
AnyTree h = Unit {0}

-- a task that wakes
pub honest_wake : (s : State) (t : ℕ) → 0 < length s.world.cpus → IsHonest (state_with_tree s (with_task s.world.tree t true)) (wake s t)
unfolding from_waker
honest_wake s t some =
    let f = λ (h : Hierarchy). with_task h t true in
    let tree = with_task s.world.tree t true in
    let v = with_world s (after_wake s.world t) in
    let still = keeps_if HasCpus (is_by_linux v) (with_world v (with_waker v.world (Some (task_at v.world t).prev_cpu))) v some some in
    walk_wake IsHonest (Turns f AnyTree) HasCpus honest_events (honest_turns f AnyTree) s t still (λ any. honest_changed (state_with_tree s tree) (after_wake s.world t) (as_before (with_tree s.world tree))) tt

-- a task that there is goes to sleep
now_asleep : (w : WorldState) (t : ℕ) → t < length w.tasks → IsAsBefore (with_tree w (with_task w.tree t false)) (after_sleep w t)
now_asleep w t known = go (nat_lt t (length w.tasks)) refl
  where
    go : (b : Bool) → nat_lt t (length w.tasks) ≡ b → IsAsBefore (with_tree w (with_task w.tree t false)) (if b then with_tree (set_task w t (with_since (task_at w t) None)) (with_task w.tree t false) else w)
    go true e = as_before (with_tree w (with_task w.tree t false))
    go false e = absurd (grind (arith, nat_tests, e, known))

-- one that goes to sleep
pub honest_sleep : (s : State) (t : ℕ) → t < length (leaves_queue s t (task_at s.world t).prev_cpu 1).state.world.tasks → ((c : ℕ) → cpu_of s.world t ≡ Some c → t < length (leaves_cpu s c t 0).state.world.tasks) → IsHonest (state_with_tree s (with_task s.world.tree t false)) (sleep s t)
honest_sleep s t known still = walk_sleep IsHonest (Turns f AnyTree) HasCpus honest_events (honest_turns f AnyTree) s t (sleeps (leaves_queue s t (task_at s.world t).prev_cpu 1).state known) (λ c e. sleeps (leaves_cpu s c t 0).state (still c e)) tt
  where
    f : Hierarchy → Hierarchy
    f h = with_task h t false

    sleeps : (v : State) → t < length v.world.tasks → Turns f AnyTree v (asleep v t)
    sleeps v there any = honest_changed (state_with_tree v (f v.world.tree)) (after_sleep v.world t) (now_asleep v.world t there)

-- the groups of a task that there is have used a millisecond
now_used : (w : WorldState) (t : ℕ) → t < length w.tasks → IsAsBefore (with_tree w (with_use w.tree t)) (used_ms w t)
now_used w t known = go (nat_lt t (length w.tasks)) refl
  where
    go : (b : Bool) → nat_lt t (length w.tasks) ≡ b → IsAsBefore (with_tree w (with_use w.tree t)) (if b then with_tree w (with_use w.tree t) else w)
    go true e = as_before (with_tree w (with_use w.tree t))
    go false e = absurd (grind (arith, nat_tests, e, known))

-- a task has run for a millisecond, and the policy has heard of the tick
abbrev pub ticked : State → ℕ → ℕ → Stepped
ticked s c t = tick_heard (with_world s (after_tick s.world t)) c t

-- a processor that ran, on which a task that there is used a millisecond
pub honest_tick : (s : State) (c : ℕ) → ((t : ℕ) → running s.world c ≡ Some t → t < length (ticked s c t).state.world.tasks) → IsHonest (state_with_tree s (used_at_tick (running s.world c) s.world.tree)) (tick s c)
unfolding tick count_down use_up
honest_tick s c known = go (running s.world c) refl
  where
    go : (o : Option ℕ) → running s.world c ≡ o → IsHonest (state_with_tree s (used_at_tick o s.world.tree)) (tick_of o s c)
    go None e = honest_same_tree s (tick_idle s c) (walk_tick_idle IsHonest HasCpus honest_events s c)
    go (Some t) e = turns.before s r (use_up r.state c t) heard (turns.after r.state (stays u) (if is_throttled u.world t then throttle u c t else expire u c t) uses (walk_used_up IsHonest HasCpus honest_events u c t)) tt
      where
        v : State
        v = with_world s (after_tick s.world t)

        r : Stepped
        r = tick_heard v c t

        u : State
        u = with_world r.state (used_ms r.state.world t)

        turns : Owns IsHonest (Turns (λ (h : Hierarchy). with_use h t) AnyTree)
        turns = honest_turns (λ (h : Hierarchy). with_use h t) AnyTree

        heard : IsHonest s r
        heard = honest_joined s (stays v) r (honest_changed s v.world (as_before s.world)) (honest_heard v c t)

        uses : Turns (λ (h : Hierarchy). with_use h t) AnyTree r.state (stays u)
        uses any = honest_changed (state_with_tree r.state (with_use r.state.world.tree t)) u.world (now_used r.state.world t (known t e))

-- a weight that can be set
pub honest_weight : (s : State) (g x : ℕ) (ns : List Note) → weight_fault s.world.tree g x ≡ None → IsHonest (state_with_tree s (with_weight s.world.tree g x)) (record { state = with_world s (after_reweigh s.world g x); notes = ns; calls = [] })
honest_weight s g x ns fine = go (weight_fault s.world.tree g x) fine
  where
    tree : Hierarchy
    tree = with_weight s.world.tree g x

    go : (o : Option TreeError) → o ≡ None → IsHonest (state_with_tree s tree) (record { state = with_world s (if is_none o then with_tree s.world tree else s.world); notes = ns; calls = [] })
    go None e = let v = state_with_tree s tree in honest_noted v ns (stays v) (honest_stays v)
    go (Some f) e = absurd (cc)

-- ---- a task's own weight

-- one that can be set is set
now_weighed : (w : WorldState) (t x : ℕ) → own_weight_fault w.tree t x ≡ None → IsAsBefore (with_tree w (with_own_weight w.tree t x)) (after_own_weight w t x)
now_weighed w t x fine = go (own_weight_fault w.tree t x) fine
  where
    go : (o : Option TreeError) → o ≡ None → IsAsBefore (with_tree w (with_own_weight w.tree t x)) (if is_none o then with_tree w (with_own_weight w.tree t x) else w)
    go None e = as_before (with_tree w (with_own_weight w.tree t x))
    go (Some f) e = absurd (cc)

-- a task that has another weight
pub honest_reweigh : (s : State) (t x : ℕ) (ns : List Note) → own_weight_fault s.world.tree t x ≡ None → IsHonest (state_with_tree s (with_own_weight s.world.tree t x)) (after ns (reweigh s t x))
unfolding reweigh reweigh_by_linux
honest_reweigh s t x ns fine = turns.noted s (ns ++ (reweigh s t x).notes) (reweigh s t x) (go (is_by_linux s) refl) fine
  where
    Weighs : State → Stepped → Type 0
    Weighs = Turns (λ (h : Hierarchy). with_own_weight h t x) (λ h. own_weight_fault h t x ≡ None)

    turns : Owns IsHonest Weighs
    turns = honest_turns (λ (h : Hierarchy). with_own_weight h t x) (λ h. own_weight_fault h t x ≡ None)

    weighed : (v : State) → Weighs v (stays (with_world v (after_own_weight v.world t x)))
    weighed v may = honest_changed (state_with_tree v (with_own_weight v.world.tree t x)) (after_own_weight v.world t x) (now_weighed v.world t x may)

    go : (b : Bool) → is_by_linux s ≡ b → Weighs s (if b then reweigh_by_linux s t x else stays (with_world s (after_own_weight s.world t x)))
    go true linux =
        let v = with_world s (with_waker s.world (Some 0)) in
        let r = reweigh_at (cpu_of s.world t) v t x in
        let y = walk_reweigh_at IsHonest Weighs turns t x weighed honest_calls (λ u c. honest_cycles.puts u t c 0) (λ u. honest_events.left u t) (cpu_of s.world t) v in
        turns.before s (stays v) (record r { state = woken r.state }) (honest_events.waker s 0 linux) (walk_ended Weighs IsHonest turns.after v r (woken r.state) y (honest_events.woken r.state))
    go false plain = weighed s
