-- Tasks leave a policy's custody, and it hears of them.
use Rattle.std.proofs.Common.{arith, ◌≡◌, ℕ, zero, suc, ◌+◌, ◌-◌, ◌<◌, ◌≤◌, Bool, true, false, ◌&&◌, if◌then◌else◌, List, [], ◌∷◌, ◌++◌, length, take, get_or, Option, Some, None, is_some, is_none, refl, sym, ap, ◌∙◌, append_assoc, append-nil, take_all, add-one, sub-one}
use Rattle.std.proofs.lemmas.Bool.{and_parts}
use Rattle.std.proofs.lemmas.Grind.{take_at_read}
use Rattle.scx_isa_semantics.specs.declared.callbacks.Callback.{Callback}
use Rattle.scx_isa_semantics.specs.declared.callbacks.Callback.TheVariants as callback
use Rattle.scx_isa_semantics.specs.declared.rules.Rules.{Rules}
use Rattle.scx_isa_semantics.specs.Endings.{Ending}
use Rattle.scx_vm.specs.declared.arguments.Args.{Args}
use Rattle.scx_sched_world.specs.declared.eject.Cause.{Cause}
use Rattle.scx_sched_world.specs.declared.eject.Eject.{Eject}
use Rattle.scx_sched_world.specs.declared.notes.Note.{Note}
use Rattle.scx_sched_world.specs.World as world
use Rattle.scx_sched_world.specs.World.{WorldState, are_linux, quiet, at_callback}
use Rattle.scx_sched_world.specs.Tasks.{after_leave}
use Rattle.scx_sched_world.specs.Ejecting.{eject_of}
use Rattle.scx_sched_policy.specs.Policy.{PolicyState, program_of}
use Rattle.scx_sched_machine.specs.Steps.{State, Stepped, with_world, stays, one_after_other, is_by_linux}
use Rattle.scx_sched_machine.specs.Budgets.{eject_pushes, eject_left, pushes_due}
use Rattle.scx_sched_machine.specs.Ejecting.{moves_over, eject, ejected_for}
use Rattle.scx_sched_machine.specs.Callbacks.{acting, call_ending, calls_of, cause_of, after_callback, call_back, call_by_linux, noted_by, cpu_and_task, task_and_number}
use Rattle.scx_sched_machine.specs.Custody.{is_in_custody, leaver, tells_dequeued, tells_of, tells_each, moved_as, hears_dequeue, tells_left, ended, told_first}
use Rattle.scx_sched_machine.specs.Cycle.{told_of, dispatch_called}
use Rattle.scx_sched_machine.specs.Events.{leaves_queue}
use Rattle.scx_sched_machine.proofs.Steady.{IsSteady, steady_called, steady_ejected, plain_out, plain_called}
use Rattle.scx_sched_machine.proofs.Unchanged.{left_few, left_out}

-- ---- steps in turn

-- a step that nothing follows
pub then_stays : (r : Stepped) → one_after_other r (stays r.state) ≡ r
then_stays r = λ i. record { state = r.state; notes = append-nil r.notes i; calls = append-nil r.calls i }

-- three steps, of which the last two or the first two are taken together
pub in_turn : (a b c : Stepped) → one_after_other (one_after_other a b) c ≡ one_after_other a (one_after_other b c)
in_turn a b c = λ i. record { state = c.state; notes = append_assoc a.notes b.notes c.notes i; calls = append_assoc a.calls b.calls c.calls i }

-- ---- a task leaves its queue

-- once it has left it
abbrev left : State → ℕ → State
left s t = with_world s (after_leave s.world t)

-- the policy, in whose custody it was, hears of that
pub leaves_heard : (s : State) (t c flags : ℕ) → (hears_dequeue s && is_in_custody s.world t) ≡ true → leaves_queue s t c flags ≡ call_back (with_world s (after_leave s.world t)) callback.Dequeue (task_and_number t flags) t c
unfolding hears_dequeue leaves_queue tells_dequeued call_by_linux
leaves_heard s t c flags e =
    let parts = and_parts (hears_dequeue s) (is_in_custody s.world t) e in
    ap (λ b. if b then call_by_linux (left s t) callback.Dequeue (task_and_number t flags) t c else stays (left s t)) parts.1
    ∙ ap (λ b. if b then call_back (left s t) callback.Dequeue (task_and_number t flags) t c else stays (left s t)) parts.0

-- it doesn't hear of it
pub leaves_unheard : (s : State) (t c flags : ℕ) → (hears_dequeue s && is_in_custody s.world t) ≡ false → leaves_queue s t c flags ≡ stays (with_world s (after_leave s.world t))
unfolding hears_dequeue leaves_queue tells_dequeued call_by_linux
leaves_unheard s t c flags e = go (hears_dequeue s) (is_in_custody s.world t) e
  where
    go : (h b : Bool) → (h && b) ≡ false → (if b then (if h then call_back (left s t) callback.Dequeue (task_and_number t flags) t c else stays (left s t)) else stays (left s t)) ≡ stays (left s t)
    go true true e = absurd (cc)
    go false true e = refl
    go true false e = refl
    go false false e = refl

pub ruleset leaves = (leaves_heard, leaves_unheard)

-- ---- dispatch, of a policy that doesn't hear who leaves its custody

policy_called : (s : State) (b : Callback) (a : Args) (t c : ℕ) → (call_back s b a t c).state.policy ≡ s.policy
unfolding call_back eject moves_over
policy_called s b a t c = go (cause_of b e)
  where
    e : Ending WorldState
    e = call_ending (acting s b) b a s.maps (at_callback s.world b t c)

    go : (o : Option Cause) → (ejected_for o (after_callback s.policy e)).state.policy ≡ s.policy
    go None = refl
    go (Some x) = refl

-- it doesn't hear of it after a callback either
still_unheard : (s : State) (b : Callback) (a : Args) (t c : ℕ) → hears_dequeue s ≡ false → hears_dequeue (call_back s b a t c).state ≡ false
unfolding hears_dequeue
still_unheard s b a t c e = go (is_by_linux s) refl
  where
    after : State
    after = (call_back s b a t c).state

    go : (l : Bool) → is_by_linux s ≡ l → hears_dequeue after ≡ false
    go false plain = ap (λ x. x && is_some (program_of after.policy callback.Dequeue)) (plain_called s b a t c plain)
    go true linux =
        let has_none : is_some (program_of s.policy callback.Dequeue) ≡ false = ap (λ x. x && is_some (program_of s.policy callback.Dequeue)) (sym linux) ∙ e in
        ap (λ (p : PolicyState). is_by_linux after && is_some (program_of p callback.Dequeue)) (policy_called s b a t c)
        ∙ ap (λ x. is_by_linux after && x) has_none ∙ never (is_by_linux after)
      where
        never : (b : Bool) → (b && false) ≡ false
        never true = refl
        never false = refl

-- dispatch is called, and no more
pub dispatch_unheard : (s : State) (c : ℕ) (p : Option ℕ) → hears_dequeue s ≡ false → dispatch_called s c p ≡ call_back s callback.Dispatch (cpu_and_task c (told_of s p)) 0 c
unfolding dispatch_called tells_left
dispatch_unheard s c p e =
    let a = cpu_and_task c (told_of s p) in
    let r = call_back s callback.Dispatch a 0 c in
    let t = tells_each (noted_by s callback.Dispatch a 0 c) r.state c in
    ap (λ b. one_after_other r (if b then record t { state = moved_as r.state.world.call.has_moved t.state } else stays r.state)) (still_unheard s callback.Dispatch a 0 c e)
    ∙ then_stays r

-- ---- notes of dispatch, one after another

-- one note more
told_next : (ns : List Note) (n : Note) (s : State) (c : ℕ) → tells_each (ns ++ n ∷ []) s c ≡ one_after_other (tells_each ns s c) (tells_of (leaver n.what) (tells_each ns s c).state c)
told_next [] n s c = then_stays (tells_of (leaver n.what) s c)
told_next (m ∷ ms) n s c =
    let a = tells_of (leaver m.what) s c in
    let b = tells_each ms a.state c in
    ap (λ r. one_after_other a r) (told_next ms n a.state c) ∙ sym (in_turn a b (tells_of (leaver n.what) b.state c))

-- no note is left
pub told_none : (n : ℕ) (why : Option Cause) (s : State) (c : ℕ) → n ≡ 0 → told_first n why s c ≡ ended why s
unfolding told_first
told_none zero why s c e = then_stays (ended why s)
told_none (suc n) why s c e = absurd (omega (arith, e))

-- a note more is one task more, if one left custody
pub told_more : (n : ℕ) (why : Option Cause) (s : State) (c : ℕ) (d : Note) → 0 < n → n ≤ length s.world.notes → told_first n why s c ≡ one_after_other (told_first (n - 1) why s c) (tells_of (leaver (get_or s.world.notes (n - 1) d).what) (told_first (n - 1) why s c).state c)
unfolding told_first
told_more zero why s c d l few = absurd (omega (arith, l))
told_more (suc n) why s c d l few = rw sub-one (
    ap (λ xs. one_after_other r (tells_each xs r.state c)) taken
    ∙ ap (λ x. one_after_other r x) (told_next before m r.state c)
    ∙ sym (in_turn r (tells_each before r.state c) (tells_of (leaver m.what) (tells_each before r.state c).state c)))
  where
    r : Stepped
    r = ended why s

    m : Note
    m = get_or s.world.notes n d

    before : List Note
    before = take n s.world.notes

    one : (k : ℕ) → suc k ≡ k + 1
    one k = rw add-one refl

    taken : take (suc n) s.world.notes ≡ before ++ m ∷ []
    taken = ap (λ k. take k s.world.notes) (one n) ∙ (take_at_read s.world.notes n d (omega (arith, few))).1

pub ruleset told_steps = (told_none, told_more)

-- as a callback ends no more is pushed than an ejection pushes
pub ended_due : (why : Option Cause) (s new : State) → new ≡ (ended why s).state → new.world.queues.pushes ≤ s.world.queues.pushes + eject_pushes → pushes_due new ≤ s.world.queues.pushes + eject_pushes
unfolding ended
ended_due None s new is few =
    let pushes : new.world.queues.pushes ≡ s.world.queues.pushes = ap (λ (u : State). u.world.queues.pushes) is in
    omega (arith, pushes, left_few new)
ended_due (Some x) s new is few =
    let u : State = with_world s (quiet s.world) in
    let out : Eject = eject_of x u.world.clock in
    let none : eject_left new ≡ 0 = left_out new out (ap (λ (v : State). v.world.ejected) is ∙ (steady_ejected u out).ejected) in
    omega (arith, few, none)

-- ---- dispatch, of a policy that hears who leaves its custody

-- the same rules are in force
linux_as : (w u : WorldState) → IsSteady w u → world.is_by_linux u ≡ world.is_by_linux w
linux_as w u h = ap (λ (r : Rules). are_linux r && is_none u.ejected) h.rules ∙ ap (λ (o : Option Eject). are_linux w.rules && is_none o) h.ejected

-- a policy that is out of force hears nothing
tells_nobody : (o : Option ℕ) (s : State) (c : ℕ) → is_by_linux s ≡ false → tells_of o s c ≡ stays s
unfolding tells_dequeued call_by_linux
tells_nobody None s c plain = refl
tells_nobody (Some t) s c plain = ap (λ b. if b && is_some (program_of s.policy callback.Dequeue) then call_back s callback.Dequeue (task_and_number t 0) t c else stays s) plain

tells_none : (ns : List Note) (s : State) (c : ℕ) → is_by_linux s ≡ false → tells_each ns s c ≡ stays s
tells_none [] s c plain = refl
tells_none (n ∷ ns) s c plain =
    ap (λ r. one_after_other r (tells_each ns r.state c)) (tells_nobody (leaver n.what) s c plain)
    ∙ ap (λ r. one_after_other (stays s) r) (tells_none ns s c plain)

-- what is told of these notes, and dispatch is the last callback again
abbrev told_again : List Note → Bool → State → ℕ → Stepped
told_again ns b s c = let t = tells_each ns s c in record t { state = moved_as b t.state }

-- once dispatch has run
abbrev run_dispatch : State → ℕ → Option ℕ → Ending WorldState
run_dispatch s c p =
    call_ending (acting s callback.Dispatch) callback.Dispatch (cpu_and_task c (told_of s p)) s.maps
    (at_callback s.world callback.Dispatch 0 c)

-- what such a call of dispatch comes to: it runs, and then the policy hears of each note
abbrev pub heard_of : State → ℕ → Option ℕ → Stepped
heard_of s c p =
    let e = run_dispatch s c p in
    let t = told_first (length e.outside.notes) (cause_of callback.Dispatch e) (record { policy = s.policy; maps = e.maps; world = e.outside }) c in
    record {
      state = moved_as e.outside.call.has_moved t.state;
      notes = t.notes;
      calls = calls_of (acting s callback.Dispatch) callback.Dispatch (cpu_and_task c (told_of s p)) s.maps (at_callback s.world callback.Dispatch 0 c) ++ t.calls;
    }

module _ (s : State) (c : ℕ) (p : Option ℕ) where
  e : Ending WorldState
  e = run_dispatch s c p

  ns : List Note
  ns = e.outside.notes

  told : (o : Option Cause) → hears_dequeue s ≡ true → tells_left (ejected_for o (after_callback s.policy e)).state c ns ≡ told_again ns e.outside.call.has_moved (ejected_for o (after_callback s.policy e)).state c
  unfolding tells_left hears_dequeue e ns
  told None h =
      let q = after_callback s.policy e in
      let same : IsSteady s.world e.outside = steady_called (acting s callback.Dispatch) callback.Dispatch (cpu_and_task c (told_of s p)) s.maps s.world 0 c in
      let hears : hears_dequeue q ≡ true = ap (λ b. b && is_some (program_of s.policy callback.Dequeue)) (linux_as s.world e.outside same) ∙ h in
      ap (λ b. if b then told_again ns e.outside.call.has_moved q c else stays q) hears
  told (Some x) h =
      let q = after_callback s.policy e in
      let why = eject_of x q.world.clock in
      let u = (eject q why).state in
      let out = (steady_ejected q why).ejected in
      let plain : is_by_linux u ≡ false = plain_out u.world why out in
      let again : told_again ns e.outside.call.has_moved u c ≡ stays u =
      ap (λ (t : Stepped). record t { state = moved_as e.outside.call.has_moved t.state }) (tells_none ns u c plain)
      ∙ ap (λ b. stays (if b then u else with_world u (record u.world { call = record u.world.call { has_moved = e.outside.call.has_moved } }))) (ap is_some out) in
      ap (λ b. if b && is_some (program_of u.policy callback.Dequeue) then told_again ns u.world.call.has_moved u c else stays u) plain ∙ sym again

-- dispatch runs, and then the policy hears of what it noted
pub dispatch_heard : (s : State) (c : ℕ) (p : Option ℕ) → hears_dequeue s ≡ true → dispatch_called s c p ≡ heard_of s c p
unfolding dispatch_called call_back noted_by told_first ended e ns
dispatch_heard s c p h =
    ap (λ x. one_after_other (one_after_other first out) x) (told s c p (cause_of callback.Dispatch (e s c p)) h)
    ∙ (λ i. record {
      state = (told_again all has_moved out.state c).state;
      notes = (first.notes ++ out.notes) ++ (tells_each all out.state c).notes;
      calls = append_assoc first.calls out.calls (tells_each all out.state c).calls i;
    })
    ∙ ap (λ xs. record {
      state = (told_again xs has_moved out.state c).state;
      notes = (first.notes ++ out.notes) ++ (tells_each xs out.state c).notes;
      calls = first.calls ++ (out.calls ++ (tells_each xs out.state c).calls);
    }) (sym (take_all (length all) all (omega arith)))
  where
    all : List Note
    all = ns s c p

    has_moved : Bool
    has_moved = (e s c p).outside.call.has_moved

    first : Stepped
    first = record {
      state = after_callback s.policy (e s c p);
      notes = all;
      calls = calls_of (acting s callback.Dispatch) callback.Dispatch (cpu_and_task c (told_of s p)) s.maps (at_callback s.world callback.Dispatch 0 c);
    }

    out : Stepped
    out = ejected_for (cause_of callback.Dispatch (e s c p)) first.state
