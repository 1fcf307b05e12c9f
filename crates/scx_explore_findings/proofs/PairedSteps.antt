-- Callbacks, puts and local queues of two machines that go on alike.
use Rattle.std.proofs.Common.{◌≡◌, ℕ, zero, suc, ◌+◌, ◌&&◌, ◌==◌, Bool, true, false, cond, nat_lt, Option, Some, None, is_some, not, refl, ap, arith, ◌∙◌, subst, List, length, []}
use Rattle.std.proofs.lemmas.Bool.{eqb-true}
use Rattle.std.proofs.lemmas.List.{append-nil}
use Rattle.scx_dsq.specs.Queues.{len_of, front_of}
use Rattle.scx_isa_semantics.specs.declared.callbacks.Callback.{Callback}
use Rattle.scx_isa_semantics.specs.declared.callbacks.Callback.TheVariants as callback
use Rattle.scx_vm.specs.declared.arguments.Args.{Args}
use Rattle.scx_sched_world.specs.declared.call.Insert.{Insert}
use Rattle.scx_sched_world.specs.declared.notes.What.TheVariants as note
use Rattle.scx_sched_world.specs.Ids.{global, builtin_queue, parked_queue, held_queue, local_on}
use Rattle.scx_sched_world.specs.Tasks.{after_enter, fill_front, local_len, next_for, after_fill, put_parked, after_leave, after_run, after_switch, started_at}
use Rattle.scx_sched_world.specs.Ejecting.{put_builtin, after_catch_up}
use Rattle.scx_sched_policy.specs.Policy.{PolicyState, program_of}
use Rattle.scx_sched_machine.specs.Steps.{State, Stepped, with_world, is_ejected, is_by_linux, stays, one_after_other}
use Rattle.scx_sched_machine.specs.Callbacks.{call_back, call_by_linux, one_task, task_and_number, answer_fault, as_cause, cause_of, end_fault, or_cause}
use Rattle.scx_sched_machine.specs.Cycle.{after_running, switched}
use Rattle.scx_sched_machine.specs.Put.{enters, enqueue_choice, enters_builtin, comes_in, put}
use Rattle.scx_sched_machine.specs.Filling.{move_note, fill}
use Rattle.scx_sched_machine.specs.Parking.{park, if_throttled, throttled_front, throttled_next, park_then, park_next, clear, in_reach, supply}
use Rattle.scx_sched.proofs.Supplying.{IsThrottledIn, throttled_is, throttled_next_is, park_left}
use Rattle.scx_explore_findings.proofs.Paired.{Relation, IsGiven, From, On, Turns, Changes, IsPaired, IsPairedWhole, begun, Alone, Early}
use Rattle.scx_sched_world.specs.declared.eject.Cause.{Cause}
use Rattle.scx_isa_semantics.specs.Endings.{Ending}
use Rattle.scx_sched_world.specs.declared.faults.Fault.{Fault}
use Rattle.scx_sched_world.specs.declared.faults.Fault.TheVariants.{NoSuchCpu}
use Rattle.scx_sched_world.specs.World.{WorldState}

-- one of two, by tests that say the same
pub two_if : {A : Type 0} (P : A → A → Type 0) (b c : Bool) (x x' y y' : A) → b ≡ c → P x x' → P y y' → P (cond b x y) (cond c x' y')
two_if P b c x x' y y' e p q = subst (λ (d : Bool). P (cond b x y) (cond d x' y')) e (go b)
  where
    go : (d : Bool) → P (cond d x y) (cond d x' y')
    go true = p
    go false = q

-- ---- the cause of an ejection

answer_fault_same : (b : Callback) (v w : WorldState) (n : ℕ) → v.cpus ≡ w.cpus → answer_fault b v n ≡ answer_fault b w n
answer_fault_same callback.SelectCpu v w n e = ap (λ (xs : List (Option ℕ)). cond (nat_lt n (length xs)) None (Some NoSuchCpu)) e
answer_fault_same b v w n e = refl

end_fault_same : (b : Callback) (v w : WorldState) (o : Option ℕ) → v.cpus ≡ w.cpus → end_fault b v o ≡ end_fault b w o
end_fault_same b v w None e = refl
end_fault_same b v w (Some n) e = answer_fault_same b v w n e

-- two ends of a callback eject the policy for one cause, if they answer the same, and found the same cause before
pub cause_same : (b : Callback) (e f : Ending WorldState) → e.answer ≡ f.answer → e.outside.call.cause ≡ f.outside.call.cause → e.outside.cpus ≡ f.outside.cpus → cause_of b e ≡ cause_of b f
cause_same b e f answer found cpus =
    ap (λ (o : Option Cause). or_cause o (as_cause (end_fault b e.outside e.answer))) found
    ∙ ap (λ (o : Option ℕ). or_cause f.outside.call.cause (as_cause (end_fault b e.outside o))) answer
    ∙ ap (λ (o : Option Fault). or_cause f.outside.call.cause (as_cause o)) (end_fault_same b e.outside f.outside f.answer cpus)

-- ---- steps

-- a step after which nothing is done
ended_so : (r : Stepped) (v : State) → one_after_other r (stays v) ≡ record r { state = v }
ended_so r v = λ i. record { state = v; notes = append-nil r.notes i; calls = append-nil r.calls i }

-- a local queue isn't that of held tasks
pub local_other : (c : ℕ) → (local_on c == held_queue) ≡ false
local_other c = go (local_on c == held_queue) refl
  where
    go : (b : Bool) → (local_on c == held_queue) ≡ b → b ≡ false
    go true e = let is = eqb-true (local_on c) held_queue e in absurd (omega (arith, is))
    go false e = refl

module _ (z : Relation) (k : IsPaired z) where
  -- ---- how steps are made of others

  -- two such states, whatever is said of their callbacks
  pub lower : (b : Bool) (s t : State) → z.states b s t → z.states false s t
  lower true s t e = k.eased s t e
  lower false s t e = e

  any : (b : Bool) (s t : State) → z.states true s t → z.states b s t
  any true s t e = e
  any false s t e = k.eased s t e

  -- a step that ends with a change of the state
  pub ended : (b c : Bool) (r q : Stepped) (v w : State) → z.steps b r q → (z.states b r.state q.state → z.states c v w) → z.steps c (record r { state = v }) (record q { state = w })
  ended b c r q v w x e =
      subst (λ (y : Stepped). z.steps c y (record q { state = w })) (ended_so r v)
      (subst (λ (y : Stepped). z.steps c (one_after_other r (stays v)) y) (ended_so q w) (k.joined b c r q (stays v) (stays w) x (λ h. k.rests c v w (e h))))

  -- two steps that are the same where the callback at hand is, are the same whatever is said of it
  pub steps_eased : (b : Bool) (r q : Stepped) → z.steps true r q → z.steps b r q
  steps_eased b r q x = ended true b r q r.state q.state x (any b r.state q.state)

  -- one after another
  pub chain : (b c : Bool) (r q : Stepped) (f : State → Stepped) → z.steps b r q → From z b c f → z.steps c (one_after_other r (f r.state)) (one_after_other q (f q.state))
  chain b c r q f x on = k.joined b c r q (f r.state) (f q.state) x (on r.state q.state)

  once_more : (b : Bool) (d r : Stepped) → one_after_other d (cond b r (stays d.state)) ≡ cond b (one_after_other d r) d
  once_more true d r = refl
  once_more false d r = ended_so d d.state

  -- a step, and another one where a test of what it leaves says so
  pub pair_more : (b : Bool) (d f r q : Stepped) (x y : Bool) → z.steps b d f → (z.states b d.state f.state → x ≡ y) → (z.states b d.state f.state → z.steps b r q) → z.steps b (cond x (one_after_other d r) d) (cond y (one_after_other f q) f)
  pair_more b d f r q x y first same next =
      subst (λ (w : Stepped). z.steps b w (cond y (one_after_other f q) f)) (once_more x d r)
      (subst (λ (w : Stepped). z.steps b (one_after_other d (cond x r (stays d.state))) w) (once_more y f q)
      (k.joined b b d f (cond x r (stays d.state)) (cond y q (stays f.state)) first (λ h. two_if (z.steps b) x y r q (stays d.state) (stays f.state) (same h) (next h) (k.rests b d.state f.state h))))

  -- a test of the policy under Linux rules
  pub linux_and : (f : PolicyState → Bool) (s t : State) → z.states false s t → (is_by_linux s && f s.policy) ≡ (is_by_linux t && f t.policy)
  linux_and f s t e = let x = k.reads s t e in ap (λ (b : Bool). b && f s.policy) x.linux ∙ ap (λ (p : PolicyState). is_by_linux t && f p) x.policy

  -- ---- callbacks

  -- a callback is called
  pub pair_call_back : (b : Callback) (a : Args) (u c : ℕ) → IsGiven z b a → From z false true (λ s. call_back s b a u c)
  pair_call_back b a u c given s t e =
      let r = call_back s b a u c in
      let q = call_back t b a u c in
      subst (λ (y : Stepped). z.steps true y q) (ended_so r r.state)
      (subst (λ (y : Stepped). z.steps true (one_after_other r (stays r.state)) y) (ended_so q q.state) (k.called s t b a u c given e true (stays r.state) (stays q.state) (λ h x. k.rests true r.state q.state h)))

  -- whatever is said of the callback at hand
  pub pair_told : (d : Bool) (b : Callback) (a : Args) (u c : ℕ) → IsGiven z b a → On z d (λ s. call_back s b a u c)
  pair_told d b a u c given s t e = steps_eased d (call_back s b a u c) (call_back t b a u c) (pair_call_back b a u c given s t (lower d s t e))

  -- a callback that Linux rules call more
  pub pair_call_by_linux : (d : Bool) (b : Callback) (a : Args) (u c : ℕ) → IsGiven z b a → On z d (λ s. call_by_linux s b a u c)
  unfolding call_by_linux
  pair_call_by_linux d b a u c given s t e =
      two_if (z.steps d) (is_by_linux s && is_some (program_of s.policy b)) (is_by_linux t && is_some (program_of t.policy b)) (call_back s b a u c) (call_back t b a u c) (stays s) (stays t)
      (linux_and (λ p. is_some (program_of p b)) s t (lower d s t e)) (pair_told d b a u c given s t e) (k.rests d s t e)

  -- ---- a task that is put

  -- a task comes to wait where an insert wants it
  pub pair_enters : (u : ℕ) (i : Insert) → z.may u i → On z false (λ s. enters s u i)
  unfolding enters
  pair_enters u i may s t e =
      let v = with_world s (after_enter s.world u i) in
      let w = with_world t (after_enter t.world u i) in
      k.noted false s t e (note.Insert u i.queue) (stays v) (stays w) (k.rests false v w (k.entered u i may s t e))

  pair_enters_builtin : (u : ℕ) → On z false (λ s. enters_builtin s u)
  unfolding enters_builtin
  pair_enters_builtin u s t e =
      let v = with_world s (put_builtin s.world u) in
      let w = with_world t (put_builtin t.world u) in
      k.noted false s t e (note.Insert u builtin_queue) (stays v) (stays w) (k.rests false v w (k.put u s t e))

  choice_same : (c : ℕ) (s t : State) → z.states true s t → enqueue_choice s.policy.callbacks.enqueue c s.world.call.insert ≡ enqueue_choice t.policy.callbacks.enqueue c t.world.call.insert
  choice_same c s t e =
      ap (λ (p : PolicyState). enqueue_choice p.callbacks.enqueue c s.world.call.insert) (k.reads s t (k.eased s t e)).policy
      ∙ ap (enqueue_choice t.policy.callbacks.enqueue c) (k.calls s t e).wanted

  pair_comes_in : (u c : ℕ) → From z true false (λ s. comes_in s u c)
  unfolding comes_in
  pair_comes_in u c s t e =
      let i = enqueue_choice s.policy.callbacks.enqueue c s.world.call.insert in
      let h = k.eased s t e in
      subst (λ (j : Insert). z.steps false (comes_in s u c) (cond (is_ejected t) (enters_builtin t u) (enters t u j))) (choice_same c s t e)
      (two_if (z.steps false) (is_ejected s) (is_ejected t) (enters_builtin s u) (enters_builtin t u) (enters s u i) (enters t u i) (k.reads s t h).ejected (pair_enters_builtin u s t h) (pair_enters u i (k.chooses s t u c e) s t h))

  -- a task is put
  pub pair_put : (u c flags : ℕ) → On z false (λ s. put s u c flags)
  unfolding put
  pair_put u c flags s t e =
      let a = task_and_number u flags in
      chain true false (call_back s callback.Enqueue a u c) (call_back t callback.Enqueue a u c) (λ r. comes_in r u c) (pair_call_back callback.Enqueue a u c (Early callback.Enqueue a refl) s t e) (pair_comes_in u c)

  -- ---- a task that begins to run

  -- a task got its slice
  pub pair_switched : (u : ℕ) → Turns z false (λ s. switched s u)
  unfolding switched
  pair_switched u s t e =
      two_if (z.states false) (is_by_linux s && not (s.policy.tick_ms == 0)) (is_by_linux t && not (t.policy.tick_ms == 0)) (with_world s (after_switch s.world u)) (with_world t (after_switch t.world u)) s t
      (linux_and (λ p. not (p.tick_ms == 0)) s t e) (k.switched u s t e) e

  pair_running : (c u : ℕ) → z.told u → Changes z false (λ w. after_catch_up w u) → On z false (λ s. after_running s c u)
  unfolding after_running
  pair_running c u told caught s t e =
      let v = with_world s (after_catch_up s.world u) in
      let w = with_world t (after_catch_up t.world u) in
      two_if (z.steps false) (is_ejected s) (is_ejected t) (stays v) (stays w) (call_back s callback.Running (one_task u) u c) (call_back t callback.Running (one_task u) u c) (k.reads s t e).ejected
      (k.rests false v w (caught s t e)) (pair_told false callback.Running (one_task u) u c (Alone callback.Running u told) s t e)

  -- and the policy hears that it runs, if both states tell its slice
  pub pair_begun : (c u : ℕ) → z.told u → Changes z false (λ w. after_catch_up w u) → On z false (begun c u)
  pair_begun c u told caught s t e = pair_running c u told caught (switched s u) (switched t u) (pair_switched u s t e)

  -- so tasks of a local queue begin to run, if both states tell the slice of each task
  pub begun_anyhow : ((u : ℕ) → z.told u) → ((u : ℕ) → Changes z false (λ w. after_catch_up w u)) → ((c u : ℕ) → Changes z false (λ w. started_at (Some u) w c)) → ((c u : ℕ) → Changes z false (λ w. after_run w c u)) → IsPairedWhole z
  begun_anyhow told caught started ran = record {
    small = k;
    starts = λ c u s t e front. pair_begun c u (told u) (caught u) (with_world s (started_at (Some u) s.world c)) (with_world t (started_at (Some u) t.world c)) (started c u s t e);
    runs = λ c u s t e local. pair_begun c u (told u) (caught u) (with_world s (after_run s.world c u)) (with_world t (after_run t.world c u)) (ran c u s t e);
  }

  -- ---- local queues are filled, and their fronts parked

  fill_same : (s t : State) (q c : ℕ) → z.states false s t → fill_front s.world q c ≡ fill_front t.world q c
  fill_same s t q c e =
      let x = k.reads s t e in
      ap (λ (n : ℕ). cond (nat_lt 0 n) None (next_for s.world q c)) (x.lengths (local_on c)) ∙ ap (λ (o : Option ℕ). cond (nat_lt 0 (local_len t.world c)) None o) (x.next q c)

  -- a local queue is filled
  pub pair_fill : (b : Bool) (q c : ℕ) → (q == held_queue) ≡ false → On z b (λ s. fill s q c)
  unfolding fill
  pair_fill b q c other s t e = subst (λ (o : Option ℕ). z.steps b (fill s q c) (noting t w o)) (fill_same s t q c (lower b s t e)) (go (fill_front s.world q c))
    where
      v : State
      v = with_world s (after_fill s.world q c)

      w : State
      w = with_world t (after_fill t.world q c)

      noting : State → State → Option ℕ → Stepped
      noting x y o = record { state = y; notes = move_note x.world o c; calls = [] }

      there : z.steps b (stays v) (stays w)
      there = k.rests b v w (k.filled b q c other s t e)

      go : (o : Option ℕ) → z.steps b (noting s v o) (noting t w o)
      go None = there
      go (Some u) = k.noted b s t e (note.Move u c) (stays v) (stays w) there

  pair_park_left : (b : Bool) (q u : ℕ) (s t : State) → (q == held_queue) ≡ false → IsThrottledIn s q u → z.states b s t → z.steps b (park_left s u) (park_left t u)
  unfolding park
  pair_park_left b q u s t other there e =
      let v = with_world s (put_parked (after_leave s.world u) u) in
      let w = with_world t (put_parked (after_leave t.world u) u) in
      k.noted b s t e (note.Insert u parked_queue) (stays v) (stays w) (k.rests b v w (k.parked b q u s t other there e))

  throttled_same : (s t : State) → z.states false s t → (o x : Option ℕ) → o ≡ x → if_throttled s.world o ≡ if_throttled t.world x
  throttled_same s t e o x f = at o ∙ ap (if_throttled t.world) f
    where
      at : (y : Option ℕ) → if_throttled s.world y ≡ if_throttled t.world y
      at None = refl
      at (Some u) = ap (λ (b : Bool). cond b (Some u) None) ((k.reads s t e).throttled u)

  -- a throttled task of such a queue is parked, and what follows
  pair_park_then : (b : Bool) (next : State → Stepped) → On z b next → (q : ℕ) → (q == held_queue) ≡ false → (s t : State) → z.states b s t → (o x : Option ℕ) → o ≡ x → ((u : ℕ) → o ≡ Some u → IsThrottledIn s q u) → z.steps b (park_then next s o) (park_then next t x)
  pair_park_then b next more q other s t e o x f is = subst (λ (y : Option ℕ). z.steps b (park_then next s o) (park_then next t y)) f (go o is)
    where
      go : (y : Option ℕ) → ((u : ℕ) → y ≡ Some u → IsThrottledIn s q u) → z.steps b (park_then next s y) (park_then next t y)
      go None there = k.rests b s t e
      go (Some u) there = chain b b (park_left s u) (park_left t u) next (pair_park_left b q u s t other (there u refl) e) more

  -- the first tasks of a queue that may run on a CPU are parked, as long as they are throttled
  pub pair_park_next : (b : Bool) (n q c : ℕ) → (q == held_queue) ≡ false → On z b (λ s. park_next n s q c)
  unfolding park_next
  pair_park_next b zero q c other s t e = k.rests b s t e
  pair_park_next b (suc n) q c other s t e =
      let h = lower b s t e in
      pair_park_then b (λ r. park_next n r q c) (pair_park_next b n q c other) q other s t e (throttled_next s q c) (throttled_next t q c) (throttled_same s t h (next_for s.world q c) (next_for t.world q c) ((k.reads s t h).next q c)) (throttled_next_is s q c)

  pair_cleared : (b : Bool) (n c : ℕ) → On z b (λ s. clear n s c) → On z b (λ s. park_then (λ r. clear n r c) s (throttled_front s (local_on c)))
  pair_cleared b n c more s t e =
      let h = lower b s t e in
      let q = local_on c in
      pair_park_then b (λ r. clear n r c) more q (local_other c) s t e (throttled_front s q) (throttled_front t q) (throttled_same s t h (front_of s.world.queues q) (front_of t.world.queues q) ((k.reads s t h).fronts q)) (throttled_is s q)

  pair_clear : (b : Bool) (n c : ℕ) → On z b (λ s. clear n s c)
  unfolding clear
  pair_clear b zero c s t e = k.rests b s t e
  pair_clear b (suc n) c s t e =
      chain b b (fill s global c) (fill t global c) (λ r. park_then (λ v. clear n v c) r (throttled_front r (local_on c))) (pair_fill b global c refl s t e) (pair_cleared b n c (pair_clear b n c))

  reach_same : (c : ℕ) (s t : State) → z.states false s t → in_reach s c ≡ in_reach t c
  reach_same c s t e =
      let x = k.reads s t e in
      ap (λ (n : ℕ). n + len_of s.world.queues global) (x.lengths (local_on c)) ∙ ap (λ (n : ℕ). len_of t.world.queues (local_on c) + n) (x.lengths global)

  -- a local queue is supplied
  pub pair_supply : (b : Bool) (c : ℕ) → On z b (λ s. supply s c)
  unfolding supply
  pair_supply b c s t e = subst (λ (n : ℕ). z.steps b (clear (in_reach s c) s c) (clear n t c)) (reach_same c s t (lower b s t e)) (pair_clear b (in_reach s c) c s t e)
