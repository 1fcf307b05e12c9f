-- Scheduling cycles under plain rules, as long as the policy is in force: they lead from two states that are the same but for
-- what ticks count to two such states, or eject the policy in both for one cause.
use Rattle.std.proofs.Common.{◌≡◌, ℕ, zero, suc, Bool, true, false, cond, ◌&&◌, ◌==◌, not, is_none, is_some, List, Option, Some, None, refl, sym, ap, ◌∙◌, subst}
use Rattle.scx_dsq.specs.Queues.{len_of, front_of}
use Rattle.scx_isa_semantics.specs.declared.callbacks.Callback.{Callback}
use Rattle.scx_isa_semantics.specs.declared.callbacks.Callback.TheVariants as callback
use Rattle.scx_vm.specs.declared.arguments.Args.{Args}
use Rattle.scx_sched_world.specs.declared.eject.Eject.{Eject}
use Rattle.scx_sched_world.specs.declared.notes.Note.{Note}
use Rattle.scx_sched_world.specs.Ids.{builtin_queue, local_on}
use Rattle.scx_sched_world.specs.World.{WorldState, cycling_by_linux, task_at, running}
use Rattle.scx_sched_world.specs.Tasks.{after_stop, started_at, after_switch, after_keep, to_front}
use Rattle.scx_sched_world.specs.Ejecting.{after_catch_up, after_charge}
use Rattle.scx_sched_policy.specs.Policy.{PolicyState, program_of}
use Rattle.scx_sched_machine.specs.Steps.{State, Stepped, with_world, is_ejected, is_by_linux, kicked, stays, one_after_other}
use Rattle.scx_sched_machine.specs.Callbacks.{call_back, noted_by, one_task, task_and_number, cpu_and_task}
use Rattle.scx_sched_machine.specs.Custody.{tells_each, moved_as, hears_dequeue, tells_left}
use Rattle.scx_sched_machine.specs.Put.{enters, put}
use Rattle.scx_sched_machine.specs.Parking.{park_next, supply}
use Rattle.scx_sched_machine.specs.Cycle.{has_local, keeps_slice, supply_unless_kept, told_of, dispatch_called, after_dispatch, moved_in_vain, asks_again, tries, stopping_called, after_stopping, after_running, put_back, leave, switched, started_if, start, hears_idle, kept, rest, swap, swap_or_rest, builtin_dispatch, builtin_fill, builtin_ask, builtin_cycle, picked, refilled, start_or_cycle, start_picked_or_cycle, makes_way, pick, pick_or_rest, keep_or_pick, conclude, give_up, ask, seek, look, cycling, falls_idle, becomes_idle, concluded, cycle}
use Rattle.scx_sched_machine.proofs.Choices.{keeps_if}
use Rattle.scx_sched_machine.proofs.Steady.{plain_out}
use Rattle.scx_sched.proofs.Unchanged.{same_kept, ruled_cycling}
use Rattle.scx_sched.proofs.Blaming.{plain_on, honest_call_back, honest_supply, honest_tries, honest_builtin_cycle, way_plain, honest_look}
use Rattle.scx_explore_findings.specs.Asked.{AskAnyhow}
use Rattle.scx_explore_findings.specs.Counted.{LoadsNoCount}
use Rattle.scx_explore_findings.proofs.CountedWorlds.{plain, leaves_stop, leaves_started, leaves_keep}
use Rattle.scx_explore_findings.proofs.CountedSteps.{otherwise, StaysOut, IsEven, Ends, Meet, On, Still, even_ends, even_step, plainly, plainly_there, in_force, in_force_there, after_ends, chain, still_fill, still_park_next, still_supply, out_call_back, on_call_back, out_enters, on_put, out_put}
use Rattle.scx_explore_findings.proofs.PairedSteps.{two_if}

-- ---- what is done under Linux rules alone

no_slice_kept : (s : State) (o : Option ℕ) → is_by_linux s ≡ false → keeps_slice s o ≡ false
no_slice_kept s None e = refl
no_slice_kept s (Some u) e = ap (λ (b : Bool). b && not ((task_at s.world u).slice == 0)) e

not_switched : (s : State) (u : ℕ) → is_by_linux s ≡ false → switched s u ≡ s
unfolding switched
not_switched s u e = ap (λ (b : Bool). cond (b && not (s.policy.tick_ms == 0)) (with_world s (after_switch s.world u)) s) e

nothing_kept : (s : State) (o : Option ℕ) → is_by_linux s ≡ false → kept s o ≡ s
nothing_kept s None e = refl
nothing_kept s (Some u) e = not_switched s u e

goes_on : (s : State) (c : ℕ) (o : Option ℕ) → is_by_linux s ≡ false → give_up s c o ≡ s
unfolding give_up
goes_on s c o e = ap (λ (b : Bool). cond (b && asks_again s c o) (kicked s c) s) e

cycles_plainly : (s : State) (o : Option ℕ) → is_by_linux s ≡ false → cycling s o ≡ with_world s (record s.world { cycling = o })
cycles_plainly s o e = ap (λ (b : Bool). with_world s (cond b (cycling_by_linux s.world o) (record s.world { cycling = o }))) e

tells_nobody : (s : State) (c : ℕ) (ns : List Note) → is_by_linux s ≡ false → (tells_left s c ns).state ≡ s
unfolding tells_left hears_dequeue
tells_nobody s c ns e =
    ap (λ (b : Bool). (cond (b && is_some (program_of s.policy callback.Dequeue)) (let r = tells_each ns s c in record r { state = moved_as s.world.call.has_moved r.state }) (stays s)).state) e

nobody_picked : (s : State) (c : ℕ) → is_by_linux s ≡ false → picked s c ≡ None
unfolding picked
nobody_picked s c e = ap (λ (b : Bool). cond b (front_of s.world.queues (local_on c)) None) e

no_idle_told : (s : State) (c : ℕ) (ran : Bool) → is_by_linux s ≡ false → (concluded s c ran).state ≡ cycling s None
unfolding concluded falls_idle hears_idle
no_idle_told s c ran e =
    ap (λ (b : Bool). (cond (ran && ((b && is_some (program_of s.policy callback.UpdateIdle)) && is_none (running s.world c))) (becomes_idle s c) (stays (cycling s None))).state) e ∙ go ran
  where
    go : (b : Bool) → (cond (b && false) (becomes_idle s c) (stays (cycling s None))).state ≡ cycling s None
    go true = refl
    go false = refl

no_choice : (b : Callback) → b ≡ callback.Running → b ≡ callback.SelectCpu → ⊥
no_choice b e f = absurd (cc)

-- ---- what stays out of force

pub out_if : (x : Eject) (b : Bool) (r q : Stepped) → r.state.world.ejected ≡ Some x → q.state.world.ejected ≡ Some x → (cond b r q).state.world.ejected ≡ Some x
out_if x b r q h k = keeps_if (λ (y : Stepped). y.state.world.ejected ≡ Some x) b r q h k

out_supply : (c : ℕ) → StaysOut (λ s. supply s c)
out_supply c s x out = (honest_supply s c).stays x out

out_supply_unless_kept : (c : ℕ) (o : Option ℕ) → StaysOut (λ s. supply_unless_kept s c o)
unfolding supply_unless_kept
out_supply_unless_kept c o s x out = out_if x (keeps_slice s o) (stays s) (supply s c) out (out_supply c s x out)

out_put_back : (c u : ℕ) → StaysOut (λ s. put_back s c u)
unfolding put_back
out_put_back c u s x out = out_if x (keeps_slice s (Some u)) (enters s u (to_front c)) (put s u c 0) (out_enters u (to_front c) s x out) (out_put u c 0 s x out)

out_after_running : (c u : ℕ) → StaysOut (λ s. after_running s c u)
unfolding after_running
out_after_running c u s x out =
    out_if x (is_ejected s) (stays (with_world s (after_catch_up s.world u))) (call_back s callback.Running (one_task u) u c) out
    (out_call_back callback.Running (one_task u) u c (no_choice callback.Running refl) s x out)

out_started : (o : Option ℕ) (c : ℕ) → StaysOut (λ s. started_if o s c)
out_started None c s x out = out
out_started (Some u) c s x out =
    let v = with_world s (started_at (Some u) s.world c) in
    out_after_running c u (switched v u) x (ap (λ (y : State). y.world.ejected) (not_switched v u (plain_out v.world x out)) ∙ out)

out_start : (c : ℕ) → StaysOut (λ s. start s c)
unfolding start
out_start c s x out = out_started (front_of s.world.queues (local_on c)) c s x out

out_start_or_cycle : (c : ℕ) (ran : Bool) → StaysOut (λ s. start_or_cycle s c ran)
unfolding start_or_cycle
out_start_or_cycle c ran s x out = out_if x (has_local s c) (start s c) (builtin_cycle s c None ran) (out_start c s x out) ((honest_builtin_cycle s c None ran).stays x out)

out_conclude : (c : ℕ) (o : Option ℕ) (ran : Bool) → StaysOut (λ s. conclude s c o ran)
unfolding conclude
out_conclude c o ran s x out =
    ap (λ (b : Bool). (cond b (builtin_cycle s c o ran) (keep_or_pick s c o ran)).state.world.ejected) (ap is_some out) ∙ (honest_builtin_cycle s c o ran).stays x out

pub out_cycling : (o : Option ℕ) (s : State) (x : Eject) → s.world.ejected ≡ Some x → (cycling s o).world.ejected ≡ Some x
out_cycling o s x out = (ruled_cycling s.world o).1 ∙ out

out_concluded : (c : ℕ) (ran : Bool) → StaysOut (λ s. concluded s c ran)
out_concluded c ran s x out = ap (λ (y : State). y.world.ejected) (no_idle_told s c ran (plain_out s.world x out)) ∙ out_cycling None s x out

-- a cycle leaves a policy out of force that is so
pub out_cycle : (c : ℕ) (o : Option ℕ) (ran : Bool) → StaysOut (λ s. cycle s c o ran)
unfolding cycle
out_cycle c o ran s x out =
    let v = cycling s (Some c) in
    out_concluded c ran (look v c o ran).state x ((honest_look v c o ran).stays x (out_cycling (Some c) s x out))

module _ (p : PolicyState) (told : AskAnyhow LoadsNoCount p) where
  abbrev Evens : Stepped → Stepped → Type 0
  Evens r q = IsEven p told r.state q.state

  -- two states that are those
  pub as_they_are : (P : State → State → Type 0) (s s' t t' : State) → s' ≡ s → t' ≡ t → P s t → P s' t'
  as_they_are P s s' t t' e f k = subst (λ (x : State). P x t') (sym e) (subst (λ (x : State). P s x) (sym f) k)

  pub ends_if : (b c : Bool) (x x' y y' : Stepped) → b ≡ c → Meet p told x x' → Meet p told y y' → Meet p told (cond b x y) (cond c x' y')
  ends_if b c x x' y y' e k l = two_if (Meet p told) b c x x' y y' e k l

  even_if : (b c : Bool) (x x' y y' : Stepped) → b ≡ c → Evens x x' → Evens y y' → Evens (cond b x y) (cond c x' y')
  even_if b c x x' y y' e k l = two_if Evens b c x x' y y' e k l

  local_same : (c : ℕ) (s t : State) → IsEven p told s t → has_local s c ≡ has_local t c
  local_same c s t e = ap (λ (x : State). has_local x c) e.same

  rests : On p told stays
  rests s t e = even_ends p told s t e

  -- ---- dispatch

  still_supply_unless_kept : (c : ℕ) (o : Option ℕ) → Still p told (λ s. supply_unless_kept s c o)
  unfolding supply_unless_kept
  still_supply_unless_kept c o s t e =
      otherwise Evens (keeps_slice s o) (keeps_slice t o) (stays s) (stays t) (supply s c) (supply t c) (no_slice_kept s o (plainly p told s t e)) (no_slice_kept t o (plainly_there p told s t e)) (still_supply p told c s t e)

  on_dispatch_called : (c : ℕ) (o : Option ℕ) → On p told (λ s. dispatch_called s c o)
  unfolding dispatch_called
  on_dispatch_called c o s t e =
      let a = cpu_and_task c (told_of s o) in
      let d = cpu_and_task c (told_of t o) in
      let r = call_back s callback.Dispatch a 0 c in
      let q = call_back t callback.Dispatch d 0 c in
      let here = plain_on s r (honest_call_back s callback.Dispatch a 0 c (λ is. absurd (cc))) (plainly p told s t e) in
      let there = plain_on t q (honest_call_back t callback.Dispatch d 0 c (λ is. absurd (cc))) (plainly_there p told s t e) in
      as_they_are (Ends p told) r.state (tells_left r.state c (noted_by s callback.Dispatch a 0 c)).state q.state (tells_left q.state c (noted_by t callback.Dispatch d 0 c)).state
      (tells_nobody r.state c (noted_by s callback.Dispatch a 0 c) here) (tells_nobody q.state c (noted_by t callback.Dispatch d 0 c) there)
      (subst (λ (z : Args). Ends p told r.state (call_back t callback.Dispatch z 0 c).state) (ap (λ (x : State). cpu_and_task c (told_of x o)) e.same) (on_call_back p told callback.Dispatch a 0 c s t e))

  on_dispatch : (c : ℕ) (o : Option ℕ) → On p told (λ s. after_dispatch s c o)
  unfolding after_dispatch
  on_dispatch c o =
      chain p told (λ s. dispatch_called s c o) (λ s. supply_unless_kept s c o) (on_dispatch_called c o)
      (λ s t e. even_ends p told (supply_unless_kept s c o).state (supply_unless_kept t c o).state (still_supply_unless_kept c o s t e)) (out_supply_unless_kept c o)

  asks_same : (c : ℕ) (o : Option ℕ) (s t : State) → IsEven p told s t → asks_again s c o ≡ asks_again t c o
  asks_same c o s t e =
      ap (λ (b : Bool). not b && moved_in_vain s c) (no_slice_kept s o (plainly p told s t e) ∙ sym (no_slice_kept t o (plainly_there p told s t e)))
      ∙ ap (λ (b : Bool). not (keeps_slice t o) && b) (ap (λ (x : State). moved_in_vain x c) e.same)

  -- asked again, where that is so
  abbrev tried : ℕ → ℕ → Option ℕ → State → Stepped
  tried n c o s = cond (asks_again s c o) (tries n s c o) (stays s)

  out_tries : (n c : ℕ) (o : Option ℕ) → StaysOut (λ s. tries n s c o)
  out_tries n c o s x out = (honest_tries n s c o).stays x out

  once_more : (b : Bool) (d r : Stepped) → (cond b (one_after_other d r) d).state ≡ (cond b r (stays d.state)).state
  once_more true d r = refl
  once_more false d r = refl

  on_tries : (n c : ℕ) (o : Option ℕ) → On p told (λ s. tries n s c o)
  unfolding tries
  on_tries zero c o s t e = even_ends p told s t e
  on_tries (suc n) c o s t e =
      let d = after_dispatch s c o in
      let f = after_dispatch t c o in
      as_they_are (Ends p told) (tried n c o d.state).state (cond (asks_again d.state c o) (one_after_other d (tries n d.state c o)) d).state (tried n c o f.state).state (cond (asks_again f.state c o) (one_after_other f (tries n f.state c o)) f).state
      (once_more (asks_again d.state c o) d (tries n d.state c o)) (once_more (asks_again f.state c o) f (tries n f.state c o))
      (after_ends p told (tried n c o)
      (λ x y k. ends_if (asks_again x c o) (asks_again y c o) (tries n x c o) (tries n y c o) (stays x) (stays y) (asks_same c o x y k) (on_tries n c o x y k) (rests x y k))
      (λ x z out. out_if z (asks_again x c o) (tries n x c o) (stays x) (out_tries n c o x z out) out) d.state f.state (on_dispatch c o s t e))

  -- ---- on and off a processor

  pub on_stopping : (c u n : ℕ) → On p told (λ s. after_stopping s c u n)
  unfolding after_stopping
  on_stopping c u n s t e =
      otherwise (Meet p told) (is_ejected s) (is_ejected t) (stays (with_world s (after_charge s.world u))) (stays (with_world t (after_charge t.world u))) (stopping_called s c u n) (stopping_called t c u n) (in_force p told s t e) (in_force_there p told s t e)
      (on_call_back p told _ (task_and_number u n) u c s t e)

  on_running : (c u : ℕ) → On p told (λ s. after_running s c u)
  unfolding after_running
  on_running c u s t e =
      otherwise (Meet p told) (is_ejected s) (is_ejected t) (stays (with_world s (after_catch_up s.world u))) (stays (with_world t (after_catch_up t.world u))) (call_back s callback.Running (one_task u) u c) (call_back t callback.Running (one_task u) u c) (in_force p told s t e) (in_force_there p told s t e)
      (on_call_back p told callback.Running (one_task u) u c s t e)

  on_put_back : (c u : ℕ) → On p told (λ s. put_back s c u)
  unfolding put_back
  on_put_back c u s t e =
      otherwise (Meet p told) (keeps_slice s (Some u)) (keeps_slice t (Some u)) (enters s u (to_front c)) (enters t u (to_front c)) (put s u c 0) (put t u c 0) (no_slice_kept s (Some u) (plainly p told s t e)) (no_slice_kept t (Some u) (plainly_there p told s t e))
      (on_put p told u c 0 s t e)

  pub even_stop : (c u : ℕ) (s t : State) → IsEven p told s t → IsEven p told (with_world s (after_stop s.world c u)) (with_world t (after_stop t.world c u))
  even_stop c u s t e = even_step p told (λ w. after_stop w c u) (leaves_stop c u) s t e refl refl

  on_leave : (c : ℕ) (o : Option ℕ) → On p told (λ s. leave s c o)
  unfolding leave
  on_leave c None s t e = even_ends p told s t e
  on_leave c (Some u) s t e =
      chain p told (λ x. after_stopping x c u 1) (λ x. put_back x c u) (on_stopping c u 1) (on_put_back c u) (out_put_back c u) (with_world s (after_stop s.world c u)) (with_world t (after_stop t.world c u)) (even_stop c u s t e)

  -- a front that begins to run
  on_started : (o : Option ℕ) (c : ℕ) → On p told (λ s. started_if o s c)
  on_started None c s t e = even_ends p told s t e
  on_started (Some u) c s t e =
      let v = with_world s (started_at (Some u) s.world c) in
      let w = with_world t (started_at (Some u) t.world c) in
      let k = even_step p told (λ x. started_at (Some u) x c) (leaves_started u c) s t e refl refl in
      as_they_are (λ x y. Ends p told (after_running x c u).state (after_running y c u).state) v (switched v u) w (switched w u) (not_switched v u (plainly p told v w k)) (not_switched w u (plainly_there p told v w k)) (on_running c u v w k)

  on_start : (c : ℕ) → On p told (λ s. start s c)
  unfolding start
  on_start c s t e =
      subst (λ (o : Option ℕ). Meet p told (started_if (front_of s.world.queues (local_on c)) s c) (started_if o t c)) (ap (λ (x : State). front_of x.world.queues (local_on c)) e.same)
      (on_started (front_of s.world.queues (local_on c)) c s t e)

  on_rest : (c : ℕ) (o : Option ℕ) (ran : Bool) → On p told (λ s. rest s c o ran)
  unfolding rest
  on_rest c o ran s t e =
      let v = with_world s (after_keep s.world o) in
      let w = with_world t (after_keep t.world o) in
      let k = even_step p told (λ x. after_keep x o) (leaves_keep o) s t e (same_kept s.world o).1 (same_kept s.world o).4 in
      as_they_are (Ends p told) v (kept v o) w (kept w o) (nothing_kept v o (plainly p told v w k)) (nothing_kept w o (plainly_there p told v w k)) (even_ends p told v w k)

  -- ---- the built-in scheduler

  on_swap : (c : ℕ) (o : Option ℕ) → On p told (λ s. swap s c o)
  unfolding swap
  on_swap c o = chain p told (λ s. leave s c o) (λ s. start s c) (on_leave c o) (on_start c) (out_start c)

  on_swap_or_rest : (c : ℕ) (o : Option ℕ) (ran : Bool) → On p told (λ s. swap_or_rest s c o ran)
  unfolding swap_or_rest
  on_swap_or_rest c o ran s t e = ends_if (has_local s c) (has_local t c) (swap s c o) (swap t c o) (rest s c o ran) (rest t c o ran) (local_same c s t e) (on_swap c o s t e) (on_rest c o ran s t e)

  still_builtin_dispatch : (c : ℕ) → Still p told (λ s. builtin_dispatch s c)
  unfolding builtin_dispatch
  still_builtin_dispatch c s t e =
      let n = len_of s.world.queues builtin_queue in
      let k = subst (λ (m : ℕ). IsEven p told (park_next n s builtin_queue c).state (park_next m t builtin_queue c).state) (ap (λ (x : State). len_of x.world.queues builtin_queue) e.same) (still_park_next p told n builtin_queue c s t e) in
      still_fill p told builtin_queue c (park_next n s builtin_queue c).state (park_next (len_of t.world.queues builtin_queue) t builtin_queue c).state k

  still_builtin_fill : (c : ℕ) → Still p told (λ s. builtin_fill s c)
  unfolding builtin_fill
  still_builtin_fill c s t e = even_if (has_local s c) (has_local t c) (stays s) (stays t) (builtin_dispatch s c) (builtin_dispatch t c) (local_same c s t e) e (still_builtin_dispatch c s t e)

  on_builtin_ask : (c : ℕ) (o : Option ℕ) (ran : Bool) → On p told (λ s. builtin_ask s c o ran)
  unfolding builtin_ask
  on_builtin_ask c o ran s t e = on_swap_or_rest c o ran (builtin_fill s c).state (builtin_fill t c).state (still_builtin_fill c s t e)

  on_builtin_cycle : (c : ℕ) (o : Option ℕ) (ran : Bool) → On p told (λ s. builtin_cycle s c o ran)
  unfolding builtin_cycle
  on_builtin_cycle c o ran s t e = on_builtin_ask c o ran (supply s c).state (supply t c).state (still_supply p told c s t e)

  -- ---- the policy

  on_start_or_cycle : (c : ℕ) (ran : Bool) → On p told (λ s. start_or_cycle s c ran)
  unfolding start_or_cycle
  on_start_or_cycle c ran s t e = ends_if (has_local s c) (has_local t c) (start s c) (start t c) (builtin_cycle s c None ran) (builtin_cycle t c None ran) (local_same c s t e) (on_start c s t e) (on_builtin_cycle c None ran s t e)

  on_makes_way : (c : ℕ) (o : Option ℕ) (ran : Bool) → On p told (λ s. makes_way s c o ran)
  on_makes_way c o ran s t e =
      as_they_are (Ends p told) (leave s c o).state (makes_way s c o ran).state (leave t c o).state (makes_way t c o ran).state (way_plain s c o ran (plainly p told s t e)) (way_plain t c o ran (plainly_there p told s t e)) (on_leave c o s t e)

  -- the front is picked, or that task
  abbrev picks : ℕ → Option ℕ → Bool → Option ℕ → State → Stepped
  picks c o ran front s = let l = makes_way (refilled s front) c o ran in one_after_other l (start_picked_or_cycle front l.state c ran)

  on_picks : (c : ℕ) (o : Option ℕ) (ran : Bool) → On p told (picks c o ran None)
  on_picks c o ran = chain p told (λ s. makes_way s c o ran) (λ s. start_or_cycle s c ran) (on_makes_way c o ran) (on_start_or_cycle c ran) (out_start_or_cycle c ran)

  on_pick : (c : ℕ) (o : Option ℕ) (ran : Bool) → On p told (λ s. pick s c o ran)
  unfolding pick
  on_pick c o ran s t e =
      subst (λ (x : Option ℕ). Meet p told (picks c o ran x s) (picks c o ran (picked t c) t)) (sym (nobody_picked s c (plainly p told s t e)))
      (subst (λ (x : Option ℕ). Meet p told (picks c o ran None s) (picks c o ran x t)) (sym (nobody_picked t c (plainly_there p told s t e))) (on_picks c o ran s t e))

  on_pick_or_rest : (c : ℕ) (o : Option ℕ) (ran : Bool) → On p told (λ s. pick_or_rest s c o ran)
  unfolding pick_or_rest
  on_pick_or_rest c o ran s t e = ends_if (has_local s c) (has_local t c) (pick s c o ran) (pick t c o ran) (rest s c o ran) (rest t c o ran) (local_same c s t e) (on_pick c o ran s t e) (on_rest c o ran s t e)

  on_keep_or_pick : (c : ℕ) (o : Option ℕ) (ran : Bool) → On p told (λ s. keep_or_pick s c o ran)
  unfolding keep_or_pick
  on_keep_or_pick c o ran s t e =
      otherwise (Meet p told) (keeps_slice s o) (keeps_slice t o) (stays (kept s o)) (stays (kept t o)) (pick_or_rest s c o ran) (pick_or_rest t c o ran) (no_slice_kept s o (plainly p told s t e)) (no_slice_kept t o (plainly_there p told s t e))
      (on_pick_or_rest c o ran s t e)

  on_conclude : (c : ℕ) (o : Option ℕ) (ran : Bool) → On p told (λ s. conclude s c o ran)
  unfolding conclude
  on_conclude c o ran s t e =
      otherwise (Meet p told) (is_ejected s) (is_ejected t) (builtin_cycle s c o ran) (builtin_cycle t c o ran) (keep_or_pick s c o ran) (keep_or_pick t c o ran) (in_force p told s t e) (in_force_there p told s t e) (on_keep_or_pick c o ran s t e)

  on_ask : (c : ℕ) (o : Option ℕ) (ran : Bool) → On p told (λ s. ask s c o ran)
  unfolding ask
  on_ask c o ran =
      chain p told (λ s. tries 32 s c o) (λ s. conclude (give_up s c o) c o ran) (on_tries 32 c o)
      (λ s t e. as_they_are (λ x y. Ends p told (conclude x c o ran).state (conclude y c o ran).state) s (give_up s c o) t (give_up t c o) (goes_on s c o (plainly p told s t e)) (goes_on t c o (plainly_there p told s t e)) (on_conclude c o ran s t e))
      (λ s x out. ap (λ (y : State). (conclude y c o ran).state.world.ejected) (goes_on s c o (plain_out s.world x out)) ∙ out_conclude c o ran s x out)

  on_seek : (c : ℕ) (o : Option ℕ) (ran : Bool) → On p told (λ s. seek s c o ran)
  unfolding seek
  on_seek c o ran s t e =
      let x = (supply s c).state in
      let y = (supply t c).state in
      let k = still_supply p told c s t e in
      ends_if (has_local x c) (has_local y c) (pick x c o ran) (pick y c o ran) (ask x c o ran) (ask y c o ran) (local_same c x y k) (on_pick c o ran x y k) (on_ask c o ran x y k)

  on_look : (c : ℕ) (o : Option ℕ) (ran : Bool) → On p told (λ s. look s c o ran)
  unfolding look
  on_look c o ran s t e =
      otherwise (Meet p told) (is_ejected s) (is_ejected t) (builtin_cycle s c o ran) (builtin_cycle t c o ran) (seek s c o ran) (seek t c o ran) (in_force p told s t e) (in_force_there p told s t e) (on_seek c o ran s t e)

  pub even_cycling : (o : Option ℕ) (s t : State) → IsEven p told s t → IsEven p told (cycling s o) (cycling t o)
  even_cycling o s t e =
      let f : WorldState → WorldState = λ w. record w { cycling = o } in
      as_they_are (IsEven p told) (with_world s (f s.world)) (cycling s o) (with_world t (f t.world)) (cycling t o) (cycles_plainly s o (plainly p told s t e)) (cycles_plainly t o (plainly_there p told s t e))
      (even_step p told f (λ w. plain (f w)) s t e refl refl)

  on_concluded : (c : ℕ) (ran : Bool) → On p told (λ s. concluded s c ran)
  on_concluded c ran s t e =
      as_they_are (Ends p told) (cycling s None) (concluded s c ran).state (cycling t None) (concluded t c ran).state (no_idle_told s c ran (plainly p told s t e)) (no_idle_told t c ran (plainly_there p told s t e))
      (even_ends p told (cycling s None) (cycling t None) (even_cycling None s t e))

  -- a cycle
  pub on_cycle : (c : ℕ) (o : Option ℕ) (ran : Bool) → On p told (λ s. cycle s c o ran)
  unfolding cycle
  on_cycle c o ran s t e =
      chain p told (λ x. look x c o ran) (λ x. concluded x c ran) (on_look c o ran) (on_concluded c ran) (out_concluded c ran) (cycling s (Some c)) (cycling t (Some c)) (even_cycling (Some c) s t e)
