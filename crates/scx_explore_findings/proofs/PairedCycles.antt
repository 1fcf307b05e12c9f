-- Scheduling cycles of two machines that go on alike, and the rounds in which CPUs look for work.
use Rattle.std.proofs.Common.{◌≡◌, zero, suc, ◌==◌, ◌&&◌, not, Bool, true, false, cond, get_or, length, List, ◌∷◌, Option, Some, None, is_none, is_some, refl, ap, ◌∙◌, subst, ℕ, [], ◌||◌}
use Rattle.scx_dsq.specs.Queues.{len_of, front_of}
use Rattle.scx_isa_semantics.specs.declared.callbacks.Callback.TheVariants as callback
use Rattle.scx_sched_world.specs.declared.cpu_set.CpuSet.{CpuSet}
use Rattle.scx_sched_world.specs.declared.notes.Note.{Note}
use Rattle.scx_sched_world.specs.declared.notes.What.TheVariants.{Stop, Run, Idle}
use Rattle.scx_sched_world.specs.CpuSets.{is_in_set}
use Rattle.scx_sched_world.specs.Ids.{builtin_queue, local_on}
use Rattle.scx_sched_world.specs.World.{out_of_cycle, without_kick, task_at, running, or_this, is_idle, this_if}
use Rattle.scx_sched_world.specs.Pending.{pending_below, is_pending}
use Rattle.scx_sched_world.specs.Tasks.{after_stop, after_run, started_at, to_front, local_len}
use Rattle.scx_sched_world.specs.Ejecting.{after_charge}
use Rattle.scx_sched_policy.specs.Policy.{program_of}
use Rattle.scx_sched_machine.specs.Steps.{State, Stepped, with_world, is_ejected, is_by_linux, kicked, stays, one_after_other}
use Rattle.scx_sched_machine.specs.Callbacks.{call_back, noted_by, task_and_number, two_numbers, cpu_and_task}
use Rattle.scx_sched_machine.specs.Custody.{tells_dequeued, leaver, tells_of, tells_each, moved_as, hears_dequeue, tells_left}
use Rattle.scx_sched_machine.specs.Put.{enters, put}
use Rattle.scx_sched_machine.specs.Filling.{fill}
use Rattle.scx_sched_machine.specs.Parking.{park_next, supply}
use Rattle.scx_sched_machine.specs.Cycle.{has_local, keeps_slice, supply_unless_kept, told_of, dispatch_called, after_dispatch, moved_in_vain, asks_again, tries, stopping_called, after_stopping, put_back, leave, started_if, start, hears_idle, tells_idle, idle_note, kept, rest, swap, swap_or_rest, builtin_dispatch, builtin_fill, builtin_ask, builtin_cycle, start_or_cycle, picked, refilled, is_local, start_picked, start_picked_or_cycle, tells_busy, makes_way, pick, pick_or_rest, keep_or_pick, conclude, give_up, ask, seek, look, cycling, falls_idle, notes_idle, idle_or_anew, becomes_idle, concluded, cycle}
use Rattle.scx_sched_machine.specs.Rounds.{most_rounds, next_to_look, cut_off_if, look_past, look_from, round, round_then, rounds, with_rounds}
use Rattle.scx_explore_findings.proofs.Paired.{Relation, From, On, Turns, IsPaired, IsPairedWhole, begun, Counted, Early}
use Rattle.scx_explore_findings.proofs.PairedSteps.{two_if, lower, ended, chain, linux_and, pair_more, pair_told, pair_call_by_linux, pair_enters, pair_put, pair_switched, pair_fill, pair_park_next, pair_supply}

module _ (z : Relation) (n : IsPairedWhole z) where
  abbrev k : IsPaired z
  k = n.small

  -- both tell the slice of the task, if there is one
  abbrev pub Told : Option ℕ → Type 0
  Told None = Unit {0}
  Told (Some u) = z.told u

  -- the same test
  abbrev either : (b c : Bool) (x x' y y' : Stepped) → b ≡ c → z.steps false x x' → z.steps false y y' → z.steps false (cond b x y) (cond c x' y')
  either = two_if (z.steps false)

  -- ---- dispatch

  slice_kept : (o : Option ℕ) → Told o → (s t : State) → z.states false s t → keeps_slice s o ≡ keeps_slice t o
  slice_kept None told s t e = refl
  slice_kept (Some u) told s t e =
      let x = k.reads s t e in
      ap (λ (b : Bool). b && not ((task_at s.world u).slice == 0)) x.linux ∙ ap (λ (b : Bool). is_by_linux t && not b) (x.slices u told)

  local_same : (c : ℕ) (s t : State) → z.states false s t → has_local s c ≡ has_local t c
  local_same c s t e = ap (λ (m : ℕ). not (m == 0)) ((k.reads s t e).lengths (local_on c))

  asks_same : (c : ℕ) (o : Option ℕ) → Told o → (s t : State) → z.states true s t → asks_again s c o ≡ asks_again t c o
  asks_same c o told s t e =
      let h = k.eased s t e in
      ap (λ (b : Bool). not b && moved_in_vain s c) (slice_kept o told s t h)
      ∙ ap (λ (m : ℕ). not (keeps_slice t o) && ((m == 0) && s.world.call.has_moved)) ((k.reads s t h).lengths (local_on c))
      ∙ ap (λ (b : Bool). not (keeps_slice t o) && ((len_of t.world.queues (local_on c) == 0) && b)) (k.calls s t e).moved

  pair_supply_unless_kept : (b : Bool) (c : ℕ) (o : Option ℕ) → Told o → On z b (λ s. supply_unless_kept s c o)
  unfolding supply_unless_kept
  pair_supply_unless_kept b c o told s t e =
      two_if (z.steps b) (keeps_slice s o) (keeps_slice t o) (stays s) (stays t) (supply s c) (supply t c) (slice_kept o told s t (lower z k b s t e)) (k.rests b s t e) (pair_supply z k b c s t e)

  -- the policy hears that a task left its custody
  pub pair_dequeued : (b : Bool) (u c flags : ℕ) → On z b (λ s. tells_dequeued s u c flags)
  unfolding tells_dequeued
  pair_dequeued b u c flags = let a = task_and_number u flags in pair_call_by_linux z k b callback.Dequeue a u c (Early callback.Dequeue a refl)

  pair_tells_of : (o : Option ℕ) (c : ℕ) → On z true (λ s. tells_of o s c)
  pair_tells_of None c s t e = k.rests true s t e
  pair_tells_of (Some u) c s t e = pair_dequeued true u c 0 s t e

  pair_tells_each : (ns : List Note) (c : ℕ) → On z true (λ s. tells_each ns s c)
  pair_tells_each [] c s t e = k.rests true s t e
  pair_tells_each (x ∷ ns) c s t e = chain z k true true (tells_of (leaver x.what) s c) (tells_of (leaver x.what) t c) (λ r. tells_each ns r c) (pair_tells_of (leaver x.what) c s t e) (pair_tells_each ns c)

  turns_moved : (m : Bool) → Turns z true (λ s. moved_as m s)
  turns_moved m s t e =
      let f : State → State = λ r. with_world r (record r.world { call = record r.world.call { has_moved = m } }) in
      two_if (z.states true) (is_ejected s) (is_ejected t) s t (f s) (f t) (k.reads s t (k.eased s t e)).ejected e (k.moved m s t e)

  pair_tells_left : (ns : List Note) (c : ℕ) → On z true (λ s. tells_left s c ns)
  unfolding tells_left hears_dequeue
  pair_tells_left ns c s t e =
      let m = s.world.call.has_moved in
      let r = tells_each ns s c in
      let q = tells_each ns t c in
      subst (λ (b : Bool). z.steps true (tells_left s c ns) (cond (hears_dequeue t) (record q { state = moved_as b q.state }) (stays t))) (k.calls s t e).moved
      (two_if (z.steps true) (hears_dequeue s) (hears_dequeue t) (record r { state = moved_as m r.state }) (record q { state = moved_as m q.state }) (stays s) (stays t)
      (linux_and z k (λ p. is_some (program_of p callback.Dequeue)) s t (k.eased s t e)) (ended z k true true r q (moved_as m r.state) (moved_as m q.state) (pair_tells_each ns c s t e) (turns_moved m r.state q.state)) (k.rests true s t e))

  -- dispatch is told of that task
  abbrev dispatched : ℕ → Option ℕ → State → Stepped
  dispatched c o s =
      let r = call_back s callback.Dispatch (cpu_and_task c o) 0 c in
      one_after_other r (tells_left r.state c (noted_by s callback.Dispatch (cpu_and_task c o) 0 c))

  pair_dispatched : (c : ℕ) (o : Option ℕ) → From z false true (dispatched c o)
  pair_dispatched c o s t e =
      let a = cpu_and_task c o in
      let r = call_back s callback.Dispatch a 0 c in
      let q = call_back t callback.Dispatch a 0 c in
      let ns = noted_by s callback.Dispatch a 0 c in
      k.called s t callback.Dispatch a 0 c (Early callback.Dispatch a refl) e true (tells_left r.state c ns) (tells_left q.state c (noted_by t callback.Dispatch a 0 c))
      (λ h x. subst (λ (y : Stepped). z.steps true (tells_left r.state c ns) y) (x.left q.state c) (pair_tells_left ns c r.state q.state h))

  pair_dispatch_called : (c : ℕ) (o : Option ℕ) → From z false true (λ s. dispatch_called s c o)
  unfolding dispatch_called
  pair_dispatch_called c o s t e =
      subst (λ (p : Option ℕ). z.steps true (dispatched c (told_of s o) s) (dispatched c p t)) (ap (λ (p : Option ℕ). or_this o p) (k.reads s t e).slept) (pair_dispatched c (told_of s o) s t e)

  pair_dispatch : (c : ℕ) (o : Option ℕ) → Told o → From z false true (λ s. after_dispatch s c o)
  unfolding after_dispatch
  pair_dispatch c o told s t e = chain z k true true (dispatch_called s c o) (dispatch_called t c o) (λ r. supply_unless_kept r c o) (pair_dispatch_called c o s t e) (pair_supply_unless_kept true c o told)

  -- one call of dispatch, and then others
  pair_tried : (m c : ℕ) (o : Option ℕ) → Told o → On z true (λ s. tries m s c o) → From z false true (λ s. tries (suc m) s c o)
  unfolding tries
  pair_tried m c o told more s t e =
      let d = after_dispatch s c o in
      let f = after_dispatch t c o in
      pair_more z k true d f (tries m d.state c o) (tries m f.state c o) (asks_again d.state c o) (asks_again f.state c o) (pair_dispatch c o told s t e) (asks_same c o told d.state f.state) (more d.state f.state)

  pair_tries : (m c : ℕ) (o : Option ℕ) → Told o → On z true (λ s. tries m s c o)
  unfolding tries
  pair_tries zero c o told s t e = k.rests true s t e
  pair_tries (suc m) c o told s t e = pair_tried m c o told (pair_tries m c o told) s t (k.eased s t e)

  -- ---- on and off a CPU

  -- the policy hears that a task left its CPU
  pub pair_stopping : (c u m : ℕ) → z.told u → On z false (λ s. after_stopping s c u m)
  unfolding after_stopping
  pair_stopping c u m told s t e =
      let a = task_and_number u m in
      let v = with_world s (after_charge s.world u) in
      let w = with_world t (after_charge t.world u) in
      either (is_ejected s) (is_ejected t) (stays v) (stays w) (stopping_called s c u m) (stopping_called t c u m) (k.reads s t e).ejected (k.rests false v w (k.charged u told s t e)) (pair_told z k false callback.Stopping a u c (Counted callback.Stopping u m told) s t e)

  -- a task that was stopped comes to wait
  pair_put_back : (c u : ℕ) → z.told u → On z false (λ s. put_back s c u)
  unfolding put_back
  pair_put_back c u told s t e =
      either (keeps_slice s (Some u)) (keeps_slice t (Some u)) (enters s u (to_front c)) (enters t u (to_front c)) (put s u c 0) (put t u c 0) (slice_kept (Some u) told s t e)
      (pair_enters z k u (to_front c) (k.fronts u c told) s t e) (pair_put z k u c 0 s t e)

  pair_leave : (c : ℕ) (o : Option ℕ) → Told o → On z false (λ s. leave s c o)
  unfolding leave
  pair_leave c None told s t e = k.rests false s t e
  pair_leave c (Some u) told s t e =
      let v = with_world s (after_stop s.world c u) in
      let w = with_world t (after_stop t.world c u) in
      let r = after_stopping v c u 1 in
      let q = after_stopping w c u 1 in
      k.noted false s t e (Stop u c) (one_after_other r (put_back r.state c u)) (one_after_other q (put_back q.state c u))
      (chain z k false false r q (λ x. put_back x c u) (pair_stopping c u 1 told v w (k.stopped c u s t e)) (pair_put_back c u told))

  pair_started : (c : ℕ) (o : Option ℕ) (s t : State) → z.states false s t → front_of s.world.queues (local_on c) ≡ o → z.steps false (started_if o s c) (started_if o t c)
  pair_started c None s t e is = k.rests false s t e
  pair_started c (Some u) s t e is = k.noted false s t e (Run u c) (begun c u (with_world s (started_at (Some u) s.world c))) (begun c u (with_world t (started_at (Some u) t.world c))) (n.starts c u s t e is)

  pair_start : (c : ℕ) → On z false (λ s. start s c)
  unfolding start
  pair_start c s t e =
      let o = front_of s.world.queues (local_on c) in
      subst (λ (x : Option ℕ). z.steps false (started_if o s c) (started_if x t c)) ((k.reads s t e).fronts (local_on c)) (pair_started c o s t e refl)

  -- ---- rest

  -- a task that keeps the CPU
  turns_kept : (o : Option ℕ) → Turns z false (λ s. kept s o)
  turns_kept None s t e = e
  turns_kept (Some u) s t e = pair_switched z k u s t e

  hears_same : (s t : State) → z.states false s t → hears_idle s ≡ hears_idle t
  unfolding hears_idle
  hears_same s t e = linux_and z k (λ p. is_some (program_of p callback.UpdateIdle)) s t e

  pair_rest : (c : ℕ) (o : Option ℕ) (ran : Bool) → On z false (λ s. rest s c o ran)
  unfolding rest
  pair_rest c o ran s t e =
      subst (λ (b : Bool). z.steps false (rest s c o ran) (resting o t w (ran && not b))) (hears_same s t e) (go o (ran && not (hears_idle s)) (k.rests false v w (turns_kept o (refilled s o) (refilled t o) (k.kept o s t e))))
    where
      v : State
      v = kept (refilled s o) o

      w : State
      w = kept (refilled t o) o

      resting : Option ℕ → State → State → Bool → Stepped
      resting p x y b = record { state = y; notes = idle_note x.world p b c; calls = [] }

      go : (p : Option ℕ) (b : Bool) → z.steps false (stays v) (stays w) → z.steps false (resting p s v b) (resting p t w b)
      go None true x = k.noted false s t e (Idle c) (stays v) (stays w) x
      go None false x = x
      go (Some u) b x = x

  -- the policy hears that a CPU is idle, or idle no more
  pair_tells_idle : (c m : ℕ) → On z false (λ s. tells_idle s c m)
  unfolding tells_idle
  pair_tells_idle c m = let a = two_numbers c m in pair_call_by_linux z k false callback.UpdateIdle a 0 c (Early callback.UpdateIdle a refl)

  pair_tells_busy : (c : ℕ) (o : Option ℕ) (ran : Bool) → On z false (λ s. tells_busy s c o ran)
  unfolding tells_busy
  pair_tells_busy c None false s t e = pair_tells_idle c 0 s t e
  pair_tells_busy c None true s t e = k.rests false s t e
  pair_tells_busy c (Some u) ran s t e = k.rests false s t e

  pair_makes_way : (c : ℕ) (o : Option ℕ) (ran : Bool) → Told o → On z false (λ s. makes_way s c o ran)
  unfolding makes_way
  pair_makes_way c o ran told s t e = chain z k false false (tells_busy s c o ran) (tells_busy t c o ran) (λ r. leave r c o) (pair_tells_busy c o ran s t e) (pair_leave c o told)

  -- ---- the built-in scheduler

  pair_swap : (c : ℕ) (o : Option ℕ) → Told o → On z false (λ s. swap s c o)
  unfolding swap
  pair_swap c o told s t e = chain z k false false (leave s c o) (leave t c o) (λ r. start r c) (pair_leave c o told s t e) (pair_start c)

  pair_swap_or_rest : (c : ℕ) (o : Option ℕ) (ran : Bool) → Told o → On z false (λ s. swap_or_rest s c o ran)
  unfolding swap_or_rest
  pair_swap_or_rest c o ran told s t e = either (has_local s c) (has_local t c) (swap s c o) (swap t c o) (rest s c o ran) (rest t c o ran) (local_same c s t e) (pair_swap c o told s t e) (pair_rest c o ran s t e)

  -- that many tasks of its queue are tried
  abbrev tried : ℕ → ℕ → State → Stepped
  tried m c s = let p = park_next m s builtin_queue c in one_after_other p (fill p.state builtin_queue c)

  pair_parked : (m c : ℕ) → On z false (tried m c)
  pair_parked m c s t e = chain z k false false (park_next m s builtin_queue c) (park_next m t builtin_queue c) (λ r. fill r builtin_queue c) (pair_park_next z k false m builtin_queue c refl s t e) (pair_fill z k false builtin_queue c refl)

  pair_builtin_dispatch : (c : ℕ) → On z false (λ s. builtin_dispatch s c)
  unfolding builtin_dispatch
  pair_builtin_dispatch c s t e = let m = len_of s.world.queues builtin_queue in subst (λ (i : ℕ). z.steps false (tried m c s) (tried i c t)) ((k.reads s t e).lengths builtin_queue) (pair_parked m c s t e)

  pair_builtin_fill : (c : ℕ) → On z false (λ s. builtin_fill s c)
  unfolding builtin_fill
  pair_builtin_fill c s t e = either (has_local s c) (has_local t c) (stays s) (stays t) (builtin_dispatch s c) (builtin_dispatch t c) (local_same c s t e) (k.rests false s t e) (pair_builtin_dispatch c s t e)

  pair_builtin_ask : (c : ℕ) (o : Option ℕ) (ran : Bool) → Told o → On z false (λ s. builtin_ask s c o ran)
  unfolding builtin_ask
  pair_builtin_ask c o ran told s t e = chain z k false false (builtin_fill s c) (builtin_fill t c) (λ r. swap_or_rest r c o ran) (pair_builtin_fill c s t e) (pair_swap_or_rest c o ran told)

  pair_builtin_cycle : (c : ℕ) (o : Option ℕ) (ran : Bool) → Told o → On z false (λ s. builtin_cycle s c o ran)
  unfolding builtin_cycle
  pair_builtin_cycle c o ran told s t e = chain z k false false (supply s c) (supply t c) (λ r. builtin_ask r c o ran) (pair_supply z k false c s t e) (pair_builtin_ask c o ran told)

  -- ---- the policy

  pair_start_or_cycle : (c : ℕ) (ran : Bool) → On z false (λ s. start_or_cycle s c ran)
  unfolding start_or_cycle
  pair_start_or_cycle c ran s t e = either (has_local s c) (has_local t c) (start s c) (start t c) (builtin_cycle s c None ran) (builtin_cycle t c None ran) (local_same c s t e) (pair_start c s t e) (pair_builtin_cycle c None ran tt s t e)

  -- the task that was picked runs
  pair_start_picked : (c u : ℕ) (s t : State) → z.states false s t → is_local s c u ≡ true → z.steps false (start_picked s c u) (start_picked t c u)
  unfolding start_picked
  pair_start_picked c u s t e local = k.noted false s t e (Run u c) (begun c u (with_world s (after_run s.world c u))) (begun c u (with_world t (after_run t.world c u))) (n.runs c u s t e local)

  pair_start_picked_or_cycle : (o : Option ℕ) (c : ℕ) (ran : Bool) → On z false (λ s. start_picked_or_cycle o s c ran)
  pair_start_picked_or_cycle None c ran s t e = pair_start_or_cycle c ran s t e
  pair_start_picked_or_cycle (Some u) c ran s t e =
      subst (λ (d : Bool). z.steps false (picks (is_local s c u) s) (picks d t)) ((k.reads s t e).locals c u) (go (is_local s c u) refl)
    where
      picks : Bool → State → Stepped
      picks b r = cond b (start_picked r c u) (start_or_cycle r c ran)

      go : (b : Bool) → is_local s c u ≡ b → z.steps false (picks b s) (picks b t)
      go true is = pair_start_picked c u s t e is
      go false is = pair_start_or_cycle c ran s t e

  picked_same : (c : ℕ) (s t : State) → z.states false s t → picked s c ≡ picked t c
  unfolding picked
  picked_same c s t e =
      let x = k.reads s t e in
      ap (λ (b : Bool). cond b (front_of s.world.queues (local_on c)) None) x.linux ∙ ap (λ (o : Option ℕ). cond (is_by_linux t) o None) (x.fronts (local_on c))

  -- that task runs in the place of the one before
  abbrev picked_by : Option ℕ → ℕ → Option ℕ → Bool → State → Stepped
  picked_by p c o ran s = let l = makes_way (refilled s p) c o ran in one_after_other l (start_picked_or_cycle p l.state c ran)

  pair_picked_by : (p : Option ℕ) (c : ℕ) (o : Option ℕ) (ran : Bool) → Told o → On z false (picked_by p c o ran)
  pair_picked_by p c o ran told s t e =
      chain z k false false (makes_way (refilled s p) c o ran) (makes_way (refilled t p) c o ran) (λ r. start_picked_or_cycle p r c ran) (pair_makes_way c o ran told (refilled s p) (refilled t p) (k.kept p s t e)) (pair_start_picked_or_cycle p c ran)

  pair_pick : (c : ℕ) (o : Option ℕ) (ran : Bool) → Told o → On z false (λ s. pick s c o ran)
  unfolding pick
  pair_pick c o ran told s t e = subst (λ (x : Option ℕ). z.steps false (picked_by (picked s c) c o ran s) (picked_by x c o ran t)) (picked_same c s t e) (pair_picked_by (picked s c) c o ran told s t e)

  pair_pick_or_rest : (c : ℕ) (o : Option ℕ) (ran : Bool) → Told o → On z false (λ s. pick_or_rest s c o ran)
  unfolding pick_or_rest
  pair_pick_or_rest c o ran told s t e = either (has_local s c) (has_local t c) (pick s c o ran) (pick t c o ran) (rest s c o ran) (rest t c o ran) (local_same c s t e) (pair_pick c o ran told s t e) (pair_rest c o ran s t e)

  pair_keep_or_pick : (c : ℕ) (o : Option ℕ) (ran : Bool) → Told o → On z false (λ s. keep_or_pick s c o ran)
  unfolding keep_or_pick
  pair_keep_or_pick c o ran told s t e =
      either (keeps_slice s o) (keeps_slice t o) (stays (kept s o)) (stays (kept t o)) (pick_or_rest s c o ran) (pick_or_rest t c o ran) (slice_kept o told s t e) (k.rests false (kept s o) (kept t o) (turns_kept o s t e)) (pair_pick_or_rest c o ran told s t e)

  pair_conclude : (c : ℕ) (o : Option ℕ) (ran : Bool) → Told o → On z false (λ s. conclude s c o ran)
  unfolding conclude
  pair_conclude c o ran told s t e =
      either (is_ejected s) (is_ejected t) (builtin_cycle s c o ran) (builtin_cycle t c o ran) (keep_or_pick s c o ran) (keep_or_pick t c o ran) (k.reads s t e).ejected (pair_builtin_cycle c o ran told s t e) (pair_keep_or_pick c o ran told s t e)

  gives_up : (c : ℕ) (o : Option ℕ) → Told o → (s t : State) → z.states true s t → z.states false (give_up s c o) (give_up t c o)
  unfolding give_up
  gives_up c o told s t e =
      let h = k.eased s t e in
      two_if (z.states false) (is_by_linux s && asks_again s c o) (is_by_linux t && asks_again t c o) (kicked s c) (kicked t c) s t
      (ap (λ (b : Bool). b && asks_again s c o) (k.reads s t h).linux ∙ ap (λ (b : Bool). is_by_linux t && b) (asks_same c o told s t e)) (k.kicked c s t h) h

  pair_ask : (c : ℕ) (o : Option ℕ) (ran : Bool) → Told o → On z false (λ s. ask s c o ran)
  unfolding ask
  pair_ask c o ran told s t e =
      chain z k true false (tries 32 s c o) (tries 32 t c o) (λ r. conclude (give_up r c o) c o ran) (pair_tried 31 c o told (pair_tries 31 c o told) s t e)
      (λ v w h. pair_conclude c o ran told (give_up v c o) (give_up w c o) (gives_up c o told v w h))

  pair_sought : (c : ℕ) (o : Option ℕ) (ran : Bool) → Told o → On z false (λ r. cond (has_local r c) (pick r c o ran) (ask r c o ran))
  pair_sought c o ran told s t e = either (has_local s c) (has_local t c) (pick s c o ran) (pick t c o ran) (ask s c o ran) (ask t c o ran) (local_same c s t e) (pair_pick c o ran told s t e) (pair_ask c o ran told s t e)

  pair_seek : (c : ℕ) (o : Option ℕ) (ran : Bool) → Told o → On z false (λ s. seek s c o ran)
  unfolding seek
  pair_seek c o ran told s t e = chain z k false false (supply s c) (supply t c) (λ r. cond (has_local r c) (pick r c o ran) (ask r c o ran)) (pair_supply z k false c s t e) (pair_sought c o ran told)

  pair_look : (c : ℕ) (o : Option ℕ) (ran : Bool) → Told o → On z false (λ s. look s c o ran)
  unfolding look
  pair_look c o ran told s t e =
      either (is_ejected s) (is_ejected t) (builtin_cycle s c o ran) (builtin_cycle t c o ran) (seek s c o ran) (seek t c o ran) (k.reads s t e).ejected (pair_builtin_cycle c o ran told s t e) (pair_seek c o ran told s t e)

  -- ---- a CPU falls idle

  pair_notes_idle : (c : ℕ) → On z false (λ s. notes_idle s c)
  unfolding notes_idle
  pair_notes_idle c s t e = k.noted false s t e (Idle c) (stays (cycling s None)) (stays (cycling t None)) (k.rests false (cycling s None) (cycling t None) (k.cycling None s t e))

  pair_idle_or_anew : (c : ℕ) → On z false (λ s. idle_or_anew s c)
  unfolding idle_or_anew
  pair_idle_or_anew c s t e =
      let r = builtin_cycle (cycling s (Some c)) c None true in
      let q = builtin_cycle (cycling t (Some c)) c None true in
      either (is_ejected s) (is_ejected t) (record r { state = cycling r.state None }) (record q { state = cycling q.state None }) (notes_idle s c) (notes_idle t c) (k.reads s t e).ejected
      (ended z k false false r q (cycling r.state None) (cycling q.state None) (pair_builtin_cycle c None true tt (cycling s (Some c)) (cycling t (Some c)) (k.cycling (Some c) s t e)) (k.cycling None r.state q.state))
      (pair_notes_idle c s t e)

  pair_becomes_idle : (c : ℕ) → On z false (λ s. becomes_idle s c)
  unfolding becomes_idle
  pair_becomes_idle c s t e =
      let v = with_world s (out_of_cycle s.world) in
      let w = with_world t (out_of_cycle t.world) in
      chain z k false false (tells_idle v c 1) (tells_idle w c 1) (λ r. idle_or_anew r c) (pair_tells_idle c 1 v w (k.out_of_cycle s t e)) (pair_idle_or_anew c)

  falls_same : (c : ℕ) (ran : Bool) (s t : State) → z.states false s t → falls_idle s c ran ≡ falls_idle t c ran
  unfolding falls_idle
  falls_same c ran s t e =
      ap (λ (b : Bool). ran && (b && is_none (running s.world c))) (hears_same s t e) ∙ ap (λ (xs : List (Option ℕ)). ran && (hears_idle t && is_none (get_or xs c None))) (k.reads s t e).cpus

  pair_concluded : (c : ℕ) (ran : Bool) → On z false (λ s. concluded s c ran)
  unfolding concluded
  pair_concluded c ran s t e =
      either (falls_idle s c ran) (falls_idle t c ran) (becomes_idle s c) (becomes_idle t c) (stays (cycling s None)) (stays (cycling t None)) (falls_same c ran s t e) (pair_becomes_idle c s t e) (k.rests false (cycling s None) (cycling t None) (k.cycling None s t e))

  -- a whole cycle
  pub pair_cycle : (c : ℕ) (o : Option ℕ) (ran : Bool) → Told o → On z false (λ s. cycle s c o ran)
  unfolding cycle
  pair_cycle c o ran told s t e =
      let v = cycling s (Some c) in
      let w = cycling t (Some c) in
      chain z k false false (look v c o ran) (look w c o ran) (λ r. concluded r c ran) (pair_look c o ran told v w (k.cycling (Some c) s t e)) (pair_concluded c ran)

  -- ---- rounds

  turns_cut_off : (cut : Bool) (u : ℕ) → Turns z false (λ s. cut_off_if cut s u)
  turns_cut_off false u s t e = e
  turns_cut_off true u s t e = k.cut_off u s t e

  pair_look_past : (c u : ℕ) → z.told u → On z false (λ s. look_past s c u)
  unfolding look_past
  pair_look_past c u told s t e =
      either ((task_at s.world u).slice == 0) ((task_at t.world u).slice == 0) (cycle s c (Some u) true) (cycle t c (Some u) true) (stays s) (stays t) ((k.reads s t e).slices u told) (pair_cycle c (Some u) true told s t e) (k.rests false s t e)

  pair_look_from : (o : Option ℕ) (cut : Bool) (c : ℕ) → Told o → On z false (λ s. look_from o cut s c)
  pair_look_from None cut c told s t e = pair_cycle c None false tt s t e
  pair_look_from (Some u) cut c told s t e = pair_look_past c u told (cut_off_if cut s u) (cut_off_if cut t u) (turns_cut_off cut u s t e)

  -- under Linux rules a CPU looks for work, if both tell the slice of the task that runs there
  pub pair_round : (c : ℕ) (s t : State) → z.states false s t → is_by_linux s ≡ true → Told (running s.world c) → z.steps false (round s c) (round t c)
  unfolding round
  pair_round c s t e linux told =
      let x = k.reads s t e in
      let o = running s.world c in
      let v = with_world s (without_kick s.world c) in
      let w = with_world t (without_kick t.world c) in
      subst (λ (p : CpuSet). z.steps false (round s c) (look_from (running t.world c) (is_in_set p c) w c)) (x.preempted linux)
      (subst (λ (xs : List (Option ℕ)). z.steps false (round s c) (look_from (get_or xs c None) (is_in_set s.world.preempted c) w c)) x.cpus
      (pair_look_from o (is_in_set s.world.preempted c) c told v w (k.unkicked c s t e)))

-- a CPU looks for work by Linux rules alone
looks_by_linux : (s : State) (c : ℕ) → next_to_look s ≡ Some c → is_by_linux s ≡ true
unfolding next_to_look
looks_by_linux s c e = go (is_by_linux s) e
  where
    go : (b : Bool) → (cond b (pending_below (length s.world.cpus) s.world) None) ≡ Some c → b ≡ true
    go true is = refl
    go false is = absurd (cc)

-- one of two values, which is the same where a test holds
where_so : (b : Bool) (o x : Option ℕ) → (b ≡ true → o ≡ x) → cond b o None ≡ cond b x None
where_so true o x e = e refl
where_so false o x e = refl

module _ (z : Relation) (k : IsPaired z) (s t : State) (e : z.states false s t) where
  module _ (linux : is_by_linux s ≡ true) where
    is_pending_same : (c : ℕ) → is_pending s.world c ≡ is_pending t.world c
    is_pending_same c =
        let x = k.reads s t e in
        let there = t.world in
        ap (λ (p : CpuSet). is_in_set p c || (is_idle s.world c && not (local_len s.world c == 0))) (x.kicked linux)
        ∙ ap (λ (b : Bool). is_in_set there.kicked c || (b && not (local_len s.world c == 0))) (x.idle c)
        ∙ ap (λ (m : ℕ). is_in_set there.kicked c || (is_idle there c && not (m == 0))) (x.lengths (local_on c))

    pending_same : (m : ℕ) → pending_below m s.world ≡ pending_below m t.world
    unfolding pending_below
    pending_same zero = refl
    pending_same (suc m) =
        ap (λ (o : Option ℕ). or_this o (this_if (is_pending s.world m) m)) (pending_same m) ∙ ap (λ (b : Bool). or_this (pending_below m t.world) (this_if b m)) (is_pending_same m)

  -- the same CPU is to look for work
  looks_same : next_to_look s ≡ next_to_look t
  unfolding next_to_look
  looks_same =
      let x = k.reads s t e in
      let m = length s.world.cpus in
      where_so (is_by_linux s) (pending_below m s.world) (pending_below m t.world) (λ linux. pending_same linux m)
      ∙ ap (λ (xs : List (Option ℕ)). cond (is_by_linux s) (pending_below (length xs) t.world) None) x.cpus
      ∙ ap (λ (b : Bool). cond b (pending_below (length t.world.cpus) t.world) None) x.linux

module _ (z : Relation) (k : IsPaired z) (each : (c : ℕ) (s t : State) → z.states false s t → is_by_linux s ≡ true → z.steps false (round s c) (round t c)) where
  pair_round_then : (next : State → Stepped) → On z false next → (o : Option ℕ) (s t : State) → z.states false s t → ((c : ℕ) → o ≡ Some c → is_by_linux s ≡ true) → z.steps false (round_then next s o) (round_then next t o)
  pair_round_then next more None s t e linux = k.rests false s t e
  pair_round_then next more (Some c) s t e linux = chain z k false false (round s c) (round t c) next (each c s t e (linux c refl)) more

  pair_rounds : (m : ℕ) → On z false (λ s. rounds m s)
  unfolding rounds
  pair_rounds zero s t e = k.rests false s t e
  pair_rounds (suc m) s t e =
      let next : State → Stepped = λ r. rounds m r in
      subst (λ (o : Option ℕ). z.steps false (round_then next s (next_to_look s)) (round_then next t o)) (looks_same z k s t e) (pair_round_then next (pair_rounds m) (next_to_look s) s t e (looks_by_linux s))

  -- a step, with its rounds
  pub pair_with_rounds : (r q : Stepped) → z.steps false r q → z.steps false (with_rounds r) (with_rounds q)
  unfolding with_rounds
  pair_with_rounds r q x =
      pair_more z k false r q (rounds most_rounds r.state) (rounds most_rounds q.state) (is_by_linux r.state) (is_by_linux q.state) x (λ e. (k.reads r.state q.state e).linux) (pair_rounds most_rounds r.state q.state)
