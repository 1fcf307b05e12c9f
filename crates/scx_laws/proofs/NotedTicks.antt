-- A CPU ticks, or CPUs look for work: the notes tell the state of each task afterwards.
use Rattle.std.proofs.Common.{◌≡◌, ℕ, zero, suc, ◌<◌, ◌≤◌, Bool, true, false, ◌==◌, ◌&&◌, nat_lt, ◌⊎◌, inl, inr, if◌then◌else◌, List, length, set, get_or, Option, Some, None, refl, sym, ap, ◌∙◌, subst, arith}
use Rattle.std.proofs.lemmas.Bool.{cases_lt, eq-eqb}
use Rattle.std.proofs.lemmas.List.{length-set, get_or-set_same, get_or_past}
use Rattle.std.proofs.lemmas.List.Sums.{sum_by-set}
use Rattle.scx_dsq.specs.Laws.{one_if}
use Rattle.scx_isa_semantics.specs.declared.callbacks.Callback.TheVariants as callback
use Rattle.scx_sched_world.specs.CpuSets.{is_in_set, but_cpu}
use Rattle.scx_sched_world.specs.World.{WorldState, task_at, is_this, or_this, this_if, lowest_below, is_throttled, running, without_kick}
use Rattle.scx_sched_world.specs.Pending.{is_pending, pending_below, first_pending}
use Rattle.scx_sched_world.specs.Tasks.{after_cut_off, after_tick, ran_a_tick, used_ms}
use Rattle.scx_sched_machine.specs.Steps.{State, Stepped, stays, with_world, one_after_other, is_by_linux}
use Rattle.scx_sched_machine.specs.Callbacks.{call_back, one_task}
use Rattle.scx_sched_machine.specs.Parking.{park}
use Rattle.scx_sched_machine.specs.Cycle.{cycle}
use Rattle.scx_sched_machine.specs.Rounds.{most_rounds, next_to_look, look_past, look_from, round, round_then, rounds, with_rounds}
use Rattle.scx_sched_machine.specs.Events.{leaves_cpu, throttle, ends_slices, expire, use_up, hears_tick, tick_heard, count_down, tick_idle, tick_of, tick}
use Rattle.scx_sched_machine.proofs.Choices.{keeps_if}
use Rattle.scx_sched.specs.Once.{IsSound}
use Rattle.scx_sched.proofs.Homes.{lowest_is_there}
use Rattle.scx_sched.proofs.Parking.{sound_used_ms}
use Rattle.scx_sched.proofs.Sound.{sound_marks, sound_sets, sound_ticked}
use Rattle.scx_laws.specs.Telling.{tell}
use Rattle.scx_laws.proofs.Noted.{tell_task}
use Rattle.scx_laws.proofs.NotedPuts.{Goes, told_plainly, puts_told, goes_stays, goes_call_back, puts_park}
use Rattle.scx_laws.proofs.NotedCycles.{joins, goes_from, goes_cycle}
use Rattle.scx_laws.proofs.NotedWakes.{Leads}
use Rattle.scx_laws.proofs.NotedSleeps.{goes_leaves_cpu}

-- who runs is a task that there is
runs_known : (n : ℕ) (on : List (Option ℕ)) (w : WorldState) (c t : ℕ) → c < length w.cpus → running w c ≡ Some t → IsSound None on n w → t < n
runs_known n on w c t l at h = go (cases_lt t n)
  where
    here : one_if (is_this t (running w c)) ≡ 1
    here = ap one_if (ap (λ o. is_this t o) at ∙ eq-eqb t t refl)

    go : (t < n) ⊎ (n ≤ t) → t < n
    go (inl l) = l
    go (inr past) = absurd (omega (arith, h.once t, here, ap one_if (get_or_past w.tree.active t false (omega (arith, past, h.flags))), sum_by-set (λ o. one_if (is_this t o)) w.cpus c None None l))

-- the CPU that is to look for work is the lowest one that is pending
lowest_pending : (j : ℕ) (w : WorldState) → pending_below j w ≡ lowest_below j (is_pending w)
unfolding pending_below
lowest_pending zero w = refl
lowest_pending (suc j) w = ap (λ o. or_this o (this_if (is_pending w j) j)) (lowest_pending j w)

-- so it is there
looks_there : (s : State) (c : ℕ) → next_to_look s ≡ Some c → c < length s.world.cpus
unfolding next_to_look
looks_there s c e = go (is_by_linux s) e
  where
    go : (b : Bool) → (if b then first_pending s.world else None) ≡ Some c → c < length s.world.cpus
    go true x = lowest_is_there (length s.world.cpus) (is_pending s.world) c (sym (lowest_pending (length s.world.cpus) s.world) ∙ x)
    go false x = absurd (cc)

module _ (u n : ℕ) where
  -- a step that begins with what is so of the world, whichever are on the CPUs
  cycle_now : (on : List (Option ℕ)) (s : State) (c : ℕ) (p : Option ℕ) (ran : Bool) → c < length s.world.cpus → running s.world c ≡ p → IsSound None on n s.world → Leads u n s (cycle s c p ran)
  cycle_now on s c None ran l at h = goes_cycle u n on s c None ran (subst (λ (xs : List (Option ℕ)). c < length xs) h.cpus l) tt (subst (λ (xs : List (Option ℕ)). get_or xs c None ≡ None) h.cpus at) h
  cycle_now on s c (Some t) ran l at h = goes_cycle u n on s c (Some t) ran (subst (λ (xs : List (Option ℕ)). c < length xs) h.cpus l) (runs_known n on s.world c t l at h) (subst (λ (xs : List (Option ℕ)). get_or xs c None ≡ Some t) h.cpus at) h

  leads_from : (s v : State) (r : Stepped) → tell v.world u ≡ tell s.world u → Leads u n v r → Leads u n s r
  leads_from s v r same y = (y.0, goes_from u n y.0 s v r same y.1)

  -- ---- a tick

  -- a task that may not run any more leaves its CPU and is parked
  goes_throttle : (on : List (Option ℕ)) (s : State) (c t : ℕ) → t < n → c < length on → get_or on c None ≡ Some t → IsSound None on n s.world → Leads u n s (throttle s c t)
  unfolding throttle
  goes_throttle on s c t within l runs-on h =
      let now = set on c None in
      let r = leaves_cpu s c t 1 in
      let o = goes_leaves_cpu u n on s c t 1 l within runs-on h in
      let p = park r.state t in
      let x = puts_park u n now t r.state within o.sound in
      let k = cycle p.state c None true in
      let y = goes_cycle u n now p.state c None true (rw (length-set on c None) l) tt (get_or-set_same {A = Option ℕ} on c None None l) x.0 in
      (y.0, joins u n y.0 s r (one_after_other p k) (told_plainly u n s.world r.state.world r.notes o.tells) (joins u n y.0 r.state p k (puts_told u n now t r.state p o.sound x) y.1))

  goes_expire : (on : List (Option ℕ)) (s : State) (c t : ℕ) → c < length s.world.cpus → running s.world c ≡ Some t → IsSound None on n s.world → Leads u n s (expire s c t)
  unfolding expire
  goes_expire on s c t l at h = keeps_if (Leads u n s) (((task_at s.world t).slice == 0) && ends_slices s) (cycle s c (Some t) true) (stays s) (cycle_now on s c (Some t) true l at h) (on, goes_stays u n None on s h)

  -- its groups have used a millisecond
  goes_use_up : (on : List (Option ℕ)) (s : State) (c t : ℕ) → c < length on → get_or on c None ≡ Some t → IsSound None on n s.world → Leads u n s (use_up s c t)
  unfolding use_up
  goes_use_up on s c t l runs-on h =
      leads_from s v (if is_throttled v.world t then throttle v c t else expire v c t) same
      (keeps_if (Leads u n v) (is_throttled v.world t) (throttle v c t) (expire v c t) (goes_throttle on v c t (runs_known n on v.world c t l' at z) l runs-on z) (goes_expire on v c t l' at z))
    where
      v : State
      v = with_world s (used_ms s.world t)

      z : IsSound None on n v.world
      z = sound_used_ms None on n s.world t h

      l' : c < length v.world.cpus
      l' = subst (λ (xs : List (Option ℕ)). c < length xs) (sym z.cpus) l

      at : running v.world c ≡ Some t
      at = subst (λ (xs : List (Option ℕ)). get_or xs c None ≡ Some t) (sym z.cpus) runs-on

      same : tell v.world u ≡ tell s.world u
      same = keeps_if (λ (w : WorldState). tell w u ≡ tell s.world u) (nat_lt t (length s.world.tasks)) _ s.world refl refl

  goes_count_down : (on : List (Option ℕ)) (s : State) (c t : ℕ) → c < length on → get_or on c None ≡ Some t → IsSound None on n s.world → Leads u n s (count_down s c t)
  unfolding count_down tick_heard
  goes_count_down on s c t l runs-on h =
      let v = with_world s (after_tick s.world t) in
      let r = tick_heard v c t in
      let z = sound_ticked on n s.world t h in
      let x = keeps_if (Goes u n None on v) (hears_tick v) (call_back v callback.Tick (one_task t) t c) (stays v) (goes_call_back u n None on v callback.Tick (one_task t) t c l z) (goes_stays u n None on v z) in
      let y = goes_use_up on r.state c t l runs-on x.0 in
      leads_from s v (one_after_other r (use_up r.state c t)) (tell_task s.world t u (ran_a_tick (task_at s.world t)) refl) (y.0, joins u n y.0 v r (use_up r.state c t) x.1 y.1)

  -- a CPU ticks
  pub goes_tick : (on : List (Option ℕ)) (s : State) (c : ℕ) → c < length s.world.cpus → IsSound None on n s.world → Leads u n s (tick s c)
  unfolding tick tick_idle
  goes_tick on s c l h = go (running s.world c) refl
    where
      go : (o : Option ℕ) → running s.world c ≡ o → Leads u n s (tick_of o s c)
      go None at = keeps_if (Leads u n s) (is_by_linux s) (stays s) (cycle s c None false) (on, goes_stays u n None on s h) (cycle_now on s c None false l at h)
      go (Some t) at = goes_count_down on s c t (subst (λ (xs : List (Option ℕ)). c < length xs) h.cpus l) (subst (λ (xs : List (Option ℕ)). get_or xs c None ≡ Some t) h.cpus at) h

  -- ---- rounds

  goes_look_past : (on : List (Option ℕ)) (s : State) (c t : ℕ) → c < length s.world.cpus → running s.world c ≡ Some t → IsSound None on n s.world → Leads u n s (look_past s c t)
  unfolding look_past
  goes_look_past on s c t l at h = keeps_if (Leads u n s) ((task_at s.world t).slice == 0) (cycle s c (Some t) true) (stays s) (cycle_now on s c (Some t) true l at h) (on, goes_stays u n None on s h)

  goes_round : (on : List (Option ℕ)) (s : State) (c : ℕ) → c < length s.world.cpus → IsSound None on n s.world → Leads u n s (round s c)
  unfolding round
  goes_round on s c l h = leads_from s v (look_from (running s.world c) (is_in_set s.world.preempted c) v c) refl (go (running s.world c) refl (is_in_set s.world.preempted c))
    where
      v : State
      v = with_world s (without_kick s.world c)

      z : IsSound None on n v.world
      z = sound_sets None on n s.world s.world.claimed (but_cpu s.world.kicked c) (but_cpu s.world.preempted c) s.world.call.claims s.world.passing (λ d e. e) h

      go : (o : Option ℕ) → running s.world c ≡ o → (b : Bool) → Leads u n v (look_from o b v c)
      go None at b = cycle_now on v c None false l at z
      go (Some t) at false = goes_look_past on v c t l at z
      go (Some t) at true =
          let x = with_world v (after_cut_off v.world t) in
          leads_from v x (look_past x c t) (tell_task v.world t u _ refl) (goes_look_past on x c t l at ((sound_marks None on n).sliced v.world t 0 z))

  goes_rounds : (j : ℕ) (on : List (Option ℕ)) (s : State) → IsSound None on n s.world → Leads u n s (rounds j s)
  unfolding rounds
  goes_rounds zero on s h = (on, goes_stays u n None on s h)
  goes_rounds (suc j) on s h = go (next_to_look s) refl (λ c on x. goes_rounds j on (round s c).state x)
    where
      go : (o : Option ℕ) → next_to_look s ≡ o → ((c : ℕ) (on : List (Option ℕ)) → IsSound None on n (round s c).state.world → Leads u n (round s c).state (rounds j (round s c).state)) → Leads u n s (round_then (λ r. rounds j r) s o)
      go None e more = (on, goes_stays u n None on s h)
      go (Some c) e more =
          let r = round s c in
          let x = goes_round on s c (looks_there s c e) h in
          let y = more c x.0 x.1.0 in
          (y.0, joins u n y.0 s r (rounds j r.state) x.1.1 y.1)

  -- a step and the rounds that follow it
  pub goes_with_rounds : (s : State) (r : Stepped) → Leads u n s r → Leads u n s (with_rounds r)
  unfolding with_rounds
  goes_with_rounds s r x =
      let k = rounds most_rounds r.state in
      let y = goes_rounds most_rounds x.0 r.state x.1.0 in
      keeps_if (Leads u n s) (is_by_linux r.state) (one_after_other r k) r (y.0, joins u n y.0 s r k x.1.1 y.1) x
