-- A cycle of the only processor under a policy of one line: it takes the front of the line, and the task before goes to
-- the end; where no task waits, that one goes on with a slice.
use Rattle.std.proofs.Common.{◌≡◌, ℕ, zero, suc, ◌<◌, ◌≤◌, Bool, true, false, ◌==◌, ◌&&◌, not, ◌⊎◌, inl, inr, if◌then◌else◌, List, [], ◌∷◌, length, get_or, Option, Some, None, is_some, is_none, option_map, count_by, refl, sym, ap, ◌∙◌, subst, arith, nat_lt}
use Rattle.scx_laws.proofs.Differing.{zero_not}
use Rattle.std.proofs.lemmas.Option.{same_Some}
use Rattle.std.specs.List.{list_any}
use Rattle.std.proofs.lemmas.Bool.{ne_eqb, and_right}
use Rattle.std.proofs.lemmas.List.{length-set, get_or-set_same}
use Rattle.std.proofs.lemmas.List.Sums.{sum_by-cons}
use Rattle.scx_dsq.specs.declared.entries.Entry.{Entry}
use Rattle.scx_dsq.specs.declared.entries.Rank.TheVariants.{Fifo}
use Rattle.scx_dsq.specs.declared.errors.QueueError.{QueueError}
use Rattle.scx_dsq.specs.Entries.{same_sort}
use Rattle.scx_dsq.specs.Laws.{one_if}
use Rattle.scx_dsq.specs.Queues.{QueueState, exists, entry_of, is_in, len_of, front_of}
use Rattle.scx_dsq.specs.Calls.{clashes, push_refusal, next_entry, with_task as with_place, without, without_task, after_push, after_remove}
use Rattle.scx_dsq.proofs.Facts.{ids_pushed, ids_without, ids_removed}
use Rattle.scx_isa_semantics.specs.declared.callbacks.Callback.{Callback}
use Rattle.scx_isa_semantics.specs.declared.callbacks.Callback.TheVariants as callback
use Rattle.scx_isa_semantics.specs.declared.rules.Rules.{Rules}
use Rattle.scx_vm.specs.declared.arguments.Args.{Args}
use Rattle.scx_weights.specs.Limits.{has_quota}
use Rattle.scx_weights.specs.Hierarchy as groups
use Rattle.scx_sched_tasks.specs.declared.task.Task.{Task}
use Rattle.scx_sched_tasks.specs.Tasks.{no_task, default_slice}
use Rattle.scx_sched_world.specs.declared.eject.Eject.{Eject}
use Rattle.scx_sched_world.specs.declared.notes.What.TheVariants as notes
use Rattle.scx_sched_world.specs.Ids.{global, local_on}
use Rattle.scx_sched_world.specs.World.{WorldState, with_queues, task_at, are_linux, binds, running, at_callback, quiet, with_note}
use Rattle.scx_sched_world.specs.Tasks.{to_front, local_len, next_for, with_slice, with_new_slice, after_stop, started_at, after_keep, after_enter}
use Rattle.scx_sched_world.specs.Ejecting.{after_charge, after_catch_up}
use Rattle.scx_sched_world.specs.Helpers.{with_insert, with_move, moved_to_local}
use Rattle.scx_sched_world.proofs.Empty.{empty_next}
use Rattle.scx_sched_world.proofs.Fronts.{front_in, unbound_next}
use Rattle.scx_sched_policy.specs.Policy.{program_of}
use Rattle.scx_sched_machine.specs.Steps.{State, Stepped, with_world, stays, one_after_other, is_by_linux}
use Rattle.scx_sched_machine.specs.Callbacks.{call_back, noted_by, cpu_and_task}
use Rattle.scx_sched_machine.specs.Put.{enters, put}
use Rattle.scx_sched_machine.specs.Parking.{supply}
use Rattle.scx_sched_machine.specs.Cycle.{has_local, keeps_slice, supply_unless_kept, told_of, dispatch_called, after_dispatch, asks_again, tries, put_back, leave, switched, started_if, start, kept, rest, builtin_cycle, start_or_cycle, picked, refilled, start_picked_or_cycle, makes_way, pick, pick_or_rest, keep_or_pick, conclude, give_up, ask, seek, look, concluded, cycle}
use Rattle.scx_sched_machine.proofs.Choices.{keeps_if}
use Rattle.scx_sched_machine.proofs.Free.{supply_nobody}
use Rattle.scx_sched.proofs.Firsts.{no_front_is_empty}
use Rattle.scx_sched.proofs.Lengths.{len_set}
use Rattle.scx_sched.proofs.Sound.{place_known}
use Rattle.scx_laws.specs.Bounds.{longest_wait}
use Rattle.scx_laws.proofs.Plain.{homed_plain, switched_plain, told_plain, kept_plain, busy_plain, picked_plain, give_up_plain, cycling_plain, concluded_plain}
use Rattle.scx_sched.proofs.Stepwise.{IsSwitch, Silent, Called, by_stop, by_start}
use Rattle.scx_laws.proofs.InLine.{IsInLine, IsKeptInLine, line_end, world_plain, nothing_told, line_at, put_lined, dispatch_lined, keeps_line}
use Rattle.scx_laws.proofs.Overtaking.{known_there}
use Rattle.scx_laws.proofs.Bounding.{IsBounded, bounded_left, len_gone}
use Rattle.scx_laws.proofs.Turning.{IsTurning, turning_dispatched, turning_started, turning_stopped, turning_put, turning_kept}

-- ---- numbers and tests

pub positive : (n : ℕ) → (n == 0) ≡ false → 0 < n
positive zero e = absurd (cc)
positive (suc n) e = omega arith

pub nonzero : (n : ℕ) → 0 < n → (n == 0) ≡ false
nonzero n l = ne_eqb n 0 (λ e. omega (arith, e, l))

not_again : (a b c : Bool) → (b && c) ≡ false → (a && (b && c)) ≡ false
not_again true b c e = e
not_again false b c e = refl

-- ---- queues

-- where none passes a test, none are counted
pub none_pass : {A : Type 0} (f : A → Bool) (d : A) (xs : List A) → ((i : ℕ) → f (get_or xs i d) ≡ false) → count_by f xs ≡ 0
none_pass f d [] h = refl
none_pass f d (x ∷ xs) h = omega (arith, sum_by-cons (λ o. one_if (f o)) x xs, none_pass f d xs (λ i. h (suc i)), ap one_if (h 0))

-- an empty queue has no entry
pub no_entry : (s : QueueState) (q u : ℕ) (e : Entry) → len_of s q ≡ 0 → entry_of s u ≡ Some e → e.queue ≡ q → ⊥
no_entry s q u e none is here = omega (arith, none, len_gone s u q e (known_there s u e is) is here)

-- a push into another queue leaves a queue as long as it was
pub len_other : (s : QueueState) (q id x : ℕ) → (q == id) ≡ false → entry_of s x ≡ None → x < length s.entries → len_of (after_push s q x Fifo) id ≡ len_of s id
len_other s q id x other free l = keeps_if (λ (k : QueueState). len_of k id ≡ len_of s id) (is_none (push_refusal s q x Fifo)) (with_place s q x Fifo) s
    (omega (arith, len_set s id x (Some (next_entry s q Fifo)) l, ap (λ (o : Option Entry). one_if (is_in id o)) free, ap one_if other)) refl

-- the queues that there are stay, if their ids do
pub still_there : (s t : QueueState) (q : ℕ) → t.ids ≡ s.ids → exists s q ≡ true → exists t q ≡ true
still_there s t q same there = ap (λ ids. list_any (λ other. other == q) ids) same ∙ there

-- ---- a machine of such a policy

-- in force, with one processor and without quotas; its tasks wait no longer than that
pub record IsGoing (slice n m : ℕ) (s : State) : Type 0 where
  pub lined : IsKeptInLine slice s
  pub turning : IsTurning slice n m s.world
  pub free : has_quota s.world.tree.groups ≡ false
  pub own : exists s.world.queues (local_on 0) ≡ true
  pub asks_none : program_of s.policy callback.SelectCpu ≡ None
  pub patient : longest_wait n slice ≤ s.policy.timeout_ms
  pub some : 0 < slice

-- it is at work: no task waits in its own queue, the task that runs has some of its slice left, and without one no task
-- waits in the line
pub record IsAtWork (slice n m : ℕ) (s : State) : Type 0 where
  pub going : IsGoing slice n m s
  pub none : len_of s.world.queues (local_on 0) ≡ 0
  pub busy : (r : ℕ) → running s.world 0 ≡ Some r → 0 < (task_at s.world r).slice
  pub idle : running s.world 0 ≡ None → len_of s.world.queues 0 ≡ 0

-- between two events
abbrev pub IsBetween : ℕ → ℕ → ℕ → State → Type 0
IsBetween slice n m s = IsAtWork slice n m s × (s.world.cycling ≡ None)

module _ (slice n m : ℕ) where
  -- another world of such a machine
  pub going_in : (j : ℕ) (s : State) (w : WorldState) → IsInLine w → IsTurning slice n m w → has_quota w.tree.groups ≡ false → exists w.queues (local_on 0) ≡ true → IsGoing slice n j s → IsGoing slice n m (with_world s w)
  going_in j s w line turning free own h = record { lined = (h.lined.0, line); turning = turning; free = free; own = own; asks_none = h.asks_none; patient = h.patient; some = h.some }

  pub plain_going : (s : State) → IsGoing slice n m s → is_by_linux s ≡ false
  plain_going s h = world_plain s.world h.lined.1.rules

  -- ---- no other task waits

  -- no task waits in another queue
  pub empty_other : (w : WorldState) (q : ℕ) → (0 == q) ≡ false → (local_on 0 == q) ≡ false → IsTurning slice n m w → len_of w.queues q ≡ 0
  empty_other w q a b h = none_pass (is_in q) None w.queues.entries (λ i. go i (entry_of w.queues i) refl)
    where
      by : (p : Entry) → (p.queue ≡ 0) ⊎ (p.queue ≡ local_on 0) → (p.queue == q) ≡ false
      by p (inl y) = ap (λ k. k == q) y ∙ a
      by p (inr y) = ap (λ k. k == q) y ∙ b

      go : (i : ℕ) (o : Option Entry) → entry_of w.queues i ≡ o → is_in q o ≡ false
      go i None e = refl
      go i (Some p) e = by p (h.bounded.here i p e)

  -- so the local queue is as it is
  pub supply_same : (s : State) → IsGoing slice n m s → supply s 0 ≡ stays s
  supply_same s h = supply_nobody s 0 h.free (empty_next s.world global 0 (empty_other s.world global refl refl h.turning))

  -- ---- dispatch

  -- the state after it, with that front of the line
  abbrev brought_by : State → Option ℕ → State
  brought_by s o = with_world s (quiet (moved_to_local (at_callback s.world callback.Dispatch 0 0) o))

  abbrev first_of : State → Option ℕ
  first_of s = next_for (at_callback s.world callback.Dispatch 0 0) 0 0

  -- and where there is one
  abbrev moved_by : State → ℕ → State
  moved_by s x =
      let w = at_callback s.world callback.Dispatch 0 0 in
      with_world s (quiet (with_note (with_move (with_queues w (after_push (after_remove w.queues x) (local_on 0) x Fifo))) (notes.Move x 0)))

  brought_some : (s : State) (x : ℕ) → IsGoing slice n m s → brought_by s (Some x) ≡ moved_by s x
  brought_some s x h =
      let w = at_callback s.world callback.Dispatch 0 0 in
      let v = with_queues w (after_push (after_remove w.queues x) (local_on 0) x Fifo) in
      ap (λ (k : WorldState). with_world s (quiet (with_note (with_move k) (notes.Move x 0)))) (homed_plain v (world_plain v h.lined.1.rules) x 0)

  called_is : (s : State) (a : Args) → IsGoing slice n m s → (call_back s callback.Dispatch a 0 0).state ≡ brought_by s (first_of s)
  called_is s a h = dispatch_lined slice s a 0 h.turning.force h.lined

  -- the queues stay that there are
  own_brought : (s : State) (o : Option ℕ) → IsGoing slice n m s → exists (brought_by s o).world.queues (local_on 0) ≡ true
  own_brought s None h = h.own
  own_brought s (Some x) h = subst (λ (v : State). exists v.world.queues (local_on 0) ≡ true) (sym (brought_some s x h)) (still_there s.world.queues (after_push (after_remove s.world.queues x) (local_on 0) x Fifo) (local_on 0) (ids_pushed (after_remove s.world.queues x) (local_on 0) x Fifo ∙ ids_removed s.world.queues x) h.own)

  free_brought : (s : State) (o : Option ℕ) → IsGoing slice n m s → has_quota (brought_by s o).world.tree.groups ≡ false
  free_brought s None h = h.free
  free_brought s (Some x) h = subst (λ (v : State). has_quota v.world.tree.groups ≡ false) (sym (brought_some s x h)) h.free

  going_called : (s : State) (a : Args) → IsGoing slice n m s → IsGoing slice n m (brought_by s (first_of s))
  going_called s a h =
      let is = called_is s a h in
      let line : IsKeptInLine slice (brought_by s (first_of s)) = subst (IsKeptInLine slice) is ((keeps_line slice).dispatched s a 0 h.lined) in
      let turning : IsTurning slice n m (brought_by s (first_of s)).world = subst (λ (v : State). IsTurning slice n m v.world) is (turning_dispatched slice n m s a h.lined h.turning) in
      going_in m s (brought_by s (first_of s)).world line.1 turning (free_brought s (first_of s) h) (own_brought s (first_of s) h) h

  -- the state after dispatch and the supply that follows
  dispatched_is : (s : State) (p : Option ℕ) → IsGoing slice n m s → (after_dispatch s 0 p).state ≡ brought_by s (first_of s)
  unfolding after_dispatch dispatch_called supply_unless_kept
  dispatched_is s p h =
      let a = cpu_and_task 0 (told_of s p) in
      let r = (call_back s callback.Dispatch a 0 0).state in
      let is = called_is s a h in
      let g : IsGoing slice n m r = subst (IsGoing slice n m) (sym is) (going_called s a h) in
      ap (λ (v : Stepped). (supply_unless_kept v.state 0 p).state) (told_plain r (plain_going r g) 0 (noted_by s callback.Dispatch a 0 0))
      ∙ (ap (λ b. (if b then stays r else supply r 0).state) (kept_plain r (plain_going r g) p) ∙ (ap (λ (v : Stepped). v.state) (supply_same r g) ∙ is))

  -- ---- who waits in the local queue then

  -- the front of the line
  front_line : (s : State) → IsGoing slice n m s → (o : Option ℕ) → first_of s ≡ o → front_of s.world.queues 0 ≡ o
  front_line s h o e =
      let w = at_callback s.world callback.Dispatch 0 0 in
      let unbound : binds w ≡ false = ap (λ (r : Rules). are_linux r && groups.binds w.tree) h.lined.1.rules in
      sym (unbound_next w 0 0 unbound) ∙ e

  -- no task clashes there: all are in order of arrival
  no_clashes : (s : State) → IsGoing slice n m s → (x : ℕ) → list_any (clashes (local_on 0) Fifo) (without_task s.world.queues x).entries ≡ false
  no_clashes s h x = none_any (without_task s.world.queues x).entries (λ i. go i (entry_of (without_task s.world.queues x) i) refl)
    where
      none_any : (xs : List (Option Entry)) → ((i : ℕ) → clashes (local_on 0) Fifo (get_or xs i None) ≡ false) → list_any (clashes (local_on 0) Fifo) xs ≡ false
      none_any [] f = refl
      none_any (y ∷ ys) f = rw (f 0) (none_any ys (λ i. f (suc i)))

      left : IsBounded slice n m s.world.clock s.world.tasks (running s.world 0) (without_task s.world.queues x)
      left = bounded_left slice n m s.world.clock s.world.tasks (running s.world 0) s.world.queues x h.turning.bounded

      sorted : (p : Entry) → p.rank ≡ Fifo → (is_in (local_on 0) (Some p) && not (same_sort p.rank Fifo)) ≡ false
      sorted p e = ap (λ r. is_in (local_on 0) (Some p) && not (same_sort r Fifo)) e ∙ and_right (is_in (local_on 0) (Some p)) false refl

      go : (i : ℕ) (o : Option Entry) → entry_of (without_task s.world.queues x) i ≡ o → clashes (local_on 0) Fifo o ≡ false
      go i None e = refl
      go i (Some p) e = sorted p (left.fifo i p e)

  -- it goes there
  len_moved : (s : State) (x : ℕ) → IsGoing slice n m s → front_of s.world.queues 0 ≡ Some x → len_of s.world.queues (local_on 0) ≡ 0 → len_of (after_push (after_remove s.world.queues x) (local_on 0) x Fifo) (local_on 0) ≡ 1
  len_moved s x h front none = go (entry_of q x) refl (front_in q 0 x front)
    where
      q : QueueState
      q = s.world.queues

      known : x < length q.entries
      known = (place_known q 0 x (front_in q 0 x front)).0

      one : QueueState
      one = without_task q x

      gone : entry_of one x ≡ None
      gone = get_or-set_same {A = Option Entry} q.entries x None None known

      accepted : push_refusal one (local_on 0) x Fifo ≡ None
      accepted = rw (h.own, gone, no_clashes s h x) refl

      go : (o : Option Entry) → entry_of q x ≡ o → option_map (λ (e : Entry). e.queue) o ≡ Some 0 → len_of (after_push (after_remove q x) (local_on 0) x Fifo) (local_on 0) ≡ 1
      go None is at = absurd (cc)
      go (Some e) is at =
          let here : e.queue ≡ 0 = same_Some e.queue 0 at in
          let was : one_if (is_in (local_on 0) (entry_of q x)) ≡ 0 = ap (λ (o : Option Entry). one_if (is_in (local_on 0) o)) is ∙ ap (λ k. one_if (k == local_on 0)) here in
          let left : len_of one (local_on 0) ≡ 0 = omega (arith, len_set q (local_on 0) x None known, was, none) in
          let within : x < length one.entries = omega (arith, known, length-set {A = Option Entry} q.entries x None) in
          let more : len_of (with_place one (local_on 0) x Fifo) (local_on 0) ≡ 1 = omega (arith, len_set one (local_on 0) x (Some (next_entry one (local_on 0) Fifo)) within, ap (λ (o : Option Entry). one_if (is_in (local_on 0) o)) gone, left) in
          ap (λ (k : QueueState). len_of (after_push k (local_on 0) x Fifo) (local_on 0)) (ap (λ b. if b then one else q) (ap (λ (o : Option Entry). is_some o) is))
          ∙ (ap (λ (o : Option QueueError). len_of (if is_none o then with_place one (local_on 0) x Fifo else one) (local_on 0)) accepted ∙ more)

  -- ---- the task before leaves

  -- the machine once it has left
  pub record IsLeft (s v : State) : Type 0 where
    pub going : IsGoing slice n m v
    pub idle : running v.world 0 ≡ None
    pub local : len_of v.world.queues (local_on 0) ≡ len_of s.world.queues (local_on 0)

  -- the task that runs is off the processor, and nothing was done in the callback
  abbrev pub off_cpu : State → ℕ → Callback → State
  off_cpu s r b = with_world s (at_callback (after_stop s.world 0 r) b r 0)

  pub off_idle : (s : State) (r : ℕ) → IsGoing slice n m s → running (after_stop s.world 0 r) 0 ≡ None
  off_idle s r h = get_or-set_same {A = Option ℕ} s.world.cpus 0 None None (omega (arith, h.turning.one))

  pub going_off : (s : State) (r : ℕ) (b : Callback) → running s.world 0 ≡ Some r → IsGoing slice n m s → IsGoing slice n m (off_cpu s r b)
  going_off s r b runs h =
      let y = turning_stopped slice n m s.world r runs h.turning in
      going_in m s (off_cpu s r b).world (line_at (after_stop s.world 0 r) b r 0 ((keeps_line slice).stopped s 0 r h.lined).1) (record { force = y.force; one = y.one; bounded = y.bounded }) h.free h.own h

  -- so it is once a task has left the processor
  pub off_is : (P : State → Type 0) (s : State) (r : ℕ) → IsGoing slice n m s → ((b : Callback) → P (off_cpu s r b)) → (v : Stepped) → IsSwitch (with_world s (after_stop s.world 0 r)) r 0 (after_charge (after_stop s.world 0 r) r) v → P v.state
  off_is P s r h each _ (Silent out) = let bad : false ≡ true = sym (ap (λ (o : Option Eject). is_some o) h.turning.force) ∙ out in absurd (cc)
  off_is P s r h each _ (Called b a force is) = subst P (sym (nothing_told slice (with_world s (after_stop s.world 0 r)) b a r 0 is h.lined.0)) (each b)

  -- and then it is put
  left_from : (s : State) (r : ℕ) (b : Callback) → longest_wait n slice ≤ m → running s.world 0 ≡ Some r → IsGoing slice n m s → IsLeft s (put_back (off_cpu s r b) 0 r).state
  unfolding put_back
  left_from s r b longest runs h = subst (IsLeft s) (sym is) (record { going = going_in m stopped final line.1 turning free own stopped-going; idle = rests; local = as_long })
    where
      stopped : State
      stopped = off_cpu s r b

      stopped-going : IsGoing slice n m stopped
      stopped-going = going_off s r b runs h

      entered : WorldState
      entered = quiet (with_insert (at_callback stopped.world callback.Enqueue r 0) (line_end slice))

      final : WorldState
      final = after_enter entered r (line_end slice)

      put_is : (put stopped r 0 0).state ≡ with_world stopped final
      put_is = put_lined slice stopped r 0 0 refl h.turning.force stopped-going.lined

      is : (put_back stopped 0 r).state ≡ with_world stopped final
      is = ap (λ b. (if b then enters stopped r (to_front 0) else put stopped r 0 0).state) (kept_plain stopped (plain_going stopped stopped-going) (Some r)) ∙ put_is

      line : IsKeptInLine slice (with_world stopped final)
      line = subst (IsKeptInLine slice) put_is ((keeps_line slice).puts stopped r 0 0 refl stopped-going.lined)

      rested : running entered 0 ≡ None
      rested = off_idle s r h

      waits : (r < n) × (entry_of s.world.queues r ≡ None)
      waits = h.turning.bounded.off r runs

      now : (task_at entered r).since ≡ Some s.world.clock
      now = ap (λ (x : Task). x.since) (get_or-set_same s.world.tasks r _ no_task (omega (arith, waits.0, h.turning.bounded.many)))

      turning : IsTurning slice n m final
      turning = turning_put slice n m entered r (nonzero slice h.some) longest waits.1 (λ k e y. let bad : None ≡ Some k = sym rested ∙ e in absurd (cc)) waits.0 now (let y = stopped-going.turning in record { force = y.force; one = y.one; bounded = y.bounded })

      free : has_quota final.tree.groups ≡ false
      free = keeps_if (λ (v : WorldState). has_quota v.tree.groups ≡ false) (nat_lt r (length entered.tasks)) _ entered h.free h.free

      own : exists final.queues (local_on 0) ≡ true
      own = keeps_if (λ (v : WorldState). exists v.queues (local_on 0) ≡ true) (nat_lt r (length entered.tasks)) _ entered (still_there s.world.queues (after_push s.world.queues 0 r Fifo) (local_on 0) (ids_pushed s.world.queues 0 r Fifo) h.own) h.own

      rests : running final 0 ≡ None
      rests = keeps_if (λ (v : WorldState). running v 0 ≡ None) (nat_lt r (length entered.tasks)) _ entered rested rested

      as_long : len_of final.queues (local_on 0) ≡ len_of s.world.queues (local_on 0)
      as_long = keeps_if (λ (v : WorldState). len_of v.queues (local_on 0) ≡ len_of s.world.queues (local_on 0)) (nat_lt r (length entered.tasks)) _ entered (len_other s.world.queues 0 (local_on 0) r refl waits.1 (omega (arith, waits.0, h.turning.bounded.even))) refl

  pub left_is : (s : State) (p : Option ℕ) → longest_wait n slice ≤ m → running s.world 0 ≡ p → IsGoing slice n m s → IsLeft s (leave s 0 p).state
  unfolding leave
  left_is s None longest runs h = record { going = h; idle = runs; local = refl }
  left_is s (Some r) longest runs h = by_stop (λ (v : Stepped). IsLeft s (put_back v.state 0 r).state) (with_world s (after_stop s.world 0 r)) 0 r 1 (off_is (λ (v : State). IsLeft s (put_back v 0 r).state) s r h (λ b. left_from s r b longest runs h))

  -- ---- the front of the local queue runs

  pub started_works : (s : State) → IsGoing slice n m s → running s.world 0 ≡ None → len_of s.world.queues (local_on 0) ≡ 1 → IsAtWork slice n m (start s 0).state
  unfolding start
  started_works s h idle one = go (front_of s.world.queues (local_on 0)) refl
    where
      runs_now : (x : ℕ) (e : Entry) → front_of s.world.queues (local_on 0) ≡ Some x → entry_of s.world.queues x ≡ Some e → e.queue ≡ local_on 0 → IsAtWork slice n m (started_if (Some x) s 0).state
      runs_now x e front is at =
          by_start (λ (r : Stepped). IsAtWork slice n m r.state) (switched u x) 0 x
          (subst (λ (v : State). (r : Stepped) → IsSwitch v x 0 (after_catch_up v.world x) r → IsAtWork slice n m r.state) (sym (switched_plain u (world_plain u.world u-line.rules) x)) told)
        where
          u : State
          u = with_world s (started_at (Some x) s.world 0)

          u-line : IsInLine u.world
          u-line = ((keeps_line slice).started s 0 x front h.lined).1

          turning : IsTurning slice n m u.world
          turning = turning_started slice n m s.world x idle front h.turning

          own : exists u.world.queues (local_on 0) ≡ true
          own = still_there s.world.queues u.world.queues (local_on 0) (ids_without s.world.queues (front_of s.world.queues (local_on 0))) h.own

          runs : running u.world 0 ≡ Some x
          runs = get_or-set_same {A = Option ℕ} s.world.cpus 0 (Some x) None (omega (arith, h.turning.one))

          known : x < length s.world.queues.entries
          known = known_there s.world.queues x e is

          gone : len_of u.world.queues (local_on 0) ≡ 0
          gone = ap (λ o. len_of (without s.world.queues o) (local_on 0)) front ∙ omega (arith, len_gone s.world.queues x (local_on 0) e known is at, one)

          whole : 0 < (task_at u.world x).slice
          whole =
              let y : (task_at u.world x).slice ≡ (task_at s.world x).slice = ap (λ (t : Task). t.slice) (get_or-set_same s.world.tasks x _ no_task (omega (arith, known, h.turning.bounded.even, h.turning.bounded.many))) in
              omega (arith, y, h.turning.bounded.slices x e is, h.some)

          works : (b : Callback) → IsAtWork slice n m (with_world u (at_callback u.world b x 0))
          works b = record {
            going = going_in m u (at_callback u.world b x 0) (line_at u.world b x 0 u-line) (record { force = turning.force; one = turning.one; bounded = turning.bounded }) h.free own (going_in m s u.world u-line turning h.free own h);
            none = gone;
            busy = λ k y. subst (λ i. 0 < (task_at u.world i).slice) (same_Some x k (sym runs ∙ y)) whole;
            idle = λ y. let bad : Some x ≡ None = sym runs ∙ y in absurd (cc);
          }

          told : (v : Stepped) → IsSwitch u x 0 (after_catch_up u.world x) v → IsAtWork slice n m v.state
          told _ (Silent out) = let bad : false ≡ true = sym (ap (λ (o : Option Eject). is_some o) h.turning.force) ∙ out in absurd (cc)
          told _ (Called b a force y) = subst (IsAtWork slice n m) (sym (nothing_told slice u b a x 0 y h.lined.0)) (works b)

      at_front : (x : ℕ) → front_of s.world.queues (local_on 0) ≡ Some x → (o : Option Entry) → entry_of s.world.queues x ≡ o → option_map (λ (e : Entry). e.queue) o ≡ Some (local_on 0) → IsAtWork slice n m (started_if (Some x) s 0).state
      at_front x front None is at = absurd (cc)
      at_front x front (Some e) is at = runs_now x e front is (same_Some e.queue (local_on 0) at)

      go : (o : Option ℕ) → front_of s.world.queues (local_on 0) ≡ o → IsAtWork slice n m (started_if o s 0).state
      go None f = absurd (omega (arith, one, no_front_is_empty s.world.queues (local_on 0) f))
      go (Some x) f = at_front x f (entry_of s.world.queues x) refl (front_in s.world.queues (local_on 0) x f)

  -- ---- a task is picked, or none comes

  some_there : (k : ℕ) → k ≡ 1 → not (k == 0) ≡ true
  some_there k e = ap (λ i. not (i == 0)) e

  pick_works : (s : State) (p : Option ℕ) (ran : Bool) → longest_wait n slice ≤ m → running s.world 0 ≡ p → IsGoing slice n m s → len_of s.world.queues (local_on 0) ≡ 1 → IsAtWork slice n m (pick s 0 p ran).state
  unfolding pick makes_way start_or_cycle
  pick_works s p ran longest runs h one = go (picked s 0) (picked_plain s (plain_going s h) 0)
    where
      l : IsLeft s (leave s 0 p).state
      l = left_is s p longest runs h

      starts : IsAtWork slice n m (start_or_cycle (leave s 0 p).state 0 ran).state
      starts =
          let v = (leave s 0 p).state in
          let there = l.local ∙ one in
          subst (λ b. IsAtWork slice n m (if b then start v 0 else builtin_cycle v 0 None ran).state) (sym (some_there (local_len v.world 0) there)) (started_works v l.going l.idle there)

      go : (o : Option ℕ) → o ≡ None → IsAtWork slice n m (start_picked_or_cycle o (makes_way (refilled s o) 0 p ran).state 0 ran).state
      go None e = subst (λ (b : Stepped). IsAtWork slice n m (start_or_cycle (leave b.state 0 p).state 0 ran).state) (sym (busy_plain s (plain_going s h) 0 p ran)) starts
      go (Some t) e = absurd (cc)

  some_new : (x : Task) → 0 < (with_new_slice x).slice
  some_new x = go (x.slice == 0) refl
    where
      go : (b : Bool) → (x.slice == 0) ≡ b → 0 < (if b then with_slice x default_slice else x).slice
      go true e = omega arith
      go false e = positive x.slice e

  rest_works : (s : State) (p : Option ℕ) (ran : Bool) → running s.world 0 ≡ p → IsGoing slice n m s → len_of s.world.queues 0 ≡ 0 → len_of s.world.queues (local_on 0) ≡ 0 → IsAtWork slice n m (rest s 0 p ran).state
  unfolding rest
  rest_works s None ran runs h empty none = record { going = h; none = none; busy = λ r e. let bad : None ≡ Some r = sym runs ∙ e in absurd (cc); idle = λ e. empty }
  rest_works s (Some r) ran runs h empty none = subst (IsAtWork slice n m) (sym (switched_plain u (world_plain u.world h.lined.1.rules) r)) (record {
    going = going_in m s u.world ((keeps_line slice).kept s (Some r) h.lined).1 (turning_kept slice n m s.world (Some r) runs empty none h.turning) h.free h.own h;
    none = none;
    busy = λ k e. subst (λ i. 0 < (task_at u.world i).slice) (same_Some r k (sym runs ∙ e)) (subst (λ (x : Task). 0 < x.slice) (sym (get_or-set_same s.world.tasks r (with_new_slice (task_at s.world r)) no_task (omega (arith, (h.turning.bounded.off r runs).0, h.turning.bounded.many)))) (some_new (task_at s.world r)));
    idle = λ e. empty;
  })
    where
      u : State
      u = with_world s (after_keep s.world (Some r))

  -- ---- a cycle

  -- what dispatch brings
  data Brings (s : State) (v : State) : Type 0 where
    Brought : len_of v.world.queues (local_on 0) ≡ 1 → Brings s v
    Vain : v.world.call.has_moved ≡ false → len_of v.world.queues 0 ≡ 0 → len_of v.world.queues (local_on 0) ≡ 0 → Brings s v

  brings : (s : State) → IsGoing slice n m s → len_of s.world.queues (local_on 0) ≡ 0 → Brings s (brought_by s (first_of s))
  brings s h none = go (first_of s) refl
    where
      go : (o : Option ℕ) → first_of s ≡ o → Brings s (brought_by s o)
      go None e = Vain refl (no_front_is_empty s.world.queues 0 (front_line s h None e)) none
      go (Some x) e = subst (Brings s) (sym (brought_some s x h)) (Brought (len_moved s x h (front_line s h (Some x) e) none))

  again : (s v : State) (p : Option ℕ) → Brings s v → asks_again v 0 p ≡ false
  again s v p (Brought one) = not_again (not (keeps_slice v p)) (local_len v.world 0 == 0) v.world.call.has_moved (ap (λ k. k == 0 && v.world.call.has_moved) one)
  again s v p (Vain none empty own) = not_again (not (keeps_slice v p)) (local_len v.world 0 == 0) v.world.call.has_moved (ap (λ b. (local_len v.world 0 == 0) && b) none ∙ and_right (local_len v.world 0 == 0) false refl)

  running_brought : (s : State) (o : Option ℕ) → IsGoing slice n m s → running (brought_by s o).world 0 ≡ running s.world 0
  running_brought s None h = refl
  running_brought s (Some x) h = ap (λ (v : State). running v.world 0) (brought_some s x h)

  tried_is : (k : ℕ) (s : State) (p : Option ℕ) → 0 < k → IsGoing slice n m s → len_of s.world.queues (local_on 0) ≡ 0 → (tries k s 0 p).state ≡ brought_by s (first_of s)
  unfolding tries
  tried_is zero s p some h none = absurd (omega (arith, some))
  tried_is (suc k) s p some h none =
      let d = after_dispatch s 0 p in
      let is = dispatched_is s p h in
      ap (λ b. (if b then one_after_other d (tries k d.state 0 p) else d).state) (ap (λ (v : State). asks_again v 0 p) is ∙ again s (brought_by s (first_of s)) p (brings s h none)) ∙ is

  pick_or_rest_works : (s v : State) (p : Option ℕ) (ran : Bool) → longest_wait n slice ≤ m → running v.world 0 ≡ p → IsGoing slice n m v → Brings s v → IsAtWork slice n m (pick_or_rest v 0 p ran).state
  unfolding pick_or_rest
  pick_or_rest_works s v p ran longest runs h (Brought one) = subst (λ b. IsAtWork slice n m (if b then pick v 0 p ran else rest v 0 p ran).state) (sym (some_there (local_len v.world 0) one)) (pick_works v p ran longest runs h one)
  pick_or_rest_works s v p ran longest runs h (Vain moved empty none) = subst (λ b. IsAtWork slice n m (if b then pick v 0 p ran else rest v 0 p ran).state) (sym (zero_not (local_len v.world 0) none)) (rest_works v p ran runs h empty none)

  conclude_works : (s v : State) (p : Option ℕ) (ran : Bool) → longest_wait n slice ≤ m → running v.world 0 ≡ p → IsGoing slice n m v → Brings s v → IsAtWork slice n m (conclude v 0 p ran).state
  unfolding conclude keep_or_pick
  conclude_works s v p ran longest runs h b =
      subst (λ b. IsAtWork slice n m (if b then builtin_cycle v 0 p ran else keep_or_pick v 0 p ran).state) (sym (ap (λ (o : Option Eject). is_some o) h.turning.force))
      (subst (λ b. IsAtWork slice n m (if b then stays (kept v p) else pick_or_rest v 0 p ran).state) (sym (kept_plain v (plain_going v h) p)) (pick_or_rest_works s v p ran longest runs h b))

  ask_works : (s : State) (p : Option ℕ) (ran : Bool) → longest_wait n slice ≤ m → running s.world 0 ≡ p → IsGoing slice n m s → len_of s.world.queues (local_on 0) ≡ 0 → IsAtWork slice n m (ask s 0 p ran).state
  unfolding ask
  ask_works s p ran longest runs h none =
      let v = brought_by s (first_of s) in
      let g = going_called s (cpu_and_task 0 (told_of s p)) h in
      subst (λ (d : State). IsAtWork slice n m (conclude (give_up d 0 p) 0 p ran).state) (sym (tried_is 32 s p (omega arith) h none))
      (subst (λ (d : State). IsAtWork slice n m (conclude d 0 p ran).state) (sym (give_up_plain v (plain_going v g) 0 p)) (conclude_works s v p ran longest (running_brought s (first_of s) h ∙ runs) g (brings s h none)))

  look_works : (s : State) (p : Option ℕ) (ran : Bool) → longest_wait n slice ≤ m → running s.world 0 ≡ p → IsGoing slice n m s → len_of s.world.queues (local_on 0) ≡ 0 → IsAtWork slice n m (look s 0 p ran).state
  unfolding look seek
  look_works s p ran longest runs h none =
      subst (λ b. IsAtWork slice n m (if b then builtin_cycle s 0 p ran else seek s 0 p ran).state) (sym (ap (λ (o : Option Eject). is_some o) h.turning.force))
      (subst (λ (f : Stepped). IsAtWork slice n m (one_after_other f (if has_local f.state 0 then pick f.state 0 p ran else ask f.state 0 p ran)).state) (sym (supply_same s h))
      (subst (λ b. IsAtWork slice n m (if b then pick s 0 p ran else ask s 0 p ran).state) (sym (zero_not (local_len s.world 0) none)) (ask_works s p ran longest runs h none)))

  pub cycle_works : (s : State) (p : Option ℕ) (ran : Bool) → longest_wait n slice ≤ m → running s.world 0 ≡ p → IsGoing slice n m s → len_of s.world.queues (local_on 0) ≡ 0 → IsBetween slice n m (cycle s 0 p ran).state
  unfolding cycle
  cycle_works s p ran longest runs h none =
      subst (λ (u : State). IsBetween slice n m (concluded (look u 0 p ran).state 0 ran).state) (sym (cycling_plain s (plain_going s h) (Some 0)))
      (subst (λ (y : Stepped). IsBetween slice n m y.state) (sym (concluded_plain r (plain_going r x.going) 0 ran))
      (subst (IsBetween slice n m) (sym (cycling_plain r (plain_going r x.going) None)) (ended, refl)))
    where
      v : State
      v = with_world s (record s.world { cycling = Some 0 })

      g : IsGoing slice n m v
      g = going_in m s v.world ((keeps_line slice).cycles s (Some 0) h.lined).1 (record { force = h.turning.force; one = h.turning.one; bounded = h.turning.bounded }) h.free h.own h

      r : State
      r = (look v 0 p ran).state

      x : IsAtWork slice n m r
      x = look_works v p ran longest runs g none

      ended : IsAtWork slice n m (with_world r (record r.world { cycling = None }))
      ended = record {
        going = going_in m r (record r.world { cycling = None }) ((keeps_line slice).cycles r None x.going.lined).1 (record { force = x.going.turning.force; one = x.going.turning.one; bounded = x.going.turning.bounded }) x.going.free x.going.own x.going;
        none = x.none;
        busy = λ k e. x.busy k e;
        idle = λ e. x.idle e;
      }
