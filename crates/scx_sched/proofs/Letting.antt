-- Who may run again is let go, one after another: each small step keeps what whole walks keep.
use Rattle.std.proofs.Common.{◌≡◌, ℕ, ◌<◌, true, false, ◌&&◌, ◌||◌, List, Option, Some, None, is_some, option_map, refl, ap, ◌∙◌, arith}
use Rattle.scx_dsq.specs.declared.entries.Entry.{Entry}
use Rattle.scx_dsq.specs.Queues.{QueueState, task_count, entry_of, queue_of, front_of, behind_of}
use Rattle.scx_sched_world.specs.Ids.{parked_queue}
use Rattle.scx_sched_world.proofs.Fronts.{AtParked, at_front, at_behind, behind_in}
use Rattle.scx_sched_tasks.specs.Waits.{time_since}
use Rattle.scx_sched_world.specs.World.{WorldState, task_at, waits_in, wait, is_idle}
use Rattle.scx_sched_world.specs.Tasks.{let_go}
use Rattle.scx_sched_machine.specs.Put.{put}
use Rattle.scx_sched_machine.specs.Steps.{State, Stepped, with_world, is_by_linux, kicked, kicked_if_idle}
use Rattle.scx_sched_machine.specs.Parking.{let_go_one, let_all_go}
use Rattle.scx_sched_machine.proofs.Choices.{keeps_if}
use Rattle.scx_sched.proofs.Waiting.{removed_other}
use Rattle.scx_sched.proofs.Sound.{waits_known}
use Rattle.scx_sched.proofs.Staying.{stay_put}
use Rattle.scx_sched.proofs.Stepwise.{IsOneLetGo, parked_let_go}
use Rattle.scx_sched.proofs.Lasting.{AreAsLong, long_here, long_then, long_kick, long_let_go, long_put}
use Rattle.scx_sched.proofs.Skeleton.{keeps_kicked_if_idle}
use Rattle.scx_sched.proofs.Cycles.{IsKeptInside, keeps_put_at}

-- who is parked is a task that there is
parked_known : (s : QueueState) (t : ℕ) → queue_of s t ≡ Some parked_queue → t < task_count s
parked_known s t e = waits_known s t (go (entry_of s t) e)
  where
    go : (o : Option Entry) → option_map (λ p. p.queue) o ≡ Some parked_queue → is_some o ≡ true
    go None x = absurd (cc)
    go (Some p) x = refl

-- whoever keeps that one is let go
abbrev pub LetsGo : (n : ℕ) (I : ℕ → Option ℕ → List (Option ℕ) → WorldState → Type 0) → Type 0
LetsGo n I = (m : ℕ) (on : List (Option ℕ)) (w : WorldState) (t : ℕ) → t < n → queue_of w.queues t ≡ Some parked_queue → I m None on w → I m (Some t) on (let_go w t)

module _ (n : ℕ) (I : ℕ → Option ℕ → List (Option ℕ) → WorldState → Type 0) (k : IsKeptInside n I) (lets : LetsGo n I) (m : ℕ) (on : List (Option ℕ)) where
  known : (s : State) (t : ℕ) → queue_of s.world.queues t ≡ Some parked_queue → I m None on s.world → t < n
  known s t here h = omega (arith, parked_known s.world.queues t here, (k.sound m None on s.world h).even)

  at_hand : (s : State) (t : ℕ) → queue_of s.world.queues t ≡ Some parked_queue → I m None on s.world → I m (Some t) on (let_go s.world t)
  at_hand s t here h = lets m on s.world t (known s t here h) here h

  keeps_let_go_one : (s : State) (t : ℕ) → queue_of s.world.queues t ≡ Some parked_queue → I m None on s.world → I m None on (let_go_one s t).state.world
  unfolding let_go_one
  keeps_let_go_one s t here h =
      let c = (task_at s.world t).prev_cpu in
      let v = with_world s (let_go s.world t) in
      keeps_kicked_if_idle n I k.steps m None on (put v t c 0).state c (keeps_put_at n I k m on v t c 0 (known s t here h) ((k.sound m None on s.world h).homes t) ((k.allowed m None on s.world h).home t (known s t here h)) (at_hand s t here h))

  -- a kick moves nobody
  queues_kicked : (s : State) (c : ℕ) → (kicked_if_idle s c).world.queues ≡ s.world.queues
  queues_kicked s c = keeps_if (λ (r : State). r.world.queues ≡ s.world.queues) (is_by_linux s && is_idle s.world c) (kicked s c) s refl refl

  -- the others stay parked
  one_leaves : (s : State) (t u : ℕ) → queue_of s.world.queues t ≡ Some parked_queue → queue_of s.world.queues u ≡ Some parked_queue → (u ≡ t → ⊥) → I m None on s.world → queue_of (let_go_one s t).state.world.queues u ≡ Some parked_queue
  unfolding let_go_one
  one_leaves s t u here there other h =
      let v = with_world s (let_go s.world t) in
      let off : queue_of v.world.queues u ≡ Some parked_queue = ap (λ (o : Option Entry). option_map (λ p. p.queue) o) (removed_other s.world.queues t u other) ∙ there in
      let c = (task_at s.world t).prev_cpu in
      let same = (stay_put n I k.steps k.sound m on v t (task_at s.world t).prev_cpu 0 ((k.sound m None on s.world h).homes t) (at_hand s t here h)).stay u off in
      ap (λ (x : QueueState). queue_of x u) (queues_kicked (put v t c 0).state c) ∙ (ap (λ (o : Option Entry). option_map (λ p. p.queue) o) same ∙ off)

  at_next : (s : State) (t : ℕ) → queue_of s.world.queues t ≡ Some parked_queue → I m None on s.world → (o : Option ℕ) → behind_of s.world.queues t ≡ o → AtParked (let_go_one s t).state.world.queues o
  at_next s t here h None e = tt
  at_next s t here h (Some u) e = let b = behind_in s.world.queues parked_queue t u here e in one_leaves s t u here b.there b.other h

  -- ---- how long each has waited

  -- who is parked has no wait
  parked_waits : (s : State) (t : ℕ) → queue_of s.world.queues t ≡ Some parked_queue → I m None on s.world → wait s.world t ≡ 0
  parked_waits s t here h = go (task_at s.world t).since ((k.sound m None on s.world h).waiting t ∙ ap (λ o. waits_in o || false) here)
    where
      go : (o : Option ℕ) → is_some o ≡ false → time_since s.world.clock o ≡ 0
      go None e = refl
      go (Some x) e = absurd (cc)

  long_let_go_one : (s : State) (t : ℕ) → queue_of s.world.queues t ≡ Some parked_queue → I m None on s.world → AreAsLong s.world (let_go_one s t).state.world
  unfolding let_go_one
  long_let_go_one s t here h =
      let c = (task_at s.world t).prev_cpu in
      let r = (put (with_world s (let_go s.world t)) t c 0).state in
      let x = long_put s.world (with_world s (let_go s.world t)) t c 0 (long_let_go s.world t (parked_waits s t here h)) in
      keeps_if (λ (v : State). AreAsLong s.world v.world) (is_by_linux r && is_idle r.world c) (kicked r c) r (long_kick s.world r.world c x) x

  -- ---- all who may run again

  -- the fact stays, and each has waited as long
  abbrev StaysAsLong : State → Stepped → Type 0
  StaysAsLong s r = I m None on r.state.world × AreAsLong s.world r.state.world

  one_let_go : IsOneLetGo (λ s. I m None on s.world) (λ s o. AtParked s.world.queues o) StaysAsLong
  one_let_go = record {
    none = λ s h. (h, long_here s.world);
    joined = λ s a r x y. (y.0, long_then s.world a.state.world r.state.world x.1 y.1);
    passed = λ s t here. at_behind s.world.queues t (behind_of s.world.queues t) here refl;
    one = λ s t here h. let x = keeps_let_go_one s t here h in ((x, long_let_go_one s t here h), x, at_next s t here h (behind_of s.world.queues t) refl);
  }

  all_let_go : (s : State) → I m None on s.world → StaysAsLong s (let_all_go s)
  all_let_go s h = parked_let_go (λ s. I m None on s.world) (λ s o. AtParked s.world.queues o) StaysAsLong one_let_go s (at_front s.world.queues (front_of s.world.queues parked_queue) refl) h

  -- the fact stays
  pub keeps_let_all_go : (s : State) → I m None on s.world → I m None on (let_all_go s).state.world
  keeps_let_all_go s h = (all_let_go s h).0

  -- each has waited as long
  pub long_let_all_go : (s : State) → I m None on s.world → AreAsLong s.world (let_all_go s).state.world
  long_let_all_go s h = (all_let_go s h).1
