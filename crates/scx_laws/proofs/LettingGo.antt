-- The walk over the parked as the clock grows.
use Rattle.std.proofs.Common.{◌≡◌, ℕ, zero, suc, ◌<◌, ◌≤◌, ◌⊎◌, inl, inr, Bool, true, false, ◌==◌, ◌&&◌, nat_lt, nat_le, if◌then◌else◌, List, length, Option, Some, None, is_some, option_map, refl, sym, ap, ◌∙◌, subst, arith}
use Rattle.std.proofs.lemmas.Option.{same_Some}
use Rattle.std.proofs.lemmas.Bool.{cases_eq, cases_lt, eqb-true, and_parts}
use Rattle.scx_dsq.specs.declared.entries.Entry.{Entry}
use Rattle.scx_dsq.specs.Queues.{QueueState, task_count, entry_of, len_of, front_of, behind_of}
use Rattle.scx_dsq.specs.Calls.{without_task}
use Rattle.scx_dsq.specs.Laws.{one_if}
use Rattle.scx_weights.specs.Hierarchy.{Hierarchy}
use Rattle.scx_weights.specs.Limits as limits
use Rattle.scx_sched_world.specs.Ids.{parked_queue}
use Rattle.scx_sched_world.specs.World.{WorldState, task_at, is_idle, is_throttled}
use Rattle.scx_sched_world.specs.Tasks.{let_go}
use Rattle.scx_sched_machine.specs.Steps.{State, Stepped, with_world, one_after_other, is_by_linux, kicked, kicked_if_idle}
use Rattle.scx_sched_machine.specs.Put.{put}
use Rattle.scx_sched_machine.specs.Parking.{let_go_one, let_go_from, let_all_go}
use Rattle.scx_sched_machine.proofs.Choices.{keeps_if}
use Rattle.scx_sched.proofs.Sound.{waits_known}
use Rattle.scx_sched.proofs.Staying.{stay_put}
use Rattle.scx_sched.proofs.Waiting.{removed_other}
use Rattle.scx_sched.proofs.Skeleton.{keeps_kicked_if_idle}
use Rattle.scx_sched.proofs.Cycles.{IsKeptInside, keeps_put_at}
use Rattle.scx_sched.proofs.Events.{inside_of}
use Rattle.scx_laws.proofs.Parked.{AreSameThrottled, IsOfParked, With, events_with}
use Rattle.scx_laws.proofs.Releasing.{AreInLine, line_stays, line_comes, line_goes, without_others, many_from, from_stamp, counted_fewer, counted_one, counted_all, is_counted, isnt_counted, le_test, le_fails, IsNext, Covers, covers_front, follows}

-- the parked are in line, and the same tasks are throttled
abbrev pub InLineAs : Hierarchy → List (Option ℕ) → QueueState → Hierarchy → Type 0
InLineAs g on s x = AreInLine s × AreSameThrottled g x

pub line_of : (g : Hierarchy) → IsOfParked (InLineAs g)
line_of g = record {
  stays = λ on s s' x y same like h. (line_stays s s' same h.0, λ u. like u ∙ h.1 u);
  comes = λ on s x t stamped now h. (line_comes s t stamped h.0, h.1);
  goes = λ on s x t h. (line_goes s t h.0, h.1);
  stops = λ on s x c h. h;
  starts = λ on s x c t free h. h;
}

-- how many are to come, at most
abbrev Fits : ℕ → QueueState → Option ℕ → Type 0
Fits j s None = Unit {0}
Fits j s (Some t) = (p : Entry) → entry_of s t ≡ Some p → many_from p.stamp s.entries ≤ j

-- a task with an entry is one of the machine's
parked_known : (s : QueueState) (t : ℕ) (p : Entry) → entry_of s t ≡ Some p → t < task_count s
parked_known s t p e = waits_known s t (ap (λ o. is_some o) e)

one_less : (k m : ℕ) (q : Entry) → m ≤ k → from_stamp k (Some q) ≤ from_stamp m (Some q)
one_less k m q le = go (q.queue == parked_queue) (cases_lt q.stamp k)
  where
    go : (a : Bool) → (q.stamp < k) ⊎ (k ≤ q.stamp) → one_if (a && nat_le k q.stamp) ≤ one_if (a && nat_le m q.stamp)
    go false l = omega arith
    go true (inl lt) = omega (arith, ap one_if (le_fails k q.stamp lt))
    go true (inr at) = omega (arith, ap one_if (le_test k q.stamp at), ap one_if (le_test m q.stamp (omega (arith, le, at))))

-- the invariant of a release, between two tasks
abbrev pub Letting : ℕ → ℕ → ℕ → List (Option ℕ) → Hierarchy → Option ℕ → WorldState → Type 0
Letting n e m on g hand w = With n (InLineAs g) (line_of g) e m hand on w

module _ (n e m : ℕ) (on : List (Option ℕ)) (g : Hierarchy) where
  abbrev I : ℕ → Option ℕ → List (Option ℕ) → WorldState → Type 0
  I = With n (InLineAs g) (line_of g) e

  k : IsKeptInside n I
  k = inside_of n I (events_with n (InLineAs g) (line_of g) e)

  at_hand : (s : State) (t : ℕ) (p : Entry) → entry_of s.world.queues t ≡ Some p → p.queue ≡ parked_queue → I m None on s.world → I m (Some t) on (let_go s.world t)
  at_hand s t p here at h = (events_with n (InLineAs g) (line_of g) e).let_go m on s.world t (known s t p here h) (ap (λ (o : Option Entry). option_map (λ y. y.queue) o) here ∙ ap Some at) h
    where
      known : (s : State) (t : ℕ) (p : Entry) → entry_of s.world.queues t ≡ Some p → I m None on s.world → t < n
      known s t p here h = omega (arith, parked_known s.world.queues t p here, h.0.sound.even)

  one_goes : (s : State) (t : ℕ) (p : Entry) → entry_of s.world.queues t ≡ Some p → p.queue ≡ parked_queue → I m None on s.world → I m None on (let_go_one s t).state.world
  unfolding let_go_one
  one_goes s t p here at h =
      let c = (task_at s.world t).prev_cpu in
      let v = with_world s (let_go s.world t) in
      let within : t < n = omega (arith, parked_known s.world.queues t p here, h.0.sound.even) in
      keeps_kicked_if_idle n I k.steps m None on (put v t c 0).state c (keeps_put_at n I k m on v t c 0 within (h.0.sound.homes t) (h.0.allowed.home t within) (at_hand s t p here at h))

  queues_kicked : (s : State) (c : ℕ) → (kicked_if_idle s c).world.queues ≡ s.world.queues
  queues_kicked s c = keeps_if (λ (r : State). r.world.queues ≡ s.world.queues) (is_by_linux s && is_idle s.world c) (kicked s c) s refl refl

  -- after it was let go
  abbrev After : State → ℕ → QueueState
  After s t = (let_go_one s t).state.world.queues

  -- a task that is parked afterwards was parked before, and is another one
  were_parked : (s : State) (t : ℕ) (p : Entry) → entry_of s.world.queues t ≡ Some p → p.queue ≡ parked_queue → I m None on s.world → (u : ℕ) (q : Entry) → entry_of (After s t) u ≡ Some q → q.queue ≡ parked_queue → (u ≡ t → ⊥) × (entry_of s.world.queues u ≡ Some q)
  unfolding let_go_one
  were_parked s t p here at h u q there in-it = before (subst (λ b. entry_of (if b then without_task s.world.queues t else s.world.queues) u ≡ Some q) (ap (λ o. is_some o) here) off)
    where
      c : ℕ
      c = (task_at s.world t).prev_cpu

      v : State
      v = with_world s (let_go s.world t)

      there' : entry_of (put v t c 0).state.world.queues u ≡ Some q
      there' = ap (λ (x : QueueState). entry_of x u) (sym (queues_kicked (put v t c 0).state c)) ∙ there

      off : entry_of v.world.queues u ≡ Some q
      off = sym ((stay_put n I k.steps k.sound m on v t c 0 (h.0.sound.homes t) (at_hand s t p here at h)).none u (ap (λ (o : Option Entry). option_map (λ y. y.queue) o) there' ∙ ap Some in-it)) ∙ there'

      before : entry_of (without_task s.world.queues t) u ≡ Some q → (u ≡ t → ⊥) × (entry_of s.world.queues u ≡ Some q)
      before e = go (without_others s.world.queues t u q e)
        where
          go : (u ≡ t → ⊥) × (entry_of s.world.queues u ≡ Some q) ⊎ (length s.world.queues.entries ≤ t) → (u ≡ t → ⊥) × (entry_of s.world.queues u ≡ Some q)
          go (inl x) = x
          go (inr past) = absurd (omega (arith, past, parked_known s.world.queues t p here))

  -- every other parked task stays parked
  are_parked : (s : State) (t : ℕ) (p : Entry) → entry_of s.world.queues t ≡ Some p → p.queue ≡ parked_queue → I m None on s.world → (u : ℕ) (q : Entry) → (u ≡ t → ⊥) → entry_of s.world.queues u ≡ Some q → q.queue ≡ parked_queue → entry_of (After s t) u ≡ Some q
  unfolding let_go_one
  are_parked s t p here at h u q other there in-it =
      let c = (task_at s.world t).prev_cpu in
      let v = with_world s (let_go s.world t) in
      let off : entry_of v.world.queues u ≡ Some q = removed_other s.world.queues t u other ∙ there in
      ap (λ (x : QueueState). entry_of x u) (queues_kicked (put v t c 0).state c) ∙ ((stay_put n I k.steps k.sound m on v t c 0 (h.0.sound.homes t) (at_hand s t p here at h)).stay u (ap (λ (o : Option Entry). option_map (λ y. y.queue) o) off ∙ ap Some in-it) ∙ off)

  as_many : (s : State) (t : ℕ) (p : Entry) → entry_of s.world.queues t ≡ Some p → p.queue ≡ parked_queue → I m None on s.world → length (After s t).entries ≡ length s.world.queues.entries
  as_many s t p here at h = omega (arith, (one_goes s t p here at h).0.sound.even, h.0.sound.even)

-- ---- one task is passed

-- the entries as the walk goes on from one of them: its own is passed, and those of the others are as before
record IsPast (g : Hierarchy) (s s' : QueueState) (t : ℕ) : Type 0 where
  many : length s'.entries ≡ length s.entries
  were : (u : ℕ) (q : Entry) → entry_of s' u ≡ Some q → q.queue ≡ parked_queue → entry_of s u ≡ Some q
  stay : (u : ℕ) (q : Entry) → (u ≡ t → ⊥) → entry_of s u ≡ Some q → q.queue ≡ parked_queue → entry_of s' u ≡ Some q
  passed : (q : Entry) → entry_of s' t ≡ Some q → q.queue ≡ parked_queue → limits.is_throttled g t ≡ true

module _ (g : Hierarchy) (s s' : QueueState) (t : ℕ) (h : AreInLine s) (next : IsNext s g t) (past : IsPast g s s' t) where
  abbrev p : Entry
  p = next.entry

  -- one that is parked still comes later, or is throttled
  later_or : (u : ℕ) (q : Entry) → entry_of s' u ≡ Some q → q.queue ≡ parked_queue → (p.stamp < q.stamp) ⊎ (limits.is_throttled g u ≡ true)
  later_or u q e at = go (cases_eq u t) (next.others u q (past.were u q e at) at)
    where
      go : (u ≡ t) ⊎ (u ≡ t → ⊥) → (p.stamp ≤ q.stamp) ⊎ (limits.is_throttled g u ≡ true) → (p.stamp < q.stamp) ⊎ (limits.is_throttled g u ≡ true)
      go (inl x) o = inr (ap (λ k. limits.is_throttled g k) x ∙ past.passed q (ap (λ k. entry_of s' k) (sym x) ∙ e) at)
      go (inr d) (inr now) = inr now
      go (inr d) (inl le) = inl (less (cases_eq p.stamp q.stamp))
        where
          less : (p.stamp ≡ q.stamp) ⊎ (p.stamp ≡ q.stamp → ⊥) → p.stamp < q.stamp
          less (inl same) = absurd (d (sym (h.own t u p q next.here (past.were u q e at) next.parked at same)))
          less (inr apart) = omega (arith, le, apart)

  -- one that comes later is another one
  other : (v : ℕ) (r : Entry) → entry_of s v ≡ Some r → p.stamp < r.stamp → v ≡ t → ⊥
  other v r there lt same = let is : r ≡ p = same_Some r p (sym there ∙ (ap (λ k. entry_of s k) same ∙ next.here)) in omega (arith, lt, ap (λ (q : Entry). q.stamp) is)

  covers_next : (o : Option ℕ) → behind_of s t ≡ o → Covers s' g o
  covers_next None e = λ u q f at. by u q f at (later_or u q f at)
    where
      by : (u : ℕ) (q : Entry) → entry_of s' u ≡ Some q → q.queue ≡ parked_queue → (p.stamp < q.stamp) ⊎ (limits.is_throttled g u ≡ true) → limits.is_throttled g u ≡ true
      by u q f at (inl lt) = absurd (follows s g h t p next.here next.parked None e u q (past.were u q f at) at lt)
      by u q f at (inr now) = now
  covers_next (Some v) e =
      let f = follows s g h t p next.here next.parked (Some v) e in
      record {
        entry = f.entry;
        here = past.stay v f.entry (other v f.entry f.there f.later) f.there f.parked;
        parked = f.parked;
        others = λ u q k at. by f.entry f.first u q k at (later_or u q k at);
      }
    where
      by : (r : Entry) → ((u : ℕ) (q : Entry) → entry_of s u ≡ Some q → q.queue ≡ parked_queue → p.stamp < q.stamp → r.stamp ≤ q.stamp) → (u : ℕ) (q : Entry) → entry_of s' u ≡ Some q → q.queue ≡ parked_queue → (p.stamp < q.stamp) ⊎ (limits.is_throttled g u ≡ true) → (r.stamp ≤ q.stamp) ⊎ (limits.is_throttled g u ≡ true)
      by r first u q k at (inl lt) = inl (first u q (past.were u q k at) at lt)
      by r first u q k at (inr now) = inr now

  -- from the next one on there are fewer
  fewer : (r : Entry) → p.stamp < r.stamp → many_from r.stamp s'.entries < many_from p.stamp s.entries
  fewer r lt = counted_fewer r.stamp p.stamp t s.entries s'.entries past.many (λ i. each i (entry_of s' i) refl) (ap (λ o. from_stamp p.stamp o) next.here ∙ is_counted p.stamp p next.parked (omega arith)) (gone (entry_of s' t) refl)
    where
      away : (k : ℕ) (q : Entry) → (q.queue == parked_queue) ≡ false → from_stamp k (Some q) ≡ 0
      away k q out = ap (λ b. one_if (b && nat_le k q.stamp)) out

      each : (i : ℕ) (o : Option Entry) → entry_of s' i ≡ o → from_stamp r.stamp o ≤ from_stamp p.stamp (entry_of s i)
      each i None e = omega arith
      each i (Some q) e = by (q.queue == parked_queue) refl
        where
          by : (b : Bool) → (q.queue == parked_queue) ≡ b → from_stamp r.stamp (Some q) ≤ from_stamp p.stamp (entry_of s i)
          by true at = subst (λ o. from_stamp r.stamp (Some q) ≤ from_stamp p.stamp o) (sym (past.were i q e (eqb-true q.queue parked_queue at))) (one_less r.stamp p.stamp q (omega (arith, lt)))
          by false out = omega (arith, away r.stamp q out)

      gone : (o : Option Entry) → entry_of s' t ≡ o → from_stamp r.stamp o ≡ 0
      gone None e = refl
      gone (Some q) e = by (q.queue == parked_queue) refl
        where
          by : (b : Bool) → (q.queue == parked_queue) ≡ b → from_stamp r.stamp (Some q) ≡ 0
          by true at =
              let is : q ≡ p = same_Some q p (sym (past.were t q e (eqb-true q.queue parked_queue at)) ∙ next.here) in
              isnt_counted r.stamp q (omega (arith, lt, ap (λ (x : Entry). x.stamp) is))
          by false out = away r.stamp q out

  fits_next : (j : ℕ) → many_from p.stamp s.entries ≤ suc j → (o : Option ℕ) → behind_of s t ≡ o → Fits j s' o
  fits_next j fits None e = tt
  fits_next j fits (Some v) e = λ q k.
      let f = follows s g h t p next.here next.parked (Some v) e in
      let is : f.entry ≡ q = same_Some f.entry q (sym (past.stay v f.entry (other v f.entry f.there f.later) f.there f.parked) ∙ k) in
      let less : many_from f.entry.stamp s'.entries < many_from p.stamp s.entries = fewer f.entry f.later in
      subst (λ (x : Entry). many_from x.stamp s'.entries ≤ j) is (omega (arith, less, fits))

module _ (n e m : ℕ) (on : List (Option ℕ)) (g : Hierarchy) where
  walk : (j : ℕ) (s : State) (at : Option ℕ) → Fits j s.world.queues at → Covers s.world.queues g at → Letting n e m on g None s.world → Covers (let_go_from j s at).state.world.queues g None
  unfolding let_go_from
  walk zero s None fits all h = all
  walk zero s (Some t) fits next h = absurd (omega (arith, fits next.entry next.here, counted_one next.entry.stamp t s.world.queues.entries (ap (λ o. from_stamp next.entry.stamp o) next.here ∙ is_counted next.entry.stamp next.entry next.parked (omega arith))))
  walk (suc j) s None fits all h = all
  walk (suc j) s (Some t) fits next h = go (is_throttled s.world t) refl (λ v a f c x. walk j v a f c x)
    where
      q : QueueState
      q = s.world.queues

      o : Option ℕ
      o = behind_of q t

      r : Stepped
      r = let_go_one s t

      few : many_from next.entry.stamp q.entries ≤ suc j
      few = fits next.entry next.here

      go : (b : Bool) → is_throttled s.world t ≡ b → ((v : State) (a : Option ℕ) → Fits j v.world.queues a → Covers v.world.queues g a → Letting n e m on g None v.world → Covers (let_go_from j v a).state.world.queues g None) → Covers (if b then let_go_from j s o else one_after_other r (let_go_from j r.state o)).state.world.queues g None
      go true now more = more s o (fits_next g q q t h.1.0 next past j few o refl) (covers_next g q q t h.1.0 next past o refl) h
        where
          past : IsPast g q q t
          past = record { many = refl; were = λ u x k at. k; stay = λ u x d k at. k; passed = λ x k at. sym (h.1.1 t) ∙ (and_parts (nat_lt t (length s.world.tasks)) (limits.is_throttled s.world.tree t) now).1 }
      go false free more = more r.state o (fits_next g q r.state.world.queues t h.1.0 next past j few o refl) (covers_next g q r.state.world.queues t h.1.0 next past o refl) (one_goes n e m on g s t next.entry next.here next.parked h)
        where
          past : IsPast g q r.state.world.queues t
          past = record {
            many = as_many n e m on g s t next.entry next.here next.parked h;
            were = λ u x k at. (were_parked n e m on g s t next.entry next.here next.parked h u x k at).1;
            stay = λ u x d k at. are_parked n e m on g s t next.entry next.here next.parked h u x d k at;
            passed = λ x k at. absurd ((were_parked n e m on g s t next.entry next.here next.parked h t x k at).0 refl);
          }

  fits_front : (s : QueueState) (o : Option ℕ) → Fits (len_of s parked_queue) s o
  fits_front s None = tt
  fits_front s (Some t) = λ p k. counted_all p.stamp s.entries

  -- once all who may run again are let go
  pub all_released : (s : State) → Letting n e m on g None s.world → Covers (let_all_go s).state.world.queues g None
  unfolding let_all_go
  all_released s h =
      let o = front_of s.world.queues parked_queue in
      walk (len_of s.world.queues parked_queue) s o (fits_front s.world.queues o) (covers_front s.world.queues g h.1.0 o refl) h
