-- A machine with the slices of another one, where both end or neither does: it is the same but for what ticks count.
use Rattle.std.proofs.Common.{◌≡◌, ℕ, zero, suc, ◌*◌, ◌<◌, ◌≤◌, Bool, true, false, cond, List, [], ◌∷◌, length, get_or, Option, is_some, refl, sym, ap, ◌∙◌, subst, arith}
use Rattle.std.specs.Prelude.{if◌then◌else◌}
use Rattle.scx_maps.specs.declared.shape.Shape.{Shape}
use Rattle.scx_sched_tasks.specs.declared.task.Task.{Task}
use Rattle.scx_sched_tasks.specs.Tasks.{no_task}
use Rattle.scx_sched_tasks.specs.Waits.{time_since}
use Rattle.scx_sched_world.specs.Tasks.{with_slice}
use Rattle.scx_sched_world.specs.World.{task_at, may_run}
use Rattle.scx_sched_machine.specs.Steps.{with_world}
use Rattle.scx_sched.specs.Sim.{SimState}
use Rattle.scx_explore_states.specs.Rows.{is_endless}
use Rattle.scx_explore_findings.specs.Counted.{uncounted_slice, all_uncounted, AreSame}
use Rattle.scx_explore_findings.specs.Hidden.{with_tasks}
use Rattle.scx_explore_findings.specs.WholeForms.{IsSince, IsLed}

-- ---- slices

-- the second one, if both end or neither does
abbrev pub lent_slice : ℕ → ℕ → ℕ
lent_slice a b = if is_endless a then (if is_endless b then b else a) else (if is_endless b then a else b)

pub lent_is : (a b : ℕ) → is_endless a ≡ is_endless b → lent_slice a b ≡ b
lent_is a b e = ap (λ (c : Bool). cond c (cond (is_endless b) b a) (cond (is_endless b) a b)) e ∙ go (is_endless b)
  where
    go : (c : Bool) → cond c (cond c b a) (cond c a b) ≡ b
    go true = refl
    go false = refl

lent_ends : (a b : ℕ) → uncounted_slice (lent_slice a b) ≡ uncounted_slice a
lent_ends a b = go (is_endless a) (is_endless b) refl refl
  where
    go : (c d : Bool) → is_endless a ≡ c → is_endless b ≡ d → uncounted_slice (cond c (cond d b a) (cond d a b)) ≡ uncounted_slice a
    go true true e f = ap (λ (x : Bool). cond x 0xffff_ffff_ffff_ffff 0) (f ∙ sym e)
    go true false e f = refl
    go false true e f = refl
    go false false e f = ap (λ (x : Bool). cond x 0xffff_ffff_ffff_ffff 0) (f ∙ sym e)

-- ---- records

-- those of the first list with slices of the second one
abbrev pub resliced : List Task → List Task → List Task
resliced [] ys = []
resliced (x ∷ xs) [] = x ∷ xs
resliced (x ∷ xs) (y ∷ ys) = with_slice x (lent_slice x.slice y.slice) ∷ resliced xs ys

resliced_long : (xs ys : List Task) → length (resliced xs ys) ≡ length xs
resliced_long [] ys = refl
resliced_long (x ∷ xs) [] = refl
resliced_long (x ∷ xs) (y ∷ ys) = ap suc (resliced_long xs ys)

resliced_same : (xs ys : List Task) → all_uncounted (resliced xs ys) ≡ all_uncounted xs
resliced_same [] ys = refl
resliced_same (x ∷ xs) [] = refl
resliced_same (x ∷ xs) (y ∷ ys) =
    ap (λ (n : ℕ). record x { slice = n; run_ns = 0 } ∷ all_uncounted (resliced xs ys)) (lent_ends x.slice y.slice)
    ∙ ap (λ (zs : List Task). record x { slice = uncounted_slice x.slice; run_ns = 0 } ∷ zs) (resliced_same xs ys)

-- each is the same but for its slice
resliced_at : (xs ys : List Task) (k : ℕ) → with_slice (get_or (resliced xs ys) k no_task) 0 ≡ with_slice (get_or xs k no_task) 0
resliced_at [] ys k = refl
resliced_at (x ∷ xs) [] k = refl
resliced_at (x ∷ xs) (y ∷ ys) zero = refl
resliced_at (x ∷ xs) (y ∷ ys) (suc k) = resliced_at xs ys k

pub lent_at : (xs ys : List Task) (k : ℕ) → k < length xs → length xs ≡ length ys → (get_or (resliced xs ys) k no_task).slice ≡ lent_slice (get_or xs k no_task).slice (get_or ys k no_task).slice
lent_at [] ys k l e = absurd (omega (arith, l))
lent_at (x ∷ xs) [] k l e = absurd (omega (arith, e))
lent_at (x ∷ xs) (y ∷ ys) zero l e = refl
lent_at (x ∷ xs) (y ∷ ys) (suc k) l e = lent_at xs ys k (omega (arith, l)) (omega (arith, e))

-- ---- machines

-- the first machine with slices of the second one
abbrev pub lent : SimState → SimState → SimState
lent s t = record s { state = with_world s.state (with_tasks s.state.world (resliced s.state.world.tasks t.state.world.tasks)) }

pub lent_same : (s t : SimState) → AreSame s (lent s t)
lent_same s t = ap (λ (xs : List Task). with_world s.state (with_tasks s.state.world xs)) (sym (resliced_same s.state.world.tasks t.state.world.tasks))

-- each of its tasks is the same but for its slice
pub lent_task : (s t : SimState) (k : ℕ) → with_slice (task_at (lent s t).state.world k) 0 ≡ with_slice (task_at s.state.world k) 0
lent_task s t k = resliced_at s.state.world.tasks t.state.world.tasks k

pub lent_long : (s t : SimState) → length (lent s t).state.world.tasks ≡ length s.state.world.tasks
lent_long s t = resliced_long s.state.world.tasks t.state.world.tasks

module _ (shapes : List Shape) (root s t : SimState) (h : IsLed shapes root s) where
  since_same : (k : ℕ) → (task_at (lent s t).state.world k).since ≡ (task_at s.state.world k).since
  since_same k = ap (λ (x : Task). x.since) (lent_task s t k)

  home_same : (k : ℕ) → (task_at (lent s t).state.world k).prev_cpu ≡ (task_at s.state.world k).prev_cpu
  home_same k = ap (λ (x : Task). x.prev_cpu) (lent_task s t k)

  built_same : (k : ℕ) → (task_at (lent s t).state.world k).builtin ≡ (task_at s.state.world k).builtin
  built_same k = ap (λ (x : Task). x.builtin) (lent_task s t k)

  -- events lead to it as to the first one, as far as anything is said
  pub led_lent : IsLed shapes root (lent s t)
  led_lent =
      let f = h.fine in
      record {
        policy = h.policy;
        timeout = h.timeout;
        size = record { tasks = h.size.tasks ∙ sym (lent_long s t); cpus = h.size.cpus; room = h.size.room; queues = h.size.queues; groups = h.size.groups; timers = h.size.timers };
        events = h.events;
        fine = record {
          sound = record {
            cpus = f.sound.cpus;
            tasks = lent_long s t ∙ f.sound.tasks;
            even = f.sound.even;
            flags = f.sound.flags;
            members = f.sound.members;
            homes = λ k. subst (λ (c : ℕ). c < length s.state.world.cpus) (sym (home_same k)) (f.sound.homes k);
            queues = f.sound.queues;
            sorted = f.sound.sorted;
            stamped = f.sound.stamped;
            once = f.sound.once;
            here = f.sound.here;
            goes = f.sound.goes;
            not_first = f.sound.not_first;
            waiting = λ k. ap (λ (o : Option ℕ). is_some o) (since_same k) ∙ f.sound.waiting k;
            at_once = f.sound.at_once;
          };
          allowed = record {
            runs = f.allowed.runs;
            local = f.allowed.local;
            home = λ k l. subst (λ (c : ℕ). may_run s.state.world k c ≡ true) (sym (home_same k)) (f.allowed.home k l);
            asks = f.allowed.asks;
          };
          clock = f.clock;
          runs = λ k. subst (λ (n : ℕ). n ≤ 1000000 * h.events) (sym (ap (λ (x : Task). x.run_ns) (lent_task s t k))) (f.runs k);
          times = λ k. subst (λ (n : ℕ). n ≤ 2000000000 * h.events) (sym (built_same k)) (f.times k);
          builtin_clock = f.builtin_clock;
          used = f.used;
          within = f.within;
          not_yet = λ force. ((f.not_yet force).0, λ k. built_same k ∙ (f.not_yet force).1 k);
        };
        timely = λ force k. subst (λ (o : Option ℕ). time_since s.state.world.clock o ≤ s.state.policy.timeout_ms) (sym (since_same k)) (h.timely force k);
        timers = h.timers;
        still = h.still;
        settled = h.settled;
        rules = h.rules;
        quiet = h.quiet;
        tidy = (λ k. subst (λ (o : Option ℕ). IsSince s.state.world.clock o) (sym (since_same k)) (h.tidy.0 k), h.tidy.1);
        queues = h.queues;
        maps = h.maps;
        order = h.order;
        random = h.random;
      }
