-- What words tell by Linux rules: how far the clock is past a tick, which processors are claimed, kicked and preempted, and timers.
use Rattle.std.proofs.Common.{◌≡◌, ℕ, zero, suc, ◌+◌, ◌-◌, ◌<◌, ◌≤◌, Bool, true, cond, List, [], ◌∷◌, length, map, drop, get_or, Option, Some, None, refl, sym, ap, ◌∙◌, subst, arith, ⊎_elim}
use Rattle.std.proofs.lemmas.Bool.{cases_lt}
use Rattle.std.proofs.lemmas.List.{ext_get_or}
use Rattle.scx_isa_semantics.specs.declared.rules.Rules.{Rules}
use Rattle.scx_sched_world.specs.declared.cpu_set.CpuSet.{CpuSet}
use Rattle.scx_sched_world.specs.declared.timers.Alarm.{Alarm}
use Rattle.scx_sched_world.specs.World.{WorldState, are_linux}
use Rattle.scx_sched_world.specs.Helpers.{alarm_at}
use Rattle.scx_sched_machine.specs.Steps.{State}
use Rattle.scx_explore_states.specs.Written.{past_tick, alarm_words, timer_words, linux_words, rules_words}
use Rattle.scx_explore_states.proofs.Telling.{parts_same, timers_long}
use Rattle.scx_explore_findings.specs.Delayed.{delayed_alarm}
use Rattle.scx_explore_findings.proofs.DelayedTasks.{as_long, found_at}

-- ---- words by Linux rules

-- words that are kept of both are the same
pub kept_both : (b c : Bool) (xs ys : List ℕ) → b ≡ true → c ≡ true → cond b xs [] ≡ cond c ys [] → xs ≡ ys
kept_both b c xs ys here there same = sym (ap (λ (d : Bool). cond d xs []) here) ∙ (same ∙ ap (λ (d : Bool). cond d ys []) there)

set_same : (x y : CpuSet) → x.0 ≡ y.0 → x ≡ y
set_same x y e = λ i. record { 0 = e i }

-- of both states words tell the same of the clock, of processors and of timers
pub record AreToldAlike (s t : State) : Type 0 where
  pub past : past_tick s.policy.tick_ms s.world.clock ≡ past_tick t.policy.tick_ms t.world.clock
  pub claimed : s.world.claimed ≡ t.world.claimed
  pub kicked : s.world.kicked ≡ t.world.kicked
  pub preempted : s.world.preempted ≡ t.world.preempted
  pub timers : timer_words s.world (length s.world.timers) ≡ timer_words t.world (length t.world.timers)

-- so it is by Linux rules, if the words of both states are the same
pub linux_told : (s t : State) → are_linux s.world.rules ≡ true → s.world.rules ≡ t.world.rules → rules_words s ≡ rules_words t → AreToldAlike s t
linux_told s t linux rules words =
    let here = past_tick s.policy.tick_ms s.world.clock ∷ linux_words s.world in
    let there = past_tick t.policy.tick_ms t.world.clock ∷ linux_words t.world in
    let same : here ≡ there = kept_both (are_linux s.world.rules) (are_linux t.world.rules) here there linux (sym (ap (λ (r : Rules). are_linux r) rules) ∙ linux) words in
    record {
      past = ap (λ (l : List ℕ). get_or l 0 0) same;
      claimed = set_same s.world.claimed t.world.claimed (ap (λ (l : List ℕ). get_or l 1 0) same);
      kicked = set_same s.world.kicked t.world.kicked (ap (λ (l : List ℕ). get_or l 2 0) same);
      preempted = set_same s.world.preempted t.world.preempted (ap (λ (l : List ℕ). get_or l 3 0) same);
      timers = ap (λ (l : List ℕ). drop 4 l) same;
    }

-- ---- timers

-- each timer that was started is due later than that clock
abbrev AreDueAfter : ℕ → WorldState → Type 0
AreDueAfter clock w = (n : ℕ) (a : Alarm) → alarm_at w n ≡ Some a → clock < a.due

-- the words of as many timers tell those of each
each_told : (v w : WorldState) (n : ℕ) → timer_words v n ≡ timer_words w n → (k : ℕ) → k < n → alarm_words v.clock (alarm_at v k) ≡ alarm_words w.clock (alarm_at w k)
each_told v w zero e k l = absurd (omega (arith, l))
each_told v w (suc n) e k l =
    let two = parts_same (timer_words v n) (alarm_words v.clock (alarm_at v n)) (timer_words w n) (alarm_words w.clock (alarm_at w n)) (timers_long v w n) e in
    ⊎_elim (λ (less : k < n). each_told v w n two.0 k less)
    (λ (more : n ≤ k).
    let is : n ≡ k = omega (arith, more, l) in
    subst (λ (j : ℕ). alarm_words v.clock (alarm_at v j) ≡ alarm_words w.clock (alarm_at w j)) is two.1)
    (cases_lt k n)

-- and so the timer, once one clock is as late as the other
alarm_told : (now then d : ℕ) (x y : Option Alarm) → now + d ≡ then → ((a : Alarm) → x ≡ Some a → now < a.due) → ((a : Alarm) → y ≡ Some a → then < a.due) → alarm_words now x ≡ alarm_words then y → delayed_alarm d x ≡ y
alarm_told now then d None None later here there e = refl
alarm_told now then d None (Some b) later here there e =
    let due : then < b.due = there b refl in
    let none : 0 ≡ b.due - then = ap (λ (l : List ℕ). get_or l 0 0) e in
    absurd (omega (arith, due, none))
alarm_told now then d (Some a) None later here there e =
    let due : now < a.due = here a refl in
    let none : a.due - now ≡ 0 = ap (λ (l : List ℕ). get_or l 0 0) e in
    absurd (omega (arith, due, none))
alarm_told now then d (Some a) (Some b) later here there e =
    let first : now < a.due = here a refl in
    let second : then < b.due = there b refl in
    let left : a.due - now ≡ b.due - then = ap (λ (l : List ℕ). get_or l 0 0) e in
    let due : a.due + d ≡ b.due = omega (arith, later, first, second, left) in
    let cpu : a.cpu ≡ b.cpu = ap (λ (l : List ℕ). get_or l 1 0) e in
    λ i. Some (record { due = due i; cpu = cpu i })

-- the words of all timers tell them, if each is due later than the clock, once one clock is as late as the other
pub timers_told : (d : ℕ) (v w : WorldState) → length v.timers ≡ length w.timers → v.clock + d ≡ w.clock → AreDueAfter v.clock v → AreDueAfter w.clock w → timer_words v (length v.timers) ≡ timer_words w (length w.timers)
    → map (delayed_alarm d) v.timers ≡ w.timers
timers_told d v w many later here there words =
    let same : timer_words v (length v.timers) ≡ timer_words w (length v.timers) = words ∙ ap (λ (n : ℕ). timer_words w n) (sym many) in
    ext_get_or None (map (delayed_alarm d) v.timers) w.timers (sym (as_long (delayed_alarm d) v.timers) ∙ many)
    (λ k l.
    sym (found_at (delayed_alarm d) v.timers k None)
    ∙ alarm_told v.clock w.clock d (alarm_at v k) (alarm_at w k) later (here k) (there k) (each_told v w (length v.timers) same k (subst (λ (n : ℕ). k < n) (sym (as_long (delayed_alarm d) v.timers)) l)))
