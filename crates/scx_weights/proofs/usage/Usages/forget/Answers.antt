use Rattle.std.proofs.Common.{◌≡◌, ◌⊎◌, inl, inr, ◌∙◌, ℕ, ◌%◌, ◌==◌, ◌<◌, true, false, Bool, length, get_or, sym, ap, arith}
use Rattle.std.proofs.lemmas.Bool.{eq-eqb, ne_eqb}
use Rattle.std.proofs.lemmas.List.{get_or_read, length-set}
use Rattle.scx_weights.specs.Counting.{any_below}
use Rattle.scx_weights.specs.Hierarchy.{period_at}
use Rattle.scx_weights.specs.Pending.{is_freed_in}
use Rattle.scx_weights.proofs.Forgetting.{forgotten, kept_on, untouched, freed_here, freed_as_before}
use Rattle.scx_weights.proofs.usage.Usages.forget.Goals.{then-clock-from-eq0, else-clock-from-eq0, then-is_used_up, else-is_used_up}
use Rattle.scx_weights.proofs.usage.Usages.forget.Goals as goal

pub loop-group-preserved : goal.loop-group-preserved
loop-group-preserved c =
    let groups = c.args.groups.now in
    let clock = c.args.clock in
    let old = c.args.self.now.used.items in
    let before = c.loop-group in
    let k = before.group in
    let used = before.self.used.items in
    let now = c.if-clock-from-eq0.self.used.items in
    let begins : ℕ → Bool = λ g. (clock % period_at groups g) == 0 in
    let period = ap (λ n. clock % n) c.from.ensures in
    let within : k < length used = omega (arith, before.invariant.lengths, c.loop-group-test.true) in
    elim c.if-clock-from-eq0.branch [
      | then-clock-from-eq0 w ↦
          let written = ap (λ s. s.used.items) w.self-is in
          let begun = eq-eqb (clock % period_at groups k) 0 (sym period ∙ w.if-clock-from-eq0.true) in
          let read = get_or_read used k w.index.result.now within w.index.ensures 0 ∙ before.invariant.after k (omega arith) in
          let known : ((c.if-clock-from-eq0.freed ≡ true) × (w.is_used_up.result ≡ true)) ⊎ ((c.if-clock-from-eq0.freed ≡ before.freed) × (w.is_used_up.result ≡ false)) =
          elim w.if-is_used_up.branch [
            | then-is_used_up v ↦ inl (w.freed-is ∙ v.freed-is, v.if-is_used_up.true)
            | else-is_used_up v ↦ inr (w.freed-is ∙ v.freed-is, v.if-is_used_up.false)
          ] in
          record {
            pending = ap (λ s. s.pending.items) w.self-is ∙ before.invariant.pending;
            beat = ap (λ s. s.beat) w.self-is ∙ before.invariant.beat;
            since = ap (λ s. s.since) w.self-is ∙ before.invariant.since;
            next = ap (λ s. s.next) w.self-is ∙ before.invariant.next;
            limited = ap (λ s. s.limited) w.self-is ∙ before.invariant.limited;
            lengths = ap length written ∙ length-set used k 0 ∙ before.invariant.lengths;
            before = forgotten begins old used now k within written begun before.invariant.before;
            freed = freed_here groups old clock k w.index.result.now before.freed c.if-clock-from-eq0.freed w.is_used_up.result before.invariant.freed w.is_used_up.ensures read begun known;
            after = untouched old used now k written before.invariant.after;
          }
      | else-clock-from-eq0 w ↦
          let same = ap (λ s. s.used.items) w.self-is in
          let still = ne_eqb (clock % period_at groups k) 0 (λ e. w.if-clock-from-eq0.false (period ∙ e)) in
          record {
            pending = ap (λ s. s.pending.items) w.self-is ∙ before.invariant.pending;
            beat = ap (λ s. s.beat) w.self-is ∙ before.invariant.beat;
            since = ap (λ s. s.since) w.self-is ∙ before.invariant.since;
            next = ap (λ s. s.next) w.self-is ∙ before.invariant.next;
            limited = ap (λ s. s.limited) w.self-is ∙ before.invariant.limited;
            lengths = ap length same ∙ before.invariant.lengths;
            before = kept_on begins old used now k same still (before.invariant.after k (omega arith)) before.invariant.before;
            freed = freed_as_before groups old clock k before.freed c.if-clock-from-eq0.freed before.invariant.freed still w.freed-is;
            after = λ g l. ap (λ us. get_or us g 0) same ∙ before.invariant.after g (omega (arith, l));
          }
    ]

pub returns-clause-counted : goal.returns-clause-counted
returns-clause-counted c g lt = c.loop-group.invariant.before g (omega (arith, lt))

pub returns-clause-freed : goal.returns-clause-freed
returns-clause-freed c =
    let groups = c.args.groups.now in
    let all : c.loop-group.group ≡ length groups = omega arith in
    c.loop-group.invariant.freed ∙ ap (λ n. any_below n (is_freed_in groups c.args.self.now.used.items c.args.clock)) all
