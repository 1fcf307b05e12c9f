-- Small steps change no rules.
use Rattle.std.proofs.Common.{◌≡◌, ℕ, nat_lt, length, Option, is_none, refl}
use Rattle.scx_weights.specs.Refusals.{weight_fault, own_weight_fault}
use Rattle.scx_sched_world.specs.declared.call.Insert.{Insert}
use Rattle.scx_sched_world.specs.World.{WorldState, with_switch, is_by_linux, with_cycling}
use Rattle.scx_sched_world.specs.Tasks.{homed, after_sleep, used_ms, after_reweigh, after_own_weight, after_enter, fill_front, after_fill, after_keep, put_parked}
use Rattle.scx_sched_world.specs.Ejecting.{put_builtin}
use Rattle.scx_sched_machine.specs.Events.{chosen_by_default}
use Rattle.scx_sched_machine.proofs.Choices.{keeps_if}
use Rattle.scx_sched.proofs.Unchanged.{as_before, same_entered, same_put_builtin, same_put_parked, same_brought, same_kept, ruled_switch, ruled_cycling}
use Rattle.scx_sched.proofs.Blaming.{same_chosen}

-- a step goes by the rules that there were
abbrev pub KeepsRules : (WorldState → WorldState) → Type 0
KeepsRules f = (w : WorldState) → (f w).rules ≡ w.rules

-- ---- queues

pub rules_filled : (q c : ℕ) → KeepsRules (λ w. after_fill w q c)
rules_filled q c w = (same_brought (fill_front w q c) w c).4

pub rules_parked : (u : ℕ) → KeepsRules (λ w. put_parked w u)
rules_parked u w = (same_put_parked w w u (as_before w)).4

pub rules_entered : (u : ℕ) (i : Insert) → KeepsRules (λ w. after_enter w u i)
rules_entered u i w = (same_entered w w u i (as_before w)).4

pub rules_put_builtin : (u : ℕ) → KeepsRules (λ w. put_builtin w u)
rules_put_builtin u w = (same_put_builtin w w u (as_before w)).4

-- ---- processors

pub rules_kept : (o : Option ℕ) → KeepsRules (λ w. after_keep w o)
rules_kept o w = (same_kept w o).4

pub rules_cycling : (o : Option ℕ) → KeepsRules (λ w. with_cycling w o)
rules_cycling o w = (ruled_cycling w o).3

pub rules_switch : (c : ℕ) → KeepsRules (λ w. with_switch w c)
rules_switch c w = (ruled_switch w c).3

pub rules_homed : (u c : ℕ) → KeepsRules (λ w. homed w u c)
rules_homed u c w = keeps_if (λ (v : WorldState). v.rules ≡ w.rules) (is_by_linux w) _ w refl refl

pub rules_chosen : (u : ℕ) → KeepsRules (λ w. chosen_by_default w u)
rules_chosen u w = (same_chosen w u).4

-- ---- tasks and weights

pub rules_asleep : (u : ℕ) → KeepsRules (λ w. after_sleep w u)
rules_asleep u w = keeps_if (λ (v : WorldState). v.rules ≡ w.rules) (nat_lt u (length w.tasks)) _ w refl refl

pub rules_used : (u : ℕ) → KeepsRules (λ w. used_ms w u)
rules_used u w = keeps_if (λ (v : WorldState). v.rules ≡ w.rules) (nat_lt u (length w.tasks)) _ w refl refl

pub rules_reweighed : (g x : ℕ) → KeepsRules (λ w. after_reweigh w g x)
rules_reweighed g x w = keeps_if (λ (v : WorldState). v.rules ≡ w.rules) (is_none (weight_fault w.tree g x)) _ w refl refl

pub rules_weighed : (u x : ℕ) → KeepsRules (λ w. after_own_weight w u x)
rules_weighed u x w = keeps_if (λ (v : WorldState). v.rules ≡ w.rules) (is_none (own_weight_fault w.tree u x)) _ w refl refl
