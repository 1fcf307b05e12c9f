-- A machine whose groups have used nothing is the same but for unread parts, where none has a quota.
use Rattle.std.proofs.Common.{◌≡◌, ℕ, zero, suc, Bool, true, false, cond, List, [], ◌∷◌, map, get_or, refl, sym, ap, ◌∙◌}
use Rattle.scx_dsq.specs.Laws.{IsStamped}
use Rattle.scx_weights.specs.Hierarchy.{Hierarchy}
use Rattle.scx_weights.specs.Limits.{has_quota, usage_of, for_each_group, begins_period}
use Rattle.scx_sched_machine.specs.Steps.{State}
use Rattle.scx_sched.specs.Sim.{SimState}
use Rattle.scx_explore_findings.specs.Delayed.{IsSteady}
use Rattle.scx_explore_findings.specs.UnreadParts.{Parts, AreAlike, AreAsStates, parts_of}
use Rattle.scx_isa_semantics.specs.declared.rules.Rules.{Rules}
use Rattle.scx_weights.specs.declared.group.Group.{Group}

-- nothing used, for as many groups
abbrev pub none_used : List ℕ → List ℕ
none_used us = map (λ u. 0) us

-- the state in which no group has used anything
abbrev pub unused_state : State → State
unused_state s = record s { world = record s.world { tree = record s.world.tree { usages = none_used s.world.tree.usages } } }

abbrev pub unused : SimState → SimState
unused s = record s { state = unused_state s.state }

nothing_at : (us : List ℕ) (g : ℕ) → get_or (none_used us) g 0 ≡ 0
nothing_at [] g = refl
nothing_at (u ∷ us) zero = refl
nothing_at (u ∷ us) (suc g) = nothing_at us g

nothing_if : (b c : Bool) (n : ℕ) → n ≡ 0 → cond b 0 n ≡ cond c 0 n
nothing_if b c n e = is b ∙ sym (is c)
  where
    is : (d : Bool) → cond d 0 n ≡ 0
    is true = refl
    is false = e

-- so periods begin alike at any time
pub unused_is_steady : (s : State) → IsSteady (unused_state s)
unused_is_steady s n m =
    let t : Hierarchy = (unused_state s).world.tree in
    λ i. record t { usages = for_each_group t (λ g. nothing_if (begins_period t g n) (begins_period t g m) (usage_of t g) (nothing_at s.world.tree.usages g) i) }

no_so : (b : Bool) → b ≡ true → b ≡ false → ⊥
no_so b x y = absurd (cc)

-- where no group has a quota, usages may be any
any_usages : (b : Bool) (r : Rules) (gs : List Group) (p q : Parts) (us vs : List ℕ) → has_quota gs ≡ false → AreAlike b r gs p q → AreAlike b r gs (record p { usages = us }) (record q { usages = vs })
any_usages b r gs p q us vs free m = record { queues = m.queues; call = m.call; kicked = m.kicked; preempted = m.preempted; usages = λ e. absurd (no_so (has_quota gs) e free) }

-- so what is the same but for unread parts stays so
pub unused_there : (s z : State) → has_quota s.world.tree.groups ≡ false → AreAsStates false s z → AreAsStates false s (unused_state z)
unused_there s z free same = record {
  parts = any_usages false s.world.rules s.world.tree.groups (parts_of s.world) (parts_of z.world) s.world.tree.usages (none_used z.world.tree.usages) free same.parts;
  rest = ap unused_state same.rest;
}

-- and from the other side
pub unused_here : (s z : State) → has_quota s.world.tree.groups ≡ false → AreAsStates false s z → AreAsStates false (unused_state s) z
unused_here s z free same = record {
  parts = any_usages false s.world.rules s.world.tree.groups (parts_of s.world) (parts_of z.world) (none_used s.world.tree.usages) z.world.tree.usages free same.parts;
  rest = same.rest;
}

-- each machine is the same as itself
pub same_itself : (s : State) → IsStamped s.world.queues → AreAsStates false s s
same_itself s stamped = record {
  parts = record {
    queues = record { room = refl; ids = refl; tasks = refl; places = λ u. refl; order = λ u v. refl; stamped = stamped; stamped_there = stamped };
    call = λ e. refl;
    kicked = λ e. refl;
    preempted = λ e. refl;
    usages = λ e. refl;
  };
  rest = refl;
}
