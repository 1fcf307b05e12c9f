-- The way back from a point, instruction by instruction.
use Rattle.std.proofs.Common.{◌≡◌, ℕ, ◌+◌, ◌<◌, ◌⊎◌, inl, inr, Bool, true, [], ◌∷◌, Option, Some, None, IfSome, refl, sym, subst, arith}
use Rattle.std.proofs.lemmas.Bool.{cases_eq}
use Rattle.scx_isa_semantics.specs.declared.instructions.Insn.{Insn}
use Rattle.scx_abs.specs.declared.kinds.Kind.{Kind}
use Rattle.scx_verify_explain.specs.declared.listing.Listing.{Listing}
use Rattle.scx_verify_explain.specs.declared.listing.Way.{Way}
use Rattle.scx_verify_explain.specs.declared.origins.Brought.{Brought}
use Rattle.scx_verify_explain.specs.declared.lost.Point.{Point}
use Rattle.scx_verify_explain.specs.declared.lost.Sought.{Sought}
use Rattle.scx_verify_explain.specs.declared.lost.Found.{Found}
use Rattle.scx_verify_explain.specs.declared.lost.Walk.{Walk}
use Rattle.scx_verify_explain.specs.declared.lost.Step.{Step}
use Rattle.scx_verify_explain.specs.declared.lost.Step.TheVariants as step
use Rattle.scx_verify_explain.specs.Lost.{kind_brought, greatest, greatest_before, is_same_greatest, BringsGreatest, IsOnlyOf, Passes, IsFound, IsFoundAt, IsWalk, IsOnlyStep, IsStepBy, IsStep}

-- ---- slots from which control comes

-- from one slot more
pub only_more : (l : Listing) (from n t : ℕ) → ((o : ℕ) → o < n → IsOnlyOf l from o t) → IsOnlyOf l from n t → (o : ℕ) → o < n + 1 → IsOnlyOf l from o t
only_more l from n t before here o lt = go (cases_eq o n)
  where
    go : (o ≡ n) ⊎ (o ≡ n → ⊥) → IsOnlyOf l from o t
    go (inl same) = subst (λ k. IsOnlyOf l from k t) (sym same) here
    go (inr apart) = before o (omega (arith, lt, apart))

-- a kind with the greatest number that is known at a point
pub brings_greatest : (l : Listing) (p : Point) (b : Brought) (w : Way) (x y : Option ℕ) → b.from < p.slot → kind_brought l b.from w p.slot p.register ≡ Some b.kind
    → x ≡ greatest b.kind → y ≡ greatest_before l p → is_same_greatest x y ≡ true → BringsGreatest l p b
brings_greatest l p b w x y earlier brings ex ey same = record {
  way = w;
  earlier = earlier;
  brings = brings;
  same = subst (λ q. is_same_greatest q (greatest_before l p) ≡ true) ex (subst (λ q. is_same_greatest x q ≡ true) ey same);
}

-- ---- steps

-- an instruction that control comes by, and what the step by it says, make a step back
stepped : (l : Listing) (wanted : Sought) (walk : Walk) (b : Brought) (i : Insn) (before : Kind) (only : Bool)
    → Passes l walk.point b i before → IsOnlyStep l walk b.from only → (s : Step)
    → IsStepBy wanted (record { slot = b.from; instruction = i; register = walk.point.register; before = before; after = b.kind; is_only = only }) s
    → IsStep l wanted walk s
stepped l wanted walk b i before only passes alone (step.Found found) h =
    subst (λ f. IsFoundAt l walk.point wanted f × IsOnlyStep l walk f.slot f.is_only) (sym h.0)
    (record { register = refl; passes = passes; sought = h.1 }, alone)
stepped l wanted walk b i before only passes alone (step.Earlier earlier) h = (
  record { brought = b; instruction = i; before = before; passes = passes; unsought = h.0; slot = h.1; register = h.3 },
  subst (λ s. IsOnlyStep l walk s earlier.is_only) (sym h.1) (subst (λ o. IsOnlyStep l walk b.from o) (sym h.2) alone),
)

-- so they do where there is a step
pub stepped_back : (l : Listing) (wanted : Sought) (walk : Walk) (b : Brought) (i : Insn) (before : Kind) (only : Bool)
    → Passes l walk.point b i before → IsOnlyStep l walk b.from only → (s : Option Step)
    → IfSome s (IsStepBy wanted (record { slot = b.from; instruction = i; register = walk.point.register; before = before; after = b.kind; is_only = only }))
    → IfSome s (IsStep l wanted walk)
stepped_back l wanted walk b i before only passes alone None h = h
stepped_back l wanted walk b i before only passes alone (Some s) h = stepped l wanted walk b i before only passes alone s h

-- no step is a way back
pub not_gone : (l : Listing) (start : Point) (wanted : Sought) → IsWalk l start wanted (record { point = start; is_only = true })
not_gone l start wanted = record { track = []; led = refl; only = λ _. tt }

-- by one step more
pub gone_on : (l : Listing) (start : Point) (wanted : Sought) (walk earlier : Walk) → IsWalk l start wanted walk → IsStep l wanted walk (step.Earlier earlier) → IsWalk l start wanted earlier
gone_on l start wanted walk earlier w h = record {
  track = walk.point ∷ w.track;
  led = (h.0, w.led);
  only = λ t. ((h.1 t).1, w.only (h.1 t).0);
}

-- to the instruction that was looked for
pub gone_to : (l : Listing) (start : Point) (wanted : Sought) (walk : Walk) (found : Found) → IsWalk l start wanted walk → IsStep l wanted walk (step.Found found) → IsFound l start wanted found
gone_to l start wanted walk found w h = record {
  track = w.track;
  point = walk.point;
  led = w.led;
  here = h.0;
  only = λ t. ((h.1 t).1, w.only (h.1 t).0);
}
