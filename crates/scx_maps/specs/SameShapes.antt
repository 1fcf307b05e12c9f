-- The test of two shapes is a test whether they are the same, and so an equivalence.
use Rattle.std.proofs.Common.{◌≡◌, refl, sym, ap, ◌∙◌}
use Rattle.std.specs.Bool.{Decides, one_answer}
use Rattle.std.specs.Cmp.{IsPartialEquivalence, IsEquivalence}
use Rattle.std.proofs.lemmas.Bool.Decides.{Decides-eqb, Decides-and, Decides-like}
use Rattle.scx_isa_semantics.specs.declared.map_kinds.KeySize.{KeySize}
use Rattle.scx_isa_semantics.specs.declared.map_kinds.KeySize.TheVariants.{Four, Eight}
use Rattle.scx_isa_semantics.specs.declared.map_kinds.MapKind.{MapKind}
use Rattle.scx_isa_semantics.specs.declared.map_kinds.MapKind.TheVariants.{Array, PerCpu, Hash, Queue, Stack}
use Rattle.scx_maps.specs.declared.shape.Shape.{Shape}
use Rattle.scx_maps.specs.Sameness.{same_key_size, same_kind, same_shape}

-- of two sizes of keys
Decides-same_key_size : (s t : KeySize) → Decides (same_key_size s t) (s ≡ t)
Decides-same_key_size Four Four = (λ e. refl, λ e. refl)
Decides-same_key_size Eight Eight = (λ e. refl, λ e. refl)
Decides-same_key_size Four Eight = (λ e. absurd (cc), λ e. absurd (cc))
Decides-same_key_size Eight Four = (λ e. absurd (cc), λ e. absurd (cc))

-- of two kinds
pub Decides-same_kind : (k l : MapKind) → Decides (same_kind k l) (k ≡ l)
Decides-same_kind Array Array = (λ e. refl, λ e. refl)
Decides-same_kind PerCpu PerCpu = (λ e. refl, λ e. refl)
Decides-same_kind (Hash s) (Hash t) =
    let size = Decides-same_key_size s t in (λ e. ap Hash (size.0 e), λ e. size.1 (cc))
Decides-same_kind Queue Queue = (λ e. refl, λ e. refl)
Decides-same_kind Stack Stack = (λ e. refl, λ e. refl)
Decides-same_kind k l = (λ e. absurd (cc), λ e. absurd (cc))

-- of two shapes
pub Decides-same_shape : (s t : Shape) → Decides (same_shape s t) (s ≡ t)
Decides-same_shape s t =
    Decides-like {P = (s.entries ≡ t.entries)
    × ((s.value_size ≡ t.value_size) × (s.kind ≡ t.kind))} {Q = s ≡ t} (same_shape s t)
    (λ all. λ i. record { entries = all.0 i; value_size = all.1.0 i; kind = all.1.1 i })
    (λ same. (ap (λ u. u.entries) same, (ap (λ u. u.value_size) same, ap (λ u. u.kind) same)))
    (Decides-and _ _ (Decides-eqb s.entries t.entries)
    (Decides-and _ _ (Decides-eqb s.value_size t.value_size) (Decides-same_kind s.kind t.kind)))

-- it tells shapes apart as a test whether they are the same
pub same_shape_per : IsPartialEquivalence same_shape
same_shape_per = record {
  symm = λ s t. one_answer (same_shape s t) (same_shape t s) (Decides-same_shape s t)
      (λ e. sym ((Decides-same_shape t s).0 e), λ e. (Decides-same_shape t s).1 (sym e));
  trans = λ s t u e f. (Decides-same_shape s u).1
      ((Decides-same_shape s t).0 e ∙ (Decides-same_shape t u).0 f);
}

-- and each shape is the same as itself
pub same_shape_equiv : IsEquivalence same_shape
same_shape_equiv = record {
  refl = λ s. (Decides-same_shape s s).1 refl;
  symm = same_shape_per.symm;
  congr = λ s t u e. ap (λ v. same_shape v u) ((Decides-same_shape s t).0 e);
}
