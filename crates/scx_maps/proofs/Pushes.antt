-- A push onto a queue or a stack, whichever of both it is.
use Rattle.std.proofs.Common.{◌≡◌, ◌≢◌, ℕ, ◌≤◌, ◌⊎◌, inl, inr, Bool, true, false, nat_eq, nat_lt, Result, refl, ◌∙◌, arith}
use Rattle.std.proofs.lemmas.Bool.{eqb-true, ltb-true}
use Rattle.scx_isa_semantics.specs.declared.map_kinds.Line.{Line}
use Rattle.scx_isa_semantics.specs.declared.map_kinds.MapKind.{MapKind}
use Rattle.scx_isa_semantics.specs.declared.map_kinds.MapKind.TheVariants as kind
use Rattle.scx_isa_semantics.specs.Directories.{Keys, Directory, Queue, Stack, Placed, line_pushed, pushed_on, pushed}
use Rattle.scx_maps.specs.Keeping.{directory_by}

-- flags that a map may take leave the push to it
taken_flags : (d : Directory) (n f : ℕ) → f ≢ 1 → f ≤ 2 → pushed_on d n f ≡ pushed d n f
taken_flags d n f ne le = rw (not_one (nat_eq f 1) refl, not_more (nat_lt 2 f) refl) refl
  where
    not_one : (b : Bool) → nat_eq f 1 ≡ b → nat_eq f 1 ≡ false
    not_one false t = t
    not_one true t = absurd (ne (eqb-true f 1 t))

    not_more : (b : Bool) → nat_lt 2 f ≡ b → nat_lt 2 f ≡ false
    not_more false t = t
    not_more true t = absurd (omega (arith, le, ltb-true 2 f t))

-- the part of a map after a push is the one that its line gives
pub line_placed : (k : MapKind) (l after : Line) (ks : Keys) (r : Result ℕ ℕ) (n f : ℕ) → (k ≡ kind.Queue) ⊎ (k ≡ kind.Stack) → f ≢ 1 → f ≤ 2
    → ((of : Line → Directory) → ◌≡◌ {A = Placed} (record { directory = of after; slot = r }) (line_pushed of n l f))
    → ◌≡◌ {A = Placed} (record { directory = directory_by k after ks; slot = r }) (pushed (directory_by k l ks) n f)
line_placed k l after ks r n f (inl e) ne le h = rw e (h Queue ∙ taken_flags (Queue l) n f ne le)
line_placed k l after ks r n f (inr e) ne le h = rw e (h Stack ∙ taken_flags (Stack l) n f ne le)
