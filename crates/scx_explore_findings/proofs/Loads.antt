-- Hidden fields are read by loads of 8 bytes at their offsets alone.
use Rattle.std.proofs.Common.{◌≡◌, inl, inr, ℕ, ◌+◌, ◌-◌, ◌&&◌, ℤ, pos, negsuc, suc, Bool, true, false, cond, nat_eq, List, [], ◌∷◌, Option, Some, None, refl, ap, ◌∙◌, subst, arith}
use Rattle.std.proofs.lemmas.Bool.{eqb-true, le-ltb}
use Rattle.scx_isa_semantics.specs.declared.host_tables.Field.{Field}
use Rattle.scx_isa_semantics.specs.declared.host_tables.Field.TheVariants.{Pid, Weight, Slice, DsqVtime, PrevCpu, Group, RunNs, Cpus}
use Rattle.scx_isa_semantics.specs.declared.instructions.Insn.TheVariants as insn
use Rattle.scx_isa_semantics.specs.declared.operations.Access.{Access}
use Rattle.scx_isa_semantics.specs.declared.operations.Access.TheVariants as access
use Rattle.scx_isa_semantics.specs.declared.registers.Register.{Register}
use Rattle.scx_isa_semantics.specs.Arithmetic.{at_distance}
use Rattle.scx_isa_semantics.specs.HostTables.{field_offset, field_width, found_field, field_at}
use Rattle.scx_isa_semantics.specs.Memory.{access_size, size_bytes}
use Rattle.scx_explore_findings.specs.Hidden.{Hidden}
use Rattle.scx_explore_findings.specs.Unread.{is_hidden_field}
use Rattle.scx_explore_findings.specs.HiddenLoads.{IsLoadAt, IsHiddenLoad, LoadsAreTold}

not_both : (b : Bool) → b ≡ true → b ≡ false → ⊥
not_both b x y = absurd (cc)

some_same : {A : Type 0} (x y : A) → Some x ≡ Some y → x ≡ y
some_same x y e = cc

-- a field that is found begins at that byte and has that many bytes
found_is : (n at : ℕ) (fs : List Field) (f : Field) → found_field n at fs ≡ Some f → (at ≡ field_offset f) × (n ≡ field_width f)
found_is n at [] f e = absurd (none_is f e)
  where
    none_is : (f : Field) → ◌≡◌ {A = Option Field} None (Some f) → ⊥
    none_is f z = absurd (cc)
found_is n at (g ∷ gs) f e = go (nat_eq at (field_offset g)) (nat_eq n (field_width g)) refl refl e (found_is n at gs f)
  where
    go : (b c : Bool) → nat_eq at (field_offset g) ≡ b → nat_eq n (field_width g) ≡ c → cond (b && c) (Some g) (found_field n at gs) ≡ Some f → (found_field n at gs ≡ Some f → (at ≡ field_offset f) × (n ≡ field_width f)) → (at ≡ field_offset f) × (n ≡ field_width f)
    go true true x y z more =
        let same = some_same g f z in
        (eqb-true at (field_offset g) x ∙ ap field_offset same, eqb-true n (field_width g) y ∙ ap field_width same)
    go true false x y z more = more z
    go false c x y z more = more z

-- eight bytes are a double word
eight_is : (a : Access) → size_bytes (access_size a) ≡ 8 → a ≡ access.DoubleWord
eight_is access.DoubleWord e = refl
eight_is access.Byte e = absurd (omega (arith, e))
eight_is access.HalfWord e = absurd (omega (arith, e))
eight_is access.Word e = absurd (omega (arith, e))
eight_is access.SignedByte e = absurd (omega (arith, e))
eight_is access.SignedHalfWord e = absurd (omega (arith, e))
eight_is access.SignedWord e = absurd (omega (arith, e))

-- an offset that leads from 0 to there is that number
offset_is : (offset : ℤ) (n : ℕ) → at_distance 0 offset ≡ Some n → offset ≡ pos n
offset_is (pos k) n e = let same = some_same (0 + k) n e in ap pos (omega (arith, same))
offset_is (negsuc k) n e = absurd (none_is (subst (λ (b : Bool). cond b (Some (0 - suc k)) None ≡ Some n) (le-ltb k 0 (omega arith)) e))
  where
    none_is : ◌≡◌ {A = Option ℕ} None (Some n) → ⊥
    none_is z = absurd (cc)

module _ (h : Hidden) (a : Access) (d b : Register) (offset : ℤ) where
  load_is : (n : ℕ) → (at_distance 0 offset ≡ Some n) → size_bytes (access_size a) ≡ 8 → IsLoadAt n (insn.Load a d b offset)
  load_is n e size = (d, b, ap (λ (x : Access). insn.Load x d b offset) (eight_is a size) ∙ ap (λ (x : ℤ). insn.Load access.DoubleWord d b x) (offset_is offset n e))

  told : (o : Option ℕ) → at_distance 0 offset ≡ o → (g : Option Field) → field_at (size_bytes (access_size a)) o ≡ g → is_hidden_field h g ≡ true → IsHiddenLoad h (insn.Load a d b offset)
  told o e None f hidden = absurd (not_both false hidden refl)
  told None e (Some g) f hidden = absurd (none_is f)
    where
      none_is : ◌≡◌ {A = Option Field} None (Some g) → ⊥
      none_is z = absurd (cc)
  told (Some at) e (Some RunNs) f hidden =
      let x = found_is (size_bytes (access_size a)) at (Pid ∷ Weight ∷ Slice ∷ DsqVtime ∷ PrevCpu ∷ Group ∷ RunNs ∷ Cpus ∷ []) RunNs f in
      inl (hidden, load_is (field_offset RunNs) (e ∙ ap Some x.0) x.1)
  told (Some at) e (Some DsqVtime) f hidden =
      let x = found_is (size_bytes (access_size a)) at (Pid ∷ Weight ∷ Slice ∷ DsqVtime ∷ PrevCpu ∷ Group ∷ RunNs ∷ Cpus ∷ []) DsqVtime f in
      inr (hidden, load_is (field_offset DsqVtime) (e ∙ ap Some x.0) x.1)
  told (Some at) e (Some g) f hidden = absurd (not_both false hidden refl)

-- an instruction that may read what is hidden is a load of 8 bytes at the offset of a hidden field
pub loads_are_told : LoadsAreTold
loads_are_told h (insn.Load a d b offset) e = told h a d b offset (at_distance 0 offset) refl (field_at (size_bytes (access_size a)) (at_distance 0 offset)) refl e
loads_are_told h i e = absurd (not_both false e refl)
