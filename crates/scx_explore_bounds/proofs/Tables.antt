-- Helpers and fields are told apart by their numbers and offsets.
use Rattle.std.proofs.Common.{◌≡◌, ℕ, List, [], ◌∷◌, Some, refl, sym, ap, ◌∙◌}
use Rattle.std.proofs.lemmas.Option.{same_Some}
use Rattle.scx_isa_semantics.specs.declared.host_tables.Field.{Field}
use Rattle.scx_isa_semantics.specs.declared.host_tables.Field.TheVariants.{Pid, Weight, Slice, DsqVtime, PrevCpu, Group, RunNs, Cpus}
use Rattle.scx_isa_semantics.specs.declared.host_tables.Helper.{Helper}
use Rattle.scx_isa_semantics.specs.declared.host_tables.Helper.TheVariants.{MapLookupElem, OnMap}
use Rattle.scx_isa_semantics.specs.declared.host_tables.MapHelper.TheVariants.{Update}
use Rattle.scx_isa_semantics.specs.HostTables.{field_offset, helpers, helper_number}
use Rattle.scx_isa_semantics.specs.Tables.{first_with_code}

-- where each of a list is found by its code, no two have one code
told_apart : {A : Type 0} (code : A → ℕ) (all : List A) → ((x : A) → first_with_code code all (code x) ≡ Some x) → (x y : A) → code x ≡ code y → x ≡ y
told_apart code all found x y e = same_Some x y (sym (found x) ∙ ap (λ n. first_with_code code all n) e ∙ found y)

-- each helper is found by its number
helper_of : (h : Helper) → first_with_code helper_number helpers (helper_number h) ≡ Some h
helper_of MapLookupElem = refl
helper_of (OnMap Update) = refl
helper_of (OnMap g) = refl
helper_of h = refl

-- no two have one number
pub same_helper : (g h : Helper) → helper_number g ≡ helper_number h → g ≡ h
same_helper g h e = told_apart helper_number helpers helper_of g h e

-- all fields
abbrev fields : List Field
fields = Pid ∷ Weight ∷ Slice ∷ DsqVtime ∷ PrevCpu ∷ Group ∷ RunNs ∷ Cpus ∷ []

-- each field is found by its offset
field_of : (f : Field) → first_with_code field_offset fields (field_offset f) ≡ Some f
field_of Pid = refl
field_of f = refl

-- no two have one offset
pub same_field : (f g : Field) → field_offset f ≡ field_offset g → f ≡ g
same_field f g e = told_apart field_offset fields field_of f g e
