-- An opcode that has a form by its class is of that form, whatever the source field.
use Rattle.std.proofs.Common.{◌≡◌, ℕ, ◌<◌, ◌%◌, Bool, true, false, nat_eq, Option, Some, None, Ok, refl}
use Rattle.scx_isa_encoding.specs.declared.forms.Form.{Form}
use Rattle.scx_isa_semantics.specs.Tables.{first_with_code}
use Rattle.scx_isa_encoding.specs.Opcodes.{opcode, form_of, class_form, lone_forms}
use Rattle.scx_isa_encoding.proofs.Codes.{holds_below}

-- true if there is no form by the class, or no other way to a form
abbrev is_alone : Option Form → Option Form → Bool → Bool → Bool
is_alone None other wide call = true
is_alone (Some f) (Some g) wide call = false
is_alone (Some f) None true call = false
is_alone (Some f) None false true = false
is_alone (Some f) None false false = true

abbrev one_way : ℕ → Bool
one_way n = is_alone (class_form (n % 8) n) (first_with_code opcode lone_forms n) (nat_eq n 0x18) (nat_eq n 0x85)

all_one_way : (n : ℕ) → n < 256 → one_way n ≡ true
all_one_way n h = holds_below 256 (λ m. one_way m) n h refl

-- the form by the class is the opcode's
pub class_is_form : (n s : ℕ) (f : Form) → n < 256 → class_form (n % 8) n ≡ Some f → form_of n s ≡ Ok f
class_is_form n s f h e = go (first_with_code opcode lone_forms n) (nat_eq n 0x18) (nat_eq n 0x85) refl refl refl
  where
    go : (lone : Option Form) (wide call : Bool) → first_with_code opcode lone_forms n ≡ lone → nat_eq n 0x18 ≡ wide → nat_eq n 0x85 ≡ call → form_of n s ≡ Ok f
    go None false false p q r = rw (q, r, p, e) refl
    go (Some g) wide call p q r = let bad : false ≡ true = rw (e, p) at (all_one_way n h) in absurd (cc)
    go None true call p q r = let bad : false ≡ true = rw (e, p, q) at (all_one_way n h) in absurd (cc)
    go None false true p q r = let bad : false ≡ true = rw (e, p, q, r) at (all_one_way n h) in absurd (cc)
