-- A program is known by its bytes.
use Rattle.std.proofs.Common.{◌≡◌, ℕ, ◌↔◌, Bool, true, List, [], ◌∷◌, refl, sym, ap, ◌∙◌, subst, arith}
use Rattle.std.specs.Str.{bytes_eq}
use Rattle.std.proofs.lemmas.Int.{ints}
use Rattle.std.proofs.lemmas.Slice.Eq.{bytes_eq-Decides}
use Rattle.scx_isa_semantics.specs.Code.{Code}
use Rattle.scx_isa.specs.Spelling.{Spells, spelling}
use Rattle.scx_isa.proofs.Programs.{spells_one}
use Rattle.scx_vm.specs.Programs.{VerifiedProgram}
use Rattle.scx_laws.specs.Serving.{Serves, one_queue, one_bytes}
use Rattle.scx_laws.proofs.Moving.{one_served}

-- they spell it
one_spelled : Spells one_bytes one_queue
one_spelled = record { program = record { insns = (omega (arith, ints), (omega (arith, ints), (tt, tt))); some = omega arith; fits = omega arith }; spelled = refl }

-- and no other program
pub recognized : (bytes : List ℕ) (code : Code) → Spells bytes code → (bytes_eq bytes one_bytes ≡ true) ↔ (code ≡ one_queue)
recognized bytes code s = (
  (λ e. spells_one bytes code one_queue s (subst (λ b. Spells b one_queue) (sym ((bytes_eq-Decides bytes one_bytes).0 e)) one_spelled)),
  (λ e. (bytes_eq-Decides bytes one_bytes).1 (s.spelled ∙ (ap spelling e ∙ sym one_spelled.spelled))),
)

-- so it serves queue 0
pub known_serves : (p : VerifiedProgram) (code : Code) (bytes read : List ℕ) (found : Bool) → code ≡ p.code → Spells bytes code → read ≡ bytes → found ≡ bytes_eq read one_bytes → found ≡ true → Serves (0 ∷ []) p
known_serves p code bytes read found same s is result e = one_served p (sym same ∙ (recognized bytes code s).0 (ap (λ b. bytes_eq b one_bytes) (sym is) ∙ (sym result ∙ e)))
