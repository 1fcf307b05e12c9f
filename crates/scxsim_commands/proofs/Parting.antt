-- Words that name no part of a run.
use Rattle.std.proofs.Common.{arith, ◌≡◌, ℕ, ◌<◌, ◌≤◌, ◌^◌, sym, ◌∙◌}
use Rattle.scxsim_commands.specs.declared.windows.Span.{Span}
use Rattle.scxsim_commands.specs.Windows.{Says, IsPart}

-- the first word says no moment
pub unsaid_from : (ms : ℕ) (span : Span) → ms < 2 ^ 32 → ((m : ℕ) → m < 2 ^ 32 → ¬ Says span.from.now m) → (from to : ℕ) → ¬ IsPart ms span from to
unsaid_from ms span l never from to p =
    let some = p.some in
    let inside = p.inside in
    never from (omega (arith, some, inside, l)) p.begins

-- the second word says none
pub unsaid_to : (ms : ℕ) (span : Span) → ms < 2 ^ 32 → ((m : ℕ) → m < 2 ^ 32 → ¬ Says span.to.now m) → (from to : ℕ) → ¬ IsPart ms span from to
unsaid_to ms span l never from to p =
    let inside = p.inside in
    never to (omega (arith, inside, l)) p.ends

-- the first moment doesn't come before the second one
pub after_the_last : (ms : ℕ) (span : Span) (a b : ℕ) → Says span.from.now a → Says span.to.now b → b ≤ a → (from to : ℕ) → ¬ IsPart ms span from to
after_the_last ms span a b x y l from to p =
    let some = p.some in
    let first : a ≡ from = sym x.1 ∙ p.begins.1 in
    let last : b ≡ to = sym y.1 ∙ p.ends.1 in
    omega (arith, some, first, last, l)

-- the first moment doesn't come before the end of the run
pub late : (ms : ℕ) (span : Span) (a : ℕ) → Says span.from.now a → ms ≤ a → (from to : ℕ) → ¬ IsPart ms span from to
late ms span a x l from to p =
    let some = p.some in
    let inside = p.inside in
    let first : a ≡ from = sym x.1 ∙ p.begins.1 in
    omega (arith, some, inside, first, l)

-- the second moment comes behind the end of the run
pub outside : (ms : ℕ) (span : Span) (b : ℕ) → Says span.to.now b → ms < b → (from to : ℕ) → ¬ IsPart ms span from to
outside ms span b y l from to p =
    let inside = p.inside in
    let last : b ≡ to = sym y.1 ∙ p.ends.1 in
    omega (arith, inside, last, l)
