-- The programs of the callbacks, as a loop puts one after another into its place.
use Rattle.std.proofs.Common.{◌≡◌, ℕ, ◌+◌, ◌<◌, drop, length, get_or, string_bytes, Option, Ok, Err, refl, sym, ap, ◌∙◌}
use Rattle.std.proofs.lemmas.List.{at_drop_more}
use Rattle.scx_isa_semantics.specs.Code.{Code}
use Rattle.scx_isa_semantics.specs.Results.{◌>>=◌}
use Rattle.scx_isa_semantics.specs.declared.callbacks.Callback.{Callback}
use Rattle.scx_isa_semantics.specs.declared.callbacks.Callback.TheVariants as callback
use Rattle.scx_isa_semantics.specs.Callbacks.{callbacks, with_at}
use Rattle.scx_load_files.specs.declared.fault.LoadError.{LoadError}
use Rattle.scx_load_files.specs.declared.fault.LoadError.TheVariants as errors
use Rattle.scx_load_files.specs.Faults.{Fault, Reading, Fails}
use Rattle.scx_load_policies.specs.Policies.{Programs}
use Rattle.scx_load_policies.specs.Programs.{with_each}

-- what is taken out and put back in has been put in
put_back : (p : Programs) (b : Callback) (x y : Option Code) → with_at (with_at p b x) b y ≡ with_at p b y
put_back p callback.Plain x y = refl
put_back p b x y = refl

-- what is put where the one before was taken out
pub is_put : (p taken after : Programs) (b : Callback) (x y : Option Code) → taken ≡ with_at p b x → after ≡ with_at taken b y → after ≡ with_at p b y
is_put p taken after b x y first second = second ∙ ap (λ (q : Programs). with_at q b y) first ∙ put_back p b x y

module _ (read : Callback → Programs → Reading (Option Code)) (i : ℕ) (p : Programs) (total : Reading Programs) where
  -- one program more is put
  pub goes_on : (b : Callback) (code : Option Code) (after : Programs) → i < length callbacks → read (get_or callbacks i b) p ≡ Ok code → after ≡ with_at p (get_or callbacks i b) code
      → with_each read (drop i callbacks) p ≡ total → with_each read (drop (i + 1) callbacks) after ≡ total
  goes_on b code after lt e put so_far =
      let rest = λ (r : Reading (Option Code)). r >>= λ x. with_each read (drop (i + 1) callbacks) (with_at p (get_or callbacks i b) x) in
      let one : with_each read (drop i callbacks) p ≡ with_each read (drop (i + 1) callbacks) (with_at p (get_or callbacks i b) code) = at_drop_more (λ bs. with_each read bs p) callbacks i b lt ∙ ap rest e in
      ap (λ (q : Programs). with_each read (drop (i + 1) callbacks) q) put ∙ sym one ∙ so_far

  -- a program that is refused ends it
  ends : (b : Callback) (fault : Fault) → i < length callbacks → read (get_or callbacks i b) p ≡ Err fault → with_each read (drop i callbacks) p ≡ total → total ≡ Err fault
  ends b fault lt e so_far =
      let rest = λ (r : Reading (Option Code)). r >>= λ x. with_each read (drop (i + 1) callbacks) (with_at p (get_or callbacks i b) x) in
      sym so_far ∙ at_drop_more (λ bs. with_each read bs p) callbacks i b lt ∙ ap rest e

  -- and so does want of memory, of which nothing is said
  pub fails : (b : Callback) (e : LoadError) → i < length callbacks → Fails e (read (get_or callbacks i b) p) → with_each read (drop i callbacks) p ≡ total → Fails e total
  fails b (errors.At path cause) lt failed so_far = ends b (record { path = string_bytes path; cause = cause }) lt failed so_far
  fails b errors.NoMemory lt failed so_far = tt
