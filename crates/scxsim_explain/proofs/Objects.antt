-- The objects of verdicts, as a loop appends one after another.
use Rattle.std.proofs.Common.{◌≡◌, ℕ, ◌+◌, ◌<◌, List, ◌∷◌, ◌++◌, drop, length, get_or, Option, sym, ap, ◌∙◌, append_assoc}
use Rattle.std.proofs.lemmas.List.{at_drop_more}
use Rattle.scx_isa_semantics.specs.declared.callbacks.Callback.{Callback}
use Rattle.scx_isa_semantics.specs.Callbacks.{callbacks, at}
use Rattle.scxsim_commands.specs.declared.verdict.Verdict.{Verdict}
use Rattle.scxsim_commands.specs.Verdicts.{Verdicts}
use Rattle.scxsim_explain.specs.VerdictObjects.{object_of, objects_of, verdict_objects}

module _ (v : Verdicts) (i : ℕ) (b : Callback) (before : List ℕ) where
  -- an object more is appended
  pub appends_object : (o : Option Verdict) (after : List ℕ) → i < length callbacks → o ≡ at v (get_or callbacks i b) → after ≡ before ++ object_of (get_or callbacks i b) o
      → before ++ objects_of v (drop i callbacks) ≡ verdict_objects v → after ++ objects_of v (drop (i + 1) callbacks) ≡ verdict_objects v
  appends_object o after lt found more so_far =
      let rest : List ℕ = objects_of v (drop (i + 1) callbacks) in
      let here = λ (x : Option Verdict). object_of (get_or callbacks i b) x in
      ap (λ xs. xs ++ rest) more ∙ append_assoc before (here o) rest ∙ ap (λ x. before ++ (here x ++ rest)) found ∙ ap (λ xs. before ++ xs) (sym (at_drop_more (objects_of v) callbacks i b lt)) ∙ so_far
