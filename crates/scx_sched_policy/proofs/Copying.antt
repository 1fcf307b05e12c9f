-- The programs of a policy, as a loop copies one after another.
use Rattle.std.proofs.Common.{◌≡◌, ℕ, ◌+◌, ◌<◌, List, [], ◌∷◌, drop, length, get_or, Option, sym, ap, ◌∙◌}
use Rattle.std.proofs.lemmas.List.{at_drop_more}
use Rattle.scx_isa_semantics.specs.declared.callbacks.Callback.{Callback}
use Rattle.scx_isa_semantics.specs.declared.per_callback.PerCallback.{PerCallback}
use Rattle.scx_isa_semantics.specs.Callbacks.{callbacks, at, with_at}

module _ {T : Type 0} (from : PerCallback (Option T)) where
  -- a table after the values of these callbacks were copied into it
  abbrev pub copied : List Callback → PerCallback (Option T) → PerCallback (Option T)
  copied [] to = to
  copied (b ∷ bs) to = copied bs (with_at to b (at from b))

  -- one more is copied
  pub copied_more : (i : ℕ) (d : Callback) (x : Option T) (to after : PerCallback (Option T)) → i < length callbacks → x ≡ at from (get_or callbacks i d) → after ≡ with_at to (get_or callbacks i d) x → copied (drop i callbacks) to ≡ from → copied (drop (i + 1) callbacks) after ≡ from
  copied_more i d x to after lt same put before =
      ap (λ (q : PerCallback (Option T)). copied (drop (i + 1) callbacks) q) (put ∙ ap (λ v. with_at to (get_or callbacks i d) v) same)
      ∙ sym (at_drop_more (λ bs. copied bs to) callbacks i d lt) ∙ before
