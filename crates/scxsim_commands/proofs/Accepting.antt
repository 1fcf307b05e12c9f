-- Whether no program is refused, as a loop looks at one verdict after another.
use Rattle.std.proofs.Common.{◌≡◌, ℕ, ◌+◌, ◌<◌, Bool, true, false, ◌&&◌, drop, length, get_or, sym, ap, ◌∙◌}
use Rattle.std.proofs.lemmas.List.{at_drop_more}
use Rattle.scx_isa_semantics.specs.declared.callbacks.Callback.{Callback}
use Rattle.scx_isa_semantics.specs.Callbacks.{callbacks, at}
use Rattle.scxsim_commands.specs.Verdicts.{Verdicts, is_accepted, accepted_each, are_accepted}

module _ (v : Verdicts) (i : ℕ) (b : Callback) (lt : i < length callbacks) (so_far : accepted_each v (drop i callbacks) ≡ are_accepted v) where
  step : are_accepted v ≡ (is_accepted (at v (get_or callbacks i b)) && accepted_each v (drop (i + 1) callbacks))
  step = sym so_far ∙ at_drop_more (accepted_each v) callbacks i b lt

  -- one that is accepted leaves it to those behind
  pub goes_on : is_accepted (at v (get_or callbacks i b)) ≡ true → accepted_each v (drop (i + 1) callbacks) ≡ are_accepted v
  goes_on e = sym (step ∙ ap (λ x. x && accepted_each v (drop (i + 1) callbacks)) e)
