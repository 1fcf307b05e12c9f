use Rattle.std.proofs.Common.{rules}
use Rattle.std.proofs.lemmas.List.Sorted.{IsNonDecreasingBy-from_sort_by_key, answers_always}
use Rattle.scx_load_workloads.specs.declared.workload.Change.{Change}
use Rattle.scx_load_driver.proofs.Ordered.{sorted_alike}
use Rattle.scx_load_driver.proofs.driver.in_order.Goals as goal

pub returns-clause-ordered : goal.returns-clause-ordered
returns-clause-ordered c = IsNonDecreasingBy-from_sort_by_key (λ (x : Change). x.at) _ c.in_ok-sort_by_key.ensures.sorted (λ a r q k. search rules)

pub returns-clause-alike : goal.returns-clause-alike
returns-clause-alike c =
    sorted_alike _ _ c.args.changes.now c.in_ok-ordered.ensures.items
    (c.in_ok-sort_by_key.ensures.stable (λ (x : Change). x.at) (answers_always _ _ _ (λ f a r g h. search rules)))
