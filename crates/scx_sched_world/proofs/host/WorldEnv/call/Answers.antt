use Rattle.std.proofs.Common.{◌≡◌, ◌∙◌, ℕ, Option, ap}
use Rattle.scx_vm.specs.declared.arguments.Answer.TheVariants.{Num}
use Rattle.scx_sched_world.specs.Helpers.{insert_answer, after_insert}
use Rattle.scx_sched_world.specs.Inserts.{insert_in_order, insert_by_vtime}
use Rattle.scx_sched_world.proofs.host.WorldEnv.call.Goals as goal

-- equal arguments make equal answers
answers : {A : Type 0} (f : Option ℕ → ℕ → ℕ → ℕ → A) (t u : Option ℕ) (a b c d e g : ℕ) → t ≡ u → a ≡ b → c ≡ d → e ≡ g → f t a c e ≡ f u b d g
answers f t u a b c d e g w x y z = ap (λ k. f k a c e) w ∙ ap (λ k. f u k c e) x ∙ ap (λ k. f u b k e) y ∙ ap (λ k. f u b d k) z

answers_five : {A : Type 0} (f : Option ℕ → ℕ → ℕ → ℕ → ℕ → A) (t u : Option ℕ) (a b c d e g m n : ℕ) → t ≡ u → a ≡ b → c ≡ d → e ≡ g → m ≡ n → f t a c e m ≡ f u b d g n
answers_five f t u a b c d e g m n w x y z v = answers (λ k i j l. f k i j l m) t u a b c d e g w x y z ∙ ap (λ k. f u b d g k) v

pub returns-in-DsqInsert-clause-answer : goal.returns-in-DsqInsert-clause-answer
returns-in-DsqInsert-clause-answer c =
    let w = c.args.self.now in
    rw c.in-DsqInsert.is
    (ap Num (c.insert_in_order.ensures.answer
    ∙ answers (λ t q s n. insert_answer w t (insert_in_order w q s n) n) _ _ _ _ _ _ _ _ c.given_task.ensures c.given_number.ensures c.given_number-in-DsqInsert.ensures c.given_number-in-DsqInsert-2.ensures))

pub returns-in-DsqInsert-clause-after : goal.returns-in-DsqInsert-clause-after
returns-in-DsqInsert-clause-after c =
    let w = c.args.self.now in
    rw c.in-DsqInsert.is
    (c.insert_in_order.ensures.world
    ∙ answers (λ t q s n. after_insert w t (insert_in_order w q s n) n) _ _ _ _ _ _ _ _ c.given_task.ensures c.given_number.ensures c.given_number-in-DsqInsert.ensures c.given_number-in-DsqInsert-2.ensures)

pub returns-in-DsqInsertVtime-clause-answer : goal.returns-in-DsqInsertVtime-clause-answer
returns-in-DsqInsertVtime-clause-answer c =
    let w = c.args.self.now in
    rw c.in-DsqInsertVtime.is
    (ap Num (c.insert_by_vtime.ensures.answer
    ∙ answers_five (λ t q s v n. insert_answer w t (insert_by_vtime w q s v) n) _ _ _ _ _ _ _ _ _ _ c.given_task-in-DsqInsertVtime.ensures c.given_number-in-DsqInsertVtime.ensures c.given_number-in-DsqInsertVtime-2.ensures c.given_number-in-DsqInsertVtime-3.ensures c.given_number-in-DsqInsertVtime-4.ensures))

pub returns-in-DsqInsertVtime-clause-after : goal.returns-in-DsqInsertVtime-clause-after
returns-in-DsqInsertVtime-clause-after c =
    let w = c.args.self.now in
    rw c.in-DsqInsertVtime.is
    (c.insert_by_vtime.ensures.world
    ∙ answers_five (λ t q s v n. after_insert w t (insert_by_vtime w q s v) n) _ _ _ _ _ _ _ _ _ _ c.given_task-in-DsqInsertVtime.ensures c.given_number-in-DsqInsertVtime.ensures c.given_number-in-DsqInsertVtime-2.ensures c.given_number-in-DsqInsertVtime-3.ensures c.given_number-in-DsqInsertVtime-4.ensures)
