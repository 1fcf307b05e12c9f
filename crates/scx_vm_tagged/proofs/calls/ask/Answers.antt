use Rattle.std.proofs.Common.{◌≡◌, true, sym, subst, ap, ◌∙◌}
use Rattle.scx_isa_semantics.specs.Calls.{takes_all, after_call, arguments}
use Rattle.scx_isa_semantics.specs.Elements.{no_maps}
use Rattle.scx_isa_semantics.specs.HostTables.{parameters}
use Rattle.scx_vm_tagged.specs.State.{seen}
use Rattle.scx_vm.specs.Arguments.{answer_value}
use Rattle.scx_vm.specs.Host.{AreTaken}
use Rattle.scx_vm_tagged.proofs.HelperCalls.{arguments_taken, asks, fits_whatever}
use Rattle.scx_vm_tagged.proofs.calls.ask.Goals as goal

pub returns-clause-effect : goal.returns-clause-effect
returns-clause-effect g c = λ maps.
    let m = seen c.args.core.now maps in
    let all = c.takes_all.ensures maps in
    let takes : takes_all m (parameters c.args.helper) 1 ≡ true = cc (all, c.if-not-takes_all.false) in
    let given = c.arguments.ensures maps in
    let answered = ap answer_value (c.call-answer.ensures.answer ∙ ap (λ a. g.E.Env.functions.answer c.args.env.now c.args.helper a) given) in
    let after = c.call-answer.ensures.after ∙ ap (λ a. g.E.Env.functions.after_call c.args.env.now c.args.helper a) given in
    asks _ m c.args.helper c.args.env.now (seen c.end_call.new.self maps) c.call-answer.new.self (answer_value c.call-answer.result) c.requires.is_asked takes
    (answered, after, fits_whatever c.args.helper (arguments m c.args.helper) (answer_value c.call-answer.result) c.call-answer.ensures.fits)
    (c.end_call.ensures maps ∙ ap (λ v. after_call m v) c.answer_value.ensures)

pub call-answer-requires-clause-taken : goal.call-answer-requires-clause-taken
call-answer-requires-clause-taken g c =
    let m = seen c.args.core.now no_maps in
    let all = c.takes_all.ensures no_maps in
    let takes : takes_all m (parameters c.args.helper) 1 ≡ true = cc (all, c.if-not-takes_all.false) in
    subst (AreTaken c.args.helper) (sym (c.arguments.ensures no_maps)) (arguments_taken m c.args.helper c.requires.is_asked takes)
