use Rattle.std.proofs.Common.{rules, ◌≡◌, ◌<◌, length, get_or, sym, subst}
use Rattle.scxsim_explain.proofs.Listing.{HasListed, listed_more, first_lines_more}
use Rattle.scxsim_explain.proofs.writing.write_rest.Goals as goal

pub loop-explained-preserved : goal.loop-explained-preserved
loop-explained-preserved g c =
    let all = c.args.programs.now in
    let i = c.loop-explained.explained-index in
    let program = c.explained-item.result in
    let within : i < length all = search rules in
    let read : get_or all i program ≡ program = search rules in
    let its = c.in_ok-write_program.ensures.ok in
    let listed = listed_more _ _ _ _ _ _ its.0 c.loop-explained.invariant.listed c.in_ok-write_all.ensures.ok its.1 in
    record {
      listed = subst (λ lines. HasListed (g.W.Out.contents c.args.out.now) (g.W.Out.contents c.write_program.new.out) lines) (sym (first_lines_more all i program within read)) listed;
      unfailed = search rules;
    }
