use Rattle.std.proofs.Common.{rules, ◌++◌}
use Rattle.scxsim_output.proofs.Growth.{grows_twice}
use Rattle.scxsim_output.proofs.Beginnings.{beginning_of_more, beginning_behind}
use Rattle.scxsim_output.proofs.out.write_parts.Goals as goal

pub returns-in_err-write_all-clause-err : goal.returns-in_err-write_all-clause-err
returns-in_err-write_all-clause-err g c =
    let first = c.in_err-write_all.ensures.err in
    let cut = beginning_of_more _ _ (c.args.start.now ++ c.args.name.now) c.args.end.now (beginning_of_more _ _ c.args.start.now c.args.name.now first) in
    search rules

pub returns-in_err-write_all-2-clause-err : goal.returns-in_err-write_all-2-clause-err
returns-in_err-write_all-2-clause-err g c =
    let first = c.in_ok-write_all.ensures.ok in
    let second = c.in_err-write_all-2.ensures.err in
    let cut = beginning_of_more _ _ (c.args.start.now ++ c.args.name.now) c.args.end.now (beginning_behind _ _ _ c.args.start.now c.args.name.now first second) in
    search rules

pub returns-in_err-write_all-3-clause-err : goal.returns-in_err-write_all-3-clause-err
returns-in_err-write_all-3-clause-err g c =
    let first = c.in_ok-write_all.ensures.ok in
    let second = c.in_ok-write_all-2.ensures.ok in
    let third = c.in_err-write_all-3.ensures.err in
    let cut = beginning_behind _ _ _ (c.args.start.now ++ c.args.name.now) c.args.end.now (grows_twice _ _ _ c.args.start.now c.args.name.now first second) third in
    search rules

pub returns-clause-ok : goal.returns-clause-ok
returns-clause-ok g c =
    let first = c.in_ok-write_all.ensures.ok in
    let second = c.in_ok-write_all-2.ensures.ok in
    let third = c.in_ok-write_all-3.ensures.ok in
    grows_twice _ _ _ (c.args.start.now ++ c.args.name.now) c.args.end.now (grows_twice _ _ _ c.args.start.now c.args.name.now first second) third
