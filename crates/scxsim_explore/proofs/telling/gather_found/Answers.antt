use Rattle.std.proofs.Common.{◌∙◌, refl, subst, sym}
use Rattle.std.proofs.lemmas.List.Elements.{All-nil}
use Rattle.std.specs.Prelude.{All, IfSome}
use Rattle.scx_sched.specs.Sim.{SimState}
use Rattle.scxsim_explore.specs.Lists.{IsKept}
use Rattle.scxsim_explore.proofs.Told.{kept_more}
use Rattle.scxsim_explore.proofs.telling.gather_found.Goals as goal

pub loop-place-init : goal.loop-place-init
loop-place-init c = record {
  same = refl;
  kept = subst (All (IsKept c.args.mode c.args.about.now c.args.begun.now.machines)) (sym c.new-lists.ensures.items) (All-nil _);
}

pub loop-place-preserved : goal.loop-place-preserved
loop-place-preserved c =
    let P = IsKept c.args.mode c.args.about.now c.args.begun.now.machines in
    let one = subst (λ (s : SimState). IfSome c.list_of-list.result (IsKept c.args.mode c.args.about.now s)) c.loop-place.invariant.same c.list_of-list.ensures.kept in
    record {
      same = c.list_of-list.ensures.same ∙ c.loop-place.invariant.same;
      kept = kept_more P _ _ _ _ c.list_of-list.result c.loop-place.invariant.kept one c.add.ensures;
    }
