use Rattle.std.proofs.Common.{◌≡◌, true, sym, ◌∙◌}
use Rattle.scx_sched_world.specs.World.{binds, lowest_cpu, is_in_mask_but}
use Rattle.scx_sched_world.proofs.Picks.{but_one, flipped, one_alone}
use Rattle.scx_sched_world.proofs.world.World.has_one_cpu.Goals as goal

pub returns : goal.returns
returns c =
    let bound : binds c.args.self.now ≡ true = sym c.binds.ensures ∙ c.if-not-binds.false in
    let home = c.first_home-home in
    let low : c.lowest_of.result ≡ lowest_cpu c.args.self.now (is_in_mask_but c.args.self.now c.args.task home.result) = c.lowest_of.ensures.lowest (is_in_mask_but c.args.self.now c.args.task home.result) (but_one c.mask.result c.args.self.now c.args.task home.result home.ensures.few c.mask.ensures) in
    flipped _ c.is_none.result c.is_none.ensures ∙ one_alone c.args.self.now c.args.task home.result c.lowest_of.result bound home.ensures.home low
