use Rattle.std.proofs.Common.{refl}
use Rattle.scx_explore_findings.proofs.counted.run_counted.Goals as goal

pub returns-clause-answered : goal.returns-clause-answered
returns-clause-answered c = record {
  answer = c.run_on.result.r0;
  steps = c.run_on.result.steps;
  maps = c.run_on.new.maps;
  world = c.run_on.new.env;
  run = c.run_on.ensures.run;
  in_bound = c.run_on.ensures.in_bound;
}

pub returns-clause-run : goal.returns-clause-run
returns-clause-run c = record {
  callback = refl;
  verified = refl;
  answer = c.run_on.result.r0;
  maps = c.run_on.new.maps;
  world = c.run_on.new.env;
  run = c.run_on.ensures.run;
}
