use Rattle.scx_sched_machine.proofs.callbacks.run_program.Goals as goal

pub returns-clause-answered : goal.returns-clause-answered
returns-clause-answered c =
    let run = c.answer_on.ensures.run in
    record {
      answer = c.answer_on.result;
      steps = run.0;
      maps = c.answer_on.new.maps;
      world = c.answer_on.new.env;
      run = run.1;
      in_bound = run.2;
    }
