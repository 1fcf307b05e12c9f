use Rattle.scx_tests_bench.proofs.queues.go_round.Given as goal

abbrev pub ghosts-go_round_counted : goal.ghosts-go_round_counted
ghosts-go_round_counted a = record { name = a.blank.name; parts = a.blank.parts }
