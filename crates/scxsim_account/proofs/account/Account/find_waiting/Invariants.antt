use Rattle.std.proofs.Common.{◌≡◌}
use Rattle.scxsim_account.proofs.account.Account.find_waiting.Given as goal

abbrev pub invariant-loop-cpu : goal.invariant-loop-cpu
invariant-loop-cpu l = record {
  idling : l.self.idling ≡ l.initial.self.idling;
  result : l.self.result ≡ l.initial.self.result;
}
