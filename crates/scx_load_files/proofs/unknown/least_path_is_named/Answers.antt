use Rattle.scx_load_files.proofs.Least.{least_is_found}
use Rattle.scx_load_files.proofs.unknown.least_path_is_named.Goals as goal

pub returns : goal.returns
returns c = least_is_found
