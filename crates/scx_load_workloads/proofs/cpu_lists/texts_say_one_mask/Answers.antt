use Rattle.scx_load_workloads.proofs.Masks.{texts_say_one_mask_lem}
use Rattle.scx_load_workloads.proofs.cpu_lists.texts_say_one_mask.Goals as goal

pub returns : goal.returns
returns c = texts_say_one_mask_lem
