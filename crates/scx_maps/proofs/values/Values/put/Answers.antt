use Rattle.std.proofs.Common.{sym, ◌∙◌}
use Rattle.scx_maps.proofs.values.Values.put.Goals as goal

pub copy_from_slice-requires : goal.copy_from_slice-requires
copy_from_slice-requires c = c.value_mut.ensures.long ∙ sym c.requires.long
