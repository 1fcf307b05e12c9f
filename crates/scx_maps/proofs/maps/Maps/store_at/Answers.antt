use Rattle.std.proofs.Common.{sym, subst}
use Rattle.scx_isa_semantics.specs.Directories.{Array}
use Rattle.scx_maps.specs.Keeping.{HasSlots}
use Rattle.std.specs.Prelude.{slice_index_or}
use Rattle.scx_maps.proofs.maps.Maps.store_at.Goals as goal

pub invariant_of-self : goal.invariant_of-self
invariant_of-self c m = subst (λ n. HasSlots (slice_index_or c.self.inside.directories.items m Array) n) (sym (c.store_at.ensures.counts m)) (c.self.invariant m)
