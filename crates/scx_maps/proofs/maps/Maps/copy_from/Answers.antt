use Rattle.std.proofs.Common.{◌≡◌, map, sym, ap, ◌∙◌}
use Rattle.scx_isa_semantics.specs.Directories.{kind_of}
use Rattle.scx_maps.specs.Contents.{lengths_in, lengths_of, kinds_of}
use Rattle.scx_maps.proofs.CopiedParts.{same_slots_held}
use Rattle.scx_maps.proofs.maps.Maps.copy_from.Goals as goal

pub copy_directories-requires-clause-slots : goal.copy_directories-requires-clause-slots
copy_directories-requires-clause-slots c =
    let kinds : map kind_of c.self.inside.directories.items ≡ map kind_of c.other.inside.directories.items = ap kinds_of c.self.view_is ∙ (c.requires.kinds ∙ sym (ap kinds_of c.other.view_is)) in
    let lengths : lengths_in c.self.inside.values ≡ lengths_in c.other.inside.values = ap lengths_of c.self.view_is ∙ (c.requires.lengths ∙ sym (ap lengths_of c.other.view_is)) in
    let slots = same_slots_held c.self.inside.directories.items c.other.inside.directories.items c.self.inside.values c.other.inside.values kinds c.self.invariant c.other.invariant lengths in
    rw (c.deref_mut.ensures.value, c.deref.ensures.value) slots
