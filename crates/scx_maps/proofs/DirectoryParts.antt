-- A map's part beside its elements, by its kind: the kind can be read off it, and a map that isn't a
-- hash has no slots for keys.
use Rattle.std.proofs.Common.{◌≡◌, length, sym, refl, ap, ◌∙◌}
use Rattle.scx_isa_semantics.specs.declared.map_kinds.Line.{Line}
use Rattle.scx_isa_semantics.specs.declared.map_kinds.MapKind.{MapKind}
use Rattle.scx_isa_semantics.specs.declared.map_kinds.MapKind.TheVariants as kind
use Rattle.scx_isa_semantics.specs.Directories.{Keys, Directory, kind_of}
use Rattle.scx_maps.specs.Keeping.{directory_by, slots_held, HasItsSlots}

-- the kind of a part is the one that it was made by
pub kind_by : (k : MapKind) (l : Line) (ks : Keys) → kind_of (directory_by k l ks) ≡ k
kind_by kind.Array l ks = refl
kind_by kind.PerCpu l ks = refl
kind_by (kind.Hash z) l ks = refl
kind_by kind.Queue l ks = refl
kind_by kind.Stack l ks = refl

held_by : (k : MapKind) (l : Line) (ks : Keys) → HasItsSlots k ks → slots_held (directory_by k l ks) ≡ length ks.held
held_by kind.Array l ks h = sym h
held_by kind.PerCpu l ks h = sym h
held_by (kind.Hash z) l ks h = refl
held_by kind.Queue l ks h = sym h
held_by kind.Stack l ks h = sym h

-- two parts with as many slots for keys have keys in as many
pub same_held : (k j : MapKind) (l r : Line) (ks os : Keys) (d e : Directory) → directory_by k l ks ≡ d → directory_by j r os ≡ e → HasItsSlots k ks → HasItsSlots j os → slots_held d ≡ slots_held e → length ks.held ≡ length os.held
same_held k j l r ks os d e own other h i same =
    sym (held_by k l ks h) ∙ ap slots_held own ∙ same ∙ sym (ap slots_held other) ∙ held_by j r os i

-- parts of one kind were made by one
pub same_kind_by : (k j : MapKind) (l r : Line) (ks os : Keys) (d e : Directory) → directory_by k l ks ≡ d → directory_by j r os ≡ e → kind_of d ≡ kind_of e → k ≡ j
same_kind_by k j l r ks os d e own other same =
    sym (kind_by k l ks) ∙ ap kind_of own ∙ same ∙ sym (ap kind_of other) ∙ kind_by j r os

-- a map has its slots whatever key one of them holds
pub its_slots : (k : MapKind) (ks os : Keys) → HasItsSlots k ks → length os.held ≡ length ks.held → HasItsSlots k os
its_slots kind.Array ks os h e = e ∙ h
its_slots kind.PerCpu ks os h e = e ∙ h
its_slots (kind.Hash z) ks os h e = tt
its_slots kind.Queue ks os h e = e ∙ h
its_slots kind.Stack ks os h e = e ∙ h
