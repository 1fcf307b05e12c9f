-- The text of the lines of a note.
use Rattle.std.specs.Prelude.{ℕ, List, [], ◌++◌, Option, None, Some}
use Rattle.scxsim_trace.specs.Lines.{NameLists}
use Rattle.scxsim_pictures.specs.declared.objects.Object.{Object}
use Rattle.scxsim_pictures.specs.declared.note_lines.NoteLines.{NoteLines}
use Rattle.scxsim_pictures.specs.Objects.{object_text}

-- the text of the object in a place; empty where there is none
abbrev pub place_text : NameLists → Option Object → List ℕ
place_text x None = []
place_text x (Some object) = object_text x object

-- the text of a note's lines, in the order of their places
abbrev pub lines_text : NameLists → NoteLines → List ℕ
lines_text x lines =
    place_text x lines.first ++ place_text x lines.second ++ place_text x lines.third
    ++ place_text x lines.fourth
