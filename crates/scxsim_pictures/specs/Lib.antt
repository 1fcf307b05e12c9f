pub mod Objects
pub mod NoteLines
pub mod Sketching
pub mod Pictures
pub mod Documents
pub mod Bars
