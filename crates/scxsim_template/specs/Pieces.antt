-- Stretches of a task that are drawn together, in the page of a run that has too many of them.
use Rattle.std.specs.Prelude.{◌≡◌, ◌≢◌, ℕ, ◌+◌, ◌-◌, ◌*◌, ◌/◌, ◌^◌, ◌<◌, ◌≤◌, min, max, nat_lt, ◌==◌, if◌then◌else◌, List, [], ◌∷◌, ◌++◌, length, replicate, sum_by, All, Option, None, Some, slice_index_or, slice_set}
use Rattle.std.specs.Int.{div_ceil}
use Rattle.scxsim_template.specs.declared.stretches.TheConstants.{PARKED_NUMBER}
use Rattle.scxsim_template.specs.declared.stretches.TheConstants.{NOWHERE}
use Rattle.scxsim_template.specs.declared.stretches.Stretch.{Stretch}
use Rattle.scxsim_template.specs.declared.stretches.End.TheVariants as end
use Rattle.scxsim_template.specs.declared.pieces.Joined.{Joined}
use Rattle.scxsim_template.specs.declared.pieces.Piece.{Piece}
use Rattle.scxsim_template.specs.declared.pieces.Piece.TheVariants.{One, Several}

-- a number, where it is no more than 64 bits hold
abbrev pub at_most_64_bits : ℕ → ℕ
at_most_64_bits n = min n (2 ^ 64 - 1)

-- the moment in a sum of a moment and its clock
abbrev pub moment_of : ℕ → ℕ
moment_of sum = div_ceil sum 2

-- the length of a stretch
abbrev pub length_of : Stretch → ℕ
length_of s = moment_of s.until - moment_of s.since

-- the time for which the task ran in it
abbrev pub ran_in : Stretch → ℕ
ran_in s = if s.place == NOWHERE then 0 else length_of s

-- the time for which the task waited in it
abbrev pub waited_in : Stretch → ℕ
waited_in s =
    if s.place == NOWHERE then (if s.queue == PARKED_NUMBER then 0 else length_of s) else 0

-- the time for which the task was parked in it
abbrev pub parked_in : Stretch → ℕ
parked_in s =
    if s.place == NOWHERE then (if s.queue == PARKED_NUMBER then length_of s else 0) else 0

-- the moment with which the last of these stretches ends
abbrev pub end_of : Stretch → List Stretch → ℕ
end_of s [] = moment_of s.until
end_of s (t ∷ ts) = end_of t ts

-- a piece for two or more stretches: from the beginning of the first to the end of the last, no
-- longer than `width`, with the times for which the task ran, waited and was parked in them
pub record IsJoined (width : ℕ) (s : Stretch) (ss : List Stretch) (j : Joined) : Type 0 where
  pub some : ss ≢ []
  pub task : j.task ≡ s.task
  pub since : j.since ≡ moment_of s.since
  pub until : j.until ≡ end_of s ss
  pub short : j.until - j.since ≤ width
  pub ran : j.ran ≡ at_most_64_bits (sum_by ran_in (s ∷ ss))
  pub waited : j.waited ≡ at_most_64_bits (sum_by waited_in (s ∷ ss))
  pub parked : j.parked ≡ at_most_64_bits (sum_by parked_in (s ∷ ss))

-- a piece for these stretches: one has a piece of its own
abbrev pub IsDrawn : ℕ → Stretch → List Stretch → Piece → Type 0
IsDrawn width s ss (One t) = (t ≡ s) × (ss ≡ [])
IsDrawn width s ss (Several j) = IsJoined width s ss j

-- pieces for these stretches: each stretch is in one piece, in the same order
abbrev pub AreDrawn : ℕ → List Stretch → List Piece → Type 0
AreDrawn width all [] = all ≡ []
AreDrawn width all (p ∷ ps) =
    (s : Stretch) × (ss rest : List Stretch) × (all ≡ (s ∷ ss) ++ rest) × IsDrawn width s ss p
    × AreDrawn width rest ps

-- a piece, drawn as several stretches are
abbrev pub joined_of : Piece → Joined
joined_of (One s) = record {
  task = s.task;
  since = moment_of s.since;
  until = moment_of s.until;
  ran = ran_in s;
  waited = waited_in s;
  parked = parked_in s;
}
joined_of (Several j) = j

-- with one stretch more
abbrev pub joined : Joined → Stretch → Joined
joined j s = record {
  task = j.task;
  since = j.since;
  until = moment_of s.until;
  ran = at_most_64_bits (j.ran + ran_in s);
  waited = at_most_64_bits (j.waited + waited_in s);
  parked = at_most_64_bits (j.parked + parked_in s);
}

-- a piece with the task's next stretch, if both together are no longer than `width`
abbrev pub with_next : ℕ → Piece → Stretch → Option Piece
with_next width p s =
    if nat_lt width (moment_of s.until - (joined_of p).since) then None
    else Some (Several (joined (joined_of p) s))

-- a piece of which the task was parked as it ended
abbrev pub with_park : Piece → Piece
with_park (One s) = One (record s { end = end.Parked })
with_park (Several j) = Several j

-- the piece that is over as a stretch comes, if one is, and the last piece then
abbrev pub parted : Piece → Stretch → Option Piece → Option Piece × Piece
parted p s None = (Some p, One s)
parted p s (Some both) = (None, both)

-- the task's piece before a stretch, if that is over, and its last piece then
abbrev pub next_pieces : ℕ → Option Piece → Stretch → Option Piece × Piece
next_pieces width None s = (None, One s)
next_pieces width (Some p) s = parted p s (with_next width p s)

-- a piece, if there is one
abbrev pub listed : Option Piece → List Piece
listed None = []
listed (Some p) = p ∷ []

-- the pieces of a task's stretches after a piece
abbrev pub pieces_from : ℕ → Option Piece → List Stretch → List Piece
pieces_from width before [] = listed before
pieces_from width before (s ∷ ss) =
    listed (next_pieces width before s).0
    ++ pieces_from width (Some (next_pieces width before s).1) ss

-- each of a task's stretches is in one of its pieces
abbrev pub StretchesAreDrawn : Type 0
StretchesAreDrawn =
    (width : ℕ) (ss : List Stretch) → AreDrawn width ss (pieces_from width None ss)

-- stretches of a task between two moments, one after another
abbrev pub AreInOrder : ℕ → ℕ → List Stretch → Type 0
AreInOrder from until [] = from ≤ until
AreInOrder from until (s ∷ ss) =
    (from ≤ moment_of s.since) × (moment_of s.since ≤ moment_of s.until)
    × AreInOrder (moment_of s.until) until ss

-- two pieces, one after the other, are longer than `width`, so there are few
abbrev pub PiecesAreFew : Type 0
PiecesAreFew =
    (width from until : ℕ) (ss : List Stretch) → AreInOrder from until ss
    → length (pieces_from width None ss) * (width + 1) ≤ 2 * (until - from) + (width + 1)

-- the shortest width with which that many tasks surely have at most `most` pieces in `span`
-- milliseconds
abbrev pub shortest_width : ℕ → ℕ → ℕ → ℕ
shortest_width tasks span most =
    at_most_64_bits (at_most_64_bits (span * tasks) * 2) / max (most - tasks) 1

-- the number of pieces that tasks have together, with those stretches and that width
abbrev pub pieces_of_all : ℕ → List (List Stretch) → ℕ
pieces_of_all width all = sum_by (λ ss. length (pieces_from width None ss)) all

-- with that width tasks whose stretches come one after another have fewer pieces than `most`
abbrev pub PiecesFit : Type 0
PiecesFit =
    (from until most : ℕ) (all : List (List Stretch)) → All (AreInOrder from until) all
    → length all < most → (until - from) * length all * 2 < 2 ^ 64
    → pieces_of_all (shortest_width (length all) (until - from) most) all < most

-- the last piece of each task
pub record LastPieces : Type 0 where
  pub width : ℕ
  pub last : List (Option Piece)

-- before the first stretch
abbrev pub none_drawn : ℕ → ℕ → LastPieces
none_drawn width tasks = record { width = width; last = replicate tasks None }

-- a stretch changes its task's piece
abbrev pub drawn_on : Stretch → LastPieces → LastPieces
drawn_on s k = record {
  width = k.width;
  last = slice_set k.last s.task
      (Some (next_pieces k.width (slice_index_or k.last s.task None) s).1);
}

-- the task's last piece, of which it was parked
abbrev pub park_piece : Option Piece → Option Piece
park_piece None = None
park_piece (Some p) = Some (with_park p)

-- the task was parked as its last stretch ended
abbrev pub parked_last : ℕ → LastPieces → LastPieces
parked_last task k = record {
  width = k.width;
  last = slice_set k.last task (park_piece (slice_index_or k.last task None));
}
