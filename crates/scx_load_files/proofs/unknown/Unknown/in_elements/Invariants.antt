use Rattle.std.proofs.Common.{◌≡◌, drop}
use Rattle.toml.specs.View.{items_view}
use Rattle.scx_load_files.specs.Unknown.{least_path, least_with, unknown_from, words}
use Rattle.scx_load_files.proofs.unknown.Unknown.in_elements.Given as goal

abbrev pub invariant-loop-number : goal.invariant-loop-number
invariant-loop-number l =
    least_with (least_path l.unknown) (unknown_from (words l.known) l.path l.number (items_view (drop l.number l.values)))
    ≡ least_with (least_path l.fn.self) (unknown_from (words l.known) l.path 0 (items_view l.values))
