use Rattle.std.proofs.Common.{◌≡◌, option_map, string_bytes}
use Rattle.toml.specs.View.{members_view, table_view}
use Rattle.scx_load_files.specs.Unknown.{least_path, least_with, unknown, words}
use Rattle.scx_load_files.proofs.unknown.Unknown.in_table.Given as goal

abbrev pub invariant-loop-key : goal.invariant-loop-key
invariant-loop-key l =
    least_with (option_map string_bytes l.least) (unknown (words l.known) l.path (members_view l.key-iterator))
    ≡ least_with (least_path l.fn.self) (unknown (words l.known) l.path (table_view l.table))
