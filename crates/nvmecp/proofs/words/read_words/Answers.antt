use Rattle.std.proofs.Common.{map, sym}
use Rattle.std.specs.String.{string_bytes}
use Rattle.cp_line.proofs.Rows.{row_of}
use Rattle.nvmecp.proofs.words.read_words.Goals as goal

pub errand_by-requires : goal.errand_by-requires
errand_by-requires c = (row_of (map string_bytes c.args.words.now) _ (sym c.in_ok-read_words.ensures)).1
