use Rattle.std.proofs.Common.{map, sym, subst}
use Rattle.std.specs.String.{string_bytes}
use Rattle.cp_line.proofs.Rows.{row_of}
use Rattle.cp_line.specs.Orders.{IsInTable}
use Rattle.nvmecp.proofs.serve.read_workers.Goals as goal

pub returns-in-Serve-clause-range : goal.returns-in-Serve-clause-range
returns-in-Serve-clause-range c =
    subst IsInTable c.in-Serve.is (row_of (map string_bytes c.args.words.now) _ (sym c.in_ok-workers.ensures)).1
