use Rattle.cp_line.proofs.Rows.{read_row, row_of}
use Rattle.cp_line.proofs.laws.order_laws.Goals as goal

pub returns-clause-spelled_so : goal.returns-clause-spelled_so
returns-clause-spelled_so c = row_of

pub returns-clause-read_so : goal.returns-clause-read_so
returns-clause-read_so c = read_row
