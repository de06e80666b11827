use Rattle.script_line.proofs.ReadAgain.{line_again, line_lacks, one_line}
use Rattle.script_line.proofs.Said.{line_says}
use Rattle.script_line.proofs.Sends.{send_shape, take_shape}
use Rattle.script_line.proofs.laws.line_laws.Goals as goal

pub returns-clause-spelled_so : goal.returns-clause-spelled_so
returns-clause-spelled_so c v text line e = let s = line_says v text line e in (s.spelled, s.line, s.version)

pub returns-clause-read_so : goal.returns-clause-read_so
returns-clause-read_so c = line_again

pub returns-clause-one_line : goal.returns-clause-one_line
returns-clause-one_line c = one_line

pub returns-clause-no_newline : goal.returns-clause-no_newline
returns-clause-no_newline c = line_lacks

pub returns-clause-sent : goal.returns-clause-sent
returns-clause-sent c = send_shape

pub returns-clause-taken : goal.returns-clause-taken
returns-clause-taken c = take_shape
