use Rattle.nvmecp.proofs.OneOutput.{assembled, disassembled, one_end, one_history, one_schedule, refused, serve_one_end, serve_one_history, serve_refused}
use Rattle.nvmecp.proofs.laws.one_output.Goals as goal

pub returns-clause-assembled : goal.returns-clause-assembled
returns-clause-assembled c = assembled

pub returns-clause-disassembled : goal.returns-clause-disassembled
returns-clause-disassembled c = disassembled

pub returns-clause-refused : goal.returns-clause-refused
returns-clause-refused c = refused

pub returns-clause-one_end : goal.returns-clause-one_end
returns-clause-one_end c = one_end

pub returns-clause-one_history : goal.returns-clause-one_history
returns-clause-one_history c = one_history

pub returns-clause-one_schedule : goal.returns-clause-one_schedule
returns-clause-one_schedule c = one_schedule

pub returns-clause-serve_refused : goal.returns-clause-serve_refused
returns-clause-serve_refused c = serve_refused

pub returns-clause-serve_one_end : goal.returns-clause-serve_one_end
returns-clause-serve_one_end c = serve_one_end

pub returns-clause-serve_one_history : goal.returns-clause-serve_one_history
returns-clause-serve_one_history c = serve_one_history
