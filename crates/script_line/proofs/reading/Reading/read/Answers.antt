use Rattle.std.proofs.Common.{map}
use Rattle.script_line.specs.Values.{value_view}
use Rattle.script_line.proofs.Outcomes.{faulty}
use Rattle.script_line.proofs.reading.Reading.read.Goals as goal

pub returns-in-Err-Fault-clause-read : goal.returns-in-Err-Fault-clause-read
returns-in-Err-Fault-clause-read c = λ more.
    let e = rw c.in-Err-Fault.field-0-is at c.in-Err-Fault.ensures in
    rw (c.noted-self.ensures, e) (faulty c.args.self.now.fault (map value_view c.args.self.now.values.items) c.in-Err-Fault.cause more)
