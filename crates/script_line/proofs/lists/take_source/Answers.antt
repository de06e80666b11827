use Rattle.std.proofs.Common.{map, refl}
use Rattle.script_line.specs.Reading.{read_source}
use Rattle.script_line.specs.Values.{source_view}
use Rattle.script_line.proofs.Triples.{each_err}
use Rattle.script_line.proofs.lists.take_source.Goals as goal

pub returns-in-Err-Fault : goal.returns-in-Err-Fault
returns-in-Err-Fault c = λ parts.
    let e = rw c.in-Err-Fault.field-0-is at c.in-Err-Fault.ensures in
    rw c.noted.ensures (each_err read_source c.args.fault (map source_view c.args.sources.now.items) c.in-Err-Fault.cause c.args.part.now parts _ e refl)
