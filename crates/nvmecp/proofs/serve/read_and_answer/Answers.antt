use Rattle.std.proofs.Common.{rules, ◌≤◌, length}
use Rattle.nvmecp.specs.Serve.{serve_task}
use Rattle.nvmecp.proofs.CutShort.{cut_due, refused_due}
use Rattle.nvmecp.proofs.serve.read_and_answer.Goals as goal

pub returns-in-Ok-clause-refused : goal.returns-in-Ok-clause-refused
returns-in-Ok-clause-refused g c two =
    let within : length c.in-Ok.input.items ≤ serve_task.limit = search rules in
    record {
      input = c.in-Ok.input.items;
      gave = search rules;
      at_end = λ short. search rules;
      writes = refused_due serve_task c.in-Ok.input.items g.K.Sink.held g.K.Sink.faults c.args.sink.now c.answer.new.sink c.answer.result within c.answer.ensures.ends two;
    }

pub returns-in-Ok-clause-cut_short : goal.returns-in-Ok-clause-cut_short
returns-in-Ok-clause-cut_short g c four =
    let within : length c.in-Ok.input.items ≤ serve_task.limit = search rules in
    record {
      input = c.in-Ok.input.items;
      gave = search rules;
      at_end = λ short. search rules;
      writes = cut_due serve_task c.in-Ok.input.items g.K.Sink.held g.K.Sink.faults c.args.sink.now c.answer.new.sink c.answer.result within c.answer.ensures.ends four;
    }
