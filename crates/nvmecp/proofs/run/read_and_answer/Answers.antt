use Rattle.std.proofs.Common.{rules, ◌≡◌, ◌≤◌, length}
use Rattle.nvmecp.specs.Words.{task_of}
use Rattle.nvmecp.proofs.CutShort.{cut_due}
use Rattle.nvmecp.proofs.run.read_and_answer.Goals as goal

pub returns-in-Ok-clause-cut_short : goal.returns-in-Ok-clause-cut_short
returns-in-Ok-clause-cut_short g c four =
    let task = task_of c.args.asked in
    let within : length c.in-Ok.input.items ≤ task.limit = search rules in
    record {
      input = c.in-Ok.input.items;
      gave = search rules;
      at_end = λ short. search rules;
      writes = cut_due task c.in-Ok.input.items g.K.Sink.held g.K.Sink.faults c.args.sink.now c.answer.new.sink c.answer.result within c.answer.ensures.ends four;
    }
