-- A command that moves bytes and fails a check is told so.
use Rattle.cp_base.specs.Answer.{answer_of}
use Rattle.core_model.specs.Parts.{tables_of}
use Rattle.device_core.proofs.Told.{refused-told}
use Rattle.device_core.proofs.doing.tell_moving.Goals as goal

pub returns-in-Err : goal.returns-in-Err
returns-in-Err c aborts =
    refused-told c.args.config.now (tables_of c.args.slots.now c.args.sets.now) c.args.command.now c.in-Err.status aborts (answer_of c.only-in-Err.result)
    c.requires c.in-Err.ensures c.only-in-Err.ensures
