use Rattle.core_model.specs.Parts.{tables_of}
use Rattle.cp_base.specs.Answer.{answer_of}
use Rattle.device_core.proofs.Told.{tables-told}
use Rattle.device_core.proofs.doing.tell_tables.Goals as goal

pub returns : goal.returns
returns c aborts =
    tables-told c.args.config.now (tables_of c.args.slots.now c.args.sets.now) c.args.command.now aborts (answer_of c.change_tables.result)
    (tables_of c.change_tables.new.slots c.change_tables.new.sets) c.requires c.change_tables.ensures
