-- An Abort is told whether it withdraws a command.
use Rattle.std.proofs.Common.{◌∙◌, sym}
use Rattle.cp_base.specs.Answer.{answer_of}
use Rattle.core_model.specs.Parts.{tables_of}
use Rattle.device_core.proofs.Natures.{withdraws}
use Rattle.device_core.proofs.Told.{abort-told}
use Rattle.device_core.proofs.doing.tell.Goals as goal

pub returns-in-Withdraws : goal.returns-in-Withdraws
returns-in-Withdraws c =
    abort-told c.args.config.now (tables_of c.args.slots.now c.args.sets.now) c.args.command.now c.in-Withdraws.cid c.args.aborts (answer_of c.tell_abort.result)
    (withdraws c.args.command.now c.in-Withdraws.cid (sym c.nature.ensures ∙ c.in-Withdraws.is)) c.tell_abort.ensures
