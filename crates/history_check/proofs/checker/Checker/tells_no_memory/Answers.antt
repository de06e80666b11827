use Rattle.std.proofs.Common.{◌≡◌, ap, ◌∙◌}
use Rattle.std.specs.Arc.{arc_value}
use Rattle.std.proofs.lemmas.Bool.{both_ways}
use Rattle.cp_base.specs.declared.commands.Command.{Command}
use Rattle.device_model.specs.Memory.{takes_memory}
use Rattle.history_check.specs.Table.{sent_in}
use Rattle.history_check.proofs.checker.Checker.tells_no_memory.Goals as goal

pub returns-then-not-takes_memory-clause-no : goal.returns-then-not-takes_memory-clause-no
returns-then-not-takes_memory-clause-no c off t =
    let d = c.args.self.now.device in
    let is : c.takes_memory.result ≡ takes_memory d.config d.state (arc_value c.get-sent.result.now.command) =
    c.takes_memory.ensures ∙ ap (λ (command : Command). takes_memory d.config d.state command) c.deref.ensures in
    both_ways c.takes_memory.result c.if-not-takes_memory.true (is ∙ t.takes (sent_in c.args.self.now.awaiting.table.takes.items c.get-sent.result.now) c.get-sent.ensures.sent)
