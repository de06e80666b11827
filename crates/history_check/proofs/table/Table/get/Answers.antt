use Rattle.std.proofs.Common.{◌≡◌, ◌<◌, length, arith}
use Rattle.std.proofs.lemmas.List.{length-map}
use Rattle.history_check.specs.Table.{sent_in}
use Rattle.history_check.proofs.Tables.{ends-at}
use Rattle.history_check.proofs.table.Table.get.Goals as goal

pub returns-clause-ends : goal.returns-clause-ends
returns-clause-ends c is =
    let count = length-map c.args.self.now.commands.items (sent_in c.args.self.now.takes.items) in
    let below : c.args.place < length c.args.self.now.commands.items = omega (arith, c.requires, count) in
    ends-at c.args.self.now c.args.place c.index.result.now is below c.index.ensures
