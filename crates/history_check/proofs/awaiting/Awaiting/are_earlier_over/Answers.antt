use Rattle.std.proofs.Common.{rules, ◌≡◌, ◌<◌, length}
use Rattle.std.proofs.lemmas.Bool.{leb-false, leb-true}
use Rattle.history_check.proofs.Ready.{earlier-no, earlier-yes}
use Rattle.history_check.proofs.awaiting.Awaiting.are_earlier_over.Goals as goal

pub returns-else-self-len-clause-yes : goal.returns-else-self-len-clause-yes
returns-else-self-len-clause-yes c on =
    earlier-yes c.args.self.now c.advance.new.self c.args.place c.get.result.now c.get-else-self-len.result.now c.advance.ensures.kept c.advance.ensures.same.0 c.advance.ensures.same.1
    c.get.ensures.sent c.get-else-self-len.ensures.sent (leb-true c.get-else-self-len.result.now.phase c.get.result.now.phase on)

pub returns-else-self-len-clause-no : goal.returns-else-self-len-clause-no
returns-else-self-len-clause-no c off all =
    earlier-no c.args.self.now c.advance.new.self c.args.place c.get.result.now c.get-else-self-len.result.now c.advance.ensures.same.0 (c.advance.ensures.stops (search rules))
    c.get.ensures.sent c.get-else-self-len.ensures.sent (leb-false c.get-else-self-len.result.now.phase c.get.result.now.phase off) all
