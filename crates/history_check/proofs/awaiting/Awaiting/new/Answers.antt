use Rattle.std.proofs.Common.{rules, ◌≡◌, length, refl, sym, ◌∙◌}
use Rattle.std.proofs.lemmas.List.{length-map}
use Rattle.history_check.specs.Table.{sends_in, sent_in}
use Rattle.history_check.proofs.Ready.{kept-new}
use Rattle.history_check.proofs.awaiting.Awaiting.new.Goals as goal

pub returns-clause-kept : goal.returns-clause-kept
returns-clause-kept c =
    let t = c.in_ok-table.table in
    let commands : length c.resize.new.self.items ≡ length t.commands.items = search rules in
    kept-new (record { table = t; over = c.resize.new.self; front = 0; reached = c.new.result }) c.args.phases.now c.in_ok-table.ensures.table c.in_ok-table.ensures.sends
    (commands ∙ sym (length-map t.commands.items (sent_in t.takes.items))) refl c.new.ensures.empty
