-- The command of the identifier is the one at its index.
use Rattle.std.proofs.Common.{Some, sym, ap, ◌∙◌}
use Rattle.queue_pairs.specs.Outstanding.{QueuePair, under}
use Rattle.queue_pairs.proofs.Commands.{at_position, free_without_position, none_under, position_in, under_at}
use Rattle.queue_pairs.proofs.queue.Queue.get.Goals as goal

pub returns-in_err-index-clause-value : goal.returns-in_err-index-clause-value
returns-in_err-index-clause-value c =
    let none = position_in c.self.inside.commands.items c.deref.result.now c.args.cid _ _ c.deref.ensures.value c.index_of.ensures c.in_err-index.was in
    c.from_residual.ensures ∙ sym (none_under c.self.inside.commands.items c.args.cid (free_without_position c.self.inside.commands.items c.args.cid none))
    ∙ ap (λ (q : QueuePair). under q.commands c.args.cid) c.self.view_is

pub returns-clause-value : goal.returns-clause-value
returns-clause-value c =
    let found = position_in c.self.inside.commands.items c.deref.result.now c.args.cid _ _ c.deref.ensures.value c.index_of.ensures c.in_ok-index.was in
    let at = at_position c.self.inside.commands.items c.args.cid c.in_ok-index.index c.index.result.now found in
    ap Some c.index.ensures ∙ sym (under_at c.self.inside.commands.items c.args.cid c.in_ok-index.index c.index.result.now at)
    ∙ ap (λ (q : QueuePair). under q.commands c.args.cid) c.self.view_is
