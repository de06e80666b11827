-- The identifiers still differ.
use Rattle.std.proofs.Common.{sym, subst, ap, ◌∙◌, ◌≡◌, false, arith}
use Rattle.queue_pairs.specs.Outstanding.{CidsDiffer, is_busy}
use Rattle.queue_pairs.proofs.Commands.{differ_with_sent}
use Rattle.queue_pairs.proofs.queue.Queue.send.Goals as goal

pub invariant_of-self : goal.invariant_of-self
invariant_of-self c =
    let none : is_busy c.self.inside.commands.items c.args.cid ≡ false =
    ap (λ commands. is_busy commands c.args.cid) (sym c.deref.ensures.value) ∙ sym c.is_busy.ensures ∙ c.if-is_busy.false in
    (omega arith, omega arith, subst CidsDiffer (sym c.push_reserved.ensures.items) (differ_with_sent c.self.inside.commands.items c.args.cid c.args.sent c.self.invariant.2 none))

pub returns-clause-cids_differ : goal.returns-clause-cids_differ
returns-clause-cids_differ c =
    let none : is_busy c.self.inside.commands.items c.args.cid ≡ false =
    ap (λ commands. is_busy commands c.args.cid) (sym c.deref.ensures.value) ∙ sym c.is_busy.ensures ∙ c.if-is_busy.false in
    subst CidsDiffer (sym c.push_reserved.ensures.items) (differ_with_sent c.self.inside.commands.items c.args.cid c.args.sent c.self.invariant.2 none)
