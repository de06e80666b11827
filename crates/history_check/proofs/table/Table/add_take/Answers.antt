use Rattle.std.proofs.Common.{rules, ◌≡◌, ℕ, ◌++◌, [], List, drop, sym, ◌∙◌, ap, arith, refl, append-nil}
use Rattle.std.proofs.lemmas.List.{drop_all}
use Rattle.std.proofs.lemmas.Fn.{filter_same}
use Rattle.history_model.specs.Sent.{ordinals_of}
use Rattle.history_check.specs.Table.{waiting_of}
use Rattle.history_check.specs.declared.table.Outstanding.{Outstanding}
use Rattle.history_check.proofs.Tables.{lengthened, went-take}
use Rattle.history_check.proofs.table.Table.add_take.Goals as goal

-- the takes of the identifier were added
takes : (c : goal.After-retain) → c.loop-sent.self.takes.items ≡ c.args.self.now.takes.items ++ ordinals_of c.args.cid (waiting_of c.args.sender.now.outstanding.items)
takes c =
    let new : List ℕ = c.loop-sent.self.takes.items in
    let old : List ℕ = c.args.self.now.takes.items in
    let gone : drop c.loop-sent.sent-index c.as_slice-outstanding.result.now ≡ [] = drop_all c.loop-sent.sent-index c.as_slice-outstanding.result.now (search rules) in
    sym (append-nil new)
    ∙ (ap (λ (os : List Outstanding). new ++ ordinals_of c.args.cid (waiting_of os)) (sym gone)
    ∙ (c.loop-sent.invariant.takes ∙ ap (λ (os : List Outstanding). old ++ ordinals_of c.args.cid (waiting_of os)) c.as_slice-outstanding.ensures.value))

pub returns-clause-table : goal.returns-clause-table
returns-clause-table c =
    (lengthened c.args.self.now c.loop-sent.self (ordinals_of c.args.cid (waiting_of c.args.sender.now.outstanding.items)) c.requires.table c.loop-sent.invariant.commands (takes c)
    c.loop-sent.invariant.places c.loop-sent.invariant.counts).1

pub returns-clause-more : goal.returns-clause-more
returns-clause-more c =
    went-take c.args.self.now c.loop-sent.self c.args.sender.now _ c.args.cid
    (lengthened c.args.self.now c.loop-sent.self (ordinals_of c.args.cid (waiting_of c.args.sender.now.outstanding.items)) c.requires.table c.loop-sent.invariant.commands (takes c)
    c.loop-sent.invariant.places c.loop-sent.invariant.counts).0
    (takes c) refl refl refl (filter_same _ _ _ (λ x b f' k. search rules) _ _ c.retain.ensures.filtered) c.requires.begun
