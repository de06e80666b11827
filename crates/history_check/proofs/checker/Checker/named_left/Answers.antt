use Rattle.std.proofs.Common.{◌≡◌, Some, true, refl, sym, ap, ◌∙◌, Bool}
use Rattle.std.specs.Prelude.{slice_get}
use Rattle.history_check.specs.Table.{IsAt, sends_in, sent_in}
use Rattle.history_check.proofs.Places.{within}
use Rattle.history_check.proofs.Ready.{is-at-as}
use Rattle.history_check.proofs.Withdrawing.{names-at, names-over}
use Rattle.history_check.proofs.checker.Checker.named_left.Goals as goal

pub returns-in_err-named-clause-none : goal.returns-in_err-named-clause-none
returns-in_err-named-clause-none c none named n =
    let a = c.args.self.now.awaiting in
    c.in_err-named.ensures.none refl named
    (is-at-as (sends_in a.table) c.get-sent.result.now.host _ c.in_ok-sent.field-0 _ named (sym c.from.ensures) (sym c.from-2.ensures)
    (names-at a c.args.place named c.in_ok-sent.field-0 (sent_in a.table.takes.items c.get-sent.result.now) c.get-sent.ensures.sent c.in_ok-sent.was n))

pub is_over-requires-clause-within : goal.is_over-requires-clause-within
is_over-requires-clause-within c =
    let found = c.in_ok-named.ensures.found in
    within (sends_in c.args.self.now.awaiting.table) c.in_ok-named.named found.s found.at

pub returns-then-is_over-clause-none : goal.returns-then-is_over-clause-none
returns-then-is_over-clause-none c none =
    let a = c.args.self.now.awaiting in
    names-over a c.args.place c.in_ok-named.named c.in_ok-sent.field-0 (sent_in a.table.takes.items c.get-sent.result.now) c.requires.kept c.get-sent.ensures.sent c.in_ok-sent.was
    (is-at-as (sends_in a.table) _ c.get-sent.result.now.host _ c.in_ok-sent.field-0 c.in_ok-named.named c.from.ensures c.from-2.ensures c.in_ok-named.ensures.found)
    (c.is_over.ensures ∙ ap (λ (b : Bool). Some b) c.if-is_over.true)
