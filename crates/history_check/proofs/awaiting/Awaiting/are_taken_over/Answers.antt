use Rattle.std.proofs.Common.{◌≡◌, ◌<◌, ◌≤◌, refl, arith}
use Rattle.history_check.proofs.Ready.{kept-reached, over-joined, taken-left, taken-over}
use Rattle.history_check.proofs.awaiting.Awaiting.are_taken_over.Goals as goal

pub returns-then-not-are_over_between-clause-no : goal.returns-then-not-are_over_between-clause-no
returns-then-not-are_over_between-clause-no c off all =
    taken-left c.args.self.now.table c.args.self.now.over.items c.args.place c.reached_from-reached.result c.get-awaited.result.now c.get-awaited.ensures.sent c.reached_from-reached.ensures.behind
    (c.if-not-are_over_between.ensures.no refl) all

pub returns-in_ok-insert-clause-kept : goal.returns-in_ok-insert-clause-kept
returns-in_ok-insert-clause-kept c =
    let a = c.args.self.now in
    let low : c.get-awaited.result.now.begin ≤ c.reached_from-reached.result = c.reached_from-reached.ensures.behind in
    let up : c.reached_from-reached.result < c.get-awaited.result.now.end = c.if-reached-end.true in
    kept-reached a (record { table = a.table; over = a.over; front = a.front; reached = c.insert.new.self }) c.get-awaited.result.now.host c.get-awaited.result.now.begin c.get-awaited.result.now.end
    c.requires.kept refl refl refl c.in_ok-insert.ensures.updates (omega (arith, low, up))
    (over-joined a.table a.over.items c.get-awaited.result.now.host c.get-awaited.result.now.begin c.reached_from-reached.result c.get-awaited.result.now.end c.reached_from-reached.ensures.over
    (c.if-not-are_over_between.ensures.yes refl))

pub returns-in_ok-insert-clause-yes : goal.returns-in_ok-insert-clause-yes
returns-in_ok-insert-clause-yes c on =
    let a = c.args.self.now in
    taken-over a.table a.over.items c.args.place c.get-awaited.result.now c.get-awaited.ensures.sent
    (over-joined a.table a.over.items c.get-awaited.result.now.host c.get-awaited.result.now.begin c.reached_from-reached.result c.get-awaited.result.now.end c.reached_from-reached.ensures.over
    (c.if-not-are_over_between.ensures.yes refl))

pub returns-else-reached-end-clause-yes : goal.returns-else-reached-end-clause-yes
returns-else-reached-end-clause-yes c on =
    let a = c.args.self.now in
    taken-over a.table a.over.items c.args.place c.get-awaited.result.now c.get-awaited.ensures.sent
    (over-joined a.table a.over.items c.get-awaited.result.now.host c.get-awaited.result.now.begin c.reached_from-reached.result c.get-awaited.result.now.end c.reached_from-reached.ensures.over
    (c.if-not-are_over_between.ensures.yes refl))
