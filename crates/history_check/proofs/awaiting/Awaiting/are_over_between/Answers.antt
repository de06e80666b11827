use Rattle.std.proofs.Common.{rules, ◌≡◌, ◌<◌, ◌≤◌, ℕ, Some, length, refl, arith}
use Rattle.std.specs.Prelude.{slice_get}
use Rattle.std.proofs.lemmas.Option.{slice_get_read}
use Rattle.history_check.proofs.Ready.{between-step}
use Rattle.history_check.proofs.awaiting.Awaiting.are_over_between.Goals as goal

pub returns-then-not-is_take_over-clause-no : goal.returns-then-not-is_take_over-clause-no
returns-then-not-is_take_over-clause-no c off all =
    let below : c.loop-at.at < length c.args.self.now.table.takes.items = search rules in
    let here : slice_get c.args.self.now.table.takes.items c.loop-at.at ≡ Some c.index.result.now =
    slice_get_read c.args.self.now.table.takes.items (length c.args.self.now.table.takes.items) c.loop-at.at c.index.result.now refl below (search rules) in
    c.if-not-is_take_over.ensures.no refl (all c.loop-at.at c.index.result.now c.loop-at.invariant.low (search rules) here)

pub loop-at-preserved : goal.loop-at-preserved
loop-at-preserved c =
    let below : c.loop-at.at < length c.args.self.now.table.takes.items = search rules in
    let here : slice_get c.args.self.now.table.takes.items c.loop-at.at ≡ Some c.index.result.now =
    slice_get_read c.args.self.now.table.takes.items (length c.args.self.now.table.takes.items) c.loop-at.at c.index.result.now refl below (search rules) in
    let low : c.args.from ≤ c.loop-at.at = c.loop-at.invariant.low in
    record {
      low = omega (arith, low);
      over = between-step c.args.self.now.table c.args.self.now.over.items c.args.host c.args.from c.loop-at.at c.index.result.now c.loop-at.invariant.over here (c.if-not-is_take_over.ensures.yes refl);
    }
