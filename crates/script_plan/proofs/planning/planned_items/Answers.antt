use Rattle.std.proofs.Common.{◌≡◌, ◌++◌, ◌∙◌, [], map, Ok, ap, sym, arith, drop}
use Rattle.std.proofs.lemmas.List.{drop_all}
use Rattle.history_model.specs.Plain.{Takes, plain_item, plain_items}
use Rattle.history_model.specs.Plan.{planned_items}
use Rattle.script_plan.specs.Meant.{meant, after}
use Rattle.script_plan.proofs.Steps.{items-end}
use Rattle.script_plan.proofs.planning.planned_items.Goals as goal

pub returns-clause-ok : goal.returns-clause-ok
returns-clause-ok c =
    let done = plain_items c.loop-item.planned.items in
    let gone : drop c.loop-item.item-index c.args.items.now ≡ [] = drop_all c.loop-item.item-index c.args.items.now (omega arith) in
    let takes = ap plain_items c.new.ensures ∙ c.in_ok-push_takes.ensures.ok ∙ ap (λ cids. done ++ map (λ cid. Takes cid) cids) c.as_slice.ensures in
    c.loop-item.invariant.1
    ∙ ap (λ l. after done (meant plain_item (planned_items c.args.depth c.loop-item.line c.loop-item.outstanding l))) gone
    ∙ ap (after done) (items-end c.args.depth c.loop-item.line c.loop-item.outstanding)
    ∙ ap (λ l. Ok l) (sym takes)
