use Rattle.std.proofs.Common.{◌+◌, [], ◌∷◌, drop, subst, sym}
use Rattle.script_cmds.specs.private.Printing.{Prints}
use Rattle.script_cmds.specs.Text.{item_lines, item_line}
use Rattle.script_cmds.proofs.Printed.{prints_both, prints_nothing}
use Rattle.script_line.proofs.Walk.{drop-next, drop-none}
use Rattle.script_cmds.proofs.printing.push_items.Goals as goal

pub loop-item-preserved : goal.loop-item-preserved
loop-item-preserved c =
    let x = c.item-item.result in
    let rest = drop (c.loop-item.item-index + 1) c.args.items.now in
    λ new h. c.loop-item.invariant new (subst (λ left. Prints (item_lines c.args.form left) c.loop-item.out.items new) (sym (drop-next c.args.items.now c.loop-item.item-index x c.loop-item-test.true c.item-item.is))
    (prints_both (item_line c.args.form x ∷ []) (item_lines c.args.form rest) c.loop-item.out.items c.push_item.new.out.items new c.in_ok-push_item.ensures h))

pub returns : goal.returns
returns c =
    c.loop-item.invariant c.loop-item.out.items (subst (λ left. Prints (item_lines c.args.form left) c.loop-item.out.items c.loop-item.out.items) (sym (drop-none c.args.items.now c.loop-item.item-index c.loop-item-test.false)) (prints_nothing c.loop-item.out.items))
