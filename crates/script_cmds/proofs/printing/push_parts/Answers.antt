use Rattle.std.proofs.Common.{◌+◌, [], ◌∷◌, drop, subst, sym}
use Rattle.script_line.specs.declared.content.FieldContent.{FieldContent}
use Rattle.script_line.specs.declared.kind.LineKind.TheVariants as line
use Rattle.script_line.specs.Printing.{PrintsLine}
use Rattle.script_line.specs.Values.{content_view}
use Rattle.script_cmds.specs.private.Printing.{Prints}
use Rattle.script_cmds.specs.Text.{item_lines, numbers_line, part_lines}
use Rattle.script_cmds.proofs.Printed.{prints_both, prints_line, prints_nothing}
use Rattle.script_line.proofs.Walk.{drop-next, drop-none}
use Rattle.script_cmds.proofs.printing.push_parts.Goals as goal

pub loop-part-preserved : goal.loop-part-preserved
loop-part-preserved c =
    let x = c.part-item.result in
    let rest = drop (c.loop-part.part-index + 1) c.args.parts.now in
    let old = c.loop-part.out.items in
    let begun = c.push_line.new.out.items in
    let host : Prints (numbers_line line.Host (x.host ∷ []) ∷ []) old begun =
    prints_line (numbers_line line.Host (x.host ∷ [])) old begun (subst (λ (content : FieldContent). PrintsLine (record { kind = line.Host; values = content_view content ∷ [] }) old begun) c.small.ensures c.in_ok-push_line.ensures) in
    let items : Prints (item_lines c.args.form x.items) begun c.push_items.new.out.items = subst (λ xs. Prints (item_lines c.args.form xs) begun c.push_items.new.out.items) c.as_slice.ensures c.in_ok-push_items.ensures in
    λ new h. c.loop-part.invariant new (subst (λ left. Prints (part_lines c.args.form left) old new) (sym (drop-next c.args.parts.now c.loop-part.part-index x c.loop-part-test.true c.part-item.is))
    (prints_both (numbers_line line.Host (x.host ∷ []) ∷ item_lines c.args.form x.items) (part_lines c.args.form rest) old c.push_items.new.out.items new (prints_both (numbers_line line.Host (x.host ∷ []) ∷ []) (item_lines c.args.form x.items) old begun c.push_items.new.out.items host items) h))

pub returns : goal.returns
returns c =
    c.loop-part.invariant c.loop-part.out.items (subst (λ left. Prints (part_lines c.args.form left) c.loop-part.out.items c.loop-part.out.items) (sym (drop-none c.args.parts.now c.loop-part.part-index c.loop-part-test.false)) (prints_nothing c.loop-part.out.items))
