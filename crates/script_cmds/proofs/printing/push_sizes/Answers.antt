use Rattle.std.proofs.Common.{◌+◌, [], ◌∷◌, ◌∙◌, ap, arith, drop, get_or, subst, sym}
use Rattle.script_line.specs.declared.kind.LineKind.TheVariants as line
use Rattle.script_cmds.specs.private.Printing.{Prints}
use Rattle.script_cmds.specs.Text.{size_lines}
use Rattle.script_cmds.proofs.Printed.{first_size, prints_both, prints_nothing}
use Rattle.script_line.proofs.Walk.{drop-at, drop-none}
use Rattle.script_cmds.proofs.printing.push_sizes.Goals as goal

pub loop-size-preserved : goal.loop-size-preserved
loop-size-preserved c =
    let i = c.loop-size.size-index in
    let kind = line.Namespace c.args.kind in
    let number = c.loop-size.number in
    let size = get_or c.args.sizes.now i 0 in
    let rest = drop (i + 1) c.args.sizes.now in
    let old = c.loop-size.out.items in
    let left = ap (size_lines kind number) (drop-at c.args.sizes.now i 0 c.loop-size-test.true) ∙ first_size kind number size rest in
    record {
      count = omega arith;
      goes = λ new h. c.loop-size.invariant.goes new (subst (λ lines. Prints lines old new) (sym left) (prints_both (size_lines kind number (size ∷ [])) (size_lines kind (number + 1) rest) old c.push_size.new.out.items new c.in_ok-push_size.ensures h));
    }

pub returns : goal.returns
returns c =
    let old = c.loop-size.out.items in
    c.loop-size.invariant.goes old (subst (λ left. Prints (size_lines (line.Namespace c.args.kind) c.loop-size.number left) old old) (sym (drop-none c.args.sizes.now c.loop-size.size-index c.loop-size-test.false)) (prints_nothing old))
