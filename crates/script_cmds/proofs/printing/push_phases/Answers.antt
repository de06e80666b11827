use Rattle.std.proofs.Common.{◌+◌, [], ◌∷◌, drop, subst, sym}
use Rattle.script_line.specs.declared.kind.LineKind.TheVariants as line
use Rattle.script_cmds.specs.private.Printing.{Prints}
use Rattle.script_cmds.specs.Text.{numbers_line, part_lines, phase_lines}
use Rattle.script_cmds.proofs.Printed.{prints_both, prints_line, prints_nothing}
use Rattle.script_line.proofs.Walk.{drop-next, drop-none}
use Rattle.script_cmds.proofs.printing.push_phases.Goals as goal

pub loop-phase-preserved : goal.loop-phase-preserved
loop-phase-preserved c =
    let x = c.phase-item.result in
    let rest = drop (c.loop-phase.phase-index + 1) c.args.phases.now in
    let old = c.loop-phase.out.items in
    let begun = c.push_line.new.out.items in
    let hosts : Prints (part_lines c.args.form x.hosts) begun c.push_parts.new.out.items = subst (λ xs. Prints (part_lines c.args.form xs) begun c.push_parts.new.out.items) c.as_slice.ensures c.in_ok-push_parts.ensures in
    λ new h. c.loop-phase.invariant new (subst (λ left. Prints (phase_lines c.args.form left) old new) (sym (drop-next c.args.phases.now c.loop-phase.phase-index x c.loop-phase-test.true c.phase-item.is))
    (prints_both (numbers_line line.Phase [] ∷ part_lines c.args.form x.hosts) (phase_lines c.args.form rest) old c.push_parts.new.out.items new (prints_both (numbers_line line.Phase [] ∷ []) (part_lines c.args.form x.hosts) old begun c.push_parts.new.out.items (prints_line (numbers_line line.Phase []) old begun c.in_ok-push_line.ensures) hosts) h))

pub returns : goal.returns
returns c =
    c.loop-phase.invariant c.loop-phase.out.items (subst (λ left. Prints (phase_lines c.args.form left) c.loop-phase.out.items c.loop-phase.out.items) (sym (drop-none c.args.phases.now c.loop-phase.phase-index c.loop-phase-test.false)) (prints_nothing c.loop-phase.out.items))
