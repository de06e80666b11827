use Rattle.std.proofs.Common.{[], ◌∷◌, ◌++◌}
use Rattle.script_line.specs.declared.kind.LineKind.TheVariants as line
use Rattle.script_cmds.specs.Text.{numbers_line}
use Rattle.load_maker.specs.Load.{host_part}
use Rattle.load_maker.proofs.Printed.{prints_first, prints_more}
use Rattle.load_maker.proofs.writing.push_work.Goals as goal

pub returns : goal.returns
returns c =
    let part = host_part c.args.seed c.args.commands in
    let begun = c.push_line.new.out.items in
    let one = c.push_part.new.out.items in
    let two = c.push_part-2.new.out.items in
    let three = c.push_part-3.new.out.items in
    let four = c.push_part-4.new.out.items in
    let first = prints_first (numbers_line line.Phase []) (part 0) c.args.out.now.items begun one c.in_ok-push_line.ensures c.in_ok-push_part.ensures in
    let second = prints_more (numbers_line line.Phase [] ∷ part 0) (part 1) c.args.out.now.items one two first c.in_ok-push_part-2.ensures in
    let third = prints_more (numbers_line line.Phase [] ∷ part 0 ++ part 1) (part 2) c.args.out.now.items two three second c.in_ok-push_part-3.ensures in
    prints_more (numbers_line line.Phase [] ∷ part 0 ++ part 1 ++ part 2) (part 3) c.args.out.now.items three four third c.in_ok-push_part-4.ensures
