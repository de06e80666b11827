use Rattle.std.proofs.Common.{◌+◌, [], ◌∷◌, drop, subst, sym}
use Rattle.script_cmds.specs.private.Printing.{Prints}
use Rattle.script_cmds.specs.Text.{show_lines, show_line}
use Rattle.script_cmds.proofs.Printed.{prints_both, prints_nothing}
use Rattle.script_line.proofs.Walk.{drop-next, drop-none}
use Rattle.script_cmds.proofs.printing.push_shows.Goals as goal

pub loop-show-preserved : goal.loop-show-preserved
loop-show-preserved c =
    let x = c.show-item.result in
    let rest = drop (c.loop-show.show-index + 1) c.args.shows.now in
    λ new h. c.loop-show.invariant new (subst (λ left. Prints (show_lines left) c.loop-show.out.items new) (sym (drop-next c.args.shows.now c.loop-show.show-index x c.loop-show-test.true c.show-item.is))
    (prints_both (show_line x ∷ []) (show_lines rest) c.loop-show.out.items c.push_show.new.out.items new c.in_ok-push_show.ensures h))

pub returns : goal.returns
returns c =
    c.loop-show.invariant c.loop-show.out.items (subst (λ left. Prints (show_lines left) c.loop-show.out.items c.loop-show.out.items) (sym (drop-none c.args.shows.now c.loop-show.show-index c.loop-show-test.false)) (prints_nothing c.loop-show.out.items))
