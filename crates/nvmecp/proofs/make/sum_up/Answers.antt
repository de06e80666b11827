use Rattle.std.proofs.Common.{◌≡◌, ℕ, List, ◌++◌, sym, ap, subst, ◌∙◌}
use Rattle.replay_print.specs.Lines.{summary_lines}
use Rattle.replay_print.specs.declared.summary.Summary.{Summary}
use Rattle.nvmecp.specs.Make.{SumsUp}
use Rattle.nvmecp.proofs.Printed.{sums_up_of}
use Rattle.nvmecp.proofs.make.sum_up.Goals as goal

pub returns : goal.returns
returns c =
    let summary : Summary = c.summary_of-summary.result in
    let lines : List ℕ = summary_lines summary in
    let items : c.push_summary.new.out.items ≡ lines = c.in-Ok.ensures.pushed.items ∙ ap (λ (front : List ℕ). front ++ lines) c.clear.ensures.items in
    subst (λ (text : List ℕ). SumsUp c.args.script.now c.args.choices text) (sym items)
    (sums_up_of c.args.script.now c.args.plan.phases c.args.choices c.in_ok-finished.finished summary c.requires.sized c.requires.kept c.requires.planned
    c.requires.given c.in_ok-finished.ensures.finished c.in_ok-finished.ensures.scheduled c.summary_of-summary.ensures)
