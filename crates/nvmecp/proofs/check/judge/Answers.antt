use Rattle.std.proofs.Common.{◌≡◌, ◌+◌, ◌<◌, ◌^◌, List, length, sym, subst, arith}
use Rattle.script_cmds.specs.declared.item.Show.{Show}
use Rattle.history_model.specs.Sent.{sends_of}
use Rattle.history_check.specs.Verdict.{AreShown}
use Rattle.history_check.proofs.Scripts.{plan-sized}
use Rattle.nvmecp.proofs.Checked.{are_shown, few_lines}
use Rattle.nvmecp.proofs.Shows.{inside}
use Rattle.nvmecp.proofs.check.judge.Goals as goal

pub check-requires-clause-few : goal.check-requires-clause-few
check-requires-clause-few g c =
    let script = c.args.script.now in
    let plan = c.args.plan.now in
    subst (λ (shows : List Show). plan.commands + 1 + length shows < 2 ^ 32) (sym c.as_slice.ensures)
    (few_lines script plan.phases plan.commands c.requires.lines c.requires.commands c.requires.sends)

pub check-requires-clause-sized : goal.check-requires-clause-sized
check-requires-clause-sized g c =
    let script = c.args.script.now in
    let plan = c.args.plan.now in
    let low = few_lines script plan.phases plan.commands c.requires.lines c.requires.commands c.requires.sends in
    let commands = c.requires.commands in
    let few : length (sends_of plan.phases) < 2 ^ 64 = omega (arith, low, commands) in
    plan-sized script plan.phases c.requires.sized c.requires.kept c.requires.sends few

pub check-requires-clause-shown : goal.check-requires-clause-shown
check-requires-clause-shown g c =
    let script = c.args.script.now in
    subst (λ (shows : List Show). AreShown script.config shows) (sym c.as_slice.ensures)
    (are_shown script c.requires.sized (inside script c.depth-depth.ensures.limits.nvm_numbers c.depth-depth.ensures.limits.mem_numbers c.requires.kept))
