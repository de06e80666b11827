use Rattle.std.proofs.Common.{◌≡◌, ℕ, ◌≤◌, List, None, Some, sym, subst, arith}
use Rattle.script_cmds.specs.Ends.{Tells}
use Rattle.script_cmds.specs.Fault.{first_fault, newlines}
use Rattle.script_cmds.specs.declared.fault.ParseEnd.{ParseEnd}
use Rattle.script_cmds.specs.declared.fault.ScriptFault.{ScriptFault}
use Rattle.load_maker.proofs.Lines.{load_few}
use Rattle.load_maker.proofs.Script.{load_accepted}
use Rattle.nvmecp.proofs.OneOutput.{not_both}
use Rattle.nvmecp.proofs.make.script_of.Goals as goal

pub parse-requires : goal.parse-requires
parse-requires c =
    subst (λ (text : List ℕ). newlines text ≤ 4294967294) (sym c.in_ok-text.ensures.text)
    (omega (arith, load_few c.args.load.seed c.args.load.commands, c.requires))

pub unreachable-requires : goal.unreachable-requires
unreachable-requires c =
    let text : List ℕ = c.in_ok-text.text.items in
    let fault : ScriptFault = c.in-Err-Fault.field-0-0 in
    let found : first_fault text ≡ Some fault =
    subst (λ (end : ParseEnd). Tells end (first_fault text)) c.in-Err-Fault.field-0-is c.in-Err-Fault.ensures.fault in
    let none : first_fault text ≡ None =
    subst (λ (t : List ℕ). first_fault t ≡ None) (sym c.in_ok-text.ensures.text) (load_accepted c.args.load.seed c.args.load.commands c.requires) in
    not_both fault (first_fault text) none found
