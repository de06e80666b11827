use Rattle.std.proofs.Common.{List, ◌∙◌, ap, subst, sym}
use Rattle.std.proofs.lemmas.Result.{err_from_is_err_and}
use Rattle.script_line.specs.Line.{Line}
use Rattle.script_line.specs.Sized.{AreSized}
use Rattle.script_cmds.specs.private.Drafts.{draft_lines}
use Rattle.script_cmds.specs.Fault.{first_fault}
use Rattle.script_cmds.specs.Text.{lines_text}
use Rattle.script_cmds.proofs.Exact.{script_exact}
use Rattle.script_cmds.proofs.WholeTexts.{count_goes_on, fault_later, few_of_text, text_goes_on, told_here}
use Rattle.script_cmds.proofs.parsing.parse.Goals as goal

pub returns-in_err-add_line-clause-fault : goal.returns-in_err-add_line-clause-fault
returns-in_err-add_line-clause-fault c =
    let p = err_from_is_err_and c.from_residual.result c.from_residual.ensures.1 in
    rw (p.1, p.2) (told_here c.in_err-add_line.field-0.0 c.lines.number c.lines.draft.progress c.in-Some.line.now c.lines.rest.now c.in-Some.after.now (first_fault c.args.text.now.items) c.in-Some.ensures.parts c.lines.invariant.fault c.in_err-add_line.ensures.fault)

pub lines-preserved : goal.lines-preserved
lines-preserved c = record {
  draft = c.in_ok-add_line.ensures.draft;
  text = text_goes_on (lines_text (draft_lines c.lines.draft)) _ c.in-Some.line.now c.lines.rest.now c.in-Some.after.now c.args.text.now.items c.in_ok-add_line.ensures.text c.in-Some.ensures.whole c.lines.invariant.text;
  fault = sym (fault_later c.lines.draft.progress c.add_line.new.draft.progress c.lines.number c.in-Some.line.now c.lines.rest.now c.in-Some.after.now c.in-Some.ensures.parts c.in_ok-add_line.ensures.read) ∙ c.lines.invariant.fault;
  count = count_goes_on c.lines.number c.in-Some.line.now c.lines.rest.now c.in-Some.after.now c.in-Some.ensures.whole c.lines.invariant.count;
}

pub returns-clause-lines : goal.returns-clause-lines
returns-clause-lines c = few_of_text _ (draft_lines c.lines.draft) c.lines.rest.now c.args.text.now.items 4294967294 c.in_ok-finish.ensures.lines c.lines.invariant.text c.requires

pub returns-clause-sized : goal.returns-clause-sized
returns-clause-sized c = subst (λ (ls : List Line). AreSized ls) (sym c.in_ok-finish.ensures.lines) c.lines.invariant.draft.sized

pub returns-clause-queues : goal.returns-clause-queues
returns-clause-queues c = script_exact c.lines.draft _ _ c.lines.invariant.draft c.in_ok-finish.ensures.form c.in_ok-finish.ensures.config
