use Rattle.std.proofs.Common.{ℕ, List, [], ◌∷◌, ◌++◌, ◌∙◌, ap, subst}
use Rattle.script_cmds.specs.Text.{lines_text}
use Rattle.script_line.specs.Versions.{IsOfVersion}
use Rattle.script_cmds.specs.private.Drafts.{Drafted, draft_lines}
use Rattle.script_line.proofs.Said.{line_says}
use Rattle.script_cmds.proofs.OneMore.{text_one_more}
use Rattle.script_cmds.proofs.draft.Draft.add.Goals as goal

pub after-requires-clause-shape : goal.after-requires-clause-shape
after-requires-clause-shape c = (line_says c.self.inside.progress.form.version c.args.text.now _ c.in_ok-line.ensures).line.shape

pub put-requires-clause-line : goal.put-requires-clause-line
put-requires-clause-line c = (line_says c.self.inside.progress.form.version c.args.text.now _ c.in_ok-line.ensures).line

pub put-requires-clause-version : goal.put-requires-clause-version
put-requires-clause-version c =
    subst (λ (d : Drafted). IsOfVersion d.progress.form.version c.in_ok-line.line.kind) c.self.view_is (line_says c.self.inside.progress.form.version c.args.text.now _ c.in_ok-line.ensures).version

pub returns-clause-text : goal.returns-clause-text
returns-clause-text c =
    ap lines_text c.in_ok-put.ensures.lines ∙ text_one_more (draft_lines c.args.self.now) _
    ∙ ap (λ (text : List ℕ). lines_text (draft_lines c.args.self.now) ++ (text ++ 10 ∷ [])) (line_says c.self.inside.progress.form.version c.args.text.now _ c.in_ok-line.ensures).spelled
