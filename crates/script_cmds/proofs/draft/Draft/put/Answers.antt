use Rattle.std.proofs.Common.{◌≡◌, [], ◌∷◌, ◌++◌, subst, sym}
use Rattle.script_line.specs.Values.{line_view}
use Rattle.script_cmds.specs.private.Drafts.{Drafted, IsDraft, draft_lines}
use Rattle.script_cmds.proofs.Puts.{adds, passed}
use Rattle.script_cmds.proofs.draft.Draft.put.Goals as goal

pub store-requires-clause-judged : goal.store-requires-clause-judged
store-requires-clause-judged c = (passed c.args.self.now.progress (line_view c.args.line) c.args.after c.requires.after).limits

pub returns-clause-draft : goal.returns-clause-draft
returns-clause-draft c =
    let a = adds c.args.self.now c.store.new.self (line_view c.args.line) c.args.after c.requires.draft c.requires.after c.requires.line c.in_ok-store.ensures in
    subst (λ (d : Drafted). IsDraft d) (sym c.stand.ensures) a.draft

pub returns-clause-lines : goal.returns-clause-lines
returns-clause-lines c =
    let a = adds c.args.self.now c.store.new.self (line_view c.args.line) c.args.after c.requires.draft c.requires.after c.requires.line c.in_ok-store.ensures in
    subst (λ (d : Drafted). draft_lines d ≡ draft_lines c.args.self.now ++ line_view c.args.line ∷ []) (sym c.stand.ensures) a.lines
