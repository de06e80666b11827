use Rattle.std.proofs.Common.{◌≡◌, ◌+◌, ◌≤◌, ◌++◌, length}
use Rattle.cp_text.specs.Parts.{parts_between}
use Rattle.script_cmds.specs.Fault.{fault_from, first_fault, newlines}
use Rattle.script_cmds.specs.private.Drafts.{IsDraft, draft_lines}
use Rattle.script_cmds.specs.Text.{lines_text}
use Rattle.script_cmds.proofs.parsing.parse.Given as goal

abbrev pub invariant-lines : goal.invariant-lines
invariant-lines l = record {
  draft : IsDraft l.draft;
  text : lines_text (draft_lines l.draft) ++ l.rest ≡ l.text.items;
  fault : fault_from l.draft.progress l.number (parts_between 10 l.rest) ≡ first_fault l.text.items;
  count : l.number + newlines l.rest ≤ 4294967295;
}

abbrev pub decreases-lines : goal.decreases-lines
decreases-lines l = length l.rest
