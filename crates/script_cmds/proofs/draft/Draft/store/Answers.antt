use Rattle.std.proofs.Common.{◌≡◌, true, map, subst}
use Rattle.script_line.specs.declared.kind.LineKind.{LineKind}
use Rattle.script_line.specs.declared.kind.LineKind.TheVariants as line
use Rattle.script_line.specs.Values.{value_view}
use Rattle.script_cmds.specs.Progress.{is_within_limits}
use Rattle.script_cmds.proofs.Meanings.{shown_inside}
use Rattle.script_cmds.proofs.Puts.{fits_of}
use Rattle.script_cmds.proofs.draft.Draft.store.Goals as goal

pub show-requires-clause-inside : goal.show-requires-clause-inside
show-requires-clause-inside c =
    let values = map value_view c.args.line.values.items in
    let kept = subst (λ (k : LineKind). is_within_limits c.args.self.now.progress (record { kind = k; values = map value_view c.args.line.values.items }) ≡ true) c.in-Show.is c.requires.judged in
    rw c.as_slice-in-Show.ensures.value (shown_inside c.args.self.now.progress c.in-Show.kind values c.requires.limits kept)

pub send-requires-clause-fits : goal.send-requires-clause-fits
send-requires-clause-fits c =
    let values = map value_view c.args.line.values.items in
    let kept = subst (λ (k : LineKind). is_within_limits c.args.self.now.progress (record { kind = k; values = map value_view c.args.line.values.items }) ≡ true) c.in-Send.is c.requires.judged in
    fits_of c.args.self.now.progress (record { kind = line.Send c.in-Send.version c.in-Send.word; values = values }) kept
