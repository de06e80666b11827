use Rattle.std.proofs.Common.{◌≡◌, ◌+◌, ◌++◌, ◌∷◌, [], List, drop, length, sym, ◌∙◌, ap, arith}
use Rattle.script_line.proofs.Walk.{drop-next}
use Rattle.script_cmds.specs.declared.item.HostPart.{HostPart}
use Rattle.history_model.specs.Sent.{Sent, next_ordinal, sends_of_items, sends_of_parts}
use Rattle.history_check.specs.Table.{sends_in}
use Rattle.history_check.proofs.Tables.{parts-more}
use Rattle.history_check.proofs.table.Table.add_phase.Goals as goal

pub add_part-requires-clause-few : goal.add_part-requires-clause-few
add_part-requires-clause-few c =
    let i = c.loop-part.part-index in
    let x : HostPart = c.part-item.result in
    let sent : List Sent = sends_in c.loop-part.self in
    let new : List Sent = sends_of_items x.host c.args.phase (next_ordinal x.host sent) [] [] x.items in
    let next = drop-next c.args.parts.now i x c.loop-part-test.true c.part-item.is in
    let whole = ap (λ (ps : List HostPart). length (sends_of_parts c.args.phase sent ps)) (sym next) ∙ ap (λ (ss : List Sent). length ss) c.loop-part.invariant.sends in
    omega (arith, parts-more c.args.phase (sent ++ new) (drop (i + 1) c.args.parts.now), whole, c.requires.few)

pub loop-part-preserved : goal.loop-part-preserved
loop-part-preserved c =
    let i = c.loop-part.part-index in
    let x : HostPart = c.part-item.result in
    let next = drop-next c.args.parts.now i x c.loop-part-test.true c.part-item.is in
    record {
      table = c.in_ok-add_part.ensures.table;
      sends = ap (λ (ss : List Sent). sends_of_parts c.args.phase ss (drop (i + 1) c.args.parts.now)) c.in_ok-add_part.ensures.sends
          ∙ (ap (λ (ps : List HostPart). sends_of_parts c.args.phase (sends_in c.loop-part.self) ps) (sym next) ∙ c.loop-part.invariant.sends);
    }
