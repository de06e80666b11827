use Rattle.std.proofs.Common.{rules, ◌≡◌, ◌+◌, ◌∷◌, List, drop, length, sym, ◌∙◌, ap, arith}
use Rattle.script_line.proofs.Walk.{drop-next}
use Rattle.script_cmds.specs.declared.item.HostPart.{HostPart}
use Rattle.script_cmds.specs.declared.item.Phase.{Phase}
use Rattle.history_model.specs.Sent.{Sent, sends_of_parts, sends_of_phases}
use Rattle.history_check.specs.Table.{sends_in}
use Rattle.history_check.proofs.Tables.{phases-more}
use Rattle.history_check.proofs.table.Table.of_phases.Goals as goal

pub add_phase-requires-clause-few : goal.add_phase-requires-clause-few
add_phase-requires-clause-few c =
    let i = c.loop-index.index in
    let x : Phase = c.index-phases-index.result in
    let sent : List Sent = sends_in c.loop-index.table in
    let next : drop i c.args.phases.now ≡ x ∷ drop (i + 1) c.args.phases.now = drop-next c.args.phases.now i x c.loop-index-test.true c.index-phases-index.is in
    let whole = ap (λ (ps : List Phase). length (sends_of_phases (i + 1) sent ps)) (sym next) ∙ ap (λ (ss : List Sent). length ss) c.loop-index.invariant.sends in
    let same : c.as_slice.result.now ≡ x.hosts = search rules in
    let hosts : length (sends_of_parts (i + 1) sent c.as_slice.result.now) ≡ length (sends_of_parts (i + 1) sent x.hosts) = ap (λ (ps : List HostPart). length (sends_of_parts (i + 1) sent ps)) same in
    omega (arith, phases-more (i + 1 + 1) (sends_of_parts (i + 1) sent x.hosts) (drop (i + 1) c.args.phases.now), whole, hosts, c.requires)
