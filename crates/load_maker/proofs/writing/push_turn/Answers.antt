use Rattle.std.proofs.Common.{◌%◌, [], ◌∷◌}
use Rattle.script_line.specs.Line.{send_line}
use Rattle.script_line.specs.declared.version.Version.TheVariants as version
use Rattle.load_maker.specs.Load.{turn_takes}
use Rattle.load_maker.proofs.Printed.{prints_more, prints_one}
use Rattle.load_maker.proofs.writing.push_turn.Goals as goal

pub returns : goal.returns
returns c =
    let sent = send_line version.One (c.args.number % 16) c.args.sent.now in
    prints_more (turn_takes c.args.number) (sent ∷ []) c.args.out.now.items c.push_turn_take.new.out.items c.push_send.new.out.items
    c.in_ok-push_turn_take.ensures (prints_one sent c.push_turn_take.new.out.items c.push_send.new.out.items c.in_ok-push_send.ensures)
