use Rattle.std.proofs.Common.{◌≡◌, ◌+◌, ◌<◌, length, refl, arith}
use Rattle.replay_print.proofs.Lengths.{length-data_text, ok_unless}
use Rattle.replay_print.specs.Parts.{data_text}
use Rattle.replay_print.proofs.pieces.make_line_room.Goals as goal

pub returns-in-Some-clause-room : goal.returns-in-Some-clause-room
returns-in-Some-clause-room c =
    let e : c.in-Some.len ≡ c.args.front + length (data_text c.args.bytes.now) = omega (arith, c.in-Some.ensures, length-data_text c.args.bytes.now) in
    rw e at c.reserve.ensures

pub returns-in-Some-clause-reserved : goal.returns-in-Some-clause-reserved
returns-in-Some-clause-reserved c =
    λ few room. ok_unless c.reserve.result c.reserve.ensures.full
    (λ less. omega (arith, c.in-Some.ensures, few, room, less))

pub returns-in-None-clause-room : goal.returns-in-None-clause-room
returns-in-None-clause-room c =
    let full : c.args.out.now.spare < c.args.front + length (data_text c.args.bytes.now) = omega (arith, c.in-None.ensures, length-data_text c.args.bytes.now) in
    record { items = refl; room = tt; enough = λ few. absurd (omega (arith, full, few)); full = full; unchanged = refl }

pub returns-in-None-clause-reserved : goal.returns-in-None-clause-reserved
returns-in-None-clause-reserved c = λ few room. absurd (omega (arith, c.in-None.ensures, few, room))
