use Rattle.std.proofs.Common.{refl, arith}
use Rattle.cp_text.proofs.HexTexts.{hex_length}
use Rattle.replay_print.proofs.Lengths.{append_three, length-data_text}
use Rattle.replay_print.proofs.pieces.append_data.Goals as goal

pub append_hex-requires : goal.append_hex-requires
append_hex-requires c = omega (arith, length-data_text c.args.bytes.now)

pub append-requires-2 : goal.append-requires-2
append-requires-2 c = omega (arith, length-data_text c.args.bytes.now, hex_length c.args.bytes.now)

pub returns : goal.returns
returns c = record {
  items = append_three _ _ _ _ _ _ _ _ c.append.ensures.items c.append_hex.ensures.items c.append-2.ensures.items refl;
  spare = omega (arith, length-data_text c.args.bytes.now, hex_length c.args.bytes.now);
}
