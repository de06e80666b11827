use Rattle.std.proofs.Common.{arith}
use Rattle.replay_print.proofs.Lengths.{append_three, length-line_of_entry, line_of_entry-parts}
use Rattle.replay_print.proofs.entry.append_entry.Goals as goal

pub returns : goal.returns
returns c =
    let entry = c.args.entry.now in
    record {
      items = append_three _ _ _ _ _ _ _ _ c.append_name.ensures.items c.append_outcome.ensures.items c.append_data.ensures.items
          (line_of_entry-parts c.args.k entry.host entry.ordinal entry.cid entry.word entry.status entry.result entry.bytes.now);
      spare = omega (
        arith,
        length-line_of_entry c.args.k entry.host entry.ordinal entry.cid entry.word entry.status entry.result entry.bytes.now,
      );
    }
