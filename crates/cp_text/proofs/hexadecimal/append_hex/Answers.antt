use Rattle.std.proofs.Common.{◌≡◌, ◌==◌, true, [], length, sym, ◌∙◌, arith}
use Rattle.std.proofs.lemmas.List.{append-nil, nil_from_length}
use Rattle.cp_text.proofs.HexTexts.{hex_text-more, hex_length}
use Rattle.cp_text.proofs.hexadecimal.append_hex.Goals as goal

pub loop-rest-preserved : goal.loop-rest-preserved
loop-rest-preserved c =
    let front = c.split_at.ensures.front in
    let back = c.split_at.ensures.back in
    let written = rw front at c.append_chunk.ensures.items in
    let more = hex_text-more c.loop-rest.out.items c.append_chunk.new.out.items c.loop-rest.rest.now _ c.min.result written c.loop-rest.invariant.0 in
    (rw back more, omega (arith, c.append_chunk.ensures.spare, hex_length c.split_at.result.0.now))

pub returns : goal.returns
returns c =
    let empty : (length c.loop-rest.rest.now == 0) ≡ true = sym c.is_empty.ensures ∙ c.loop-rest-test.false in
    let none : length c.loop-rest.rest.now ≡ 0 = grind (arith, empty) in
    let over : c.loop-rest.rest.now ≡ [] = nil_from_length c.loop-rest.rest.now none in
    let whole = rw over at c.loop-rest.invariant.0 in
    record {
      items = sym (append-nil c.loop-rest.out.items) ∙ whole;
      spare = omega (arith, none, c.loop-rest.invariant.1, hex_length c.args.bytes.now);
    }
