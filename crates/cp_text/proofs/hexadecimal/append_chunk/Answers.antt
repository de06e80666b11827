use Rattle.std.proofs.Common.{◌<◌, ◌++◌, List, ℕ, length, get_or, ap, ◌∙◌, arith}
use Rattle.std.proofs.lemmas.List.Elements.{All-from_get_or}
use Rattle.cp_text.proofs.HexTexts.{encode_lower-bytes, hex_length}
use Rattle.cp_text.specs.HexText.{AreBytes}
use Rattle.cp_text.proofs.hexadecimal.append_chunk.Goals as goal

pub returns : goal.returns
returns c =
    let written = rw c.unwrap.ensures at c.encode_to_slice.ensures.written in
    let low : (i : ℕ) → i < length c.args.chunk.now → get_or c.args.chunk.now i 0 < 256 = λ i h. omega (arith, c.type_inv.chunk i) in
    let bytes : AreBytes c.args.chunk.now = All-from_get_or (λ (item : ℕ). item < 256) c.args.chunk.now 0 low in
    let text = written ∙ encode_lower-bytes c.args.chunk.now bytes in
    record {
      items = c.append.ensures.items ∙ ap (λ (more : List ℕ). c.args.out.now.items ++ more) text;
      spare = omega (arith, c.append.ensures.spare, ap length text, hex_length c.args.chunk.now);
    }
