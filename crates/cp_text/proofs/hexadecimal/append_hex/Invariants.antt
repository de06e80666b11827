use Rattle.std.proofs.Common.{◌≡◌, ◌+◌, ◌*◌, ◌++◌, length}
use Rattle.cp_text.specs.HexText.{hex_text}
use Rattle.cp_text.proofs.hexadecimal.append_hex.Given as goal

abbrev pub invariant-loop-rest : goal.invariant-loop-rest
invariant-loop-rest l =
    (l.out.items ++ hex_text l.rest ≡ l.fn.out.items ++ hex_text l.fn.bytes)
    × (l.out.spare + 2 * length l.fn.bytes ≡ l.fn.out.spare + 2 * length l.rest)

abbrev pub decreases-loop-rest : goal.decreases-loop-rest
decreases-loop-rest l = length l.rest
