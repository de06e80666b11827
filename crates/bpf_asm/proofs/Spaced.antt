-- The operands behind a mnemonic.
use Rattle.std.proofs.Common.{◌≡◌, ℕ, List, [], ◌∷◌, ◌++◌, map, sym, ap}
use Rattle.std.proofs.lemmas.List.{append-nil}
use Rattle.cp_text.specs.Parts.{joined_by}
use Rattle.bpf_asm.specs.Line.{operand_text}
use Rattle.bpf_asm.specs.Operands.{spaced}
use Rattle.bpf_asm.specs.declared.operand.Operand.{Operand}

-- the parts of a line are its first word and the operands behind it
pub line_spaced : (first : List ℕ) (operands : List Operand) → joined_by 32 (first ∷ map operand_text operands) ≡ first ++ spaced operands
line_spaced first [] = sym (append-nil first)
line_spaced first (operand ∷ rest) = ap (λ (t : List ℕ). first ++ 32 ∷ t) (line_spaced (operand_text operand) rest)
