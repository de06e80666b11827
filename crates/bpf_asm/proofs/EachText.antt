-- Each text is the text of a program or has a faulty line.
use Rattle.std.proofs.Common.{◌≡◌, ℕ, zero, suc, ◌<◌, ◌≤◌, true, eqb, ◌⊎◌, inl, inr, List, [], ◌∷◌, ◌+◌, ◌++◌, length, take, drop, Option, Some, None, refl, sym, arith, length-drop}
use Rattle.std.specs.List.{position}
use Rattle.std.proofs.lemmas.Bool.{cases_lt}
use Rattle.std.proofs.lemmas.List.Elements.{All-same}
use Rattle.std.proofs.lemmas.List.Quantifiers.{position-Some}
use Rattle.bpf_isa.specs.declared.insn.Insn.{Insn}
use Rattle.bpf_model.specs.Encoding.{encoding}
use Rattle.bpf_model.proofs.BothWays.{bytes_small}
use Rattle.cp_base.specs.declared.limits.TheConstants.{MAX_PROGRAM}
use Rattle.cp_text.specs.HexText.{AreBytes}
use Rattle.cp_text.specs.Parts.{lacks, parts_between}
use Rattle.cp_text.proofs.Cuts.{lacks_none, lacks_some, whole_some}
use Rattle.bpf_asm.specs.Reading.{insn_in}
use Rattle.bpf_asm.specs.Assembly.{IsAssembledTo}
use Rattle.bpf_asm.specs.Text.{encodings, IsCodeOf, IsFaultyAt}
use Rattle.bpf_asm.proofs.EncodedBytes.{encodings_bytes}
use Rattle.bpf_asm.proofs.TextLaws.{adds, all_assembled, fault_here, fault_unended, nothing_assembled, one_line, refused_none, refused_some}

-- what becomes of a text
abbrev Answer : List ℕ → Type 0
Answer text = ((code : List ℕ) × IsCodeOf text code) ⊎ ((line : ℕ) × IsFaultyAt text line)

-- what is left of a text has no line
ended : (text rest code : List ℕ) (line : ℕ) → IsAssembledTo text rest code line → lacks 10 rest ≡ true → Answer text
ended text [] [] line s plain = inr (line, fault_unended text [] [] line s plain (λ e. refl))
ended text [] (b ∷ bs) line s plain =
    let bytes : AreBytes (b ∷ bs) = All-same (λ b. b < 256) (b ∷ bs) (encodings s.before) s.bytes (encodings_bytes s.before s.allowed) in
    let whole = all_assembled text [] (b ∷ bs) line (bytes_small (b ∷ bs) bytes) s refl (λ e. cc) in
    inl (b ∷ bs, record { program = record { bytes = bytes; well_formed = whole.well_formed; limit = s.limit }; spelled = whole.same_text })
ended text (c ∷ cs) code line s plain = inr (line, fault_unended text (c ∷ cs) code line s plain (λ e. cc))

-- the next line of a text, and what becomes of the text if it is that of an instruction
next : (text rest code : List ℕ) (line : ℕ) → IsAssembledTo text rest code line
    → ((after new : List ℕ) → length after < length rest → IsAssembledTo text after new (line + 1) → Answer text) → Answer text
next text rest code line s later = by_place (position (λ b. eqb b 10) rest) refl
  where
    by_line : (i : ℕ) → Some i ≡ position (λ b. eqb b 10) rest → (o : Option Insn) → o ≡ insn_in (parts_between 32 (take i rest)) → Answer text
    by_line i e None h =
        inr (line, fault_here text rest (drop (suc i) rest) (take i rest) code line s (whole_some 10 rest i e) (lacks_some 10 rest i e) (refused_none (take i rest) code h))
    by_line i e (Some insn) h = elim (cases_lt MAX_PROGRAM (length (code ++ encoding insn))) [
      | inl long ↦
          inr (
            line,
            fault_here text rest (drop (suc i) rest) (take i rest) code line s (whole_some 10 rest i e) (lacks_some 10 rest i e)
                (refused_some (take i rest) code insn h long),
          )
      | inr fits ↦
          let place = position-Some (λ b. eqb b 10) rest i 0 (sym e) in
          let within : i < length rest = place.0 in
          let left = length-drop (suc i) rest in
          later (drop (suc i) rest) (code ++ encoding insn) (omega arith)
          (one_line text rest (drop (suc i) rest) (take i rest) code (code ++ encoding insn) line s (whole_some 10 rest i e)
          (adds (take i rest) code (code ++ encoding insn) insn h refl fits))
    ]

    by_place : (o : Option ℕ) → o ≡ position (λ b. eqb b 10) rest → Answer text
    by_place None e = ended text rest code line s (lacks_none 10 rest e)
    by_place (Some i) e = by_line i e (insn_in (parts_between 32 (take i rest))) refl

-- the lines one after the other
from_here : (n : ℕ) (text rest code : List ℕ) (line : ℕ) → length rest ≤ n → IsAssembledTo text rest code line → Answer text
from_here zero text rest code line few s = next text rest code line s (λ after new less t. absurd (omega arith))
from_here (suc n) text rest code line few s =
    next text rest code line s (λ after new less t. from_here n text after new (line + 1) (omega arith) t)

pub each_text : (text : List ℕ) → ((code : List ℕ) × IsCodeOf text code) ⊎ ((line : ℕ) × IsFaultyAt text line)
each_text text = from_here (length text) text text [] 1 (omega arith) (nothing_assembled text [] refl)
