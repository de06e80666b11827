-- A range of ones as a window.
use Rattle.std.proofs.Common.{◌≡◌, ℕ, zero, suc, ◌+◌, true, List, [], ◌∷◌, Option, replicate, refl, sym, ap, ◌∙◌, arith}
use Rattle.std.specs.Prelude.{pos}
use Rattle.bpf_decode.specs.Slots.{insn_at}
use Rattle.bpf_isa.specs.declared.insn.Insn.{Insn}
use Rattle.bpf_model.specs.Memory.{bytes_from, AreApart}
use Rattle.bpf_model.specs.Step.{Program}
use Rattle.confined_view.specs.Touched.{Touched}
use Rattle.bpf_exec.specs.Setting.{Describes}
use Rattle.bpf_bench.specs.Range.{one_range, ones}

bytes_of_ones : (at n : ℕ) → bytes_from ones 1 at n ≡ replicate n 1
bytes_of_ones at zero = refl
bytes_of_ones at (suc n) = ap (λ (bytes : List ℕ). 1 ∷ bytes) (bytes_of_ones (at + 1) n)

-- no two ranges are one
alone : (len : ℕ) → AreApart (one_range len)
alone len i j d before inside = absurd (omega arith)

pub described : (program : Program) (slots : List (Option Insn)) (len : ℕ) (t : Touched) → ((place : ℕ) → insn_at slots (pos place) ≡ program place)
    → t.windows ≡ replicate len 1 ∷ [] → t.writable ≡ true ∷ [] → Describes program (one_range len) ones slots t
described program slots len t code windows writable = record {
  code = code;
  apart = alone len;
  bytes = ap (λ (bytes : List ℕ). bytes ∷ []) (bytes_of_ones 0 len) ∙ sym windows;
  access = sym writable;
}
