-- The loop that is spread over code, as it is put together.
use Rattle.std.proofs.Common.{◌≡◌, ℕ, zero, suc, List, [], ◌∷◌, ◌++◌, replicate, refl, sym, ap, ◌∙◌}
use Rattle.std.proofs.lemmas.List.{append_assoc}
use Rattle.bpf_isa.specs.declared.insn.Insn.{Insn}
use Rattle.bpf_isa.specs.declared.insn.Insn.TheVariants.{Exit}
use Rattle.bpf_model.specs.Encoding.{encoding}
use Rattle.bpf_bench.specs.Programs.{encoded}

-- the first three instructions, with the bytes of the jump's offset
abbrev pub start : ℕ → ℕ → List ℕ
start low high = 0xb7 ∷ 0 ∷ 0 ∷ 0 ∷ 0 ∷ 0 ∷ 0 ∷ 0 ∷ 0x07 ∷ 0 ∷ 0 ∷ 0 ∷ 1 ∷ 0 ∷ 0 ∷ 0 ∷ 0x05 ∷ 0 ∷ low ∷ high ∷ 0 ∷ 0 ∷ 0 ∷ 0 ∷ []

pub encoded-append : (is js : List Insn) → encoded (is ++ js) ≡ encoded is ++ encoded js
encoded-append [] js = refl
encoded-append (i ∷ is) js =
    ap (λ (bytes : List ℕ). encoding i ++ bytes) (encoded-append is js) ∙ sym (append_assoc (encoding i) (encoded is) (encoded js))

-- one exit more
pub exit-more : (n : ℕ) → encoded (replicate (suc n) Exit) ≡ encoded (replicate n Exit) ++ encoding Exit
exit-more zero = refl
exit-more (suc n) =
    ap (λ (bytes : List ℕ). encoding Exit ++ bytes) (exit-more n) ∙ sym (append_assoc (encoding Exit) (encoded (replicate n Exit)) (encoding Exit))

pub grown : (front items : List ℕ) (n k : ℕ) → items ≡ front ++ encoded (replicate n Exit) → k ≡ suc n → items ++ encoding Exit ≡ front ++ encoded (replicate k Exit)
grown front items n k before next =
    ap (λ (bytes : List ℕ). bytes ++ encoding Exit) before
    ∙ (append_assoc front (encoded (replicate n Exit)) (encoding Exit)
    ∙ (ap (λ (bytes : List ℕ). front ++ bytes) (sym (exit-more n)) ∙ ap (λ (m : ℕ). front ++ encoded (replicate m Exit)) (sym next)))

-- the last two instructions behind the exits
pub closed : (front items : List ℕ) (n : ℕ) (last : Insn) → items ≡ front ++ encoded (replicate n Exit)
    → items ++ encoding last ++ encoding Exit ≡ front ++ encoded (replicate n Exit ++ (last ∷ Exit ∷ []))
closed front items n last before =
    ap (λ (bytes : List ℕ). bytes ++ encoding last ++ encoding Exit) before
    ∙ (append_assoc (front ++ encoded (replicate n Exit)) (encoding last) (encoding Exit)
    ∙ (append_assoc front (encoded (replicate n Exit)) (encoding last ++ encoding Exit)
    ∙ ap (λ (bytes : List ℕ). front ++ bytes) (sym (encoded-append (replicate n Exit) (last ∷ Exit ∷ [])))))
