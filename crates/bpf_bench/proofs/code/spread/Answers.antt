use Rattle.std.proofs.Common.{◌≡◌, ℕ, ◌+◌, ◌-◌, ◌/◌, ◌%◌, true, pos, ◌-ℤ◌, List, [], ◌∷◌, ◌++◌, length, length-append, get_or, replicate, ap, ◌∙◌, arith}
use Rattle.std.proofs.lemmas.Int.{ints}
use Rattle.bpf_isa.specs.declared.insn.Insn.{Insn}
use Rattle.bpf_isa.specs.declared.insn.Insn.TheVariants.{BranchReg, Exit}
use Rattle.bpf_isa.specs.declared.operation.JumpOp.TheVariants.{Jlt}
use Rattle.bpf_model.specs.Encoding.{offset_bits}
use Rattle.bpf_bench.specs.Programs.{encoded}
use Rattle.bpf_bench.proofs.Spread.{start, grown, closed}
use Rattle.bpf_bench.proofs.code.spread.Goals as goal

pub loop-preserved : goal.loop-preserved
loop-preserved c =
    let low : ℕ = get_or c.to_le_bytes.result 0 0 in
    let high : ℕ = get_or c.to_le_bytes.result 1 0 in
    let exit : List ℕ = 0x95 ∷ 0 ∷ 0 ∷ 0 ∷ 0 ∷ 0 ∷ 0 ∷ 0 ∷ [] in
    let grew : length c.push_piece-in-loop.new.out.items ≡ length c.loop.code.items + 8 = ap length c.in_ok-push_piece-3.ensures.items ∙ length-append c.loop.code.items exit in
    record {
      len = omega (arith, grew);
      items = c.in_ok-push_piece-3.ensures.items
          ∙ grown (start low high) c.loop.code.items (c.loop.counter - 5) (c.loop.counter + 1 - 5) c.loop.invariant.items (omega arith);
    }

pub returns-clause-code : goal.returns-clause-code
returns-clause-code c =
    let last : Insn = BranchReg Jlt true 0 1 (pos 2 -ℤ pos c.args.units) in
    let n : ℕ = c.args.units - 5 in
    let branch : ℕ → ℕ → List ℕ = λ low high. 0xad ∷ 0x10 ∷ low ∷ high ∷ 0 ∷ 0 ∷ 0 ∷ 0 ∷ [] in
    let back : ℕ = offset_bits (pos 2 -ℤ pos c.args.units) in
    let far : c.to_le_bytes-2.result ≡ back % 256 ∷ back / 256 % 256 ∷ [] = c.to_le_bytes-2.ensures ∙ ap (λ (k : ℕ). k % 256 ∷ k / 256 % 256 ∷ []) (omega (arith, ints)) in
    let low : get_or c.to_le_bytes.result 0 0 ≡ n % 256 = ap (λ (bytes : List ℕ). get_or bytes 0 0) c.to_le_bytes.ensures in
    let high : get_or c.to_le_bytes.result 1 0 ≡ n / 256 % 256 = ap (λ (bytes : List ℕ). get_or bytes 1 0) c.to_le_bytes.ensures in
    let all : c.loop.counter - 5 ≡ n = omega arith in
    let before : c.loop.code.items ≡ start (n % 256) (n / 256 % 256) ++ encoded (replicate n Exit) =
    c.loop.invariant.items
    ∙ (ap (λ (k : ℕ). start k (get_or c.to_le_bytes.result 1 0) ++ encoded (replicate (c.loop.counter - 5) Exit)) low
    ∙ (ap (λ (k : ℕ). start (n % 256) k ++ encoded (replicate (c.loop.counter - 5) Exit)) high
    ∙ ap (λ (k : ℕ). start (n % 256) (n / 256 % 256) ++ encoded (replicate k Exit)) all)) in
    c.in_ok-push_piece-5.ensures.items
    ∙ (ap (λ (bytes : List ℕ). bytes ++ (0x95 ∷ 0 ∷ 0 ∷ 0 ∷ 0 ∷ 0 ∷ 0 ∷ 0 ∷ []))
    (c.in_ok-push_piece-4.ensures.items ∙ ap (λ (bytes : List ℕ). c.loop.code.items ++ branch (get_or bytes 0 0) (get_or bytes 1 0)) far)
    ∙ closed (start (n % 256) (n / 256 % 256)) c.loop.code.items n last before)
