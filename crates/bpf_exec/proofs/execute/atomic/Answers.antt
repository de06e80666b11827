use Rattle.std.proofs.Common.{◌≡◌, ℕ, ◌+◌, ◌%◌, ◌^◌, ℤ, sym, ap, ◌∙◌, arith, to_z, of_z, w16}
use Rattle.std.proofs.lemmas.Int.{ints}
use Rattle.bpf_isa.specs.declared.insn.Insn.{Insn}
use Rattle.bpf_model.specs.Machine.{Machine, register, with_register}
use Rattle.bpf_model.specs.Step.{atomic_access, effect}
use Rattle.bpf_model.specs.Value.{unsigned}
use Rattle.bpf_exec.specs.Seen.{machine_of}
use Rattle.bpf_exec.proofs.execute.atomic.Goals as goal

pub returns-in-AtomicFetch-clause-effect : goal.returns-in-AtomicFetch-clause-effect
returns-in-AtomicFetch-clause-effect c =
    let m : Machine = machine_of c.args.processor.now c.args.view.now in
    let i = c.in-AtomicFetch in
    let kept : to_z w16 (of_z w16 i.offset) ≡ i.offset = omega (arith, ints) in
    let at : (register m i.dst + unsigned 64 i.offset) % 2 ^ 64 ≡ c.address-in-AtomicFetch.result =
    ap (λ (z : ℤ). (register m i.dst + unsigned 64 z) % 2 ^ 64) (sym kept) ∙ sym c.address-in-AtomicFetch.ensures in
    ap (λ (x : Insn). effect x m) i.is
    ∙ (ap (λ (n : ℕ). atomic_access m i.op n i.size (register m i.src) (λ old m'. with_register m' i.src old)) at ∙ c.fetch.ensures.effect)
