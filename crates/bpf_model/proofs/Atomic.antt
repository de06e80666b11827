-- What an atomic operation stores has the size of its access.
use Rattle.std.specs.Prelude.{ℕ, ◌*◌, ◌%◌, ◌^◌, ◌<◌, ◌==◌}
use Rattle.std.proofs.Common.{arith}
use Rattle.std.proofs.lemmas.Nat.{pow_pos, mod_below, and_le_l, or_lt, xor_lt}
use Rattle.bpf_isa.specs.Size.{byte_count}
use Rattle.bpf_isa.specs.declared.operand.Size.{Size}
use Rattle.bpf_isa.specs.declared.operation.AtomicOp.{AtomicOp}
use Rattle.bpf_isa.specs.declared.operation.AtomicOp.TheVariants as atomic
use Rattle.bpf_model.specs.Value.{combined, stored_by}
use Rattle.bpf_model.proofs.Value.{cond_below}

combined_below : (op : AtomicOp) (width old source r0 : ℕ) → old < 2 ^ width → source < 2 ^ width → combined op width old source r0 < 2 ^ width
combined_below atomic.Add width old source r0 h k = mod_below _ _ (pow_pos width)
combined_below atomic.Or width old source r0 h k = or_lt width old source h k
combined_below atomic.And width old source r0 h k = omega (arith, and_le_l old source)
combined_below atomic.Xor width old source r0 h k = xor_lt width old source h k
combined_below atomic.Xchg width old source r0 h k = k
combined_below atomic.Cmpxchg width old source r0 h k = cond_below (old == r0) source old _ k h

pub store_below : (op : AtomicOp) (size : Size) (old source r0 : ℕ) → old < 2 ^ (8 * byte_count size) → stored_by op size old source r0 < 2 ^ (8 * byte_count size)
store_below op size old source r0 h =
    let width : ℕ = 8 * byte_count size in
    combined_below op width old (source % 2 ^ width) (r0 % 2 ^ width) h (mod_below source _ (pow_pos width))
