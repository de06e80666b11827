use Rattle.std.proofs.Common.{◌*◌, ◌-◌, length, vec_len}
use Rattle.bpf_decode.proofs.Filling.{Filled}
use Rattle.bpf_decode.proofs.decoder.decode.Given as goal

abbrev pub invariant-loop-bytes : goal.invariant-loop-bytes
invariant-loop-bytes l = Filled l.bytes l.slots.items

abbrev pub decreases-loop-bytes : goal.decreases-loop-bytes
decreases-loop-bytes l = length l.initial.bytes - 8 * vec_len l.slots
