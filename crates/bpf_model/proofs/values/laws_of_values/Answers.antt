use Rattle.bpf_model.proofs.Atomic.{store_below}
use Rattle.bpf_model.proofs.Remainder.{remainder_32, remainder_64}
use Rattle.bpf_model.proofs.Swap.{swap_below, swapped_twice}
use Rattle.bpf_model.proofs.Value.{shift_32, shift_64, value_below}
use Rattle.bpf_model.proofs.values.laws_of_values.Goals as goal

pub returns : goal.returns
returns c = record {
  value_fits = value_below;
  swap_fits = swap_below;
  store_fits = store_below;
  remainder_64 = remainder_64;
  remainder_32 = remainder_32;
  shift_64 = shift_64;
  shift_32 = shift_32;
  swapped_twice = swapped_twice;
}
