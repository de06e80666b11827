use Rattle.std.proofs.Common.{◌≡◌, ◌<◌, ◌≤◌, length, slice_get}
use Rattle.device_model.specs.Effect.{begun}
use Rattle.parts_bench.proofs.Lone.{loaded_from}
use Rattle.parts_bench.proofs.pieces.load_backwards.Given as goal

-- the bytes that are loaded so far
abbrev pub invariant-loading : goal.invariant-loading
invariant-loading l = record {
  within : l.left ≤ l.count;
  slots : 0 < length l.slots;
  loaded : begun (slice_get l.slots 0) l.size ≡ loaded_from l.left l.count l.size;
}

abbrev pub decreases-loading : goal.decreases-loading
decreases-loading l = l.left
