use Rattle.std.proofs.Common.{◌≡◌, length}
use Rattle.std.specs.Vec.Iter.{into_iter_items, into_iter_len}
use Rattle.workers.proofs.Doing.{HasLeft}
use Rattle.workers.proofs.hosts.host_loop.Given as goal

-- the host has done the items that are not left
abbrev pub invariant-loop-item : goal.invariant-loop-item
invariant-loop-item g l = record {
  left : HasLeft l.device l.fn.pass l.pass l.fn.part.items (into_iter_items l.item-iterator);
  count : into_iter_len l.item-iterator ≡ length (into_iter_items l.item-iterator);
}
