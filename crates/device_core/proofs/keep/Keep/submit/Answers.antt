use Rattle.std.proofs.Common.{◌≤◌, ℕ, length-set, subst, sym}
use Rattle.device_core.proofs.keep.Keep.submit.Goals as goal

pub returns-clause-room : goal.returns-clause-room
returns-clause-room c depth commands room = record {
  waiting = subst (λ (n : ℕ). commands ≤ n) (sym c.push_reserved.ensures.capacity) room.waiting;
  entries = room.entries;
  kept = room.kept;
  claims = room.claims;
  queues = c.send_to.ensures.queues depth room.queues;
  ordinals = simp length-set room.ordinals;
}
