use Rattle.std.proofs.Common.{◌≤◌, ℕ, subst, sym}
use Rattle.device_core.proofs.keep.Keep.post.Goals as goal

pub returns-clause-room : goal.returns-clause-room
returns-clause-room c depth commands room = record {
  waiting = subst (λ (n : ℕ). commands ≤ n) (sym c.leave_out.ensures.capacity) room.waiting;
  entries = subst (λ (n : ℕ). commands ≤ n) (sym c.push_reserved.ensures.capacity) room.entries;
  kept = room.kept;
  claims = room.claims;
  queues = c.post_in.ensures.queues depth room.queues;
  ordinals = room.ordinals;
}
