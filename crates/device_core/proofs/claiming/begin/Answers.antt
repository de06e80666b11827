use Rattle.std.proofs.Common.{◌∙◌, ◌≤◌, ◌*◌, ℕ, ap, refl, subst, sym}
use Rattle.cp_base.specs.declared.limits.TheConstants.{MAX_HOSTS}
use Rattle.device_core.proofs.claiming.begin.Goals as goal

pub returns-clause-begins : goal.returns-clause-begins
returns-clause-begins c apart = record {
  submitted = refl;
  at_rest = refl;
  waiting = c.leave_out.ensures.left;
  queues = c.pick_in.ensures.picked apart;
  ordinals = refl;
  kept = ap (λ kept. kept.kept) c.add.ensures;
  claims = c.push_reserved.ensures.items;
  store = refl;
  slots = refl;
  sets = refl;
  entries = refl;
}

pub returns-clause-room : goal.returns-clause-room
returns-clause-room c depth commands room = record {
  waiting = subst (λ (n : ℕ). commands ≤ n) (sym c.leave_out.ensures.capacity) room.waiting;
  entries = room.entries;
  kept = ap (λ kept. kept.most) c.add.ensures ∙ room.kept;
  claims = subst (λ (n : ℕ). 2 * MAX_HOSTS ≤ n) (sym c.push_reserved.ensures.capacity) room.claims;
  queues = c.pick_in.ensures.queues depth room.queues;
  ordinals = room.ordinals;
}
