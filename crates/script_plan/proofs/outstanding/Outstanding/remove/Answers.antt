use Rattle.std.proofs.Common.{◌≡◌, ℕ, ◌-◌, true, List, get_or, sym, ap, ◌∙◌, subst}
use Rattle.std.proofs.Math.ListN.{set}
use Rattle.script_cmds.specs.Queues.{queue_of_cid}
use Rattle.history_model.specs.Plan.{is_outstanding}
use Rattle.history_model.specs.Rules.{without}
use Rattle.script_plan.specs.Counted.{AreCounts}
use Rattle.script_plan.proofs.Counts.{counts_less, some_there}
use Rattle.script_plan.proofs.Queue.{any-swap, remove_key-without}
use Rattle.script_plan.proofs.outstanding.Outstanding.remove.Goals as goal

-- the identifier is that of an outstanding command
found : (c : goal.After-queue_of) → is_outstanding c.args.cid c.self.inside.cids.keys ≡ true
found c = sym (any-swap c.args.cid c.self.inside.cids.keys) ∙ sym c.shift_remove-found.ensures.found ∙ c.if-found.true

pub take_one-requires-clause-reached : goal.take_one-requires-clause-reached
take_one-requires-clause-reached c =
    rw c.queue_of.ensures (some_there c.self.inside.queues c.self.inside.cids.keys c.args.cid c.self.invariant.0 (found c) c.self.invariant.1).1

pub take_one-requires-clause-some : goal.take_one-requires-clause-some
take_one-requires-clause-some c =
    rw c.queue_of.ensures (some_there c.self.inside.queues c.self.inside.cids.keys c.args.cid c.self.invariant.0 (found c) c.self.invariant.1).0

pub invariant_of-self : goal.invariant_of-self
invariant_of-self c =
    let keys = c.self.inside.cids.keys in
    let counts : List ℕ = c.self.inside.queues in
    let cid : ℕ = c.args.cid in
    let there : is_outstanding cid keys ≡ true = sym (any-swap cid keys) ∙ sym c.shift_remove-found.ensures.found ∙ c.if-found.true in
    let kept : c.shift_remove-found.new.self.keys ≡ without cid keys = c.shift_remove-found.ensures.keys ∙ remove_key-without cid keys c.self.invariant.0 in
    let counted : c.take_one.new.self ≡ set counts (queue_of_cid cid) (get_or counts (queue_of_cid cid) 0 - 1) = rw c.queue_of.ensures at c.take_one.ensures in
    let less = counts_less counts keys cid c.self.invariant.0 there c.self.invariant.1 in (
      c.shift_remove-found.ensures.unique,
      subst (λ (numbers : List ℕ). AreCounts numbers c.shift_remove-found.new.self.keys) (sym counted)
          (subst (λ (cids : List ℕ). AreCounts (set counts (queue_of_cid cid) (get_or counts (queue_of_cid cid) 0 - 1)) cids) (sym kept) less),
    )

pub returns-then-found-clause-after : goal.returns-then-found-clause-after
returns-then-found-clause-after c =
    c.shift_remove-found.ensures.keys ∙ remove_key-without c.args.cid c.self.inside.cids.keys c.self.invariant.0 ∙ ap (without c.args.cid) c.self.view_is

pub returns-else-found-clause-after : goal.returns-else-found-clause-after
returns-else-found-clause-after c =
    c.shift_remove-found.ensures.keys ∙ remove_key-without c.args.cid c.self.inside.cids.keys c.self.invariant.0 ∙ ap (without c.args.cid) c.self.view_is
