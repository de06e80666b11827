use Rattle.std.proofs.Common.{◌≡◌, ℕ, ◌+◌, ◌<◌, List, [], ◌∷◌, ◌++◌, get_or, length, sym, ap, ◌∙◌, subst}
use Rattle.std.proofs.Math.ListN.{set}
use Rattle.script_cmds.specs.Queues.{queue_of_cid}
use Rattle.history_model.specs.Plan.{is_outstanding}
use Rattle.script_plan.specs.Counted.{AreCounts}
use Rattle.script_plan.proofs.Counts.{counts_more, counts_same}
use Rattle.script_plan.proofs.Queue.{any-swap}
use Rattle.script_plan.proofs.outstanding.Outstanding.add.Goals as goal

pub invariant_of-self-2 : goal.invariant_of-self-2
invariant_of-self-2 c =
    let keys = c.self.inside.cids.keys in
    let counts : List ℕ = c.reach.new.self in
    let cid : ℕ = c.args.cid in
    let absent = any-swap c.args.cid c.self.inside.cids.keys ∙ ap (is_outstanding c.args.cid) c.self.view_is ∙ c.requires.free in
    let kept = rw absent at c.in_ok-insert.ensures.keys in
    let there : queue_of_cid cid < length counts = rw c.queue_of-queue.ensures at c.in_ok-reach.ensures.reached in
    let counted : c.add_one.new.self ≡ set counts (queue_of_cid cid) (get_or counts (queue_of_cid cid) 0 + 1) = rw c.queue_of-queue.ensures at c.add_one.ensures in
    let more = counts_more counts keys cid there (counts_same c.self.inside.queues counts keys c.reach.ensures.same c.self.invariant.1) in (
      c.in_ok-insert.ensures.unique,
      subst (λ (numbers : List ℕ). AreCounts numbers c.insert.new.self.keys) (sym counted)
          (subst (λ (cids : List ℕ). AreCounts (set counts (queue_of_cid cid) (get_or counts (queue_of_cid cid) 0 + 1)) cids) (sym kept) more),
    )

pub returns-clause-ok : goal.returns-clause-ok
returns-clause-ok c =
    let absent = any-swap c.args.cid c.self.inside.cids.keys ∙ ap (is_outstanding c.args.cid) c.self.view_is ∙ c.requires.free in
    let kept = rw absent at c.in_ok-insert.ensures.keys in
    cc (kept, c.self.view_is)
