use Rattle.std.proofs.Common.{◌≡◌, ◌++◌, drop, map}
use Rattle.history_model.specs.Plain.{Takes, plain_items}
use Rattle.script_plan.proofs.planning.push_takes.Given as goal

abbrev pub invariant-loop-cid : goal.invariant-loop-cid
invariant-loop-cid l =
    plain_items l.planned.items ++ map (λ cid. Takes cid) (drop l.cid-index l.cids) ≡ plain_items l.initial.planned.items ++ map (λ cid. Takes cid) l.cids
