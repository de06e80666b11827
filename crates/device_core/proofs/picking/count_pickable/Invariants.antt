use Rattle.std.proofs.Common.{◌≡◌, ◌+◌, ◌≤◌, drop, length}
use Rattle.std.specs.Prelude.{filter}
use Rattle.core_model.specs.Asked.{asked_at}
use Rattle.core_model.specs.declared.places.WaitingSubmit.{WaitingSubmit}
use Rattle.core_model.specs.Picking.{may_pick_asked}
use Rattle.device_core.specs.Keep.{parts_of}
use Rattle.device_core.specs.Recorded.{trail_of}
use Rattle.device_core.proofs.picking.count_pickable.Given as goal

abbrev pub invariant-loop-x : goal.invariant-loop-x
invariant-loop-x l =
    let P = (λ (x : WaitingSubmit). may_pick_asked l.config (parts_of (length l.trail) l.keep) (asked_at (trail_of l.trail) x.sent)) in
    (l.count + length (filter P (drop l.x-index l.keep.waiting.items)) ≡ length (filter P l.keep.waiting.items)) × (l.count ≤ l.x-index)
