use Rattle.std.proofs.Common.{◌<◌, length, slice_get, ap}
use Rattle.std.specs.List.{slice_set}
use Rattle.history_model.specs.Plain.{PlainPart}
use Rattle.device_core.specs.Gives.{world_in}
use Rattle.schedule_model.specs.Schedule.{action_of_host}
use Rattle.step_driver.specs.Turns.{FindsPlace}
use Rattle.step_driver.proofs.Acting.{acted-at, each-action-at, here}
use Rattle.step_driver.proofs.turns.act_at.Goals as goal

pub act-requires-clause-place : goal.act-requires-clause-place
act-requires-clause-place c =
    let d = c.args.running.now in
    let parts = c.args.parts.now.items in
    let part = c.index_mut.result.now in
    each-action-at (FindsPlace d) (world_in d) parts c.args.index part c.requires.may.sends
    (here (λ (p : PlainPart). 0 < length (action_of_host (world_in d) p.host p.items)) parts c.args.index part c.requires.ready c.index_mut.ensures.value)

pub returns : goal.returns
returns c =
    let d = c.args.running.now in
    let parts = c.args.parts.now.items in
    let part = c.index_mut.result.now in
    acted-at d c.act.new.running parts (slice_set parts c.args.index c.act.new.self) c.args.index part c.requires.may.differ
    (here (λ (p : PlainPart). 0 < length (action_of_host (world_in d) p.host p.items)) parts c.args.index part c.requires.ready c.index_mut.ensures.value)
    c.act.ensures.acted (ap (λ (p : PlainPart). slice_set parts c.args.index p) c.act.ensures.left)
