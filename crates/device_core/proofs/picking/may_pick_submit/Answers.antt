use Rattle.std.proofs.Common.{◌∙◌, Option, ap, length}
use Rattle.core_model.specs.Asked.{Asked}
use Rattle.core_model.specs.Picking.{may_pick_asked}
use Rattle.device_core.specs.Keep.{parts_of}
use Rattle.device_core.proofs.picking.may_pick_submit.Goals as goal

pub returns-in-Some : goal.returns-in-Some
returns-in-Some c =
    let n = length c.args.trail.now in
    c.may_pick.ensures n ∙ ap (λ (o : Option Asked). may_pick_asked c.args.config.now (parts_of n c.args.keep.now) o) c.in-Some.ensures
