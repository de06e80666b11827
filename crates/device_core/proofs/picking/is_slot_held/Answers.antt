use Rattle.std.proofs.Common.{◌∙◌}
use Rattle.device_core.proofs.Pickable.{slot_kept}
use Rattle.device_core.proofs.picking.is_slot_held.Goals as goal

pub returns : goal.returns
returns c = c.holds_slot.ensures ∙ slot_kept c.args.kept.now.kept c.args.slot
