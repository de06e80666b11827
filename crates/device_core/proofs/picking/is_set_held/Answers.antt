use Rattle.std.proofs.Common.{◌∙◌}
use Rattle.device_core.proofs.Pickable.{set_kept}
use Rattle.device_core.proofs.picking.is_set_held.Goals as goal

pub returns : goal.returns
returns c = c.holds_set.ensures ∙ set_kept c.args.kept.now.kept c.args.set
