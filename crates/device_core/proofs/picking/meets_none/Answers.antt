use Rattle.std.proofs.Common.{◌∙◌}
use Rattle.device_core.proofs.Pickable.{clear_kept}
use Rattle.device_core.proofs.picking.meets_none.Goals as goal

pub returns : goal.returns
returns c = c.free.ensures ∙ clear_kept c.args.kept.now.kept c.args.touched.now
