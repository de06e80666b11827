-- The byte is that of the extent around the place.
use Rattle.std.proofs.Common.{None, get_or, sym, ap, ◌∙◌}
use Rattle.extents.specs.Homes.{SpaceHome}
use Rattle.extents.proofs.Tiling.{byte_at}
use Rattle.extents.proofs.space.Space.byte.Goals as goal

pub returns : goal.returns
returns c =
    c.get.ensures ∙ sym (byte_at c.self.inside.tiles.entries c.in_ok-start.start c.args.at c.in_ok-start.bytes.now c.self.invariant.0 c.in_ok-start.ensures)
    ∙ ap (λ (v : SpaceHome). get_or v.bytes c.args.at None) c.self.view_is
