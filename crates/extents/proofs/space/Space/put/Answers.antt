-- The hole is one of the extents.
use Rattle.std.proofs.Common.{length, ap, ◌∙◌, arith}
use Rattle.extents.specs.Homes.{SpaceHome, has_hole}
use Rattle.extents.proofs.Replacing.{hole_has}
use Rattle.extents.proofs.space.Space.put.Goals as goal

pub put_back-requires-clause-hole : goal.put_back-requires-clause-hole
put_back-requires-clause-hole c =
    hole_has c.self.inside.tiles.entries c.args.from (length c.args.bytes.items) c.self.invariant.0
    (ap (λ (v : SpaceHome). has_hole v.holes c.args.from (length c.args.bytes.items)) c.self.view_is ∙ c.requires)

pub invariant_of-self : goal.invariant_of-self
invariant_of-self c = (c.put_back.ensures.tiles, omega (arith, c.put_back.ensures.size, c.self.invariant.1))
