-- What one namespace gives is what the range has.
use Rattle.std.proofs.Common.{◌≡◌, ◌+◌, ◌-◌, ap, ◌∙◌, arith}
use Rattle.std.proofs.lemmas.Option.{MatchOption-at_some}
use Rattle.cp_base.specs.Pieces.{piece}
use Rattle.extents.specs.Homes.{SpaceHome, home_of}
use Rattle.extents.proofs.Regions.{bytes_here, ok_then}
use Rattle.extents.proofs.extents.Extents.copy.Goals as goal

pub returns : goal.returns
returns c =
    let read : c.unwrap-space.result.now ≡ home_of c.args.self.now c.space.result = MatchOption-at_some _ _ _ c.unwrap-space.ensures c.space-2.ensures in
    ok_then c.copy.result _ _
    (λ b same. bytes_here c.args.self.now c.args.range.now c.space.result c.start-from.result (c.start-from.result + c.len.result) b.items c.space.ensures c.start-from.ensures.value
    (omega (arith, c.len.ensures.value)) (omega (arith, c.len.ensures.value, c.len.ensures.positive)) c.requires
    (same ∙ ap (λ (h : SpaceHome). piece h.bytes c.start-from.result (c.start-from.result + c.len.result - c.start-from.result)) read))
    c.copy.ensures
