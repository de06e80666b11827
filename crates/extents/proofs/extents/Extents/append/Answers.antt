-- What one namespace appends is what the range has.
use Rattle.std.proofs.Common.{◌≡◌, ◌+◌, ◌-◌, length, drop, ap, ◌∙◌, arith}
use Rattle.std.proofs.lemmas.Option.{MatchOption-at_some}
use Rattle.cp_base.specs.Pieces.{piece}
use Rattle.extents.specs.Homes.{AreBytesAt, SpaceHome, home_of}
use Rattle.extents.proofs.Regions.{appended_to, bytes_here, text_of}
use Rattle.extents.proofs.extents.Extents.append.Goals as goal

bytes : (c : goal.After-append) → AreBytesAt c.args.self.now c.args.range.now (drop (length c.args.out.now.items) c.append.new.out.items)
bytes c =
    let read : c.unwrap-space.result.now ≡ home_of c.args.self.now c.space.result = MatchOption-at_some _ _ _ c.unwrap-space.ensures c.space-2.ensures in
    bytes_here c.args.self.now c.args.range.now c.space.result c.start-from.result (c.start-from.result + c.len.result) (drop (length c.args.out.now.items) c.append.new.out.items)
    c.space.ensures c.start-from.ensures.value (omega (arith, c.len.ensures.value)) (omega (arith, c.len.ensures.value, c.len.ensures.positive)) c.requires.home
    (text_of c.args.out.now.items c.append.new.out.items _ c.append.ensures.bytes
    ∙ ap (λ (h : SpaceHome). piece h.bytes c.start-from.result (c.start-from.result + c.len.result - c.start-from.result)) read)

pub returns-clause-bytes : goal.returns-clause-bytes
returns-clause-bytes c = bytes c

pub returns-clause-appended : goal.returns-clause-appended
returns-clause-appended c = record {
  items = appended_to c.args.out.now.items c.append.new.out.items _ c.append.ensures.bytes;
  spare = omega (arith, c.append.ensures.spare, (bytes c).length, c.len.ensures.value);
}
