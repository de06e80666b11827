-- What one namespace gives is what the range has.
use Rattle.std.proofs.Common.{◌+◌, sym, subst, arith}
use Rattle.extents.specs.Homes.{AreHere, home_of}
use Rattle.cp_base.specs.declared.region.SpaceId.{SpaceId}
use Rattle.extents.proofs.Regions.{bytes_here, here_from, ok_then, taken_here, then_ok}
use Rattle.extents.proofs.extents.Extents.take.Goals as goal

pub take_of-requires-clause-home : goal.take_of-requires-clause-home
take_of-requires-clause-home c =
    subst (λ (s : SpaceId). AreHere (home_of c.args.self.now s) c.start-from.result (c.start-from.result + c.len.result)) (sym c.space.ensures)
    (here_from c.args.self.now c.args.range.now c.start-from.result (c.start-from.result + c.len.result) c.start-from.ensures.value (omega (arith, c.start-from.ensures.value, c.len.ensures.value)) c.requires)

pub returns-clause-bytes : goal.returns-clause-bytes
returns-clause-bytes c =
    ok_then c.take_of.result _ _
    (λ b same. bytes_here c.args.self.now c.args.range.now c.space.result c.start-from.result (c.start-from.result + c.len.result) b.items c.space.ensures c.start-from.ensures.value
    (omega (arith, c.len.ensures.value)) (omega (arith, c.len.ensures.value, c.len.ensures.positive)) c.requires same)
    c.take_of.ensures.bytes

pub returns-clause-taken : goal.returns-clause-taken
returns-clause-taken c =
    then_ok c.take_of.result _ _
    (λ taken. taken_here c.args.self.now c.take_of.new.self c.args.range.now c.space.result c.start-from.result (c.start-from.result + c.len.result) c.space.ensures c.start-from.ensures.value
    (omega (arith, c.len.ensures.value)) (omega (arith, c.len.ensures.value, c.len.ensures.positive)) c.requires c.take_of.ensures.others taken)
    c.take_of.ensures.taken
