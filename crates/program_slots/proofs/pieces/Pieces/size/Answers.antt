-- The pieces leave the program as long as it is.
use Rattle.std.proofs.Common.{◌≡◌, length, ap, ◌∙◌, arith}
use Rattle.program_slots.specs.Spread.{spread}
use Rattle.program_slots.proofs.Spreading.{length-spread}
use Rattle.program_slots.proofs.pieces.Pieces.size.Goals as goal

pub returns-clause-value : goal.returns-clause-value
returns-clause-value c =
    let long = length-spread 0 c.self.inside.size c.self.inside.pieces.entries c.self.invariant.1 in
    let size : c.self.inside.size ≡ length (spread 0 c.self.inside.size c.self.inside.pieces.entries) = omega arith in
    size ∙ ap length c.self.view_is
