-- A program is complete where as many bytes are loaded as it has.
use Rattle.std.proofs.Common.{◌≡◌, ℕ, ◌+◌, List, Option, is_some, eqb, sym, ap, ◌∙◌, arith}
use Rattle.std.specs.List.{list_all}
use Rattle.program_slots.specs.Spread.{loaded_in}
use Rattle.program_slots.proofs.Spreading.{complete_spread}
use Rattle.program_slots.proofs.pieces.Pieces.is_complete.Goals as goal

pub returns : goal.returns
returns c =
    let all = complete_spread 0 c.self.inside.size c.self.inside.pieces.entries c.self.invariant.1 in
    let count : c.self.inside.loaded ≡ 0 + loaded_in c.self.inside.pieces.entries = omega (arith, c.self.invariant.2) in
    ap (λ (n : ℕ). eqb n c.self.inside.size) count ∙ sym all ∙ ap (λ (bytes : List (Option ℕ)). list_all (λ (byte : Option ℕ). is_some byte) bytes) c.self.view_is
