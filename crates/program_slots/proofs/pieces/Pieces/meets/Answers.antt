-- The last piece that begins below the end of the part tells.
use Rattle.std.proofs.Common.{◌≡◌, ℕ, ◌+◌, List, Option, is_some, ltb, length, sym, ap, ◌∙◌, arith}
use Rattle.std.specs.List.{list_any}
use Rattle.std.proofs.lemmas.Bool.{le-ltb}
use Rattle.cp_base.specs.Buffer.{Buffer}
use Rattle.cp_base.specs.Pieces.{piece}
use Rattle.program_slots.specs.Spread.{spread}
use Rattle.program_slots.proofs.Spreading.{entries_below_place, last_end, last_end-append, last_end_fits, length-spread, part_by_last}
use Rattle.program_slots.proofs.pieces.Pieces.meets.Goals as goal

pub overflow_add-at : goal.overflow_add-at
overflow_add-at c =
    let long = length-spread 0 c.self.inside.size c.self.inside.pieces.entries c.self.invariant.1 in
    let same : length (spread 0 c.self.inside.size c.self.inside.pieces.entries) ≡ length c.args.self.now = ap length c.self.view_is in
    omega (arith, c.self.invariant.0, c.requires.inside)

pub overflow_add-result : goal.overflow_add-result
overflow_add-result c =
    let es = c.self.inside.pieces.entries in
    let found = sym (entries_below_place (c.args.at + c.args.len) es) ∙ sym (c.range.ensures.between tt) ∙ c.in-Some.ensures.steps in
    let last = ap (last_end 0) found ∙ last_end-append 0 c.next_back.new.self (c.in-Some.start.now, c.in-Some.bytes.now) in
    let fits = last_end_fits (λ (e : ℕ × Buffer). ltb e.0 (c.args.at + c.args.len)) 0 0 c.self.inside.size es c.self.invariant.1 (omega arith) in
    omega (arith, c.self.invariant.0, c.len.ensures)

pub returns-in-Some : goal.returns-in-Some
returns-in-Some c =
    let es = c.self.inside.pieces.entries in
    let found = sym (entries_below_place (c.args.at + c.args.len) es) ∙ sym (c.range.ensures.between tt) ∙ c.in-Some.ensures.steps in
    let last = ap (last_end 0) found ∙ last_end-append 0 c.next_back.new.self (c.in-Some.start.now, c.in-Some.bytes.now) in
    ap (λ (n : ℕ). ltb c.args.at (c.in-Some.start.now + n)) c.len.ensures ∙ ap (λ (n : ℕ). ltb c.args.at n) (sym last)
    ∙ part_by_last c.self.inside.size c.args.at c.args.len es c.self.invariant.1 c.requires.some
    ∙ ap (λ (bytes : List (Option ℕ)). list_any (λ (byte : Option ℕ). is_some byte) (piece bytes c.args.at c.args.len)) c.self.view_is

pub returns-in-None : goal.returns-in-None
returns-in-None c =
    let es = c.self.inside.pieces.entries in
    let found = sym (entries_below_place (c.args.at + c.args.len) es) ∙ sym (c.range.ensures.between tt) ∙ c.in-None.ensures.steps.0 in
    sym (le-ltb c.args.at 0 (omega arith)) ∙ ap (λ (n : ℕ). ltb c.args.at n) (sym (ap (last_end 0) found))
    ∙ part_by_last c.self.inside.size c.args.at c.args.len es c.self.invariant.1 c.requires.some
    ∙ ap (λ (bytes : List (Option ℕ)). list_any (λ (byte : Option ℕ). is_some byte) (piece bytes c.args.at c.args.len)) c.self.view_is
