-- A number has the ranges of the place before it.
use Rattle.std.proofs.Common.{◌-◌, ◌≤◌, ◌<◌, None, sym, ◌∙◌, arith, length, inl, inr}
use Rattle.std.proofs.lemmas.List.{get_or_default}
use Rattle.range_sets.proofs.Numbering.{no_ranges, ranges_at}
use Rattle.range_sets.proofs.sets.ranges_of.Goals as goal
use Rattle.range_sets.proofs.sets.ranges_of.Goals.{then-id-eq0-via-then-id-eq0, then-id-eq0-via-else-id-eq0+then-id-places}

pub returns-then-id-eq0 : goal.returns-then-id-eq0
returns-then-id-eq0 c =
    elim c.then-id-eq0.branch [
      | then-id-eq0-via-then-id-eq0 w ↦ sym (no_ranges c.args.id c.args.places.now (inl w.if-id-eq0.true))
      | then-id-eq0-via-else-id-eq0+then-id-places w ↦ sym (no_ranges c.args.id c.args.places.now (inr w.if-id-places.true))
    ]

pub returns : goal.returns
returns c =
    let low : 1 ≤ c.args.id = omega arith in
    let within : c.args.id - 1 < length c.args.places.now = omega arith in
    c.as_ref.ensures.value ∙ (c.index-places-id.is ∙ get_or_default c.args.places.now (c.args.id - 1) _ None within)
    ∙ sym (ranges_at 1 (c.args.id - 1) c.args.id c.args.places.now (omega arith))
