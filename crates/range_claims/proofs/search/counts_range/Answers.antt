-- The first segment that ends behind the range's first byte decides.
use Rattle.std.proofs.Common.{◌≡◌, ℕ, ◌<◌, ◌≤◌, length, get_or, sym, ap, ◌∙◌, ⊎_elim}
use Rattle.std.proofs.lemmas.Bool.{cases_lt}
use Rattle.std.proofs.lemmas.List.{get_or_default}
use Rattle.cp_base.specs.declared.region.SpaceId.TheVariants.{Nvm}
use Rattle.range_claims.specs.Counts.{any_between}
use Rattle.range_claims.specs.Places.{start_of}
use Rattle.range_claims.specs.declared.segments.Segment.{Segment}
use Rattle.range_claims.proofs.Betweens.{any_first, any_none}
use Rattle.range_claims.proofs.search.counts_range.Goals as goal

pub returns-clause-value : goal.returns-clause-value
returns-clause-value g c =
    let items = c.args.segments.now.segments in
    let i = c.first_behind-i.result in
    let from = c.start.result in
    let to = c.end-to.result in
    let nothing : Segment = record { space = Nvm 0; from = 0; to = 0; count = 0 } in
    let first = c.first_behind-i.ensures.value in
    let found = ⊎_elim (λ (below : i < length items).
    c.begins_before.ensures.value nothing below
    ∙ any_first from to i 0 items (get_or items i nothing) c.first_behind-i.ensures.fewest.ascend first below (get_or_default items i nothing (get_or items i nothing) below))
    (λ (past : length items ≤ i). c.begins_before.ensures.none past ∙ sym (any_none from to i items first past))
    (cases_lt i (length items)) in
    found
    ∙ ap (λ (place : ℕ). any_between items place to) c.start.ensures.value
    ∙ ap (λ (place : ℕ). any_between items (start_of c.args.range.now) place) c.end-to.ensures.value
